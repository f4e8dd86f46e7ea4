-- A number of one byte is written as that byte, and the roots of a node as the eight that they are. Assumes nothing.
use Rattle.std.specs.Prelude.{Bool, true, false, ◌≡◌, [], ◌∷◌, ◌++◌, ℕ, ◌%◌, ◌<◌, length, get_or}
use Rattle.std.proofs.Common.{sym, refl}
use Rattle.std.specs.Int.{from_bool}
use Rattle.std.proofs.Math.Nat.{mod-eq_of_lt}
use Rattle.terms.specs.Counted.{one, list_from}
use Rattle.heap.specs.declared.Roots.{Roots}
use Rattle.image.proofs.ContentLaws.{list_back}
use Rattle.image.specs.Stored.{node_record}
use Rattle.image.specs.Writer.{bytes_of_all}

pub byte : (a : ℕ) → a < 256 → a % 256 ≡ a
byte a small = mod-eq_of_lt small

pub node_bytes : (p : ℕ) (x : Roots) → p < 256 → length x.at ≡ 8 → ((k : ℕ) → get_or x.at k 0 < 256)
    → bytes_of_all (node_record p x) ≡ (9 ∷ 0 ∷ 2 ∷ 1 ∷ []) ++ p ∷ [] ++ x.at
unfolding bytes_of_all list_from
node_bytes p x low len small =
    let r : (k : ℕ) → get_or x.at k 0 % 256 ≡ get_or x.at k 0 = λ k. byte (get_or x.at k 0) (small k) in
    rw (byte p low, r 0, r 1, r 2, r 3, r 4, r 5, r 6, r 7) (rw (sym (list_back 0 8 x.at len)) refl)

-- presence as a byte
pub presence : (b : Bool) → one b % 256 ≡ from_bool b
presence true = refl
presence false = refl
