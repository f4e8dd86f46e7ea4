-- What a read and a write leave as it was (document 01, "Saved image"): a refused read hands back the fresh state, and bytes past the image stay;
-- refused, the image has no bytes, so all of them stay. Assumes nothing.
use Rattle.std.specs.Prelude.{◌≡◌, refl, Bool, true, false, List, [], ◌∷◌, ℕ, zero, suc, length, drop, if◌then◌else◌}
use Rattle.std.proofs.Math.Seq.{drop-append_seam}
use Rattle.terms.specs.Bytes.{over}
use Rattle.terms.specs.Choose.{Refusal, answered}
use Rattle.terms.specs.Numbers.{ACCEPTED}
use Rattle.table.specs.declared.Table.{Table}
use Rattle.table.specs.Table.{fresh_table}
use Rattle.image.specs.declared.Turn.{Turn}
use Rattle.image.specs.Order.{first_turn}
use Rattle.image.specs.Reader.{Taken, stop, finished, onward, take_record, then_read, read_from, read}
use Rattle.image.specs.Writer.{image, put_refusals, put_length, put_bytes, write_refusals, write_length, write_bytes}

-- whatever may refuse
past : (w out : List ℕ) (rs : List Refusal)
    → drop (answered (λ number. 0) rs (length w)) (answered (λ number. out) rs (over w out)) ≡ drop (answered (λ number. 0) rs (length w)) out
past w out [] = drop-append_seam w (drop (length w) out)
past w out (r ∷ rs) = test r.applies (past w out rs)
  where
    test : (b : Bool)
        → drop (answered (λ number. 0) rs (length w)) (answered (λ number. out) rs (over w out)) ≡ drop (answered (λ number. 0) rs (length w)) out
        → drop (if b then 0 else answered (λ number. 0) rs (length w)) (if b then out else answered (λ number. out) rs (over w out))
        ≡ drop (if b then 0 else answered (λ number. 0) rs (length w)) out
    test true rest = refl
    test false rest = rest

pub put_stays : (t : Table) (out : List ℕ) → drop (put_length t out) (put_bytes t out) ≡ drop (put_length t out) out
unfolding put_length put_bytes
put_stays t out = past (image t) out (put_refusals t out)

pub write_stays : (t : Table) (out : List ℕ) → drop (write_length t out) (write_bytes t out) ≡ drop (write_length t out) out
unfolding write_length write_bytes
write_stays t out = past (image t) out (write_refusals t out)

-- from any record on
fresh_from : (n : ℕ) (now : Turn) (t : Table) (l : List ℕ) → ((read_from n now t l).answer ≡ ACCEPTED → ⊥) → (read_from n now t l).table ≡ fresh_table
unfolding read_from
fresh_from zero now t l refused = refl
fresh_from (suc n) now t l refused = go (take_record now t l) (λ now' t' l'. fresh_from n now' t' l') refused
  where
    go : (x : Taken)
        → ((now' : Turn) (t' : Table) (l' : List ℕ) → ((read_from n now' t' l').answer ≡ ACCEPTED → ⊥) → (read_from n now' t' l').table ≡ fresh_table)
        → ((then_read x (λ now' t' rest. read_from n now' t' rest)).answer ≡ ACCEPTED → ⊥)
        → (then_read x (λ now' t' rest. read_from n now' t' rest)).table ≡ fresh_table
    go (stop number) more refused = refl
    go (finished u) more refused = absurd (refused refl)
    go (onward now' t' rest) more refused = more now' t' rest refused

pub read_fresh : (l : List ℕ) → ((read l).answer ≡ ACCEPTED → ⊥) → (read l).table ≡ fresh_table
unfolding read
read_fresh l = fresh_from (length l) first_turn fresh_table l
