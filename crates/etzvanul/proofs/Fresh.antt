-- The image of the fresh field, by computation, and what the call for it comes to in a buffer without room and in one with it. Assumes nothing.
use Rattle.std.specs.Prelude.{◌≡◌, refl, true, false, List, [], ◌∷◌, ◌++◌, ℕ, ltb, ◌<◌, ◌≤◌, length, replicate}
use Rattle.std.proofs.Common.{arith, lt-ltb, le-ltb}
use Rattle.terms.specs.Bytes.{over}
use Rattle.terms.specs.Counted.{gather_from}
use Rattle.terms.specs.Numbers.{ACCEPTED, ROOM}
use Rattle.table.specs.Table.{fresh_table}
use Rattle.image.specs.Writer.{records_of, bytes_of_all, image, put_answer, put_length, put_bytes}
use Rattle.etzvanul.specs.CallLaws.{start_not, start_done}
use Rattle.etzvanul.specs.HostCall.{number_of_call, start_number, start_bytes}

-- the record of a node's roots, all empty
abbrev roots_bytes : ℕ → List ℕ
roots_bytes p = 9 ∷ 0 ∷ 2 ∷ 1 ∷ p ∷ replicate 8 255

-- the event count, the roots of each node, and the end
abbrev pub fresh_bytes : List ℕ
fresh_bytes =
    4 ∷ 0 ∷ 0 ∷ 1 ∷ 0 ∷ 0 ∷ 0 ∷ 0
    ∷ roots_bytes 0 ++ roots_bytes 1 ++ roots_bytes 2 ++ roots_bytes 3 ++ roots_bytes 4 ++ roots_bytes 5 ++ roots_bytes 6 ++ roots_bytes 7
    ++ 0 ∷ 0 ∷ 255 ∷ 1 ∷ []

pub fresh_image : image fresh_table ≡ fresh_bytes
unfolding image records_of bytes_of_all gather_from
fresh_image = refl

fresh_size : length (image fresh_table) ≡ 116
fresh_size = rw fresh_image

module _ (out : List ℕ) where
  pub fresh_short : length out < 116 → (ROOM ≡ start_number out) × (out ≡ start_bytes out)
  unfolding put_answer put_bytes
  fresh_short lt =
      let short : ltb (length out) (length (image fresh_table)) ≡ true = rw fresh_size (lt-ltb (length out) 116 lt) in
      start_not out ROOM out (rw short) (rw short) (λ e. absurd (omega arith))

  pub fresh_room : 116 ≤ length out → (number_of_call ACCEPTED 0 116 ≡ start_number out) × (over fresh_bytes out ≡ start_bytes out)
  unfolding put_answer put_length put_bytes
  fresh_room le =
      let room : ltb (length out) (length (image fresh_table)) ≡ false = rw fresh_size (le-ltb (length out) 116 le) in
      start_done out ACCEPTED 116 (over fresh_bytes out) (rw room) (rw (room, fresh_size)) (rw (room, fresh_image)) refl
