-- Changes that lie in the image one behind the other: what each puts into the new image, where it leaves off, and how long the image becomes.
-- Assumes nothing.
use Rattle.std.specs.Prelude.{◌≡◌, refl, Bool, true, false, List, [], ◌∷◌, ◌++◌, ℕ, ◌+◌, ◌-◌, ◌≤◌, ◌*◌, length, take, drop, if◌then◌else◌}
use Rattle.std.proofs.Common.{sym, ap, ◌∙◌, append_assoc, zero-add, arith, length-append, length-drop, length-take-le}
use Rattle.entry.specs.declared.Entry.{Entry}
use Rattle.entry.specs.declared.Entry.TheVariants as e
use Rattle.table.specs.declared.Message.{Message}
use Rattle.table.specs.declared.Message.TheVariants as m
use Rattle.image.specs.declared.Held.{Held}
use Rattle.image.specs.declared.Held.TheVariants as h
use Rattle.image.specs.Find.{held_records, entry_size, message_size, size_of}
use Rattle.image.proofs.RecordBytesLaws.{size_records}
use Rattle.image.specs.Stored.{Stored}
use Rattle.image.specs.Writer.{bytes_of_all}
use Rattle.plan.specs.Change.{Change, Same, To, Plan}
use Rattle.etzvanul.specs.declared.Cursor.{Cursor}
use Rattle.plan.specs.Plan.{changes_of}
use Rattle.etzvanul.specs.Spliced.{spliced, new_image}

-- ---- in order

-- from a place on, within an image of n bytes
abbrev pub Orderly : ℕ → List Change → ℕ → Type 0
Orderly from [] n = from ≤ n
Orderly from (Same ∷ cs) n = Orderly from cs n
Orderly from (To at after a b held ∷ cs) n = (from ≤ at) × (at ≤ after) × Orderly after cs n

-- where the next one may begin
abbrev pub passed : ℕ → Change → ℕ
passed from Same = from
passed from (To at after a b held) = after

pub orderly_within : (from : ℕ) (cs : List Change) (n : ℕ) → Orderly from cs n → from ≤ n
orderly_within from [] n o = o
orderly_within from (Same ∷ cs) n o = orderly_within from cs n o
orderly_within from (To at after a b held ∷ cs) n o = omega (arith, o.0, o.1, orderly_within after cs n o.2)

module _ (from : ℕ) (c : Change) (cs : List Change) (n : ℕ) (o : Orderly from (c ∷ cs) n) where
  -- the first by itself, and those behind it
  pub orderly_first : Orderly from (c ∷ []) n
  orderly_first = go c o
    where
      go : (x : Change) → Orderly from (x ∷ cs) n → Orderly from (x ∷ []) n
      go Same all = orderly_within from cs n all
      go (To at after a b held) all = (all.0, all.1, orderly_within after cs n all.2)

  pub orderly_rest : Orderly (passed from c) cs n
  orderly_rest = go c o
    where
      go : (x : Change) → Orderly from (x ∷ cs) n → Orderly (passed from x) cs n
      go Same all = all
      go (To at after a b held) all = all.2

-- ---- the new image, change by change

-- the old image up to a record, then the one that is to stand there
abbrev pub put_to : ℕ → ℕ → ℕ → ℕ → Held → List ℕ → List ℕ
put_to from at a b held l = take (at - from) (drop from l) ++ bytes_of_all (held_records a b held)

abbrev pub put : ℕ → Change → List ℕ → List ℕ
put from Same l = []
put from (To at after a b held) l = put_to from at a b held l

-- a change is made: how far the copying is, and what it put
pub record Moved (l : List ℕ) (c : Cursor) (change : Change) (out : List ℕ) (next : Cursor) (out' : List ℕ) : Type 0 where
  pub place : next.from ≡ passed c.from change
  pub stored : Stored out c.to (put c.from change l) out' next.to

pub spliced_next : (from : ℕ) (c : Change) (cs : List Change) (l : List ℕ) → spliced from (c ∷ cs) l ≡ put from c l ++ spliced (passed from c) cs l
unfolding spliced
spliced_next from Same cs l = refl
spliced_next from (To at after a b held) cs l =
    sym (append_assoc (take (at - from) (drop from l)) (bytes_of_all (held_records a b held)) (spliced after cs l))

pub put_to-length : (from at a b : ℕ) (held : Held) (l : List ℕ) → from ≤ at → at ≤ length l
    → length (put_to from at a b held l) ≡ (at - from) + length (bytes_of_all (held_records a b held))
put_to-length from at a b held l le within =
    let front = length-take-le (at - from) (drop from l) (omega (arith, length-drop from l)) in
    omega (arith, front, length-append (take (at - from) (drop from l)) (bytes_of_all (held_records a b held)))

-- ---- how long it becomes

-- a change takes no more than there is
abbrev pub Cuts : ℕ → Change → Type 0
Cuts n Same = Unit
Cuts n (To at after a b held) = (at ≤ after) × (after - at ≤ n)

abbrev pub length_with : ℕ → Change → ℕ
length_with n Same = n
length_with n (To at after a b held) = n + size_of held - (after - at)

abbrev pub length_after : ℕ → List Change → ℕ
length_after n [] = n
length_after n (c ∷ cs) = length_after (length_with n c) cs

-- the changes besides the event count
abbrev pub others : Plan → List Change
others plan = plan.object ∷ plan.roots ∷ plan.entry ∷ plan.message ∷ []

-- x bytes stand already and the old image is passed up to a place
pub spliced-length : (from x : ℕ) (cs : List Change) (l : List ℕ) → Orderly from cs (length l)
    → length_after (x + (length l - from)) cs ≡ x + length (spliced from cs l)
unfolding spliced
spliced-length from x [] l o = rw (length-drop from l)
spliced-length from x (Same ∷ cs) l o = spliced-length from x cs l o
spliced-length from x (To at after a b held ∷ cs) l o =
    let within = orderly_within after cs (length l) o.2 in
    let start : x + (length l - from) + size_of held - (after - at) ≡ x + (at - from) + size_of held + (length l - after) =
    omega (arith, o.0, o.1) in
    let rest = spliced after cs l in
    let bytes = bytes_of_all (held_records a b held) in
    let more : length_after (x + (at - from) + size_of held + (length l - after)) cs ≡ x + (at - from) + size_of held + length rest =
    spliced-length after (x + (at - from) + size_of held) cs l o.2 in
    let front = length-take-le (at - from) (drop from l) (omega (arith, length-drop from l, o.0, o.1)) in
    let whole : x + (at - from) + size_of held + length rest ≡ x + length (take (at - from) (drop from l) ++ (bytes ++ rest)) =
    omega (arith, front, size_records a b held, length-append (take (at - from) (drop from l)) (bytes ++ rest), length-append bytes rest) in
    ap (λ (n : ℕ). length_after n cs) start ∙ more ∙ whole

-- the record of the event count is as long as it was
pub counted_length : (count : ℕ) (cs : List Change) (l : List ℕ) → Orderly 8 cs (length l)
    → length_after (length l) cs ≡ length (spliced 0 (To 0 8 0 0 (h.Count count) ∷ cs) l)
unfolding size_of
counted_length count cs l o =
    let all = To 0 8 0 0 (h.Count count) ∷ cs in
    let same : length l ≡ 0 + (length l - 0) + 8 - (8 - 0) = omega arith in
    ap (λ (n : ℕ). length_after n cs) same ∙ spliced-length 0 0 all l (omega arith, omega arith, o) ∙ zero-add (length (spliced 0 all l))

pub new_length : (count : ℕ) (plan : Plan) (l : List ℕ) → Orderly 0 (changes_of count plan) (length l)
    → length_after (length l) (others plan) ≡ length (new_image count plan l)
new_length count plan l o = counted_length count (others plan) l o.2

-- no record has more than 20 bytes
entry_most : (x : Entry) → entry_size x ≤ 20
entry_most e.Absent = omega arith
entry_most (e.AtOwner d) = omega arith
entry_most (e.Elsewhere r) = omega arith

message_most : (x : Message) → message_size x ≤ 20
message_most m.Empty = omega arith
message_most (m.Reference from to o) = omega arith
message_most (m.Decrement from to o k n) = omega arith

object_most : (b : Bool) → (if b then 9 else 0) ≤ 20
object_most true = omega arith
object_most false = omega arith

pub size_most : (x : Held) → size_of x ≤ 20
unfolding size_of
size_most h.Nothing = omega arith
size_most (h.Count n) = omega arith
size_most (h.Object x) = object_most x.live
size_most (h.Roots x) = omega arith
size_most (h.Entry x) = entry_most x
size_most (h.Message x) = message_most x

pub length_most : (n : ℕ) (c : Change) → length_with n c ≤ n + 20
length_most n Same = omega arith
length_most n (To at after a b held) = omega (arith, size_most held)

pub after_most : (n : ℕ) (cs : List Change) → length_after n cs ≤ n + 20 * length cs
after_most n [] = omega arith
after_most n (c ∷ cs) = omega (arith, length_most n c, after_most (length_with n c) cs)

-- m bytes and what is passed of the old image make up for all of it: so it stays, and no change takes more than there is
pub cuts : (from m : ℕ) (c : Change) (cs : List Change) (n : ℕ) → Orderly from (c ∷ cs) n → n ≤ m + from → Cuts m c
cuts from m Same cs n o enough = tt
cuts from m (To at after a b held) cs n o enough = (o.1, omega (arith, o.0, o.1, orderly_within after cs n o.2))

pub enough_left : (from m : ℕ) (c : Change) (cs : List Change) (n : ℕ) → Orderly from (c ∷ cs) n → n ≤ m + from → n ≤ length_with m c + passed from c
enough_left from m Same cs n o enough = enough
enough_left from m (To at after a b held) cs n o enough = omega (arith, o.0, o.1, orderly_within after cs n o.2)
