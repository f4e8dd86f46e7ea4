-- The records of a table, spot by spot in the order of the image (document 01, "Order"): what is proved of a list of rising spots holds of
-- every table. Assumes nothing.
use Rattle.std.specs.Prelude.{◌≡◌, Bool, false, leb, length, if◌then◌else◌}
use Rattle.std.proofs.Math.Path.{refl, sym, ap}
use Rattle.std.proofs.Common.{◌∙◌, arith}
use Rattle.std.proofs.Math.Logic.{⊎_elim}
use Rattle.std.proofs.Math.Bool.{true}
use mathlib.Core.List.Memᴰ
use mathlib.Core.List.{List, [], ◌∷◌, ◌++◌, append_assoc, Memᴰ}
use Prim.Native.Nat.{ℕ, zero, suc, ◌+◌, ◌*◌, ◌≤◌, ◌<◌}
use Rattle.std.proofs.Math.Decide.{ℕ_discrete}
use borrow.Author.Tests.{leb-true}
use Rattle.terms.specs.Choose.{◌and◌}
use Rattle.terms.proofs.ChooseLaws.{and_passes}
use Rattle.terms.specs.Counted.{list_from, list, gather_from, gather}
use Rattle.terms.specs.Limits.{NODES, OBJECTS, PLACES, owner}
use Rattle.entry.specs.declared.Entry.{Entry}
use Rattle.entry.specs.declared.Entry.TheVariants.{Absent, AtOwner, Elsewhere}
use Rattle.heap.specs.Heap.{is_live, fields_of}
use Rattle.table.specs.declared.Message.{Message}
use Rattle.table.specs.declared.Message.TheVariants as m
use Rattle.table.specs.declared.Table.{Table}
use Rattle.table.specs.Table.{entry_at, message_at}
use Rattle.image.specs.declared.RecordKind.TheVariants.{Live, End}
use Rattle.image.specs.Order.{position}
use Rattle.image.specs.Records.{Record, row}
use Rattle.image.specs.Spots.{Spot, count, object, roots, directory, remote, message, spot_position, record_at}
use Rattle.image.specs.Writer.{directory_record, remote_record, message_record, records_of}
use Rattle.splice.specs.Parts.{found}
use Rattle.splice.proofs.Parts.{Places, places_append, places_as, found_passed, found_here, Rising, rising_lower, rising_append}
use Rattle.splice.specs.Spread.{spots, Within}

-- the record that ends an image
abbrev pub ending : List Record
ending = row End [] ∷ []

-- what stands at each spot of a list, one behind the other, and then the rest
unfoldable pub joined : (Spot → List Record) → List Spot → List Record → List Record
joined f [] rest = rest
joined f (s ∷ l) rest = f s ++ joined f l rest

-- ---- the records of a table are those of its spots

module _ (f : Spot → List Record) where
  joined_append : (l more : List Spot) (rest : List Record) → joined f (l ++ more) rest ≡ joined f l (joined f more rest)
  unfolding joined
  joined_append [] more rest = refl
  joined_append (s ∷ l) more rest = ap (λ (rs : List Record). f s ++ rs) (joined_append l more rest)

  joined_list : (k n : ℕ) (g : ℕ → Spot) (rest : List Record) → joined f (list_from k n g) rest ≡ gather_from k n (λ i. f (g i)) ++ rest
  unfolding joined list_from gather_from
  joined_list k zero g rest = refl
  joined_list k (suc n) g rest =
      ap (λ (rs : List Record). f (g k) ++ rs) (joined_list (suc k) n g rest)
      ∙ sym (append_assoc (f (g k)) (gather_from (suc k) n (λ i. f (g i))) rest)

  joined_rows : (k m n : ℕ) (g : ℕ → ℕ → Spot) (rest : List Record)
      → joined f (gather_from k m (λ p. list n (g p))) rest ≡ gather_from k m (λ p. gather n (λ o. f (g p o))) ++ rest
  unfolding joined gather_from
  joined_rows k zero n g rest = refl
  joined_rows k (suc m) n g rest =
      joined_append (list n (g k)) (gather_from (suc k) m (λ p. list n (g p))) rest
      ∙ joined_list 0 n (g k) (joined f (gather_from (suc k) m (λ p. list n (g p))) rest)
      ∙ ap (λ (rs : List Record). gather n (λ o. f (g k o)) ++ rs) (joined_rows (suc k) m n g rest)
      ∙ sym (append_assoc (gather n (λ o. f (g k o))) (gather_from (suc k) m (λ p. gather n (λ o. f (g p o)))) rest)

  -- a section and what follows it
  section : (l more : List Spot) (rs x rest : List Record) → ((r : List Record) → joined f l r ≡ rs ++ r) → joined f more rest ≡ x
      → joined f (l ++ more) rest ≡ rs ++ x
  section l more rs x rest is e = joined_append l more rest ∙ is (joined f more rest) ∙ ap (λ (r : List Record). rs ++ r) e

-- lists one behind the other, bracketed to the left or to the right
six : (a b c d e g : List Record) → a ++ b ++ c ++ d ++ e ++ g ≡ a ++ (b ++ (c ++ (d ++ (e ++ g))))
six a b c d e g = simp append_assoc

pub records_joined : (t : Table) → records_of t ≡ joined (record_at t) spots ending
unfolding records_of spots joined
records_joined t =
    let f : Spot → List Record = record_at t in
    let a : List Record = gather OBJECTS (λ o. f (object o)) in
    let b : List Record = gather NODES (λ p. f (roots p)) in
    let c : List Record = gather OBJECTS (λ o. f (directory o)) in
    let d : List Record = gather NODES (λ p. gather OBJECTS (λ o. f (remote p o))) in
    let e : List Record = gather PLACES (λ s. f (message s)) in
    let messages = joined_list f 0 PLACES message ending in
    let remotes = section f (gather NODES (λ p. list OBJECTS (remote p))) _ d _ ending (joined_rows f 0 NODES OBJECTS remote) messages in
    let directories = section f (list OBJECTS directory) _ c _ ending (joined_list f 0 OBJECTS directory) remotes in
    let nodes = section f (list NODES roots) _ b _ ending (joined_list f 0 NODES roots) directories in
    let objects = section f (list OBJECTS object) _ a _ ending (joined_list f 0 OBJECTS object) nodes in
    ap (λ (rs : List Record). f count ++ rs) (six a b c d e ending ∙ sym objects)

-- ---- rising spots

-- each spot stands behind the one before it, the first from position n on, and all before the end
unfoldable pub rising : ℕ → List Spot → Bool
rising n [] = leb n (position 6 0)
rising n (s ∷ l) = leb n (spot_position s) and rising (suc (spot_position s)) l

-- all spots rise
pub spots_rise : rising 0 spots ≡ true
unfolding spots rising list_from gather_from
spots_rise = refl

-- a spot of what rises from n on stands from n on
member_high : (n : ℕ) (l : List Spot) → rising n l ≡ true → (s : Spot) → Memᴰ s l → n ≤ spot_position s
unfolding rising
member_high n [] up s mem = absurd (Memᴰ.not-nil mem)
member_high n (x ∷ l) up s mem =
    let p = (and_passes (leb n (spot_position x)) (rising (suc (spot_position x)) l)).0 up in
    let low : n ≤ spot_position x = leb-true n (spot_position x) p.0 in
    ⊎_elim (λ e. omega (arith, ap spot_position e)) (λ m. omega (arith, member_high (suc (spot_position x)) l p.1 s m)) (Memᴰ.cases_cons mem)

module _ (f : Spot → List Record) (placed : (s : Spot) → Places (λ q. q ≡ spot_position s) (f s)) where
  -- what rises from n on stands from n on
  pub joined_high : (n : ℕ) (l : List Spot) → rising n l ≡ true → Places (λ q. n ≤ q) (joined f l ending)
  unfolding rising joined
  joined_high n [] up = (leb-true n (position 6 0) up, tt)
  joined_high n (s ∷ l) up =
      let p = (and_passes (leb n (spot_position s)) (rising (suc (spot_position s)) l)).0 up in
      let low : n ≤ spot_position s = leb-true n (spot_position s) p.0 in
      places_append (λ q. n ≤ q) (f s) (joined f l ending)
      (places_as (λ q. q ≡ spot_position s) (λ q. n ≤ q) (λ q e. omega arith) (f s) (placed s))
      (places_as (λ q. suc (spot_position s) ≤ q) (λ q. n ≤ q) (λ q le. omega arith) (joined f l ending) (joined_high (suc (spot_position s)) l p.1))

  -- what stands at a spot of the list is found at its position
  joined-found : (n : ℕ) (l : List Spot) → rising n l ≡ true → (s : Spot) → Memᴰ s l → found (spot_position s) (joined f l ending) ≡ f s
  unfolding rising joined
  joined-found n [] up s mem = absurd (Memᴰ.not-nil mem)
  joined-found n (x ∷ l) up s mem = ⊎_elim here (λ m. there m (joined-found (suc (spot_position x)) l rest s m)) (Memᴰ.cases_cons mem)
    where
      rest : rising (suc (spot_position x)) l ≡ true
      rest = ((and_passes (leb n (spot_position x)) (rising (suc (spot_position x)) l)).0 up).1

      here : s ≡ x → found (spot_position s) (f x ++ joined f l ending) ≡ f s
      here e = rw e (found_here (spot_position x) (f x) (joined f l ending) (placed x) (joined_high (suc (spot_position x)) l rest))

      there : Memᴰ s l → found (spot_position s) (joined f l ending) ≡ f s → found (spot_position s) (f x ++ joined f l ending) ≡ f s
      there m more =
          let lt : spot_position x < spot_position s = omega (arith, member_high (suc (spot_position x)) l rest s m) in
          found_passed (spot_position s) (f x) (joined f l ending)
          (places_as (λ q. q ≡ spot_position x) (λ q. q < spot_position s) (λ q e. omega arith) (f x) (placed x))
          ∙ more

in_list : (k n : ℕ) (g : ℕ → Spot) (i : ℕ) → k ≤ i → i < k + n → Memᴰ (g i) (list_from k n g)
unfolding list_from
in_list k zero g i low high = absurd (omega arith)
in_list k (suc n) g i low high = elim (ℕ_discrete i k) [
  | yes e ↦ Memᴰ.head (ap g e)
  | no ne ↦ Memᴰ.tail (in_list (suc k) n g i (omega arith) (omega arith))
]

in_rows : (k m : ℕ) (g : ℕ → List Spot) (i : ℕ) (s : Spot) → k ≤ i → i < k + m → Memᴰ s (g i) → Memᴰ s (gather_from k m g)
unfolding gather_from
in_rows k zero g i s low high mem = absurd (omega arith)
in_rows k (suc m) g i s low high mem = elim (ℕ_discrete i k) [
  | yes e ↦ Memᴰ.append_left (gather_from (suc k) m g) (rw e at mem)
  | no ne ↦ Memᴰ.append_right (g k) (in_rows (suc k) m g i s (omega arith) (omega arith) mem)
]

-- each of them is among all spots
in_spots : (s : Spot) → Within s → Memᴰ s spots
unfolding spots
in_spots count in' = Memᴰ.head refl
in_spots (object o) in' = Memᴰ.tail (Memᴰ.append_left _ (in_list 0 OBJECTS object o (omega arith) (omega arith)))
in_spots (roots p) in' =
    Memᴰ.tail (Memᴰ.append_right (list OBJECTS object) (Memᴰ.append_left _ (in_list 0 NODES roots p (omega arith) (omega arith))))
in_spots (directory o) in' =
    Memᴰ.tail (Memᴰ.append_right (list OBJECTS object) (Memᴰ.append_right (list NODES roots)
    (Memᴰ.append_left _ (in_list 0 OBJECTS directory o (omega arith) (omega arith)))))
in_spots (remote p o) in' =
    Memᴰ.tail (Memᴰ.append_right (list OBJECTS object) (Memᴰ.append_right (list NODES roots) (Memᴰ.append_right (list OBJECTS directory)
    (Memᴰ.append_left _ (in_rows 0 NODES (λ q. list OBJECTS (remote q)) p (remote p o) (omega arith) (omega (arith, in'.0))
    (in_list 0 OBJECTS (remote p) o (omega arith) (omega (arith, in'.1))))))))
in_spots (message s) in' =
    Memᴰ.tail (Memᴰ.append_right (list OBJECTS object) (Memᴰ.append_right (list NODES roots) (Memᴰ.append_right (list OBJECTS directory)
    (Memᴰ.append_right (gather NODES (λ p. list OBJECTS (remote p))) (in_list 0 PLACES message s (omega arith) (omega arith))))))

-- ---- the records of a table, by spot

-- what stands at a spot of a table stands at the spot's position
pub placed : (t : Table) (s : Spot) → Places (λ q. q ≡ spot_position s) (record_at t s)
placed t count = (refl, tt)
placed t (object o) = go (is_live t.heap o)
  where
    go : (b : Bool) → Places (λ q. q ≡ position 1 o) (if b then row Live (o ∷ fields_of t.heap o) ∷ [] else [])
    go true = (refl, tt)
    go false = tt
placed t (roots p) = (refl, tt)
placed t (directory o) = go (entry_at t (owner o) o)
  where
    go : (e : Entry) → Places (λ q. q ≡ position 3 o) (directory_record o e)
    go Absent = tt
    go (AtOwner d) = (refl, tt)
    go (Elsewhere r) = tt
placed t (remote p o) = go (entry_at t p o)
  where
    go : (e : Entry) → Places (λ q. q ≡ position 4 (256 * p + o)) (remote_record p o e)
    go Absent = tt
    go (AtOwner d) = tt
    go (Elsewhere r) = (refl, tt)
placed t (message s) = go (message_at t s)
  where
    go : (x : Message) → Places (λ q. q ≡ position 5 s) (message_record s x)
    go m.Empty = tt
    go (m.Reference from to o) = (refl, tt)
    go (m.Decrement from to o k n) = (refl, tt)

-- a table has one record at a spot at most
pub at_most_one : (t : Table) (s : Spot) → length (record_at t s) ≤ 1
at_most_one t count = omega arith
at_most_one t (object o) = go (is_live t.heap o)
  where
    go : (b : Bool) → length (if b then row Live (o ∷ fields_of t.heap o) ∷ [] else []) ≤ 1
    go true = omega arith
    go false = omega arith
at_most_one t (roots p) = omega arith
at_most_one t (directory o) = go (entry_at t (owner o) o)
  where
    go : (e : Entry) → length (directory_record o e) ≤ 1
    go Absent = omega arith
    go (AtOwner d) = omega arith
    go (Elsewhere r) = omega arith
at_most_one t (remote p o) = go (entry_at t p o)
  where
    go : (e : Entry) → length (remote_record p o e) ≤ 1
    go Absent = omega arith
    go (AtOwner d) = omega arith
    go (Elsewhere r) = omega arith
at_most_one t (message s) = go (message_at t s)
  where
    go : (x : Message) → length (message_record s x) ≤ 1
    go m.Empty = omega arith
    go (m.Reference from to o) = omega arith
    go (m.Decrement from to o k n) = omega arith

-- what a table has at a spot is found at the spot's position among its records
pub found_at : (t : Table) (s : Spot) → Within s → found (spot_position s) (records_of t) ≡ record_at t s
found_at t s in' = rw (records_joined t) (joined-found (record_at t) (placed t) 0 spots spots_rise s (in_spots s in'))

-- rising spots have rising records
joined_rise : (t : Table) (n : ℕ) (l : List Spot) → rising n l ≡ true → Rising n (joined (record_at t) l ending)
unfolding rising joined
joined_rise t n [] up = (leb-true n (position 6 0) up, tt)
joined_rise t n (s ∷ l) up =
    let p = (and_passes (leb n (spot_position s)) (rising (suc (spot_position s)) l)).0 up in
    rising_lower n (spot_position s) (leb-true n (spot_position s) p.0) (record_at t s ++ joined (record_at t) l ending)
    (rising_append (spot_position s) (record_at t s) (joined (record_at t) l ending) (placed t s) (at_most_one t s)
    (joined_rise t (suc (spot_position s)) l p.1))
