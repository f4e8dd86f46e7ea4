-- The record of each thing of a table in shape: its numbers fit their widths, the reader's tests pass, and it stands for that thing.
-- Assumes nothing.
use Rattle.std.specs.Prelude.{◌≡◌, refl, Bool, true, false, List, [], ◌∷◌, ℕ, suc, ◌≤◌, ◌<◌, ◌^◌, ltb, eqb, ℤ, pos, negsuc, length, get_or, replicate}
use Rattle.std.proofs.Common.{sym, ap, ◌∙◌, ⊎_elim, arith}
use Rattle.std.proofs.lemmas.Bool.{false≢true}
use borrow.Author.Tests.{ltb-true, leb-true, eqb-true, lt-ltb, le-leb}
use Rattle.terms.specs.Bytes.{signed, twos_complement}
use Rattle.terms.proofs.ChooseLaws.{or_passes}
use Rattle.terms.specs.Counted.{list_from, list, one}
use Rattle.terms.proofs.CountedLaws.{every_at}
use Rattle.terms.specs.Limits.{NODES, OBJECTS, PLACES, FIELDS, ROOTS, NONE, MOST}
use Rattle.terms.proofs.ListLaws.{list_is}
use Rattle.entry.specs.declared.Directory.{Directory}
use Rattle.entry.specs.declared.Remote.{Remote}
use Rattle.entry.specs.declared.ReturnCount.{ReturnCount}
use Rattle.entry.specs.declared.Weight.{Weight}
use Rattle.entry.specs.declared.Entry.{Entry}
use Rattle.entry.specs.declared.Entry.TheVariants.{AtOwner, Elsewhere}
use Rattle.entry.specs.Entry.{returns}
use Rattle.entry.specs.Fits.{within_most, natural_most, fits_entry}
use Rattle.entry.specs.FitsLaws.{DirectoryParts, RemoteParts, away, home}
use Rattle.heap.specs.declared.Object.{Object}
use Rattle.heap.specs.declared.Roots.{Roots}
use Rattle.heap.specs.Heap.{idle, is_none, fits_name, fits_field, fits_object, fits_roots}
use Rattle.table.specs.declared.Message.TheVariants as m
use Rattle.table.specs.Shape.{fits_message}
use Rattle.table.specs.ShapeLaws.{DecrementFits, decrement_fits, reference_fits}
use Rattle.image.specs.declared.RecordKind.TheVariants.{Live, NodeRoots, Directory as DirectoryRecord, Remote as RemoteRecord}
use Rattle.image.specs.declared.RecordKind.TheVariants.{Reference, Decrement}
use Rattle.image.proofs.BytesLaws.{Fit, InSigned, signed-twos_complement, twos_complement_fits}
use Rattle.image.specs.Content.{live_object, roots_of_node, directory_entry, remote_entry, decrement_message, fits_record}
use Rattle.image.specs.Records.{widths_of}

-- ---- a list read off element by element

module _ {A : Type 0} (d : A) where
  pub list_back : (n : ℕ) (xs : List A) → length xs ≡ n → list n (λ k. get_or xs k d) ≡ xs
  list_back n xs len = sym (list_is n (λ k. get_or xs k d) d xs len (λ k lt. refl))

-- the four fields
abbrev four_of : List ℕ → List ℕ
four_of xs = get_or xs 0 0 ∷ get_or xs 1 0 ∷ get_or xs 2 0 ∷ get_or xs 3 0 ∷ []

four_back : (xs : List ℕ) → length xs ≡ 4 → four_of xs ≡ xs
unfolding list_from
four_back xs len = list_back 0 4 xs len

-- the eight roots
abbrev eight_of : List ℕ → List ℕ
eight_of xs = get_or xs 0 0 ∷ get_or xs 1 0 ∷ get_or xs 2 0 ∷ get_or xs 3 0 ∷ get_or xs 4 0 ∷ get_or xs 5 0 ∷ get_or xs 6 0 ∷ get_or xs 7 0 ∷ []

eight_back : (xs : List ℕ) → length xs ≡ 8 → eight_of xs ≡ xs
unfolding list_from
eight_back xs len = list_back 0 8 xs len

-- ---- names

is_none_lem : (x : ℕ) → is_none x ≡ true → x ≡ 255
is_none_lem x e = eqb-true x NONE e

name_small : (x : ℕ) → fits_name x ≡ true → x < 256
name_small x e =
    ⊎_elim (λ low. omega (arith, ltb-true x OBJECTS low)) (λ none. omega (arith, is_none_lem x none)) ((or_passes (ltb x OBJECTS) (is_none x)).0 e)

-- ---- objects

-- an object of its parts
abbrev object_of : Bool → List ℕ → Object
object_of live fields = record { live = live; fields = fields }

module _ (x : Object) (fits : fits_object x ≡ true) where
  -- each field passes its test
  field_fits : (f : ℕ) → f < FIELDS → fits_field x.live (get_or x.fields f 0) ≡ true
  unfolding fits_object
  field_fits = every_at FIELDS (λ f. fits_field x.live (get_or x.fields f 0)) fits

  -- each field of a live object fits a byte
  live_small : x.live ≡ true → (f : ℕ) → f < FIELDS → get_or x.fields f 0 < 256 ^ 1
  live_small e f lt = name_small (get_or x.fields f 0) (rw e at (field_fits f lt))

  -- each field of another is empty
  idle_empty : x.live ≡ false → (f : ℕ) → f < FIELDS → get_or x.fields f 0 ≡ 255
  idle_empty e f lt = is_none_lem (get_or x.fields f 0) (rw e at (field_fits f lt))

  module _ (len : length x.fields ≡ FIELDS) where
    -- so it is the fresh one
    pub idle_is : x.live ≡ false → idle ≡ x
    idle_is e =
        let empty = idle_empty e in
        let none : replicate FIELDS NONE ≡ x.fields =
        rw (empty 0 (omega arith), empty 1 (omega arith), empty 2 (omega arith), empty 3 (omega arith)) at (four_back x.fields len) in
        ap (λ (b : Bool). object_of b (replicate FIELDS NONE)) (sym e) ∙ ap (object_of x.live) none

    -- the record of a live object
    pub live_fit : x.live ≡ true → (o : ℕ) → o < OBJECTS → Fit (widths_of Live) (o ∷ four_of x.fields)
    live_fit e o lt =
        let small = live_small e in
        omega (arith, small 0 (omega arith), small 1 (omega arith), small 2 (omega arith), small 3 (omega arith))

    -- stands for it
    pub live_is : x.live ≡ true → (o : ℕ) → live_object (o ∷ four_of x.fields) ≡ x
    live_is e o = ap (object_of true) (four_back x.fields len) ∙ ap (λ (b : Bool). object_of b x.fields) (sym e)

-- ---- roots

module _ (x : Roots) (fits : fits_roots x ≡ true) where
  root_small : (r : ℕ) → r < ROOTS → get_or x.at r 0 < 256 ^ 1
  unfolding fits_roots
  root_small r lt = name_small (get_or x.at r 0) (every_at ROOTS (λ r. fits_name (get_or x.at r 0)) fits r lt)

  -- the record of a node's roots
  pub roots_fit : (p : ℕ) → p < NODES → Fit (widths_of NodeRoots) (p ∷ eight_of x.at)
  roots_fit p lt =
      let low = root_small in omega (
        arith,
        low 0 (omega arith),
        low 1 (omega arith),
        low 2 (omega arith),
        low 3 (omega arith),
        low 4 (omega arith),
        low 5 (omega arith),
        low 6 (omega arith),
        low 7 (omega arith),
      )

-- stands for them
pub roots_is : (x : Roots) (p : ℕ) → length x.at ≡ ROOTS → roots_of_node (p ∷ eight_of x.at) ≡ x
roots_is x p len = ap (λ (xs : List ℕ). same xs) (eight_back x.at len)
  where
    same : List ℕ → Roots
    same xs = record { at = xs }

-- ---- counts

within_signed : (z : ℤ) → within_most z ≡ true → InSigned z
within_signed (pos n) e = let le : n ≤ 1000000000 = leb-true n MOST e in omega arith
within_signed (negsuc n) e = let le : suc n ≤ 1000000000 = leb-true (suc n) MOST e in omega arith

natural_signed : (z : ℤ) → natural_most z ≡ true → InSigned z
natural_signed (pos n) e = let le : n ≤ 1000000000 = leb-true n MOST e in omega arith
natural_signed (negsuc n) e = absurd (false≢true e)

back : (c : ReturnCount) → InSigned c.0 → returns (signed (twos_complement c.0)) ≡ c
back c ins = ap returns (signed-twos_complement c.0 ins)

-- ---- directories

module _ (d : Directory) (o : ℕ) where
  -- its numbers
  abbrev pub directory_numbers : List ℕ
  directory_numbers = o ∷ d.rc ∷ twos_complement d.msg_ctr.0 ∷ []

  module _ (p : ℕ) (fits : fits_entry p o (AtOwner d) ≡ true) where
    parts : DirectoryParts d
    parts = (home p o d fits).parts

    signed_returns : InSigned d.msg_ctr.0
    signed_returns = within_signed d.msg_ctr.0 parts.returns

    pub directory_fit : o < OBJECTS → Fit (widths_of DirectoryRecord) directory_numbers
    directory_fit lt = omega (arith, parts.count, twos_complement_fits d.msg_ctr.0 signed_returns)

    pub directory_is : directory_entry directory_numbers ≡ AtOwner d
    directory_is = ap (λ (c : ReturnCount). AtOwner (record { rc = d.rc; msg_ctr = c })) (back d.msg_ctr signed_returns)

-- ---- remote entries

one_back : (b : Bool) → eqb (one b) 1 ≡ b
one_back true = refl
one_back false = refl

one_small : (b : Bool) → one b ≤ 1
one_small true = omega arith
one_small false = omega arith

module _ (e : Remote) (p o : ℕ) where
  -- its numbers
  abbrev pub remote_numbers : List ℕ
  remote_numbers = p ∷ o ∷ e.rc ∷ e.parent ∷ one e.presence ∷ twos_complement e.msg_ctr.0 ∷ e.ref_weight.0 ∷ []

  module _ (fits : fits_entry p o (Elsewhere e) ≡ true) where
    numbers : RemoteParts e
    numbers = (away p o e fits).parts

    signed_count : InSigned e.msg_ctr.0
    signed_count = natural_signed e.msg_ctr.0 numbers.returns

    pub remote_fit : p < NODES → o < OBJECTS → Fit (widths_of RemoteRecord) remote_numbers
    remote_fit lp lo = omega (arith, numbers, one_small e.presence, twos_complement_fits e.msg_ctr.0 signed_count)

    pub remote_is : remote_entry remote_numbers ≡ Elsewhere e
    remote_is =
        ap (λ (b : Bool). like b (returns (signed (twos_complement e.msg_ctr.0)))) (one_back e.presence)
        ∙ ap (λ (c : ReturnCount). like e.presence c) (back e.msg_ctr signed_count)
      where
        like : Bool → ReturnCount → Entry
        like b c = Elsewhere (record { rc = e.rc; parent = e.parent; presence = b; msg_ctr = c; ref_weight = e.ref_weight })

    -- the reader's test of it
    pub remote_fits : p < NODES → o < OBJECTS → fits_record RemoteRecord remote_numbers ≡ true
    unfolding fits_record
    remote_fits lp lo = rw (lt-ltb p NODES lp, lt-ltb o OBJECTS lo, le-leb (one e.presence) 1 (one_small e.presence), remote_is) fits

-- ---- messages

pub reference_fit : (from to o : ℕ) → fits_message (m.Reference from to o) ≡ true → (s : ℕ) → s < PLACES
    → Fit (widths_of Reference) (s ∷ from ∷ to ∷ o ∷ [])
reference_fit from to o fits s lt = omega (arith, reference_fits from to o fits)

module _ (from to o : ℕ) (k : ReturnCount) (n : Weight) where
  -- its numbers, in place s
  abbrev pub decrement_numbers : ℕ → List ℕ
  decrement_numbers s = s ∷ from ∷ to ∷ o ∷ twos_complement k.0 ∷ n.0 ∷ []

  module _ (fits : fits_message (m.Decrement from to o k n) ≡ true) where
    carried : DecrementFits from to o k n
    carried = decrement_fits from to o k n fits

    signed_carried : InSigned k.0
    signed_carried = natural_signed k.0 carried.returns

    pub decrement_fit : (s : ℕ) → s < PLACES → Fit (widths_of Decrement) (decrement_numbers s)
    decrement_fit s lt = omega (arith, carried.path, carried.weight, twos_complement_fits k.0 signed_carried)

    pub decrement_is : (s : ℕ) → decrement_message (decrement_numbers s) ≡ m.Decrement from to o k n
    decrement_is s = ap (λ (c : ReturnCount). m.Decrement from to o c n) (back k signed_carried)
