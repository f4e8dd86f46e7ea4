-- A record that the reader takes: what its tests tell, that it stands at its spot once it is read, and that all other spots are as they were.
-- Assumes nothing.
use Rattle.std.specs.Prelude.{◌≡◌, Bool, true, false, List, [], ◌∷◌, ℕ, zero, suc, ◌^◌, ◌≤◌, ◌<◌, ltb, leb, eqb, length, get_or}
use Rattle.std.proofs.Math.Path.{refl, ap, subst}
use Rattle.std.proofs.Common.{sym, ◌∙◌, arith, ltb-true, leb-true}
use Rattle.std.proofs.lemmas.Bool.{false≢true}
use Rattle.terms.specs.Bytes.{twos_complement, signed}
use Rattle.terms.specs.Choose.{◌and◌}
use Rattle.terms.proofs.ChooseLaws.{and_passes}
use Rattle.terms.specs.Counted.{list_from, list, one}
use Rattle.terms.specs.Limits.{NODES, OBJECTS, PLACES, owner}
use Rattle.entry.specs.Fits.{fits_entry}
use Rattle.entry.specs.FitsLaws.{away}
use Rattle.table.specs.declared.Table.{Table}
use Rattle.table.specs.Formed.{Formed}
use Rattle.table.specs.ShapeLaws.{Shaped, owner_number}
use Rattle.table.specs.Table.{entry_at}
use Rattle.table.specs.TableLaws.{entry_there}
use Rattle.image.specs.declared.RecordKind.{RecordKind}
use Rattle.image.specs.declared.RecordKind.TheVariants.{Count, Live, NodeRoots, Directory, Remote, Reference, Decrement, End, Unknown}
use Rattle.image.proofs.BytesLaws.{Fit, twos_complement-signed}
use Rattle.image.specs.Content.{number, live_object, roots_of_node, directory_entry, remote_entry, reference_message, decrement_message}
use Rattle.image.specs.Content.{fits_record, with_record}
use Rattle.image.proofs.ContentLaws.{list_back}
use Rattle.image.proofs.OneSpot.{count_only, object_only, roots_only, directory_only, remote_only, message_only}
use Rattle.image.proofs.OneSpot.{object_here, roots_here, message_here}
use Rattle.image.specs.Order.{position_of}
use Rattle.image.specs.Records.{row, is_unknown, is_end, widths_of}
use Rattle.image.specs.Spots.{Spot, spot_position, record_at}
use Rattle.image.proofs.Spots.{spot_of, remote_none}
use Rattle.image.specs.Writer.{directory_record, remote_record}

-- ---- what fits

-- as many numbers as widths
pub fit_length : (ws ns : List ℕ) → Fit ws ns → length ns ≡ length ws
fit_length [] [] fit = refl
fit_length [] (n ∷ ns) fit = absurd fit
fit_length (w ∷ ws) [] fit = absurd fit
fit_length (w ∷ ws) (n ∷ ns) fit = ap suc (fit_length ws ns fit.1)

-- a number below its limit, and what else is tested
pub below : (n limit : ℕ) (rest : Bool) → (ltb n limit and rest) ≡ true → (n < limit) × (rest ≡ true)
below n limit rest fits = let p = (and_passes (ltb n limit) rest).0 fits in (ltb-true n limit p.0, p.1)

-- the parts of the test of a remote record
pub record RemoteTests (ns : List ℕ) : Type 0 where
  pub node : number ns 0 < 8
  pub object : number ns 1 < 64
  pub presence : number ns 4 ≤ 1
  pub entry : fits_entry (number ns 0) (number ns 1) (remote_entry ns) ≡ true

-- taken apart
pub remote_tests : (ns : List ℕ) → fits_record Remote ns ≡ true → RemoteTests ns
unfolding fits_record
remote_tests ns fits =
    let a = below (number ns 0) NODES _ fits in
    let b = below (number ns 1) OBJECTS _ a.1 in
    let c = (and_passes (leb (number ns 4) 1) _).0 b.1 in
    record { node = a.0; object = b.0; presence = leb-true (number ns 4) 1 c.0; entry = c.1 }

-- a record that the reader takes: not the end, of a known kind, its numbers fitting and allowed
pub record Takes (k : RecordKind) (ns : List ℕ) : Type 0 where
  pub onward : is_end k ≡ false
  pub known : is_unknown k ≡ false
  pub fit : Fit (widths_of k) ns
  pub allowed : fits_record k ns ≡ true

-- the record is the event count's
abbrev pub is_count : RecordKind → Bool
is_count Count = true
is_count Live = false
is_count NodeRoots = false
is_count Directory = false
is_count Remote = false
is_count Reference = false
is_count Decrement = false
is_count End = false
is_count Unknown = false

-- the first number of any other is below 64
pub small : (k : RecordKind) (ns : List ℕ) → Takes k ns → is_count k ≡ false → number ns 0 < 64
unfolding fits_record
small Count ns takes nc = absurd (false≢true (sym nc))
small Live ns takes nc = (below (number ns 0) OBJECTS _ takes.allowed).0
small NodeRoots ns takes nc = omega (arith, (below (number ns 0) NODES _ takes.allowed).0)
small Directory ns takes nc = (below (number ns 0) OBJECTS _ takes.allowed).0
small Remote ns takes nc = omega (arith, remote_tests ns takes.allowed)
small Reference ns takes nc = (below (number ns 0) PLACES _ takes.allowed).0
small Decrement ns takes nc = (below (number ns 0) PLACES _ takes.allowed).0
small End ns takes nc = absurd (false≢true (sym takes.onward))
small Unknown ns takes nc = absurd (false≢true (sym takes.known))

-- ---- a record read leaves the other spots as they were

pub spot_other : (t : Table) → Shaped t → (k : RecordKind) (ns : List ℕ) → Takes k ns
    → (s : Spot) → (spot_position s ≡ position_of k ns → ⊥) → record_at (with_record t k ns) s ≡ record_at t s
unfolding with_record
spot_other t shape Count ns takes = count_only t (number ns 0)
spot_other t shape Live ns takes = object_only t (number ns 0) (live_object ns)
spot_other t shape NodeRoots ns takes = roots_only t (number ns 0) (roots_of_node ns)
spot_other t shape Directory ns takes =
    let o = number ns 0 in
    let lt = small Directory ns takes refl in
    directory_only t (owner o) o (directory_entry ns) refl
    (remote_none (owner o) o (entry_at t (owner o) o) refl (shape.entries (owner o) o (owner_number lt) lt)) refl
spot_other t shape Remote ns takes =
    remote_only t (number ns 0) (number ns 1) (remote_entry ns)
    (away (number ns 0) (number ns 1) _ (remote_tests ns takes.allowed).entry).elsewhere
spot_other t shape Reference ns takes = message_only t (number ns 0) (reference_message ns)
spot_other t shape Decrement ns takes = message_only t (number ns 0) (decrement_message ns)
spot_other t shape End ns takes = absurd (false≢true (sym takes.onward))
spot_other t shape Unknown ns takes = absurd (false≢true (sym takes.known))

-- ---- a record read stands at its spot

-- numbers that fit are so many
unfolded : (k : RecordKind) (ns : List ℕ) (n : ℕ) → Fit (widths_of k) ns → length (widths_of k) ≡ n → list n (λ i. get_or ns i 0) ≡ ns
unfolded k ns n fit len = list_back 0 n ns (fit_length (widths_of k) ns fit ∙ len)

-- a number of four bytes fits them
four_bytes : (ws ns : List ℕ) (i : ℕ) → Fit ws ns → get_or ws i 0 ≡ 4 → get_or ns i 0 < 256 ^ 4
four_bytes [] [] i fit w = absurd (omega arith)
four_bytes [] (n ∷ ns) i fit w = absurd fit
four_bytes (w ∷ ws) [] i fit is = absurd fit
four_bytes (w ∷ ws) (n ∷ ns) zero fit is = rw is at fit.0
four_bytes (w ∷ ws) (n ∷ ns) (suc i) fit is = four_bytes ws ns i fit.1 is

-- Presence, 0 or 1, comes back
presence_back : (n : ℕ) → n ≤ 1 → one (eqb n 1) ≡ n
presence_back zero le = refl
presence_back (suc zero) le = refl
presence_back (suc (suc n)) le = absurd (omega arith)

module _ (t : Table) (formed : Formed t) where
  -- the record has been read and stands at its spot
  abbrev Stands : RecordKind → List ℕ → Type 0
  Stands k ns = record_at (with_record t k ns) (spot_of k ns) ≡ row k ns ∷ []

  here_count : (a : ℕ) → Stands Count (a ∷ [])
  unfolding with_record
  here_count a = refl

  here_live : (a b c d e : ℕ) → a < OBJECTS → Stands Live (a ∷ b ∷ c ∷ d ∷ e ∷ [])
  unfolding with_record
  here_live a b c d e lt = object_here t a (live_object (a ∷ b ∷ c ∷ d ∷ e ∷ [])) formed.objects lt

  here_roots : (a b c d e f g h i : ℕ) → a < NODES → Stands NodeRoots (a ∷ b ∷ c ∷ d ∷ e ∷ f ∷ g ∷ h ∷ i ∷ [])
  unfolding with_record
  here_roots a b c d e f g h i lt = roots_here t a (roots_of_node (a ∷ b ∷ c ∷ d ∷ e ∷ f ∷ g ∷ h ∷ i ∷ [])) formed.nodes lt

  here_directory : (a b c : ℕ) → a < OBJECTS → c < 256 ^ 4 → Stands Directory (a ∷ b ∷ c ∷ [])
  unfolding with_record
  here_directory a b c lt fit =
      ap (directory_record a) (entry_there t (owner a) a (directory_entry (a ∷ b ∷ c ∷ [])) formed lt (owner_number lt))
      ∙ ap (λ (n : ℕ). row Directory (a ∷ b ∷ n ∷ []) ∷ []) (twos_complement-signed c fit)

  here_remote : (a b c d e f g : ℕ) → a < NODES → b < OBJECTS → e ≤ 1 → f < 256 ^ 4 → Stands Remote (a ∷ b ∷ c ∷ d ∷ e ∷ f ∷ g ∷ [])
  unfolding with_record
  here_remote a b c d e f g la lb le fit =
      ap (remote_record a b) (entry_there t a b (remote_entry (a ∷ b ∷ c ∷ d ∷ e ∷ f ∷ g ∷ [])) formed lb la)
      ∙ ap (λ (n : ℕ). row Remote (a ∷ b ∷ c ∷ d ∷ n ∷ twos_complement (signed f) ∷ g ∷ []) ∷ []) (presence_back e le)
      ∙ ap (λ (n : ℕ). row Remote (a ∷ b ∷ c ∷ d ∷ e ∷ n ∷ g ∷ []) ∷ []) (twos_complement-signed f fit)

  here_reference : (a b c d : ℕ) → a < PLACES → Stands Reference (a ∷ b ∷ c ∷ d ∷ [])
  unfolding with_record
  here_reference a b c d lt =
      message_here t a (reference_message (a ∷ b ∷ c ∷ d ∷ [])) formed.places lt

  here_decrement : (a b c d e f : ℕ) → a < PLACES → e < 256 ^ 4 → Stands Decrement (a ∷ b ∷ c ∷ d ∷ e ∷ f ∷ [])
  unfolding with_record
  here_decrement a b c d e f lt fit =
      message_here t a (decrement_message (a ∷ b ∷ c ∷ d ∷ e ∷ f ∷ [])) formed.places lt
      ∙ ap (λ (n : ℕ). row Decrement (a ∷ b ∷ c ∷ d ∷ n ∷ f ∷ []) ∷ []) (twos_complement-signed e fit)

  pub spot_same : (k : RecordKind) (ns : List ℕ) → Takes k ns → Stands k ns
  unfolding list_from fits_record
  spot_same Count ns takes = subst (Stands Count) (unfolded Count ns 1 takes.fit refl) (here_count (number ns 0))
  spot_same Live ns takes =
      subst (Stands Live) (unfolded Live ns 5 takes.fit refl)
      (here_live (number ns 0) (number ns 1) (number ns 2) (number ns 3) (number ns 4)
      (below (number ns 0) OBJECTS _ takes.allowed).0)
  spot_same NodeRoots ns takes =
      subst (Stands NodeRoots) (unfolded NodeRoots ns 9 takes.fit refl)
      (here_roots (number ns 0) (number ns 1) (number ns 2) (number ns 3) (number ns 4) (number ns 5) (number ns 6) (number ns 7) (number ns 8)
      (below (number ns 0) NODES _ takes.allowed).0)
  spot_same Directory ns takes =
      subst (Stands Directory) (unfolded Directory ns 3 takes.fit refl)
      (here_directory (number ns 0) (number ns 1) (number ns 2) (small Directory ns takes refl)
      (four_bytes (widths_of Directory) ns 2 takes.fit refl))
  spot_same Remote ns takes =
      let tests = remote_tests ns takes.allowed in
      subst (Stands Remote) (unfolded Remote ns 7 takes.fit refl)
      (here_remote (number ns 0) (number ns 1) (number ns 2) (number ns 3) (number ns 4) (number ns 5) (number ns 6)
      tests.node tests.object tests.presence (four_bytes (widths_of Remote) ns 5 takes.fit refl))
  spot_same Reference ns takes =
      subst (Stands Reference) (unfolded Reference ns 4 takes.fit refl)
      (here_reference (number ns 0) (number ns 1) (number ns 2) (number ns 3)
      (below (number ns 0) PLACES _ takes.allowed).0)
  spot_same Decrement ns takes =
      subst (Stands Decrement) (unfolded Decrement ns 6 takes.fit refl)
      (here_decrement (number ns 0) (number ns 1) (number ns 2) (number ns 3) (number ns 4) (number ns 5)
      (below (number ns 0) PLACES _ takes.allowed).0
      (four_bytes (widths_of Decrement) ns 4 takes.fit refl))
  spot_same End ns takes = absurd (false≢true (sym takes.onward))
  spot_same Unknown ns takes = absurd (false≢true (sym takes.known))
