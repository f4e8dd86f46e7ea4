-- The test of Sound is true exactly where the table is Sound: `sound_is`. Each condition of the test says what the one of Sound says, for tables
-- as their type makes them. Assumes nothing.
use Rattle.std.specs.Prelude.{◌≡◌, refl, Bool, true, false, not, ◌↔◌, ℕ, ◌≤◌, ◌<◌, eqb, leb, ℤ, pos, negsuc, ◌+ℤ◌}
use Rattle.std.proofs.Common.{sym, ap, true≢false}
use Rattle.std.proofs.lemmas.Bool.{false≢true}
use Rattle.std.proofs.Math.IntN.{pos-ne-negsuc}
use borrow.Author.Tests.{eq-eqb, eqb-true, le-leb, leb-true, lt-ltb}
use Rattle.terms.specs.Choose.{◌or◌}
use Rattle.terms.proofs.ChooseLaws.{and_passes}
use Rattle.terms.specs.Counted.{every, how_many}
use Rattle.terms.proofs.CountedLaws.{every_all, every_at}
use Rattle.terms.specs.Limits.{NODES, OBJECTS, PLACES, FIELDS, ROOTS, STEPS, owner}
use Rattle.entry.specs.Entry.{is_absent, is_directory, msg_ctr_of, rc_of}
use Rattle.heap.specs.Heap.{field_at, is_live, root_at}
use Rattle.table.specs.declared.Message.{Message}
use Rattle.table.specs.declared.Message.TheVariants.{Empty, Reference, Decrement}
use Rattle.table.specs.declared.Table.{Table}
use Rattle.table.specs.Depth.{depth, depth_number, depth_report}
use Rattle.table.specs.Formed.{Formed}
use Rattle.table.specs.Shape.{fits_table}
use Rattle.table.specs.Table.{entry_at, is_reference_of, message_at}
use Rattle.laws.specs.LawA.{LawA, inflow}
use Rattle.laws.specs.LawB.{LawB, is_homeward, returns_in, total}
use Rattle.laws.specs.LawC.{LawC}
use Rattle.laws.specs.Sound.{Sound, below, holds_well, returns_above}
use Rattle.laws.specs.SoundTest.{everywhere, is_same, is_sound, names_live, passes_a, passes_b, passes_c, passes_roots, passes_fields}
use Rattle.laws.specs.SoundTest.{passes_directories, passes_references, passes_counts, passes_returns, passes_owed}

-- ---- what tests say

-- every number below n passes, and what the test says of each
every_is : (n : ℕ) (test : ℕ → Bool) (P : ℕ → Type 0) → ((k : ℕ) → k < n → (test k ≡ true) ↔ P k)
    → (every n test ≡ true) ↔ ((k : ℕ) → k < n → P k)
every_is n test P is = (λ e k lt. (is k lt).0 (every_at n test e k lt), λ h. every_all n test (λ k lt. (is k lt).1 (h k lt)))

-- every node with every object does
everywhere_is : (test : ℕ → ℕ → Bool) (P : ℕ → ℕ → Type 0) → ((p o : ℕ) → p < NODES → o < OBJECTS → (test p o ≡ true) ↔ P p o)
    → (everywhere test ≡ true) ↔ ((p o : ℕ) → p < NODES → o < OBJECTS → P p o)
everywhere_is test P is =
    let rows = every_is NODES (λ p. every OBJECTS (test p)) (λ p. (o : ℕ) → o < OBJECTS → P p o)
    (λ p node. every_is OBJECTS (test p) (P p) (λ o lt. is p o node lt)) in
    (λ e p o node lt. rows.0 e p node o lt, λ h. rows.1 (λ p node o lt. h p o node lt))

-- one test passes only where another does
implies_is : (a b : Bool) → ((not a or b) ≡ true) ↔ (a ≡ true → b ≡ true)
implies_is true b = (λ e h. e, λ h. h refl)
implies_is false b = (λ e h. absurd (false≢true h), λ h. refl)

-- two numbers are the same
eqb_is : (m n : ℕ) → (eqb m n ≡ true) ↔ (m ≡ n)
eqb_is m n = (eqb-true m n, eq-eqb m n)

-- and a number that is at most another
leb_is : (m n : ℕ) → (leb m n ≡ true) ↔ (m ≤ n)
leb_is m n = (leb-true m n, le-leb m n)

-- two whole numbers are the same
same_is : (x y : ℤ) → (is_same x y ≡ true) ↔ (x ≡ y)
same_is (pos m) (pos n) = (λ e. ap pos (eqb-true m n e), λ e. eq-eqb m n (cc))
same_is (pos m) (negsuc n) = (λ e. absurd (false≢true e), λ e. absurd (pos-ne-negsuc m n e))
same_is (negsuc m) (pos n) = (λ e. absurd (false≢true e), λ e. absurd (pos-ne-negsuc n m (sym e)))
same_is (negsuc m) (negsuc n) = (λ e. ap negsuc (eqb-true m n e), λ e. eq-eqb m n (cc))

-- ---- the conditions, one by one

module _ (t : Table) where
  -- law A
  law_a_is : (passes_a t ≡ true) ↔ LawA t
  unfolding passes_a
  law_a_is = everywhere_is _ _ (λ p o node lt. eqb_is (rc_of (entry_at t p o)) (inflow t p o))

  -- return counts
  abbrev returned : ℕ → ℤ
  returned o = total NODES (λ p. msg_ctr_of (entry_at t p o)) +ℤ total PLACES (λ s. returns_in o (message_at t s))

  -- references on their way home
  abbrev homeward : ℕ → ℤ
  homeward o = pos (how_many PLACES (λ s. is_homeward o (message_at t s)))

  -- law B
  law_b_is : (passes_b t ≡ true) ↔ LawB t
  unfolding passes_b
  law_b_is = every_is OBJECTS _ _ (λ o lt. same_is (returned o) (homeward o))

  -- in shape and in range, the report is the depth
  report_is : fits_table t ≡ true → (p o : ℕ) → p < NODES → o < OBJECTS → depth_report t p o ≡ depth_number (depth t p o)
  unfolding depth_report
  report_is shape p o node lt = rw (lt-ltb p NODES node, lt-ltb o OBJECTS lt, shape)

  -- one condition at one node, and the other way round
  deep_is : fits_table t ≡ true → (p o : ℕ) → p < NODES → o < OBJECTS
      → ((is_absent (entry_at t p o) or leb (depth_number (depth t p o)) STEPS) ≡ true) ↔ (is_absent (entry_at t p o) ≡ false → depth_report t p o ≤ STEPS)
  deep_is shape p o node lt = rw (report_is shape p o node lt) (go (is_absent (entry_at t p o)))
    where
      go : (b : Bool) → ((b or leb (depth_number (depth t p o)) STEPS) ≡ true) ↔ (b ≡ false → depth_number (depth t p o) ≤ STEPS)
      go true = (λ e h. absurd (true≢false h), λ h. refl)
      go false = (λ e h. leb-true _ _ e, λ h. le-leb _ _ (h refl))

  -- law C
  law_c_is : fits_table t ≡ true → (passes_c t ≡ true) ↔ LawC t
  unfolding passes_c
  law_c_is shape = everywhere_is _ _ (deep_is shape)

  -- roots
  roots_is : (passes_roots t ≡ true) ↔ ((p r : ℕ) → p < NODES → r < ROOTS → holds_well t p (root_at t.heap p r) ≡ true)
  unfolding passes_roots
  roots_is = (
    λ e p r node root. every_at ROOTS (λ k. holds_well t p (root_at t.heap p k)) (every_at NODES _ e p node) r root,
    λ h. every_all NODES _ (λ p node. every_all ROOTS _ (λ r root. h p r node root)),
  )

  -- fields
  fields_is : (passes_fields t ≡ true)
      ↔ ((o f : ℕ) → o < OBJECTS → f < FIELDS → is_live t.heap o ≡ true → holds_well t (owner o) (field_at t.heap o f) ≡ true)
  unfolding passes_fields
  fields_is = (
    λ e o f lt small live.
        let each = (implies_is (is_live t.heap o) _).0 (every_at OBJECTS _ e o lt) live in
        every_at FIELDS (λ k. holds_well t (owner o) (field_at t.heap o k)) each f small,
    λ h. every_all OBJECTS _ (λ o lt. (implies_is (is_live t.heap o) _).1 (λ live. every_all FIELDS _ (λ f small. h o f lt small live))),
  )

  -- directories
  directories_is : (passes_directories t ≡ true)
      ↔ ((p o : ℕ) → p < NODES → o < OBJECTS → is_directory (entry_at t p o) ≡ true → is_live t.heap o ≡ true)
  unfolding passes_directories
  directories_is = everywhere_is _ _ (λ p o node lt. implies_is (is_directory (entry_at t p o)) (is_live t.heap o))

  -- one message
  names_is : (m : Message) → (names_live t m ≡ true) ↔ ((o : ℕ) → is_reference_of o m ≡ true → is_live t.heap o ≡ true)
  names_is Empty = (λ e o h. absurd (false≢true h), λ h. refl)
  names_is (Reference from to x) = (λ e o h. rw (eqb-true x o h) at e, λ h. h x (eq-eqb x x refl))
  names_is (Decrement from to x m n) = (λ e o h. absurd (false≢true h), λ h. refl)

  -- references
  references_is : (passes_references t ≡ true) ↔ ((s o : ℕ) → s < PLACES → is_reference_of o (message_at t s) ≡ true → is_live t.heap o ≡ true)
  unfolding passes_references
  references_is =
      let is = every_is PLACES (λ s. names_live t (message_at t s)) _ (λ s place. names_is (message_at t s)) in
      (λ e s o place. is.0 e s place o, λ h. is.1 (λ s place o. h s o place))

  -- RC
  counts_is : (passes_counts t ≡ true) ↔ ((p o : ℕ) → p < NODES → o < OBJECTS → rc_of (entry_at t p o) ≤ t.count)
  unfolding passes_counts
  counts_is = everywhere_is _ _ (λ p o node lt. leb_is (rc_of (entry_at t p o)) t.count)

  -- return counts above zero
  returns_is : (passes_returns t ≡ true) ↔ ((o : ℕ) → o < OBJECTS → returns_above t o ≤ t.count)
  unfolding passes_returns
  returns_is = every_is OBJECTS _ _ (λ o lt. leb_is (returns_above t o) t.count)

  -- return counts below zero
  owed_is : (passes_owed t ≡ true) ↔ ((p o : ℕ) → p < NODES → o < OBJECTS → below (msg_ctr_of (entry_at t p o)) ≤ t.count)
  unfolding passes_owed
  owed_is = everywhere_is _ _ (λ p o node lt. leb_is (below (msg_ctr_of (entry_at t p o))) t.count)

  -- ---- the whole

  -- what passes is Sound
  pub passes_sound : Formed t → is_sound t ≡ true → Sound t
  unfolding is_sound
  passes_sound formed e =
      let one = (and_passes (fits_table t) _).0 e in
      let two = (and_passes (passes_a t) _).0 one.1 in
      let three = (and_passes (passes_b t) _).0 two.1 in
      let four = (and_passes (passes_c t) _).0 three.1 in
      let five = (and_passes (passes_roots t) _).0 four.1 in
      let six = (and_passes (passes_fields t) _).0 five.1 in
      let seven = (and_passes (passes_directories t) _).0 six.1 in
      let eight = (and_passes (passes_references t) _).0 seven.1 in
      let nine = (and_passes (passes_counts t) _).0 eight.1 in
      let ten = (and_passes (passes_returns t) _).0 nine.1 in
      record {
        formed = formed;
        shape = one.0;
        law_a = law_a_is.0 two.0;
        law_b = law_b_is.0 three.0;
        law_c = (law_c_is one.0).0 four.0;
        roots = roots_is.0 five.0;
        fields = fields_is.0 six.0;
        directories = directories_is.0 seven.0;
        references = references_is.0 eight.0;
        counts = counts_is.0 nine.0;
        returns = returns_is.0 ten.0;
        owed = owed_is.0 ten.1;
      }

  -- and what is Sound passes
  pub sound_passes : Sound t → is_sound t ≡ true
  unfolding is_sound
  sound_passes sound =
      rw (
        sound.shape,
        law_a_is.1 sound.law_a,
        law_b_is.1 sound.law_b,
        (law_c_is sound.shape).1 sound.law_c,
        roots_is.1 sound.roots,
        fields_is.1 sound.fields,
        directories_is.1 sound.directories,
        references_is.1 sound.references,
        counts_is.1 sound.counts,
        returns_is.1 sound.returns,
        owed_is.1 sound.owed,
      )

  -- a table passes exactly where it is Sound
  pub sound_is : Formed t → (is_sound t ≡ true) ↔ Sound t
  sound_is formed = (passes_sound formed, sound_passes)
