-- Reading in stages: records that lead from one stage of the reading to another, singly, one behind the other, and gathered over an index.
-- Assumes nothing.
use Rattle.std.specs.Prelude.{◌≡◌, true, false, List, [], ◌∷◌, ◌++◌, leb}
use Rattle.std.proofs.Common.{append_assoc, zero-add, add-zero, le-leb}
use Prim.Native.Nat.{ℕ, zero, suc, ◌+◌, ◌≤◌, ◌<◌}
use native.Mathlib.Omega.{arith}
use Rattle.terms.proofs.ChooseLaws.{and_passes}
use Rattle.terms.specs.Counted.{gather_from, gather}
use Rattle.table.specs.declared.Table.{Table}
use Rattle.image.specs.declared.RecordKind.{RecordKind}
use Rattle.image.specs.declared.Turn.{Turn}
use Rattle.image.proofs.BytesLaws.{Fit}
use Rattle.image.specs.Content.{fits_record, with_record}
use Rattle.image.specs.Order.{position_of, turn_after, in_turn}
use Rattle.image.proofs.ReadLaws.{Reads, takes}
use Rattle.image.specs.Records.{Record, row, is_unknown, is_end, widths_of}

-- what holds of the turn and the table at some point of the reading
abbrev pub Stage : Type 1
Stage = Turn → Table → Type 0

-- the next record may stand anywhere from low up to high, and P holds of the table
pub record At (low high : ℕ) (P : Table → Type 0) (now : Turn) (x : Table) : Type 0 where
  pub first : now.first ≤ low
  pub last : high ≤ now.last
  pub holds : P x

-- these records, read at stage A, lead to stage B: whatever can be read there can be read behind them
abbrev pub Leads : Stage → Stage → List Record → Type 0
Leads A B rs =
    (now : Turn) (t : Table) → A now t
    → (more : List Record) (u : Table) → ((now' : Turn) (t' : Table) → B now' t' → Reads now' t' more u) → Reads now t (rs ++ more) u

-- a position between first and last is in turn
pub in_turn_lem : (now : Turn) (k : RecordKind) (ns : List ℕ) → now.first ≤ position_of k ns → position_of k ns ≤ now.last → in_turn now k ns ≡ true
in_turn_lem now k ns low high =
    (and_passes (leb now.first (position_of k ns)) (leb (position_of k ns) now.last)).1
    (le-leb now.first (position_of k ns) low, le-leb (position_of k ns) now.last high)

module _ {A B : Stage} where
  -- no record
  pub leads_none : ((now : Turn) (t : Table) → A now t → B now t) → Leads A B []
  leads_none f now t a more u go = go now t (f now t a)

  -- one record that isn't the end
  pub leads_one : (k : RecordKind) (ns : List ℕ) → is_end k ≡ false → is_unknown k ≡ false → Fit (widths_of k) ns → fits_record k ns ≡ true
      → ((now : Turn) (t : Table) → A now t → (in_turn now k ns ≡ true) × B (turn_after k ns) (with_record t k ns)) → Leads A B (row k ns ∷ [])
  leads_one k ns go_on known fit fits step now t a more u go =
      let both = step now t a in
      takes k ns go_on known fit both.0 fits (go (turn_after k ns) (with_record t k ns) both.1)

  -- one part behind another
  pub leads_append : {C : Stage} (rs qs : List Record) → Leads A B rs → Leads B C qs → Leads A C (rs ++ qs)
  leads_append rs qs f g now t a more u go =
      rw (append_assoc rs qs more) (f now t a (qs ++ more) u (λ now' t' b. g now' t' b more u go))

  -- a stage said otherwise
  pub leads_as : {C : Stage} (rs : List Record) → ((now : Turn) (t : Table) → B now t → C now t) → Leads A B rs → Leads A C rs
  leads_as rs as' f now t a more u go = f now t a more u (λ now' t' b. go now' t' (as' now' t' b))

module _ (S : ℕ → Stage) (f : ℕ → List Record) where
  leads_from : (k n : ℕ) → ((i : ℕ) → k ≤ i → i < k + n → Leads (S i) (S (suc i)) (f i)) → Leads (S k) (S (k + n)) (gather_from k n f)
  unfolding gather_from
  leads_from k zero step = rw (add-zero k) (leads_none (λ now t a. a))
  leads_from k (suc n) step =
      let same : k + suc n ≡ suc k + n = omega arith in
      rw same (leads_append (f k) (gather_from (suc k) n f) (step k (omega arith) (omega arith))
      (leads_from (suc k) n (λ i low high. step i (omega arith) (omega arith))))

  -- one stage after another over the numbers below n
  pub leads_gather : (n : ℕ) → ((i : ℕ) → i < n → Leads (S i) (S (suc i)) (f i)) → Leads (S 0) (S n) (gather n f)
  leads_gather n step = rw zero-add at (leads_from 0 n (λ i low high. step i (omega arith)))
