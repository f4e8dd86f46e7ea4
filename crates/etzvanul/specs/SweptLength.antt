-- The image that COLLECT leaves has a length that the number of a call has room for, and the entries that are no longer used do not change it.
-- Assumes nothing.
use Rattle.std.specs.Prelude.{◌≡◌, Bool, List, ◌++◌, length, if◌then◌else◌}
use Rattle.std.proofs.Math.Path.{refl, ap}
use Rattle.std.proofs.Common.{◌∙◌}
use Rattle.std.proofs.Math.Bool.{true, false}
use Rattle.std.proofs.lemmas.Bool.{false≢true}
use Prim.Native.Nat.{ℕ, zero, suc, ◌+◌, ◌-◌, ◌≤◌, ◌<◌}
use native.Mathlib.Omega.{arith}
use Rattle.std.proofs.Math.ListN.{length-append}
use Rattle.terms.specs.Counted.{list, list_from}
use Rattle.terms.specs.Limits.{OBJECTS, OWNED}
use Rattle.terms.proofs.ListLaws.{length_list}
use Rattle.entry.specs.declared.Entry.TheVariants as e
use Rattle.entry.specs.AtNode.{set_unused}
use Rattle.entry.specs.Entry.{is_present}
use Rattle.heap.specs.Walk.{is_marked}
use Rattle.image.specs.declared.Held.{Held}
use Rattle.image.specs.declared.Held.TheVariants as h
use Rattle.image.specs.Find.{entry_in, found_from, size_of}
use Rattle.plan.specs.Change.{Change, Same, Sweep}
use Rattle.etzvanul.specs.Orderly.{Orderly, after_most, length_after, length_with, spliced-length}
use Rattle.plan.specs.Plan.{at, entry_of, entry_spot_in}
use Rattle.plan.specs.Sweep.{object_gone, directory_gone, entry_unused, sweep_changes}
use Rattle.etzvanul.specs.SweepOnward.{Resumes}
use Rattle.etzvanul.specs.Spliced.{swept_image}

module _ (n : ℕ) (l : List ℕ) (p : ℕ) (s : Sweep) where
  abbrev objects : List Change
  objects = list OWNED (object_gone l p s.gone)

  abbrev directories : List Change
  directories = list OWNED (directory_gone l p s.gone)

  abbrev entries : List Change
  entries = list OBJECTS (entry_unused l p s.unused)

  -- the count, and a change for each own object, each own directory and each entry
  changes_many : length (sweep_changes n l p s) ≡ 81
  unfolding sweep_changes
  changes_many =
      omega (
        arith,
        length-append objects (directories ++ entries),
        length-append directories entries,
        length_list 0 OWNED (object_gone l p s.gone),
        length_list 0 OWNED (directory_gone l p s.gone),
        length_list 0 OBJECTS (entry_unused l p s.unused),
      )

  pub swept_most : Orderly 0 (sweep_changes n l p s) (length l) → length (swept_image n l p s) ≤ length l + 1620
  swept_most o =
      omega (arith, spliced-length 0 0 (sweep_changes n l p s) l o, after_most (0 + (length l - 0)) (sweep_changes n l p s), changes_many)

-- ---- an entry that is no longer used has the bytes that it had

present_size : (x : Held) → is_present (entry_in x) ≡ true → size_of (h.Entry (set_unused (entry_in x))) ≡ size_of x
unfolding size_of
present_size h.Nothing present = absurd (false≢true present)
present_size (h.Count n) present = absurd (false≢true present)
present_size (h.Object x) present = absurd (false≢true present)
present_size (h.Roots x) present = absurd (false≢true present)
present_size (h.Entry e.Absent) present = absurd (false≢true present)
present_size (h.Entry (e.AtOwner d)) present = absurd (false≢true present)
present_size (h.Entry (e.Elsewhere r)) present = refl
present_size (h.Message m) present = absurd (false≢true present)

module _ {l : List ℕ} {p : ℕ} {s : Sweep} (r : Resumes l p s) where
  unused_length : (n o : ℕ) → o < OBJECTS → length_with n (entry_unused l p s.unused o) ≡ n
  unfolding found_from
  unused_length n o lt = go (is_marked s.unused o) (r.present o lt)
    where
      go : (b : Bool) → (b ≡ true → is_present (entry_of l p o) ≡ true)
          → length_with n (if b then at (entry_spot_in l p o) p o (h.Entry (set_unused (entry_of l p o))) else Same) ≡ n
      go true present = omega (arith, present_size (entry_spot_in l p o).held (present refl))
      go false present = refl

  unused_lengths : (o k n : ℕ) → o + k ≤ OBJECTS → length_after n (list_from o k (entry_unused l p s.unused)) ≡ n
  unfolding list_from
  unused_lengths o zero n le = refl
  unused_lengths o (suc k) n le =
      ap (λ (m : ℕ). length_after m (list_from (suc o) k (entry_unused l p s.unused))) (unused_length n o (omega arith))
      ∙ unused_lengths (suc o) k n (omega arith)

  pub unused_all : (n : ℕ) → length_after n (list OBJECTS (entry_unused l p s.unused)) ≡ n
  unused_all n = unused_lengths 0 OBJECTS n (omega arith)
