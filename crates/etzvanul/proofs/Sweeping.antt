-- The copying and the length one change further, and a COLLECT under way: the changes that are left of it, and the functions that give them.
-- Assumes nothing.
use Rattle.std.specs.Prelude.{◌≡◌, refl, List, [], ◌∷◌, ◌++◌, ℕ, ◌+◌, ◌-◌, ◌*◌, ◌≤◌, ◌<◌, length, Option}
use Rattle.std.proofs.Common.{sym, ap, ◌∙◌, arith}
use Rattle.std.proofs.Math.Path.{subst}
use Rattle.std.proofs.lemmas.List.Edits.{sets}
use mathlib.Core.List.{append-nil}
use Rattle.terms.specs.Counted.{list_from}
use Rattle.terms.proofs.CountedLaws.{list_from_first, list_from_none}
use Rattle.terms.specs.Limits.{OBJECTS, OWNED}
use Rattle.image.specs.declared.Held.TheVariants as h
use Rattle.image.specs.Order.{position}
use Rattle.image.specs.Stored.{FULL}
use Rattle.splice.specs.Onward.{From}
use Rattle.splice.proofs.Resumed.{from_later}
use Rattle.plan.specs.declared.Replacement.{Replacement}
use Rattle.plan.specs.Made.{change_of}
use Rattle.plan.specs.Change.{Change, To, Sweep}
use Rattle.etzvanul.specs.declared.Cursor.{Cursor}
use Rattle.etzvanul.specs.Orderly.{Orderly, Cuts, Moved, passed, put, length_with, length_after, counted_length}
use Rattle.plan.specs.Sweep.{object_gone, directory_gone, entry_unused, sweep_changes}
use Rattle.etzvanul.specs.InTurn.{Gives, Puts, Measures}
use Rattle.etzvanul.specs.SweepOnward.{Resumes, first_on, object_on, directory_on, entry_on}
use Rattle.etzvanul.specs.Spliced.{swept_image}
use Rattle.etzvanul.specs.Going.{Going, ready, on, start, Lasting, taken, lasting_on, Measured}

-- ---- the changes left

-- of the entries from o on; of the directories from k on, then all entries; of the objects from i on, then all directories and entries
abbrev pub entries_left : List ℕ → ℕ → Sweep → ℕ → List Change
entries_left l p s o = list_from o (OBJECTS - o) (entry_unused l p s.unused)

abbrev pub directories_left : List ℕ → ℕ → Sweep → ℕ → List Change
directories_left l p s k = list_from k (OWNED - k) (directory_gone l p s.gone) ++ entries_left l p s 0

abbrev pub objects_left : List ℕ → ℕ → Sweep → ℕ → List Change
objects_left l p s i = list_from i (OWNED - i) (object_gone l p s.gone) ++ directories_left l p s 0

-- a list of changes before others, one further
module _ (f : ℕ → Change) (rest : List Change) (i n : ℕ) where
  pub next_left : i < n → list_from i (n - i) f ++ rest ≡ f i ∷ (list_from (i + 1) (n - (i + 1)) f ++ rest)
  next_left lt = ap (λ (cs : List Change). cs ++ rest) (list_from_first lt f)

  pub none_left : n ≤ i → list_from i (n - i) f ++ rest ≡ rest
  none_left le = ap (λ (cs : List Change). cs ++ rest) (list_from_none le f)

-- ---- the copying

module _ (count : ℕ) (l : List ℕ) (p : ℕ) (s : Sweep) (out : List ℕ)
    (pre : Orderly 0 (sweep_changes count l p s) (length l) × (length (swept_image count l p s) ≤ length out)) where
  pub sweep_start : Going (sets out 0 (swept_image count l p s)) l (To 0 8 0 0 (h.Count count) ∷ objects_left l p s 0) 0 0 out
  unfolding sweep_changes
  sweep_start = start count (objects_left l p s 0) l out pre

  -- the event count stands
  pub sweep_counted : Resumes l p s → {next : Cursor} {out' : List ℕ}
      → Moved l (record { from = 0; to = 0 }) (To 0 8 0 0 (h.Count count)) out next out'
      → Going (sets out 0 (swept_image count l p s)) l (objects_left l p s 0) next.from next.to out' × From l next.from (position 1 (OWNED * p + 0))
  sweep_counted r put = (on sweep_start put, rw put.place (first_on r))

module _ {whole l : List ℕ} {cs : List Change} {from to : ℕ} {out : List ℕ} (g : Going whole l cs from to out) where
  pub behind : {more : List Change} → cs ≡ more → Going whole l more from to out
  behind is = subst (λ (ds : List Change). Going whole l ds from to out) is g

-- x is the first change left
module _ {whole l : List ℕ} {cs more : List Change} {from to : ℕ} {out : List ℕ} {x y : Change}
    (g : Going whole l cs from to out) (is : cs ≡ y ∷ more) (made : x ≡ y) where
  first : Going whole l (x ∷ more) from to out
  first = subst (λ (ds : List Change). Going whole l ds from to out) (is ∙ ap (λ (z : Change). z ∷ more) (sym made)) g

  pub ready_next : Orderly from (x ∷ []) (length l) × (to + length (put from x l) ≤ length out)
  ready_next = ready first

  pub on_next : {next : Cursor} {out' : List ℕ} → Moved l (record { from = from; to = to }) x out next out'
      → Going whole l more next.from next.to out'
  on_next m = on first m

-- ---- the length

module _ {n whole most : ℕ} {cs more : List Change} {m : ℕ} {x y : Change}
    (g : Measured n whole most cs m) (is : cs ≡ y ∷ more) (made : x ≡ y) where
  same : cs ≡ x ∷ more
  same = is ∙ ap (λ (z : Change). z ∷ more) (sym made)

  lasts : Lasting n most (x ∷ more) g.from m
  lasts = subst (λ (ds : List Change). Lasting n most ds g.from m) same g.lasting

  pub cut_next : Cuts m x
  cut_next = taken lasts

  pub measured_on : {m' most' : ℕ} → m' ≡ length_with m x → most + 20 ≤ most' → Measured n whole most' more m'
  measured_on at le =
      let on = lasting_on lasts at in
      record {
        from = passed g.from x;
        lasting = record { orderly = on.orderly; enough = on.enough; small = omega (arith, on.small) };
        left = ap (λ (k : ℕ). length_after k more) at ∙ ap (length_after m) (sym same) ∙ g.left;
      }

module _ {n whole most : ℕ} {cs : List Change} {m : ℕ} (g : Measured n whole most cs m) where
  -- the next kind of changes
  pub measured_next : {more : List Change} {most' : ℕ} → cs ≡ more → most ≤ most' → Measured n whole most' more m
  measured_next {most' = most'} is le =
      subst (λ (ds : List Change). Measured n whole most' ds m) is (record {
        from = g.from;
        lasting = record { orderly = g.lasting.orderly; enough = g.lasting.enough; small = omega (arith, g.lasting.small) };
        left = g.left;
      })

  pub measured_left : {more : List Change} → cs ≡ more → length_after m more ≡ whole
  measured_left is = ap (length_after m) (sym is) ∙ g.left

module _ (l : List ℕ) (p : ℕ) (s : Sweep) (pre : (length l ≤ FULL) × Orderly 0 (sweep_changes 0 l p s) (length l)) where
  pub sweep_measured : Measured (length l) (length_after (length l) (objects_left l p s 0)) FULL (objects_left l p s 0) (length l)
  unfolding sweep_changes
  sweep_measured = record {
    from = 8;
    lasting = record { orderly = pre.1.2; enough = omega arith; small = pre.0 };
    left = refl;
  }

  -- nor to the length
  pub sweep_length : (count : ℕ) → length_after (length l) (objects_left l p s 0) ≡ length (swept_image count l p s)
  unfolding sweep_changes
  sweep_length count = counted_length count (objects_left l p s 0) l pre.1.2

-- ---- the functions that give the changes in turn

module _ {l : List ℕ} {p : ℕ} {s : Sweep} (r : Resumes l p s) {pre : ℕ → ℕ → Type 0} {post : ℕ → ℕ → Option Replacement → Type 0} where
  pub object_gives : ((from k : ℕ) → k < OWNED → From l from (position 1 (OWNED * p + k)) → pre from k)
      → ((from k : ℕ) (x : Option Replacement) → k < OWNED → From l from (position 1 (OWNED * p + k)) → post from k x
      → change_of x ≡ object_gone l p s.gone k)
      → Gives l OWNED pre post (object_gone l p s.gone) (λ k. position 1 (OWNED * p + k))
  object_gives asked given = record {
    asked = asked;
    given = given;
    onward = λ from k lt scan. object_on r {x = object_gone l p s.gone k} refl k lt refl scan;
  }

  pub directory_gives : ((from k : ℕ) → k < OWNED → From l from (position 3 (OWNED * p + k)) → pre from k)
      → ((from k : ℕ) (x : Option Replacement) → k < OWNED → From l from (position 3 (OWNED * p + k)) → post from k x
      → change_of x ≡ directory_gone l p s.gone k)
      → Gives l OWNED pre post (directory_gone l p s.gone) (λ k. position 3 (OWNED * p + k))
  directory_gives asked given = record {
    asked = asked;
    given = given;
    onward = λ from k lt scan. directory_on r {x = directory_gone l p s.gone k} refl k lt refl scan;
  }

  pub entry_gives : ((from o : ℕ) → o < OBJECTS → From l from (position 4 (256 * p + o)) → pre from o)
      → ((from o : ℕ) (x : Option Replacement) → o < OBJECTS → From l from (position 4 (256 * p + o)) → post from o x
      → change_of x ≡ entry_unused l p s.unused o)
      → Gives l OBJECTS pre post (entry_unused l p s.unused) (λ o. position 4 (256 * p + o))
  entry_gives asked given = record {
    asked = asked;
    given = given;
    onward = λ from o lt scan. entry_on r {x = entry_unused l p s.unused o} refl o lt refl scan;
  }

  -- so the copying goes on with each kind of change where the last kind ended
  pub object_puts : {whole : List ℕ} {c : Cursor} {out : List ℕ}
      → Going whole l (objects_left l p s 0) c.from c.to out × From l c.from (position 1 (OWNED * p + 0))
      → ((from k : ℕ) → k < OWNED → From l from (position 1 (OWNED * p + k)) → pre from k)
      → ((from k : ℕ) (x : Option Replacement) → k < OWNED → From l from (position 1 (OWNED * p + k)) → post from k x
      → change_of x ≡ object_gone l p s.gone k)
      → Puts l OWNED pre post (object_gone l p s.gone) (λ k. position 1 (OWNED * p + k)) whole (directories_left l p s 0) c out
  object_puts at asked given = record { gives = object_gives asked given; scan = at.1; going = at.0 }

  pub directory_puts : {whole : List ℕ} {c : Cursor} {out : List ℕ}
      → Going whole l (directories_left l p s 0) c.from c.to out × From l c.from (position 1 (OWNED * p + OWNED))
      → ((from k : ℕ) → k < OWNED → From l from (position 3 (OWNED * p + k)) → pre from k)
      → ((from k : ℕ) (x : Option Replacement) → k < OWNED → From l from (position 3 (OWNED * p + k)) → post from k x
      → change_of x ≡ directory_gone l p s.gone k)
      → Puts l OWNED pre post (directory_gone l p s.gone) (λ k. position 3 (OWNED * p + k)) whole (entries_left l p s 0) c out
  directory_puts {c = c} at asked given = record {
    gives = directory_gives asked given;
    scan = from_later l c.from _ _ (omega arith) at.1;
    going = at.0;
  }

  pub entry_puts : {whole : List ℕ} {c : Cursor} {out : List ℕ}
      → Going whole l (entries_left l p s 0) c.from c.to out × From l c.from (position 3 (OWNED * p + OWNED))
      → ((from o : ℕ) → o < OBJECTS → From l from (position 4 (256 * p + o)) → pre from o)
      → ((from o : ℕ) (x : Option Replacement) → o < OBJECTS → From l from (position 4 (256 * p + o)) → post from o x
      → change_of x ≡ entry_unused l p s.unused o)
      → Puts l OBJECTS pre post (entry_unused l p s.unused) (λ o. position 4 (256 * p + o)) whole [] c out
  entry_puts {c = c} at asked given = record {
    gives = entry_gives asked given;
    scan = from_later l c.from _ _ (omega arith) at.1;
    going = behind at.0 (sym (append-nil _));
  }

  -- and the length does
  pub object_measures : {old whole m : ℕ} → Measured old whole FULL (objects_left l p s 0) m
      → ((from k : ℕ) → k < OWNED → From l from (position 1 (OWNED * p + k)) → pre from k)
      → ((from k : ℕ) (x : Option Replacement) → k < OWNED → From l from (position 1 (OWNED * p + k)) → post from k x
      → change_of x ≡ object_gone l p s.gone k)
      → Measures l OWNED pre post (object_gone l p s.gone) (λ k. position 1 (OWNED * p + k)) old whole FULL (directories_left l p s 0) 8 m
  object_measures measured asked given = record { gives = object_gives asked given; scan = first_on r; measured = measured; small = omega arith }

  pub directory_measures : {old whole m from : ℕ}
      → Measured old whole (FULL + 160) (directories_left l p s 0) m × From l from (position 1 (OWNED * p + OWNED))
      → ((from k : ℕ) → k < OWNED → From l from (position 3 (OWNED * p + k)) → pre from k)
      → ((from k : ℕ) (x : Option Replacement) → k < OWNED → From l from (position 3 (OWNED * p + k)) → post from k x
      → change_of x ≡ directory_gone l p s.gone k)
      → Measures l OWNED pre post (directory_gone l p s.gone) (λ k. position 3 (OWNED * p + k)) old whole (FULL + 160) (entries_left l p s 0) from m
  directory_measures {from = from} at asked given = record {
    gives = directory_gives asked given;
    scan = from_later l from _ _ (omega arith) at.1;
    measured = at.0;
    small = omega arith;
  }
