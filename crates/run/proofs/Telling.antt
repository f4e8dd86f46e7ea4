-- A run record by record: what is still to be told, from the records that are left, makes the whole with what was written. Assumes nothing.
use Rattle.std.proofs.Common.{◌≡◌, refl, sym, ap, ◌∙◌, ℕ, suc, ◌+◌, ◌*◌, ◌-◌, ◌<◌, ◌≤◌, Bool, true, false, not, eqb, ltb, ltb-false, List, ◌++◌, if◌then◌else◌, length, drop, Ok, arith}
use Rattle.step.specs.declared.Event.{Event}
use Rattle.step.specs.EventRecord.{RECORD, event_in, states_event}
use Rattle.step.specs.Step.{step}
use Rattle.run.specs.declared.Next.{Next}
use Rattle.run.specs.declared.Next.TheVariants.{Nothing, Broken, Found}
use Rattle.run.specs.declared.Progress.{Progress}
use Rattle.run.specs.declared.Told.{Told}
use Rattle.run.specs.declared.text.Text.{Text}
use Rattle.run.specs.Buffer.{Appends, Wrote}
use Rattle.run.specs.Next.{next}
use Rattle.run.specs.Ran.{LINE, Ended, ran_of, told}
use Rattle.run.specs.Run.{RECORDS, after, beginning, ending, end_from, end_of, line, run_end, run_from, run_text, summary, text_of}
use Rattle.run.proofs.Counting.{one_decrement}
use Rattle.run.proofs.Written.{wrote_both, wrote_length}

-- ---- one record

-- an event has all of its bytes
pub found_whole : (l : List ℕ) (e : Event) → next l ≡ Found e → RECORD ≤ length l
unfolding next
found_whole l e = go (eqb (length l) 0) (ltb (length l) RECORD) refl
  where
    go : (none short : Bool) → ltb (length l) RECORD ≡ short
        → (if none then Nothing else if short then Broken else if not (states_event l) then Broken else Found (event_in l)) ≡ Found e
        → RECORD ≤ length l
    go true short t f = let z : ◌≡◌ {A = ℕ} 0 1 = cc in absurd (omega arith)
    go false true t f = let z : ◌≡◌ {A = ℕ} 0 1 = cc in absurd (omega arith)
    go false false t f = ltb-false (length l) RECORD t

-- what is not an event ends the run
abbrev pub Untaken : Next → Type 0
Untaken front = (e : Event) → front ≡ Found e → ⊥

untaken_text : (p : Progress) (front : Next) (go : Progress → List ℕ) → Untaken front → text_of p front go ≡ ending (summary p) front
untaken_text p Nothing go k = refl
untaken_text p Broken go k = refl
untaken_text p (Found e) go k = absurd (k e refl)

untaken_end : (p : Progress) (front : Next) (go : Progress → Progress) → Untaken front → end_of p front go ≡ p
untaken_end p Nothing go k = refl
untaken_end p Broken go k = refl
untaken_end p (Found e) go k = absurd (k e refl)

-- ---- on the way

-- at this point of the run: the record with this number is next, and this is left of the input
pub record Ahead (input : List ℕ) (t₀ t : Text) (p : Progress) (rest : List ℕ) (number : ℕ) : Type 0 where
  pub same_reference : t.out.ghost_name ≡ t₀.out.ghost_name
  pub next : number ≡ p.records + 1
  pub few : p.records ≤ RECORDS
  pub sent : p.sent ≤ p.records
  pub saved : p.saved ≤ p.records
  pub short : t.length ≤ LINE * p.records
  pub same : length t.out.now ≡ length t₀.out.now
  pub tells : (end : List ℕ) (n : ℕ) → Wrote t.out.now t.length (run_from (RECORDS - p.records) p rest) end n → Wrote t₀.out.now 0 (run_text input) end n
  pub ends : run_end input ≡ end_from (RECORDS - p.records) p rest

-- where it begins
pub ahead_all : (input : List ℕ) (t : Text) → t.length ≡ 0 → Ahead input t t beginning input 1
unfolding run_text run_end
ahead_all input t empty = record {
  same_reference = refl;
  next = refl;
  few = omega arith;
  sent = omega arith;
  saved = omega arith;
  short = omega arith;
  same = refl;
  tells = λ end n w. rw empty at w;
  ends = refl;
}

module _ {input : List ℕ} {t₀ t : Text} {p : Progress} {rest : List ℕ} {number : ℕ} (a : Ahead input t₀ t p rest number) where
  -- one record fewer
  fewer : p.records < RECORDS → RECORDS - p.records ≡ suc (RECORDS - (p.records + 1))
  fewer lt = omega arith

  -- an event more
  module _ (e : Event) (lt : p.records < RECORDS) (f : next rest ≡ Found e) where
    text_more : run_from (RECORDS - p.records) p rest
        ≡ line (p.records + 1) e (step p.table e) ++ run_from (RECORDS - (p.records + 1)) (after p (step p.table e)) (drop RECORD rest)
    unfolding run_from
    text_more = rw (fewer lt, f)

    end_more : end_from (RECORDS - p.records) p rest ≡ end_from (RECORDS - (p.records + 1)) (after p (step p.table e)) (drop RECORD rest)
    unfolding end_from
    end_more = rw (fewer lt, f)

    pub ahead_more : {t' : Text} → Appends t (line number e (step p.table e)) t'
        → t'.length ≤ t.length + LINE → Ahead input t₀ t' (after p (step p.table e)) (drop RECORD rest) (number + 1)
    ahead_more {t'} w le = record {
      same_reference = w.same_reference ∙ a.same_reference;
      next = ap (λ (n : ℕ). n + 1) a.next;
      few = omega arith;
      sent = omega (arith, a.sent, one_decrement (step p.table e).deed);
      saved = omega (arith, a.saved, one_decrement (step p.table e).deed);
      short = omega (arith, a.short);
      same = wrote_length w.wrote ∙ a.same;
      tells = λ end n v. a.tells end n (rw text_more (wrote_both (rw a.next at w.wrote) v));
      ends = a.ends ∙ end_more;
    }

  -- ---- where it ends

  module _ {front : Next} (n : front ≡ next rest) {end : List ℕ} (r : Told)
      (f : Ended p front t.out.now t.length end (ran_of (Ok r))) where
    closes : run_from (RECORDS - p.records) p rest ≡ ending (summary p) front → end_from (RECORDS - p.records) p rest ≡ p
        → (ran_of (Ok r) ≡ told input) × Wrote t₀.out.now 0 (run_text input) end r.length
    closes x e =
        let w = a.tells end r.length (rw x f.2) in
        let size : r.length ≡ length (run_text input) = omega (arith, w.place) in
        let last : r.summary ≡ summary (run_end input) = f.1 ∙ ap summary (sym (a.ends ∙ e)) in
        (rw (size, last), w)

    -- before the last record that a run takes
    pub stopped : p.records < RECORDS → Untaken front → (ran_of (Ok r) ≡ told input) × Wrote t₀.out.now 0 (run_text input) end r.length
    unfolding run_from end_from
    stopped lt k = closes (rw (fewer lt, ← n) (untaken_text p front _ k)) (rw (fewer lt, ← n) (untaken_end p front _ k))

    -- after it
    pub full : RECORDS ≤ p.records → (ran_of (Ok r) ≡ told input) × Wrote t₀.out.now 0 (run_text input) end r.length
    unfolding run_from end_from
    full ge =
        let none : RECORDS - p.records ≡ 0 = omega arith in
        closes (rw (none, n)) (rw none)
