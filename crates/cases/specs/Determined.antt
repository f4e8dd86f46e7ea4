-- Each public promise determines what comes of a call: any two results that meet it are equal, for every input, refused ones as well (document 01,
-- "What shuts out a hollow build"). A promise is a condition on results. Nearly every one names its result, `r ≡ definition`, and `named` is the
-- theorem of all of these; the others, and the calls that a host, a run or a scenario goes through, stand below it. Assumes nothing.
use Rattle.std.specs.Prelude.{◌≡◌, refl, Bool, List, [], ◌∷◌, ◌++◌, ℕ, ◌<◌, length, ⊤, Option, Result, IfOk, IfSome, unwrap_or}
use Rattle.std.proofs.Common.{sym, ap, ap₂, ◌∙◌}
use Rattle.terms.specs.Counted.{holds, list}
use Rattle.terms.specs.Limits.{OBJECTS, OWNED, PLACES}
use Rattle.terms.specs.Refusals.{answer_of}
use Rattle.terms.specs.declared.Refusal.{Refusal}
use Rattle.entry.specs.declared.Act.{Act}
use Rattle.entry.specs.declared.Entry.{Entry}
use Rattle.entry.specs.declared.ReturnCount.{ReturnCount}
use Rattle.entry.specs.declared.Weight.{Weight}
use Rattle.entry.specs.Acts.{Acted, told}
use Rattle.lent.specs.Lent.{lent}
use Rattle.heap.specs.declared.Heap.{Heap}
use Rattle.heap.specs.declared.Marks.{Marks}
use Rattle.heap.specs.Heap.{free_own, fresh_heap, roots_of}
use Rattle.heap.specs.Walk.{held_by, owned_by, pointed, reached}
use Rattle.table.specs.declared.Cell.{Cell}
use Rattle.table.specs.Depth.{Depth}
use Rattle.table.specs.declared.Table.{Table}
use Rattle.table.specs.Depth.{depth, depth_of}
use Rattle.table.specs.Table.{cell_at, empty_place}
use Rattle.step.specs.declared.Deed.{Deed}
use Rattle.step.specs.declared.Event.{Event}
use Rattle.step.specs.Outcome.{Outcome}
use Rattle.step.specs.Deed.{deed_of}
use Rattle.step.specs.Outcome.{outcome_of, value_of}
use Rattle.step.specs.Receive.{receipt}
use Rattle.step.specs.Step.{step}
use Rattle.image.specs.declared.Loaded as kept
use Rattle.image.specs.Check.{check}
use Rattle.image.specs.Reader.{Loaded}
use Rattle.image.specs.Writer as image
use Rattle.image.specs.Reader.{loaded_of, read}
use Rattle.run.specs.declared.Told.{Told}
use Rattle.run.specs.Ran.{Ran}
use Rattle.run.specs.Ran.{ran, ran_of, run_bytes}
use Rattle.scenario.specs.declared.Unwritten.{Unwritten}
use Rattle.scenario.specs.Written as scenario
use Rattle.scenario.specs.Records as records
use Rattle.scenario.specs.Records.{buffer_of, written_of}
use Rattle.plan.specs.declared.Plan.{Plan}
use Rattle.plan.specs.declared.Sweep.{Sweep}
use Rattle.plan.specs.Made.{plan_made, sweep_made}
use Rattle.plan.specs.Plan.{plan_of}
use Rattle.plan.specs.Sweep.{sweep_of}
use Rattle.etzvanul.specs.HostCall.{host_bytes, host_number, start_bytes, start_number}
use Rattle.cases.specs.HandedBack.{OneToOne, told_one, answer_of_one, unwrap_or_one, depth_of_one, deed_of_one, outcome_of_one}
use Rattle.cases.specs.HandedBack.{loaded_of_one, written_of_one, ran_of_one, scenario_one, plan_made_one, sweep_made_one}

-- ---- what is meant

-- any two results that meet the promise are equal
abbrev pub Determined : {R : Type 0} → (R → Type 0) → Type 0
Determined {R} Promise = (r s : R) → Promise r → Promise s → r ≡ s

-- a promise that names its result
pub named : {R : Type 0} (definition : R) → Determined (λ r. r ≡ definition)
named definition r s p q = p ∙ sym q

-- what comes back of a call, and what was lent to it, as it is afterwards
pub record Left (R L : Type 0) : Type 0 where
  pub back : R
  pub lent : L

-- a promise that names both
pub both_named : {R L : Type 0} (definition : R) (after : L) → Determined (λ (l : Left R L). (l.back ≡ definition) × (l.lent ≡ after))
both_named {R} {L} definition after r s p q =
    ap₂ (λ (x : R) (y : L). record { back = x; lent = y }) (named definition r.back s.back p.0 q.0)
    (named after r.lent s.lent p.1 q.1)

-- ---- one event

-- `step`
pub step_determined : (t : Table) (e : Event) → Determined (λ r. r ≡ step t e)
step_determined t e = named (step t e)

-- its answer, its value and its table, each by itself
pub step_parts : (t : Table) (e : Event) (r s : Outcome) → r ≡ step t e → s ≡ step t e
    → (r.answer ≡ s.answer) × (value_of r.deed ≡ value_of s.deed) × (r.table ≡ s.table)
step_parts t e r s p q =
    let same = step_determined t e r s p q in (
      ap (λ (o : Outcome). o.answer) same,
      ap (λ (o : Outcome). value_of o.deed) same,
      ap (λ (o : Outcome). o.table) same,
    )

-- ---- marks, of which a promise tells their only field

pub marked : (seen : List Bool) → Determined (λ (m : Marks). m.seen ≡ seen)
marked seen r s p q = ap (λ (x : List Bool). record { seen = x }) (named seen r.seen s.seen p q)

-- `Heap::reached`
pub reached_determined : (h : Heap) (p : ℕ) (counted : List Bool)
    → Determined (λ (m : Marks). m.seen ≡ reached h (owned_by p) (roots_of h p ++ pointed p counted))
reached_determined h p counted = marked (reached h (owned_by p) (roots_of h p ++ pointed p counted))

-- `Heap::held`
pub held_determined : (h : Heap) (p : ℕ) (marks : Marks)
    → Determined (λ (m : Marks). m.seen ≡ list OBJECTS (holds (roots_of h p ++ held_by h marks.seen)))
held_determined h p marks = marked (list OBJECTS (holds (roots_of h p ++ held_by h marks.seen)))

-- ---- the depth in a cell, of which a promise tells for every table that has it

-- `Cell::depth`
pub depth_determined : (c : Cell) (p : ℕ) → Determined (λ (r : Depth). (t : Table) (o : ℕ) → cell_at t o ≡ c → r ≡ depth t p o)
depth_determined c p =
    let t : Table = record { count = 0; heap = fresh_heap; cells = c ∷ []; air = [] } in
    λ r s first second. first t 0 refl ∙ sym (second t 0 refl)

-- ---- the saved image

-- the reader: answer and table
pub read_determined : (bytes : List ℕ) → Determined (λ (r : Loaded). r ≡ read bytes)
read_determined bytes = named (read bytes)

-- the writer's promise tells answer, length and buffer apart; that it leaves nothing open is proved in proofs/WriterDetermined.antt
pub record Tells (answer size : ℕ) (bytes : List ℕ) (l : Left image.Written (List ℕ)) : Type 0 where
  pub number : l.back.answer ≡ answer
  pub length : l.back.length ≡ size
  pub buffer : l.lent ≡ bytes

-- ---- whole calls

-- `run`: answer, summary and the text's length; and the bytes
pub run_determined : (input out : List ℕ) → Determined (λ (l : Left Ran (List ℕ)). (l.back ≡ ran input out) × (l.lent ≡ run_bytes input out))
run_determined input out = both_named (ran input out) (run_bytes input out)

-- the host call: the number that comes back, and the bytes
pub host_determined : (old event out : List ℕ)
    → Determined (λ (l : Left ℕ (List ℕ)). (l.back ≡ host_number old event out) × (l.lent ≡ host_bytes old event out))
host_determined old event out = both_named (host_number old event out) (host_bytes old event out)

-- the fresh image
pub start_determined : (out : List ℕ) → Determined (λ (l : Left ℕ (List ℕ)). (l.back ≡ start_number out) × (l.lent ≡ start_bytes out))
start_determined out = both_named (start_number out) (start_bytes out)

-- a decrement settled on a lent entry: the number, and the entry
pub settle_determined : (e : Entry) (m : ReturnCount) (n : Weight)
    → Determined (λ (l : Left ℕ Entry). (l.back ≡ (lent e m n).refusal) × (l.lent ≡ (lent e m n).entry))
settle_determined e m n = both_named (lent e m n).refusal (lent e m n).entry

-- `write_events`: answer, length and bad line; and the bytes
pub events_determined : (text out : List ℕ)
    → Determined (λ (l : Left scenario.Written (List ℕ)). (l.back ≡ written_of text (length out)) × (l.lent ≡ buffer_of text out))
events_determined text out = both_named (written_of text (length out)) (buffer_of text out)

-- ---- the code's own results, which a promise tells through a definition that is one-to-one (specs/HandedBack.antt)

-- a promise of what the result stands for
pub through : {R M : Type 0} (f : R → M) → OneToOne f → (m : M) → Determined (λ (r : R). f r ≡ m)
through f one m r s p q = one r s (p ∙ sym q)

-- both parts the same
pub left_same : {R L : Type 0} (r s : Left R L) → r.back ≡ s.back → r.lent ≡ s.lent → r ≡ s
left_same {R} {L} r s = ap₂ (λ (x : R) (y : L). record { back = x; lent = y })

-- and a promise of what is left of what was lent
pub both_through : {R L M : Type 0} (f : R → M) → OneToOne f → (m : M) (after : L)
    → Determined (λ (l : Left R L). (f l.back ≡ m) × (l.lent ≡ after))
both_through f one m after r s p q = left_same r s (through f one m r.back s.back p.0 q.0) (named after r.lent s.lent p.1 q.1)

-- each act on an entry, a directory or a remote entry: refusal and entry
pub act_result : {E : Type 0} (a : Acted E) → Determined (λ (r : Act E). told r ≡ a)
act_result = through told told_one

-- `lent::settle`: refused or not, and the entry
pub settle_result : (e : Entry) (m : ReturnCount) (n : Weight)
    → Determined (λ (l : Left (Result ⊤ Refusal) Entry). (answer_of l.back ≡ (lent e m n).refusal) × (l.lent ≡ (lent e m n).entry))
settle_result e m n = both_through answer_of answer_of_one (lent e m n).refusal (lent e m n).entry

-- `Heap::free_own`
pub free_own_result : (h : Heap) (p : ℕ) → Determined (λ (r : Option ℕ). (unwrap_or r OWNED ≡ free_own h p) × IfSome r (λ k. k < OWNED))
free_own_result h p r s a b = unwrap_or_one OWNED r s a.1 b.1 (a.0 ∙ sym b.0)

-- `Table::empty_place`
pub empty_place_result : (t : Table) → Determined (λ (r : Option ℕ). (unwrap_or r PLACES ≡ empty_place t) × IfSome r (λ s. s < PLACES))
empty_place_result t r s a b = unwrap_or_one PLACES r s a.1 b.1 (a.0 ∙ sym b.0)

-- `Cell::depth`
pub cell_depth_result : (c : Cell) (p : ℕ) → Determined (λ (r : Option ℕ). (t : Table) (o : ℕ) → cell_at t o ≡ c → depth_of r ≡ depth t p o)
cell_depth_result c p r s a b = depth_of_one r s (depth_determined c p (depth_of r) (depth_of s) a b)

-- `Table::depth`
pub depth_result : (t : Table) (p o : ℕ) → Determined (λ (r : Option ℕ). depth_of r ≡ depth t p o)
depth_result t p o = through depth_of depth_of_one (depth t p o)

-- `step`: the deed or the refusal, and the table
pub step_result : (t : Table) (e : Event) → Determined (λ (l : Left (Result Deed Refusal) Table). outcome_of l.back l.lent ≡ step t e)
step_result t e r s p q =
    let same = outcome_of_one r.back s.back r.lent s.lent (p ∙ sym q) in left_same r s same.0 same.1

-- `receipt`
pub receipt_result : (s from : ℕ) (e : Entry) → Determined (λ (r : Deed). deed_of r ≡ receipt s from e)
receipt_result s from e = through deed_of deed_of_one (receipt s from e)

-- `read`
pub read_result : (bytes : List ℕ) → Determined (λ (r : kept.Loaded). loaded_of r ≡ read bytes)
read_result bytes = through loaded_of loaded_of_one (read bytes)

-- `check`
pub check_result : (bytes : List ℕ) → Determined (λ (r : Result ⊤ Refusal). answer_of r ≡ check bytes)
check_result bytes = through answer_of answer_of_one (check bytes)

-- what a write hands back, in the words of its promise
abbrev pub write_told : Left (Result ℕ Refusal) (List ℕ) → Left image.Written (List ℕ)
write_told l = record { back = image.written_of l.back; lent = l.lent }

-- `write` and `put_image`: the length or the refusal, and the buffer
pub written_result : (answer size : ℕ) (bytes : List ℕ) → Determined (λ (l : Left (Result ℕ Refusal) (List ℕ)). Tells answer size bytes (write_told l))
written_result answer size bytes r s p q =
    left_same r s
    (written_of_one r.back s.back (ap₂ (λ (a n : ℕ). record { answer = a; length = n }) (p.number ∙ sym q.number) (p.length ∙ sym q.length)))
    (p.buffer ∙ sym q.buffer)

-- `run`: the length and the summary or the refusal, and the bytes
pub run_result : (input out : List ℕ)
    → Determined (λ (l : Left (Result Told Refusal) (List ℕ)). (ran_of l.back ≡ ran input out) × (l.lent ≡ run_bytes input out))
run_result input out = both_through ran_of ran_of_one (ran input out) (run_bytes input out)

-- `write_events`: the length or why nothing is written, and the bytes
pub events_result : (text out : List ℕ)
    → Determined (λ (l : Left (Result ℕ Unwritten) (List ℕ)). (records.answer_of l.back ≡ written_of text (length out)) × (l.lent ≡ buffer_of text out))
events_result text out = both_through records.answer_of scenario_one (written_of text (length out)) (buffer_of text out)

-- `plan_of`
pub plan_result : (l : List ℕ) (e : Event) → Determined (λ (r : Result Plan Refusal). plan_made r ≡ plan_of l e)
plan_result l e = through plan_made plan_made_one (plan_of l e)

-- `sweep_of`
pub sweep_result : (l : List ℕ) (p : ℕ)
    → Determined (λ (r : Result Sweep Refusal). (sweep_made r ≡ sweep_of l p) × IfOk r (λ s. s.node ≡ p))
sweep_result l p r s a b = sweep_made_one p r s a.1 b.1 (a.0 ∙ sym b.0)
