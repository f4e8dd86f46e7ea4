-- In the image of a table the cell is that of the table, which has the shape.
use Rattle.std.specs.Prelude.{refl, Option, Some, None, unwrap_or, IfSome, ◌∷◌, []}
use Rattle.std.proofs.Common.{◌≡◌, ℕ, ◌<◌, ◌≤◌, List, sym, ap, ◌∙◌, lt-ltb, le-ltb}
use Rattle.terms.specs.Counted.{list}
use Rattle.terms.specs.Limits.{NODES, OBJECTS, STEPS, UNREACHED}
use Rattle.terms.proofs.ListLaws.{list_is}
use Rattle.entry.specs.declared.Entry.{Entry}
use Rattle.entry.specs.declared.Entry.TheVariants.{Absent}
use Rattle.table.specs.declared.Cell.{Cell}
use Rattle.table.specs.declared.Slot.{Slot}
use Rattle.table.specs.declared.Table.{Table}
use Rattle.heap.specs.Heap.{fresh_heap}
use Rattle.table.specs.Depth.{depth, depth_report, depth_number, depth_of}
use Rattle.table.specs.DepthLaws.{depth_by_bound}
use Rattle.table.specs.Table.{cell_at}
use Rattle.plan.specs.Plan.{entry_of}
use Rattle.plan.specs.Told.{Told}
use Rattle.etzvanul.proofs.depths.depth_in.Goals as goal
use Rattle.etzvanul.proofs.depths.depth_in.Goals.{then-p-ge-NODES-via-then-p-ge-NODES, then-p-ge-NODES-via-else-p-ge-NODES+then-o-ge-OBJECTS}

-- the entries that the image tells are those of the table's cell
cell_told : (l : List ℕ) (t : Table) → Told l t → (o : ℕ) → o < OBJECTS → (c : Cell)
    → c.at ≡ list NODES (λ p. record { held = entry_of l p o }) → cell_at t o ≡ c
cell_told l t told o lt c is =
    ap (λ (x : List Slot). record { at = x })
    (list_is NODES (λ p. record { held = entry_of l p o }) (record { held = Absent }) (cell_at t o).at (told.formed.entries o lt)
    (λ p lp. ap (λ (e : Entry). record { held = e }) (sym (told.entries p o lp lt)))
    ∙ sym is)

-- the number of a depth that a function tells
reported : (d : Option ℕ) → unwrap_or d UNREACHED ≡ depth_number (depth_of d)
reported None = refl
reported (Some d) = refl

pub returns-then-p-ge-NODES-clause-report : goal.returns-then-p-ge-NODES-clause-report
unfolding depth_report
returns-then-p-ge-NODES-clause-report c t told = elim c.then-p-ge-NODES.branch [
  | then-p-ge-NODES-via-then-p-ge-NODES w ↦ rw (le-ltb _ NODES w.if-p-ge-NODES.true)
  | then-p-ge-NODES-via-else-p-ge-NODES+then-o-ge-OBJECTS w ↦ rw (lt-ltb _ NODES w.if-p-ge-NODES.false, le-ltb _ OBJECTS w.if-o-ge-OBJECTS.true)
]

pub returns-clause-report : goal.returns-clause-report
unfolding depth_report
returns-clause-report c t told =
    let a = c.args in
    let object = c.if-o-ge-OBJECTS.false in
    let same = cell_told a.image.now t told a.o object c.cell_in.result c.cell_in.ensures in
    rw (lt-ltb _ NODES c.if-p-ge-NODES.false, lt-ltb _ OBJECTS object, told.fits)
    (reported c.depth.result ∙ ap depth_number (c.depth.ensures t a.o same))

-- a depth that a cell tells is one of a table that has only this cell, and so at most seven steps
steps : (c : Cell) (p : ℕ) (r : Option ℕ) → ((t : Table) (o : ℕ) → cell_at t o ≡ c → depth_of r ≡ depth t p o) → IfSome r (λ d. d ≤ STEPS)
steps c p None told = tt
steps c p (Some d) told =
    let t : Table = record { count = 0; heap = fresh_heap; cells = c ∷ []; air = [] } in
    depth_by_bound STEPS t 0 p d (sym (told t 0 refl))

pub returns-clause-reached : goal.returns-clause-reached
returns-clause-reached c = steps c.cell_in.result c.args.p c.depth.result c.depth.ensures
