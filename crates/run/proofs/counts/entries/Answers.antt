use Rattle.std.proofs.Common.{refl, ◌∙◌, ◌^◌, ◌<◌, rules, arith}
use Rattle.std.proofs.lemmas.Iterator.{YieldsList-from_range, YieldsList-from_map}
use Rattle.std.proofs.lemmas.Iterator.Consumers.{fits_by_from_yields_list, sum_by_from_yields_List}
use Rattle.std.proofs.lemmas.List.Sums.{sum_by-le}
use Rattle.std.specs.List.{range_with_len, sum_by}
use Rattle.terms.proofs.CountedLaws.{how_many_bound}
use Rattle.terms.specs.Limits.{NODES, OBJECTS}
use Rattle.table.specs.declared.Table.{Table}
use Rattle.run.specs.Run.{entries_of}
use Rattle.run.proofs.Counting.{sum_by-range}
use Rattle.run.proofs.counts.entries.Goals as goal

-- an object has one entry for each node at most, so all have few
few : (t : Table) → sum_by (entries_of t) (range_with_len 0 OBJECTS) < 2 ^ 32
few t =
    omega (arith, sum_by-le (entries_of t) NODES (range_with_len 0 OBJECTS) (λ k d lt. how_many_bound NODES _))

pub sum-requires-clause-fits : goal.sum-requires-clause-fits
sum-requires-clause-fits c =
    let objects = YieldsList-from_range 0 OBJECTS OBJECTS c.map.ensures.source refl in
    fits_by_from_yields_list (entries_of c.args.t.now) (range_with_len 0 OBJECTS) c.map.result _
    (YieldsList-from_map _ (entries_of c.args.t.now) objects c.map.ensures.closure (λ x r q k. search rules))
    (few c.args.t.now)

pub returns : goal.returns
returns c =
    let objects = YieldsList-from_range 0 OBJECTS OBJECTS c.map.ensures.source refl in
    sum_by_from_yields_List (entries_of c.args.t.now) (range_with_len 0 OBJECTS) c.map.result _ c.sum.ensures.ran
    (YieldsList-from_map _ (entries_of c.args.t.now) objects c.map.ensures.closure (λ x r q k. search rules))
    ∙ sum_by-range (entries_of c.args.t.now) 0 OBJECTS
