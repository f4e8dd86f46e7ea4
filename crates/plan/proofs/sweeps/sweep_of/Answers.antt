use Rattle.std.proofs.Common.{ap, ◌∙◌, le-ltb, lt-ltb, arith}
use Rattle.std.proofs.lemmas.Result.{err_from_is_err_and}
use Rattle.terms.specs.Limits.{NODES}
use Rattle.plan.specs.Sweep.{sweep_of}
use Rattle.plan.proofs.Collecting.{sweep_from, sweep_from-collection_of, node_of, node_of-collection_of}
use Rattle.plan.proofs.sweeps.sweep_of.Goals as goal

pub returns-then-p-ge-NODES-clause-sweep : goal.returns-then-p-ge-NODES-clause-sweep
unfolding sweep_of
returns-then-p-ge-NODES-clause-sweep c = rw (le-ltb _ NODES c.if-p-ge-NODES.true)

pub returns-in_err-collection-clause-sweep : goal.returns-in_err-collection-clause-sweep
unfolding sweep_of
returns-in_err-collection-clause-sweep c =
    let is =
    ap sweep_from c.in_err-collection.ensures
    ∙ sweep_from-collection_of c.heap_in.result c.args.p c.counted_in.result c.present_in.result in
    let p = err_from_is_err_and c.from_residual.result c.from_residual.ensures.1 in
    rw (p.1, p.2, lt-ltb _ NODES c.if-p-ge-NODES.false) (rw (c.heap_in.ensures, c.counted_in.ensures, c.present_in.ensures) at is)

pub swept-requires : goal.swept-requires
swept-requires c =
    let node =
    ap (node_of c.args.p) c.in_ok-collection.ensures
    ∙ node_of-collection_of c.heap_in.result c.args.p c.counted_in.result c.present_in.result in
    omega (arith, node)

pub returns : goal.returns
unfolding sweep_of
returns c =
    let is =
    ap sweep_from c.in_ok-collection.ensures
    ∙ sweep_from-collection_of c.heap_in.result c.args.p c.counted_in.result c.present_in.result in
    let node =
    ap (node_of c.args.p) c.in_ok-collection.ensures
    ∙ node_of-collection_of c.heap_in.result c.args.p c.counted_in.result c.present_in.result in
    record {
      sweep = rw (c.swept.ensures.tests, lt-ltb _ NODES c.if-p-ge-NODES.false) (rw (c.heap_in.ensures, c.counted_in.ensures, c.present_in.ensures) at is);
      node = c.swept.ensures.node ∙ node;
    }
