use Rattle.std.proofs.Common.{◌≡◌, subst, arith, of_calls}
use Rattle.splice.specs.Onward.{From}
use Rattle.etzvanul.proofs.Sweeping.{next_left, none_left, ready_next, on_next, behind}
use Rattle.etzvanul.proofs.puts.put_changes.Goals as goal

pub change-requires : goal.change-requires
change-requires g c =
    let w = c.requires in
    let at = c.loop-k.invariant w.0 w.1 w.2 w.3 w.4 in
    let may = w.4.gives.asked _ _ c.loop-k-test.true at.1 in
    search of_calls

pub put_change-next-requires : goal.put_change-next-requires
put_change-next-requires g c =
    let w = c.requires in
    let at = c.loop-k.invariant w.0 w.1 w.2 w.3 w.4 in
    let lt = c.loop-k-test.true in
    let is = w.4.gives.given _ _ _ lt at.1 c.change.ensures in
    ready_next at.0 (next_left w.0 w.3 c.loop-k.k c.args.n lt) is

pub loop-k-preserved : goal.loop-k-preserved
loop-k-preserved g c = λ f place whole rest puts.
    let at = c.loop-k.invariant f place whole rest puts in
    let lt = c.loop-k-test.true in
    let is = puts.gives.given _ _ _ lt at.1 c.change.ensures in
    let put = c.put_change-next.ensures in
    (on_next at.0 (next_left f rest c.loop-k.k c.args.n lt) is put, rw (put.place, is) (puts.gives.onward _ _ lt at.1))

pub returns : goal.returns
returns g c = λ f place whole rest puts.
    let at = c.loop-k.invariant f place whole rest puts in
    let last : c.loop-k.k ≡ c.args.n = omega arith in
    (behind at.0 (none_left f rest c.loop-k.k c.args.n c.loop-k-test.false), subst (λ k. From c.args.l.now c.loop-k.next.from (place k)) last at.1)
