use Rattle.std.proofs.Common.{◌≡◌, subst, arith, of_calls}
use Rattle.splice.specs.Onward.{From}
use Rattle.etzvanul.proofs.Sweeping.{next_left, none_left, cut_next, measured_on, measured_next}
use Rattle.etzvanul.proofs.puts.length_changes.Goals as goal

pub change-new-requires : goal.change-new-requires
change-new-requires g c =
    let w = c.requires in
    let at = c.loop-k.invariant w.0 w.1 w.2 w.3 w.4 w.5 w.6 w.7 in
    let may = w.7.gives.asked _ _ c.loop-k-test.true at.1 in
    search of_calls

pub length_with-length-requires : goal.length_with-length-requires
length_with-length-requires g c =
    let w = c.requires in
    let at = c.loop-k.invariant w.0 w.1 w.2 w.3 w.4 w.5 w.6 w.7 in
    let lt = c.loop-k-test.true in
    let is = w.7.gives.given _ _ _ lt at.1 c.change-new.ensures in
    (omega (arith, at.0.lasting.small, w.7.small), cut_next at.0 (next_left w.1 w.6 c.loop-k.k c.args.many lt) is)

pub loop-k-preserved : goal.loop-k-preserved
loop-k-preserved g c = λ s f place old whole most rest m.
    let at = c.loop-k.invariant s f place old whole most rest m in
    let lt = c.loop-k-test.true in
    let is = m.gives.given _ _ _ lt at.1 c.change-new.ensures in (
      measured_on at.0 (next_left f rest c.loop-k.k c.args.many lt) is c.length_with-length.ensures (omega arith),
      rw (c.place_after-from.ensures, is) (m.gives.onward _ _ lt at.1),
    )

pub returns : goal.returns
returns g c = λ s f place old whole most rest m.
    let at = c.loop-k.invariant s f place old whole most rest m in
    let last : c.loop-k.k ≡ c.args.many = omega arith in (
      measured_next at.0 (none_left f rest c.loop-k.k c.args.many c.loop-k-test.false) (omega arith),
      subst (λ k. From s c.loop-k.from (place k)) last at.1,
    )
