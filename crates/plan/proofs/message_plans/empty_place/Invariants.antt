-- The invariant: from place `s` on a scan may go on at `from`, and the lowest of all empty places is the lowest from `s` on.
use Rattle.std.proofs.Common.{◌≡◌, ◌-◌, eqb}
use Rattle.terms.specs.Counted.{lowest_from}
use Rattle.terms.specs.Limits.{PLACES}
use Rattle.image.specs.Spots.{message, spot_position}
use Rattle.splice.specs.Onward.{From}
use Rattle.plan.specs.Plan.{message_spot, empty_place_in}
use Rattle.plan.proofs.message_plans.empty_place.Given as goal

abbrev pub invariant-loop-s : goal.invariant-loop-s
invariant-loop-s l = record {
  scan : From l.l l.from (spot_position (message l.s));
  rest : empty_place_in l.l ≡ lowest_from l.s (PLACES - l.s) (λ k. eqb (message_spot l.l k).at (message_spot l.l k).after);
}
