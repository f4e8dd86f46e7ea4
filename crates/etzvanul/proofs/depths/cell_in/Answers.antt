use Rattle.std.proofs.Common.{rules}
use Rattle.terms.specs.Limits.{NODES}
use Rattle.entry.specs.declared.Entry.TheVariants.{Absent}
use Rattle.plan.specs.Plan.{entry_of}
use Rattle.step.proofs.Lists.{list-from_fn}
use Rattle.etzvanul.proofs.depths.cell_in.Goals as goal

pub returns : goal.returns
returns c =
    list-from_fn _ _ (λ p. record { held = entry_of c.args.image.now p c.args.o }) (record { held = Absent }) (λ p y q call. search rules) _ NODES
    c.from_fn.ensures.items
