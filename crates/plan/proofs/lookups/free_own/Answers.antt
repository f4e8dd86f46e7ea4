use Rattle.std.proofs.Common.{ℕ, ◌+◌, ◌*◌, not, rules, tests}
use Rattle.terms.specs.Limits.{OWNED}
use Rattle.terms.proofs.ChainLaws.{find-lowest}
use Rattle.plan.specs.Plan.{object_of, free_own_in}
use Rattle.plan.proofs.lookups.free_own.Goals as goal

pub returns-clause-lowest : goal.returns-clause-lowest
unfolding free_own_in
returns-clause-lowest c =
    let dead = λ (k : ℕ). not (object_of c.args.l.now (OWNED * c.args.p + k)).live in
    find-lowest OWNED dead _ _ c.find.result c.find.ensures.ran (λ k b q e. search (rules, tests))
