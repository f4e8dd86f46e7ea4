use Rattle.std.proofs.Common.{◌+◌, ◌*◌, not, ap, sym, arith, rules, tests}
use Rattle.terms.specs.Limits.{OWNED}
use Rattle.terms.proofs.CountedLaws.{lowest_from_passes}
use Rattle.heap.specs.Heap.{is_live}
use Rattle.heap.proofs.HeapLaws.{not_live}
use Rattle.terms.proofs.ChainLaws.{find-lowest}
use Rattle.heap.proofs.Heap.free_own.Goals as goal

pub returns-else-p-lt-NODES-clause-lowest : goal.returns-else-p-lt-NODES-clause-lowest
returns-else-p-lt-NODES-clause-lowest c =
    let first = ap not (not_live c.args.self.now (OWNED * c.args.p + 0) (omega arith)) in
    sym (lowest_from_passes {i = 0} {n = OWNED} (omega arith) _ first)

pub returns-then-p-lt-NODES-clause-lowest : goal.returns-then-p-lt-NODES-clause-lowest
returns-then-p-lt-NODES-clause-lowest c =
    let free = λ (k : _). not (is_live c.args.self.now (OWNED * c.args.p + k)) in
    find-lowest OWNED free _ _ c.find.result c.find.ensures.ran (λ k b q e. search (rules, tests))
