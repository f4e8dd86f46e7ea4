use Rattle.std.proofs.Common.{◌∙◌, length, le-ltb, rules}
use Rattle.run.specs.Ran.{TEXT, run_bytes}
use Rattle.run.proofs.Written.{wrote_over}
use Rattle.run.proofs.run.Goals as goal

pub returns-clause-out_after : goal.returns-clause-out_after
unfolding run_bytes
returns-clause-out_after c =
    search rules
    ∙ wrote_over (rw c.new.ensures.bytes at c.tell.ensures.wrote)
    ∙ simp (le-ltb (length c.args.out.now) TEXT c.if-out-lt-TEXT.false)
