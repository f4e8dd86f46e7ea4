-- The invariant: what the records that are left will tell, behind what is written, is the run.
use Rattle.run.proofs.Telling.{Ahead}
use Rattle.run.proofs.tell.Given as goal

abbrev pub invariant-loop-number : goal.invariant-loop-number
invariant-loop-number l = Ahead l.input l.fn.text l.text l.p l.rest l.number
