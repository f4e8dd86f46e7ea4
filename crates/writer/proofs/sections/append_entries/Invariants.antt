-- The directories of the objects so far are appended, and behind them all the other entries of the nodes so far.
use Rattle.std.proofs.Common.{◌*◌}
use Rattle.terms.specs.Counted.{gather}
use Rattle.terms.specs.Limits.{OBJECTS}
use Rattle.image.specs.Stored.{DIRECTORY_BYTES, REMOTE_BYTES, directory_of, remote_of}
use Rattle.writer.proofs.Behind.{Below}
use Rattle.writer.proofs.sections.append_entries.Given as goal

abbrev pub invariant-loop-o : goal.invariant-loop-o
invariant-loop-o l = Below DIRECTORY_BYTES (directory_of l.fn.t.cells) l.o l.initial.image l.image

abbrev pub invariant-loop-p : goal.invariant-loop-p
invariant-loop-p l = Below (REMOTE_BYTES * OBJECTS) (λ p. gather OBJECTS (remote_of l.fn.t.cells p)) l.p l.initial.image l.image

abbrev pub invariant-loop-o-2 : goal.invariant-loop-o-2
invariant-loop-o-2 l = Below REMOTE_BYTES (remote_of l.fn.t.cells l.p) l.o l.initial.image l.image
