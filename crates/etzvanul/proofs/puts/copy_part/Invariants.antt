-- What is copied so far stands there.
use Rattle.std.proofs.Common.{◌≡◌, length, take}
use Rattle.std.proofs.lemmas.List.Edits.{sets}
use Rattle.etzvanul.proofs.puts.copy_part.Given as goal

abbrev pub invariant-loop-i : goal.invariant-loop-i
invariant-loop-i l = record {
  keeps_length : length l.out ≡ length l.fn.out;
  stands : l.out ≡ sets l.fn.out l.to (take l.i l.part);
}
