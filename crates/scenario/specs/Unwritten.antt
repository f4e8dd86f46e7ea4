-- Why no records are written, as a person reads it. Definitions only; assumes nothing.
use Rattle.std.specs.Prelude.{List, ◌++◌, ℕ, codes}
use Rattle.std.specs.Fmt.{decimal}
use Rattle.scenario.specs.declared.Unwritten.{Unwritten}
use Rattle.scenario.specs.declared.Unwritten.TheVariants.{BadLine, TooManyEvents}

abbrev pub text_of : Unwritten → List ℕ
text_of (BadLine line) = codes "line " ++ decimal line ++ codes ": expected five numbers, kind 0..65535 and operands 0..255"
text_of TooManyEvents = codes "too many events"
