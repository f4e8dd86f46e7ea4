-- The number that stands for what a call hands back inside. Definitions only; assumes nothing.
use Rattle.std.specs.Prelude.{ℕ, Result, Ok, Err}
use Rattle.terms.specs.Numbers.{ACCEPTED}
use Rattle.terms.specs.Refusals.{number_of}
use Rattle.terms.specs.declared.Refusal.{Refusal}
use Rattle.etzvanul.specs.declared.Done.{Done}
use Rattle.etzvanul.specs.HostCall.{number_of_call}

abbrev pub number_made : Result Done Refusal → ℕ
number_made (Ok done) = number_of_call ACCEPTED done.value done.length
number_made (Err refusal) = number_of refusal
