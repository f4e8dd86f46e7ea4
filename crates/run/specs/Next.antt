-- What stands at the front of a stream of event records (document 01, "One run in full": a record whose length isn't 4, a cut record).
-- Definitions only; assumes nothing.
use Rattle.std.specs.Prelude.{not, List, ℕ, ltb, eqb, length, if◌then◌else◌}
use Rattle.step.specs.EventRecord.{RECORD, event_in, states_event}
use Rattle.run.specs.declared.Next.{Next}
use Rattle.run.specs.declared.Next.TheVariants.{Nothing, Broken, Found}

-- nothing, a record that is cut or of another length, or an event in the first eight bytes
unfoldable pub next : List ℕ → Next
next l =
    if eqb (length l) 0 then Nothing
    else if ltb (length l) RECORD then Broken
    else if not (states_event l) then Broken
    else Found (event_in l)
