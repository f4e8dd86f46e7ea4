-- The run that `fieldrun` tells of (document 01, "One run in full, and edges"): a line for each event record, and a summary. Sent and
-- saved are counted from what the events did. Definitions only; assumes nothing.
use Rattle.std.specs.Prelude.{not, List, [], ◌∷◌, ◌++◌, ℕ, zero, suc, ◌+◌, drop}
use Rattle.terms.specs.Counted.{how_many, sum}
use Rattle.terms.specs.Limits.{NODES, OBJECTS, PLACES}
use Rattle.entry.specs.Entry.{is_absent}
use Rattle.heap.specs.Heap.{is_live}
use Rattle.table.specs.declared.Table.{Table}
use Rattle.table.specs.Table.{cell_at, entry_in, fresh_table, is_empty, message_at}
use Rattle.step.specs.declared.Event.{Event}
use Rattle.step.specs.EventRecord.{RECORD}
use Rattle.step.specs.Outcome.{Outcome, decrements_saved, decrements_sent, value_of}
use Rattle.step.specs.Step.{step}
use Rattle.run.specs.declared.Next.{Next}
use Rattle.run.specs.declared.Next.TheVariants.{Nothing, Broken, Found}
use Rattle.run.specs.declared.Progress.{Progress}
use Rattle.run.specs.declared.Summary.{Summary}
use Rattle.run.specs.Next.{next}
use Rattle.run.specs.Text.{ascii, decimal, joined, newline, space}

-- the most records that a run takes
abbrev pub RECORDS : ℕ
RECORDS = 4096

-- nothing has happened yet
abbrev pub beginning : Progress
beginning = record { table = fresh_table; records = 0; sent = 0; saved = 0 }

-- one record more, with its outcome
abbrev pub after : Progress → Outcome → Progress
after p o = record {
  table = o.table;
  records = p.records + 1;
  sent = p.sent + decrements_sent o.deed;
  saved = p.saved + decrements_saved o.deed;
}

-- ---- the summary

-- the entries of object o
abbrev pub entries_of : Table → ℕ → ℕ
entries_of t o = let c = cell_at t o in how_many NODES (λ p. not (is_absent (entry_in c p)))

unfoldable pub summary : Progress → Summary
summary p = record {
  events = p.table.count;
  live = how_many OBJECTS (is_live p.table.heap);
  entries = sum OBJECTS (entries_of p.table);
  messages = how_many PLACES (λ s. not (is_empty (message_at p.table s)));
  sent = p.sent;
  saved = p.saved;
}

-- ---- the text

-- its number, kind, a b c d, answer, value
unfoldable pub line : ℕ → Event → Outcome → List ℕ
line number e o =
    joined
    (decimal number
    ∷ ascii ": "
    ∷ decimal e.kind
    ∷ space
    ∷ decimal e.a
    ∷ space
    ∷ decimal e.b
    ∷ space
    ∷ decimal e.c
    ∷ space
    ∷ decimal e.d
    ∷ ascii " = "
    ∷ decimal o.answer
    ∷ space
    ∷ decimal (value_of o.deed)
    ∷ newline
    ∷ [])

unfoldable pub last_line : Summary → List ℕ
last_line s =
    joined
    (ascii "end events="
    ∷ decimal s.events
    ∷ ascii " live="
    ∷ decimal s.live
    ∷ ascii " entries="
    ∷ decimal s.entries
    ∷ ascii " messages="
    ∷ decimal s.messages
    ∷ ascii " sent="
    ∷ decimal s.sent
    ∷ ascii " saved="
    ∷ decimal s.saved
    ∷ newline
    ∷ [])

-- a record that can't be taken, or one too many
abbrev pub stop_line : List ℕ
stop_line = ascii "stop" ++ newline

-- where something stands that isn't taken, the run stopped
abbrev pub stop : Next → List ℕ
stop Nothing = []
stop Broken = stop_line
stop (Found e) = stop_line

-- the end of a run: all was read, or the run stopped
abbrev pub ending : Summary → Next → List ℕ
ending s front = stop front ++ last_line s

-- an event's line, and what follows it by go
abbrev pub event_text : Progress → Event → Outcome → (Progress → List ℕ) → List ℕ
event_text p e o go = line (p.records + 1) e o ++ go (after p o)

-- what stands next: an event goes on by go, all else ends the run
abbrev pub text_of : Progress → Next → (Progress → List ℕ) → List ℕ
text_of p Nothing go = ending (summary p) Nothing
text_of p Broken go = ending (summary p) Broken
text_of p (Found e) go = event_text p e (step p.table e) go

-- the text of a run that may take n records more
unfoldable pub run_from : ℕ → Progress → List ℕ → List ℕ
run_from zero p l = ending (summary p) (next l)
run_from (suc n) p l = text_of p (next l) (λ q. run_from n q (drop RECORD l))

-- standard input to standard output
unfoldable pub run_text : List ℕ → List ℕ
run_text input = run_from RECORDS beginning input

-- ---- where a run ends

-- what stands next: an event goes on by go, all else ends the run
abbrev pub end_of : Progress → Next → (Progress → Progress) → Progress
end_of p Nothing go = p
end_of p Broken go = p
end_of p (Found e) go = go (after p (step p.table e))

-- the end of a run that may take n records more
unfoldable pub end_from : ℕ → Progress → List ℕ → Progress
end_from zero p l = p
end_from (suc n) p l = end_of p (next l) (λ q. end_from n q (drop RECORD l))

unfoldable pub run_end : List ℕ → Progress
run_end input = end_from RECORDS beginning input
