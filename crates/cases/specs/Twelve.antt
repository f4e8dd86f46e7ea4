-- Document 01's run of twelve events, proved of the definitions as one table: each event with its answer, its value and the directory of
-- object 0 after it, then the summary; and the text that tells of it. Assumes nothing.
use Rattle.std.specs.Prelude.{◌≡◌, refl, List, [], ◌∷◌, ◌++◌, ℕ, pos, negsuc}
use Rattle.terms.specs.Bytes.{packed}
use Rattle.entry.specs.declared.Entry.{Entry}
use Rattle.entry.specs.declared.Entry.TheVariants.{Absent, AtOwner}
use Rattle.entry.specs.Acts.{directory}
use Rattle.entry.specs.Entry.{returns}
use Rattle.table.specs.Table.{entry_at}
use Rattle.step.specs.declared.Event.{Event}
use Rattle.step.specs.Outcome.{Outcome}
use Rattle.step.specs.Event.{event, NEW, CLEAR, SEND, RECEIVE, SETTLE, COLLECT, DROP}
use Rattle.step.specs.EventRecord.{OPERANDS, record_widths}
use Rattle.step.specs.Outcome.{value_of}
use Rattle.step.specs.Step.{step}
use Rattle.run.specs.declared.Progress.{Progress}
use Rattle.run.specs.declared.Summary.{Summary}
use Rattle.run.specs.Run.{after, beginning, run_text, summary}
use Rattle.run.specs.Text.{ascii}
use Rattle.cases.specs.Rules.{rules}

-- ---- the table of a run

-- one event, and what came of it
pub record Row : Type 0 where
  pub event : Event
  pub answer : ℕ
  pub value : ℕ
  pub directory : Entry

pub record Told : Type 0 where
  pub rows : List Row
  pub summary : Summary

abbrev pub row_of : Event → Outcome → Row
row_of e o = record { event = e; answer = o.answer; value = value_of o.deed; directory = entry_at o.table 0 0 }

-- the rows of a run and where it ends
unfoldable pub rows_from : Progress → List Event → List Row
rows_from p [] = []
rows_from p (e ∷ es) = let o = step p.table e in row_of e o ∷ rows_from (after p o) es

unfoldable pub end_from : Progress → List Event → Progress
end_from p [] = p
end_from p (e ∷ es) = end_from (after p (step p.table e)) es

abbrev pub told : List Event → Told
told es = record { rows = rows_from beginning es; summary = summary (end_from beginning es) }

-- ---- the twelve events

abbrev pub twelve : List Event
twelve =
    event NEW 0 0 0 0
    ∷ event SEND 0 0 3 0
    ∷ event RECEIVE 0 0 0 0
    ∷ event SEND 3 0 0 0
    ∷ event RECEIVE 0 1 0 0
    ∷ event CLEAR 3 0 0 0
    ∷ event COLLECT 3 0 0 0
    ∷ event DROP 3 0 0 0
    ∷ event SETTLE 0 0 0 0
    ∷ event CLEAR 0 0 0 0
    ∷ event CLEAR 0 1 0 0
    ∷ event COLLECT 0 0 0 0
    ∷ []

-- ---- what document 01 states of them

abbrev gives : Event → ℕ → ℕ → Entry → Row
gives e answer value d = record { event = e; answer = answer; value = value; directory = d }

-- after 5 the directory has RC 1 and MsgCtr -1; after 9 it has 0 and 0
abbrev stated : Told
stated = record {
  rows =
      gives (event NEW 0 0 0 0) 0 0 Absent
      ∷ gives (event SEND 0 0 3 0) 0 0 (AtOwner (directory 1 (returns (pos 0))))
      ∷ gives (event RECEIVE 0 0 0 0) 0 255 (AtOwner (directory 1 (returns (pos 0))))
      ∷ gives (event SEND 3 0 0 0) 0 0 (AtOwner (directory 1 (returns (pos 0))))
      ∷ gives (event RECEIVE 0 1 0 0) 0 255 (AtOwner (directory 1 (returns (negsuc 0))))
      ∷ gives (event CLEAR 3 0 0 0) 0 0 (AtOwner (directory 1 (returns (negsuc 0))))
      ∷ gives (event COLLECT 3 0 0 0) 0 0 (AtOwner (directory 1 (returns (negsuc 0))))
      ∷ gives (event DROP 3 0 0 0) 0 0 (AtOwner (directory 1 (returns (negsuc 0))))
      ∷ gives (event SETTLE 0 0 0 0) 0 0 (AtOwner (directory 0 (returns (pos 0))))
      ∷ gives (event CLEAR 0 0 0 0) 0 0 (AtOwner (directory 0 (returns (pos 0))))
      ∷ gives (event CLEAR 0 1 0 0) 0 0 (AtOwner (directory 0 (returns (pos 0))))
      ∷ gives (event COLLECT 0 0 0 0) 0 1 Absent
      ∷ [];
  summary = record { events = 12; live = 0; entries = 0; messages = 0; sent = 1; saved = 0 };
}

pub twelve-told : told twelve ≡ stated
unfolding rules rows_from end_from
twelve-told = refl

-- ---- the same run as `fieldrun` reads and writes it

unfoldable pub bytes_of_events : List Event → List ℕ
bytes_of_events [] = []
bytes_of_events (e ∷ es) = packed record_widths (OPERANDS ∷ e.kind ∷ e.a ∷ e.b ∷ e.c ∷ e.d ∷ []) ++ bytes_of_events es

-- every byte of standard output
pub twelve_printed :
    run_text (bytes_of_events twelve)
    ≡ ascii "1: 1 0 0 0 0 = 0 0\n"
    ++ ascii "2: 6 0 0 3 0 = 0 0\n"
    ++ ascii "3: 7 0 0 0 0 = 0 255\n"
    ++ ascii "4: 6 3 0 0 0 = 0 0\n"
    ++ ascii "5: 7 0 1 0 0 = 0 255\n"
    ++ ascii "6: 3 3 0 0 0 = 0 0\n"
    ++ ascii "7: 9 3 0 0 0 = 0 0\n"
    ++ ascii "8: 10 3 0 0 0 = 0 0\n"
    ++ ascii "9: 8 0 0 0 0 = 0 0\n"
    ++ ascii "10: 3 0 0 0 0 = 0 0\n"
    ++ ascii "11: 3 0 1 0 0 = 0 0\n"
    ++ ascii "12: 9 0 0 0 0 = 0 1\n"
    ++ ascii "end events=12 live=0 entries=0 messages=0 sent=1 saved=0\n"
unfolding rules bytes_of_events
twelve_printed = refl
