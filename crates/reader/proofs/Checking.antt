-- The loop of the check: the reader's loop, whose table nobody keeps. Assumes nothing.
use Rattle.std.specs.Prelude.{Ok, Err}
use Rattle.std.proofs.Common.{◌≡◌, sym, ap, ◌∙◌, false, List, ℕ}
use Rattle.terms.specs.Numbers.{ACCEPTED}
use Rattle.terms.specs.Refusals.{number_of}
use Rattle.terms.specs.declared.Refusal.{Refusal}
use Rattle.table.specs.declared.Table.{Table}
use Rattle.table.specs.Table.{fresh_table}
use Rattle.image.specs.declared.Front as taken
use Rattle.image.specs.declared.RecordKind.TheVariants.{End}
use Rattle.image.specs.declared.Turn.{Turn}
use Rattle.image.specs.Check.{check}
use Rattle.image.proofs.CheckLaws.{answer-check}
use Rattle.image.specs.Content.{with_record}
use Rattle.image.specs.Front.{front_of, front_of_result}
use Rattle.image.specs.Order.{first_turn}
use Rattle.image.specs.Reader.{Loaded, payload, read}
use Rattle.image.specs.Records.{is_end}
use Rattle.reader.proofs.Reading.{Reading, from_on, at_first, stopped, ended, onward}

-- reading on from some table with these bytes gives the whole
pub record Checking (s : List ℕ) (turn : Turn) (rest : List ℕ) : Type 0 where
  pub table : Table
  pub reading : Reading (read s) table turn rest

pub at_start : (s : List ℕ) → Checking s first_turn s
unfolding read
at_start s = record { table = fresh_table; reading = at_first first_turn fresh_table s }

-- what is read decides what is answered
decides : (s : List ℕ) (l : Loaded) → read s ≡ l → check s ≡ l.answer
decides s l e = sym (answer-check s) ∙ ap (λ (x : Loaded). x.answer) e

-- ---- at a record

module _ {s : List ℕ} {turn : Turn} {rest : List ℕ} (c : Checking s turn rest) where
  -- a refusal decides
  pub refused : (e : Refusal) → front_of_result (Err e) ≡ front_of turn rest → number_of e ≡ check s
  refused e is = sym (decides s _ (stopped c.reading e is))

  module _ {f : taken.Front} (is : front_of_result (Ok f) ≡ front_of turn rest) where
    -- and so does the end
    pub accepted : f.kind ≡ End → ACCEPTED ≡ check s
    accepted end = sym (decides s _ (ended c.reading is end))

    -- behind one record more
    pub further : is_end f.kind ≡ false → Checking s f.next (from_on f.length rest)
    further on = record { table = with_record c.table f.kind (payload f.kind rest); reading = onward c.reading is on }
