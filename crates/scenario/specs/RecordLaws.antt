-- Laws of specs/Records.antt: the bytes of a record and its way back to the event, lengths, that what is written fits, and that an answer
-- shows what was handed back. Assumes nothing.
use Rattle.std.specs.Prelude.{◌≡◌, refl, Bool, true, false, List, [], ◌∷◌, ◌++◌, ℕ, ◌+◌, ◌*◌, ◌/◌, ◌%◌, ◌<◌, ◌≤◌, ltb, length, if◌then◌else◌, Result, Ok, Err}
use Rattle.std.proofs.Common.{ap, ◌∙◌, append-nil, append_assoc, ltb-false, length-append}
use Rattle.std.proofs.Math.Nat.{mod-eq_of_lt}
use native.Mathlib.Omega.{arith}
use Rattle.step.specs.declared.Event.{Event}
use Rattle.step.specs.EventRecord.{OPERANDS, RECORD, event_in, is_record}
use Rattle.scenario.specs.declared.Unwritten.{Unwritten}
use Rattle.scenario.specs.declared.Unwritten.TheVariants.{BadLine, TooManyEvents}
use Rattle.scenario.specs.Written.{Written}
use Rattle.scenario.specs.Text.{Meaning, tells, bad_at, meaning_of}
use Rattle.scenario.specs.Records.{record_of, records_of, answer, answer_of, answered, written_of}

module _ (e : Event) (kind : e.kind < 65536) (a : e.a < 256) (b : e.b < 256) (c : e.c < 256) (d : e.d < 256) where
  -- the bytes of a record, one by one
  pub record_bytes_lem : record_of e ≡ OPERANDS ∷ 0 ∷ e.kind % 256 ∷ e.kind / 256 ∷ e.a ∷ e.b ∷ e.c ∷ e.d ∷ []
  unfolding record_of
  record_bytes_lem =
      let high : e.kind / 256 < 256 = omega arith in
      rw (mod-eq_of_lt high, mod-eq_of_lt a, mod-eq_of_lt b, mod-eq_of_lt c, mod-eq_of_lt d)

  -- whoever reads the record finds the event that was written
  pub read_back : event_in (record_of e) ≡ e
  read_back =
      let k : e.kind % 256 + 256 * (e.kind / 256) ≡ e.kind = omega arith in
      let one : (n : ℕ) → n + 256 * 0 ≡ n = λ n. omega arith in
      rw record_bytes_lem (simp (one, k))

-- a record is one that can be read
pub reads : (e : Event) → is_record (record_of e) ≡ true
unfolding record_of
reads e = refl

-- a record has eight bytes
pub record_length : (e : Event) → length (record_of e) ≡ RECORD
unfolding record_of
record_length e = refl

-- the records of one event
pub records_one : (e : Event) → records_of (e ∷ []) ≡ record_of e
unfolding records_of
records_one e = append-nil (record_of e)

-- the records of two lists of events
pub records_append : (es fs : List Event) → records_of (es ++ fs) ≡ records_of es ++ records_of fs
unfolding records_of
records_append [] fs = refl
records_append (e ∷ es) fs = rw (records_append es fs, append_assoc)

-- eight bytes an event
pub records_length : (es : List Event) → length (records_of es) ≡ RECORD * length es
unfolding records_of
records_length [] = refl
records_length (e ∷ es) = length-append (record_of e) (records_of es) ∙ omega (arith, record_length e, records_length es)

-- the length that is answered is at most the buffer's
pub written_fits : (text : List ℕ) (room : ℕ) → (written_of text room).length ≤ room
unfolding written_of
written_fits text room = go (meaning_of text)
  where
    go : (m : Meaning) → (answered m room).length ≤ room
    go (bad_at line) = omega arith
    go (tells es) = fits (ltb room size) refl
      where
        size : ℕ
        size = length (records_of es)

        fits : (b : Bool) → ltb room size ≡ b → (if b then answer 26 0 0 else answer 0 size 0).length ≤ room
        fits true e = omega arith
        fits false e = ltb-false room size e

-- the answer shows what was handed back
pub answer_of_only : (r s : Result ℕ Unwritten) → answer_of r ≡ answer_of s → r ≡ s
answer_of_only (Ok n) (Ok m) e = ap (λ (w : Written). Ok w.length) e
answer_of_only (Ok n) (Err (BadLine line)) e = let k = ap (λ (w : Written). w.answer) e in absurd (omega arith)
answer_of_only (Ok n) (Err TooManyEvents) e = let k = ap (λ (w : Written). w.answer) e in absurd (omega arith)
answer_of_only (Err (BadLine line)) (Ok n) e = let k = ap (λ (w : Written). w.answer) e in absurd (omega arith)
answer_of_only (Err (BadLine line)) (Err (BadLine other)) e = ap (λ (w : Written). Err (BadLine w.line)) e
answer_of_only (Err (BadLine line)) (Err TooManyEvents) e = let k = ap (λ (w : Written). w.answer) e in absurd (omega arith)
answer_of_only (Err TooManyEvents) (Ok n) e = let k = ap (λ (w : Written). w.answer) e in absurd (omega arith)
answer_of_only (Err TooManyEvents) (Err (BadLine line)) e = let k = ap (λ (w : Written). w.answer) e in absurd (omega arith)
answer_of_only (Err TooManyEvents) (Err TooManyEvents) e = refl
