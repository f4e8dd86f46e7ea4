-- What a text means, by what the check of its lines found, and what comes of it then. Assumes nothing.
use Rattle.std.proofs.Common.{◌≡◌, ℕ, ◌*◌, ◌/◌, ◌<◌, ◌≤◌, Bool, true, false, List, length, Ok, Err, refl, eqb, if◌then◌else◌, ap, sym, arith, lt-ltb, le-ltb, eq-eqb, ne_eqb}
use Rattle.terms.specs.Bytes.{over}
use Rattle.step.specs.declared.Event.{Event}
use Rattle.scenario.specs.declared.Unwritten.{Unwritten}
use Rattle.scenario.specs.declared.Unwritten.TheVariants.{BadLine, TooManyEvents}
use Rattle.scenario.specs.Text.{Meaning, tells, bad_at, meaning_of, checked, lines_of, first_bad, events_of, Checks}
use Rattle.scenario.specs.Records.{text_records, answer_of, answered, filled, written_of, buffer_of}
use Rattle.scenario.specs.RecordLaws.{records_length}

module _ (text : List ℕ) {bad events : ℕ} (e : Checks text bad events) where
  -- a bad line
  pub checked_bad_line : (bad ≡ 0 → ⊥) → Err (BadLine bad) ≡ checked (meaning_of text)
  unfolding meaning_of
  checked_bad_line ne = simp (sym e.line, ne_eqb bad 0 ne)

  -- none
  pub checked_good_lines : bad ≡ 0 → Ok events ≡ checked (meaning_of text)
  unfolding meaning_of
  checked_good_lines z = simp (sym e.line, eq-eqb bad 0 z) (ap Ok (e.count z))

-- ---- refused by the check

pub refused_answer : (m : Meaning) (why : Unwritten) (room : ℕ) → Err why ≡ checked m → answer_of (Err why) ≡ answered m room
refused_answer (bad_at line) why room e = ap answer_of e
refused_answer (tells es) why room e = cc

pub refused_buffer : (m : Meaning) (why : Unwritten) (buffer : List ℕ) → Err why ≡ checked m → buffer ≡ filled m buffer
refused_buffer (bad_at line) why buffer e = refl
refused_buffer (tells es) why buffer e = cc

-- ---- accepted by it: so many events

told_by : (good : Bool) (n bad : ℕ) (es : List Event) → Ok n ≡ checked (if good then tells es else bad_at bad) → ((if good then tells es else bad_at bad) ≡ tells es) × (n ≡ length es)
told_by true n bad es e = (refl, cc)
told_by false n bad es e = cc

module _ (text : List ℕ) {n : ℕ} (e : Ok n ≡ checked (meaning_of text)) where
  told : (meaning_of text ≡ tells (events_of (lines_of text))) × (n ≡ length (events_of (lines_of text)))
  unfolding meaning_of
  told = told_by (eqb (first_bad 1 (lines_of text)) 0) n (first_bad 1 (lines_of text)) (events_of (lines_of text)) e

  -- eight bytes each
  size : length (text_records text) ≡ 8 * n
  size = omega (arith, records_length (events_of (lines_of text)), told.1)

  module _ (buffer : List ℕ) (short : length buffer / 8 < n) where
    pub short_answer : answer_of (Err TooManyEvents) ≡ written_of text (length buffer)
    unfolding written_of
    short_answer = simp (told.0, lt-ltb (length buffer) (length (text_records text)) (omega (arith, size)))

    pub short_buffer : buffer ≡ buffer_of text buffer
    unfolding buffer_of
    short_buffer = simp (told.0, lt-ltb (length buffer) (length (text_records text)) (omega (arith, size)))

  module _ (buffer : List ℕ) (room : n ≤ length buffer / 8) where
    pub they_fit : length (text_records text) ≤ length buffer
    they_fit = omega (arith, size)

    pub full_answer : answer_of (Ok (length (text_records text))) ≡ written_of text (length buffer)
    unfolding written_of
    full_answer = simp (told.0, le-ltb (length buffer) (length (text_records text)) they_fit)

    pub full_buffer : over (text_records text) buffer ≡ buffer_of text buffer
    unfolding buffer_of
    full_buffer = simp (told.0, le-ltb (length buffer) (length (text_records text)) they_fit)
