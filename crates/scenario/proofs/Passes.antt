-- What the two passes over the lines of a text keep from line to line: before line n it holds, and line n keeps it. Assumes nothing.
use Rattle.std.proofs.Common.{◌≡◌, ℕ, ◌+◌, ◌-◌, ◌≤◌, true, false, List, [], length, take, drop, refl, sym, ap, ◌∙◌, zero-add, append_assoc, arith}
use Rattle.std.proofs.lemmas.List.Edits.{sets, sets-eq, paste_all}
use Rattle.std.proofs.lemmas.Slice.{put_mid-paste}
use Rattle.std.proofs.Math.Seq.{length-sets, drop-length}
use borrow.Rule.Slice.PartMut.{put_mid}
use Rattle.terms.specs.Bytes.{over}
use Rattle.terms.proofs.BufferLaws.{sets_front, stored_more}
use Rattle.scenario.specs.Line.{Line}
use Rattle.scenario.specs.Text.{is_bad, lines_of, first_bad, events_in, events_of, Checks}
use Rattle.scenario.specs.Records.{records_of, records_in, text_records}
use Rattle.scenario.proofs.LineLaws.{cut, cut_bad, cut_events, IsLine, first_bad_lem, first_good, first_count, first_records, first_size}

-- ---- the pass that checks

module _ (text : List ℕ) where
  -- the first bad line is the first from line n on, and the events are those counted and those from there on
  pub record Counts (n events : ℕ) : Type 0 where
    pub few : events ≤ n
    pub line : first_bad 1 (lines_of text) ≡ first_bad (n + 1) (drop n (cut text))
    pub count : length (events_of (lines_of text)) ≡ events + length (events_of (drop n (cut text)))

  pub counts_none : Counts 0 0
  counts_none = record { few = omega arith; line = sym (cut_bad text); count = omega (arith, ap length (cut_events text)) }

module _ {text : List ℕ} {n events : ℕ} (so_far : Counts text n events) where
  module _ {l : List ℕ} {line : Line} (at : IsLine (cut text) n l line) where
    pub counts_line : {more m : ℕ} → is_bad line ≡ false → length (events_in line) ≤ 1 → more ≡ events + length (events_in line) → m ≡ n + 1 → Counts text m more
    counts_line good one e f =
        rw (e, f) (record { few = omega arith; line = so_far.line ∙ first_good at (n + 1) good; count = omega (arith, first_count at, so_far.count) })

    pub counts_bad : is_bad line ≡ true → Checks text (n + 1) 0
    counts_bad bad = record { line = sym (so_far.line ∙ first_bad_lem at (n + 1) bad); count = λ none. absurd (omega arith) }

  pub counts_all : n ≡ length (cut text) → Checks text 0 events
  unfolding first_bad events_of
  counts_all e =
      let none : drop n (cut text) ≡ [] = rw e (drop-length (cut text)) in
      record { line = sym (so_far.line ∙ ap (first_bad (n + 1)) none); count = λ z. omega (arith, so_far.count, ap (λ (ls : List (List ℕ)). length (events_of ls)) none) }

-- ---- the pass that writes

-- bytes copied over a part of a buffer
pub put_bytes : (to end : ℕ) (out ys bytes : List ℕ) → ys ≡ bytes → end ≡ to + length bytes → to + length bytes ≤ length out → put_mid to (end - to) out ys ≡ sets out to bytes
put_bytes to end out ys bytes e f le =
    put_mid-paste to (end - to) out ys bytes (length bytes) e (omega arith) refl
    ∙ paste_all out to bytes (length bytes) refl
    ∙ sym (append_assoc (take to out) bytes (drop (to + length bytes) out))
    ∙ sym (sets-eq bytes out to le)

module _ (text before : List ℕ) where
  -- the records from line n on, stored at `to`, make of the buffer what all records make of it from the front
  pub record Stored (n to : ℕ) (out : List ℕ) : Type 0 where
    pub same_length : length out ≡ length before
    pub left : to + length (records_of (events_of (drop n (cut text)))) ≡ length (text_records text)
    pub whole : sets out to (records_of (events_of (drop n (cut text)))) ≡ sets before 0 (text_records text)

  pub stored_none : Stored 0 0 before
  stored_none =
      let same = ap records_of (cut_events text) in
      record { same_length = refl; left = zero-add _ ∙ ap length same; whole = ap (sets before 0) same }

module _ {text before : List ℕ} {n to : ℕ} {out : List ℕ} (so_far : Stored text before n to out) where
  module _ {l : List ℕ} {line : Line} (at : IsLine (cut text) n l line) where
    pub stored_line : {m to' : ℕ} {out' : List ℕ} → m ≡ n + 1 → to' ≡ to + length (records_in line) → out' ≡ sets out to (records_in line) → Stored text before m to' out'
    stored_line e f g =
        rw e
        (record {
          same_length = ap length g ∙ length-sets out to (records_in line) ∙ so_far.same_length;
          left = omega (arith, first_size at, so_far.left);
          whole = stored_more out (records_in line) _ to (rw (first_records at) at so_far.whole) g f;
        })

    pub stored_room : length (text_records text) ≤ length before → to + length (records_in line) ≤ length out
    stored_room room = omega (arith, first_size at, so_far.left, so_far.same_length)

  pub stored_all : n ≡ length (cut text) → length (text_records text) ≤ length before → (to ≡ length (text_records text)) × (out ≡ over (text_records text) before)
  unfolding records_of events_of
  stored_all e room =
      let none : drop n (cut text) ≡ [] = rw e (drop-length (cut text)) in
      let rest = ap (λ (ls : List (List ℕ)). records_of (events_of ls)) none in
      (omega (arith, so_far.left, ap length rest), sym (ap (sets out to) rest) ∙ so_far.whole ∙ sets_front before (text_records text) room)
