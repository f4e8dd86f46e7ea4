-- What the call comes to, case by case, in the order in which it is tried, and the number and the buffer then. Assumes nothing.
use Rattle.std.specs.Prelude.{◌≡◌, ◌≢◌, Bool, List, ℕ, ◌+◌, ◌*◌, eqb, ltb, if◌then◌else◌}
use Rattle.std.proofs.Math.Path.{refl}
use Rattle.std.proofs.Common.{sym, ap, ◌∙◌, true≢false, arith}
use Rattle.std.proofs.Math.Bool.{true, false}
use Rattle.std.proofs.Math.ListN.{length}
use borrow.Author.Tests.{eq-eqb, ne_eqb}
use Rattle.terms.specs.Bytes.{over}
use Rattle.terms.specs.Numbers.{ACCEPTED, EVENT, ROOM}
use Rattle.step.specs.Outcome.{Outcome, value_of}
use Rattle.step.specs.EventRecord.{event_in, is_record}
use Rattle.step.specs.Step.{step}
use Rattle.image.specs.Reader.{read}
use Rattle.image.specs.Writer.{image, put_answer, put_length, put_bytes}
use Rattle.table.specs.declared.Table.{Table}
use Rattle.table.specs.Depth.{depth_report}
use Rattle.table.specs.Table.{fresh_table}
use Rattle.etzvanul.specs.HostCall.{Called, refused_call, done, call_with, call_on, call_after, called, number_of_call, number_in, buffer_in}
use Rattle.etzvanul.specs.HostCall.{start_call, start_number, start_bytes, depth_call}

-- ---- what comes back

-- a refused call comes back as its number, and the buffer stays
pub refusal : (x : Called) (out : List ℕ) (k : ℕ) → x ≡ refused_call k → (k ≡ number_in x) × (out ≡ buffer_in x out)
refusal x out k is =
    let plain : k ≡ k + 256 * 0 + 16777216 * 0 = omega arith in
    (plain ∙ ap number_in (sym is), ap (λ (y : Called). buffer_in y out) (sym is))

-- an accepted one comes back as its value and length, and the image is at the front of the buffer
pub success : (x : Called) (out : List ℕ) (value : ℕ) (new : List ℕ) → x ≡ done value new
    → (number_of_call ACCEPTED value (length new) ≡ number_in x) × (over new out ≡ buffer_in x out)
success x out value new is = (ap number_in (sym is), ap (λ (y : Called). buffer_in y out) (sym is))

-- ---- what the writer tells

room_refuses : ROOM ≢ ACCEPTED
room_refuses e = true≢false (ap (λ (n : ℕ). eqb n ROOM) e)

module _ (t : Table) (out : List ℕ) where
  abbrev too_short : Bool
  too_short = ltb (length out) (length (image t))

  -- it refuses: there is too little room, and the buffer is as it was
  pub put_refused : put_answer t out ≢ ACCEPTED → (too_short ≡ true) × (put_answer t out ≡ ROOM) × (put_bytes t out ≡ out)
  unfolding put_answer put_bytes
  put_refused bad = go too_short bad
    where
      go : (b : Bool) → (if b then ROOM else ACCEPTED) ≢ ACCEPTED
          → (b ≡ true) × ((if b then ROOM else ACCEPTED) ≡ ROOM) × ((if b then out else over (image t) out) ≡ out)
      go true bad = (refl, refl, refl)
      go false bad = absurd (bad refl)

  -- it accepts: there is room, and the image is at the front
  pub put_done : put_answer t out ≡ ACCEPTED
      → (too_short ≡ false) × (put_length t out ≡ length (image t)) × (put_bytes t out ≡ over (image t) out)
  unfolding put_answer put_length put_bytes
  put_done good = go too_short good
    where
      go : (b : Bool) → (if b then ROOM else ACCEPTED) ≡ ACCEPTED
          → (b ≡ false) × ((if b then 0 else length (image t)) ≡ length (image t)) × ((if b then out else over (image t) out) ≡ over (image t) out)
      go false good = (refl, refl, refl)
      go true good = absurd (room_refuses good)

-- ---- the cases

module _ (old event out : List ℕ) where
  abbrev outcome : Outcome
  outcome = step (read old).table (event_in event)

  -- the image is refused
  pub image_refused : (read old).answer ≢ ACCEPTED → called old event out ≡ refused_call (read old).answer
  unfolding called call_after call_on call_with
  image_refused bad = rw (ne_eqb (read old).answer ACCEPTED bad)

  module _ (accepted : (read old).answer ≡ ACCEPTED) where
    -- no event record
    pub not_a_record : is_record event ≡ false → called old event out ≡ refused_call EVENT
    unfolding called call_after call_on call_with
    not_a_record other = rw (eq-eqb (read old).answer ACCEPTED accepted, other)

    module _ (whole : is_record event ≡ true) where
      -- the event is refused
      pub event_refused : outcome.answer ≢ ACCEPTED → called old event out ≡ refused_call outcome.answer
      unfolding called call_after call_on call_with
      event_refused bad = rw (eq-eqb (read old).answer ACCEPTED accepted, whole, ne_eqb outcome.answer ACCEPTED bad)

      module _ (taken : outcome.answer ≡ ACCEPTED) where
        -- the buffer is too short
        pub no_room : ltb (length out) (length (image outcome.table)) ≡ true → called old event out ≡ refused_call ROOM
        unfolding called call_after call_on call_with
        no_room short = rw (eq-eqb (read old).answer ACCEPTED accepted, whole, eq-eqb outcome.answer ACCEPTED taken, short)

        -- the new image
        pub all_done : ltb (length out) (length (image outcome.table)) ≡ false
            → called old event out ≡ done (value_of outcome.deed) (image outcome.table)
        unfolding called call_after call_on call_with
        all_done room = rw (eq-eqb (read old).answer ACCEPTED accepted, whole, eq-eqb outcome.answer ACCEPTED taken, room)

-- ---- the fresh image

module _ (out : List ℕ) where
  -- refused
  pub start_not : (answer : ℕ) (buffer : List ℕ) → answer ≡ put_answer fresh_table out → buffer ≡ put_bytes fresh_table out → answer ≢ ACCEPTED
      → (answer ≡ start_number out) × (buffer ≡ start_bytes out)
  unfolding start_number start_bytes start_call
  start_not answer buffer number bytes bad =
      let (short, room, stays) = put_refused fresh_table out (λ e. bad (number ∙ e)) in
      let (back, left) = refusal (start_call out) out ROOM (rw short) in
      (number ∙ room ∙ back, bytes ∙ stays ∙ left)

  -- accepted
  pub start_done : (answer size : ℕ) (buffer : List ℕ) → answer ≡ put_answer fresh_table out → size ≡ put_length fresh_table out
      → buffer ≡ put_bytes fresh_table out → answer ≡ ACCEPTED → (number_of_call ACCEPTED 0 size ≡ start_number out) × (buffer ≡ start_bytes out)
  unfolding start_number start_bytes start_call
  start_done answer size buffer number long bytes good =
      let (room, all, front) = put_done fresh_table out (sym number ∙ good) in
      let (back, left) = success (start_call out) out 0 (image fresh_table) (rw room) in
      (ap (number_of_call ACCEPTED 0) (long ∙ all) ∙ back, bytes ∙ front ∙ left)

-- ---- the depth

-- no depth of an image that is refused
pub depth_not : (old : List ℕ) (node object : ℕ) → (read old).answer ≢ ACCEPTED → (read old).answer ≡ depth_call old node object
unfolding depth_call
depth_not old node object bad =
    let plain : (k : ℕ) → k ≡ k + 256 * 0 + 16777216 * 0 = λ k. omega arith in
    rw (ne_eqb (read old).answer ACCEPTED bad) (plain (read old).answer)

-- the report of one that is accepted
pub depth_told : (old : List ℕ) (node object : ℕ) → (read old).answer ≡ ACCEPTED
    → 256 * depth_report (read old).table node object ≡ depth_call old node object
unfolding depth_call
depth_told old node object good =
    let plain : (d : ℕ) → 256 * d ≡ 0 + 256 * d + 16777216 * 0 = λ d. omega arith in
    rw good (plain (depth_report (read old).table node object))
