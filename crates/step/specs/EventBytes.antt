-- The numbers of an event record by their bytes' places, a missing byte counting as 0. Assumes nothing.
use Rattle.std.specs.Prelude.{◌≡◌, refl, List, [], ◌∷◌, ℕ, ◌+◌, ◌*◌, eqb, get_or, take, drop}
use Rattle.std.proofs.Common.{ap, arith, get_or-drop}
use Rattle.terms.specs.Bytes.{number_of}
use Rattle.step.specs.Event.{event}
use Rattle.step.specs.EventRecord.{OPERANDS, event_in, states_event}

first_byte : (l : List ℕ) → number_of (take 1 l) ≡ get_or l 0 0
first_byte [] = refl
first_byte (b ∷ l) = omega arith

first_word : (l : List ℕ) → number_of (take 2 l) ≡ get_or l 0 0 + 256 * get_or l 1 0
first_word [] = refl
first_word (b ∷ []) = omega arith
first_word (b ∷ c ∷ l) = omega arith

-- the stated length is the first two bytes'
pub states_by : (l : List ℕ) → states_event l ≡ eqb (get_or l 0 0 + 256 * get_or l 1 0) OPERANDS
states_by l = ap (λ (n : ℕ). eqb n OPERANDS) (first_word l)

-- the event is in the others
pub event_by : (l : List ℕ) → event_in l ≡ event (get_or l 2 0 + 256 * get_or l 3 0) (get_or l 4 0) (get_or l 5 0) (get_or l 6 0) (get_or l 7 0)
event_by l =
    let operands = drop 2 (drop 2 l) in
    rw (
      first_word (drop 2 l),
      first_byte operands,
      first_byte (drop 1 operands),
      first_byte (drop 1 (drop 1 operands)),
      first_byte (drop 1 (drop 1 (drop 1 operands))),
    )
    (simp (get_or-drop))
