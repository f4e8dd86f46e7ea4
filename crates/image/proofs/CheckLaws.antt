-- What the reader answers depends on the bytes alone and not on the table so far: so an image is checked where it lies, with no table.
-- Assumes nothing.
use Rattle.std.specs.Prelude.{◌≡◌, refl, Bool, true, false, List, [], ◌∷◌, ◌++◌, ℕ, zero, suc, length, if◌then◌else◌}
use Rattle.std.proofs.Common.{ap, ◌∙◌}
use Rattle.terms.specs.Choose.{Refusal, answered}
use Rattle.terms.specs.Numbers.{ACCEPTED}
use Rattle.table.specs.declared.Table.{Table}
use Rattle.table.specs.Table.{fresh_table}
use Rattle.image.specs.Reader.{Loaded}
use Rattle.image.specs.declared.RecordKind.{RecordKind}
use Rattle.image.specs.declared.Turn.{Turn}
use Rattle.image.specs.Check.{front_answer, check_from, check}
use Rattle.image.specs.Content.{with_record}
use Rattle.image.specs.Order.{first_turn, turn_after}
use Rattle.image.specs.Reader.{Taken, stop, finished, onward, take_in, record_of, then_read, read_from, read}
use Rattle.image.specs.Reader.{stated_kind, payload, rest_after, frame_refusals, content_refusals}
use Rattle.image.specs.Records.{is_end}

-- the first refusal that applies gives the answer
answered-answer : (go : Turn → Table → List ℕ → Loaded) (rs : List Refusal) (effect : Taken)
    → (then_read (answered stop rs effect) go).answer ≡ answered (λ number. number) rs (then_read effect go).answer
answered-answer go [] effect = refl
answered-answer go (r ∷ rs) effect = test r.applies (answered-answer go rs effect)
  where
    test : (b : Bool) → (then_read (answered stop rs effect) go).answer ≡ answered (λ number. number) rs (then_read effect go).answer
        → (then_read (if b then stop r.number else answered stop rs effect) go).answer
        ≡ (if b then r.number else answered (λ number. number) rs (then_read effect go).answer)
    test true rest = refl
    test false rest = rest

-- with any table so far the reader gives that answer
pub answer_from : (n : ℕ) (now : Turn) (t : Table) (l : List ℕ) → (read_from n now t l).answer ≡ check_from n now l
unfolding read_from check_from record_of
answer_from zero now t l = refl
answer_from (suc n) now t l = one (stated_kind l) (λ now' t' l'. answer_from n now' t' l')
  where
    one : (k : RecordKind) → ((now' : Turn) (t' : Table) (l' : List ℕ) → (read_from n now' t' l').answer ≡ check_from n now' l')
        → (then_read (record_of now t l k (payload k l) (rest_after k l)) (λ now' t' rest. read_from n now' t' rest)).answer
        ≡ front_answer now l k (λ now' rest. check_from n now' rest)
    one k more =
        answered-answer (λ now' t' rest. read_from n now' t' rest) refusals (take_in t k (payload k l) (rest_after k l))
        ∙ ap (answered (λ number. number) refusals) (effect (is_end k))
      where
        refusals : List Refusal
        refusals = frame_refusals k l ++ content_refusals now k (payload k l) (rest_after k l)

        effect : (b : Bool)
            → (then_read (if b then finished t else onward (turn_after k (payload k l)) (with_record t k (payload k l)) (rest_after k l))
            (λ now' t' rest. read_from n now' t' rest)).answer
            ≡ (if b then ACCEPTED else check_from n (turn_after k (payload k l)) (rest_after k l))
        effect true = refl
        effect false = more (turn_after k (payload k l)) (with_record t k (payload k l)) (rest_after k l)

-- so the check is the reader's answer
pub answer-check : (l : List ℕ) → (read l).answer ≡ check l
unfolding read check
answer-check l = answer_from (length l) first_turn fresh_table l
