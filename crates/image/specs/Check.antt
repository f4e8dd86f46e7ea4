-- The check of an image: the reader's tests, record by record, with no table. Definitions only; assumes nothing.
use Rattle.std.specs.Prelude.{List, ◌++◌, ℕ, zero, suc, length, if◌then◌else◌}
use Rattle.terms.specs.Choose.{answered}
use Rattle.terms.specs.Numbers.{ACCEPTED, SHORT}
use Rattle.image.specs.declared.RecordKind.{RecordKind}
use Rattle.image.specs.declared.Turn.{Turn}
use Rattle.image.specs.Order.{first_turn, turn_after}
use Rattle.image.specs.Reader.{stated_kind, payload, rest_after, frame_refusals, content_refusals}
use Rattle.image.specs.Records.{is_end}

-- the answer to bytes whose front record is of kind k, with the rest answered by go
abbrev pub front_answer : Turn → List ℕ → RecordKind → (Turn → List ℕ → ℕ) → ℕ
front_answer now l k go =
    answered (λ number. number) (frame_refusals k l ++ content_refusals now k (payload k l) (rest_after k l))
    (if is_end k then ACCEPTED else go (turn_after k (payload k l)) (rest_after k l))

-- the answer to at most n records more
unfoldable pub check_from : ℕ → Turn → List ℕ → ℕ
check_from zero now l = SHORT
check_from (suc n) now l = front_answer now l (stated_kind l) (λ now' rest. check_from n now' rest)

-- the answer to a whole image
unfoldable pub check : List ℕ → ℕ
check l = check_from (length l) first_turn l
