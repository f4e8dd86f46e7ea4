-- The three layers together are the reader's definition: what is refused is refused by it with the same number, and what is taken is taken
-- by it. Assumes nothing.
use Rattle.std.specs.Prelude.{Ok, Err, if◌then◌else◌}
use Rattle.std.proofs.Common.{◌≡◌, refl, sym, ap, subst, ◌∙◌, Bool, true, false, true≢false, List, [], ◌∷◌, ◌++◌, ℕ, ◌+◌, ◌≤◌, ◌<◌, arith, length}
use borrow.Author.Tests.{ltb-false, not-false}
use Rattle.terms.specs.Choose.{Refusal, answered}
use Rattle.terms.specs.Refusals.{number_of}
use Rattle.terms.specs.declared.Refusal as why
use Rattle.table.specs.declared.Table.{Table}
use Rattle.image.specs.declared.Front as taken
use Rattle.image.specs.declared.RecordKind.{RecordKind}
use Rattle.image.specs.declared.Turn.{Turn}
use Rattle.image.specs.Content.{fits_record}
use Rattle.image.specs.Front.{Frame, Refused, Whole, Front, frame_of, key_of, no_front, good_front, whole_of, after_frame, front_of_result, front_of}
use Rattle.image.specs.Order.{turn_after}
use Rattle.image.proofs.ReadLaws.{NoneApplies, Refusing}
use Rattle.image.specs.Reader.{Taken, stop, stated_kind, payload, rest_after, frame_refusals, content_refusals, take_in, record_of, take_record}
use Rattle.image.specs.Records.{HEAD, is_unknown, length_of}

-- ---- lists of refusals

module _ {A B : Type 0} (h : A → B) (f : ℕ → A) (x : A) where
  -- what is made of an answer
  answered_map : (rs : List Refusal) → h (answered f rs x) ≡ answered (λ n. h (f n)) rs (h x)
  answered_map [] = refl
  answered_map (r ∷ rs) = go r.applies (answered_map rs)
    where
      go : (b : Bool) → h (answered f rs x) ≡ answered (λ n. h (f n)) rs (h x)
          → h (if b then f r.number else answered f rs x) ≡ (if b then h (f r.number) else answered (λ n. h (f n)) rs (h x))
      go true rest = refl
      go false rest = rest

module _ {A : Type 0} (f : ℕ → A) (x : A) where
  -- one list behind the other
  answered_append : (rs more : List Refusal) → answered f (rs ++ more) x ≡ answered f rs (answered f more x)
  answered_append [] more = refl
  answered_append (r ∷ rs) more = ap (λ (y : A). if r.applies then f r.number else y) (answered_append rs more)

module _ {A : Type 0} (P : A → Type 0) (f : ℕ → A) (x : A) (refuse : (n : ℕ) → 0 < n → P (f n)) where
  -- refused with a number, or none applies
  decided : (rs : List Refusal) → Refusing rs → (NoneApplies rs → P x) → P (answered f rs x)
  decided [] refusing accept = accept tt
  decided (r ∷ rs) refusing accept = go r.applies refl (decided rs refusing.1)
    where
      go : (b : Bool) → r.applies ≡ b → ((NoneApplies rs → P x) → P (answered f rs x)) → P (if b then f r.number else answered f rs x)
      go true e rest = refuse r.number refusing.0
      go false e rest = rest (λ none. accept (e, none))

-- ---- the whole record

-- what is found at the front, and what the reader's definition makes of it
record Both : Type 0 where
  front : Front
  outcome : Table → Taken

-- refused, or taken as a record of kind k
data Seen (l : List ℕ) : Both → Type 0 where
  refused : (n : ℕ) → 0 < n → Seen l (record { front = no_front n; outcome = λ t. stop n })
  good : (k : RecordKind) → is_unknown k ≡ false → fits_record k (payload k l) ≡ true → HEAD + length_of k ≤ length l
      → Seen l (record { front = good_front k (payload k l); outcome = λ t. take_in t k (payload k l) (rest_after k l) })

module _ (now : Turn) (l : List ℕ) where
  -- all reasons, in their order
  refusals : List Refusal
  refusals = frame_refusals (stated_kind l) l ++ content_refusals now (stated_kind l) (payload (stated_kind l) l) (rest_after (stated_kind l) l)

  denied : ℕ → Both
  denied n = record { front = no_front n; outcome = λ t. stop n }

  granted : Both
  granted = record {
    front = good_front (stated_kind l) (payload (stated_kind l) l);
    outcome = λ t. take_in t (stated_kind l) (payload (stated_kind l) l) (rest_after (stated_kind l) l);
  }

  both : Both
  both = answered denied refusals granted

  seen : Seen l both
  unfolding both refusals denied granted
  seen =
      decided (Seen l) denied granted (λ n pos. refused n pos) refusals
      (omega arith, (omega arith, (omega arith, (omega arith, (omega arith, (omega arith, (omega arith, tt)))))))
      (λ none.
      good (stated_kind l) none.1.0
      (not-false (fits_record (stated_kind l) (payload (stated_kind l) l)) none.1.1.1.1.1.0)
      (ltb-false (length l) (HEAD + length_of (stated_kind l)) none.1.1.1.0))

  -- the three layers
  front_is : front_of now l ≡ both.front
  unfolding both refusals denied granted frame_of whole_of
  front_is =
      answered_map (λ (x : Frame). after_frame now l x) Refused (Whole (stated_kind l)) (frame_refusals (stated_kind l) l)
      ∙ sym (answered_append no_front (good_front (stated_kind l) (payload (stated_kind l) l)) (frame_refusals (stated_kind l) l)
      (content_refusals now (stated_kind l) (payload (stated_kind l) l) (rest_after (stated_kind l) l)))
      ∙ sym (answered_map (λ (b : Both). b.front) denied granted refusals)

  -- and the definition
  outcome_is : (t : Table) → take_record now t l ≡ both.outcome t
  unfolding both refusals denied granted record_of
  outcome_is t = sym (answered_map (λ (b : Both). b.outcome t) denied granted refusals)

-- ---- what the code hands back

-- a record that is taken
pub record Good (now : Turn) (l : List ℕ) (f : taken.Front) : Type 0 where
  pub key : f.key ≡ key_of f.kind (payload f.kind l)
  pub next : f.next ≡ turn_after f.kind (payload f.kind l)
  pub size : f.length ≡ HEAD + length_of f.kind
  pub fits : fits_record f.kind (payload f.kind l) ≡ true
  pub long : HEAD + length_of f.kind ≤ length l
  pub takes : (t : Table) → take_record now t l ≡ take_in t f.kind (payload f.kind l) (rest_after f.kind l)

module _ (now : Turn) (l : List ℕ) where
  good_of : (x : Both) → Seen l x → ((t : Table) → take_record now t l ≡ x.outcome t)
      → (f : taken.Front) → front_of_result (Ok f) ≡ x.front → Good now l f
  good_of x (refused n pos) out f e = let zero_is : 0 ≡ n = ap (λ (g : Front). g.answer) e in absurd (omega (arith, zero_is))
  good_of x (good k known fits long) out f e =
      subst (λ (g : Front). Good now l (record { kind = g.kind; key = g.key; next = g.next; length = g.length })) (sym e)
      (record { key = refl; next = refl; size = refl; fits = fits; long = long; takes = out })

  bad_of : (x : Both) → Seen l x → ((t : Table) → take_record now t l ≡ x.outcome t)
      → (r : why.Refusal) → front_of_result (Err r) ≡ x.front → (t : Table) → take_record now t l ≡ stop (number_of r)
  bad_of x (refused n pos) out r e t = out t ∙ ap (λ (g : Front). stop g.answer) (sym e)
  bad_of x (good k known fits long) out r e t = absurd (true≢false (ap (λ (g : Front). is_unknown g.kind) e ∙ known))

  pub good_front_lem : (f : taken.Front) → front_of_result (Ok f) ≡ front_of now l → Good now l f
  good_front_lem f is = good_of (both now l) (seen now l) (outcome_is now l) f (is ∙ front_is now l)

  pub bad_front : (r : why.Refusal) → front_of_result (Err r) ≡ front_of now l → (t : Table) → take_record now t l ≡ stop (number_of r)
  bad_front r is = bad_of (both now l) (seen now l) (outcome_is now l) r (is ∙ front_is now l)
