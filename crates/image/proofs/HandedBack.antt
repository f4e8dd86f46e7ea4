-- What the code hands back is settled by what the definitions say of it: refusals with one number are one refusal, and so a check, a read and a
-- write whose answers are the same in the definitions are the same. Assumes nothing.
use Rattle.std.specs.Prelude.{◌≡◌, refl, ℕ, Option, Some, None, Result, Ok, Err, ⊤, eqb, if◌then◌else◌}
use Rattle.std.proofs.Common.{sym, ap, ap₂, ◌∙◌}
use Rattle.terms.specs.Numbers.{SHAPE, EVENT, ENDED, NOMSG, SELF, EMPTY, AWAY, ROOT, NOROOM, NOENTRY, BUSY, TORN, FULL}
use Rattle.terms.specs.Numbers.{SHORT, KIND, LENGTH, ORDER, VALUE, TRAIL, ROOM}
use Rattle.terms.specs.Refusals.{number_of, refusal_number, answer_of}
use Rattle.terms.specs.declared.Refusal.{Refusal}
use Rattle.terms.specs.declared.Refusal.TheVariants as r
use Rattle.table.specs.declared.Table.{Table}
use Rattle.image.specs.declared.Loaded as kept
use Rattle.image.specs.Reader.{Loaded, loaded_of}
use Rattle.image.specs.Writer.{Written, written_of}

-- the refusal of a number, if there is one
refusal_of : ℕ → Option Refusal
refusal_of n =
    if eqb n SHAPE then Some r.Shape
    else if eqb n EVENT then Some r.Event
    else if eqb n ENDED then Some r.Ended
    else if eqb n NOMSG then Some r.NoMessage
    else if eqb n SELF then Some r.ToItself
    else if eqb n EMPTY then Some r.Empty
    else if eqb n AWAY then Some r.Away
    else if eqb n ROOT then Some r.Root
    else if eqb n NOROOM then Some r.NoRoom
    else if eqb n NOENTRY then Some r.NoEntry
    else if eqb n BUSY then Some r.Busy
    else if eqb n TORN then Some r.Torn
    else if eqb n FULL then Some r.Full
    else if eqb n SHORT then Some r.Short
    else if eqb n KIND then Some r.Kind
    else if eqb n LENGTH then Some r.Length
    else if eqb n ORDER then Some r.Order
    else if eqb n VALUE then Some r.Value
    else if eqb n TRAIL then Some r.Trail
    else if eqb n ROOM then Some r.Room
    else None

number_back : (x : Refusal) → refusal_of (number_of x) ≡ Some x
unfolding refusal_of
number_back r.Shape = refl
number_back r.Event = refl
number_back r.Ended = refl
number_back r.NoMessage = refl
number_back r.ToItself = refl
number_back r.Empty = refl
number_back r.Away = refl
number_back r.Root = refl
number_back r.NoRoom = refl
number_back r.NoEntry = refl
number_back r.Busy = refl
number_back r.Torn = refl
number_back r.Full = refl
number_back r.Short = refl
number_back r.Kind = refl
number_back r.Length = refl
number_back r.Order = refl
number_back r.Value = refl
number_back r.Trail = refl
number_back r.Room = refl

refusal_back : (x : Option Refusal) → refusal_of (refusal_number x) ≡ x
unfolding refusal_of
refusal_back None = refl
refusal_back (Some x) = number_back x

-- ---- a value or a refusal

either : {A : Type 0} → A → Option Refusal → Result A Refusal
either a None = Ok a
either a (Some x) = Err x

-- a check's answer
answer_back : (x : Result ⊤ Refusal) → either tt (refusal_of (answer_of x)) ≡ x
unfolding refusal_of either
answer_back (Ok a) = refl
answer_back (Err x) = ap (either tt) (number_back x)

pub answer_of_injective : (x y : Result ⊤ Refusal) → answer_of x ≡ answer_of y → x ≡ y
answer_of_injective x y e = sym (answer_back x) ∙ ap (λ (n : ℕ). either tt (refusal_of n)) e ∙ answer_back y

-- what a write gives
written_back : (x : Result ℕ Refusal) → either (written_of x).length (refusal_of (written_of x).answer) ≡ x
unfolding refusal_of either
written_back (Ok n) = refl
written_back (Err x) = ap (either 0) (number_back x)

pub written_of_injective : (x y : Result ℕ Refusal) → written_of x ≡ written_of y → x ≡ y
written_of_injective x y e = sym (written_back x) ∙ ap (λ (w : Written). either w.length (refusal_of w.answer)) e ∙ written_back y

-- what a read gives
pub loaded_of_injective : (x y : kept.Loaded) → loaded_of x ≡ loaded_of y → x ≡ y
loaded_of_injective x y e =
    ap₂ (λ (refusal : Option Refusal) (table : Table). record { refusal = refusal; table = table })
    (sym (refusal_back x.refusal) ∙ ap (λ (l : Loaded). refusal_of l.answer) e ∙ refusal_back y.refusal)
    (ap (λ (l : Loaded). l.table) e)
