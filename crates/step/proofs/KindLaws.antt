-- The number of a kind is that kind's. Assumes nothing.
use Rattle.std.specs.Prelude.{◌≡◌, refl}
use Rattle.step.specs.declared.Kind.{Kind}
use Rattle.step.specs.declared.Kind.TheVariants.{New, Move, Clear, Load, Store, Send, Receive, Settle, Collect, Drop, Unknown}
use Rattle.step.specs.Event.{kind_number, kind_of}

pub kind_of-kind_number : (kind : Kind) → kind_of (kind_number kind) ≡ kind
unfolding kind_of
kind_of-kind_number New = refl
kind_of-kind_number Move = refl
kind_of-kind_number Clear = refl
kind_of-kind_number Load = refl
kind_of-kind_number Store = refl
kind_of-kind_number Send = refl
kind_of-kind_number Receive = refl
kind_of-kind_number Settle = refl
kind_of-kind_number Collect = refl
kind_of-kind_number Drop = refl
kind_of-kind_number Unknown = refl
