-- How long a line can be: its numbers are as wide as their types. Assumes nothing.
use Rattle.std.proofs.Common.{ℕ, ◌+◌, ◌^◌, ◌<◌, ◌≤◌, length, length-append, arith}
use Rattle.step.specs.declared.Event.{Event}
use Rattle.step.specs.Outcome.{Outcome, value_of}
use Rattle.run.specs.declared.Next.{Next}
use Rattle.run.specs.declared.Next.TheVariants.{Nothing, Broken, Found}
use Rattle.run.specs.declared.Summary.{Summary}
use Rattle.run.specs.declared.text.Text.{Text}
use Rattle.run.specs.Buffer.{Appends, RoomFor}
use Rattle.run.specs.Ran.{LINE, ENDING}
use Rattle.run.specs.Run.{RECORDS, line, last_line, stop, ending}
use Rattle.run.specs.Text.{decimal}
use Rattle.run.proofs.Decimal.{decimal_most}

-- a number of 32 bits has ten digits at most
ten : (n : ℕ) → n < 2 ^ 32 → length (decimal n) ≤ 10
ten n lt = decimal_most 9 n (omega arith)

-- an event's numbers, as its type bounds them
pub record FitsEvent (e : Event) : Type 0 where
  pub kind : e.kind < 2 ^ 16
  pub a : e.a < 2 ^ 8
  pub b : e.b < 2 ^ 8
  pub c : e.c < 2 ^ 8
  pub d : e.d < 2 ^ 8

-- an event's line
module _ (number : ℕ) (e : Event) (o : Outcome) (fits : FitsEvent e) (few : number ≤ RECORDS) (answer : o.answer < 2 ^ 8) (value : value_of o.deed < 2 ^ 32) where
  line_most : length (line number e o) ≤ LINE
  unfolding line
  line_most =
      let n = decimal_most 3 number (omega arith) in
      let k = decimal_most 4 e.kind (omega arith) in
      let a = decimal_most 2 e.a (omega arith) in
      let b = decimal_most 2 e.b (omega arith) in
      let c = decimal_most 2 e.c (omega arith) in
      let d = decimal_most 2 e.d (omega arith) in
      let r = decimal_most 2 o.answer (omega arith) in
      let v = ten (value_of o.deed) value in
      simp length-append (omega arith)

  -- where there is room for the longest line, there is room for this one
  pub line_room : (t : Text) → t.length + LINE ≤ length t.out.now → RoomFor t (line number e o)
  line_room t room = record { fits = omega (arith, line_most) }

  -- and it takes no more
  pub line_short : (t t' : Text) → Appends t (line number e o) t' → t'.length ≤ t.length + LINE
  line_short t t' w = omega (arith, w.wrote.place, line_most)

-- what ends a run
stop_most : (front : Next) → length (stop front) ≤ 5
stop_most Nothing = omega arith
stop_most Broken = omega arith
stop_most (Found e) = omega arith

-- a summary's numbers, as its type bounds them
pub record FitsSummary (s : Summary) : Type 0 where
  pub events : s.events < 2 ^ 32
  pub live : s.live < 2 ^ 32
  pub entries : s.entries < 2 ^ 32
  pub messages : s.messages < 2 ^ 32
  pub sent : s.sent < 2 ^ 32
  pub saved : s.saved < 2 ^ 32

last_most : (s : Summary) → FitsSummary s → length (last_line s) ≤ 110
unfolding last_line
last_most s fits =
    let events = ten s.events (omega arith) in
    let live = ten s.live (omega arith) in
    let entries = ten s.entries (omega arith) in
    let messages = ten s.messages (omega arith) in
    let sent = ten s.sent (omega arith) in
    let saved = ten s.saved (omega arith) in
    simp length-append (omega arith)

pub ending_most : (s : Summary) → FitsSummary s → (front : Next) → length (ending s front) ≤ ENDING
ending_most s fits front = let a = stop_most front in let b = last_most s fits in simp length-append (omega arith)
