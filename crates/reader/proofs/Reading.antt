-- The reader's loop: what is read so far and the bytes that are left still give the whole answer. Assumes nothing.
use Rattle.std.specs.Prelude.{Result, Ok, Err, IfErr, IsErrAnd, ⊤}
use Rattle.std.proofs.Common.{◌≡◌, refl, ap, ◌∙◌, Bool, true, false, List, [], ◌∷◌, ℕ, zero, suc, ◌-◌, ◌≤◌, ◌<◌, sub-one, arith, ltb, length, take, drop, length-drop, take_all}
use borrow.Author.Tests.{ltb-true}
use Rattle.terms.specs.Choose.{◌and◌}
use Rattle.terms.proofs.ChooseLaws.{and_passes}
use Rattle.terms.specs.Limits.{NODES, OBJECTS, PLACES}
use Rattle.terms.specs.Numbers.{ACCEPTED}
use Rattle.terms.specs.Refusals.{number_of}
use Rattle.terms.specs.declared.Refusal.{Refusal}
use Rattle.table.specs.declared.Table.{Table}
use Rattle.image.specs.declared.Front as taken
use Rattle.image.specs.declared.RecordKind.{RecordKind}
use Rattle.image.specs.declared.RecordKind.TheVariants.{Count, Live, NodeRoots, Directory, Remote, Reference, Decrement, End, Unknown}
use Rattle.image.specs.declared.Turn.{Turn}
use Rattle.image.specs.Content.{number, fits_record, with_record}
use Rattle.image.specs.Front.{key_of, front_of, front_of_result}
use Rattle.image.specs.Reader.{Loaded, Taken, payload, record_of, take_record, refused_read, then_read, read_from}
use Rattle.image.specs.Records.{is_end}
use Rattle.reader.proofs.Fronting.{Good, good_front_lem, bad_front}

-- with fuel for each byte left, a turn of the loop is one record
unroll : (n : ℕ) (now : Turn) (t : Table) (l : List ℕ) → length l ≤ n
    → read_from n now t l ≡ then_read (take_record now t l) (λ now' t' rest. read_from (n - 1) now' t' rest)
unfolding read_from record_of
unroll zero now t [] le = refl
unroll zero now t (x ∷ l) le = absurd (omega arith)
unroll (suc n) now t l le = rw sub-one

-- the bytes from a place on, as the code lends them
abbrev pub from_on : ℕ → List ℕ → List ℕ
from_on n l = take (length l - n) (drop n l)

from_on_is : (n : ℕ) (l : List ℕ) → from_on n l ≡ drop n l
from_on_is n l = take_all (length l - n) (drop n l) (omega (arith, length-drop n l))

-- reading on from this table with these bytes gives the whole
pub record Reading (whole : Loaded) (table : Table) (turn : Turn) (rest : List ℕ) : Type 0 where
  pub fuel : ℕ
  pub enough : length rest ≤ fuel
  pub same : whole ≡ read_from fuel turn table rest

pub at_first : (turn : Turn) (table : Table) (l : List ℕ) → Reading (read_from (length l) turn table l) table turn l
at_first turn table l = record { fuel = length l; enough = omega arith; same = refl }

-- ---- at a record

module _ {whole : Loaded} {table : Table} {turn : Turn} {rest : List ℕ} (r : Reading whole table turn rest) where
  abbrev go : Taken → Loaded
  go x = then_read x (λ now' t' rest'. read_from (r.fuel - 1) now' t' rest')

  next : whole ≡ go (take_record turn table rest)
  next = r.same ∙ unroll r.fuel turn table rest r.enough

  -- a refusal decides
  pub stopped : (e : Refusal) → front_of_result (Err e) ≡ front_of turn rest → whole ≡ refused_read (number_of e)
  stopped e is = next ∙ ap go (bad_front turn rest e is table)

  pub refused : (e : Refusal) → front_of_result (Err e) ≡ front_of turn rest
      → (a : Result ⊤ Refusal) → IsErrAnd a (λ x. x ≡ e) → IfErr a (λ x. whole ≡ refused_read (number_of x))
  refused e is (Ok x) same = elim same [ ]
  refused e is (Err x) same = rw same (stopped e is)

  module _ {f : taken.Front} (is : front_of_result (Ok f) ≡ front_of turn rest) where
    pub good : Good turn rest f
    good = good_front_lem turn rest f is

    -- and so does the end
    pub ended : f.kind ≡ End → whole ≡ record { answer = ACCEPTED; table = table }
    ended end = next ∙ ap go (good.takes table) ∙ rw (ap is_end end)

    -- behind one record more
    pub onward : is_end f.kind ≡ false
        → Reading whole (with_record table f.kind (payload f.kind rest)) f.next (from_on f.length rest)
    onward on =
        record {
          fuel = r.fuel - 1;
          enough = rw (from_on_is f.length rest) (omega (arith, r.enough, good.size, good.long, length-drop f.length rest));
          same = next ∙ ap go (good.takes table) ∙ rw (on, from_on_is f.length rest, good.next, good.size);
        }

-- ---- what a record is about

-- how many things of the sort there are
abbrev pub limit : RecordKind → ℕ
limit Count = 1
limit Live = OBJECTS
limit NodeRoots = NODES
limit Directory = OBJECTS
limit Remote = OBJECTS
limit Reference = PLACES
limit Decrement = PLACES
limit End = 1
limit Unknown = 1

-- where the test of the numbers begins with the key, or comes to it
tested : (key most : ℕ) (rest : Bool) → (ltb key most and rest) ≡ true → key < most
tested key most rest e = ltb-true key most ((and_passes _ rest).0 e).0

-- it is one of them
pub key_below : (k : RecordKind) (ns : List ℕ) → fits_record k ns ≡ true → key_of k ns < limit k
unfolding fits_record
key_below Count ns e = omega arith
key_below Live ns e = tested _ OBJECTS _ e
key_below NodeRoots ns e = tested _ NODES _ e
key_below Directory ns e = tested _ OBJECTS _ e
key_below Remote ns e = tested _ OBJECTS _ ((and_passes (ltb (number ns 0) NODES) _).0 e).1
key_below Reference ns e = tested _ PLACES _ e
key_below Decrement ns e = tested _ PLACES _ e
key_below End ns e = omega arith
key_below Unknown ns e = omega arith
