-- The copying under way: the changes left are in order, there is room for what they make, and with that the buffer becomes what it is to be.
-- And the length under way: it and what is passed make up for the old image. Assumes nothing.
use Rattle.std.specs.Prelude.{◌≡◌, refl, List, [], ◌∷◌, ℕ, ◌+◌, ◌-◌, ◌≤◌, length, take, drop}
use Rattle.std.proofs.Common.{ap, ◌∙◌, arith, length-append, length-drop}
use Rattle.std.proofs.lemmas.List.Edits.{sets}
use Rattle.std.proofs.lemmas.List.{take_all}
use Rattle.terms.proofs.BufferLaws.{stored_more}
use Rattle.image.specs.declared.Held.TheVariants as h
use Rattle.image.specs.Stored.{Stored}
use Rattle.image.proofs.StoredLaws.{stored_length}
use Rattle.plan.specs.Change.{Change, To}
use Rattle.etzvanul.specs.declared.Cursor.{Cursor}
use Rattle.etzvanul.specs.Orderly.{Orderly, Cuts, Moved, passed, put, put_to, orderly_first, orderly_rest, spliced_next}
use Rattle.etzvanul.specs.Orderly.{length_with, length_after, length_most, cuts, enough_left}
use Rattle.etzvanul.specs.Spliced.{spliced}

pub record Going (whole l : List ℕ) (cs : List Change) (from to : ℕ) (out : List ℕ) : Type 0 where
  pub orderly : Orderly from cs (length l)
  pub room : to + length (spliced from cs l) ≤ length out
  pub left : sets out to (spliced from cs l) ≡ whole

module _ {whole l : List ℕ} {c : Change} {cs : List Change} {from to : ℕ} {out : List ℕ} (g : Going whole l (c ∷ cs) from to out) where
  parts : length (spliced from (c ∷ cs) l) ≡ length (put from c l) + length (spliced (passed from c) cs l)
  parts = ap length (spliced_next from c cs l) ∙ length-append (put from c l) (spliced (passed from c) cs l)

  -- what the next change asks, and what is left after it
  pub ready : Orderly from (c ∷ []) (length l) × (to + length (put from c l) ≤ length out)
  ready = (orderly_first from c cs (length l) g.orderly, omega (arith, parts, g.room))

  pub going_on : {from' to' : ℕ} {out' : List ℕ} → from' ≡ passed from c → Stored out to (put from c l) out' to' → Going whole l cs from' to' out'
  going_on is s =
      rw is
      (record {
        orderly = orderly_rest from c cs (length l) g.orderly;
        room = omega (arith, parts, g.room, s.place, stored_length s);
        left = stored_more out (put from c l) (spliced (passed from c) cs l) to (rw (spliced_next from c cs l) at g.left) s.stands s.place;
      })

pub on : {whole l : List ℕ} {x : Change} {cs : List Change} {out out' : List ℕ} {c next : Cursor} → Going whole l (x ∷ cs) c.from c.to out
    → Moved l c x out next out' → Going whole l cs next.from next.to out'
on g m = going_on g m.place m.stored

-- once the event count stands
abbrev counted : ℕ → List Change → List Change
counted count cs = To 0 8 0 0 (h.Count count) ∷ cs

module _ (count : ℕ) (cs : List Change) (l out : List ℕ)
    (pre : Orderly 0 (counted count cs) (length l) × (length (spliced 0 (counted count cs) l) ≤ length out)) where
  pub start : Going (sets out 0 (spliced 0 (counted count cs) l)) l (counted count cs) 0 0 out
  start = record { orderly = pre.0; room = omega (arith, pre.1); left = refl }

  pub begun : {to : ℕ} {out' : List ℕ} → Stored out 0 (put_to 0 0 0 0 (h.Count count) l) out' to
      → Going (sets out 0 (spliced 0 (counted count cs) l)) l cs 8 to out'
  begun s = going_on start refl s

-- once all changes stand
module _ {whole l : List ℕ} {from to : ℕ} {out : List ℕ} (g : Going whole l [] from to out) where
  pub rest_room : to + length (take (length l - from) (drop from l)) ≤ length out
  unfolding spliced
  rest_room = rw (take_all (length l - from) (drop from l) (omega (arith, length-drop from l))) g.room

  pub ended : sets out to (take (length l - from) (drop from l)) ≡ whole
  unfolding spliced
  ended = rw (take_all (length l - from) (drop from l) (omega (arith, length-drop from l))) g.left

pub record Lasting (n most : ℕ) (cs : List Change) (from m : ℕ) : Type 0 where
  pub orderly : Orderly from cs n
  pub enough : n ≤ m + from
  pub small : m ≤ most

module _ {n most : ℕ} {c : Change} {cs : List Change} {from m : ℕ} (g : Lasting n most (c ∷ cs) from m) where
  pub taken : Cuts m c
  taken = cuts from m c cs n g.orderly g.enough

  pub lasting_on : {m' : ℕ} → m' ≡ length_with m c → Lasting n (most + 20) cs (passed from c) m'
  lasting_on is =
      rw is
      (record {
        orderly = orderly_rest from c cs n g.orderly;
        enough = enough_left from m c cs n g.orderly g.enough;
        small = omega (arith, length_most m c, g.small);
      })

-- the length so far and the changes left make the whole
pub record Measured (n whole most : ℕ) (cs : List Change) (m : ℕ) : Type 0 where
  pub from : ℕ
  pub lasting : Lasting n most cs from m
  pub left : length_after m cs ≡ whole
