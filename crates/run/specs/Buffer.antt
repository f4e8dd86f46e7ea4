-- A text in a lent buffer, from a place on: that there is room for it, and what the buffer is afterwards. Definitions only; assumes nothing.
use Rattle.std.specs.Prelude.{◌≡◌, List, ℕ, ◌+◌, ◌≤◌, length}
use Rattle.std.proofs.lemmas.List.Edits.{sets}
use Rattle.run.specs.declared.text.Text.{Text}

-- the text fits from that place on
pub record Room (out : List ℕ) (at : ℕ) (text : List ℕ) : Type 0 where
  pub fits : at + length text ≤ length out

-- the text stands in the buffer from that place on and nothing else changed; the place after it came back, and lies inside
pub record Wrote (out : List ℕ) (at : ℕ) (text : List ℕ) (after : List ℕ) (next : ℕ) : Type 0 where
  pub place : next ≡ at + length text
  pub bytes : after ≡ sets out at text
  pub inside : next ≤ length out

-- ---- a text that is written so far, and more

-- there is room for more
abbrev pub RoomFor : Text → List ℕ → Type 0
RoomFor t more = Room t.out.now t.length more

-- more stands behind it, in the same buffer, and nothing else changed
pub record Appends (t : Text) (more : List ℕ) (t' : Text) : Type 0 where
  pub same_reference : t'.out.ghost_name ≡ t.out.ghost_name
  pub wrote : Wrote t.out.now t.length more t'.out.now t'.length
