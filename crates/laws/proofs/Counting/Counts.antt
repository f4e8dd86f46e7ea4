-- What single entries and messages add to the laws of an object (document 01, laws A and B). Assumes nothing.
use Rattle.std.specs.Prelude.{◌≡◌, refl, ◌≢◌, Bool, true, false, ℕ, ◌<◌, eqb, ℤ, pos, negsuc, if◌then◌else◌}
use Rattle.std.proofs.Common.{sym, ap, ◌∙◌, true≢false, arith, eq-eqb, ne_eqb, eqb-true}
use Rattle.terms.specs.Choose.{◌and◌}
use Rattle.terms.specs.Counted.{one}
use Rattle.terms.specs.Limits.{owner}
use Rattle.entry.specs.declared.ReturnCount.{ReturnCount}
use Rattle.entry.specs.declared.Weight.{Weight}
use Rattle.entry.specs.declared.Remote.{Remote}
use Rattle.entry.specs.declared.Entry.TheVariants.{Elsewhere}
use Rattle.entry.specs.Entry.{is_none, weight_under}
use Rattle.table.specs.declared.Message.{Message}
use Rattle.table.specs.declared.Message.TheVariants.{Empty, Reference, Decrement}
use Rattle.laws.specs.Counting.Change.{is_of}
use Rattle.laws.specs.LawA.{air_under}
use Rattle.laws.specs.LawB.{returns_in, is_homeward}

-- ---- entries

-- the weight of a remote entry under a node
pub under : (x : ℕ) (e : Remote) → weight_under x (Elsewhere e) ≡ (if eqb e.parent x then e.ref_weight.0 else 0)
under x e = go (eqb e.parent x)
  where
    go : (b : Bool) → elim b [ true ↦ e.ref_weight.0 | false ↦ 0 ] ≡ (if b then e.ref_weight.0 else 0)
    go true = refl
    go false = refl

-- only the Parent has any
pub under_parent : (x : ℕ) (e : Remote) → 0 < weight_under x (Elsewhere e) → x ≡ e.parent
under_parent x e = go (eqb e.parent x) refl
  where
    go : (b : Bool) → eqb e.parent x ≡ b → 0 < elim b [ true ↦ e.ref_weight.0 | false ↦ 0 ] → x ≡ e.parent
    go true at some = sym (eqb-true e.parent x at)
    go false at some = absurd (omega arith)

-- and it has all
pub under_own : (e : Remote) → weight_under e.parent (Elsewhere e) ≡ e.ref_weight.0
under_own e = under e.parent e ∙ rw (eq-eqb e.parent e.parent refl)

-- a return count that passes the test is nought
pub none_is : (z : ℤ) → is_none z ≡ true → z ≡ pos 0
none_is (pos n) e = ap pos (eqb-true n 0 e)
none_is (negsuc n) e = absurd (true≢false (sym e))

-- ---- messages

module _ (o : ℕ) where
  -- a message of object o is of object o
  mine : eqb o o ≡ true
  mine = eq-eqb o o refl

  module _ (from to : ℕ) where
    -- a reference that doesn't travel to the owner counts at its sender
    module _ (away : to ≢ owner o) where
      pub away_air : (x : ℕ) → air_under x o (Reference from to o) ≡ one (eqb from x)
      away_air x = rw (mine, ne_eqb to (owner o) away) (go (eqb from x))
        where
          go : (b : Bool) → one (b and true) ≡ one b
          go true = refl
          go false = refl

      -- and not in law B
      pub away_home : is_homeward o (Reference from to o) ≡ false
      away_home = rw (mine, ne_eqb to (owner o) away)

    -- one that does counts nowhere but in law B
    module _ (home : to ≡ owner o) where
      pub home_air : (x : ℕ) → air_under x o (Reference from to o) ≡ 0
      home_air x = rw (mine, eq-eqb to (owner o) home) (go (eqb from x))
        where
          go : (b : Bool) → one (b and false) ≡ 0
          go true = refl
          go false = refl

      -- where it counts for one
      pub home_home : is_homeward o (Reference from to o) ≡ true
      home_home = rw (mine, eq-eqb to (owner o) home)

    -- a decrement counts at its receiver
    module _ (m : ReturnCount) (n : Weight) where
      pub decrement_air : (x : ℕ) → air_under x o (Decrement from to o m n) ≡ (if eqb to x then n.0 else 0)
      decrement_air x = rw mine

      -- and carries its return count
      pub decrement_carried : returns_in o (Decrement from to o m n) ≡ m.0
      decrement_carried = rw mine

  -- a message of another object adds nothing
  pub record AddsNothing (x : Message) : Type 0 where
    pub air : (p : ℕ) → air_under p o x ≡ 0
    pub carried : returns_in o x ≡ pos 0
    pub home : is_homeward o x ≡ false

  pub foreign : (x : Message) → is_of o x ≡ false → AddsNothing x
  foreign Empty e = record { air = λ p. refl; carried = refl; home = refl }
  foreign (Reference from to x) e = record { air = λ p. rw e; carried = refl; home = rw e }
  foreign (Decrement from to x m n) e = record { air = λ p. rw e; carried = rw e; home = refl }
