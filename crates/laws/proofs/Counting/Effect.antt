-- What an act does to the counts of its object: it is balanced, so that laws A, B and C are kept, and no count moves by more than one, so that
-- all stay within the event count. Assumes nothing.
use Rattle.std.specs.Prelude.{◌≡◌, refl, Bool, true, false, cond, ℕ, suc, ◌+◌, ◌-◌, ◌≤◌, ◌<◌, ltb, ℤ, pos, negsuc, ◌+ℤ◌}
use Rattle.std.proofs.Common.{ap, arith, ltb-true}
use Rattle.std.proofs.Math.IntN.{sub_ℕ}
use Rattle.entry.specs.declared.Entry.{Entry}
use Rattle.entry.specs.Entry.{msg_ctr_of, rc_of}
use Rattle.counting.specs.Rules.{Balanced}
use Rattle.counting.proofs.Turned.{Turn, Passing, turned}
use Rattle.table.specs.declared.Message.{Message}
use Rattle.laws.specs.Counting.Lawful.{rules}
use Rattle.laws.specs.LawB.{returns_in}
use Rattle.laws.specs.Sound.{above, below}

-- ---- the parts of a sum above and below zero

-- of a difference
difference_parts : (a b : ℕ) → (above (sub_ℕ a b) ≤ a) × (below (sub_ℕ a b) ≤ b)
difference_parts a b = go (ltb a b) (ltb-true a b)
  where
    go : (test : Bool) → (test ≡ true → a < b)
        → (above (cond test (negsuc (b - suc a)) (pos (a - b))) ≤ a) × (below (cond test (negsuc (b - suc a)) (pos (a - b))) ≤ b)
    go true less = let lt = less refl in omega arith
    go false less = omega arith

-- neither part is more than those of the two numbers
pub sum_parts : (a b : ℤ) → (above (a +ℤ b) ≤ above a + above b) × (below (a +ℤ b) ≤ below a + below b)
sum_parts (pos a) (pos b) = omega arith
sum_parts (pos a) (negsuc b) = omega (arith, difference_parts a (suc b))
sum_parts (negsuc a) (pos b) = omega (arith, difference_parts b (suc a))
sum_parts (negsuc a) (negsuc b) = omega arith

-- ---- acts

module _ (o p : ℕ) where
  -- what an act on entry e and message x does that hands back e' and x'
  pub record Effect (e : Entry) (x : Message) (e' : Entry) (x' : Message) : Type 0 where
    pub balanced : Balanced (rules o) p e x e' x'
    pub counts : rc_of e' ≤ rc_of e + 1
    pub returns : above (msg_ctr_of e') + above (returns_in o x') ≤ above (msg_ctr_of e) + above (returns_in o x) + 1
    pub owed : below (msg_ctr_of e') ≤ below (msg_ctr_of e) + 1

  module _ (less more : ℕ) (by : ℤ) where
    -- no count rises by more than one, and none falls by more than one below zero
    pub record Slight (x x' : Message) : Type 0 where
      pub few : more ≤ 1
      pub risen : above by + above (returns_in o x') ≤ above (returns_in o x) + 1
      pub fallen : below by ≤ 1

    -- the message of an act that leaves the entry's weight alone
    pub record Passes (x x' : Message) : Type 0 where
      pub passing : Passing (rules o) less more by p x x'
      pub slight : Slight x x'

    -- with its entry
    pub turned_effect : {e e' : Entry} {x x' : Message} → Turn (rules o) less more by e e' → Passes x x' → Effect e x e' x'
    turned_effect {e} {e'} turn passes =
        let parts = sum_parts (msg_ctr_of e) by in
        let risen : above (msg_ctr_of e') ≡ above (msg_ctr_of e +ℤ by) = ap above turn.returns in
        let fallen : below (msg_ctr_of e') ≡ below (msg_ctr_of e +ℤ by) = ap below turn.returns in
        record {
          balanced = turned (rules o) less more by turn passes.passing;
          counts = omega (arith, turn.counts, passes.slight);
          returns = omega (arith, passes.slight);
          owed = omega (arith, passes.slight);
        }
