-- What a rule set says of one object, and the laws that its counts obey (document 01, laws A, B and C; PROOF-PLAN, "One object at a time").
-- A rule set is a parameter: what its entries and messages add to each law. Definitions only; assumes nothing.
use Rattle.std.specs.Prelude.{◌≡◌, ◌≢◌, ◌⊎◌, Bool, false, ℕ, ◌+◌, ◌≤◌, ◌<◌}
use Rattle.terms.specs.Counted.{how_many, one, sum}
use Rattle.terms.specs.CountedLaws.{Some}
use Rattle.counting.specs.Adding.{Adding, total}

-- ---- a rule set

-- what is counted, where and by what
pub record Rules : Type 1 where
  pub nodes : ℕ
  pub places : ℕ
  pub owner : ℕ
  pub Entry : Type 0
  pub Message : Type 0
  -- law A: an entry's own count, what it weighs in the count of a node, and what a message adds there
  pub rc : Entry → ℕ
  pub weight : ℕ → Entry → ℕ
  pub air : ℕ → Message → ℕ
  -- law B: return counts, those of an entry and of a message, and whether a message is a reference on its way home
  pub numbers : Adding
  pub returns : Entry → numbers.Number
  pub carried : Message → numbers.Number
  pub home : Message → Bool
  -- so many as a return count; no more references than there are places come to nought
  pub of : ℕ → numbers.Number
  pub of_none : of 0 ≡ numbers.nought
  pub of_more : (m n : ℕ) → of (m + n) ≡ numbers.plus (of m) (of n)
  pub of_some : (n : ℕ) → n ≤ places → of n ≡ numbers.nought → n ≡ 0

-- one object's share of the table: what stands at each node, and in each place
pub record Share (R : Rules) : Type 0 where
  pub entry : ℕ → R.Entry
  pub message : ℕ → R.Message

-- ---- the laws of a share

module _ (R : Rules) where
  -- what hangs under node p
  abbrev pub inflow : Share R → ℕ → ℕ
  inflow c p = sum R.nodes (λ q. R.weight p (c.entry q)) + sum R.places (λ s. R.air p (c.message s))

  -- return counts of all entries and messages
  abbrev pub returned : Share R → R.numbers.Number
  returned c =
      R.numbers.plus
      (total R.numbers R.nodes (λ p. R.returns (c.entry p)))
      (total R.numbers R.places (λ s. R.carried (c.message s)))

  -- references on their way home
  abbrev pub homeward : Share R → ℕ
  homeward c = how_many R.places (λ s. R.home (c.message s))

  -- laws A and B; and law C as a rank that falls from each remote entry to the node under which it hangs
  pub record Lawful (c : Share R) : Type 0 where
    pub law_a : (p : ℕ) → p < R.nodes → R.rc (c.entry p) ≡ inflow c p
    pub law_b : returned c ≡ R.of (homeward c)
    pub rank : ℕ → ℕ
    pub falls : (p q : ℕ) → p < R.nodes → q < R.nodes → 0 < R.weight q (c.entry p) → rank q < rank p

  -- the entry of node p hangs under a node
  abbrev pub Hangs : Share R → ℕ → Type 0
  Hangs c p = Some R.nodes (λ q. 0 < R.weight q (c.entry p))

  -- what the shape of a table says of a share: away from the owner an entry hangs under a node, or counts for nothing; and a message adds to
  -- the count of a node, or carries no return count
  pub record Shaped (c : Share R) : Type 0 where
    pub owner_number : R.owner < R.nodes
    pub away : (p : ℕ) → p < R.nodes → p ≢ R.owner → Hangs c p ⊎ ((R.rc (c.entry p) ≡ 0) × (R.returns (c.entry p) ≡ R.numbers.nought))
    pub weighty : (s : ℕ) → s < R.places → Some R.nodes (λ x. 0 < R.air x (c.message s)) ⊎ (R.carried (c.message s) ≡ R.numbers.nought)

  -- the directory counts for nothing
  pub record Clear (c : Share R) : Type 0 where
    pub no_count : R.rc (c.entry R.owner) ≡ 0
    pub no_return : R.returns (c.entry R.owner) ≡ R.numbers.nought

  -- no remote entry, no reference and no decrement
  pub record Nobody (c : Share R) : Type 0 where
    pub no_entry : (p q : ℕ) → p < R.nodes → q < R.nodes → R.weight q (c.entry p) ≡ 0
    pub no_air : (s x : ℕ) → s < R.places → x < R.nodes → R.air x (c.message s) ≡ 0
    pub no_home : (s : ℕ) → s < R.places → R.home (c.message s) ≡ false

  -- ---- from one share to another

  -- the entry at one node and the message in one place change; all else stays
  pub record Patch (c d : Share R) : Type 0 where
    pub node : ℕ
    pub node_number : node < R.nodes
    pub place : ℕ
    pub place_number : place < R.places
    pub entries : (p : ℕ) → p < R.nodes → p ≢ node → d.entry p ≡ c.entry p
    pub messages : (s : ℕ) → s < R.places → s ≢ place → d.message s ≡ c.message s

  -- the entry hangs under no other node than before; or it is new, hangs under one other node and counts nothing yet
  abbrev pub Placed : ℕ → R.Entry → R.Entry → Type 0
  Placed p e e' =
      ((q : ℕ) → 0 < R.weight q e' → 0 < R.weight q e)
      ⊎ ((R.rc e' ≡ 0) × (q : ℕ) × (q ≢ p) × ((x : ℕ) → 0 < R.weight x e' → x ≡ q))

  -- at node p, entry e and message x become e' and x': what leaves one term of a law enters another
  pub record Balanced (p : ℕ) (e : R.Entry) (x : R.Message) (e' : R.Entry) (x' : R.Message) : Type 0 where
    pub here : R.rc e' + (R.weight p e + R.air p x) ≡ R.rc e + (R.weight p e' + R.air p x')
    pub there : (q : ℕ) → q ≢ p → R.weight q e + R.air q x ≡ R.weight q e' + R.air q x'
    pub back : R.numbers.plus (R.numbers.plus (R.returns e') (R.carried x')) (R.of (one (R.home x)))
        ≡ R.numbers.plus (R.numbers.plus (R.returns e) (R.carried x)) (R.of (one (R.home x')))
    pub placed : Placed p e e'
