-- What the definitions of specs/Counted.antt come to: each with its last or its first number taken off, as a loop needs it, and what tests and sums
-- tell of single numbers (lists are in proofs/ListLaws.antt). What is said of it stands here, and why it holds in proofs/CountedLaws.antt. Assumes
-- nothing.
use Rattle.std.specs.Prelude.{ℕ, ◌<◌}

-- ---- what the laws are said with

-- some number k below n has P k
abbrev pub Some : ℕ → (ℕ → Type 0) → Type 0
Some n P = (k : ℕ) × (k < n) × P k
