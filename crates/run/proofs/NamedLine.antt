-- A line of numbers, each behind its name, number by number. Assumes nothing.
use Rattle.std.proofs.Common.{◌≡◌, ℕ, ◌+◌, ◌<◌, ◌≤◌, List, [], ◌++◌, length, drop, get_or, drop-cons, add-one}
use Rattle.std.proofs.lemmas.List.{drop_all}
use Rattle.std.specs.Borrow.{Bor}
use Rattle.run.specs.Text.{decimal, named_line, newline}

-- what stands past the last number
abbrev pub past : Bor (List ℕ) × ℕ
past = (record { ref_ptr = (0, 0); now = [] }, 0)

module _ (xs : List (Bor (List ℕ) × ℕ)) (i : ℕ) where
  -- the first number that is left, and the others
  pub named_line_more : i < length xs
      → named_line (drop i xs) ≡ (get_or xs i past).0.now ++ (decimal (get_or xs i past).1 ++ named_line (drop (i + 1) xs))
  named_line_more lt = rw (add-one, drop-cons xs i past)

  -- no number is left
  pub named_line_all : length xs ≤ i → named_line (drop i xs) ≡ newline
  named_line_all le = rw (drop_all i xs le)
