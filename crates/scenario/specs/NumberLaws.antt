-- A number handed back with the bytes behind it is one with its place in the line: these bytes are the line's from there on. Assumes nothing.
use Rattle.std.specs.Prelude.{◌≡◌, Bool, true, false, List, [], ◌∷◌, ℕ, suc, ◌+◌, ◌-◌, ◌*◌, ◌≤◌, leb, length, drop, Option, Some, None, if◌then◌else◌}
use Rattle.std.specs.Borrow.{Bor}
use Rattle.std.proofs.Common.{sym, ap, subst, ◌∙◌, drop-drop}
use native.Mathlib.Omega.{arith}
use Rattle.scenario.specs.Line.{ZERO, is_blank, is_digit, skipped, Number, none, found, digits, starts_number, number_in}
use Rattle.scenario.specs.Number.{meant, number_told, read_of}

-- r is the end of l
record IsEnd (r l : List ℕ) : Type 0 where
  short : length r ≤ length l
  same : drop (length l - length r) l ≡ r

all_end : (l : List ℕ) → IsEnd l l
all_end l =
    let none : length l - length l ≡ 0 = omega arith in
    record { short = omega arith; same = ap (λ (n : ℕ). drop n l) none }

more_end : (b : ℕ) (r l : List ℕ) → IsEnd r l → IsEnd r (b ∷ l)
more_end b r l e =
    let short = e.short in
    let more : length (b ∷ l) - length r ≡ suc (length l - length r) = omega arith in
    record { short = omega arith; same = ap (λ (n : ℕ). drop n (b ∷ l)) more ∙ e.same }

end_end : (r m l : List ℕ) → IsEnd r m → IsEnd m l → IsEnd r l
end_end r m l e f =
    let short = e.short in
    let long = f.short in
    let both : length l - length r ≡ (length l - length m) + (length m - length r) = omega arith in
    record {
      short = omega arith;
      same =
          ap (λ (n : ℕ). drop n l) both
          ∙ sym (drop-drop (length m - length r) (length l - length m) l)
          ∙ ap (λ (k : List ℕ). drop (length m - length r) k) f.same
          ∙ e.same;
    }

-- the bytes behind a number, if there is one, are the end of the line
abbrev Ends : List ℕ → Number → Type 0
Ends l none = Unit {0}
Ends l (found v r) = IsEnd r l

blank_end : (blank : Bool) (b : ℕ) (r l : List ℕ) → IsEnd r l → IsEnd (if blank then r else b ∷ l) (b ∷ l)
blank_end true b r l e = more_end b r l e
blank_end false b r l e = all_end (b ∷ l)

skipped_end : (l : List ℕ) → IsEnd (skipped l) l
unfolding skipped
skipped_end [] = all_end []
skipped_end (b ∷ l) = blank_end (is_blank b) b (skipped l) l (skipped_end l)

digit_end : (digit low : Bool) (b n : ℕ) (l : List ℕ) (more : Number) → Ends l more → Ends (b ∷ l) (if digit then (if low then more else none) else found n (b ∷ l))
digit_end true true b n l none e = tt
digit_end true true b n l (found v r) e = more_end b r l e
digit_end true false b n l more e = tt
digit_end false low b n l more e = all_end (b ∷ l)

digits_end : (limit n : ℕ) (l : List ℕ) → Ends l (digits limit n l)
unfolding digits
digits_end limit n [] = all_end []
digits_end limit n (b ∷ l) =
    let more = 10 * n + (b - ZERO) in
    digit_end (is_digit b) (leb more limit) b n l (digits limit more l) (digits_end limit more l)

starts_end : (starts : Bool) (l m : List ℕ) (read : Number) → IsEnd m l → Ends m read → Ends l (if starts then read else none)
starts_end true l m none e f = tt
starts_end true l m (found v r) e f = end_end r m l f e
starts_end false l m read e f = tt

number_end : (limit : ℕ) (l : List ℕ) → Ends l (number_in limit l)
unfolding number_in
number_end limit l = starts_end (starts_number (skipped l)) l (skipped l) (digits limit 0 (skipped l)) (skipped_end l) (digits_end limit 0 (skipped l))

pub read_meant : (limit : ℕ) (l : List ℕ) (o : Option (ℕ × Bor (List ℕ))) → number_told o ≡ number_in limit l → meant l (read_of l o) ≡ number_in limit l
read_meant limit l None e = e
read_meant limit l (Some r) e =
    let end : IsEnd r.1.now l = subst (Ends l) (sym e) (number_end limit l) in
    ap (λ (b : List ℕ). found r.0 b) end.same ∙ e
