-- The lines of a text, as the code cuts it at its line feeds, and what each line adds to the number of the first bad line and to the events.
-- Assumes nothing.
use Rattle.std.specs.List.{slice_split, onto_first, enumerate_from}
use Rattle.std.proofs.Common.{◌≡◌, ℕ, suc, ◌+◌, ◌<◌, ◌≤◌, Bool, true, false, cond, eqb, List, [], ◌∷◌, ◌++◌, length, get_or, drop, refl, sym, ap, ◌∙◌, inl, inr, add-one, zero-add, arith, length-append, if◌then◌else◌, ◌⊎◌}
use Rattle.std.proofs.lemmas.List.{drop_more}
use Rattle.std.proofs.lemmas.List.FromFn.{length-enumerate_from, get_or-enumerate_from}
use Rattle.scenario.specs.Line.{Line, Nothing, One, Bad, line_feed, skipped, ends, without_return, bare_line, line_of}
use Rattle.scenario.specs.Text.{longer, lines_of, is_bad, first_bad, events_in, events_of}
use Rattle.scenario.specs.Records.{records_of, records_in}
use Rattle.scenario.specs.RecordLaws.{records_append}

-- the text between its line feeds; behind the last one stands a line more than the text has where nothing stands there, an empty one
abbrev pub cut : List ℕ → List (List ℕ)
cut text = slice_split (λ b. eqb b line_feed) text

cut_byte : (b : ℕ) (feed : Bool) (ss ls : List (List ℕ)) → (ss ≡ ls) ⊎ (ss ≡ ls ++ [] ∷ [])
    → (cond feed ([] ∷ ss) (onto_first b ss) ≡ (if feed then [] ∷ ls else longer b ls)) ⊎ (cond feed ([] ∷ ss) (onto_first b ss) ≡ (if feed then [] ∷ ls else longer b ls) ++ [] ∷ [])
cut_byte b true ss ls (inl e) = inl (ap (λ (x : List (List ℕ)). [] ∷ x) e)
cut_byte b true ss ls (inr e) = inr (ap (λ (x : List (List ℕ)). [] ∷ x) e)
cut_byte b false ss [] (inl e) = inl (ap (onto_first b) e)
cut_byte b false ss (l ∷ ls) (inl e) = inl (ap (onto_first b) e)
cut_byte b false ss [] (inr e) = inl (ap (onto_first b) e)
cut_byte b false ss (l ∷ ls) (inr e) = inr (ap (onto_first b) e)

cut_lines : (text : List ℕ) → (cut text ≡ lines_of text) ⊎ (cut text ≡ lines_of text ++ [] ∷ [])
unfolding lines_of
cut_lines [] = inr refl
cut_lines (b ∷ text) = cut_byte b (eqb b line_feed) (cut text) (lines_of text) (cut_lines text)

-- an empty line is not bad, and tells nothing
bad_empty : (n : ℕ) (ls : List (List ℕ)) → first_bad n (ls ++ [] ∷ []) ≡ first_bad n ls
unfolding first_bad skipped ends without_return bare_line line_of
bad_empty n [] = refl
bad_empty n (l ∷ ls) = rw (bad_empty (suc n) ls)

events_empty : (ls : List (List ℕ)) → events_of (ls ++ [] ∷ []) ≡ events_of ls
unfolding events_of skipped ends without_return bare_line line_of
events_empty [] = refl
events_empty (l ∷ ls) = rw (events_empty ls)

module _ (text : List ℕ) where
  pub cut_bad : first_bad 1 (cut text) ≡ first_bad 1 (lines_of text)
  cut_bad = elim (cut_lines text) [ inl e ↦ ap (first_bad 1) e | inr e ↦ ap (first_bad 1) e ∙ bad_empty 1 (lines_of text) ]

  pub cut_events : events_of (cut text) ≡ events_of (lines_of text)
  cut_events = elim (cut_lines text) [ inl e ↦ ap events_of e | inr e ↦ ap events_of e ∙ events_empty (lines_of text) ]

-- ---- the first of the lines from n on

-- line n, and the lines behind it
pub record IsLine (lines : List (List ℕ)) (n : ℕ) (l : List ℕ) (line : Line) : Type 0 where
  pub within : n < length lines
  pub here : l ≡ get_or lines n l
  pub told : line ≡ line_of l

module _ {lines : List (List ℕ)} {n : ℕ} {l : List ℕ} {line : Line} (at : IsLine lines n l line) where
  split : drop n lines ≡ l ∷ drop (n + 1) lines
  split = drop_more lines n l at.within ∙ ap (λ (b : List ℕ). b ∷ drop (n + 1) lines) (sym at.here)

  -- it is bad
  pub first_bad_lem : (k : ℕ) → is_bad line ≡ true → first_bad k (drop n lines) ≡ k
  unfolding first_bad
  first_bad_lem k b = rw (split, ← at.told, b)

  -- it is not bad
  pub first_good : (k : ℕ) → is_bad line ≡ false → first_bad k (drop n lines) ≡ first_bad (k + 1) (drop (n + 1) lines)
  unfolding first_bad
  first_good k b = rw (split, ← at.told, b, add-one k)

  -- its event stands before the others
  pub first_events : events_of (drop n lines) ≡ events_in line ++ events_of (drop (n + 1) lines)
  unfolding events_of
  first_events = rw (split, ← at.told)

  pub first_count : length (events_of (drop n lines)) ≡ length (events_in line) + length (events_of (drop (n + 1) lines))
  first_count = ap length first_events ∙ length-append (events_in line) (events_of (drop (n + 1) lines))

  -- and so does its record
  pub first_records : records_of (events_of (drop n lines)) ≡ records_in line ++ records_of (events_of (drop (n + 1) lines))
  first_records = ap records_of first_events ∙ records_append (events_in line) (events_of (drop (n + 1) lines))

  pub first_size : length (records_of (events_of (drop n lines))) ≡ length (records_in line) + length (records_of (events_of (drop (n + 1) lines)))
  first_size = ap length first_records ∙ length-append (records_in line) (records_of (events_of (drop (n + 1) lines)))

-- a line has one event at most
pub one_event : (line : Line) → length (events_in line) ≤ 1
one_event Nothing = omega arith
one_event (One e) = omega arith
one_event Bad = omega arith

-- the n-th of the numbered lines
pub numbered : (lines : List (List ℕ)) (n i : ℕ) (l : List ℕ) → (n < length (enumerate_from 0 lines)) × (◌≡◌ {A = ℕ × List ℕ} (i, l) (get_or (enumerate_from 0 lines) n (i, l)))
    → (n < length lines) × (i ≡ n) × (l ≡ get_or lines n l)
numbered lines n i l at =
    let within : n < length lines = omega (arith, length-enumerate_from 0 lines, at.0) in
    let e = at.1 ∙ get_or-enumerate_from 0 lines n (i, l) within in
    (within, ap (λ (p : ℕ × List ℕ). p.0) e ∙ zero-add n, ap (λ (p : ℕ × List ℕ). p.1) e)
