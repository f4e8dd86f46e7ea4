-- A part of the walk: what it makes of the marks that came in (`Visited`), how parts come one after the other, and when the parts are
-- the whole. Assumes nothing.
use Rattle.std.specs.Prelude.{◌≡◌, refl, true, false, List, [], ◌∷◌, ◌++◌, ℕ, length, set}
use Rattle.std.proofs.Common.{sym, ◌∙◌, inl, inr, ⊎_elim, arith}
use Rattle.std.proofs.lemmas.Bool.{false≢true}
use Rattle.terms.specs.Counted.{holds}
use Rattle.terms.specs.Limits.{OBJECTS}
use Rattle.terms.proofs.ListLaws.{holds_either, holds_first}
use Rattle.heap.specs.declared.Heap.{Heap}
use Rattle.heap.specs.Heap.{fields_of}
use Rattle.heap.specs.Walk.{Scope, Within, Reached, started, through, Marks, unmarked, is_marked}
use Rattle.heap.proofs.Reached.{unmarked_none, set_is, fields_hold, Walked}
use Rattle.heap.specs.Visit.{Shut, Visited}

-- a list of one name holds no other
only_name : (o x : ℕ) → holds (o ∷ []) x ≡ true → o ≡ x
unfolding holds
only_name o x l = ⊎_elim (λ e. e) (λ none. absurd (false≢true none)) ((holds_first o [] x).0 l)

module _ {h : Heap} {scope : Scope} where
  -- what is reached from some names is reached from others that reach these
  reached_from : {xs ys : List ℕ} {o : ℕ} → ((x : ℕ) → Within scope x → holds xs x ≡ true → Reached h scope ys x)
      → Reached h scope xs o → Reached h scope ys o
  reached_from {o = o} from (started w l) = from o w l
  reached_from from (through r f lt e w) = through (reached_from from r) f lt e w

  -- where all names of the scope are marked already, nothing is left to do
  pub visited_still : {names : List ℕ} {m : Marks} → length m ≡ OBJECTS → ((o : ℕ) → holds names o ≡ true → Within scope o → is_marked m o ≡ true)
      → Visited h scope names m m
  visited_still size all = record { size = size; grows = λ o on. on; begun = all; closed = λ x on. inl on; sound = λ o on. inl on }

  -- no names, nothing to do
  pub visited_none : {m : Marks} → length m ≡ OBJECTS → Visited h scope [] m m
  unfolding holds
  visited_none size = visited_still size (λ o l w. absurd (false≢true l))

  -- a name outside the scope is passed over
  pub visited_outside : {o : ℕ} {m : Marks} → length m ≡ OBJECTS → scope o ≡ false → Visited h scope (o ∷ []) m m
  visited_outside {o} size out = visited_still size (λ x l w. absurd (false≢true (sym out ∙ rw (← only_name o x l) at w.inside)))

  -- and so is an object that is marked
  pub visited_again : {o : ℕ} {m : Marks} → length m ≡ OBJECTS → is_marked m o ≡ true → Visited h scope (o ∷ []) m m
  visited_again {o} size on = visited_still size (λ x l w. rw (only_name o x l) at on)

  -- one part after another
  pub visited_then : {xs ys : List ℕ} {m n r : Marks} → Visited h scope xs m n → Visited h scope ys n r → Visited h scope (xs ++ ys) m r
  visited_then {xs} {ys} {m} {n} {r} one next = record {
    size = next.size;
    grows = λ o on. next.grows o (one.grows o on);
    begun = λ o l w. ⊎_elim (λ x. next.grows o (one.begun o x w)) (λ y. next.begun o y w) ((holds_either xs ys o).0 l);
    closed = λ x on. ⊎_elim
        (λ was. ⊎_elim inl (λ shut. inr (λ f o lt e w. next.grows o (shut f o lt e w))) (one.closed x was))
        inr
        (next.closed x on);
    sound = λ o on. ⊎_elim
        (λ was. ⊎_elim inl (λ q. inr (reached_from from_xs q)) (one.sound o was))
        (λ q. inr (reached_from from_ys q))
        (next.sound o on);
  }
    where
      from_xs : (x : ℕ) → Within scope x → holds xs x ≡ true → Reached h scope (xs ++ ys) x
      from_xs x w l = started w ((holds_either xs ys x).1 (inl l))

      from_ys : (x : ℕ) → Within scope x → holds ys x ≡ true → Reached h scope (xs ++ ys) x
      from_ys x w l = started w ((holds_either xs ys x).1 (inr l))

  -- an object is marked, and its fields follow
  pub visited_enter : {o : ℕ} {m r : Marks} → Within scope o → length m ≡ OBJECTS
      → Visited h scope (fields_of h o) (set m o true) r → Visited h scope (o ∷ []) m r
  visited_enter {o} {m} {r} within size rest = record {
    size = rest.size;
    grows = λ x on. rest.grows x ((set_is m o x).1 (inl on));
    begun = λ x l w. rw (only_name o x l) at marked;
    closed = λ x on. ⊎_elim (λ was. ⊎_elim inl (λ p. inr (rw p.1 at shut)) ((set_is m o x).0 was)) inr (rest.closed x on);
    sound = λ x on. ⊎_elim
        (λ was. ⊎_elim inl (λ p. inr (rw (← p.1) begin)) ((set_is m o x).0 was))
        (λ q. inr (reached_from from_fields q))
        (rest.sound x on);
  }
    where
      marked : is_marked r o ≡ true
      marked = rest.grows o ((set_is m o o).1 (inr (omega (arith, within.number), refl)))

      begin : Reached h scope (o ∷ []) o
      begin = started within ((holds_first o [] o).1 (inl refl))

      shut : Shut h scope r o
      shut f x lt e w = rest.begun x ((fields_hold h o x).1 (f, lt, e)) w

      from_fields : (x : ℕ) → Within scope x → holds (fields_of h o) x ≡ true → Reached h scope (o ∷ []) x
      from_fields x w l = let p = (fields_hold h o x).0 l in through begin p.0 p.1 p.2 w

  -- from no marks at all, the parts are the whole walk
  pub visited_walked : {starts : List ℕ} {r : Marks} → Visited h scope starts unmarked r → Walked h scope starts r
  visited_walked visited = record {
    size = visited.size;
    begun = visited.begun;
    closed = λ o y w.
        let (f, lt, e) = y.holder in
        ⊎_elim (λ was. absurd (none y.object was)) (λ shut. shut f o lt e w) (visited.closed y.object y.marked);
    sound = λ o on. ⊎_elim (λ was. absurd (none o was)) (λ q. q) (visited.sound o on);
  }
    where
      none : (o : ℕ) → is_marked unmarked o ≡ true → ⊥
      none o was = false≢true (sym (unmarked_none o) ∙ was)
