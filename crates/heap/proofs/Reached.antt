-- The walk that computes marks exactly what the relation reaches: `reached_is`. On the way there: what marking adds, what marked objects
-- hold, and why as many rounds as the scope has objects are enough. For code that walks in another order: `walked_only`. Assumes nothing.
use Rattle.std.specs.Prelude.{◌≡◌, Bool, true, false, not, List, [], ◌∷◌, ◌++◌, ◌↔◌, ◌⊎◌, get_or, set, replicate, if◌then◌else◌}
use Rattle.std.proofs.Math.Path.{refl}
use Rattle.std.proofs.Common.{add-one, sym, ap, ◌∙◌, true≢false, inl, inr, arith, length-set, ext_get_or}
use Rattle.std.proofs.lemmas.Bool.{false≢true}
use Rattle.std.proofs.Math.Logic.Iff
use Rattle.std.proofs.Math.Logic.{⊎_elim}
use Prim.Native.Nat.{ℕ, zero, suc, ◌+◌, ◌-◌, ◌<◌, ◌≤◌}
use Rattle.std.proofs.Math.Decide.{dec_lt}
use Rattle.std.proofs.Math.ListN.{length}
use Rattle.terms.specs.Choose.{◌and◌}
use Rattle.terms.proofs.ChooseLaws.{and_passes}
use Rattle.terms.specs.Counted.{holds, how_many, list, list_from, gather_from}
use Rattle.terms.specs.CountedLaws.{Some}
use Rattle.terms.proofs.CountedLaws.{list_from_first, list_last, gather_from_first, how_many_le, how_many_lt, how_many_none}
use Rattle.terms.specs.Limits.{OBJECTS, FIELDS}
use Rattle.terms.proofs.ListLaws.{length_list, get_or-list, holds_first, holds-gather, holds-list}
use Rattle.heap.specs.declared.Heap.{Heap}
use Rattle.heap.specs.Heap.{field_at, fields_of}
use Rattle.heap.specs.Walk.{Scope, everywhere, Within, Reached, started, through, Marks, unmarked, is_marked, mark, held_by, rounds, reached}

-- ---- marks

-- at the start nothing is marked
pub unmarked_none : (o : ℕ) → is_marked unmarked o ≡ false
unmarked_none o = go OBJECTS o
  where
    go : (n i : ℕ) → get_or (replicate n false) i false ≡ false
    go zero i = refl
    go (suc n) zero = refl
    go (suc n) (suc i) = go n i

-- marks are the same where they mark the same
pub marks_same : (m n : Marks) → length m ≡ length n → ((o : ℕ) → o < length m → (is_marked m o ≡ true) ↔ (is_marked n o ≡ true)) → m ≡ n
marks_same m n len same = ext_get_or false m n len (λ o lt. go (is_marked m o) (is_marked n o) (same o lt))
  where
    go : (a b : Bool) → (a ≡ true) ↔ (b ≡ true) → a ≡ b
    go true b e = sym (e.0 refl)
    go false true e = e.1 refl
    go false false e = refl

-- to mark x marks x, where the list has that place, and takes no mark away
pub set_is : (m : Marks) (x o : ℕ) → (is_marked (set m x true) o ≡ true) ↔ ((is_marked m o ≡ true) ⊎ ((o < length m) × (x ≡ o)))
set_is [] x o = (inl, ⊎_elim (λ on. on) (λ p. absurd (omega arith)))
set_is (b ∷ m) zero zero = (λ on. inr (omega arith, refl), λ p. refl)
set_is (b ∷ m) zero (suc o) = (inl, ⊎_elim (λ on. on) (λ p. absurd (omega arith)))
set_is (b ∷ m) (suc x) zero = (inl, ⊎_elim (λ on. on) (λ p. absurd (omega arith)))
set_is (b ∷ m) (suc x) (suc o) =
    let rest = set_is m x o in
    (λ on. ⊎_elim inl (λ p. inr (omega arith, ap suc p.1)) (rest.0 on), λ p. rest.1 (⊎_elim inl (λ q. inr (omega arith, omega arith)) p))

-- the marks with x marked too, if it stands in the scope
abbrev marking : Scope → Marks → ℕ → Marks
marking scope m x = if scope x then set m x true else m

-- one name keeps the number of marks
marking-length : (scope : Scope) (m : Marks) (x : ℕ) → length (marking scope m x) ≡ length m
marking-length scope m x = go (scope x)
  where
    go : (b : Bool) → length (if b then set m x true else m) ≡ length m
    go true = length-set m x true
    go false = refl

-- o has a place among the marks, stands in the scope and is the name x
record Named (scope : Scope) (m : Marks) (x o : ℕ) : Type 0 where
  place : o < length m
  inside : scope o ≡ true
  same : x ≡ o

-- one name adds itself
marking_is : (scope : Scope) (m : Marks) (x o : ℕ) → (is_marked (marking scope m x) o ≡ true) ↔ ((is_marked m o ≡ true) ⊎ Named scope m x o)
marking_is scope m x o = go (scope x) refl
  where
    go : (b : Bool) → scope x ≡ b → (is_marked (if b then set m x true else m) o ≡ true) ↔ ((is_marked m o ≡ true) ⊎ Named scope m x o)
    go true e = (
      λ on. ⊎_elim inl (λ p. inr (record { place = p.0; inside = rw p.1 at e; same = p.1 })) ((set_is m x o).0 on),
      λ on. (set_is m x o).1 (⊎_elim inl (λ n. inr (n.place, n.same)) on),
    )
    go false e = (inl, ⊎_elim (λ on. on) (λ n. absurd (true≢false (sym n.inside ∙ rw n.same at e))))

-- marking keeps the number of marks
pub mark-length : (scope : Scope) (m : Marks) (xs : List ℕ) → length (mark scope m xs) ≡ length m
unfolding mark
mark-length scope m [] = refl
mark-length scope m (x ∷ xs) = mark-length scope (marking scope m x) xs ∙ marking-length scope m x

-- marking takes no mark away
pub mark_grows : (scope : Scope) (m : Marks) (xs : List ℕ) (o : ℕ) → is_marked m o ≡ true → is_marked (mark scope m xs) o ≡ true
unfolding mark
mark_grows scope m [] o on = on
mark_grows scope m (x ∷ xs) o on = mark_grows scope (marking scope m x) xs o ((marking_is scope m x o).1 (inl on))

-- o has a place among the marks, stands in the scope and in the list
pub record Added (scope : Scope) (m : Marks) (xs : List ℕ) (o : ℕ) : Type 0 where
  pub place : o < length m
  pub inside : scope o ≡ true
  pub listed : holds xs o ≡ true

-- marking marks all of these
mark_adds : (scope : Scope) (m : Marks) (xs : List ℕ) (o : ℕ) → Added scope m xs o → is_marked (mark scope m xs) o ≡ true
unfolding mark holds
mark_adds scope m [] o a = absurd (false≢true a.listed)
mark_adds scope m (x ∷ xs) o a =
    let len = marking-length scope m x in
    ⊎_elim
    (λ q.
    let named : Named scope m x o = record { place = a.place; inside = a.inside; same = q } in
    mark_grows scope (marking scope m x) xs o ((marking_is scope m x o).1 (inr named)))
    (λ l. mark_adds scope (marking scope m x) xs o (record { place = omega arith; inside = a.inside; listed = l }))
    ((holds_first x xs o).0 a.listed)

-- marking marks no others
mark_only : (scope : Scope) (m : Marks) (xs : List ℕ) (o : ℕ) → is_marked (mark scope m xs) o ≡ true → (is_marked m o ≡ true) ⊎ Added scope m xs o
unfolding mark
mark_only scope m [] o on = inl on
mark_only scope m (x ∷ xs) o on =
    let len = marking-length scope m x in
    let listed = (holds_first x xs o).1 in
    ⊎_elim
    (λ was. ⊎_elim inl
    (λ n. inr (record { place = n.place; inside = n.inside; listed = listed (inl n.same) }))
    ((marking_is scope m x o).0 was))
    (λ a. inr (record { place = omega arith; inside = a.inside; listed = listed (inr a.listed) }))
    (mark_only scope (marking scope m x) xs o on)

-- exactly what marking adds
pub mark_is : (scope : Scope) (m : Marks) (xs : List ℕ) (o : ℕ) → (is_marked (mark scope m xs) o ≡ true) ↔ ((is_marked m o ≡ true) ⊎ Added scope m xs o)
mark_is scope m xs o = (mark_only scope m xs o, ⊎_elim (mark_grows scope m xs o) (mark_adds scope m xs o))

-- two lists are marked one after the other
pub mark_append : (scope : Scope) (m : Marks) (xs ys : List ℕ) → mark scope m (xs ++ ys) ≡ mark scope (mark scope m xs) ys
unfolding mark
mark_append scope m [] ys = refl
mark_append scope m (x ∷ xs) ys = mark_append scope (marking scope m x) xs ys

-- f 0, f 1, up to below i are marked, and then f i
pub mark-last : (m : Marks) (f : ℕ → ℕ) (i : ℕ) {n r : Marks} → n ≡ mark everywhere m (list i f) → r ≡ set n (f i) true → r ≡ mark everywhere m (list (i + 1) f)
unfolding mark
mark-last m f i before now = rw (add-one, list_last i f, mark_append everywhere m (list i f) (f i ∷ []), ← before) now

-- f i is marked, and then those after it
pub mark_next : {i n : ℕ} (m : Marks) (f : ℕ → ℕ) → i < n
    → mark everywhere m (list_from i (n - i) f) ≡ mark everywhere (set m (f i) true) (list_from (i + 1) (n - (i + 1)) f)
unfolding mark
mark_next m f lt = rw (list_from_first lt f)

-- the list f i is marked, and then those after it
pub mark_gathered : {i n : ℕ} (m : Marks) (f : ℕ → List ℕ) → i < n
    → mark everywhere m (gather_from i (n - i) f) ≡ mark everywhere (mark everywhere m (f i)) (gather_from (i + 1) (n - (i + 1)) f)
mark_gathered {i} {n} m f lt = rw (gather_from_first lt f) (mark_append everywhere m (f i) (gather_from (i + 1) (n - (i + 1)) f))

-- to mark a list everywhere is to ask of each object whether the list holds it
pub mark-everywhere : (xs : List ℕ) → mark everywhere unmarked xs ≡ list OBJECTS (holds xs)
mark-everywhere xs = marks_same (mark everywhere unmarked xs) (list OBJECTS (holds xs)) (len ∙ sym (length_list 0 OBJECTS (holds xs))) (λ o lt.
    let at = get_or-list OBJECTS (holds xs) o false (omega (arith, len)) in
    let none : is_marked unmarked o ≡ true → ⊥ = λ was. false≢true (sym (unmarked_none o) ∙ was) in (
      λ on. at ∙ ⊎_elim (λ was. absurd (none was)) (λ a. a.listed) (mark_only everywhere unmarked xs o on),
      λ on. mark_adds everywhere unmarked xs o (record { place = omega (arith, len); inside = refl; listed = sym at ∙ on }),
    ))
  where
    len : length (mark everywhere unmarked xs) ≡ OBJECTS
    len = mark-length everywhere unmarked xs

-- ---- what marked objects hold

-- a list that stands there only if a test passes holds x where both are so
holds-if : (b : Bool) (l : List ℕ) (x : ℕ) → (holds (if b then l else []) x ≡ true) ↔ ((b ≡ true) × (holds l x ≡ true))
unfolding holds
holds-if true l x = (λ e. (refl, e), λ p. p.1)
holds-if false l x = (λ e. absurd (false≢true e), λ p. p.0)

-- an object's fields hold x exactly where one of the four is x
pub fields_hold : (h : Heap) (o x : ℕ) → (holds (fields_of h o) x ≡ true) ↔ Some FIELDS (λ f. field_at h o f ≡ x)
unfolding list_from
fields_hold h o x = holds-list FIELDS (field_at h o) x

-- a field of a marked object holds x
pub record Held (h : Heap) (m : Marks) (x : ℕ) : Type 0 where
  pub object : ℕ
  pub number : object < OBJECTS
  pub marked : is_marked m object ≡ true
  pub holder : Some FIELDS (λ f. field_at h object f ≡ x)

-- `held_by` holds exactly these
pub held_by_is : (h : Heap) (m : Marks) (x : ℕ) → (holds (held_by h m) x ≡ true) ↔ Held h m x
unfolding held_by
held_by_is h m x = (
  λ e.
      let p = gathered.0 e in
      let both = (holds-if (is_marked m p.0) (fields_of h p.0) x).0 p.2 in
      record { object = p.0; number = p.1; marked = both.0; holder = (fields_hold h p.0 x).0 both.1 },
  λ y.
      let listed = (fields_hold h y.object x).1 y.holder in
      gathered.1 (y.object, y.number, (holds-if (is_marked m y.object) (fields_of h y.object) x).1 (y.marked, listed)),
)
  where
    gathered : (holds (held_by h m) x ≡ true) ↔ Some OBJECTS (λ o. holds (if is_marked m o then fields_of h o else []) x ≡ true)
    gathered = holds-gather OBJECTS (λ o. if is_marked m o then fields_of h o else []) x

-- ---- what is left to mark

-- object o stands in the scope and is not marked
abbrev is_left : Scope → Marks → ℕ → Bool
is_left scope m o = scope o and not (is_marked m o)

-- how many are left
abbrev pub left : Scope → Marks → ℕ
left scope m = how_many OBJECTS (is_left scope m)

-- an object of the scope is marked or left
marked_or_left : (scope : Scope) (m : Marks) (o : ℕ) → scope o ≡ true → (is_marked m o ≡ true) ⊎ (is_left scope m o ≡ true)
marked_or_left scope m o inside = go (is_marked m o)
  where
    go : (b : Bool) → (b ≡ true) ⊎ ((scope o and not b) ≡ true)
    go true = inl refl
    go false = inr (rw inside)

-- where the marks m grow to n
module _ (scope : Scope) (m n : Marks) (grows : (o : ℕ) → is_marked m o ≡ true → is_marked n o ≡ true) where
  -- what is left after was left before
  left_before : (o : ℕ) → o < OBJECTS → is_left scope n o ≡ true → is_left scope m o ≡ true
  left_before o lt l =
      let both = (and_passes (scope o) (not (is_marked n o))).0 l in
      ⊎_elim (λ on. absurd (false≢true (rw (grows o on) at both.1))) (λ was. was) (marked_or_left scope m o both.0)

  -- no more are left
  pub left_le : left scope n ≤ left scope m
  left_le = how_many_le OBJECTS (is_left scope n) (is_left scope m) left_before

  -- and fewer, where an object of the scope is marked that was left
  left_lt : (o : ℕ) → Within scope o → is_marked n o ≡ true → is_left scope m o ≡ true → left scope n < left scope m
  left_lt o w on l = how_many_lt OBJECTS (is_left scope n) (is_left scope m) left_before o w.number (rw (w.inside, on)) l

-- to mark an object of the scope leaves fewer
pub left-set : (scope : Scope) (m : Marks) (o : ℕ) → length m ≡ OBJECTS → Within scope o → is_marked m o ≡ false
    → left scope (set m o true) < left scope m
left-set scope m o len w off =
    let on = (set_is m o o).1 (inr (omega (arith, w.number), refl)) in
    left_lt scope m (set m o true) (λ x was. (set_is m o x).1 (inl was)) o w on (rw (w.inside, off))

-- ---- rounds

-- all of the scope that marked objects hold is marked
abbrev pub Closed : Heap → Scope → Marks → Type 0
Closed h scope m = (o : ℕ) → Held h m o → Within scope o → is_marked m o ≡ true

module _ (h : Heap) (scope : Scope) where
  -- the marks after one round
  abbrev round : Marks → Marks
  round m = mark scope m (held_by h m)

  -- rounds keep the number of marks
  pub rounds-length : (n : ℕ) (m : Marks) → length (rounds n h scope m) ≡ length m
  unfolding rounds
  rounds-length zero m = refl
  rounds-length (suc n) m = rounds-length n (round m) ∙ mark-length scope m (held_by h m)

  -- rounds take no mark away
  pub rounds_grow : (n : ℕ) (m : Marks) (o : ℕ) → is_marked m o ≡ true → is_marked (rounds n h scope m) o ≡ true
  unfolding rounds
  rounds_grow zero m o on = on
  rounds_grow (suc n) m o on = rounds_grow n (round m) o (mark_grows scope m (held_by h m) o on)

  -- where none is left, the marks are closed
  none_left : (m : Marks) → left scope m ≤ 0 → Closed h scope m
  none_left m none o y w =
      let fails = how_many_none OBJECTS (is_left scope m) (omega arith) o w.number in
      ⊎_elim (λ on. on) (λ l. absurd (true≢false (sym l ∙ fails))) (marked_or_left scope m o w.inside)

  module _ (m : Marks) (len : length m ≡ OBJECTS) where
    -- a round keeps the marks as many as the objects
    round-length : length (round m) ≡ OBJECTS
    round-length = mark-length scope m (held_by h m) ∙ len

    -- a round adds exactly what marked objects hold of the scope
    round_is : (o : ℕ) → (is_marked (round m) o ≡ true) ↔ ((is_marked m o ≡ true) ⊎ (Held h m o × Within scope o))
    round_is o = let added = mark_is scope m (held_by h m) o in (
      λ on. ⊎_elim inl (λ a. inr ((held_by_is h m o).0 a.listed, record { number = omega arith; inside = a.inside })) (added.0 on),
      λ on. added.1 (⊎_elim inl (λ p. inr (record { place = omega arith; inside = p.1.inside; listed = (held_by_is h m o).1 p.0 })) on),
    )

    -- where a round leaves no fewer, the marks were closed
    no_fewer : ¬ (left scope (round m) < left scope m) → Closed h scope m
    no_fewer same o y w =
        let on : is_marked (round m) o ≡ true = (round_is o).1 (inr (y, w)) in
        let fewer = left_lt scope m (round m) (mark_grows scope m (held_by h m)) o w on in
        ⊎_elim (λ was. was) (λ l. absurd (same (fewer l))) (marked_or_left scope m o w.inside)

    -- a round keeps closed marks closed
    round_closed : Closed h scope m → Closed h scope (round m)
    round_closed closed o y w =
        let was : is_marked m y.object ≡ true = ⊎_elim (λ on. on) (λ p. closed y.object p.0 p.1) ((round_is y.object).0 y.marked) in
        mark_grows scope m (held_by h m) o (closed o (record { object = y.object; number = y.number; marked = was; holder = y.holder }) w)

  -- and so do rounds
  rounds_closed : (n : ℕ) (m : Marks) → length m ≡ OBJECTS → Closed h scope m → Closed h scope (rounds n h scope m)
  unfolding rounds
  rounds_closed zero m len closed = closed
  rounds_closed (suc n) m len closed = rounds_closed n (round m) (round-length m len) (round_closed m len closed)

  -- as many rounds as objects are left close the marks
  rounds_close : (n : ℕ) (m : Marks) → length m ≡ OBJECTS → left scope m ≤ n → Closed h scope (rounds n h scope m)
  unfolding rounds
  rounds_close zero m len few = none_left m few
  rounds_close (suc n) m len few = elim (dec_lt (left scope (round m)) (left scope m)) [
    | yes fewer ↦ rounds_close n (round m) (round-length m len) (omega arith)
    | no same ↦ rounds_closed (suc n) m len (no_fewer m len same)
  ]

-- ---- the computation and the relation

-- what is reached stands in the scope
pub reached_within : {h : Heap} {scope : Scope} {starts : List ℕ} {o : ℕ} → Reached h scope starts o → Within scope o
reached_within (started w l) = w
reached_within (through r f lt e w) = w

-- all that is marked is reached
abbrev pub Sound : Heap → Scope → List ℕ → Marks → Type 0
Sound h scope starts m = (o : ℕ) → is_marked m o ≡ true → Reached h scope starts o

-- the marks of a walk that has ended: one for each object, the starts of the scope among them, closed, and sound
pub record Walked (h : Heap) (scope : Scope) (starts : List ℕ) (m : Marks) : Type 0 where
  pub size : length m ≡ OBJECTS
  pub begun : (o : ℕ) → holds starts o ≡ true → Within scope o → is_marked m o ≡ true
  pub closed : Closed h scope m
  pub sound : Sound h scope starts m

module _ {h : Heap} {scope : Scope} {starts : List ℕ} {m : Marks} (walked : Walked h scope starts m) where
  -- such a walk has marked all that is reached
  walked_complete : {o : ℕ} → Reached h scope starts o → is_marked m o ≡ true
  walked_complete {o} (started w l) = walked.begun o l w
  walked_complete {o} (through {x} r f lt e w) =
      walked.closed o (record { object = x; number = (reached_within r).number; marked = walked_complete r; holder = (f, lt, e) }) w

  -- such a walk has marked exactly what is reached
  pub walked_is : (o : ℕ) → (is_marked m o ≡ true) ↔ Reached h scope starts o
  walked_is o = (walked.sound o, walked_complete)

module _ (h : Heap) (scope : Scope) (starts : List ℕ) where
  -- rounds mark only what is reached
  rounds_sound : (n : ℕ) (m : Marks) → length m ≡ OBJECTS → Sound h scope starts m → Sound h scope starts (rounds n h scope m)
  unfolding rounds
  rounds_sound zero m len sound = sound
  rounds_sound (suc n) m len sound =
      rounds_sound n (round h scope m) (round-length h scope m len) (λ o on. ⊎_elim (sound o) (next o) ((round_is h scope m len o).0 on))
    where
      next : (o : ℕ) → Held h m o × Within scope o → Reached h scope starts o
      next o p = let (y, w) = p in through (sound y.object y.marked) y.holder.0 y.holder.1 y.holder.2 w

  -- the marks before the first round
  abbrev first : Marks
  first = mark scope unmarked starts

  -- they mark exactly the starts that stand in the scope
  first_is : (o : ℕ) → (is_marked first o ≡ true) ↔ ((holds starts o ≡ true) × Within scope o)
  first_is o = let added = mark_is scope unmarked starts o in (
    λ on.
        let none : is_marked unmarked o ≡ true → ⊥ = λ was. false≢true (sym (unmarked_none o) ∙ was) in
        ⊎_elim (λ was. absurd (none was)) (λ a. (a.listed, record { number = a.place; inside = a.inside })) (added.0 on),
    λ p. added.1 (inr (record { place = p.1.number; inside = p.1.inside; listed = p.0 })),
  )

  -- they leave no more than the scope has
  first-left : left scope first ≤ how_many OBJECTS scope
  first-left = how_many_le OBJECTS (is_left scope first) scope (λ k lt l. ((and_passes (scope k) (not (is_marked first k))).0 l).0)

  -- there is a mark for each object
  pub reached-length : length (reached h scope starts) ≡ OBJECTS
  unfolding reached
  reached-length = rounds-length h scope (how_many OBJECTS scope) first ∙ mark-length scope unmarked starts

  -- the walk of as many rounds as the scope has objects has ended
  pub reached_walked : Walked h scope starts (reached h scope starts)
  unfolding reached
  reached_walked =
      let n = how_many OBJECTS scope in
      let len : length first ≡ OBJECTS = mark-length scope unmarked starts in
      record {
        size = reached-length;
        begun = λ o l w. rounds_grow h scope n first o ((first_is o).1 (l, w));
        closed = rounds_close h scope n first len first-left;
        sound = rounds_sound n first len (λ o on. let p = (first_is o).0 on in started p.1 p.0);
      }

  -- an object is marked exactly where it is reached
  pub reached_is : (o : ℕ) → (is_marked (reached h scope starts) o ≡ true) ↔ Reached h scope starts o
  reached_is = walked_is reached_walked

  -- a walk that has ended, in whatever order, has these marks and no others
  pub walked_only : {m : Marks} → Walked h scope starts m → m ≡ reached h scope starts
  walked_only {m} walked =
      marks_same m (reached h scope starts) (walked.size ∙ sym reached-length) (λ o lt. Iff.trans (walked_is walked o) (Iff.symm (reached_is o)))
