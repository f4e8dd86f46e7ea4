-- Only one list of records reads as a table: whatever comes first stands in the table at its spot, and nothing that comes later touches it.
-- Assumes nothing.
use Rattle.std.specs.Prelude.{◌≡◌, refl, Bool, true, false, List, [], ◌∷◌, ℕ, suc, ◌+◌, ◌≤◌, ◌<◌, ltb, leb, length}
use Rattle.std.proofs.Common.{sym, ap, subst, ◌∙◌, arith, leb-true}
use Rattle.std.proofs.lemmas.Bool.{false≢true}
use Rattle.std.proofs.Math.Decide.{ℕ_discrete, dec_lt}
use Rattle.terms.proofs.ChooseLaws.{and_passes, either_way}
use Rattle.terms.specs.Limits.{NODES, owner}
use Rattle.table.specs.declared.Table.{Table}
use Rattle.table.specs.Fresh.{fresh_entry, fresh_message, fresh_object}
use Rattle.table.specs.Good.{Good, good_formed, good_shaped}
use Rattle.table.specs.ShapeLaws.{owner_number}
use Rattle.table.specs.Table.{fresh_table}
use Rattle.image.specs.declared.RecordKind.{RecordKind}
use Rattle.image.specs.declared.RecordKind.TheVariants.{Count, Live, NodeRoots, Directory, Remote, Reference, Decrement, End, Unknown}
use Rattle.image.specs.declared.Turn.{Turn}
use Rattle.image.specs.Content.{number, with_record}
use Rattle.image.proofs.Keeps.{keeps}
use Rattle.image.specs.Order.{position, position_of, first_turn, turn_after, in_turn}
use Rattle.image.proofs.ReadLaws.{Reads, ends, takes}
use Rattle.image.specs.Records.{Record, row}
use Rattle.image.proofs.SpotOrder.{position_spot, spot_unique, before_end}
use Rattle.image.specs.Spots.{Spot, spot_position, record_at}
use Rattle.image.proofs.Spots.{spot_of}
use Rattle.image.specs.Stored.{live_record}
use Rattle.image.proofs.Takes.{Takes, spot_other, spot_same, remote_tests, small}
use Rattle.image.specs.Writer.{directory_record, remote_record, message_record}

-- the first position in turn is no later, and the last no earlier
in_turn_at : (now : Turn) (k : RecordKind) (ns : List ℕ) → in_turn now k ns ≡ true → (now.first ≤ position_of k ns) × (position_of k ns ≤ now.last)
in_turn_at now k ns e =
    let p = (and_passes (leb now.first (position_of k ns)) (leb (position_of k ns) now.last)).0 e in
    (leb-true now.first (position_of k ns) p.0, leb-true (position_of k ns) now.last p.1)

-- the next record stands behind this one
turn_after_lem : (k : RecordKind) (ns : List ℕ) → Takes k ns → position_of k ns < (turn_after k ns).first
turn_after_lem Count ns it = omega arith
turn_after_lem Live ns it = omega arith
turn_after_lem NodeRoots ns it =
    either_way (λ (next : Turn). position_of NodeRoots ns < next.first) (ltb (number ns 0 + 1) NODES)
    (λ more. omega arith) (omega (arith, small NodeRoots ns it refl))
turn_after_lem Directory ns it = omega arith
turn_after_lem Remote ns it = omega arith
turn_after_lem Reference ns it = omega arith
turn_after_lem Decrement ns it = omega arith
turn_after_lem End ns it = absurd (false≢true (sym it.onward))
turn_after_lem Unknown ns it = absurd (false≢true (sym it.known))

-- what has been passed stays
passed_stays : {now : Turn} {t u : Table} {rs : List Record} → Reads now t rs u → Good t → (s : Spot) → spot_position s < now.first
    → record_at u s ≡ record_at t s
passed_stays (ends turns same) good s lt = ap (λ (x : Table). record_at x s) (sym same)
passed_stays (takes {now = now} {t = t} k ns go_on known fit turns fits more) good s lt =
    let it : Takes k ns = record { onward = go_on; known = known; fit = fit; allowed = fits } in
    let at = in_turn_at now k ns turns in
    passed_stays more (keeps t good k ns it) s (omega (arith, at.0, turn_after_lem k ns it))
    ∙ spot_other t (good_shaped good) k ns it s (λ q. absurd (omega (arith, at.0)))

-- the record taken is in the end table at its spot
taken_stands : {u t : Table} {rs : List Record} (k : RecordKind) (ns : List ℕ) → Takes k ns → Good t
    → Reads (turn_after k ns) (with_record t k ns) rs u → record_at u (spot_of k ns) ≡ row k ns ∷ []
taken_stands {u} {t} k ns it good more =
    passed_stays more (keeps t good k ns it) (spot_of k ns) (rw (position_spot k ns it) (turn_after_lem k ns it)) ∙ spot_same t (good_formed good) k ns it

-- ---- what is still fresh

-- kinds of which a table need not have a record
abbrev is_optional : RecordKind → Bool
is_optional Count = false
is_optional Live = true
is_optional NodeRoots = false
is_optional Directory = true
is_optional Remote = true
is_optional Reference = true
is_optional Decrement = true
is_optional End = false
is_optional Unknown = false

-- from the turn on nothing is there yet, and only what is optional may be passed over
pub record Ready (now : Turn) (t : Table) : Type 0 where
  pub optional : (k : RecordKind) (ns : List ℕ) → Takes k ns → now.first ≤ position_of k ns → position_of k ns < now.last → is_optional k ≡ true
  pub fresh : (k : RecordKind) (ns : List ℕ) → Takes k ns → now.first ≤ position_of k ns → is_optional k ≡ true → record_at t (spot_of k ns) ≡ []

-- after any record only what is optional may be passed over
optional_after : (r : RecordKind) (qs : List ℕ) → Takes r qs → (k : RecordKind) (ns : List ℕ) → Takes k ns
    → (turn_after r qs).first ≤ position_of k ns → position_of k ns < (turn_after r qs).last → is_optional k ≡ true
optional_after r qs at Count ns it low high = absurd (omega (arith, turn_after_lem r qs at))
optional_after r qs at Live ns it low high = refl
optional_after r qs at NodeRoots ns it low high = not_roots r qs at (small NodeRoots ns it refl) low high
  where
    not_roots : (r : RecordKind) (qs : List ℕ) → Takes r qs → number ns 0 < 64
        → (turn_after r qs).first ≤ position 2 (number ns 0) → position 2 (number ns 0) < (turn_after r qs).last → false ≡ true
    not_roots Count qs at lt low high = absurd (omega arith)
    not_roots Live qs at lt low high = absurd (omega arith)
    not_roots NodeRoots qs at lt low high =
        either_way (λ (next : Turn). next.first ≤ position 2 (number ns 0) → position 2 (number ns 0) < next.last → false ≡ true)
        (ltb (number qs 0 + 1) NODES) (λ more from to. absurd (omega arith)) (λ from to. absurd (omega arith)) low high
    not_roots Directory qs at lt low high = absurd (omega arith)
    not_roots Remote qs at lt low high = absurd (omega arith)
    not_roots Reference qs at lt low high = absurd (omega arith)
    not_roots Decrement qs at lt low high = absurd (omega arith)
    not_roots End qs at lt low high = absurd (omega arith)
    not_roots Unknown qs at lt low high = absurd (omega arith)
optional_after r qs at Directory ns it low high = refl
optional_after r qs at Remote ns it low high = refl
optional_after r qs at Reference ns it low high = refl
optional_after r qs at Decrement ns it low high = refl
optional_after r qs at End ns it low high = absurd (false≢true (sym it.onward))
optional_after r qs at Unknown ns it low high = absurd (false≢true (sym it.known))

-- a record taken leaves what follows it ready
ready_after : {now : Turn} {t : Table} → Good t → Ready now t → (r : RecordKind) (qs : List ℕ) → Takes r qs → now.first ≤ position_of r qs
    → Ready (turn_after r qs) (with_record t r qs)
ready_after {now} {t} good ready r qs at low = record {
  optional = optional_after r qs at;
  fresh = λ k ns it le opt.
      spot_other t (good_shaped good) r qs at (spot_of k ns) (λ q. absurd (omega (arith, turn_after_lem r qs at, position_spot k ns it)))
      ∙ ready.fresh k ns it (omega (arith, turn_after_lem r qs at)) opt;
}

-- ---- the records are the same

cons_no : {A : Type 0} (x : A) (xs : List A) → x ∷ xs ≡ [] → ⊥
cons_no x xs e = let z : ◌≡◌ {A = ℕ} (suc (length xs)) 0 = ap length e in omega arith

head_same : {A : Type 0} (x y : A) → x ∷ [] ≡ y ∷ [] → x ≡ y
head_same x y e = cc

-- a record that stands before another reading's first record cannot be
not_before : {now : Turn} {t u : Table} {rs rs' : List Record} (k : RecordKind) (ns : List ℕ) (k' : RecordKind) (ns' : List ℕ)
    → Good t → Ready now t → Takes k ns → Takes k' ns' → now.first ≤ position_of k ns → position_of k' ns' ≤ now.last
    → position_of k ns < position_of k' ns'
    → Reads (turn_after k ns) (with_record t k ns) rs u → Reads (turn_after k' ns') (with_record t k' ns') rs' u → ⊥
not_before {now} {t} k ns k' ns' good ready it it' low high lt more more' =
    cons_no (row k ns) [] (sym (taken_stands k ns it good more)
    ∙ passed_stays more' (keeps t good k' ns' it') (spot_of k ns) (omega (arith, position_spot k ns it, turn_after_lem k' ns' it'))
    ∙ spot_other t (good_shaped good) k' ns' it' (spot_of k ns) (λ q. absurd (omega (arith, position_spot k ns it)))
    ∙ ready.fresh k ns it low (ready.optional k ns it low (omega arith)))

-- a record taken where another reading ends cannot be
not_ended : {now : Turn} {t : Table} {rs : List Record} (k : RecordKind) (ns : List ℕ) → Good t → Ready now t → Takes k ns
    → now.first ≤ position_of k ns → position 6 0 ≤ now.last → Reads (turn_after k ns) (with_record t k ns) rs t → ⊥
not_ended {now} {t} k ns good ready it low high more =
    cons_no (row k ns) [] (sym (taken_stands k ns it good more)
    ∙ ready.fresh k ns it low (ready.optional k ns it low (omega (arith, before_end k ns it))))

-- so one of two readings of one table does not end where the other goes on
ended_both : {now : Turn} {t u : Table} {rs : List Record} {k : RecordKind} {ns : List ℕ} → Good t → Ready now t → Takes k ns
    → in_turn now k ns ≡ true → in_turn now End [] ≡ true → t ≡ u → Reads (turn_after k ns) (with_record t k ns) rs u → ⊥
ended_both {now} {t} {rs = rs} {k = k} {ns = ns} good ready it turns ends_here e more =
    not_ended k ns good ready it (in_turn_at now k ns turns).0 (in_turn_at now End [] ends_here).1
    (subst (λ (x : Table). Reads (turn_after k ns) (with_record t k ns) rs x) (sym e) more)

-- two readings of one table from one point on are of the same records
pub reads_same : {now : Turn} {t u : Table} {rs rs' : List Record} → Reads now t rs u → Reads now t rs' u → Good t → Ready now t → rs ≡ rs'
reads_same (ends turns e) (ends turns' e') good ready = refl
reads_same (ends turns e) (takes k ns go_on known fit turns' fits more) good ready =
    absurd (ended_both good ready (record { onward = go_on; known = known; fit = fit; allowed = fits }) turns' turns e more)
reads_same (takes k ns go_on known fit turns fits more) (ends turns' e) good ready =
    absurd (ended_both good ready (record { onward = go_on; known = known; fit = fit; allowed = fits }) turns turns' e more)
reads_same (takes {now = now} {t = t} {u = u} k ns {rs = rs} go_on known fit turns fits more)
    (takes k' ns' {rs = rs'} go_on' known' fit' turns' fits' more') good ready =
    compare (λ other. reads_same more other (keeps t good k ns it) (ready_after good ready k ns it low.0))
  where
    it : Takes k ns
    it = record { onward = go_on; known = known; fit = fit; allowed = fits }

    it' : Takes k' ns'
    it' = record { onward = go_on'; known = known'; fit = fit'; allowed = fits' }

    low : (now.first ≤ position_of k ns) × (position_of k ns ≤ now.last)
    low = in_turn_at now k ns turns

    low' : (now.first ≤ position_of k' ns') × (position_of k' ns' ≤ now.last)
    low' = in_turn_at now k' ns' turns'

    one : position_of k ns ≡ position_of k' ns' → row k ns ≡ row k' ns'
    one e = head_same (row k ns) (row k' ns') (sym (taken_stands k ns it good more)
        ∙ ap (record_at u) (spot_unique k ns k' ns' it it' e) ∙ taken_stands k' ns' it' good more')

    compare : (Reads (turn_after k ns) (with_record t k ns) rs' u → rs ≡ rs') → row k ns ∷ rs ≡ row k' ns' ∷ rs'
    compare rest = elim (ℕ_discrete (position_of k ns) (position_of k' ns')) [
      | yes e ↦
          ap (λ (r : Record). r ∷ rs) (one e)
          ∙ ap (λ (l : List Record). row k' ns' ∷ l)
          (rest (subst (λ (r : Record). Reads (turn_after r.kind r.numbers) (with_record t r.kind r.numbers) rs' u) (sym (one e)) more'))
      | no ne ↦ elim (dec_lt (position_of k ns) (position_of k' ns')) [
        | yes lt ↦ absurd (not_before k ns k' ns' good ready it it' low.0 low'.1 lt more more')
        | no ge ↦ absurd (not_before k' ns' k ns good ready it' it low'.0 low.1 (omega arith) more' more)
      ]
    ]

-- what is read is good
pub reads_good : {now : Turn} {t u : Table} {rs : List Record} → Reads now t rs u → Good t → Good u
reads_good (ends turns e) good = subst (λ (x : Table). Good x) e good
reads_good (takes {t = t} k ns go_on known fit turns fits more) good =
    reads_good more (keeps t good k ns (record { onward = go_on; known = known; fit = fit; allowed = fits }))

-- the start is ready
pub ready_first : Ready first_turn fresh_table
ready_first = record { optional = λ k ns it low high. absurd (omega arith); fresh = λ k ns it low opt. nothing k ns it opt }
  where
    nothing : (k : RecordKind) (ns : List ℕ) → Takes k ns → is_optional k ≡ true → record_at fresh_table (spot_of k ns) ≡ []
    nothing Count ns it opt = absurd (false≢true opt)
    nothing Live ns it opt = ap (live_record (number ns 0)) (fresh_object (number ns 0) (small Live ns it refl))
    nothing NodeRoots ns it opt = absurd (false≢true opt)
    nothing Directory ns it opt =
        let lt = small Directory ns it refl in
        ap (directory_record (number ns 0)) (fresh_entry (owner (number ns 0)) (number ns 0) (owner_number lt) lt)
    nothing Remote ns it opt =
        let tests = remote_tests ns it.allowed in
        ap (remote_record (number ns 0) (number ns 1)) (fresh_entry (number ns 0) (number ns 1) tests.node tests.object)
    nothing Reference ns it opt = ap (message_record (number ns 0)) (fresh_message (number ns 0) (small Reference ns it refl))
    nothing Decrement ns it opt = ap (message_record (number ns 0)) (fresh_message (number ns 0) (small Decrement ns it refl))
    nothing End ns it opt = absurd (false≢true opt)
    nothing Unknown ns it opt = absurd (false≢true opt)
