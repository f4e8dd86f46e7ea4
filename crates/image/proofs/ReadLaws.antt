-- Reading is about records: what the reader does with the bytes of records, record by record. Assumes nothing.
use Rattle.std.specs.Prelude.{◌≡◌, Bool, false, List, [], ◌∷◌, ◌++◌, ℕ, zero, suc, ◌+◌, ◌≤◌, ◌<◌, ltb, length, drop, if◌then◌else◌}
use Rattle.std.proofs.Math.Path.{refl}
use Rattle.std.proofs.Common.{sym, ap, subst, ◌∙◌, true≢false, append_assoc, arith, length-append, length-drop, take-append-drop, drop_at, drop-drop}
use Rattle.std.proofs.Math.Bool.{true}
use Rattle.std.proofs.lemmas.Bool.{false≢true}
use Rattle.std.proofs.Math.Dec.{eqb}
use borrow.Author.Tests.{le-ltb, eq-eqb, ltb-false, eqb-true, not-false}
use Rattle.terms.specs.Choose.{Refusal, ◌and◌, answered}
use Rattle.terms.specs.Bytes.{bytes_of, number_of, packed}
use Rattle.terms.proofs.ChooseLaws.{either_way}
use Rattle.terms.specs.Numbers.{ACCEPTED}
use Rattle.table.specs.declared.Table.{Table}
use Rattle.image.specs.Reader.{Loaded}
use Rattle.image.specs.declared.RecordKind.{RecordKind}
use Rattle.image.specs.declared.RecordKind.TheVariants.{Count, Live, NodeRoots, Directory, Remote, Reference, Decrement, End, Unknown}
use Rattle.image.specs.declared.Turn.{Turn}
use Rattle.image.specs.BytesLaws.{AreBytes}
use Rattle.image.proofs.BytesLaws.{Fit, length-packed, unpacked-packed, packed-unpacked, fit_unpacked, bytes_drop, bytes_of_number_of}
use Rattle.image.specs.Content.{fits_record, with_record}
use Rattle.image.specs.Order.{turn_after, in_turn}
use Rattle.image.specs.Reader.{Taken, stop, finished, onward, stated_length, stated_kind, payload, rest_after, frame_refusals, content_refusals}
use Rattle.image.specs.Reader.{take_in, record_of, take_record, then_read, read_from}
use Rattle.image.specs.Records.{Record, row, HEAD, code_of, kind_of_code, is_unknown, is_end, length_of, widths_of, record_bytes}
use Rattle.image.specs.Writer.{bytes_of_all}

-- the bytes of a record, and what stands behind it
abbrev pub front : RecordKind → List ℕ → List ℕ → List ℕ
front k ns rest = record_bytes (row k ns) ++ rest

-- its head says its length
pub stated_length_lem : (k : RecordKind) (ns rest : List ℕ) → stated_length (front k ns rest) ≡ length_of k
stated_length_lem Count ns rest = refl
stated_length_lem Live ns rest = refl
stated_length_lem NodeRoots ns rest = refl
stated_length_lem Directory ns rest = refl
stated_length_lem Remote ns rest = refl
stated_length_lem Reference ns rest = refl
stated_length_lem Decrement ns rest = refl
stated_length_lem End ns rest = refl
stated_length_lem Unknown ns rest = refl

-- and its kind
pub stated_kind_lem : (k : RecordKind) (ns rest : List ℕ) → stated_kind (front k ns rest) ≡ k
unfolding kind_of_code
stated_kind_lem Count ns rest = refl
stated_kind_lem Live ns rest = refl
stated_kind_lem NodeRoots ns rest = refl
stated_kind_lem Directory ns rest = refl
stated_kind_lem Remote ns rest = refl
stated_kind_lem Reference ns rest = refl
stated_kind_lem Decrement ns rest = refl
stated_kind_lem End ns rest = refl
stated_kind_lem Unknown ns rest = refl

module _ (k : RecordKind) (ns rest : List ℕ) (fit : Fit (widths_of k) ns) where
  -- the numbers come back
  pub front-payload : payload k (front k ns rest) ≡ ns
  front-payload = unpacked-packed (widths_of k) ns rest fit

  -- and so does what stands behind them
  pub front_rest : rest_after k (front k ns rest) ≡ rest
  front_rest =
      sym (drop-drop (length_of k) HEAD (front k ns rest)) ∙ drop_at (packed (widths_of k) ns) rest (length_of k) (length-packed (widths_of k) ns fit)

  -- it is as long as its head and its payload
  pub front_length : length (front k ns rest) ≡ HEAD + length_of k + length rest
  front_length =
      ap (λ n. suc (suc (suc (suc n)))) (length-append (packed (widths_of k) ns) rest)
      ∙ rw (length-packed (widths_of k) ns fit) (omega arith)

  -- its frame is in order, so its content decides
  pub take_front : (now : Turn) (t : Table) → is_unknown k ≡ false
      → take_record now t (front k ns rest) ≡ answered stop (content_refusals now k ns rest) (take_in t k ns rest)
  unfolding record_of
  take_front now t known =
      rw (stated_kind_lem k ns rest)
      (rw (front-payload, front_rest)
      (simp (
        known,
        stated_length_lem k ns rest,
        le-ltb (length (front k ns rest)) HEAD (omega (arith, front_length)),
        le-ltb (length (front k ns rest)) (HEAD + length_of k) (omega (arith, front_length)),
        eq-eqb (length_of k) (length_of k) refl,
      )))

-- ---- reading records

-- reading the records rs with this turn and this table is accepted and gives u
pub data Reads : Turn → Table → List Record → Table → Type 0 where
  ends : {now : Turn} {t u : Table} → in_turn now End [] ≡ true → t ≡ u → Reads now t (row End [] ∷ []) u
  takes : {now : Turn} {t u : Table} (k : RecordKind) (ns : List ℕ) {rs : List Record}
      → is_end k ≡ false → is_unknown k ≡ false → Fit (widths_of k) ns → in_turn now k ns ≡ true → fits_record k ns ≡ true
      → Reads (turn_after k ns) (with_record t k ns) rs u → Reads now t (row k ns ∷ rs) u

-- the answer where u was read
abbrev pub accepted : Table → Loaded
accepted u = record { answer = ACCEPTED; table = u }

-- no record is without bytes
pub length-bytes_of_all : (rs : List Record) → length rs ≤ length (bytes_of_all rs)
unfolding bytes_of_all
length-bytes_of_all [] = omega arith
length-bytes_of_all (r ∷ rs) = rw (length-append (record_bytes r) (bytes_of_all rs)) (omega (arith, length-bytes_of_all rs))

-- what reads record by record is read from their bytes
pub reads_from : {now : Turn} {t u : Table} {rs : List Record} → Reads now t rs u → (n : ℕ) → length rs ≤ n
    → read_from n now t (bytes_of_all rs) ≡ accepted u
unfolding read_from bytes_of_all fits_record
reads_from (ends {now = now} {t = t} {u = u} turns same) zero le = absurd (omega arith)
reads_from (ends {now = now} {t = t} {u = u} turns same) (suc n) le = last ∙ ap accepted same
  where
    last : read_from (suc n) now t (bytes_of_all (row End [] ∷ [])) ≡ accepted t
    last = rw (take_front End [] [] tt now t refl) (simp turns)
reads_from (takes k ns go_on known fit turns fits more) zero le = absurd (omega arith)
reads_from (takes {now = now} {t = t} {u = u} k ns {rs = rs} go_on known fit turns fits more) (suc n) le = one (reads_from more n (omega arith))
  where
    one : read_from n (turn_after k ns) (with_record t k ns) (bytes_of_all rs) ≡ accepted u
        → read_from (suc n) now t (bytes_of_all (row k ns ∷ rs)) ≡ accepted u
    one e = rw (take_front k ns (bytes_of_all rs) fit now t known) (simp (turns, fits, go_on, e))

-- ---- the bytes of records

-- records one behind the other are their bytes one behind the other
pub bytes_append : (rs more : List Record) → bytes_of_all (rs ++ more) ≡ bytes_of_all rs ++ bytes_of_all more
unfolding bytes_of_all
bytes_append [] more = refl
bytes_append (r ∷ rs) more = rw (bytes_append rs more) (sym (append_assoc (record_bytes r) (bytes_of_all rs) (bytes_of_all more)))

-- ---- and back: what was accepted is the bytes of records

-- c is the number of k, if k is known
record Numbered (c : ℕ) (k : RecordKind) : Type 0 where
  back : is_unknown k ≡ false → code_of k ≡ c

-- the number of a known kind
code_back : (c : ℕ) → Numbered c (kind_of_code c)
unfolding kind_of_code
code_back c =
    tried Count (tried Live (tried NodeRoots (tried Directory (tried Remote (tried Reference (tried Decrement (tried End none)))))))
  where
    none : Numbered c Unknown
    none = record { back = λ known. absurd (true≢false known) }

    tried : (k : RecordKind) {other : RecordKind} → Numbered c other → Numbered c (if eqb c (code_of k) then k else other)
    tried k rest = either_way (Numbered c) (eqb c (code_of k)) (λ same. record { back = λ known. sym (eqb-true c (code_of k) same) }) rest

-- bytes whose frame is in order are a record's, and those behind it
pub front_back : (l : List ℕ) (k : RecordKind) → AreBytes l → stated_kind l ≡ k → HEAD ≤ length l → is_unknown k ≡ false
    → stated_length l ≡ length_of k → HEAD + length_of k ≤ length l → front k (payload k l) (rest_after k l) ≡ l
front_back [] k are kind head known len le = absurd (omega arith)
front_back (a ∷ []) k are kind head known len le = absurd (omega arith)
front_back (a ∷ b ∷ []) k are kind head known len le = absurd (omega arith)
front_back (a ∷ b ∷ c ∷ []) k are kind head known len le = absurd (omega arith)
front_back (a ∷ b ∷ c ∷ d ∷ l) k are kind head known len le = whole
  where
    code : code_of k ≡ number_of (c ∷ d ∷ [])
    code = rw kind at ((code_back (number_of (c ∷ d ∷ []))).back (rw kind known))

    one : bytes_of 2 (length_of k) ≡ a ∷ b ∷ []
    one = rw len at (bytes_of_number_of (a ∷ b ∷ []) (are.0, (are.1.0, tt)))

    two : bytes_of 2 (code_of k) ≡ c ∷ d ∷ []
    two = rw code (bytes_of_number_of (c ∷ d ∷ []) (are.1.1.0, (are.1.1.1.0, tt)))

    -- the payload and what stands behind it
    behind : List ℕ
    behind = packed (widths_of k) (payload k (a ∷ b ∷ c ∷ d ∷ l)) ++ rest_after k (a ∷ b ∷ c ∷ d ∷ l)

    rest : rest_after k (a ∷ b ∷ c ∷ d ∷ l) ≡ drop (length_of k) l
    rest = sym (drop-drop (length_of k) HEAD (a ∷ b ∷ c ∷ d ∷ l))

    three : behind ≡ l
    three = rw (rest, packed-unpacked (widths_of k) l are.1.1.1.1 (omega arith)) (take-append-drop (length_of k) l)

    whole : front k (payload k (a ∷ b ∷ c ∷ d ∷ l)) (rest_after k (a ∷ b ∷ c ∷ d ∷ l)) ≡ a ∷ b ∷ c ∷ d ∷ l
    whole =
        ap (λ (h : List ℕ). h ++ (bytes_of 2 (code_of k) ++ []) ++ behind) one
        ∙ ap (λ (h : List ℕ). (a ∷ b ∷ []) ++ (h ++ []) ++ behind) two
        ∙ ap (λ (r : List ℕ). a ∷ b ∷ c ∷ d ∷ r) three

-- what an accepted read has read: records with these bytes
abbrev pub ReadOff : Turn → Table → List ℕ → Table → Type 0
ReadOff now t l u = (rs : List Record) × (bytes_of_all rs ≡ l) × Reads now t rs u

-- no refusal of the list applies
abbrev pub NoneApplies : List Refusal → Type 0
NoneApplies [] = Unit
NoneApplies (r ∷ rs) = (r.applies ≡ false) × NoneApplies rs

-- no refusal has the number of acceptance
abbrev pub Refusing : List Refusal → Type 0
Refusing [] = Unit
Refusing (r ∷ rs) = (0 < r.number) × Refusing rs

-- where the read is accepted, no refusal applied, and the effect stands
none_applies : (go : Turn → Table → List ℕ → Loaded) (rs : List Refusal) (effect : Taken) → Refusing rs
    → (then_read (answered stop rs effect) go).answer ≡ ACCEPTED → NoneApplies rs × (answered stop rs effect ≡ effect)
none_applies go [] effect refusing = λ e. (tt, refl)
none_applies go (r ∷ rs) effect refusing = test r.applies refl (none_applies go rs effect refusing.1)
  where
    test : (b : Bool) → r.applies ≡ b
        → ((then_read (answered stop rs effect) go).answer ≡ ACCEPTED → NoneApplies rs × (answered stop rs effect ≡ effect))
        → (then_read (if b then stop r.number else answered stop rs effect) go).answer ≡ ACCEPTED
        → ((r.applies ≡ false) × NoneApplies rs) × ((if b then stop r.number else answered stop rs effect) ≡ effect)
    test true is rest e = absurd (omega (arith, refusing.0))
    test false is rest e = let p = rest e in ((is, p.0), p.1)

-- an empty list
no_length : (l : List ℕ) → ltb 0 (length l) ≡ false → l ≡ []
no_length [] e = refl
no_length (x ∷ l) e = absurd (omega (arith, ltb-false 0 (suc (length l)) e))

pub is_end_lem : (k : RecordKind) → is_end k ≡ true → k ≡ End
is_end_lem Count e = absurd (false≢true e)
is_end_lem Live e = absurd (false≢true e)
is_end_lem NodeRoots e = absurd (false≢true e)
is_end_lem Directory e = absurd (false≢true e)
is_end_lem Remote e = absurd (false≢true e)
is_end_lem Reference e = absurd (false≢true e)
is_end_lem Decrement e = absurd (false≢true e)
is_end_lem End e = refl
is_end_lem Unknown e = absurd (false≢true e)

-- an accepted read has read records
pub read_off : (n : ℕ) (now : Turn) (t : Table) (l : List ℕ) → AreBytes l → (read_from n now t l).answer ≡ ACCEPTED
    → ReadOff now t l (read_from n now t l).table
unfolding read_from record_of bytes_of_all
read_off zero now t l are = λ e. absurd (omega arith)
read_off (suc n) now t l are = at_kind (stated_kind l) refl (λ now' t' l'. read_off n now' t' l')
  where
    go : Turn → Table → List ℕ → Loaded
    go now' t' rest = read_from n now' t' rest

    at_kind : (k : RecordKind) → stated_kind l ≡ k
        → ((now' : Turn) (t' : Table) (l' : List ℕ) → AreBytes l' → (read_from n now' t' l').answer ≡ ACCEPTED
        → ReadOff now' t' l' (read_from n now' t' l').table)
        → (then_read (record_of now t l k (payload k l) (rest_after k l)) go).answer ≡ ACCEPTED
        → ReadOff now t l (then_read (record_of now t l k (payload k l) (rest_after k l)) go).table
    at_kind k kind more e =
        let p = none_applies go (frame_refusals k l ++ content_refusals now k ns rest) (take_in t k ns rest)
        (omega arith, (omega arith, (omega arith, (omega arith, (omega arith, (omega arith, (omega arith, tt))))))) e in
        let known = p.0.1.0 in
        let head = ltb-false (length l) HEAD p.0.0 in
        let fits = ltb-false (length l) (HEAD + length_of k) p.0.1.1.1.0 in
        let stated = eqb-true (stated_length l) (length_of k) (not-false (eqb (stated_length l) (length_of k)) p.0.1.1.0) in
        let turns = not-false (in_turn now k (payload k l)) p.0.1.1.1.1.0 in
        let allowed = not-false (fits_record k (payload k l)) p.0.1.1.1.1.1.0 in
        let bytes = front_back l k are kind head known stated fits in
        let fit = fit_unpacked (widths_of k) (drop HEAD l) (bytes_drop HEAD l are) (omega (arith, length-drop HEAD l)) in
        rw p.1 (ending (is_end k) refl known turns allowed fit bytes p.0.1.1.1.1.1.1.0 (rw p.1 at e))
      where
        ns : List ℕ
        ns = payload k l

        rest : List ℕ
        rest = rest_after k l

        ending : (b : Bool) → is_end k ≡ b → is_unknown k ≡ false → in_turn now k ns ≡ true → fits_record k ns ≡ true → Fit (widths_of k) ns
            → front k ns rest ≡ l → (b and ltb 0 (length rest)) ≡ false
            → (then_read (if b then finished t else onward (turn_after k ns) (with_record t k ns) rest) go).answer ≡ ACCEPTED
            → ReadOff now t l (then_read (if b then finished t else onward (turn_after k ns) (with_record t k ns) rest) go).table
        ending true b known turns allowed fit bytes trail e =
            let is = is_end_lem k b in (
              row End [] ∷ [],
              ap (λ (r : List ℕ). record_bytes (row End []) ++ r) (sym (no_length rest trail))
                  ∙ subst (λ (k' : RecordKind). front k' (payload k' l) rest ≡ l) is bytes,
              ends (subst (λ (k' : RecordKind). in_turn now k' (payload k' l) ≡ true) is turns) refl,
            )
        ending false b known turns allowed fit bytes trail e =
            let r = more (turn_after k ns) (with_record t k ns) rest (bytes_drop (HEAD + length_of k) l are) e in
            (row k ns ∷ r.0, rw r.1 bytes, takes k ns b known fit turns allowed r.2)
