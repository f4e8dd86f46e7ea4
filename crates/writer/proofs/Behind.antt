-- Records behind what a buffer held: none, some behind others, and a loop that appends those of the numbers below a limit. Assumes nothing.
use Rattle.std.specs.Prelude.{◌≡◌, refl, List, [], ◌++◌, ℕ, ◌+◌, ◌*◌, ◌≤◌, length}
use Rattle.std.proofs.Common.{sym, ap, ◌∙◌, arith, add-one, mul-suc, append-nil, append_assoc, length-append}
use Rattle.terms.specs.Counted.{gather_from, gather}
use Rattle.terms.proofs.CountedLaws.{gather_last}
use Rattle.image.proofs.ReadLaws.{bytes_append}
use Rattle.image.specs.Records.{Record}
use Rattle.image.specs.Writer.{bytes_of_all}
use Rattle.writer.specs.Appended.{Appended}

-- records, in so many bytes at most
pub appended : (most : ℕ) (rs : List Record) {before after bytes : List ℕ}
    → after ≡ before ++ bytes → bytes ≡ bytes_of_all rs → length (bytes_of_all rs) ≤ most → Appended most rs before after
appended most rs {before} {after} {bytes} h is small = record {
  bytes = h ∙ ap (λ (bs : List ℕ). before ++ bs) is;
  small = omega (arith, ap length h, length-append before bytes, ap length is, small);
}

-- none
pub appended_none : (most : ℕ) {rs : List Record} {out : List ℕ} → rs ≡ [] → Appended most rs out out
unfolding bytes_of_all
appended_none most {rs} {out} none = record { bytes = rw none (sym (append-nil out)); small = omega arith }

-- some, and others behind them
pub appended_both : {k : ℕ} {rs : List Record} {l : ℕ} {qs : List Record} {out out' out'' : List ℕ}
    → Appended k rs out out' → Appended l qs out' out'' → Appended (k + l) (rs ++ qs) out out''
appended_both {k} {rs} {l} {qs} {out} {out'} {out''} a b = record {
  bytes = b.bytes ∙ rw (a.bytes, bytes_append rs qs) (append_assoc out (bytes_of_all rs) (bytes_of_all qs));
  small = omega (arith, a.small, b.small);
}

-- those of the numbers below i, with so many bytes at most for each
abbrev pub Below : ℕ → (ℕ → List Record) → ℕ → List ℕ → List ℕ → Type 0
Below width f i = Appended (width * i) (gather i f)

module _ (width : ℕ) (f : ℕ → List Record) where
  -- before the first turn
  pub begun : {out : List ℕ} → Below width f 0 out out
  unfolding gather_from
  begun = appended_none (width * 0) refl

  -- a turn
  pub onward : (i : ℕ) {out out' out'' : List ℕ} → Below width f i out out' → Appended width (f i) out' out'' → Below width f (i + 1) out out''
  onward i so_far turn = rw (add-one, gather_last i f, mul-suc width i) (appended_both so_far turn)

  -- a turn that appends one record
  pub one_more : (i : ℕ) {out out' out'' bytes : List ℕ} → Below width f i out out'
      → out'' ≡ out' ++ bytes → bytes ≡ bytes_of_all (f i) → length (bytes_of_all (f i)) ≤ width → Below width f (i + 1) out out''
  one_more i so_far h is small = onward i so_far (appended width (f i) h is small)

  -- after the last
  pub all : (i limit : ℕ) {out out' : List ℕ} → i ≡ limit → Below width f i out out' → Below width f limit out out'
  all i limit {out} {out'} end so_far = rw end at so_far
