-- Laws of specs/Stored.antt: bytes stored behind bytes, records put behind records, and a turn of a loop that puts them one by one.
-- Assumes nothing.
use Rattle.std.specs.Prelude.{◌≡◌, refl, List, [], ◌++◌, ℕ, ◌+◌, ◌*◌, length}
use Rattle.std.proofs.Common.{sym, ap, ◌∙◌, mul-suc, add-one, arith, length-append}
use Rattle.std.proofs.Math.Seq.{length-sets}
use Rattle.terms.proofs.BufferLaws.{sets_append}
use Rattle.terms.specs.Counted.{gather_from, gather}
use Rattle.terms.proofs.CountedLaws.{gather_last}
use Rattle.image.specs.Stored.{Stored, Put}
use Rattle.image.proofs.ReadLaws.{bytes_append}
use Rattle.image.specs.Records.{Record}
use Rattle.image.specs.Writer.{bytes_of_all}

-- no bytes
pub stored_none : (out : List ℕ) (at : ℕ) → Stored out at [] out at
stored_none out at = record { place = omega arith; stands = refl }

-- bytes, and others behind them
pub stored_both : {out : List ℕ} {at : ℕ} {v : List ℕ} {out' : List ℕ} {n : ℕ} {w : List ℕ} {out'' : List ℕ} {m : ℕ}
    → Stored out at v out' n → Stored out' n w out'' m → Stored out at (v ++ w) out'' m
stored_both {out} {at} {v} {out'} {n} {w} {out''} {m} a b = record {
  place = omega (arith, a.place, b.place, length-append v w);
  stands = b.stands ∙ rw (a.stands, a.place) (sym (sets_append out at v w));
}

-- a buffer keeps its length
pub stored_length : {out : List ℕ} {at : ℕ} {v : List ℕ} {out' : List ℕ} {n : ℕ} → Stored out at v out' n → length out' ≡ length out
stored_length {out} {at} {v} s = ap length s.stands ∙ length-sets out at v

-- no record
pub put_none : (most : ℕ) (out : List ℕ) (at : ℕ) → Put most [] out at out at
unfolding bytes_of_all
put_none most out at = record { stored = stored_none out at; small = omega arith }

-- records, and others behind them
pub put_both : {k : ℕ} {rs : List Record} {out : List ℕ} {at : ℕ} {out' : List ℕ} {n : ℕ} {l : ℕ} {qs : List Record} {out'' : List ℕ} {m : ℕ}
    → Put k rs out at out' n → Put l qs out' n out'' m → Put (k + l) (rs ++ qs) out at out'' m
put_both {k} {rs} {out} {at} {out'} {n} {l} {qs} {out''} {m} a b = record {
  stored = rw (bytes_append rs qs) (stored_both a.stored b.stored);
  small = omega (arith, a.small, b.small);
}

-- before the first turn
pub put_start : (w : ℕ) (f : ℕ → List Record) (out : List ℕ) (at : ℕ) → Put (w * 0) (gather 0 f) out at out at
unfolding gather_from
put_start w f out at = put_none (w * 0) out at

-- a turn
pub put_more : (w : ℕ) (f : ℕ → List Record) (i : ℕ) {out : List ℕ} {at : ℕ} {out' : List ℕ} {n : ℕ} {out'' : List ℕ} {m : ℕ}
    → Put (w * i) (gather i f) out at out' n → Put w (f i) out' n out'' m → Put (w * (i + 1)) (gather (i + 1) f) out at out'' m
put_more w f i a b = rw (add-one i, gather_last i f, mul-suc w i) (put_both a b)
