-- Texts written into a buffer, one behind the other: two that follow each other are one, and the room for one is left by the other. Assumes nothing.
use Rattle.std.proofs.Common.{◌≡◌, refl, sym, ap, ◌∙◌, ℕ, ◌+◌, List, ◌++◌, length, length-append, append_assoc, drop-drop, arith}
use Rattle.std.proofs.lemmas.List.Edits.{sets-eq}
use borrow.Rule.Slice.PartMut.{put_mid}
use Rattle.std.proofs.Math.Seq.{length-sets}
use Rattle.terms.proofs.BufferLaws.{sets_append, sets_front}
use Rattle.terms.specs.Bytes.{over}
use Rattle.run.specs.Buffer.{Appends, Room, RoomFor, Wrote}
use Rattle.run.specs.declared.text.Text.{Text}

-- a buffer keeps its length
pub wrote_length : {out : List ℕ} {at : ℕ} {v : List ℕ} {out' : List ℕ} {n : ℕ} → Wrote out at v out' n → length out' ≡ length out
wrote_length {out} {at} {v} w = ap length w.bytes ∙ length-sets out at v

-- two texts
pub wrote_both : {out : List ℕ} {at : ℕ} {v : List ℕ} {out' : List ℕ} {n : ℕ} {w : List ℕ} {out'' : List ℕ} {m : ℕ}
    → Wrote out at v out' n → Wrote out' n w out'' m → Wrote out at (v ++ w) out'' m
wrote_both {out} {at} {v} {out'} {n} {w} {out''} {m} a b = record {
  place = omega (arith, a.place, b.place, length-append v w);
  bytes = b.bytes ∙ rw (a.bytes, a.place) (sym (sets_append out at v w));
  inside = omega (arith, b.inside, wrote_length a);
}

-- a text copied into the part of the buffer that has its length
pub wrote_part : {out : List ℕ} {at : ℕ} {v : List ℕ} (part : List ℕ) (k : ℕ) → Room out at v → part ≡ v → k ≡ length v
    → Wrote out at v (put_mid at k out part) (at + length v)
wrote_part {out} {at} {v} part k r p e = record {
  place = refl;
  bytes = rw (p, e, sets-eq v out at r.fits, drop-drop, append_assoc);
  inside = r.fits;
}

-- room for two texts is room for the first
pub room_front : {out : List ℕ} {at : ℕ} {v : List ℕ} (w : List ℕ) → Room out at (v ++ w) → Room out at v
room_front {v = v} w r = record { fits = omega (arith, length-append v w) }

-- and, once the first is written, for the second
pub room_rest : {out : List ℕ} {at : ℕ} {v : List ℕ} {out' : List ℕ} {n : ℕ} {w : List ℕ}
    → Wrote out at v out' n → Room out at (v ++ w) → Room out' n w
room_rest {v = v} {w = w} a r = record { fits = omega (arith, length-append v w, wrote_length a) }

-- from the front: the bytes past the text stay
pub wrote_over : {out text out' : List ℕ} {n : ℕ} → Wrote out 0 text out' n → out' ≡ over text out
wrote_over {out} {text} w = w.bytes ∙ sets_front out text (omega (arith, w.place, w.inside))

-- ---- the same of a text that is written so far

-- two texts
pub appends_both : {t t' t'' : Text} {v w : List ℕ} → Appends t v t' → Appends t' w t'' → Appends t (v ++ w) t''
appends_both a b = record { same_reference = b.same_reference ∙ a.same_reference; wrote = wrote_both a.wrote b.wrote }

-- room for the second, once the first is written
pub room_after : {t t' : Text} {v w : List ℕ} → Appends t v t' → RoomFor t (v ++ w) → RoomFor t' w
room_after a r = room_rest a.wrote r
