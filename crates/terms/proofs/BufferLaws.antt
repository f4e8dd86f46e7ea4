-- Bytes stored in a buffer one behind the other: two parts that follow each other, one byte more, and from the front. Assumes nothing.
use Rattle.std.specs.Prelude.{◌≡◌, List, [], ◌∷◌, ◌++◌, ℕ, suc, ◌+◌, ◌<◌, ◌≤◌, length, get_or, set, take}
use Rattle.std.proofs.Common.{sym, ap, ◌∙◌, zero-add, add-zero, add-suc, suc-add, add-one, arith, take-suc, length-take-le}
use Rattle.std.proofs.lemmas.List.Edits.{sets, sets-eq}
use Rattle.terms.specs.Bytes.{over}

-- a run of stores is its first part and then its second
pub sets_append : (out : List ℕ) (at : ℕ) (v w : List ℕ) → sets out at (v ++ w) ≡ sets (sets out at v) (at + length v) w
sets_append out at [] w = rw add-zero
sets_append out at (a ∷ v) w = sets_append (set out at a) (suc at) v w ∙ rw (add-suc, suc-add)

-- a turn of the loop that copies
pub sets_more : (out : List ℕ) (at : ℕ) (text : List ℕ) (done : ℕ) → done < length text
    → set (sets out at (take done text)) (at + done) (get_or text done 0) ≡ sets out at (take (done + 1) text)
sets_more out at text done lt =
    sym
    (rw (add-one, take-suc text done 0)
    (sets_append out at (take done text) (get_or text done 0 ∷ [])
    ∙ ap (λ (k : ℕ). set (sets out at (take done text)) (at + k) (get_or text done 0)) (length-take-le done text (omega arith))))

-- v is stored, w is left: the whole is what it was
module _ (out v w : List ℕ) (to : ℕ) where
  pub stored_more : {out' whole : List ℕ} {to' : ℕ} → sets out to (v ++ w) ≡ whole → out' ≡ sets out to v → to' ≡ to + length v
      → sets out' to' w ≡ whole
  stored_more h e f = rw (e, f) (sym (sets_append out to v w) ∙ h)

-- stores from the front
pub sets_front : (out v : List ℕ) → length v ≤ length out → sets out 0 v ≡ over v out
sets_front out v le = sets-eq v out 0 (omega arith) ∙ rw zero-add
