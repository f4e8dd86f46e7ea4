-- A scan to a later position passes a whole record that stands at an earlier one: over any bytes, accepted or not. Assumes nothing.
use Rattle.std.specs.Prelude.{◌≡◌, Bool, true, ◌⊎◌, ℕ, ◌+◌, ◌≤◌, ◌<◌, eqb, drop, if◌then◌else◌}
use Rattle.std.proofs.Math.Path.{refl, sym, ap}
use Rattle.std.proofs.Common.{◌∙◌, inl, inr}
use Rattle.std.proofs.Math.Bool.{false}
use mathlib.Core.List.{List, [], ◌∷◌}
use native.Mathlib.Omega.{arith}
use Rattle.std.proofs.Math.ListN.{length, length-drop}
use borrow.Author.Tests.{ltb-false, lt-ltb, le-ltb, eqb-true, not-false}
use Rattle.terms.specs.Choose.{Refusal, answered}
use Rattle.image.specs.Front.{Refused, Whole, frame_of}
use Rattle.image.specs.declared.RecordKind.{RecordKind}
use Rattle.image.specs.declared.RecordKind.TheVariants.{Count, Live, NodeRoots, Directory, Remote, Reference, Decrement, End, Unknown}
use Rattle.image.specs.BytesLaws.{AreBytes}
use Rattle.image.proofs.BytesLaws.{bytes_drop, fit_unpacked}
use Rattle.image.specs.Find.{front_kind, front_place, KEYED, offset, held_in, size_of}
use Rattle.image.specs.Order.{position_of}
use Rattle.image.proofs.ReadLaws.{NoneApplies, front_back}
use Rattle.image.specs.Reader.{stated_kind, stated_length, payload, rest_after, frame_refusals}
use Rattle.image.specs.Records.{HEAD, is_unknown, length_of, widths_of}
use Rattle.splice.proofs.Fronts.{front_kind_lem, front_place_lem}
use Rattle.splice.proofs.Scan.{offset_passes}

-- what is not refused is a whole record
whole_of : (j k : RecordKind) (rs : List Refusal) → answered Refused rs (Whole j) ≡ Whole k → NoneApplies rs × (j ≡ k)
whole_of j k [] = λ e. (tt, cc)
whole_of j k (r ∷ rs) = go r.applies refl (whole_of j k rs)
  where
    go : (b : Bool) → r.applies ≡ b → (answered Refused rs (Whole j) ≡ Whole k → NoneApplies rs × (j ≡ k))
        → (if b then Refused r.number else answered Refused rs (Whole j)) ≡ Whole k → ((r.applies ≡ false) × NoneApplies rs) × (j ≡ k)
    go true is rest e = let z : ◌≡◌ {A = ℕ} 0 1 = cc in absurd (omega arith)
    go false is rest e = let p = rest e in ((is, p.0), p.1)

-- what a record holds is as long as the record, or there is nothing to pass
pub pass_size : (k : RecordKind) (ns : List ℕ) → (size_of (held_in k ns) ≡ 0) ⊎ ((size_of (held_in k ns) ≡ HEAD + length_of k) × (KEYED ≤ HEAD + length_of k))
unfolding size_of
pass_size Count ns = inr (refl, omega arith)
pass_size Live ns = inr (refl, omega arith)
pass_size NodeRoots ns = inr (refl, omega arith)
pass_size Directory ns = inr (refl, omega arith)
pass_size Remote ns = inr (refl, omega arith)
pass_size Reference ns = inr (refl, omega arith)
pass_size Decrement ns = inr (refl, omega arith)
pass_size End ns = inl refl
pass_size Unknown ns = inl refl

module _ (n m : ℕ) (lt : n < m) where
  -- a scan to a later position passes a whole record that stands at an earlier one
  module _ (l : List ℕ) (are : AreBytes l) (k : RecordKind) (whole : frame_of l ≡ Whole k) (here : position_of k (payload k l) ≡ n) where
    pub passes : size_of (held_in k (payload k l)) ≡ HEAD + length_of k → KEYED ≤ HEAD + length_of k
        → offset m l ≡ size_of (held_in k (payload k l)) + offset m (drop (size_of (held_in k (payload k l))) l)
    unfolding frame_of
    passes size keyed =
        let none = whole_of (stated_kind l) k (frame_refusals (stated_kind l) l) whole in
        let is = none.1 in
        let long : HEAD + length_of k ≤ length l = rw is at (ltb-false (length l) (HEAD + length_of (stated_kind l)) none.0.1.1.1.0) in
        let known : is_unknown k ≡ false = rw is at none.0.1.0 in
        let same = not-false (eqb (stated_length l) (length_of (stated_kind l))) none.0.1.1.0 in
        let stated : stated_length l ≡ length_of k = rw is at (eqb-true (stated_length l) (length_of (stated_kind l)) same) in
        let lies = front_back l k are is (omega arith) known stated long in
        let fit = fit_unpacked (widths_of k) (drop HEAD l) (bytes_drop HEAD l are) (omega (arith, length-drop HEAD l)) in
        let kind : front_kind l ≡ k = ap front_kind (sym lies) ∙ front_kind_lem k (payload k l) (rest_after k l) known in
        let stands : front_place l ≡ n = ap front_place (sym lies) ∙ front_place_lem k (payload k l) (rest_after k l) known fit ∙ here in
        let passed = ap (λ (j : RecordKind). HEAD + length_of j) kind ∙ sym size in
        offset_passes m l (le-ltb (length l) KEYED (omega arith)) (lt-ltb (front_place l) m (omega arith))
        ∙ ap (λ (i : ℕ). i + offset m (drop i l)) passed
