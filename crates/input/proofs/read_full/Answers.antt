-- Each read fills on from where the last one ended.
use Rattle.std.proofs.Common.{◌≡◌, ℕ, ◌+◌, ◌-◌, ◌≤◌, List, ◌++◌, rules, length, take, sym, ap, ◌∙◌, subst, length-take-le}
use Rattle.std.proofs.lemmas.List.{take-append-le}
use Rattle.std.proofs.Math.Seq.{take-append-add}
use Rattle.std.specs.Io.KnownBytes.{Consumes}
use Rattle.std.proofs.KnownBytes.{Consumes-trans}
use borrow.Rule.Slice.PartMut.{put_mid, post_of}
use Rattle.input.proofs.read_full.Goals as goal

filled : (a k n : ℕ) (xs ys : List ℕ) → a ≤ length xs → n ≤ length ys → take a xs ++ take n ys ≡ take (a + n) (put_mid a k xs ys)
filled a k n xs ys within fits =
    ap (λ l. take a xs ++ l) (sym (take-append-le n ys (post_of a k xs) fits))
    ∙ sym (take-append-add (take a xs) (ys ++ post_of a k xs) n)
    ∙ ap (λ m. take (m + n) (put_mid a k xs ys)) (length-take-le a xs within)

pub loop-done-preserved : goal.loop-done-preserved
loop-done-preserved g c =
    let e = c.in_ok-n.ensures in
    let more = filled c.loop-done.done (length c.loop-done.buf - c.loop-done.done) c.in_ok-n.n c.loop-done.buf c.read.new.buf c.loop-done.invariant.1 e.bound.0 in
    (search rules, search rules, subst (Consumes _ _) more (Consumes-trans _ _ _ _ _ c.loop-done.invariant.2 e.bytes.0))
