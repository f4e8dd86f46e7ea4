-- The tests that any event meets, then COLLECT or another.
use Rattle.std.proofs.Common.{◌≡◌, ℕ, ◌<◌, List, true, get_or, sym, ap, ◌∙◌, arith}
use mir.Syntax.{w8}
use mir.Val.{Fits}
use Rattle.terms.specs.Limits.{EVENTS}
use Rattle.terms.specs.Numbers.{ACCEPTED}
use Rattle.image.specs.declared.Found.{Found}
use Rattle.image.specs.Find.{count_in, found_from}
use Rattle.image.specs.Reader.{read}
use Rattle.splice.proofs.Accepted.{count_told}
use Rattle.step.specs.declared.Event.{Event}
use Rattle.step.specs.Event.{fits_event}
use Rattle.etzvanul.specs.Amended.{Asked, unfit_back, ended_back}
use Rattle.plan.proofs.Slices.{slice_bytes}
use Rattle.etzvanul.proofs.Slices.{slice_told}
use Rattle.etzvanul.proofs.amends.amend.Goals as goal

module _ (l : List ℕ) (each : (i : ℕ) → Fits w8 (get_or l i 0)) (accepted : (read l).answer ≡ ACCEPTED) where
  -- the event count that the image tells
  counted : (found : Found) → found ≡ found_from 0 0 l → (n : ℕ) → n ≡ count_in found.held → n ≡ (read l).table.count
  counted found is n tells = tells ∙ ap (λ (f : Found). count_in f.held) is ∙ count_told l (slice_bytes l each) accepted

  -- the tests are passed
  passed : (e : Event) → fits_event e ≡ true → (found : Found) → found ≡ found_from 0 0 l → (n : ℕ) → n ≡ count_in found.held → n < EVENTS
      → Asked l e n
  passed e fits found is n tells more = record {
    accepted = accepted;
    fits = fits;
    counted = counted found is n tells;
    more = more;
  }

pub returns-then-not-fits : goal.returns-then-not-fits
returns-then-not-fits c =
    let a = c.args in
    let l = a.image.now in
    let told = slice_told l c.type_inv.image c.requires in
    unfit_back l a.e a.out.now c.requires told.fits (sym c.fits.ensures ∙ c.if-not-fits.true)

pub returns-then-count-ge-EVENTS : goal.returns-then-count-ge-EVENTS
returns-then-count-ge-EVENTS c =
    let a = c.args in
    let l = a.image.now in
    let told = slice_told l c.type_inv.image c.requires in
    let fits = sym c.fits.ensures ∙ c.if-not-fits.false in
    let many = counted l c.type_inv.image c.requires _ c.look_from.ensures _ c.count-count.ensures in
    ended_back l a.e a.out.now c.requires told.fits fits (omega (arith, many, c.if-count-ge-EVENTS.true))

pub collect-requires : goal.collect-requires
collect-requires c =
    let a = c.args in
    let fits = sym c.fits.ensures ∙ c.if-not-fits.false in
    record {
      asked = passed a.image.now c.type_inv.image c.requires a.e fits _ c.look_from.ensures _ c.count-count.ensures c.if-count-ge-EVENTS.false;
      kind = sym c.in-Collect.ensures;
    }

pub change-requires : goal.change-requires
change-requires c =
    let a = c.args in
    let fits = sym c.fits.ensures ∙ c.if-not-fits.false in
    record {
      asked = passed a.image.now c.type_inv.image c.requires a.e fits _ c.look_from.ensures _ c.count-count.ensures c.if-count-ge-EVENTS.false;
      other = λ is. c.in_default.not-Collect (c.from.ensures ∙ is);
    }
