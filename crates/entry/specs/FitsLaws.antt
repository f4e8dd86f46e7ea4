-- What the shape says of an entry, taken apart and put together again. Assumes nothing.
use Rattle.std.specs.Prelude.{◌≡◌, refl, true, not, ◌≢◌, ℕ, ◌<◌, ◌≤◌, leb, ltb, eqb, ℤ, pos, negsuc, nat_abs}
use Rattle.std.proofs.Common.{sym, true≢false}
use borrow.Author.Tests.{eq-eqb, eqb-false, eqb-true, le-leb, leb-true, lt-ltb, ltb-true, ne_eqb, not-true}
use Rattle.terms.proofs.ChooseLaws.{and_passes}
use Rattle.terms.specs.Limits.{MOST, NODES, owner}
use Rattle.entry.specs.declared.ReturnCount.{ReturnCount}
use Rattle.entry.specs.declared.Directory.{Directory}
use Rattle.entry.specs.declared.Remote.{Remote}
use Rattle.entry.specs.declared.Entry.TheVariants.{AtOwner, Elsewhere}
use Rattle.entry.specs.Fits.{fits_directory, fits_directory_returns, fits_entry, fits_remote, fits_returns}

-- a return count that isn't below zero
pub natural_returns : (z : ReturnCount) → fits_returns z ≡ true → z.0 ≡ pos (nat_abs z.0)
natural_returns z = go z.0
  where
    go : (w : ℤ) → fits_returns (record { 0 = w }) ≡ true → w ≡ pos (nat_abs w)
    go (pos n) fits = refl
    go (negsuc n) fits = absurd (true≢false (sym fits))

-- ---- the numbers

-- a directory's
pub record DirectoryParts (d : Directory) : Type 0 where
  pub count : d.rc ≤ MOST
  pub returns : fits_directory_returns d.msg_ctr ≡ true

-- taken apart
directory_parts : (d : Directory) → fits_directory d ≡ true → DirectoryParts d
unfolding fits_directory
directory_parts d fits =
    let p = (and_passes (leb d.rc MOST) (fits_directory_returns d.msg_ctr)).0 fits in
    record { count = leb-true d.rc MOST p.0; returns = p.1 }

-- put together
directory_fits : (d : Directory) → DirectoryParts d → fits_directory d ≡ true
unfolding fits_directory
directory_fits d parts = rw (le-leb d.rc MOST parts.count, parts.returns)

-- a remote entry's
pub record RemoteParts (e : Remote) : Type 0 where
  pub count : e.rc ≤ MOST
  pub parent : e.parent < NODES
  pub returns : fits_returns e.msg_ctr ≡ true
  pub positive : 0 < e.ref_weight.0
  pub weight : e.ref_weight.0 ≤ MOST

-- taken apart
remote_parts : (e : Remote) → fits_remote e ≡ true → RemoteParts e
unfolding fits_remote
remote_parts e fits =
    let one = (and_passes (leb e.rc MOST) _).0 fits in
    let two = (and_passes (ltb e.parent NODES) _).0 one.1 in
    let three = (and_passes (fits_returns e.msg_ctr) _).0 two.1 in
    let four = (and_passes (ltb 0 e.ref_weight.0) _).0 three.1 in
    record {
      count = leb-true e.rc MOST one.0;
      parent = ltb-true e.parent NODES two.0;
      returns = three.0;
      positive = ltb-true 0 e.ref_weight.0 four.0;
      weight = leb-true e.ref_weight.0 MOST four.1;
    }

-- put together
remote_fits : (e : Remote) → RemoteParts e → fits_remote e ≡ true
unfolding fits_remote
remote_fits e parts = rw (
  le-leb e.rc MOST parts.count,
  lt-ltb e.parent NODES parts.parent,
  parts.returns,
  lt-ltb 0 e.ref_weight.0 parts.positive,
  le-leb e.ref_weight.0 MOST parts.weight,
)

-- ---- the entry at a node

module _ (node o : ℕ) where
  -- a directory stands at the owner
  pub record Home (d : Directory) : Type 0 where
    pub own : node ≡ owner o
    pub parts : DirectoryParts d

  -- taken apart
  pub home : (d : Directory) → fits_entry node o (AtOwner d) ≡ true → Home d
  unfolding fits_entry
  home d fits =
      let p = (and_passes (eqb node (owner o)) (fits_directory d)).0 fits in
      record { own = eqb-true node (owner o) p.0; parts = directory_parts d p.1 }

  -- put together
  pub home_fits : (d : Directory) → Home d → fits_entry node o (AtOwner d) ≡ true
  unfolding fits_entry
  home_fits d h = rw (eq-eqb node (owner o) h.own, directory_fits d h.parts)

  -- a remote entry stands elsewhere, and not under itself
  pub record Away (e : Remote) : Type 0 where
    pub elsewhere : node ≢ owner o
    pub under : e.parent ≢ node
    pub parts : RemoteParts e

  -- taken apart
  pub away : (e : Remote) → fits_entry node o (Elsewhere e) ≡ true → Away e
  unfolding fits_entry
  away e fits =
      let one = (and_passes (not (eqb node (owner o))) _).0 fits in
      let two = (and_passes (not (eqb e.parent node)) (fits_remote e)).0 one.1 in
      record {
        elsewhere = eqb-false node (owner o) (not-true (eqb node (owner o)) one.0);
        under = eqb-false e.parent node (not-true (eqb e.parent node) two.0);
        parts = remote_parts e two.1;
      }

  -- put together
  pub away_fits : (e : Remote) → Away e → fits_entry node o (Elsewhere e) ≡ true
  unfolding fits_entry
  away_fits e a = rw (ne_eqb node (owner o) a.elsewhere, ne_eqb e.parent node a.under, remote_fits e a.parts)
