-- What the settling of a lent entry says (`lent`): a refused settling leaves the entry as it was; with all numbers in range it is the settling
-- of every entry (`settled`, AtNode.antt of crate entry), refused just where n is above RC or MsgCtr + m leaves its range. Assumes nothing.
use Rattle.std.specs.Prelude.{◌≡◌, Bool, false, not, ◌-◌, leb, ltb, if◌then◌else◌}
use Rattle.std.proofs.Math.Path.{refl}
use Rattle.std.proofs.Common.{sym, ◌∙◌}
use Rattle.std.proofs.Math.Bool.{true}
use Rattle.std.proofs.lemmas.Bool.{false≢true}
use Rattle.terms.specs.Choose.{◌and◌}
use Rattle.terms.proofs.ChooseLaws.{and_passes}
use Rattle.terms.specs.Limits.{MOST, NODES}
use Rattle.terms.specs.Numbers.{ACCEPTED, TORN}
use Rattle.entry.specs.declared.ReturnCount.{ReturnCount}
use Rattle.entry.specs.declared.Weight.{Weight}
use Rattle.entry.specs.declared.Directory.{Directory}
use Rattle.entry.specs.declared.Remote.{Remote}
use Rattle.entry.specs.declared.Entry.{Entry}
use Rattle.entry.specs.declared.Entry.TheVariants.{Absent, AtOwner, Elsewhere}
use Rattle.entry.specs.Acts.{DirectoryAct}
use Rattle.entry.specs.Acts.{RemoteAct}
use Rattle.entry.specs.AtNode.{EntryAct}
use Rattle.entry.specs.Entry.{both}
use Rattle.entry.specs.Fits.{fits_returns, fits_directory_returns, fits_weight, fits_directory, fits_remote}
use Rattle.entry.specs.Acts.{stays, directory, with_counts, directory_settled, remote_settled}
use Rattle.entry.specs.AtNode.{settled, refuses, torn, of_directory, of_remote}
use Rattle.lent.specs.Lent.{fits_alone, fits_decrement, lent}

-- ---- a test chooses between an act that is accepted and one that is refused

module _ {A : Type 0} (act : A → EntryAct) (x y : A) (accepted : refuses (act x) ≡ false) (refused : refuses (act y) ≡ true) where
  -- it is refused where the test fails
  chosen_refuses : (test : Bool) → refuses (act (if test then x else y)) ≡ not test
  chosen_refuses true = accepted
  chosen_refuses false = refused

  -- and then it is the second
  chosen_refused : (test : Bool) → refuses (act (if test then x else y)) ≡ true → act (if test then x else y) ≡ act y
  chosen_refused true told = absurd (false≢true (sym accepted ∙ told))
  chosen_refused false told = refl

-- ---- the two sorts of entry: the test, the act where it passes, and the act where it fails

module _ (d : Directory) (m : ReturnCount) (n : Weight) where
  abbrev directory_test : Bool
  directory_test = leb n.0 d.rc and fits_returns m and stays fits_directory_returns d.msg_ctr (both d.msg_ctr m)

  abbrev directory_done : DirectoryAct
  directory_done = record { refusal = ACCEPTED; entry = directory (d.rc - n.0) (both d.msg_ctr m) }

  abbrev directory_torn : DirectoryAct
  directory_torn = record { refusal = TORN; entry = d }

module _ (e : Remote) (m : ReturnCount) (n : Weight) where
  abbrev remote_test : Bool
  remote_test = leb n.0 e.rc and fits_returns m and stays fits_returns e.msg_ctr (both e.msg_ctr m)

  abbrev remote_done : RemoteAct
  remote_done = record { refusal = ACCEPTED; entry = with_counts e (e.rc - n.0) (both e.msg_ctr m) }

  abbrev remote_torn : RemoteAct
  remote_torn = record { refusal = TORN; entry = e }

-- ---- a refused settling leaves the entry as it was

pub settled_refused : (e : Entry) (m : ReturnCount) (n : Weight) → refuses (settled m n e) ≡ true → settled m n e ≡ torn e
unfolding settled directory_settled remote_settled
settled_refused Absent m n told = refl
settled_refused (AtOwner d) m n told =
    chosen_refused of_directory (directory_done d m n) (directory_torn d m n) refl refl (directory_test d m n) told
settled_refused (Elsewhere e) m n told = chosen_refused of_remote (remote_done e m n) (remote_torn e m n) refl refl (remote_test e m n) told

-- ---- with all numbers in range, a lent entry is settled as every entry is

-- refused or not, the settling is what the list of refusals makes of it
listed : (e : Entry) (m : ReturnCount) (n : Weight) (test : Bool) → refuses (settled m n e) ≡ test
    → settled m n e ≡ (if test then torn e else settled m n e)
listed e m n true told = settled_refused e m n told
listed e m n false told = refl

pub lent_in_range : (e : Entry) (m : ReturnCount) (n : Weight) → fits_alone e ≡ true → fits_decrement m n ≡ true → settled m n e ≡ lent e m n
unfolding lent
lent_in_range e m n fits decrement = listed e m n _ refl ∙ rw (fits, decrement) refl

-- ---- where it is refused then: n above RC, or MsgCtr + m out of its range

module _ (m : ReturnCount) (n : Weight) (decrement : fits_decrement m n ≡ true) where
  returns : fits_returns m ≡ true
  returns = ((and_passes _ (fits_weight n)).0 decrement).0

  pub directory_torn_lem : (d : Directory) → fits_directory d ≡ true
      → refuses (settled m n (AtOwner d)) ≡ not (leb n.0 d.rc and fits_directory_returns (both d.msg_ctr m))
  unfolding settled directory_settled fits_directory
  directory_torn_lem d fits =
      let counted : fits_directory_returns d.msg_ctr ≡ true = ((and_passes (leb d.rc MOST) _).0 fits).1 in
      chosen_refuses of_directory (directory_done d m n) (directory_torn d m n) refl refl (directory_test d m n) ∙ rw (returns, counted) refl

  pub remote_torn_lem : (e : Remote) → fits_remote e ≡ true
      → refuses (settled m n (Elsewhere e)) ≡ not (leb n.0 e.rc and fits_returns (both e.msg_ctr m))
  unfolding settled remote_settled fits_remote
  remote_torn_lem e fits =
      let ranges = ((and_passes (ltb e.parent NODES) _).0 ((and_passes (leb e.rc MOST) _).0 fits).1).1 in
      let counted : fits_returns e.msg_ctr ≡ true = ((and_passes _ (fits_weight e.ref_weight)).0 ranges).0 in
      chosen_refuses of_remote (remote_done e m n) (remote_torn e m n) refl refl (remote_test e m n) ∙ rw (returns, counted) refl
