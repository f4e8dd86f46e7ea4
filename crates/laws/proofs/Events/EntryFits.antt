-- The acts on an entry keep its shape: each tests the ranges before it changes a count, and hands back the entry as it was where one would
-- be left (document 01, "Any event: a count would leave its shape range"). Assumes nothing.
use Rattle.std.specs.Prelude.{◌≡◌, Bool, not, ◌≢◌, ℕ, ◌+◌, ◌-◌, ◌<◌, ◌≤◌, leb, ltb, if◌then◌else◌}
use Rattle.std.proofs.Math.Path.{refl}
use Rattle.std.proofs.Common.{sym, ◌∙◌}
use Rattle.std.proofs.Math.Bool.{true, false}
use native.Mathlib.Omega.{arith}
use Rattle.std.proofs.Math.Dec.{eqb}
use borrow.Author.Tests.{eqb-false, ltb-true}
use Rattle.terms.specs.Choose.{◌and◌}
use Rattle.terms.proofs.ChooseLaws.{and_passes, either_way}
use Rattle.terms.specs.Limits.{MOST, NODES, owner}
use Rattle.entry.specs.declared.ReturnCount.{ReturnCount}
use Rattle.entry.specs.declared.Weight.{Weight}
use Rattle.entry.specs.declared.Directory.{Directory}
use Rattle.entry.specs.declared.Remote.{Remote}
use Rattle.entry.specs.Acts.{DirectoryAct}
use Rattle.entry.specs.Acts.{RemoteAct}
use Rattle.entry.specs.AtNode.{EntryAct}
use Rattle.entry.specs.declared.Entry.{Entry}
use Rattle.entry.specs.declared.Entry.TheVariants.{Absent, AtOwner, Elsewhere}
use Rattle.entry.specs.Acts.{directory_came_home, directory_sent, directory_settled, first_received, stays, used_with, with_counts}
use Rattle.entry.specs.Acts.{remote_received_again, remote_sent, remote_sent_home, remote_settled, remote_set_unused}
use Rattle.entry.specs.AtNode.{done, holder_sent, received, sent, set_unused, settled, torn}
use Rattle.entry.specs.Entry.{both, fewer, more, weight}
use Rattle.entry.specs.Fits.{fits_directory, fits_directory_returns, fits_entry, fits_returns}
use Rattle.entry.specs.FitsLaws.{DirectoryParts, RemoteParts, away, away_fits, home, home_fits}

-- ---- the acts on a directory

module _ (d : Directory) (parts : DirectoryParts d) where
  -- RC + 1, below its limit
  directory_sent_lem : DirectoryParts (directory_sent d).entry
  unfolding directory_sent
  directory_sent_lem = either_way (λ (a : DirectoryAct). DirectoryParts a.entry) (ltb d.rc MOST)
      (λ low. record { count = omega (arith, ltb-true d.rc MOST low); returns = parts.returns }) parts

  -- MsgCtr - 1, within its range
  directory_came_home_lem : DirectoryParts (directory_came_home d).entry
  unfolding directory_came_home
  directory_came_home_lem =
      let c = d.msg_ctr in
      either_way (λ (a : DirectoryAct). DirectoryParts a.entry) (stays fits_directory_returns c (fewer c))
      (λ in_range. record {
        count = parts.count;
        returns = ((and_passes (fits_directory_returns c) (fits_directory_returns (fewer c))).0 in_range).1;
      }) parts

  -- RC falls, and MsgCtr + m stays within its range
  directory_settled_lem : (m : ReturnCount) (n : Weight) → DirectoryParts (directory_settled d m n).entry
  unfolding directory_settled
  directory_settled_lem m n =
      let c = d.msg_ctr in
      either_way (λ (a : DirectoryAct). DirectoryParts a.entry) (leb n.0 d.rc and fits_returns m and stays fits_directory_returns c (both c m))
      (λ in_range.
      let past = ((and_passes (leb n.0 d.rc) _).0 in_range).1 in
      let moved = ((and_passes (fits_returns m) (stays fits_directory_returns c (both c m))).0 past).1 in
      record {
        count = omega (arith, parts.count);
        returns = ((and_passes (fits_directory_returns c) (fits_directory_returns (both c m))).0 moved).1;
      }) parts

-- ---- the acts on a remote entry

-- the numbers of f fit and its Parent is that of e
record Stays (e f : Remote) : Type 0 where
  parts : RemoteParts f
  parent : f.parent ≡ e.parent

module _ (e : Remote) (parts : RemoteParts e) where
  -- nothing changes
  as_it_was : Stays e e
  as_it_was = record { parts = parts; parent = refl }

  -- other counts that fit
  recounted : (n : ℕ) (c : ReturnCount) → n ≤ MOST → fits_returns c ≡ true → Stays e (with_counts e n c)
  recounted n c few fits = record {
    parts = record { count = few; parent = parts.parent; returns = fits; positive = parts.positive; weight = parts.weight };
    parent = refl;
  }

  -- another weight that fits
  weighed : (w : ℕ) → 0 < w → w ≤ MOST → Stays e (used_with e (weight w))
  weighed w some few = record {
    parts = record { count = parts.count; parent = parts.parent; returns = parts.returns; positive = some; weight = few };
    parent = refl;
  }

  -- no number changes
  remote_unused : Stays e (remote_set_unused e)
  remote_unused = record {
    parts = record { count = parts.count; parent = parts.parent; returns = parts.returns; positive = parts.positive; weight = parts.weight };
    parent = refl;
  }

  -- RC + 1, below its limit
  remote_sent_lem : Stays e (remote_sent e).entry
  unfolding remote_sent
  remote_sent_lem = either_way (λ (a : RemoteAct). Stays e a.entry) (ltb e.rc MOST)
      (λ low. recounted (e.rc + 1) e.msg_ctr (omega (arith, ltb-true e.rc MOST low)) parts.returns) as_it_was

  -- MsgCtr + 1, within its range
  remote_sent_home_lem : Stays e (remote_sent_home e).entry
  unfolding remote_sent_home
  remote_sent_home_lem =
      let c = e.msg_ctr in
      either_way (λ (a : RemoteAct). Stays e a.entry) (stays fits_returns c (more c))
      (λ in_range. recounted e.rc (more c) parts.count ((and_passes (fits_returns c) (fits_returns (more c))).0 in_range).1) as_it_was

  -- RefWeight + 1, below its limit, or as it was
  remote_received : (sender : ℕ) → Stays e (remote_received_again e sender).entry
  unfolding remote_received_again
  remote_received sender =
      let w = e.ref_weight.0 in
      either_way (λ (a : RemoteAct). Stays e a.entry) (not (eqb e.parent sender))
      (λ another. weighed w parts.positive parts.weight)
      (either_way (λ (a : RemoteAct). Stays e a.entry) (ltb w MOST)
      (λ low. weighed (w + 1) (omega arith) (omega (arith, ltb-true w MOST low))) as_it_was)

  -- RC falls, and MsgCtr + m stays within its range
  remote_settled_lem : (m : ReturnCount) (n : Weight) → Stays e (remote_settled e m n).entry
  unfolding remote_settled
  remote_settled_lem m n =
      let c = e.msg_ctr in
      either_way (λ (a : RemoteAct). Stays e a.entry) (leb n.0 e.rc and fits_returns m and stays fits_returns c (both c m))
      (λ in_range.
      let past = ((and_passes (leb n.0 e.rc) _).0 in_range).1 in
      let moved = ((and_passes (fits_returns m) (stays fits_returns c (both c m))).0 past).1 in
      recounted (e.rc - n.0) (both c m) (omega (arith, parts.count)) ((and_passes (fits_returns c) (fits_returns (both c m))).0 moved).1) as_it_was

-- ---- the entry at a node

module _ (node o : ℕ) where
  -- a directory that its act changed stands where it stood
  directory_kept : (d f : Directory) → fits_entry node o (AtOwner d) ≡ true → (DirectoryParts d → DirectoryParts f)
      → fits_entry node o (AtOwner f) ≡ true
  directory_kept d f fits keeps = let h = home node o d fits in home_fits node o f (record { own = h.own; parts = keeps h.parts })

  -- and so does a remote entry
  remote_kept : (e f : Remote) → fits_entry node o (Elsewhere e) ≡ true → (RemoteParts e → Stays e f) → fits_entry node o (Elsewhere f) ≡ true
  remote_kept e f fits keeps =
      let a = away node o e fits in
      let s = keeps a.parts in
      away_fits node o f (record { elsewhere = a.elsewhere; under = λ own. a.under (sym s.parent ∙ own); parts = s.parts })

  -- SEND
  pub sent_fits : (to : ℕ) (e : Entry) → fits_entry node o e ≡ true → fits_entry node o (sent node to o e).entry ≡ true
  unfolding sent fits_entry fits_directory holder_sent
  sent_fits to Absent fits = either_way (λ (a : EntryAct). fits_entry node o a.entry ≡ true) (eqb node (owner o)) (λ own. rw own) refl
  sent_fits to (AtOwner d) fits = directory_kept d (directory_sent d).entry fits (directory_sent_lem d)
  sent_fits to (Elsewhere e) fits =
      either_way (λ (a : EntryAct). fits_entry node o a.entry ≡ true) e.presence
      (λ used. either_way (λ (a : EntryAct). fits_entry node o a.entry ≡ true) (eqb to (owner o))
      (λ home. remote_kept e (remote_sent_home e).entry fits (remote_sent_home_lem e)) (remote_kept e (remote_sent e).entry fits (remote_sent_lem e))) fits

  -- RECEIVE
  pub received_fits : (from : ℕ) (e : Entry) → from < NODES → from ≢ node → fits_entry node o e ≡ true
      → fits_entry node o (received from node o e).entry ≡ true
  unfolding received
  received_fits from Absent sender apart fits = go (eqb node (owner o)) refl
    where
      go : (b : Bool) → eqb node (owner o) ≡ b → fits_entry node o (if b then torn Absent else done (Elsewhere (first_received from))).entry ≡ true
      go true own = fits
      go false own = away_fits node o (first_received from) (record {
        elsewhere = eqb-false node (owner o) own;
        under = apart;
        parts = record { count = omega arith; parent = sender; returns = refl; positive = omega arith; weight = omega arith };
      })
  received_fits from (AtOwner d) sender apart fits = directory_kept d (directory_came_home d).entry fits (directory_came_home_lem d)
  received_fits from (Elsewhere e) sender apart fits = remote_kept e (remote_received_again e from).entry fits (λ parts. remote_received e parts from)

  -- SETTLE
  pub settled_fits : (m : ReturnCount) (n : Weight) (e : Entry) → fits_entry node o e ≡ true → fits_entry node o (settled m n e).entry ≡ true
  unfolding settled
  settled_fits m n Absent fits = fits
  settled_fits m n (AtOwner d) fits = directory_kept d (directory_settled d m n).entry fits (λ parts. directory_settled_lem d parts m n)
  settled_fits m n (Elsewhere e) fits = remote_kept e (remote_settled e m n).entry fits (λ parts. remote_settled_lem e parts m n)

  -- COLLECT
  pub unused_fits : (e : Entry) → fits_entry node o e ≡ true → fits_entry node o (set_unused e) ≡ true
  unused_fits Absent fits = fits
  unused_fits (AtOwner d) fits = fits
  unused_fits (Elsewhere e) fits = remote_kept e (remote_set_unused e) fits (remote_unused e)
