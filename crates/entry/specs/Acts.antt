-- The small acts by which an entry changes (document 01, "Events"; document 000, section 4.5). An act hands back the entry with the
-- refusal beside it: TORN where a count would leave its range, the entry then as it was. Definitions only; assumes nothing.
use Rattle.std.specs.Prelude.{Bool, true, false, not, ℕ, ◌+◌, ◌-◌, leb, ltb, eqb, if◌then◌else◌, Option, Some, None}
use Rattle.terms.specs.Choose.{◌and◌}
use Rattle.terms.specs.Limits.{MOST}
use Rattle.terms.specs.Numbers.{ACCEPTED, TORN}
use Rattle.terms.specs.Refusals.{refusal_number}
use Rattle.entry.specs.declared.Act.{Act}
use Rattle.entry.specs.declared.ReturnCount.{ReturnCount}
use Rattle.entry.specs.declared.Weight.{Weight}
use Rattle.entry.specs.declared.Directory.{Directory}
use Rattle.entry.specs.declared.Remote.{Remote}
use Rattle.entry.specs.Entry.{weight, none, more, fewer, both, is_clear_directory}
use Rattle.entry.specs.Fits.{fits_returns, fits_directory_returns}

-- what an act comes to: the refusal's number, 0 if there is none, and the entry, unchanged if refused
pub record Acted (E : Type 0) : Type 0 where
  pub refusal : ℕ
  pub entry : E

abbrev pub DirectoryAct : Type 0
DirectoryAct = Acted Directory

abbrev pub RemoteAct : Type 0
RemoteAct = Acted Remote

-- what the code's act tells
abbrev pub told : {E : Type 0} → Act E → Acted E
told a = record { refusal = refusal_number a.refusal; entry = a.entry }

-- a count moved from c to d within its range
abbrev pub stays : (ReturnCount → Bool) → ReturnCount → ReturnCount → Bool
stays range c d = range c and range d

-- two counts together, if the first and the sum lie within the range
abbrev pub sum_within : (ReturnCount → Bool) → ReturnCount → ReturnCount → Option ReturnCount
sum_within range c m = if stays range c (both c m) then Some (both c m) else None

-- ---- the directory

abbrev pub directory : ℕ → ReturnCount → Directory
directory n c = record { rc = n; msg_ctr = c }

abbrev directory_done : Directory → DirectoryAct
directory_done d = record { refusal = ACCEPTED; entry = d }

abbrev directory_torn : Directory → DirectoryAct
directory_torn d = record { refusal = TORN; entry = d }

-- the owner sends for the first time: a directory is made
abbrev pub first_sent : Directory
first_sent = directory 1 none

-- the owner sends again: RC + 1
unfoldable pub directory_sent : Directory → DirectoryAct
directory_sent d = if ltb d.rc MOST then directory_done (directory (d.rc + 1) d.msg_ctr) else directory_torn d

-- a reference came home: MsgCtr - 1
unfoldable pub directory_came_home : Directory → DirectoryAct
directory_came_home d =
    if stays fits_directory_returns d.msg_ctr (fewer d.msg_ctr)
    then directory_done (directory d.rc (fewer d.msg_ctr))
    else directory_torn d

-- a decrement arrived: RC - n, MsgCtr + m
unfoldable pub directory_settled : Directory → ReturnCount → Weight → DirectoryAct
directory_settled d m n =
    if leb n.0 d.rc and fits_returns m and stays fits_directory_returns d.msg_ctr (both d.msg_ctr m)
    then directory_done (directory (d.rc - n.0) (both d.msg_ctr m))
    else directory_torn d

-- ---- the remote entry

abbrev remote_done : Remote → RemoteAct
remote_done e = record { refusal = ACCEPTED; entry = e }

abbrev remote_torn : Remote → RemoteAct
remote_torn e = record { refusal = TORN; entry = e }

-- the entry with other counts
abbrev pub with_counts : Remote → ℕ → ReturnCount → Remote
with_counts e n c = record { rc = n; parent = e.parent; presence = e.presence; msg_ctr = c; ref_weight = e.ref_weight }

-- the entry in use, with another weight
abbrev pub used_with : Remote → Weight → Remote
used_with e w = record { rc = e.rc; parent = e.parent; presence = true; msg_ctr = e.msg_ctr; ref_weight = w }

-- a first reference arrived: an entry is made, its Parent the sender
abbrev pub first_received : ℕ → Remote
first_received sender = record { rc = 0; parent = sender; presence = true; msg_ctr = none; ref_weight = weight 1 }

-- it is sent on to a node that isn't the owner: RC + 1
unfoldable pub remote_sent : Remote → RemoteAct
remote_sent e = if ltb e.rc MOST then remote_done (with_counts e (e.rc + 1) e.msg_ctr) else remote_torn e

-- it is sent home to the owner: MsgCtr + 1, RC as it was
unfoldable pub remote_sent_home : Remote → RemoteAct
remote_sent_home e =
    if stays fits_returns e.msg_ctr (more e.msg_ctr)
    then remote_done (with_counts e e.rc (more e.msg_ctr))
    else remote_torn e

-- a reference arrived again: Presence true; from the Parent, RefWeight + 1
unfoldable pub remote_received_again : Remote → ℕ → RemoteAct
remote_received_again e sender =
    if not (eqb e.parent sender) then remote_done (used_with e e.ref_weight)
    else if ltb e.ref_weight.0 MOST then remote_done (used_with e (weight (e.ref_weight.0 + 1)))
    else remote_torn e

-- a decrement arrived: RC - n, MsgCtr + m
unfoldable pub remote_settled : Remote → ReturnCount → Weight → RemoteAct
remote_settled e m n =
    if leb n.0 e.rc and fits_returns m and stays fits_returns e.msg_ctr (both e.msg_ctr m)
    then remote_done (with_counts e (e.rc - n.0) (both e.msg_ctr m))
    else remote_torn e

-- nothing at the node holds it any more: Presence false
abbrev pub remote_set_unused : Remote → Remote
remote_set_unused e = record { rc = e.rc; parent = e.parent; presence = false; msg_ctr = e.msg_ctr; ref_weight = e.ref_weight }

-- ---- the deletion condition

-- a directory may go when both numbers are 0
abbrev pub directory_may_go : Directory → Bool
directory_may_go d = is_clear_directory d

-- a remote entry may go when Presence is false and RC is 0
abbrev pub remote_may_go : Remote → Bool
remote_may_go e = not e.presence and eqb e.rc 0
