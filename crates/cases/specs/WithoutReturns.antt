-- Document 01's rules without the return count: a directory is asked for its RC alone where DROP deletes it and where COLLECT starts. Everything
-- else is the definitions of step. These are the rules of a controller that saves the four bytes of MsgCtr; specs/FourBytes.antt shows what they
-- cost. Assumes nothing.
use Rattle.std.specs.Prelude.{◌≡◌, refl, Bool, true, false, not, ℕ, eqb, ltb, if◌then◌else◌}
use Rattle.terms.specs.Choose.{◌and◌, answered}
use Rattle.terms.specs.Counted.{list_from, gather_from}
use Rattle.entry.specs.declared.Directory.{Directory}
use Rattle.entry.specs.declared.Remote.{Remote}
use Rattle.entry.specs.declared.Entry.{Entry}
use Rattle.entry.specs.declared.Entry.TheVariants.{Absent, AtOwner, Elsewhere}
use Rattle.entry.specs.Acts.{directory}
use Rattle.entry.specs.AtNode.{may_go}
use Rattle.entry.specs.Entry.{is_clear, none, rc_of}
use Rattle.heap.specs.Walk.{pointed}
use Rattle.table.specs.declared.Table.{Table}
use Rattle.table.specs.Table.{entry_at}
use Rattle.step.specs.declared.Event.{Event}
use Rattle.step.specs.Outcome.{Outcome}
use Rattle.step.specs.Collect.{collect, counted}
use Rattle.step.specs.Drop.{drop_of}
use Rattle.step.specs.Event.{COLLECT, DROP}
use Rattle.step.specs.Outcome.{Rule, by, refused}
use Rattle.step.specs.Step.{common, one_more, rule_of, step}
use Rattle.cases.specs.Errors.{collect_starting}

-- ---- what differs

-- a directory as one sees it who looks at RC alone
abbrev pub rc_alone : Entry → Entry
rc_alone Absent = Absent
rc_alone (AtOwner d) = AtOwner (directory d.rc none)
rc_alone (Elsewhere e) = Elsewhere e

-- DROP, deleting a directory on RC 0 alone
abbrev pub drop_on_rc : Table → ℕ → ℕ → Rule
drop_on_rc t p o = drop_of t p o (rc_alone (entry_at t p o))

-- COLLECT, starting from a directory for RC above 0 alone
abbrev pub collect_on_rc : Table → ℕ → Rule
collect_on_rc t p = collect_starting (λ e. ltb 0 (rc_of e)) t p

-- the rule of each kind; but for these two it is document 01's
abbrev pub rule_on_rc : Table → Event → Rule
rule_on_rc t e =
    if eqb e.kind COLLECT then collect_on_rc t e.a
    else if eqb e.kind DROP then drop_on_rc t e.a e.b
    else rule_of t e

-- one step by these rules
unfoldable pub step_on_rc : Table → Event → Outcome
step_on_rc t e = answered (refused t) (common t e) (one_more t.count (by t (rule_on_rc t e)))

-- ---- and nothing else does

-- any other kind of event: the same step
pub others_alike : (t : Table) (e : Event) → eqb e.kind COLLECT ≡ false → eqb e.kind DROP ≡ false → step_on_rc t e ≡ step t e
unfolding step step_on_rc
others_alike t e not_collect not_drop = rw (not_collect, not_drop)

-- DROP: the same deletion condition of a remote entry; of a directory, RC 0
pub remote_alike : (e : Remote) → may_go (rc_alone (Elsewhere e)) ≡ may_go (Elsewhere e)
remote_alike e = refl

pub directory_on_rc : (d : Directory) → may_go (rc_alone (AtOwner d)) ≡ eqb d.rc 0
unfolding may_go
directory_on_rc d = go (eqb d.rc 0)
  where
    go : (b : Bool) → (b and true) ≡ b
    go true = refl
    go false = refl

-- COLLECT: started from every directory that isn't clear, it is document 01's
pub start_alike : (t : Table) (p : ℕ) → collect_starting (λ e. not (is_clear e)) t p ≡ collect t p
unfolding counted pointed list_from gather_from
start_alike t p = refl
