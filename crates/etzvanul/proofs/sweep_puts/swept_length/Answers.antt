-- The length under way: at the start, and after the objects. The entries keep their length.
use Rattle.std.proofs.Common.{◌∙◌, sym, ◌+◌, rules, of_calls, length}
use Rattle.image.specs.Stored.{FULL}
use Rattle.plan.specs.Made.{accepted_sweep}
use Rattle.etzvanul.specs.SweptLength.{unused_all}
use Rattle.etzvanul.proofs.Sweeping.{object_measures, directory_measures, directories_left, entries_left, sweep_measured, sweep_length}
use Rattle.etzvanul.proofs.sweep_puts.swept_length.Goals as goal

pub length_changes-n-requires : goal.length_changes-n-requires
length_changes-n-requires c =
    let a = c.args in
    let s = accepted_sweep a.s.now in
    (a.l.now, _, _, length a.l.now, _, FULL, directories_left a.l.now a.s.now.node s 0, object_measures c.requires.resumes (sweep_measured a.l.now a.s.now.node s c.requires.orderly) (λ from k lt scan. search rules) (λ from k x lt scan post. search (rules, of_calls)))

pub length_changes-n-requires-2 : goal.length_changes-n-requires-2
length_changes-n-requires-2 c =
    let a = c.args in
    let s = accepted_sweep a.s.now in
    let objects = c.length_changes-n.ensures a.l.now _ _ (length a.l.now) _ FULL (directories_left a.l.now a.s.now.node s 0) (object_measures c.requires.resumes (sweep_measured a.l.now a.s.now.node s c.requires.orderly) (λ from k lt scan. search rules) (λ from k x lt scan post. search (rules, of_calls))) in
    (a.l.now, _, _, length a.l.now, _, FULL + 160, entries_left a.l.now a.s.now.node s 0, directory_measures c.requires.resumes objects (λ from k lt scan. search rules) (λ from k x lt scan post. search (rules, of_calls)))

pub returns : goal.returns
returns c =
    let a = c.args in
    let s = accepted_sweep a.s.now in
    let objects = c.length_changes-n.ensures a.l.now _ _ (length a.l.now) _ FULL (directories_left a.l.now a.s.now.node s 0) (object_measures c.requires.resumes (sweep_measured a.l.now a.s.now.node s c.requires.orderly) (λ from k lt scan. search rules) (λ from k x lt scan post. search (rules, of_calls))) in
    let directories = c.length_changes-n-2.ensures a.l.now _ _ (length a.l.now) _ (FULL + 160) (entries_left a.l.now a.s.now.node s 0) (directory_measures c.requires.resumes objects (λ from k lt scan. search rules) (λ from k x lt scan post. search (rules, of_calls))) in
    λ count. sym (unused_all c.requires.resumes c.length_changes-n-2.result.0) ∙ directories.0.left
    ∙ sweep_length a.l.now a.s.now.node s c.requires.orderly count
