-- The copying under way: after the event count, after the objects, after the directories and after the entries.
use Rattle.std.proofs.Common.{[], ◌∙◌, zero-add, rules, of_calls}
use Rattle.std.proofs.lemmas.List.Edits.{sets}
use Rattle.terms.proofs.BufferLaws.{sets_front}
use Rattle.plan.specs.Made.{accepted_sweep}
use Rattle.etzvanul.specs.Spliced.{swept_image}
use Rattle.etzvanul.specs.Going.{Going, ready, rest_room, ended}
use Rattle.etzvanul.proofs.Sweeping.{sweep_start, sweep_counted, object_puts, directory_puts, entry_puts}
use Rattle.etzvanul.proofs.sweep_puts.put_sweep.Goals as goal
use Rattle.etzvanul.proofs.sweep_puts.put_sweep.Goals.{After-put_changes-c}

pub put_count-first-requires : goal.put_count-first-requires
put_count-first-requires c =
    let a = c.args in
    let r = ready (sweep_start a.count a.l.now a.s.now.node (accepted_sweep a.s.now) a.out.now c.requires.orderly) in
    (r.0, rw zero-add at r.1)

pub put_changes-a-requires : goal.put_changes-a-requires
put_changes-a-requires c =
    let a = c.args in
    let s = accepted_sweep a.s.now in
    let at = sweep_counted a.count a.l.now a.s.now.node s a.out.now c.requires.orderly c.requires.resumes c.put_count-first.ensures in
    (_, _, _, _, object_puts c.requires.resumes at (λ from k lt scan. search rules) (λ from k x lt scan post. search (rules, of_calls)))

pub put_changes-b-requires : goal.put_changes-b-requires
put_changes-b-requires c =
    let a = c.args in
    let s = accepted_sweep a.s.now in
    let at = sweep_counted a.count a.l.now a.s.now.node s a.out.now c.requires.orderly c.requires.resumes c.put_count-first.ensures in
    let objects = c.put_changes-a.ensures _ _ _ _ (object_puts c.requires.resumes at (λ from k lt scan. search rules) (λ from k x lt scan post. search (rules, of_calls))) in
    (_, _, _, _, directory_puts c.requires.resumes objects (λ from k lt scan. search rules) (λ from k x lt scan post. search (rules, of_calls)))

pub put_changes-c-requires : goal.put_changes-c-requires
put_changes-c-requires c =
    let a = c.args in
    let s = accepted_sweep a.s.now in
    let at = sweep_counted a.count a.l.now a.s.now.node s a.out.now c.requires.orderly c.requires.resumes c.put_count-first.ensures in
    let objects = c.put_changes-a.ensures _ _ _ _ (object_puts c.requires.resumes at (λ from k lt scan. search rules) (λ from k x lt scan post. search (rules, of_calls))) in
    let directories = c.put_changes-b.ensures _ _ _ _ (directory_puts c.requires.resumes objects (λ from k lt scan. search rules) (λ from k x lt scan post. search (rules, of_calls))) in
    (_, _, _, _, entry_puts c.requires.resumes directories (λ from o lt scan. search rules) (λ from o x lt scan post. search (rules, of_calls)))

-- all changes stand
entries : (c : After-put_changes-c)
    → Going (sets c.args.out.now 0 (swept_image c.args.count c.args.l.now c.args.s.now.node (accepted_sweep c.args.s.now))) c.args.l.now []
    c.put_changes-c.result.from c.put_changes-c.result.to c.put_changes-c.new.out
entries c =
    let a = c.args in
    let s = accepted_sweep a.s.now in
    let at = sweep_counted a.count a.l.now a.s.now.node s a.out.now c.requires.orderly c.requires.resumes c.put_count-first.ensures in
    let objects = c.put_changes-a.ensures _ _ _ _ (object_puts c.requires.resumes at (λ from k lt scan. search rules) (λ from k x lt scan post. search (rules, of_calls))) in
    let directories = c.put_changes-b.ensures _ _ _ _ (directory_puts c.requires.resumes objects (λ from k lt scan. search rules) (λ from k x lt scan post. search (rules, of_calls))) in
    (c.put_changes-c.ensures _ _ _ _ (entry_puts c.requires.resumes directories (λ from o lt scan. search rules) (λ from o x lt scan post. search (rules, of_calls)))).0

pub slice_bounds-copy_part-count : goal.slice_bounds-copy_part-count
slice_bounds-copy_part-count c = (entries (goal.at.slice_bounds-copy_part-count c).After-put_changes-c).orderly

pub slice_bounds-copy_part-start : goal.slice_bounds-copy_part-start
slice_bounds-copy_part-start c =
    let within = (entries (goal.at.slice_bounds-copy_part-start c).After-put_changes-c).orderly in
    search rules

pub copy_part-requires : goal.copy_part-requires
copy_part-requires c = rest_room (entries (goal.at.copy_part-requires c).After-put_changes-c)

pub returns : goal.returns
returns c =
    let a = c.args in
    c.copy_part.ensures.stands ∙ ended (entries (goal.at.returns c).After-put_changes-c)
    ∙ sets_front a.out.now (swept_image a.count a.l.now a.s.now.node (accepted_sweep a.s.now)) c.requires.orderly.1
