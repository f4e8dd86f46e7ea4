use Rattle.std.proofs.Common.{sym, ◌∙◌, arith}
use Rattle.std.proofs.lemmas.List.{take_rest}
use Rattle.run.proofs.Telling.{ahead_all, ahead_more, found_whole, full, stopped, Untaken}
use Rattle.run.proofs.tell.Goals as goal
use Rattle.run.proofs.tell.Goals.{else-loop-number-test, then-loop-number-test+in_default}

pub loop-number-init : goal.loop-number-init
loop-number-init c = rw c.beginning-p.ensures (ahead_all c.args.input.now c.args.text.now c.requires.empty)

pub slice_bounds-rest-count : goal.slice_bounds-rest-count
slice_bounds-rest-count c = let whole = found_whole c.loop-number.rest.now c.in-Found.e (sym c.next_in.ensures ∙ c.in-Found.is) in omega arith

pub slice_bounds-rest-start : goal.slice_bounds-rest-start
slice_bounds-rest-start c = let whole = found_whole c.loop-number.rest.now c.in-Found.e (sym c.next_in.ensures ∙ c.in-Found.is) in omega arith

pub loop-number-preserved : goal.loop-number-preserved
loop-number-preserved c =
    let found = sym c.next_in.ensures ∙ c.in-Found.is in
    let written = rw c.take-outcome.ensures.deed at (c.put_line.ensures.wrote c.take-outcome.new.self.table) in
    let more = ahead_more c.loop-number.invariant _ (omega arith) found written c.put_line.ensures.short in
    rw (c.take-outcome.ensures.after, take_rest) more

pub returns : goal.returns
returns c =
    let a = c.loop-number.invariant in
    let front = c.next_in-2.ensures in
    let end = c.finish.ensures.ended in
    elim c.loop-number-test.branch [
      | else-loop-number-test w ↦ let s = full a front c.finish.result end (omega arith) in record { same_reference = cc; value = s.0; wrote = s.1 }
      | then-loop-number-test+in_default w ↦
          let untaken : Untaken c.next_in-2.result = λ e q. w.in_default.not-Found e (w.next_in.ensures ∙ sym front ∙ q) in
          let s = stopped a front c.finish.result end (omega arith) untaken in
          record { same_reference = cc; value = s.0; wrote = s.1 }
    ]
