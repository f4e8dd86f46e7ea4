use Rattle.std.proofs.Common.{refl, arith}
use Rattle.std.proofs.Math.ListN.{length-set}
use Rattle.std.proofs.lemmas.List.{take_all}
use Rattle.terms.proofs.BufferLaws.{sets_more}
use Rattle.etzvanul.proofs.puts.copy_part.Goals as goal

pub loop-i-preserved : goal.loop-i-preserved
loop-i-preserved c =
    let a = c.args in
    let i = c.loop-i.i in
    record {
      keeps_length = simp length-set c.loop-i.invariant.keeps_length;
      stands = rw c.loop-i.invariant.stands (sets_more a.out.now a.to a.part.now i (omega arith));
    }

pub returns : goal.returns
returns c =
    let part = c.args.part.now in
    record { place = refl; stands = rw (take_all c.loop-i.i part (omega arith)) at c.loop-i.invariant.stands }
