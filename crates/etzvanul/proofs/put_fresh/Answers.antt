use Rattle.std.proofs.Common.{◌∙◌}
use Rattle.terms.proofs.BufferLaws.{sets_front}
use Rattle.etzvanul.proofs.Fresh.{fresh_bytes, fresh_short, fresh_room}
use Rattle.etzvanul.proofs.put_fresh.Goals as goal

pub returns-then-out-lt116 : goal.returns-then-out-lt116
returns-then-out-lt116 c =
    let back = fresh_short c.args.out.now c.if-out-lt116.true in
    record { number = back.0; bytes = back.1 }

pub returns : goal.returns
returns c =
    let out = c.args.out.now in
    let back = fresh_room out c.if-out-lt116.false in
    record { number = back.0; bytes = c.copy_part.ensures.stands ∙ sets_front out fresh_bytes c.if-out-lt116.false ∙ back.1 }
