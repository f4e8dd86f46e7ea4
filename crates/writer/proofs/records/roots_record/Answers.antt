use Rattle.std.proofs.Common.{rules, sym, ◌∙◌}
use Rattle.writer.proofs.OneByte.{node_bytes}
use Rattle.writer.proofs.records.roots_record.Goals as goal

pub returns : goal.returns
returns c =
    c.append-2.ensures
    ∙ rw (c.append.ensures, c.head-record.ensures) (sym (node_bytes c.args.p c.args.roots (search rules) (search rules) (λ k. search rules)))
