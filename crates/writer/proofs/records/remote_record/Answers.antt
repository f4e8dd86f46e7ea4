use Rattle.std.proofs.Common.{refl, ◌∙◌, rules}
use Rattle.image.specs.Writer.{bytes_of_all}
use Rattle.writer.proofs.OneByte.{byte, presence}
use Rattle.writer.proofs.records.remote_record.Goals as goal

pub returns : goal.returns
unfolding bytes_of_all
returns c =
    let remote = c.in-Elsewhere.remote in
    let p = byte c.args.p (search rules) in
    let o = byte c.args.o (search rules) in
    let parent = byte remote.parent (search rules) in
    c.number-2.ensures
    ∙ rw (c.returns.ensures, c.append-2.ensures, c.number.ensures, c.append.ensures, c.head-record.ensures, c.from.ensures)
    (rw (c.in-Elsewhere.is, p, o, parent, presence remote.presence) refl)
