use Rattle.std.specs.Prelude.{◌≡◌, refl, List, ◌++◌, ℕ, ◌*◌}
use Rattle.std.proofs.Common.{arith}
use Rattle.terms.specs.Counted.{gather}
use Rattle.terms.specs.Limits.{OBJECTS}
use Rattle.table.specs.declared.Cell.{Cell}
use Rattle.image.specs.Records.{Record}
use Rattle.image.specs.Writer.{bytes_of_all}
use Rattle.image.specs.Stored.{DIRECTORY_BYTES, REMOTE_BYTES, directory_of, remote_of}
use Rattle.writer.proofs.Behind.{begun, onward, one_more, all, appended_both}
use Rattle.writer.proofs.Sizes.{directory_size, remote_size}
use Rattle.writer.proofs.sections.append_entries.Goals as goal

abbrev nodes : List Cell → ℕ → List Record
nodes cells p = gather OBJECTS (remote_of cells p)

pub loop-o-init : goal.loop-o-init
loop-o-init c = begun DIRECTORY_BYTES (directory_of c.args.t.now.cells)

pub loop-o-preserved : goal.loop-o-preserved
loop-o-preserved c =
    let cells = c.args.t.now.cells in
    let o = c.loop-o.o in
    let made = rw c.entry_at-entry.ensures at c.directory_record.ensures in
    one_more DIRECTORY_BYTES (directory_of cells) o c.loop-o.invariant
    c.append_record.ensures made (directory_size cells o)

pub loop-p-init : goal.loop-p-init
loop-p-init c = begun (REMOTE_BYTES * OBJECTS) (nodes c.args.t.now.cells)

pub loop-o-2-init : goal.loop-o-2-init
loop-o-2-init c = begun REMOTE_BYTES (remote_of c.args.t.now.cells c.loop-p.p)

pub loop-o-2-preserved : goal.loop-o-2-preserved
loop-o-2-preserved c =
    let cells = c.args.t.now.cells in
    let p = c.loop-p.p in
    let o = c.loop-o-2.o in
    let made : c.append_remote.new.image ≡ c.loop-o-2.image ++ bytes_of_all (remote_of cells p o) = rw c.entry_at.ensures at c.append_remote.ensures in
    one_more REMOTE_BYTES (remote_of cells p) o c.loop-o-2.invariant made refl (remote_size cells p o)

pub loop-p-preserved : goal.loop-p-preserved
loop-p-preserved c =
    let f = remote_of c.args.t.now.cells c.loop-p.p in
    onward (REMOTE_BYTES * OBJECTS) (nodes c.args.t.now.cells) c.loop-p.p c.loop-p.invariant
    (all REMOTE_BYTES f c.loop-o-2.o OBJECTS (omega arith) c.loop-o-2.invariant)

pub returns : goal.returns
returns c =
    let cells = c.args.t.now.cells in
    appended_both
    (all DIRECTORY_BYTES (directory_of cells) c.loop-o.o 64 (omega arith) c.loop-o.invariant)
    (all (REMOTE_BYTES * OBJECTS) (nodes cells) c.loop-p.p 8 (omega arith) c.loop-p.invariant)
