-- A record that the reader takes leaves a table that is formed and in shape formed and in shape. Assumes nothing.
use Rattle.std.specs.Prelude.{◌≡◌, refl, true, List, ℕ, suc, ◌<◌, length, take, drop}
use Rattle.std.proofs.Common.{sym, arith, length-drop, length-take-le}
use Rattle.std.proofs.lemmas.Bool.{false≢true}
use Rattle.terms.specs.Limits.{NODES, OBJECTS, PLACES, FIELDS, ROOTS, owner}
use Rattle.entry.specs.declared.Entry.{Entry}
use Rattle.entry.specs.Fits.{fits_entry}
use Rattle.heap.specs.declared.Heap.{Heap}
use Rattle.table.specs.declared.Message.{Message}
use Rattle.table.specs.declared.Table.{Table}
use Rattle.table.specs.Good.{Good, GoodHeap, air_set, entry_set, object_set, roots-set}
use Rattle.table.specs.Shape.{fits_message}
use Rattle.table.specs.Table.{with_entry, with_heap, with_message}
use Rattle.image.specs.declared.RecordKind.{RecordKind}
use Rattle.image.specs.declared.RecordKind.TheVariants.{Count, Live, NodeRoots, Directory, Remote, Reference, Decrement, End, Unknown}
use Rattle.image.proofs.BytesLaws.{Fit}
use Rattle.image.specs.Content.{number, live_object, roots_of_node, directory_entry, remote_entry, reference_message, decrement_message}
use Rattle.image.specs.Content.{fits_record, with_record}
use Rattle.image.specs.Records.{widths_of}
use Rattle.image.proofs.Takes.{Takes, below, fit_length, remote_tests}

-- the part of a payload after its first number
tail_length : (k : RecordKind) (ns : List ℕ) (n : ℕ) → Fit (widths_of k) ns → length (widths_of k) ≡ suc n → length (take n (drop 1 ns)) ≡ n
tail_length k ns n fit len = length-take-le n (drop 1 ns) (omega (arith, length-drop 1 ns, fit_length (widths_of k) ns fit))

module _ (t : Table) (good : Good t) where
  -- with another heap
  heap_kept : {h : Heap} → GoodHeap h → Good (with_heap t h)
  heap_kept heap = record { count = good.count; heap = heap; cells = good.cells; air = good.air }

  -- with one entry more
  entry_kept : (p o : ℕ) (e : Entry) → o < OBJECTS → fits_entry p o e ≡ true → Good (with_entry t p o e)
  entry_kept p o e object fits = record {
    count = good.count;
    heap = good.heap;
    cells = entry_set p o e good.cells object fits;
    air = good.air;
  }

  -- with one message more
  message_kept : (s : ℕ) (held : Message) → fits_message held ≡ true → Good (with_message t s held)
  message_kept s held fits = record { count = good.count; heap = good.heap; cells = good.cells; air = air_set s held good.air fits }

  pub keeps : (k : RecordKind) (ns : List ℕ) → Takes k ns → Good (with_record t k ns)
  unfolding with_record fits_record
  keeps Count ns takes = record { count = takes.allowed; heap = good.heap; cells = good.cells; air = good.air }
  keeps Live ns takes = heap_kept (object_set (number ns 0) (live_object ns) good.heap (record {
    size = tail_length Live ns FIELDS takes.fit refl;
    fits = (below (number ns 0) OBJECTS _ takes.allowed).1;
  }))
  keeps NodeRoots ns takes = heap_kept (roots-set (number ns 0) (roots_of_node ns) good.heap (record {
    size = tail_length NodeRoots ns ROOTS takes.fit refl;
    fits = (below (number ns 0) NODES _ takes.allowed).1;
  }))
  keeps Directory ns takes =
      let tests = below (number ns 0) OBJECTS _ takes.allowed in
      entry_kept (owner (number ns 0)) (number ns 0) (directory_entry ns) tests.0 tests.1
  keeps Remote ns takes =
      let tests = remote_tests ns takes.allowed in
      entry_kept (number ns 0) (number ns 1) (remote_entry ns) tests.object tests.entry
  keeps Reference ns takes = message_kept (number ns 0) (reference_message ns) (below (number ns 0) PLACES _ takes.allowed).1
  keeps Decrement ns takes = message_kept (number ns 0) (decrement_message ns) (below (number ns 0) PLACES _ takes.allowed).1
  keeps End ns takes = absurd (false≢true (sym takes.onward))
  keeps Unknown ns takes = absurd (false≢true (sym takes.known))
