-- How long an image is: 116 bytes for a table with nothing in it, and no more than 11,508. Assumes nothing.
use Rattle.std.specs.Prelude.{◌≡◌, Bool, ℕ, zero, suc, ◌+◌, ◌≤◌, ◌<◌, eqb, length, if◌then◌else◌}
use Rattle.std.proofs.Math.Path.{refl}
use Rattle.std.proofs.Common.{ap, ◌∙◌, length-append}
use Rattle.std.proofs.Math.Bool.{true, false}
use mathlib.Core.List.{List, [], ◌∷◌, ◌++◌}
use native.Mathlib.Omega.{arith}
use Rattle.std.proofs.Math.Dec.{leb}
use borrow.Author.Tests.{leb-true, ne_eqb}
use Rattle.terms.specs.Counted.{every_from, sum_from, sum, gather_from, gather}
use Rattle.terms.proofs.CountedLaws.{every_at}
use Rattle.terms.specs.Limits.{NODES, OBJECTS, PLACES, owner}
use Rattle.entry.specs.declared.Entry.{Entry}
use Rattle.entry.specs.declared.Entry.TheVariants.{Absent, AtOwner, Elsewhere}
use Rattle.entry.specs.Fits.{fits_entry}
use Rattle.entry.specs.FitsLaws.{away}
use Rattle.heap.specs.Heap.{is_live, fields_of}
use Rattle.table.specs.declared.Message.{Message}
use Rattle.table.specs.declared.Message.TheVariants as m
use Rattle.table.specs.declared.Table.{Table}
use Rattle.table.specs.Shape.{fits_table}
use Rattle.table.specs.ShapeLaws.{Shaped, shaped}
use Rattle.table.specs.Table.{entry_at, message_at}
use Rattle.image.specs.declared.RecordKind.{RecordKind}
use Rattle.image.specs.declared.RecordKind.TheVariants.{Count, Live, NodeRoots, Directory, Remote, Reference, Decrement, End, Unknown}
use Rattle.image.proofs.ReadLaws.{bytes_append}
use Rattle.image.specs.Records.{Record, row, length_of}
use Rattle.image.specs.Writer.{object_record, roots_record, directory_record, remote_record, message_record, records_of, bytes_of_all, image}

-- the bytes of records
abbrev size : List Record → ℕ
size rs = length (bytes_of_all rs)

size_append : (rs qs : List Record) → size (rs ++ qs) ≡ size rs + size qs
size_append rs qs = ap length (bytes_append rs qs) ∙ length-append (bytes_of_all rs) (bytes_of_all qs)

-- gathered records are between the sums of their bounds
size_gather : (low high : ℕ → ℕ) (f : ℕ → List Record) (k n : ℕ)
    → ((i : ℕ) → i < k + n → (low i ≤ size (f i)) × (size (f i) ≤ high i))
    → (sum_from k n low ≤ size (gather_from k n f)) × (size (gather_from k n f) ≤ sum_from k n high)
unfolding gather_from sum_from bytes_of_all
size_gather low high f k zero h = (omega arith, omega arith)
size_gather low high f k (suc n) h =
    let rest = size_gather low high f (suc k) n (λ i lt. h i (omega arith)) in
    let first = h k (omega arith) in
    let both = size_append (f k) (gather_from (suc k) n f) in
    (omega (arith, both, first.0, rest.0), omega (arith, both, first.1, rest.1))

module _ (t : Table) (shape : Shaped t) where
  object_size : (b : Bool) (o : ℕ) → size (if b then row Live (o ∷ fields_of t.heap o) ∷ [] else []) ≤ 9
  unfolding bytes_of_all
  object_size true o = omega arith
  object_size false o = omega arith

  directory_size : (o : ℕ) (e : Entry) → size (directory_record o e) ≤ 13
  unfolding bytes_of_all
  directory_size o Absent = omega arith
  directory_size o (AtOwner d) = omega arith
  directory_size o (Elsewhere r) = omega arith

  -- none at the owner
  abbrev remote_most : ℕ → ℕ → ℕ
  remote_most p o = if eqb p (owner o) then 0 else 20

  remote_size : (p o : ℕ) (e : Entry) → fits_entry p o e ≡ true → size (remote_record p o e) ≤ remote_most p o
  unfolding bytes_of_all
  remote_size p o Absent fits = omega arith
  remote_size p o (AtOwner d) fits = omega arith
  remote_size p o (Elsewhere r) fits = rw (ne_eqb p (owner o) (away p o r fits).elsewhere) (omega arith)

  -- a node has entries of the 56 objects of others
  remotes_most : (p : ℕ) → p < NODES → sum OBJECTS (remote_most p) ≤ 1120
  unfolding every_from sum_from
  remotes_most p lt = leb-true (sum OBJECTS (remote_most p)) 1120 (every_at NODES (λ q. leb (sum OBJECTS (remote_most q)) 1120) refl p lt)

  message_size_lem : (s : ℕ) (held : Message) → size (message_record s held) ≤ 16
  unfolding bytes_of_all
  message_size_lem s m.Empty = omega arith
  message_size_lem s (m.Reference from to o) = omega arith
  message_size_lem s (m.Decrement from to o k n) = omega arith

  objects_size : size (gather OBJECTS (object_record t)) ≤ 576
  unfolding sum_from
  objects_size = (size_gather (λ o. 0) (λ o. 9) (object_record t) 0 OBJECTS (λ o lt. (omega arith, object_size (is_live t.heap o) o))).1

  roots_size : (104 ≤ size (gather NODES (roots_record t))) × (size (gather NODES (roots_record t)) ≤ 104)
  unfolding sum_from bytes_of_all
  roots_size = size_gather (λ p. 13) (λ p. 13) (roots_record t) 0 NODES (λ p lt. (omega arith, omega arith))

  directories_size : size (gather OBJECTS (λ o. directory_record o (entry_at t (owner o) o))) ≤ 832
  unfolding sum_from
  directories_size =
      (size_gather (λ o. 0) (λ o. 13) (λ o. directory_record o (entry_at t (owner o) o)) 0 OBJECTS
      (λ o lt. (omega arith, directory_size o (entry_at t (owner o) o)))).1

  remotes_size : size (gather NODES (λ p. gather OBJECTS (λ o. remote_record p o (entry_at t p o)))) ≤ 8960
  unfolding sum_from
  remotes_size =
      (size_gather (λ p. 0) (λ p. 1120) (λ p. gather OBJECTS (λ o. remote_record p o (entry_at t p o))) 0 NODES
      (λ p lp. (omega arith, node p (omega arith)))).1
    where
      node : (p : ℕ) → p < NODES → size (gather OBJECTS (λ o. remote_record p o (entry_at t p o))) ≤ 1120
      node p lp =
          let most = (size_gather (λ o. 0) (remote_most p) (λ o. remote_record p o (entry_at t p o)) 0 OBJECTS
          (λ o lo. (omega arith, remote_size p o (entry_at t p o) (shape.entries p o lp (omega arith))))).1 in
          omega (arith, most, remotes_most p lp)

  messages_size : size (gather PLACES (λ s. message_record s (message_at t s))) ≤ 1024
  unfolding sum_from
  messages_size =
      (size_gather (λ s. 0) (λ s. 16) (λ s. message_record s (message_at t s)) 0 PLACES
      (λ s lt. (omega arith, message_size_lem s (message_at t s)))).1

  count_size : size (row Count (t.count ∷ []) ∷ []) ≡ 8
  unfolding bytes_of_all
  count_size = refl

  end_size : size (row End [] ∷ []) ≡ 4
  unfolding bytes_of_all
  end_size = refl

  records_size : (116 ≤ size (records_of t)) × (size (records_of t) ≤ 11508)
  unfolding records_of
  records_size = whole
      (row Count (t.count ∷ []) ∷ []) (gather OBJECTS (object_record t)) (gather NODES (roots_record t))
      (gather OBJECTS (λ o. directory_record o (entry_at t (owner o) o))) (gather NODES (λ p. gather OBJECTS (λ o. remote_record p o (entry_at t p o))))
      (gather PLACES (λ s. message_record s (message_at t s))) (row End [] ∷ [])
      count_size objects_size roots_size directories_size remotes_size messages_size end_size
    where
      whole : (a b c d e f g : List Record) → size a ≡ 8 → size b ≤ 576 → (104 ≤ size c) × (size c ≤ 104)
          → size d ≤ 832 → size e ≤ 8960 → size f ≤ 1024 → size g ≡ 4
          → (116 ≤ size (a ++ b ++ c ++ d ++ e ++ f ++ g)) × (size (a ++ b ++ c ++ d ++ e ++ f ++ g) ≤ 11508)
      whole a b c d e f g ha hb hc hd he hf hg =
          let g1 = size_append (a ++ b ++ c ++ d ++ e ++ f) g in
          let f1 = size_append (a ++ b ++ c ++ d ++ e) f in
          let e1 = size_append (a ++ b ++ c ++ d) e in
          let d1 = size_append (a ++ b ++ c) d in
          let c1 = size_append (a ++ b) c in
          let b1 = size_append a b in
          (omega (arith, g1, f1, e1, d1, c1, b1, hc.0), omega (arith, g1, f1, e1, d1, c1, b1, hc.1))

-- the image of a table in shape has 116 to 11,508 bytes
pub image_size : (t : Table) → fits_table t ≡ true → (116 ≤ length (image t)) × (length (image t) ≤ 11508)
unfolding image
image_size t fits = records_size t (shaped t fits)

-- no payload is longer
pub payload_small : (k : RecordKind) → length_of k ≤ 16
payload_small Count = omega arith
payload_small Live = omega arith
payload_small NodeRoots = omega arith
payload_small Directory = omega arith
payload_small Remote = omega arith
payload_small Reference = omega arith
payload_small Decrement = omega arith
payload_small End = omega arith
payload_small Unknown = omega arith
