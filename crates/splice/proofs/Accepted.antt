-- What a scan over an accepted image tells of the table that it is the image of: all that a call needs which never makes the table
-- (document 01, "Saved image"). Assumes nothing.
use Rattle.std.specs.Prelude.{◌≡◌, true}
use Rattle.std.proofs.Math.Path.{sym, ap, subst}
use Rattle.std.proofs.Common.{◌∙◌, eq-eqb, ne_eqb}
use mathlib.Core.List.{List}
use Prim.Native.Nat.{ℕ, suc, ◌+◌, ◌<◌}
use native.Mathlib.Omega.{arith}
use Rattle.std.proofs.Math.Dec.{eqb}
use Rattle.std.proofs.Math.ListN.{length}
use Rattle.terms.specs.Limits.{NODES, OBJECTS, PLACES}
use Rattle.terms.specs.Numbers.{ACCEPTED}
use Rattle.heap.specs.Heap.{object_at, roots_at}
use Rattle.table.specs.declared.Message.{Message}
use Rattle.table.specs.declared.Message.TheVariants as m
use Rattle.table.specs.declared.Table.{Table}
use Rattle.table.specs.Formed.{Formed}
use Rattle.table.specs.Good.{Good, good_formed, good_shape, good_shaped}
use Rattle.table.specs.Shape.{fits_table}
use Rattle.table.specs.ShapeLaws.{Shaped}
use Rattle.table.specs.Table.{entry_at, is_empty, message_at}
use Rattle.image.specs.BytesLaws.{AreBytes}
use Rattle.image.specs.Find.{offset, seen, held_of, size_of, found_from, count_in, object_in, roots_in, entry_in, message_in}
use Rattle.image.specs.Reader.{read}
use Rattle.image.proofs.RoundTrip.{read_good, image-read}
use Rattle.image.specs.Spots.{Spot, count, object, roots, message, spot_position}
use Rattle.image.specs.Writer.{message_record, records_of, bytes_of_all, image}
use Rattle.splice.specs.Changed.{entry_spot}
use Rattle.splice.proofs.Changed.{entry_within}
use Rattle.splice.proofs.Lookup.{told, count_found, object_found, roots_found, entry_found, message_found, size_found}
use Rattle.splice.specs.Parts.{found}
use Rattle.splice.proofs.Seen.{seen-found, offset_after}
use Rattle.splice.specs.Spread.{Within}
use Rattle.splice.proofs.Spread.{found_at}

module _ (l : List ℕ) (are : AreBytes l) (accepted : (read l).answer ≡ ACCEPTED) where
  -- the table
  abbrev t : Table
  t = (read l).table

  good : Good t
  good = read_good l are accepted

  formed : Formed t
  formed = good_formed good

  fits : fits_table t ≡ true
  fits = good_shape good

  shape : Shaped t
  shape = good_shaped good

  same : image t ≡ l
  same = image-read l are accepted

  -- ---- what it holds

  accepted_seen : (s : Spot) → Within s → seen (spot_position s) l ≡ found (spot_position s) (records_of t)
  accepted_seen s in' = ap (seen (spot_position s)) (sym same) ∙ seen-found t formed fits s in'

  -- a scan from the front is told what the table tells
  pub held-told : (s : Spot) → Within s → (found_from 0 (spot_position s) l).held ≡ told (spot_position s) t
  unfolding found_from
  held-told s in' = ap held_of (accepted_seen s in')

  pub count_told : count_in (found_from 0 (spot_position count) l).held ≡ t.count
  count_told = ap count_in (held-told count tt) ∙ count_found t

  pub object_told : (o : ℕ) → o < OBJECTS → object_in (found_from 0 (spot_position (object o)) l).held ≡ object_at t.heap o
  object_told o lt = ap object_in (held-told (object o) lt) ∙ object_found t formed shape o lt

  pub roots_told : (p : ℕ) → p < NODES → roots_in (found_from 0 (spot_position (roots p)) l).held ≡ roots_at t.heap p
  roots_told p lt = ap roots_in (held-told (roots p) lt) ∙ roots_found t formed shape p lt

  pub entry_told : (p o : ℕ) → p < NODES → o < OBJECTS → entry_in (found_from 0 (spot_position (entry_spot p o)) l).held ≡ entry_at t p o
  entry_told p o lp lo = ap entry_in (held-told (entry_spot p o) (entry_within p o lp lo)) ∙ entry_found t shape p o lp lo

  pub message_told : (s : ℕ) → s < PLACES → message_in (found_from 0 (spot_position (message s)) l).held ≡ message_at t s
  message_told s lt = ap message_in (held-told (message s) lt) ∙ message_found t formed shape s lt

  -- ---- where it stands

  -- from where the scan stops to where the next position begins
  pub place_told : (s : Spot) → Within s → ((found_from 0 (spot_position s) l).at ≡ offset (spot_position s) l)
      × ((found_from 0 (spot_position s) l).after ≡ offset (suc (spot_position s)) l)
  unfolding found_from
  place_told s in' =
      let n : ℕ = spot_position s in
      let next =
      subst (λ (x : List ℕ). offset (suc n) x ≡ offset n x + length (bytes_of_all (seen n x))) same (offset_after t formed fits s in') in
      let size : size_of (held_of (seen n l)) ≡ length (bytes_of_all (seen n l)) = rw (accepted_seen s in') (size_found t s in') in
      (omega arith, omega arith)

  -- a place in the air is empty where nothing lies between
  pub empty_told : (s : ℕ) → s < PLACES
      → is_empty (message_at t s) ≡ eqb (found_from 0 (spot_position (message s)) l).at (found_from 0 (spot_position (message s)) l).after
  unfolding found_from size_of
  empty_told s lt = rw (accepted_seen (message s) lt ∙ found_at t (message s) lt) (go (0 + offset (spot_position (message s)) l) (message_at t s))
    where
      go : (n : ℕ) (x : Message) → is_empty x ≡ eqb n (n + size_of (held_of (message_record s x)))
      go n m.Empty = sym (eq-eqb n (n + 0) (omega arith))
      go n (m.Reference from to o) = sym (ne_eqb n (n + 8) (λ e. omega arith))
      go n (m.Decrement from to o k w) = sym (ne_eqb n (n + 16) (λ e. omega arith))
