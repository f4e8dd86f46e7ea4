-- An image that is accepted tells of the table that is read from it: all that the plans ask of the bytes is what that table has. Assumes nothing.
use Rattle.std.specs.Prelude.{◌≡◌, refl, Bool, true, false, List, ℕ, ltb, length}
use Rattle.std.proofs.Common.{sym, ◌∙◌, arith, le-ltb}
use Rattle.std.proofs.Math.Path.{ap}
use Rattle.terms.specs.Numbers.{ACCEPTED}
use Rattle.table.specs.Good.{good_formed, good_shape, good_shaped}
use Rattle.image.specs.declared.Held.TheVariants as h
use Rattle.image.specs.BytesLaws.{AreBytes}
use Rattle.image.specs.Find.{KEYED, front_place, offset, held_of, size_of, found_from}
use Rattle.image.specs.Reader.{read}
use Rattle.image.proofs.RoundTrip.{read_good, image-read}
use Rattle.image.specs.Spots.{count, spot_position}
use Rattle.splice.proofs.Accepted.{held-told, object_told, roots_told, entry_told, message_told, place_told, empty_told}
use Rattle.splice.proofs.Scan.{offset_short, offset_stops}
use Rattle.splice.proofs.Spread.{found_at}
use Rattle.plan.specs.Told.{Told}

-- no record stands before the first position
offset_first : (l : List ℕ) → offset 0 l ≡ 0
offset_first l = go (ltb (length l) KEYED) refl
  where
    go : (b : Bool) → ltb (length l) KEYED ≡ b → offset 0 l ≡ 0
    go true short = offset_short 0 l short
    go false long = offset_stops 0 l long (le-ltb (front_place l) 0 (omega arith))

module _ (l : List ℕ) (are : AreBytes l) (accepted : (read l).answer ≡ ACCEPTED) where
  -- the event count is 8 bytes
  count_size : offset 1 l ≡ 8
  unfolding found_from size_of
  count_size =
      let place = place_told l are accepted count tt in
      let here : (found_from 0 (spot_position count) l).held ≡ h.Count (read l).table.count =
      held-told l are accepted count tt ∙ ap held_of (found_at (read l).table count tt) in
      let size = ap size_of here in
      omega (arith, place.0, place.1, offset_first l)

  pub told : Told l (read l).table
  told =
      let good = read_good l are accepted in
      record {
        formed = good_formed good;
        fits = good_shape good;
        shape = good_shaped good;
        image = image-read l are accepted;
        objects = object_told l are accepted;
        roots = roots_told l are accepted;
        entries = entry_told l are accepted;
        messages = message_told l are accepted;
        empty = λ s lt. sym (empty_told l are accepted s lt);
        begins = λ s in'. (place_told l are accepted s in').0;
        ends = λ s in'. (place_told l are accepted s in').1;
        first = offset_first l;
        second = count_size;
      }
