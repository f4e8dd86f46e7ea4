-- What each event but COLLECT changes (document 01, "Events"): at most four records, of the count, an object or a node's roots, an entry
-- and a place in the air. Assumes nothing.
use Rattle.std.specs.Prelude.{refl, [], ◌∷◌, ℕ, ◌≤◌, ◌<◌}
use Rattle.std.proofs.Common.{◌∙◌, arith}
use Rattle.terms.specs.Limits.{NODES, OBJECTS, PLACES}
use Rattle.entry.specs.declared.Entry.{Entry}
use Rattle.heap.specs.declared.Object.{Object}
use Rattle.heap.specs.declared.Roots.{Roots}
use Rattle.heap.specs.Heap.{with_object, with_root}
use Rattle.table.specs.declared.Message.{Message}
use Rattle.table.specs.declared.Table.{Table}
use Rattle.table.specs.Formed.{Formed}
use Rattle.table.specs.Table.{entry_at, with_count, with_entry, with_heap, with_message}
use Rattle.image.proofs.OneSpot.{count_only, object_only, object_here, roots_only, roots_here, message_only, message_here}
use Rattle.image.specs.Spots.{directory, message, spot_position}
use Rattle.splice.specs.Changed.{roots_with, entry_spot}
use Rattle.splice.proofs.Changed.{Proper, entry_within, entry_between, entry_here, entry_only}
use Rattle.splice.specs.Patched.{Differs}
use Rattle.splice.specs.Events.{count_to, object_to, roots_to, entry_to, message_to}

-- ---- objects and roots

module _ (t : Table) (formed : Formed t) (n : ℕ) where
  -- MOVE, CLEAR, LOAD: a root
  pub root_differs : (p r x : ℕ) → p < NODES
      → Differs (count_to n ∷ roots_to p (roots_with t p r x) ∷ []) t (with_count (with_heap t (with_root t.heap p r x)) n)
  root_differs p r x lp = record {
    ascends = (omega arith, (tt, (omega arith, (lp, tt))));
    stands = (refl, (roots_here t p (roots_with t p r x) formed.nodes lp, tt));
    same = λ y out. count_only (with_heap t (with_root t.heap p r x)) n y out.0 ∙ roots_only t p (roots_with t p r x) y out.1.0;
  }

  -- STORE: an object, one field of it
  pub object_differs : (o : ℕ) (x : Object) → o < OBJECTS
      → Differs (count_to n ∷ object_to o x ∷ []) t (with_count (with_heap t (with_object t.heap o x)) n)
  object_differs o x lo = record {
    ascends = (omega arith, (tt, (omega arith, (lo, tt))));
    stands = (refl, (object_here t o x formed.objects lo, tt));
    same = λ y out. count_only (with_heap t (with_object t.heap o x)) n y out.0 ∙ object_only t o x y out.1.0;
  }

  -- NEW: an object, and a root that names it
  pub both_differ : (p r o : ℕ) (x : Object) → p < NODES → o < OBJECTS
      → Differs (count_to n ∷ object_to o x ∷ roots_to p (roots_with t p r o) ∷ []) t
      (with_count (with_heap t (with_root (with_object t.heap o x) p r o)) n)
  both_differ p r o x lp lo = record {
    ascends = (omega arith, (tt, (omega arith, (lo, (omega arith, (lp, tt))))));
    stands = (refl, (object_here t o x formed.objects lo, (roots_here (with_heap t (with_object t.heap o x)) p rooted formed.nodes lp, tt)));
    same = λ y out.
        count_only (with_heap t (with_root (with_object t.heap o x) p r o)) n y out.0
        ∙ roots_only (with_heap t (with_object t.heap o x)) p rooted y out.1.1.0
        ∙ object_only t o x y out.1.0;
  }
    where
      rooted : Roots
      rooted = roots_with t p r o

-- ---- entries and messages

module _ (t : Table) (formed : Formed t) (n p o : ℕ) (lp : p < NODES) (lo : o < OBJECTS) (e : Entry)
    (was : Proper p o (entry_at t p o)) (is : Proper p o e) where
  place : (spot_position (directory 0) ≤ spot_position (entry_spot p o)) × (spot_position (entry_spot p o) < spot_position (message 0))
  place = entry_between p o lp lo

  -- DROP of a directory: an entry
  pub entry_differs : Differs (count_to n ∷ entry_to p o e ∷ []) t (with_count (with_entry t p o e) n)
  entry_differs = record {
    ascends = (omega arith, (tt, (omega (arith, place.0), (entry_within p o lp lo, tt))));
    stands = (refl, (count_only (with_entry t p o e) n (entry_spot p o) (λ q. absurd (omega (arith, place.0))) ∙ entry_here t formed p o lp lo e, tt));
    same = λ y out. count_only (with_entry t p o e) n y out.0 ∙ entry_only t formed p o lp lo e was is y out.1.0;
  }

  module _ (s : ℕ) (ls : s < PLACES) (x : Message) where
    -- SEND, SETTLE, DROP of a remote entry: an entry and a place in the air
    pub message_differs : Differs (count_to n ∷ entry_to p o e ∷ message_to s x ∷ []) t (with_count (with_message (with_entry t p o e) s x) n)
    message_differs = record {
      ascends = (omega arith, (tt, (omega (arith, place.0), (entry_within p o lp lo, (omega (arith, place.1), (ls, tt))))));
      stands = (
        refl,
        (
          count_only (with_message (with_entry t p o e) s x) n (entry_spot p o) (λ q. absurd (omega (arith, place.0)))
              ∙ message_only (with_entry t p o e) s x (entry_spot p o) (λ q. absurd (omega (arith, place.1)))
              ∙ entry_here t formed p o lp lo e,
          (message_here (with_entry t p o e) s x formed.places ls, tt),
        ),
      );
      same = λ y out.
          count_only (with_message (with_entry t p o e) s x) n y out.0
          ∙ message_only (with_entry t p o e) s x y out.1.1.0
          ∙ entry_only t formed p o lp lo e was is y out.1.0;
    }

    -- RECEIVE: a root too
    pub receive_differs : (r : ℕ) → Differs (count_to n ∷ roots_to p (roots_with t p r o) ∷ entry_to p o e ∷ message_to s x ∷ []) t
        (with_count (with_heap (with_message (with_entry t p o e) s x) (with_root t.heap p r o)) n)
    receive_differs r = record {
      ascends = (omega arith, (tt, (omega arith, (lp, (omega (arith, place.0), (entry_within p o lp lo, (omega (arith, place.1), (ls, tt))))))));
      stands = (
        refl,
        (
          roots_here t p (roots_with t p r o) formed.nodes lp,
          (
            count_only rooted n (entry_spot p o) (λ q. absurd (omega (arith, place.0)))
                ∙ roots_only mid p (roots_with mid p r o) (entry_spot p o) (λ q. absurd (omega (arith, place.0)))
                ∙ message_only (with_entry t p o e) s x (entry_spot p o) (λ q. absurd (omega (arith, place.1)))
                ∙ entry_here t formed p o lp lo e,
            (message_here (with_entry t p o e) s x formed.places ls, tt),
          ),
        ),
      );
      same = λ y out.
          count_only rooted n y out.0
          ∙ roots_only mid p (roots_with mid p r o) y out.1.0
          ∙ message_only (with_entry t p o e) s x y out.1.1.1.0
          ∙ entry_only t formed p o lp lo e was is y out.1.1.0;
    }
      where
        mid : Table
        mid = with_message (with_entry t p o e) s x

        rooted : Table
        rooted = with_heap mid (with_root mid.heap p r o)
