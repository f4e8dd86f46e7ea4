-- The test of Sound on single tables: it passes after every event of document 01's run, and fails on tables made by hand that break its
-- conditions, each with the conditions that it breaks. Two conditions can't be broken alone: a reference to an object that isn't live breaks
-- a law on counts as well, and a directory's return count that is owed too much is missing above zero too. All by computation; assumes nothing.
use Rattle.std.specs.Prelude.{◌≡◌, refl, Bool, true, false, List, [], ◌∷◌, ◌++◌, ℕ, pos, negsuc, replicate, take, if◌then◌else◌}
use Rattle.entry.specs.declared.Entry.{Entry}
use Rattle.entry.specs.declared.Entry.TheVariants.{AtOwner, Elsewhere}
use Rattle.entry.specs.Acts.{directory}
use Rattle.entry.specs.Entry.{none, returns, weight}
use Rattle.heap.specs.Heap.{with_field, with_root}
use Rattle.table.specs.declared.Message.TheVariants.{Reference}
use Rattle.table.specs.declared.Table.{Table}
use Rattle.table.specs.Shape.{fits_table}
use Rattle.table.specs.Table.{fresh_table, with_count, with_entry, with_heap, with_message}
use Rattle.step.specs.declared.Event.{Event}
use Rattle.step.specs.Event.{event, NEW}
use Rattle.step.specs.Step.{step}
use Rattle.laws.specs.LawB.{total_from}
use Rattle.laws.specs.SoundTest.{is_sound, passes_a, passes_b, passes_c, passes_counts, passes_directories}
use Rattle.laws.specs.SoundTest.{passes_fields, passes_owed, passes_references, passes_returns, passes_roots}
use Rattle.cases.specs.Edges.{after_all}
use Rattle.cases.specs.Errors.{returning_table}
use Rattle.cases.specs.Rules.{rules}
use Rattle.cases.specs.Twelve.{twelve}

-- opens the parts of the test, and with them the whole of it, as `rules` opens the rules
unfoldable parts : Type 1
unfolding total_from passes_a passes_b passes_c passes_roots passes_fields passes_directories passes_references passes_counts passes_returns passes_owed
parts = Type 0

unfoldable test : Type 1
unfolding rules parts is_sound
test = Type 0

-- ---- the run of twelve events

-- the test before each event and after the last
unfoldable pub sound_along : Table → List Event → List Bool
sound_along t [] = is_sound t ∷ []
sound_along t (e ∷ es) = is_sound t ∷ sound_along (step t e).table es

-- it passes at all thirteen
pub twelve_sound : sound_along fresh_table twelve ≡ replicate 13 true
unfolding test sound_along
twelve_sound = refl

-- ---- tables made by hand

-- the conditions of Sound, in their order
pub data Condition : Type 0 where
  Shape LawA LawB LawC Roots Fields Directories References Counts Returns Owed : Condition

-- a condition is named where its test fails
abbrev unless : Condition → Bool → List Condition
unless c b = if b then [] else c ∷ []

-- the conditions that a table breaks
abbrev pub broken : Table → List Condition
broken t =
    unless Shape (fits_table t)
    ++ unless LawA (passes_a t)
    ++ unless LawB (passes_b t)
    ++ unless LawC (passes_c t)
    ++ unless Roots (passes_roots t)
    ++ unless Fields (passes_fields t)
    ++ unless Directories (passes_directories t)
    ++ unless References (passes_references t)
    ++ unless Counts (passes_counts t)
    ++ unless Returns (passes_returns t)
    ++ unless Owed (passes_owed t)

-- a table fails the test and breaks these conditions
abbrev pub Breaks : Table → List Condition → Type 0
Breaks t cs = (is_sound t ≡ false) × (broken t ≡ cs)

-- object 0 is live and root 0 of node 0 names it
abbrev one_object : Table
one_object = after_all fresh_table (event NEW 0 0 0 0 ∷ [])

-- a remote entry of object 0 that hangs under a node with weight 1, and one hangs under it
abbrev under : ℕ → Entry
under p = Elsewhere (record { rc = 1; parent = p; presence = true; msg_ctr = none; ref_weight = weight 1 })

-- an event count above its limit
pub shape_broken : Breaks (with_count fresh_table 1000000001) (Shape ∷ [])
unfolding test
shape_broken = (refl, refl)

-- a directory counts a reference that isn't there
pub law_a_broken : Breaks (with_entry one_object 0 0 (AtOwner (directory 1 none))) (LawA ∷ [])
unfolding test after_all
law_a_broken = (refl, refl)

-- a return is counted that isn't in the air
pub law_b_broken : Breaks (with_entry one_object 0 0 (AtOwner (directory 0 (returns (pos 1))))) (LawB ∷ [])
unfolding test after_all
law_b_broken = (refl, refl)

-- nodes 1 and 2 are each other's Parent
pub law_c_broken : Breaks (with_entry (with_entry one_object 1 0 (under 2)) 2 0 (under 1)) (LawC ∷ [])
unfolding test after_all
law_c_broken = (refl, refl)

-- a root names an object that isn't live
pub roots_broken : Breaks (with_heap fresh_table (with_root fresh_table.heap 0 0 5)) (Roots ∷ [])
unfolding test
roots_broken = (refl, refl)

-- and so does a field
pub fields_broken : Breaks (with_heap one_object (with_field one_object.heap 0 0 5)) (Fields ∷ [])
unfolding test after_all
fields_broken = (refl, refl)

-- a root of node 1 names an object of node 0, without an entry
pub held_broken : Breaks (with_heap one_object (with_root one_object.heap 1 0 0)) (Roots ∷ [])
unfolding test after_all
held_broken = (refl, refl)

-- a directory of an object that isn't live
pub directories_broken : Breaks (with_entry fresh_table 0 0 (AtOwner (directory 0 none))) (Directories ∷ [])
unfolding test
directories_broken = (refl, refl)

-- a reference on its way home to an object that isn't live: law B misses it too
pub references_broken : Breaks (with_message fresh_table 0 (Reference 3 0 0)) (LawB ∷ References ∷ [])
unfolding test
references_broken = (refl, refl)

-- object 0 is sent before any event was counted
pub counts_broken : Breaks (with_count (after_all fresh_table (take 2 twelve)) 0) (Counts ∷ [])
unfolding test after_all
counts_broken = (refl, refl)

-- a return is in the air and counted, before any event was
pub returns_broken : Breaks (with_count returning_table 0) (Returns ∷ [])
unfolding test after_all returning_table
returns_broken = (refl, refl)

-- node 3 has sent object 0 home twice, and both came: after one event that can't be
pub owed_broken :
    Breaks
    (with_count (with_entry (with_entry (after_all fresh_table (take 3 twelve)) 3 0 (Elsewhere (record {
      rc = 0;
      parent = 0;
      presence = true;
      msg_ctr = returns (pos 2);
      ref_weight = weight 1;
    }))) 0 0 (AtOwner (directory 1 (returns (negsuc 1))))) 1)
    (Returns ∷ Owed ∷ [])
unfolding test after_all
owed_broken = (refl, refl)
