-- The records of a formed table in shape, section by section, are read from the first turn on and give that table. Assumes nothing.
use Rattle.std.specs.Prelude.{◌≡◌, Bool, false, ltb, eqb, if◌then◌else◌}
use Rattle.std.proofs.Math.Path.{refl, sym}
use Rattle.std.proofs.Common.{ap, ◌∙◌, le_refl, add-one, arith}
use Rattle.std.proofs.Math.Bool.{true}
use mathlib.Core.List.{List, [], ◌∷◌, ◌++◌}
use Prim.Native.Nat.{ℕ, suc, ◌+◌, ◌*◌, ◌≤◌, ◌<◌}
use Rattle.std.proofs.Math.Decide.{ℕ_discrete}
use Rattle.std.proofs.Math.ListN.{replicate}
use Rattle.std.proofs.lemmas.List.{length-replicate, get_or-replicate}
use borrow.Author.Tests.{leb-true, lt-ltb, le-ltb, eq-eqb, ne_eqb}
use Rattle.terms.specs.Choose.{◌and◌, ◌or◌}
use Rattle.terms.specs.Counted.{gather}
use Rattle.terms.specs.Limits.{NODES, OBJECTS, PLACES, EVENTS, ROOTS, NONE, owner}
use Rattle.terms.proofs.ListLaws.{filled_none, filled_set, filled_keep, filled_all}
use Rattle.entry.specs.declared.Entry.{Entry}
use Rattle.entry.specs.declared.Entry.TheVariants.{Absent, AtOwner, Elsewhere}
use Rattle.entry.specs.Fits.{fits_entry}
use Rattle.entry.specs.FitsLaws.{away, home}
use Rattle.heap.specs.declared.Object.{Object}
use Rattle.heap.specs.declared.Roots.{Roots}
use Rattle.heap.specs.Heap.{idle, object_at, roots_at, is_live, fields_of, roots_of}
use Rattle.table.specs.declared.Cell.{Cell}
use Rattle.table.specs.declared.Place.{Place}
use Rattle.table.specs.declared.Message.{Message}
use Rattle.table.specs.declared.Message.TheVariants as m
use Rattle.table.specs.declared.Table.{Table}
use Rattle.table.specs.Formed.{Formed}
use Rattle.table.specs.Fresh.{fresh_formed}
use Rattle.table.specs.Shape.{fits_message, fits_table}
use Rattle.table.specs.ShapeLaws.{Shaped, owner_number, shaped}
use Rattle.table.specs.Table.{fresh_table, entry_at, message_at, with_cells, with_message}
use Rattle.image.specs.declared.RecordKind.TheVariants.{Count, Live, NodeRoots, Directory, Remote, Reference, Decrement, End}
use Rattle.image.specs.declared.Turn.{Turn}
use Rattle.image.proofs.CellLaws.{Cells, shown_of, cells_same, cells_fresh, cells_keep, cells_set, cells_all, ltb_same}
use Rattle.image.specs.Content.{fits_record, with_record}
use Rattle.image.proofs.ContentLaws.{list_back, idle_is, live_fit, live_is, roots_fit, roots_is, directory_numbers, directory_fit, directory_is}
use Rattle.image.proofs.ContentLaws.{remote_numbers, remote_fit, remote_is, remote_fits}
use Rattle.image.proofs.ContentLaws.{reference_fit, decrement_numbers, decrement_fit, decrement_is}
use Rattle.image.specs.Order.{position, turn, first_turn}
use Rattle.image.proofs.ReadLaws.{Reads, ends}
use Rattle.image.specs.Records.{Record, row}
use Rattle.image.proofs.Stages.{Stage, At, Leads, in_turn_lem, leads_none, leads_one, leads_append, leads_as, leads_gather}
use Rattle.image.specs.Writer.{object_record, roots_record, directory_record, remote_record, message_record, records_of}
use Rattle.image.proofs.Sofar.{no_object, no_roots, no_place, Sofar, none, directories_below, entries_below, and-false, or-true, shown_absent}

-- ---- the sections

module _ (t : Table) (formed : Formed t) (shape : Shaped t) where
  -- where the records of each section begin and end
  start : Stage
  start = At 0 0 (λ x. x ≡ fresh_table)

  abbrev objects_stage : ℕ → Stage
  objects_stage o = At (position 1 o) (position 2 0) (Sofar t o 0 none 0)

  abbrev roots_low : ℕ → ℕ
  roots_low p = if ltb p NODES then position 2 p else position 3 0

  abbrev roots_high : ℕ → ℕ
  roots_high p = if ltb p NODES then position 2 p else position 6 0

  abbrev roots_stage : ℕ → Stage
  roots_stage p = At (roots_low p) (roots_high p) (Sofar t OBJECTS p none 0)

  abbrev directory_stage : ℕ → Stage
  directory_stage o = At (position 3 o) (position 6 0) (Sofar t OBJECTS NODES (directories_below o) 0)

  abbrev remote_stage : ℕ → ℕ → Stage
  remote_stage p o = At (position 4 (256 * p + o)) (position 6 0) (Sofar t OBJECTS NODES (entries_below (256 * p + o)) 0)

  abbrev message_stage : ℕ → Stage
  message_stage s = At (position 5 s) (position 6 0) (Sofar t OBJECTS NODES (λ p o. true) s)

  -- ---- the event count

  count_leads : Leads start (objects_stage 0) (row Count (t.count ∷ []) ∷ [])
  unfolding start fits_record with_record
  count_leads = leads_one Count (t.count ∷ []) refl refl (omega (arith, leb-true t.count EVENTS shape.count)) shape.count (λ now x at. (
    in_turn_lem now Count (t.count ∷ []) at.first at.last,
    record {
      first = omega arith;
      last = omega arith;
      holds = rw at.holds (record {
        count = refl;
        objects = filled_none;
        roots = filled_none;
        cells = cells_fresh (λ p o. refl);
        air = filled_none;
      });
    },
  ))

  -- ---- live objects

  object_leads : (o : ℕ) → o < OBJECTS → Leads (objects_stage o) (objects_stage (suc o)) (object_record t o)
  unfolding fits_record with_record
  object_leads o lt = go (is_live t.heap o) refl
    where
      thing : Object
      thing = object_at t.heap o

      go : (b : Bool) → is_live t.heap o ≡ b
          → Leads (objects_stage o) (objects_stage (suc o)) (if b then row Live (o ∷ fields_of t.heap o) ∷ [] else [])
      go true e =
          let is = live_is thing (shape.objects o lt) (formed.fields o lt) e o in
          leads_one Live (o ∷ fields_of t.heap o) refl refl (live_fit thing (shape.objects o lt) (formed.fields o lt) e o lt)
          (rw (lt-ltb o OBJECTS lt, is) (shape.objects o lt))
          (λ now x at. (
            in_turn_lem now Live (o ∷ fields_of t.heap o) at.first (omega (arith, at.last)),
            record {
              first = omega arith;
              last = omega arith;
              holds = record {
                count = at.holds.count;
                objects = rw (add-one o) at (filled_set at.holds.objects _ (rw (length-replicate OBJECTS idle) lt) is);
                roots = at.holds.roots;
                cells = at.holds.cells;
                air = at.holds.air;
              };
            },
          ))
      go false e = leads_none (λ now x at. record {
        first = omega (arith, at.first);
        last = at.last;
        holds = record {
          count = at.holds.count;
          objects = rw (add-one o) at (filled_keep at.holds.objects
              (get_or-replicate OBJECTS o idle no_object lt ∙ idle_is thing (shape.objects o lt) (formed.fields o lt) e));
          roots = at.holds.roots;
          cells = at.holds.cells;
          air = at.holds.air;
        };
      })

  -- ---- roots

  -- after a node's roots comes the next node's, and after the last everything else
  roots_turns : (p : ℕ) (b : Bool)
      → let next : Turn = if b then turn (position 2 p + 1) (position 2 p + 1) else turn (position 3 0) (position 6 0) in
      (next.first ≤ (if b then position 2 (suc p) else position 3 0)) × ((if b then position 2 (suc p) else position 6 0) ≤ next.last)
  roots_turns p true = (omega arith, omega arith)
  roots_turns p false = (omega arith, omega arith)

  roots_leads : (p : ℕ) → p < NODES → Leads (roots_stage p) (roots_stage (suc p)) (roots_record t p)
  unfolding fits_record with_record
  roots_leads p lt =
      let thing = roots_at t.heap p in
      let is = roots_is thing p (formed.roots p lt) in
      leads_one NodeRoots (p ∷ roots_of t.heap p) refl refl (roots_fit thing (shape.roots p lt) p lt)
      (rw (lt-ltb p NODES lt, is) (shape.roots p lt))
      (λ now x at. (
        in_turn_lem now NodeRoots (p ∷ roots_of t.heap p) (rw (lt-ltb p NODES lt) at at.first) (rw (lt-ltb p NODES lt) at at.last),
        record {
          first = rw (add-one p) (roots_turns p (ltb (suc p) NODES)).0;
          last = rw (add-one p) (roots_turns p (ltb (suc p) NODES)).1;
          holds = record {
            count = at.holds.count;
            objects = at.holds.objects;
            roots = rw (add-one p) at (filled_set at.holds.roots _
                (rw (length-replicate {A = Roots} NODES (record { at = replicate ROOTS NONE })) lt) is);
            cells = at.holds.cells;
            air = at.holds.air;
          };
        },
      ))

  -- ---- directories

  -- the same with other cells
  with_cells_lem : {io ir is : ℕ} {shown shown' : ℕ → ℕ → Bool} {x : Table} {cs : List Cell} → Sofar t io ir shown is x → Cells t shown' cs
      → Sofar t io ir shown' is (with_cells x cs)
  with_cells_lem so c = record { count = so.count; objects = so.objects; roots = so.roots; cells = c; air = so.air }

  directory_other : (o q a : ℕ) → q < NODES → a < OBJECTS → (a ≡ o → q ≡ owner o → ⊥)
      → shown_of (directories_below o q a) (entry_at t q a) ≡ shown_of (directories_below (suc o) q a) (entry_at t q a)
  directory_other o q a lq la ne = ap (λ (b : Bool). shown_of b (entry_at t q a)) same
    where
      same : directories_below o q a ≡ directories_below (suc o) q a
      same = elim (ℕ_discrete a o) [
        | yes ea ↦ rw (ea, ne_eqb q (owner o) (ne ea)) (and-false (ltb o o) ∙ sym (and-false (ltb o (suc o))))
        | no na ↦ ap (λ (b : Bool). b and eqb q (owner a)) (ltb_same a o a (suc o) (λ l. omega arith) (λ l. omega arith))
      ]

  directory_shown : (o : ℕ) → directories_below (suc o) (owner o) o ≡ true
  directory_shown o = rw (lt-ltb o (suc o) (omega arith), eq-eqb (owner o) (owner o) refl)

  directory_leads : (o : ℕ) → o < OBJECTS → Leads (directory_stage o) (directory_stage (suc o)) (directory_record o (entry_at t (owner o) o))
  unfolding fits_record with_record
  directory_leads o lt = go (entry_at t (owner o) o) refl (shape.entries (owner o) o (owner_number lt) lt)
    where
      go : (e : Entry) → entry_at t (owner o) o ≡ e → fits_entry (owner o) o e ≡ true
          → Leads (directory_stage o) (directory_stage (suc o)) (directory_record o e)
      go Absent e fits = leads_none (λ now x at. record {
        first = omega (arith, at.first);
        last = at.last;
        holds = with_cells_lem at.holds (cells_keep (owner o) o (directory_other o)
            (rw e (shown_absent (directories_below o (owner o) o) ∙ sym (shown_absent (directories_below (suc o) (owner o) o)))) at.holds.cells);
      })
      go (AtOwner d) e fits =
          let is = directory_is d o (owner o) fits in
          leads_one Directory (directory_numbers d o) refl refl (directory_fit d o (owner o) fits lt) (rw (lt-ltb o OBJECTS lt, is) fits)
          (λ now x at. (
            in_turn_lem now Directory (directory_numbers d o) at.first (omega (arith, at.last)),
            record {
              first = omega arith;
              last = omega arith;
              holds = with_cells_lem at.holds
                  (cells_set (owner o) o _ (owner_number lt) lt (directory_other o) (rw (directory_shown o) (is ∙ sym e)) at.holds.cells);
            },
          ))
      go (Elsewhere r) e fits = absurd ((away (owner o) o r fits).elsewhere refl)

  -- ---- remote entries

  module _ (p o : ℕ) (lp : p < NODES) (lo : o < OBJECTS) where
    remote_other : (q a : ℕ) → q < NODES → a < OBJECTS → (a ≡ o → q ≡ p → ⊥)
        → shown_of (entries_below (256 * p + o) q a) (entry_at t q a) ≡ shown_of (entries_below (256 * p + suc o) q a) (entry_at t q a)
    remote_other q a lq la ne =
        ap (λ (b : Bool). shown_of (eqb q (owner a) or b) (entry_at t q a))
        (ltb_same (256 * q + a) (256 * p + o) (256 * q + a) (256 * p + suc o) (λ l. omega arith) (λ l. elim (ℕ_discrete q p) [
          | yes eq ↦ let na : (a ≡ o) → ⊥ = λ ea. ne ea eq in omega arith
          | no nq ↦ omega arith
        ]))

    remote_shown : entries_below (256 * p + suc o) p o ≡ true
    remote_shown = rw (lt-ltb (256 * p + o) (256 * p + suc o) (omega arith)) (or-true (eqb p (owner o)))

    remote_leads : Leads (remote_stage p o) (remote_stage p (suc o)) (remote_record p o (entry_at t p o))
    unfolding with_record
    remote_leads = go (entry_at t p o) refl (shape.entries p o lp lo)
      where
        go : (e : Entry) → entry_at t p o ≡ e → fits_entry p o e ≡ true → Leads (remote_stage p o) (remote_stage p (suc o)) (remote_record p o e)
        go Absent e fits = leads_none (λ now x at. record {
          first = omega (arith, at.first);
          last = at.last;
          holds = with_cells_lem at.holds (cells_keep p o remote_other
              (rw e (shown_absent (entries_below (256 * p + o) p o) ∙ sym (shown_absent (entries_below (256 * p + suc o) p o)))) at.holds.cells);
        })
        go (AtOwner d) e fits = leads_none (λ now x at. record {
          first = omega (arith, at.first);
          last = at.last;
          holds = with_cells_lem at.holds (cells_keep p o remote_other (rw (eq-eqb p (owner o) (home p o d fits).own) refl) at.holds.cells);
        })
        go (Elsewhere r) e fits =
            leads_one Remote (remote_numbers r p o) refl refl (remote_fit r p o fits lp lo) (remote_fits r p o fits lp lo)
            (λ now x at. (
              in_turn_lem now Remote (remote_numbers r p o) at.first (omega (arith, at.last)),
              record {
                first = omega arith;
                last = omega arith;
                holds = with_cells_lem at.holds
                    (cells_set p o _ lp lo remote_other (rw remote_shown (remote_is r p o fits ∙ sym e)) at.holds.cells);
              },
            ))

  -- ---- messages

  -- a place with this message
  place : Message → Place
  place held = record { held = held }

  message_leads : (s : ℕ) → s < PLACES → Leads (message_stage s) (message_stage (suc s)) (message_record s (message_at t s))
  unfolding fits_record with_record place
  message_leads s lt = go (message_at t s) refl (shape.messages s lt)
    where
      -- the message is in its place
      placed : (x : Table) (held : Message) → message_at t s ≡ held → Sofar t OBJECTS NODES (λ p o. true) s x
          → Sofar t OBJECTS NODES (λ p o. true) (suc s) (with_message x s held)
      placed x held e so = record {
        count = so.count;
        objects = so.objects;
        roots = so.roots;
        cells = so.cells;
        air = rw (add-one s) at (filled_set so.air _ (rw (length-replicate PLACES no_place) lt) (ap place (sym e)));
      }

      go : (held : Message) → message_at t s ≡ held → fits_message held ≡ true → Leads (message_stage s) (message_stage (suc s)) (message_record s held)
      go m.Empty e fits = leads_none (λ now x at. record {
        first = omega (arith, at.first);
        last = at.last;
        holds = record {
          count = at.holds.count;
          objects = at.holds.objects;
          roots = at.holds.roots;
          cells = at.holds.cells;
          air = rw (add-one s) at (filled_keep at.holds.air (get_or-replicate PLACES s no_place no_place lt ∙ ap place (sym e)));
        };
      })
      go (m.Reference from to o) e fits =
          leads_one Reference (s ∷ from ∷ to ∷ o ∷ []) refl refl (reference_fit from to o fits s lt) (rw (lt-ltb s PLACES lt) fits)
          (λ now x at. (
            in_turn_lem now Reference (s ∷ from ∷ to ∷ o ∷ []) at.first (omega (arith, at.last)),
            record { first = omega arith; last = omega arith; holds = placed x (m.Reference from to o) e at.holds },
          ))
      go (m.Decrement from to o k n) e fits =
          let is = decrement_is from to o k n fits s in
          leads_one Decrement (decrement_numbers from to o k n s) refl refl (decrement_fit from to o k n fits s lt) (rw (lt-ltb s PLACES lt, is) fits)
          (λ now x at. (
            in_turn_lem now Decrement (decrement_numbers from to o k n s) at.first (omega (arith, at.last)),
            record { first = omega arith; last = omega arith; holds = rw is (placed x (m.Decrement from to o k n) e at.holds) },
          ))

  -- ---- the whole

  -- when all is read, the table is whole
  whole : (x : Table) → Sofar t OBJECTS NODES (λ p o. true) PLACES x → x ≡ t
  whole x so =
      let objects =
      filled_all so.objects OBJECTS fresh_formed.objects (le_refl OBJECTS) ∙ list_back no_object OBJECTS t.heap.objects formed.objects in
      let roots = filled_all so.roots NODES fresh_formed.nodes (le_refl NODES) ∙ list_back no_roots NODES t.heap.roots formed.nodes in
      let air = filled_all so.air PLACES fresh_formed.places (le_refl PLACES) ∙ list_back no_place PLACES t.air formed.places in
      let cells = cells_all formed (λ p o lp lo. refl) so.cells in
      ap (λ (n : ℕ). made n x.heap.objects x.heap.roots x.cells x.air) so.count
      ∙ ap (λ (l : List Object). made t.count l x.heap.roots x.cells x.air) objects
      ∙ ap (λ (l : List Roots). made t.count t.heap.objects l x.cells x.air) roots
      ∙ ap (λ (l : List Cell). made t.count t.heap.objects t.heap.roots l x.air) cells
      ∙ ap (λ (l : List Place). made t.count t.heap.objects t.heap.roots t.cells l) air
    where
      made : ℕ → List Object → List Roots → List Cell → List Place → Table
      made n os rs cs as' = record { count = n; heap = record { objects = os; roots = rs }; cells = cs; air = as' }

  -- ---- from one section of entries to the next

  no_directories : {cs : List Cell} → Cells t none cs → Cells t (directories_below 0) cs
  no_directories = cells_same (λ p o lp lo. rw (le-ltb o 0 (omega arith)) refl)

  all_directories : {cs : List Cell} → Cells t (directories_below OBJECTS) cs → Cells t (entries_below (256 * 0 + 0)) cs
  all_directories = cells_same (λ p o lp lo.
      rw (lt-ltb o OBJECTS lo, le-ltb (256 * p + o) 0 (omega arith)) (or-false (eqb p (owner o)) (entry_at t p o)))
    where
      or-false : (b : Bool) (e : Entry) → shown_of b e ≡ shown_of (b or false) e
      or-false true e = refl
      or-false false e = refl

  all_entries : {cs : List Cell} → Cells t (entries_below (256 * NODES + 0)) cs → Cells t (λ p o. true) cs
  all_entries = cells_same (λ p o lp lo. rw (lt-ltb (256 * p + o) (256 * NODES + 0) (omega arith)) (rw (or-true (eqb p (owner o)))))

  -- the remote entries of a node
  remotes_lead : (p : ℕ) → p < NODES → Leads (remote_stage p 0) (remote_stage (suc p) 0) (gather OBJECTS (λ o. remote_record p o (entry_at t p o)))
  remotes_lead p lp now x a more u go =
      leads_gather (remote_stage p) (λ o. remote_record p o (entry_at t p o)) OBJECTS (λ o lo. remote_leads p o lp lo) now x a more u (λ now' x' b.
      go now' x' (record {
        first = omega (arith, b.first);
        last = b.last;
        holds = with_cells_lem b.holds (cells_same (λ q o lq lo. ap (λ (c : Bool). shown_of (eqb q (owner o) or c) (entry_at t q o))
            (ltb_same (256 * q + o) (256 * p + OBJECTS) (256 * q + o) (256 * suc p + 0) (λ l. omega arith) (λ l. omega arith))) b.holds.cells);
      }))

  -- ---- the sections one behind the other

  objects_lead : Leads (objects_stage 0) (roots_stage 0) (gather OBJECTS (object_record t))
  objects_lead = leads_as (gather OBJECTS (object_record t)) (λ now x a. record { first = omega (arith, a.first); last = a.last; holds = a.holds })
      (leads_gather objects_stage (object_record t) OBJECTS object_leads)

  all_roots_lead : Leads (roots_stage 0) (directory_stage 0) (gather NODES (roots_record t))
  all_roots_lead = leads_as (gather NODES (roots_record t))
      (λ now x a. record { first = a.first; last = a.last; holds = with_cells_lem a.holds (no_directories a.holds.cells) })
      (leads_gather roots_stage (roots_record t) NODES roots_leads)

  directories_lead : Leads (directory_stage 0) (remote_stage 0 0) (gather OBJECTS (λ o. directory_record o (entry_at t (owner o) o)))
  directories_lead = leads_as (gather OBJECTS (λ o. directory_record o (entry_at t (owner o) o)))
      (λ now x a. record { first = omega (arith, a.first); last = a.last; holds = with_cells_lem a.holds (all_directories a.holds.cells) })
      (leads_gather directory_stage (λ o. directory_record o (entry_at t (owner o) o)) OBJECTS directory_leads)

  all_remotes_lead : Leads (remote_stage 0 0) (message_stage 0) (gather NODES (λ p. gather OBJECTS (λ o. remote_record p o (entry_at t p o))))
  all_remotes_lead = leads_as (gather NODES (λ p. gather OBJECTS (λ o. remote_record p o (entry_at t p o))))
      (λ now x a. record { first = omega (arith, a.first); last = a.last; holds = with_cells_lem a.holds (all_entries a.holds.cells) })
      (leads_gather (λ p. remote_stage p 0) (λ p. gather OBJECTS (λ o. remote_record p o (entry_at t p o))) NODES remotes_lead)

  messages_lead : Leads (message_stage 0) (message_stage PLACES) (gather PLACES (λ s. message_record s (message_at t s)))
  messages_lead = leads_gather message_stage (λ s. message_record s (message_at t s)) PLACES message_leads

  -- the records read as the table
  records_read : Reads first_turn fresh_table (records_of t) t
  unfolding records_of start
  records_read =
      let a : List Record = row Count (t.count ∷ []) ∷ [] in
      let b : List Record = gather OBJECTS (object_record t) in
      let c : List Record = gather NODES (roots_record t) in
      let d : List Record = gather OBJECTS (λ o. directory_record o (entry_at t (owner o) o)) in
      let e : List Record = gather NODES (λ p. gather OBJECTS (λ o. remote_record p o (entry_at t p o))) in
      let f : List Record = gather PLACES (λ s. message_record s (message_at t s)) in
      let ab : Leads start (roots_stage 0) (a ++ b) = leads_append a b count_leads objects_lead in
      let abc : Leads start (directory_stage 0) (a ++ b ++ c) = leads_append (a ++ b) c ab all_roots_lead in
      let abcd : Leads start (remote_stage 0 0) (a ++ b ++ c ++ d) = leads_append (a ++ b ++ c) d abc directories_lead in
      let abcde : Leads start (message_stage 0) (a ++ b ++ c ++ d ++ e) = leads_append (a ++ b ++ c ++ d) e abcd all_remotes_lead in
      let whole_lot : Leads start (message_stage PLACES) (a ++ b ++ c ++ d ++ e ++ f) = leads_append (a ++ b ++ c ++ d ++ e) f abcde messages_lead in
      whole_lot first_turn fresh_table (record { first = omega arith; last = omega arith; holds = refl }) (row End [] ∷ []) t (λ now x s.
      ends (in_turn_lem now End [] (omega (arith, s.first)) s.last) (whole x s.holds))

-- the records of a formed table in shape read as that table
pub reads_records : (t : Table) → Formed t → fits_table t ≡ true → Reads first_turn fresh_table (records_of t) t
reads_records t formed fits = records_read t formed (shaped t fits)
