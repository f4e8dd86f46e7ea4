-- What stands anywhere after one thing of a table was changed: the new thing, and then the spot is the one that was changed, or what stood
-- there before. It holds for lists of any length, so nothing is asked of the table. Assumes nothing.
use Rattle.std.specs.Prelude.{◌≡◌, ◌⊎◌, [], ℕ, get_or, set}
use Rattle.std.proofs.Common.{ap, ◌∙◌, inl, inr, ⊎_elim}
use Rattle.terms.proofs.SetLaws.{set_either}
use Rattle.entry.specs.declared.Entry.{Entry}
use Rattle.heap.specs.declared.Heap.{Heap}
use Rattle.heap.specs.declared.Object.{Object}
use Rattle.heap.specs.declared.Roots.{Roots}
use Rattle.heap.specs.Heap.{object_at, root_at, roots_at, with_object, with_root}
use Rattle.table.specs.declared.Cell.{Cell}
use Rattle.table.specs.declared.Message.{Message}
use Rattle.table.specs.declared.Place.{Place}
use Rattle.table.specs.declared.Slot.{Slot}
use Rattle.table.specs.declared.Table.{Table}
use Rattle.table.specs.Table.{cell_at, cell_with, entry_at, entry_in, message_at, with_entry, with_message}

-- root s of node q after root r of node p was set
pub root_either : (h : Heap) (p r x q s : ℕ) → ((q ≡ p) × (root_at (with_root h p r x) q s ≡ x)) ⊎ (root_at (with_root h p r x) q s ≡ root_at h q s)
root_either h p r x q s = ⊎_elim (λ new. at_p new.0 new.1) (λ same. inr (ap (λ (k : Roots). get_or k.at s 0) same))
    (set_either h.roots p q (record { at = set (roots_at h p).at r x }) (record { at = [] }))
  where
    at_p : q ≡ p → roots_at (with_root h p r x) q ≡ record { at = set (roots_at h p).at r x }
        → ((q ≡ p) × (root_at (with_root h p r x) q s ≡ x)) ⊎ (root_at (with_root h p r x) q s ≡ root_at h q s)
    at_p same e =
        let there : root_at (with_root h p r x) q s ≡ get_or (set (roots_at h p).at r x) s 0 = ap (λ (k : Roots). get_or k.at s 0) e in
        ⊎_elim (λ new. inl (same, there ∙ new.1)) (λ old. inr (there ∙ old ∙ rw same)) (set_either (roots_at h p).at r s x 0)

-- object a after object o was set
pub object_either : (h : Heap) (o : ℕ) (x : Object) (a : ℕ)
    → ((a ≡ o) × (object_at (with_object h o x) a ≡ x)) ⊎ (object_at (with_object h o x) a ≡ object_at h a)
object_either h o x a = set_either h.objects o a x _

-- the entry of object a at node q after that of object o at node p was set
pub entry_either : (t : Table) (p o : ℕ) (e : Entry) (q a : ℕ)
    → ((q ≡ p) × (a ≡ o) × (entry_at (with_entry t p o e) q a ≡ e)) ⊎ (entry_at (with_entry t p o e) q a ≡ entry_at t q a)
entry_either t p o e q a = ⊎_elim (λ new. of_o new.0 new.1) (λ same. inr (ap (λ (c : Cell). entry_in c q) same))
    (set_either t.cells o a (cell_with (cell_at t o) p e) (record { at = [] }))
  where
    of_o : a ≡ o → cell_at (with_entry t p o e) a ≡ cell_with (cell_at t o) p e
        → ((q ≡ p) × (a ≡ o) × (entry_at (with_entry t p o e) q a ≡ e)) ⊎ (entry_at (with_entry t p o e) q a ≡ entry_at t q a)
    of_o same c =
        let there : entry_at (with_entry t p o e) q a ≡ entry_in (cell_with (cell_at t o) p e) q = ap (λ (k : Cell). entry_in k q) c in
        ⊎_elim (λ new. inl (new.0, same, there ∙ ap (λ (k : Slot). k.held) new.1))
        (λ old. inr (there ∙ ap (λ (k : Slot). k.held) old ∙ rw same))
        (set_either (cell_at t o).at p q (record { held = e }) _)

-- the message in place a after that in place s was set
pub message_either : (t : Table) (s : ℕ) (m : Message) (a : ℕ)
    → ((a ≡ s) × (message_at (with_message t s m) a ≡ m)) ⊎ (message_at (with_message t s m) a ≡ message_at t a)
message_either t s m a = ⊎_elim (λ new. inl (new.0, ap (λ (k : Place). k.held) new.1)) (λ old. inr (ap (λ (k : Place). k.held) old))
    (set_either t.air s a (record { held = m }) _)
