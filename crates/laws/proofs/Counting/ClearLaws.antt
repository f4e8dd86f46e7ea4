-- The bridge from the counts to the heap, for tables: the directory of an object is clear exactly where nobody else has the object and nothing
-- of it is in the air (document 000, theorem 4.1; PROOF-PLAN, "The theorem that answers the insurer"). Assumes nothing.
use Rattle.std.specs.Prelude.{◌≡◌, refl, ◌≢◌, ◌⊎◌, Bool, true, false, not, ℕ, ◌<◌, eqb, pos, if◌then◌else◌}
use Rattle.std.proofs.Common.{ap, inl, inr, ⊎_elim, true≢false, arith, eqb-true, eq-eqb}
use Rattle.std.proofs.lemmas.Bool.{false≢true}
use Rattle.terms.specs.Choose.{◌and◌}
use Rattle.terms.proofs.ChooseLaws.{and_passes}
use Rattle.terms.specs.Counted.{one}
use Rattle.terms.specs.CountedLaws.{Some}
use Rattle.terms.specs.Limits.{NODES, OBJECTS, PLACES, owner}
use Rattle.entry.specs.declared.Entry.{Entry}
use Rattle.entry.specs.declared.Entry.TheVariants.{Absent, AtOwner, Elsewhere}
use Rattle.entry.specs.Entry.{is_absent, is_clear, is_none, is_remote, msg_ctr_of, rc_of, weight_under}
use Rattle.entry.specs.Fits.{fits_entry}
use Rattle.entry.specs.FitsLaws.{away, home}
use Rattle.counting.proofs.Bridge.{clear_nobody, nobody_clear}
use Rattle.counting.specs.Rules.{Shaped}
use Rattle.table.specs.declared.Message.{Message}
use Rattle.table.specs.declared.Message.TheVariants.{Empty, Reference, Decrement}
use Rattle.table.specs.declared.Table.{Table}
use Rattle.table.specs.Shape.{fits_message, fits_table}
use Rattle.table.specs.ShapeLaws.{decrement_fits, owner_number, reference_fits, shaped}
use Rattle.table.specs.Table.{entry_at, message_at}
use Rattle.laws.specs.Counting.Change.{is_of}
use Rattle.laws.proofs.Counting.Counts.{foreign, none_is, under_own}
use Rattle.laws.specs.Counting.Lawful.{rules, share, Lawful}
use Rattle.laws.specs.Heap.Nobody.{Nobody}
use Rattle.laws.specs.LawA.{air_under}
use Rattle.laws.specs.LawB.{is_homeward, returns_in}

-- ---- single entries and messages

module _ (o : ℕ) where
  -- the Parent of a remote entry counts its weight
  pub hangs : (p : ℕ) (e : Entry) → fits_entry p o e ≡ true → is_remote e ≡ true → Some NODES (λ q. 0 < weight_under q e)
  hangs p Absent fits remote = absurd (false≢true remote)
  hangs p (AtOwner d) fits remote = absurd (false≢true remote)
  hangs p (Elsewhere e) fits remote =
      let f = (away p o e fits).parts in (e.parent, f.parent, rw (under_own e) f.positive)

  -- an entry that isn't remote weighs nothing
  pub hangs_not : (e : Entry) (q : ℕ) → is_remote e ≡ false → weight_under q e ≡ 0
  hangs_not Absent q remote = refl
  hangs_not (AtOwner d) q remote = refl
  hangs_not (Elsewhere e) q remote = absurd (true≢false remote)

  -- away from the owner, an entry is remote, or there is none
  away_entry : (p : ℕ) (e : Entry) → fits_entry p o e ≡ true → p ≢ owner o → (is_remote e ≡ true) ⊎ (e ≡ Absent)
  away_entry p Absent fits away = inr refl
  away_entry p (AtOwner d) fits away = absurd (away (home p o d fits).own)
  away_entry p (Elsewhere e) fits away = inl refl

  -- a message that adds to no law isn't of this object
  unheard : (x : Message) → fits_message x ≡ true → ((p : ℕ) → p < NODES → air_under p o x ≡ 0) → is_homeward o x ≡ false → is_of o x ≡ false
  unheard Empty fits air home = refl
  unheard (Reference from to x) fits air home =
      go (eqb x o) (eqb to (owner o)) (air from (reference_fits from to x fits).sender) home
    where
      go : (mine homeward : Bool) → one (mine and eqb from from and not homeward) ≡ 0 → (mine and homeward) ≡ false → mine ≡ false
      go false homeward air home = refl
      go true true air home = absurd (true≢false home)
      go true false air home = let counted = rw (eq-eqb from from refl) at air in absurd (omega arith)
  unheard (Decrement from to x m n) fits air home =
      let f = decrement_fits from to x m n fits in go (eqb x o) f.positive (air to f.path.receiver)
    where
      go : (mine : Bool) → 0 < n.0 → (if mine and eqb to to then n.0 else 0) ≡ 0 → mine ≡ false
      go true weighs air = let counted = rw (eq-eqb to to refl) at air in absurd (omega arith)
      go false weighs air = refl

  -- a message adds to the count of a node, or carries no return count
  weighty : (x : Message) → fits_message x ≡ true → Some NODES (λ p. 0 < air_under p o x) ⊎ (returns_in o x ≡ pos 0)
  weighty Empty fits = inr refl
  weighty (Reference from to x) fits = inr refl
  weighty (Decrement from to x m n) fits = let f = decrement_fits from to x m n fits in go (eqb x o) f.path.receiver f.positive
    where
      go : (mine : Bool) → to < NODES → 0 < n.0
          → Some NODES (λ p. 0 < (if mine and eqb to p then n.0 else 0)) ⊎ ((if mine then m.0 else pos 0) ≡ pos 0)
      go true number weighs = inl (to, number, rw (eq-eqb to to refl) weighs)
      go false number weighs = inr refl

  -- clear is: no count and no return count
  clear_counts : (e : Entry) → is_clear e ≡ true → (rc_of e ≡ 0) × (msg_ctr_of e ≡ pos 0)
  clear_counts Absent clear = (refl, refl)
  clear_counts (AtOwner d) clear =
      let both = (and_passes (eqb d.rc 0) (is_none d.msg_ctr.0)).0 clear in (eqb-true d.rc 0 both.0, none_is d.msg_ctr.0 both.1)
  clear_counts (Elsewhere e) clear = absurd (false≢true clear)

  -- and the other way, at the owner
  counts_clear : (e : Entry) → fits_entry (owner o) o e ≡ true → rc_of e ≡ 0 → msg_ctr_of e ≡ pos 0 → is_clear e ≡ true
  counts_clear Absent fits count returns = refl
  counts_clear (AtOwner d) fits count returns = rw (count, returns)
  counts_clear (Elsewhere e) fits count returns = absurd ((away (owner o) o e fits).elsewhere refl)

-- ---- tables

module _ (t : Table) (o : ℕ) (shape : fits_table t ≡ true) (lo : o < OBJECTS) where
  -- an object's share of a table in shape is in shape
  pub share_shaped : Shaped (rules o) (share t o)
  share_shaped = record {
    owner_number = owner_number lo;
    away = λ p lp ne.
        let fits = (shaped t shape).entries p o lp lo in
        ⊎_elim
        (λ remote. inl (hangs o p (entry_at t p o) fits remote))
        (λ none. inr (ap rc_of none, ap msg_ctr_of none))
        (away_entry o p (entry_at t p o) fits ne);
    weighty = λ s ls. weighty o (message_at t s) ((shaped t shape).messages s ls);
  }

  module _ (lawful : Lawful t o) where
    -- the directory is clear: no other node has an entry, and no message is of the object
    pub clear_means_nobody : is_clear (entry_at t (owner o) o) ≡ true → Nobody t o
    clear_means_nobody clear =
        let counts = clear_counts o (entry_at t (owner o) o) clear in
        let nobody = clear_nobody (rules o) (share t o) lawful share_shaped (record { no_count = counts.0; no_return = counts.1 }) in record {
          entries = λ p lp ne.
              let fits = (shaped t shape).entries p o lp lo in
              ⊎_elim
              (λ remote.
              let some = hangs o p (entry_at t p o) fits remote in
              absurd (omega (arith, some.2, nobody.no_entry p some.0 lp some.1)))
              (ap is_absent)
              (away_entry o p (entry_at t p o) fits ne);
          messages = λ s ls. unheard o (message_at t s) ((shaped t shape).messages s ls) (λ p lp. nobody.no_air s p ls lp) (nobody.no_home s ls);
        }

    -- and the other way: no remote entry and no message of the object, so its directory is clear
    pub nobody_means_clear : ((p : ℕ) → p < NODES → is_remote (entry_at t p o) ≡ false) → ((s : ℕ) → s < PLACES → is_of o (message_at t s) ≡ false)
        → is_clear (entry_at t (owner o) o) ≡ true
    nobody_means_clear no_entry no_message =
        let clear = nobody_clear (rules o) (share t o) lawful share_shaped (record {
          no_entry = λ p q lp lq. hangs_not o (entry_at t p o) q (no_entry p lp);
          no_air = λ s p ls lp. (foreign o (message_at t s) (no_message s ls)).air p;
          no_home = λ s ls. (foreign o (message_at t s) (no_message s ls)).home;
        }) in counts_clear o (entry_at t (owner o) o) ((shaped t shape).entries (owner o) o (owner_number lo) lo) clear.no_count clear.no_return
