-- The plans of SEND and RECEIVE where nothing refuses them, put together from what was found in the image. Assumes nothing.
use Rattle.std.specs.Prelude.{◌≡◌, refl, Bool, false, List, [], ◌∷◌, ℕ, ◌<◌, ltb}
use Rattle.std.proofs.Math.Path.{sym, ap}
use Rattle.std.proofs.Common.{◌∙◌, eq-eqb, ne_eqb, lt-ltb}
use Rattle.std.proofs.Math.Bool.{not}
use Rattle.std.proofs.Math.Dec.{eqb}
use Rattle.std.proofs.Math.ListN.{get_or}
use Rattle.terms.specs.Choose.{Refusal, ◌when◌, ◌or◌, answered}
use Rattle.terms.specs.Limits.{NONE, PLACES}
use Rattle.terms.specs.Numbers.{ACCEPTED, SELF, EMPTY, TORN, FULL, ROOT}
use Rattle.entry.specs.declared.Entry.{Entry}
use Rattle.entry.specs.AtNode.{refuses, sent, received}
use Rattle.heap.specs.declared.Roots.{Roots}
use Rattle.heap.specs.Heap.{is_none, with_root_in}
use Rattle.table.specs.declared.Message.TheVariants as m
use Rattle.image.specs.declared.Found.{Found}
use Rattle.image.specs.declared.Held.TheVariants as h
use Rattle.image.specs.Find.{of_roots, roots_in, entry_in}
use Rattle.step.specs.Deed.{Sent}
use Rattle.step.specs.Receive.{receipt, reply}
use Rattle.plan.specs.Change.{Same, Plan}
use Rattle.plan.specs.Plan.{refused_plan, at, roots_spot, entry_spot_in, message_spot, roots_of, root_of, entry_of}
use Rattle.plan.specs.Plan.{is_dead_own_in, empty_place_in, send_plan, receive_plan}
use Rattle.plan.specs.Planned.{Pass}

-- where no refusal applies, the plan stands
passed : (rs : List Refusal) (plan : Plan) → Pass rs → answered refused_plan rs plan ≡ plan
passed [] plan pass = refl
passed (r ∷ rs) plan pass = rw pass.0 (passed rs plan pass.1)

-- SEND of object o from p to q into place s
abbrev pub sent_plan : ℕ → ℕ → ℕ → ℕ → Found → Found → Entry → Plan
sent_plan p q o s spot found e = record {
  answer = ACCEPTED;
  deed = Sent s;
  object = Same;
  roots = Same;
  entry = at found p o (h.Entry (sent p q o e).entry);
  message = at spot s 0 (h.Message (m.Reference p q o));
}

module _ (l : List ℕ) (p q o s : ℕ) (spot found : Found) (e : Entry) where
  pub sent_is : (p ≡ q → ⊥) → (o ≡ NONE → ⊥) → is_dead_own_in l p o ≡ false → found ≡ entry_spot_in l p o → e ≡ entry_in found.held
      → refuses (sent p q o e) ≡ false → s ≡ empty_place_in l → spot ≡ message_spot l s → s < PLACES
      → sent_plan p q o s spot found e ≡ send_plan l p q o
  unfolding send_plan
  sent_is away named live there entry fine place free room =
      let told = entry ∙ ap (λ (f : Found). entry_in f.held) there in
      let counted = ap (λ (x : Entry). refuses (sent p q o x)) (sym told) ∙ fine in
      let whole = ap (λ (b : Bool). b or refuses (sent p q o (entry_of l p o))) live ∙ counted in
      let here = ap (λ (k : ℕ). not (ltb k PLACES)) (sym place) ∙ ap not (lt-ltb s PLACES room) in
      ap (λ (f : Found). sent_plan p q o s f found e) free
      ∙ ap (λ (f : Found). sent_plan p q o s (message_spot l s) f e) there
      ∙ ap (λ (x : Entry). sent_plan p q o s (message_spot l s) (entry_spot_in l p o) x) told
      ∙ ap (λ (k : ℕ). sent_plan p q o k (message_spot l k) (entry_spot_in l p o) (entry_of l p o)) place
      ∙ sym (passed ((SELF when eqb p q) ∷ (EMPTY when is_none o) ∷ (TORN when (is_dead_own_in l p o or refuses (sent p q o (entry_of l p o))))
      ∷ (FULL when not (ltb (empty_place_in l) PLACES)) ∷ []) _ (ne_eqb p q away, (ne_eqb o NONE named, (whole, (here, tt)))))

-- RECEIVE of the reference in place s, into root r
abbrev pub received_plan : ℕ → ℕ → ℕ → ℕ → ℕ → Found → Found → Found → Roots → Entry → Plan
received_plan s r from to o place rooted found x e = record {
  answer = ACCEPTED;
  deed = receipt s from e;
  object = Same;
  roots = at rooted to 0 (of_roots (with_root_in x r o));
  entry = at found to o (h.Entry (received from to o e).entry);
  message = at place s 0 (h.Message (reply from to o e));
}

module _ (l : List ℕ) (s r from to o : ℕ) (place rooted found : Found) (x : Roots) (e : Entry) where
  pub received_is : place ≡ message_spot l s → rooted ≡ roots_spot l to → x ≡ roots_in rooted.held → get_or x.at r 0 ≡ NONE
      → is_dead_own_in l to o ≡ false → found ≡ entry_spot_in l to o → e ≡ entry_in found.held → refuses (received from to o e) ≡ false
      → received_plan s r from to o place rooted found x e ≡ receive_plan l s r (m.Reference from to o)
  unfolding receive_plan
  received_is lies at_roots names empty live there entry fine =
      let named = names ∙ ap (λ (f : Found). roots_in f.held) at_roots in
      let told = entry ∙ ap (λ (f : Found). entry_in f.held) there in
      let counted = ap (λ (y : Entry). refuses (received from to o y)) (sym told) ∙ fine in
      let whole = ap (λ (b : Bool). b or refuses (received from to o (entry_of l to o))) live ∙ counted in
      let free = ap not (eq-eqb (root_of l to r) NONE (ap (λ (y : Roots). get_or y.at r 0) (sym named) ∙ empty)) in
      ap (λ (f : Found). received_plan s r from to o f rooted found x e) lies
      ∙ ap (λ (f : Found). received_plan s r from to o (message_spot l s) f found x e) at_roots
      ∙ ap (λ (f : Found). received_plan s r from to o (message_spot l s) (roots_spot l to) f x e) there
      ∙ ap (λ (y : Roots). received_plan s r from to o (message_spot l s) (roots_spot l to) (entry_spot_in l to o) y e) named
      ∙ ap (λ (y : Entry). received_plan s r from to o (message_spot l s) (roots_spot l to) (entry_spot_in l to o) (roots_of l to) y) told
      ∙ sym (passed ((ROOT when not (is_none (root_of l to r)))
      ∷ (TORN when (is_dead_own_in l to o or refuses (received from to o (entry_of l to o)))) ∷ []) _ (free, (whole, tt)))
