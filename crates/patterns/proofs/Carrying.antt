-- The result of carrying out a plan.
use Rattle.std.proofs.Common.{◌≡◌, refl, ap, sym, ◌∙◌, subst, ℕ, ◌+◌, ◌≤◌, List, [], Bool, true, false, Option, Some, None, inl, inr, leb-true}
use Rattle.std.specs.Prelude.{length, nat_le, if◌then◌else◌, Err}
use Rattle.ir_event.specs.declared.event.Event.{Event}
use Rattle.ir_event.specs.types.Things.{ContextModel, IsExtendedBy}
use Rattle.ir_event.specs.types.Sound.{Holds}
use Rattle.ir_event.specs.types.declared.refusal.Refusal.{Refusal}
use Rattle.ir_event.specs.types.declared.refusal.Refusal.TheVariants.{Full, IdsExhausted, Memory}
use Rattle.ir_event.proofs.of_types.Growth.{grows_refl}
use Rattle.ir_event.specs.trees.Ids.{op_count}
use Rattle.ir_event.specs.trees.Limits.{most_ops, most_next}
use Rattle.ir_event.specs.tree_laws.Reasons.{unless}
use Rattle.ir_event.specs.Listener.{Listener}
use Rattle.ir_event.specs.Modules.{Module, module_in, module_meaning}
use Rattle.ir_event.specs.declared.world.World.{World}
use Rattle.patterns_lowering.specs.rewriter.Moves.{Grown, Recorded, all_noted}
use Rattle.patterns_lowering.proofs.of_rewriter.Notified.{notified_none, notified_more}
use Rattle.patterns_lowering.specs.RewriterCalls.{Benched, Journaled}
use Rattle.patterns_lowering.specs.Contents.{Edit, all_edited}
use Rattle.patterns_lowering.specs.Held.{TransactionModel, module_held}
use Rattle.patterns_lowering.specs.Runs.{Along}
use Rattle.patterns_lowering.specs.Lists.{Free, IsWhy}
use Rattle.patterns_base.specs.declared.edit.Edit.{Edit as Coded}
use Rattle.patterns_lowering.proofs.Journals.{recorded_none}
use Rattle.patterns_soundness.specs.base.Makes.{made_by}
use Rattle.patterns_soundness.specs.base.Rewrites.{becomes, refused, carried_out}
use Rattle.patterns_lowering.specs.Interning.{Added, IsCapacityRefusal}
use Rattle.patterns.specs.Making.{AreMade, made_makes}
use Rattle.patterns.proofs.Counted.{made_counted}
use Rattle.patterns.specs.Applied.{Applied, limit_reason}
use Rattle.patterns.specs.Planned.{IsFree, ApplyFails, MadeIsOf, planned_edits}
use Rattle.patterns.specs.declared.plan.PlacedPlan.{PlacedPlan}
use Rattle.patterns_base.proofs.Free.{free_why}

-- ---- limits

pub limited : (es : List Edit) (m : Module) (k : ℕ) (r : Refusal) → made_by es ≡ k → limit_reason k m ≡ Some r → carried_out es m ≡ refused r
limited es m k r e h = go (nat_le (op_count m.tree + made_by es) most_ops) (nat_le (m.next + made_by es) most_next) (ap (λ j. limit_reason j m) e ∙ h)
  where
    go : (a b : Bool) → unless a Full (unless b IdsExhausted None) ≡ Some r → (if a then (if b then becomes (all_edited es m) else refused IdsExhausted) else refused Full) ≡ refused r
    go true true h = absurd cc
    go true false h = (let n : IdsExhausted ≡ r = cc in ap refused n)
    go false b h = (let n : Full ≡ r = cc in ap refused n)

pub unlimited : (es : List Edit) (m : Module) (k : ℕ) → made_by es ≡ k → limit_reason k m ≡ None → carried_out es m ≡ becomes (all_edited es m)
unlimited es m k e h = go (nat_le (op_count m.tree + made_by es) most_ops) (nat_le (m.next + made_by es) most_next) (ap (λ j. limit_reason j m) e ∙ h)
  where
    go : (a b : Bool) → unless a Full (unless b IdsExhausted None) ≡ None → (if a then (if b then becomes (all_edited es m) else refused IdsExhausted) else refused Full) ≡ becomes (all_edited es m)
    go true true h = refl
    go true false h = absurd cc
    go false b h = absurd cc

pub ids_left : (m : Module) (k : ℕ) → limit_reason k m ≡ None → m.next + k ≤ most_next
ids_left m k h = go (nat_le (op_count m.tree + k) most_ops) (nat_le (m.next + k) most_next) refl h
  where
    go : (a b : Bool) → nat_le (m.next + k) most_next ≡ b → unless a Full (unless b IdsExhausted None) ≡ None → m.next + k ≤ most_next
    go true true is h = leb-true (m.next + k) most_next is
    go true false is h = absurd cc
    go false b is h = absurd cc

-- ---- properties that stay

module _ {B : Type 0} (meaning : B → Listener) where
  pub applied_none : (a : Benched B) → Applied meaning a a
  applied_none a = record { grows = grows_refl a.transaction.ctx; opens = refl; led = ([], notified_none meaning a) }

  -- edits that weren't begun, since memory ran out
  pub made_none : (es : List Coded) (a : Benched B) → AreMade meaning es (Err Memory) a a
  made_none es a =
      record {
        ok = tt;
        err = refl;
        refused = inl refl;
        along = record { ctx = refl; opens = refl; led = ([], notified_none meaning a) };
        journal = recorded_none a.transaction;
      }

  pub applied_added : (a b : Benched B) → Added meaning a b → Applied meaning a b
  applied_added a b p = record { grows = p.grown.grows; opens = p.grown.marked; led = ([], p.untold) }

  pub applied_along : (a b c : Benched B) → Holds b.transaction.ctx → Added meaning a b → Along meaning b c → Applied meaning a c
  applied_along a b c holds p q =
      record {
        grows = subst (λ (d : ContextModel). IsExtendedBy a.transaction.ctx d) (sym q.ctx) p.grown.grows;
        opens = q.opens ∙ p.grown.marked;
        led = (q.led.0, notified_more meaning [] q.led.0 a b c holds p.untold q.led.1);
      }

  -- the journal after the context grew
  recorded_grown : (es : List Event) (g h k : TransactionModel) → Grown g h → Recorded es h k → Recorded es g k
  recorded_grown es g h k grown r =
      let marks : h.marks ≡ g.marks = ap (λ (k : TransactionModel). k.marks) grown.held in
      let was : h.journal ≡ g.journal = ap (λ (k : TransactionModel). k.journal) grown.held in
      record {
        marks = r.marks ∙ marks;
        journal = r.journal ∙ λ i. all_noted (marks i) (was i) es;
        trailing = λ some n le. r.trailing (λ z. some (sym marks ∙ z)) n (subst (λ (xs : List Event). n ≤ length xs) (sym was) le) ∙ grown.trailing n;
      }

  pub journaled_none : (a : Benched B) → Journaled meaning a a
  journaled_none a = ([], notified_none meaning a, recorded_none a.transaction)

  pub journaled_along : (a b c : Benched B) → Holds b.transaction.ctx → Added meaning a b → Journaled meaning b c → Journaled meaning a c
  journaled_along a b c holds p q = (q.0, notified_more meaning [] q.0 a b c holds p.untold q.1, recorded_grown q.0 a.transaction b.transaction c.transaction p.grown q.2)

  -- nothing was recorded if only the context grew, or if the edits after that were refused
  pub kept_added : (a b : Benched B) → Added meaning a b → Recorded [] a.transaction b.transaction
  kept_added a b p = recorded_grown [] a.transaction b.transaction b.transaction p.grown (recorded_none b.transaction)

  pub kept_along : (a b c : Benched B) → Added meaning a b → Recorded [] b.transaction c.transaction → Recorded [] a.transaction c.transaction
  kept_along a b c p r = recorded_grown [] a.transaction b.transaction c.transaction p.grown r

-- ---- a plan at operation x, if a world shows the module of a rewriter

module _ (w : World) (h : TransactionModel) (ctx : w.ctx ≡ h.ctx) (store : w.store ≡ h.store) (x : ℕ) (p : PlacedPlan) (of : MadeIsOf h.ctx p.made) where
  same_module : module_in w ≡ module_held h
  same_module i = module_meaning (ctx i) (store i).module_of

  abbrev es : List Edit
  es = planned_edits h.ctx (module_held h).next x p

  makes : made_by es ≡ made_makes p.made
  makes = made_counted h.ctx (module_held h).next x p.point p.made of

  pub was_limited : (k : ℕ) (r : Refusal) (reason : Option Refusal) → k ≡ made_makes p.made → reason ≡ limit_reason k (module_in w) → reason ≡ Some r → ApplyFails es (module_held h) h.ctx r
  was_limited k r reason count is due = inr (inl (limited es (module_held h) k r (makes ∙ sym count) (ap (limit_reason k) (sym same_module) ∙ sym is ∙ due)))

  module _ (k : ℕ) (reason : Option Refusal) (count : k ≡ made_makes p.made) (is : reason ≡ limit_reason k (module_in w)) (none : reason ≡ None) (n : ℕ) (next : n ≡ w.store.module_of.next) where
    no_reason : limit_reason k (module_held h) ≡ None
    no_reason = ap (limit_reason k) (sym same_module) ∙ sym is ∙ none

    same_next : (module_held h).next ≡ n
    same_next = ap (λ (m : Module). m.next) (sym same_module) ∙ sym next

    pub has_ids : n + made_makes p.made ≤ most_next
    has_ids = subst (λ (z : ℕ × ℕ). z.0 + z.1 ≤ most_next) (λ i. (same_next i, count i)) (ids_left (module_held h) k no_reason)

    pub was_carried : (g after : TransactionModel) (made : List Edit) → module_held g ≡ module_held h → made ≡ planned_edits h.ctx n x p → module_held after ≡ all_edited made (module_held g) → carried_out es (module_held h) ≡ becomes (module_held after)
    was_carried g after made same due e =
        unlimited es (module_held h) k (makes ∙ sym count) no_reason
        ∙ ap becomes (sym (e ∙ λ i. all_edited ((due ∙ ap (λ j. planned_edits h.ctx j x p) (sym same_next)) i) (same i)))

    -- none of the edits is refused
    pub due_free : IsFree es (module_held h) → (g : TransactionModel) (made : List Edit) → module_held g ≡ module_held h → made ≡ planned_edits h.ctx n x p → Free made (module_held g)
    due_free free g made same due =
        subst (λ (z : List Edit × Module). Free z.0 z.1) (λ i. (sym (due ∙ ap (λ j. planned_edits h.ctx j x p) (sym same_next)) i, sym same i)) (free (all_edited es (module_held h)) (unlimited es (module_held h) k (makes ∙ sym count) no_reason))

    -- the edits are refused only if memory runs out
    pub wanting : IsFree es (module_held h) → (g : TransactionModel) (made : List Edit) (e : Refusal) → module_held g ≡ module_held h → made ≡ planned_edits h.ctx n x p → IsWhy made (module_held g) e → e ≡ Memory
    wanting free g made e same due why =
        free_why es (module_held h) e (free (all_edited es (module_held h)) (unlimited es (module_held h) k (makes ∙ sym count) no_reason))
        (subst (λ (z : List Edit × Module). IsWhy z.0 z.1 e) (λ i. ((due ∙ ap (λ j. planned_edits h.ctx j x p) (sym same_next)) i, same i)) why)

pub no_headroom : (edits : List Edit) (m : Module) (c : ContextModel) (e : Refusal) → IsCapacityRefusal c e → ApplyFails edits m c e
no_headroom edits m c e (inl h) = inl h
no_headroom edits m c e (inr h) = inr (inr h)
