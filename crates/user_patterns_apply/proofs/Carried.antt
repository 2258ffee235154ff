-- The result of carrying out a rewrite plan.
use Rattle.std.proofs.Common.{◌≡◌, ap, sym, ◌∙◌, subst, ℕ, List, length, map, Option, Some, None, inl, inr}
use Rattle.std.proofs.lemmas.List.{length-map}
use Rattle.ir_event.specs.types.declared.refusal.Refusal.{Refusal}
use Rattle.ir_event.specs.types.declared.refusal.Refusal.TheVariants.{Memory}
use Rattle.ir_event.specs.Modules.{Module, module_in}
use Rattle.ir_event.specs.declared.world.World.{World}
use Rattle.patterns_lowering.specs.Contents.{Edit, all_edited}
use Rattle.patterns_lowering.specs.Held.{TransactionModel, module_held}
use Rattle.patterns_lowering.specs.Lists.{IsWhy}
use Rattle.patterns_base.specs.Makes.{made_by}
use Rattle.patterns_base.specs.Rewrites.{becomes, carried_out}
use Rattle.patterns.specs.Applied.{limit_reason}
use Rattle.patterns.specs.Planned.{IsFree, ApplyFails}
use Rattle.patterns.proofs.Applying.{same_module}
use Rattle.patterns.proofs.Carrying.{limited, unlimited}
use Rattle.user_patterns_apply.specs.Built.{made_in, operand_in}
use Rattle.user_patterns_apply.specs.Planned.{planned_edits}
use Rattle.user_patterns_apply.specs.declared.match_pattern.PlacedBuild.{PlacedBuild}
use Rattle.user_patterns_apply.proofs.Accepted.{many_made}
use Rattle.patterns_base.proofs.Free.{free_why}

module _ (w : World) (h : TransactionModel) (ctx : w.ctx ≡ h.ctx) (store : w.store ≡ h.store) (x : ℕ) (p : PlacedBuild) where
  same : module_in w ≡ module_held h
  same = same_module w h ctx store x

  abbrev es : List Edit
  es = planned_edits h.ctx (module_held h).next x p

  makes : made_by es ≡ length p.built.made.items
  makes = many_made p.point (map (made_in h.ctx (module_held h).next) p.built.made.items) x (operand_in (module_held h).next p.built.result) ∙ length-map p.built.made.items (made_in h.ctx (module_held h).next)

  pub was_limited : (k : ℕ) (r : Refusal) (reason : Option Refusal) → k ≡ length p.built.made.items → reason ≡ limit_reason k (module_in w) → reason ≡ Some r → ApplyFails (planned_edits h.ctx (module_held h).next x p) (module_held h) h.ctx r
  was_limited k r reason count is due = inr (inl (limited es (module_held h) k r (makes ∙ sym count) (ap (limit_reason k) (sym same) ∙ sym is ∙ due)))

  module _ (k : ℕ) (reason : Option Refusal) (count : k ≡ length p.built.made.items) (is : reason ≡ limit_reason k (module_in w)) (none : reason ≡ None) (n : ℕ) (next : n ≡ w.store.module_of.next) where
    no_reason : limit_reason k (module_held h) ≡ None
    no_reason = ap (limit_reason k) (sym same) ∙ sym is ∙ none

    same_next : (module_held h).next ≡ n
    same_next = ap (λ (m : Module). m.next) (sym same) ∙ sym next

    pub was_carried : (g after : TransactionModel) (made : List Edit) → module_held g ≡ module_held h → made ≡ planned_edits h.ctx n x p → module_held after ≡ all_edited made (module_held g) → carried_out (planned_edits h.ctx (module_held h).next x p) (module_held h) ≡ becomes (module_held after)
    was_carried g after made stays due e =
        unlimited es (module_held h) k (makes ∙ sym count) no_reason
        ∙ ap becomes (sym (e ∙ λ i. all_edited ((due ∙ ap (λ j. planned_edits h.ctx j x p) (sym same_next)) i) (stays i)))

    -- the edits are refused only if memory runs out
    pub wanting : IsFree (planned_edits h.ctx (module_held h).next x p) (module_held h) → (g : TransactionModel) (made : List Edit) (e : Refusal) → module_held g ≡ module_held h → made ≡ planned_edits h.ctx n x p → IsWhy made (module_held g) e → e ≡ Memory
    wanting free g made e stays due why =
        free_why es (module_held h) e (free (all_edited es (module_held h)) (unlimited es (module_held h) k (makes ∙ sym count) no_reason))
        (subst (λ (z : List Edit × Module). IsWhy z.0 z.1 e) (λ i. ((due ∙ ap (λ j. planned_edits h.ctx j x p) (sym same_next)) i, stays i)) why)
