-- The result of applying a rule.
use Rattle.std.proofs.Common.{◌≡◌, ◌≢◌, refl, ap, sym, ◌∙◌, subst, ℕ, List, Bool, true, false, Option, Some, None, option_map, inl, inr}
use Rattle.ir_event.specs.types.Things.{ContextModel}
use Rattle.ir_event.specs.types.Terms.{name_term, type_term, attr_term}
use Rattle.ir_event.specs.types.declared.refusal.Refusal.{Refusal}
use Rattle.ir_event.specs.types.declared.refusal.Refusal.TheVariants.{NoSuchOp, Full, IdsExhausted}
use Rattle.std.specs.Prelude.{nat_le, ◌+◌, if◌then◌else◌}
use Rattle.ir_event.specs.trees.Ids.{has_id, op_count}
use Rattle.ir_event.specs.trees.Limits.{most_ops, most_next}
use Rattle.ir_event.proofs.of_tree_laws.Contents.{map_has_id}
use Rattle.ir_event.specs.Modules.{Module, module_in, module_meaning}
use Rattle.ir_event.specs.declared.world.World.{World}
use Rattle.patterns_lowering.specs.Contents.{Edit, all_edited}
use Rattle.patterns_lowering.specs.Held.{TransactionModel, module_held}
use Rattle.patterns_soundness.specs.base.Makes.{made_by}
use Rattle.patterns_soundness.specs.base.declared.rule.Rule.{Rule}
use Rattle.patterns_soundness.specs.base.Rewrites.{Rewrite, none, refused, becomes, edits_of, rewrite_of, rewrite_by, carried_out}
use Rattle.patterns.specs.Applied.{RewriteOutcome, IsReason, IsRefusedSo}
use Rattle.patterns.specs.Planned.{ApplyFails}
use Rattle.patterns_soundness.proofs.of_base.Facts.{rewrite_is}

-- a rewrite that is carried out, and one that isn't
pub gave : (w : Rewrite) (m n : Module) → w ≡ becomes n → RewriteOutcome w true m n
gave w m n e = subst (λ a. RewriteOutcome a true m n) (sym e) (refl, refl)

-- edits make a rewrite or are refused
some_rewrite : (es : List Edit) (m : Module) → carried_out es m ≢ none
some_rewrite es m = go (nat_le (op_count m.tree + made_by es) most_ops) (nat_le (m.next + made_by es) most_next)
  where
    go : (a b : Bool) → (if a then (if b then becomes (all_edited es m) else refused IdsExhausted) else refused Full) ≢ none
    go true true = λ e. cc
    go true false = λ e. cc
    go false b = λ e. cc

pub aborted : (w : Rewrite) (es : List Edit) (x : ℕ) (m : Module) (c : ContextModel) (e : Refusal) → w ≡ carried_out es m → ApplyFails es m c e → IsReason w x m c e
aborted w es x m c e is (inl h) = inl h
aborted w es x m c e is (inr (inl h)) = inr (inr (inl (subst (λ a. IsRefusedSo a e) (sym (is ∙ h)) refl)))
aborted w es x m c e is (inr (inr h)) = inr (inr (inr (h.0, (λ n. some_rewrite es m (sym is ∙ n), h.1))))

-- ---- the world of a rewriter and its transaction

module _ (w : World) (h : TransactionModel) (ctx : w.ctx ≡ h.ctx) (store : w.store ≡ h.store) (x : ℕ) where
  pub same_module : module_in w ≡ module_held h
  same_module i = module_meaning (ctx i) (store i).module_of

  -- an operation that isn't in the module isn't in the store
  pub is_there : (b : Bool) → b ≡ has_id x w.store.module_of.tree → b ≡ true → has_id x (module_held h).tree ≡ false → ⊥
  is_there b e is gone =
      let n : true ≡ false = sym is ∙ e ∙ sym (map_has_id (name_term w.ctx) (type_term w.ctx) (attr_term w.ctx) x w.store.module_of.tree) ∙ ap (λ (m : Module). has_id x m.tree) same_module ∙ gone in
      absurd cc

  pub not_there : (rewrite : Rewrite) (c : ContextModel) (b : Bool) → b ≡ has_id x w.store.module_of.tree → b ≡ false → IsReason rewrite x (module_held h) c NoSuchOp
  not_there rewrite c b e n = inr (inl (refl, ap (λ (m : Module). has_id x m.tree) (sym same_module) ∙ map_has_id (name_term w.ctx) (type_term w.ctx) (attr_term w.ctx) x w.store.module_of.tree ∙ sym e ∙ n))

  -- the plan that was found for a rule, if the plan means the rule's edits
  module _ {P : Type 0} (edits : ContextModel → ℕ → P → List Edit) (r : Rule) (p : Option P) (is : option_map (edits w.ctx (module_in w).next) p ≡ edits_of r (module_in w) x) where
    rewritten : rewrite_of r (module_held h) x ≡ rewrite_by (option_map (edits w.ctx (module_in w).next) p) (module_held h)
    rewritten = rewrite_is r (module_held h) x ∙ ap (λ m. rewrite_by (edits_of r m x) (module_held h)) (sym same_module) ∙ ap (λ q. rewrite_by q (module_held h)) (sym is)

    pub was_none : p ≡ None → RewriteOutcome (rewrite_of r (module_held h) x) false (module_held h) (module_held h)
    was_none n =
        subst (λ a. RewriteOutcome a false (module_held h) (module_held h))
        (sym (rewritten ∙ ap (λ q. rewrite_by (option_map (edits w.ctx (module_in w).next) q) (module_held h)) n))
        (refl, refl)

    pub rewrite_due : (q : P) → p ≡ Some q → rewrite_of r (module_held h) x ≡ carried_out (edits h.ctx (module_held h).next q) (module_held h)
    rewrite_due q found =
        rewritten ∙ ap (λ q. rewrite_by (option_map (edits w.ctx (module_in w).next) q) (module_held h)) found
        ∙ λ i. carried_out (edits (ctx i) (same_module i).next q) (module_held h)

    pub edits_due : (q : P) → p ≡ Some q → edits_of r (module_held h) x ≡ Some (edits h.ctx (module_held h).next q)
    edits_due q found =
        ap (λ m. edits_of r m x) (sym same_module) ∙ sym is ∙ ap (option_map (edits w.ctx (module_in w).next)) found
        ∙ λ i. Some (edits (ctx i) (same_module i).next q)
