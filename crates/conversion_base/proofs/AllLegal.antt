-- After a full conversion every operation is legal.
use Rattle.std.proofs.Common.{◌≡◌, refl, ap, sym, ◌∙◌, subst, ℕ, Bool, true, false, cond, ◌&&◌, List, [], ◌∷◌, Option, Some, None}
use Rattle.std.specs.List.{list_all}
use Rattle.ir_event.specs.types.declared.refusal.Refusal.TheVariants.{BadTarget}
use Rattle.ir_event.specs.trees.Ids.{ids}
use Rattle.ir_event.specs.trees.Meaning.{Operation}
use Rattle.ir_event.specs.Modules.{Module}
use Rattle.conversion_base.specs.Targets.{Aim, is_accepted, is_legal}
use Rattle.conversion_base.specs.Conversion.{converted, given_up, all_parts, checked, conversion_of, ended_full, first_illegal}
use Rattle.conversion_base.specs.declared.applied_rule.AppliedRule.{AppliedRule}
use Rattle.conversion_base.proofs.Gone.{ended_before}

all_legal : (g : Aim) (t : Operation) (xs : List ℕ) → first_illegal g t xs ≡ None → list_all (λ x. is_legal g x t) xs ≡ true
all_legal g t [] e = refl
all_legal g t (x ∷ xs) e = go (is_legal g x t) refl (all_legal g t xs) e
  where
    go : (b : Bool) → is_legal g x t ≡ b → (first_illegal g t xs ≡ None → list_all (λ x. is_legal g x t) xs ≡ true) → cond b (first_illegal g t xs) (Some x) ≡ None → (is_legal g x t && list_all (λ x. is_legal g x t) xs) ≡ true
    go true f r e = ap (λ b. b && list_all (λ x. is_legal g x t) xs) f ∙ r e
    go false f r e = absurd cc

legal_then : (g : Aim) (m n : Module) (ks : List AppliedRule) → g.full ≡ true → checked g m ≡ converted n ks → list_all (λ x. is_legal g x n.tree) (ids n.tree) ≡ true
legal_then g m n ks full e = go (first_illegal g m.tree (ids m.tree)) refl (sym (ap (λ b. cond b (ended_full (first_illegal g m.tree (ids m.tree)) m) (converted m [])) full) ∙ e)
  where
    go : (o : Option ℕ) → first_illegal g m.tree (ids m.tree) ≡ o → ended_full o m ≡ converted n ks → list_all (λ x. is_legal g x n.tree) (ids n.tree) ≡ true
    go None f e = (let same : m ≡ n = cc in subst (λ (p : Module). list_all (λ x. is_legal g x p.tree) (ids p.tree) ≡ true) same (all_legal g m.tree (ids m.tree) f))
    go (Some x) f e = absurd cc

pub full_is_legal : (g : Aim) (m n : Module) (ks : List AppliedRule) → g.full ≡ true → conversion_of g m ≡ converted n ks → list_all (λ x. is_legal g x n.tree) (ids n.tree) ≡ true
full_is_legal g m n ks full e = go (is_accepted g) e
  where
    go : (b : Bool) → cond b (all_parts g m) (given_up BadTarget None) ≡ converted n ks → list_all (λ x. is_legal g x n.tree) (ids n.tree) ≡ true
    go true e = (let s = ended_before (checked g) _ n ks e in legal_then g s.0 n s.3 full s.4)
    go false e = absurd cc
