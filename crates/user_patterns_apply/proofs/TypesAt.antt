-- Types of values at places, by the numbers of a context.
use Rattle.std.proofs.Common.{◌≡◌, ℕ, refl, ap, sym, ◌∙◌, subst, Bool, false, Option, Some, None}
use Rattle.std.specs.Prelude.{option_map}
use Rattle.ir_event.specs.types.Things.{ContextModel}
use Rattle.ir_event.specs.types.Terms.{TypeTerm, name_term, type_term, attr_term}
use Rattle.ir_event.specs.types.SameTypes.{same_type}
use Rattle.ir_event.specs.trees.declared.value.Value.{Value}
use Rattle.ir_event.specs.trees.Tree.{Op}
use Rattle.ir_event.specs.trees.Meaning.{meaning}
use Rattle.ir_event.specs.tree_laws.Values.{type_of_value}
use Rattle.ir_event.proofs.of_tree_laws.Contents.{map_type_of_value}
use Rattle.user_patterns_check.specs.Outcomes.{given}
use Rattle.user_patterns_data.specs.Matching.{Header, BoundValues, bound, binding_at, type_at}
use Rattle.user_patterns_apply.specs.Stands.{Stands}

module _ (c : ContextModel) (t : Op) (verified : Header → Bool) (k n : ℕ) (b : BoundValues Value) (ts new : BoundValues TypeTerm) (v : Value) (at : Some v ≡ binding_at k b) where
  here : (o : Option ℕ) → o ≡ type_of_value v t → type_at (meaning c t) verified k n b ts ≡ given (option_map (type_term c) o) (λ term. bound same_type n term ts)
  here o e =
      ap (λ s. given s (λ v. given (type_of_value v (meaning c t)) (λ term. bound same_type n term ts))) (sym at)
      ∙ ap (λ s. given s (λ term. bound same_type n term ts)) (map_type_of_value (name_term c) (type_term c) (attr_term c) v t ∙ ap (option_map (type_term c)) (sym e))

  pub untyped : None ≡ type_of_value v t → Stands (type_at (meaning c t) verified k n b ts) new false
  untyped e = subst (λ z. Stands z new false) (sym (here None e)) refl

  pub typed_by : (m : ℕ) → Some m ≡ type_of_value v t → (r : Bool) → Stands (bound same_type n (type_term c m) ts) new r → Stands (type_at (meaning c t) verified k n b ts) new r
  typed_by m e r s = subst (λ z. Stands z new r) (sym (here (Some m) e)) s
