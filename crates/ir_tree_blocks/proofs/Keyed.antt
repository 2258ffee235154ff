-- Keys of dictionaries, and attributes that a context doesn't have.
use Rattle.std.proofs.Common.{◌≡◌, refl, ap, sym, ◌∙◌, ℕ, ◌≤◌, Bool, true, false, true≢false, not, ◌&&◌, List, length, inl, inr}
use Rattle.std.proofs.lemmas.Bool.{cases_Bool as bool_cases, cases_lt}
use Rattle.std.proofs.Math.ListN.{get_or-eq_default}
use Rattle.std.specs.Prelude.{IsTrue, ◌↔◌}
use Rattle.std.specs.Str.{bytes_eq}
use Rattle.ir_types.specs.Things.{ContextModel, IsAttr}
use Rattle.ir_types.specs.Terms.{Flag, attr_term, attr_terms}
use Rattle.ir_types.proofs.Terms.{length-attr_terms}
use Rattle.ir_types.proofs.Growth.{name_refl, name_is}
use Rattle.ir_tree.specs.Meaning.{key_before}
use Rattle.ir_tree.specs.Edits.{same_key}
use Rattle.ir_tree_laws.proofs.Keys.{keys_ordered}

-- two keys are equal in the order of keys exactly if their bytes are
same_from : (p q : Bool) → (p ≡ false → q ≡ false → ⊥) → (not p && not q) ≡ false
same_from true q apart = refl
same_from false true apart = refl
same_from false false apart = absurd (apart refl refl)

pub key_is : (k l : List ℕ) → bytes_eq l k ≡ same_key key_before k l
key_is k l = elim (bool_cases (bytes_eq l k)) [
  | inl e ↦ let s : l ≡ k = name_is l k e in e ∙ sym (ap (λ m. same_key key_before k m) s ∙ (λ i. not (keys_ordered.irr k i) && not (keys_ordered.irr k i)))
  | inr e ↦ e ∙ sym (same_from (key_before k l) (key_before l k) (λ p q. true≢false (sym (ap (λ m. bytes_eq l m) (keys_ordered.exact k l p q) ∙ name_refl l) ∙ e)))
]

-- the meaning of an id that is no attribute's
pub absent : (b : Bool) (c : ContextModel) (a : ℕ) → IsTrue b ↔ IsAttr c a → b ≡ false → attr_term c a ≡ Flag
absent b c a is e = get_or-eq_default (attr_terms c) Flag (rw (length-attr_terms c) (elim (cases_lt a (length c.attrs)) [
  | inl l ↦ absurd (true≢false (sym (is.1 l) ∙ e))
  | inr l ↦ l
]))
