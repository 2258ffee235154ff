-- The entries of a map.
use Rattle.std.proofs.Common.{◌≡◌, refl, ap, sym, ◌∙◌, ℕ, cond, eq-eqb, eqb-true, List, [], ◌∷◌, Option, Some, None, inl, inr}
use Rattle.std.specs.List.Sorted.{IsStrictlySortedBy}
use Rattle.std.specs.Ordering.{nat_cmp, is_eq}
use Rattle.std.specs.Map.{lookup, keys_of}
use Rattle.std.specs.BTreeMap.{is_at}
use Rattle.ir_event.specs.tree_laws.Members.{In}
use Rattle.ir_event.proofs.of_tree_laws.Listed.{bool_cases}
use Rattle.listeners_symbols.specs.declared.role.Role.{Role as Numbers}
use Rattle.listeners_symbols.proofs.Reported.{Each, look_above}
use Rattle.ir_event.proofs.of_types.Truths.{same_test}

-- a property of what each key finds is a property of each entry
pub each_entry : (P : ℕ → Numbers → Type 0) (es : List (ℕ × Numbers)) → IsStrictlySortedBy nat_cmp (keys_of es) → ((q : ℕ) (r : Numbers) → lookup (is_at (nat_cmp q)) es ≡ Some r → P q r) → Each (λ (e : ℕ × Numbers). P e.0 e.1) es
unfolding IsStrictlySortedBy
each_entry P [] s h = tt
each_entry P (e ∷ es) s h = (h e.0 e.1 (ap (λ z. cond z (Some e.1) (lookup (is_at (nat_cmp e.0)) es)) (same_test e.0 e.0 ∙ eq-eqb e.0 e.0 refl)), each_entry P es s.1 later)
  where
    later : (q : ℕ) (r : Numbers) → lookup (is_at (nat_cmp q)) es ≡ Some r → P q r
    later q r i = elim (bool_cases (is_eq (nat_cmp q e.0))) [
      | inr k ↦ h q r (ap (λ z. cond z (Some e.1) (lookup (is_at (nat_cmp q)) es)) k ∙ i)
      | inl k ↦ (let same = eqb-true q e.0 (sym (same_test q e.0) ∙ k) in
          let bad : None ≡ Some r = sym (look_above e.0 es s.0) ∙ ap (λ z. lookup (is_at (nat_cmp z)) es) (sym same) ∙ i in
          absurd cc)
    ]

-- a key that finds an entry is one of the keys
pub found_key : (y : ℕ) (r : Numbers) (es : List (ℕ × Numbers)) → lookup (is_at (nat_cmp y)) es ≡ Some r → In y (keys_of es)
found_key y r [] e = absurd cc
found_key y r (a ∷ es) e = elim (bool_cases (is_eq (nat_cmp y a.0))) [
  | inl k ↦ inl (eqb-true y a.0 (sym (same_test y a.0) ∙ k))
  | inr k ↦ inr (found_key y r es (sym (ap (λ z. cond z (Some a.1) (lookup (is_at (nat_cmp y)) es)) k) ∙ e))
]
