-- The order of the keys of a context, by their bytes.
use Rattle.std.proofs.Common.{◌≡◌, ℕ, List, [], ◌∷◌, refl, sym, ap, ◌∙◌, Bool, true, false, eqb, ◌&&◌, ◌||◌, not, ⊎_elim, Some}
use Rattle.std.specs.Prelude.{is_some}
use Rattle.std.proofs.lemmas.Bool.{ne_eqb, false≢true, cases_Bool, cond-true, cond-false, and_parts}
use Rattle.ir_tree_laws.specs.types.Things.{ContextModel}
use Rattle.ir_tree_laws.specs.types.Terms.{name_term}
use Rattle.ir_tree_laws.specs.trees.Edits.{entry_at, same_key}
use Rattle.ir_tree_laws.specs.trees.Meaning.{key_before_in, rises, rises_after}
use Rattle.ir_tree_laws.proofs.Keys.{keys_ordered, key_before_trans}
use Rattle.ir_store_arena.specs.Slots.{has_key}

-- the order of keys is irreflexive and transitive
pub record Order (before : ℕ → ℕ → Bool) : Type 0 where
  pub irr : (k : ℕ) → before k k ≡ false
  pub trans : (k l m : ℕ) → before k l ≡ true → before l m ≡ true → before k m ≡ true

pub context_order : (c : ContextModel) → Order (key_before_in c)
context_order c = record { irr = λ k. keys_ordered.irr (name_term c k); trans = key_before_trans c }

module _ (before : ℕ → ℕ → Bool) (o : Order before) where
  -- two keys of which one is before the other are different
  pub apart : (k l : ℕ) → before l k ≡ true → eqb l k ≡ false
  apart k l e = ne_eqb l k (λ z. false≢true (sym (o.irr k) ∙ ap (λ w. before w k) (sym z) ∙ e))

  pub apart' : (k l : ℕ) → before k l ≡ true → eqb l k ≡ false
  apart' k l e = ne_eqb l k (λ z. false≢true (sym (o.irr k) ∙ ap (before k) (sym z) ∙ e))

  pub same_is : (k l : ℕ) → same_key before k l ≡ false → eqb l k ≡ false
  same_is k l e = ne_eqb l k (λ z. false≢true (sym e ∙ ap (λ w. not (before k w) && not (before w k)) z ∙ ap (λ b. not b && not b) (o.irr k)))

  -- a key of the dictionary has an attribute
  pub present_has : (k : ℕ) (es : List (ℕ × ℕ)) → has_key k es ≡ true → is_some (entry_at before k es) ≡ true
  present_has k [] h = absurd (false≢true h)
  present_has k (e ∷ es) h = ⊎_elim
      (λ y. ap is_some (cond-true (same_key before k e.0) (Some e.1) (entry_at before k es) y))
      (λ n. ap is_some (cond-false (same_key before k e.0) (Some e.1) (entry_at before k es) n) ∙ present_has k es (ap (λ b. b || has_key k es) (sym (same_is k e.0 n)) ∙ h))
      (cases_Bool (same_key before k e.0))

  -- a key before the first key of a dictionary isn't in it
  pub none_after : (k l : ℕ) (es : List (ℕ × ℕ)) → before k l ≡ true → rises_after before l es ≡ true → has_key k es ≡ false
  none_after k l [] e r = refl
  none_after k l (x ∷ es) e r =
      let b = and_parts (before l x.0) (rises_after before x.0 es) r in
      let here = o.trans k l x.0 e b.0 in
      ap (λ z. z || has_key k es) (apart' k x.0 here) ∙ none_after k x.0 es here b.1

pub rises_rest : (before : ℕ → ℕ → Bool) (e : ℕ × ℕ) (es : List (ℕ × ℕ)) → rises before (e ∷ es) ≡ true → rises before es ≡ true
rises_rest before e [] r = refl
rises_rest before e (x ∷ es) r = (and_parts (before e.0 x.0) (rises_after before x.0 es) r).1
