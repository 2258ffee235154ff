-- Found references are identified by their attributes.
use Rattle.std.proofs.Common.{◌≡◌, refl, ap, sym, ◌∙◌, subst, ℕ, Bool, true, false, true≢false, cond, ◌||◌, eqb, eq-eqb, eqb-true, List, [], ◌∷◌, ◌++◌, map, inl, inr}
use Rattle.std.specs.List.{All, list_any}
use Rattle.std.specs.Ordering.{nat_cmp}
use Rattle.std.specs.Bool.{Decides}
use Rattle.std.specs.Str.{bytes_eq}
use Rattle.std.specs.Cmp.Lexicographic.{pointwise, pointwise_decides, bytes_decides}
use Rattle.std.specs.BTreeMap.{is_at}
use Rattle.std.specs.BTreeSet.{contains}
use Rattle.std.proofs.lemmas.List.Elements.{All-push, All-head, All-tail}
use Rattle.std.proofs.lemmas.List.Folds.{list_any-append}
use Rattle.ir_event.specs.types.Things.{ContextModel, IsAttr}
use Rattle.ir_event.specs.types.Terms.{AttrTerm, Symbol, attr_term, name_term}
use Rattle.ir_event.specs.types.Sound.{IsSound}
use Rattle.ir_event.proofs.of_types.Terms.{attr_term_one}
use Rattle.ir_event.proofs.of_tree_laws.Listed.{bool_cases}
use Rattle.listeners_symbols.specs.declared.role.Reference.{Reference}
use Rattle.listeners_symbols.specs.declared.references.FoundReferences.{FoundReferences}
use Rattle.listeners_symbols.specs.Roles.{has_parts}
use Rattle.listeners_symbols.specs.Table.{reference_meaning, ReferenceIsOf}
use Rattle.listeners_symbols.specs.Found.{found_meaning, HasItsParts, IsFound}
use Rattle.ir_event.proofs.of_types.Truths.{same_test}

parts_decide : (xs ys : List (List ℕ)) → Decides (pointwise bytes_eq xs ys) (xs ≡ ys)
parts_decide = pointwise_decides bytes_decides

abbrev parts_in : AttrTerm → List (List ℕ)
parts_in (Symbol parts) = parts
parts_in _ = []

module _ (c : ContextModel) (a : ℕ) (parts : List (List ℕ)) (sound : IsSound c) (is : IsAttr c a) (symbol : attr_term c a ≡ Symbol parts) where
  -- a reference is this attribute if it has its parts
  one_attribute : (p : Reference) → ReferenceIsOf c p → HasItsParts c p → eqb p.path a ≡ has_parts parts (reference_meaning c p)
  one_attribute p k h = go (has_parts parts (reference_meaning c p)) refl
    where
      decide : Decides (has_parts parts (reference_meaning c p)) (parts ≡ map (name_term c) p.parts.items)
      decide = parts_decide parts (map (name_term c) p.parts.items)

      go : (b : Bool) → has_parts parts (reference_meaning c p) ≡ b → eqb p.path a ≡ has_parts parts (reference_meaning c p)
      go true e = eq-eqb p.path a (attr_term_one c p.path a sound k.path is (h ∙ ap Symbol (sym (decide.0 e)) ∙ sym symbol)) ∙ sym e
      go false e = elim (bool_cases (eqb p.path a)) [
        | inr f ↦ f ∙ sym e
        | inl f ↦ absurd (true≢false (sym (decide.1 (ap parts_in (sym symbol ∙ ap (attr_term c) (sym (eqb-true p.path a f)) ∙ h))) ∙ e))
      ]

  among : (ps : List Reference) → All (ReferenceIsOf c) ps → All (HasItsParts c) ps → list_any (λ p. eqb p.path a) ps ≡ list_any (has_parts parts) (map (reference_meaning c) ps)
  among [] h k = refl
  among (p ∷ ps) h k = λ i. one_attribute p (All-head (ReferenceIsOf c) p ps h) (All-head (HasItsParts c) p ps k) i || among ps (All-tail (ReferenceIsOf c) p ps h) (All-tail (HasItsParts c) p ps k) i

  -- a reference with these parts was found if this attribute was seen
  pub seen_among : (f : FoundReferences) → IsFound c f → contains nat_cmp f.seen a ≡ list_any (has_parts parts) (found_meaning c f)
  seen_among f h = h.seen a ∙ among f.list.items h.known h.parts

either_way : (t b : Bool) → cond t true b ≡ (b || (t || false))
either_way true true = refl
either_way true false = refl
either_way false true = refl
either_way false false = refl

-- one more reference, whose attribute is seen
pub added_found : (c : ContextModel) (f g : FoundReferences) (p : Reference) → IsFound c f → ReferenceIsOf c p → HasItsParts c p → g.list.items ≡ f.list.items ++ p ∷ []
    → ((q : ℕ) → contains nat_cmp g.seen q ≡ cond (is_at (nat_cmp p.path) q) true (contains nat_cmp f.seen q)) → IsFound c g
added_found c f g p h k i e up = record {
  known = subst (All (ReferenceIsOf c)) (sym e) (All-push (ReferenceIsOf c) f.list.items p h.known k);
  parts = subst (All (HasItsParts c)) (sym e) (All-push (HasItsParts c) f.list.items p h.parts i);
  seen = λ q.
      up q
      ∙ (λ j. cond (same_test p.path q j) true (h.seen q j))
      ∙ either_way (eqb p.path q) (list_any (λ r. eqb r.path q) f.list.items)
      ∙ sym (list_any-append (λ r. eqb r.path q) f.list.items (p ∷ []))
      ∙ ap (list_any (λ r. eqb r.path q)) (sym e);
}
