-- Scalar types and memrefs of a plain form aren't opaque.
use Rattle.std.proofs.Common.{◌≡◌, ℕ, Bool, true, false, List, [], ◌∷◌, Some, None, inl, inr, refl, sym, ap, ◌∙◌}
use Rattle.std.specs.List.{AllByRecursion}
use Rattle.std.specs.Str.{bytes_eq}
use Rattle.std.proofs.lemmas.Bool.{cases_Bool}
use Rattle.ir_types.specs.declared.node.TypeNode.{TypeNode}
use Rattle.ir_types.proofs.Growth.{name_is}
use Rattle.ir_text_tokens.specs.Bodies.{is_plain_memref}
use Rattle.ir_text_types.specs.OpaqueTypes.{wide_words, narrow_words, angled_words, is_one_of, is_alone, is_angled, is_opaque_word}
use Rattle.ir_text_types.specs.Scalars.{scalar_of, memref_word}

pub apart : (w k : List ℕ) (node : TypeNode) → scalar_of w ≡ Some node → scalar_of k ≡ None → bytes_eq w k ≡ false
apart w k node e none = elim (cases_Bool (bytes_eq w k)) [
  | inl t ↦ absurd (both (sym e ∙ ap scalar_of (name_is w k t) ∙ none))
  | inr f ↦ f
]
  where
    both : Some node ≡ None → ⊥
    both e = absurd cc

pub none_of : (w : List ℕ) (node : TypeNode) (words : List (List ℕ)) → scalar_of w ≡ Some node → AllByRecursion (λ k. scalar_of k ≡ None) words → is_one_of words w ≡ false
none_of w node [] e h = refl
none_of w node (k ∷ ks) e h = rw (apart w k node e h.0) (none_of w node ks e h.1)

wide_apart : AllByRecursion (λ k. scalar_of k ≡ None) wide_words
unfolding scalar_of
wide_apart = (refl, (refl, (refl, (refl, (refl, (refl, (refl, (refl, tt))))))))

narrow_apart : AllByRecursion (λ k. scalar_of k ≡ None) narrow_words
unfolding scalar_of
narrow_apart = (refl, (refl, (refl, (refl, (refl, (refl, (refl, (refl, (refl, (refl, (refl, tt)))))))))))

angled_apart : AllByRecursion (λ k. scalar_of k ≡ None) angled_words
unfolding scalar_of
angled_apart = (refl, (refl, (refl, (refl, tt))))

memref_apart : scalar_of memref_word ≡ None
unfolding scalar_of
memref_apart = refl

pub scalar_known : (w : List ℕ) (node : TypeNode) (rest : List ℕ) → scalar_of w ≡ Some node → is_opaque_word w rest ≡ false
unfolding is_alone is_angled
scalar_known w node rest e =
    rw (none_of w node wide_words e wide_apart, none_of w node narrow_words e narrow_apart, none_of w node angled_words e angled_apart, apart w memref_word node e memref_apart) refl

pub memref_known : (rest : List ℕ) → is_plain_memref rest ≡ true → is_opaque_word memref_word rest ≡ false
unfolding is_alone is_angled
memref_known rest e = rw e refl
