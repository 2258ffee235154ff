-- A word that begins a type begins no other attribute.
use Rattle.std.proofs.Common.{◌≡◌, ℕ, suc, Bool, true, false, List, [], ◌∷◌, Some, None, inl, inr, refl, sym, subst}
use Rattle.std.specs.Prelude.{◌⊎◌, ◌&&◌, ◌||◌, not}
use Rattle.std.specs.List.{AllByRecursion}
use Rattle.std.specs.Str.{bytes_eq}
use Rattle.std.proofs.lemmas.Bool.{and_parts, or_cases}
use Rattle.ir_types.specs.declared.node.TypeNode.{TypeNode}
use Rattle.ir_types.specs.Terms.{TypeTerm, AttrTerm}
use Rattle.ir_types.proofs.Growth.{name_is}
use Rattle.ir_text_tokens.specs.Bodies.{is_plain_memref}
use Rattle.ir_text_types.specs.Grammars.{Grammar, Token}
use Rattle.ir_text_types.specs.OpaqueTypes.{wide_words, narrow_words, angled_words, is_one_of, is_alone, is_angled, is_opaque_word}
use Rattle.ir_text_types.specs.Scalars.{scalar_of, memref_word}
use Rattle.ir_text_types.specs.TypeGrammar.{IsWordFrom}
use Rattle.ir_text_tokens.specs.Tokens.{bare}
use Rattle.ir_text_attributes.specs.OpaqueAttributes.{typed_words, bodied_words, distinct_word, location_word, tail_of, tail_in}
use Rattle.ir_text_attributes.specs.Literals.{TypeWord, word_of, true_word, false_word, unit_word, array_word}
use Rattle.ir_text_attributes.specs.AttrGrammar.{IsWordAttr, IsBare, IsAttrFrom, IsAttr}
use Rattle.ir_text_modules.proofs.Known.{apart, none_of}

abbrev pub IsTypeWord : List ℕ → Type 0
IsTypeWord w = (tail_of w ≡ None) × (word_of w ≡ TypeWord)

among_step : (k : List ℕ) (ks : List (List ℕ)) (w : List ℕ) → IsTypeWord k → (is_one_of ks w ≡ true → IsTypeWord w) → (bytes_eq w k ≡ true) ⊎ (is_one_of ks w ≡ true) → IsTypeWord w
among_step k ks w h next (inl t) = subst IsTypeWord (sym (name_is w k t)) h
among_step k ks w h next (inr t) = next t

among : (words : List (List ℕ)) (w : List ℕ) → AllByRecursion IsTypeWord words → is_one_of words w ≡ true → IsTypeWord w
among [] w h e = absurd cc
among (k ∷ ks) w h e = among_step k ks w h.0 (among ks w h.1) (or_cases (bytes_eq w k) (is_one_of ks w) e)

wide_types : AllByRecursion IsTypeWord wide_words
unfolding tail_of
wide_types = ((refl, refl), ((refl, refl), ((refl, refl), ((refl, refl), ((refl, refl), ((refl, refl), ((refl, refl), ((refl, refl), tt))))))))

narrow_types : AllByRecursion IsTypeWord narrow_words
unfolding tail_of
narrow_types = ((refl, refl), ((refl, refl), ((refl, refl), ((refl, refl), ((refl, refl), ((refl, refl), ((refl, refl), ((refl, refl), ((refl, refl), ((refl, refl), ((refl, refl), tt)))))))))))

angled_types : AllByRecursion IsTypeWord angled_words
unfolding tail_of
angled_types = ((refl, refl), ((refl, refl), ((refl, refl), ((refl, refl), tt))))

memref_types : IsTypeWord memref_word
unfolding tail_of
memref_types = (refl, refl)

opaque_types : (w rest : List ℕ) → is_opaque_word w rest ≡ true → IsTypeWord w
unfolding is_alone is_angled
opaque_types w rest e = from (or_cases (is_alone w || is_angled w) (bytes_eq w memref_word && not (is_plain_memref rest)) e)
  where
    alone : (is_one_of wide_words w ≡ true) ⊎ (is_one_of narrow_words w ≡ true) → IsTypeWord w
    alone (inl t) = among wide_words w wide_types t
    alone (inr t) = among narrow_words w narrow_types t

    either : (is_alone w ≡ true) ⊎ (is_angled w ≡ true) → IsTypeWord w
    either (inl t) = alone (or_cases (is_one_of wide_words w) (is_one_of narrow_words w) t)
    either (inr t) = among angled_words w angled_types t

    from : ((is_alone w || is_angled w) ≡ true) ⊎ ((bytes_eq w memref_word && not (is_plain_memref rest)) ≡ true) → IsTypeWord w
    from (inl t) = either (or_cases (is_alone w) (is_angled w) t)
    from (inr t) = subst IsTypeWord (sym (name_is w memref_word (and_parts (bytes_eq w memref_word) (not (is_plain_memref rest)) t).0)) memref_types

typed_apart : AllByRecursion (λ k. scalar_of k ≡ None) typed_words
unfolding scalar_of
typed_apart = (refl, (refl, (refl, tt)))

bodied_apart : AllByRecursion (λ k. scalar_of k ≡ None) bodied_words
unfolding scalar_of
bodied_apart = (refl, (refl, (refl, tt)))

others_apart : (scalar_of distinct_word ≡ None) × (scalar_of location_word ≡ None) × (scalar_of true_word ≡ None) × (scalar_of false_word ≡ None) × (scalar_of unit_word ≡ None) × (scalar_of array_word ≡ None)
unfolding scalar_of
others_apart = (refl, refl, refl, refl, refl, refl)

scalar_types : (w : List ℕ) (node : TypeNode) → scalar_of w ≡ Some node → IsTypeWord w
unfolding tail_of
scalar_types w node e = (
  rw (none_of w node typed_words e typed_apart, none_of w node bodied_words e bodied_apart, apart w distinct_word node e others_apart.0, apart w location_word node e others_apart.1) refl,
  rw (apart w true_word node e others_apart.2, apart w false_word node e others_apart.3, apart w unit_word node e others_apart.4, apart w array_word node e others_apart.5) refl,
)

pub type_word : (o : Bool) (M : Grammar (List ℕ) TypeTerm) (w : List ℕ) (y : TypeTerm) (rest new : List ℕ) → IsWordFrom M (o && is_opaque_word w rest) (bytes_eq w memref_word) w y rest new → IsTypeWord w
type_word o M w y rest new h = by (o && is_opaque_word w rest) refl (bytes_eq w memref_word) refl h
  where
    by : (b : Bool) → (o && is_opaque_word w rest) ≡ b → (m : Bool) → bytes_eq w memref_word ≡ m → IsWordFrom M b m w y rest new → IsTypeWord w
    by true e m t k = opaque_types w rest (and_parts o (is_opaque_word w rest) e).1
    by false e true t k = subst IsTypeWord (sym (name_is w memref_word t)) memref_types
    by false e false t k = scalar_types w k.0 k.1

-- ---- after a word that begins no opaque attribute

abbrev pub IsAfterWord : Bool → ℕ → List ℕ → List ℕ → AttrTerm → List ℕ → List ℕ → Type 0
IsAfterWord o depth w rest y old new = IsAttrFrom o depth (IsAttr o depth) (bare w) rest y old new

pub word_after : (o : Bool) (depth : ℕ) (w rest : List ℕ) (y : AttrTerm) (old new : List ℕ) → tail_of w ≡ None → IsWordAttr o (suc depth) (word_of w) rest y old new → IsAfterWord o depth w rest y old new
word_after false depth w rest y old new e h = h
word_after true depth w rest y old new e h = subst (λ t. IsBare true (suc depth) t w rest y old new) (sym e) h
