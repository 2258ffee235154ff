-- A new context has the words.
use Rattle.std.proofs.Common.{◌≡◌, ◌∙◌, refl, sym, ap, subst, ℕ, Bool, zero, suc, ◌+◌, cond, List, [], ◌∷◌, ◌++◌, length, map, take, slice_get, Some, arith}
use Rattle.std.specs.List.{list_any}
use Rattle.std.specs.Str.{bytes_eq}
use Rattle.ir_types_interner.specs.Interned.{with_last}
use Rattle.ir_types.specs.declared.node.TypeNode.{TypeNode}
use Rattle.ir_types.specs.declared.node.AttrNode.{AttrNode}
use Rattle.ir_types.specs.Words.{words}
use Rattle.ir_types.specs.Held.{things_of, IsKeptWithDepths}
use Rattle.ir_types.proofs.Calls.{names_inserted}
use Rattle.ir_types.proofs.WordNumbers.{next_word, first_words, word_count}
use Rattle.ir_types.proofs.Building.{nothing_at}

-- one word more
pub one_more_word : {V : Type 0} (f : V → List ℕ) (i : ℕ) (word : List ℕ) (ks new : List V) (key : V) → map f ks ≡ take i words → slice_get words i ≡ Some word → f key ≡ word → new ≡ cond (list_any (λ v. bytes_eq (f key) (f v)) ks) ks (ks ++ key ∷ []) → map f new ≡ take (i + 1) words
one_more_word f i word ks new key before at is made =
    names_inserted f ks new key made ∙ ap (λ b. with_last (bytes_eq b) b (map f ks)) is ∙ next_word i word (map f ks) before at

-- after all of them
pub begun_with : (o : Bool) (names : List (List ℕ)) (types : List (TypeNode × ℕ)) (attrs : List (AttrNode × ℕ)) (i : ℕ) → i ≡ 54 → names ≡ take i words → types ≡ [] → attrs ≡ [] → IsKeptWithDepths o names types attrs
begun_with o names types attrs i e all none_t none_a =
    let w = first_words names i e all in
    let long : length names ≡ 54 = ap length w.0 ∙ word_count in
    subst (λ t. IsKeptWithDepths o names t attrs) (sym none_t) (subst (λ a. IsKeptWithDepths o names [] a) (sym none_a) (record {
      holds = record {
        few_names = omega arith;
        few_types = omega arith;
        few_attrs = omega arith;
        words_first = w.1;
        types_refer = λ n node at. absurd (nothing_at n node at);
        attrs_refer = λ n node at. absurd (nothing_at n node at);
        types_fine = λ n h. absurd (omega arith);
        attrs_fine = λ n h. absurd (omega arith);
        attrs_kept = λ n node at. absurd (nothing_at n node at);
      };
      type_depths = refl;
      attr_depths = refl;
    }))

pub begun_things : (o : Bool) (names : List (List ℕ)) (types : List (TypeNode × ℕ)) (attrs : List (AttrNode × ℕ)) (i : ℕ) → i ≡ 54 → names ≡ take i words → types ≡ [] → attrs ≡ [] → things_of o names types attrs ≡ record { names = words; types = []; attrs = []; opaque = o }
begun_things o names types attrs i e all none_t none_a =
    let w = first_words names i e all in
    (λ k. things_of o (w.0 k) (none_t k) (none_a k))
