-- A context with one more item still stores each type and attribute with its depth.
use Rattle.std.proofs.Common.{◌≡◌, ◌∙◌, sym, ap, subst, ℕ, Bool, ◌≤◌, List, [], ◌∷◌, ◌++◌, length, map, None, ◌⊎◌, ⊎_elim}
use Rattle.std.specs.Map.{keys_of, values_of}
use Rattle.std.specs.List.{position_or_len}
use Rattle.std.specs.Str.{bytes_eq}
use Rattle.std.proofs.lemmas.List.{map-append}
use Rattle.ir_types_interner.specs.Interned.{with_last}
use Rattle.ir_types_interner.proofs.Placed.{keys-push}
use Rattle.ir_types.specs.declared.node.TypeNode.{TypeNode}
use Rattle.ir_types.specs.declared.node.AttrNode.{AttrNode}
use Rattle.ir_types.specs.Things.{ContextModel, TypeIsOf, AttrIsOf}
use Rattle.ir_types.specs.Terms.{type_terms, attr_terms, type_node_term, attr_node_term}
use Rattle.ir_types.specs.Depths.{type_depth, attr_depth}
use Rattle.ir_types.specs.Same.{same_type, same_attr}
use Rattle.ir_types.specs.Dictionaries.{kept}
use Rattle.ir_types.specs.Interning.{with_name, with_type, with_attr}
use Rattle.ir_types.specs.Reasons.{type_fault, attr_fault}
use Rattle.ir_types.specs.Sound.{Holds, IsKept}
use Rattle.ir_types.specs.Held.{things_of, IsKeptWithDepths}
use Rattle.ir_types.proofs.Holding.{holds_name, holds_type, holds_attr, type_depths_push, attr_depths_push, kept_depth, attr_depths_names, attr_depths_types}
use Rattle.ir_types.specs.Limits.{most_things}
use Rattle.std.proofs.lemmas.Map.Entries.{length-keys_of}

abbrev Types : Type 0
Types = List (TypeNode × ℕ)

abbrev Attrs : Type 0
Attrs = List (AttrNode × ℕ)

values-push : {K : Type 0} (es : List (K × ℕ)) (k : K) (v : ℕ) → values_of (es ++ (k, v) ∷ []) ≡ values_of es ++ v ∷ []
values-push es k v = map-append (λ e. e.1) es ((k, v) ∷ [])

-- the context with one more name, type or attribute
pub named_things : (o : Bool) (names more : List (List ℕ)) (types : Types) (attrs : Attrs) (bytes : List ℕ) → more ≡ with_last (bytes_eq bytes) bytes names → things_of o more types attrs ≡ (with_name bytes (things_of o names types attrs)).1
unfolding with_name
named_things o names more types attrs bytes e = λ i. record { names = e i; types = keys_of types; attrs = keys_of attrs; opaque = o }

pub typed_things : (o : Bool) (names : List (List ℕ)) (types more : Types) (attrs : Attrs) (node : TypeNode) → keys_of more ≡ with_last (same_type node) node (keys_of types) → things_of o names more attrs ≡ (with_type node (things_of o names types attrs)).1
unfolding with_type
typed_things o names types more attrs node e = λ i. record { names = names; types = e i; attrs = keys_of attrs; opaque = o }

pub attributed_things : (o : Bool) (names : List (List ℕ)) (types : Types) (attrs more : Attrs) (node : AttrNode) → keys_of more ≡ with_last (same_attr (kept names node)) (kept names node) (keys_of attrs) → things_of o names types more ≡ (with_attr node (things_of o names types attrs)).1
unfolding with_attr
attributed_things o names types attrs more node e = λ i. record { names = names; types = keys_of types; attrs = e i; opaque = o }

pub kept_with_name : (o : Bool) (names more : List (List ℕ)) (types : Types) (attrs : Attrs) (bytes : List ℕ) → IsKeptWithDepths o names types attrs → more ≡ with_last (bytes_eq bytes) bytes names → length more ≤ most_things → IsKeptWithDepths o more types attrs
kept_with_name o names more types attrs bytes h e few =
    let c = things_of o names types attrs in
    let same : things_of o more types attrs ≡ (with_name bytes c).1 = named_things o names more types attrs bytes e in
    record {
      holds = subst Holds (sym same) (holds_name bytes c h.holds (subst (λ (d : ContextModel). length d.names ≤ most_things) same few));
      type_depths = h.type_depths;
      attr_depths = h.attr_depths ∙ sym (attr_depths_names bytes c h.holds) ∙ ap (λ d. map attr_depth (attr_terms d)) (sym same);
    }

pub kept_with_type : (o : Bool) (names : List (List ℕ)) (types more : Types) (attrs : Attrs) (node : TypeNode) (depth : ℕ) → IsKeptWithDepths o names types attrs → keys_of more ≡ with_last (same_type node) node (keys_of types) → (more ≡ types) ⊎ (more ≡ types ++ (node, depth) ∷ []) → length more ≤ most_things → TypeIsOf (things_of o names types attrs) node → type_fault (type_node_term (things_of o names types attrs) node) ≡ None → depth ≡ type_depth (type_node_term (things_of o names types attrs) node) → IsKeptWithDepths o names more attrs
kept_with_type o names types more attrs node depth h e made few of fine deep =
    let c = things_of o names types attrs in
    let same : things_of o names more attrs ≡ (with_type node c).1 = typed_things o names types more attrs node e in
    record {
      holds = subst Holds (sym same) (holds_type node c h.holds of fine (subst (λ (d : ContextModel). length d.types ≤ most_things) same (subst (λ n. n ≤ most_things) (sym (length-keys_of more)) few)));
      type_depths = ⊎_elim
          (λ (p : more ≡ types). subst (λ es. values_of es ≡ map type_depth (type_terms (things_of o names es attrs))) (sym p) h.type_depths)
          (λ (p : more ≡ types ++ (node, depth) ∷ []).
          let keys : keys_of more ≡ keys_of types ++ node ∷ [] = ap keys_of p ∙ keys-push types node depth in
          let pushed : things_of o names more attrs ≡ record c { types = c.types ++ node ∷ [] } = (λ i. record { names = names; types = keys i; attrs = keys_of attrs; opaque = o }) in
          ap values_of p ∙ values-push types node depth ∙ (λ i. h.type_depths i ++ deep i ∷ []) ∙ sym (type_depths_push node c) ∙ ap (λ d. map type_depth (type_terms d)) (sym pushed))
          made;
      attr_depths = h.attr_depths ∙ sym (attr_depths_types node c h.holds) ∙ ap (λ d. map attr_depth (attr_terms d)) (sym same);
    }

pub kept_with_attr : (o : Bool) (names : List (List ℕ)) (types : Types) (attrs more : Attrs) (node : AttrNode) (depth : ℕ) → IsKeptWithDepths o names types attrs → keys_of more ≡ with_last (same_attr (kept names node)) (kept names node) (keys_of attrs) → (more ≡ attrs) ⊎ (more ≡ attrs ++ (kept names node, depth) ∷ []) → length more ≤ most_things → AttrIsOf (things_of o names types attrs) node → attr_fault (attr_node_term (things_of o names types attrs) node) ≡ None → IsKept names (kept names node) → depth ≡ attr_depth (attr_node_term (things_of o names types attrs) node) → IsKeptWithDepths o names types more
kept_with_attr o names types attrs more node depth h e made few of fine sorted deep =
    let c = things_of o names types attrs in
    let same : things_of o names types more ≡ (with_attr node c).1 = attributed_things o names types attrs more node e in
    record {
      holds = subst Holds (sym same) (holds_attr node c h.holds of fine sorted (subst (λ (d : ContextModel). length d.attrs ≤ most_things) same (subst (λ n. n ≤ most_things) (sym (length-keys_of more)) few)));
      type_depths = h.type_depths;
      attr_depths = ⊎_elim
          (λ (p : more ≡ attrs). subst (λ es. values_of es ≡ map attr_depth (attr_terms (things_of o names types es))) (sym p) h.attr_depths)
          (λ (p : more ≡ attrs ++ (kept names node, depth) ∷ []).
          let keys : keys_of more ≡ keys_of attrs ++ kept names node ∷ [] = ap keys_of p ∙ keys-push attrs (kept names node) depth in
          let pushed : things_of o names types more ≡ record c { attrs = c.attrs ++ kept names node ∷ [] } = (λ i. record { names = names; types = keys_of types; attrs = keys i; opaque = o }) in
          let deep_kept = deep ∙ sym (kept_depth c node) in
          ap values_of p ∙ values-push attrs (kept names node) depth ∙ (λ i. h.attr_depths i ++ deep_kept i ∷ []) ∙ sym (attr_depths_push (kept names node) c) ∙ ap (λ d. map attr_depth (attr_terms d)) (sym pushed))
          made;
    }

-- the result of a call, and the context after it
pub name_call : (o : Bool) (names more : List (List ℕ)) (types : Types) (attrs : Attrs) (bytes : List ℕ) (place : ℕ) → place ≡ position_or_len (bytes_eq bytes) names → more ≡ with_last (bytes_eq bytes) bytes names → (place, things_of o more types attrs) ≡ with_name bytes (things_of o names types attrs)
unfolding with_name
name_call o names more types attrs bytes place at e = λ i. (at i, record { names = e i; types = keys_of types; attrs = keys_of attrs; opaque = o })

pub type_call : (o : Bool) (names : List (List ℕ)) (types more : Types) (attrs : Attrs) (node : TypeNode) (place : ℕ) → place ≡ position_or_len (same_type node) (keys_of types) → keys_of more ≡ with_last (same_type node) node (keys_of types) → (place, things_of o names more attrs) ≡ with_type node (things_of o names types attrs)
unfolding with_type
type_call o names types more attrs node place at e = λ i. (at i, record { names = names; types = e i; attrs = keys_of attrs; opaque = o })

pub attr_call : (o : Bool) (names : List (List ℕ)) (types : Types) (attrs more : Attrs) (node : AttrNode) (place : ℕ) → place ≡ position_or_len (same_attr (kept names node)) (keys_of attrs) → keys_of more ≡ with_last (same_attr (kept names node)) (kept names node) (keys_of attrs) → (place, things_of o names types more) ≡ with_attr node (things_of o names types attrs)
unfolding with_attr
attr_call o names types attrs more node place at e = λ i. (at i, record { names = names; types = keys_of types; attrs = e i; opaque = o })
