-- Interning keeps the invariants of a context.
use Rattle.std.specs.Prelude.{ℕ, List, if◌then◌else◌}
use Rattle.std.specs.List.{list_any}
use Rattle.std.specs.Str.{bytes_eq}
use Rattle.std.proofs.Common.{◌≡◌, ◌+◌, ◌<◌, ◌≤◌, true, false, [], ◌∷◌, ◌++◌, map, length, take, get_or, None, sym, ap, subst, refl, ◌∙◌, ⊎_elim, length-append, arith}
use Rattle.std.proofs.Math.Seq.{get_or-append_seam}
use Rattle.std.proofs.lemmas.List.{map-append, take-append-le, length-take}
use Rattle.std.proofs.lemmas.Bool.{cases_lt, cases_Bool}
use Rattle.ir_types_interner.specs.Built.{built}
use Rattle.ir_types_interner.specs.Interned.{with_last}
use Rattle.ir_types_interner.proofs.Placed.{with_last-found, with_last-absent}
use Rattle.ir_types.specs.declared.node.TypeNode.{TypeNode}
use Rattle.ir_types.specs.declared.node.AttrNode.{AttrNode}
use Rattle.ir_types.specs.Things.{ContextModel, TypesBelow, PartsBelow, TypeIsOf, AttrIsOf, IsExtendedBy}
use Rattle.ir_types.specs.Terms.{Index, Flag, type_from, type_terms, type_node_term, attr_terms, attr_node_term}
use Rattle.ir_types.specs.Depths.{type_depth, attr_depth}
use Rattle.ir_types.specs.Reasons.{type_fault, attr_fault}
use Rattle.ir_types.specs.Same.{same_type, same_attr}
use Rattle.ir_types.specs.Dictionaries.{kept}
use Rattle.ir_types.specs.Interning.{with_name, with_type, with_attr}
use Rattle.ir_types.specs.Words.{operations, keys, visibilities, words}
use Rattle.ir_types.specs.Sound.{Holds, IsSound, IsKept}
use Rattle.ir_types.proofs.Building.{push_cases}
use Rattle.ir_types.proofs.SameNodes.{same_type_is, same_type_refl, same_attr_is, same_attr_refl}
use Rattle.ir_types.proofs.Placing.{with_last-cases, with_last_preceding, apart_with}
use Rattle.ir_types.proofs.Growth.{preceding_refl, preceding_length, preceding_agree, name_is, name_refl, type_types}
use Rattle.ir_types.proofs.Terms.{parts_below_more, type_terms_push, attr_terms_push, length-type_terms, length-attr_terms, type_stays, attr_stays, attr_terms_names, attr_terms_types}
use Rattle.ir_types.proofs.KeptOrder.{kept_of, kept_fault, kept_depth_from, kept_stays}
use Rattle.ir_types.specs.Limits.{most_things}

-- there are 54 words
pub enough_names : (names : List (List ℕ)) → take 54 names ≡ words → 54 ≤ length names
unfolding words operations keys visibilities
enough_names names e = let l : length (take 54 names) ≡ 54 = ap length e in omega (arith, length-take 54 names)

-- one more name
pub holds_names : (c : ContextModel) (more : List (List ℕ)) → Holds c → length (c.names ++ more) ≤ most_things → Holds (record c { names = c.names ++ more })
holds_names c more h few =
    let d : ContextModel = record c { names = c.names ++ more } in
    let g : IsExtendedBy c d = record { names = (more, refl); types = preceding_refl c.types; attrs = preceding_refl c.attrs; opaque = refl } in
    let longer = preceding_length c.names d.names g.names in
    record {
      few_names = few;
      few_types = h.few_types;
      few_attrs = h.few_attrs;
      words_first = take-append-le 54 c.names more (enough_names c.names h.words_first) ∙ h.words_first;
      types_refer = h.types_refer;
      attrs_refer = λ i node at. parts_below_more (length c.names) (length c.types) i (length d.names) (length c.types) i node longer (omega arith) (omega arith) (h.attrs_refer i node at);
      types_fine = h.types_fine;
      attrs_fine = λ i k. ap attr_fault (attr_stays c d i h g k) ∙ h.attrs_fine i k;
      attrs_kept = λ i node at. kept_stays (length c.names) (length c.types) i c.names d.names (preceding_agree [] c.names d.names g.names) node (h.attrs_refer i node at) (h.attrs_kept i node at);
    }

pub holds_name : (bytes : List ℕ) (c : ContextModel) → Holds c → length ((with_name bytes c).1).names ≤ most_things → Holds (with_name bytes c).1
unfolding with_name
holds_name bytes c h few =
    let f = with_last_preceding (bytes_eq bytes) bytes c.names in
    subst (λ ns. Holds (record c { names = ns })) (sym f.1) (holds_names c f.0 h (subst (λ ns. length ns ≤ most_things) f.1 few))

-- one more type
pub holds_push_type : (node : TypeNode) (c : ContextModel) → Holds c → TypeIsOf c node → type_fault (type_node_term c node) ≡ None → length (c.types ++ node ∷ []) ≤ most_things → Holds (record c { types = c.types ++ node ∷ [] })
holds_push_type node c h of_c fine few =
    let d : ContextModel = record c { types = c.types ++ node ∷ [] } in
    let g : IsExtendedBy c d = record { names = preceding_refl c.names; types = (node ∷ [], refl); attrs = preceding_refl c.attrs; opaque = refl } in
    let longer = preceding_length c.types d.types g.types in
    let len : length d.types ≡ length c.types + 1 = length-append c.types (node ∷ []) in
    let made = type_terms_push c node in
    let count = length-type_terms c in
    record {
      few_names = h.few_names;
      few_types = few;
      few_attrs = h.few_attrs;
      words_first = h.words_first;
      types_refer = λ i n at. ⊎_elim
          (λ p. h.types_refer i n p)
          (λ (p : (i ≡ length c.types) × (node ≡ n)). subst (λ m. TypesBelow m n) (sym p.0) (subst (TypesBelow (length c.types)) p.1 of_c))
          (push_cases c.types node n i at);
      attrs_refer = λ i n at. parts_below_more (length c.names) (length c.types) i (length c.names) (length d.types) i n (omega arith) longer (omega arith) (h.attrs_refer i n at);
      types_fine = λ i k. ⊎_elim
          (λ (p : i < length c.types). ap type_fault (type_stays c d i g p) ∙ h.types_fine i p)
          (λ (p : length c.types ≤ i).
          let last : i ≡ length (type_terms c) = omega arith in
          ap type_fault (ap (λ l. get_or l i Index) made ∙ ap (λ n. get_or (type_terms c ++ type_node_term c node ∷ []) n Index) last ∙ get_or-append_seam (type_terms c) (type_node_term c node) [] Index) ∙ fine)
          (cases_lt i (length c.types));
      attrs_fine = λ i k. ap attr_fault (attr_stays c d i h g k) ∙ h.attrs_fine i k;
      attrs_kept = h.attrs_kept;
    }

pub holds_type : (node : TypeNode) (c : ContextModel) → Holds c → TypeIsOf c node → type_fault (type_node_term c node) ≡ None → length ((with_type node c).1).types ≤ most_things → Holds (with_type node c).1
unfolding with_type
holds_type node c h of_c fine few = ⊎_elim
    (λ (e : (list_any (same_type node) c.types ≡ true) × (with_last (same_type node) node c.types ≡ c.types)). subst (λ ts. Holds (record c { types = ts })) (sym e.1) h)
    (λ (e : (list_any (same_type node) c.types ≡ false) × (with_last (same_type node) node c.types ≡ c.types ++ node ∷ [])).
    subst (λ ts. Holds (record c { types = ts })) (sym e.1) (holds_push_type node c h of_c fine (subst (λ ts. length ts ≤ most_things) e.1 few)))
    (with_last-cases (same_type node) node c.types)

-- one more attribute
pub holds_push_attr : (node : AttrNode) (c : ContextModel) → Holds c → AttrIsOf c node → attr_fault (attr_node_term c node) ≡ None → IsKept c.names node → length (c.attrs ++ node ∷ []) ≤ most_things → Holds (record c { attrs = c.attrs ++ node ∷ [] })
holds_push_attr node c h of_c fine in_order few =
    let d : ContextModel = record c { attrs = c.attrs ++ node ∷ [] } in
    let g : IsExtendedBy c d = record { names = preceding_refl c.names; types = preceding_refl c.types; attrs = (node ∷ [], refl); opaque = refl } in
    let len : length d.attrs ≡ length c.attrs + 1 = length-append c.attrs (node ∷ []) in
    let made = attr_terms_push c node in
    let count = length-attr_terms c in
    record {
      few_names = h.few_names;
      few_types = h.few_types;
      few_attrs = few;
      words_first = h.words_first;
      types_refer = h.types_refer;
      attrs_refer = λ i n at. ⊎_elim
          (λ p. h.attrs_refer i n p)
          (λ (p : (i ≡ length c.attrs) × (node ≡ n)). subst (λ m. PartsBelow (length c.names) (length c.types) m n) (sym p.0) (subst (PartsBelow (length c.names) (length c.types) (length c.attrs)) p.1 of_c))
          (push_cases c.attrs node n i at);
      types_fine = h.types_fine;
      attrs_fine = λ i k. ⊎_elim
          (λ (p : i < length c.attrs). ap attr_fault (attr_stays c d i h g p) ∙ h.attrs_fine i p)
          (λ (p : length c.attrs ≤ i).
          let last : i ≡ length (attr_terms c) = omega arith in
          ap attr_fault (ap (λ l. get_or l i Flag) made ∙ ap (λ n. get_or (attr_terms c ++ attr_node_term c node ∷ []) n Flag) last ∙ get_or-append_seam (attr_terms c) (attr_node_term c node) [] Flag) ∙ fine)
          (cases_lt i (length c.attrs));
      attrs_kept = λ i n at. ⊎_elim
          (λ p. h.attrs_kept i n p)
          (λ (p : (i ≡ length c.attrs) × (node ≡ n)). subst (IsKept c.names) p.1 in_order)
          (push_cases c.attrs node n i at);
    }

pub holds_attr : (node : AttrNode) (c : ContextModel) → Holds c → AttrIsOf c node → attr_fault (attr_node_term c node) ≡ None → IsKept c.names (kept c.names node) → length ((with_attr node c).1).attrs ≤ most_things → Holds (with_attr node c).1
unfolding with_attr
holds_attr node c h of_c fine in_order few =
    let k = kept c.names node in
    ⊎_elim
    (λ (e : (list_any (same_attr k) c.attrs ≡ true) × (with_last (same_attr k) k c.attrs ≡ c.attrs)). subst (λ as'. Holds (record c { attrs = as' })) (sym e.1) h)
    (λ (e : (list_any (same_attr k) c.attrs ≡ false) × (with_last (same_attr k) k c.attrs ≡ c.attrs ++ k ∷ [])).
    subst (λ as'. Holds (record c { attrs = as' })) (sym e.1) (holds_push_attr k c h (kept_of c node of_c) (kept_fault c node ∙ fine) in_order (subst (λ as'. length as' ≤ most_things) e.1 few)))
    (with_last-cases (same_attr k) k c.attrs)

-- all items stay distinct
pub sound_name : (bytes : List ℕ) (c : ContextModel) → IsSound c → length ((with_name bytes c).1).names ≤ most_things → IsSound (with_name bytes c).1
unfolding with_name
sound_name bytes c s few =
    record { holds = holds_name bytes c s.holds few; names_apart = apart_with bytes_eq name_is name_refl bytes c.names s.names_apart; types_apart = s.types_apart; attrs_apart = s.attrs_apart }

pub sound_type : (node : TypeNode) (c : ContextModel) → IsSound c → TypeIsOf c node → type_fault (type_node_term c node) ≡ None → length ((with_type node c).1).types ≤ most_things → IsSound (with_type node c).1
unfolding with_type
sound_type node c s of_c fine few =
    record { holds = holds_type node c s.holds of_c fine few; names_apart = s.names_apart; types_apart = apart_with same_type same_type_is same_type_refl node c.types s.types_apart; attrs_apart = s.attrs_apart }

pub sound_attr : (node : AttrNode) (c : ContextModel) → IsSound c → AttrIsOf c node → attr_fault (attr_node_term c node) ≡ None → IsKept c.names (kept c.names node) → length ((with_attr node c).1).attrs ≤ most_things → IsSound (with_attr node c).1
unfolding with_attr
sound_attr node c s of_c fine in_order few =
    record { holds = holds_attr node c s.holds of_c fine in_order few; names_apart = s.names_apart; types_apart = s.types_apart; attrs_apart = apart_with same_attr same_attr_is same_attr_refl (kept c.names node) c.attrs s.attrs_apart }

-- the depths are unchanged, or the node's depth is appended
pub type_depths_push : (node : TypeNode) (c : ContextModel) → map type_depth (type_terms (record c { types = c.types ++ node ∷ [] })) ≡ map type_depth (type_terms c) ++ type_depth (type_node_term c node) ∷ []
type_depths_push node c = ap (map type_depth) (type_terms_push c node) ∙ map-append type_depth (type_terms c) (type_node_term c node ∷ [])

pub type_depths_found : (node : TypeNode) (c : ContextModel) → list_any (same_type node) c.types ≡ true → map type_depth (type_terms (with_type node c).1) ≡ map type_depth (type_terms c)
type_depths_found node c h = ap (λ ts. map type_depth (built type_from ts)) (type_types node c ∙ with_last-found (same_type node) node c.types h)

pub type_depths_absent : (node : TypeNode) (c : ContextModel) → list_any (same_type node) c.types ≡ false → map type_depth (type_terms (with_type node c).1) ≡ map type_depth (type_terms c) ++ type_depth (type_node_term c node) ∷ []
type_depths_absent node c h = ap (λ ts. map type_depth (built type_from ts)) (type_types node c ∙ with_last-absent (same_type node) node c.types h) ∙ type_depths_push node c

pub type_depths_with : (node : TypeNode) (c : ContextModel) → map type_depth (type_terms (with_type node c).1) ≡ (if list_any (same_type node) c.types then map type_depth (type_terms c) else map type_depth (type_terms c) ++ type_depth (type_node_term c node) ∷ [])
type_depths_with node c = ⊎_elim
    (λ (h : list_any (same_type node) c.types ≡ true). rw h (type_depths_found node c h))
    (λ (h : list_any (same_type node) c.types ≡ false). rw h (type_depths_absent node c h))
    (cases_Bool (list_any (same_type node) c.types))

-- the same for attributes: sorting a dictionary keeps its depth
pub kept_depth : (c : ContextModel) (node : AttrNode) → attr_depth (attr_node_term c (kept c.names node)) ≡ attr_depth (attr_node_term c node)
kept_depth c node = kept_depth_from c.names c.names (type_terms c) (attr_terms c) node

pub attr_depths_push : (node : AttrNode) (c : ContextModel) → map attr_depth (attr_terms (record c { attrs = c.attrs ++ node ∷ [] })) ≡ map attr_depth (attr_terms c) ++ attr_depth (attr_node_term c node) ∷ []
attr_depths_push node c = ap (map attr_depth) (attr_terms_push c node) ∙ map-append attr_depth (attr_terms c) (attr_node_term c node ∷ [])

pub attr_depths_found : (node : AttrNode) (c : ContextModel) → list_any (same_attr (kept c.names node)) c.attrs ≡ true → map attr_depth (attr_terms (with_attr node c).1) ≡ map attr_depth (attr_terms c)
unfolding with_attr
attr_depths_found node c h = ap (λ as'. map attr_depth (attr_terms (record c { attrs = as' }))) (with_last-found (same_attr (kept c.names node)) (kept c.names node) c.attrs h)

pub attr_depths_absent : (node : AttrNode) (c : ContextModel) → list_any (same_attr (kept c.names node)) c.attrs ≡ false → map attr_depth (attr_terms (with_attr node c).1) ≡ map attr_depth (attr_terms c) ++ attr_depth (attr_node_term c node) ∷ []
unfolding with_attr
attr_depths_absent node c h =
    ap (λ as'. map attr_depth (attr_terms (record c { attrs = as' }))) (with_last-absent (same_attr (kept c.names node)) (kept c.names node) c.attrs h)
    ∙ attr_depths_push (kept c.names node) c
    ∙ ap (λ n. map attr_depth (attr_terms c) ++ n ∷ []) (kept_depth c node)

pub attr_depths_with : (node : AttrNode) (c : ContextModel) → map attr_depth (attr_terms (with_attr node c).1) ≡ (if list_any (same_attr (kept c.names node)) c.attrs then map attr_depth (attr_terms c) else map attr_depth (attr_terms c) ++ attr_depth (attr_node_term c node) ∷ [])
attr_depths_with node c = ⊎_elim
    (λ (h : list_any (same_attr (kept c.names node)) c.attrs ≡ true). rw h (attr_depths_found node c h))
    (λ (h : list_any (same_attr (kept c.names node)) c.attrs ≡ false). rw h (attr_depths_absent node c h))
    (cases_Bool (list_any (same_attr (kept c.names node)) c.attrs))

-- other calls keep them
pub attr_depths_names : (bytes : List ℕ) (c : ContextModel) → Holds c → map attr_depth (attr_terms (with_name bytes c).1) ≡ map attr_depth (attr_terms c)
attr_depths_names bytes c h = ap (map attr_depth) (attr_terms_names bytes c h)

pub attr_depths_types : (node : TypeNode) (c : ContextModel) → Holds c → map attr_depth (attr_terms (with_type node c).1) ≡ map attr_depth (attr_terms c)
attr_depths_types node c h = ap (map attr_depth) (attr_terms_types node c h)
