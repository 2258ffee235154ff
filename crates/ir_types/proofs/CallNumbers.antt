-- The id that a call returns has the meaning of the item, and is its only id.
use Rattle.std.specs.Prelude.{ℕ, List, ◌↔◌}
use Rattle.std.specs.List.{position_or_len}
use Rattle.std.specs.Str.{bytes_eq}
use Rattle.std.proofs.Common.{◌≡◌, [], ◌∷◌, ◌++◌, length, get_or, slice_get, Some, sym, ap, subst, ◌∙◌, ⊎_elim, arith}
use Rattle.std.proofs.Math.Seq.{get_or-append_seam}
use Rattle.std.proofs.lemmas.Option.{get_or_from_slice_get, slice_get_within, same_Some}
use Rattle.ir_types_interner.specs.Built.{built}
use Rattle.ir_types_interner.specs.Interned.{with_last}
use Rattle.ir_types_interner.proofs.Placed.{Found, Lacks, where_is, with_last-found, with_last-absent}
use Rattle.ir_types.specs.declared.node.TypeNode.{TypeNode}
use Rattle.ir_types.specs.declared.node.AttrNode.{AttrNode}
use Rattle.ir_types.specs.Things.{ContextModel, TypeIsOf, AttrIsOf, IsPreceding, IsExtendedBy}
use Rattle.ir_types.specs.Terms.{Index, Flag, name_term, type_from, type_terms, type_term, type_node_term, attr_from, attr_terms, attr_term, attr_node_term}
use Rattle.ir_types.specs.Same.{same_type, same_attr}
use Rattle.ir_types.specs.Dictionaries.{kept}
use Rattle.ir_types.specs.Interning.{with_name, with_type, with_attr}
use Rattle.ir_types.specs.Sound.{Holds, IsSound}
use Rattle.ir_types.proofs.SameNodes.{same_type_is, same_type_refl, same_attr_is, same_attr_refl}
use Rattle.ir_types.proofs.Building.{place_stays}
use Rattle.ir_types.proofs.Placing.{stands, known_stays, known_place}
use Rattle.ir_types.proofs.Growth.{name_is, name_refl, grows_trans, grows_type, grows_attr}
use Rattle.ir_types.proofs.Terms.{type_terms_push, attr_terms_push, length-type_terms, length-attr_terms, type_node_stays, attr_node_stays, type_term_is, attr_term_is, type_term_one, attr_term_one}
use Rattle.ir_types.proofs.KeptOrder.{kept_of, kept_known}

-- the item is at the index that its call returns
pub name_stands : (bytes : List ℕ) (c : ContextModel) → slice_get ((with_name bytes c).1).names (with_name bytes c).0 ≡ Some bytes
unfolding with_name
name_stands bytes c = stands bytes_eq name_is bytes c.names

pub type_stands : (node : TypeNode) (c : ContextModel) → slice_get ((with_type node c).1).types (with_type node c).0 ≡ Some node
unfolding with_type
type_stands node c = stands same_type same_type_is node c.types

pub attr_stands : (node : AttrNode) (c : ContextModel) → slice_get ((with_attr node c).1).attrs (with_attr node c).0 ≡ Some (kept c.names node)
unfolding with_attr
attr_stands node c = stands same_attr same_attr_is (kept c.names node) c.attrs

-- so the id means the item
pub new_name : (bytes : List ℕ) (c : ContextModel) → name_term (with_name bytes c).1 (with_name bytes c).0 ≡ bytes
new_name bytes c = get_or_from_slice_get ((with_name bytes c).1).names (with_name bytes c).0 bytes [] (name_stands bytes c)

pub new_type : (node : TypeNode) (c : ContextModel) → Holds c → type_term (with_type node c).1 (with_type node c).0 ≡ type_node_term c node
unfolding with_type
new_type node c h =
    let n = position_or_len (same_type node) c.types in
    let count = length-type_terms c in
    ⊎_elim
    (λ (f : Found (same_type node) c.types).
    let stays = with_last-found (same_type node) node c.types f.0 in
    let at = subst (λ ts. slice_get ts n ≡ Some node) stays (stands same_type same_type_is node c.types) in
    ap (λ ts. get_or (built type_from ts) n Index) stays ∙ type_term_is c n node h at)
    (λ (f : Lacks (same_type node) c.types).
    let last : n ≡ length (type_terms c) = omega (arith, f.1) in
    ap (λ ts. get_or (built type_from ts) n Index) (with_last-absent (same_type node) node c.types f.0)
    ∙ ap (λ l. get_or l n Index) (type_terms_push c node)
    ∙ ap (λ i. get_or (type_terms c ++ type_node_term c node ∷ []) i Index) last
    ∙ get_or-append_seam (type_terms c) (type_node_term c node) [] Index)
    (where_is (same_type node) c.types)

pub new_attr : (node : AttrNode) (c : ContextModel) → Holds c → attr_term (with_attr node c).1 (with_attr node c).0 ≡ attr_node_term c (kept c.names node)
unfolding with_attr
new_attr node c h =
    let k = kept c.names node in
    let n = position_or_len (same_attr k) c.attrs in
    let make = attr_from c.names (type_terms c) in
    let count = length-attr_terms c in
    ⊎_elim
    (λ (f : Found (same_attr k) c.attrs).
    let stays = with_last-found (same_attr k) k c.attrs f.0 in
    let at = subst (λ as'. slice_get as' n ≡ Some k) stays (stands same_attr same_attr_is k c.attrs) in
    ap (λ as'. get_or (built make as') n Flag) stays ∙ attr_term_is c n k h at)
    (λ (f : Lacks (same_attr k) c.attrs).
    let last : n ≡ length (attr_terms c) = omega (arith, f.1) in
    ap (λ as'. get_or (built make as') n Flag) (with_last-absent (same_attr k) k c.attrs f.0)
    ∙ ap (λ l. get_or l n Flag) (attr_terms_push c k)
    ∙ ap (λ i. get_or (attr_terms c ++ attr_node_term c k ∷ []) i Flag) last
    ∙ get_or-append_seam (attr_terms c) (attr_node_term c k) [] Flag)
    (where_is (same_attr k) c.attrs)

-- a known item keeps its id, and nothing changes
pub known_name : (c : ContextModel) (n : ℕ) (bytes : List ℕ) → IsSound c → slice_get c.names n ≡ Some bytes → with_name bytes c ≡ (n, c)
unfolding with_name
known_name c n bytes s at =
    λ i. (known_place bytes_eq name_is name_refl bytes c.names n s.names_apart at i, record c { names = known_stays bytes_eq name_is name_refl bytes c.names n at i })

pub known_type : (c : ContextModel) (n : ℕ) (node : TypeNode) → IsSound c → slice_get c.types n ≡ Some node → with_type node c ≡ (n, c)
unfolding with_type
known_type c n node s at =
    λ i. (known_place same_type same_type_is same_type_refl node c.types n s.types_apart at i, record c { types = known_stays same_type same_type_is same_type_refl node c.types n at i })

pub known_attr : (c : ContextModel) (n : ℕ) (node : AttrNode) → IsSound c → slice_get c.attrs n ≡ Some node → with_attr node c ≡ (n, c)
unfolding with_attr
known_attr c n node s at =
    let in_order = kept_known c n node s.holds at in
    ap (λ k. (position_or_len (same_attr k) c.attrs, record c { attrs = with_last (same_attr k) k c.attrs })) in_order
    ∙ (λ i. (known_place same_attr same_attr_is same_attr_refl node c.attrs n s.attrs_apart at i, record c { attrs = known_stays same_attr same_attr_is same_attr_refl node c.attrs n at i }))

-- an item keeps its index in every longer list
pub place_in : {A : Type 0} (xs ys : List A) (i : ℕ) (x : A) → IsPreceding xs ys → slice_get xs i ≡ Some x → slice_get ys i ≡ Some x
place_in xs ys i x f at = ap (λ l. slice_get l i) f.1 ∙ place_stays xs f.0 i x at

-- two calls, in either order, return the same id exactly if the items are equal
pub same_names : (c d e : ContextModel) (a b : List ℕ) → IsSound e → IsExtendedBy (with_name a c).1 e → IsExtendedBy (with_name b d).1 e → ((with_name a c).0 ≡ (with_name b d).0) ↔ (a ≡ b)
same_names c d e a b s g h =
    let m = (with_name a c).0 in
    let n = (with_name b d).0 in
    let first : slice_get e.names m ≡ Some a = place_in ((with_name a c).1).names e.names m a g.names (name_stands a c) in
    let second : slice_get e.names n ≡ Some b = place_in ((with_name b d).1).names e.names n b h.names (name_stands b d) in
    (λ p. same_Some a b (sym first ∙ ap (slice_get e.names) p ∙ second), λ p. s.names_apart m n b (first ∙ ap Some p) second)

pub same_types : (c d e : ContextModel) (a b : TypeNode) → IsSound e → IsExtendedBy (with_type a c).1 e → IsExtendedBy (with_type b d).1 e → ((with_type a c).0 ≡ (with_type b d).0) ↔ (a ≡ b)
same_types c d e a b s g h =
    let m = (with_type a c).0 in
    let n = (with_type b d).0 in
    let first : slice_get e.types m ≡ Some a = place_in ((with_type a c).1).types e.types m a g.types (type_stands a c) in
    let second : slice_get e.types n ≡ Some b = place_in ((with_type b d).1).types e.types n b h.types (type_stands b d) in
    (λ p. same_Some a b (sym first ∙ ap (slice_get e.types) p ∙ second), λ p. s.types_apart m n b (first ∙ ap Some p) second)

pub same_attrs : (c d e : ContextModel) (a b : AttrNode) → IsSound e → IsExtendedBy (with_attr a c).1 e → IsExtendedBy (with_attr b d).1 e → ((with_attr a c).0 ≡ (with_attr b d).0) ↔ (kept c.names a ≡ kept d.names b)
same_attrs c d e a b s g h =
    let m = (with_attr a c).0 in
    let n = (with_attr b d).0 in
    let k = kept c.names a in
    let l = kept d.names b in
    let first : slice_get e.attrs m ≡ Some k = place_in ((with_attr a c).1).attrs e.attrs m k g.attrs (attr_stands a c) in
    let second : slice_get e.attrs n ≡ Some l = place_in ((with_attr b d).1).attrs e.attrs n l h.attrs (attr_stands b d) in
    (λ p. same_Some k l (sym first ∙ ap (slice_get e.attrs) p ∙ second), λ p. s.attrs_apart m n l (first ∙ ap Some p) second)

-- and exactly if their meanings are equal
pub same_type_terms : (c d e : ContextModel) (a b : TypeNode) → IsSound e → TypeIsOf c a → TypeIsOf d b → IsExtendedBy (with_type a c).1 e → IsExtendedBy (with_type b d).1 e → ((with_type a c).0 ≡ (with_type b d).0) ↔ (type_node_term c a ≡ type_node_term d b)
same_type_terms c d e a b s of_c of_d g h =
    let m = (with_type a c).0 in
    let n = (with_type b d).0 in
    let at_m : slice_get e.types m ≡ Some a = place_in ((with_type a c).1).types e.types m a g.types (type_stands a c) in
    let at_n : slice_get e.types n ≡ Some b = place_in ((with_type b d).1).types e.types n b h.types (type_stands b d) in
    let first : type_term e m ≡ type_node_term c a = type_term_is e m a s.holds at_m ∙ type_node_stays c e a (grows_trans c (with_type a c).1 e (grows_type a c) g) of_c in
    let second : type_term e n ≡ type_node_term d b = type_term_is e n b s.holds at_n ∙ type_node_stays d e b (grows_trans d (with_type b d).1 e (grows_type b d) h) of_d in
    (λ p. sym first ∙ ap (type_term e) p ∙ second, λ p. type_term_one e m n s (slice_get_within e.types m a at_m) (slice_get_within e.types n b at_n) (first ∙ p ∙ sym second))

pub same_attr_terms : (c d e : ContextModel) (a b : AttrNode) → Holds c → Holds d → IsSound e → AttrIsOf c a → AttrIsOf d b → IsExtendedBy (with_attr a c).1 e → IsExtendedBy (with_attr b d).1 e → ((with_attr a c).0 ≡ (with_attr b d).0) ↔ (attr_node_term c (kept c.names a) ≡ attr_node_term d (kept d.names b))
same_attr_terms c d e a b holds_c holds_d s of_c of_d g h =
    let m = (with_attr a c).0 in
    let n = (with_attr b d).0 in
    let k = kept c.names a in
    let l = kept d.names b in
    let at_m : slice_get e.attrs m ≡ Some k = place_in ((with_attr a c).1).attrs e.attrs m k g.attrs (attr_stands a c) in
    let at_n : slice_get e.attrs n ≡ Some l = place_in ((with_attr b d).1).attrs e.attrs n l h.attrs (attr_stands b d) in
    let first : attr_term e m ≡ attr_node_term c k = attr_term_is e m k s.holds at_m ∙ attr_node_stays c e k holds_c (grows_trans c (with_attr a c).1 e (grows_attr a c) g) (kept_of c a of_c) in
    let second : attr_term e n ≡ attr_node_term d l = attr_term_is e n l s.holds at_n ∙ attr_node_stays d e l holds_d (grows_trans d (with_attr b d).1 e (grows_attr b d) h) (kept_of d b of_d) in
    (λ p. sym first ∙ ap (attr_term e) p ∙ second, λ p. attr_term_one e m n s (slice_get_within e.attrs m k at_m) (slice_get_within e.attrs n l at_n) (first ∙ p ∙ sym second))
