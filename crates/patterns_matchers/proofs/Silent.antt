-- Constants in plain form break no rule.
use Rattle.std.proofs.Common.{◌≡◌, refl, ap, sym, ◌∙◌, ℕ, ◌+◌, List, [], ◌∷◌, map, Bool, true, false, not, ◌&&◌, Option, Some, None}
use Rattle.std.specs.Prelude.{codes, option_map}
use Rattle.std.specs.List.{list_all}
use Rattle.ir_event.specs.types.Things.{ContextModel}
use Rattle.ir_event.specs.types.Terms.{TypeTerm, AttrTerm, name_term, type_term, attr_term}
use Rattle.ir_event.specs.types.SameTypes.{same_type}
use Rattle.ir_event.proofs.of_types.SameTerms.{type_refl}
use Rattle.ir_event.specs.trees.declared.value.Value.{Value}
use Rattle.ir_event.specs.trees.Tree.{HeadOf, OpOf, Op, op, head, regions}
use Rattle.ir_event.specs.trees.Ids.{find}
use Rattle.ir_event.specs.trees.Meaning.{Operation, meaning}
use Rattle.ir_event.proofs.of_trees.Mapped.{map_find}
use Rattle.ir_event.specs.tree_laws.Stands.{OpWithPathOf, op_with_path}
use Rattle.ir_event.specs.tree_laws.Values.{type_of_value}
use Rattle.ir_event.proofs.of_tree_laws.Readings.{stands_find}
use Rattle.ir_event.specs.store.Nodes.{Node as NumberNode, node_of}
use Rattle.op_registry.specs.Rows.{rows}
use Rattle.op_registry.specs.Registry.{row_of}
use Rattle.op_registry.specs.Properties.{property_kinds, kind_of, is_of_kind, is_allowed}
use Rattle.ir_verify_base.specs.Surroundings.{surround, last_names, outer_of}
use Rattle.ir_verify_base.specs.Mapped.{map_node}
use Rattle.ir_verify_base.proofs.Meanings.{map_node_of}
use Rattle.ir_verify_base.specs.Types.{is_number}
use Rattle.ir_verify_base.specs.Numbers.{node_in}
use Rattle.ir_verify_base.specs.Fits.{Node, Outer, Surroundings}
use Rattle.patterns_base.specs.verify.Breaks.{broken_rules_in, broken}
use Rattle.patterns_base.specs.Diagnostics.{broken_at}
use Rattle.patterns_base.specs.Looks.{breaks_none}
use Rattle.patterns_matchers.specs.TriviallyVerified.{trivial_constant, IsTriviallyVerified}
use Rattle.patterns_matchers.specs.Pairs.{IsPair}
use Rattle.patterns_matchers.proofs.Pairs.{none_reported, pair_node, pair_unbroken}

-- a constant, at any place
abbrev constant_at : ℕ → TypeTerm → ℕ → List (List ℕ × AttrTerm) → List (Option (List ℕ)) → Option Outer → Surroundings
constant_at x ty bits attributes lasts outer = record { node = trivial_constant x ty bits attributes; lasts = lasts; types = []; outer = outer }

-- the verifier's requirements on its type
abbrev requested : Bool → Bool → Bool
requested n s = not (not (n && true)) && (not (not s) && true)

quiet : (x : ℕ) (ty : TypeTerm) (bits : ℕ) (attributes : List (List ℕ × AttrTerm)) (lasts : List (Option (List ℕ))) (outer : Option Outer)
    → list_all not (broken_rules_in (row_of (codes "arith.constant")) (constant_at x ty bits attributes lasts outer)) ≡ requested (is_number ty) (same_type ty ty)
unfolding row_of rows property_kinds kind_of is_of_kind is_allowed
quiet x ty bits attributes lasts outer = refl

plain_unbroken : (x : ℕ) (ty : TypeTerm) (bits : ℕ) (attributes : List (List ℕ × AttrTerm)) (lasts : List (Option (List ℕ))) (outer : Option Outer) → is_number ty ≡ true → broken (constant_at x ty bits attributes lasts outer) ≡ []
plain_unbroken x ty bits attributes lasts outer num =
    none_reported 1 (broken_rules_in (row_of (codes "arith.constant")) (constant_at x ty bits attributes lasts outer)) (quiet x ty bits attributes lasts outer ∙ λ i. requested (num i) (type_refl ty i))

abbrev OpWithPath : Type 0
OpWithPath = OpWithPathOf (List ℕ) TypeTerm AttrTerm

bare_operands : (c : ContextModel) (o : Op) → (head (meaning c o)).operands ≡ (node_in c (node_of o)).head.operands
bare_operands c (op h rs) = refl

-- an operation that breaks no rule at any place, by its own form and operand types, breaks none in a tree
wherever : (c : ContextModel) (x : ℕ) (t : Op) (n : NumberNode) → Some n ≡ option_map node_of (find x t) → (types : List (Option TypeTerm)) → map (λ v. type_of_value v (meaning c t)) (node_in c n).head.operands ≡ types
    → ((lasts : List (Option (List ℕ))) (outer : Option Outer) → broken (record { node = node_in c n; lasts = lasts; types = types; outer = outer }) ≡ []) → breaks_none (broken_at x (meaning c t)) ≡ true
wherever c x t n shown types of none = found (find x t) refl shown
  where
    at : (o : Op) → n ≡ node_of o → (z : OpWithPath) → z.here ≡ meaning c o → broken (surround (meaning c t) z) ≡ []
    at o e z i =
        let node : node_of z.here ≡ node_in c n = ap (λ q. node_of q) i ∙ map_node_of (name_term c) (type_term c) (attr_term c) o ∙ ap (node_in c) (sym e) in
        let operands : map (λ v. type_of_value v (meaning c t)) (head z.here).operands ≡ types = ap (λ (q : Operation). map (λ v. type_of_value v (meaning c t)) (head q).operands) i ∙ ap (map (λ v. type_of_value v (meaning c t))) (bare_operands c o ∙ ap (λ (q : NumberNode). (node_in c q).head.operands) (sym e)) ∙ of in
        (λ k. broken (record { node = node k; lasts = last_names (regions z.here); types = operands k; outer = outer_of z.path })) ∙ none (last_names (regions z.here)) (outer_of z.path)

    located : (o : Op) → n ≡ node_of o → (z : Option OpWithPath) → op_with_path x (meaning c t) ≡ z → option_map (λ (s : OpWithPath). s.here) z ≡ Some (meaning c o) → breaks_none (broken_at x (meaning c t)) ≡ true
    located o e None f g = absurd cc
    located o e (Some z) f g =
        let here : z.here ≡ meaning c o = cc in
        ap (λ (s : Option OpWithPath). breaks_none (option_map broken (option_map (surround (meaning c t)) s))) f ∙ ap (λ l. breaks_none (Some l)) (at o e z here)

    found : (f : Option Op) → find x t ≡ f → Some n ≡ option_map node_of f → breaks_none (broken_at x (meaning c t)) ≡ true
    found None e g = absurd cc
    found (Some o) e g =
        let same : n ≡ node_of o = cc in
        located o same (op_with_path x (meaning c t)) refl (stands_find x [] (meaning c t) ∙ map_find (name_term c) (type_term c) (attr_term c) x t ∙ ap (option_map (meaning c)) e)

pub plain_is_unbroken : (c : ContextModel) (x : ℕ) (t : Op) (n : NumberNode) → Some n ≡ option_map node_of (find x t) → IsTriviallyVerified (node_in c n) → breaks_none (broken_at x (meaning c t)) ≡ true
plain_is_unbroken c x t n shown p =
    let own = node_in c n in
    wherever c x t n shown [] (ap (λ (q : Node). map (λ v. type_of_value v (meaning c t)) q.head.operands) p.2.1)
    (λ lasts outer. (λ k. broken (record { node = p.2.1 k; lasts = lasts; types = []; outer = outer })) ∙ plain_unbroken own.head.id p.0 p.1 own.head.attributes lasts outer p.2.0)

pub pair_is_unbroken : (c : ContextModel) (x : ℕ) (t : Op) (n : NumberNode) → Some n ≡ option_map node_of (find x t) → IsPair (meaning c t) (node_in c n) → breaks_none (broken_at x (meaning c t)) ≡ true
pair_is_unbroken c x t n shown p =
    let own = node_in c n in
    let is : own ≡ pair_node own.head.name own.head.id p.first p.second p.ty own.head.properties own.head.attributes = λ k. record {
      head = record { id = own.head.id; name = own.head.name; operands = p.operands k; results = p.results k; properties = own.head.properties; attributes = own.head.attributes };
      arguments = p.arguments k;
    } in
    wherever c x t n shown (Some p.ty ∷ Some p.ty ∷ []) (ap (map (λ v. type_of_value v (meaning c t))) p.operands ∙ λ k. p.of_first k ∷ p.of_second k ∷ [])
    (λ lasts outer. (λ k. broken (record { node = is k; lasts = lasts; types = Some p.ty ∷ Some p.ty ∷ []; outer = outer }))
    ∙ pair_unbroken own.head.name p.name own.head.id p.first p.second p.ty own.head.properties own.head.attributes lasts outer p.flags p.number)
