-- Whether a cast is verified depends only on the cast itself.
use Rattle.std.proofs.Common.{◌≡◌, refl, ap, sym, ◌∙◌, ℕ, Bool, true, false, not, ◌&&◌, List, [], ◌∷◌, Option, Some, None, option_map}
use Rattle.std.specs.List.{list_all}
use Rattle.std.proofs.lemmas.Slice.Eq.{bytes_eq-Decides}
use Rattle.ir_event.specs.types.Terms.{TypeTerm, AttrTerm}
use Rattle.ir_event.specs.types.Words.{is_inherent}
use Rattle.ir_event.specs.trees.Tree.{head}
use Rattle.ir_event.specs.trees.Ids.{find}
use Rattle.ir_event.specs.trees.Meaning.{Operation}
use Rattle.ir_event.specs.store.Nodes.{NodeOf, node_of}
use Rattle.ir_event.specs.tree_laws.Stands.{OpWithPathOf, op_with_path}
use Rattle.ir_event.proofs.of_tree_laws.Readings.{stands_find}
use Rattle.op_registry.specs.declared.definition.TypeRule.TheVariants.{Any}
use Rattle.op_registry.specs.declared.own.Own.TheVariants.{Pure}
use Rattle.op_registry.specs.Rows.{Row, rows}
use Rattle.op_registry.specs.Registry.{row_of}
use Rattle.listeners_support.specs.Surroundings.{OuterOf, surround, surroundings}
use Rattle.ir_verify_base.specs.Fits.{Known, Surroundings, fits, first_fit, known_of, there}
use Rattle.ir_verify_base.specs.Shapes.{breaks_1, breaks_3, breaks_5, breaks_12, breaks_13, is_well_shaped}
use Rattle.ir_verify_base.specs.TypeRules.{breaks_2, breaks_4}
use Rattle.ir_verify.specs.Breaks.{counted_rules, broken_rules_in, numbers_from, broken}
use Rattle.patterns_base.specs.Looks.{Header, breaks_none, is_verified}
use Rattle.patterns_base.specs.Words.{named}
use Rattle.conversion_base.specs.Targets.{cast_name}
use Rattle.effects.proofs.Followed.{node_head}

-- the table entry of casts
abbrev cast_row : Row
cast_row = record {
  operands = record { first = []; more = Some Any };
  results = record { first = Any ∷ []; more = Some Any };
  regions = [];
  properties = [];
  effects = Pure;
  traits = record { terminator = false; isolated = false; symbol_table = false; symbol = false; recursive = false };
  parents = [];
}

row_is : row_of cast_name ≡ Some cast_row
unfolding row_of rows
row_is = refl

-- any types fit the table entry
any_fit : (known : Known) (ts : List (Option TypeTerm)) → list_all (fits known Any) ts ≡ true
any_fit known [] = refl
any_fit known (t ∷ ts) = any_fit known ts

any_first : (k l : Known) (ts : List (Option TypeTerm)) → first_fit k (Any ∷ []) (Some Any) ts ≡ first_fit l (Any ∷ []) (Some Any) ts
any_first k l [] = refl
any_first k l (t ∷ ts) = any_fit k ts ∙ sym (any_fit l ts)

module _ (h : Header) (arguments : List (Option (List TypeTerm))) where
  -- the surroundings of a cast
  abbrev around : List (Option (List ℕ)) → List (Option TypeTerm) → Option (OuterOf (List ℕ) TypeTerm AttrTerm) → Surroundings
  around lasts types outer = record { node = record { head = record h { name = cast_name }; arguments = arguments }; lasts = lasts; types = types; outer = outer }

  -- the rules on its form, and on the types
  abbrev reported_by : Bool → Bool → List Bool
  reported_by operands results =
      (let n = (around [] [] None).node in
      let w = is_well_shaped cast_row n in
      breaks_1 cast_row n
      ∷ (w && operands)
      ∷ breaks_3 cast_row n
      ∷ (w && results)
      ∷ breaks_5 cast_row n
      ∷ (w && false) ∷ (w && false) ∷ (w && false) ∷ (w && false)
      ∷ false ∷ false
      ∷ breaks_12 cast_row n
      ∷ breaks_13 cast_row n
      ∷ (w && false) ∷ (w && false) ∷ (w && false) ∷ (w && false) ∷ (w && false) ∷ (w && false) ∷ (w && false) ∷ (w && false) ∷ (w && false)
      ∷ false
      ∷ (w && false)
      ∷ [])

  reported_is : (lasts : List (Option (List ℕ))) (types : List (Option TypeTerm)) (outer : Option (OuterOf (List ℕ) TypeTerm AttrTerm)) → counted_rules cast_row (around lasts types outer) ≡ reported_by (breaks_2 cast_row (around lasts types outer)) (breaks_4 cast_row (around lasts types outer))
  unfolding row_of rows
  reported_is lasts types outer = refl

  reported_alike : (l k : List (Option (List ℕ))) (ts us : List (Option TypeTerm)) (o p : Option (OuterOf (List ℕ) TypeTerm AttrTerm)) → broken_rules_in (row_of cast_name) (around l ts o) ≡ broken_rules_in (row_of cast_name) (around k us p)
  reported_alike l k ts us o p =
      ap (λ r. broken_rules_in r (around l ts o)) row_is
      ∙ reported_is l ts o
      ∙ (λ i. reported_by (operands i) (results i))
      ∙ sym (reported_is k us p)
      ∙ sym (ap (λ r. broken_rules_in r (around k us p)) row_is)
    where
      operands : breaks_2 cast_row (around l ts o) ≡ breaks_2 cast_row (around k us p)
      operands = ap not (any_fit (known_of cast_row (around l ts o)) ts ∙ sym (any_fit (known_of cast_row (around k us p)) us))

      results : breaks_4 cast_row (around l ts o) ≡ breaks_4 cast_row (around k us p)
      results = ap not (any_first (known_of cast_row (around l ts o)) (known_of cast_row (around k us p)) (there h.results))

is_cast_name : (name : List ℕ) → named cast_name name ≡ true → name ≡ cast_name
is_cast_name name e = (bytes_eq-Decides name cast_name).0 e

-- the rules that a cast breaks depend only on the cast
broken_alike : (s r : Surroundings) → s.node ≡ r.node → named cast_name s.node.head.name ≡ true → broken s ≡ broken r
broken_alike s r same e =
    let name = is_cast_name s.node.head.name e in
    let one : s ≡ around s.node.head s.node.arguments s.lasts s.types s.outer = λ i. record { node = record { head = record s.node.head { name = name i }; arguments = s.node.arguments }; lasts = s.lasts; types = s.types; outer = s.outer } in
    let two : r ≡ around s.node.head s.node.arguments r.lasts r.types r.outer = (λ i. record { node = sym same i; lasts = r.lasts; types = r.types; outer = r.outer }) ∙ (λ i. record { node = record { head = record s.node.head { name = name i }; arguments = s.node.arguments }; lasts = r.lasts; types = r.types; outer = r.outer }) in
    ap broken one ∙ ap (numbers_from 1) (reported_alike s.node.head s.node.arguments s.lasts r.lasts s.types r.types s.outer r.outer) ∙ sym (ap broken two)

-- ---- in two trees

found_around : (x : ℕ) (t o : Operation) → find x t ≡ Some o → (s : Surroundings) × (surroundings x t ≡ Some s) × (s.node ≡ node_of o)
found_around x t o e = go (op_with_path x t) refl (stands_find x [] t ∙ e)
  where
    go : (a : Option (OpWithPathOf (List ℕ) TypeTerm AttrTerm)) → op_with_path x t ≡ a → option_map (λ (z : OpWithPathOf (List ℕ) TypeTerm AttrTerm). z.here) a ≡ Some o → (s : Surroundings) × (surroundings x t ≡ Some s) × (s.node ≡ node_of o)
    go None i k = absurd cc
    go (Some z) i k = (let same : z.here ≡ o = cc in (surround t z, ap (option_map (surround t)) i, ap (λ (q : Operation). node_of q) same))

pub verified_alike : (t u o p : Operation) → find (head o).id t ≡ Some o → find (head o).id u ≡ Some p → node_of o ≡ node_of p → named cast_name (head o).name ≡ true → is_verified t (head o) ≡ is_verified u (head o)
unfolding is_verified
verified_alike t u o p f g same e =
    let s = found_around (head o).id t o f in
    let r = found_around (head o).id u p g in
    let name : named cast_name s.0.node.head.name ≡ true = ap (λ (n : NodeOf (List ℕ) TypeTerm AttrTerm). named cast_name n.head.name) s.2 ∙ ap (λ (h : Header). named cast_name h.name) (node_head o) ∙ e in
    let breaks : option_map broken (surroundings (head o).id t) ≡ option_map broken (surroundings (head o).id u) =
    ap (option_map broken) s.1 ∙ ap Some (broken_alike s.0 r.0 (s.2 ∙ same ∙ sym r.2) name) ∙ sym (ap (option_map broken) r.1) in
    ap (λ a. breaks_none a && list_all (λ (k : List ℕ × AttrTerm). is_inherent (head o).name k.0) (head o).properties) breaks
