-- The types of verified loops: of their block arguments, their results, and the operands of a condition.
use Rattle.std.proofs.Common.{◌≡◌, refl, ap, sym, ◌∙◌, subst, ℕ, List, [], ◌∷◌, length, map, Bool, true, false, ◌&&◌, ◌||◌, if◌then◌else◌, Option, Some, None, inl, inr}
use Rattle.std.specs.Prelude.{codes, drop, option_map, option_and_then, is_some, unwrap_or}
use Rattle.std.specs.Option.{option_eq}
use Rattle.std.specs.Str.{bytes_eq}
use Rattle.std.proofs.lemmas.Slice.Eq.{bytes_eq-Decides}
use Rattle.ir_event.specs.types.Words.{is_isolated, is_table}
use Rattle.ir_event.specs.types.Terms.{TypeTerm, AttrTerm}
use Rattle.ir_event.specs.types.SameTypes.{same_type}
use Rattle.ir_event.specs.trees.declared.value.Value.{Value}
use Rattle.ir_event.specs.trees.declared.place.Place.{Place}
use Rattle.ir_event.specs.trees.Tree.{block, no_ops, head, regions}
use Rattle.ir_event.specs.trees.Meaning.{Operation}
use Rattle.ir_event.specs.store.Nodes.{node_of}
use Rattle.ir_event.specs.tree_laws.Members.{In}
use Rattle.ir_event.specs.tree_laws.Reads.{ops_in}
use Rattle.ir_event.specs.tree_laws.Stands.{StepOf, stands}
use Rattle.ir_event.specs.tree_laws.Values.{type_of_value}
use Rattle.ir_event.proofs.of_tree_laws.Listed.{both, neither}
use Rattle.ir_event.proofs.of_tree_laws.Members.{found_stands, stand, stand_of_member}
use Rattle.ir_event.proofs.of_tree_laws.Readings.{step}
use Rattle.op_registry.specs.Rows.{RegionRow, Row, TypesRow, rows}
use Rattle.op_registry.specs.declared.definition.TypeRule.TheVariants as type
use Rattle.op_registry.specs.Registry.{row_of}
use Rattle.listeners_support.specs.Surroundings.{last_name, surround}
use Rattle.listeners_support.proofs.Points.{stands_in}
use Rattle.ir_verify_base.specs.Types.{same_types}
use Rattle.ir_verify_base.specs.Fits.{Known, Node, Surroundings, block_at, first_called, function_type, is_named, is_the_number, there, types_fit}
use Rattle.ir_verify_base.specs.TypeRules.{any_differ, arguments_differ, is_no_number}
use Rattle.ir_verify.specs.BlockRules.{breaks_9, ends_otherwise, isnt_required, last_at}
use Rattle.ir_verify.specs.PlaceRules.{differ, ended_of, if_well_shaped, passed}
use Rattle.ir_event.specs.Modules.{Module}
use Rattle.patterns_base.proofs.Plans.{dominated_by}
use Rattle.patterns_soundness.specs.base.Looks.{Ended, body}
use Rattle.patterns_soundness.proofs.Ends.{Ending, ending, names_at}
use Rattle.patterns_soundness.proofs.Unbroken.{Unbroken, verified_unbroken, spoken}
use Rattle.patterns_soundness.proofs.VerifiedBlocks.{block_is, unbroken_there}
use Rattle.patterns_soundness.proofs.Given.{turned}
use Rattle.patterns_soundness.proofs.Results.{AreGiven}
use Rattle.patterns_soundness.proofs.Points.{Point}
use Rattle.listeners_support.proofs.Reading.{name_joined, head_shown}
use Rattle.std.proofs.lemmas.Bool.{not-false}
use Rattle.patterns_soundness.proofs.Yielding.{row_there}

-- the table entry of a name, with a function of it
row_that : {X : Type 0} (f : Row → X) (o : Option Row) (x : X) → option_map f o ≡ Some x → (row : Row) × (o ≡ Some row) × (f row ≡ x)
row_that f None x e = absurd cc
row_that f (Some row) x e = (row, refl, cc)

-- the types that a table entry requires
pub record Requested : Type 0 where
  pub operands : TypesRow
  pub results : TypesRow
  pub regions : List RegionRow

abbrev requested_in : Row → Requested
requested_in row = record { operands = row.operands; results = row.results; regions = row.regions }

-- the known types, by what the table entry requires of operands
abbrev pub known_by : TypesRow → Surroundings → Known
known_by operands s = record {
  number = first_called type.Number operands.first s.types;
  same = first_called type.Any operands.first s.types;
  initial = drop (length operands.first) s.types;
  results = there s.node.head.results;
  inputs = unwrap_or (option_map (λ f. there f.0) (function_type s.node)) [];
}

-- the types of a verified operation with this table entry
pub record Fitting (m : Module) (o : Operation) (a : Requested) : Type 0 where
  pub at : Surroundings
  pub types : at.types ≡ map (λ v. type_of_value v m.tree) (head o).operands
  pub operands : types_fit (known_by a.operands at) a.operands at.types ≡ true
  pub results : types_fit (known_by a.operands at) a.results (there (head o).results) ≡ true
  pub regions : any_differ (known_by a.operands at) a.regions (node_of o) ≡ false

pub fitting : (m : Module) (o : Operation) (insertion : Place) → Point m o insertion → (a : Requested) → option_map requested_in (row_of (head o).name) ≡ Some a → Fitting m o a
fitting m o insertion s a e =
    let w = row_that requested_in (row_of (head o).name) a e in
    let u = unbroken_there m o insertion s w.0 w.1 in
    let z = surround m.tree (stand o u.0) in
    record {
      at = z;
      types = refl;
      operands = sym (ap (λ (b : Requested). types_fit (known_by b.operands z) b.operands z.types) w.2) ∙ not-false _ (neither (is_no_number (known_by w.0.operands z).number) _ u.1.operands).1;
      results = ap (λ l. types_fit (known_by a.operands z) a.results (there l)) (ap (λ h. h.results) (sym (head_shown o)))
          ∙ sym (ap (λ (b : Requested). types_fit (known_by b.operands z) b.results (there (node_of o).head.results)) w.2) ∙ not-false _ u.1.results;
      regions = sym (ap (λ (b : Requested). any_differ (known_by b.operands z) b.regions (node_of o)) w.2) ∙ u.1.arguments;
    }

-- values of some types that dominate x
pub given_from : (x : ℕ) (insertion : Place) (m : Module) (vs : List Value) (tys : List TypeTerm) → same_types (map (λ v. type_of_value v m.tree) vs) (there tys) ≡ true → ((v : Value) → In v vs → dominated_by x v m ≡ true) → AreGiven x insertion vs tys m
given_from x insertion m [] [] e seen = tt
given_from x insertion m [] (ty ∷ tys) e seen = absurd cc
given_from x insertion m (v ∷ vs) [] e seen = absurd cc
given_from x insertion m (v ∷ vs) (ty ∷ tys) e seen =
    let b = both (option_eq same_type (type_of_value v m.tree) (Some ty)) _ e in
    ((seen v (inl refl), one (type_of_value v m.tree) b.0), given_from x insertion m vs tys b.1 (λ w i. seen w (inr i)))
  where
    one : (o : Option TypeTerm) → option_eq same_type o (Some ty) ≡ true → (u : TypeTerm) × (o ≡ Some u) × (same_type ty u ≡ true)
    one None e = absurd cc
    one (Some u) e = (u, refl, turned u ty e)

-- the requirements of the table entries of loops
abbrev any_types : TypesRow
any_types = record { first = []; more = Some type.Any }

abbrev initial_types : TypesRow
initial_types = record { first = []; more = Some type.Initial }

abbrev pub while_asks : Requested
while_asks = record {
  operands = record { first = []; more = Some type.Any };
  results = record { first = []; more = Some type.Any };
  regions = record { arguments = record { first = []; more = Some type.Initial }; may_be_empty = false } ∷ record { arguments = record { first = []; more = Some type.Result }; may_be_empty = false } ∷ [];
}

while_requested : option_map requested_in (row_of (codes "scf.while")) ≡ Some while_asks
unfolding row_of rows
while_requested = refl

abbrev pub for_asks : Requested
for_asks = record {
  operands = record { first = type.Number ∷ type.Number ∷ type.Number ∷ []; more = Some type.Any };
  results = record { first = []; more = Some type.Initial };
  regions = record { arguments = record { first = type.Number ∷ []; more = Some type.Initial }; may_be_empty = false } ∷ [];
}

for_requested : option_map requested_in (row_of (codes "scf.for")) ≡ Some for_asks
unfolding row_of rows
for_requested = refl

pub while_opened : is_isolated (codes "scf.while") ≡ false
unfolding is_isolated
while_opened = refl

pub while_plain : is_table (codes "scf.while") ≡ false
unfolding is_table
while_plain = refl

pub for_opened : is_isolated (codes "scf.for") ≡ false
unfolding is_isolated
for_opened = refl

pub for_plain : is_table (codes "scf.for") ≡ false
unfolding is_table
for_plain = refl

module _ (m : Module) (o : Operation) (insertion : Place) (s : Point m o insertion) where
  abbrev types_of : List Value → List (Option TypeTerm)
  types_of vs = map (λ v. type_of_value v m.tree) vs

  -- the arguments of a while loop's first block have the types of its operands
  pub while_arguments : (head o).name ≡ codes "scf.while" → (args : List TypeTerm) → block_at 0 (node_of o) ≡ Some args → same_types (map (λ v. type_of_value v m.tree) (head o).operands) (there args) ≡ true
  while_arguments name args e =
      let w = fitting m o insertion s while_asks (ap (λ n. option_map requested_in (row_of n)) name ∙ while_requested) in
      let k = known_by while_asks.operands w.at in
      let a = neither (arguments_differ k (record { arguments = initial_types; may_be_empty = false }) (block_at 0 (node_of o))) _ w.regions in
      ap (λ l. same_types l (there args)) (sym w.types) ∙ not-false _ (sym (ap (arguments_differ k (record { arguments = initial_types; may_be_empty = false })) e) ∙ a.0)

  module _ (name : (head o).name ≡ codes "scf.for") (lower upper number : Value) (inits : List Value) (operands : (head o).operands ≡ lower ∷ upper ∷ number ∷ inits) where
    for_fits : Fitting m o for_asks
    for_fits = fitting m o insertion s for_asks (ap (λ n. option_map requested_in (row_of n)) name ∙ for_requested)

    types_are : for_fits.at.types ≡ map (λ v. type_of_value v m.tree) (lower ∷ upper ∷ number ∷ inits)
    types_are = for_fits.types ∙ ap (map (λ v. type_of_value v m.tree)) operands

    -- the results of a loop have the types of its initial values
    pub for_results : same_types (map (λ v. type_of_value v m.tree) inits) (there (head o).results) ≡ true
    for_results = sym (ap (λ l. same_types (drop 3 l) (there (head o).results)) types_are) ∙ for_fits.results

    -- and so have the arguments of its block, except the first, which has the type of the bounds
    pub for_arguments : (args : List TypeTerm) → block_at 0 (node_of o) ≡ Some args → same_types (map (λ v. type_of_value v m.tree) (lower ∷ inits)) (there args) ≡ true
    for_arguments args e = go args (not-false _ (sym (ap (arguments_differ (known_by for_asks.operands for_fits.at) of_block) e) ∙ (neither (arguments_differ (known_by for_asks.operands for_fits.at) of_block (block_at 0 (node_of o))) false for_fits.regions).0))
      where
        of_block : RegionRow
        of_block = record { arguments = record { first = type.Number ∷ []; more = Some type.Initial }; may_be_empty = false }

        numbered : is_the_number (type_of_value lower m.tree) (type_of_value lower m.tree) ≡ true
        numbered = (both (is_the_number (type_of_value lower m.tree) (type_of_value lower m.tree)) _ (sym (ap (λ l. types_fit (known_by_types l) for_asks.operands l) types_are) ∙ for_fits.operands)).0
          where
            known_by_types : List (Option TypeTerm) → Known
            known_by_types l = known_by for_asks.operands (record for_fits.at { types = l })

        first : (ty : Option TypeTerm) (a : TypeTerm) → is_the_number ty ty ≡ true → is_the_number ty (Some a) ≡ true → option_eq same_type ty (Some a) ≡ true
        first None a p q = absurd cc
        first (Some u) a p q = q

        go : (args : List TypeTerm) → types_fit (known_by for_asks.operands for_fits.at) (record { first = type.Number ∷ []; more = Some type.Initial }) (there args) ≡ true → same_types (map (λ v. type_of_value v m.tree) (lower ∷ inits)) (there args) ≡ true
        go [] f = absurd cc
        go (a ∷ args) f =
            let b = both (is_the_number for_number (Some a)) _ f in
            (λ i. first (type_of_value lower m.tree) a numbered (sym (ap (λ n. is_the_number n (Some a)) number_is) ∙ b.0) i && (sym (ap (λ l. same_types (drop 3 l) (there args)) types_are) ∙ b.1) i)
          where
            for_number : Option TypeTerm
            for_number = (known_by for_asks.operands for_fits.at).number

            number_is : for_number ≡ type_of_value lower m.tree
            number_is = ap (first_called type.Number for_asks.operands.first) types_are

-- rule 9, of a while loop
while_ends : (s : Surroundings) → s.node.head.name ≡ codes "scf.while" → breaks_9 s ≡ false → ends_otherwise 0 (codes "scf.condition") s ≡ false
while_ends s n e = (neither (ends_otherwise 0 (codes "scf.condition") s) _ (go s.node.head.name n e)).0
  where
    go : (name : List ℕ) → name ≡ codes "scf.while"
        → (if◌then◌else◌ (bytes_eq name (codes "scf.while")) (ends_otherwise 0 (codes "scf.condition") s || ends_otherwise 1 (codes "scf.yield") s)
        (if◌then◌else◌ (bytes_eq name (codes "scf.if")) (ends_otherwise 0 (codes "scf.yield") s || ends_otherwise 1 (codes "scf.yield") s) (bytes_eq name (codes "scf.for") && ends_otherwise 0 (codes "scf.yield") s))) ≡ false
        → ends_otherwise 0 (codes "scf.condition") s || ends_otherwise 1 (codes "scf.yield") s ≡ false
    go name n e =
        subst
        (λ (name : List ℕ).
        (if◌then◌else◌ (bytes_eq name (codes "scf.while")) (ends_otherwise 0 (codes "scf.condition") s || ends_otherwise 1 (codes "scf.yield") s)
        (if◌then◌else◌ (bytes_eq name (codes "scf.if")) (ends_otherwise 0 (codes "scf.yield") s || ends_otherwise 1 (codes "scf.yield") s) (bytes_eq name (codes "scf.for") && ends_otherwise 0 (codes "scf.yield") s))) ≡ false)
        n e

while_passes : (p : Node) → p.head.name ≡ codes "scf.while" → passed p ≡ Some (there p.head.results)
while_passes p n = ap (λ (name : List ℕ). if◌then◌else◌ (bytes_eq name (codes "scf.while")) (Some (there p.head.results)) None) n

condition_listed : is_some (row_of (codes "scf.condition")) ≡ true
unfolding row_of rows
condition_listed = refl

-- the types of the operands of the condition in a while loop's first block
pub condition_types : (m : Module) (o : Operation) (insertion : Place) → Point m o insertion → (head o).name ≡ codes "scf.while" → (e : Ended) → body m.tree o 0 ≡ Some e → same_types (there (head o).results) (drop 1 (map (λ v. type_of_value v m.tree) e.last.operands)) ≡ true
condition_types m o insertion s name e k =
    let w = found_stands (head o).id m.tree o s.found in
    let path = w.0.path in
    let here : In (stand o path) (stands [] m.tree) = subst (λ (z : Operation). In (stand z path) (stands [] m.tree)) w.3 w.1 in
    let n = ending m.tree o 0 e k in
    let row = row_that requested_in (row_of (head o).name) while_asks (ap (λ n. option_map requested_in (row_of n)) name ∙ while_requested) in
    let u = verified_unbroken m.tree (stand o path) row.0 s.verified (stand_of_member m.tree s.wellformed.distinct (stand o path) here) row.1 in
    go path here n row.0 row.1 u
  where
    go : (path : List (StepOf (List ℕ) TypeTerm AttrTerm)) → In (stand o path) (stands [] m.tree) → (n : Ending m.tree o 0 e) → (row : Row) → row_of (head o).name ≡ Some row → Unbroken row (surround m.tree (stand o path))
        → same_types (there (head o).results) (drop 1 (map (λ v. type_of_value v m.tree) e.last.operands)) ≡ true
    go path here n row listed u =
        let inner = stand n.last (step o 0 n.args n.preceding no_ops ∷ path) in
        let inner_located = stand_of_member m.tree s.wellformed.distinct inner (stands_in m.tree o path 0 n.args n.preceding n.last no_ops here n.block) in
        let outer = surround m.tree (stand o path) in
        let node_name = ap (λ h. h.name) (head_shown o) ∙ name in
        let last_is : last_at 0 outer ≡ Some (head n.last).name = ap (option_and_then (λ last. last)) (names_at (regions o) 0 ∙ ap (option_map (λ g. option_and_then last_name (ops_in g))) n.block) ∙ name_joined n.preceding n.last in
        let y : (head n.last).name ≡ codes "scf.condition" = (bytes_eq-Decides (head n.last).name (codes "scf.condition")).0
        (not-false (bytes_eq (head n.last).name (codes "scf.condition"))
        (sym (ap (isnt_required (codes "scf.condition")) last_is) ∙ spoken (is_some (block_at 0 (node_of o))) _ (ap is_some (block_is o 0 (block n.args _) n.block)) (while_ends outer node_name u.ends))) in
        let found = row_there (row_of (codes "scf.condition")) condition_listed in
        let z = surround m.tree inner in
        let v = verified_unbroken m.tree inner found.0 n.verified inner_located (ap row_of y ∙ found.1) in
        let named_so : is_named z.node (codes "scf.condition") ≡ true = ap (λ h. bytes_eq h.name (codes "scf.condition")) (head_shown n.last) ∙ ap (λ m. bytes_eq m (codes "scf.condition")) y in
        let outside : ended_of z ≡ Some (node_of o) = ap (if_well_shaped (node_of o)) (ap (λ h. row_of h.name) (head_shown o) ∙ listed) ∙ ap (λ b. if◌then◌else◌ b (Some (node_of o)) None) u.shaped in
        let reported = spoken (is_named z.node (codes "scf.condition")) (differ (option_and_then passed (ended_of z)) (drop 1 z.types)) named_so v.passes in
        ap (λ h. same_types (there (head o).results) (drop 1 (map (λ v. type_of_value v m.tree) h.operands))) n.is
        ∙ ap (λ h. same_types (there h.results) (drop 1 z.types)) (sym (head_shown o))
        ∙ not-false (same_types (there (node_of o).head.results) (drop 1 z.types)) (sym (ap (λ p. differ (option_and_then passed p) (drop 1 z.types)) outside ∙ ap (λ p. differ p (drop 1 z.types)) (while_passes (node_of o) node_name)) ∙ reported)
