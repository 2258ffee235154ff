-- The blocks of verified branches and loops.
use Rattle.std.proofs.Common.{◌≡◌, refl, ap, sym, ◌∙◌, subst, ℕ, zero, suc, ◌≤◌, Bool, true, false, ◌&&◌, not, List, [], ◌∷◌, cond, ◌+◌, length, Option, Some, None, option_map, is_none, inl, inr, arith}
use Rattle.std.specs.Prelude.{◌==◌, codes, is_some, option_and_then, slice_get}
use Rattle.std.specs.Cmp.{unsigned_Decides}
use Rattle.std.specs.Str.{bytes_eq}
use Rattle.ir_event.specs.types.Words.{is_isolated, is_table}
use Rattle.ir_event.specs.types.Terms.{TypeTerm, AttrTerm}
use Rattle.ir_event.specs.trees.declared.value.Value.{Value}
use Rattle.ir_event.specs.trees.declared.value.Value.TheVariants.{Arg}
use Rattle.ir_event.specs.trees.declared.place.Place.{Place}
use Rattle.ir_event.specs.trees.Tree.{op, RegionOf, head, regions}
use Rattle.ir_event.specs.trees.Uses.{operand_uses, same_value, uses_of}
use Rattle.ir_event.specs.trees.Meaning.{Operation}
use Rattle.ir_event.proofs.of_trees.Replaced.{same_value_true}
use Rattle.ir_event.specs.store.Nodes.{node_of}
use Rattle.ir_event.specs.tree_laws.Stands.{StepOf, op_with_path_id, stands}
use Rattle.ir_event.specs.tree_laws.Members.{In}
use Rattle.ir_event.specs.tree_laws.Values.{arguments_at, arguments_of, has_value, region_at}
use Rattle.ir_event.proofs.of_tree_laws.Listed.{neither}
use Rattle.ir_event.proofs.of_tree_laws.Members.{found_stands, stand, stand_of_member}
use Rattle.ir_event.proofs.of_tree_laws.Readings.{stands_uses}
use Rattle.ir_event.proofs.of_tree_laws.Values.{seen_by}
use Rattle.op_registry.specs.Rows.{RegionRow, Row, TypesRow, rows}
use Rattle.op_registry.specs.Registry.{row_of}
use Rattle.listeners_support.specs.Surroundings.{surround}
use Rattle.ir_verify_base.specs.Fits.{Known, any_region, block_at, is_named, known_of, there, types_fit}
use Rattle.ir_verify_base.specs.TypeRules.{any_differ, arguments_differ}
use Rattle.ir_verify.specs.BlockRules.{is_without}
use Rattle.ir_event.specs.Modules.{Module}
use Rattle.patterns_soundness.proofs.Ends.{arguments_read}
use Rattle.patterns_soundness.proofs.Unbroken.{OpWithPath, Unbroken, verified_unbroken}
use Rattle.patterns_soundness.proofs.Points.{Point, own_operand}
use Rattle.ir_event.proofs.of_tree_laws.Changed.{gather_none}
use Rattle.listeners_support.proofs.Reading.{head_shown}
use Rattle.effects.proofs.Unused.{none_here}
use Rattle.std.proofs.lemmas.Bool.{not-false}
use Rattle.patterns_soundness.proofs.Yielding.{row_there}

-- the rules that a verified operation doesn't break
pub unbroken_there : (m : Module) (o : Operation) (insertion : Place) → Point m o insertion → (row : Row) → row_of (head o).name ≡ Some row → (path : List (StepOf (List ℕ) TypeTerm AttrTerm)) × Unbroken row (surround m.tree (stand o path))
unbroken_there m o insertion s row listed =
    let w = found_stands (head o).id m.tree o s.found in
    let here : In (stand o w.0.path) (stands [] m.tree) = subst (λ (z : Operation). In (stand z w.0.path) (stands [] m.tree)) w.3 w.1 in
    (w.0.path, verified_unbroken m.tree (stand o w.0.path) row s.verified (stand_of_member m.tree s.wellformed.distinct (stand o w.0.path) here) listed)

-- the block of a region
pub block_is : (o : Operation) (r : ℕ) (g : RegionOf (List ℕ) TypeTerm AttrTerm) → region_at r (regions o) ≡ Some g → block_at r (node_of o) ≡ arguments_of g
block_is (op h rs) r g e = ap (option_and_then (λ args. args)) (arguments_read rs r ∙ ap (option_map (λ g. arguments_of g)) e)

pub no_uses : (m : Module) (o : Operation) (insertion : Place) → Point m o insertion → (v : Value) → has_value v m.tree ≡ false → uses_of v m.tree ≡ []
no_uses m o insertion s v none =
    sym (stands_uses v [] m.tree)
    ∙ gather_none (λ (s : OpWithPath). operand_uses v (op_with_path_id s) 0 (head s.here).operands) (stands [] m.tree) (λ z i.
    none_here v (op_with_path_id z) 0 (head z.here).operands (λ w j. differs w (seen_by is_isolated m.tree s.wellformed.distinct z i w (own_operand m.tree s.wellformed.distinct s.wellformed.wellformed.visible z i w j)).is))
  where
    differs : (w : Value) → has_value w m.tree ≡ true → same_value v w ≡ false
    differs w there = go (same_value v w) refl
      where
        go : (b : Bool) → same_value v w ≡ b → same_value v w ≡ false
        go false e = e
        go true e = (let bad : true ≡ false = sym there ∙ ap (λ z. has_value z m.tree) (sym (same_value_true v w e)) ∙ none in absurd cc)

abbrev no_type : List TypeTerm
no_type = []

-- a block without arguments has no argument uses
pub no_arguments : (m : Module) (o : Operation) (insertion : Place) → Point m o insertion → (r : ℕ) → arguments_at r o ≡ Some [] → (k : ℕ) → uses_of (Arg (head o).id r k) m.tree ≡ []
no_arguments m o insertion s r none k =
    no_uses m o insertion s (Arg (head o).id r k)
    (ap (λ f. is_some (option_and_then (λ o. option_and_then (λ args. slice_get args k) (arguments_at r o)) f)) s.found ∙ ap (λ f. is_some (option_and_then (λ args. slice_get args k) f)) none ∙ at_none k)
  where
    at_none : (k : ℕ) → is_some (slice_get no_type k) ≡ false
    at_none zero = refl
    at_none (suc k) = refl

-- the regions of branches and loops
abbrev no_types : TypesRow
no_types = record { first = []; more = None }

abbrev pub regions_in : List ℕ → Option (List RegionRow)
regions_in name = option_map (λ (row : Row). row.regions) (row_of name)

abbrev pub if_regions : List RegionRow
if_regions = record { arguments = no_types; may_be_empty = false } ∷ record { arguments = no_types; may_be_empty = true } ∷ []

pub if_regions_are : regions_in (codes "scf.if") ≡ Some if_regions
unfolding row_of rows
if_regions_are = refl

pub if_opened : is_isolated (codes "scf.if") ≡ false
unfolding is_isolated
if_opened = refl

pub if_plain : is_table (codes "scf.if") ≡ false
unfolding is_table
if_plain = refl

no_more : (known : Known) (args : List TypeTerm) → not (types_fit known no_types (there args)) ≡ false → args ≡ []
no_more known [] e = refl
no_more known (a ∷ args) e = (let z = (unsigned_Decides (length (there (a ∷ args))) 0).0 (not-false (length (there (a ∷ args)) == 0) e) in absurd (omega (arith, z)))

row_with : (f : Option Row) (rs : List RegionRow) → option_map (λ (row : Row). row.regions) f ≡ Some rs → (row : Row) × (f ≡ Some row) × (row.regions ≡ rs)
row_with None rs e = absurd cc
row_with (Some row) rs e = (row, refl, cc)

-- the blocks of a branch have no arguments; a branch without a first block breaks a rule, and one without a second has
-- no results
module _ (m : Module) (o : Operation) (insertion : Place) (s : Point m o insertion) (name : (head o).name ≡ codes "scf.if") where
  abbrev listed : (row : Row) × (row_of (head o).name ≡ Some row) × (row.regions ≡ if_regions)
  listed = row_with (row_of (head o).name) if_regions (ap regions_in name ∙ if_regions_are)

  unbroken : (path : List (StepOf (List ℕ) TypeTerm AttrTerm)) × Unbroken (row_with (row_of (head o).name) if_regions (ap regions_in name ∙ if_regions_are)).0 (surround m.tree (stand o path))
  unbroken = unbroken_there m o insertion s listed.0 listed.1

  arguments_fit : (known : Known) × (any_differ known if_regions (node_of o) ≡ false)
  arguments_fit = (let u = unbroken in let s = surround m.tree (stand o u.0) in (known_of listed.0 s, sym (ap (λ rs. any_differ (known_of listed.0 s) rs (node_of o)) listed.2) ∙ u.1.arguments))

  pub if_arguments : (r : ℕ) → r ≤ 1 → (args : List TypeTerm) → block_at r (node_of o) ≡ Some args → args ≡ []
  if_arguments zero l args e =
      let w = arguments_fit in
      let a = neither (arguments_differ w.0 (record { arguments = no_types; may_be_empty = false }) (block_at 0 (node_of o))) _ w.1 in
      no_more w.0 args (sym (ap (arguments_differ w.0 (record { arguments = no_types; may_be_empty = false })) e) ∙ a.0)
  if_arguments (suc zero) l args e =
      let w = arguments_fit in
      let a = neither (arguments_differ w.0 (record { arguments = no_types; may_be_empty = false }) (block_at 0 (node_of o))) _ w.1 in
      let b = neither (arguments_differ w.0 (record { arguments = no_types; may_be_empty = true }) (block_at 1 (node_of o))) false a.1 in
      no_more w.0 args (sym (ap (arguments_differ w.0 (record { arguments = no_types; may_be_empty = true })) e) ∙ b.0)
  if_arguments (suc (suc r)) l args e = absurd (omega (arith, l))

  first_block : is_none (block_at 0 (node_of o)) ≡ true → ⊥
  first_block none =
      let u = unbroken in
      let a = neither (is_without (node_of o) 0 (record { arguments = no_types; may_be_empty = false })) _ (sym (ap (any_region (is_without (node_of o))) listed.2) ∙ u.1.blocks) in
      let bad : true ≡ false = sym none ∙ a.0 in
      absurd cc

  no_results : is_none (block_at 1 (node_of o)) ≡ true → (head o).results ≡ []
  no_results none =
      let u = unbroken in
      let named_so : is_named (node_of o) (codes "scf.if") ≡ true = ap (λ h. bytes_eq h.name (codes "scf.if")) (head_shown o) ∙ ap (λ n. bytes_eq n (codes "scf.if")) name in
      ap (λ h. h.results) (sym (head_shown o))
      ∙ empty_list (node_of o).head.results (sym (λ i. named_so i && (not (length (node_of o).head.results == 0) && none i)) ∙ u.1.chooses)
    where
      is_so : (b : Bool) → true && (not b && true) ≡ false → b ≡ true
      is_so true e = refl
      is_so false e = absurd cc

      empty_list : (tys : List TypeTerm) → true && (not (length tys == 0) && true) ≡ false → tys ≡ []
      empty_list [] e = refl
      empty_list (ty ∷ tys) e = (let z = (unsigned_Decides (length (ty ∷ tys)) 0).0 (is_so (length (ty ∷ tys) == 0) e) in absurd (omega (arith, z)))

  -- so a branch has no results if the chosen region has no block
  pub none_given : (r : ℕ) → r ≤ 1 → block_at r (node_of o) ≡ None → (head o).results ≡ []
  none_given zero l e = absurd (first_block (ap is_none e))
  none_given (suc zero) l e = no_results (ap is_none e)
  none_given (suc (suc r)) l e = absurd (omega (arith, l))
