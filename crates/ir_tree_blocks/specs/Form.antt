-- The form of nested trees: what scopes look like, and which labels a terminator may name.
use Rattle.std.specs.Prelude.{◌≡◌, ℕ, List, [], ◌∷◌, ◌++◌, map, eqb, Bool, true, false, ◌&&◌, ◌||◌, not, if◌then◌else◌, Option, Some, None}
use Rattle.std.specs.List.{list_any, list_all}
use Rattle.ir_tree.specs.Tree.{op, no_regions, region, empty, block, no_ops, next, head, regions}
use Rattle.ir_tree.specs.Limits.{every}
use Rattle.ir_tree.specs.Meaning.{Operation}
use Rattle.ir_tree_blocks.specs.Scopes.{is_scope, order_of, label_of, is_unreachable, successors_of}
use Rattle.ir_tree_blocks.specs.Nesting.{Regions, Region, Ops, all_differ}

-- whether a list has no item
abbrev pub is_nil : {X : Type 0} → List X → Bool
is_nil [] = true
is_nil (x ∷ xs) = false

-- the labels that the operations of a block name as successors, without those of scopes
abbrev pub named_in : Ops → List ℕ
named_in no_ops = []
named_in (next o os) = (if is_scope (head o) then [] else successors_of (head o)) ++ named_in os

-- a block of a region: its label, the labels of the blocks around it, innermost first, whether it is inside a scope that
-- is marked as unreachable, and the labels that it names
pub record PlacedBlock : Type 0 where
  pub label : ℕ
  pub around : List ℕ
  pub unreachable : Bool
  pub names : List ℕ

abbrev mutual
  -- the blocks of the scopes of a list, with these blocks around them
  pub placed_under : List ℕ → Bool → Ops → List PlacedBlock
  placed_under around u no_ops = []
  placed_under around u (next o os) = (if is_scope (head o) then placed_in around u o else []) ++ placed_under around u os

  -- the block of a scope, and the blocks inside it
  pub placed_in : List ℕ → Bool → Operation → List PlacedBlock
  placed_in around u (op h rs) = placed_in_regions (label_of h) around (u || is_unreachable h) rs

  pub placed_in_regions : ℕ → List ℕ → Bool → Regions → List PlacedBlock
  placed_in_regions l around u no_regions = []
  placed_in_regions l around u (region g rs) = placed_in_region l around u g

  pub placed_in_region : ℕ → List ℕ → Bool → Region → List PlacedBlock
  placed_in_region l around u empty = []
  placed_in_region l around u (block args os) = record { label = l; around = around; unreachable = u; names = named_in os } ∷ placed_under (l ∷ around) u os

-- the blocks of a region: the entry, with label 0, and those inside it
abbrev pub placed_blocks : Region → List PlacedBlock
placed_blocks g = placed_in_region 0 [] false g

-- whether a test holds for each region of an operation
abbrev pub all_regions : (Region → Bool) → Regions → Bool
all_regions p no_regions = true
all_regions p (region g rs) = p g && all_regions p rs

-- whether a test holds for each region of each operation that isn't a scope
abbrev pub each_region : (Region → Bool) → Operation → Bool
each_region p = every (λ o. is_scope (head o) || all_regions p (regions o))

-- whether an operation has one region, and that region has a block
abbrev pub has_one_block : Regions → Bool
has_one_block no_regions = false
has_one_block (region empty rs) = false
has_one_block (region (block args os) no_regions) = true
has_one_block (region (block args os) (region g rs)) = false

-- whether an operation has a label
abbrev pub has_label : Option ℕ → Bool
has_label None = false
has_label (Some l) = true

-- whether an operation is no scope, or has no operands and no results, a label, and one region with a block
abbrev pub is_shaped : Operation → Bool
is_shaped o = not (is_scope (head o)) || (is_nil (head o).operands && (is_nil (head o).results && (has_label (order_of (head o)) && has_one_block (regions o))))

-- whether no two blocks of a region have one label; the entry has label 0
abbrev pub labels_differ : Region → Bool
labels_differ g = all_differ (map (λ b. b.label) (placed_blocks g))

-- whether no scope has id x
abbrev pub is_no_scope : ℕ → Operation → Bool
is_no_scope x t = every (λ o. not (eqb (head o).id x && is_scope (head o))) t

-- F1: the root is no scope, each scope has the shape above, and no two blocks of a region have one label
pub record HasScopes (t : Operation) : Type 0 where
  pub root : is_scope (head t) ≡ false
  pub shaped : every is_shaped t ≡ true
  pub labels : each_region labels_differ t ≡ true

-- whether a list has only scopes
abbrev pub only_scopes : Ops → Bool
only_scopes no_ops = true
only_scopes (next o os) = is_scope (head o) && only_scopes os

-- whether scopes are after all other operations of a block
abbrev pub ends_in_scopes : Ops → Bool
ends_in_scopes no_ops = true
ends_in_scopes (next o os) = if is_scope (head o) then only_scopes os else ends_in_scopes os

-- whether only the last operation that isn't a scope has successors
abbrev pub only_last_names : Ops → Bool
only_last_names no_ops = true
only_last_names (next o os) = (is_scope (head o) || (is_nil (successors_of (head o)) || only_scopes os)) && only_last_names os

-- a test of the operations of the block of each region
abbrev pub all_lists : (Ops → Bool) → Regions → Bool
all_lists p no_regions = true
all_lists p (region empty rs) = all_lists p rs
all_lists p (region (block args os) rs) = p os && all_lists p rs

abbrev pub each_block : (Ops → Bool) → Operation → Bool
each_block p = every (λ o. all_lists p (regions o))

-- whether the innermost block around a block is in a list
abbrev pub is_below_one_of : List ℕ → List ℕ → Bool
is_below_one_of ls [] = false
is_below_one_of ls (w ∷ around) = list_any (eqb w) ls

-- whether block b may name block c: c is a child of b or of a block around b, and isn't inside a scope that is marked as
-- unreachable; a block inside such a scope may name any block but the entry
abbrev pub can_name : PlacedBlock → PlacedBlock → Bool
can_name b c = if b.unreachable then not (is_nil c.around) else not c.unreachable && is_below_one_of (b.label ∷ b.around) c.around

-- whether each label that a block names is that of a block that it may name
abbrev pub names_in_sight : List PlacedBlock → PlacedBlock → Bool
names_in_sight all b = list_all (λ l. list_any (λ c. eqb c.label l && can_name b c) all) b.names

abbrev pub is_lexical : Region → Bool
is_lexical g = list_all (names_in_sight (placed_blocks g)) (placed_blocks g)

-- F4: labels are lexical
abbrev pub HasLexicalLabels : Operation → Type 0
HasLexicalLabels t = each_region is_lexical t ≡ true

-- the form: F1 to F4
pub record IsInForm (t : Operation) : Type 0 where
  pub scopes : HasScopes t
  pub scopes_last : each_block ends_in_scopes t ≡ true
  pub terminators : each_block only_last_names t ≡ true
  pub lexical : HasLexicalLabels t

-- whether a nested tree has a flat tree: no two blocks of a region have one label, and each label that is named is the
-- label of a block of the region
abbrev pub names_blocks : List PlacedBlock → PlacedBlock → Bool
names_blocks all b = list_all (λ l. list_any (λ c. eqb c.label l) all) b.names

abbrev pub has_flat : Operation → Bool
has_flat = each_region (λ g. labels_differ g && list_all (names_blocks (placed_blocks g)) (placed_blocks g))
