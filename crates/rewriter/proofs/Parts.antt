-- The dictionary of an operation to which a key belongs, read from its node.
use Rattle.std.proofs.Common.{◌≡◌, ◌∙◌, sym, ap, ℕ, Option, Some, None, Bool, true, false, cond}
use Rattle.std.specs.Prelude.{is_some, option_map, ◌||◌}
use Rattle.ir_event.specs.types.Terms.{name_term}
use Rattle.ir_event.specs.types.Things.{ContextModel}
use Rattle.ir_event.specs.types.Words.{is_inherent}
use Rattle.ir_event.specs.trees.declared.place.Part.TheVariants.{Props, Attrs}
use Rattle.ir_event.specs.trees.Edits.{entry_at}
use Rattle.ir_event.specs.trees.Ids.{find, has_id}
use Rattle.ir_event.specs.trees.Meaning.{key_before_in}
use Rattle.ir_event.specs.trees.Tree.{Op, op}
use Rattle.ir_event.proofs.of_tree_laws.Around.{absent_find}
use Rattle.ir_event.specs.store.Nodes.{Node, node_of}
use Rattle.ir_event.specs.store.Stored.{Stored, known}
use Rattle.ir_event.proofs.Shown.{known_there}
use Rattle.rewriter.specs.Contents.{tests_in}
use Rattle.rewriter.specs.Edits.{part_in, part_for}

-- if the operation isn't in the module
pub absent_part : (c : ContextModel) (x k : ℕ) (t : Op) → has_id x t ≡ false → part_for (tests_in c) x k t ≡ Attrs
absent_part c x k t absent = ap (part_in (tests_in c) k) (absent_find x t absent)

node_part : (c : ContextModel) (x k : ℕ) (s : Stored) (n : Node) → has_id x s.module_of.tree ≡ true → option_map node_of (known x s) ≡ Some n
    → part_for (tests_in c) x k s.module_of.tree ≡ cond ((tests_in c).inherent n.head.name k || is_some (entry_at (key_before_in c) k n.head.properties)) Props Attrs
node_part c x k s n there e = go (find x s.module_of.tree) (ap (option_map node_of) (sym (known_there x s there)) ∙ e)
  where
    go : (o : Option Op) → option_map node_of o ≡ Some n → part_in (tests_in c) k o ≡ cond ((tests_in c).inherent n.head.name k || is_some (entry_at (key_before_in c) k n.head.properties)) Props Attrs
    go None f = absurd cc
    go (Some (op h rs)) f = (let same : node_of (op h rs) ≡ n = cc in ap (λ (m : Node). cond ((tests_in c).inherent m.head.name k || is_some (entry_at (key_before_in c) k m.head.properties)) Props Attrs) same)

-- if it is in the module, for each outcome of the two tests
pub part_by : (c : ContextModel) (x k : ℕ) (s : Stored) (n : Node) (inherent held : Bool) → has_id x s.module_of.tree ≡ true → option_map node_of (known x s) ≡ Some n
    → is_inherent (name_term c n.head.name) (name_term c k) ≡ inherent → is_some (entry_at (key_before_in c) k n.head.properties) ≡ held → part_for (tests_in c) x k s.module_of.tree ≡ cond (inherent || held) Props Attrs
part_by c x k s n inherent held there e a b = node_part c x k s n there e ∙ (λ i. cond (a i || b i) Props Attrs)
