-- Operations that say nothing of blocks: they are no scopes, and have no successors.
use Rattle.std.specs.Prelude.{ℕ, eqb, Bool, ◌&&◌, ◌||◌, not}
use Rattle.ir_tree.specs.Tree.{head}
use Rattle.ir_tree.specs.Limits.{every}
use Rattle.ir_tree.specs.Meaning.{Operation}
use Rattle.ir_tree_blocks.specs.Flat.{Head}
use Rattle.ir_tree_blocks.specs.Scopes.{is_scope, successors_of}
use Rattle.ir_tree_blocks.specs.Form.{is_nil}

abbrev pub is_plain : Head → Bool
is_plain h = not (is_scope h) && is_nil (successors_of h)

-- whether an operation has another id than x, or is plain
abbrev pub is_other_or_plain : ℕ → Head → Bool
is_other_or_plain x h = not (eqb h.id x) || is_plain h

-- whether operation x of a tree is plain
abbrev pub is_plain_op : ℕ → Operation → Bool
is_plain_op x t = every (λ o. is_other_or_plain x (head o)) t
