-- Blocks, as the store reads them operation by operation.
use Rattle.std.specs.Prelude.{◌≡◌, ℕ, List, [], ◌∷◌, Bool, true, false, Option, Some, None}
use Rattle.ir_event.specs.types.Things.{ContextModel}
use Rattle.ir_event.specs.types.Terms.{TypeTerm, AttrTerm}
use Rattle.ir_event.specs.trees.Tree.{OpOf, OpsOf, no_ops, next, RegionOf, empty, block, head}
use Rattle.ir_event.specs.trees.Ids.{find}
use Rattle.ir_event.specs.trees.Meaning.{Operation}
use Rattle.ir_event.specs.tree_laws.Reads.{ops_at}
use Rattle.ir_event.specs.store.Nodes.{Node, node_of}
use Rattle.ir_event.specs.declared.world.World.{World}
use Rattle.ir_event.specs.Modules.{node_meaning}
use Rattle.patterns_plans.specs.reads.Keeps.{given}
use Rattle.patterns_plans.specs.reads.Looks.{Ended, body}
use Rattle.patterns_plans.specs.reads.Reads.{header_of_node}
use Rattle.patterns_regions.specs.declared.block.BlockBody.{BlockBody}

-- a node shows an operation, except the operations inside its blocks
abbrev pub Shows : ContextModel → Node → Operation → Type 0
Shows c n o = node_meaning c n ≡ node_of o

-- whether a region has a block
abbrev pub is_block : RegionOf (List ℕ) TypeTerm AttrTerm → Bool
is_block empty = false
is_block (block args os) = true

-- the block of region r of operation x, if its last operation is verified
abbrev pub body_at : ℕ → ℕ → Operation → Option Ended
body_at x r t = given (find x t) (λ o. body t o r)

-- the meaning of a block that was read
abbrev pub ended_in : ContextModel → BlockBody → Ended
ended_in c b = record { before = b.before.items; last = record (header_of_node c b.node) { id = b.last } }

-- the ids of an operation and of those after it, without the last
abbrev pub but_last : {N T A : Type 0} → OpOf N T A → OpsOf N T A → List ℕ
but_last o no_ops = []
but_last o (next p os) = (head o).id ∷ but_last p os

-- the ids of an optional block, without the last
abbrev pub before_in : {N T A : Type 0} → Option (OpsOf N T A) → List ℕ
before_in None = []
before_in (Some no_ops) = []
before_in (Some (next o os)) = but_last o os

-- the ids of the block of region r of operation x, without the last
abbrev pub before_at : {N T A : Type 0} → ℕ → ℕ → OpOf N T A → List ℕ
before_at x r t = before_in (ops_at x r t)

-- the meaning of a block of operation x of a world's module, by its last operation
abbrev pub ended_with : World → ℕ → ℕ → ℕ × Node → Ended
ended_with w x r l =
    record { before = before_at x r w.store.module_of.tree; last = record (header_of_node w.ctx l.1) { id = l.0 } }
