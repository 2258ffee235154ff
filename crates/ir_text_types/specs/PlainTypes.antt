-- The types of one word without a signedness.
use Rattle.std.specs.Prelude.{ℕ, ◌==◌, if◌then◌else◌, List, [], ◌∷◌, Option, Some, None}
use Rattle.ir_types.specs.declared.node.Sign.TheVariants.{Signless}
use Rattle.ir_types.specs.declared.node.TypeNode.{TypeNode}
use Rattle.ir_types.specs.declared.node.TypeNode.TheVariants.{Int}
use Rattle.ir_types.specs.declared.node.TypeNode.TheVariants as type
use Rattle.ir_text_types.specs.declared.scalar_types.ScalarType.{ScalarType}
use Rattle.ir_text_types.specs.declared.scalar_types.ScalarType.TheVariants.{Integer, Index}
use Rattle.ir_text_types.specs.Scalars.{width_of}

-- the width of the signless integer type that a word names
abbrev pub plain_width : List ℕ → Option ℕ
plain_width [] = None
plain_width (c ∷ ds) = if c == 105 then width_of ds else None

-- the node of such a type
abbrev pub plain_node : ScalarType → TypeNode
plain_node (Integer width) = Int Signless width
plain_node Index = type.Index
