-- The type of a literal is a type of the grown context.
use Rattle.std.proofs.Common.{◌≡◌, ℕ, Bool, List, Option, Some, None}
use Rattle.std.specs.Prelude.{option_map}
use Rattle.ir_types.specs.declared.node.TypeNode.TheVariants as type
use Rattle.ir_types.specs.declared.node.Sign.TheVariants.{Signless}
use Rattle.ir_types.specs.Things.{ContextModel, IsType}
use Rattle.ir_types.specs.Sound.{IsSound}
use Rattle.ir_text_tokens.specs.declared.token.Mark.TheVariants.{Colon}
use Rattle.ir_text_types.specs.Marks.{after}
use Rattle.ir_text_types.specs.Outcomes.{Read}
use Rattle.ir_text_attributes.specs.AttrReading.{suffix_from, suffix_at}
use Rattle.ir_text_types.proofs.Numbered.{type_done_known, type_known}

pub suffix_known : (o : Bool) (bytes rest : List ℕ) (c d : ContextModel) (n : ℕ) → IsSound c → suffix_at o (bytes, c) ≡ Read (n, (rest, d)) → IsType d n
unfolding suffix_at
suffix_known o bytes rest c d n sound e = by_case (after Colon bytes) e
  where
    by_case : (m : Option (List ℕ)) → suffix_from o (bytes, c) (option_map (λ r. (r, c)) m) ≡ Read (n, (rest, d)) → IsType d n
    by_case None e = type_done_known (type.Int Signless 64) bytes rest c d n e
    by_case (Some r) e = type_known o 32 r rest c d n sound e
