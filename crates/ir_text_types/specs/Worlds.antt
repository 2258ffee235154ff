-- Properties of a context that persist as the context grows.
use Rattle.ir_types.specs.Things.{ContextModel, IsExtendedBy}
use Rattle.ir_types.specs.Sound.{IsSound}

-- in this context and in each sound context that extends it
abbrev pub From : (ContextModel → Type 0) → ContextModel → Type 0
From F c = (z : ContextModel) → IsExtendedBy c z → IsSound z → F z
