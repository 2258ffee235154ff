-- The first of two optional results.
use Rattle.std.proofs.Common.{◌≡◌, ap, sym, true, false, Option, Some, None, option_map}
use Rattle.std.specs.Prelude.{is_some}
use Rattle.ir_tree.specs.Ids.{first_of}

-- if the first is none, the result is the second
pub first_of_none : {X Y : Type 0} (found : Option X) (f : X → Y) (a b : Option Y) → option_map f found ≡ a → false ≡ is_some found → first_of a b ≡ b
first_of_none None f a b e n = ap (λ c. first_of c b) (sym e)
first_of_none (Some x) f a b e n = cc

-- if the first isn't none, the result is the first
pub first_of_some : {X Y : Type 0} (found : Option X) (f : X → Y) (a b : Option Y) → option_map f found ≡ a → true ≡ is_some found → first_of a b ≡ option_map f found
first_of_some None f a b e n = cc
first_of_some (Some x) f a b e n = ap (λ c. first_of c b) (sym e)
