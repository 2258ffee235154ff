use Rattle.std.proofs.Common.{refl}
use Rattle.patterns_soundness.specs.base.Words.{arithmetic, index_users}
use Rattle.patterns_lowering.proofs.users.users.Goals as goal

pub returns : goal.returns
unfolding index_users arithmetic
returns c = refl
