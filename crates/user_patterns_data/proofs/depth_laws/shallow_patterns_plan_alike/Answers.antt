use Rattle.user_patterns_data.proofs.Plans.{plans_alike}
use Rattle.user_patterns_data.proofs.depth_laws.shallow_patterns_plan_alike.Goals as goal

pub returns : goal.returns
returns c = plans_alike
