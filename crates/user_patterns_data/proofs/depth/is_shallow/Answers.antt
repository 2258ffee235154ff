use Rattle.std.proofs.Common.{◌∙◌, ap}
use Rattle.user_patterns_data.specs.Shapes.{pattern_model}
use Rattle.user_patterns_data.specs.Depth.{is_shallow, is_shallow_by}
use Rattle.user_patterns_data.proofs.depth.is_shallow.Goals as goal

pub returns : goal.returns
unfolding is_shallow
returns c = c.is_shallow_by.ensures ∙ ap (λ ps. is_shallow_by ps (pattern_model c.args.pattern.now)) c.deref.ensures.value
