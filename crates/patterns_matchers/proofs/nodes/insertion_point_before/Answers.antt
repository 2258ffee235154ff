use Rattle.std.proofs.Common.{◌∙◌, sym, ap, option_map}
use Rattle.patterns_base.specs.Looks.{insertion_point}
use Rattle.patterns_matchers.proofs.Meant.{insertion_is}
use Rattle.patterns_matchers.proofs.nodes.insertion_point_before.Goals as goal

pub returns-in_default : goal.returns-in_default
returns-in_default c = ap (option_map (insertion_point c.args.op)) (sym c.in_default.is) ∙ insertion_is c.args.world.now.ctx c.args.op c.args.world.now.store.module_of.tree c.place.result c.place.ensures

pub returns : goal.returns
returns c = ap (option_map (insertion_point c.args.op)) (sym c.in-Some.is) ∙ insertion_is c.args.world.now.ctx c.args.op c.args.world.now.store.module_of.tree c.place.result c.place.ensures
