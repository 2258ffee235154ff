use Rattle.std.proofs.Common.{◌≡◌, ◌++◌, length, map}
use Rattle.patterns_regions.specs.Opened.{argument_replacement}
use Rattle.patterns_lowering.proofs.over.all_put.Given as goal

abbrev pub invariant-values : goal.invariant-values
invariant-values l = l.kept.items ++ map (argument_replacement l.fn.op l.fn.news) l.rest ≡ map (argument_replacement l.fn.op l.fn.news) l.fn.values

abbrev pub decreases-values : goal.decreases-values
decreases-values l = length l.rest
