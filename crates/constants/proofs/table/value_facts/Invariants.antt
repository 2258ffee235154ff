use Rattle.std.proofs.Common.{◌≡◌, map, take}
use Rattle.dialects_int.specs.Folds.{known_of}
use Rattle.constants.specs.Facts.{knowns}
use Rattle.constants.specs.Tables.{known_in}
use Rattle.constants.proofs.table.value_facts.Given as goal

abbrev pub invariant-loop-value : goal.invariant-loop-value
invariant-loop-value l = map known_of l.facts.items ≡ knowns (known_in l.table) (take l.value-index l.values)
