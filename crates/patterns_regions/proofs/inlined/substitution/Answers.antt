use Rattle.patterns_regions.proofs.Replacing.{put_result, put_other, put_elsewhere, put_own, put_past}
use Rattle.patterns_regions.proofs.inlined.substitution.Goals as goal
use Rattle.patterns_regions.proofs.inlined.substitution.Goals.{then-ne-via-then-ne, then-ne-via-else-ne+then-region-ne0}

pub returns-in_default : goal.returns-in_default
returns-in_default c = put_result c.args.op c.args.values.now c.args.value.now _ _ c.in_default.is

pub returns-then-ne : goal.returns-then-ne
returns-then-ne c = elim c.then-ne.branch [
  | then-ne-via-then-ne w ↦ put_other c.args.op c.args.values.now c.args.value.now _ _ _ _ c.in-Arg.is c.ne.ensures w.if-ne.true
  | then-ne-via-else-ne+then-region-ne0 w ↦ put_elsewhere c.args.op c.args.values.now c.args.value.now _ _ _ c.in-Arg.is w.if-region-ne0.true
]

pub returns-in-Some : goal.returns-in-Some
returns-in-Some c = let f = c.in-Some.ensures.lookup in put_own c.args.op c.args.values.now c.args.value.now _ _ _ _ c.in-Arg.is c.ne.ensures c.if-ne.false c.if-region-ne0.false c.in-Some.new.now f.3.0 f.1

pub returns-in-None : goal.returns-in-None
returns-in-None c = put_past c.args.op c.args.values.now c.args.value.now _ _ _ _ c.in-Arg.is c.ne.ensures c.if-ne.false c.if-region-ne0.false c.in-None.ensures.lookup.3
