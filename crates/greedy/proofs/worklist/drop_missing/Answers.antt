use Rattle.std.proofs.Common.{rules, sym}
use Rattle.std.proofs.lemmas.Fn.{filter_same}
use Rattle.greedy.proofs.Beyond.{kept_all}
use Rattle.greedy.proofs.Works.{there_in}
use Rattle.greedy.proofs.worklist.drop_missing.Goals as goal

pub returns-then-apart : goal.returns-then-apart
returns-then-apart g c = sym (kept_all (there_in (g.R.GreedyRewriter.held c.args.bench.now).tree) c.args.ops.now.items (c.requires c.if-apart.true))

pub returns : goal.returns
returns g c = filter_same _ _ _ (λ x b f k. search rules) _ _ c.retain.ensures.filtered
