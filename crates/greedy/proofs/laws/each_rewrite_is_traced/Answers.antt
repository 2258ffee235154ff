use Rattle.greedy.proofs.Traces.{trace_is_counted}
use Rattle.greedy.proofs.laws.each_rewrite_is_traced.Goals as goal

pub returns : goal.returns
returns c = trace_is_counted
