use Rattle.std.proofs.Common.{◌≡◌, ◌∙◌, ◌++◌, ap, append_assoc, length, rules}
use Rattle.listeners.specs.About.{region_arguments, results_from}
use Rattle.listeners.proofs.about.push_values.Goals as goal

pub returns : goal.returns
returns c =
    let n = c.args.node.now in
    let results = results_from c.args.op 0 (length n.head.results) in
    let first : c.push_results.new.values.items ≡ c.args.values.now.items ++ results = search rules in
    c.in_ok-push_region_arguments.ensures ∙ ap (λ l. l ++ region_arguments c.args.op 0 n.arguments) first ∙ append_assoc c.args.values.now.items results (region_arguments c.args.op 0 n.arguments)
