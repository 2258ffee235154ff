use Rattle.std.proofs.Common.{◌∙◌, arith, sym, ap}
use Rattle.ir_store_lists.specs.Labels.{step, spread, spread_end}
use Rattle.ir_store_lists.proofs.Kept.{all_fit}
use Rattle.ir_store_lists.proofs.LabelWalks.{first_of}
use Rattle.ir_store_lists.proofs.order_labels.relabel_all.Goals as goal

pub relabel-requires-clause-node : goal.relabel-requires-clause-node
relabel-requires-clause-node c =
    let f = first_of c.args.chains.now c.args.head c.in-Some.first c.laws.ensures c.requires.head (sym c.in-Some.is ∙ c.first.ensures) in
    f.item

pub relabel-requires-clause-fits : goal.relabel-requires-clause-fits
relabel-requires-clause-fits c =
    let f = first_of c.args.chains.now c.args.head c.in-Some.first c.laws.ensures c.requires.head (sym c.in-Some.is ∙ c.first.ensures) in
    omega (arith, ap (spread_end step 0) f.all, all_fit c.args.chains.now c.args.head c.laws.ensures c.requires.rising.few)

pub returns-clause-labels : goal.returns-clause-labels
returns-clause-labels c =
    let f = first_of c.args.chains.now c.args.head c.in-Some.first c.laws.ensures c.requires.head (sym c.in-Some.is ∙ c.first.ensures) in
    c.relabel.ensures.labels ∙ ap (λ z. spread step 0 z c.args.labels.now) f.all

pub returns-clause-last : goal.returns-clause-last
returns-clause-last c =
    let f = first_of c.args.chains.now c.args.head c.in-Some.first c.laws.ensures c.requires.head (sym c.in-Some.is ∙ c.first.ensures) in
    c.relabel.ensures.last ∙ ap (spread_end step 0) f.all
