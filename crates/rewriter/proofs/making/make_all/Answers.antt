use Rattle.std.proofs.Common.{◌∙◌, sym, ap, inl, inr, Some}
use Rattle.rewriter.specs.Contents.{tests_in}
use Rattle.rewriter.proofs.Together.{onward_none}
use Rattle.rewriter.proofs.making.make_all.Goals as goal

pub returns-in-Err-clause-onward : goal.returns-in-Err-clause-onward
returns-in-Err-clause-onward g c = onward_none g.L.Analysis.meaning c.led_benches_are_kept.ensures.none c.args.bench.now

pub make_each-requires : goal.make_each-requires
make_each-requires g c us vs u e =
    let cut = e ∙ c.in-Ok.ensures in
    (c.headers_are_bare.ensures.sound c.args.bench.now.transaction.ctx c.args.place c.args.tree.now us vs u c.requires.sound cut, c.headers_are_bare.ensures.empty c.args.place c.args.tree.now us vs u cut)

pub returns-clause-answered : goal.returns-clause-answered
returns-clause-answered g c = elim c.refused_whole.ensures [
  | inl memory ↦ inr (memory, tt)
  | inr seen ↦ elim c.in-Err-make_each.ensures.pattern_set [
    | inl memory ↦ absurd (seen.1 memory)
    | inr r ↦ inl (c.inserts_are_tried.ensures.failed (tests_in c.args.bench.now.transaction.ctx) c.args.place c.args.tree.now r.made r.rest r.refused c.in-Err-make_each.refusal c.args.bench.now.transaction.store.module_of
        c.is_wellformed.ensures.wellformed c.requires.numbered c.requires.free (r.parts ∙ c.in-Ok.ensures) r.why ∙ ap Some (sym seen.0))
  ]
]
