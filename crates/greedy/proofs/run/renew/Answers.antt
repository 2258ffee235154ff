use Rattle.std.proofs.Common.{◌≡◌, subst, sym, true}
use Rattle.greedy.specs.LocalContext.{is_listed}
use Rattle.greedy.proofs.Scans.{renewed}
use Rattle.greedy.proofs.run.renew.Goals as goal

pub drop_erased-requires : goal.drop_erased-requires
drop_erased-requires g c = λ e z h. c.requires.rewritten.orderly.outside z (c.requires.work.inside z h) (c.requires.apart e z h)

pub returns-clause-ok : goal.returns-clause-ok
returns-clause-ok g c pattern_set away covers =
    let m = g.R.GreedyRewriter.before c.args.bench.now c.args.from in
    let n = g.R.GreedyRewriter.held c.args.bench.now in
    let w = c.args.work.now in
    renewed pattern_set m n c.args.site.now.op c.touched.new.ops.items w.passed w.again.items
    c.drop_erased.new.work.passed c.drop_erased.new.work.again.items
    c.push_near.new.work.passed c.push_near.new.work.again.items
    c.add_all.new.work.passed c.add_all.new.work.again.items
    away c.in-Ok.ensures.ok covers
    (c.drop_erased.ensures.others m c.args.site.now.op c.requires.rewritten c.requires.work)
    c.push_near.ensures.others c.in-Ok-push_near.ensures.added c.add_all.ensures.others (λ z h. c.in-Ok-add_all.ensures.added z (subst (λ xs. is_listed z xs ≡ true) (sym c.deref.ensures.value) h)) c.add_all.ensures.work
