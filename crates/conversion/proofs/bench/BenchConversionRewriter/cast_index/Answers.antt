use Rattle.std.proofs.Common.{ap, inl, refl, subst, sym, ◌∙◌, List}
use Rattle.patterns.specs.runs.Edit.{Edit as Coded}
use Rattle.conversion_base.specs.Lists.{AllFit, edits_meaning}
use Rattle.conversion_base.specs.Rewrites.{Rewrite, carried_out}
use Rattle.conversion_base.specs.Reconciling.{index_rewrite}
use Rattle.conversion_base.specs.Makes.{made_by}
use Rattle.patterns.specs.Held.{module_held}
use Rattle.conversion.specs.Benches.{seen}
use Rattle.conversion.specs.States.{Answers}
use Rattle.conversion.proofs.VisibleValues.{answered_none, index_due, index_fits, index_gone, index_one, failure, wanted}
use Rattle.conversion.proofs.bench.BenchConversionRewriter.cast_index.Goals as goal

pub returns-in_default-clause-answers : goal.returns-in_default-clause-answers
returns-in_default-clause-answers g c = (wanted (index_rewrite (module_held c.args.self.now.transaction) c.args.op) c.args.self.now.transaction.ctx _ (inl refl), refl)

pub returns-in_default-clause-leads : goal.returns-in_default-clause-leads
returns-in_default-clause-leads g c = failure g.L.Analysis.meaning c.args.self.now

pub returns-in_default-found-clause-answers : goal.returns-in_default-found-clause-answers
returns-in_default-found-clause-answers g c = answered_none (index_rewrite (module_held c.args.self.now.transaction) c.args.op) c.args.self.now (index_gone c.world-world.result.now c.args.self.now.transaction c.world-world.ensures.ctx c.world-world.ensures.store c.args.op c.in-Ok.found c.in-Ok.ensures.edits c.in_default-found.is)

pub returns-in_default-found-clause-leads : goal.returns-in_default-found-clause-leads
returns-in_default-found-clause-leads g c = failure g.L.Analysis.meaning c.args.self.now

pub carry-requires : goal.carry-requires
carry-requires g c = record {
  fits_in = subst (AllFit c.args.self.now.transaction.ctx) (sym c.deref.ensures.value) (index_fits c.world-world.result.now c.args.self.now.transaction c.world-world.ensures.ctx c.world-world.ensures.store c.in-Ok.found c.in-Ok.ensures.fits_in c.in-Some.edits c.in-Some.is);
  one = ap (λ (es : List Coded). made_by (edits_meaning c.args.self.now.transaction.ctx es)) c.deref.ensures.value ∙ index_one c.world-world.result.now c.args.self.now.transaction c.world-world.ensures.ctx c.world-world.ensures.store c.args.op c.in-Ok.found c.in-Ok.ensures.edits c.in-Some.edits c.in-Some.is;
}

pub returns-clause-answers : goal.returns-clause-answers
returns-clause-answers g c =
    subst (λ (w : Rewrite). Answers w c.carry.result (seen c.args.self.now) (seen c.carry.new.bench))
    (ap (λ (es : List Coded). carried_out (edits_meaning c.args.self.now.transaction.ctx es) (module_held c.args.self.now.transaction)) c.deref.ensures.value ∙ sym (index_due c.world-world.result.now c.args.self.now.transaction c.world-world.ensures.ctx c.world-world.ensures.store c.args.op c.in-Ok.found c.in-Ok.ensures.edits c.in-Some.edits c.in-Some.is)) c.carry.ensures.answers

pub returns-clause-leads : goal.returns-clause-leads
returns-clause-leads g c = c.carry.ensures.leads
