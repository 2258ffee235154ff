use Rattle.rewriter.proofs.bench.Bench.is_wellformed.Goals as goal

pub returns-clause-settled : goal.returns-clause-settled
returns-clause-settled g c = rw (← c.self.view_is) c.self.invariant

pub returns-clause-none : goal.returns-clause-none
returns-clause-none g c = rw (← c.self.view_is) c.is_well_formed.ensures.none

pub returns-clause-leads : goal.returns-clause-leads
returns-clause-leads g c = rw (← c.self.view_is) c.is_well_formed.ensures.leads
