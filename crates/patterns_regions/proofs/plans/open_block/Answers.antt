use Rattle.patterns_regions.proofs.plans.open_block.Goals as goal

pub returns-clause-of : goal.returns-clause-of
returns-clause-of c = c.in_ok-edits.ensures.fits_in c.args.world.now.ctx
