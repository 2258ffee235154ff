use Rattle.patterns.proofs.apply_edits.make_edits.Goals as goal

pub returns : goal.returns
returns g c =
    record {
      ok = c.apply_unchecked.ensures.ok;
      err = c.apply_unchecked.ensures.err;
      refused = c.apply_unchecked.ensures.refused;
      along = c.apply_unchecked.ensures.along;
      journal = c.apply_unchecked.ensures.journal;
    }
