use Rattle.listeners_support.proofs.Lookups.{all_rise}
use Rattle.listeners_support.proofs.map.IdMap.ordered.Goals as goal

pub returns : goal.returns
returns g c = rw (← c.self.view_is) (all_rise c.self.inside.near.items c.self.inside.far c.self.invariant c.len.ensures.ordered)
