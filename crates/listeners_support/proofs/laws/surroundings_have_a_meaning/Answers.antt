use Rattle.ir_event.specs.types.Terms.{name_term, type_term, attr_term}
use Rattle.listeners_support.proofs.Meanings.{mapped_surroundings, map_near}
use Rattle.listeners_support.proofs.laws.surroundings_have_a_meaning.Goals as goal

pub returns-clause-around : goal.returns-clause-around
returns-clause-around _ c x t = mapped_surroundings (name_term c) (type_term c) (attr_term c) x t

pub returns-clause-near : goal.returns-clause-near
returns-clause-near _ c e t = map_near (name_term c) (type_term c) (attr_term c) e t
