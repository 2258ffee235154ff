use Rattle.std.proofs.Common.{◌≡◌, length}
use Rattle.std.specs.List.{All}
use Rattle.ir_event.specs.types.Things.{IsName, IsAttr}
use Rattle.ir_event.specs.types.WordNames.{word_bytes}
use Rattle.ir_event.specs.registry.Registry.{next_to}
use Rattle.std.proofs.Common.{map}
use Rattle.ir_event.specs.trees.Maps.{map_entry}
use Rattle.ir_event.specs.types.Terms.{name_term, attr_term}
use Rattle.listeners_support.proofs.properties.entry.Given as goal

abbrev pub invariant-loop-rest : goal.invariant-loop-rest
invariant-loop-rest l = record {
  numbers : All (λ e. IsName l.ctx e.0 × IsAttr l.ctx e.1) l.rest;
  left : next_to (word_bytes l.key) (map (map_entry (name_term l.ctx) (attr_term l.ctx)) l.rest) ≡ next_to (word_bytes l.key) (map (map_entry (name_term l.ctx) (attr_term l.ctx)) l.fn.entries);
}

abbrev pub decreases-loop-rest : goal.decreases-loop-rest
decreases-loop-rest l = length l.rest
