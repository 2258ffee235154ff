use Rattle.std.proofs.Common.{◌≡◌, length, map}
use Rattle.std.specs.List.{All}
use Rattle.ir_event.specs.types.Things.{IsName, IsAttr}
use Rattle.ir_event.specs.types.Terms.{attr_term, name_term}
use Rattle.ir_event.specs.trees.Maps.{map_entry}
use Rattle.listeners_symbols.specs.Nameless.{are_nameless}
use Rattle.listeners_symbols.proofs.nameless.are_nameless.Given as goal

abbrev pub invariant-entries : goal.invariant-entries
invariant-entries l = record {
  known : All (λ e. IsName l.ctx e.0 × IsAttr l.ctx e.1) l.rest;
  left : are_nameless (map (map_entry (name_term l.ctx) (attr_term l.ctx)) l.rest) ≡ are_nameless (map (map_entry (name_term l.ctx) (attr_term l.ctx)) l.entries);
}

abbrev pub decreases-entries : goal.decreases-entries
decreases-entries l = length l.rest
