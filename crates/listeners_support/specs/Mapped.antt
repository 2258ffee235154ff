-- Contexts with names, types and attributes changed.
use Rattle.std.specs.Prelude.{map, option_map}
use Rattle.ir_event.specs.trees.Maps.{map_head}
use Rattle.ir_event.specs.store.Nodes.{NodeOf}
use Rattle.listeners_support.specs.Surroundings.{SurroundingsOf, OuterOf}

-- the node with f applied to its name and keys, g to its types and h to its attributes
abbrev pub map_node : {N T A M U B : Type 0} → (N → M) → (T → U) → (A → B) → NodeOf N T A → NodeOf M U B
map_node f g h n = record { head = map_head f g h n.head; arguments = map (option_map (map g)) n.arguments }

-- the same for the part about the parent
abbrev pub map_outer : {N T A M U B : Type 0} → (N → M) → (T → U) → (A → B) → OuterOf N T A → OuterOf M U B
map_outer f g h o = record { name = f o.name; ended = option_map (map_node f g h) o.ended }

-- the same for the whole context
abbrev pub map_surroundings : {N T A M U B : Type 0} → (N → M) → (T → U) → (A → B) → SurroundingsOf N T A
    → SurroundingsOf M U B
map_surroundings f g h s = record {
  node = map_node f g h s.node;
  lasts = map (option_map f) s.lasts;
  types = map (option_map g) s.types;
  outer = option_map (map_outer f g h) s.outer;
}
