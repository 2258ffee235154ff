-- Lists of ids and what they denote.
use Rattle.std.proofs.Common.{◌≡◌, ℕ, List, [], ◌∷◌, map, refl, ap}
use Rattle.ir_types.specs.Things.{ContextModel}
use Rattle.ir_types.specs.Terms.{name_term, type_term, type_terms, types_at, next_type, attr_term, attr_terms, entries_at, next_entry}
use Rattle.ir_tree.specs.Maps.{map_entry}
use Rattle.ir_text_types.specs.TypeGrammar.{types_of}
use Rattle.ir_text_operations.specs.attributes.AttrGrammar.{entries_of}

pub types_are : (c : ContextModel) (ns : List ℕ) → types_of (map (type_term c) ns) ≡ types_at (type_terms c) ns
types_are c [] = refl
types_are c (n ∷ ns) = ap (next_type (type_term c n)) (types_are c ns)

pub entries_are : (c : ContextModel) (es : List (ℕ × ℕ)) → entries_of (map (map_entry (name_term c) (attr_term c)) es) ≡ entries_at c.names (attr_terms c) es
entries_are c [] = refl
entries_are c (e ∷ es) = ap (next_entry (name_term c e.0) (attr_term c e.1)) (entries_are c es)
