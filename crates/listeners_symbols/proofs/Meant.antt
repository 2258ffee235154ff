-- Roles read in numbers, in terms of contents.
use Rattle.std.proofs.Common.{◌≡◌, refl, ap, sym, ℕ, List, [], ◌∷◌, map, Option, Some, None}
use Rattle.std.specs.Prelude.{option_map}
use Rattle.ir_event.specs.types.Things.{ContextModel}
use Rattle.ir_event.specs.types.Terms.{name_term, type_term, attr_term, attr_terms, entries_at}
use Rattle.ir_event.specs.trees.declared.value.Value.{Value}
use Rattle.ir_event.specs.trees.Tree.{Op}
use Rattle.ir_event.specs.trees.Maps.{map_entry}
use Rattle.ir_event.specs.trees.Meaning.{meaning}
use Rattle.ir_event.specs.tree_laws.Values.{type_of_value}
use Rattle.ir_event.proofs.of_tree_laws.Contents.{map_type_of_value}
use Rattle.listeners_symbols.specs.declared.role.Reference.{Reference}
use Rattle.listeners_symbols.specs.declared.role.Call.{Call}
use Rattle.listeners_symbols.specs.declared.role.Signature.{Signature}
use Rattle.listeners_symbols.specs.Roles.{References, with_symbols, with_entries, with_dictionary}
use Rattle.listeners_symbols.specs.Table.{reference_of, call_numbers, signature_numbers, map_reference, map_call, map_signature, reference_meaning, call_meaning, signature_meaning}

-- the entries of a dictionary are visited like those of an attribute
pub dictionary_is : (c : ContextModel) (es : List (ℕ × ℕ)) (seen : References) → with_entries seen (entries_at c.names (attr_terms c) es) ≡ with_dictionary seen (map (map_entry (name_term c) (attr_term c)) es)
dictionary_is c [] seen = refl
dictionary_is c (e ∷ es) seen = dictionary_is c es (with_symbols seen (attr_term c e.1))

-- the types of values
pub types_meant : (c : ContextModel) (t : Op) (vs : List Value) → map (option_map (type_term c)) (map (λ v. type_of_value v t) vs) ≡ map (λ v. type_of_value v (meaning c t)) vs
types_meant c t [] = refl
types_meant c t (v ∷ vs) = λ i. sym (map_type_of_value (name_term c) (type_term c) (attr_term c) v t) i ∷ types_meant c t vs i

-- the parts of a role
pub references_meant : (c : ContextModel) (ps : List Reference) → map (map_reference (name_term c) (attr_term c)) (map reference_of ps) ≡ map (reference_meaning c) ps
references_meant c [] = refl
references_meant c (p ∷ ps) = ap (λ l. reference_meaning c p ∷ l) (references_meant c ps)

pub call_meant : (c : ContextModel) (k : Option Call) → option_map (map_call (name_term c) (type_term c)) (option_map call_numbers k) ≡ option_map (call_meaning c) k
call_meant c None = refl
call_meant c (Some k) = refl

pub function_meant : (c : ContextModel) (s : Option Signature) → option_map (map_signature (type_term c)) (option_map signature_numbers s) ≡ option_map (signature_meaning c) s
function_meant c None = refl
function_meant c (Some s) = refl
