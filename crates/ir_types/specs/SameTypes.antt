-- Whether two types are equal, and the lists of a function type (Builtin Dialect, "Types").
use Rattle.std.specs.Prelude.{List, [], ◌∷◌, Bool, true, false, ◌==◌, ◌&&◌, Option, Some, None}
use Rattle.std.specs.Option.{option_eq}
use Rattle.std.specs.Cmp.Lexicographic.{pointwise}
use Rattle.ir_types.specs.Terms.{TypeTerm, Integer, Index, Function, Memref, OpaqueType, TypeTerms, no_types, next_type}
use Rattle.ir_types.specs.Same.{same_sign}

abbrev mutual
  -- whether two types are equal
  pub same_type : TypeTerm → TypeTerm → Bool
  same_type (Integer s v) (Integer t w) = same_sign s t && (v == w)
  same_type Index Index = true
  same_type (Function is os) (Function js ps) = same_terms is js && same_terms os ps
  same_type (Memref ds e) (Memref es f) = pointwise (option_eq ◌==◌) ds es && same_type e f
  same_type (OpaqueType s) (OpaqueType t) = pointwise ◌==◌ s t
  same_type _ _ = false

  pub same_terms : TypeTerms → TypeTerms → Bool
  same_terms no_types no_types = true
  same_terms (next_type t ts) (next_type u us) = same_type t u && same_terms ts us
  same_terms _ _ = false

-- the types of a list, in order
abbrev pub type_list : TypeTerms → List TypeTerm
type_list no_types = []
type_list (next_type t ts) = t ∷ type_list ts

-- the inputs and outputs of a function type
abbrev pub function_of : TypeTerm → Option (List TypeTerm × List TypeTerm)
function_of (Function inputs outputs) = Some (type_list inputs, type_list outputs)
function_of _ = None
