-- The printed form of types.
use Rattle.std.specs.Prelude.{ℕ, Bool, true, false, not, if◌then◌else◌, List, [], ◌∷◌, ◌++◌, flat_map, codes, Option, Some, None}
use Rattle.std.specs.Fmt.{decimal}
use Rattle.ir_types.specs.declared.node.Sign.{Sign}
use Rattle.ir_types.specs.declared.node.Sign.TheVariants.{Signless, Signed, Unsigned}
use Rattle.ir_types.specs.Terms.{TypeTerm, Integer, Index, Function, Memref, OpaqueType, TypeTerms, no_types, next_type}
use Rattle.ir_text.specs.Rows.{parted}

-- the letters before the width of an integer type
abbrev pub sign_text : Sign → List ℕ
sign_text Signless = codes "i"
sign_text Signed = codes "si"
sign_text Unsigned = codes "ui"

-- a dimension of a memref; `?` if it is dynamic
abbrev pub dimension_text : Option ℕ → List ℕ
dimension_text None = codes "?x"
dimension_text (Some n) = decimal n ++ codes "x"

-- whether a type is a function type
abbrev pub is_function : TypeTerm → Bool
is_function (Function inputs outputs) = true
is_function _ = false

-- whether the outputs are printed without parentheses: exactly one type that is no function type
abbrev pub is_lone : TypeTerms → Bool
is_lone (next_type t no_types) = not (is_function t)
is_lone _ = false

-- a list in parentheses, separated by `, `
abbrev pub in_round : List (List ℕ) → List ℕ
in_round ts = codes "(" ++ (parted (codes ", ") true ts ++ codes ")")

-- the outputs, with or without parentheses
abbrev pub outputs_text : Bool → List (List ℕ) → List ℕ
outputs_text lone ts = if lone then parted (codes ", ") true ts else in_round ts

-- a type
abbrev mutual
  pub type_text : TypeTerm → List ℕ
  type_text (Integer sign width) = sign_text sign ++ decimal width
  type_text Index = codes "index"
  type_text (Function inputs outputs) = in_round (type_texts inputs) ++ (codes " -> " ++ outputs_text (is_lone outputs) (type_texts outputs))
  type_text (Memref dims elem) = codes "memref<" ++ (flat_map dimension_text dims ++ (type_text elem ++ codes ">"))
  type_text (OpaqueType text) = text

  pub type_texts : TypeTerms → List (List ℕ)
  type_texts no_types = []
  type_texts (next_type t ts) = type_text t ∷ type_texts ts
