-- Parses types into ids of a context.
use Rattle.std.specs.Prelude.{ℕ, zero, suc, Bool, true, false, ◌&&◌, if◌then◌else◌, List, [], ◌∷◌, Option, Some, None}
use Rattle.std.specs.Str.{bytes_eq}
use Rattle.ir_text_tokens.specs.declared.token.Mark.TheVariants.{OpenRound, CloseRound, Less, Greater, Arrow}
use Rattle.ir_text_tokens.specs.Limits.{most_bytes}
use Rattle.ir_text_tokens.specs.Tokens.{Lexeme, bare, bang, next}
use Rattle.ir_tree.specs.Limits.{most_items}
use Rattle.ir_types.specs.declared.node.TypeNode.{TypeNode}
use Rattle.ir_types.specs.declared.node.TypeNode.TheVariants.{Func, Memref, Opaque}
use Rattle.ir_types.specs.Limits.{most_depth}
use Rattle.ir_types.specs.Things.{ContextModel}
use Rattle.ir_text_types.specs.Outcomes.{Outcome, Read, Wrong, ◌>>=◌, of_option, Parse}
use Rattle.ir_text_types.specs.Lists.{list_at}
use Rattle.ir_text_types.specs.Typed.{Typed, after_typed, type_step}
use Rattle.ir_text_types.specs.Scalars.{scalar_of, memref_word}
use Rattle.ir_text_types.specs.OpaqueTypes.{is_opaque_word, word_text, dialect_text}
use Rattle.ir_text_types.specs.ShapeReading.{dimensions_at}

-- the item limit of a list that has no smaller limit; no text has more items
abbrev pub many : ℕ
many = most_bytes

-- interns a node without reading any text
unfoldable pub type_done : TypeNode → Parse Typed ℕ
type_done node s = do
  n ← type_step node s.1
  Read (n.0, (s.0, n.1))

-- the integer type or `index` that a word names, after the word
abbrev pub scalar_done : List ℕ → Parse Typed ℕ
scalar_done word s = of_option (scalar_of word) >>= λ node. type_done node s

abbrev pub scalar_from : ContextModel → Lexeme → List ℕ → Outcome (ℕ × Typed)
scalar_from c (bare word) rest = scalar_done word (rest, c)
scalar_from c _ rest = Wrong

unfoldable pub scalar_at : Parse Typed ℕ
scalar_at s = of_option (next s.0) >>= λ t. scalar_from s.1 t.0 t.1

-- dimensions
abbrev pub shape_at : Parse Typed (List (Option ℕ))
shape_at s = of_option (dimensions_at many [] s.0) >>= λ x. Read (x.0, (x.1, s.1))

-- an opaque type with its text, if there is one
abbrev pub opaque_done : Option (List ℕ × List ℕ) → ContextModel → Outcome (ℕ × Typed)
opaque_done found c = of_option found >>= λ x. type_done (Opaque x.0) (x.1, c)

-- the type after a word: an opaque type, a memref, which m parses, or an integer type or `index`
abbrev pub word_from : Parse Typed ℕ → Bool → Bool → List ℕ → List ℕ → ContextModel → Outcome (ℕ × Typed)
word_from m true memref word rest c = opaque_done (word_text word rest) c
word_from m false true word rest c = m (rest, c)
word_from m false false word rest c = scalar_done word (rest, c)

-- types that begin with a word or a dialect's name; `opaque` says whether opaque types are allowed
module _ (opaque : Bool) where
  -- m parses a memref after its word
  module _ (m : Parse Typed ℕ) where
    abbrev pub word_type_from : ContextModel → Lexeme → List ℕ → Outcome (ℕ × Typed)
    word_type_from c (bare word) rest = word_from m (opaque && is_opaque_word word rest) (bytes_eq word memref_word) word rest c
    word_type_from c (bang name) rest = if opaque then opaque_done (dialect_text 33 name rest) c else Wrong
    word_type_from c _ rest = Wrong

    -- a type that is no function type
    unfoldable pub word_type_at : Parse Typed ℕ
    word_type_at s = of_option (next s.0) >>= λ t. word_type_from s.1 t.0 t.1

    -- the element type of a memref: an integer type or `index`, unless opaque types are allowed
    abbrev pub element_at : Parse Typed ℕ
    element_at s = if opaque then word_type_at s else scalar_at s

  -- a memref after its word, with at most `depth` nested memrefs
  unfoldable pub memref_at : ℕ → Parse Typed ℕ
  memref_at zero s = Wrong
  memref_at (suc depth) s = do
    a ← of_option (after_typed Less s)
    dims ← shape_at a
    elem ← element_at (memref_at depth) dims.1
    c ← of_option (after_typed Greater elem.1)
    type_done (Memref dims.0 elem.0) c

module _ (p : Parse Typed ℕ) where
  -- types up to a closing parenthesis, at most `room`
  unfoldable pub types_at : ℕ → Parse Typed (List ℕ)
  types_at headroom = list_at after_typed CloseRound (λ before. p) headroom

  abbrev pub outputs_from : ℕ → Typed → Option Typed → Outcome (List ℕ × Typed)
  outputs_from headroom s (Some c) = types_at headroom c
  outputs_from headroom s None = p s >>= λ x. Read (x.0 ∷ [], x.1)

  -- one type, or types in parentheses
  unfoldable pub outputs_at : ℕ → Parse Typed (List ℕ)
  outputs_at headroom s = outputs_from headroom s (after_typed OpenRound s)

  -- the types of a function type after its opening parenthesis
  unfoldable pub signature_at : ℕ → Parse Typed (List ℕ × List ℕ)
  signature_at headroom s = do
    inputs ← types_at many s
    a ← of_option (after_typed Arrow inputs.1)
    outputs ← outputs_at headroom a
    Read ((inputs.0, outputs.0), outputs.1)

  unfoldable pub function_at : Parse Typed ℕ
  function_at s = do
    x ← signature_at many s
    type_done (Func x.0.0 x.0.1) x.1

-- p parses the parts of a function type, and q any other type
abbrev pub type_from : Parse Typed ℕ → Parse Typed ℕ → Typed → Option Typed → Outcome (ℕ × Typed)
type_from p q s (Some c) = function_at p c
type_from p q s None = q s

module _ (opaque : Bool) where
  -- a type of at most this depth
  unfoldable pub type_at : ℕ → Parse Typed ℕ
  type_at zero s = Wrong
  type_at (suc depth) s = type_from (type_at depth) (word_type_at opaque (memref_at opaque (suc depth))) s (after_typed OpenRound s)

  -- the function type of an operation, with at most as many outputs as an operation may have results
  unfoldable pub function_type_at : Parse Typed (List ℕ × List ℕ)
  function_type_at s = do
    c ← of_option (after_typed OpenRound s)
    signature_at (type_at most_depth) most_items c
