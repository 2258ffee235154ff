-- The grammar of types, as terms. Language Reference, "Type System"; Builtin Dialect, "Types".
use Rattle.std.specs.Prelude.{◌≡◌, ◌⊎◌, ℕ, zero, suc, Bool, true, false, ◌&&◌, List, [], ◌∷◌, Option, Some, None}
use Rattle.std.specs.Str.{bytes_eq}
use Rattle.ir_text_tokens.specs.declared.token.Mark.TheVariants.{OpenRound, CloseRound, Less, Greater, Arrow}
use Rattle.ir_text_tokens.specs.Tokens.{Lexeme, bare, bang}
use Rattle.ir_types.specs.declared.node.TypeNode.{TypeNode}
use Rattle.ir_tree.specs.Limits.{most_items}
use Rattle.ir_types.specs.Limits.{most_depth}
use Rattle.ir_types.specs.Terms.{TypeTerm, TypeTerms, no_types, next_type, Function, Memref, OpaqueType, type_from}
use Rattle.ir_types.specs.Reasons.{type_fault}
use Rattle.ir_text_types.specs.Grammars.{Grammar, Then, Done, DoneIf, After, Either, IsList, Token, IsMark}
use Rattle.ir_text_types.specs.Typed.{Text}
use Rattle.ir_text_types.specs.Scalars.{scalar_of, memref_word}
use Rattle.ir_text_types.specs.OpaqueTypes.{is_opaque_word, word_text, dialect_text}
use Rattle.ir_text_types.specs.ShapeGrammar.{IsShape}
use Rattle.ir_text_types.specs.TypeReading.{many}

-- a list of types as one term
abbrev pub types_of : List TypeTerm → TypeTerms
types_of [] = no_types
types_of (t ∷ ts) = next_type t (types_of ts)

-- a word that is an integer type or `index`
abbrev pub IsScalar : Grammar Text TypeTerm
IsScalar y old new = (word : List ℕ) × (node : TypeNode) × Token (bare word) old new × (scalar_of word ≡ Some node) × (y ≡ type_from [] node)

-- an opaque type with its text, if there is one, and the rest of the text
abbrev pub IsOpaque : Option (List ℕ × List ℕ) → TypeTerm → Text → Type 0
IsOpaque found y new = (x : List ℕ × List ℕ) × (found ≡ Some x) × (y ≡ OpaqueType x.0) × (new ≡ x.1)

-- the text after a word: an opaque type, or a memref, which M derives, or nothing more for an integer type or `index`
abbrev pub IsWordFrom : Grammar Text TypeTerm → Bool → Bool → List ℕ → Grammar Text TypeTerm
IsWordFrom M true memref word y rest new = IsOpaque (word_text word rest) y new
IsWordFrom M false true word y rest new = M y rest new
IsWordFrom M false false word y rest new = (node : TypeNode) × (scalar_of word ≡ Some node) × (y ≡ type_from [] node) × (new ≡ rest)

-- types that begin with a word or a dialect's name; `opaque` says whether opaque types are allowed
module _ (opaque : Bool) where
  -- M derives a memref after its word
  module _ (M : Grammar Text TypeTerm) where
    abbrev pub IsAfter : Lexeme → Grammar Text TypeTerm
    IsAfter (bare word) y rest new = IsWordFrom M (opaque && is_opaque_word word rest) (bytes_eq word memref_word) word y rest new
    IsAfter (bang name) y rest new = (opaque ≡ true) × IsOpaque (dialect_text 33 name rest) y new
    IsAfter _ y rest new = ⊥

    -- a type that is no function type
    abbrev pub IsWordType : Grammar Text TypeTerm
    IsWordType y old new = (token : Lexeme) × (rest : List ℕ) × Token token old rest × IsAfter token y rest new

    -- the element type of a memref: an integer type or `index`, unless opaque types are allowed
    abbrev pub IsElement : Grammar Text TypeTerm
    IsElement y old new = ((opaque ≡ true) × IsWordType y old new) ⊎ ((opaque ≡ false) × IsScalar y old new)

  -- a memref after its word: dimensions and an element type in angle brackets, with no dimension too large and at
  -- most `depth` nested memrefs
  unfoldable pub IsMemref : ℕ → Grammar Text TypeTerm
  IsMemref zero y old new = ⊥
  IsMemref (suc depth) y old new =
      After IsMark Less (Then (IsShape many) (λ dims. Then (IsElement (IsMemref depth)) (λ elem. After IsMark Greater (DoneIf (type_fault (Memref dims elem) ≡ None) (Memref dims elem))))) y old new

module _ (P : Grammar Text TypeTerm) where
  -- types up to a closing parenthesis, at most `room`
  unfoldable pub IsTypes : ℕ → Grammar Text (List TypeTerm)
  IsTypes headroom = IsList IsMark CloseRound (λ before. P) headroom

  -- one type that is no function type, or types in parentheses
  unfoldable pub IsOutputs : ℕ → Grammar Text (List TypeTerm)
  IsOutputs headroom = Either IsMark OpenRound (IsTypes headroom) (Then P (λ y. Done (y ∷ [])))

  -- inputs and outputs after the opening parenthesis
  unfoldable pub IsSignature : ℕ → Grammar Text (List TypeTerm × List TypeTerm)
  IsSignature headroom = Then (IsTypes many) (λ inputs. After IsMark Arrow (Then (IsOutputs headroom) (λ outputs. Done (inputs, outputs))))

  -- a function type that isn't deeper than the depth limit of types
  unfoldable pub IsFunction : Grammar Text TypeTerm
  IsFunction = Then (IsSignature many) (λ x. DoneIf (type_fault (Function (types_of x.0) (types_of x.1)) ≡ None) (Function (types_of x.0) (types_of x.1)))

module _ (opaque : Bool) where
  -- a type of at most this depth
  unfoldable pub IsType : ℕ → Grammar Text TypeTerm
  IsType zero y old new = ⊥
  IsType (suc depth) y old new = Either IsMark OpenRound (IsFunction (IsType depth)) (IsWordType opaque (IsMemref opaque (suc depth))) y old new

  -- the function type of an operation, with at most as many outputs as an operation may have results
  unfoldable pub IsFunctionType : Grammar Text (List TypeTerm × List TypeTerm)
  IsFunctionType = After IsMark OpenRound (IsSignature (IsType most_depth) most_items)
