-- Which tree a text denotes. Language Reference, "High-Level Structure" and "Regions"; Builtin Dialect,
-- "builtin.module".
use Rattle.std.specs.Prelude.{◌≡◌, ◌≤◌, ◌+◌, min, ◌⊎◌, ℕ, ◌==◌, Bool, true, false, ◌&&◌, List, [], length, codes, Option, Some, None, IsTrue}
use Rattle.std.specs.Str.{bytes_eq}
use Rattle.ir_text_tokens.specs.declared.token.Mark.TheVariants.{End}
use Rattle.ir_text_tokens.specs.Tokens.{Lexeme, string, next}
use Rattle.ir_text_tokens.specs.Strings.{string_bytes}
use Rattle.ir_text_tokens.specs.Limits.{text_reason}
use Rattle.ir_types.specs.Words.{is_isolated, is_table}
use Rattle.ir_tree.specs.Tree.{op, region, no_regions, block, ops_of, head}
use Rattle.ir_tree.specs.Limits.{every, depth, counts_fit, most_around, most_ops, most_next}
use Rattle.ir_tree.specs.Meaning.{Operation, key_before, dictionaries_rise}
use Rattle.ir_tree.specs.Ids.{IsNumberedFrom}
use Rattle.ir_tree.specs.WellFormed.{IsValidTree}
use Rattle.ir_text_types.specs.Grammars.{IsMark}
use Rattle.ir_text_operations.specs.ParseState.{ParseState, initial_state}
use Rattle.ir_text_operations.specs.Free.{no_names}
use Rattle.ir_text_operations.specs.Limits.{most_levels}
use Rattle.ir_text_operations.specs.OpGrammar.{FreeTerms, IsOp, IsOps}

abbrev pub module_word : List ℕ
module_word = codes "builtin.module"

abbrev pub names_module : Lexeme → Bool
names_module (string raw) = bytes_eq (string_bytes raw) module_word
names_module _ = false

abbrev pub begins_from : Option (Lexeme × List ℕ) → Bool
begins_from None = false
begins_from (Some t) = names_module t.0

-- whether the text begins with the name of a module
abbrev pub begins_module : List ℕ → Bool
begins_module bytes = begins_from (next bytes)

-- whether an operation is a module without operands and results
abbrev pub is_root : Operation → Bool
is_root t = is_table (head t).name && (length (head t).operands == 0 && length (head t).results == 0)

-- an explicit root: the text is one operation, which is such a module
unfoldable pub IsExplicit : Bool → List ℕ → Operation → Type 0
IsExplicit opaque bytes t =
    (begins_module bytes ≡ true) × ((end : ParseState) × (rest : List ℕ) × IsOp opaque no_names most_ops most_levels t (initial_state 0 bytes) end × IsMark End end.bytes rest) × (is_root t ≡ true)

-- a module of these operations
abbrev pub module_of : List Operation → Operation
module_of os = op (record { id = 0; name = module_word; operands = []; results = []; properties = []; attributes = [] }) (region (block [] (ops_of os)) no_regions)

-- an implicit root: the text is any other list of operations
unfoldable pub IsImplicit : Bool → List ℕ → Operation → Type 0
IsImplicit opaque bytes t =
    ((o : Operation) → IsExplicit opaque bytes o → ⊥)
    × ((os : List Operation) × (end : ParseState) × IsOps End (IsOp opaque no_names most_ops most_around) most_ops [] os (initial_state 1 bytes) end × (t ≡ module_of os))

-- the text denotes a tree whose ids are 0, 1, .. in pre-order, whose operands are visible, which is within all
-- limits, and whose dictionaries are sorted by distinct keys; `opaque` says whether opaque types and attributes are
-- allowed
pub record Spells (opaque : Bool) (bytes : List ℕ) (t : Operation) : Type 0 where
  pub text : text_reason bytes ≡ None
  pub rendered : IsExplicit opaque bytes t ⊎ IsImplicit opaque bytes t
  pub wellformed : IsValidTree is_isolated t
  pub numbered : IsNumberedFrom 0 t
  pub sorted : IsTrue (every (dictionaries_rise key_before) t)

-- ---- one operation

-- the first id that no operation may have, given the next id: it allows `most_ops` operations within the limit of ids
abbrev pub last_from : ℕ → ℕ
last_from next = min (next + most_ops) most_next

-- the text is one operation, and the end; its free names denote values of the outer module
unfoldable pub IsSingleOp : Bool → FreeTerms → ℕ → ℕ → List ℕ → Operation → Type 0
IsSingleOp opaque free last next bytes t = (end : ParseState) × (rest : List ℕ) × IsOp opaque free last most_levels t (initial_state next bytes) end × IsMark End end.bytes rest

-- the text denotes an operation whose ids are next, next + 1, .. in pre-order, each less than the limit, which is
-- within all limits, and whose dictionaries are sorted by distinct keys; its operands are visible by the rules of the
-- grammar, or free
pub record SpellsOp (opaque : Bool) (free : FreeTerms) (next : ℕ) (bytes : List ℕ) (t : Operation) : Type 0 where
  pub text : text_reason bytes ≡ None
  pub rendered : IsSingleOp opaque free (last_from next) next bytes t
  pub shallow : depth t ≤ most_around
  pub counts : IsTrue (counts_fit t)
  pub numbered : IsNumberedFrom next t
  pub sorted : IsTrue (every (dictionaries_rise key_before) t)
