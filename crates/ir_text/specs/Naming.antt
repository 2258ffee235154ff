-- The names of values in a printed text.
use Rattle.std.specs.Prelude.{ℕ, ◌+◌, Bool, false, ◌&&◌, ◌==◌, if◌then◌else◌, List, [], ◌∷◌, ◌++◌, codes, Option, Some, None}
use Rattle.std.specs.Fmt.{decimal}
use Rattle.std.specs.Map.{lookup}
use Rattle.indexmap.specs.IndexMap.{insert_entry}
use Rattle.ir_types.specs.Terms.{TypeTerm, Index}
use Rattle.ir_tree.specs.declared.value.Value.{Value}
use Rattle.ir_tree.specs.declared.value.Value.TheVariants as value
use Rattle.ir_text.specs.declared.naming.Source.{Source}
use Rattle.ir_text.specs.declared.naming.Source.TheVariants as source
use Rattle.ir_text.specs.declared.naming.ValueName.{ValueName}
use Rattle.ir_text.specs.declared.naming.ValueName.TheVariants as name

-- the name and the type of a value
pub record Naming : Type 0 where
  pub name : ValueName
  pub type : TypeTerm

-- the printed form of a name
abbrev pub name_text : ValueName → List ℕ
name_text (name.Only n) = codes "%" ++ decimal n
name_text (name.Part n k) = codes "%" ++ (decimal n ++ (codes "#" ++ decimal k))
name_text (name.Argument n) = codes "%arg" ++ decimal n

-- the source of a value
abbrev pub source_of : Value → Source
source_of (value.Result x k) = source.Result x k
source_of (value.Arg x r k) = source.Argument x r k

-- whether two sources are equal
abbrev pub same_source : Source → Source → Bool
same_source (source.Result x j) (source.Result y k) = (x == y) && (j == k)
same_source (source.Result x j) (source.Argument y s k) = false
same_source (source.Argument x r j) (source.Result y k) = false
same_source (source.Argument x r j) (source.Argument y s k) = (x == y) && ((r == s) && (j == k))

-- the named values, with their names and types
abbrev pub Named : Type 0
Named = List (Source × Naming)

-- the name and the type of a value, if it has a name
abbrev pub naming_of : Named → Value → Option Naming
naming_of named v = lookup (same_source (source_of v)) named

-- an operand; a value without a name is printed as `%`, but no operand of a well-formed tree is one
abbrev pub naming_text : Option Naming → List ℕ
naming_text None = codes "%"
naming_text (Some n) = name_text n.name

abbrev pub value_text : Named → Value → List ℕ
value_text named v = naming_text (naming_of named v)

-- the type of a value, or `index` if the value has no name
abbrev pub naming_type : Option Naming → TypeTerm
naming_type None = Index
naming_type (Some n) = n.type

abbrev pub value_type : Named → Value → TypeTerm
value_type named v = naming_type (naming_of named v)

-- the name of the result at index k of an operation; n is the operation's number, and `only` says whether it has one
-- result
abbrev pub result_name : Bool → ℕ → ℕ → ValueName
result_name only n k = if only then name.Only n else name.Part n k

-- names that result of operation x
abbrev pub name_result : ℕ → Bool → ℕ → ℕ → TypeTerm → Named → Named
name_result x only n k t named = insert_entry same_source named (source.Result x k) (record { name = result_name only n k; type = t })

-- names the results of an operation from index k on, replacing the names of equal sources
abbrev pub name_results : ℕ → Bool → ℕ → ℕ → List TypeTerm → Named → Named
name_results x only n k [] named = named
name_results x only n k (t ∷ ts) named = name_results x only n (k + 1) ts (name_result x only n k t named)

-- names the argument at index k of the block of region r of operation x; n is the argument's number
abbrev pub name_argument : ℕ → ℕ → ℕ → ℕ → TypeTerm → Named → Named
name_argument x r k n t named = insert_entry same_source named (source.Argument x r k) (record { name = name.Argument n; type = t })
