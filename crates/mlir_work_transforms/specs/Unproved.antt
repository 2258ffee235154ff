-- The patterns of a command that no check proves for the module, and the lines that list them.
use Rattle.std.specs.Prelude.{ℕ, List, [], ◌∷◌, ◌++◌, Bool, true, false, ◌&&◌, ◌||◌, ◌==◌, nat_le, Option, Some, None, if◌then◌else◌, codes}
use Rattle.std.specs.List.{list_all, list_any}
use Rattle.std.specs.Str.{bytes_eq}
use Rattle.ir_event.specs.types.Terms.{TypeTerm, Integer, Index, Function, Memref, OpaqueType}
use Rattle.ir_event.specs.trees.Tree.{OpOf, op}
use Rattle.ir_event.specs.trees.Limits.{all_arguments_pass, every}
use Rattle.ir_event.specs.trees.Meaning.{Operation}
use Rattle.mlir_work_transforms.specs.rewriter.Commands.{RuleName}
use Rattle.mlir_work_registry.specs.Rows.{said_text}
use Rattle.mlir_work_registry.specs.CheckSummary.{CheckSummary}
use Rattle.mlir_work_registry.specs.CheckSummary.TheVariants as said
use Rattle.mlir_work_registry.specs.Registry.{RegistryModel, Kept}
use Rattle.mlir_work_transforms.specs.RuleLists.{pattern_named}

-- ---- modules

-- whether a type isn't `index` and isn't an integer type wider than `most` bits
abbrev pub is_narrow_type : ℕ → TypeTerm → Bool
is_narrow_type most (Integer sign w) = nat_le w most
is_narrow_type most Index = false
is_narrow_type most (Function inputs outputs) = true
is_narrow_type most (Memref dims elem) = true
is_narrow_type most (OpaqueType text) = true

-- whether the types of an operation's results and of its block arguments satisfy a test
abbrev pub types_pass : {N T A : Type 0} → (T → Bool) → OpOf N T A → Bool
types_pass q (op h rs) = list_all q h.results && all_arguments_pass (list_all q) rs

-- whether each value of a module has such a type
abbrev pub has_narrow_types : ℕ → Operation → Bool
has_narrow_types most t = every (types_pass (is_narrow_type most)) t

-- ---- patterns

-- a pattern with its name, whether all its types are concrete, and the result of its last check
pub record Noted : Type 0 where
  pub name : List ℕ
  pub is_typed : Bool
  pub said : Option CheckSummary

abbrev pub noted_of : Kept → Noted
noted_of k = record { name = k.name; is_typed = k.rewrite_pattern.types == 0; said = k.said }

-- whether a check result proves a pattern for a module: the pattern holds at all widths, or up to a width that no
-- value of the module exceeds; a pattern with concrete types only is proved by any `Holds`, since it matches only
-- those types and the check covered all their values
abbrev pub proves : Bool → Option CheckSummary → Operation → Bool
proves is_typed None t = false
proves is_typed (Some (said.Holds w)) t = is_typed || has_narrow_types w t
proves is_typed (Some said.AllWidths) t = true
proves is_typed (Some (said.Vacuous w)) t = false
proves is_typed (Some (said.Fails w)) t = false
proves is_typed (Some (said.Sampled w)) t = false

abbrev pub is_noted : List ℕ → Noted → Bool
is_noted name n = bytes_eq n.name name

-- appends a pattern, unless the list has one of the same name
abbrev pub and_once : List Noted → Noted → List Noted
and_once ns n = if list_any (is_noted n.name) ns then ns else ns ++ n ∷ []

abbrev pub and_user_pattern : List Noted → Option Kept → List Noted
and_user_pattern ns None = ns
and_user_pattern ns (Some k) = and_once ns (noted_of k)

-- the registered patterns that these names name, in order and each once, appended to those before
abbrev pub noted_after : RegistryModel → List Noted → List RuleName → List Noted
noted_after registry ns [] = ns
noted_after registry ns (name ∷ names) = noted_after registry (and_user_pattern ns (pattern_named name registry)) names

-- ---- the lines

abbrev pub verdict_text : Option CheckSummary → List ℕ
verdict_text None = codes "unchecked"
verdict_text (Some said) = said_text said

-- `unproved mask holds 8`, `unproved mask unchecked`
abbrev pub unproved_line : Noted → List ℕ
unproved_line n = codes "unproved " ++ (n.name ++ (codes " " ++ (verdict_text n.said ++ codes "\n")))

-- a line for each pattern that isn't proved for a module
abbrev pub unproved_text : Operation → List Noted → List ℕ
unproved_text t [] = []
unproved_text t (n ∷ ns) = (if proves n.is_typed n.said t then [] else unproved_line n) ++ unproved_text t ns

-- the line of one pattern, and the lines of those that a list names
abbrev pub unproved_one : Kept → Operation → List ℕ
unproved_one k t = unproved_text t (noted_of k ∷ [])

abbrev pub unproved_of : RegistryModel → List RuleName → Operation → List ℕ
unproved_of registry names t = unproved_text t (noted_after registry [] names)
