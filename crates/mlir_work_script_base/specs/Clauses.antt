-- The clauses of a conversion: `legal NAMES`, `illegal NAMES`, `dynamic NAMES`, `rules NUMBERS` and `depth N`, each
-- at most once and in any order. NAMES and NUMBERS are one word each, with commas between the items.
use Rattle.std.specs.Prelude.{ℕ, List, [], ◌∷◌, ◌&&◌, Bool, true, false, Option, Some, None, is_none, if◌then◌else◌}
use Rattle.std.specs.Prelude.{codes}
use Rattle.std.specs.Option.{option_map, unwrap_or}
use Rattle.std.specs.Str.{bytes_eq}
use Rattle.rewriter_machine.specs.Commands.{Target}
use Rattle.mlir_work_script_base.specs.Items.{are_names, are_numbers, items_of, numbers_of}
use Rattle.mlir_work_script_base.specs.Numbers.{number_of}
use Rattle.mlir_work_script_base.specs.declared.clauses.Clauses.{Clauses as Written}

-- the value of each clause, if the clause is present
pub record Clauses : Type 0 where
  pub legal : Option (List (List ℕ))
  pub illegal : Option (List (List ℕ))
  pub dynamic : Option (List (List ℕ))
  pub rules : Option (List ℕ)
  pub depth : Option ℕ

-- the clauses whose lists are still words
abbrev pub clauses_of : Written → Clauses
clauses_of c =
    record {
      legal = option_map (λ names. items_of names.now) c.legal;
      illegal = option_map (λ names. items_of names.now) c.illegal;
      dynamic = option_map (λ names. items_of names.now) c.dynamic;
      rules = option_map (λ numbers. numbers_of numbers.now) c.rules;
      depth = c.depth;
    }

abbrev pub no_clauses : Clauses
no_clauses = record { legal = None; illegal = None; dynamic = None; rules = None; depth = None }

-- ---- parsing

-- adds a clause, unless it is malformed or repeated
abbrev pub with_legal : List ℕ → Clauses → Option Clauses
with_legal word c = if is_none c.legal && are_names word then Some (record c { legal = Some (items_of word) }) else None

abbrev pub with_illegal : List ℕ → Clauses → Option Clauses
with_illegal word c =
    if is_none c.illegal && are_names word then Some (record c { illegal = Some (items_of word) }) else None

abbrev pub with_dynamic : List ℕ → Clauses → Option Clauses
with_dynamic word c =
    if is_none c.dynamic && are_names word then Some (record c { dynamic = Some (items_of word) }) else None

abbrev pub with_rules : List ℕ → Clauses → Option Clauses
with_rules word c =
    if is_none c.rules && are_numbers word then Some (record c { rules = Some (numbers_of word) }) else None

abbrev pub depth_from : Option ℕ → Clauses → Option Clauses
depth_from None c = None
depth_from (Some n) c = if is_none c.depth then Some (record c { depth = Some n }) else None

abbrev pub with_depth : List ℕ → Clauses → Option Clauses
with_depth word c = depth_from (number_of word) c

-- adds the clause of this name
abbrev pub with_named : List ℕ → List ℕ → Clauses → Option Clauses
with_named name word c =
    if bytes_eq name (codes "legal") then with_legal word c
    else if bytes_eq name (codes "illegal") then with_illegal word c
    else if bytes_eq name (codes "dynamic") then with_dynamic word c
    else if bytes_eq name (codes "rules") then with_rules word c
    else if bytes_eq name (codes "depth") then with_depth word c
    else None

abbrev pub with_clause : List ℕ → List ℕ → Option Clauses → Option Clauses
with_clause name word None = None
with_clause name word (Some c) = with_named name word c

-- adds the clauses of these words, two words for each
abbrev pub with_clauses : List (List ℕ) → Option Clauses → Option Clauses
with_clauses [] read = read
with_clauses (name ∷ []) read = None
with_clauses (name ∷ word ∷ words) read = with_clauses words (with_clause name word read)

-- whether a conversion is full, from its first word
abbrev pub mode_of : List ℕ → Option Bool
mode_of word =
    if bytes_eq word (codes "partial") then Some false
    else if bytes_eq word (codes "full") then Some true
    else None

-- ---- the target

-- the depth limit if no clause gives one
abbrev pub default_depth : ℕ
default_depth = 16

abbrev pub target_of : Bool → Clauses → Target
target_of full c =
    record {
      full = full;
      legal = unwrap_or c.legal [];
      illegal = unwrap_or c.illegal [];
      dynamic = unwrap_or c.dynamic [];
      rules = unwrap_or c.rules [];
      depth = unwrap_or c.depth default_depth;
    }
