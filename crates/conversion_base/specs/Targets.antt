-- The target of a conversion, and the legality of operations (Dialect Conversion, "Conversion Target").
use Rattle.std.specs.Prelude.{◌≡◌, ℕ, List, [], ◌∷◌, ◌++◌, codes, map, Bool, true, false, not, ◌||◌, ◌&&◌, nat_le}
use Rattle.std.specs.Prelude.{Option, Some, None, option_map}
use Rattle.std.specs.List.{All, list_any, list_all}
use Rattle.ir_event.specs.types.Things.{ContextModel, IsName}
use Rattle.ir_event.specs.types.Terms.{TypeTerm, name_term}
use Rattle.ir_event.specs.trees.Ids.{find}
use Rattle.ir_event.specs.trees.Meaning.{Operation}
use Rattle.ir_event.specs.store.Nodes.{node_of}
use Rattle.ir_event.specs.Modules.{Node}
use Rattle.patterns_base.specs.Looks.{is_index, is_index_value}
use Rattle.patterns_base.specs.RuleNames.{is_converting}
use Rattle.patterns_base.specs.declared.rule.Rule.{Rule}
use Rattle.patterns_base.specs.Words.{named, among}

-- a target: whether every operation must be legal in the end; the names of legal and of illegal operations, and of
-- operations that are legal without a value of type index; the rules to try, in this order; and the depth to which the
-- operations that rules make are legalized
pub record TargetOf (N : Type 0) : Type 0 where
  pub full : Bool
  pub legal : List N
  pub illegal : List N
  pub dynamic : List N
  pub rules : List Rule
  pub depth : ℕ

-- names by their bytes
abbrev pub Aim : Type 0
Aim = TargetOf (List ℕ)

-- the meaning of a target with the interned names of a context
abbrev pub target_model : ContextModel → TargetOf ℕ → Aim
target_model c g =
    record {
      full = g.full;
      legal = map (name_term c) g.legal;
      illegal = map (name_term c) g.illegal;
      dynamic = map (name_term c) g.dynamic;
      rules = g.rules;
      depth = g.depth;
    }

-- the names of a target
abbrev pub names_of : {N : Type 0} → TargetOf N → List N
names_of g = g.legal ++ g.illegal ++ g.dynamic

-- the name of the unrealized casts, which a conversion leaves between types
abbrev pub cast_name : List ℕ
cast_name = codes "builtin.unrealized_conversion_cast"

-- ---- which targets are accepted

-- whether each name is listed once
abbrev pub each_once : List (List ℕ) → Bool
each_once [] = true
each_once (n ∷ ns) = not (among ns n) && each_once ns

-- the greatest depth
abbrev pub most_depth : ℕ
most_depth = 16

-- whether a target is accepted: each name is listed once, unrealized casts aren't listed, a conversion may try each of
-- the rules, and the depth is within its limits
abbrev pub is_accepted : Aim → Bool
is_accepted g =
    each_once (names_of g) && (not (list_any (named cast_name) (names_of g))
    && (list_all is_converting g.rules && (nat_le 1 g.depth && nat_le g.depth most_depth)))

-- ---- which operations are legal

-- whether the block of a region, if it has one, has an argument of type index
abbrev pub index_argument : Option (List TypeTerm) → Bool
index_argument None = false
index_argument (Some types) = list_any is_index types

-- whether an operation of a tree has an operand, a result or a block argument of type index
abbrev pub has_index : Operation → Node → Bool
has_index t n =
    list_any (is_index_value t) n.head.operands
    || (list_any is_index n.head.results || list_any index_argument n.arguments)

-- whether an operation of a tree is legal: it is an unrealized cast; or its name is listed as legal; or its name is
-- listed as dynamic and it has no value of type index; or its name isn't listed, in partial mode
abbrev pub is_legal_node : Aim → Operation → Node → Bool
is_legal_node g t n =
    named cast_name n.head.name
    || (among g.legal n.head.name
    || (among g.dynamic n.head.name && not (has_index t n)
    || not g.full && not (among (names_of g) n.head.name)))

-- whether an optional operation is legal
abbrev pub is_legal_found : Aim → Operation → Option Node → Bool
is_legal_found g t None = false
is_legal_found g t (Some n) = is_legal_node g t n

-- whether operation x of a tree is legal
abbrev pub is_legal : Aim → ℕ → Operation → Bool
is_legal g x t = is_legal_found g t (option_map node_of (find x t))

-- ---- targets with interned names

-- the names of a target are names of a context
pub record IsNamedIn (c : ContextModel) (g : TargetOf ℕ) : Type 0 where
  pub legal : All (IsName c) g.legal
  pub illegal : All (IsName c) g.illegal
  pub dynamic : All (IsName c) g.dynamic

-- and a conversion may try each of its rules
pub record IsAimIn (c : ContextModel) (g : TargetOf ℕ) : Type 0 where
  pub names : IsNamedIn c g
  pub rules : list_all is_converting g.rules ≡ true
