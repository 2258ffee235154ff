-- The meaning of a tree in a context, and the soundness of a tree.
use Rattle.std.specs.Prelude.{ℕ, nat_lt, Bool, true, ◌&&◌, List, [], ◌∷◌, length, IsTrue}
use Rattle.std.specs.Ordering.{is_lt, nat_cmp}
use Rattle.std.specs.Cmp.Lexicographic.{slice_cmp}
use Rattle.ir_types.specs.Things.{ContextModel}
use Rattle.ir_types.specs.Terms.{TypeTerm, AttrTerm, name_term, type_term, attr_term}
use Rattle.ir_types.specs.Words.{is_isolated}
use Rattle.ir_tree.specs.Tree.{OpOf, Op, head}
use Rattle.ir_tree.specs.Limits.{every}
use Rattle.ir_tree.specs.Maps.{map_tree}
use Rattle.ir_tree.specs.Passing.{all_pass}

-- trees of contents: names as bytes, types and attributes as terms
abbrev pub Operation : Type 0
Operation = OpOf (List ℕ) TypeTerm AttrTerm

-- the meaning of a tree whose names, types and attributes are ids of a context
abbrev pub meaning : ContextModel → Op → Operation
meaning c = map_tree (name_term c) (type_term c) (attr_term c)

-- whether operations of a name are isolated from above, by the id of the name
abbrev pub isolated_in : ContextModel → ℕ → Bool
isolated_in c n = is_isolated (name_term c n)

-- the order of keys by their bytes, and the order of the ids of keys in a context
abbrev pub key_before : List ℕ → List ℕ → Bool
key_before k l = is_lt (slice_cmp nat_cmp k l)

abbrev pub key_before_in : ContextModel → ℕ → ℕ → Bool
key_before_in c k l = key_before (name_term c k) (name_term c l)

-- ids that are names, types and attributes of a context
abbrev pub is_name : ContextModel → ℕ → Bool
is_name c n = nat_lt n (length c.names)

abbrev pub is_type : ContextModel → ℕ → Bool
is_type c n = nat_lt n (length c.types)

abbrev pub is_attr : ContextModel → ℕ → Bool
is_attr c n = nat_lt n (length c.attrs)

-- whether every name, type and attribute of a tree is an id of the context
abbrev pub is_known : ContextModel → Op → Bool
is_known c = all_pass (is_name c) (is_type c) (is_attr c)

-- whether each key of a dictionary is before the next one, so that no key occurs twice
abbrev pub rises_after : {N A : Type 0} → (N → N → Bool) → N → List (N × A) → Bool
rises_after before k [] = true
rises_after before k (e ∷ es) = before k e.0 && rises_after before e.0 es

abbrev pub rises : {N A : Type 0} → (N → N → Bool) → List (N × A) → Bool
rises before [] = true
rises before (e ∷ es) = rises_after before e.0 es

-- whether both dictionaries of an operation are sorted
abbrev pub dictionaries_rise : {N T A : Type 0} → (N → N → Bool) → OpOf N T A → Bool
dictionaries_rise before o = rises before (head o).properties && rises before (head o).attributes

-- a tree is sound in a context if all its names, types and attributes are ids of the context, and its dictionaries are
-- sorted by the bytes of their keys, without duplicates
pub record IsSoundIn (c : ContextModel) (t : Op) : Type 0 where
  pub known : IsTrue (is_known c t)
  pub sorted : IsTrue (every (dictionaries_rise (key_before_in c)) t)
