-- The kinds of analyses that a list of the command line names.
use Rattle.std.specs.Prelude.{ℕ, zero, suc, List, [], ◌∷◌, ◌++◌, ◌==◌, ◌||◌, Bool, false, Option, Some, None, codes, if◌then◌else◌, is_some, length, nat_lt}
use Rattle.std.specs.List.{list_all}
use Rattle.std.specs.Str.{bytes_eq}
use Rattle.mlir_work_script_base.specs.Cuts.{after, before}
use Rattle.mlir_work_script_base.specs.Kinds.{all_kinds, kind_name, kind_of}

abbrev pub is_comma : ℕ → Bool
is_comma b = b == 44

abbrev pub has_comma : List ℕ → Bool
has_comma list = nat_lt (length (before is_comma list)) (length list)

-- the items of a list with commas between them, with at most so many commas
abbrev pub items_up_to : ℕ → List ℕ → List (List ℕ)
items_up_to zero list = list ∷ []
items_up_to (suc n) list =
    if has_comma list then before is_comma list ∷ items_up_to n (after is_comma list) else list ∷ []

-- all items of a list; it has at most as many commas as bytes
abbrev pub items_of : List ℕ → List (List ℕ)
items_of list = items_up_to (length list) list

abbrev pub one_kind : Option ℕ → List ℕ
one_kind None = []
one_kind (Some kind) = kind ∷ []

-- the kinds that an item of a list names: all of them for `all`, the kind of a word, or none for another word
abbrev pub kinds_named : List ℕ → List ℕ
kinds_named item = if bytes_eq item (codes "all") then all_kinds else one_kind (kind_of item)

-- the kinds that the items of a list name, in the order of the list
abbrev pub listed_kinds : List (List ℕ) → List ℕ
listed_kinds [] = []
listed_kinds (item ∷ items) = kinds_named item ++ listed_kinds items

-- whether there is a kind, and it has a name; the kinds with names are those of the program
abbrev pub is_analysis : Option ℕ → Bool
is_analysis None = false
is_analysis (Some kind) = is_some (kind_name kind)

-- whether an item of a list is `all`, `none` or the word of an analysis of the program
abbrev pub is_known : List ℕ → Bool
is_known item = bytes_eq item (codes "all") || (bytes_eq item (codes "none") || is_analysis (kind_of item))

-- the kinds that a list names, if each of its items is known
abbrev pub kinds_in : List ℕ → Option (List ℕ)
kinds_in list = if list_all is_known (items_of list) then Some (listed_kinds (items_of list)) else None
