-- Dictionaries, sorted by the bytes of their keys.
use Rattle.std.specs.Prelude.{ℕ, Bool, false, ◌==◌, ◌||◌, List, [], ◌∷◌, slice_index_or, if◌then◌else◌}
use Rattle.std.specs.List.{list_any}
use Rattle.std.specs.Ordering.{is_lt, nat_cmp}
use Rattle.std.specs.Cmp.Lexicographic.{slice_cmp}
use Rattle.ir_types.specs.declared.node.AttrNode.{AttrNode}
use Rattle.ir_types.specs.declared.node.AttrNode.TheVariants.{Dict}

-- the bytes of an entry's key
abbrev pub key_bytes : List (List ℕ) → ℕ × ℕ → List ℕ
key_bytes names entry = slice_index_or names entry.0 []

-- whether an entry's key is before another's, byte by byte
abbrev pub comes_before : List (List ℕ) → ℕ × ℕ → ℕ × ℕ → Bool
comes_before names a b = is_lt (slice_cmp nat_cmp (key_bytes names a) (key_bytes names b))

-- an entry inserted into sorted entries
abbrev pub placed_among : List (List ℕ) → ℕ × ℕ → List (ℕ × ℕ) → List (ℕ × ℕ)
placed_among names e [] = e ∷ []
placed_among names e (f ∷ fs) = if comes_before names e f then e ∷ f ∷ fs else f ∷ placed_among names e fs

-- entries sorted by the bytes of their keys
abbrev pub sorted : List (List ℕ) → List (ℕ × ℕ) → List (ℕ × ℕ)
sorted names [] = []
sorted names (e ∷ es) = placed_among names e (sorted names es)

-- an attribute as it is stored: the entries of a dictionary are sorted
unfoldable pub kept : List (List ℕ) → AttrNode → AttrNode
kept names (Dict entries) = Dict (sorted names entries)
kept names node = node

-- whether a key occurs twice
abbrev pub has_duplicate : List ℕ → Bool
has_duplicate [] = false
has_duplicate (k ∷ ks) = list_any (λ l. k == l) ks || has_duplicate ks

-- whether an entry has the key of the previous one
abbrev pub duplicate_after : ℕ → List (ℕ × ℕ) → Bool
duplicate_after last [] = false
duplicate_after last (e ∷ es) = (e.0 == last) || duplicate_after e.0 es

abbrev pub has_adjacent_duplicate : List (ℕ × ℕ) → Bool
has_adjacent_duplicate [] = false
has_adjacent_duplicate (e ∷ es) = duplicate_after e.0 es
