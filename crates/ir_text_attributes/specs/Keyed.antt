-- Entries of dictionaries by their keys: ids in a parse, bytes in a grammar.
use Rattle.std.specs.Prelude.{◌≡◌, ℕ, Bool, true, if◌then◌else◌, List, [], ◌∷◌, map, IsPermutation}
use Rattle.std.specs.List.{list_any, IsDistinct}
use Rattle.std.specs.Str.{bytes_eq}
use Rattle.ir_tree.specs.Meaning.{key_before, rises}

module _ {K A : Type 0} (same : K → K → Bool) where
  -- whether an entry has the key
  abbrev pub has_key : K → List (K × A) → Bool
  has_key k es = list_any (λ e. same e.0 k) es

module _ {K A : Type 0} (before : K → K → Bool) where
  -- inserts an entry into a sorted list, before the first entry with a greater key
  abbrev pub insert_sorted : K × A → List (K × A) → List (K × A)
  insert_sorted e [] = e ∷ []
  insert_sorted e (f ∷ fs) = if before e.0 f.0 then e ∷ f ∷ fs else f ∷ insert_sorted e fs

  -- inserts entries into a sorted list, the last one first
  abbrev pub insert_entries : List (K × A) → List (K × A) → List (K × A)
  insert_entries done [] = done
  insert_entries done (e ∷ es) = insert_sorted e (insert_entries done es)

  -- the entries sorted by their keys
  abbrev pub in_order : List (K × A) → List (K × A)
  in_order es = insert_entries [] es

-- the specification of in_order: the result is a permutation of the entries; if their keys are distinct, they rise
-- byte by byte
abbrev pub IsInOrder : {A : Type 0} → (given sorted : List (List ℕ × A)) → Type 0
IsInOrder given sorted = IsPermutation given sorted × (IsDistinct bytes_eq (map (λ e. e.0) given) → rises key_before sorted ≡ true)
