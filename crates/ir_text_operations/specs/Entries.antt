-- Entries of an operation's dictionaries, by their keys: ids in a parse, bytes in a grammar.
use Rattle.std.specs.Prelude.{◌+◌, nat_le, Bool, not, ◌||◌, if◌then◌else◌, List, ◌++◌, length}
use Rattle.std.specs.List.{filter}
use Rattle.ir_types.specs.Limits.{most_entries}
use Rattle.ir_text_attributes.specs.Keyed.{has_key, in_order}

module _ {K A : Type 0} (is_property : K → Bool) where
  -- the entries whose keys are always properties, and the others
  abbrev pub moved : List (K × A) → List (K × A)
  moved es = filter (λ e. is_property e.0) es

  abbrev pub staying : List (K × A) → List (K × A)
  staying es = filter (λ e. not (is_property e.0)) es

  -- the dictionary that the key belongs to has as many entries as a dictionary may have
  abbrev pub no_headroom : List (K × A) → K → List (K × A) → Bool
  no_headroom properties k es = if is_property k then nat_le most_entries (length properties + length (moved es)) else nat_le most_entries (length (staying es))

-- whether an entry with the key can't follow these entries, after these properties
abbrev pub is_refused : {K A : Type 0} → (K → K → Bool) → (K → Bool) → List (K × A) → K → List (K × A) → Bool
is_refused same is_property properties k es = (has_key same k properties || has_key same k es) || no_headroom is_property properties k es

-- both dictionaries of an operation, sorted by their keys: an attribute whose key is a property's is among the
-- properties
abbrev pub properties_of : {K A : Type 0} → (K → Bool) → (K → K → Bool) → List (K × A) → List (K × A) → List (K × A)
properties_of is_property before properties attributes = in_order before (properties ++ moved is_property attributes)

abbrev pub attributes_of : {K A : Type 0} → (K → Bool) → (K → K → Bool) → List (K × A) → List (K × A)
attributes_of is_property before attributes = in_order before (staying is_property attributes)
