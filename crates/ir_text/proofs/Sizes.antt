-- The sizes of types and attributes, by which the printer's recursions terminate.
use Rattle.std.proofs.Common.{◌≡◌, ℕ, zero, suc, ◌+◌, ◌<◌, List, [], ◌∷◌, length, get_or, arith}
use Rattle.ir_types.specs.Terms.{attr_at, entries_at, TypeTerm, Integer, Index, Function, Memref, OpaqueType, TypeTerms, no_types, next_type, AttrTerm, Array, Dictionary, AttrTerms, no_attrs, next_attr, EntryTerms, no_entries, next_entry}

abbrev mutual
  pub type_size : TypeTerm → ℕ
  type_size (Integer sign width) = 1
  type_size Index = 1
  type_size (Function inputs outputs) = types_size inputs + types_size outputs + 2
  type_size (Memref dims elem) = type_size elem + 1
  type_size (OpaqueType text) = 1

  pub types_size : TypeTerms → ℕ
  types_size no_types = 0
  types_size (next_type t ts) = type_size t + types_size ts + 1

abbrev mutual
  pub attr_size : AttrTerm → ℕ
  attr_size (Array items) = attrs_size items + 1
  attr_size (Dictionary entries) = entries_size entries + 1
  attr_size _ = 1

  pub attrs_size : AttrTerms → ℕ
  attrs_size no_attrs = 0
  attrs_size (next_attr a rest) = attr_size a + attrs_size rest + 1

  pub entries_size : EntryTerms → ℕ
  entries_size no_entries = 0
  entries_size (next_entry key a rest) = attr_size a + entries_size rest + 2

pub entry_smaller : (names : List (List ℕ)) (known : List AttrTerm) (es : List (ℕ × ℕ)) (i : ℕ) (e : ℕ × ℕ) → i < length es → e ≡ get_or es i e → attr_size (attr_at known e.1) + 1 < entries_size (entries_at names known es)
entry_smaller names known [] i e h p = absurd (omega arith)
entry_smaller names known (x ∷ es) zero e h p = rw p (omega arith)
entry_smaller names known (x ∷ es) (suc i) e h p = omega (arith, entry_smaller names known es i e (omega arith) p)
