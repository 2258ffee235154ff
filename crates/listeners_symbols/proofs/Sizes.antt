-- The size of attributes, which shows that the visit of their parts ends.
use Rattle.std.proofs.Common.{ℕ, ◌+◌}
use Rattle.ir_event.specs.types.Terms.{AttrTerm, Array, Dictionary, AttrTerms, no_attrs, next_attr, EntryTerms, no_entries, next_entry}

abbrev mutual
  pub attr_size : AttrTerm → ℕ
  attr_size (Array items) = attrs_size items + 1
  attr_size (Dictionary entries) = entries_size entries + 1
  attr_size _ = 1

  pub attrs_size : AttrTerms → ℕ
  attrs_size no_attrs = 0
  attrs_size (next_attr a rest) = attr_size a + attrs_size rest + 1

  pub entries_size : EntryTerms → ℕ
  entries_size no_entries = 0
  entries_size (next_entry key a rest) = attr_size a + entries_size rest + 1
