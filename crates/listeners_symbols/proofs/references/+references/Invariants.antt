use Rattle.std.proofs.Common.{◌≡◌, ◌≤◌, ◌<◌, length}
use Rattle.std.specs.List.{All}
use Rattle.ir_event.specs.types.Terms.{attr_term, attr_terms, attrs_at, entries_at}
use Rattle.listeners_symbols.specs.Found.{found_meaning, IsFound}
use Rattle.listeners_symbols.specs.Roles.{with_each, with_entries}
use Rattle.listeners_symbols.proofs.Sizes.{attr_size, attrs_size, entries_size}
use Rattle.listeners_symbols.proofs.references.+references.Given as goal

abbrev pub decreases-add_attr : goal.decreases-add_attr
decreases-add_attr l = attr_size (attr_term l.ctx.now l.id)

abbrev pub decreases-add_attrs : goal.decreases-add_attrs
decreases-add_attrs l = attrs_size (attrs_at (attr_terms l.ctx.now) l.ids.now)

abbrev pub decreases-add_entries : goal.decreases-add_entries
decreases-add_entries l = entries_size (entries_at l.ctx.now.names (attr_terms l.ctx.now) l.entries.now)

abbrev pub invariant-add_attrs-ids : goal.invariant-add_attrs-ids
invariant-add_attrs-ids l = record {
  known : All (λ a. a < length l.ctx.attrs) l.rest;
  out : IsFound l.ctx l.out;
  left : with_each (found_meaning l.ctx l.out) (attrs_at (attr_terms l.ctx) l.rest) ≡ with_each (found_meaning l.ctx l.fn.out) (attrs_at (attr_terms l.ctx) l.ids);
  small : attrs_size (attrs_at (attr_terms l.ctx) l.rest) ≤ attrs_size (attrs_at (attr_terms l.ctx) l.ids);
}

abbrev pub decreases-add_attrs-ids : goal.decreases-add_attrs-ids
decreases-add_attrs-ids l = length l.rest

abbrev pub invariant-add_entries-entries : goal.invariant-add_entries-entries
invariant-add_entries-entries l = record {
  known : All (λ e. e.1 < length l.ctx.attrs) l.rest;
  out : IsFound l.ctx l.out;
  left : with_entries (found_meaning l.ctx l.out) (entries_at l.ctx.names (attr_terms l.ctx) l.rest) ≡ with_entries (found_meaning l.ctx l.fn.out) (entries_at l.ctx.names (attr_terms l.ctx) l.entries);
  small : entries_size (entries_at l.ctx.names (attr_terms l.ctx) l.rest) ≤ entries_size (entries_at l.ctx.names (attr_terms l.ctx) l.entries);
}

abbrev pub decreases-add_entries-entries : goal.decreases-add_entries-entries
decreases-add_entries-entries l = length l.rest
