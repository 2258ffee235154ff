use Rattle.std.proofs.Common.{◌≡◌, ◌≤◌, ◌+◌, ◌++◌, drop, true}
use Rattle.std.specs.Prelude.{codes}
use Rattle.ir_types.specs.Terms.{attr_term, attr_terms, attrs_at, entries_at}
use Rattle.ir_text.specs.Rows.{parted}
use Rattle.ir_text.specs.AttrText.{attr_texts, entry_texts, in_curly}
use Rattle.ir_text.proofs.Sizes.{attr_size, attrs_size, entries_size}
use Rattle.ir_text.proofs.attributes.+attributes.Given as goal

abbrev pub decreases-print_attr : goal.decreases-print_attr
decreases-print_attr l = attr_size (attr_term l.ctx.now l.id)

abbrev pub decreases-write_attrs : goal.decreases-write_attrs
decreases-write_attrs l = attrs_size (attrs_at (attr_terms l.ctx.now) l.ids.now)

abbrev pub decreases-write_entry : goal.decreases-write_entry
decreases-write_entry l = attr_size (attr_term l.ctx.now l.attr) + 1

abbrev pub decreases-write_entries : goal.decreases-write_entries
decreases-write_entries l = entries_size (entries_at l.ctx.now.names (attr_terms l.ctx.now) l.entries.now)

abbrev pub invariant-write_attrs-ids : goal.invariant-write_attrs-ids
invariant-write_attrs-ids l = record {
  text : l.out.items ++ parted (codes ", ") l.first (attr_texts (attrs_at (attr_terms l.ctx) (drop l.id-index l.ids))) ≡ l.fn.out.items ++ parted (codes ", ") true (attr_texts (attrs_at (attr_terms l.ctx) l.ids));
  small : attrs_size (attrs_at (attr_terms l.ctx) (drop l.id-index l.ids)) ≤ attrs_size (attrs_at (attr_terms l.ctx) l.ids);
}

abbrev pub invariant-write_entries-entries : goal.invariant-write_entries-entries
invariant-write_entries-entries l = l.out.items ++ (parted (codes ", ") l.first (entry_texts (entries_at l.ctx.names (attr_terms l.ctx) (drop l.entry-index l.entries))) ++ codes "}") ≡ l.fn.out.items ++ in_curly (entry_texts (entries_at l.ctx.names (attr_terms l.ctx) l.entries))
