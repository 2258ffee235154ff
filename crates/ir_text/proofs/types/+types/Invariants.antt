use Rattle.std.proofs.Common.{◌≡◌, ◌≤◌, ◌+◌, ◌++◌, drop, true}
use Rattle.std.specs.Prelude.{codes}
use Rattle.ir_types.specs.Terms.{type_term, type_terms, types_at}
use Rattle.ir_text.specs.Rows.{parted}
use Rattle.ir_text.specs.TypeText.{type_texts}
use Rattle.ir_text.proofs.Sizes.{type_size, types_size}
use Rattle.ir_text.proofs.types.+types.Given as goal

abbrev pub decreases-print_type : goal.decreases-print_type
decreases-print_type l = type_size (type_term l.ctx.now l.id)

abbrev pub decreases-write_types : goal.decreases-write_types
decreases-write_types l = types_size (types_at (type_terms l.ctx.now) l.ids.now)

abbrev pub decreases-write_outputs : goal.decreases-write_outputs
decreases-write_outputs l = types_size (types_at (type_terms l.ctx.now) l.ids.now) + 1

abbrev pub invariant-write_types-ids : goal.invariant-write_types-ids
invariant-write_types-ids l = record {
  text : l.out.items ++ parted (codes ", ") l.first (type_texts (types_at (type_terms l.ctx) (drop l.id-index l.ids))) ≡ l.fn.out.items ++ parted (codes ", ") true (type_texts (types_at (type_terms l.ctx) l.ids));
  small : types_size (types_at (type_terms l.ctx) (drop l.id-index l.ids)) ≤ types_size (types_at (type_terms l.ctx) l.ids);
}
