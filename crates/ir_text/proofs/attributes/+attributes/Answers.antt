use Rattle.std.proofs.Common.{◌≡◌, ◌≤◌, ◌+◌, ap, refl, ℕ, List, drop, arith, rules}
use Rattle.std.specs.Prelude.{codes}
use Rattle.ir_types.specs.Terms.{attr_term, attr_terms, attrs_at, entries_at}
use Rattle.ir_text.specs.AttrText.{attr_texts, entry_texts}
use Rattle.ir_text.proofs.Rows.{one_more, no_more, one_more_closed}
use Rattle.ir_text.proofs.Sizes.{attr_size, attrs_size, entry_smaller}
use Rattle.ir_text.proofs.attributes.+attributes.Goals as goal
use Rattle.ir_tree.proofs.Steps.{next_left}

pub write_entries-write_entry-requires : goal.write_entries-write_entry-requires
write_entries-write_entry-requires t c =
    let below = entry_smaller c.args.ctx.now.names (attr_terms c.args.ctx.now) c.args.entries.now c.entries.entry-index c.entry-item.result c.entries-test.true c.entry-item.is in
    (omega (arith, below), search rules)

pub write_entries-entries-preserved : goal.write_entries-entries-preserved
write_entries-entries-preserved t c =
    let next = next_left c.args.entries.now c.entries.entry-index c.entry-item.result c.entries-test.true c.entry-item.is in
    one_more_closed (codes ", ") (codes "}") _ _ _ _ _ c.entries.first _ _ (ap (λ (es : List (ℕ × ℕ)). entry_texts (entries_at c.args.ctx.now.names (attr_terms c.args.ctx.now) es)) next) c.in_ok-write_between.ensures c.in_ok-write_entry.ensures c.entries.invariant

pub write_attrs-ids-preserved : goal.write_attrs-ids-preserved
write_attrs-ids-preserved t c =
    let known = attr_terms c.args.ctx.now in
    let next = next_left c.args.ids.now c.ids.id-index c.id-item.result c.ids-test.true c.id-item.is in
    let sizes : attrs_size (attrs_at known (drop c.ids.id-index c.args.ids.now)) ≡ attr_size (attr_term c.args.ctx.now c.id-item.result) + attrs_size (attrs_at known (drop (c.ids.id-index + 1) c.args.ids.now)) + 1 = ap (λ (ns : List ℕ). attrs_size (attrs_at known ns)) next in
    record {
      text = one_more (codes ", ") _ _ _ _ _ c.ids.first _ _ (ap (λ (ns : List ℕ). attr_texts (attrs_at known ns)) next) c.in_ok-write_between.ensures c.in_ok-print_attr.ensures c.ids.invariant.text;
      small = omega (arith, sizes, c.ids.invariant.small);
    }

pub write_attrs-returns : goal.write_attrs-returns
write_attrs-returns t c = no_more (codes ", ") _ _ c.ids.first (λ (ns : List ℕ). attr_texts (attrs_at (attr_terms c.args.ctx.now) ns)) c.args.ids.now c.ids.id-index c.ids-test.false refl c.ids.invariant.text
