use Rattle.std.proofs.Common.{◌≡◌, ◌≤◌, ◌+◌, ap, refl, ℕ, List, drop, arith}
use Rattle.std.specs.Prelude.{codes}
use Rattle.ir_types.specs.Terms.{type_term, type_terms, types_at}
use Rattle.ir_text.specs.TypeText.{type_texts}
use Rattle.ir_text.proofs.Rows.{one_more, no_more}
use Rattle.ir_text.proofs.Sizes.{type_size, types_size}
use Rattle.ir_text.proofs.types.+types.Goals as goal
use Rattle.ir_tree.proofs.Steps.{next_left}

pub write_types-ids-preserved : goal.write_types-ids-preserved
write_types-ids-preserved t c =
    let known = type_terms c.args.ctx.now in
    let next = next_left c.args.ids.now c.ids.id-index c.id-item.result c.ids-test.true c.id-item.is in
    let sizes : types_size (types_at known (drop c.ids.id-index c.args.ids.now)) ≡ type_size (type_term c.args.ctx.now c.id-item.result) + types_size (types_at known (drop (c.ids.id-index + 1) c.args.ids.now)) + 1 = ap (λ (ns : List ℕ). types_size (types_at known ns)) next in
    record {
      text = one_more (codes ", ") _ _ _ _ _ c.ids.first _ _ (ap (λ (ns : List ℕ). type_texts (types_at known ns)) next) c.in_ok-write_between.ensures c.in_ok-print_type.ensures c.ids.invariant.text;
      small = omega (arith, sizes, c.ids.invariant.small);
    }

pub write_types-returns : goal.write_types-returns
write_types-returns t c = no_more (codes ", ") _ _ c.ids.first (λ (ns : List ℕ). type_texts (types_at (type_terms c.args.ctx.now) ns)) c.args.ids.now c.ids.id-index c.ids-test.false refl c.ids.invariant.text
