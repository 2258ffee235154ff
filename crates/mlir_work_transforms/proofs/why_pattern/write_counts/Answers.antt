use Rattle.std.proofs.Common.{◌≡◌, ◌∙◌, ap, append_assoc, List, ◌++◌, ℕ, codes, subst}
use Rattle.std.specs.Fmt.{decimal}
use Rattle.std.specs.Prelude.{OnOk}
use Rattle.mlir_work_transforms.proofs.why_pattern.write_counts.Goals as goal

pub returns : goal.returns
returns c =
    let found = codes " operands found " ++ decimal c.args.found in
    let e = ap (λ z. z ++ found) c.in_ok-write_count.ensures ∙ append_assoc c.args.text.now.items (codes "expected " ++ decimal c.args.expected) found in
    subst (λ (z : List ℕ). OnOk c.write_count-2.result (c.write_count-2.new.text.items ≡ z)) e c.write_count-2.ensures
