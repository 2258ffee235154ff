use Rattle.std.proofs.Common.{◌≡◌, subst, eqb, true, false}
use Rattle.std.specs.Prelude.{OnOk}
use Rattle.std.specs.Ordering.{nat_cmp}
use Rattle.std.specs.BTreeSet.{contains}
use Rattle.listeners_symbols.specs.Symbols.{definition_lines, duplicate_lines, all_reference_lines, mismatch_lines}
use Rattle.listeners_symbols.specs.Lines.{cells_of, numbered, numbers_at}
use Rattle.listeners_symbols.proofs.Lines.{five_groups}
use Rattle.listeners_symbols.proofs.report.push_lines.Goals as goal

pub returns : goal.returns
returns c =
    let m = c.args.roles.now in
    let ds = c.args.names.now.definitions in
    let possible = contains nat_cmp c.args.names.now.possible in
    subst (λ z. OnOk c.push_mismatches.result (cells_of c.push_mismatches.new.out.items ≡ z))
    (five_groups (cells_of c.args.out.now.items) (cells_of c.push_definitions.new.out.items) (cells_of c.push_duplicates.new.out.items) (cells_of c.push_all_references.new.out.items) (cells_of c.push_all_references-2.new.out.items)
    (definition_lines ds) (duplicate_lines eqb ds ds) (all_reference_lines eqb (numbers_at m) ds possible true (numbered m.all.entries)) (all_reference_lines eqb (numbers_at m) ds possible false (numbered m.all.entries)) (mismatch_lines eqb eqb (numbers_at m) ds (numbered m.all.entries))
    c.in_ok-push_definitions.ensures c.in_ok-push_duplicates.ensures c.in_ok-push_all_references.ensures c.in_ok-push_all_references-2.ensures)
    c.push_mismatches.ensures
