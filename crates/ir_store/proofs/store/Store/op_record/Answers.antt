use Rattle.std.proofs.Common.{◌∙◌, ◌<◌, ◌+◌, [], sym, ap, subst, length, get_or, Some, arith}
use Rattle.std.specs.Prelude.{option_map}
use Rattle.ir_store_reads.specs.Rows.{row_at}
use Rattle.ir_store_reads.specs.Index.{AreHeads, cells_of}
use Rattle.ir_store_reads.specs.Using.{AreUses, uses_at}
use Rattle.ir_store_reads.specs.trees.Ids.{find}
use Rattle.ir_store_reads.specs.trees.declared.value.Value.TheVariants.{Result}
use Rattle.ir_store_reads.proofs.SlotLaws.{none_found}
use Rattle.ir_store_reads.proofs.Using.{each_at, each_length}
use Rattle.ir_store.specs.OpRecords.{lists_in}
use Rattle.ir_store.proofs.Called.{rows_in, keys_in}
use Rattle.ir_store.proofs.Viewed.{lists_are, result_heads, uses_are}
use Rattle.ir_store.proofs.store.Store.op_record.Goals as goal

pub returns-in_default-clause-lists : goal.returns-in_default-clause-lists
returns-in_default-clause-lists c =
    let a = c.self.inside in
    sym (ap (option_map lists_in) (none_found (rows_in a) (keys_in a) a.sibs a.root a.represented.0 c.self.invariant.right a.represented.1 c.args.op (sym c.in_default.ensures)))
    ∙ ap (λ s. option_map lists_in (find c.args.op s.module_of.tree)) c.self.view_is

pub new-requires : goal.new-requires
new-requires c =
    let a = c.self.inside in
    subst (λ n. AreHeads c.values.result n a.uses.homes) (sym (ap length c.lists.ensures.results))
    (subst (λ b. AreHeads b (length (row_at (rows_in a) c.in-Some.key).head.results) a.uses.homes) (sym c.values.ensures) (result_heads a c.self.invariant c.args.op c.in-Some.key c.in-Some.ensures c.laws.ensures.few))

pub returns-clause-lists : goal.returns-clause-lists
returns-clause-lists c =
    let a = c.self.inside in
    let lists = c.lists.ensures in
    (λ i. Some (c.name.ensures i, (lists.operands i, lists.results i)))
    ∙ lists_are a c.self.invariant c.args.op c.in-Some.key c.in-Some.ensures
    ∙ ap (λ s. option_map lists_in (find c.args.op s.module_of.tree)) c.self.view_is

pub returns-clause-count : goal.returns-clause-count
returns-clause-count c =
    let a = c.self.inside in
    ap length c.new.ensures ∙ each_length (rows_in a) (cells_of a.cells.items) a.uses.lists c.values.result (length c.lists.result.1.now)

pub returns-clause-uses : goal.returns-clause-uses
returns-clause-uses c = λ k l.
    let a = c.self.inside in
    let v = Result c.args.op k in
    let slots = rows_in a in
    let cells = cells_of a.cells.items in
    let base = (row_at slots c.in-Some.key).values in
    let results = c.lists.result.1.now in
    let many = ap length c.new.ensures ∙ each_length slots cells a.uses.lists c.values.result (length results) in
    let short : k < length results = omega (arith, l, many) in
    let same = ap length c.lists.ensures.results in
    let less : k < length (row_at slots c.in-Some.key).head.results = omega (arith, short, same) in
    let is = ap (λ u. get_or u k []) c.new.ensures ∙ each_at slots cells a.uses.lists c.values.result (length results) k short
    ∙ ap (λ b. uses_at slots cells a.uses.lists (Some (b + k))) c.values.ensures in
    subst (λ s. AreUses v s.module_of.tree (get_or c.new.result k [])) c.self.view_is
    (subst (AreUses v a.represented.0) (sym is) (uses_are a c.self.invariant c.args.op c.in-Some.key c.in-Some.ensures c.laws.ensures k less))
