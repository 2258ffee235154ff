use Rattle.std.proofs.Common.{map, rules}
use Rattle.std.proofs.lemmas.Cmp.{nat_list_cmp_total}
use Rattle.std.proofs.lemmas.Fn.{always_returns_same}
use Rattle.std.proofs.lemmas.List.Sorted.{ranks_by}
use Rattle.ir_types.specs.Dictionaries.{key_bytes, comes_before}
use Rattle.ir_types.proofs.dictionary.order_entries.Goals as goal

pub returns-clause-sorted : goal.returns-clause-sorted
returns-clause-sorted c =
    let names = map (λ v. v.items) c.args.names.now.keys in
    c.sort_unstable_by.ensures.sorted (comes_before names) (ranks_by nat_list_cmp_total (λ e. key_bytes names e)) (always_returns_same _ _ _ (λ a r g h. search rules))
