use Rattle.std.proofs.Common.{ap, refl, arith}
use Rattle.std.specs.Ordering.{nat_cmp}
use Rattle.std.specs.BTreeMap as sorted
use Rattle.std.specs.FinMap as map
use Rattle.std.specs.Map.{lookup}
use Rattle.ir_store_lists.specs.Slots.{slot_in, map_is}
use Rattle.ir_store_lists.proofs.Paged.{no_pages, none_ends}
use Rattle.ir_store_lists.proofs.Tables.{none_in}
use Rattle.ir_store_lists.proofs.table.IdTable.new.Goals as goal

pub invariant_of-result : goal.invariant_of-result
invariant_of-result c = ((map.empty, none_in c.in_ok-near.near.items (sorted.get nat_cmp c.new.result) c.args.bound (c.in_ok-near.ensures.items_if_clones_equal (λ y e. e)) (λ x. ap (lookup (sorted.is_at (nat_cmp x))) c.new.ensures.empty)), (no_pages c.new-2.result.items (slot_in c.in_ok-near.near.items (sorted.get nat_cmp c.new.result)) c.new-2.ensures.items, (none_ends (slot_in c.in_ok-near.near.items (sorted.get nat_cmp c.new.result)) map.empty refl (none_in c.in_ok-near.near.items (sorted.get nat_cmp c.new.result) c.args.bound (c.in_ok-near.ensures.items_if_clones_equal (λ y e. e)) (λ x. ap (lookup (sorted.is_at (nat_cmp x))) c.new.ensures.empty)), (omega arith, tt))))

pub returns : goal.returns
returns c = map_is (slot_in c.in_ok-near.near.items (sorted.get nat_cmp c.new.result)) c.result-1.given.0 map.empty (none_in c.in_ok-near.near.items (sorted.get nat_cmp c.new.result) c.args.bound (c.in_ok-near.ensures.items_if_clones_equal (λ y e. e)) (λ x. ap (lookup (sorted.is_at (nat_cmp x))) c.new.ensures.empty))
