use Rattle.std.proofs.Common.{rules, ◌≡◌, ◌≢◌, ℕ, List, eqb, length, map, subst}
use Rattle.std.specs.Bool.{Decides}
use Rattle.std.specs.Cmp.{nat_eq_equiv, unsigned_Decides}
use Rattle.std.specs.HashSet as bag
use Rattle.std.specs.List.{AllPairs}
use Rattle.std.proofs.lemmas.List.{map-id}
use Rattle.std.proofs.lemmas.Map.Made.{hash_set_len-Decides}
use Rattle.ir_tree.proofs.Distinct.{distinct_by_count}
use Rattle.ir_tree_blocks.proofs.Differing.{differ_is}
use Rattle.ir_tree_blocks.proofs.conditions.are_distinct.Goals as goal

pub returns : goal.returns
returns c =
    let xs = c.args.numbers.now.items in
    let k = bag.hash_set_len c.in_ok-different.different in
    let h : bag.IsFromIterResult eqb (map (λ x. x) xs) c.in_ok-different.different = search rules in
    let mapped = hash_set_len-Decides unsigned_Decides nat_eq_equiv (map (λ x. x) xs) c.in_ok-different.different h in
    let same = subst (λ (l : List ℕ). Decides (eqb k (length l)) (AllPairs (λ x y. x ≢ y) l)) (map-id xs) mapped in
    let count : c.len-2.result ≡ length xs = search rules in
    let reported = distinct_by_count xs c.len.result c.len-2.result k same c.len.ensures.len count in
    differ_is (eqb c.len.result c.len-2.result) xs reported
