-- A nested tree, flattened again.
use Rattle.std.proofs.Common.{◌≡◌, refl, ap, sym, ◌∙◌, ℕ, ◌+◌, true, false, cond, eqb, List, [], ◌∷◌, ◌++◌, map}
use Rattle.std.proofs.lemmas.List.{map-append}
use Rattle.ir_tree.specs.Tree.{head}
use Rattle.ir_tree_blocks.specs.Flat.{FlatOp, flat_op, FlatRegions, no_flat_regions, flat_region, FlatRegion, flat_empty, flat_blocks, FlatBlocks, no_blocks, next_block, FlatOps, no_flat_ops, next_op, FlatBlock, blocks_of, block_list, EachOp, EachInRegions, EachInRegion, EachInBlocks, EachInOps}
use Rattle.ir_tree_blocks.specs.Scopes.{is_scope, label_of, scope_head}
use Rattle.ir_tree_blocks.specs.Nesting.{Ops, Layout, no_scopes, scope, layout_labels, IsRegionLayout, AreLayouts, CanNestOp, followed_by, NestedBlock, nested_at, scope_of, scopes_of, nest, nest_regions, nest_region, nest_blocks, nest_ops}
use Rattle.ir_tree_blocks.specs.Flattening.{sorted_blocks, flatten, flatten_regions, flatten_region, flatten_own, blocks_under, blocks_in}
use Rattle.ir_tree_blocks.proofs.Heads.{successors_with, without_with, is_scope_with, scope_is, scope_label, scope_id}
use Rattle.ir_tree_blocks.proofs.Sorted.{flat_at, sorted_at, all_at, blocks_again}

-- a nested block flattens to a block, whatever scopes follow its operations
record Matches (b : NestedBlock) (c : FlatBlock) : Type 0 where
  id : b.id ≡ c.id
  label : b.label ≡ c.label
  args : b.args ≡ c.args
  own : (tail : Ops) → flatten_own tail ≡ no_flat_ops → flatten_own (followed_by b.ops tail) ≡ c.ops
  under : (tail : Ops) → blocks_under (followed_by b.ops tail) ≡ blocks_under tail

-- scopes are no operations of a flat tree
scopes_own : (bs : List NestedBlock) (f : Layout) → flatten_own (scopes_of bs f) ≡ no_flat_ops
scopes_own bs no_scopes = refl
scopes_own bs (scope l u inside after) =
    let b = nested_at bs l in
    ap (λ c. cond c (flatten_own (scopes_of bs after)) (next_op (flatten (scope_of b u (scopes_of bs inside))) (flatten_own (scopes_of bs after)))) (scope_is b.id b.label u)
    ∙ scopes_own bs after

-- the blocks of the scopes of a layout are those with its labels
scopes_under : (nested : List NestedBlock) (bs : List FlatBlock) → ((l : ℕ) → Matches (nested_at nested l) (flat_at bs l)) → (f : Layout) → blocks_under (scopes_of nested f) ≡ map (flat_at bs) (layout_labels f)
scopes_under nested bs h no_scopes = refl
scopes_under nested bs h (scope l u inside after) =
    let b = nested_at nested l in
    let c = flat_at bs l in
    let m = h l in
    let tail = scopes_of nested inside in
    let s = scope_of b u tail in
    let first : FlatBlock = record { id = (scope_head b.id b.label u).id; label = label_of (scope_head b.id b.label u); args = b.args; ops = flatten_own (followed_by b.ops tail) } in
    let here : first ≡ c = λ i. record { id = (scope_id b.id b.label u ∙ m.id) i; label = (scope_label b.id b.label u ∙ m.label) i; args = m.args i; ops = m.own tail (scopes_own nested inside) i } in
    let below : blocks_under (followed_by b.ops tail) ≡ map (flat_at bs) (layout_labels inside) = m.under tail ∙ scopes_under nested bs h inside in
    let later : blocks_under (scopes_of nested after) ≡ map (flat_at bs) (layout_labels after) = scopes_under nested bs h after in
    ap (λ t. cond t (blocks_in s) [] ++ blocks_under (scopes_of nested after)) (scope_is b.id b.label u)
    ∙ (λ i. (here i ∷ below i) ++ later i)
    ∙ ap (λ cs. c ∷ cs) (sym (map-append (flat_at bs) (layout_labels inside) (layout_labels after)))

module _ (f : ℕ → ℕ → Layout) where
  no_scope : (o : FlatOp) → EachOp (CanNestOp f) o → is_scope (head (nest f o)) ≡ false
  no_scope (flat_op h ss rs) e = is_scope_with h ss ∙ e.0.no_scope

  mutual
    pub back : (t : FlatOp) → EachOp (CanNestOp f) t → flatten (nest f t) ≡ t
    back (flat_op h ss rs) e = λ i. flat_op (without_with h ss e.0.no_key i) (successors_with h ss e.0.no_key i) (regions_back h.id 0 rs e.0.layouts e.1 i)

    regions_back : (x r : ℕ) (rs : FlatRegions) → AreLayouts f x r rs → EachInRegions (CanNestOp f) rs → flatten_regions (nest_regions f x r rs) ≡ rs
    regions_back x r no_flat_regions a e = refl
    regions_back x r (flat_region g rs) a e = λ i. flat_region (region_back x r g a.0 e.0 i) (regions_back x (r + 1) rs a.1 e.1 i)

    region_back : (x r : ℕ) (g : FlatRegion) → IsRegionLayout (f x r) g → EachInRegion (CanNestOp f) g → flatten_region (nest_region f x r g) ≡ g
    region_back x r flat_empty a e = refl
    region_back x r (flat_blocks args os bs) a e =
        let nested = nest_blocks f bs in
        let tail = scopes_of nested (f x r) in
        let all = block_list bs in
        let under : blocks_under (followed_by (nest_ops f os) tail) ≡ map (flat_at all) (layout_labels (f x r)) = under_back os e.0 tail ∙ scopes_under nested all (matching bs e.1) (f x r) in
        let sorted : sorted_blocks (map (flat_at all) (layout_labels (f x r))) ≡ all = sorted_at all (layout_labels (f x r)) ∙ ap (map (flat_at all)) a.each_once ∙ all_at all a.labels_differ in
        let again : blocks_of (sorted_blocks (blocks_under (followed_by (nest_ops f os) tail))) ≡ bs = ap (λ z. blocks_of (sorted_blocks z)) under ∙ ap blocks_of sorted ∙ blocks_again bs in
        λ i. flat_blocks args (own_back os e.0 tail (scopes_own nested (f x r)) i) (again i)

    matching : (bs : FlatBlocks) → EachInBlocks (CanNestOp f) bs → (l : ℕ) → Matches (nested_at (nest_blocks f bs) l) (flat_at (block_list bs) l)
    matching no_blocks e l = record { id = refl; label = refl; args = refl; own = λ tail h. h; under = λ tail. refl }
    matching (next_block x m args os bs) e l =
        let here : NestedBlock = record { id = x; label = m; args = args; ops = nest_ops f os } in
        let there : FlatBlock = record { id = x; label = m; args = args; ops = os } in
        elim (eqb m l) as (λ c. Matches (cond c here (nested_at (nest_blocks f bs) l)) (cond c there (flat_at (block_list bs) l))) [
          | true ↦ record { id = refl; label = refl; args = refl; own = λ tail h. own_back os e.0 tail h; under = λ tail. under_back os e.0 tail }
          | false ↦ matching bs e.1 l
        ]

    own_back : (os : FlatOps) → EachInOps (CanNestOp f) os → (tail : Ops) → flatten_own tail ≡ no_flat_ops → flatten_own (followed_by (nest_ops f os) tail) ≡ os
    own_back no_flat_ops e tail h = h
    own_back (next_op o os) e tail h =
        let rest = flatten_own (followed_by (nest_ops f os) tail) in
        ap (λ c. cond c rest (next_op (flatten (nest f o)) rest)) (no_scope o e.0) ∙ λ i. next_op (back o e.0 i) (own_back os e.1 tail h i)

    under_back : (os : FlatOps) → EachInOps (CanNestOp f) os → (tail : Ops) → blocks_under (followed_by (nest_ops f os) tail) ≡ blocks_under tail
    under_back no_flat_ops e tail = refl
    under_back (next_op o os) e tail =
        ap (λ c. cond c (blocks_in (nest f o)) [] ++ blocks_under (followed_by (nest_ops f os) tail)) (no_scope o e.0) ∙ under_back os e.1 tail
