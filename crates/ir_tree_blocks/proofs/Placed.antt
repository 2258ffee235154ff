-- The blocks of a region of a nested tree, and those of its flat tree.
use Rattle.std.proofs.Common.{◌≡◌, refl, ap, sym, ◌∙◌, subst, ℕ, Bool, true, false, true≢false, cond, ◌&&◌, ◌||◌, eqb, eqb-true, List, [], ◌∷◌, ◌++◌, inl, inr, ◌⊎◌}
use Rattle.std.specs.Prelude.{IsTrue}
use Rattle.std.specs.List.{list_any}
use Rattle.std.proofs.lemmas.List.Folds.{list_any-append}
use Rattle.ir_tree.specs.types.Terms.{TypeTerm}
use Rattle.ir_tree.specs.Tree.{op, no_regions, region, empty, block, no_ops, next, head}
use Rattle.ir_tree.specs.Meaning.{Operation}
use Rattle.ir_tree_laws.specs.Members.{In}
use Rattle.ir_tree_laws.proofs.Listed.{in_left, in_right, in_parts, in_mapped, both, or_left, or_right, one_any}
use Rattle.ir_tree_blocks.specs.Flat.{Head, next_op, FlatBlock, blocks_of, block_list}
use Rattle.ir_tree_blocks.specs.Scopes.{is_scope, label_of, is_unreachable, successors_of}
use Rattle.ir_tree_blocks.specs.Nesting.{Regions, Region, Ops}
use Rattle.ir_tree_blocks.specs.Flattening.{sorted_blocks, flatten, flatten_region, flatten_own, blocks_under, blocks_in, blocks_in_regions, blocks_in_region}
use Rattle.ir_tree_blocks.specs.Form.{PlacedBlock, named_in, placed_under, placed_in, placed_in_regions, placed_in_region, placed_blocks, labels_differ, is_lexical}
use Rattle.ir_tree_blocks.specs.Dominance.{ProperlyDominates, Block, further_block, region_blocks, last_successors, edges}
use Rattle.ir_tree_blocks.proofs.Sorted.{in_sorted, list_again}
use Rattle.ir_tree_blocks.proofs.Paths.{unique, Linked, around_dominates}

-- the blocks around a block are blocks of the region
module _ (all : List PlacedBlock) where
  mutual
    under_linked : (around : List ℕ) (u : Bool) (os : Ops) → Linked all around → ((p : PlacedBlock) → In p (placed_under around u os) → In p all) → (p : PlacedBlock) → In p (placed_under around u os) → Linked all p.around
    under_linked around u no_ops n sub p k = absurd k
    under_linked around u (next o os) n sub p k =
        let first = elim (is_scope (head o)) as (λ c. ((p : PlacedBlock) → In p (cond c (placed_in around u o) []) → In p all) → (p : PlacedBlock) → In p (cond c (placed_in around u o) []) → Linked all p.around) [
          | true ↦ λ sub p k. in_linked around u o n sub p k
          | false ↦ λ sub p k. absurd k
        ] in
        let here = cond (is_scope (head o)) (placed_in around u o) [] in
        elim (in_parts p here (placed_under around u os) k) [
          | inl a ↦ first (λ q b. sub q (in_left q here (placed_under around u os) b)) p a
          | inr a ↦ under_linked around u os n (λ q b. sub q (in_right q here (placed_under around u os) b)) p a
        ]

    in_linked : (around : List ℕ) (u : Bool) (o : Operation) → Linked all around → ((p : PlacedBlock) → In p (placed_in around u o) → In p all) → (p : PlacedBlock) → In p (placed_in around u o) → Linked all p.around
    in_linked around u (op h rs) n sub p k = regions_linked (label_of h) around (u || is_unreachable h) rs n sub p k

    regions_linked : (l : ℕ) (around : List ℕ) (u : Bool) (rs : Regions) → Linked all around → ((p : PlacedBlock) → In p (placed_in_regions l around u rs) → In p all) → (p : PlacedBlock) → In p (placed_in_regions l around u rs) → Linked all p.around
    regions_linked l around u no_regions n sub p k = absurd k
    regions_linked l around u (region g rs) n sub p k = region_linked l around u g n sub p k

    region_linked : (l : ℕ) (around : List ℕ) (u : Bool) (g : Region) → Linked all around → ((p : PlacedBlock) → In p (placed_in_region l around u g) → In p all) → (p : PlacedBlock) → In p (placed_in_region l around u g) → Linked all p.around
    region_linked l around u empty n sub p k = absurd k
    region_linked l around u (block args os) n sub p (inl e) = subst (λ (z : PlacedBlock). Linked all z.around) (sym e) n
    region_linked l around u (block args os) n sub p (inr k) =
        let here : PlacedBlock = record { label = l; around = around; unreachable = u; names = named_in os } in
        under_linked (l ∷ around) u os ((here, sub here (inl refl), refl, refl), n) (λ q b. sub q (inr b)) p k

-- what the last operation of a block names, the block names
last_named : (last : List ℕ) (os : Ops) (w : ℕ) → list_any (eqb w) (last_successors last (flatten_own os)) ≡ true → (list_any (eqb w) last ≡ true) ⊎ (list_any (eqb w) (named_in os) ≡ true)
last_named last no_ops w e = inl e
last_named last (next (op h rs) os) w e =
    let same = last_named last os w in
    let other = last_named (successors_of h) os w in
    (elim (is_scope h) as (λ c. list_any (eqb w) (last_successors last (cond c (flatten_own os) (next_op (flatten (op h rs)) (flatten_own os)))) ≡ true
    → (list_any (eqb w) last ≡ true) ⊎ (list_any (eqb w) (cond c [] (successors_of h) ++ named_in os) ≡ true)) [
      | true ↦ λ e. same e
      | false ↦ λ e. inr (list_any-append (eqb w) (successors_of h) (named_in os) ∙ (elim (other e) [
        | inl a ↦ or_left (list_any (eqb w) (successors_of h)) (list_any (eqb w) (named_in os)) a
        | inr a ↦ or_right (list_any (eqb w) (successors_of h)) (list_any (eqb w) (named_in os)) a
      ]))
    ]) e

-- a block of the flat tree is a block of the nested tree
abbrev IsPlaced : FlatBlock → List PlacedBlock → Type 0
IsPlaced b ps = (p : PlacedBlock) × In p ps × (p.label ≡ b.label) × ((w : ℕ) → list_any (eqb w) (last_successors [] b.ops) ≡ true → list_any (eqb w) p.names ≡ true)

named_by : (os : Ops) (w : ℕ) → list_any (eqb w) (last_successors [] (flatten_own os)) ≡ true → list_any (eqb w) (named_in os) ≡ true
named_by os w e = elim (last_named [] os w e) [ inl a ↦ absurd (true≢false (sym a)) | inr a ↦ a ]

mutual
  under_placed : (around : List ℕ) (u : Bool) (os : Ops) (b : FlatBlock) → In b (blocks_under os) → IsPlaced b (placed_under around u os)
  under_placed around u no_ops b k = absurd k
  under_placed around u (next o os) b k =
      let first = elim (is_scope (head o)) as (λ c. In b (cond c (blocks_in o) []) → IsPlaced b (cond c (placed_in around u o) [])) [
        | true ↦ λ k. in_placed around u o b k
        | false ↦ λ k. absurd k
      ] in
      let here = cond (is_scope (head o)) (placed_in around u o) [] in
      elim (in_parts b (cond (is_scope (head o)) (blocks_in o) []) (blocks_under os) k) [
        | inl a ↦ (let r = first a in (r.0, in_left r.0 here (placed_under around u os) r.1, r.2, r.3))
        | inr a ↦ (let r = under_placed around u os b a in (r.0, in_right r.0 here (placed_under around u os) r.1, r.2, r.3))
      ]

  in_placed : (around : List ℕ) (u : Bool) (o : Operation) (b : FlatBlock) → In b (blocks_in o) → IsPlaced b (placed_in around u o)
  in_placed around u (op h rs) b k = regions_placed h around (u || is_unreachable h) rs b k

  regions_placed : (h : Head) (around : List ℕ) (u : Bool) (rs : Regions) (b : FlatBlock) → In b (blocks_in_regions h rs) → IsPlaced b (placed_in_regions (label_of h) around u rs)
  regions_placed h around u no_regions b k = absurd k
  regions_placed h around u (region g rs) b k = region_placed h around u g b k

  region_placed : (h : Head) (around : List ℕ) (u : Bool) (g : Region) (b : FlatBlock) → In b (blocks_in_region h g) → IsPlaced b (placed_in_region (label_of h) around u g)
  region_placed h around u empty b k = absurd k
  region_placed h around u (block args os) b (inl e) =
      let here : PlacedBlock = record { label = label_of h; around = around; unreachable = u; names = named_in os } in
      (here, inl refl, sym (ap (λ (z : FlatBlock). z.label) e), λ w a. named_by os w (subst (λ (z : FlatBlock). list_any (eqb w) (last_successors [] z.ops) ≡ true) e a))
  region_placed h around u (block args os) b (inr k) = let r = under_placed (label_of h ∷ around) u os b k in (r.0, inr r.1, r.2, r.3)

-- a region whose labels differ and are lexical
module _ (args : List TypeTerm) (os : Ops) (x r : ℕ) (differ : labels_differ (block args os) ≡ true) (lexical : is_lexical (block args os) ≡ true) where
  abbrev all : List PlacedBlock
  all = placed_blocks (block args os)

  abbrev flat : List Block
  flat = region_blocks x r (flatten_region (block args os))

  abbrev start : PlacedBlock
  start = record { label = 0; around = []; unreachable = false; names = named_in os }

  named : (v w : ℕ) → IsTrue (edges flat v w) → (p : PlacedBlock) × In p all × (p.label ≡ v) × (list_any (eqb w) p.names ≡ true)
  named v w e =
      let m = one_any (λ (b : Block). eqb b.label v && list_any (eqb w) (last_successors [] b.ops)) flat e in
      let t = both (eqb m.0.label v) (list_any (eqb w) (last_successors [] m.0.ops)) m.2 in
      elim m.1 [
        | inl a ↦ (start, inl refl, sym (ap (λ (z : Block). z.label) a) ∙ eqb-true m.0.label v t.0, named_by os w (subst (λ (z : Block). list_any (eqb w) (last_successors [] z.ops) ≡ true) a t.1))
        | inr a ↦ (let b = in_mapped further_block m.0 (block_list (blocks_of (sorted_blocks (blocks_under os)))) a in
            let k = in_sorted b.0 (blocks_under os) (subst (In b.0) (list_again (sorted_blocks (blocks_under os))) b.1) in
            let p = under_placed (0 ∷ []) false os b.0 k in
            (p.0, inr p.1, p.2 ∙ sym (ap (λ (z : Block). z.label) b.2) ∙ eqb-true m.0.label v t.0, p.3 w (subst (λ (z : Block). list_any (eqb w) (last_successors [] z.ops) ≡ true) b.2 t.1)))
      ]

  entry : (p : PlacedBlock) → In p all → p.label ≡ 0 → (p.around ≡ []) × (p.unreachable ≡ false)
  entry p k e = let t = unique all differ p start k (inl refl) e in (ap (λ (z : PlacedBlock). z.around) t, ap (λ (z : PlacedBlock). z.unreachable) t)

  pub dominates_below : (p : PlacedBlock) → In p all → (v : ℕ) → In v p.around → ProperlyDominates (edges flat) v p.label
  dominates_below p k v a = around_dominates all differ lexical (region_linked all 0 [] false (block args os) tt (λ q b. b)) (edges flat) named entry p k v a
