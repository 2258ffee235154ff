-- A value that is visible in a nested tree dominates in its flat tree.
use Rattle.std.proofs.Common.{◌≡◌, refl, ap, sym, ◌∙◌, subst, ℕ, ◌+◌, Bool, true, false, true≢false, cond, not, ◌&&◌, ◌||◌, eqb, eqb-true, List, [], ◌∷◌, ◌++◌, length, inl, inr, ◌⊎◌}
use Rattle.std.specs.Prelude.{IsTrue, nat_lt}
use Rattle.ir_tree.specs.declared.value.Value.{Value}
use Rattle.ir_tree.specs.declared.value.Value.TheVariants.{Result, Arg}
use Rattle.ir_tree.specs.types.Terms.{TypeTerm}
use Rattle.ir_tree.specs.types.Words.{is_isolated}
use Rattle.ir_tree.specs.Tree.{OpOf, op, RegionsOf, no_regions, region, RegionOf, empty, block, OpsOf, no_ops, next, head, regions}
use Rattle.ir_tree.specs.Limits.{every, regions_every, region_every, ops_every}
use Rattle.ir_tree.specs.Meaning.{Operation}
use Rattle.ir_tree.specs.Sites.{arguments, results, shows, results_of, visible}
use Rattle.ir_tree.specs.VisibleValues.{visible_at, regions_visible, region_visible, ops_visible}
use Rattle.ir_tree.proofs.Counts.{below_none}
use Rattle.ir_tree.proofs.VisibleSites.{seen_visible}
use Rattle.ir_tree_laws.specs.Members.{In}
use Rattle.ir_tree_laws.proofs.Listed.{in_left, in_right, in_map, both, both_hold, either, or_left, or_right, not_false}
use Rattle.ir_tree_blocks.specs.Flat.{Head, FlatOps, next_op, FlatBlock, blocks_of, block_list, flat_results}
use Rattle.ir_tree_blocks.specs.Scopes.{is_scope, order_of, label_of, is_unreachable}
use Rattle.ir_tree_blocks.specs.Nesting.{Regions, Region, Ops}
use Rattle.ir_tree_blocks.specs.Flattening.{sorted_blocks, flatten, flatten_regions, flatten_region, flatten_own, blocks_under, blocks_in, blocks_in_regions, blocks_in_region}
use Rattle.ir_tree_blocks.specs.Form.{is_nil, PlacedBlock, named_in, placed_under, placed_in, placed_in_regions, placed_in_region, placed_blocks, all_regions, has_one_block, has_label, is_shaped, labels_differ, is_lexical, HasScopes, HasLexicalLabels, is_no_scope}
use Rattle.ir_tree_blocks.specs.Dominance.{ProperlyDominates, Block, further_block, region_blocks, edges, is_result_in, is_defined_in, DominatesStart, DominatesIn, DominatesInRegions, DominatesInRegion, DominatesInBlocks, DominatesInOps, DominatesOp}
use Rattle.ir_tree_blocks.proofs.Sorted.{sorted_in, list_again}
use Rattle.ir_tree_blocks.proofs.Placed.{dominates_below}

-- two tests of each operation
module _ {N T A : Type 0} (p q : OpOf N T A → Bool) where
  mutual
    pub every_both : (t : OpOf N T A) → every p t ≡ true → every q t ≡ true → every (λ o. p o && q o) t ≡ true
    every_both (op h rs) a b =
        let c = both (p (op h rs)) (regions_every p rs) a in
        let d = both (q (op h rs)) (regions_every q rs) b in
        both_hold (p (op h rs) && q (op h rs)) (regions_every (λ o. p o && q o) rs) (both_hold (p (op h rs)) (q (op h rs)) c.0 d.0) (regions_both rs c.1 d.1)

    regions_both : (rs : RegionsOf N T A) → regions_every p rs ≡ true → regions_every q rs ≡ true → regions_every (λ o. p o && q o) rs ≡ true
    regions_both no_regions a b = refl
    regions_both (region g rs) a b =
        let c = both (region_every p g) (regions_every p rs) a in
        let d = both (region_every q g) (regions_every q rs) b in
        both_hold (region_every (λ o. p o && q o) g) (regions_every (λ o. p o && q o) rs) (region_both g c.0 d.0) (regions_both rs c.1 d.1)

    region_both : (g : RegionOf N T A) → region_every p g ≡ true → region_every q g ≡ true → region_every (λ o. p o && q o) g ≡ true
    region_both empty a b = refl
    region_both (block args os) a b = ops_both os a b

    ops_both : (os : OpsOf N T A) → ops_every p os ≡ true → ops_every q os ≡ true → ops_every (λ o. p o && q o) os ≡ true
    ops_both no_ops a b = refl
    ops_both (next o os) a b =
        let c = both (every p o) (ops_every p os) a in
        let d = both (every q o) (ops_every q os) b in
        both_hold (every (λ o. p o && q o) o) (ops_every (λ o. p o && q o) os) (every_both o c.0 d.0) (ops_both os c.1 d.1)

results_flat : (o : Operation) → flat_results (flatten o) ≡ results_of o
results_flat (op h rs) = refl

-- a scope has no results
no_result : (y : ℕ) (ts : List TypeTerm) (v : Value) → is_nil ts ≡ true → shows v (results y (length ts)) ≡ false
no_result y [] (Result x k) e = elim (eqb x y) as (λ b. (b && nat_lt k 0) ≡ false) [ true ↦ below_none k | false ↦ refl ]
no_result y [] (Arg x r k) e = refl
no_result y (t ∷ ts) v e = absurd (true≢false (sym e))

-- the only region of a scope has a block
no_more : (g : Region) (rs : Regions) (v : Value) (x y r : ℕ) (seen : Bool) → has_one_block (region g rs) ≡ true → regions_visible is_isolated x v seen y r rs ≡ true → ⊥
no_more empty rs v x y r seen e k = true≢false (sym e)
no_more (block args os) no_regions v x y r seen e k = true≢false (sym k)
no_more (block args os) (region g rs) v x y r seen e k = true≢false (sym e)

module _ (v : Value) (x : ℕ) where
  -- what is known of each operation
  abbrev fits_form : Operation → Bool
  fits_form o = is_shaped o && ((is_scope (head o) || all_regions labels_differ (regions o)) && ((is_scope (head o) || all_regions is_lexical (regions o)) && not (eqb (head o).id x && is_scope (head o))))

  -- that v dominates operation x in this part of a block, or in a block under it
  abbrev Found : Type 0 → Type 0 → List Block → FlatOps → List FlatBlock → Type 0
  Found outside seen all own under = DominatesInOps v x seen own ⊎ ((b : FlatBlock) × In b under × DominatesInOps v x (DominatesStart v outside all (further_block b)) b.ops)

  -- where v comes from: from outside the region, or from a block with one of these labels
  abbrev Comes : Type 0 → List Block → List ℕ → Type 0
  Comes outside all ls = outside ⊎ ((c : Block) × In c all × In c.label ls × (is_defined_in v c ≡ true))

  abbrev Around : List PlacedBlock → List Block → Type 0
  Around placed all = (p : PlacedBlock) → In p placed → (w : ℕ) → In w p.around → ProperlyDominates (edges all) w p.label

  in_blocks : (outside : Type 0) (all : List Block) (bs : List FlatBlock) (b : FlatBlock) → In b bs → DominatesInOps v x (DominatesStart v outside all (further_block b)) b.ops → DominatesInBlocks v x outside all (blocks_of bs)
  in_blocks outside all [] b k d = absurd k
  in_blocks outside all (c ∷ bs) b (inl e) d = inl (subst (λ (z : FlatBlock). DominatesInOps v x (DominatesStart v outside all (further_block z)) z.ops) e d)
  in_blocks outside all (c ∷ bs) b (inr k) d = inr (in_blocks outside all bs b k d)

  unseen : (o : Operation) → is_shaped o ≡ true → is_scope (head o) ≡ true → (seen : Bool) → (seen || shows v (results_of o)) ≡ true → seen ≡ true
  unseen (op h rs) e n seen k =
      let scoped : (is_nil h.operands && (is_nil h.results && (has_label (order_of h) && has_one_block rs))) ≡ true = sym (ap (λ b. not b || (is_nil h.operands && (is_nil h.results && (has_label (order_of h) && has_one_block rs)))) n) ∙ e in
      let none = (both (is_nil h.results) (has_label (order_of h) && has_one_block rs) (both (is_nil h.operands) (is_nil h.results && (has_label (order_of h) && has_one_block rs)) scoped).1).0 in
      elim (either seen (shows v (results h.id (length h.results))) k) [ inl a ↦ a | inr a ↦ absurd (true≢false (sym a ∙ no_result h.id h.results v none)) ]

  one_block : (h : Head) (rs : Regions) → is_shaped (op h rs) ≡ true → is_scope h ≡ true → has_one_block rs ≡ true
  one_block h rs e n =
      let scoped : (is_nil h.operands && (is_nil h.results && (has_label (order_of h) && has_one_block rs))) ≡ true = sym (ap (λ b. not b || (is_nil h.operands && (is_nil h.results && (has_label (order_of h) && has_one_block rs)))) n) ∙ e in
      (both (has_label (order_of h)) (has_one_block rs) (both (is_nil h.results) (has_label (order_of h) && has_one_block rs) (both (is_nil h.operands) (is_nil h.results && (has_label (order_of h) && has_one_block rs)) scoped).1).1).1

  -- the parts of what is known of an operation
  abbrev Known : Head → Regions → Type 0
  Known h rs = (is_shaped (op h rs) ≡ true) × ((is_scope h || all_regions labels_differ rs) ≡ true) × ((is_scope h || all_regions is_lexical rs) ≡ true) × ((eqb h.id x && is_scope h) ≡ false)

  known : (h : Head) (rs : Regions) → fits_form (op h rs) ≡ true → Known h rs
  known h rs e =
      let a = both (is_shaped (op h rs)) ((is_scope h || all_regions labels_differ rs) && ((is_scope h || all_regions is_lexical rs) && not (eqb h.id x && is_scope h))) e in
      let b = both (is_scope h || all_regions labels_differ rs) ((is_scope h || all_regions is_lexical rs) && not (eqb h.id x && is_scope h)) a.1 in
      let c = both (is_scope h || all_regions is_lexical rs) (not (eqb h.id x && is_scope h)) b.1 in
      (a.0, b.0, c.0, not_false (eqb h.id x && is_scope h) c.1)

  -- what an operation shows adds to what is seen
  shaped_of : (o : Operation) → every fits_form o ≡ true → is_shaped o ≡ true
  shaped_of (op h rs) e = (known h rs (both (fits_form (op h rs)) (regions_every fits_form rs) e).0).0

  mutual
    visit_op : (o : Operation) → every fits_form o ≡ true → (seen : Bool) (outside : Type 0) → (seen ≡ true → outside) → is_scope (head o) ≡ false → visible_at is_isolated x v seen o ≡ true → DominatesIn v x outside (flatten o)
    visit_op (op h rs) f seen outside s n e =
        let g = both (fits_form (op h rs)) (regions_every fits_form rs) f in
        let k = known h rs g.0 in
        let differ : all_regions labels_differ rs ≡ true = sym (ap (λ b. b || all_regions labels_differ rs) n) ∙ k.1 in
        let lexical : all_regions is_lexical rs ≡ true = sym (ap (λ b. b || all_regions is_lexical rs) n) ∙ k.2 in
        elim (either (eqb h.id x && seen) (regions_visible is_isolated x v (not (is_isolated h.name) && seen) h.id 0 rs) e) [
          | inl a ↦ (let b = both (eqb h.id x) seen a in inl (eqb-true h.id x b.0, s b.1))
          | inr a ↦ inr (visit_regions h.id 0 rs g.1 differ lexical (not (is_isolated h.name) && seen) (IsTrue (not (is_isolated h.name)) × outside)
              (λ k. let b = both (not (is_isolated h.name)) seen k in (b.0, s b.1)) a)
        ]

    visit_regions : (y r : ℕ) (rs : Regions) → regions_every fits_form rs ≡ true → all_regions labels_differ rs ≡ true → all_regions is_lexical rs ≡ true → (seen : Bool) (outside : Type 0) → (seen ≡ true → outside)
        → regions_visible is_isolated x v seen y r rs ≡ true → DominatesInRegions v x outside y r (flatten_regions rs)
    visit_regions y r no_regions f d l seen outside s e = absurd (true≢false (sym e))
    visit_regions y r (region g rs) f d l seen outside s e =
        let a = both (region_every fits_form g) (regions_every fits_form rs) f in
        let b = both (labels_differ g) (all_regions labels_differ rs) d in
        let c = both (is_lexical g) (all_regions is_lexical rs) l in
        elim (either (region_visible is_isolated x v seen y r g) (regions_visible is_isolated x v seen y (r + 1) rs) e) [
          | inl k ↦ inl (visit_region y r g a.0 b.0 c.0 seen outside s k)
          | inr k ↦ inr (visit_regions y (r + 1) rs a.1 b.1 c.1 seen outside s k)
        ]

    visit_region : (y r : ℕ) (g : Region) → region_every fits_form g ≡ true → labels_differ g ≡ true → is_lexical g ≡ true → (seen : Bool) (outside : Type 0) → (seen ≡ true → outside)
        → region_visible is_isolated x v seen y r g ≡ true → DominatesInRegion v x outside y r (flatten_region g)
    visit_region y r empty f d l seen outside s e = absurd (true≢false (sym e))
    visit_region y r (block args os) f d l seen outside s e =
        let all = region_blocks y r (flatten_region (block args os)) in
        let own = arguments y r (length args) in
        let here : Block = record { label = 0; arguments = own; ops = flatten_own os } in
        let under = sorted_blocks (blocks_under os) in
        let found = visit_ops outside (placed_blocks (block args os)) all (dominates_below args os y r d l) (0 ∷ []) false here (inl refl) (inl refl) os f (λ p k. inr k)
        (λ b k. inr (in_map further_block b (block_list (blocks_of under)) (subst (In b) (sym (list_again under)) (sorted_in b (blocks_under os) k))))
        (λ k. or_right (shows v own) (is_result_in v (flatten_own os)) k)
        (seen || shows v own) (DominatesStart v outside all here)
        (λ k. elim (either seen (shows v own) k) [ inl a ↦ inl (s a) | inr a ↦ inr (inl a) ])
        (λ k. elim (either seen (shows v own) k) [ inl a ↦ inl (s a) | inr a ↦ inr (here, inl refl, inl refl, or_left (shows v own) (is_result_in v (flatten_own os)) a) ])
        e in
        elim found [ inl a ↦ inl a | inr b ↦ inr (in_blocks outside all under b.0 (sorted_in b.0 (blocks_under os) b.1) b.2) ]

    visit_ops : (outside : Type 0) (placed : List PlacedBlock) (all : List Block) → Around placed all → (ls : List ℕ) (u : Bool) (here : Block) → In here all → In here.label ls → (os : Ops) → ops_every fits_form os ≡ true
        → ((p : PlacedBlock) → In p (placed_under ls u os) → In p placed) → ((b : FlatBlock) → In b (blocks_under os) → In (further_block b) all) → (is_result_in v (flatten_own os) ≡ true → is_defined_in v here ≡ true)
        → (seen : Bool) (known : Type 0) → (seen ≡ true → known) → (seen ≡ true → Comes outside all ls) → ops_visible is_isolated x v seen os ≡ true → Found outside known all (flatten_own os) (blocks_under os)
    visit_ops outside placed all d ls u here hi hl no_ops f sub subb res seen known s c e = absurd (true≢false (sym e))
    visit_ops outside placed all d ls u here hi hl (next o os) f sub subb res seen known s c e =
        let g = both (every fits_form o) (ops_every fits_form os) f in
        let shown = shows v (results_of o) in
        let parts = either (visible_at is_isolated x v seen o) (ops_visible is_isolated x v (seen || shown) os) e in
        (elim (is_scope (head o)) as (λ t. is_scope (head o) ≡ t → ((p : PlacedBlock) → In p (cond t (placed_in ls u o) [] ++ placed_under ls u os) → In p placed) → ((b : FlatBlock) → In b (cond t (blocks_in o) [] ++ blocks_under os) → In (further_block b) all)
        → (is_result_in v (cond t (flatten_own os) (next_op (flatten o) (flatten_own os))) ≡ true → is_defined_in v here ≡ true)
        → Found outside known all (cond t (flatten_own os) (next_op (flatten o) (flatten_own os))) (cond t (blocks_in o) [] ++ blocks_under os)) [
          | true ↦ λ n sub subb res. elim parts [
            | inl a ↦ (let b = visit_scope outside placed all d ls u o n g.0 (λ p k. sub p (in_left p (placed_in ls u o) (placed_under ls u os) k)) (λ b k. subb b (in_left b (blocks_in o) (blocks_under os) k)) seen c a in
                inr (b.0, in_left b.0 (blocks_in o) (blocks_under os) b.1, b.2))
            | inr a ↦ (let rest = visit_ops outside placed all d ls u here hi hl os g.1 (λ p k. sub p (in_right p (placed_in ls u o) (placed_under ls u os) k)) (λ b k. subb b (in_right b (blocks_in o) (blocks_under os) k)) res
                (seen || shown) known (λ k. s (unseen o (shaped_of o g.0) n seen k)) (λ k. c (unseen o (shaped_of o g.0) n seen k)) a in
                elim rest [ inl b ↦ inl b | inr b ↦ inr (b.0, in_right b.0 (blocks_in o) (blocks_under os) b.1, b.2) ])
          ]
          | false ↦ λ n sub subb res. elim parts [
            | inl a ↦ inl (inl (visit_op o g.0 seen known s n a))
            | inr a ↦ (let same = ap (shows v) (results_flat o) in
                let rest = visit_ops outside placed all d ls u here hi hl os g.1 sub subb (λ k. res (or_right (shows v (flat_results (flatten o))) (is_result_in v (flatten_own os)) k))
                (seen || shown) (known ⊎ IsTrue (shows v (flat_results (flatten o))))
                (λ k. elim (either seen shown k) [ inl b ↦ inl (s b) | inr b ↦ inr (same ∙ b) ])
                (λ k. elim (either seen shown k) [ inl b ↦ c b | inr b ↦ inr (here, hi, hl, res (or_left (shows v (flat_results (flatten o))) (is_result_in v (flatten_own os)) (same ∙ b))) ])
                a in
                elim rest [ inl b ↦ inl (inr b) | inr b ↦ inr b ])
          ]
        ]) refl sub subb res

    visit_scope : (outside : Type 0) (placed : List PlacedBlock) (all : List Block) → Around placed all → (ls : List ℕ) (u : Bool) (o : Operation) → is_scope (head o) ≡ true → every fits_form o ≡ true
        → ((p : PlacedBlock) → In p (placed_in ls u o) → In p placed) → ((b : FlatBlock) → In b (blocks_in o) → In (further_block b) all) → (seen : Bool) → (seen ≡ true → Comes outside all ls)
        → visible_at is_isolated x v seen o ≡ true → (b : FlatBlock) × In b (blocks_in o) × DominatesInOps v x (DominatesStart v outside all (further_block b)) b.ops
    visit_scope outside placed all d ls u (op h rs) n f sub subb seen c e =
        let g = both (fits_form (op h rs)) (regions_every fits_form rs) f in
        let k = known h rs g.0 in
        elim (either (eqb h.id x && seen) (regions_visible is_isolated x v (not (is_isolated h.name) && seen) h.id 0 rs) e) [
          | inl a ↦ (let b = both (eqb h.id x) seen a in absurd (true≢false (sym (both_hold (eqb h.id x) (is_scope h) b.0 n) ∙ k.3)))
          | inr a ↦ visit_scope_regions outside placed all d ls (u || is_unreachable h) h rs (one_block h rs k.0 n) g.1 sub subb (not (is_isolated h.name) && seen) (λ k. c (both (not (is_isolated h.name)) seen k).1) a
        ]

    visit_scope_regions : (outside : Type 0) (placed : List PlacedBlock) (all : List Block) → Around placed all → (ls : List ℕ) (u : Bool) (h : Head) (rs : Regions) → has_one_block rs ≡ true → regions_every fits_form rs ≡ true
        → ((p : PlacedBlock) → In p (placed_in_regions (label_of h) ls u rs) → In p placed) → ((b : FlatBlock) → In b (blocks_in_regions h rs) → In (further_block b) all) → (seen : Bool) → (seen ≡ true → Comes outside all ls)
        → regions_visible is_isolated x v seen h.id 0 rs ≡ true → (b : FlatBlock) × In b (blocks_in_regions h rs) × DominatesInOps v x (DominatesStart v outside all (further_block b)) b.ops
    visit_scope_regions outside placed all d ls u h no_regions one f sub subb seen c e = absurd (true≢false (sym one))
    visit_scope_regions outside placed all d ls u h (region g rs) one f sub subb seen c e =
        elim (either (region_visible is_isolated x v seen h.id 0 g) (regions_visible is_isolated x v seen h.id (0 + 1) rs) e) [
          | inl a ↦ visit_scope_region outside placed all d ls u h g (both (region_every fits_form g) (regions_every fits_form rs) f).0 sub subb seen c a
          | inr a ↦ absurd (no_more g rs v x h.id (0 + 1) seen one a)
        ]

    visit_scope_region : (outside : Type 0) (placed : List PlacedBlock) (all : List Block) → Around placed all → (ls : List ℕ) (u : Bool) (h : Head) (g : Region) → region_every fits_form g ≡ true
        → ((p : PlacedBlock) → In p (placed_in_region (label_of h) ls u g) → In p placed) → ((b : FlatBlock) → In b (blocks_in_region h g) → In (further_block b) all) → (seen : Bool) → (seen ≡ true → Comes outside all ls)
        → region_visible is_isolated x v seen h.id 0 g ≡ true → (b : FlatBlock) × In b (blocks_in_region h g) × DominatesInOps v x (DominatesStart v outside all (further_block b)) b.ops
    visit_scope_region outside placed all d ls u h empty f sub subb seen c e = absurd (true≢false (sym e))
    visit_scope_region outside placed all d ls u h (block args os) f sub subb seen c e =
        let p : PlacedBlock = record { label = label_of h; around = ls; unreachable = u; names = named_in os } in
        let b : FlatBlock = record { id = h.id; label = label_of h; args = args; ops = flatten_own os } in
        let there = further_block b in
        let own = arguments h.id 0 (length args) in
        let ib = subb b (inl refl) in
        let found = visit_ops outside placed all d (label_of h ∷ ls) u there ib (inl refl) os f (λ q k. sub q (inr k)) (λ q k. subb q (inr k)) (λ k. or_right (shows v own) (is_result_in v (flatten_own os)) k)
        (seen || shows v own) (DominatesStart v outside all there)
        (λ k. elim (either seen (shows v own) k) [
          | inl a ↦ elim (c a) [ inl z ↦ inl z | inr w ↦ inr (inr (w.0, w.1, d p (sub p (inl refl)) w.0.label w.2, w.3)) ]
          | inr a ↦ inr (inl a)
        ])
        (λ k. elim (either seen (shows v own) k) [
          | inl a ↦ elim (c a) [ inl z ↦ inl z | inr w ↦ inr (w.0, w.1, inr w.2, w.3) ]
          | inr a ↦ inr (there, ib, inl refl, or_left (shows v own) (is_result_in v (flatten_own os)) a)
        ])
        e in
        elim found [ inl a ↦ (b, inl refl, a) | inr r ↦ (r.0, inr r.1, r.2) ]

  pub visible_dominates : (t : Operation) → HasScopes t → HasLexicalLabels t → is_no_scope x t ≡ true → visible is_isolated t x v ≡ true → DominatesOp v x (flatten t)
  visible_dominates t form lexical n e =
      let last = every_both (λ o. is_scope (head o) || all_regions is_lexical (regions o)) (λ o. not (eqb (head o).id x && is_scope (head o))) t lexical n in
      let later = every_both (λ o. is_scope (head o) || all_regions labels_differ (regions o)) (λ o. (is_scope (head o) || all_regions is_lexical (regions o)) && not (eqb (head o).id x && is_scope (head o))) t form.labels last in
      let fits = every_both is_shaped (λ o. (is_scope (head o) || all_regions labels_differ (regions o)) && ((is_scope (head o) || all_regions is_lexical (regions o)) && not (eqb (head o).id x && is_scope (head o)))) t form.shaped later in
      visit_op t fits false ⊥ (λ k. true≢false (sym k)) form.root (seen_visible is_isolated t x v ∙ e)
