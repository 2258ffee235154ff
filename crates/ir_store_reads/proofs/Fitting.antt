-- The facts about a free slot that is used again.
use Rattle.std.proofs.Common.{◌≡◌, ℕ, ◌+◌, ◌<◌, ◌≤◌, List, get_or, refl, sym, ap, ◌∙◌, subst, length, ⊎_elim, arith, Option, Some, None}
use Rattle.std.specs.Prelude.{IfSome}
use Rattle.std.proofs.lemmas.Bool.{cases_eq}
use Rattle.std.proofs.lemmas.List.{get_or-map}
use Rattle.std.proofs.lemmas.Option.{slice_get_within}
use Rattle.ir_store_slots.specs.Lists.{IsHead, IsFree}
use Rattle.ir_store_slots.specs.trees.Tree.{Op, op, head, Region, regions_of}
use Rattle.ir_store_slots.specs.tree_laws.Reasons.{with_id}
use Rattle.ir_store_slots.specs.declared.row.UseNode.{UseNode}
use Rattle.ir_store_slots.specs.Rows.{Row, RegionShape, row_at}
use Rattle.ir_store_slots.specs.Index.{cells_of, cell_at}
use Rattle.ir_store_slots.specs.Emptied.{emptied}
use Rattle.ir_store_slots.specs.Grows.{Parts, AreBlocks, NewBlock, Grown, row_held, AreEmptied}
use Rattle.ir_store_slots.proofs.Grown.{bare_list, emptied_list}
use Rattle.ir_store_reads.specs.Again.{HeadsOf, NodesOf, BlockFits, RowFits}

-- the cell of a node
pub cell_read : (cells : List UseNode) (u : ℕ) (c : UseNode) → u < length cells → c ≡ get_or cells u c → cell_at (cells_of cells) u ≡ (c.row, c.place)
cell_read cells u c l e = get_or-map (λ z. (z.row, z.place)) cells u c (0, 0) l ∙ ap (λ z. (z.row, z.place)) (sym e)

-- none yet
pub heads_none : (homes : List ℕ) (cells : List (ℕ × ℕ)) (k b : ℕ) → HeadsOf homes cells k b 0
heads_none homes cells k b i l = absurd (omega (arith, l))

pub nodes_none : (homes : List ℕ) (cells : List (ℕ × ℕ)) (k b : ℕ) → NodesOf homes cells k b 0
nodes_none homes cells k b i l = absurd (omega (arith, l))

-- one more
pub heads_more : (homes : List ℕ) (cells : List (ℕ × ℕ)) (k b n u : ℕ) → HeadsOf homes cells k b n → u ≡ b + n → IsHead homes u → cell_at cells u ≡ (k, n) → HeadsOf homes cells k b (n + 1)
heads_more homes cells k b n u f e h c i l = ⊎_elim
    (λ z. let at : u ≡ b + i = omega (arith, e, z) in (subst (IsHead homes) at h, ap (cell_at cells) (sym at) ∙ c ∙ ap (λ j. (k, j)) (sym z)))
    (λ m. f i (omega (arith, l, m)))
    (cases_eq i n)

pub nodes_more : (homes : List ℕ) (cells : List (ℕ × ℕ)) (k b n u : ℕ) → NodesOf homes cells k b n → u ≡ b + n → IsFree homes u → cell_at cells u ≡ (k, n) → NodesOf homes cells k b (n + 1)
nodes_more homes cells k b n u f e h c i l = ⊎_elim
    (λ z. let at : u ≡ b + i = omega (arith, e, z) in (subst (IsFree homes) at h, ap (cell_at cells) (sym at) ∙ c ∙ ap (λ j. (k, j)) (sym z)))
    (λ m. f i (omega (arith, l, m)))
    (cases_eq i n)

-- all of them
pub heads_all : (homes : List ℕ) (cells : List (ℕ × ℕ)) (k b n m : ℕ) → m ≤ n → HeadsOf homes cells k b n → HeadsOf homes cells k b m
heads_all homes cells k b n m l f i j = f i (omega (arith, l, j))

-- a block for which the test is true fits
pub block_fit : (q : Parts) (k i h n : ℕ) (args : List ℕ) → n ≡ length args → BlockFits q k i h n → NewBlock q 0 k i (args, h)
block_fit q k i h n args e b = record {
  head = b.head;
  owner = b.owner;
  region = b.region;
  bare = b.bare;
  arguments = λ j l. let f = b.arguments j (omega (arith, l, e)) in record { head = f.0; cell = f.1; new = omega arith };
}

-- an operation can be written into a slot that fits
pub fit_grown : (q : Parts) (k x : ℕ) (o : Op) (gs : List Region) (xs : List RegionShape) (w r : Row) → k < length q.slots → row_at q.slots k ≡ w → op (head o) (regions_of gs) ≡ o → RowFits q.sibs.homes q.homes q.cells k w (head o)
    → AreEmptied xs gs → AreBlocks q 0 k xs → r ≡ row_held x (head o) xs w.uses w.values → Grown 0 q x o k r
fit_grown q k x o gs xs w r inside ew eo f emptied_xs blocks er = subst (Grown 0 q x o k) (sym er) (record {
  ready = λ keys none. record {
    inside = inside;
    spare = record { used = ap (λ z. z.used) ew ∙ f.used; live = ap (λ z. z.live) ew ∙ f.live };
    out = f.out;
    unknown = none;
    used = refl;
    live = refl;
    id = refl;
    blocks = blocks;
    operands = λ j v e. let n = f.operands j (slice_get_within (head o).operands j v e) in record { inside = n.0.inside; cell = n.1; unlinked_home = n.0.unlinked };
    results = λ i l. let n = f.results i l in record { head = n.0; cell = n.1; new = omega arith };
  };
  is = ap (op (record (head o) { id = x })) (bare_list xs ∙ ap regions_of emptied_xs ∙ emptied_list gs) ∙ ap (λ z. with_id x (emptied z)) eo;
  gone = refl;
})

-- a property of an optional value is a property of the value that it has
pub some_reported : {X : Type 0} (P : X → Type 0) (o : Option X) (x : X) → o ≡ Some x → IfSome o P → P x
some_reported P None x e p = absurd cc
some_reported P (Some y) x e p = let z : y ≡ x = cc in subst P z p
