-- Blocks by their labels, and blocks in the order of their labels.
use Rattle.std.proofs.Common.{◌≡◌, refl, ap, ◌∙◌, ℕ, Bool, true, false, cond, not, eqb, eq-eqb, eqb-true, List, [], ◌∷◌, map, inl, inr}
use Rattle.std.specs.Prelude.{nat_le}
use Rattle.std.specs.List.{list_any}
use Rattle.ir_tree_laws.specs.Members.{In}
use Rattle.ir_tree_laws.proofs.Listed.{both, neither, not_false}
use Rattle.ir_tree_blocks.specs.Flat.{FlatBlocks, no_blocks, next_block, no_flat_ops, FlatBlock, blocks_of, block_list}
use Rattle.ir_tree_blocks.specs.Nesting.{insert_number, sorted_numbers, all_differ}
use Rattle.ir_tree_blocks.specs.Flattening.{insert_block, sorted_blocks}

-- the block with a label; one without operations if there is none
abbrev pub flat_at : List FlatBlock → ℕ → FlatBlock
flat_at [] l = record { id = 0; label = l; args = []; ops = no_flat_ops }
flat_at (b ∷ bs) l = cond (eqb b.label l) b (flat_at bs l)

label_step : (b c : FlatBlock) (l : ℕ) → c.label ≡ l → (t : Bool) → eqb b.label l ≡ t → (cond t b c).label ≡ l
label_step b c l h true e = eqb-true b.label l e
label_step b c l h false e = h

pub at_label : (bs : List FlatBlock) (l : ℕ) → (flat_at bs l).label ≡ l
at_label [] l = refl
at_label (b ∷ bs) l = label_step b (flat_at bs l) l (at_label bs l) (eqb b.label l) refl

-- blocks in order are those with the labels in order
insert_at : (bs : List FlatBlock) (n : ℕ) (ns : List ℕ) → insert_block (flat_at bs n) (map (flat_at bs) ns) ≡ map (flat_at bs) (insert_number n ns)
insert_at bs n [] = refl
insert_at bs n (m ∷ ms) =
    (λ i. cond (nat_le (at_label bs n i) (at_label bs m i)) (flat_at bs n ∷ flat_at bs m ∷ map (flat_at bs) ms) (flat_at bs m ∷ insert_at bs n ms i))
    ∙ (elim (nat_le n m) as (λ c. cond c (flat_at bs n ∷ flat_at bs m ∷ map (flat_at bs) ms) (flat_at bs m ∷ map (flat_at bs) (insert_number n ms)) ≡ map (flat_at bs) (cond c (n ∷ m ∷ ms) (m ∷ insert_number n ms)))
    [ true ↦ refl | false ↦ refl ])

pub sorted_at : (bs : List FlatBlock) (ns : List ℕ) → sorted_blocks (map (flat_at bs) ns) ≡ map (flat_at bs) (sorted_numbers ns)
sorted_at bs [] = refl
sorted_at bs (n ∷ ns) = ap (insert_block (flat_at bs n)) (sorted_at bs ns) ∙ insert_at bs n (sorted_numbers ns)

others : (b : FlatBlock) (bs : List FlatBlock) (ns : List ℕ) → list_any (eqb b.label) ns ≡ false → map (flat_at (b ∷ bs)) ns ≡ map (flat_at bs) ns
others b bs [] h = refl
others b bs (n ∷ ns) h = let k = neither (eqb b.label n) (list_any (eqb b.label) ns) h in λ i. cond (k.0 i) b (flat_at bs n) ∷ others b bs ns k.1 i

abbrev labels : List FlatBlock → List ℕ
labels bs = map (λ (b : FlatBlock). b.label) bs

pub all_at : (bs : List FlatBlock) → all_differ (map (λ (b : FlatBlock). b.label) bs) ≡ true → map (flat_at bs) (map (λ (b : FlatBlock). b.label) bs) ≡ bs
all_at [] d = refl
all_at (b ∷ bs) d =
    let e = both (not (list_any (eqb b.label) (labels bs))) (all_differ (labels bs)) d in
    let first : cond (eqb b.label b.label) b (flat_at bs b.label) ≡ b = ap (λ c. cond c b (flat_at bs b.label)) (eq-eqb b.label b.label refl) in
    let later : map (flat_at (b ∷ bs)) (labels bs) ≡ bs = others b bs (labels bs) (not_false (list_any (eqb b.label) (labels bs)) e.0) ∙ all_at bs e.1 in
    λ i. first i ∷ later i

pub blocks_again : (bs : FlatBlocks) → blocks_of (block_list bs) ≡ bs
blocks_again no_blocks = refl
blocks_again (next_block x l args os bs) = ap (next_block x l args os) (blocks_again bs)

pub list_again : (bs : List FlatBlock) → block_list (blocks_of bs) ≡ bs
list_again [] = refl
list_again (b ∷ bs) = ap (λ cs. b ∷ cs) (list_again bs)

-- members of a list in order
pub in_insert : (b c : FlatBlock) (cs : List FlatBlock) → In b (insert_block c cs) → In b (c ∷ cs)
in_insert b c [] h = h
in_insert b c (d ∷ ds) h =
    let later = in_insert b c ds in
    (elim (nat_le c.label d.label) as (λ t. In b (cond t (c ∷ d ∷ ds) (d ∷ insert_block c ds)) → In b (c ∷ d ∷ ds)) [
      | true ↦ λ k. k
      | false ↦ λ k. elim k [ inl e ↦ inr (inl e) | inr m ↦ elim (later m) [ inl e ↦ inl e | inr l ↦ inr (inr l) ] ]
    ]) h

pub in_sorted : (b : FlatBlock) (bs : List FlatBlock) → In b (sorted_blocks bs) → In b bs
in_sorted b [] h = h
in_sorted b (c ∷ cs) h = elim (in_insert b c (sorted_blocks cs) h) [ inl e ↦ inl e | inr k ↦ inr (in_sorted b cs k) ]

insert_in : (b c : FlatBlock) (cs : List FlatBlock) → In b (c ∷ cs) → In b (insert_block c cs)
insert_in b c [] h = h
insert_in b c (d ∷ ds) h =
    let later = insert_in b c ds in
    elim (nat_le c.label d.label) as (λ t. In b (cond t (c ∷ d ∷ ds) (d ∷ insert_block c ds))) [
      | true ↦ h
      | false ↦ elim h [ inl e ↦ inr (later (inl e)) | inr m ↦ elim m [ inl e ↦ inl e | inr l ↦ inr (later (inr l)) ] ]
    ]

pub sorted_in : (b : FlatBlock) (bs : List FlatBlock) → In b bs → In b (sorted_blocks bs)
sorted_in b [] h = h
sorted_in b (c ∷ cs) (inl e) = insert_in b c (sorted_blocks cs) (inl e)
sorted_in b (c ∷ cs) (inr k) = insert_in b c (sorted_blocks cs) (inr (sorted_in b cs k))
