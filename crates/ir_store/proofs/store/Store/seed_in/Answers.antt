use Rattle.std.proofs.Common.{◌≡◌, ◌<◌, slice_set, ℕ, refl, sym, ap, ◌∙◌, subst, length, true, eqb, cond, Some, None, [], arith}
use Rattle.std.specs.Ordering.{nat_cmp}
use Rattle.std.specs.FinMap as finmap
use Rattle.ir_store_reads.specs.trees.Tree.{head}
use Rattle.ir_store_reads.specs.Stored.{none_gone}
use Rattle.ir_store_reads.specs.Rows.{row_at, held_in, gone_in}
use Rattle.ir_store_reads.specs.Index.{cells_of}
use Rattle.ir_store_reads.specs.Spells.{rendered_is}
use Rattle.ir_store.specs.Holds.{map_is}
use Rattle.ir_store_reads.specs.Grows.{parts_of, Wider, Grown}
use Rattle.ir_store.proofs.OneRow.{put_long, put_own, put_other}
use Rattle.ir_store.proofs.Growing.{key_put}
use Rattle.ir_store_reads.proofs.Marking.{grow_there}
use Rattle.ir_store.proofs.Seed.{nothing, emptied_operands, seed, seed_spells, seed_holds, seed_gone, seed_fits, seed_is}
use Rattle.ir_store.proofs.store.Store.seed_in.Goals as goal

pub write_root-requires-clause-inside : goal.write_root-requires-clause-inside
write_root-requires-clause-inside c =
    let q = parts_of c.grow_slot.new.slots c.grow_slot.new.sibs c.grow_slot.new.uses c.grow_slot.new.cells.items in
    let from : parts_of c.args.slots c.args.sibs c.args.uses c.args.cells.items ≡ nothing = λ i. record { slots = c.requires.slots i; sibs = c.requires.sibs i; homes = (c.requires.uses i).homes; cells = cells_of (c.requires.cells i) } in
    let wide : Wider nothing q = subst (λ z. Wider z q) from c.in-Ok.ensures.wider in
    let grown : Grown 0 q c.header.inside.id c.args.header.now c.in-Ok.grown.0 c.in-Ok.grown.1 = subst (λ z. Grown z q c.header.inside.id c.args.header.now c.in-Ok.grown.0 c.in-Ok.grown.1) (ap (λ z. length z.homes) from) c.in-Ok.ensures.grown in
    let ready = grown.ready (λ y. None) refl in
    ready.inside

pub invariant_of-result : goal.invariant_of-result
invariant_of-result c =
    let q = parts_of c.grow_slot.new.slots c.grow_slot.new.sibs c.grow_slot.new.uses c.grow_slot.new.cells.items in
    let from : parts_of c.args.slots c.args.sibs c.args.uses c.args.cells.items ≡ nothing = λ i. record { slots = c.requires.slots i; sibs = c.requires.sibs i; homes = (c.requires.uses i).homes; cells = cells_of (c.requires.cells i) } in
    let wide : Wider nothing q = subst (λ z. Wider z q) from c.in-Ok.ensures.wider in
    let grown : Grown 0 q c.header.inside.id c.args.header.now c.in-Ok.grown.0 c.in-Ok.grown.1 = subst (λ z. Grown z q c.header.inside.id c.args.header.now c.in-Ok.grown.0 c.in-Ok.grown.1) (ap (λ z. length z.homes) from) c.in-Ok.ensures.grown in
    let ready = grown.ready (λ y. None) refl in
    let x = c.header.inside.id in
    let k = c.in-Ok.grown.0 in
    let v = c.in-Ok.grown.1 in
    let keys = finmap.get c.write_root.new.keys in
    let ek : (y : ℕ) → keys y ≡ cond (eqb x y) (Some k) None = λ y. key_put c.args.keys c.write_root.new.keys x x k refl c.in-Ok-write_root.ensures.key y ∙ ap (cond (eqb x y) (Some k)) (ap (λ m. finmap.get m y) c.requires.keys ∙ finmap.get-empty nat_cmp y) in
    let slots' = c.write_root.new.slots in
    let er : slots' ≡ slice_set q.slots k (record v { live = true }) = c.in-Ok-write_root.ensures.row in
    let long' = put_long q.slots slots' k (record v { live = true }) er in
    let same : (y : ℕ) → (y ≡ k → ⊥) → row_at slots' y ≡ row_at q.slots y = put_other q.slots slots' k (record v { live = true }) er in
    let own : row_at slots' k ≡ record v { live = true } = put_own q.slots slots' k (record v { live = true }) er ready.inside in
    let id : x ≡ (head c.args.header.now).id = ap (λ z. (head z).id) c.header.view_is in
    let bare_head : v.head.operands ≡ [] = emptied_operands v x c.args.header.now grown.is c.requires.bare in
    ((seed q wide c.laws.ensures.few c.laws-2.ensures.few x c.args.header.now k v grown keys ek bare_head slots' long' same own, seed_spells q wide c.laws.ensures.few c.laws-2.ensures.few x c.args.header.now k v grown keys ek bare_head slots' long' same own), ((finmap.empty, seed_holds q wide c.laws.ensures.few c.laws-2.ensures.few x c.args.header.now k v grown keys ek bare_head slots' long' same own), ((finmap.insert finmap.empty x none_gone, seed_gone q wide c.laws.ensures.few c.laws-2.ensures.few x c.args.header.now k v grown keys ek bare_head slots' long' same own), tt)))

pub invariant_of-result-2 : goal.invariant_of-result-2
invariant_of-result-2 c =
    let q = parts_of c.grow_slot.new.slots c.grow_slot.new.sibs c.grow_slot.new.uses c.grow_slot.new.cells.items in
    let from : parts_of c.args.slots c.args.sibs c.args.uses c.args.cells.items ≡ nothing = λ i. record { slots = c.requires.slots i; sibs = c.requires.sibs i; homes = (c.requires.uses i).homes; cells = cells_of (c.requires.cells i) } in
    let wide : Wider nothing q = subst (λ z. Wider z q) from c.in-Ok.ensures.wider in
    let grown : Grown 0 q c.header.inside.id c.args.header.now c.in-Ok.grown.0 c.in-Ok.grown.1 = subst (λ z. Grown z q c.header.inside.id c.args.header.now c.in-Ok.grown.0 c.in-Ok.grown.1) (ap (λ z. length z.homes) from) c.in-Ok.ensures.grown in
    let ready = grown.ready (λ y. None) refl in
    let x = c.header.inside.id in
    let k = c.in-Ok.grown.0 in
    let v = c.in-Ok.grown.1 in
    let keys = finmap.get c.write_root.new.keys in
    let ek : (y : ℕ) → keys y ≡ cond (eqb x y) (Some k) None = λ y. key_put c.args.keys c.write_root.new.keys x x k refl c.in-Ok-write_root.ensures.key y ∙ ap (cond (eqb x y) (Some k)) (ap (λ m. finmap.get m y) c.requires.keys ∙ finmap.get-empty nat_cmp y) in
    let slots' = c.write_root.new.slots in
    let er : slots' ≡ slice_set q.slots k (record v { live = true }) = c.in-Ok-write_root.ensures.row in
    let long' = put_long q.slots slots' k (record v { live = true }) er in
    let same : (y : ℕ) → (y ≡ k → ⊥) → row_at slots' y ≡ row_at q.slots y = put_other q.slots slots' k (record v { live = true }) er in
    let own : row_at slots' k ≡ record v { live = true } = put_own q.slots slots' k (record v { live = true }) er ready.inside in
    let id : x ≡ (head c.args.header.now).id = ap (λ z. (head z).id) c.header.view_is in
    let bare_head : v.head.operands ≡ [] = emptied_operands v x c.args.header.now grown.is c.requires.bare in
    let w = rendered_is slots' q.sibs.lists k c.result-1.given.0 (seed q wide c.laws.ensures.few c.laws-2.ensures.few x c.args.header.now k v grown keys ek bare_head slots' long' same own) (seed_spells q wide c.laws.ensures.few c.laws-2.ensures.few x c.args.header.now k v grown keys ek bare_head slots' long' same own) in
    seed_fits q wide c.laws.ensures.few c.laws-2.ensures.few x c.args.header.now k v grown keys ek bare_head slots' long' same own c.args.next (subst (λ z. z < c.args.next) (sym id) c.requires.below) c.result-1.given.0 w c.in-Ok-new_marks.marks.homes c.reach.new.marks.homes c.in-Ok-new_marks.ensures c.reach.ensures.nodes
    (grow_there k q.slots c.reach.new.marks.homes c.len.result ready.inside (omega (arith, c.len.ensures, long')) c.in-Ok-reach.ensures.there)

pub returns : goal.returns
returns c =
    let q = parts_of c.grow_slot.new.slots c.grow_slot.new.sibs c.grow_slot.new.uses c.grow_slot.new.cells.items in
    let from : parts_of c.args.slots c.args.sibs c.args.uses c.args.cells.items ≡ nothing = λ i. record { slots = c.requires.slots i; sibs = c.requires.sibs i; homes = (c.requires.uses i).homes; cells = cells_of (c.requires.cells i) } in
    let wide : Wider nothing q = subst (λ z. Wider z q) from c.in-Ok.ensures.wider in
    let grown : Grown 0 q c.header.inside.id c.args.header.now c.in-Ok.grown.0 c.in-Ok.grown.1 = subst (λ z. Grown z q c.header.inside.id c.args.header.now c.in-Ok.grown.0 c.in-Ok.grown.1) (ap (λ z. length z.homes) from) c.in-Ok.ensures.grown in
    let ready = grown.ready (λ y. None) refl in
    let x = c.header.inside.id in
    let k = c.in-Ok.grown.0 in
    let v = c.in-Ok.grown.1 in
    let keys = finmap.get c.write_root.new.keys in
    let ek : (y : ℕ) → keys y ≡ cond (eqb x y) (Some k) None = λ y. key_put c.args.keys c.write_root.new.keys x x k refl c.in-Ok-write_root.ensures.key y ∙ ap (cond (eqb x y) (Some k)) (ap (λ m. finmap.get m y) c.requires.keys ∙ finmap.get-empty nat_cmp y) in
    let slots' = c.write_root.new.slots in
    let er : slots' ≡ slice_set q.slots k (record v { live = true }) = c.in-Ok-write_root.ensures.row in
    let long' = put_long q.slots slots' k (record v { live = true }) er in
    let same : (y : ℕ) → (y ≡ k → ⊥) → row_at slots' y ≡ row_at q.slots y = put_other q.slots slots' k (record v { live = true }) er in
    let own : row_at slots' k ≡ record v { live = true } = put_own q.slots slots' k (record v { live = true }) er ready.inside in
    let id : x ≡ (head c.args.header.now).id = ap (λ z. (head z).id) c.header.view_is in
    let bare_head : v.head.operands ≡ [] = emptied_operands v x c.args.header.now grown.is c.requires.bare in
    let w = rendered_is slots' q.sibs.lists k c.result-1.given.0 (seed q wide c.laws.ensures.few c.laws-2.ensures.few x c.args.header.now k v grown keys ek bare_head slots' long' same own) (seed_spells q wide c.laws.ensures.few c.laws-2.ensures.few x c.args.header.now k v grown keys ek bare_head slots' long' same own) ∙ seed_is q wide c.laws.ensures.few c.laws-2.ensures.few x c.args.header.now k v grown keys ek bare_head slots' long' same own id in
    let h = map_is (λ y. held_in slots' (keys y)) c.result-1.given.1.0 finmap.empty (seed_holds q wide c.laws.ensures.few c.laws-2.ensures.few x c.args.header.now k v grown keys ek bare_head slots' long' same own) in
    let g = map_is (λ y. gone_in slots' (keys y)) c.result-1.given.1.1.0 (finmap.insert finmap.empty x none_gone) (seed_gone q wide c.laws.ensures.few c.laws-2.ensures.few x c.args.header.now k v grown keys ek bare_head slots' long' same own) ∙ ap (λ z. finmap.insert finmap.empty z none_gone) id in
    λ i. record { module_of = record { tree = w i; next = c.args.next }; held = h i; gone = g i }

pub write_root-requires-clause-few : goal.write_root-requires-clause-few
write_root-requires-clause-few c =
    let q = parts_of c.grow_slot.new.slots c.grow_slot.new.sibs c.grow_slot.new.uses c.grow_slot.new.cells.items in
    let from : parts_of c.args.slots c.args.sibs c.args.uses c.args.cells.items ≡ nothing = λ i. record { slots = c.requires.slots i; sibs = c.requires.sibs i; homes = (c.requires.uses i).homes; cells = cells_of (c.requires.cells i) } in
    let wide : Wider nothing q = subst (λ z. Wider z q) from c.in-Ok.ensures.wider in
    let grown : Grown 0 q c.header.inside.id c.args.header.now c.in-Ok.grown.0 c.in-Ok.grown.1 = subst (λ z. Grown z q c.header.inside.id c.args.header.now c.in-Ok.grown.0 c.in-Ok.grown.1) (ap (λ z. length z.homes) from) c.in-Ok.ensures.grown in
    let ready = grown.ready (λ y. None) refl in
    omega (arith, ready.inside, wide.even.long, c.laws.ensures.few)
