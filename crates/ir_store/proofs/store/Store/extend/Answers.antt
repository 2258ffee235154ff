use Rattle.std.proofs.Common.{◌≡◌, slice_set, ℕ, subst, refl, sym, ap, ◌∙◌, length, eqb, cond, Some, arith}
use Rattle.std.specs.FinMap as finmap
use Rattle.std.proofs.lemmas.Bool.{eq-eqb, ne_eqb, cond-true, cond-false}
use Rattle.ir_store_reads.specs.Rows.{row_at}
use Rattle.ir_store_reads.specs.Stored.{known}
use Rattle.ir_store_reads.specs.Emptied.{after_grow}
use Rattle.ir_store_reads.specs.Grows.{parts_of, Wider}
use Rattle.ir_store.proofs.Called.{keys_in}
use Rattle.ir_store.proofs.OneRow.{put_long, put_own, put_other}
use Rattle.ir_store.proofs.Growing.{parts, key_put, key_back, no_key, grow_can_mark, grow_apart, wide_given, wide_fits, wide_done, grow_given, grow_fits, grow_done}
use Rattle.ir_store_reads.proofs.Marking.{reach_none, grow_there}
use Rattle.ir_store.proofs.store.Store.extend.Goals as goal

pub insert-requires : goal.insert-requires
insert-requires c =
    let none = no_key c.self.inside c.self.invariant c.args.op (ap (known c.args.op) c.self.view_is ∙ c.requires) in
    let ready = c.in-Ok.ensures.grown.ready (keys_in c.self.inside) none in
    omega (arith, ready.inside, c.in-Ok.ensures.wider.even.long, c.laws-2.ensures.few)

pub invariant_of-self-inside : goal.invariant_of-self-inside
invariant_of-self-inside c =
    let q = parts_of c.grow_slot-grown.new.slots c.grow_slot-grown.new.sibs c.grow_slot-grown.new.uses c.grow_slot-grown.new.cells.items in
    wide_given c.self.inside c.self.invariant q c.in-Err.ensures.wider c.laws-2.ensures.few c.laws-3.ensures.few (keys_in c.self.inside) (λ y. refl)

pub invariant_of-self : goal.invariant_of-self
invariant_of-self c =
    let q = parts_of c.grow_slot-grown.new.slots c.grow_slot-grown.new.sibs c.grow_slot-grown.new.uses c.grow_slot-grown.new.cells.items in
    wide_fits c.self.inside c.self.invariant q c.in-Err.ensures.wider c.laws-2.ensures.few c.laws-3.ensures.few (keys_in c.self.inside) (λ y. refl) c.in-Err.self-1-own.given.0 c.self.inside.marks.homes (reach_none c.self.inside.marks.homes)

pub returns-in-Err-clause-err : goal.returns-in-Err-clause-err
returns-in-Err-clause-err c =
    let q = parts_of c.grow_slot-grown.new.slots c.grow_slot-grown.new.sibs c.grow_slot-grown.new.uses c.grow_slot-grown.new.cells.items in
    wide_done c.self.inside c.self.invariant q c.in-Err.ensures.wider c.laws-2.ensures.few c.laws-3.ensures.few (keys_in c.self.inside) (λ y. refl) c.in-Err.self-1-own.given.0 c.in-Err.self-1-own.given.1.0 c.in-Err.self-1-own.given.1.1.0 ∙ c.self.view_is

pub invariant_of-self-inside-in-Err-reach : goal.invariant_of-self-inside-in-Err-reach
invariant_of-self-inside-in-Err-reach c =
    let q = parts_of c.grow_slot-grown.new.slots c.grow_slot-grown.new.sibs c.grow_slot-grown.new.uses c.grow_slot-grown.new.cells.items in
    wide_given c.self.inside c.self.invariant q c.in-Ok.ensures.wider c.laws-2.ensures.few c.laws-3.ensures.few (keys_in c.self.inside) (λ y. refl)

pub invariant_of-self-in-Err-reach : goal.invariant_of-self-in-Err-reach
invariant_of-self-in-Err-reach c =
    let q = parts_of c.grow_slot-grown.new.slots c.grow_slot-grown.new.sibs c.grow_slot-grown.new.uses c.grow_slot-grown.new.cells.items in
    wide_fits c.self.inside c.self.invariant q c.in-Ok.ensures.wider c.laws-2.ensures.few c.laws-3.ensures.few (keys_in c.self.inside) (λ y. refl) c.in-Err-reach.self-in-Err-reach-1-own.given.0 c.reach.new.marks.homes c.reach.ensures.nodes

pub returns-in-Err-reach-clause-err : goal.returns-in-Err-reach-clause-err
returns-in-Err-reach-clause-err c =
    let q = parts_of c.grow_slot-grown.new.slots c.grow_slot-grown.new.sibs c.grow_slot-grown.new.uses c.grow_slot-grown.new.cells.items in
    wide_done c.self.inside c.self.invariant q c.in-Ok.ensures.wider c.laws-2.ensures.few c.laws-3.ensures.few (keys_in c.self.inside) (λ y. refl) c.in-Err-reach.self-in-Err-reach-1-own.given.0 c.in-Err-reach.self-in-Err-reach-1-own.given.1.0 c.in-Err-reach.self-in-Err-reach-1-own.given.1.1.0 ∙ c.self.view_is

pub invariant_of-self-inside-in-Err-insert : goal.invariant_of-self-inside-in-Err-insert
invariant_of-self-inside-in-Err-insert c =
    let q = parts_of c.grow_slot-grown.new.slots c.grow_slot-grown.new.sibs c.grow_slot-grown.new.uses c.grow_slot-grown.new.cells.items in
    wide_given c.self.inside c.self.invariant q c.in-Ok.ensures.wider c.laws-2.ensures.few c.laws-3.ensures.few (finmap.get c.insert.new.self) (λ y. ap (λ m. finmap.get m y) c.in-Err-insert.ensures.refused)

pub invariant_of-self-in-Err-insert : goal.invariant_of-self-in-Err-insert
invariant_of-self-in-Err-insert c =
    let q = parts_of c.grow_slot-grown.new.slots c.grow_slot-grown.new.sibs c.grow_slot-grown.new.uses c.grow_slot-grown.new.cells.items in
    wide_fits c.self.inside c.self.invariant q c.in-Ok.ensures.wider c.laws-2.ensures.few c.laws-3.ensures.few (finmap.get c.insert.new.self) (λ y. ap (λ m. finmap.get m y) c.in-Err-insert.ensures.refused) c.in-Err-insert.self-in-Err-insert-1-own.given.0 c.reach.new.marks.homes c.reach.ensures.nodes

pub returns-in-Err-insert-clause-err : goal.returns-in-Err-insert-clause-err
returns-in-Err-insert-clause-err c =
    let q = parts_of c.grow_slot-grown.new.slots c.grow_slot-grown.new.sibs c.grow_slot-grown.new.uses c.grow_slot-grown.new.cells.items in
    wide_done c.self.inside c.self.invariant q c.in-Ok.ensures.wider c.laws-2.ensures.few c.laws-3.ensures.few (finmap.get c.insert.new.self) (λ y. ap (λ m. finmap.get m y) c.in-Err-insert.ensures.refused) c.in-Err-insert.self-in-Err-insert-1-own.given.0 c.in-Err-insert.self-in-Err-insert-1-own.given.1.0 c.in-Err-insert.self-in-Err-insert-1-own.given.1.1.0 ∙ c.self.view_is

pub write_op-requires : goal.write_op-requires
write_op-requires c =
    let none = no_key c.self.inside c.self.invariant c.args.op (ap (known c.args.op) c.self.view_is ∙ c.requires) in
    (c.in-Ok.ensures.grown.ready (keys_in c.self.inside) none).inside

pub invariant_of-self-inside-in-Err-write_op : goal.invariant_of-self-inside-in-Err-write_op
invariant_of-self-inside-in-Err-write_op c =
    let a = c.self.inside in
    let q = parts_of c.grow_slot-grown.new.slots c.grow_slot-grown.new.sibs c.grow_slot-grown.new.uses c.grow_slot-grown.new.cells.items in
    let none = no_key a c.self.invariant c.args.op (ap (known c.args.op) c.self.view_is ∙ c.requires) in
    let back = key_back a.keys c.insert.new.self c.remove.new.self c.args.op c.number.result c.number-in-Err-write_op.result c.in-Ok.grown.0 c.number.ensures c.number-in-Err-write_op.ensures c.in-Ok-insert.ensures.inserted c.remove.ensures none in
    let q2 = record q { slots = c.write_op.new.self } in
    let wide2 : Wider (parts a) q2 = subst (λ z. Wider (parts a) (record q { slots = z })) (sym c.in-Err-write_op.ensures.err) c.in-Ok.ensures.wider in
    wide_given a c.self.invariant q2 wide2 c.laws-2.ensures.few c.laws-3.ensures.few (finmap.get c.remove.new.self) back

pub invariant_of-self-in-Err-write_op : goal.invariant_of-self-in-Err-write_op
invariant_of-self-in-Err-write_op c =
    let a = c.self.inside in
    let q = parts_of c.grow_slot-grown.new.slots c.grow_slot-grown.new.sibs c.grow_slot-grown.new.uses c.grow_slot-grown.new.cells.items in
    let none = no_key a c.self.invariant c.args.op (ap (known c.args.op) c.self.view_is ∙ c.requires) in
    let back = key_back a.keys c.insert.new.self c.remove.new.self c.args.op c.number.result c.number-in-Err-write_op.result c.in-Ok.grown.0 c.number.ensures c.number-in-Err-write_op.ensures c.in-Ok-insert.ensures.inserted c.remove.ensures none in
    let q2 = record q { slots = c.write_op.new.self } in
    let wide2 : Wider (parts a) q2 = subst (λ z. Wider (parts a) (record q { slots = z })) (sym c.in-Err-write_op.ensures.err) c.in-Ok.ensures.wider in
    wide_fits a c.self.invariant q2 wide2 c.laws-2.ensures.few c.laws-3.ensures.few (finmap.get c.remove.new.self) back c.self-in-Err-write_op-1.given.0 c.reach.new.marks.homes c.reach.ensures.nodes

pub returns-in-Err-write_op-clause-err : goal.returns-in-Err-write_op-clause-err
returns-in-Err-write_op-clause-err c =
    let a = c.self.inside in
    let q = parts_of c.grow_slot-grown.new.slots c.grow_slot-grown.new.sibs c.grow_slot-grown.new.uses c.grow_slot-grown.new.cells.items in
    let none = no_key a c.self.invariant c.args.op (ap (known c.args.op) c.self.view_is ∙ c.requires) in
    let back = key_back a.keys c.insert.new.self c.remove.new.self c.args.op c.number.result c.number-in-Err-write_op.result c.in-Ok.grown.0 c.number.ensures c.number-in-Err-write_op.ensures c.in-Ok-insert.ensures.inserted c.remove.ensures none in
    let q2 = record q { slots = c.write_op.new.self } in
    let wide2 : Wider (parts a) q2 = subst (λ z. Wider (parts a) (record q { slots = z })) (sym c.in-Err-write_op.ensures.err) c.in-Ok.ensures.wider in
    wide_done a c.self.invariant q2 wide2 c.laws-2.ensures.few c.laws-3.ensures.few (finmap.get c.remove.new.self) back c.self-in-Err-write_op-1.given.0 c.self-in-Err-write_op-1.given.1.0 c.self-in-Err-write_op-1.given.1.1.0 ∙ c.self.view_is

pub link_slot-requires : goal.link_slot-requires
link_slot-requires c =
    let q = parts_of c.grow_slot-grown.new.slots c.grow_slot-grown.new.sibs c.grow_slot-grown.new.uses c.grow_slot-grown.new.cells.items in
    let none = no_key c.self.inside c.self.invariant c.args.op (ap (known c.args.op) c.self.view_is ∙ c.requires) in
    let ready = c.in-Ok.ensures.grown.ready (keys_in c.self.inside) none in
    grow_can_mark c.self.inside c.self.invariant q c.in-Ok.ensures.wider c.laws-2.ensures.few c.laws-3.ensures.few c.reach.new.marks.homes c.reach.ensures.nodes c.in-Ok.grown.0
    (grow_there c.in-Ok.grown.0 q.slots c.reach.new.marks.homes c.len.result ready.inside (omega (arith, c.len.ensures)) c.in-Ok-reach.ensures.there)

pub invariant_of-self-inside-2 : goal.invariant_of-self-inside-2
invariant_of-self-inside-2 c =
    let q = parts_of c.grow_slot-grown.new.slots c.grow_slot-grown.new.sibs c.grow_slot-grown.new.uses c.grow_slot-grown.new.cells.items in
    let none = no_key c.self.inside c.self.invariant c.args.op (ap (known c.args.op) c.self.view_is ∙ c.requires) in
    let ready = c.in-Ok.ensures.grown.ready (keys_in c.self.inside) none in
    let look : (y : ℕ) → finmap.get c.insert.new.self y ≡ cond (eqb c.args.op y) (Some c.in-Ok.grown.0) (keys_in c.self.inside y) = key_put c.self.inside.keys c.insert.new.self c.args.op c.number.result c.in-Ok.grown.0 c.number.ensures c.in-Ok-insert.ensures.inserted in
    let here = look c.args.op ∙ cond-true (eqb c.args.op c.args.op) (Some c.in-Ok.grown.0) (keys_in c.self.inside c.args.op) (eq-eqb c.args.op c.args.op refl) in
    let others : (y : ℕ) → (y ≡ c.args.op → ⊥) → finmap.get c.insert.new.self y ≡ keys_in c.self.inside y = λ y ne. look y ∙ cond-false (eqb c.args.op y) (Some c.in-Ok.grown.0) (keys_in c.self.inside y) (ne_eqb c.args.op y (λ e. ne (sym e))) in
    let slots' = c.write_op.new.self in
    let er : slots' ≡ slice_set q.slots c.in-Ok.grown.0 c.in-Ok.grown.1 = c.in-Ok-write_op.ensures.ok in
    let long' = put_long q.slots slots' c.in-Ok.grown.0 c.in-Ok.grown.1 er in
    let same : (y : ℕ) → (y ≡ c.in-Ok.grown.0 → ⊥) → row_at slots' y ≡ row_at q.slots y = put_other q.slots slots' c.in-Ok.grown.0 c.in-Ok.grown.1 er in
    let own = put_own q.slots slots' c.in-Ok.grown.0 c.in-Ok.grown.1 er ready.inside in
    grow_given c.self.inside c.self.invariant q c.in-Ok.ensures.wider c.laws-2.ensures.few c.laws-3.ensures.few c.args.op c.args.header.now c.in-Ok.grown.0 c.in-Ok.grown.1 none (length c.self.inside.uses.homes) c.in-Ok.ensures.grown (grow_apart c.self.inside c.self.invariant q c.in-Ok.ensures.wider c.laws-2.ensures.few c.laws-3.ensures.few c.in-Ok.grown.0 c.in-Ok.grown.1) (finmap.get c.insert.new.self) here others slots' long' same own

pub invariant_of-self-2 : goal.invariant_of-self-2
invariant_of-self-2 c =
    let q = parts_of c.grow_slot-grown.new.slots c.grow_slot-grown.new.sibs c.grow_slot-grown.new.uses c.grow_slot-grown.new.cells.items in
    let none = no_key c.self.inside c.self.invariant c.args.op (ap (known c.args.op) c.self.view_is ∙ c.requires) in
    let ready = c.in-Ok.ensures.grown.ready (keys_in c.self.inside) none in
    let look : (y : ℕ) → finmap.get c.insert.new.self y ≡ cond (eqb c.args.op y) (Some c.in-Ok.grown.0) (keys_in c.self.inside y) = key_put c.self.inside.keys c.insert.new.self c.args.op c.number.result c.in-Ok.grown.0 c.number.ensures c.in-Ok-insert.ensures.inserted in
    let here = look c.args.op ∙ cond-true (eqb c.args.op c.args.op) (Some c.in-Ok.grown.0) (keys_in c.self.inside c.args.op) (eq-eqb c.args.op c.args.op refl) in
    let others : (y : ℕ) → (y ≡ c.args.op → ⊥) → finmap.get c.insert.new.self y ≡ keys_in c.self.inside y = λ y ne. look y ∙ cond-false (eqb c.args.op y) (Some c.in-Ok.grown.0) (keys_in c.self.inside y) (ne_eqb c.args.op y (λ e. ne (sym e))) in
    let slots' = c.write_op.new.self in
    let er : slots' ≡ slice_set q.slots c.in-Ok.grown.0 c.in-Ok.grown.1 = c.in-Ok-write_op.ensures.ok in
    let long' = put_long q.slots slots' c.in-Ok.grown.0 c.in-Ok.grown.1 er in
    let same : (y : ℕ) → (y ≡ c.in-Ok.grown.0 → ⊥) → row_at slots' y ≡ row_at q.slots y = put_other q.slots slots' c.in-Ok.grown.0 c.in-Ok.grown.1 er in
    let own = put_own q.slots slots' c.in-Ok.grown.0 c.in-Ok.grown.1 er ready.inside in
    grow_fits c.self.inside c.self.invariant q c.in-Ok.ensures.wider c.laws-2.ensures.few c.laws-3.ensures.few c.args.op c.args.header.now c.in-Ok.grown.0 c.in-Ok.grown.1 none (length c.self.inside.uses.homes) c.in-Ok.ensures.grown (grow_apart c.self.inside c.self.invariant q c.in-Ok.ensures.wider c.laws-2.ensures.few c.laws-3.ensures.few c.in-Ok.grown.0 c.in-Ok.grown.1) (finmap.get c.insert.new.self) here others slots' long' same own c.self-2-1.given.0 c.reach.new.marks.homes c.link_slot.new.marks.homes c.reach.ensures.nodes (grow_there c.in-Ok.grown.0 q.slots c.reach.new.marks.homes c.len.result ready.inside (omega (arith, c.len.ensures)) c.in-Ok-reach.ensures.there) c.link_slot.ensures

pub returns-clause-ok : goal.returns-clause-ok
returns-clause-ok c =
    let q = parts_of c.grow_slot-grown.new.slots c.grow_slot-grown.new.sibs c.grow_slot-grown.new.uses c.grow_slot-grown.new.cells.items in
    let none = no_key c.self.inside c.self.invariant c.args.op (ap (known c.args.op) c.self.view_is ∙ c.requires) in
    let ready = c.in-Ok.ensures.grown.ready (keys_in c.self.inside) none in
    let look : (y : ℕ) → finmap.get c.insert.new.self y ≡ cond (eqb c.args.op y) (Some c.in-Ok.grown.0) (keys_in c.self.inside y) = key_put c.self.inside.keys c.insert.new.self c.args.op c.number.result c.in-Ok.grown.0 c.number.ensures c.in-Ok-insert.ensures.inserted in
    let here = look c.args.op ∙ cond-true (eqb c.args.op c.args.op) (Some c.in-Ok.grown.0) (keys_in c.self.inside c.args.op) (eq-eqb c.args.op c.args.op refl) in
    let others : (y : ℕ) → (y ≡ c.args.op → ⊥) → finmap.get c.insert.new.self y ≡ keys_in c.self.inside y = λ y ne. look y ∙ cond-false (eqb c.args.op y) (Some c.in-Ok.grown.0) (keys_in c.self.inside y) (ne_eqb c.args.op y (λ e. ne (sym e))) in
    let slots' = c.write_op.new.self in
    let er : slots' ≡ slice_set q.slots c.in-Ok.grown.0 c.in-Ok.grown.1 = c.in-Ok-write_op.ensures.ok in
    let long' = put_long q.slots slots' c.in-Ok.grown.0 c.in-Ok.grown.1 er in
    let same : (y : ℕ) → (y ≡ c.in-Ok.grown.0 → ⊥) → row_at slots' y ≡ row_at q.slots y = put_other q.slots slots' c.in-Ok.grown.0 c.in-Ok.grown.1 er in
    let own = put_own q.slots slots' c.in-Ok.grown.0 c.in-Ok.grown.1 er ready.inside in
    grow_done c.self.inside c.self.invariant q c.in-Ok.ensures.wider c.laws-2.ensures.few c.laws-3.ensures.few c.args.op c.args.header.now c.in-Ok.grown.0 c.in-Ok.grown.1 none (length c.self.inside.uses.homes) c.in-Ok.ensures.grown (grow_apart c.self.inside c.self.invariant q c.in-Ok.ensures.wider c.laws-2.ensures.few c.laws-3.ensures.few c.in-Ok.grown.0 c.in-Ok.grown.1) (finmap.get c.insert.new.self) here others slots' long' same own c.self-2-1.given.0 c.self-2-1.given.1.0 c.self-2-1.given.1.1.0
    ∙ ap (after_grow c.args.op c.args.header.now) c.self.view_is
