use Rattle.std.proofs.Common.{◌≡◌, slice_set, ℕ, subst, refl, sym, ap, ◌∙◌, length, eqb, cond, Some, arith}
use Rattle.std.specs.FinMap as finmap
use Rattle.std.proofs.lemmas.Bool.{eq-eqb, ne_eqb, cond-true, cond-false}
use Rattle.ir_store_reads.specs.Rows.{row_at}
use Rattle.ir_store_reads.specs.Stored.{known}
use Rattle.ir_store_reads.specs.Emptied.{after_grow}
use Rattle.ir_store_reads.specs.Grows.{Wider, Grown}
use Rattle.ir_store_reads.proofs.Fitting.{some_reported}
use Rattle.ir_store.proofs.Called.{keys_in, same_inside}
use Rattle.ir_store.proofs.OneRow.{put_long, put_own, put_other}
use Rattle.ir_store_reads.proofs.Marking.{grow_there}
use Rattle.ir_store_reads.proofs.Wide.{wide_same}
use Rattle.ir_store.proofs.Growing.{parts, is_even, key_put, key_back, no_key, grow_can_mark, spare_apart, wide_given, wide_fits, wide_done, grow_given, grow_fits, grow_done}
use Rattle.ir_store.proofs.store.Store.refill.Goals as goal

pub same-self : goal.same-self
same-self c = same_inside c.self.inside c.self-1.given.0 c.self-1.given.1.0 c.self-1.given.1.1.0

pub same-self-in-Err : goal.same-self-in-Err
same-self-in-Err c = same_inside c.self.inside c.in-Err.self-in-Err-1-own.given.0 c.in-Err.self-in-Err-1-own.given.1.0 c.in-Err.self-in-Err-1-own.given.1.1.0

pub invariant_of-self : goal.invariant_of-self
invariant_of-self c =
    let a = c.self.inside in
    let w = c.self.invariant in
    let q = parts a in
    let wide = wide_same q (is_even a w c.laws.ensures) in
    wide_fits a w q wide c.laws.ensures.few c.laws-2.ensures.few (keys_in a) (λ y. refl) c.in-Err-reach.self-in-Err-reach-1-own.given.0 c.reach.new.marks.homes c.reach.ensures.nodes

pub returns-in-Err-reach-clause-err : goal.returns-in-Err-reach-clause-err
returns-in-Err-reach-clause-err c =
    let a = c.self.inside in
    let w = c.self.invariant in
    let q = parts a in
    let wide = wide_same q (is_even a w c.laws.ensures) in
    wide_done a w q wide c.laws.ensures.few c.laws-2.ensures.few (keys_in a) (λ y. refl) c.in-Err-reach.self-in-Err-reach-1-own.given.0 c.in-Err-reach.self-in-Err-reach-1-own.given.1.0 c.in-Err-reach.self-in-Err-reach-1-own.given.1.1.0 ∙ c.self.view_is

pub insert-requires : goal.insert-requires
insert-requires c =
    let a = c.self.inside in
    let w = c.self.invariant in
    let q = parts a in
    let wide = wide_same q (is_even a w c.laws.ensures) in
    let none = no_key a w c.args.op (ap (known c.args.op) c.self.view_is ∙ c.requires) in
    let k = c.in-Ok-Some.found.slot in
    let v = c.in-Ok-Some.found.draft in
    let grown = some_reported (λ p. Grown 0 q c.args.op c.args.header.now p.slot p.draft) c.in-Ok-Some.field-0 c.in-Ok-Some.found c.in-Ok-Some.field-0-is c.in-Ok-Some.ensures in
    let ready = grown.ready (keys_in a) none in
    omega (arith, ready.inside, wide.even.long, c.laws.ensures.few)

pub invariant_of-self-inside-in-Err-insert : goal.invariant_of-self-inside-in-Err-insert
invariant_of-self-inside-in-Err-insert c =
    let a = c.self.inside in
    let w = c.self.invariant in
    let q = parts a in
    let wide = wide_same q (is_even a w c.laws.ensures) in
    wide_given a w q wide c.laws.ensures.few c.laws-2.ensures.few (finmap.get c.insert.new.self) (λ y. ap (λ m. finmap.get m y) c.in-Err-insert.ensures.refused)

pub invariant_of-self-in-Err-insert : goal.invariant_of-self-in-Err-insert
invariant_of-self-in-Err-insert c =
    let a = c.self.inside in
    let w = c.self.invariant in
    let q = parts a in
    let wide = wide_same q (is_even a w c.laws.ensures) in
    wide_fits a w q wide c.laws.ensures.few c.laws-2.ensures.few (finmap.get c.insert.new.self) (λ y. ap (λ m. finmap.get m y) c.in-Err-insert.ensures.refused) c.in-Err-insert.self-in-Err-insert-1-own.given.0 c.reach.new.marks.homes c.reach.ensures.nodes

pub returns-in-Err-insert-clause-err : goal.returns-in-Err-insert-clause-err
returns-in-Err-insert-clause-err c =
    let a = c.self.inside in
    let w = c.self.invariant in
    let q = parts a in
    let wide = wide_same q (is_even a w c.laws.ensures) in
    wide_done a w q wide c.laws.ensures.few c.laws-2.ensures.few (finmap.get c.insert.new.self) (λ y. ap (λ m. finmap.get m y) c.in-Err-insert.ensures.refused) c.in-Err-insert.self-in-Err-insert-1-own.given.0 c.in-Err-insert.self-in-Err-insert-1-own.given.1.0 c.in-Err-insert.self-in-Err-insert-1-own.given.1.1.0 ∙ c.self.view_is

pub write_op-requires : goal.write_op-requires
write_op-requires c =
    let a = c.self.inside in
    let w = c.self.invariant in
    let q = parts a in
    let wide = wide_same q (is_even a w c.laws.ensures) in
    let none = no_key a w c.args.op (ap (known c.args.op) c.self.view_is ∙ c.requires) in
    let k = c.in-Ok-Some.found.slot in
    let v = c.in-Ok-Some.found.draft in
    let grown = some_reported (λ p. Grown 0 q c.args.op c.args.header.now p.slot p.draft) c.in-Ok-Some.field-0 c.in-Ok-Some.found c.in-Ok-Some.field-0-is c.in-Ok-Some.ensures in
    let ready = grown.ready (keys_in a) none in
    ready.inside

pub invariant_of-self-inside-in-Err-write_op : goal.invariant_of-self-inside-in-Err-write_op
invariant_of-self-inside-in-Err-write_op c =
    let a = c.self.inside in
    let w = c.self.invariant in
    let q = parts a in
    let wide = wide_same q (is_even a w c.laws.ensures) in
    let none = no_key a w c.args.op (ap (known c.args.op) c.self.view_is ∙ c.requires) in
    let k = c.in-Ok-Some.found.slot in
    let v = c.in-Ok-Some.found.draft in
    let grown = some_reported (λ p. Grown 0 q c.args.op c.args.header.now p.slot p.draft) c.in-Ok-Some.field-0 c.in-Ok-Some.found c.in-Ok-Some.field-0-is c.in-Ok-Some.ensures in
    let ready = grown.ready (keys_in a) none in
    let back = key_back a.keys c.insert.new.self c.remove.new.self c.args.op c.number.result c.number-in-Err-write_op.result k c.number.ensures c.number-in-Err-write_op.ensures c.in-Ok-insert.ensures.inserted c.remove.ensures none in
    let q2 = record q { slots = c.write_op.new.self } in
    let wide2 : Wider q q2 = subst (λ z. Wider q (record q { slots = z })) (sym c.in-Err-write_op.ensures.err) wide in
    wide_given a w q2 wide2 c.laws.ensures.few c.laws-2.ensures.few (finmap.get c.remove.new.self) back

pub invariant_of-self-in-Err-write_op : goal.invariant_of-self-in-Err-write_op
invariant_of-self-in-Err-write_op c =
    let a = c.self.inside in
    let w = c.self.invariant in
    let q = parts a in
    let wide = wide_same q (is_even a w c.laws.ensures) in
    let none = no_key a w c.args.op (ap (known c.args.op) c.self.view_is ∙ c.requires) in
    let k = c.in-Ok-Some.found.slot in
    let v = c.in-Ok-Some.found.draft in
    let grown = some_reported (λ p. Grown 0 q c.args.op c.args.header.now p.slot p.draft) c.in-Ok-Some.field-0 c.in-Ok-Some.found c.in-Ok-Some.field-0-is c.in-Ok-Some.ensures in
    let ready = grown.ready (keys_in a) none in
    let back = key_back a.keys c.insert.new.self c.remove.new.self c.args.op c.number.result c.number-in-Err-write_op.result k c.number.ensures c.number-in-Err-write_op.ensures c.in-Ok-insert.ensures.inserted c.remove.ensures none in
    let q2 = record q { slots = c.write_op.new.self } in
    let wide2 : Wider q q2 = subst (λ z. Wider q (record q { slots = z })) (sym c.in-Err-write_op.ensures.err) wide in
    wide_fits a w q2 wide2 c.laws.ensures.few c.laws-2.ensures.few (finmap.get c.remove.new.self) back c.self-in-Err-write_op-1.given.0 c.reach.new.marks.homes c.reach.ensures.nodes

pub returns-in-Err-write_op-clause-err : goal.returns-in-Err-write_op-clause-err
returns-in-Err-write_op-clause-err c =
    let a = c.self.inside in
    let w = c.self.invariant in
    let q = parts a in
    let wide = wide_same q (is_even a w c.laws.ensures) in
    let none = no_key a w c.args.op (ap (known c.args.op) c.self.view_is ∙ c.requires) in
    let k = c.in-Ok-Some.found.slot in
    let v = c.in-Ok-Some.found.draft in
    let grown = some_reported (λ p. Grown 0 q c.args.op c.args.header.now p.slot p.draft) c.in-Ok-Some.field-0 c.in-Ok-Some.found c.in-Ok-Some.field-0-is c.in-Ok-Some.ensures in
    let ready = grown.ready (keys_in a) none in
    let back = key_back a.keys c.insert.new.self c.remove.new.self c.args.op c.number.result c.number-in-Err-write_op.result k c.number.ensures c.number-in-Err-write_op.ensures c.in-Ok-insert.ensures.inserted c.remove.ensures none in
    let q2 = record q { slots = c.write_op.new.self } in
    let wide2 : Wider q q2 = subst (λ z. Wider q (record q { slots = z })) (sym c.in-Err-write_op.ensures.err) wide in
    wide_done a w q2 wide2 c.laws.ensures.few c.laws-2.ensures.few (finmap.get c.remove.new.self) back c.self-in-Err-write_op-1.given.0 c.self-in-Err-write_op-1.given.1.0 c.self-in-Err-write_op-1.given.1.1.0 ∙ c.self.view_is

pub link_slot-requires : goal.link_slot-requires
link_slot-requires c =
    let a = c.self.inside in
    let w = c.self.invariant in
    let q = parts a in
    let wide = wide_same q (is_even a w c.laws.ensures) in
    let none = no_key a w c.args.op (ap (known c.args.op) c.self.view_is ∙ c.requires) in
    let k = c.in-Ok-Some.found.slot in
    let v = c.in-Ok-Some.found.draft in
    let grown = some_reported (λ p. Grown 0 q c.args.op c.args.header.now p.slot p.draft) c.in-Ok-Some.field-0 c.in-Ok-Some.found c.in-Ok-Some.field-0-is c.in-Ok-Some.ensures in
    let ready = grown.ready (keys_in a) none in
    let there = grow_there k q.slots c.reach.new.marks.homes c.len.result ready.inside (omega (arith, c.len.ensures)) c.in-Ok.ensures.there in
    grow_can_mark a w q wide c.laws.ensures.few c.laws-2.ensures.few c.reach.new.marks.homes c.reach.ensures.nodes k there

pub invariant_of-self-inside-2 : goal.invariant_of-self-inside-2
invariant_of-self-inside-2 c =
    let a = c.self.inside in
    let w = c.self.invariant in
    let q = parts a in
    let wide = wide_same q (is_even a w c.laws.ensures) in
    let none = no_key a w c.args.op (ap (known c.args.op) c.self.view_is ∙ c.requires) in
    let k = c.in-Ok-Some.found.slot in
    let v = c.in-Ok-Some.found.draft in
    let grown = some_reported (λ p. Grown 0 q c.args.op c.args.header.now p.slot p.draft) c.in-Ok-Some.field-0 c.in-Ok-Some.found c.in-Ok-Some.field-0-is c.in-Ok-Some.ensures in
    let ready = grown.ready (keys_in a) none in
    let look : (y : ℕ) → finmap.get c.insert.new.self y ≡ cond (eqb c.args.op y) (Some k) (keys_in a y) = key_put a.keys c.insert.new.self c.args.op c.number.result k c.number.ensures c.in-Ok-insert.ensures.inserted in
    let here = look c.args.op ∙ cond-true (eqb c.args.op c.args.op) (Some k) (keys_in a c.args.op) (eq-eqb c.args.op c.args.op refl) in
    let others : (y : ℕ) → (y ≡ c.args.op → ⊥) → finmap.get c.insert.new.self y ≡ keys_in a y = λ y ne. look y ∙ cond-false (eqb c.args.op y) (Some k) (keys_in a y) (ne_eqb c.args.op y (λ e. ne (sym e))) in
    let slots' = c.take_spare-self-inside.new.slots in
    let er : slots' ≡ slice_set q.slots k v = c.take_spare-self-inside.ensures ∙ c.in-Ok-write_op.ensures.ok in
    let long' = put_long q.slots slots' k v er in
    let same : (y : ℕ) → (y ≡ k → ⊥) → row_at slots' y ≡ row_at q.slots y = put_other q.slots slots' k v er in
    let own = put_own q.slots slots' k v er ready.inside in
    grow_given a w q wide c.laws.ensures.few c.laws-2.ensures.few c.args.op c.args.header.now k v none 0 grown (spare_apart a w q wide c.laws.ensures.few c.laws-2.ensures.few 0 k c.args.op v ready) (finmap.get c.insert.new.self) here others slots' long' same own

pub invariant_of-self-2 : goal.invariant_of-self-2
invariant_of-self-2 c =
    let a = c.self.inside in
    let w = c.self.invariant in
    let q = parts a in
    let wide = wide_same q (is_even a w c.laws.ensures) in
    let none = no_key a w c.args.op (ap (known c.args.op) c.self.view_is ∙ c.requires) in
    let k = c.in-Ok-Some.found.slot in
    let v = c.in-Ok-Some.found.draft in
    let grown = some_reported (λ p. Grown 0 q c.args.op c.args.header.now p.slot p.draft) c.in-Ok-Some.field-0 c.in-Ok-Some.found c.in-Ok-Some.field-0-is c.in-Ok-Some.ensures in
    let ready = grown.ready (keys_in a) none in
    let look : (y : ℕ) → finmap.get c.insert.new.self y ≡ cond (eqb c.args.op y) (Some k) (keys_in a y) = key_put a.keys c.insert.new.self c.args.op c.number.result k c.number.ensures c.in-Ok-insert.ensures.inserted in
    let here = look c.args.op ∙ cond-true (eqb c.args.op c.args.op) (Some k) (keys_in a c.args.op) (eq-eqb c.args.op c.args.op refl) in
    let others : (y : ℕ) → (y ≡ c.args.op → ⊥) → finmap.get c.insert.new.self y ≡ keys_in a y = λ y ne. look y ∙ cond-false (eqb c.args.op y) (Some k) (keys_in a y) (ne_eqb c.args.op y (λ e. ne (sym e))) in
    let slots' = c.take_spare-self-inside.new.slots in
    let er : slots' ≡ slice_set q.slots k v = c.take_spare-self-inside.ensures ∙ c.in-Ok-write_op.ensures.ok in
    let long' = put_long q.slots slots' k v er in
    let same : (y : ℕ) → (y ≡ k → ⊥) → row_at slots' y ≡ row_at q.slots y = put_other q.slots slots' k v er in
    let own = put_own q.slots slots' k v er ready.inside in
    let there = grow_there k q.slots c.reach.new.marks.homes c.len.result ready.inside (omega (arith, c.len.ensures)) c.in-Ok.ensures.there in
    grow_fits a w q wide c.laws.ensures.few c.laws-2.ensures.few c.args.op c.args.header.now k v none 0 grown (spare_apart a w q wide c.laws.ensures.few c.laws-2.ensures.few 0 k c.args.op v ready) (finmap.get c.insert.new.self) here others slots' long' same own c.self-2-1.given.0 c.reach.new.marks.homes c.link_slot.new.marks.homes c.reach.ensures.nodes there c.link_slot.ensures

pub returns-clause-ok : goal.returns-clause-ok
returns-clause-ok c =
    let a = c.self.inside in
    let w = c.self.invariant in
    let q = parts a in
    let wide = wide_same q (is_even a w c.laws.ensures) in
    let none = no_key a w c.args.op (ap (known c.args.op) c.self.view_is ∙ c.requires) in
    let k = c.in-Ok-Some.found.slot in
    let v = c.in-Ok-Some.found.draft in
    let grown = some_reported (λ p. Grown 0 q c.args.op c.args.header.now p.slot p.draft) c.in-Ok-Some.field-0 c.in-Ok-Some.found c.in-Ok-Some.field-0-is c.in-Ok-Some.ensures in
    let ready = grown.ready (keys_in a) none in
    let look : (y : ℕ) → finmap.get c.insert.new.self y ≡ cond (eqb c.args.op y) (Some k) (keys_in a y) = key_put a.keys c.insert.new.self c.args.op c.number.result k c.number.ensures c.in-Ok-insert.ensures.inserted in
    let here = look c.args.op ∙ cond-true (eqb c.args.op c.args.op) (Some k) (keys_in a c.args.op) (eq-eqb c.args.op c.args.op refl) in
    let others : (y : ℕ) → (y ≡ c.args.op → ⊥) → finmap.get c.insert.new.self y ≡ keys_in a y = λ y ne. look y ∙ cond-false (eqb c.args.op y) (Some k) (keys_in a y) (ne_eqb c.args.op y (λ e. ne (sym e))) in
    let slots' = c.take_spare-self-inside.new.slots in
    let er : slots' ≡ slice_set q.slots k v = c.take_spare-self-inside.ensures ∙ c.in-Ok-write_op.ensures.ok in
    let long' = put_long q.slots slots' k v er in
    let same : (y : ℕ) → (y ≡ k → ⊥) → row_at slots' y ≡ row_at q.slots y = put_other q.slots slots' k v er in
    let own = put_own q.slots slots' k v er ready.inside in
    grow_done a w q wide c.laws.ensures.few c.laws-2.ensures.few c.args.op c.args.header.now k v none 0 grown (spare_apart a w q wide c.laws.ensures.few c.laws-2.ensures.few 0 k c.args.op v ready) (finmap.get c.insert.new.self) here others slots' long' same own c.self-2-1.given.0 c.self-2-1.given.1.0 c.self-2-1.given.1.1.0
    ∙ ap (after_grow c.args.op c.args.header.now) c.self.view_is
