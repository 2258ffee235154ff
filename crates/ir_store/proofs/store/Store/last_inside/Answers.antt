use Rattle.std.proofs.Common.{sym, ◌∙◌, ap, ◌≡◌, subst, [], ◌∷◌}
use Rattle.std.specs.Prelude.{is_some}
use Rattle.std.proofs.lemmas.Bool.{false≢true}
use Rattle.ir_store_reads.specs.trees.Ids.{has_id, find}
use Rattle.ir_store_reads.specs.Rows.{row_at}
use Rattle.ir_store_reads.proofs.SlotLaws.{in_tree_is, found}
use Rattle.ir_store.specs.Ends.{IsLastIn, ids_in}
use Rattle.ir_store.proofs.Taking.{heads_of}
use Rattle.ir_store.proofs.Called.{rows_in, keys_in}
use Rattle.ir_store.proofs.Ends.{alone, last_stands}
use Rattle.ir_store.proofs.store.Store.last_inside.Goals as goal

pub returns-in_default : goal.returns-in_default
returns-in_default c =
    let a = c.self.inside in
    absurd (false≢true (ap is_some c.in_default.ensures ∙ in_tree_is (rows_in a) (keys_in a) a.sibs a.root a.represented.0 c.self.invariant.right a.represented.1 c.args.op ∙ ap (λ s. has_id c.args.op s.module_of.tree) c.self.view_is ∙ c.requires))

pub last_slot-requires : goal.last_slot-requires
last_slot-requires c =
    let a = c.self.inside in
    heads_of (rows_in a) (keys_in a) a.sibs a.root a.represented.0 c.self.invariant.right c.in-Some.key (found (rows_in a) (keys_in a) a.sibs a.root a.represented.0 c.self.invariant.right a.represented.1 c.args.op c.in-Some.key (sym c.in-Some.ensures)).live

pub returns-in_default-last_slot : goal.returns-in_default-last_slot
returns-in_default-last_slot c = subst (λ s. ids_in (find c.args.op s.module_of.tree) ≡ c.args.op ∷ []) c.self.view_is (alone c.self.inside c.self.invariant c.args.op c.in-Some.key c.in-Some.ensures c.in_default-last_slot.ensures)

pub returns : goal.returns
returns c =
    let a = c.self.inside in
    let y = (row_at (rows_in a) c.in-Some-last_slot.last).head.id in
    subst (λ y. IsLastIn c.args.op y c.args.self.now.module_of.tree) (sym c.id_at.ensures)
    (subst (λ s. IsLastIn c.args.op y s.module_of.tree) c.self.view_is (last_stands a c.self.invariant c.args.op c.in-Some.key c.in-Some.ensures c.in-Some-last_slot.last c.in-Some-last_slot.ensures))
