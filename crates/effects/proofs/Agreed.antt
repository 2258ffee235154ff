-- A table that was updated after an event agrees with the module after it.
use Rattle.std.proofs.Common.{◌≡◌, ℕ, Option, Some, None, refl, sym, ap, ◌∙◌, subst, eqb}
use Rattle.std.specs.Prelude.{option_map}
use Rattle.std.specs.List.{IsDistinct}
use Rattle.ir_event.specs.types.Things.{ContextModel}
use Rattle.ir_event.specs.types.Terms.{name_term, type_term, attr_term}
use Rattle.ir_event.specs.trees.Tree.{Op, op, head}
use Rattle.ir_event.specs.trees.Ids.{find, first_of, HasDistinctIds}
use Rattle.ir_event.specs.trees.Edits.{at, put_operand, change_part, change_entry}
use Rattle.ir_event.specs.trees.Meaning.{Operation, meaning, key_before}
use Rattle.ir_event.proofs.of_trees.Heads.{alike_operand, alike_entry}
use Rattle.ir_event.proofs.of_trees.Mapped.{map_find, map_ids}
use Rattle.ir_event.specs.declared.event.Event.{Event}
use Rattle.ir_event.specs.declared.event.Event.TheVariants.{Put, Take, SetOperand, SetEntry, Shift}
use Rattle.ir_event.specs.Modules.{Module, Node, module_in, node_of_op}
use Rattle.ir_event.specs.declared.world.World.{World}
use Rattle.ir_event.specs.store.Nodes.{node_of}
use Rattle.ir_event.specs.store.Nodes.{Node as Numbered}
use Rattle.std.specs.FinMap.{get}
use Rattle.ir_event.specs.Step.{Step}
use Rattle.ir_event.specs.types.Words.{is_table}
use Rattle.effects.specs.Points.{points, Rows}
use Rattle.op_registry.specs.Registry.{own_of}
use Rattle.effects.specs.Effects.{own_by}
use Rattle.effects.specs.Following.{Whole, PutIn, Followed, PutAll}
use Rattle.effects.proofs.Spotted.{mapped_points}
use Rattle.effects.proofs.Events.{put_follows, take_follows, shift_follows, head_points}
use Rattle.effects.proofs.Begins.{begun}

-- the view shows an operation of the module as the module has it
pub shown_there : (w : World) (x : ℕ) (o : Operation) → find x (module_in w).tree ≡ Some o → node_of_op w x ≡ Some (node_of o)
shown_there w x o is = go (find x w.store.module_of.tree) refl (sym (map_find (name_term w.ctx) (type_term w.ctx) (attr_term w.ctx) x w.store.module_of.tree) ∙ is)
  where
    go : (q : Option Op) → find x w.store.module_of.tree ≡ q → option_map (meaning w.ctx) q ≡ Some o → node_of_op w x ≡ Some (node_of o)
    go None e h = absurd cc
    go (Some p) e h =
        let one : meaning w.ctx p ≡ o = cc in
        ap (λ q. option_map (λ p. node_of (meaning w.ctx p)) (first_of q (get w.store.held x))) e ∙ ap (λ (z : Operation). Some (node_of z)) one

node_name : (o : Operation) → (node_of o).head.name ≡ (head o).name
node_name (op h rs) = refl

-- the own effects of a node
pub node_own : (c : ContextModel) (k : Option Op) → option_map (λ (n : Numbered). own_by c n.head.name) (option_map node_of k) ≡ option_map (λ (n : Node). own_of n.head.name) (option_map (λ o. node_of (meaning c o)) k)
node_own c None = refl
node_own c (Some (op h rs)) = refl

-- the view shows all operations of the module as the module has them
abbrev pub ShowsAll : (ℕ → Option Node) → Module → Type 0
ShowsAll shown n = (x : ℕ) (o : Operation) → find x n.tree ≡ Some o → shown x ≡ Some (node_of o)

pub followed_agrees : (c : ContextModel) (e : Event) (m n : Module) (shown : ℕ → Option Node) (a b : Rows) → Step c e m n → ShowsAll shown n → Followed shown e a b → Whole a (points own_of None m.tree) → Whole b (points own_of None n.tree)
followed_agrees c (Put x place fresh) m n shown a b s is f h =
    put_follows own_of x place fresh m n a b s.after.distinct s.changes (λ o there. subst (λ y. PutIn x (Some place.parent) (own_of y) a b) (node_name o) (f (node_of o) (is x o there))) h
followed_agrees c (Take x place fresh) m n shown a b s is f h = take_follows own_of x place fresh m n a b s.before.distinct s.changes f h
followed_agrees c (SetOperand x k old new) m n shown a b s is f h =
    let same : points own_of None n.tree ≡ points own_of None m.tree =
    ap (points own_of None) s.changes.after ∙ head_points own_of (at x (put_operand k new)) (λ h. (alike_operand x k new h).id) (λ h. (alike_operand x k new h).name) None m.tree in
    subst (Whole b) (sym same) (subst (λ (z : Rows). Whole z (points own_of None m.tree)) (sym (λ i y. f y i)) h)
followed_agrees c (SetEntry x part key old new) m n shown a b s is f h =
    let g = at x (change_part part (change_entry key_before (name_term c key) (option_map (attr_term c) new))) in
    let like = alike_entry key_before x part (name_term c key) (option_map (attr_term c) new) in
    let same : points own_of None n.tree ≡ points own_of None m.tree =
    ap (points own_of None) s.changes.after ∙ head_points own_of g (λ h. (like h).id) (λ h. (like h).name) None m.tree in
    subst (Whole b) (sym same) (subst (λ (z : Rows). Whole z (points own_of None m.tree)) (sym (λ i y. f y i)) h)
followed_agrees c (Shift x old new) m n shown a b s is f h = shift_follows own_of is_table x old new m n a b s.before.distinct s.after.distinct s.changes f h

-- a table built for a tree of numbers agrees with the tree of terms
pub begun_agrees : (c : ContextModel) (t : Op) (a b : Rows) → HasDistinctIds t → ((x : ℕ) → a x ≡ None) → PutAll (points (own_by c) None t) a b → Whole b (points own_of None (meaning c t))
begun_agrees c t a b d vacant p = subst (Whole b) (sym (mapped_points (name_term c) (type_term c) (attr_term c) own_of None t)) (begun (own_by c) t a b d vacant p)

pub meaning_distinct : (c : ContextModel) (t : Op) → HasDistinctIds t → HasDistinctIds (meaning c t)
meaning_distinct c t d = subst (IsDistinct eqb) (sym (map_ids (name_term c) (type_term c) (attr_term c) t)) d
