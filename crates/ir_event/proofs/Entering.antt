-- An IR state in which an entry of a dictionary is set.
use Rattle.std.proofs.Common.{◌≡◌, refl, ap, sym, ◌∙◌, subst, ℕ, Bool, false, Option, Some, None}
use Rattle.std.specs.Prelude.{Result, Ok, Err, IfOk, OnOk, OnErr, IfSome, MatchResult, option_map}
use Rattle.op_registry.specs.types.declared.refusal.Refusal.{Refusal}
use Rattle.op_registry.specs.types.declared.refusal.Refusal.TheVariants.{NoSuchOp}
use Rattle.op_registry.specs.types.Reasons.{IsRefusedFor}
use Rattle.op_registry.specs.types.Things.{ContextModel, IsName, IsAttr}
use Rattle.ir_store.specs.trees.declared.place.Part.{Part}
use Rattle.ir_store.specs.trees.declared.place.Part.TheVariants.{Props, Attrs}
use Rattle.ir_store.specs.trees.Tree.{Op, op, head}
use Rattle.ir_store.specs.trees.Ids.{find, has_id}
use Rattle.ir_store.specs.trees.Edits.{entry_at, part_of}
use Rattle.ir_store.specs.trees.Meaning.{IsSoundIn, isolated_in, key_before_in}
use Rattle.ir_store.specs.trees.WellFormed.{IsWellFormed}
use Rattle.ir_store.specs.tree_laws.Changes.{entry_in}
use Rattle.ir_store.specs.tree_laws.Reasons.{found_entry_reason, set_entry_reason}
use Rattle.ir_store.proofs.of_tree_laws.Around.{absent_find}
use Rattle.ir_store.specs.Nodes.{Node, node_of}
use Rattle.ir_store.specs.Stored.{Stored}
use Rattle.ir_store.specs.Calls.{after_entry}
use Rattle.ir_event.specs.declared.event.Event.{Event}
use Rattle.ir_event.specs.declared.event.Event.TheVariants.{SetEntry}
use Rattle.ir_event.specs.Facts.{HeldIsSound}
use Rattle.ir_event.specs.Modules.{module_meaning}
use Rattle.ir_event.specs.Step.{IsAttrOrNone, Step}
use Rattle.ir_event.proofs.Entered.{entry_steps}
use Rattle.ir_event.specs.Edits.{IsEntryEvent, IsEntryStep}

-- the entries of a dictionary, read from the node
pub no_entry : (before : ℕ → ℕ → Bool) (x : ℕ) (part : Part) (k : ℕ) (t : Op) → has_id x t ≡ false → entry_in before x part k t ≡ None
no_entry before x part k t absent = ap (option_map (λ (o : Op). entry_at before k (part_of part (head o)))) (absent_find x t absent)

pub props_entry : (before : ℕ → ℕ → Bool) (x k : ℕ) (t : Op) (n : Node) → option_map node_of (find x t) ≡ Some n → entry_in before x Props k t ≡ Some (entry_at before k n.head.properties)
props_entry before x k t n e = go (find x t) e
  where
    go : (o : Option Op) → option_map node_of o ≡ Some n → option_map (λ (o : Op). entry_at before k (part_of Props (head o))) o ≡ Some (entry_at before k n.head.properties)
    go None f = absurd cc
    go (Some (op h rs)) f = (let same : node_of (op h rs) ≡ n = cc in ap (λ (m : Node). Some (entry_at before k m.head.properties)) same)

pub attrs_entry : (before : ℕ → ℕ → Bool) (x k : ℕ) (t : Op) (n : Node) → option_map node_of (find x t) ≡ Some n → entry_in before x Attrs k t ≡ Some (entry_at before k n.head.attributes)
attrs_entry before x k t n e = go (find x t) e
  where
    go : (o : Option Op) → option_map node_of o ≡ Some n → option_map (λ (o : Op). entry_at before k (part_of Attrs (head o))) o ≡ Some (entry_at before k n.head.attributes)
    go None f = absurd cc
    go (Some (op h rs)) f = (let same : node_of (op h rs) ≡ n = cc in ap (λ (m : Node). Some (entry_at before k m.head.attributes)) same)

-- no entry can be set if the operation isn't in the module
pub entry_fault : (before : ℕ → ℕ → Bool) (x : ℕ) (part : Part) (k : ℕ) (a : Option ℕ) (t : Op) → entry_in before x part k t ≡ None → set_entry_reason before x part k a t ≡ Some NoSuchOp
entry_fault before x part k a t e = go (find x t) e
  where
    go : (o : Option Op) → option_map (λ (o : Op). entry_at before k (part_of part (head o))) o ≡ None → found_entry_reason before part k a o ≡ Some NoSuchOp
    go None f = refl
    go (Some o) f = absurd cc

attr_or_none : (c : ContextModel) (a : Option ℕ) → IfSome a (λ b. IsAttr c b) → IsAttrOrNone c a
attr_or_none c None h = tt
attr_or_none c (Some a) h = h

module _ (c : ContextModel) (x : ℕ) (part : Part) (k : ℕ) (a : Option ℕ) (s u : Stored) where
  pub held_after : (r : Result Event Refusal) → OnOk r (u ≡ after_entry (key_before_in c) x part k a s) → OnErr r (u ≡ s) → HeldIsSound c s.held → HeldIsSound c u.held
  held_after (Ok e) is err h = subst (λ (v : Stored). HeldIsSound c v.held) (sym is) h
  held_after (Err e) is err h = subst (λ (v : Stored). HeldIsSound c v.held) (sym err) h

  pub entry_step : (r : Result Event Refusal) → IfOk r (λ e. IsEntryEvent (key_before_in c) x part k a s.module_of.tree e) → OnOk r (u ≡ after_entry (key_before_in c) x part k a s)
      → MatchResult r (λ _. set_entry_reason (key_before_in c) x part k a s.module_of.tree ≡ None) (λ e. IsRefusedFor {A = Unit {0}} (set_entry_reason (key_before_in c) x part k a s.module_of.tree) (Err e))
      → IsWellFormed (isolated_in c) s.module_of → IsSoundIn c s.module_of.tree → IsName c k → IfSome a (λ b. IsAttr c b)
      → IfOk r (λ e. IsEntryStep x part k a e c (module_meaning c s.module_of) (module_meaning c u.module_of))
  entry_step (Err e) event is none w sound key attr = tt
  entry_step (Ok e) event is none w sound key attr =
      let t = entry_steps c x part k a s.module_of w sound key (attr_or_none c a attr) none in
      let two : Some t.0 ≡ Some event.0 = sym t.1 ∙ event.2 in
      let same : t.0 ≡ event.0 = cc in
      let one : Step c (SetEntry x part k event.0 a) (module_meaning c s.module_of) (module_meaning c u.module_of) =
      subst (λ (v : Stored). Step c (SetEntry x part k event.0 a) (module_meaning c s.module_of) (module_meaning c v.module_of)) (sym is)
      (subst (λ (q : Option ℕ). Step c (SetEntry x part k q a) (module_meaning c s.module_of) (module_meaning c (after_entry (key_before_in c) x part k a s).module_of)) same t.2) in
      (event.0, event.1, subst (λ (f : Event). Step c f (module_meaning c s.module_of) (module_meaning c u.module_of)) (sym event.1) one)
