-- Steps between the meanings of modules of ids.
use Rattle.std.proofs.Common.{◌≡◌, refl, ap, sym, ◌∙◌, subst, ℕ, ◌<◌, ◌≤◌, eqb, List, Option, Some, None, slice_get, IsTrue, arith}
use Rattle.std.specs.Prelude.{option_map, option_and_then, Result, Ok, Err, OnOk, OnErr, IfOk}
use Rattle.op_registry.specs.types.declared.refusal.Refusal.{Refusal}
use Rattle.std.specs.List.{IsDistinct, All}
use Rattle.op_registry.specs.types.Things.{ContextModel, IsExtendedBy}
use Rattle.op_registry.specs.types.Sound.{Holds}
use Rattle.op_registry.specs.types.Terms.{name_term, type_term, attr_term}
use Rattle.op_registry.specs.types.Words.{is_isolated}
use Rattle.ir_store.proofs.of_trees.of_types.Terms.{name_stays, attr_stays}
use Rattle.ir_store.specs.trees.declared.value.Value.{Value}
use Rattle.ir_store.specs.trees.Tree.{Op, op, head}
use Rattle.ir_store.specs.trees.Ids.{find}
use Rattle.ir_store.specs.trees.Limits.{most_around}
use Rattle.ir_store.specs.trees.Edits.{with_operand}
use Rattle.ir_store.specs.trees.Meaning.{meaning, isolated_in, dictionaries_rise, key_before, key_before_in, IsSoundIn}
use Rattle.ir_store.specs.trees.WellFormed.{Module as Numbered, IsWellFormed}
use Rattle.ir_store.proofs.of_trees.Mapped.{map_every, map_ids, map_find, map_operands_visible, map_depth, map_counts}
use Rattle.ir_store.proofs.of_trees.MappedEdits.{map_with_operand}
use Rattle.ir_store.proofs.of_trees.SoundEdits.{operand_sound}
use Rattle.ir_store.proofs.of_tree_laws.Contents.{map_dictionaries}
use Rattle.ir_event.specs.declared.event.Event.{Event}
use Rattle.ir_event.specs.declared.event.Event.TheVariants.{SetOperand}
use Rattle.ir_event.specs.Modules.{Module, module_meaning}
use Rattle.ir_store.specs.tree_laws.Changes.{operand_at}
use Rattle.ir_store.specs.Stored.{Stored}
use Rattle.ir_store.specs.Calls.{after_operand}
use Rattle.ir_event.specs.Step.{IsSorted, Step, Steps, IsOperandEvent, IsOperandStep}
use Rattle.ir_event.proofs.Extra.{step_extra, steps_extra}
use Rattle.ir_event.proofs.Operands.{undone, set_there}

-- the meaning of a well-formed module is well-formed
pub wellformed_meaning : (c : ContextModel) (m : Numbered) → IsWellFormed (isolated_in c) m → IsWellFormed is_isolated (module_meaning c m)
wellformed_meaning c m w =
    let f = name_term c in
    let g = type_term c in
    let h = attr_term c in
    record {
      distinct = subst (IsDistinct eqb) (sym (map_ids f g h m.tree)) w.distinct;
      below = subst (All (λ x. x < m.next)) (sym (map_ids f g h m.tree)) w.below;
      next = w.next;
      wellformed = record {
        visible = subst IsTrue (sym (map_operands_visible f g h is_isolated m.tree)) w.wellformed.visible;
        shallow = subst (λ n. n ≤ most_around) (sym (map_depth f g h m.tree)) w.wellformed.shallow;
        counts = subst IsTrue (sym (map_counts f g h m.tree)) w.wellformed.counts;
      };
    }

-- a module of ids is well-formed if its meaning is
pub wellformed_numbers : (c : ContextModel) (m : Numbered) → IsWellFormed is_isolated (module_meaning c m) → IsWellFormed (isolated_in c) m
wellformed_numbers c m w =
    let f = name_term c in
    let g = type_term c in
    let h = attr_term c in
    record {
      distinct = subst (IsDistinct eqb) (map_ids f g h m.tree) w.distinct;
      below = subst (All (λ x. x < m.next)) (map_ids f g h m.tree) w.below;
      next = w.next;
      wellformed = record {
        visible = sym (map_operands_visible f g h is_isolated m.tree) ∙ w.wellformed.visible;
        shallow = (let e = map_depth f g h m.tree in let k = w.wellformed.shallow in omega (arith, e, k));
        counts = sym (map_counts f g h m.tree) ∙ w.wellformed.counts;
      };
    }

-- the meaning of a module of the context has sorted dictionaries
pub sorted_meaning : (c : ContextModel) (m : Numbered) → IsSoundIn c m.tree → IsSorted (module_meaning c m)
sorted_meaning c m s =
    map_every (name_term c) (type_term c) (attr_term c) (dictionaries_rise (key_before_in c)) (dictionaries_rise key_before) (map_dictionaries (name_term c) (type_term c) (attr_term c) key_before) m.tree ∙ s.sorted

pub meaning_operands : (c : ContextModel) (o : Op) → (head (meaning c o)).operands ≡ (head o).operands
meaning_operands c (op h rs) = refl

pub meaning_operand_at : (c : ContextModel) (x k : ℕ) (t : Op) → operand_at x k (meaning c t) ≡ operand_at x k t
meaning_operand_at c x k t = ap (option_and_then (λ o. slice_get (head o).operands k)) (map_find (name_term c) (type_term c) (attr_term c) x t) ∙ go (find x t)
  where
    go : (o : Option Op) → option_and_then (λ o. slice_get (head o).operands k) (option_map (meaning c) o) ≡ option_and_then (λ o. slice_get (head o).operands k) o
    go None = refl
    go (Some o) = ap (λ l. slice_get l k) (meaning_operands c o)

-- setting an operand is a step
pub operand_steps : (c : ContextModel) (x k : ℕ) (old new : Value) (m : Numbered) → IsWellFormed (isolated_in c) m → IsWellFormed (isolated_in c) (record m { tree = with_operand x k new m.tree })
    → IsSoundIn c m.tree → operand_at x k m.tree ≡ Some old → Step c (SetOperand x k old new) (module_meaning c m) (module_meaning c (record m { tree = with_operand x k new m.tree }))
operand_steps c x k old new m w v sound e =
    let edited : (a : Value) (t : Op) → with_operand x k a (meaning c t) ≡ meaning c (with_operand x k a t) = λ a t. map_with_operand (name_term c) (type_term c) (attr_term c) x k a t in
    record {
      before = wellformed_meaning c m w;
      after = wellformed_meaning c (record m { tree = with_operand x k new m.tree }) v;
      sorted_before = sorted_meaning c m sound;
      sorted_after = sorted_meaning c (record m { tree = with_operand x k new m.tree }) (operand_sound c x k new m.tree sound);
      numbers = tt;
      changes = record {
        was = meaning_operand_at c x k m.tree ∙ e;
        is = meaning_operand_at c x k (with_operand x k new m.tree) ∙ set_there x k old new m.tree e;
        after = sym (edited new m.tree);
        before = ap (meaning c) (sym (undone x k old new m.tree w.distinct e)) ∙ sym (edited old (with_operand x k new m.tree));
        next = refl;
      };
    }

-- a step in a context is a step in an extended context
pub step_stays : (c d : ContextModel) (e : Event) (m n : Module) → Holds c → IsExtendedBy c d → Step c e m n → Step d e m n
step_stays c d e m n holds g s = step_extra c d g (λ k is. name_stays c d k g is) (λ a is. attr_stays c d a holds g is) e m n s

pub steps_stay : (c d : ContextModel) (es : List Event) (m n : Module) → Holds c → IsExtendedBy c d → Steps c es m n → Steps d es m n
steps_stay c d es m n holds g s = steps_extra c d g (λ k is. name_stays c d k g is) (λ a is. attr_stays c d a holds g is) es m n s

-- an operand that was set, or wasn't
pub set_sound : (c : ContextModel) (x k : ℕ) (v : Value) (m n : Stored) (r : Result Event Refusal) → OnOk r (n ≡ after_operand x k v m) → OnErr r (n ≡ m) → IsSoundIn c m.module_of.tree → IsSoundIn c n.module_of.tree
set_sound c x k v m n (Ok e) is err s = subst (λ (p : Stored). IsSoundIn c p.module_of.tree) (sym is) (operand_sound c x k v m.module_of.tree s)
set_sound c x k v m n (Err e) is err s = subst (λ (p : Stored). IsSoundIn c p.module_of.tree) (sym err) s

pub set_steps : (c : ContextModel) (x k : ℕ) (v : Value) (m n : Stored) (r : Result Event Refusal) → OnOk r (n ≡ after_operand x k v m) → IfOk r (λ e. IsOperandEvent x k v m.module_of.tree e)
    → IsWellFormed (isolated_in c) m.module_of → IsWellFormed (isolated_in c) n.module_of → IsSoundIn c m.module_of.tree → IfOk r (λ e. IsOperandStep x k v e c (module_meaning c m.module_of) (module_meaning c n.module_of))
set_steps c x k v m n (Ok e) is event w u sound =
    let there : Numbered = m.module_of in
    let after : Step c (SetOperand x k event.0 v) (module_meaning c there) (module_meaning c (record there { tree = with_operand x k v there.tree })) =
    operand_steps c x k event.0 v there w (subst (λ (p : Stored). IsWellFormed (isolated_in c) p.module_of) is u) sound event.2 in
    let done : Step c (SetOperand x k event.0 v) (module_meaning c there) (module_meaning c n.module_of) = subst (λ (p : Stored). Step c (SetOperand x k event.0 v) (module_meaning c there) (module_meaning c p.module_of)) (sym is) after in
    (event.0, event.1, subst (λ (f : Event). Step c f (module_meaning c there) (module_meaning c n.module_of)) (sym event.1) done)
set_steps c x k v m n (Err e) is event w u sound = tt
