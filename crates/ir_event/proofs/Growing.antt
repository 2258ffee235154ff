-- IR states with a growing context, and their held operations.
use Rattle.std.proofs.Common.{◌≡◌, ap, sym, ◌∙◌, subst, ℕ, Some, None}
use Rattle.std.specs.Prelude.{Result, Ok, Err, OnOk, OnErr}
use Rattle.std.specs.Ordering.{nat_cmp}
use Rattle.std.specs.FinMap as finmap
use Rattle.op_registry.specs.types.declared.refusal.Refusal.{Refusal}
use Rattle.op_registry.specs.types.Things.{ContextModel, IsExtendedBy}
use Rattle.op_registry.specs.types.Sound.{Holds}
use Rattle.op_registry.specs.types.Words.{is_isolated}
use Rattle.ir_store.specs.trees.declared.value.Value.{Value}
use Rattle.ir_store.specs.trees.Tree.{Op}
use Rattle.ir_store.specs.trees.Meaning.{IsSoundIn, isolated_in}
use Rattle.ir_store.specs.trees.WellFormed.{IsWellFormed, Module as Numbered}
use Rattle.ir_store.proofs.of_trees.Meanings.{stable, stays_sound}
use Rattle.ir_store.specs.Stored.{Stored}
use Rattle.ir_store.specs.Calls.{Loaded, after_operand}
use Rattle.ir_event.specs.declared.event.Event.{Event}
use Rattle.ir_event.specs.Facts.{HeldIsSound}
use Rattle.ir_event.specs.Modules.{module_meaning}
use Rattle.ir_event.proofs.Steps.{wellformed_meaning, wellformed_numbers}

-- a module has the same meaning in an extended context
pub module_stays : (c d : ContextModel) (m : Numbered) → Holds c → IsExtendedBy c d → IsSoundIn c m.tree → module_meaning d m ≡ module_meaning c m
module_stays c d m holds g s = λ i. record { tree = stable c d m.tree holds g s i; next = m.next }

-- and is well-formed there
pub wellformed_stays : (c d : ContextModel) (m : Numbered) → Holds c → IsExtendedBy c d → IsSoundIn c m.tree → IsWellFormed (isolated_in c) m → IsWellFormed (isolated_in d) m
wellformed_stays c d m holds g s w = wellformed_numbers d m (subst (IsWellFormed is_isolated) (sym (module_stays c d m holds g s)) (wellformed_meaning c m w))

pub held_stays : (c d : ContextModel) (held : finmap.FinMap nat_cmp Op) → IsExtendedBy c d → HeldIsSound c held → HeldIsSound d held
held_stays c d held g h x o e = stays_sound c d o g (h x o e)

-- nothing is held in a newly loaded module
pub held_loaded : (c : ContextModel) (t : Op) (n : ℕ) (s : Stored) → Loaded t n s → HeldIsSound c s.held
held_loaded c t n s l x o e = (let bad : None ≡ Some o = sym (ap (λ m. finmap.get m x) l.held ∙ finmap.get-empty nat_cmp x) ∙ e in absurd cc)

-- setting an operand, accepted or not, leaves the held operations unchanged
pub held_set : (c : ContextModel) (x k : ℕ) (v : Value) (m n : Stored) (r : Result Event Refusal) → OnOk r (n ≡ after_operand x k v m) → OnErr r (n ≡ m) → HeldIsSound c m.held → HeldIsSound c n.held
held_set c x k v m n (Ok e) is err h = subst (λ (s : Stored). HeldIsSound c s.held) (sym is) h
held_set c x k v m n (Err e) is err h = subst (λ (s : Stored). HeldIsSound c s.held) (sym err) h
