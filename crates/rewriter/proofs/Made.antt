-- Edits that were made or refused.
use Rattle.std.proofs.Common.{◌≡◌, ℕ, List, sym, subst, ap, Option, Some, None, true, false, inl, inr}
use Rattle.std.specs.Prelude.{Result, Ok, Err, IfOk, IfErr, IsOk, OnOk, OnErr, MatchResult}
use Rattle.ir_event.specs.types.declared.refusal.Refusal.{Refusal}
use Rattle.ir_event.specs.types.Reasons.{IsRefusedFor}
use Rattle.ir_event.specs.types.Things.{ContextModel}
use Rattle.ir_event.specs.trees.declared.place.Part.{Part}
use Rattle.ir_event.specs.trees.declared.place.Place.{Place}
use Rattle.ir_event.specs.trees.declared.value.Value.{Value}
use Rattle.ir_event.specs.trees.Tree.{Op}
use Rattle.ir_event.specs.trees.Meaning.{IsSoundIn, key_before_in}
use Rattle.ir_event.specs.tree_laws.Reasons.{holds_none, set_entry_reason}
use Rattle.ir_event.specs.store.Calls.{after_entry, after_operand, after_put, after_shift, after_take}
use Rattle.ir_event.specs.store.Stored.{Stored}
use Rattle.ir_event.specs.declared.event.Event.{Event}
use Rattle.ir_event.specs.Listener.{ShowsTaken}
use Rattle.ir_event.specs.Modules.{Module, Node}
use Rattle.ir_event.specs.Step.{IsOperandStep, Step}
use Rattle.ir_event.specs.Edits.{IsEntryStep, IsPutStep, IsShiftStep, IsTakeStep}
use Rattle.rewriter_machine.specs.Journals.{TracksRemovedKeys, IsStoreOf, HasNoStaleIds, Noted}
use Rattle.rewriter.specs.Held.{TransactionModel, IsWellFormed, module_held, shown_of}
use Rattle.rewriter.specs.Moves.{Edited, IsAnswered, noted_as}
use Rattle.rewriter.proofs.Following.{entry_noted, operand_noted, put_noted, shift_noted, slotted_entry, slotted_operand, slotted_put, slotted_shift, slotted_take, take_noted, then}
use Rattle.rewriter.proofs.Outcomes.{err_outcome, good_outcome, ok_outcome}

-- an edit that leads to store s was made with an event, or was refused; store u is the store after the call
pub record Made (h : TransactionModel) (s u : Stored) (made : Result Event Refusal) : Type 0 where
  pub store : OnOk made (u ≡ s)
  pub err : OnErr made (u ≡ h.store)
  pub noted : IfOk made (λ e. Noted h.ctx h.journal e h.store u)
  pub step : IfOk made (λ e. Step h.ctx e (module_held h) (then h.ctx u))
  pub shown : IfOk made (λ e. ShowsTaken e (module_held h) (shown_of (record { ctx = h.ctx; store = u; journal = noted_as h.marks h.journal made; marks = h.marks })))
  pub slotted : TracksRemovedKeys u

module _ (h : TransactionModel) (good : IsWellFormed h) (s u : Stored) (made : Result Event Refusal) (m : Made h s u made) (d : ContextModel) (js : List Event) (is_d : d ≡ h.ctx) (is_js : js ≡ noted_as h.marks h.journal made) where
  pub made_good : IsWellFormed (record { ctx = d; store = u; journal = js; marks = h.marks })
  made_good = rw (is_d, is_js) (good_outcome h good made u m.err m.noted m.slotted)

  pub made_edited : IfOk made (λ e. Edited e s h (record { ctx = d; store = u; journal = js; marks = h.marks }))
  made_edited = rw (is_d, is_js) (ok_outcome h good made s u m.store m.noted m.step m.shown)

  pub made_err : OnErr made ((let g : TransactionModel = record { ctx = d; store = u; journal = js; marks = h.marks } in g) ≡ h)
  made_err = rw (is_d, is_js) (err_outcome h good made u m.err)

-- ---- each of the edits

slotted_if : (s u v : Stored) (made : Result Event Refusal) → OnOk made (u ≡ v) → OnErr made (u ≡ s) → TracksRemovedKeys s → (TracksRemovedKeys s → TracksRemovedKeys v) → TracksRemovedKeys u
slotted_if s u v (Ok e) is err h f = subst TracksRemovedKeys (sym is) (f h)
slotted_if s u v (Err r) is err h f = subst TracksRemovedKeys (sym err) h

pub tidy_if : (s u v : Stored) (made : Result Event Refusal) → OnOk made (u ≡ v) → OnErr made (u ≡ s) → HasNoStaleIds s → (HasNoStaleIds s → HasNoStaleIds v) → HasNoStaleIds u
tidy_if s u v (Ok e) is err h f = subst HasNoStaleIds (sym is) (f h)
tidy_if s u v (Err r) is err h f = subst HasNoStaleIds (sym err) h

-- no node is shown for an operation that isn't taken out
quiet : (m : Module) (shown : ℕ → Option Node) (e f : Event) → e ≡ f → ShowsTaken f m shown → ShowsTaken e m shown
quiet m shown e f is h = subst (λ d. ShowsTaken d m shown) (sym is) h

module _ (h : TransactionModel) (good : IsWellFormed h) (is : IsStoreOf h.ctx h.store) (d : ContextModel) (is_d : d ≡ h.ctx) (u : Stored) where
  pub put_made : (place : Place) (o : Op) → IsSoundIn h.ctx o → holds_none (Some o) ≡ true → (made : Result Event Refusal) → IfOk made (λ e. IsPutStep place e h.ctx (module_held h) (then d u)) → OnOk made (u ≡ after_put place o h.store) → OnErr made (u ≡ h.store)
      → Made h (after_put place o h.store) u made
  put_made place o sound leaf (Ok e) step store err = record {
    store = store;
    err = err;
    noted = put_noted h.ctx place o e h.journal h.store u is good.leads sound store (rw is_d at step);
    step = (rw is_d at step).1;
    shown = quiet _ _ e _ step.0 tt;
    slotted = slotted_if h.store u (after_put place o h.store) (Ok e) store err good.slotted (slotted_put place o h.store leaf);
  }
  put_made place o sound leaf (Err r) step store err = record { store = tt; err = err; noted = tt; step = tt; shown = tt; slotted = slotted_if h.store u (after_put place o h.store) (Err r) store err good.slotted (slotted_put place o h.store leaf) }

  pub take_made : (x : ℕ) (made : Result Event Refusal) → IfOk made (λ e. IsTakeStep x e h.ctx (module_held h) (then d u)) → IfOk made (λ e. ShowsTaken e (module_held h) (shown_of (record h { ctx = d; store = u })))
      → OnOk made (u ≡ after_take x h.store) → OnErr made (u ≡ h.store) → Made h (after_take x h.store) u made
  take_made x (Ok e) step shown store err = record {
    store = store;
    err = err;
    noted = take_noted h.ctx x e h.journal h.store u is good.leads store (rw is_d at step);
    step = (rw is_d at step).2;
    shown = rw is_d at shown;
    slotted = slotted_if h.store u (after_take x h.store) (Ok e) store err good.slotted (slotted_take x h.store);
  }
  take_made x (Err r) step shown store err = record { store = tt; err = err; noted = tt; step = tt; shown = tt; slotted = slotted_if h.store u (after_take x h.store) (Err r) store err good.slotted (slotted_take x h.store) }

  pub operand_made : (x k : ℕ) (v : Value) (made : Result Event Refusal) → IfOk made (λ e. IsOperandStep x k v e h.ctx (module_held h) (then d u)) → OnOk made (u ≡ after_operand x k v h.store) → OnErr made (u ≡ h.store)
      → Made h (after_operand x k v h.store) u made
  operand_made x k v (Ok e) step store err = record {
    store = store;
    err = err;
    noted = operand_noted h.ctx x k v e h.journal h.store u is good.leads store (rw is_d at step);
    step = (rw is_d at step).2;
    shown = quiet _ _ e _ step.1 tt;
    slotted = slotted_if h.store u (after_operand x k v h.store) (Ok e) store err good.slotted (slotted_operand x k v h.store);
  }
  operand_made x k v (Err r) step store err = record { store = tt; err = err; noted = tt; step = tt; shown = tt; slotted = slotted_if h.store u (after_operand x k v h.store) (Err r) store err good.slotted (slotted_operand x k v h.store) }

  pub entry_made : (x : ℕ) (part : Part) (k : ℕ) (a : Option ℕ) (made : Result Event Refusal) → IfOk made (λ e. IsEntryStep x part k a e h.ctx (module_held h) (then d u))
      → MatchResult made (λ _. set_entry_reason (key_before_in h.ctx) x part k a h.store.module_of.tree ≡ None) (λ e. IsRefusedFor {A = Unit {0}} (set_entry_reason (key_before_in h.ctx) x part k a h.store.module_of.tree) (Err e))
      → OnOk made (u ≡ after_entry (key_before_in h.ctx) x part k a h.store) → OnErr made (u ≡ h.store) → Made h (after_entry (key_before_in h.ctx) x part k a h.store) u made
  entry_made x part k a (Ok e) step none store err = record {
    store = store;
    err = err;
    noted = entry_noted h.ctx x part k a e h.journal h.store u is good.leads good.slotted none store (rw is_d at step);
    step = (rw is_d at step).2;
    shown = quiet _ _ e _ step.1 tt;
    slotted = slotted_if h.store u (after_entry (key_before_in h.ctx) x part k a h.store) (Ok e) store err good.slotted (slotted_entry h.ctx x part k a h.store);
  }
  entry_made x part k a (Err r) step none store err = record { store = tt; err = err; noted = tt; step = tt; shown = tt; slotted = slotted_if h.store u (after_entry (key_before_in h.ctx) x part k a h.store) (Err r) store err good.slotted (slotted_entry h.ctx x part k a h.store) }

  pub shift_made : (x : ℕ) (place : Place) (made : Result Event Refusal) → IfOk made (λ e. IsShiftStep x place e h.ctx (module_held h) (then d u)) → OnOk made (u ≡ after_shift x place h.store) → OnErr made (u ≡ h.store)
      → Made h (after_shift x place h.store) u made
  shift_made x place (Ok e) step store err = record {
    store = store;
    err = err;
    noted = shift_noted h.ctx x place e h.journal h.store u is good.leads store (rw is_d at step);
    step = (rw is_d at step).2;
    shown = quiet _ _ e _ step.1 tt;
    slotted = slotted_if h.store u (after_shift x place h.store) (Ok e) store err good.slotted (slotted_shift x place h.store);
  }
  shift_made x place (Err r) step store err = record { store = tt; err = err; noted = tt; step = tt; shown = tt; slotted = slotted_if h.store u (after_shift x place h.store) (Err r) store err good.slotted (slotted_shift x place h.store) }

-- ---- refusals

-- a call that may be refused because memory ran out
pub answered_for : (reason : Option Refusal) (made : Result Event Refusal) → MatchResult made (λ _. reason ≡ None) (λ e. IsRefusedFor {A = Unit {0}} reason (Err e)) → IsAnswered (Unit {0}) reason made
answered_for reason (Ok e) is = is
answered_for None (Err r) is = inr (is, tt)
answered_for (Some q) (Err r) is = (let same : q ≡ r = cc in inl (ap Some same))

-- a call that needs memory only for the journal
pub answered_exactly : (takes : Type 0) (reason : Option Refusal) (made : Result Event Refusal) → MatchResult made (λ _. reason ≡ None) (λ e. reason ≡ Some e) → IsAnswered takes reason made
answered_exactly takes reason (Ok e) is = is
answered_exactly takes reason (Err r) is = inl is

-- a call that is never refused
pub never_refused : (W : Refusal → Type 0) (made : Result Event Refusal) → IsOk made → IfErr made W
never_refused W (Ok e) done = tt
never_refused W (Err r) done = absurd (let t : false ≡ true = done in cc)
