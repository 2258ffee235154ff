-- An IR state in which an operation is moved without checks.
use Rattle.std.proofs.Common.{◌≡◌, sym, subst, ℕ, Option, Some, None, true, false}
use Rattle.std.specs.Prelude.{Result, Ok, Err, IsOk, OnOk, OnErr, MatchResult}
use Rattle.ir_event.specs.types.declared.refusal.Refusal.{Refusal}
use Rattle.ir_event.specs.types.Things.{ContextModel}
use Rattle.ir_event.specs.types.Terms.{name_term}
use Rattle.ir_event.specs.types.Words.{is_table}
use Rattle.ir_event.specs.trees.declared.place.Place.{Place}
use Rattle.ir_event.specs.trees.Meaning.{isolated_in}
use Rattle.ir_event.specs.trees.WellFormed.{IsWellFormed}
use Rattle.ir_event.specs.tree_laws.Reasons.{shift_reason}
use Rattle.ir_event.specs.store.Calls.{after_shift}
use Rattle.ir_event.specs.store.Shifting.{CanRelink}
use Rattle.ir_event.specs.store.Stored.{Stored}
use Rattle.ir_event.specs.declared.event.Event.{Event}
use Rattle.ir_event.proofs.of_tree_laws.Reasoned.{no_shift_reason}
use Rattle.ir_event.proofs.of_tree_laws.WellKept.{shift_keeps}

module _ (c : ContextModel) (x : ℕ) (place : Place) (s : Stored) where
  abbrev reason : Option Refusal
  reason = shift_reason (isolated_in c) (λ n. is_table (name_term c n)) x place s.module_of.tree

  pub may_move : reason ≡ None → CanRelink x place s.module_of.tree
  may_move free =
      let r = no_shift_reason (isolated_in c) (λ n. is_table (name_term c n)) x place s.module_of.tree free in
      record { there = r.there; inner = r.inner; point = r.point; outside = r.outside }

  pub wellformed_moved : (u : Stored) (r : Result Event Refusal) → OnOk r (u ≡ after_shift x place s) → OnErr r (u ≡ s) → reason ≡ None → IsWellFormed (isolated_in c) s.module_of → IsWellFormed (isolated_in c) u.module_of
  wellformed_moved u (Ok e) is err free w = subst (λ (v : Stored). IsWellFormed (isolated_in c) v.module_of) (sym is) (shift_keeps (isolated_in c) (λ n. is_table (name_term c n)) x place s.module_of w free)
  wellformed_moved u (Err e) is err free w = subst (λ (v : Stored). IsWellFormed (isolated_in c) v.module_of) (sym err) w

  pub never_refused : (r : Result Event Refusal) → IsOk r → reason ≡ None → MatchResult r (λ _. reason ≡ None) (λ e. reason ≡ Some e)
  never_refused (Ok e) done free = free
  never_refused (Err e) done free = absurd (let t : false ≡ true = done in cc)
