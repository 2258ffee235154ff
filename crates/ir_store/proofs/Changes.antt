-- What setting an entry leaves unchanged.
use Rattle.std.proofs.Common.{◌≡◌, ℕ, ◌<◌, sym, subst, length, true, Option, Some, None, arith}
use Rattle.std.specs.Prelude.{Result, Ok, Err, MatchResult, IfSome, nat_lt}
use Rattle.std.proofs.lemmas.Bool.Decides.{nat_tests}
use Rattle.ir_store_reads.specs.types.Things.{ContextModel, IsName, IsAttr}
use Rattle.ir_store_reads.specs.types.Reasons.{IsRefusedFor}
use Rattle.ir_store_reads.specs.types.declared.refusal.Refusal.{Refusal}
use Rattle.ir_store_reads.specs.trees.declared.place.Part.{Part}
use Rattle.ir_store_reads.specs.trees.Meaning.{IsSoundIn, key_before_in, isolated_in, is_attr}
use Rattle.ir_store_reads.specs.trees.WellFormed.{IsWellFormed}
use Rattle.ir_store_reads.proofs.of_trees.SoundEdits.{entry_sound}
use Rattle.ir_store_reads.specs.tree_laws.Reasons.{set_entry_reason}
use Rattle.ir_store_reads.proofs.of_tree_laws.Keys.{key_before_trans}
use Rattle.ir_store_reads.proofs.of_tree_laws.HeadForm.{entry_keeps}
use Rattle.ir_store_reads.specs.Stored.{Stored}
use Rattle.ir_store.specs.Calls.{after_entry}
use Rattle.std.proofs.lemmas.Bool.{lt-ltb}
use Rattle.std.proofs.lemmas.Option.{same_Some}

module _ (c : ContextModel) (x : ℕ) (part : Part) (k : ℕ) (v : Option ℕ) (m n : Stored) (name : IsName c k) (attr : IfSome v (λ a. IsAttr c a)) (s : IsSoundIn c m.module_of.tree) where
  known : (w : Option ℕ) → IfSome w (λ a. IsAttr c a) → (b : ℕ) → w ≡ Some b → is_attr c b ≡ true
  known None l b e = absurd cc
  known (Some a) l b e = lt-ltb b (length c.attrs) (subst (IsAttr c) (same_Some a b e) l)

  pub set_sound : n ≡ after_entry (key_before_in c) x part k v m → IsSoundIn c n.module_of.tree
  set_sound e = subst (λ (z : Stored). IsSoundIn c z.module_of.tree) (sym e) (entry_sound c x part k v m.module_of.tree (lt-ltb k (length c.names) name) (known v attr) s)

  -- the new store of a call, or the reason for which the call is refused
  abbrev pub Entered : Result (Unit {0}) Refusal → Type 0
  Entered res = MatchResult res
      (λ _. (set_entry_reason (key_before_in c) x part k v m.module_of.tree ≡ None) × (n ≡ after_entry (key_before_in c) x part k v m))
      (λ e. IsRefusedFor {A = Unit {0}} (set_entry_reason (key_before_in c) x part k v m.module_of.tree) (Err e) × (n ≡ m))

  pub call_sound : (res : Result (Unit {0}) Refusal) → Entered res → IsSoundIn c n.module_of.tree
  call_sound (Ok u) p = set_sound p.1
  call_sound (Err e) p = subst (λ (z : Stored). IsSoundIn c z.module_of.tree) (sym p.1) s

  pub call_wellformed : (res : Result (Unit {0}) Refusal) → Entered res → IsWellFormed (isolated_in c) m.module_of → IsWellFormed (isolated_in c) n.module_of
  call_wellformed (Ok u) p w = subst (λ (z : Stored). IsWellFormed (isolated_in c) z.module_of) (sym p.1) (entry_keeps (isolated_in c) (key_before_in c) (key_before_trans c) x part k v m.module_of w s.sorted p.0)
  call_wellformed (Err e) p w = subst (λ (z : Stored). IsWellFormed (isolated_in c) z.module_of) (sym p.1) w
