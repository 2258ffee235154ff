-- The listener agrees with the module after an event, if its update was completed.
use Rattle.std.proofs.Common.{◌≡◌, ◌≤◌, ◌+◌, ℕ, inl, inr, sym, ap, ◌∙◌, subst, arith}
use Rattle.ir_event.specs.types.Things.{ContextModel}
use Rattle.ir_event.specs.declared.event.Event.{Event}
use Rattle.ir_event.specs.declared.event.Event.TheVariants.{Put, Take, SetOperand, SetEntry, Shift}
use Rattle.ir_event.specs.Modules.{Module}
use Rattle.ir_event.specs.Step.{Step}
use Rattle.ir_event.specs.Heads.{heads}
use Rattle.constants.specs.Facts.{Facts, look, folded_if, AreLocal}
use Rattle.constants.specs.Walk.{facts_of}
use Rattle.constants.specs.Reached.{reached, most_over, most_looks}
use Rattle.constants.proofs.Walks.{value_same}
use Rattle.constants.proofs.Looked.{local_facts, same_facts_local}
use Rattle.constants.proofs.Events.{ChangedAt, ordered_after, put_changed, operand_changed, operand_local, entry_changed, shift_same, taken_local}
use Rattle.constants.specs.Tables.{Updated, FactsFollowed, LooksWithin, LooksFollowed}

module _ (c : ContextModel) (m n : Module) (D : Type 0) (a b : Facts) where
  was_local : (e : Event) → Step c e m n → ((x : ℕ) → a x ≡ facts_of m.tree x) → AreLocal (look m.tree) a
  was_local e s same = same_facts_local m.tree a s.before.distinct s.before.wellformed.visible same

  is_facts : (e : Event) → Step c e m n → AreLocal (look n.tree) b → (x : ℕ) → b x ≡ facts_of n.tree x
  is_facts e s local = local_facts n.tree b s.after.distinct s.after.wellformed.visible local

  changed : (e : Event) (x : ℕ) → Step c e m n → ChangedAt x m n → Updated D (look n.tree) x a b → D → ((x : ℕ) → a x ≡ facts_of m.tree x) → (x : ℕ) → b x ≡ facts_of n.tree x
  changed e x s at updated d same = is_facts e s (updated at.0 (look m.tree) at.1 (was_local e s same) d)

  pub followed_facts : (e : Event) → Step c e m n → FactsFollowed D (look n.tree) e a b → D → ((x : ℕ) → a x ≡ facts_of m.tree x) → (x : ℕ) → b x ≡ facts_of n.tree x
  followed_facts (Put x place fresh) s f d same = changed (Put x place fresh) x s (put_changed c m n x place fresh s) f d same
  followed_facts (Take x place fresh) s f d same = is_facts (Take x place fresh) s (taken_local c m n x place fresh a b s f (was_local (Take x place fresh) s same))
  followed_facts (SetOperand x k old new) s (inl p) d same = is_facts (SetOperand x k old new) s (operand_local c m n x k old new a b s p.0 p.1 (was_local (SetOperand x k old new) s same))
  followed_facts (SetOperand x k old new) s (inr f) d same = changed (SetOperand x k old new) x s (operand_changed c m n x k old new s) f d same
  followed_facts (SetEntry x part key old new) s f d same = changed (SetEntry x part key old new) x s (entry_changed c m n x part key old new s) f d same
  followed_facts (Shift x old new) s f d same =
      let local = was_local (Shift x old new) s same in
      is_facts (Shift x old new) s (λ y. f y ∙ local y ∙ ap (λ o. folded_if o a) (sym (shift_same c m n x old new s y)) ∙ value_same (look n.tree y) a b (λ z. sym (f z)))

module _ (c : ContextModel) (m n : Module) (a : Facts) (before after : ℕ) where
  within : (e : Event) (x : ℕ) → Step c e m n → ChangedAt x m n → ((x : ℕ) → a x ≡ facts_of m.tree x) → LooksWithin n.tree x a before after
      → after ≤ before + most_over (reached (facts_of m.tree) (facts_of n.tree) (heads n.tree) x) (heads n.tree)
  within e x s at same few =
      subst (λ (f : Facts). after ≤ before + most_over (reached f (facts_of n.tree) (heads n.tree) x) (heads n.tree)) (λ i y. same y i)
      (few at.0 (look m.tree) at.1 (same_facts_local m.tree a s.before.distinct s.before.wellformed.visible same) (ordered_after c m n e s))

  none_more : (k : ℕ) → after ≡ before → after ≤ before + k
  none_more k e = omega (arith, e)

  pub followed_looks : (e : Event) → Step c e m n → ((x : ℕ) → a x ≡ facts_of m.tree x) → LooksFollowed n.tree e a before after → after ≤ before + most_looks e m n
  followed_looks (Put x place fresh) s same f = within (Put x place fresh) x s (put_changed c m n x place fresh s) same f
  followed_looks (Take x place fresh) s same f = none_more (most_looks (Take x place fresh) m n) f
  followed_looks (SetOperand x k old new) s same f = within (SetOperand x k old new) x s (operand_changed c m n x k old new s) same f
  followed_looks (SetEntry x part key old new) s same f = within (SetEntry x part key old new) x s (entry_changed c m n x part key old new s) same f
  followed_looks (Shift x old new) s same f = none_more (most_looks (Shift x old new) m n) f
