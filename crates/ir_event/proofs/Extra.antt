-- Steps in a context are steps in an extended context in which names and attributes have the same meanings. Definitions
-- of dependent crates use this module. So it imports no crate that re-exports whole lemmas, and takes the equality of
-- meanings as an argument.
use Rattle.std.proofs.Common.{◌≡◌, refl, ap, sym, subst, ℕ, List, [], ◌∷◌, ◌++◌, Option, Some, None, length-append, arith}
use Rattle.std.specs.Prelude.{option_map}
use Rattle.op_registry.specs.types.Things.{ContextModel, IsExtendedBy, IsName, IsAttr}
use Rattle.op_registry.specs.types.Terms.{name_term, attr_term}
use Rattle.ir_store.specs.trees.Meaning.{key_before}
use Rattle.ir_store.specs.tree_laws.Changes.{SetsEntry}
use Rattle.ir_event.specs.declared.event.Event.{Event}
use Rattle.ir_event.specs.declared.event.Event.TheVariants.{Put, Take, SetOperand, SetEntry, Shift}
use Rattle.ir_event.specs.Modules.{Module}
use Rattle.ir_event.specs.Step.{Changes, EventIsOf, IsAttrOrNone, Step, Steps}

module _ (c d : ContextModel) (g : IsExtendedBy c d) (names : (n : ℕ) → IsName c n → name_term d n ≡ name_term c n) (attrs : (a : ℕ) → IsAttr c a → attr_term d a ≡ attr_term c a) where
  attr_or_none_same : (a : Option ℕ) → IsAttrOrNone c a → option_map (attr_term d) a ≡ option_map (attr_term c) a
  attr_or_none_same None is = refl
  attr_or_none_same (Some a) is = ap Some (attrs a is)

  changes_extra : (e : Event) (m n : Module) → EventIsOf c e → Changes c e m n → Changes d e m n
  changes_extra (Put x place fresh) m n is s = s
  changes_extra (Take x place fresh) m n is s = s
  changes_extra (SetOperand x k old new) m n is s = s
  changes_extra (SetEntry x part key old new) m n is s =
      let k = sym (names key is.0) in
      let a = sym (attr_or_none_same old is.1.0) in
      let b = sym (attr_or_none_same new is.1.1) in
      subst (λ (p : (List ℕ × Option _) × Option _). SetsEntry key_before x part p.0.0 p.0.1 p.1 m n) (λ i. ((k i, a i), b i)) s
  changes_extra (Shift x old new) m n is s = s

  name_extra : (n : ℕ) → IsName c n → IsName d n
  name_extra n is = let e = g.names.1 in rw e (omega (arith, length-append c.names g.names.0))

  attr_extra : (a : Option ℕ) → IsAttrOrNone c a → IsAttrOrNone d a
  attr_extra None is = tt
  attr_extra (Some a) is = let e = g.attrs.1 in rw e (omega (arith, length-append c.attrs g.attrs.0))

  event_extra : (e : Event) → EventIsOf c e → EventIsOf d e
  event_extra (Put x place fresh) is = tt
  event_extra (Take x place fresh) is = tt
  event_extra (SetOperand x k old new) is = tt
  event_extra (SetEntry x part key old new) is = (name_extra key is.0, (attr_extra old is.1.0, attr_extra new is.1.1))
  event_extra (Shift x old new) is = tt

  pub step_extra : (e : Event) (m n : Module) → Step c e m n → Step d e m n
  step_extra e m n s = record { before = s.before; after = s.after; sorted_before = s.sorted_before; sorted_after = s.sorted_after; numbers = event_extra e s.numbers; changes = changes_extra e m n s.numbers s.changes }

  pub steps_extra : (es : List Event) (m n : Module) → Steps c es m n → Steps d es m n
  steps_extra [] m n s = s
  steps_extra (e ∷ es) m n s = (s.0, step_extra e m s.0 s.1, steps_extra es s.0 n s.2)

-- several steps, one after another
pub steps_on : (c : ContextModel) (es fs : List Event) (m n p : Module) → Steps c es m n → Steps c fs n p → Steps c (es ++ fs) m p
steps_on c [] fs m n p h k = subst (λ (q : Module). Steps c fs q p) h k
steps_on c (e ∷ es) fs m n p h k = (h.0, h.1, steps_on c es fs h.0 n p h.2 k)
