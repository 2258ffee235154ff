-- Facts that agree with a changed operation agree with all operations; spare looks.
use Rattle.std.proofs.Common.{◌≡◌, ◌≤◌, ◌+◌, ℕ, Option, inl, inr, sym, ap, ◌∙◌, arith}
use Rattle.std.proofs.lemmas.Bool.{cases_eq}
use Rattle.constants.specs.Facts.{Header, Facts, value, folded_if, AreLocal}
use Rattle.constants.specs.Phases.{SameBut}
use Rattle.ir_event.specs.trees.Meaning.{Operation}
use Rattle.constants.specs.Tables.{LooksRenewed, LooksWithin}

pub settled_local : (ops was : ℕ → Option Header) (x : ℕ) (a : Facts) → SameBut x was ops → AreLocal was a → a x ≡ value ops a x → AreLocal ops a
settled_local ops was x a but local e y = elim (cases_eq y x) [
  | inl same ↦ ap a same ∙ e ∙ sym (ap (value ops a) same)
  | inr far ↦ local y ∙ sym (ap (λ h. folded_if h a) (but y far))
]

-- one look before
pub renewed_looks : (t : Operation) (x : ℕ) (a : Facts) (before intermediate after : ℕ) → intermediate ≤ before + 1 → LooksRenewed t x a intermediate after → LooksWithin t x a before after
renewed_looks t x a before intermediate after le looks here was but local ordered = (let few = looks here was but local ordered in omega (arith, le, few))

-- and no other look
pub settled_looks : (t : Operation) (x : ℕ) (a : Facts) (before after : ℕ) → after ≤ before + 1 → LooksWithin t x a before after
settled_looks t x a before after le here was but local ordered = omega (arith, le)
