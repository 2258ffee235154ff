-- The parts of a symbol reference are parsed one by one, as a loop does.
use Rattle.std.proofs.Common.{◌≡◌, ℕ, suc, ◌+◌, ◌-◌, ◌<◌, ◌≤◌, List, [], ◌∷◌, ◌++◌, Some, None, refl, sym, ◌∙◌, arith}
use Rattle.ir_text_tokens.specs.declared.token.Mark.TheVariants.{DoubleColon}
use Rattle.ir_text_types.specs.declared.error.ReadError.{ReadError}
use Rattle.ir_text_types.specs.Outcomes.{Outcome, Read, Wrong, Fails}
use Rattle.ir_text_types.specs.Typed.{Typed, after_typed}
use Rattle.ir_text_types.proofs.ListSteps.{fails_with}
use Rattle.ir_text_attributes.specs.AttrReading.{part_at, parts_at}

module _ (items : List ℕ) (headroom i : ℕ) (s : Typed) (total : Outcome (List ℕ × Typed)) (so_far : parts_at (headroom - i) items s ≡ total) (lt : i < headroom) where
  one : headroom - i ≡ suc (headroom - (i + 1))
  one = omega arith

  pub goes_on : (x : ℕ) (mid next : Typed) → part_at s ≡ Read (x, mid) → after_typed DoubleColon mid ≡ Some next → parts_at (headroom - (i + 1)) (items ++ x ∷ []) next ≡ total
  unfolding parts_at
  goes_on x mid next part more = sym (rw (one, part, more) refl) ∙ so_far

  pub ends : (x : ℕ) (mid : Typed) → part_at s ≡ Read (x, mid) → after_typed DoubleColon mid ≡ None → total ≡ Read (items ++ x ∷ [], mid)
  unfolding parts_at
  ends x mid part none = sym so_far ∙ rw (one, part, none) refl

  pub no_part : (e : ReadError) → Fails e (part_at s) → Fails e total
  unfolding parts_at
  no_part e fails = fails_with e (part_at s) total (λ none. sym so_far ∙ rw (one, none) refl) (λ none. sym so_far ∙ rw (one, none) refl) fails

pub is_full : (items : List ℕ) (headroom i : ℕ) (s : Typed) (total : Outcome (List ℕ × Typed)) → parts_at (headroom - i) items s ≡ total → headroom ≤ i → total ≡ Wrong
unfolding parts_at
is_full items headroom i s total so_far le =
    let k : headroom - i ≡ 0 = omega arith in
    sym so_far ∙ rw k refl
