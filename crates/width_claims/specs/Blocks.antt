-- The contracts of the code that appends steps.
use Rattle.std.specs.Prelude.{◌≡◌, ℕ, List, ◌++◌}
use Rattle.width_claims.specs.declared.step.Step.{Step}
use Rattle.width_claims.specs.declared.block.Ends.{Ends}
use Rattle.width_claims.specs.declared.emit.Counts.{Counts}
use Rattle.width_claims.specs.declared.form.Expr.{Expr}
use Rattle.width_claims.specs.declared.width.Narrower.{Narrower}
use Rattle.width_claims.specs.declared.width.Width.{Width}
use Rattle.width_claims.specs.Emission.{Block, emitted, mask_places, narrow_numbers, narrow_steps, narrow_truths, numbers_end, places, truths_end, type_numbers, type_steps, type_truths}

abbrev pub IsBlock : Block → List Step → List Step → Ends → Type 0
IsBlock b old new e = (new ≡ old ++ b.steps) × (e.result ≡ b.result) × (e.numbers ≡ b.numbers) × (e.truths ≡ b.truths)

abbrev pub AreTypes : ℕ → List Width → ℕ → ℕ → List Step → List ℕ → List Step → List ℕ → Counts → Type 0
AreTypes v ks n t old masks new more c =
    (new ≡ old ++ type_steps v ks n) × (more ≡ mask_places ks masks n) × (c.numbers ≡ type_numbers ks n) × (c.truths ≡ type_truths ks t)

abbrev pub AreNarrow : List ℕ → List Narrower → ℕ → ℕ → List Step → List Step → Counts → Type 0
AreNarrow ms ps n t old new c = (new ≡ old ++ narrow_steps ms ps n t) × (c.numbers ≡ narrow_numbers ps n) × (c.truths ≡ narrow_truths ps t)

abbrev pub ArePatternOps : List ℕ → List Expr → ℕ → ℕ → List ℕ → List Step → List ℕ → List Step → Counts → Type 0
ArePatternOps ms ps n t pl old more new c =
    (new ≡ old ++ emitted ms ps pl n t) × (more ≡ places ms ps pl n t) × (c.numbers ≡ numbers_end ms ps pl n t) × (c.truths ≡ truths_end ms ps pl n t)
