-- The decision about a claim.
use Rattle.std.specs.Prelude.{◌≡◌, ℕ, List}
use Rattle.width_claims.specs.declared.verdict.Verdict.{Verdict}
use Rattle.width_claims.specs.declared.verdict.Verdict.TheVariants as verdict
use Rattle.width_claims.specs.declared.step.Step.{Step}
use Rattle.width_claims.specs.AllWidths.{IsDecided}
use Rattle.width_claims.specs.Emission.{Claim, claim_place, claim_steps}
use Rattle.width_claims.specs.Right.{IsEqualAtAllWidths}

abbrev pub IsClaim : Claim → List Step → ℕ → Type 0
IsClaim c ss place = (ss ≡ claim_steps c) × (place ≡ claim_place c)

-- the two values are equal at all widths; or letters after which the truth of the steps isn't accepted, and no
-- shorter word has this property
abbrev pub IsEqualDecided : Claim → Verdict → Type 0
IsEqualDecided c verdict.Always = IsEqualAtAllWidths c
IsEqualDecided c (verdict.Fails word) = IsDecided (claim_steps c) (claim_place c) (verdict.Fails word)
IsEqualDecided c verdict.TooMany = Unit {0}
