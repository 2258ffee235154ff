-- The verdict on an operation.
use Rattle.std.specs.Prelude.{ℕ, List, [], ◌∷◌, Option, option_map}
use Rattle.ir_tree.specs.Meaning.{Operation}
use Rattle.ir_verify_base.specs.Surroundings.{surroundings}
use Rattle.ir_verify_base.specs.Fits.{Surroundings}
use Rattle.ir_verify.specs.declared.verdict.Verdict.{Verdict}
use Rattle.ir_verify.specs.declared.verdict.Verdict.TheVariants.{Valid, Unlisted, Invalid}
use Rattle.ir_verify.specs.Breaks.{broken}
use Rattle.ir_verify.specs.Beyond.{reported}

-- the verdict, given the broken rules and the reported ones
abbrev pub verdict_by : List ℕ → List ℕ → Verdict
verdict_by [] rs = Valid
verdict_by (b ∷ bs) [] = Unlisted
verdict_by (b ∷ bs) (r ∷ rs) = Invalid

abbrev pub verdict_in : Surroundings → Verdict
verdict_in s = verdict_by (broken s) (reported s)

-- the verdict on operation x of a tree, if it is there
abbrev pub verdict_at : ℕ → Operation → Option Verdict
verdict_at x t = option_map verdict_in (surroundings x t)
