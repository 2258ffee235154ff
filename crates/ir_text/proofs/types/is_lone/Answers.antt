use Rattle.std.proofs.Common.{◌≡◌, ◌≤◌, ℕ, false, List, [], ◌∷◌, length, refl, arith}
use Rattle.ir_types.specs.Terms.{TypeTerm, types_at, type_terms}
use Rattle.ir_text.specs.TypeText.{is_lone}
use Rattle.ir_text.proofs.types.is_lone.Goals as goal

two_are_not_lone : (known : List TypeTerm) (ns : List ℕ) → 2 ≤ length ns → false ≡ is_lone (types_at known ns)
two_are_not_lone known [] h = absurd (omega arith)
two_are_not_lone known (n ∷ []) h = absurd (omega arith)
two_are_not_lone known (m ∷ n ∷ ns) h = refl

pub returns-in-len2-up : goal.returns-in-len2-up
returns-in-len2-up c = two_are_not_lone (type_terms c.args.ctx.now) c.args.outputs.now c.in-len2-up.len_at_least
