use Rattle.std.proofs.Common.{sym, ◌∙◌, eq-eqb, true≢false, inl, inr}
use Rattle.greedy.proofs.run.preceding_of.Goals as goal

pub returns-clause-some : goal.returns-clause-some
returns-clause-some g c = elim c.requires.near [
  | inl e ↦ absurd (true≢false (sym (eq-eqb c.args.now c.args.passed e) ∙ sym c.if-eq.ensures))
  | inr p ↦ p
]
