-- The rules that inline branches and loops, by their names.
use Rattle.std.proofs.Common.{◌≡◌, ap, sym, ◌∙◌, ℕ, List, Option, Some, None, option_map}
use Rattle.ir_event.specs.trees.declared.place.Place.{Place}
use Rattle.ir_event.specs.trees.Tree.{head}
use Rattle.ir_event.specs.trees.Ids.{find}
use Rattle.ir_event.specs.trees.Meaning.{Operation}
use Rattle.patterns_lowering.specs.Contents.{Edit}
use Rattle.patterns_lowering.specs.region_rules.RegionRules.{stop_loop_at}
use Rattle.patterns_plans.specs.reads.Reads.{head_at}
use Rattle.patterns_soundness.specs.base.Keeps.{given}
use Rattle.patterns_soundness.specs.base.Looks.{Header}
use Rattle.patterns_soundness.specs.base.Opening.{open_branch, open_loop, stop_loop}
use Rattle.patterns_soundness.specs.base.Rules.{rule}
use Rattle.patterns_soundness.specs.base.declared.rule.Rule.{Rule}
use Rattle.patterns_soundness.specs.base.declared.rule.Rule.TheVariants.{OpenBranch, OpenLoop, StopLoop}

module _ (t : Operation) (n : ℕ) (insertion : Place) (x : ℕ) (o : Operation) (is : find x t ≡ Some o) (p : Option (List Edit)) (r : Rule) where
  pub when_stop_loop : r ≡ StopLoop → p ≡ stop_loop_at x t insertion → p ≡ rule r t n insertion o
  unfolding rule
  when_stop_loop k e = e ∙ ap (λ z. given z (λ o. stop_loop t insertion o)) is ∙ ap (λ r. rule r t n insertion o) (sym k)

-- what the store shows of an operation is its head
pub head_is : (x : ℕ) (t : Operation) (h : Header) (o : Operation) → Some h ≡ head_at x t → find x t ≡ Some o → head o ≡ h
head_is x t h o e f = (let shown : Some h ≡ Some (head o) = e ∙ ap (option_map (λ o. head o)) f in cc)

module _ (t : Operation) (n : ℕ) (insertion : Place) (o : Operation) (r : Rule) where
  pub never_open_branch : r ≡ OpenBranch → open_branch t insertion o ≡ None → None ≡ rule r t n insertion o
  unfolding rule
  never_open_branch k e = sym e ∙ ap (λ r. rule r t n insertion o) (sym k)

  pub never_open_loop : r ≡ OpenLoop → open_loop t insertion o ≡ None → None ≡ rule r t n insertion o
  unfolding rule
  never_open_loop k e = sym e ∙ ap (λ r. rule r t n insertion o) (sym k)
