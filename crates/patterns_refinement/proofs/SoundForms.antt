-- The form of each pattern that a text defines passes the tests of the laws, except that on signed divisions.
use Rattle.std.proofs.Common.{◌≡◌, true, List, [], ◌∷◌, map, Some, Ok, refl, sym, ap, subst, ◌∙◌}
use Rattle.std.specs.List.{list_all}
use Rattle.std.proofs.lemmas.Bool.{and_from, and_parts}
use Rattle.user_patterns_text.specs.Parts as parts
use Rattle.user_patterns_data.specs.declared.pattern.PatternType.{PatternType}
use Rattle.user_patterns_data.specs.declared.pattern.PatternOp.{PatternOp}
use Rattle.user_patterns_data.specs.Shapes.{PatternModel}
use Rattle.user_patterns_data.specs.WellFormed.{is_well_formed}
use Rattle.user_patterns_build.specs.CanBuild.{can_build, has_name}
use Rattle.user_patterns_build.specs.Unified.{pattern_op_in, ready, united}
use Rattle.user_patterns_build.proofs.Numbered.{is_ready}
use Rattle.user_patterns_sema.specs.Sema.{Sema, places_of, wellformed}
use Rattle.patterns_refinement.specs.ForOutcomes.{has_widths, is_had, numbered}
use Rattle.patterns_refinement.specs.ByForm.{is_kinded_by_form}
use Rattle.patterns_refinement.specs.UsedTypes.{uses_only}
use Rattle.patterns_refinement.proofs.SemaSteps.{held}
use Rattle.patterns_refinement.proofs.SemaForm.{FromParts, pattern_from, wellformed_holds}
use Rattle.patterns_refinement.proofs.SemaPlaces.{uses, widths}
use Rattle.patterns_refinement.proofs.SemaKinded.{kinded}

-- the tests on names and types
pub record SoundTypes (p : PatternModel) : Type 0 where
  pub named : list_all (λ (o : PatternOp). has_name o.form) p.old ≡ true
  pub widths : has_widths p ≡ true
  pub uses : uses_only (is_had p) p ≡ true
  pub kinded : is_kinded_by_form (numbered p) ≡ true

named_in : (ks : List PatternType) (os : List PatternOp) → list_all (λ (o : PatternOp). has_name o.form) os ≡ true → list_all (λ (o : PatternOp). has_name o.form) (map (pattern_op_in ks) os) ≡ true
named_in ks [] e = refl
named_in ks (o ∷ os) e =
    let q = and_parts (has_name o.form) (list_all (λ (o : PatternOp). has_name o.form) os) e in
    and_from (has_name o.form) (list_all (λ (o : PatternOp). has_name o.form) (map (pattern_op_in ks) os)) q.0 (named_in ks os q.1)

sound_united : (s : PatternModel) → FromParts s → is_well_formed (united s) ≡ true → can_build (united s) ≡ true → SoundTypes (united s)
sound_united s from wf cb = subst (λ s. is_well_formed (united s) ≡ true → can_build (united s) ≡ true → SoundTypes (united s)) (sym same) by wf cb
  where
    f : Sema
    f = from.state

    same : s ≡ pattern_from (places_of from.known) from.root from.result (record from.state { type_constraints = from.ended.settles.list })
    same = from.ended.is ∙ ap (pattern_from (places_of from.known) from.root from.result) from.ended.settles.is

    by : is_well_formed (united (pattern_from (places_of from.known) from.root from.result (record from.state { type_constraints = from.ended.settles.list }))) ≡ true
        → can_build (united (pattern_from (places_of from.known) from.root from.result (record from.state { type_constraints = from.ended.settles.list }))) ≡ true
        → SoundTypes (united (pattern_from (places_of from.known) from.root from.result (record from.state { type_constraints = from.ended.settles.list })))
    by wf cb = record {
      named = named_in _ from.state.old from.analyzed.named;
      widths = widths (places_of from.known) from.parts from.root from.result from.state from.analyzed from.ended.settles.list from.ended.settles.determined;
      uses = uses (places_of from.known) from.parts from.root from.result from.state from.analyzed from.ended.settles.list from.ended.settles.determined wf;
      kinded = kinded from.parts from.known from.counts from.root from.result from.state from.analyzed from.ended.settles.list from.ended.settles.more from.ended.settles.determined wf cb;
    }

-- the pattern of a text's parts, with one number for equal types
pub ready_sound : (p : parts.Pattern) (s q : PatternModel) → wellformed p ≡ Ok s → ready s ≡ Some q → SoundTypes q
ready_sound p s q e r =
    let from = held FromParts (wellformed p) s (wellformed_holds p) e in
    let is = is_ready s q r in
    subst SoundTypes (sym is.0) (sound_united s from (subst (λ q. is_well_formed q ≡ true) is.0 is.1) (subst (λ q. can_build q ≡ true) is.0 is.2))
