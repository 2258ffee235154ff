-- No rule applies at the root.
use Rattle.std.proofs.Common.{◌≡◌, refl, ap, sym, ◌∙◌, ℕ, List, [], ◌∷◌, Option, Some, None}
use Rattle.std.specs.Prelude.{option_map}
use Rattle.ir_event.specs.types.Terms.{TypeTerm, AttrTerm}
use Rattle.ir_event.specs.trees.declared.place.Place.{Place}
use Rattle.ir_event.specs.trees.Tree.{head}
use Rattle.ir_event.specs.trees.Ids.{HasDistinctIds, find}
use Rattle.ir_event.specs.trees.Places.{place_of}
use Rattle.ir_event.specs.trees.Meaning.{Operation}
use Rattle.ir_event.specs.tree_laws.Stands.{OpWithPathOf, place_in}
use Rattle.ir_event.proofs.of_tree_laws.Members.{stand, itself, same_stand}
use Rattle.ir_event.proofs.of_tree_laws.Around.{member_of_place}
use Rattle.ir_event.specs.Modules.{Module}
use Rattle.patterns_base.specs.declared.rule.Rule.{Rule}
use Rattle.patterns_base.specs.Keeps.{given}
use Rattle.patterns_base.specs.Looks.{when, insertion_point, insertion_of}
use Rattle.patterns_base.specs.Rules.{rule}
use Rattle.patterns_base.specs.Rewrites.{none, edits_of, rewrite_by, rewrite_of, eligible}
use Rattle.patterns_base.specs.Canonicalization.{or_else, first_rule, greedy_rules, highest_priority}

-- the root has no place
pub unplaced : (t : Operation) → HasDistinctIds t → place_of (head t).id t ≡ None
unplaced t d = go (place_of (head t).id t) refl
  where
    go : (a : Option Place) → place_of (head t).id t ≡ a → place_of (head t).id t ≡ None
    go None e = e
    go (Some place) e =
        let u = member_of_place (head t).id place t e in
        let same = same_stand t d u.0 (stand t []) u.1 (itself [] t) u.2 in
        let no_place : None ≡ Some place = sym (ap (λ (s : OpWithPathOf (List ℕ) TypeTerm AttrTerm). place_in s.path) same) ∙ u.3 in
        absurd cc

pub no_edits : (r : Rule) (m : Module) → HasDistinctIds m.tree → edits_of r m (head m.tree).id ≡ None
unfolding edits_of
no_edits r m d = go (find (head m.tree).id m.tree) (ap (option_map (insertion_point (head m.tree).id)) (unplaced m.tree d))
  where
    go : (a : Option Operation) → insertion_of (head m.tree).id m.tree ≡ None → given a (λ o. given (insertion_of (head m.tree).id m.tree) (λ insertion. when (eligible r m.tree (head o)) (rule r m.tree m.next insertion o))) ≡ None
    go None e = refl
    go (Some o) e = ap (λ f. given f (λ insertion. when (eligible r m.tree (head o)) (rule r m.tree m.next insertion o))) e

pub no_rules : (rs : List Rule) (m : Module) → HasDistinctIds m.tree → first_rule rs m (head m.tree).id ≡ none
unfolding first_rule rewrite_of
no_rules [] m d = refl
no_rules (r ∷ rs) m d = ap (λ es. or_else (rewrite_by es m) (first_rule rs m (head m.tree).id)) (no_edits r m d) ∙ no_rules rs m d

pub rootless : (m : Module) → HasDistinctIds m.tree → highest_priority m (head m.tree).id ≡ none
rootless m d = no_rules greedy_rules m d
