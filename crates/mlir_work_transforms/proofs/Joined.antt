-- Proofs about resolving the items of a list one by one.
use Rattle.std.proofs.Common.{◌≡◌, refl, ap, sym, ◌∙◌, subst, Bool, true, false, List, [], ◌∷◌, ◌++◌, append-nil, append_assoc, Option, Some, None, option_map, ◌||◌}
use Rattle.std.specs.Prelude.{is_some, option_and_then}
use Rattle.std.proofs.lemmas.List.Elements.{All-nil, All-cons, All-head}
use Rattle.std.proofs.lemmas.Option.{none-some, same_Some}
use Rattle.mlir_work_transforms.specs.greedy.PatternSet.{MayUseAll, MayUse, OfRule}
use Rattle.mlir_work_transforms.proofs.Chosen.{named_are_tried}
use Rattle.mlir_work_transforms.specs.Rule.{Rule}
use Rattle.mlir_work_transforms.specs.Rewriting.{canonical_named}
use Rattle.mlir_work_transforms.specs.rewriter.Commands.{RuleName}
use Rattle.mlir_work_registry.specs.Registry.{RegistryModel, Kept}
use Rattle.mlir_work_transforms.specs.RuleLists.{Listed, each_listed, rules_and_patterns_in, listed_named, names_user_pattern, or_rule, pattern_named}

module _ (registry : RegistryModel) where
  abbrev onto : List RuleName → Listed → Option (List Listed)
  onto left l = option_map (λ ls. l ∷ ls) (each_listed registry left)

  -- an item that can be resolved, and an item that can't
  item_names : (name : RuleName) (left names : List RuleName) (l : Listed) → names ≡ name ∷ left → Some l ≡ listed_named registry name → each_listed registry names ≡ onto left l
  item_names name left names l e is = ap (λ (xs : List RuleName). each_listed registry xs) e ∙ sym (ap (option_and_then (onto left)) is)

  item_names_none : (name : RuleName) (left names : List RuleName) → names ≡ name ∷ left → None ≡ listed_named registry name → each_listed registry names ≡ None
  item_names_none name left names e is = ap (λ (xs : List RuleName). each_listed registry xs) e ∙ sym (ap (option_and_then (onto left)) is)

  still_some : (l : Listed) (o : Option (List Listed)) → is_some (option_map (λ ls. l ∷ ls) o) ≡ is_some o
  still_some l None = refl
  still_some l (Some ls) = refl

  pub names_on : (all : Bool) (name : RuleName) (left names : List RuleName) (l : Listed) → names ≡ name ∷ left → Some l ≡ listed_named registry name → all ≡ is_some (each_listed registry names) → all ≡ is_some (each_listed registry left)
  names_on all name left names l e is h = h ∙ ap (λ (o : Option (List Listed)). is_some o) (item_names name left names l e is) ∙ still_some l (each_listed registry left)

  pub names_none : (name : RuleName) (left names : List RuleName) → names ≡ name ∷ left → None ≡ listed_named registry name → is_some (each_listed registry names) ≡ false
  names_none name left names e is = ap (λ (o : Option (List Listed)). is_some o) (item_names_none name left names e is)

  -- ---- the items before the remaining ones
  abbrev pub joined : List Listed → Option (List Listed) → Option (List Listed)
  joined done rest = option_map (λ ls. done ++ ls) rest

  pub none_joined : (o : Option (List Listed)) → joined [] o ≡ o
  none_joined None = refl
  none_joined (Some ls) = refl

  one_joined : (done : List Listed) (l : Listed) (o : Option (List Listed)) → joined done (option_map (λ ls. l ∷ ls) o) ≡ joined (done ++ l ∷ []) o
  one_joined done l None = refl
  one_joined done l (Some ls) = ap Some (sym (append_assoc done (l ∷ []) ls))

  pub found_more : (all : Option (List Listed)) (name : RuleName) (left names : List RuleName) (l : Listed) (done more : List Listed) → names ≡ name ∷ left → Some l ≡ listed_named registry name → joined done (each_listed registry names) ≡ all → more ≡ done ++ l ∷ [] → joined more (each_listed registry left) ≡ all
  found_more all name left names l done more e is h added =
      ap (λ (ls : List Listed). joined ls (each_listed registry left)) added
      ∙ sym (one_joined done l (each_listed registry left))
      ∙ ap (joined done) (sym (item_names name left names l e is)) ∙ h

  pub found_none : (all : Option (List Listed)) (name : RuleName) (left names : List RuleName) (done : List Listed) → names ≡ name ∷ left → None ≡ listed_named registry name → joined done (each_listed registry names) ≡ all → None ≡ all
  found_none all name left names done e is h = sym (ap (joined done) (item_names_none name left names e is)) ∙ h

  pub found_all : (all : Option (List Listed)) (done : List Listed) → joined done (Some []) ≡ all → Some done ≡ all
  found_all all done h = ap Some (sym (append-nil done)) ∙ h

  pub is_none_of : (o : Option (List Listed)) (b : Bool) → b ≡ is_some o → b ≡ false → None ≡ o
  is_none_of None b e f = refl
  is_none_of (Some ls) b e f = absurd (let z : true ≡ false = sym e ∙ f in cc)

  -- ---- lists with a pattern
  pub owns_on : (name : RuleName) (left names : List RuleName) (all : Bool) → names ≡ name ∷ left → is_some (pattern_named name registry) ≡ false → all ≡ names_user_pattern registry names → all ≡ names_user_pattern registry left
  owns_on name left names all e other h = h ∙ ap (λ (xs : List RuleName). names_user_pattern registry xs) e ∙ ap (λ b. b || names_user_pattern registry left) other

  pub owns_here : (name : RuleName) (left names : List RuleName) → names ≡ name ∷ left → is_some (pattern_named name registry) ≡ true → names_user_pattern registry names ≡ true
  owns_here name left names e own = ap (λ (xs : List RuleName). names_user_pattern registry xs) e ∙ ap (λ b. b || names_user_pattern registry left) own

  -- ---- resolved items may be applied
  -- a rule by its name is a list of that rule alone
  rule_may : (name : RuleName) (r : Rule) → canonical_named name ≡ Some r → MayUse (OfRule r)
  rule_may name r e =
      All-head (λ q. MayUse (OfRule q)) r []
      (named_are_tried (name ∷ []) (r ∷ []) (sym (ap (option_and_then (λ q. option_map (λ qs. q ∷ qs) (Some []))) e)))

  one_may : (name : RuleName) (l : Listed) → listed_named registry name ≡ Some l → MayUse l.rule_or_pattern
  one_may name l e = by_own (pattern_named name registry) e
    where
      by_rule : (o : Option Rule) → canonical_named name ≡ o → option_map (λ r. record { rule_or_pattern = OfRule r; name = [] }) o ≡ Some l → MayUse l.rule_or_pattern
      by_rule None i e = absurd (none-some l e)
      by_rule (Some r) i e = subst (λ (x : Listed). MayUse x.rule_or_pattern) (same_Some _ _ e) (rule_may name r i)

      by_own : (o : Option Kept) → or_rule o name ≡ Some l → MayUse l.rule_or_pattern
      by_own None e = by_rule (canonical_named name) refl e
      by_own (Some k) e = subst (λ (x : Listed). MayUse x.rule_or_pattern) (same_Some _ _ e) tt

  pub all_may : (names : List RuleName) (ls : List Listed) → each_listed registry names ≡ Some ls → MayUseAll (rules_and_patterns_in ls)
  all_may [] ls e = subst (λ (xs : List Listed). MayUseAll (rules_and_patterns_in xs)) (same_Some _ _ e) (All-nil MayUse)
  all_may (name ∷ names) ls e = go (listed_named registry name) refl (each_listed registry names) refl (λ xs h. all_may names xs h) e
    where
      go : (a : Option Listed) → listed_named registry name ≡ a → (o : Option (List Listed)) → each_listed registry names ≡ o → ((xs : List Listed) → each_listed registry names ≡ Some xs → MayUseAll (rules_and_patterns_in xs)) → option_and_then (λ l. option_map (λ xs. l ∷ xs) o) a ≡ Some ls → MayUseAll (rules_and_patterns_in ls)
      go None i o j rest e = absurd (none-some ls e)
      go (Some l) i None j rest e = absurd (none-some ls e)
      go (Some l) i (Some xs) j rest e = subst (λ (ys : List Listed). MayUseAll (rules_and_patterns_in ys)) (same_Some _ _ e) (All-cons MayUse l.rule_or_pattern (rules_and_patterns_in xs) (one_may name l i) (rest xs j))
