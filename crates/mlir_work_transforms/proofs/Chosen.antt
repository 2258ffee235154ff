-- Proofs about the rule list of a command.
use Rattle.std.proofs.Common.{◌≡◌, refl, ap, sym, ◌∙◌, subst, Bool, true, false, cond, List, [], ◌∷◌, ◌++◌, append-nil, inl, inr, Option, Some, None, option_map}
use Rattle.std.specs.Prelude.{is_some, option_and_then}
use Rattle.std.proofs.lemmas.List.Elements.{All-nil, All-cons}
use Rattle.std.proofs.lemmas.Bool.{cases_Bool}
use Rattle.conversion.specs.rewriter.Commands.{RuleName}
use Rattle.conversion.specs.patterns.RuleNames.{is_canonical}
use Rattle.conversion.specs.patterns.Rule.{Rule}
use Rattle.conversion.specs.patterns.Rows.{AreCanonical}
use Rattle.mlir_work_transforms.specs.Applying.{rule_named}
use Rattle.mlir_work_transforms.proofs.Ruled.{joined, one_joined}
use Rattle.mlir_work_transforms.specs.Rewriting.{canonical_named, if_canonical, each_rule}

abbrev onto : List RuleName → Rule → Option (List Rule)
onto left r = option_map (λ rs. r ∷ rs) (each_rule left)

-- an item that names a rule, and an item that doesn't
pub item_names : (name : RuleName) (left names : List RuleName) (r : Rule) → names ≡ name ∷ left → Some r ≡ canonical_named name → each_rule names ≡ onto left r
item_names name left names r e is = ap (λ (xs : List RuleName). each_rule xs) e ∙ sym (ap (option_and_then (onto left)) is)

pub item_names_none : (name : RuleName) (left names : List RuleName) → names ≡ name ∷ left → None ≡ canonical_named name → each_rule names ≡ None
item_names_none name left names e is = ap (λ (xs : List RuleName). each_rule xs) e ∙ sym (ap (option_and_then (onto left)) is)

-- adding a rule doesn't change whether all items name rules
still_some : (r : Rule) (o : Option (List Rule)) → is_some (option_map (λ rs. r ∷ rs) o) ≡ is_some o
still_some r None = refl
still_some r (Some rs) = refl

pub names_on : (all : Bool) (name : RuleName) (left names : List RuleName) (r : Rule) → names ≡ name ∷ left → Some r ≡ canonical_named name → all ≡ is_some (each_rule names) → all ≡ is_some (each_rule left)
names_on all name left names r e is h = h ∙ ap (λ (o : Option (List Rule)). is_some o) (item_names name left names r e is) ∙ still_some r (each_rule left)

-- one more item names a rule
pub found_more : (all : Option (List Rule)) (name : RuleName) (left names : List RuleName) (r : Rule) (done more : List Rule) → names ≡ name ∷ left → Some r ≡ canonical_named name → joined done (each_rule names) ≡ all → more ≡ done ++ r ∷ [] → joined more (each_rule left) ≡ all
found_more all name left names r done more e is h added =
    ap (λ (rs : List Rule). joined rs (each_rule left)) added
    ∙ sym (one_joined done r (each_rule left))
    ∙ ap (joined done) (sym (item_names name left names r e is)) ∙ h

-- an item names no rule, so that the list is refused
pub found_none : (all : Option (List Rule)) (name : RuleName) (left names : List RuleName) (done : List Rule) → names ≡ name ∷ left → None ≡ canonical_named name → joined done (each_rule names) ≡ all → None ≡ all
found_none all name left names done e is h = sym (ap (joined done) (item_names_none name left names e is)) ∙ h

pub found_all : (all : Option (List Rule)) (done : List Rule) → joined done (Some []) ≡ all → Some done ≡ all
found_all all done h = ap Some (sym (append-nil done)) ∙ h

-- an option that isn't `Some` is `None`
pub is_none_of : (o : Option (List Rule)) (b : Bool) → b ≡ is_some o → b ≡ false → None ≡ o
is_none_of None b e f = refl
is_none_of (Some rs) b e f = absurd (let z : true ≡ false = sym e ∙ f in cc)

-- each named rule is a canonicalization rule
abbrev IsTried : Rule → Type 0
IsTried r = is_canonical r ≡ true

if_tried : (o : Option Rule) (r : Rule) → option_and_then if_canonical o ≡ Some r → IsTried r
if_tried None r e = absurd cc
if_tried (Some q) r e = elim (cases_Bool (is_canonical q)) [
  | inl k ↦ (let same : q ≡ r = of_some (sym (ap (λ b. cond b (Some q) None) k) ∙ e) in ap is_canonical (sym same) ∙ k)
  | inr k ↦ absurd (let z : None ≡ Some r = sym (ap (λ b. cond b (Some q) None) k) ∙ e in cc)
]
  where
    of_some : Some q ≡ Some r → q ≡ r
    of_some h = cc

pub named_are_tried : (names : List RuleName) (rs : List Rule) → Some rs ≡ each_rule names → AreCanonical rs
named_are_tried [] rs e = (let none : rs ≡ [] = cc in subst AreCanonical (sym none) (All-nil IsTried))
named_are_tried (name ∷ names) rs e = by (canonical_named name) refl (each_rule names) refl (λ xs h. named_are_tried names xs h) e
  where
    by : (a : Option Rule) → canonical_named name ≡ a → (o : Option (List Rule)) → each_rule names ≡ o → ((xs : List Rule) → Some xs ≡ each_rule names → AreCanonical xs) → Some rs ≡ option_and_then (λ r. option_map (λ xs. r ∷ xs) o) a → AreCanonical rs
    by None i o j rest h = absurd cc
    by (Some r) i None j rest h = absurd cc
    by (Some r) i (Some xs) j rest h = (let is : rs ≡ r ∷ xs = cc in subst AreCanonical (sym is) (All-cons IsTried r xs (if_tried (rule_named name) r i) (rest xs (sym j))))
