-- Rules by their numbers, one by one.
use Rattle.std.proofs.Common.{◌≡◌, refl, ap, sym, ◌∙◌, ℕ, List, [], ◌∷◌, ◌++◌, append-nil, append_assoc, Option, Some, None, option_map}
use Rattle.std.specs.Prelude.{option_and_then}
use Rattle.conversion.specs.Converting.{rules_of}
use Rattle.conversion.specs.Rule.{Rule}
use Rattle.conversion.specs.RuleNames.{by_number}

-- the rules found so far, followed by those of the remaining numbers
abbrev pub joined : List Rule → Option (List Rule) → Option (List Rule)
joined done rest = option_map (λ rs. done ++ rs) rest

pub none_joined : (o : Option (List Rule)) → joined [] o ≡ o
none_joined None = refl
none_joined (Some rs) = refl

pub rules_none : (all : List ℕ) → joined [] (rules_of all) ≡ rules_of all
rules_none all = none_joined (rules_of all)

pub one_joined : (done : List Rule) (r : Rule) (o : Option (List Rule)) → joined done (option_map (λ rs. r ∷ rs) o) ≡ joined (done ++ r ∷ []) o
one_joined done r None = refl
one_joined done r (Some rs) = ap Some (sym (append_assoc done (r ∷ []) rs))

-- the first number is a rule's
pub rules_more : (all : Option (List Rule)) (n : ℕ) (left : List ℕ) (r : Rule) (done more : List Rule) → joined done (rules_of (n ∷ left)) ≡ all → Some r ≡ by_number n → more ≡ done ++ r ∷ [] → joined more (rules_of left) ≡ all
rules_more all n left r done more h is e =
    ap (λ rs. joined rs (rules_of left)) e ∙ sym (one_joined done r (rules_of left))
    ∙ ap (λ o. joined done (option_and_then (λ r. option_map (λ rs. r ∷ rs) (rules_of left)) o)) is ∙ h

-- the first number isn't a rule's
pub rules_stop : (all : Option (List Rule)) (n : ℕ) (left : List ℕ) (done : List Rule) → joined done (rules_of (n ∷ left)) ≡ all → None ≡ by_number n → None ≡ all
rules_stop all n left done h is = ap (λ o. joined done (option_and_then (λ r. option_map (λ rs. r ∷ rs) (rules_of left)) o)) is ∙ h

-- no number is left
pub rules_done : (all : Option (List Rule)) (done : List Rule) → joined done (rules_of []) ≡ all → Some done ≡ all
rules_done all done h = ap Some (sym (append-nil done)) ∙ h
