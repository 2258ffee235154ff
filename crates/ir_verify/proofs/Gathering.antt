-- The context that rules read is the gathered context, in terms of contents.
use Rattle.std.proofs.Common.{◌≡◌, refl, ap, ◌∙◌, ℕ, List, [], ◌∷◌, map, Option, Some, None}
use Rattle.std.specs.Prelude.{option_map}
use Rattle.ir_types.specs.Things.{ContextModel}
use Rattle.ir_types.specs.Terms.{name_term, type_term, attr_term}
use Rattle.ir_verify_base.specs.OpContext.{OpContext}
use Rattle.ir_verify_base.specs.ParentContext.{ParentContext}
use Rattle.ir_verify_base.specs.Mapped.{map_outer}
use Rattle.ir_verify_base.specs.Gathered.{gathered_in, outer_in as gathered_outer}
use Rattle.ir_verify_base.specs.Numbers.{typed, node_in, outer_in, around_in}
use Rattle.ir_verify.specs.declared.rules.RuleSet.{RuleSet}
use Rattle.ir_verify.specs.declared.finding.Finding.{Finding}
use Rattle.ir_verify.specs.Sets.{set_of, finding_of}

types_gathered : (c : ContextModel) (ts : List ℕ) → typed c ts ≡ map (option_map (type_term c)) (map Some ts)
types_gathered c [] = refl
types_gathered c (t ∷ ts) = ap (λ l. Some (type_term c t) ∷ l) (types_gathered c ts)

outer_gathered : (c : ContextModel) (o : Option ParentContext) → option_map (outer_in c) o ≡ option_map (map_outer (name_term c) (type_term c) (attr_term c)) (option_map gathered_outer o)
outer_gathered c None = refl
outer_gathered c (Some o) = refl

pub gathered_around : (c : ContextModel) (a : OpContext) → around_in c a ≡ gathered_in c a
gathered_around c a = λ i. record {
  node = node_in c a.node;
  lasts = map (option_map (name_term c)) a.lasts.items;
  types = types_gathered c a.types.items i;
  outer = outer_gathered c a.outer i;
}

pub gathered_reported : (c : ContextModel) (a : OpContext) (r : RuleSet) → r ≡ set_of (around_in c a) → r ≡ set_of (gathered_in c a)
gathered_reported c a r e = e ∙ ap set_of (gathered_around c a)

pub gathered_beyond : (c : ContextModel) (a : OpContext) (r : Finding) → r ≡ finding_of (around_in c a) → r ≡ finding_of (gathered_in c a)
gathered_beyond c a r e = e ∙ ap finding_of (gathered_around c a)
