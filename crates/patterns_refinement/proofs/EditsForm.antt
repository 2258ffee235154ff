-- Edits that a well-formed module accepts leave the module well-formed.
use Rattle.std.proofs.Common.{◌≡◌, subst, ap, List, [], ◌∷◌, ◌++◌, map, None, append-nil}
use Rattle.std.proofs.Common.{Bool, true}
use Rattle.std.specs.Option.{option_eq}
use Rattle.ir_types.specs.declared.refusal.Refusal.{Refusal}
use Rattle.ir_types.specs.declared.refusal.Refusal.TheVariants.{NoSuchValue, NotVisible, TypeDiffers}
use Rattle.ir_types.specs.SameTypes.{same_type}
use Rattle.ir_types.specs.Words.{is_isolated}
use Rattle.ir_tree.specs.declared.value.Value.{Value}
use Rattle.ir_tree.specs.declared.place.Place.{Place}
use Rattle.ir_tree.specs.Tree.{regions, no_regions}
use Rattle.ir_tree.specs.WellFormed.{IsWellFormed}
use Rattle.ir_tree.specs.Meaning.{Operation}
use Rattle.ir_tree_laws.specs.Reasons.{hold_none, unless, is_visible_to_users}
use Rattle.ir_tree_laws.specs.Values.{has_value, type_of_value}
use Rattle.ir_tree_laws.proofs.HeadForm.{replaced_keeps, set_operand_keeps}
use Rattle.ir_tree_laws.proofs.Reasoned.{no_unless}
use Rattle.ir_tree_laws.proofs.WellKept.{put_keeps}
use Rattle.ir_event.specs.Modules.{Module}
use Rattle.rewriter_machine.specs.Contents.{Edit, all_edited, edit_reason, edited, tests}
use Rattle.rewriter_machine.specs.Edits.{Erase, Insert, Make, Move, Replace, SetAttr, SetOperand, DropAttr}
use Rattle.rewriter_machine.specs.Erasing.{erase_order}
use Rattle.rewriter_machine.proofs.Erased.{erased_wellformed, erased_whole}
use Rattle.patterns_base.specs.Lists.{Free}
use Rattle.patterns_refinement.proofs.Rewritten.{AllBare}

-- the edits of rules on values: new operations have no regions
abbrev pub IsPlain : Edit → Type 0
IsPlain (Make place o) = regions o ≡ no_regions
IsPlain (Erase x) = Unit {0}
IsPlain (SetOperand x k v) = Unit {0}
IsPlain (Replace old new) = Unit {0}
IsPlain _ = ⊥

abbrev pub ArePlain : List Edit → Type 0
ArePlain [] = Unit {0}
ArePlain (e ∷ es) = IsPlain e × ArePlain es

-- the reasons why no value is replaced by another: both have one type, and the new value dominates the users of the
-- old one
four_hold : (a b c d : Bool) (p q r s : Refusal) → unless a p (unless b q (unless c r (unless d s None))) ≡ None → (a ≡ true) × (b ≡ true) × (c ≡ true) × (d ≡ true)
four_hold a b c d p q r s e =
    let f = no_unless a p (unless b q (unless c r (unless d s None))) e in
    let g = no_unless b q (unless c r (unless d s None)) f.1 in
    let h = no_unless c r (unless d s None) g.1 in
    (f.0, g.0, h.0, (no_unless d s None h.1).0)

pub replaced_parts : (old new : Value) (m : Module) → edit_reason (Replace old new) m ≡ None
    → (has_value old m.tree ≡ true) × (has_value new m.tree ≡ true) × (option_eq same_type (type_of_value old m.tree) (type_of_value new m.tree) ≡ true) × (is_visible_to_users is_isolated old new m.tree ≡ true)
replaced_parts old new m r =
    four_hold (has_value old m.tree) (has_value new m.tree) (option_eq same_type (type_of_value old m.tree) (type_of_value new m.tree)) (is_visible_to_users is_isolated old new m.tree) NoSuchValue NoSuchValue TypeDiffers NotVisible r

one_wellformed : (e : Edit) (m : Module) → IsPlain e → IsWellFormed is_isolated m → edit_reason e m ≡ None → IsWellFormed is_isolated (edited e m)
one_wellformed (Make place o) m p w r = put_keeps is_isolated place o m w (ap hold_none p) r
one_wellformed (Erase x) m p w r =
    subst (λ (t : Operation). IsWellFormed is_isolated (record m { tree = t })) (erased_whole tests x m w r)
    (erased_wellformed tests x m w r (erase_order x m.tree) [] (append-nil (erase_order x m.tree)))
one_wellformed (SetOperand x k v) m p w r = set_operand_keeps is_isolated x k v m w r
one_wellformed (Replace old new) m p w r = replaced_keeps is_isolated old new m w (replaced_parts old new m r).3
one_wellformed (Insert place o) m p w r = absurd p
one_wellformed (Move x place) m p w r = absurd p
one_wellformed (SetAttr x k a) m p w r = absurd p
one_wellformed (DropAttr x k) m p w r = absurd p

pub all_wellformed : (es : List Edit) (m : Module) → ArePlain es → IsWellFormed is_isolated m → Free es m → IsWellFormed is_isolated (all_edited es m)
all_wellformed [] m p w f = w
all_wellformed (e ∷ es) m p w f = all_wellformed es (edited e m) p.1 (one_wellformed e m p.0 w f.0) f.1

-- new operations without regions, and then other edits
pub made_plain : (insertion : Place) (os : List Operation) (es : List Edit) → AllBare os → ArePlain es → ArePlain (map (λ o. Make insertion o) os ++ es)
made_plain insertion [] es b p = p
made_plain insertion (o ∷ os) es b p = (b.0, made_plain insertion os es b.1 p)
