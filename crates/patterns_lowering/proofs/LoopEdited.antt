-- The edits of loops and choices, in a context that grew.
use Rattle.std.proofs.Common.{◌≡◌, refl, ap, sym, ◌∙◌, subst, ℕ, List, [], ◌∷◌, length, map, true}
use Rattle.std.specs.List.{list_all}
use Rattle.std.proofs.lemmas.Bool.{ltb-true, lt-ltb, and_parts, and_from}
use Rattle.std.proofs.lemmas.List.{length-map}
use Rattle.ir_event.specs.types.Things.{ContextModel, IsExtendedBy}
use Rattle.ir_event.specs.types.Sound.{Holds, IsSound}
use Rattle.ir_event.specs.types.Terms.{type_term}
use Rattle.ir_event.proofs.of_types.Terms.{type_stays}
use Rattle.ir_event.specs.trees.declared.place.Place.{Place}
use Rattle.ir_event.specs.trees.Tree.{head}
use Rattle.ir_event.specs.trees.Meaning.{is_type}
use Rattle.ir_event.proofs.of_trees.Meanings.{stable}
use Rattle.patterns_soundness.specs.base.declared.edit.Edit.{Edit}
use Rattle.patterns_soundness.specs.base.Lists.{AllFit, edits_meaning}
use Rattle.patterns_soundness.specs.base.Lowering.{indices}
use Rattle.patterns_lowering.specs.declared.plan.IndexedLoop.{IndexedLoop}
use Rattle.patterns_lowering.specs.declared.plan.IndexedChoice.{IndexedChoice}
use Rattle.patterns_lowering.specs.declared.plan.Lowering.TheVariants as plan
use Rattle.patterns_lowering.specs.Lowered.{AreLowered, AreTypes}
use Rattle.patterns_lowering.specs.Meanings.{loop_lowered, choice_lowered, lowering_meaning}
use Rattle.patterns_lowering.specs.Numbers.{loop_edits, choice_edits}
use Rattle.patterns_lowering.specs.Plans.{IsIndexedLoop, IsIndexedChoice}
use Rattle.patterns_lowering.proofs.Edited.{indexed_stays}
use Rattle.patterns_lowering.proofs.Interning.{type_known}
use Rattle.patterns_lowering.proofs.Looped.{loop_meant, choice_meant}
use Rattle.patterns_lowering.proofs.LoopFitting.{loop_fits, choice_fits}

module _ (c d : ContextModel) (holds : Holds c) (g : IsExtendedBy c d) where
  types_known_still : (tys : List ℕ) → list_all (is_type c) tys ≡ true → list_all (is_type d) tys ≡ true
  types_known_still [] e = refl
  types_known_still (ty ∷ tys) e =
      let b = and_parts (is_type c ty) (list_all (is_type c) tys) e in
      and_from (is_type d ty) _ (lt-ltb ty (length d.types) (type_known c d ty g (ltb-true ty (length c.types) b.0))) (types_known_still tys b.1)

  types_still : (tys : List ℕ) → list_all (is_type c) tys ≡ true → map (type_term d) tys ≡ map (type_term c) tys
  types_still [] e = refl
  types_still (ty ∷ tys) e =
      let b = and_parts (is_type c ty) (list_all (is_type c) tys) e in
      λ i. type_stays c d ty g (ltb-true ty (length c.types) b.0) i ∷ types_still tys b.1 i

  pub loop_stays : (l : IndexedLoop) → IsIndexedLoop c l → IsIndexedLoop d l
  loop_stays l p = record {
    of = indexed_stays c d l.of holds g p.of;
    known = types_known_still l.arguments.items p.known;
    few = p.few;
    arguments = p.arguments ∙ sym (ap indices (types_still l.arguments.items p.known));
    handed = p.handed;
  }

  pub choice_stays : (i : IndexedChoice) → IsIndexedChoice c i → IsIndexedChoice d i
  choice_stays i p = record { of = indexed_stays c d i.of holds g p.of; operands = p.operands; first = p.first; second = p.second }

-- edits that were built in a context e, with ids from m on
module _ (d : ContextModel) (n : ℕ) (es : List Edit) (build : ContextModel → ℕ → List Edit) where
  pub rebuilt : (e : ContextModel) (m : ℕ) → e ≡ d → m ≡ n → es ≡ build e m → es ≡ build d n
  rebuilt e m same next is = subst (λ (k : ℕ). es ≡ build d k) next (subst (λ (f : ContextModel). es ≡ build f m) same is)

module _ (c d : ContextModel) (holds : Holds c) (sound : IsSound d) (g : IsExtendedBy c d) (wide index : ℕ) (fs : List (ℕ × ℕ)) (types : AreTypes d wide index) (n : ℕ) (insertion : Place) (es : List Edit) where
  module _ (l : IndexedLoop) (p : IsIndexedLoop c l) (are : AreLowered d (head l.of.op).properties fs) where
    abbrev build_loop : ContextModel → ℕ → List Edit
    build_loop f m = loop_edits f wide index fs m insertion l

    marks_as_many : length l.index_arguments.items ≡ length l.arguments.items
    marks_as_many = ap length p.arguments ∙ length-map (map (type_term c) l.arguments.items) _ ∙ length-map l.arguments.items (type_term c)

    pub loop_stands : (e : ContextModel) (m : ℕ) → e ≡ d → m ≡ n → es ≡ build_loop e m → edits_meaning d es ≡ lowering_meaning c n insertion (plan.Loop l)
    loop_stands e m same next is =
        ap (edits_meaning d) (rebuilt d n es build_loop e m same next is)
        ∙ loop_meant d wide index fs n insertion sound types l are marks_as_many
        ∙ (λ i. loop_lowered n insertion l.of.index_operands.items l.of.index_results.items (stable c d l.of.op holds g p.of.sound i) (types_still c d holds g l.arguments.items p.known i) l.index_arguments.items l.body)

    pub loop_fitting : (e : ContextModel) (m : ℕ) → e ≡ d → m ≡ n → es ≡ build_loop e m → AllFit d es
    loop_fitting e m same next is = subst (AllFit d) (sym (rebuilt d n es build_loop e m same next is)) (loop_fits d wide index fs n insertion l sound.holds types are (loop_stays c d holds g l p))

  module _ (i : IndexedChoice) (p : IsIndexedChoice c i) (are : AreLowered d (head i.of.op).properties fs) where
    abbrev build_choice : ContextModel → ℕ → List Edit
    build_choice f m = choice_edits f wide index fs m insertion i

    pub choice_stands : (e : ContextModel) (m : ℕ) → e ≡ d → m ≡ n → es ≡ build_choice e m → edits_meaning d es ≡ lowering_meaning c n insertion (plan.Choice i)
    choice_stands e m same next is =
        ap (edits_meaning d) (rebuilt d n es build_choice e m same next is)
        ∙ choice_meant d wide index fs n insertion sound types i are
        ∙ ap (λ o. choice_lowered n insertion i.of.index_operands.items i.of.index_results.items o i.first i.second) (stable c d i.of.op holds g p.of.sound)

    pub choice_fitting : (e : ContextModel) (m : ℕ) → e ≡ d → m ≡ n → es ≡ build_choice e m → AllFit d es
    choice_fitting e m same next is = subst (AllFit d) (sym (rebuilt d n es build_choice e m same next is)) (choice_fits d wide index fs n insertion i sound.holds types are (choice_stays c d holds g i p))
