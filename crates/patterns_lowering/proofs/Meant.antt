-- The meaning of edits with interned numbers.
use Rattle.std.proofs.Common.{◌≡◌, refl, ap, sym, ◌∙◌, ℕ, ◌+◌, List, [], ◌∷◌, ◌++◌, map, Bool, true, false}
use Rattle.ir_event.specs.types.Things.{ContextModel}
use Rattle.ir_event.specs.types.Sound.{IsSound}
use Rattle.ir_event.specs.types.Terms.{TypeTerm, Index, AttrTerm, name_term, type_term, attr_term}
use Rattle.ir_event.specs.types.declared.word.Word.TheVariants.{BuiltinUnrealizedConversionCast}
use Rattle.ir_verify_base.proofs.Words.{word_named}
use Rattle.ir_event.specs.trees.declared.value.Value.{Value}
use Rattle.ir_event.specs.trees.declared.value.Value.TheVariants.{Result}
use Rattle.ir_event.specs.trees.declared.place.Place.{Place}
use Rattle.ir_event.specs.trees.Tree.{Op, op, no_regions, head}
use Rattle.ir_event.specs.trees.Maps.{map_entry}
use Rattle.ir_event.specs.trees.Meaning.{meaning}
use Rattle.patterns_soundness.specs.base.Edits as edit
use Rattle.patterns_soundness.specs.base.declared.edit.Edit.TheVariants as coded
use Rattle.patterns_soundness.specs.base.Lists.{edits_meaning}
use Rattle.patterns_soundness.specs.base.Made.{i64}
use Rattle.patterns_soundness.specs.base.Makes.{results_from, replacing}
use Rattle.patterns_soundness.specs.base.Lowering.{bridges, crossed, marked, lowered_attr, lowered_op}
use Rattle.patterns_lowering.specs.Lowered.{AreLowered, AreTypes}
use Rattle.patterns_lowering.specs.Numbers.{bridge_edits, replace_edits, op_lowered, give_edits, operation_edits}
use Rattle.patterns_lowering.specs.Meanings.{results_given, operation_lowered}
use Rattle.patterns_lowering.proofs.Typed.{types_meant, regions_meant}
use Rattle.patterns_soundness.proofs.of_base.EditFacts.{edits_more}

module _ (c : ContextModel) (sound : IsSound c) where
  pub bridges_meant : (ty : ℕ) (u : TypeTerm) (place : Place) (ms : List Bool) (vs : List Value) → type_term c ty ≡ u → edits_meaning c (bridge_edits ty place ms vs) ≡ bridges u place ms vs
  bridges_meant ty u place [] vs e = refl
  bridges_meant ty u place (true ∷ ms) [] e = refl
  bridges_meant ty u place (false ∷ ms) [] e = refl
  bridges_meant ty u place (false ∷ ms) (v ∷ vs) e = bridges_meant ty u place ms vs e
  bridges_meant ty u place (true ∷ ms) (v ∷ vs) e =
      λ i. edit.Make place (op (record { id = 0; name = word_named c BuiltinUnrealizedConversionCast sound i; operands = v ∷ []; results = e i ∷ []; properties = []; attributes = [] }) no_regions)
      ∷ bridges_meant ty u place ms vs e i

pub replaces_meant : (c : ContextModel) (vs ws : List Value) → edits_meaning c (replace_edits vs ws) ≡ replacing vs ws
replaces_meant c [] ws = refl
replaces_meant c (v ∷ vs) [] = refl
replaces_meant c (v ∷ vs) (w ∷ ws) = ap (λ l. edit.Replace v w ∷ l) (replaces_meant c vs ws)

-- entries with i64 for index
pub entries_meant : (c : ContextModel) (es fs : List (ℕ × ℕ)) → AreLowered c es fs
    → map (map_entry (name_term c) (attr_term c)) fs ≡ map (λ (e : List ℕ × AttrTerm). (e.0, lowered_attr e.1)) (map (map_entry (name_term c) (attr_term c)) es)
entries_meant c [] [] h = refl
entries_meant c [] (f ∷ fs) h = absurd h
entries_meant c (e ∷ es) [] h = absurd h
entries_meant c (e ∷ es) (f ∷ fs) h = λ i. (name_term c (h.0.key i), h.0.is i) ∷ entries_meant c es fs h.1 i

-- the operation on i64
pub op_meant : (c : ContextModel) (wide : ℕ) (fs : List (ℕ × ℕ)) (vs : List Value) (o : Op) → type_term c wide ≡ i64 → AreLowered c (head o).properties fs
    → meaning c (op_lowered c wide fs vs o) ≡ lowered_op (meaning c o) vs
op_meant c wide fs vs (op h rs) e ps =
    λ i. op
    (record {
      id = h.id;
      name = name_term c h.name;
      operands = vs;
      results = types_meant c wide e h.results i;
      properties = entries_meant c h.properties fs ps i;
      attributes = map (map_entry (name_term c) (attr_term c)) h.attributes;
    })
    (regions_meant c wide e rs i)

-- results depend only on their number
results_mapped : {X Y : Type 0} (f : X → Y) (x k : ℕ) (is : List X) → results_from x k (map f is) ≡ results_from x k is
results_mapped f x k [] = refl
results_mapped f x k (i ∷ is) = ap (λ l. Result x k ∷ l) (results_mapped f x (k + 1) is)

pub give_meant : (c : ContextModel) (index : ℕ) (insertion : Place) (n : ℕ) (operands results : List Bool) (o : Op) (y k : ℕ) → IsSound c → type_term c index ≡ Index
    → edits_meaning c (give_edits index insertion results o y k) ≡ results_given n insertion operands results (meaning c o) y k
give_meant c index insertion n operands results (op h rs) y k sound is =
    let vs = results_from y 0 h.results in
    let ws = results_from h.id 0 h.results in
    edits_more c (bridge_edits index insertion results vs ++ replace_edits ws (crossed k results vs)) (coded.Erase h.id ∷ [])
    ∙ ap (λ l. l ++ edit.Erase h.id ∷ []) (edits_more c (bridge_edits index insertion results vs) (replace_edits ws (crossed k results vs)))
    ∙ (λ i. bridges_meant c sound index Index insertion results vs is i ++ replaces_meant c ws (crossed k results vs) i ++ edit.Erase h.id ∷ [])
    ∙ (λ i. let us = sym (results_mapped (type_term c) y 0 h.results) i in bridges Index insertion results us ++ replacing (sym (results_mapped (type_term c) h.id 0 h.results) i) (crossed k results us) ++ edit.Erase h.id ∷ [])

pub operation_meant : (c : ContextModel) (wide index : ℕ) (fs : List (ℕ × ℕ)) (n : ℕ) (insertion : Place) (operands results : List Bool) (o : Op)
    → IsSound c → AreTypes c wide index → AreLowered c (head o).properties fs
    → edits_meaning c (operation_edits c wide index fs n insertion operands results o) ≡ operation_lowered n insertion operands results (meaning c o)
operation_meant c wide index fs n insertion operands results o sound types ps =
    let b = bridge_edits wide insertion operands (head o).operands in
    let m = coded.Make insertion (op_lowered c wide fs (crossed n operands (head o).operands) o) ∷ [] in
    let g = give_edits index insertion results o (n + marked operands) (n + marked operands + 1) in
    edits_more c (b ++ m) g
    ∙ (λ i. edits_more c b m i ++ give_meant c index insertion n operands results o (n + marked operands) (n + marked operands + 1) sound types.index_is i)
    ∙ (λ i. bridges_meant c sound wide i64 insertion operands (head o).operands types.wide_is i ++ edit.Make insertion (op_meant c wide fs (crossed n operands (head o).operands) o types.wide_is ps i) ∷ []
    ++ results_given n insertion operands results (meaning c o) (n + marked operands) (n + marked operands + 1))
    ∙ again o
  where
    again : (o : Op) → bridges i64 insertion operands (head o).operands ++ edit.Make insertion (lowered_op (meaning c o) (crossed n operands (head o).operands)) ∷ [] ++ results_given n insertion operands results (meaning c o) (n + marked operands) (n + marked operands + 1)
        ≡ operation_lowered n insertion operands results (meaning c o)
    again (op h rs) = refl
