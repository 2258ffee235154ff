-- Edits with interned numbers fit the context.
use Rattle.std.proofs.Common.{◌≡◌, refl, ap, ◌∙◌, ℕ, ◌+◌, ◌≤◌, List, [], ◌∷◌, ◌++◌, length, map, Bool, true, false, cond, ◌&&◌, length-take, arith}
use Rattle.std.proofs.lemmas.Bool.{lt-ltb, and_parts, and_from}
use Rattle.std.specs.List.{list_all}
use Rattle.ir_event.specs.types.Things.{ContextModel, IsType}
use Rattle.ir_event.specs.types.Sound.{Holds}
use Rattle.ir_event.specs.types.Terms.{type_term}
use Rattle.ir_event.proofs.of_types.WordNumbers.{word_count}
use Rattle.ir_event.specs.trees.declared.value.Value.{Value}
use Rattle.ir_event.specs.trees.declared.place.Place.{Place}
use Rattle.ir_event.specs.trees.Tree.{Op, op, Regions, no_regions, region, empty, block, head, regions}
use Rattle.ir_event.specs.trees.Limits.{regions_every, all_arguments_pass}
use Rattle.ir_event.specs.trees.Passing.{entry_passes, head_passes, op_passes}
use Rattle.ir_event.specs.trees.Meaning.{IsSoundIn, is_attr, is_name, is_type, key_before_in, rises, rises_after, dictionaries_rise}
use Rattle.ir_event.specs.tree_laws.Reasons.{hold_none}
use Rattle.patterns_soundness.specs.base.Looks.{is_index}
use Rattle.patterns_soundness.specs.base.Makes.{results_from}
use Rattle.patterns_soundness.specs.base.declared.edit.Edit.TheVariants.{Make, Erase}
use Rattle.patterns_soundness.specs.base.Lists.{AllFit}
use Rattle.patterns_soundness.specs.base.Lowering.{crossed, marked}
use Rattle.patterns_lowering.specs.Lowered.{AreKnown, AreLowered, AreTypes}
use Rattle.patterns_lowering.specs.Numbers.{cast_op, bridge_edits, replace_edits, type_lowered, regions_lowered, op_lowered, give_edits, operation_edits}
use Rattle.patterns_lowering.proofs.Joined.{fit_more}

-- the words are interned names
enough_names : (c : ContextModel) → Holds c → 54 ≤ length c.names
enough_names c h = omega (arith, length-take 54 c.names, ap length h.words_first, word_count)

pub cast_sound : (c : ContextModel) (ty : ℕ) (vs : List Value) → Holds c → IsType c ty → IsSoundIn c (cast_op ty vs)
cast_sound c ty vs h k =
    let named : is_name c 1 ≡ true = lt-ltb 1 (length c.names) (let e = enough_names c h in omega arith) in
    let typed : is_type c ty ≡ true = lt-ltb ty (length c.types) k in
    record {
      known = and_from _ _ (and_from _ _ (and_from (is_name c 1) _ named (and_from _ _ (and_from (is_type c ty) true typed refl) refl)) refl) refl;
      sorted = refl;
    }

pub bridges_fit : (c : ContextModel) (ty : ℕ) (place : Place) (ms : List Bool) (vs : List Value) → Holds c → IsType c ty → AllFit c (bridge_edits ty place ms vs)
bridges_fit c ty place [] vs h k = tt
bridges_fit c ty place (true ∷ ms) [] h k = tt
bridges_fit c ty place (false ∷ ms) [] h k = tt
bridges_fit c ty place (false ∷ ms) (v ∷ vs) h k = bridges_fit c ty place ms vs h k
bridges_fit c ty place (true ∷ ms) (v ∷ vs) h k = ((cast_sound c ty (v ∷ []) h k, refl), bridges_fit c ty place ms vs h k)

pub replaces_fit : (c : ContextModel) (vs ws : List Value) → AllFit c (replace_edits vs ws)
replaces_fit c [] ws = tt
replaces_fit c (v ∷ vs) [] = tt
replaces_fit c (v ∷ vs) (w ∷ ws) = (tt, replaces_fit c vs ws)

-- types with another type for index are interned
module _ (c : ContextModel) (wide : ℕ) (known : IsType c wide) where
  chosen_known : (b : Bool) (ty : ℕ) → is_type c ty ≡ true → is_type c (cond b wide ty) ≡ true
  chosen_known true ty e = lt-ltb wide (length c.types) known
  chosen_known false ty e = e

  types_known : (tys : List ℕ) → list_all (is_type c) tys ≡ true → list_all (is_type c) (map (type_lowered c wide) tys) ≡ true
  types_known [] e = refl
  types_known (ty ∷ tys) e =
      let b = and_parts (is_type c ty) (list_all (is_type c) tys) e in
      and_from (is_type c (type_lowered c wide ty)) _ (chosen_known (is_index (type_term c ty)) ty b.0) (types_known tys b.1)

  regions_known : (rs : Regions) → all_arguments_pass (list_all (is_type c)) rs ≡ true → all_arguments_pass (list_all (is_type c)) (regions_lowered c wide rs) ≡ true
  regions_known no_regions e = refl
  regions_known (region empty rs) e = regions_known rs e
  regions_known (region (block args os) rs) e =
      let b = and_parts (list_all (is_type c) args) (all_arguments_pass (list_all (is_type c)) rs) e in
      and_from (list_all (is_type c) (map (type_lowered c wide) args)) _ (types_known args b.0) (regions_known rs b.1)

  -- their blocks have no operations
  regions_pass : (p : Op → Bool) (rs : Regions) → regions_every p (regions_lowered c wide rs) ≡ true
  regions_pass p no_regions = refl
  regions_pass p (region empty rs) = regions_pass p rs
  regions_pass p (region (block args os) rs) = regions_pass p rs

  pub regions_held : (rs : Regions) → hold_none (regions_lowered c wide rs) ≡ true
  regions_held no_regions = refl
  regions_held (region empty rs) = regions_held rs
  regions_held (region (block args os) rs) = regions_held rs

-- entries with i64 for index are interned, and stay in ascending order
entries_known : (c : ContextModel) (es fs : List (ℕ × ℕ)) → AreLowered c es fs → list_all (entry_passes (is_name c) (is_attr c)) es ≡ true → list_all (entry_passes (is_name c) (is_attr c)) fs ≡ true
entries_known c [] [] h e = refl
entries_known c [] (f ∷ fs) h e = absurd h
entries_known c (k ∷ es) [] h e = absurd h
entries_known c (k ∷ es) (f ∷ fs) h e =
    let b = and_parts (entry_passes (is_name c) (is_attr c) k) _ e in
    let d = and_parts (is_name c k.0) (is_attr c k.1) b.0 in
    and_from (entry_passes (is_name c) (is_attr c) f) _
    (and_from (is_name c f.0) (is_attr c f.1) (ap (is_name c) h.0.key ∙ d.0) (lt-ltb f.1 (length c.attrs) h.0.known))
    (entries_known c es fs h.1 b.1)

rises_after_as : (c : ContextModel) (p : ℕ → ℕ → Bool) (k : ℕ) (es fs : List (ℕ × ℕ)) → AreLowered c es fs → rises_after p k fs ≡ rises_after p k es
rises_after_as c p k [] [] h = refl
rises_after_as c p k [] (f ∷ fs) h = absurd h
rises_after_as c p k (e ∷ es) [] h = absurd h
rises_after_as c p k (e ∷ es) (f ∷ fs) h = (λ i. p k (h.0.key i) && rises_after p (h.0.key i) fs) ∙ ap (λ b. p k e.0 && b) (rises_after_as c p e.0 es fs h.1)

rises_as : (c : ContextModel) (p : ℕ → ℕ → Bool) (es fs : List (ℕ × ℕ)) → AreLowered c es fs → rises p fs ≡ rises p es
rises_as c p [] [] h = refl
rises_as c p [] (f ∷ fs) h = absurd h
rises_as c p (e ∷ es) [] h = absurd h
rises_as c p (e ∷ es) (f ∷ fs) h = (λ i. rises_after p (h.0.key i) fs) ∙ rises_after_as c p e.0 es fs h.1

pub op_sound : (c : ContextModel) (wide : ℕ) (fs : List (ℕ × ℕ)) (vs : List Value) (o : Op) → IsType c wide → AreLowered c (head o).properties fs → IsSoundIn c o → IsSoundIn c (op_lowered c wide fs vs o)
op_sound c wide fs vs (op h rs) known ps s =
    let p = op_passes (is_name c) (is_type c) (is_attr c) in
    let q = dictionaries_rise (key_before_in c) in
    let own = and_parts (p (op h rs)) (regions_every p rs) s.known in
    let parts = and_parts (head_passes (is_name c) (is_type c) (is_attr c) h) (all_arguments_pass (list_all (is_type c)) rs) own.0 in
    let name = and_parts (is_name c h.name) _ parts.0 in
    let results = and_parts (list_all (is_type c) h.results) _ name.1 in
    let entries = and_parts (list_all (entry_passes (is_name c) (is_attr c)) h.properties) _ results.1 in
    let order = and_parts (q (op h rs)) (regions_every q rs) s.sorted in
    let rise = and_parts (rises (key_before_in c) h.properties) (rises (key_before_in c) h.attributes) order.0 in
    record {
      known = and_from _ _
          (and_from _ _
          (and_from _ _ name.0 (and_from _ _ (types_known c wide known h.results results.0) (and_from _ _ (entries_known c h.properties fs ps entries.0) entries.1)))
          (regions_known c wide known rs parts.1))
          (regions_pass c wide known p rs);
      sorted = and_from _ _ (and_from _ _ (rises_as c (key_before_in c) h.properties fs ps ∙ rise.0) rise.1) (regions_pass c wide known q rs);
    }

-- the entries of a sound operation are interned
pub entries_sound : (c : ContextModel) (o : Op) → IsSoundIn c o → AreKnown c (head o).properties
entries_sound c (op h rs) s =
    let own = and_parts (op_passes (is_name c) (is_type c) (is_attr c) (op h rs)) (regions_every (op_passes (is_name c) (is_type c) (is_attr c)) rs) s.known in
    let parts = and_parts (head_passes (is_name c) (is_type c) (is_attr c) h) (all_arguments_pass (list_all (is_type c)) rs) own.0 in
    let name = and_parts (is_name c h.name) _ parts.0 in
    let results = and_parts (list_all (is_type c) h.results) _ name.1 in
    (and_parts (list_all (entry_passes (is_name c) (is_attr c)) h.properties) _ results.1).0

pub give_fits : (c : ContextModel) (index : ℕ) (insertion : Place) (results : List Bool) (o : Op) (y k : ℕ) → Holds c → IsType c index → AllFit c (give_edits index insertion results o y k)
give_fits c index insertion results o y k h t =
    let vs = results_from y 0 (head o).results in
    let b = bridge_edits index insertion results vs in
    let r = replace_edits (results_from (head o).id 0 (head o).results) (crossed k results vs) in
    fit_more c (b ++ r) (Erase (head o).id ∷ []) (fit_more c b r (bridges_fit c index insertion results vs h t) (replaces_fit c (results_from (head o).id 0 (head o).results) (crossed k results vs))) (tt, tt)

pub operation_fits : (c : ContextModel) (wide index : ℕ) (fs : List (ℕ × ℕ)) (n : ℕ) (insertion : Place) (operands results : List Bool) (o : Op)
    → Holds c → AreTypes c wide index → AreLowered c (head o).properties fs → IsSoundIn c o → AllFit c (operation_edits c wide index fs n insertion operands results o)
operation_fits c wide index fs n insertion operands results o h types ps s =
    let b = bridge_edits wide insertion operands (head o).operands in
    let m = Make insertion (op_lowered c wide fs (crossed n operands (head o).operands) o) ∷ [] in
    fit_more c (b ++ m) (give_edits index insertion results o (n + marked operands) (n + marked operands + 1))
    (fit_more c b m (bridges_fit c wide insertion operands (head o).operands h types.wide_known) ((op_sound c wide fs (crossed n operands (head o).operands) o types.wide_known ps s, regions_held c wide types.wide_known (regions o)), tt))
    (give_fits c index insertion results o (n + marked operands) (n + marked operands + 1) h types.index_known)
