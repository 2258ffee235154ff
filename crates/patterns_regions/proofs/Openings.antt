-- The meaning of the edits that inline a block.
use Rattle.std.proofs.Common.{◌≡◌, refl, ap, ◌∙◌, ℕ, ◌+◌, List, [], ◌∷◌, ◌++◌, map, append_assoc}
use Rattle.ir_event.specs.types.Things.{ContextModel}
use Rattle.ir_event.specs.trees.declared.value.Value.{Value}
use Rattle.ir_event.specs.trees.declared.value.Value.TheVariants.{Result, Arg}
use Rattle.ir_event.specs.trees.declared.place.Place.{Place}
use Rattle.patterns_plans.specs.reads.Contents.{Edit}
use Rattle.patterns_plans.specs.reads.rules.Edits.{Erase, Replace, Move}
use Rattle.patterns_plans.specs.reads.Lists.{AllFit, edits_meaning}
use Rattle.patterns_plans.specs.reads.Edit.{Edit as Coded}
use Rattle.patterns_plans.specs.reads.Edit.TheVariants as coded
use Rattle.patterns_plans.specs.reads.Makes.{arguments_from, results_from, replacing, moving}
use Rattle.patterns_regions.specs.Opened.{opening, argument_replacement, argument_edits, move_edits, result_edits}
use Rattle.patterns_plans.proofs.of_base.EditFacts.{edits_more}

module _ (c : ContextModel) where
  arguments_meant : (x k : ℕ) (vs : List Value) → edits_meaning c (argument_edits x k vs) ≡ replacing (arguments_from x k vs) vs
  arguments_meant x k [] = refl
  arguments_meant x k (v ∷ vs) = ap (λ l. Replace (Arg x 0 k) v ∷ l) (arguments_meant x (k + 1) vs)

  pub moves_meant : (place : Place) (xs : List ℕ) → edits_meaning c (move_edits place xs) ≡ moving place xs
  moves_meant place [] = refl
  moves_meant place (x ∷ xs) = ap (λ l. Move x place ∷ l) (moves_meant place xs)

  results_meant : (x : ℕ) (values : List Value) (k : ℕ) (vs : List Value)
      → edits_meaning c (result_edits x values k vs) ≡ replacing (results_from x k (map (argument_replacement x values) vs)) (map (argument_replacement x values) vs)
  results_meant x values k [] = refl
  results_meant x values k (v ∷ vs) = ap (λ l. Replace (Result x k) (argument_replacement x values v) ∷ l) (results_meant x values (k + 1) vs)

  abbrev all : ℕ → Place → List ℕ → List Value → List Value → List Coded
  all x insertion ops values handed = ((argument_edits x 0 values ++ move_edits insertion ops) ++ result_edits x values 0 handed) ++ coded.Erase x ∷ []

  pub opening_meant : (x : ℕ) (insertion : Place) (ops : List ℕ) (values handed : List Value)
      → edits_meaning c (((argument_edits x 0 values ++ move_edits insertion ops) ++ result_edits x values 0 handed) ++ coded.Erase x ∷ []) ≡ opening x insertion ops values handed
  opening_meant x insertion ops values handed =
      let es = argument_edits x 0 values in
      let fs = move_edits insertion ops in
      let gs = result_edits x values 0 handed in
      let ws = map (argument_replacement x values) handed in
      let a = replacing (arguments_from x 0 values) values in
      let m = moving insertion ops in
      let r = replacing (results_from x 0 ws) ws in
      let e : List Edit = Erase x ∷ [] in
      (edits_more c) ((es ++ fs) ++ gs) (coded.Erase x ∷ [])
      ∙ ap (λ l. l ++ e) ((edits_more c) (es ++ fs) gs ∙ (λ i. ((edits_more c) es fs ∙ λ j. arguments_meant x 0 values j ++ moves_meant insertion ops j) i ++ results_meant x values 0 handed i))
      ∙ ap (λ l. l ++ e) (append_assoc a m r)
      ∙ append_assoc a (m ++ r) e

  all_fit : (es fs : List Coded) → AllFit c es → AllFit c fs → AllFit c (es ++ fs)
  all_fit [] fs h k = k
  all_fit (e ∷ es) fs h k = (h.0, all_fit es fs h.1 k)

  arguments_fit : (x k : ℕ) (vs : List Value) → AllFit c (argument_edits x k vs)
  arguments_fit x k [] = tt
  arguments_fit x k (v ∷ vs) = (tt, arguments_fit x (k + 1) vs)

  moves_fit : (place : Place) (xs : List ℕ) → AllFit c (move_edits place xs)
  moves_fit place [] = tt
  moves_fit place (x ∷ xs) = (tt, moves_fit place xs)

  results_fit : (x : ℕ) (values : List Value) (k : ℕ) (vs : List Value) → AllFit c (result_edits x values k vs)
  results_fit x values k [] = tt
  results_fit x values k (v ∷ vs) = (tt, results_fit x values (k + 1) vs)

  pub opening_fits : (x : ℕ) (insertion : Place) (ops : List ℕ) (values handed : List Value) → AllFit c (((argument_edits x 0 values ++ move_edits insertion ops) ++ result_edits x values 0 handed) ++ coded.Erase x ∷ [])
  opening_fits x insertion ops values handed =
      all_fit ((argument_edits x 0 values ++ move_edits insertion ops) ++ result_edits x values 0 handed) (coded.Erase x ∷ [])
      (all_fit (argument_edits x 0 values ++ move_edits insertion ops) (result_edits x values 0 handed) (all_fit (argument_edits x 0 values) (move_edits insertion ops) (arguments_fit x 0 values) (moves_fit insertion ops)) (results_fit x values 0 handed)) (tt, tt)

  -- all edits one after another
  pub built : (x : ℕ) (insertion : Place) (ops : List ℕ) (values handed : List Value) (es e0 e1 e2 e3 : List Coded) → e0 ≡ [] → e1 ≡ e0 ++ argument_edits x 0 values → e2 ≡ e1 ++ move_edits insertion ops
      → e3 ≡ e2 ++ result_edits x values 0 handed → es ≡ e3 ++ coded.Erase x ∷ [] → es ≡ ((argument_edits x 0 values ++ move_edits insertion ops) ++ result_edits x values 0 handed) ++ coded.Erase x ∷ []
  built x insertion ops values handed es e0 e1 e2 e3 a b d e f =
      f ∙ ap (λ l. l ++ coded.Erase x ∷ []) (e ∙ ap (λ l. l ++ result_edits x values 0 handed) (d ∙ ap (λ l. l ++ move_edits insertion ops) (b ∙ ap (λ l. l ++ argument_edits x 0 values) a)))

-- without values and operations, only results are replaced
same_values : (x : ℕ) (vs : List Value) → map (argument_replacement x []) vs ≡ vs
same_values x [] = refl
same_values x (v ∷ vs) = ap (λ l. v ∷ l) (same_values x vs)

pub opening_none : (x : ℕ) (insertion : Place) (vs : List Value) → opening x insertion [] [] vs ≡ replacing (results_from x 0 vs) vs ++ Erase x ∷ []
opening_none x insertion vs = ap (λ l. replacing (results_from x 0 l) l ++ Erase x ∷ []) (same_values x vs)
