-- The meaning of the edits of loops and choices.
use Rattle.std.proofs.Common.{◌≡◌, refl, ap, sym, ◌∙◌, ℕ, ◌+◌, List, [], ◌∷◌, ◌++◌, length, map, reverse, Bool, true, false, append_assoc, arith}
use Rattle.std.specs.List.{range_with_len}
use Rattle.std.proofs.lemmas.List.{length-map}
use Rattle.ir_event.specs.types.Things.{ContextModel}
use Rattle.ir_event.specs.types.Sound.{IsSound}
use Rattle.ir_event.specs.types.Terms.{TypeTerm, Index, type_term}
use Rattle.ir_event.specs.types.declared.word.Word.TheVariants.{BuiltinUnrealizedConversionCast}
use Rattle.ir_verify_base.proofs.Words.{word_named}
use Rattle.ir_event.specs.trees.declared.value.Value.{Value}
use Rattle.ir_event.specs.trees.declared.value.Value.TheVariants.{Result, Arg}
use Rattle.ir_event.specs.trees.declared.place.Place.{Place}
use Rattle.ir_event.specs.trees.Tree.{Op, op, no_regions, head}
use Rattle.ir_event.specs.trees.Meaning.{meaning}
use Rattle.patterns_soundness.specs.base.Contents.{Edit}
use Rattle.patterns_soundness.specs.base.Edits as edit
use Rattle.patterns_soundness.specs.base.declared.edit.Edit.TheVariants as coded
use Rattle.patterns_soundness.specs.base.Lists.{edits_meaning}
use Rattle.patterns_soundness.specs.base.Made.{i64, placeholder}
use Rattle.patterns_soundness.specs.base.Makes.{arguments_from, replacing, replaced, moving, erasing}
use Rattle.patterns_soundness.specs.base.Lowering.{before_in, next_to, bridges, brought, crossed, crossing, end_of, gathering, lowered_op, marked}
use Rattle.patterns_regions.specs.Opened.{argument_replacement}
use Rattle.patterns_lowering.specs.declared.plan.MovedOps.{MovedOps}
use Rattle.patterns_lowering.specs.declared.plan.IndexedLoop.{IndexedLoop}
use Rattle.patterns_lowering.specs.declared.plan.IndexedChoice.{IndexedChoice}
use Rattle.patterns_lowering.specs.declared.plan.Lowering.TheVariants as plan
use Rattle.patterns_lowering.specs.Lowered.{AreLowered, AreTypes}
use Rattle.patterns_lowering.specs.Numbers.{bridge_edits, replace_edits, op_lowered, give_edits, numbers_from, first_results, holder_edits, move_edits, erase_edits, gather_edits, over_edits, crossing_edits, handed_edits, loop_ids, insertion_edits, inside_edits, after_edits, loop_edits, side_edits, choice_edits}
use Rattle.patterns_lowering.specs.Meanings.{results_given, loop_lowered, choice_lowered, lowering_meaning}
use Rattle.patterns_lowering.proofs.Meant.{bridges_meant, replaces_meant, op_meant, give_meant}
use Rattle.patterns_lowering.proofs.Counted.{arguments_length}
use Rattle.patterns_soundness.proofs.of_base.Facts.{crossed_length}
use Rattle.patterns_soundness.proofs.of_base.EditFacts.{edits_more}
use Rattle.patterns_regions.proofs.Openings.{moves_meant}

module _ (c : ContextModel) where
  holders_meant : (sound : IsSound c) (place : Place) (tys : List ℕ) → edits_meaning c (holder_edits place tys) ≡ map (λ ty. edit.Make place (placeholder ty)) (map (type_term c) tys)
  holders_meant sound place [] = refl
  holders_meant sound place (ty ∷ tys) =
      λ i. edit.Make place (op (record { id = 0; name = word_named c BuiltinUnrealizedConversionCast sound i; operands = []; results = type_term c ty ∷ []; properties = []; attributes = [] }) no_regions)
      ∷ holders_meant sound place tys i

  gathers_meant : (y r z : ℕ) (xs : List ℕ) → edits_meaning c (gather_edits y r z xs) ≡ gathering y r z xs
  gathers_meant y r z [] = refl
  gathers_meant y r z (x ∷ xs) = ap (λ l. edit.Move x (before_in y r z) ∷ l) (gathers_meant y r x xs)

  over_meant : (insertion : Place) (y r : ℕ) (b : MovedOps) → edits_meaning c (over_edits insertion y r b) ≡ brought insertion y r b.before.items b.last
  over_meant insertion y r b =
      edits_more c (move_edits (next_to insertion y) b.before.items) (coded.Move b.last (next_to insertion y) ∷ coded.Move b.last (end_of y r) ∷ gather_edits y r b.last (reverse b.before.items))
      ∙ (λ i. (moves_meant c) (next_to insertion y) b.before.items i ++ edit.Move b.last (next_to insertion y) ∷ edit.Move b.last (end_of y r) ∷ gathers_meant y r b.last (reverse b.before.items) i)

  erases_meant : (xs : List ℕ) → edits_meaning c (erase_edits xs) ≡ erasing xs
  erases_meant [] = refl
  erases_meant (x ∷ xs) = ap (λ l. edit.Erase x ∷ l) (erases_meant xs)

  crossings_meant : (x k n : ℕ) (ms : List Bool) → edits_meaning c (crossing_edits x k n ms) ≡ crossing x k n ms
  crossings_meant x k n [] = refl
  crossings_meant x k n (true ∷ ms) = ap (λ l. edit.SetOperand x k (Result n 0) ∷ l) (crossings_meant x (k + 1) (n + 1) ms)
  crossings_meant x k n (false ∷ ms) = crossings_meant x (k + 1) n ms

  handed_meant : (sound : IsSound c) (wide : ℕ) (place : Place) (n last : ℕ) (ms : List Bool) (vs : List Value) → type_term c wide ≡ i64
      → edits_meaning c (handed_edits wide place n last ms vs) ≡ bridges i64 place ms vs ++ crossing last 0 n ms
  handed_meant sound wide place n last ms vs e =
      edits_more c (bridge_edits wide place ms vs) (crossing_edits last 0 n ms)
      ∙ (λ i. bridges_meant c sound wide i64 place ms vs e i ++ crossings_meant last 0 n ms i)

-- lists by their lengths
numbers_are : {X : Type 0} (n : ℕ) (is : List X) → numbers_from n is ≡ range_with_len n (length is)
numbers_are n [] = refl
numbers_are n (i ∷ is) = ap (λ l. n ∷ l) (numbers_are (n + 1) is)

arguments_mapped : {X Y : Type 0} (f : X → Y) (x k : ℕ) (is : List X) → arguments_from x k (map f is) ≡ arguments_from x k is
arguments_mapped f x k [] = refl
arguments_mapped f x k (i ∷ is) = ap (λ l. Arg x 0 k ∷ l) (arguments_mapped f x (k + 1) is)

arguments_alike : {X Y : Type 0} (x k : ℕ) (is : List X) (js : List Y) → length is ≡ length js → arguments_from x k is ≡ arguments_from x k js
arguments_alike x k [] [] h = refl
arguments_alike x k [] (j ∷ js) h = absurd (omega (arith, h))
arguments_alike x k (i ∷ is) [] h = absurd (omega (arith, h))
arguments_alike x k (i ∷ is) (j ∷ js) h = ap (λ l. Arg x 0 k ∷ l) (arguments_alike x (k + 1) is js (omega (arith, h)))

-- the edits of a loop, by the number of arguments
module _ (n : ℕ) (insertion : Place) (operands results : List Bool) (o : Op) (c : ContextModel) (marks : List Bool) (b : MovedOps) where
  abbrev pub by_count : ℕ → (ℕ → ℕ → List Value) → List Edit → List Value → List Edit
  by_count count from holders_made handed_values =
      let id = n + marked operands in
      let y = id + count in
      let arguments_id = y + 1 in
      let yields_id = arguments_id + marked marks in
      let results_id = yields_id + marked results in
      let holder_ids = range_with_len id count in
      let holders = map (λ (i : ℕ). Result i 0) holder_ids in
      let olds = from (head o).id 0 in
      let arguments = from y 0 in
      let news = crossed arguments_id marks arguments in
      bridges i64 insertion operands (head o).operands
      ++ holders_made
      ++ replacing olds holders
      ++ edit.Make insertion (lowered_op (meaning c o) (crossed n operands (head o).operands)) ∷ []
      ++ bridges Index (end_of y 0) marks arguments
      ++ brought insertion y 0 b.before.items b.last
      ++ replacing holders news
      ++ erasing holder_ids
      ++ (bridges i64 (before_in y 0 b.last) results (map (replaced olds news) handed_values) ++ crossing b.last 0 yields_id results)
      ++ results_given n insertion operands results (meaning c o) y results_id

count_stands : (n : ℕ) (insertion : Place) (operands results : List Bool) (o : Op) (c : ContextModel) (marks : List Bool) (b : MovedOps) (args : List TypeTerm)
    → by_count n insertion operands results o c marks b (length args) (λ x k. arguments_from x k args) (map (λ ty. edit.Make insertion (placeholder ty)) args) b.handed.items
    ≡ loop_lowered n insertion operands results (meaning c o) args marks b
count_stands n insertion operands results (op h rs) c marks b args = refl

-- the three parts of a loop's edits
regrouped : {X : Type 0} (p q r m s t u v w g : List X) → (p ++ q ++ r ++ m) ++ (s ++ t ++ u ++ v) ++ (w ++ g) ≡ p ++ q ++ r ++ m ++ s ++ t ++ u ++ v ++ w ++ g
regrouped p q r m s t u v w g = simp append_assoc

four_meant : (c : ContextModel) (p q r s : List _) → edits_meaning c (p ++ q ++ r ++ s) ≡ edits_meaning c p ++ edits_meaning c q ++ edits_meaning c r ++ edits_meaning c s
four_meant c p q r s =
    edits_more c (p ++ q ++ r) s ∙ ap (λ l. l ++ edits_meaning c s) (edits_more c (p ++ q) r ∙ ap (λ l. l ++ edits_meaning c r) (edits_more c p q))

put_is : (x : ℕ) (args : List ℕ) (news : List Value) → length news ≡ length args → (vs : List Value) → map (argument_replacement x news) vs ≡ map (replaced (arguments_from x 0 args) news) vs
put_is x args news h vs = ap (λ olds. map (replaced olds news) vs) (arguments_alike x 0 news args h)

module _ (c : ContextModel) (wide index : ℕ) (fs : List (ℕ × ℕ)) (n : ℕ) (insertion : Place) (sound : IsSound c) (types : AreTypes c wide index) where
  module _ (l : IndexedLoop) (ps : AreLowered c (head l.of.op).properties fs) (many : length l.index_arguments.items ≡ length l.arguments.items) where
    abbrev operands : List Bool
    operands = l.of.index_operands.items

    abbrev results : List Bool
    results = l.of.index_results.items

    insertion_meant : (holders : List Value) → edits_meaning c (insertion_edits c wide fs n insertion holders l)
        ≡ bridges i64 insertion operands (head l.of.op).operands
        ++ map (λ ty. edit.Make insertion (placeholder ty)) (map (type_term c) l.arguments.items)
        ++ replacing (arguments_from (head l.of.op).id 0 l.arguments.items) holders
        ++ edit.Make insertion (lowered_op (meaning c l.of.op) (crossed n operands (head l.of.op).operands)) ∷ []
    insertion_meant holders =
        four_meant c (bridge_edits wide insertion operands (head l.of.op).operands) (holder_edits insertion l.arguments.items) (replace_edits (arguments_from (head l.of.op).id 0 l.arguments.items) holders)
        (coded.Make insertion (op_lowered c wide fs (crossed n operands (head l.of.op).operands) l.of.op) ∷ [])
        ∙ (λ i. bridges_meant c sound wide i64 insertion operands (head l.of.op).operands types.wide_is i
        ++ holders_meant c sound insertion l.arguments.items i
        ++ replaces_meant c (arguments_from (head l.of.op).id 0 l.arguments.items) holders i
        ++ edit.Make insertion (op_meant c wide fs (crossed n operands (head l.of.op).operands) l.of.op types.wide_is ps i) ∷ [])

    inside_meant : (y : ℕ) (ids : List ℕ) (holders arguments news : List Value) → edits_meaning c (inside_edits index insertion y ids holders arguments news l)
        ≡ bridges Index (end_of y 0) l.index_arguments.items arguments ++ brought insertion y 0 l.body.before.items l.body.last ++ replacing holders news ++ erasing ids
    inside_meant y ids holders arguments news =
        four_meant c (bridge_edits index (end_of y 0) l.index_arguments.items arguments) (over_edits insertion y 0 l.body) (replace_edits holders news) (erase_edits ids)
        ∙ (λ i. bridges_meant c sound index Index (end_of y 0) l.index_arguments.items arguments types.index_is i
        ++ over_meant c insertion y 0 l.body i
        ++ replaces_meant c holders news i
        ++ erases_meant c ids i)

    after_meant : (y k r : ℕ) (vs : List Value)
        → edits_meaning c (handed_edits wide (before_in y 0 l.body.last) k l.body.last results vs ++ give_edits index insertion results l.of.op y r)
        ≡ (bridges i64 (before_in y 0 l.body.last) results vs ++ crossing l.body.last 0 k results) ++ results_given n insertion operands results (meaning c l.of.op) y r
    after_meant y k r vs =
        edits_more c (handed_edits wide (before_in y 0 l.body.last) k l.body.last results vs) (give_edits index insertion results l.of.op y r)
        ∙ (λ i. handed_meant c sound wide (before_in y 0 l.body.last) k l.body.last results vs types.wide_is i
        ++ give_meant c index insertion n operands results l.of.op y r sound types.index_is i)

    abbrev counted : ℕ → (ℕ → ℕ → List Value) → List Edit → List Value → List Edit
    counted = by_count n insertion operands results l.of.op c l.index_arguments.items l.body

    -- all its edits, by the ids of the placeholders
    abbrev ranged : List ℕ → List Edit
    ranged holder_ids =
        let args = l.arguments.items in
        let ids = loop_ids n l in
        let holders = first_results holder_ids in
        let arguments = arguments_from ids.op 0 args in
        let news = crossed ids.arguments l.index_arguments.items arguments in
        let x = (head l.of.op).id in
        bridges i64 insertion operands (head l.of.op).operands ++ map (λ (ty : TypeTerm). edit.Make insertion (placeholder ty)) (map (type_term c) args) ++ replacing (arguments_from x 0 args) holders
        ++ edit.Make insertion (lowered_op (meaning c l.of.op) (crossed n operands (head l.of.op).operands)) ∷ []
        ++ bridges Index (end_of ids.op 0) l.index_arguments.items arguments ++ brought insertion ids.op 0 l.body.before.items l.body.last ++ replacing holders news ++ erasing holder_ids
        ++ (bridges i64 (before_in ids.op 0 l.body.last) results (map (replaced (arguments_from x 0 args) news) l.body.handed.items) ++ crossing l.body.last 0 ids.handed results)
        ++ results_given n insertion operands results (meaning c l.of.op) ids.op ids.results

    pub loop_meant : edits_meaning c (loop_edits c wide index fs n insertion l) ≡ lowering_meaning c n insertion (plan.Loop l)
    loop_meant =
        let args = l.arguments.items in
        let ids = loop_ids n l in
        let holder_ids = numbers_from ids.holders args in
        let holders = first_results holder_ids in
        let arguments = arguments_from ids.op 0 args in
        let news = crossed ids.arguments l.index_arguments.items arguments in
        let x = (head l.of.op).id in
        let many_news = crossed_length ids.arguments l.index_arguments.items arguments (many ∙ sym (arguments_length ids.op 0 args)) ∙ arguments_length ids.op 0 args in
        let a = insertion_edits c wide fs n insertion holders l in
        let b = inside_edits index insertion ids.op holder_ids holders arguments news l in
        let d = after_edits wide index insertion ids news l in
        edits_more c (a ++ b) d
        ∙ (λ i. edits_more c a b i ++ edits_meaning c d)
        ∙ (λ i. insertion_meant holders i ++ inside_meant ids.op holder_ids holders arguments news i ++ after_meant ids.op ids.handed ids.results (put_is x args news many_news l.body.handed.items i) i)
        ∙ regrouped (bridges i64 insertion operands (head l.of.op).operands) (map (λ (ty : TypeTerm). edit.Make insertion (placeholder ty)) (map (type_term c) args)) (replacing (arguments_from x 0 args) holders)
        (edit.Make insertion (lowered_op (meaning c l.of.op) (crossed n operands (head l.of.op).operands)) ∷ [])
        (bridges Index (end_of ids.op 0) l.index_arguments.items arguments) (brought insertion ids.op 0 l.body.before.items l.body.last) (replacing holders news) (erasing holder_ids)
        (bridges i64 (before_in ids.op 0 l.body.last) results (map (replaced (arguments_from x 0 args) news) l.body.handed.items) ++ crossing l.body.last 0 ids.handed results)
        (results_given n insertion operands results (meaning c l.of.op) ids.op ids.results)
        ∙ again
      where
        again : ranged (numbers_from (loop_ids n l).holders l.arguments.items) ≡ lowering_meaning c n insertion (plan.Loop l)
        again =
            ap ranged (numbers_are (loop_ids n l).holders l.arguments.items)
            ∙ (λ i. counted (sym (length-map l.arguments.items (type_term c)) i) (λ x k. sym (arguments_mapped (type_term c) x k l.arguments.items) i) (map (λ (ty : TypeTerm). edit.Make insertion (placeholder ty)) (map (type_term c) l.arguments.items)) l.body.handed.items)
            ∙ count_stands n insertion operands results l.of.op c l.index_arguments.items l.body (map (type_term c) l.arguments.items)

  module _ (d : IndexedChoice) (ps : AreLowered c (head d.of.op).properties fs) where
    abbrev operands_of : List Bool
    operands_of = d.of.index_operands.items

    abbrev results_of : List Bool
    results_of = d.of.index_results.items

    side_meant : (y r k : ℕ) (b : MovedOps) → edits_meaning c (side_edits wide insertion y r k results_of b)
        ≡ brought insertion y r b.before.items b.last ++ (bridges i64 (before_in y r b.last) results_of b.handed.items ++ crossing b.last 0 k results_of)
    side_meant y r k b =
        edits_more c (over_edits insertion y r b) (handed_edits wide (before_in y r b.last) k b.last results_of b.handed.items)
        ∙ (λ i. over_meant c insertion y r b i ++ handed_meant c sound wide (before_in y r b.last) k b.last results_of b.handed.items types.wide_is i)

    sides_apart : (m p q r s g : List Edit) → m ++ (p ++ q) ++ (r ++ s) ++ g ≡ m ++ p ++ q ++ r ++ s ++ g
    sides_apart m p q r s g = simp append_assoc

    pub choice_meant : edits_meaning c (choice_edits c wide index fs n insertion d) ≡ lowering_meaning c n insertion (plan.Choice d)
    choice_meant =
        let o = d.of.op in
        let y = n + marked operands_of in
        let m = coded.Make insertion (op_lowered c wide fs (crossed n operands_of (head o).operands) o) ∷ [] in
        let p = side_edits wide insertion y 0 (y + 1) results_of d.first in
        let q = side_edits wide insertion y 1 (y + 1 + marked results_of) results_of d.second in
        let last = y + 1 + marked results_of + marked results_of in
        let g = give_edits index insertion results_of o y last in
        four_meant c m p q g
        ∙ (λ i. edit.Make insertion (op_meant c wide fs (crossed n operands_of (head o).operands) o types.wide_is ps i) ∷ []
        ++ side_meant y 0 (y + 1) d.first i
        ++ side_meant y 1 (y + 1 + marked results_of) d.second i
        ++ give_meant c index insertion n operands_of results_of o y last sound types.index_is i)
        ∙ sides_apart (edit.Make insertion (lowered_op (meaning c o) (crossed n operands_of (head o).operands)) ∷ [])
        (brought insertion y 0 d.first.before.items d.first.last) (bridges i64 (before_in y 0 d.first.last) results_of d.first.handed.items ++ crossing d.first.last 0 (y + 1) results_of)
        (brought insertion y 1 d.second.before.items d.second.last) (bridges i64 (before_in y 1 d.second.last) results_of d.second.handed.items ++ crossing d.second.last 0 (y + 1 + marked results_of) results_of)
        (results_given n insertion operands_of results_of (meaning c o) y last)
        ∙ again o
      where
        again : (o : Op)
            → edit.Make insertion (lowered_op (meaning c o) (crossed n operands_of (head o).operands)) ∷ []
            ++ brought insertion (n + marked operands_of) 0 d.first.before.items d.first.last
            ++ (bridges i64 (before_in (n + marked operands_of) 0 d.first.last) results_of d.first.handed.items ++ crossing d.first.last 0 (n + marked operands_of + 1) results_of)
            ++ brought insertion (n + marked operands_of) 1 d.second.before.items d.second.last
            ++ (bridges i64 (before_in (n + marked operands_of) 1 d.second.last) results_of d.second.handed.items ++ crossing d.second.last 0 (n + marked operands_of + 1 + marked results_of) results_of)
            ++ results_given n insertion operands_of results_of (meaning c o) (n + marked operands_of) (n + marked operands_of + 1 + marked results_of + marked results_of)
            ≡ choice_lowered n insertion operands_of results_of (meaning c o) d.first d.second
        again (op h rs) = refl
