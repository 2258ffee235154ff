-- The edits of loops and choices fit a context.
use Rattle.std.proofs.Common.{◌≡◌, refl, ℕ, ◌+◌, List, [], ◌∷◌, ◌++◌, length, reverse, Bool, true, false}
use Rattle.std.specs.List.{list_all}
use Rattle.std.proofs.lemmas.Bool.{ltb-true, and_parts}
use Rattle.ir_event.specs.types.Things.{ContextModel, IsType}
use Rattle.ir_event.specs.types.Sound.{Holds}
use Rattle.ir_event.specs.trees.declared.value.Value.{Value}
use Rattle.ir_event.specs.trees.declared.place.Place.{Place}
use Rattle.ir_event.specs.trees.Tree.{Op, head, regions}
use Rattle.ir_event.specs.trees.Meaning.{IsSoundIn, is_type}
use Rattle.patterns_soundness.specs.base.Makes.{arguments_from}
use Rattle.patterns_soundness.specs.base.Lowering.{before_in, next_to, crossed, end_of, marked}
use Rattle.patterns_soundness.specs.base.declared.edit.Edit.{Edit}
use Rattle.patterns_soundness.specs.base.declared.edit.Edit.TheVariants.{Make, Move}
use Rattle.patterns_soundness.specs.base.Lists.{AllFit}
use Rattle.patterns_lowering.specs.declared.plan.MovedOps.{MovedOps}
use Rattle.patterns_lowering.specs.declared.plan.IndexedLoop.{IndexedLoop}
use Rattle.patterns_lowering.specs.declared.plan.IndexedChoice.{IndexedChoice}
use Rattle.patterns_lowering.specs.Lowered.{AreLowered, AreTypes}
use Rattle.patterns_lowering.specs.Numbers.{bridge_edits, replace_edits, op_lowered, give_edits, numbers_from, first_results, holder_edits, move_edits, erase_edits, gather_edits, over_edits, crossing_edits, handed_edits, loop_ids, insertion_edits, inside_edits, after_edits, loop_edits, side_edits, choice_edits}
use Rattle.patterns_lowering.specs.Plans.{IsIndexedLoop, IsIndexedChoice}
use Rattle.patterns_lowering.proofs.Joined.{fit_more}
use Rattle.patterns_lowering.proofs.Fitting.{bridges_fit, cast_sound, give_fits, op_sound, regions_held, replaces_fit}

holders_fit : (c : ContextModel) (place : Place) (tys : List ℕ) → Holds c → list_all (is_type c) tys ≡ true → AllFit c (holder_edits place tys)
holders_fit c place [] h e = tt
holders_fit c place (ty ∷ tys) h e = let b = and_parts (is_type c ty) (list_all (is_type c) tys) e in ((cast_sound c ty [] h (ltb-true ty (length c.types) b.0), refl), holders_fit c place tys h b.1)

moves_fit : (c : ContextModel) (place : Place) (xs : List ℕ) → AllFit c (move_edits place xs)
moves_fit c place [] = tt
moves_fit c place (x ∷ xs) = (tt, moves_fit c place xs)

erases_fit : (c : ContextModel) (xs : List ℕ) → AllFit c (erase_edits xs)
erases_fit c [] = tt
erases_fit c (x ∷ xs) = (tt, erases_fit c xs)

crossings_fit : (c : ContextModel) (x k n : ℕ) (ms : List Bool) → AllFit c (crossing_edits x k n ms)
crossings_fit c x k n [] = tt
crossings_fit c x k n (true ∷ ms) = (tt, crossings_fit c x (k + 1) (n + 1) ms)
crossings_fit c x k n (false ∷ ms) = crossings_fit c x (k + 1) n ms

gathers_fit : (c : ContextModel) (y r z : ℕ) (xs : List ℕ) → AllFit c (gather_edits y r z xs)
gathers_fit c y r z [] = tt
gathers_fit c y r z (x ∷ xs) = (tt, gathers_fit c y r x xs)

over_fits : (c : ContextModel) (insertion : Place) (y r : ℕ) (b : MovedOps) → AllFit c (over_edits insertion y r b)
over_fits c insertion y r b =
    fit_more c (move_edits (next_to insertion y) b.before.items) (Move b.last (next_to insertion y) ∷ Move b.last (end_of y r) ∷ gather_edits y r b.last (reverse b.before.items)) (moves_fit c (next_to insertion y) b.before.items)
    (tt, (tt, gathers_fit c y r b.last (reverse b.before.items)))

handed_fits : (c : ContextModel) (wide : ℕ) (place : Place) (n last : ℕ) (ms : List Bool) (vs : List Value) → Holds c → IsType c wide → AllFit c (handed_edits wide place n last ms vs)
handed_fits c wide place n last ms vs h k = fit_more c (bridge_edits wide place ms vs) (crossing_edits last 0 n ms) (bridges_fit c wide place ms vs h k) (crossings_fit c last 0 n ms)

four_fit : (c : ContextModel) (p q r s : List Edit) → AllFit c p → AllFit c q → AllFit c r → AllFit c s → AllFit c (p ++ q ++ r ++ s)
four_fit c p q r s h k l m = fit_more c (p ++ q ++ r) s (fit_more c (p ++ q) r (fit_more c p q h k) l) m

made_fits : (c : ContextModel) (wide : ℕ) (fs : List (ℕ × ℕ)) (insertion : Place) (vs : List Value) (o : Op) → IsType c wide → AreLowered c (head o).properties fs → IsSoundIn c o → AllFit c (Make insertion (op_lowered c wide fs vs o) ∷ [])
made_fits c wide fs insertion vs o k ps s = ((op_sound c wide fs vs o k ps s, regions_held c wide k (regions o)), tt)

pub loop_fits : (c : ContextModel) (wide index : ℕ) (fs : List (ℕ × ℕ)) (n : ℕ) (insertion : Place) (l : IndexedLoop)
    → Holds c → AreTypes c wide index → AreLowered c (head l.of.op).properties fs → IsIndexedLoop c l → AllFit c (loop_edits c wide index fs n insertion l)
loop_fits c wide index fs n insertion l h types ps p =
    let args = l.arguments.items in
    let ids = loop_ids n l in
    let holder_ids = numbers_from ids.holders args in
    let holders = first_results holder_ids in
    let arguments = arguments_from ids.op 0 args in
    let news = crossed ids.arguments l.index_arguments.items arguments in
    let o = l.of.op in
    fit_more c (insertion_edits c wide fs n insertion holders l ++ inside_edits index insertion ids.op holder_ids holders arguments news l) (after_edits wide index insertion ids news l)
    (fit_more c (insertion_edits c wide fs n insertion holders l) (inside_edits index insertion ids.op holder_ids holders arguments news l)
    (four_fit c (bridge_edits wide insertion l.of.index_operands.items (head o).operands) (holder_edits insertion args) (replace_edits (arguments_from (head o).id 0 args) holders) (Make insertion (op_lowered c wide fs (crossed n l.of.index_operands.items (head o).operands) o) ∷ [])
    (bridges_fit c wide insertion l.of.index_operands.items (head o).operands h types.wide_known)
    (holders_fit c insertion args h p.known)
    (replaces_fit c (arguments_from (head o).id 0 args) holders)
    (made_fits c wide fs insertion (crossed n l.of.index_operands.items (head o).operands) o types.wide_known ps p.of.sound))
    (four_fit c (bridge_edits index (end_of ids.op 0) l.index_arguments.items arguments) (over_edits insertion ids.op 0 l.body) (replace_edits holders news) (erase_edits holder_ids)
    (bridges_fit c index (end_of ids.op 0) l.index_arguments.items arguments h types.index_known)
    (over_fits c insertion ids.op 0 l.body)
    (replaces_fit c holders news)
    (erases_fit c holder_ids)))
    (fit_more c _ (give_edits index insertion l.of.index_results.items o ids.op ids.results)
    (handed_fits c wide (before_in ids.op 0 l.body.last) ids.handed l.body.last l.of.index_results.items _ h types.wide_known)
    (give_fits c index insertion l.of.index_results.items o ids.op ids.results h types.index_known))

side_fits : (c : ContextModel) (wide : ℕ) (insertion : Place) (y r k : ℕ) (ms : List Bool) (b : MovedOps) → Holds c → IsType c wide → AllFit c (side_edits wide insertion y r k ms b)
side_fits c wide insertion y r k ms b h t =
    fit_more c (over_edits insertion y r b) (handed_edits wide (before_in y r b.last) k b.last ms b.handed.items) (over_fits c insertion y r b) (handed_fits c wide (before_in y r b.last) k b.last ms b.handed.items h t)

pub choice_fits : (c : ContextModel) (wide index : ℕ) (fs : List (ℕ × ℕ)) (n : ℕ) (insertion : Place) (d : IndexedChoice)
    → Holds c → AreTypes c wide index → AreLowered c (head d.of.op).properties fs → IsIndexedChoice c d → AllFit c (choice_edits c wide index fs n insertion d)
choice_fits c wide index fs n insertion d h types ps p =
    let o = d.of.op in
    let results = d.of.index_results.items in
    let y = n + marked d.of.index_operands.items in
    four_fit c (Make insertion (op_lowered c wide fs (crossed n d.of.index_operands.items (head o).operands) o) ∷ []) (side_edits wide insertion y 0 (y + 1) results d.first) (side_edits wide insertion y 1 (y + 1 + marked results) results d.second)
    (give_edits index insertion results o y (y + 1 + marked results + marked results))
    (made_fits c wide fs insertion (crossed n d.of.index_operands.items (head o).operands) o types.wide_known ps p.of.sound)
    (side_fits c wide insertion y 0 (y + 1) results d.first h types.wide_known)
    (side_fits c wide insertion y 1 (y + 1 + marked results) results d.second h types.wide_known)
    (give_fits c index insertion results o y (y + 1 + marked results + marked results) h types.index_known)
