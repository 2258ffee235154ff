-- The number of operations that the edits of lowerings make.
use Rattle.std.proofs.Common.{◌≡◌, refl, ap, sym, ◌∙◌, ℕ, ◌+◌, ◌*◌, List, [], ◌∷◌, ◌++◌, length, map, reverse, Bool, true, false, arith}
use Rattle.std.specs.List.{range_with_len}
use Rattle.std.proofs.lemmas.List.{length-map}
use Rattle.ir_event.specs.types.Things.{ContextModel}
use Rattle.ir_event.specs.types.Terms.{TypeTerm, Index, type_term}
use Rattle.ir_event.specs.trees.declared.value.Value.{Value}
use Rattle.ir_event.specs.trees.declared.value.Value.TheVariants.{Result}
use Rattle.ir_event.specs.trees.declared.place.Place.{Place}
use Rattle.ir_event.specs.trees.Tree.{Op, op, head}
use Rattle.ir_event.specs.trees.Meaning.{Operation, meaning}
use Rattle.patterns_soundness.specs.base.Contents.{Edit}
use Rattle.patterns_soundness.specs.base.Edits.{Make, Erase, Move}
use Rattle.patterns_soundness.specs.base.Made.{i64, placeholder}
use Rattle.patterns_soundness.specs.base.Makes.{results_from, arguments_from, replacing, replaced, moving, erasing, made_by}
use Rattle.patterns_soundness.specs.base.Lowering.{before_in, next_to, bridges, brought, crossed, crossing, end_of, gathering, marked}
use Rattle.patterns_lowering.specs.declared.plan.MovedOps.{MovedOps}
use Rattle.patterns_lowering.specs.declared.plan.Indexed.{Indexed}
use Rattle.patterns_lowering.specs.declared.plan.Lowering.{Lowering}
use Rattle.patterns_lowering.specs.declared.plan.Lowering.TheVariants as plan
use Rattle.patterns_lowering.specs.Meanings.{results_given, operation_made, operation_id, operation_lowered, moved_over, handed_on, loop_lowered, choice_lowered, lowering_meaning}
use Rattle.patterns_lowering.specs.Plans.{IsIndexed, LoweringIsOf, lowering_makes}
use Rattle.patterns_soundness.proofs.of_base.Facts.{bridges_make}
use Rattle.patterns_soundness.proofs.of_base.Making.{joined}

-- the number for two joined lists
both_make : (es fs : List Edit) (m n : ℕ) → made_by es ≡ m → made_by fs ≡ n → made_by (es ++ fs) ≡ m + n
both_make es fs m n h k = joined es fs ∙ (λ i. h i + k i)

replacing_makes : (vs ws : List Value) → made_by (replacing vs ws) ≡ 0
replacing_makes [] ws = refl
replacing_makes (v ∷ vs) [] = refl
replacing_makes (v ∷ vs) (w ∷ ws) = omega (arith, replacing_makes vs ws)

moving_makes : (place : Place) (xs : List ℕ) → made_by (moving place xs) ≡ 0
moving_makes place [] = refl
moving_makes place (x ∷ xs) = (let e = moving_makes place xs in omega (arith, e))

gathering_makes : (y r z : ℕ) (xs : List ℕ) → made_by (gathering y r z xs) ≡ 0
gathering_makes y r z [] = refl
gathering_makes y r z (x ∷ xs) = (let e = gathering_makes y r x xs in omega (arith, e))

erasing_makes : (xs : List ℕ) → made_by (erasing xs) ≡ 0
erasing_makes [] = refl
erasing_makes (x ∷ xs) = (let e = erasing_makes xs in omega (arith, e))

crossing_makes : (x k n : ℕ) (ms : List Bool) → made_by (crossing x k n ms) ≡ 0
crossing_makes x k n [] = refl
crossing_makes x k n (true ∷ ms) = (let e = crossing_makes x (k + 1) (n + 1) ms in omega (arith, e))
crossing_makes x k n (false ∷ ms) = crossing_makes x (k + 1) n ms

holders_make : (place : Place) (tys : List TypeTerm) → made_by (map (λ ty. Make place (placeholder ty)) tys) ≡ length tys
holders_make place [] = refl
holders_make place (ty ∷ tys) = omega (arith, holders_make place tys)

results_length : {X : Type 0} (x k : ℕ) (is : List X) → length (results_from x k is) ≡ length is
results_length x k [] = refl
results_length x k (i ∷ is) = omega (arith, results_length x (k + 1) is)

pub arguments_length : {X : Type 0} (x k : ℕ) (is : List X) → length (arguments_from x k is) ≡ length is
arguments_length x k [] = refl
arguments_length x k (i ∷ is) = omega (arith, arguments_length x (k + 1) is)

module _ (n : ℕ) (insertion : Place) (operands results : List Bool) (o : Operation) (given : length results ≡ length (head o).results) where
  given_makes : (y c : ℕ) → made_by (results_given n insertion operands results o y c) ≡ marked results
  given_makes y c =
      let vs = results_from y 0 (head o).results in
      let a = bridges_make Index insertion results vs (given ∙ sym (results_length y 0 (head o).results)) in
      let b = replacing_makes (results_from (head o).id 0 (head o).results) (crossed c results vs) in
      let e = both_make (bridges Index insertion results vs) (replacing (results_from (head o).id 0 (head o).results) (crossed c results vs)) _ _ a b in
      let f = both_make (bridges Index insertion results vs ++ replacing (results_from (head o).id 0 (head o).results) (crossed c results vs)) (Erase (head o).id ∷ []) _ 0 e refl in
      f ∙ omega arith

  handed_makes : (y r c last : ℕ) (vs : List Value) → length results ≡ length vs → made_by (handed_on n insertion operands results o y r c last vs) ≡ marked results
  handed_makes y r c last vs h =
      both_make (bridges i64 (before_in y r last) results vs) (crossing last 0 c results) _ _ (bridges_make i64 (before_in y r last) results vs h) (crossing_makes last 0 c results) ∙ omega arith

  moved_makes : (y r : ℕ) (b : MovedOps) → made_by (moved_over n insertion operands results o y r b) ≡ 0
  moved_makes y r b =
      let e = gathering_makes y r b.last (reverse b.before.items) in
      both_make (moving (next_to insertion y) b.before.items) (Move b.last (next_to insertion y) ∷ Move b.last (end_of y r) ∷ gathering y r b.last (reverse b.before.items)) 0 0 (moving_makes (next_to insertion y) b.before.items) (omega (arith, e))

  operation_makes : length operands ≡ length (head o).operands → made_by (operation_lowered n insertion operands results o) ≡ marked operands + 1 + marked results
  operation_makes h =
      let b = bridges i64 insertion operands (head o).operands in
      let m = operation_made n insertion operands results o in
      let y = operation_id n insertion operands results o in
      both_make (b ++ m) (results_given n insertion operands results o y (y + 1)) _ _
      (both_make b m _ 1 (bridges_make i64 insertion operands (head o).operands h) refl) (given_makes y (y + 1))

  choice_makes : (b d : MovedOps) → length results ≡ length b.handed.items → length results ≡ length d.handed.items → made_by (choice_lowered n insertion operands results o b d) ≡ 1 + 3 * marked results
  choice_makes b d h k =
      let y = operation_id n insertion operands results o in
      let first = y + 1 in
      let second = first + marked results in
      let last = second + marked results in
      let m = operation_made n insertion operands results o in
      let p = moved_over n insertion operands results o y 0 b in
      let q = handed_on n insertion operands results o y 0 first b.last b.handed.items in
      let r = moved_over n insertion operands results o y 1 d in
      let s = handed_on n insertion operands results o y 1 second d.last d.handed.items in
      let g = results_given n insertion operands results o y last in
      both_make (m ++ p ++ q ++ r ++ s) g _ _
      (both_make (m ++ p ++ q ++ r) s _ _
      (both_make (m ++ p ++ q) r _ _
      (both_make (m ++ p) q _ _ (both_make m p 1 0 refl (moved_makes y 0 b)) (handed_makes y 0 first b.last b.handed.items h))
      (moved_makes y 1 d))
      (handed_makes y 1 second d.last d.handed.items k))
      (given_makes y last)
      ∙ omega arith

  loop_makes : (args : List TypeTerm) (marks : List Bool) (b : MovedOps) → length operands ≡ length (head o).operands → length marks ≡ length args → length results ≡ length b.handed.items
      → made_by (loop_lowered n insertion operands results o args marks b) ≡ marked operands + 1 + marked results + length args + marked marks + marked results
  loop_makes args marks b h k l =
      let id = operation_id n insertion operands results o in
      let y = id + length args in
      let arguments_id = y + 1 in
      let yields_id = arguments_id + marked marks in
      let results_id = yields_id + marked results in
      let ids = range_with_len id (length args) in
      let holders = map (λ (i : ℕ). Result i 0) ids in
      let olds = arguments_from (head o).id 0 args in
      let arguments = arguments_from y 0 args in
      let news = crossed arguments_id marks arguments in
      let handed = map (replaced olds news) b.handed.items in
      let p = bridges i64 insertion operands (head o).operands in
      let q = map (λ (ty : TypeTerm). Make insertion (placeholder ty)) args in
      let r = replacing olds holders in
      let m = operation_made n insertion operands results o in
      let s = bridges Index (end_of y 0) marks arguments in
      let t = moved_over n insertion operands results o y 0 b in
      let u = replacing holders news in
      let v = erasing ids in
      let w = handed_on n insertion operands results o y 0 yields_id b.last handed in
      let g = results_given n insertion operands results o y results_id in
      both_make (p ++ q ++ r ++ m ++ s ++ t ++ u ++ v ++ w) g _ _
      (both_make (p ++ q ++ r ++ m ++ s ++ t ++ u ++ v) w _ _
      (both_make (p ++ q ++ r ++ m ++ s ++ t ++ u) v _ _
      (both_make (p ++ q ++ r ++ m ++ s ++ t) u _ _
      (both_make (p ++ q ++ r ++ m ++ s) t _ _
      (both_make (p ++ q ++ r ++ m) s _ _
      (both_make (p ++ q ++ r) m _ 1
      (both_make (p ++ q) r _ _ (both_make p q _ _ (bridges_make i64 insertion operands (head o).operands h) (holders_make insertion args)) (replacing_makes olds holders)) refl)
      (bridges_make Index (end_of y 0) marks arguments (k ∙ sym (arguments_length y 0 args))))
      (moved_makes y 0 b))
      (replacing_makes holders news))
      (erasing_makes ids))
      (handed_makes y 0 yields_id b.last handed (l ∙ sym (length-map b.handed.items (replaced olds news)))))
      (given_makes y results_id)
      ∙ omega arith

-- the number of results and operands of an operation, with terms
results_many : (c : ContextModel) (o : Op) → length (head (meaning c o)).results ≡ length (head o).results
results_many c (op h rs) = length-map h.results (type_term c)

operands_many : (c : ContextModel) (o : Op) → length (head (meaning c o)).operands ≡ length (head o).operands
operands_many c (op h rs) = refl

marks_many : (c : ContextModel) (i : Indexed) → IsIndexed c i → length i.index_results.items ≡ length (head i.op).results
marks_many c i p = ap length p.results ∙ length-map (map (type_term c) (head i.op).results) _ ∙ length-map (head i.op).results (type_term c)

-- the number of operations that a plan makes, by its edits
pub lowering_made : (c : ContextModel) (n : ℕ) (insertion : Place) (p : Lowering) → LoweringIsOf c p → made_by (lowering_meaning c n insertion p) ≡ lowering_makes p
lowering_made c n insertion (plan.Operation i) h =
    operation_makes n insertion i.index_operands.items i.index_results.items (meaning c i.op) (marks_many c i h ∙ sym (results_many c i.op)) (h.operands ∙ sym (operands_many c i.op))
lowering_made c n insertion (plan.Loop l) h =
    loop_makes n insertion l.of.index_operands.items l.of.index_results.items (meaning c l.of.op) (marks_many c l.of h.of ∙ sym (results_many c l.of.op)) (map (type_term c) l.arguments.items) l.index_arguments.items l.body
    (h.of.operands ∙ sym (operands_many c l.of.op))
    (ap length h.arguments ∙ length-map (map (type_term c) l.arguments.items) _)
    (marks_many c l.of h.of ∙ sym h.handed)
    ∙ (let e = length-map l.arguments.items (type_term c) in omega (arith, e))
lowering_made c n insertion (plan.Choice d) h =
    choice_makes n insertion d.of.index_operands.items d.of.index_results.items (meaning c d.of.op) (marks_many c d.of h.of ∙ sym (results_many c d.of.op)) d.first d.second
    (marks_many c d.of h.of ∙ sym h.first) (marks_many c d.of h.of ∙ sym h.second)
