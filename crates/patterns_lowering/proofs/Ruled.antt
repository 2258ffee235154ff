-- The results of the lowering rules at an operation that the store shows.
use Rattle.std.proofs.Common.{◌≡◌, refl, ap, sym, ◌∙◌, subst, ℕ, ◌+◌, ◌≤◌, List, [], ◌∷◌, ◌++◌, length, map, Bool, true, false, ◌&&◌, ◌||◌, Option, Some, None, arith}
use Rattle.std.specs.Prelude.{codes, option_map, option_and_then, slice_get}
use Rattle.std.specs.List.{list_all, list_any, range_with_len}
use Rattle.std.proofs.lemmas.List.{length-map}
use Rattle.ir_event.specs.types.Things.{ContextModel}
use Rattle.ir_event.specs.types.Terms.{TypeTerm, Index, name_term, type_term, attr_term}
use Rattle.ir_event.specs.trees.declared.value.Value.{Value}
use Rattle.ir_event.specs.trees.declared.value.Value.TheVariants.{Result as result_of}
use Rattle.ir_event.specs.trees.declared.place.Place.{Place}
use Rattle.ir_event.specs.trees.Tree.{Op, op, head}
use Rattle.ir_event.specs.trees.Ids.{find}
use Rattle.ir_event.specs.trees.Meaning.{Operation, is_type, meaning}
use Rattle.ir_event.specs.tree_laws.Values.{arguments_at}
use Rattle.ir_event.specs.store.Nodes.{Node, node_of}
use Rattle.ir_event.specs.declared.world.World.{World}
use Rattle.ir_event.specs.Modules.{module_in, node_meaning}
use Rattle.ir_event.proofs.Nodes.{node_shown}
use Rattle.patterns_soundness.specs.base.Contents.{Edit}
use Rattle.patterns_soundness.specs.base.Edits.{Make}
use Rattle.patterns_soundness.specs.base.Keeps.{given}
use Rattle.patterns_soundness.specs.base.Made.{i64, placeholder}
use Rattle.patterns_soundness.specs.base.Words.{among, index_users, named}
use Rattle.patterns_soundness.specs.base.Looks.{Ended, body, is_index, is_index_value, when}
use Rattle.patterns_soundness.specs.base.Makes.{arguments_from, replacing, replaced, erasing}
use Rattle.patterns_soundness.specs.base.Lowering.{any, bridges, brought, crossed, crossing, marked, indices, lowered_loop, lowered_if, end_of, before_in, lower_index, lower_loop, lower_choice}
use Rattle.patterns_regions.specs.Blocks.{Shows, body_at}
use Rattle.patterns_regions.proofs.Viewed.{block_types}
use Rattle.patterns_soundness.specs.Yields.{IsVerifiedOf}
use Rattle.patterns_soundness.proofs.Yielding.{loops_hand_on_all, choices_hand_on_all, choices_ask_truth}
use Rattle.patterns_lowering.specs.declared.plan.Indexed.{Indexed}
use Rattle.patterns_lowering.specs.declared.plan.MovedOps.{MovedOps}
use Rattle.patterns_lowering.specs.declared.plan.IndexedLoop.{IndexedLoop}
use Rattle.patterns_lowering.specs.declared.plan.IndexedChoice.{IndexedChoice}
use Rattle.patterns_lowering.specs.declared.plan.Lowering.{Lowering}
use Rattle.patterns_lowering.specs.declared.plan.Lowering.TheVariants as plan
use Rattle.patterns_lowering.specs.Bare.{bare}
use Rattle.patterns_lowering.specs.Meanings.{results_given, operation_lowered, loop_lowered, choice_lowered, lowering_meaning}
use Rattle.patterns_lowering.specs.Planned.{AreTaken, IsVerifiedAt, IsLoweredBy, IsReadIn, IsReadOf, IsTaken, Making}
use Rattle.patterns_lowering.specs.Plans.{IsIndexed, IsIndexedChoice, IsIndexedLoop}
use Rattle.patterns_lowering.proofs.Read.{bare_mapped, op_bare, lower_index_read}
use Rattle.patterns_lowering.proofs.Shown.{Raw, bare_head, distinct_in, indexed_at, meant_there, none_there, raw, there_meant, types_few_at, types_known_at}
use Rattle.ir_event.proofs.Steps.{meaning_operands}
use Rattle.patterns_regions.proofs.Ruled.{when_none}
use Rattle.patterns_regions.proofs.Tested.{fails, goes_on}
use Rattle.patterns_regions.specs.Conditions.{Test, asks, first_failed_test}
use Rattle.patterns_regions.specs.Reason.{Reason}
use Rattle.patterns_regions.specs.Reason.TheVariants.{BlockNotVerified, NoIndex, WrongOperation}
use Rattle.patterns_regions.specs.RuleTests.{tests}
use Rattle.patterns_regions.proofs.of_plans.Passing.{any_mapped}
use Rattle.patterns_soundness.specs.base.declared.rule.Rule.{Rule}
use Rattle.patterns_soundness.specs.base.declared.rule.Rule.TheVariants.{LowerChoice, LowerLoop}

-- ---- tests

when_first : {X : Type 0} (a b : Bool) (r : Option X) → a ≡ false → None ≡ when (a && b) r
when_first a b r e = sym (ap (λ z. when (z && b) r) e)

when_second : {X : Type 0} (a b : Bool) (r : Option X) → b ≡ false → None ≡ when (a && b) r
when_second true b r e = sym (ap (λ z. when z r) e)
when_second false b r e = refl

when_both : {X : Type 0} (a b : Bool) (r : Option X) → a ≡ true → b ≡ true → r ≡ when (a && b) r
when_both a b r e f = sym (λ i. when (e i && f i) r)

-- ---- the rules, from what is read

module _ (t : Operation) (n : ℕ) (insertion : Place) where
  -- the edits of a loop, from what is read of its block, and the new operation
  abbrev loop_by : Operation → List TypeTerm → List ℕ → ℕ → List Value → Operation → List Edit
  loop_by o args before last handed made =
      let operands = map (is_index_value t) (head o).operands in
      let results = indices (head o).results in
      let id = n + marked operands in
      let y = id + length args in
      let arguments_id = y + 1 in
      let yields_id = arguments_id + marked (indices args) in
      let results_id = yields_id + marked results in
      let holder_ids = range_with_len id (length args) in
      let holders = map (λ (i : ℕ). result_of i 0) holder_ids in
      let olds = arguments_from (head o).id 0 args in
      let arguments = arguments_from y 0 args in
      let news = crossed arguments_id (indices args) arguments in
      bridges i64 insertion operands (head o).operands
      ++ map (λ (ty : TypeTerm). Make insertion (placeholder ty)) args
      ++ replacing olds holders
      ++ Make insertion made ∷ []
      ++ bridges Index (end_of y 0) (indices args) arguments
      ++ brought insertion y 0 before last
      ++ replacing holders news
      ++ erasing holder_ids
      ++ (bridges i64 (before_in y 0 last) results (map (replaced olds news) handed) ++ crossing last 0 yields_id results)
      ++ results_given n insertion operands results o y results_id

  loop_is : (o : Operation) (args : List TypeTerm) (e : Ended) (b : MovedOps) → IsTaken e b
      → loop_lowered n insertion (map (is_index_value t) (head o).operands) (indices (head o).results) (bare o) args (indices args) b ≡ lowered_loop t n insertion o args e
  loop_is (op h rs) args e b k =
      λ i. loop_by (op h rs) args (k.before i) (k.last i) (k.handed i) (op_bare (op h rs) (crossed n (map (is_index_value t) h.operands) h.operands) i)

  abbrev choice_by : Operation → List ℕ → ℕ → List Value → List ℕ → ℕ → List Value → Operation → List Edit
  choice_by o before last handed others end given made =
      let operands = map (is_index_value t) (head o).operands in
      let results = indices (head o).results in
      let y = n + marked operands in
      let first_id = y + 1 in
      let second_id = first_id + marked results in
      let results_id = second_id + marked results in
      Make insertion made ∷ []
      ++ brought insertion y 0 before last
      ++ (bridges i64 (before_in y 0 last) results handed ++ crossing last 0 first_id results)
      ++ brought insertion y 1 others end
      ++ (bridges i64 (before_in y 1 end) results given ++ crossing end 0 second_id results)
      ++ results_given n insertion operands results o y results_id

  unreplaced : (vs : List Value) → vs ≡ map (replaced [] []) vs
  unreplaced [] = refl
  unreplaced (v ∷ vs) = ap (λ l. v ∷ l) (unreplaced vs)

  choice_is : (o : Operation) (e f : Ended) (b d : MovedOps) → IsTaken e b → IsTaken f d
      → choice_lowered n insertion (map (is_index_value t) (head o).operands) (indices (head o).results) (bare o) b d ≡ lowered_if t n insertion o e f
  choice_is (op h rs) e f b d k l =
      λ i. choice_by (op h rs) (k.before i) (k.last i) ((k.handed ∙ unreplaced e.last.operands) i) (l.before i) (l.last i) ((l.handed ∙ unreplaced f.last.operands) i)
      (op_bare (op h rs) (crossed n (map (is_index_value t) h.operands) h.operands) i)

-- what is read of an optional block
none_of : (o : Option Ended) → AreTaken o None → None ≡ o
none_of None h = refl
none_of (Some e) h = absurd h

record TakenOf (o : Option Ended) (b : MovedOps) : Type 0 where
  ended : Ended
  is : o ≡ Some ended
  taken : IsTaken ended b

some_of : (o : Option Ended) (b : MovedOps) → AreTaken o (Some b) → TakenOf o b
some_of None b h = absurd h
some_of (Some e) b h = record { ended = e; is = refl; taken = h }

-- ---- at an operation that the store shows

meant_name : (c : ContextModel) (o : Op) → (head (meaning c o)).name ≡ name_term c (node_of o).head.name
meant_name c (op h rs) = refl

meant_results : (c : ContextModel) (o : Op) → (head (meaning c o)).results ≡ map (type_term c) (head o).results
meant_results c (op h rs) = refl

-- c is the reason of the first test of a rule that fails at the operation, if it is in the module
abbrev pub FirstFailed : World → ℕ → Rule → Bool → Option Reason → Type 0
FirstFailed w x r b c = (o : Operation) → find x (module_in w).tree ≡ Some o → c ≡ first_failed_test (tests r (module_in w).tree o b)

-- the operation isn't in the module
pub not_there_tested : (w : World) (x : ℕ) (r : Rule) (b : Bool) (c : Option Reason) → None ≡ option_map node_of (find x w.store.module_of.tree) → FirstFailed w x r b c
not_there_tested w x r b c e o f = absurd (none_there w x o e f)

pub not_there : (makes : Making) (w : World) (x : ℕ) → None ≡ option_map node_of (find x w.store.module_of.tree) → IsLoweredBy makes w x None
not_there makes w x e o f = absurd (none_there w x o e f)

module _ (w : World) (x : ℕ) (n : Node) (shown : Some n ≡ option_map node_of (find x w.store.module_of.tree)) where
  abbrev s : Raw w x n
  s = raw w x n shown

  abbrev t : Operation
  t = (module_in w).tree

  abbrev m : Operation
  m = meaning w.ctx s.here

  -- a property of the operation that is in the module
  at : (makes : Making) (p : Option Lowering) → ((k : ℕ) (insertion : Place) → option_map (lowering_meaning w.ctx k insertion) p ≡ makes t k insertion m) → IsLoweredBy makes w x p
  at makes p h o f k insertion = h k insertion ∙ ap (makes t k insertion) (sym (meant_there w x s.here o s.found f))

  named_as : (head m).name ≡ name_term w.ctx n.head.name
  named_as = meant_name w.ctx s.here ∙ ap (λ (z : Node). name_term w.ctx z.head.name) (sym s.node)

  -- a name that the rule doesn't apply to
  pub not_lower_index : (b : Bool) → b ≡ among index_users (name_term w.ctx n.head.name) → b ≡ false → IsLoweredBy lower_index w x None
  not_lower_index b e f = at lower_index None (λ k insertion. when_first _ _ _ (ap (among index_users) named_as ∙ sym e ∙ f))

  pub not_lower_loop : (b : Bool) → b ≡ named (codes "scf.for") (name_term w.ctx n.head.name) → b ≡ false → IsLoweredBy lower_loop w x None
  not_lower_loop b e f = at lower_loop None (λ k insertion. when_first _ _ _ (ap (named (codes "scf.for")) named_as ∙ sym e ∙ f))

  pub not_lower_choice : (b : Bool) → b ≡ named (codes "scf.if") (name_term w.ctx n.head.name) → b ≡ false → IsLoweredBy lower_choice w x None
  not_lower_choice b e f = at lower_choice None (λ k insertion. when_first _ _ _ (ap (named (codes "scf.if")) named_as ∙ sym e ∙ f))

  -- the first test that fails, of the operation that is in the module
  tested : (r : Rule) (b : Bool) (c : Option Reason) → c ≡ first_failed_test (tests r t m b) → FirstFailed w x r b c
  tested r b c h o f = h ∙ ap (λ o. first_failed_test (tests r t o b)) (sym (meant_there w x s.here o s.found f))

  abbrev block_tests : Bool → List Test
  block_tests a = asks BlockNotVerified a ∷ []

  abbrev loop_tests : Bool → List Test
  loop_tests a = asks NoIndex (list_any (is_index_value t) (head m).operands) ∷ block_tests a

  abbrev choice_tests : Bool → List Test
  choice_tests a = asks NoIndex (list_any is_index (head m).results) ∷ block_tests a

  pub other_loop : (b : Bool) → b ≡ named (codes "scf.for") (name_term w.ctx n.head.name) → b ≡ false → FirstFailed w x LowerLoop false (Some WrongOperation)
  other_loop b e f = tested LowerLoop false (Some WrongOperation) (fails (named (codes "scf.for") (head m).name) WrongOperation (loop_tests false) (ap (named (codes "scf.for")) named_as ∙ sym e ∙ f))

  pub other_choice : (b : Bool) → b ≡ named (codes "scf.if") (name_term w.ctx n.head.name) → b ≡ false → FirstFailed w x LowerChoice false (Some WrongOperation)
  other_choice b e f = tested LowerChoice false (Some WrongOperation) (fails (named (codes "scf.if") (head m).name) WrongOperation (choice_tests false) (ap (named (codes "scf.if")) named_as ∙ sym e ∙ f))

  module _ (i : Indexed) (was : IsReadOf w x i) where
    abbrev r : IsReadIn w s.here i
    r = was s.here s.found

    operands_are : i.index_operands.items ≡ map (is_index_value t) (head m).operands
    operands_are = r.operands ∙ ap (map (is_index_value t)) (sym (meaning_operands w.ctx s.here))

    results_are : i.index_results.items ≡ indices (head m).results
    results_are = r.results ∙ ap indices (sym (meant_results w.ctx s.here))

    op_is : meaning w.ctx i.op ≡ bare m
    op_is = ap (meaning w.ctx) r.op ∙ bare_mapped (name_term w.ctx) (type_term w.ctx) (attr_term w.ctx) s.here

    -- no operand or result has type index
    pub unmarked_lower_index : (b : Bool) → b ≡ any i.index_operands.items || any i.index_results.items → b ≡ false → IsLoweredBy lower_index w x None
    unmarked_lower_index b e f = at lower_index None (λ k insertion. when_second _ _ _ ((λ z. any (sym operands_are z) || any (sym results_are z)) ∙ sym e ∙ f))

    pub unmarked_lower_loop : (b : Bool) → b ≡ any i.index_operands.items → b ≡ false → IsLoweredBy lower_loop w x None
    unmarked_lower_loop b e f = at lower_loop None (λ k insertion. when_second _ _ _ (ap any (sym operands_are) ∙ sym e ∙ f))

    pub unmarked_lower_choice : (b : Bool) → b ≡ any i.index_results.items → b ≡ false → IsLoweredBy lower_choice w x None
    unmarked_lower_choice b e f = at lower_choice None (λ k insertion. when_second _ _ _ (ap any (sym results_are) ∙ sym e ∙ f))

    -- the tests after the name's, of a loop and of a choice
    module _ (b d : Bool) (e : b ≡ named (codes "scf.for") (name_term w.ctx n.head.name)) (f : b ≡ true) (g : d ≡ any i.index_operands.items) where
      operands_marked : list_any (is_index_value t) (head m).operands ≡ d
      operands_marked = sym (g ∙ ap any operands_are ∙ any_mapped (is_index_value t) (head m).operands)

      after_for : (a : Bool) → first_failed_test (loop_tests a) ≡ first_failed_test (tests LowerLoop t m a)
      after_for a = goes_on (named (codes "scf.for") (head m).name) WrongOperation (loop_tests a) (ap (named (codes "scf.for")) named_as ∙ sym e ∙ f)

      pub unmarked_loop : d ≡ false → FirstFailed w x LowerLoop false (Some NoIndex)
      unmarked_loop h = tested LowerLoop false (Some NoIndex) (fails (list_any (is_index_value t) (head m).operands) NoIndex (block_tests false) (operands_marked ∙ h) ∙ after_for false)

      pub blockless_loop : d ≡ true → FirstFailed w x LowerLoop false (Some BlockNotVerified)
      blockless_loop h = tested LowerLoop false (Some BlockNotVerified) (goes_on (list_any (is_index_value t) (head m).operands) NoIndex (block_tests false) (operands_marked ∙ h) ∙ after_for false)

      pub lowered_loop_tested : d ≡ true → FirstFailed w x LowerLoop true None
      lowered_loop_tested h = tested LowerLoop true None (goes_on (list_any (is_index_value t) (head m).operands) NoIndex (block_tests true) (operands_marked ∙ h) ∙ after_for true)

    module _ (b d : Bool) (e : b ≡ named (codes "scf.if") (name_term w.ctx n.head.name)) (f : b ≡ true) (g : d ≡ any i.index_results.items) where
      results_marked : list_any is_index (head m).results ≡ d
      results_marked = sym (g ∙ ap any results_are ∙ any_mapped is_index (head m).results)

      after_if : (a : Bool) → first_failed_test (choice_tests a) ≡ first_failed_test (tests LowerChoice t m a)
      after_if a = goes_on (named (codes "scf.if") (head m).name) WrongOperation (choice_tests a) (ap (named (codes "scf.if")) named_as ∙ sym e ∙ f)

      pub unmarked_choice : d ≡ false → FirstFailed w x LowerChoice false (Some NoIndex)
      unmarked_choice h = tested LowerChoice false (Some NoIndex) (fails (list_any is_index (head m).results) NoIndex (block_tests false) (results_marked ∙ h) ∙ after_if false)

      pub blockless_choice : d ≡ true → FirstFailed w x LowerChoice false (Some BlockNotVerified)
      blockless_choice h = tested LowerChoice false (Some BlockNotVerified) (goes_on (list_any is_index (head m).results) NoIndex (block_tests false) (results_marked ∙ h) ∙ after_if false)

      pub lowered_choice_tested : d ≡ true → FirstFailed w x LowerChoice true None
      lowered_choice_tested h = tested LowerChoice true None (goes_on (list_any is_index (head m).results) NoIndex (block_tests true) (results_marked ∙ h) ∙ after_if true)

    -- an `arith` operation
    pub is_lower_index : (b d : Bool) → b ≡ among index_users (name_term w.ctx n.head.name) → b ≡ true → d ≡ any i.index_operands.items || any i.index_results.items → d ≡ true → IsLoweredBy lower_index w x (Some (plan.Operation i))
    is_lower_index b d e f g h =
        at lower_index (Some (plan.Operation i))
        (λ k insertion. (λ z. Some (operation_lowered k insertion (operands_are z) (results_are z) (op_is z)))
        ∙ when_both _ _ _ (ap (among index_users) named_as ∙ sym e ∙ f) ((λ z. any (sym operands_are z) || any (sym results_are z)) ∙ sym g ∙ h)
        ∙ sym (lower_index_read t k insertion m))

    -- ---- a loop
    shows : Shows w.ctx n m
    shows = ap (node_meaning w.ctx) s.node ∙ sym (node_shown w.ctx s.here)

    body_here : (q : ℕ) → body_at x q t ≡ body t m q
    body_here q = ap (λ z. given z (λ o. body t o q)) (there_meant w x s.here s.found)

    pub no_block_lower_loop : None ≡ option_and_then (λ a. a) (slice_get n.arguments 0) → IsLoweredBy lower_loop w x None
    no_block_lower_loop e =
        at lower_loop None
        (λ k insertion. when_none _ _ (ap (λ a. given a (λ args. given (body t m 0) (λ e. Some (lowered_loop t k insertion m args e)))) (ap (option_map (map (type_term w.ctx))) e ∙ block_types w.ctx n m 0 shows)))

    no_body : (k : ℕ) (insertion : Place) (a : Option (List TypeTerm)) → None ≡ body t m 0 → None ≡ given a (λ args. given (body t m 0) (λ e. Some (lowered_loop t k insertion m args e)))
    no_body k insertion None e = refl
    no_body k insertion (Some args) e = ap (λ b. given b (λ e. Some (lowered_loop t k insertion m args e))) e

    pub no_body_lower_loop : AreTaken (body_at x 0 t) None → IsLoweredBy lower_loop w x None
    no_body_lower_loop e = at lower_loop None (λ k insertion. when_none _ _ (no_body k insertion (arguments_at 0 m) (none_of (body_at x 0 t) e ∙ body_here 0)))

    op_results : length (head i.op).results ≡ length (head m).results
    op_results =
        ap (λ (o : Op). length (head o).results) r.op ∙ ap (λ h. length h.results) (bare_head s.here)
        ∙ sym (ap length (meant_results w.ctx s.here) ∙ length-map (head s.here).results (type_term w.ctx))

    pub indexed : IsIndexed w.ctx i
    indexed = indexed_at w x s.here i s.found r

  verified_of : IsVerifiedAt w x → (word : List ℕ) (b : Bool) → b ≡ named word (name_term w.ctx n.head.name) → b ≡ true → IsVerifiedOf t m x word
  verified_of verified word b e f = record { distinct = distinct_in w; found = there_meant w x s.here s.found; verified = verified m (there_meant w x s.here s.found); name = ap (named word) named_as ∙ sym e ∙ f }

  -- what is read of one of its blocks
  taken_here : (i : Indexed) (was : IsReadOf w x i) (q : ℕ) (b : MovedOps) → AreTaken (body_at x q t) (Some b) → TakenOf (body t m q) b
  taken_here i was q b h = some_of (body t m q) b (subst (λ o. AreTaken o (Some b)) (body_here i was q) h)

  module _ (l : IndexedLoop) (was : IsReadOf w x l.of) (b : Bool) (e : b ≡ named (codes "scf.for") (name_term w.ctx n.head.name)) (f : b ≡ true)
      (types : List ℕ) (block : option_and_then (λ a. a) (slice_get n.arguments 0) ≡ Some types) (arguments : l.arguments.items ≡ types) (marks : l.index_arguments.items ≡ indices (map (type_term w.ctx) types))
      (taken : AreTaken (body_at x 0 t) (Some l.body)) where
    abbrev last : TakenOf (body t m 0) l.body
    last = taken_here l.of was 0 l.body taken

    args_are : Some (map (type_term w.ctx) types) ≡ arguments_at 0 m
    args_are = ap (option_map (map (type_term w.ctx))) (sym block) ∙ block_types w.ctx n m 0 (shows l.of was)

    pub is_lower_loop : (d : Bool) → d ≡ any l.of.index_operands.items → d ≡ true → IsLoweredBy lower_loop w x (Some (plan.Loop l))
    is_lower_loop d g h =
        at lower_loop (Some (plan.Loop l))
        (λ k insertion. (λ z. Some (loop_lowered k insertion (operands_are l.of was z) (results_are l.of was z) (op_is l.of was z) (map (type_term w.ctx) (arguments z)) (marks z) l.body))
        ∙ ap Some (loop_is t k insertion m (map (type_term w.ctx) types) last.ended l.body last.taken)
        ∙ ap (λ q. given q (λ e. Some (lowered_loop t k insertion m (map (type_term w.ctx) types) e))) (sym last.is)
        ∙ ap (λ a. given a (λ args. given (body t m 0) (λ e. Some (lowered_loop t k insertion m args e)))) args_are
        ∙ when_both _ _ _ (ap (named (codes "scf.for")) named_as ∙ sym e ∙ f) (ap any (sym (operands_are l.of was)) ∙ sym g ∙ h))

    pub indexed_lower_loop : IsVerifiedAt w x → IsIndexedLoop w.ctx l
    indexed_lower_loop verified = record {
      of = indexed l.of was;
      known = ap (list_all (is_type w.ctx)) arguments ∙ types_known_at w x n s 0 types block;
      few = subst (λ (k : ℕ). k ≤ 256) (ap length (sym arguments)) (types_few_at w x n s 0 types block);
      arguments = marks ∙ ap (λ l. indices (map (type_term w.ctx) l)) (sym arguments);
      handed = ap length last.taken.handed ∙ loops_hand_on_all t m x last.ended (verified_of verified (codes "scf.for") b e f) last.is ∙ sym (op_results l.of was);
    }

  -- ---- a choice
  no_first : (k : ℕ) (insertion : Place) → None ≡ body t m 0 → None ≡ given (body t m 0) (λ e. given (body t m 1) (λ f. Some (lowered_if t k insertion m e f)))
  no_first k insertion e = ap (λ b. given b (λ e. given (body t m 1) (λ f. Some (lowered_if t k insertion m e f)))) e

  no_second : (k : ℕ) (insertion : Place) (o : Option Ended) → None ≡ body t m 1 → None ≡ given o (λ e. given (body t m 1) (λ f. Some (lowered_if t k insertion m e f)))
  no_second k insertion None e = refl
  no_second k insertion (Some q) e = ap (λ b. given b (λ f. Some (lowered_if t k insertion m q f))) e

  module _ (i : Indexed) (was : IsReadOf w x i) where
    pub no_first_lower_choice : AreTaken (body_at x 0 t) None → IsLoweredBy lower_choice w x None
    no_first_lower_choice e = at lower_choice None (λ k insertion. when_none _ _ (no_first k insertion (none_of (body_at x 0 t) e ∙ body_here i was 0)))

    pub no_second_lower_choice : AreTaken (body_at x 1 t) None → IsLoweredBy lower_choice w x None
    no_second_lower_choice e = at lower_choice None (λ k insertion. when_none _ _ (no_second k insertion (body t m 0) (none_of (body_at x 1 t) e ∙ body_here i was 1)))

  module _ (l : IndexedChoice) (was : IsReadOf w x l.of) (b : Bool) (e : b ≡ named (codes "scf.if") (name_term w.ctx n.head.name)) (f : b ≡ true)
      (first : AreTaken (body_at x 0 t) (Some l.first)) (second : AreTaken (body_at x 1 t) (Some l.second)) where
    abbrev one : TakenOf (body t m 0) l.first
    one = taken_here l.of was 0 l.first first

    abbrev two : TakenOf (body t m 1) l.second
    two = taken_here l.of was 1 l.second second

    pub is_lower_choice : (d : Bool) → d ≡ any l.of.index_results.items → d ≡ true → IsLoweredBy lower_choice w x (Some (plan.Choice l))
    is_lower_choice d g h =
        at lower_choice (Some (plan.Choice l))
        (λ k insertion. (λ z. Some (choice_lowered k insertion (operands_are l.of was z) (results_are l.of was z) (op_is l.of was z) l.first l.second))
        ∙ ap Some (choice_is t k insertion m one.ended two.ended l.first l.second one.taken two.taken)
        ∙ ap (λ q. given q (λ f. Some (lowered_if t k insertion m one.ended f))) (sym two.is)
        ∙ ap (λ q. given q (λ e. given (body t m 1) (λ f. Some (lowered_if t k insertion m e f)))) (sym one.is)
        ∙ when_both _ _ _ (ap (named (codes "scf.if")) named_as ∙ sym e ∙ f) (ap any (sym (results_are l.of was)) ∙ sym g ∙ h))

    pub indexed_lower_choice : IsVerifiedAt w x → IsIndexedChoice w.ctx l
    indexed_lower_choice verified =
        let c = verified_of verified (codes "scf.if") b e f in
        record {
          of = indexed l.of was;
          operands = ap marked (operands_are l.of was ∙ choices_ask_truth t m x c);
          first = ap length one.taken.handed ∙ choices_hand_on_all t m x 0 one.ended (omega arith) c one.is ∙ sym (op_results l.of was);
          second = ap length two.taken.handed ∙ choices_hand_on_all t m x 1 two.ended (omega arith) c two.is ∙ sym (op_results l.of was);
        }
