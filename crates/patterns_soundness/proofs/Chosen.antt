-- `lower-choice`: an `scf.if` with index results becomes one with i64 results, with its blocks.
use Rattle.std.proofs.Common.{◌≡◌, refl, ap, sym, ◌∙◌, subst, ℕ, zero, suc, ◌+◌, ◌<◌, ◌≤◌, Bool, true, false, true≢false, cond, ◌&&◌, eqb, List, [], ◌∷◌, ◌++◌, length, map, Option, Some, None, option_map, inl, inr, arith, append_assoc, lt-ltb}
use Rattle.std.specs.Prelude.{codes, nat_lt, option_and_then, slice_get}
use Rattle.std.proofs.lemmas.List.{length-map}
use Rattle.std.proofs.lemmas.Slice.Eq.{bytes_eq-Decides}
use Rattle.ir_event.specs.types.Words.{is_isolated, is_table}
use Rattle.ir_event.specs.types.Terms.{TypeTerm, Index, AttrTerm}
use Rattle.ir_event.specs.trees.declared.value.Value.{Value}
use Rattle.ir_event.specs.trees.declared.value.Value.TheVariants.{Result}
use Rattle.ir_event.specs.trees.declared.place.Place.{Place}
use Rattle.ir_event.specs.trees.Tree.{OpsOf, block, next, no_ops, head, regions}
use Rattle.ir_event.specs.trees.Ids.{find, has_id}
use Rattle.ir_event.specs.trees.Meaning.{Operation}
use Rattle.ir_event.specs.tree_laws.Members.{In}
use Rattle.ir_event.specs.tree_laws.Reasons.{hold_none, with_id}
use Rattle.ir_event.specs.tree_laws.Stands.{StepOf}
use Rattle.ir_event.specs.tree_laws.Values.{region_at, type_of_value}
use Rattle.ir_event.proofs.of_tree_laws.Around.{stand_present}
use Rattle.ir_event.proofs.of_tree_laws.Listed.{both, in_right}
use Rattle.ir_event.proofs.of_tree_laws.Members.{found_stands, joined_ops}
use Rattle.ir_event.proofs.of_tree_laws.Readings.{step}
use Rattle.ir_event.specs.Modules.{Module}
use Rattle.rewriter_machine.specs.Contents.{Edit, edited}
use Rattle.rewriter_machine.specs.Edits.{Erase, Make}
use Rattle.patterns_base.specs.Lists.{Free}
use Rattle.patterns_base.proofs.Preceding.{cut_at}
use Rattle.patterns_base.proofs.Plans.{StandsAt, dominated_by}
use Rattle.patterns_soundness.specs.base.Keeps.{given, lowered_type}
use Rattle.patterns_soundness.specs.base.Words.{named}
use Rattle.patterns_soundness.specs.base.Looks.{Ended, Header, body, is_index, is_index_value}
use Rattle.patterns_soundness.specs.base.Made.{i64}
use Rattle.patterns_soundness.specs.base.Makes.{made_by, replaced, replacing, results_from}
use Rattle.patterns_soundness.specs.base.Lowering.{any, before_in, bridges, brought, crossed, crossing, give_lowered, index_operands, index_results, indices, lowered_id, lowered_if, lowered_op, make_lowered, marked, move_over, take_over, lower_choice}
use Rattle.patterns_soundness.specs.Yields.{IsVerifiedOf}
use Rattle.patterns_soundness.proofs.Ends.{Ending, ending}
use Rattle.patterns_soundness.proofs.Yielding.{choices_ask_truth, choices_hand_on_all}
use Rattle.patterns_soundness.proofs.Across.{one_stands}
use Rattle.patterns_soundness.proofs.VerifiedBlocks.{block_is, if_arguments, if_opened, if_plain}
use Rattle.patterns_soundness.proofs.CastsAccepted.{AreLowered, MadeThere, Headroom, given_free, made_one}
use Rattle.patterns_soundness.proofs.ChoicesAccepted.{Taken, b as brought_there, taken}
use Rattle.patterns_soundness.proofs.Given.{HasHeadroom}
use Rattle.patterns_soundness.proofs.Indexed.{head_there, lowered_fits, lowered_holds_none, lowered_seen, own_fits}
use Rattle.patterns_soundness.proofs.Moving.{HasBlock}
use Rattle.patterns_soundness.proofs.Ordered.{later_shows}
use Rattle.patterns_soundness.proofs.Phases.{id_of}
use Rattle.patterns_soundness.proofs.Points.{Point, here_is, dominated_by_operand, stands_there}
use Rattle.patterns_soundness.proofs.Started.{next_to_out, fit_of, fresh, lowered_at, started, started_block, started_side}
use Rattle.patterns_soundness.proofs.Steps.{Across, IsWithinLimits, there_of}
use Rattle.patterns_soundness.proofs.Within as within_y
use Rattle.patterns_soundness.proofs.of_base.Facts.{bridges_make, when_some}
use Rattle.patterns_laws.proofs.KnownFolds.{given_some}
use Rattle.patterns_soundness.proofs.Opened.{left_alone}
use Rattle.patterns_soundness.proofs.of_base.Making.{joined}
use Rattle.std.proofs.lemmas.Option.{same_Some}

low : 0 ≤ 1
low = omega arith

high : 1 ≤ 1
high = omega arith

-- lists
pub regrouped : (a b c d e g : List Edit) → ((((a ++ b) ++ c) ++ d) ++ e) ++ g ≡ a ++ ((b ++ c) ++ ((d ++ e) ++ g))
regrouped a b c d e g =
    ap (λ l. l ++ g) (append_assoc ((a ++ b) ++ c) d e)
    ∙ append_assoc ((a ++ b) ++ c) (d ++ e) g
    ∙ ap (λ l. l ++ ((d ++ e) ++ g)) (append_assoc a b c)
    ∙ append_assoc a (b ++ c) ((d ++ e) ++ g)

pub cut_last : (us : List Operation) (f : Operation) → joined_ops (us ++ f ∷ []) no_ops ≡ joined_ops us (next f no_ops)
cut_last [] f = refl
cut_last (u ∷ us) f = ap (next u) (cut_last us f)

uncrossed : (n : ℕ) (ms : List Bool) (vs : List Value) → ms ≡ false ∷ [] → length ms ≡ length vs → crossed n ms vs ≡ vs
uncrossed n ms [] e l = (let k = ap length e in absurd (omega (arith, k, l)))
uncrossed n ms (v ∷ []) e l = ap (λ z. crossed n z (v ∷ [])) e
uncrossed n ms (v ∷ w ∷ vs) e l = (let k = ap length e in absurd (omega (arith, k, l)))

module _ (m : Module) (o : Operation) (preceding : Place) (s : Point m o preceding) (name : named (codes "scf.if") (head o).name ≡ true) (e f : Ended) (e_is : body m.tree o 0 ≡ Some e) (f_is : body m.tree o 1 ≡ Some f) where
  abbrev x : ℕ
  x = (head o).id

  abbrev t : Operation
  t = m.tree

  abbrev st : StandsAt (head o).id preceding m
  st = stands_there m o preceding s

  abbrev ms : List Bool
  ms = indices (head o).results

  name_is : (head o).name ≡ codes "scf.if"
  name_is = (bytes_eq-Decides (head o).name (codes "scf.if")).0 name

  verified_if : IsVerifiedOf m.tree o (head o).id (codes "scf.if")
  verified_if = record { distinct = s.wellformed.distinct; found = s.found; verified = s.verified; name = name }

  abbrev new : Operation
  new = lowered_op o (crossed m.next (index_operands m.tree m.next preceding o) (head o).operands)

  leaf : hold_none (regions (lowered_op o (crossed m.next (index_operands m.tree m.next preceding o) (head o).operands))) ≡ true
  leaf = lowered_holds_none (regions o)

  requested : index_operands m.tree m.next preceding o ≡ false ∷ []
  requested = choices_ask_truth t o x verified_if

  wide_operands : length (index_operands m.tree m.next preceding o) ≡ length (head o).operands
  wide_operands = length-map (head o).operands (is_index_value t)

  plain_operands : crossed m.next (index_operands m.tree m.next preceding o) (head o).operands ≡ (head o).operands
  plain_operands = uncrossed m.next (index_operands t m.next preceding o) (head o).operands requested wide_operands

  seen : (v : Value) → In v (head (lowered_op o (crossed m.next (index_operands m.tree m.next preceding o) (head o).operands))).operands → dominated_by (head o).id v m ≡ true
  seen v i = dominated_by_operand m o preceding s v (subst (In v) plain_operands i)

  -- the blocks
  module _ (r : ℕ) (small : r ≤ 1) (k : Ended) (k_is : body m.tree o r ≡ Some k) where
    abbrev pub ends : Ending m.tree o r k
    ends = ending m.tree o r k k_is

    abbrev pub all : List Operation
    all = (ending m.tree o r k k_is).preceding ++ (ending m.tree o r k k_is).last ∷ []

    no_args : (ending m.tree o r k k_is).args ≡ []
    no_args = if_arguments m o preceding s name_is r small ends.args (block_is o r (block ends.args (joined_ops ends.preceding (next ends.last no_ops))) ends.block)

    pub side : region_at r (regions st.at.here) ≡ Some (block [] (joined_ops ((ending m.tree o r k k_is).preceding ++ (ending m.tree o r k k_is).last ∷ []) no_ops))
    side = ap (λ z. region_at r (regions z)) (here_is m o preceding s) ∙ ends.block ∙ (λ i. Some (block (no_args i) (sym (cut_last ends.preceding ends.last) i)))

    pub into : region_at r (regions (lowered_op o (crossed m.next (index_operands m.tree m.next preceding o) (head o).operands))) ≡ Some (block (map lowered_type (ending m.tree o r k k_is).args) no_ops)
    into = lowered_at r (regions o) ends.args (joined_ops ends.preceding (next ends.last no_ops)) ends.block

    pub wide : length (indices (head o).results) ≡ length (head (ending m.tree o r k k_is).last).operands
    wide =
        (let a = length-map (head o).results is_index in
        let b = choices_hand_on_all t o x r k small verified_if k_is in
        let c = ap (λ (h : Header). length h.operands) ends.is in
        omega (arith, a, b, c))

  abbrev mk : ℕ
  mk = marked (indices (head o).results)

  abbrev zs0 : List Operation
  zs0 = all 0 low e e_is

  abbrev zs1 : List Operation
  zs1 = all 1 high f f_is

  module _ (headroom : Headroom (1 + (mk + (mk + mk))) m) where
    one_made : MadeThere (head o).id preceding (λ b. ⊥) (lowered_op o (crossed m.next (index_operands m.tree m.next preceding o) (head o).operands)) m
    one_made =
        (let ops = headroom.ops in
        let ids = headroom.ids in
        made_one x preceding (λ b. ⊥) m st new leaf (lowered_fits o (crossed m.next (index_operands t m.next preceding o) (head o).operands) (ap length plain_operands) (own_fits m o preceding s)) seen (mk + (mk + mk)) (record { ops = omega (arith, ops); ids = omega (arith, ids) }))

    abbrev m1 : Module
    m1 = edited (Make preceding new) m

    abbrev hx : Header
    hx = head (stands_there m o preceding s).at.here

    abbrev hy : Header
    hy = head (with_id m.next (lowered_op o (crossed m.next (index_operands m.tree m.next preceding o) (head o).operands)))

    abbrev deep : ℕ
    deep = length ((stands_there m o preceding s).at.step_in ∷ (stands_there m o preceding s).at.path)

    abbrev a1 : Across (head o).id m.next preceding hx hy deep m1
    a1 = started x preceding m st new leaf seen one_made.located

    hx_is : hx ≡ head o
    hx_is = ap (λ (z : Operation). head z) (here_is m o preceding s)

    x_opened : is_isolated hx.name ≡ false
    x_opened = ap (λ (h : Header). is_isolated h.name) hx_is ∙ ap is_isolated name_is ∙ if_opened

    x_plain : is_table hx.name ≡ false
    x_plain = ap (λ (h : Header). is_table h.name) hx_is ∙ ap is_table name_is ∙ if_plain

    y_opened : is_isolated hy.name ≡ false
    y_opened = ap is_isolated name_is ∙ if_opened

    y_plain : is_table hy.name ≡ false
    y_plain = ap is_table name_is ∙ if_plain

    y_fresh : has_id m.next m.tree ≡ false
    y_fresh = fresh x preceding m st new leaf seen one_made.located

    fits : (r : ℕ) (small : r ≤ 1) (k : Ended) (k_is : body m.tree o r ≡ Some k) (p : Operation) → In p (all r small k k_is) → IsWithinLimits (head o).id m.next preceding hx hy deep p
    fits r small k k_is p i = fit_of x preceding m st r [] (all r small k k_is) (side r small k k_is) m.next hx hy deep y_fresh refl p i

    blocks : (r : ℕ) (small : r ≤ 1) (k : Ended) (k_is : body m.tree o r ≡ Some k) → HasBlock m.next r m1.tree
    blocks r small k k_is = started_block x preceding m st new leaf seen one_made.located r (map lowered_type (ends r small k k_is).args) no_ops (into r small k k_is)

    sides : (r : ℕ) (small : r ≤ 1) (k : Ended) (k_is : body m.tree o r ≡ Some k) → region_at r (regions one_made.located.at.here) ≡ Some (block [] (joined_ops (all r small k k_is) no_ops))
    sides r small k k_is = started_side x preceding m st new leaf seen one_made.located r [] (all r small k k_is) (λ p i. (fits r small k k_is p i).parent_out) (side r small k k_is)

    abbrev ends0 : Ending m.tree o 0 e
    ends0 = ends 0 low e e_is

    abbrev ends1 : Ending m.tree o 1 f
    ends1 = ends 1 high f f_is

    -- an operation of one block isn't inside an operation of the other
    crossed_out : (z p : Operation) → In z (all 0 low e e_is) → In p (all 1 high f f_is) → has_id (head z).id p ≡ false
    crossed_out z p i j =
        let c = cut_at z zs0 i in
        let k = cut_at p zs1 j in
        let there = one_stands t s.wellformed.distinct st.at.here (st.at.step_in ∷ st.at.path) st.at.there 0 [] zs0 (side 0 low e e_is) c.0 c.1 z c.2 in
        next_to_out x preceding m st 1 [] zs1 (side 1 high f f_is) k.0 k.1 p k.2 z (step st.at.here 0 [] c.0 (joined_ops c.1 no_ops)) (st.at.step_in ∷ st.at.path) there refl
        (λ q. let n = ap (λ (b : StepOf (List ℕ) TypeTerm AttrTerm). b.region) q in omega (arith, n))

    abbrev Q0 : (n : Module) → Across (head o).id m.next preceding hx hy deep n → Type 0
    Q0 n a = HasBlock m.next 1 n.tree × (region_at 1 (regions a.located.at.here) ≡ Some (block [] (joined_ops (all 1 high f f_is) no_ops)))

    abbrev Q1 : (n : Module) → Across (head o).id m.next preceding hx hy deep n → Type 0
    Q1 n a = Unit {0}

    first : Taken (head o).id m.next 0 preceding hx hy deep x_opened x_plain y_opened y_plain ends0.preceding ends0.last (indices (head o).results) m1 a1 (blocks 0 low e e_is) (sides 0 low e e_is) (fits 0 low e e_is) (wide 0 low e e_is) Q0
    first =
        let y = m.next in
        let fits1 = fits 1 high f f_is in
        let b0 = brought_there x y 0 preceding hx hy deep x_opened x_plain y_opened y_plain ends0.preceding ends0.last ms m1 a1 (blocks 0 low e e_is) (sides 0 low e e_is) (fits 0 low e e_is) (wide 0 low e e_is) Q0 in
        taken x y 0 preceding hx hy deep x_opened x_plain y_opened y_plain ends0.preceding ends0.last ms m1 a1 (blocks 0 low e e_is) (sides 0 low e e_is) (fits 0 low e e_is) (wide 0 low e e_is) Q0
        (omega arith)
        (λ q. (b0.stays.blocks y 1 (λ p i. (fits 0 low e e_is p i).y_out) q.0, b0.sides 1 [] zs1 fits1 crossed_out q.1))
        (λ k a point n leaf unused wellformed q. (
          within_y.block_made x y 0 preceding hx hy deep k a (before_in y 0 (head ends0.last).id) point refl refl n leaf unused wellformed y 1 q.0,
          within_y.side_made x y 0 preceding hx hy deep k a (before_in y 0 (head ends0.last).id) point refl refl n leaf unused wellformed (within_y.across_made x y 0 preceding hx hy deep k a (before_in y 0 (head ends0.last).id) point refl refl n leaf unused wellformed).located 1 [] zs1 (λ p i. (fits1 p i).y_out) q.1,
        ))
        (λ k a i v xa ya other wellformed q. (
          within_y.block_set x y 0 preceding hx hy deep k a (head ends0.last).id i v xa ya other wellformed y 1 q.0,
          within_y.side_set x y 0 preceding hx hy deep k a (head ends0.last).id i v xa ya other wellformed 1 [] zs1 (λ p j. crossed_out ends0.last p (in_right ends0.last ends0.preceding (ends0.last ∷ []) (inl refl)) j) q.1,
        ))
        (one_made.headrooms mk (let a = headroom.ops in let b = headroom.ids in record { ops = omega (arith, a); ids = omega (arith, b) }))
        (blocks 1 high f f_is, sides 1 high f f_is)

    second : Taken (head o).id m.next 1 preceding hx hy deep x_opened x_plain y_opened y_plain ends1.preceding ends1.last (indices (head o).results) first.after first.across first.extra.0 first.extra.1 (fits 1 high f f_is) (wide 1 high f f_is) Q1
    second =
        (let n1 = first.next in
        taken x m.next 1 preceding hx hy deep x_opened x_plain y_opened y_plain ends1.preceding ends1.last ms first.after first.across first.extra.0 first.extra.1 (fits 1 high f f_is) (wide 1 high f f_is) Q1
        (omega (arith, n1)) (λ q. tt) (λ k a point n leaf unused wellformed q. tt) (λ k a i v xa ya other wellformed q. tt)
        (first.headrooms mk (one_made.headrooms (mk + mk) (let a = headroom.ops in let b = headroom.ids in record { ops = omega (arith, a); ids = omega (arith, b) }))) tt)

    abbrev m3 : Module
    m3 = second.after

    y_last : (yo : Operation) × (find m.next second.after.tree ≡ Some yo) × (head yo ≡ hy)
    y_last = there_of (find m.next second.after.tree) hy second.across.y_is

    y_there : has_id m.next second.after.tree ≡ true
    y_there = (let w = found_stands m.next second.after.tree y_last.0 y_last.1 in ap (λ i. has_id i second.after.tree) (sym w.2) ∙ stand_present [] second.after.tree w.0 w.1)

    y_results : (head y_last.0).results ≡ map lowered_type (head o).results
    y_results = ap (λ (h : Header). h.results) y_last.2

    results_lowered : AreLowered (head o).id m.next preceding 0 (head o).results second.after
    results_lowered = lowered_seen x m.next preceding m3 (head o).results
        (λ k l. later_shows is_isolated m3.tree second.across.located.wellformed.distinct m.next x second.across.before y_last.0 y_last.1 k (lt-ltb k (length (head y_last.0).results) (let a = ap length y_results in let b = length-map (head o).results lowered_type in omega (arith, l, a, b))))
        (λ k. ap (λ g. option_and_then (λ (z : Operation). slice_get (head z).results k) g) y_last.1 ∙ ap (λ l. slice_get l k) y_results)

    given_last : Free (give_lowered m.tree m.next preceding o m.next second.after.next) second.after
    given_last = given_free x m.next preceding m3 second.across.located (head o).results (ap (λ (h : Header). h.results) (head_there x preceding m3 second.across.located hx second.across.x_is ∙ hx_is)) y_there results_lowered
        (second.headrooms mk (first.headrooms (mk + mk) (one_made.headrooms (mk + (mk + mk)) (let a = headroom.ops in let b = headroom.ids in record { ops = omega (arith, a); ids = omega (arith, b) }))))

    -- the parts of the list
    abbrev brings : ℕ → ℕ → Ended → List Edit
    brings y r k = brought preceding y r k.before k.last.id

    part : (y r c : ℕ) (k : Ended) (n : Ending m.tree o r k) → brought preceding y r (map (λ o. id_of o) n.preceding) (head n.last).id ++ (bridges i64 (before_in y r (head n.last).id) ms (head n.last).operands ++ crossing (head n.last).id 0 c ms)
        ≡ move_over m.tree m.next preceding o y r k ++ take_over m.tree m.next preceding o y r c k [] []
    part y r c k n = λ i. brought preceding y r (sym n.before i) (sym n.is i).id ++ (bridges i64 (before_in y r (sym n.is i).id) ms ((ap (λ (h : Header). h.operands) (sym n.is) ∙ sym (left_alone k.last.operands)) i) ++ crossing (sym n.is i).id 0 c ms)

    abbrev all_edits : ℕ → ℕ → ℕ → ℕ → List Edit
    all_edits y c0 c1 c2 =
        make_lowered m.tree m.next preceding o
        ++ move_over m.tree m.next preceding o y 0 e ++ take_over m.tree m.next preceding o y 0 c0 e [] []
        ++ move_over m.tree m.next preceding o y 1 f ++ take_over m.tree m.next preceding o y 1 c1 f [] []
        ++ give_lowered m.tree m.next preceding o y c2

    all_free : Free (all_edits m.next m1.next first.after.next second.after.next) m
    all_free =
        let y = m.next in
        let g = give_lowered t m.next preceding o y second.after.next in
        let a0 = move_over t m.next preceding o y 0 e in
        let b0 = take_over t m.next preceding o y 0 m1.next e [] [] in
        let a1 = move_over t m.next preceding o y 1 f in
        let b1 = take_over t m.next preceding o y 1 first.after.next f [] [] in
        let f1 = subst (λ l. Free (l ++ g) first.after) (part y 1 first.after.next f ends1) (second.free g given_last) in
        let f0 = subst (λ l. Free (l ++ ((a1 ++ b1) ++ g)) m1) (part y 0 m1.next e ends0) (first.free ((a1 ++ b1) ++ g) f1) in
        subst (λ l. Free l m) (sym (regrouped (make_lowered t m.next preceding o) a0 b0 a1 b1 g)) (one_made.free ((a0 ++ b0) ++ ((a1 ++ b1) ++ g)) f0)

    id_is : m.next ≡ lowered_id m.tree m.next preceding o
    id_is = (let k = ap marked requested in omega (arith, k))

    choice_free : Free (lowered_if m.tree m.next preceding o e f) m
    choice_free =
        (let a = id_is in
        let b = first.next in
        let c = second.next in
        let c0 : m1.next ≡ lowered_id t m.next preceding o + 1 = omega (arith, a) in
        let c1 : first.after.next ≡ lowered_id t m.next preceding o + 1 + mk = omega (arith, a, b) in
        let c2 : second.after.next ≡ lowered_id t m.next preceding o + 1 + mk + mk = omega (arith, a, b, c) in
        subst (λ l. Free l m) (λ i. all_edits (a i) (c0 i) (c1 i) (c2 i)) all_free)

  handed_make : (y r c : ℕ) (k : Ended) (r_small : r ≤ 1) (k_is : body m.tree o r ≡ Some k) → made_by (take_over m.tree m.next preceding o y r c k [] []) ≡ mk + made_by (crossing k.last.id 0 c (indices (head o).results))
  handed_make y r c k small k_is =
      let vs = map (replaced [] []) k.last.operands in
      let a = joined (bridges i64 (before_in y r k.last.id) ms vs) (crossing k.last.id 0 c ms) in
      let l = length-map k.last.operands (replaced [] []) in
      let w = wide r small k k_is in
      let h = ap (λ (h : Header). length h.operands) (ends r small k k_is).is in
      let b = bridges_make i64 (before_in y r k.last.id) ms vs (omega (arith, l, w, h)) in
      omega (arith, a, b)

  makes_much : (n : ℕ) → made_by (lowered_if m.tree m.next preceding o e f) ≡ n → 1 + (mk + (mk + mk)) ≤ n
  makes_much n is =
      let y = lowered_id t m.next preceding o in
      let rs = (head o).results in
      let c0 = y + 1 in
      let c1 = c0 + mk in
      let c2 = c1 + mk in
      let ml = make_lowered t m.next preceding o in
      let a0 = move_over t m.next preceding o y 0 e in
      let b0 = take_over t m.next preceding o y 0 c0 e [] [] in
      let a1 = move_over t m.next preceding o y 1 f in
      let b1 = take_over t m.next preceding o y 1 c1 f [] [] in
      let g = give_lowered t m.next preceding o y c2 in
      let vs = results_from y 0 rs in
      let ds = bridges Index preceding ms vs in
      let es = replacing (results_from x 0 rs) (crossed c2 ms vs) in
      let p1 = joined ((((ml ++ a0) ++ b0) ++ a1) ++ b1) g in
      let p2 = joined (((ml ++ a0) ++ b0) ++ a1) b1 in
      let p3 = joined ((ml ++ a0) ++ b0) a1 in
      let p4 = joined (ml ++ a0) b0 in
      let p5 = joined ml a0 in
      let p6 = joined (ds ++ es) (Erase x ∷ []) in
      let p7 = joined ds es in
      let q0 = handed_make y 0 c0 e low e_is in
      let q1 = handed_make y 1 c1 f high f_is in
      let q2 = bridges_make Index preceding ms vs (lengths y 0 rs) in
      let q3 : made_by ml ≡ 1 = refl in
      omega (arith, p1, p2, p3, p4, p5, p6, p7, q0, q1, q2, q3, is)
    where
      lengths : (y k : ℕ) (tys : List TypeTerm) → length (indices tys) ≡ length (results_from y k tys)
      lengths y k [] = refl
      lengths y k (ty ∷ tys) = (let e = lengths y (k + 1) tys in omega (arith, e))

pub free_lower_choice : (m : Module) (o : Operation) (insertion : Place) → Point m o insertion → (es : List Edit) → lower_choice m.tree m.next insertion o ≡ Some es → HasHeadroom m es → Free es m
free_lower_choice m o insertion s es is headroom =
    let w = when_some (named (codes "scf.if") (head o).name && any (index_results m.tree m.next insertion o)) _ es is in
    let e = given_some (body m.tree o 0) _ es w.1 in
    let f = given_some (body m.tree o 1) _ es e.2 in
    let same = same_Some (lowered_if m.tree m.next insertion o e.0 f.0) es f.2 in
    let name = (both (named (codes "scf.if") (head o).name) _ w.0).0 in
    subst (λ z. Free z m) same (choice_free m o insertion s name e.0 f.0 e.1 f.1 (enough m o insertion s name e.0 f.0 e.1 f.1 (subst (HasHeadroom m) (sym same) headroom)))
  where
    enough : (m : Module) (o : Operation) (insertion : Place) (s : Point m o insertion) (name : named (codes "scf.if") (head o).name ≡ true) (e f : Ended) (e_is : body m.tree o 0 ≡ Some e) (f_is : body m.tree o 1 ≡ Some f) → HasHeadroom m (lowered_if m.tree m.next insertion o e f)
        → Headroom (1 + (marked (indices (head o).results) + (marked (indices (head o).results) + marked (indices (head o).results)))) m
    enough m o insertion s name e f e_is f_is headroom =
        let n = makes_much m o insertion s name e f e_is f_is (made_by (lowered_if m.tree m.next insertion o e f)) refl in
        let a = headroom.0 in
        let b = headroom.1 in
        record { ops = omega (arith, a, n); ids = omega (arith, b, n) }
