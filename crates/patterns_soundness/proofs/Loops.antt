-- `open-loop` and `stop-loop`: the block of a loop that runs once, or whose condition is false, is inserted before it.
use Rattle.std.proofs.Common.{◌≡◌, refl, ap, sym, ◌∙◌, subst, ℕ, zero, suc, ◌<◌, ◌≤◌, Bool, true, false, List, [], ◌∷◌, ◌++◌, length, map, Some, option_map, inl, inr, ◌⊎◌, if◌then◌else◌, arith}
use Rattle.std.specs.Prelude.{codes, drop, int_lt, is_some, slice_get}
use Rattle.std.proofs.lemmas.Slice.Eq.{bytes_eq-Decides}
use Rattle.ir_event.specs.types.Words.{is_isolated, is_table}
use Rattle.ir_event.specs.types.Terms.{TypeTerm}
use Rattle.ir_event.specs.trees.declared.value.Value.{Value}
use Rattle.ir_event.specs.trees.declared.value.Value.TheVariants.{Arg}
use Rattle.ir_event.specs.trees.declared.place.Place.{Place}
use Rattle.ir_event.specs.trees.Tree.{block, no_ops, next, head, regions}
use Rattle.ir_event.specs.trees.Ids.{find}
use Rattle.ir_event.specs.trees.Uses.{uses_of}
use Rattle.ir_event.specs.trees.Meaning.{Operation}
use Rattle.ir_event.specs.tree_laws.Members.{In}
use Rattle.ir_event.specs.tree_laws.Values.{region_at, type_of_value}
use Rattle.ir_event.proofs.of_tree_laws.Listed.{in_map, in_mapped}
use Rattle.ir_event.proofs.of_tree_laws.Members.{joined_ops}
use Rattle.ir_verify_base.specs.Types.{same_types}
use Rattle.ir_verify_base.specs.Fits.{there}
use Rattle.ir_event.specs.Modules.{Module}
use Rattle.rewriter_machine.specs.Contents.{Edit}
use Rattle.patterns_base.specs.Lists.{Free}
use Rattle.patterns_base.proofs.Body.{list_ids}
use Rattle.patterns_base.proofs.Headed.{found_there}
use Rattle.patterns_base.proofs.Plans.{HasFirst, dominated_by}
use Rattle.patterns_soundness.specs.base.Keeps.{given}
use Rattle.dialects_int.specs.Folds.{Known}
use Rattle.patterns_soundness.specs.base.Words.{named}
use Rattle.patterns_soundness.specs.base.Looks.{Ended, Header, body, is_number, known, when}
use Rattle.patterns_soundness.specs.base.Makes.{give_body}
use Rattle.patterns_soundness.specs.base.Opening.{Loop, by_bounds, by_end, goes_once, loop_from, never, once, opened, reading, open_loop, stop_loop}
use Rattle.patterns_soundness.specs.Yields.{IsVerifiedOf}
use Rattle.patterns_soundness.proofs.Ends.{Ending, ending}
use Rattle.patterns_soundness.proofs.Yielding.{loop_types}
use Rattle.patterns_soundness.proofs.Arguments.{Outcome, Taking, after, argument_type, changed, outcome, with_operands}
use Rattle.patterns_soundness.proofs.VerifiedBlocks.{block_is, no_uses}
use Rattle.patterns_soundness.proofs.Emptied.{HaveTypes, body_free, have_types, joined_ids}
use Rattle.patterns_soundness.proofs.LoopTypes.{condition_types, for_arguments, for_opened, for_plain, for_results, given_from, while_arguments, while_opened, while_plain}
use Rattle.patterns_soundness.proofs.Opened.{last_there}
use Rattle.patterns_soundness.proofs.Results.{AreGiven, results_free}
use Rattle.patterns_soundness.proofs.Points.{Point, here_is, dominated_by_operand, stands_there}
use Rattle.patterns_laws.proofs.KnownFolds.{given_some}
use Rattle.patterns_soundness.proofs.LoopStages.{got_none}
use Rattle.std.proofs.lemmas.Option.{same_Some}
use Rattle.patterns_soundness.proofs.of_base.Facts.{when_some}

module _ (m : Module) (o : Operation) (insertion : Place) (s : Point m o insertion) where
  abbrev x : ℕ
  x = (head o).id

  abbrev t : Operation
  t = m.tree

  -- the first block is inserted before x, with values for its arguments, and its terminator's operands replace the
  -- results
  module _ (e : Ended) (ends : body m.tree o 0 ≡ Some e) (opens : is_isolated (head o).name ≡ false) (simple : is_table (head o).name ≡ false) (vs : List Value) where
    abbrev n : Ending m.tree o 0 e
    n = ending m.tree o 0 e ends

    taking : Taking (head o).id insertion (ending m.tree o 0 e ends).args (e.before ++ e.last.id ∷ []) m
    taking = record {
      located = stands_there m o insertion s;
      list = joined_ops n.preceding (next n.last no_ops);
      is = ap (λ z. region_at 0 (regions z)) (here_is m o insertion s) ∙ n.block;
      ids = joined_ids n.preceding n.last ∙ λ i. sym n.before i ++ (sym n.is i).id ∷ [];
      opened = ap (λ z. is_isolated (head z).name) (here_is m o insertion s) ∙ opens;
      simple = ap (λ z. is_table (head z).name) (here_is m o insertion s) ∙ simple;
    }

    module _ (given : AreGiven (head o).id insertion vs (ending m.tree o 0 e ends).args m) where
      unused : (j : ℕ) → (j < 0) ⊎ (length (ending m.tree o 0 e ends).args ≤ j) → uses_of (Arg (head o).id 0 j) m.tree ≡ []
      unused j (inl l) = absurd (omega (arith, l))
      unused j (inr l) = no_uses m o insertion s (Arg x 0 j) (ap is_some (argument_type x insertion n.args (e.before ++ e.last.id ∷ []) m taking j) ∙ got_none n.args j l)

      came : Outcome (head o).id insertion (ending m.tree o 0 e ends).args (e.before ++ e.last.id ∷ []) 0 vs m
      came = outcome x insertion n.args (e.before ++ e.last.id ∷ []) vs n.args [] m taking refl given 0 refl unused

      abbrev m1 : Module
      m1 = after (head o).id insertion (ending m.tree o 0 e ends).args (e.before ++ e.last.id ∷ []) 0 vs m

      abbrev turned : Value → Value
      turned = changed (head o).id insertion (ending m.tree o 0 e ends).args (e.before ++ e.last.id ∷ []) 0 vs

      first : HasFirst (head o).id 0 insertion (e.before ++ e.last.id ∷ []) m1
      first = record {
        located = came.taking.located;
        args = n.args;
        list = came.taking.list;
        is = came.taking.is;
        ids = came.taking.ids;
        opened = came.taking.opened;
        simple = came.taking.simple;
        spared = came.unused;
      }

      last_is : option_map head (find e.last.id m1.tree) ≡ Some (with_operands turned e.last)
      last_is = came.heads e.last.id ∙ ap (option_map (with_operands turned)) (last_there m o insertion s 0 e ends)

      results_are : (head o).results ≡ (head first.located.at.here).results
      results_are =
          (let two : Some (with_operands turned (head o)) ≡ Some (head first.located.at.here) = ap (option_map (with_operands turned)) (ap (option_map head) (sym s.found)) ∙ sym (came.heads x) ∙ ap (option_map head) (found_there is_isolated x insertion m1 first.located) in
          ap (λ (h : Header). h.results) (same_Some (with_operands turned (head o)) (head first.located.at.here) two))

      types_turned : (ws : List Value) (tys : List TypeTerm) → HaveTypes ws tys m → HaveTypes (map turned ws) tys m1
      types_turned [] [] g = tt
      types_turned (w ∷ ws) (ty ∷ tys) g = ((g.0.0, came.types (turned w) ∙ came.changed_types w ∙ g.0.1, g.0.2), types_turned ws tys g.1)
      types_turned [] (ty ∷ tys) g = absurd g
      types_turned (w ∷ ws) [] g = absurd g

      opened_free : (handed : List Value) → ((v : Value) → In v handed → In v e.last.operands) → HaveTypes handed (head o).results m → Free (opened m.tree insertion o e vs handed) m
      opened_free handed among types =
          came.free (give_body insertion x e.before (map turned handed))
          (body_free x 0 insertion e.before e.last.id m1 first (with_operands turned e.last) last_is (map turned handed)
          (λ v i. let w = in_mapped turned v handed i in subst (λ z. In z (map turned e.last.operands)) (sym w.2) (in_map turned w.0 e.last.operands (among w.0 w.1)))
          (subst (λ tys. HaveTypes (map turned handed) tys m1) results_are (types_turned handed (head o).results types)))

  -- a while loop whose condition is false
  module _ (name : named (codes "scf.while") (head o).name ≡ true) where
    while_name : (head o).name ≡ codes "scf.while"
    while_name = (bytes_eq-Decides (head o).name (codes "scf.while")).0 name

    stops : (e : Ended) → body m.tree o 0 ≡ Some e → (c : Value) (handed : List Value) → e.last.operands ≡ c ∷ handed → Free (opened m.tree insertion o e (head o).operands handed) m
    stops e ends c handed is =
        let n = ending t o 0 e ends in
        opened_free e ends (ap is_isolated while_name ∙ while_opened) (ap is_table while_name ∙ while_plain) (head o).operands
        (given_from x insertion m (head o).operands n.args (while_arguments m o insertion s while_name n.args (block_is o 0 (block n.args (joined_ops n.preceding (next n.last no_ops))) n.block)) (dominated_by_operand m o insertion s))
        handed (λ v i. subst (In v) (sym is) (inr i))
        (have_types handed (head o).results m (ap (λ l. same_types (there (head o).results) (drop 1 (map (λ v. type_of_value v t) l))) (sym is) ∙ condition_types m o insertion s while_name e ends))

    by_last : (es : List Edit) (e : Ended) → body m.tree o 0 ≡ Some e → (vs : List Value) → e.last.operands ≡ vs → by_end m.tree insertion o e vs ≡ Some es → Free es m
    by_last es e ends [] is f = absurd cc
    by_last es e ends (c ∷ handed) is f =
        let w = when_some (is_number t 0 c) (Some (opened t insertion o e (head o).operands handed)) es f in
        subst (λ z. Free z m) (same_Some (opened t insertion o e (head o).operands handed) es w.1) (stops e ends c handed is)

  pub free_stop_loop : (es : List Edit) → stop_loop m.tree insertion o ≡ Some es → Free es m
  free_stop_loop es e =
      let w = when_some (named (codes "scf.while") (head o).name) _ es e in
      let b = given_some (body t o 0) (λ e. by_end t insertion o e e.last.operands) es w.1 in
      by_last w.0 es b.0 b.1 b.0.last.operands refl b.2

  -- a loop that runs once or never
  module _ (name : named (codes "scf.for") (head o).name ≡ true) (lower upper number : Value) (inits : List Value) (operands : (head o).operands ≡ lower ∷ upper ∷ number ∷ inits) where
    for_name : (head o).name ≡ codes "scf.for"
    for_name = (bytes_eq-Decides (head o).name (codes "scf.for")).0 name

    abbrev loop : Loop
    loop = record { lower = lower; upper = upper; step = number; inits = inits }

    seen : (v : Value) → In v (lower ∷ upper ∷ number ∷ inits) → dominated_by (head o).id v m ≡ true
    seen v i = dominated_by_operand m o insertion s v (subst (In v) (sym operands) i)

    never_free : Free (never m.tree insertion o (record { lower = lower; upper = upper; step = number; inits = inits })) m
    never_free = results_free x insertion inits (head o).results [] m (stands_there m o insertion s) (ap (λ z. (head z).results) (here_is m o insertion s))
        (given_from x insertion m inits (head o).results (for_results m o insertion s for_name lower upper number inits operands) (λ v i. seen v (inr (inr (inr i))))) 0 refl (λ j l. absurd (omega (arith, l)))

    once_free : (e : Ended) → body m.tree o 0 ≡ Some e → Free (opened m.tree insertion o e (lower ∷ inits) e.last.operands) m
    once_free e ends =
        let n = ending t o 0 e ends in
        let verified : IsVerifiedOf t o x (codes "scf.for") = record { distinct = s.wellformed.distinct; found = s.found; verified = s.verified; name = name } in
        opened_free e ends (ap is_isolated for_name ∙ for_opened) (ap is_table for_name ∙ for_plain) (lower ∷ inits)
        (given_from x insertion m (lower ∷ inits) n.args (for_arguments m o insertion s for_name lower upper number inits operands n.args (block_is o 0 (block n.args (joined_ops n.preceding (next n.last no_ops))) n.block)) both_seen)
        e.last.operands (λ v i. i)
        (have_types e.last.operands (head o).results m (loop_types t o x e verified ends))
      where
        both_seen : (v : Value) → In v (lower ∷ inits) → dominated_by (head o).id v m ≡ true
        both_seen v (inl i) = seen v (inl i)
        both_seen v (inr i) = seen v (inr (inr (inr i)))

    of_bounds : (es : List Edit) → by_bounds m.tree insertion o (record { lower = lower; upper = upper; step = number; inits = inits }) ≡ Some es → Free es m
    of_bounds es e =
        let low = given_some (known t lower) _ es e in
        let high = given_some (known t upper) _ es low.2 in
        by_order low.0 high.0 (int_lt (reading low.0) (reading high.0)) high.2
      where
        by_order : (low high : Known) (b : Bool) → (if b then given (known m.tree number) (λ k. when (goes_once m.tree insertion o (reading low) (reading high) (reading k)) (once m.tree insertion o loop)) else Some (never m.tree insertion o loop)) ≡ Some es → Free es m
        by_order low high true f =
            let k = given_some (known t number) _ es f in
            let w = when_some _ (once t insertion o loop) es k.2 in
            let b = given_some (body t o 0) (λ e. Some (opened t insertion o e (lower ∷ inits) e.last.operands)) es w.1 in
            subst (λ z. Free z m) (same_Some (opened t insertion o b.0 (lower ∷ inits) b.0.last.operands) es b.2) (once_free b.0 b.1)
        by_order low high false f = subst (λ z. Free z m) (same_Some (never t insertion o loop) es f) never_free

  pub free_open_loop : (es : List Edit) → open_loop m.tree insertion o ≡ Some es → Free es m
  free_open_loop es e =
      let w = when_some (named (codes "scf.for") (head o).name) _ es e in
      go w.0 (head o).operands refl w.1
    where
      go : named (codes "scf.for") (head o).name ≡ true → (vs : List Value) → (head o).operands ≡ vs → given (loop_from vs) (by_bounds m.tree insertion o) ≡ Some es → Free es m
      go name [] is f = absurd cc
      go name (a ∷ []) is f = absurd cc
      go name (a ∷ b ∷ []) is f = absurd cc
      go name (a ∷ b ∷ c ∷ inits) is f = of_bounds name a b c inits is es f
