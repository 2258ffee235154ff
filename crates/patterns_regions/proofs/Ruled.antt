-- The results of rules at an operation that the store shows.
use Rattle.std.proofs.Common.{◌≡◌, refl, ap, sym, ◌∙◌, ℕ, ◌<◌, ◌++◌, List, [], ◌∷◌, length, Bool, true, false, eqb, Option, Some, None, arith}
use Rattle.std.specs.Prelude.{codes, if◌then◌else◌, option_map}
use Rattle.ir_event.specs.types.Things.{ContextModel}
use Rattle.ir_event.specs.types.Terms.{TypeTerm, AttrTerm, name_term}
use Rattle.ir_event.specs.trees.declared.value.Value.{Value}
use Rattle.ir_event.specs.trees.declared.place.Place.{Place}
use Rattle.ir_event.specs.trees.Tree.{op, RegionsOf, RegionOf, empty, block, head, regions}
use Rattle.ir_event.specs.trees.Ids.{find}
use Rattle.ir_event.specs.trees.Meaning.{Operation}
use Rattle.ir_event.specs.tree_laws.Values.{region_at}
use Rattle.ir_event.specs.store.Nodes.{Node, node_of}
use Rattle.ir_event.specs.Modules.{node_meaning}
use Rattle.patterns_plans.specs.Folds.{Known}
use Rattle.patterns_plans.specs.reads.Contents.{Edit}
use Rattle.patterns_plans.specs.reads.rules.Edits.{Erase}
use Rattle.patterns_plans.specs.reads.Keeps.{given}
use Rattle.patterns_plans.specs.reads.Words.{named}
use Rattle.patterns_plans.specs.reads.Looks.{Ended, body, is_number, known, when}
use Rattle.patterns_plans.specs.reads.Makes.{replacing, results_from}
use Rattle.patterns_plans.specs.reads.Reads.{header_of_node}
use Rattle.patterns_plans.specs.reads.rules.Opening.{Loop, by_bounds, by_condition, by_end, chosen, goes_once, loop_from, never, once, reading, open_branch, open_loop, stop_loop}
use Rattle.patterns_regions.specs.declared.trip_count.TripCount.{TripCount}
use Rattle.patterns_regions.specs.declared.trip_count.TripCount.TheVariants.{Zero, One, Several}
use Rattle.patterns_regions.specs.Blocks.{Shows, is_block, body_at}
use Rattle.patterns_regions.specs.Opened.{opening}
use Rattle.patterns_regions.specs.Times.{is_once, times_of}
use Rattle.patterns_regions.specs.RegionRules.{chosen_at, opened_at, open_branch_at, open_loop_at, stop_loop_at}
use Rattle.patterns_regions.proofs.Viewed.{viewed}
use Rattle.std.specs.Prelude.{int_lt}
use Rattle.ir_event.proofs.Facts.{found_id}

when_no : {X : Type 0} (b d : Bool) (r : Option X) → b ≡ d → b ≡ false → None ≡ when d r
when_no b d r e f = sym (ap (λ z. when z r) (sym e ∙ f))

when_yes : {X : Type 0} (b d : Bool) (r : Option X) → b ≡ d → b ≡ true → r ≡ when d r
when_yes b d r e f = sym (ap (λ z. when z r) (sym e ∙ f))

pub when_none : {X : Type 0} (d : Bool) (r : Option X) → None ≡ r → None ≡ when d r
when_none true r e = e
when_none false r e = refl

-- the operation isn't in the module
pub nothing : {Y : Type 0} (f : Option Operation) (g : Operation → Option Y) → None ≡ option_map (λ o. node_of o) f → None ≡ given f g
nothing None g e = refl
nothing (Some o) g e = absurd cc

-- a block whose last operation isn't verified, and one whose last operation is
pub not_opened : (x r : ℕ) (m : Operation) (insertion : Place) (values : List Value) → None ≡ body_at x r m → None ≡ opened_at x r m insertion values
not_opened x r m insertion values e = ap (λ b. given b (λ e. Some (opening x insertion e.before values e.last.operands))) e

pub is_opened : (x r : ℕ) (m : Operation) (insertion : Place) (values : List Value) (e : Ended) (es : List Edit) → Some e ≡ body_at x r m → es ≡ opening x insertion e.before values e.last.operands → Some es ≡ opened_at x r m insertion values
is_opened x r m insertion values e es b k = ap Some k ∙ ap (λ b. given b (λ e. Some (opening x insertion e.before values e.last.operands))) b

module _ (c : ContextModel) (n : Node) (x : ℕ) (m : Operation) (insertion : Place) (at : Some (node_meaning c n) ≡ option_map (λ o. node_of o) (find x m)) where
  abbrev here : RegionsOf (List ℕ) TypeTerm AttrTerm → Operation
  here rs = op (header_of_node c n) rs

  -- inlining by a region
  module _ (r : ℕ) (b : Option Bool) (is : (c : ContextModel) (o : Operation) → Shows c n o → b ≡ option_map is_block (region_at r (regions o))) where
    pub chosen_no : b ≡ None → None ≡ chosen_at x r m insertion
    chosen_no e = viewed c n (find x m) (λ z. None ≡ given z (λ o. given (region_at r (regions o)) (λ g. chosen m insertion o g r))) at (λ rs s k. go (here rs) (region_at r rs) (sym e ∙ is c (here rs) s))
      where
        go : (o : Operation) (g : Option (RegionOf (List ℕ) TypeTerm AttrTerm)) → None ≡ option_map is_block g → None ≡ given g (λ g. chosen m insertion o g r)
        go o None e = refl
        go o (Some g) e = absurd cc

    pub chosen_empty : b ≡ Some false → Some (Erase x ∷ []) ≡ chosen_at x r m insertion
    chosen_empty e = viewed c n (find x m) (λ z. Some (Erase x ∷ []) ≡ given z (λ o. given (region_at r (regions o)) (λ g. chosen m insertion o g r))) at (λ rs s k. go (here rs) (found_id x m (here rs) k) (region_at r rs) (sym e ∙ is c (here rs) s))
      where
        go : (o : Operation) → (head o).id ≡ x → (g : Option (RegionOf (List ℕ) TypeTerm AttrTerm)) → Some false ≡ option_map is_block g → Some (Erase x ∷ []) ≡ given g (λ g. chosen m insertion o g r)
        go o i None e = absurd cc
        go o i (Some empty) e = ap (λ y. Some (Erase y ∷ [])) (sym i)
        go o i (Some (block args os)) e = absurd cc

    pub chosen_block : b ≡ Some true → opened_at x r m insertion [] ≡ chosen_at x r m insertion
    chosen_block e =
        viewed c n (find x m) (λ z. opened_at x r m insertion [] ≡ given z (λ o. given (region_at r (regions o)) (λ g. chosen m insertion o g r))) at
        (λ rs s k. ap (λ z. given (given z (λ o. body m o r)) (λ e. Some (opening x insertion e.before [] e.last.operands))) k ∙ go (here rs) (found_id x m (here rs) k) (region_at r rs) (sym e ∙ is c (here rs) s))
      where
        go : (o : Operation) → (head o).id ≡ x → (g : Option (RegionOf (List ℕ) TypeTerm AttrTerm)) → Some true ≡ option_map is_block g
            → given (body m o r) (λ e. Some (opening x insertion e.before [] e.last.operands)) ≡ given g (λ g. chosen m insertion o g r)
        go o i None e = absurd cc
        go o i (Some empty) e = absurd cc
        go o i (Some (block args os)) e = ap (λ y. given (body m o r) (λ e. Some (opening y insertion e.before [] e.last.operands))) (sym i)

  -- `open-branch`
  pub not_open_branch : (b : Bool) → b ≡ named (codes "scf.if") (name_term c n.head.name) → b ≡ false → None ≡ open_branch_at x m insertion
  not_open_branch b e f = viewed c n (find x m) (λ z. None ≡ given z (λ o. open_branch m insertion o)) at (λ rs s k. when_no b _ _ e f)

  pub shape_open_branch : (length n.head.operands ≡ 1 → ⊥) → None ≡ open_branch_at x m insertion
  shape_open_branch h = viewed c n (find x m) (λ z. None ≡ given z (λ o. open_branch m insertion o)) at (λ rs s k. when_none _ _ (go (here rs) n.head.operands h))
    where
      go : (o : Operation) (l : List Value) → (length l ≡ 1 → ⊥) → None ≡ by_condition m insertion o l
      go o [] h = refl
      go o (v ∷ []) h = absurd (h refl)
      go o (v ∷ w ∷ l) h = refl

  pub unknown_open_branch : (v : Value) → n.head.operands ≡ v ∷ [] → None ≡ known m v → None ≡ open_branch_at x m insertion
  unknown_open_branch v e f =
      viewed c n (find x m) (λ z. None ≡ given z (λ o. open_branch m insertion o)) at
      (λ rs s k. when_none _ _ (ap (λ z. given z (λ k. let r = if eqb k.1 0 then 1 else 0 in given (region_at r rs) (λ g. chosen m insertion (here rs) g r))) f ∙ ap (by_condition m insertion (here rs)) (sym e)))

  pub known_open_branch : (b : Bool) → b ≡ named (codes "scf.if") (name_term c n.head.name) → b ≡ true → (v : Value) → n.head.operands ≡ v ∷ [] → (k : Known) → Some k ≡ known m v
      → (p : Option (List Edit)) → p ≡ chosen_at x (if eqb k.1 0 then 1 else 0) m insertion → p ≡ open_branch_at x m insertion
  known_open_branch b e f v g k h p w =
      viewed c n (find x m) (λ z. p ≡ given z (λ o. open_branch m insertion o)) at
      (λ rs s i. w ∙ ap (λ z. given z (λ o. let r = if eqb k.1 0 then 1 else 0 in given (region_at r (regions o)) (λ g. chosen m insertion o g r))) i
      ∙ ap (λ z. given z (λ k. let r = if eqb k.1 0 then 1 else 0 in given (region_at r rs) (λ g. chosen m insertion (here rs) g r))) h
      ∙ ap (by_condition m insertion (here rs)) (sym g)
      ∙ when_yes b _ _ e f)

  -- `open-loop`
  pub not_open_loop : (b : Bool) → b ≡ named (codes "scf.for") (name_term c n.head.name) → b ≡ false → None ≡ open_loop_at x m insertion
  not_open_loop b e f = viewed c n (find x m) (λ z. None ≡ given z (λ o. open_loop m insertion o)) at (λ rs s k. when_no b _ _ e f)

  pub shape_open_loop : length n.head.operands < 3 → None ≡ open_loop_at x m insertion
  shape_open_loop h = viewed c n (find x m) (λ z. None ≡ given z (λ o. open_loop m insertion o)) at (λ rs s k. when_none _ _ (go (here rs) n.head.operands h))
    where
      go : (o : Operation) (l : List Value) → length l < 3 → None ≡ given (loop_from l) (by_bounds m insertion o)
      go o [] h = refl
      go o (v ∷ []) h = refl
      go o (v ∷ w ∷ []) h = refl
      go o (v ∷ w ∷ u ∷ l) h = absurd (omega (arith, h))

  abbrev loop : Value → Value → Value → List Value → Loop
  loop lower upper step inits = record { lower = lower; upper = upper; step = step; inits = inits }

  -- the edits for a trip count
  abbrev by_times : Operation → Loop → TripCount → Option (List Edit)
  by_times o l Zero = Some (never m insertion o l)
  by_times o l One = once m insertion o l
  by_times o l Several = None

  bounds_tell : (o : Operation) (l : Loop) → by_bounds m insertion o l ≡ given (times_of m l.lower l.upper l.step) (by_times o l)
  bounds_tell o l = go (known m l.lower) (known m l.upper) (known m l.step)
    where
      at_end : (b : Bool) → when b (once m insertion o l) ≡ by_times o l (if b then One else Several)
      at_end true = refl
      at_end false = refl

      by_step : (low high : Known) (d : Option Known) (b : Bool)
          → (if b then given d (λ step. when (goes_once m insertion o (reading low) (reading high) (reading step)) (once m insertion o l)) else Some (never m insertion o l))
          ≡ given (if b then given d (λ by. Some (if is_once (reading low) (reading high) (reading by) then One else Several)) else Some Zero) (by_times o l)
      by_step low high None true = refl
      by_step low high (Some by) true = at_end (is_once (reading low) (reading high) (reading by))
      by_step low high d false = refl

      go : (a b d : Option Known)
          → given a (λ low. given b (λ high.
          if int_lt (reading low) (reading high) then given d (λ step. when (goes_once m insertion o (reading low) (reading high) (reading step)) (once m insertion o l))
          else Some (never m insertion o l)))
          ≡ given (given a (λ low. given b (λ high.
          if int_lt (reading low) (reading high) then given d (λ by. Some (if is_once (reading low) (reading high) (reading by) then One else Several)) else Some Zero))) (by_times o l)
      go None b d = refl
      go (Some low) None d = refl
      go (Some low) (Some high) d = by_step low high d (int_lt (reading low) (reading high))

  module _ (lower upper step : Value) (inits : List Value) (shaped_as : n.head.operands ≡ lower ∷ upper ∷ step ∷ inits) where
    reported : (o : Operation) → given (times_of m lower upper step) (by_times o (loop lower upper step inits)) ≡ given (loop_from n.head.operands) (by_bounds m insertion o)
    reported o = sym (ap (λ l. given (loop_from l) (by_bounds m insertion o)) shaped_as ∙ bounds_tell o (loop lower upper step inits))

    pub unknown_open_loop : None ≡ times_of m lower upper step → None ≡ open_loop_at x m insertion
    unknown_open_loop e = viewed c n (find x m) (λ z. None ≡ given z (λ o. open_loop m insertion o)) at (λ rs s k. when_none _ _ (ap (λ z. given z (by_times (here rs) (loop lower upper step inits))) e ∙ reported (here rs)))

    pub several_open_loop : Some Several ≡ times_of m lower upper step → None ≡ open_loop_at x m insertion
    several_open_loop e = viewed c n (find x m) (λ z. None ≡ given z (λ o. open_loop m insertion o)) at (λ rs s k. when_none _ _ (ap (λ z. given z (by_times (here rs) (loop lower upper step inits))) e ∙ reported (here rs)))

    pub never_open_loop : (b : Bool) → b ≡ named (codes "scf.for") (name_term c n.head.name) → b ≡ true → Some Zero ≡ times_of m lower upper step
        → (es : List Edit) → es ≡ replacing (results_from x 0 inits) inits ++ Erase x ∷ [] → Some es ≡ open_loop_at x m insertion
    never_open_loop b e f g es h =
        viewed c n (find x m) (λ z. Some es ≡ given z (λ o. open_loop m insertion o)) at
        (λ rs s k. ap Some (h ∙ ap (λ y. replacing (results_from y 0 inits) inits ++ Erase y ∷ []) (sym (found_id x m (here rs) k)))
        ∙ ap (λ z. given z (by_times (here rs) (loop lower upper step inits))) g ∙ reported (here rs) ∙ when_yes b _ _ e f)

    pub once_open_loop : (b : Bool) → b ≡ named (codes "scf.for") (name_term c n.head.name) → b ≡ true → Some One ≡ times_of m lower upper step
        → (p : Option (List Edit)) → p ≡ opened_at x 0 m insertion (lower ∷ inits) → p ≡ open_loop_at x m insertion
    once_open_loop b e f g p h =
        viewed c n (find x m) (λ z. p ≡ given z (λ o. open_loop m insertion o)) at
        (λ rs s k. h ∙ ap (λ z. given (given z (λ o. body m o 0)) (λ e. Some (opening x insertion e.before (lower ∷ inits) e.last.operands))) k
        ∙ ap (λ y. given (body m (here rs) 0) (λ e. Some (opening y insertion e.before (lower ∷ inits) e.last.operands))) (sym (found_id x m (here rs) k))
        ∙ ap (λ z. given z (by_times (here rs) (loop lower upper step inits))) g ∙ reported (here rs) ∙ when_yes b _ _ e f)

  -- `stop-loop`
  pub not_stop_loop : (b : Bool) → b ≡ named (codes "scf.while") (name_term c n.head.name) → b ≡ false → None ≡ stop_loop_at x m insertion
  not_stop_loop b e f = viewed c n (find x m) (λ z. None ≡ given z (λ o. stop_loop m insertion o)) at (λ rs s k. when_no b _ _ e f)

  ended_here : (o : Operation) → find x m ≡ Some o → body_at x 0 m ≡ body m o 0
  ended_here o k = ap (λ z. given z (λ o. body m o 0)) k

  pub no_body_stop_loop : None ≡ body_at x 0 m → None ≡ stop_loop_at x m insertion
  no_body_stop_loop e =
      viewed c n (find x m) (λ z. None ≡ given z (λ o. stop_loop m insertion o)) at
      (λ rs s k. when_none _ _ (ap (λ b. given b (λ e. by_end m insertion (here rs) e e.last.operands)) (e ∙ ended_here (here rs) k)))

  module _ (e : Ended) (end : Some e ≡ body_at x 0 m) where
    by_its_end : (o : Operation) → find x m ≡ Some o → by_end m insertion o e e.last.operands ≡ given (body m o 0) (λ e. by_end m insertion o e e.last.operands)
    by_its_end o k = ap (λ b. given b (λ e. by_end m insertion o e e.last.operands)) (end ∙ ended_here o k)

    pub shape_stop_loop : (length e.last.operands < 1) → None ≡ stop_loop_at x m insertion
    shape_stop_loop h = viewed c n (find x m) (λ z. None ≡ given z (λ o. stop_loop m insertion o)) at (λ rs s k. when_none _ _ (go (here rs) e.last.operands h ∙ by_its_end (here rs) k))
      where
        go : (o : Operation) (l : List Value) → length l < 1 → None ≡ by_end m insertion o e l
        go o [] h = refl
        go o (v ∷ l) h = absurd (omega (arith, h))

    module _ (v : Value) (handed : List Value) (shaped_as : e.last.operands ≡ v ∷ handed) (t : Bool) (test : t ≡ is_number m 0 v) where
      pub no_number_stop_loop : t ≡ false → None ≡ stop_loop_at x m insertion
      no_number_stop_loop f =
          viewed c n (find x m) (λ z. None ≡ given z (λ o. stop_loop m insertion o)) at
          (λ rs s k. when_none _ _ (when_no t _ _ test f ∙ ap (by_end m insertion (here rs) e) (sym shaped_as) ∙ by_its_end (here rs) k))

      pub number_stop_loop : (b : Bool) → b ≡ named (codes "scf.while") (name_term c n.head.name) → b ≡ true → t ≡ true
          → (es : List Edit) → es ≡ opening x insertion e.before n.head.operands handed → Some es ≡ stop_loop_at x m insertion
      number_stop_loop b g i f es h =
          viewed c n (find x m) (λ z. Some es ≡ given z (λ o. stop_loop m insertion o)) at
          (λ rs s k. ap Some (h ∙ ap (λ y. opening y insertion e.before n.head.operands handed) (sym (found_id x m (here rs) k)))
          ∙ when_yes t _ _ test f ∙ ap (by_end m insertion (here rs) e) (sym shaped_as) ∙ by_its_end (here rs) k ∙ when_yes b _ _ g i)
