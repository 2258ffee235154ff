-- `lower-loop`: the operations inserted before a loop, and the changes to its block.
use Rattle.std.proofs.Common.{◌≡◌, refl, ap, sym, ◌∙◌, subst, ℕ, zero, suc, ◌+◌, ◌<◌, ◌≤◌, Bool, true, false, true≢false, cond, ◌&&◌, eqb, eqb-true, List, [], ◌∷◌, ◌++◌, length, map, Option, Some, None, option_map, inl, inr, ◌⊎◌, arith, append_assoc, append-nil, lt-ltb}
use Rattle.std.specs.List.{range_with_len}
use Rattle.std.specs.Prelude.{codes, is_some, nat_lt, option_and_then, slice_get}
use Rattle.std.proofs.lemmas.Cmp.{nat_eq_equiv}
use Rattle.std.proofs.lemmas.List.{length-map}
use Rattle.std.proofs.lemmas.Slice.Eq.{bytes_eq-Decides}
use Rattle.ir_event.specs.types.Words.{is_isolated, is_table}
use Rattle.ir_event.specs.types.Terms.{TypeTerm, Index, Integer, Function, Memref, AttrTerm}
use Rattle.ir_event.specs.types.SameTypes.{same_type}
use Rattle.ir_event.proofs.of_types.SameTerms.{type_refl}
use Rattle.ir_event.specs.trees.declared.value.Value.{Value}
use Rattle.ir_event.specs.trees.declared.value.Value.TheVariants.{Result, Arg}
use Rattle.ir_event.specs.trees.declared.place.Place.{Place}
use Rattle.ir_event.specs.trees.Tree.{OpsOf, block, next, no_ops, head, regions}
use Rattle.ir_event.specs.trees.Ids.{find, has_id}
use Rattle.ir_event.specs.trees.Frames.{owner_of}
use Rattle.ir_event.specs.trees.Limits.{most_around}
use Rattle.ir_event.specs.trees.Sites.{visible}
use Rattle.ir_event.specs.trees.Uses.{same_value, uses_of}
use Rattle.ir_event.specs.trees.Meaning.{Operation}
use Rattle.ir_event.proofs.of_trees.Replaced.{same_value_true}
use Rattle.ir_event.specs.tree_laws.Members.{In}
use Rattle.ir_event.specs.tree_laws.Reasons.{has_place, hold_none, with_id}
use Rattle.ir_event.specs.tree_laws.Stands.{OpWithPathOf, dominated_by as dominated_by_from}
use Rattle.ir_event.specs.tree_laws.Values.{arguments_at, arguments_of, region_at, type_of_value}
use Rattle.ir_event.proofs.of_tree_laws.Around.{absent_find, around_there, stand_present}
use Rattle.ir_event.proofs.of_tree_laws.Listed.{in_map, in_right}
use Rattle.ir_event.proofs.of_tree_laws.Members.{found_stands, joined_ops, same_stand, stand, stand_found}
use Rattle.ir_event.proofs.of_tree_laws.Wellformed.{ids_below}
use Rattle.ir_event.proofs.of_tree_laws.Readings.{step}
use Rattle.ir_event.proofs.of_tree_laws.DominatedBy.{visible_there}
use Rattle.ir_event.proofs.of_tree_laws.Values.{not_own, seen_by}
use Rattle.ir_event.specs.Modules.{Module}
use Rattle.rewriter_machine.specs.Contents.{Edit, all_edited, edited}
use Rattle.rewriter_machine.specs.Edits.{Make}
use Rattle.patterns_base.specs.Lists.{Free}
use Rattle.patterns_base.proofs.Body.{list_ids}
use Rattle.patterns_base.proofs.Preceding.{cut_at, stands_before}
use Rattle.patterns_base.proofs.Given.{seer, user}
use Rattle.patterns_base.proofs.Give.{there_is}
use Rattle.patterns_base.proofs.Headed.{found_there}
use Rattle.patterns_base.proofs.Made as made_there
use Rattle.patterns_base.proofs.Plans.{StandsAt, dominated_by}
use Rattle.patterns_soundness.specs.base.Keeps.{lowered_type}
use Rattle.patterns_soundness.specs.base.Words.{named}
use Rattle.patterns_soundness.specs.base.Looks.{Ended, Header, body, is_index, is_index_value}
use Rattle.patterns_soundness.specs.base.Made.{i64}
use Rattle.patterns_soundness.specs.base.Makes.{arguments_from, replaced, replacing}
use Rattle.patterns_soundness.specs.base.Lowering.{bridges, brought, crossed, end_of, index_operands, indices, lowered_op, marked}
use Rattle.patterns_soundness.proofs.Ends.{Ending, ending}
use Rattle.patterns_soundness.proofs.Across.{argument_users, before_is, one_stands}
use Rattle.patterns_soundness.proofs.Brought as bringing
use Rattle.patterns_soundness.proofs.Brought.{Brought, LastDominatedBy}
use Rattle.patterns_soundness.proofs.Arguments.{Outcome, Similar, Taking, after, argument_type, changed, outcome, with_operands}
use Rattle.patterns_soundness.proofs.VerifiedBlocks.{if_opened}
use Rattle.patterns_soundness.proofs.CastsAccepted.{AreCrossed, Bridged, MadeThere, Headroom, bridged, made_one}
use Rattle.patterns_soundness.proofs.Chosen.{cut_last}
use Rattle.patterns_soundness.proofs.Holders.{AreHeld, Placed, bridged_has, holders_from, placed_all, placeholders}
use Rattle.patterns_soundness.proofs.Indexed.{crossed_seen, head_there, lowered_fits, lowered_holds_none, own_fits}
use Rattle.patterns_soundness.proofs.Kept as kept
use Rattle.patterns_soundness.proofs.Kept.{Kept}
use Rattle.patterns_soundness.proofs.Leading.{AreNew, Led, LedOn, NewOne, lead_all}
use Rattle.patterns_soundness.proofs.LoopTypes.{for_opened, for_plain}
use Rattle.patterns_soundness.proofs.Moving.{HasBlock}
use Rattle.patterns_soundness.proofs.NearAccepted.{result_type, results_in, there_by, there_is as there_by_results}
use Rattle.patterns_soundness.proofs.Opened.{last_there}
use Rattle.patterns_soundness.proofs.Ordered.{Before, inner_shows, later_shows, put_after}
use Rattle.patterns_soundness.proofs.PairsAccepted.{AllHeld, AllNew, PlaceholderProperties, by_case, holds, holds_other, in_pairs, less_apart, more_apart, pairs, pairs_apart, reported}
use Rattle.patterns_soundness.proofs.Erased.{ErasedAll, Held, erase_edits, erased_all}
use Rattle.patterns_soundness.proofs.Replacing.{Fresh, Holder, Near, Pair, ReplacedAll, pair_edits, replaced_all}
use Rattle.patterns_soundness.proofs.Phases.{Out, id_of}
use Rattle.patterns_soundness.proofs.Points.{Point, here_is, own_operand, dominated_by_operand, stands_there}
use Rattle.patterns_soundness.proofs.Started.{absent_from, fit_of, leaf_uses, lowered_at, missing_unused, nothing_used, rel_of, shallow_out, started, started_block, started_side}
use Rattle.patterns_soundness.proofs.Steps.{Across, IsWithinLimits, nothing, there_of, two_apart}
use Rattle.patterns_soundness.proofs.of_base.Facts.{crossed_length, kept_type}
use Rattle.std.proofs.lemmas.Option.{slice_get_within, same_Some}
use Rattle.ir_event.proofs.Facts.{own_id}
use Rattle.ir_event.proofs.of_tree_laws.Facts.{new_id}

pub got_none : (tys : List TypeTerm) (k : ℕ) → length tys ≤ k → is_some (slice_get tys k) ≡ false
got_none [] zero l = refl
got_none [] (suc k) l = refl
got_none (ty ∷ tys) zero l = absurd (omega (arith, l))
got_none (ty ∷ tys) (suc k) l = got_none tys k (omega (arith, l))

-- a list similar to one that ends with an operation
pub record LikeEnded (us : List Operation) (last : Operation) (zs : List Operation) : Type 0 where
  pub preceding : List Operation
  pub end : Operation
  pub is : zs ≡ preceding ++ end ∷ []
  pub ids : map (λ o. id_of o) preceding ≡ map (λ o. id_of o) us
  pub id : (head end).id ≡ (head last).id

like_ended : (us : List Operation) (last : Operation) (zs : List Operation) → Similar (us ++ last ∷ []) zs → LikeEnded us last zs
like_ended [] last [] s = absurd s
like_ended [] last (z ∷ []) s = record { preceding = []; end = z; is = refl; ids = refl; id = s.0.0 }
like_ended [] last (z ∷ w ∷ zs) s = absurd s.1
like_ended (u ∷ us) last [] s = absurd s
like_ended (u ∷ us) last (z ∷ zs) s =
    let r = like_ended us last zs s.1 in
    record { preceding = z ∷ r.preceding; end = r.end; is = ap (λ l. z ∷ l) r.is; ids = λ i. s.0.0 i ∷ r.ids i; id = r.id }

-- an operation inside an entry of a list is inside the entry of a similar list
like_within : (os zs : List Operation) → Similar os zs → (b : ℕ) (o : Operation) → In o os → has_id b o ≡ true → (z : Operation) × In z zs × (has_id b z ≡ true)
like_within [] zs s b o i e = absurd i
like_within (p ∷ os) [] s b o i e = absurd s
like_within (p ∷ os) (z ∷ zs) s b o (inl q) e = (z, inl refl, s.0.1 b ∙ ap (has_id b) (sym q) ∙ e)
like_within (p ∷ os) (z ∷ zs) s b o (inr i) e = (let r = like_within os zs s.1 b o i e in (r.0, inr r.1, r.2))

module _ (m : Module) (o : Operation) (preceding : Place) (s : Point m o preceding) (name : named (codes "scf.for") (head o).name ≡ true) (args : List TypeTerm) (args_is : arguments_at 0 o ≡ Some args) (e : Ended) (e_is : body m.tree o 0 ≡ Some e)
    (rest : ℕ) (headroom : Headroom (marked (index_operands m.tree m.next preceding o) + (length args + (1 + (marked (indices args) + rest)))) m) where
  abbrev pub x : ℕ
  x = (head o).id

  abbrev pub t : Operation
  t = m.tree

  abbrev pub st : StandsAt (head o).id preceding m
  st = stands_there m o preceding s

  abbrev pub io : List Bool
  io = index_operands m.tree m.next preceding o

  abbrev pub mi : ℕ
  mi = marked (index_operands m.tree m.next preceding o)

  abbrev pub la : ℕ
  la = length args

  abbrev pub ma : ℕ
  ma = marked (indices args)

  abbrev pub n0 : Ending m.tree o 0 e
  n0 = ending m.tree o 0 e e_is

  abbrev pub ws : List Operation
  ws = (ending m.tree o 0 e e_is).preceding ++ (ending m.tree o 0 e e_is).last ∷ []

  pub name_is : (head o).name ≡ codes "scf.for"
  name_is = (bytes_eq-Decides (head o).name (codes "scf.for")).0 name

  pub ends_args : n0.args ≡ args
  ends_args = (let two : Some n0.args ≡ Some args = ap (option_and_then arguments_of) (sym n0.block) ∙ args_is in some_args two)
    where
      some_args : Some n0.args ≡ Some args → n0.args ≡ args
      some_args q = cc

  pub side0 : region_at 0 (regions st.at.here) ≡ Some (block args (joined_ops ws no_ops))
  side0 = ap (λ z. region_at 0 (regions z)) (here_is m o preceding s) ∙ n0.block ∙ (λ i. Some (block (ends_args i) (sym (cut_last n0.preceding n0.last) i)))

  pub lacks0 : (p : Operation) → In p ws → has_id preceding.parent p ≡ false
  lacks0 p i = (fit_of x preceding m st 0 args ws side0 m.next (head o) (head o) (length (st.at.step_in ∷ st.at.path)) (absent_from m s.wellformed m.next (omega arith)) refl p i).parent_out

  -- ---- casts of the operands
  pub b1 : Bridged (head o).id preceding (λ b. has_id b m.tree ≡ true) i64 (index_operands m.tree m.next preceding o) (head o).operands m
  b1 = bridged x preceding (λ b. has_id b m.tree ≡ true) i64 io (head o).operands m st (dominated_by_operand m o preceding s) (let a = headroom.ops in let b = headroom.ids in record { ops = omega (arith, a); ids = omega (arith, b) })

  abbrev pub m1 : Module
  m1 = all_edited (bridges i64 preceding (index_operands m.tree m.next preceding o) (head o).operands) m

  pub wide_operands : length (index_operands m.tree m.next preceding o) ≡ length (head o).operands
  wide_operands = length-map (head o).operands (is_index_value t)

  pub next1 : m1.next ≡ m.next + mi
  next1 = b1.next wide_operands

  pub headroom1 : Headroom (la + (1 + (ma + rest))) m1
  headroom1 = b1.headrooms (la + (1 + (ma + rest))) headroom

  -- ---- placeholders
  pub p2 : Placed (head o).id preceding 0 args ws lacks0 args m1 b1.located
  p2 = placed_all x preceding 0 args ws lacks0 args m1 b1.located (let a = headroom1.ops in let b = headroom1.ids in record { ops = omega (arith, a); ids = omega (arith, b) })

  abbrev pub m2 : Module
  m2 = all_edited (placeholders preceding args) m1

  pub headroom2 : Headroom (1 + (ma + rest)) m2
  headroom2 = p2.headrooms (1 + (ma + rest)) headroom1

  pub has2 : region_at 0 (regions p2.located.at.here) ≡ Some (block args (joined_ops ws no_ops))
  has2 = p2.has (bridged_has x preceding 0 args ws lacks0 io (head o).operands m st (dominated_by_operand m o preceding s) (let a = headroom.ops in let b = headroom.ids in record { ops = omega (arith, a); ids = omega (arith, b) }) side0 b1.located)

  pub x_in : has_id (head o).id m.tree ≡ true
  x_in = there_is is_isolated x preceding m st

  pub header2 : (b : ℕ) → has_id b m.tree ≡ true → option_map head (find b m2.tree) ≡ option_map head (find b m.tree)
  header2 b h = p2.stays.heads b (b1.present b h) ∙ (b1.stays (λ z k. k)).heads b h

  pub x_header2 : head p2.located.at.here ≡ head o
  x_header2 = head_there x preceding m2 p2.located (head o) (header2 x x_in ∙ ap (option_map head) s.found)

  pub taking2 : Taking (head o).id preceding args (list_ids (joined_ops ws no_ops)) m2
  taking2 = record {
    located = p2.located;
    list = joined_ops ws no_ops;
    is = has2;
    ids = refl;
    opened = ap (λ (h : Header). is_isolated h.name) x_header2 ∙ ap is_isolated name_is ∙ for_opened;
    simple = ap (λ (h : Header). is_table h.name) x_header2 ∙ ap is_table name_is ∙ for_plain;
  }

  -- ---- the placeholders replace the arguments
  abbrev pub hold : List Value
  hold = holders_from m1.next args

  pub unused2 : (j : ℕ) → (j < 0) ⊎ (length args ≤ j) → uses_of (Arg (head o).id 0 j) m2.tree ≡ []
  unused2 j (inl l) = absurd (omega (arith, l))
  unused2 j (inr l) = missing_unused m2 p2.located.wellformed (Arg x 0 j) (ap is_some (argument_type x preceding args (list_ids (joined_ops ws no_ops)) m2 taking2 j) ∙ got_none args j l)

  pub out : Outcome (head o).id preceding args (list_ids (joined_ops ws no_ops)) 0 (holders_from m1.next args) m2
  out = outcome x preceding args (list_ids (joined_ops ws no_ops)) hold args [] m2 taking2 refl p2.given 0 refl unused2

  abbrev pub m3 : Module
  m3 = after (head o).id preceding args (list_ids (joined_ops ws no_ops)) 0 (holders_from m1.next args) m2

  pub headroom3 : Headroom (1 + (ma + rest)) m3
  headroom3 = (let c = out.counts in let n = out.numbers in let a = headroom2.ops in let b = headroom2.ids in record { ops = omega (arith, a, c); ids = omega (arith, b, n) })

  pub like : (zs : List Operation) × (region_at 0 (regions out.taking.located.at.here) ≡ Some (block args (joined_ops zs no_ops))) × Similar ws zs
  like = out.lists p2.located ws has2

  abbrev pub zs : List Operation
  zs = like.0

  pub ended : LikeEnded (ending m.tree o 0 e e_is).preceding (ending m.tree o 0 e e_is).last like.0
  ended = like_ended n0.preceding n0.last like.0 like.2

  pub next3 : m3.next ≡ m.next + mi + la
  next3 = (let a = next1 in let b = p2.next in let c = out.numbers in omega (arith, a, b, c))

  -- ---- the new loop
  abbrev pub st3 : StandsAt (head o).id preceding m3
  st3 = out.taking.located

  abbrev pub y : ℕ
  y = m3.next

  abbrev pub new : Operation
  new = lowered_op o (crossed m.next (index_operands m.tree m.next preceding o) (head o).operands)

  pub leaf : hold_none (regions (lowered_op o (crossed m.next (index_operands m.tree m.next preceding o) (head o).operands))) ≡ true
  leaf = lowered_holds_none (regions o)

  pub seen1 : (v : Value) → In v (crossed m.next (index_operands m.tree m.next preceding o) (head o).operands) → dominated_by (head o).id v m1 ≡ true
  seen1 v i = crossed_seen x preceding i64 m.next io (head o).operands m1 b1.made v i

  pub seen3 : (v : Value) → In v (head (lowered_op o (crossed m.next (index_operands m.tree m.next preceding o) (head o).operands))).operands → dominated_by (head o).id v m3 ≡ true
  seen3 v i = out.dominance v ∙ p2.dominance v (seen1 v i)

  pub one4 : MadeThere (head o).id preceding (λ b. has_id b m3.tree ≡ true) (lowered_op o (crossed m.next (index_operands m.tree m.next preceding o) (head o).operands)) m3
  one4 = made_one x preceding (λ b. has_id b m3.tree ≡ true) m3 st3 new leaf (lowered_fits o (crossed m.next io (head o).operands) (crossed_length m.next io (head o).operands wide_operands) (own_fits m o preceding s)) seen3 (ma + rest) (let a = headroom3.ops in let b = headroom3.ids in record { ops = omega (arith, a); ids = omega (arith, b) })

  abbrev pub m4 : Module
  m4 = edited (Make preceding (lowered_op o (crossed m.next (index_operands m.tree m.next preceding o) (head o).operands))) m3

  pub headroom4 : Headroom (ma + rest) m4
  headroom4 = one4.headrooms (ma + rest) (let a = headroom3.ops in let b = headroom3.ids in record { ops = omega (arith, a); ids = omega (arith, b) })

  abbrev pub hx : Header
  hx = head out.taking.located.at.here

  abbrev pub hy : Header
  hy = head (with_id m3.next (lowered_op o (crossed m.next (index_operands m.tree m.next preceding o) (head o).operands)))

  abbrev pub deep : ℕ
  deep = length (out.taking.located.at.step_in ∷ out.taking.located.at.path)

  pub hx_is : hx ≡ with_operands (changed (head o).id preceding args (list_ids (joined_ops ws no_ops)) 0 (holders_from m1.next args)) (head o)
  hx_is = head_there x preceding m3 st3 (with_operands (changed x preceding args (list_ids (joined_ops ws no_ops)) 0 hold) (head o)) (out.heads x ∙ ap (option_map (with_operands (changed x preceding args (list_ids (joined_ops ws no_ops)) 0 hold))) (header2 x x_in ∙ ap (option_map head) s.found))

  pub x_opened : is_isolated hx.name ≡ false
  x_opened = ap (λ (h : Header). is_isolated h.name) hx_is ∙ ap is_isolated name_is ∙ for_opened

  pub x_plain : is_table hx.name ≡ false
  x_plain = ap (λ (h : Header). is_table h.name) hx_is ∙ ap is_table name_is ∙ for_plain

  pub y_opened : is_isolated hy.name ≡ false
  y_opened = ap is_isolated name_is ∙ for_opened

  pub y_plain : is_table hy.name ≡ false
  y_plain = ap is_table name_is ∙ for_plain

  pub fits : (p : Operation) → In p like.0 → IsWithinLimits (head o).id m3.next preceding hx hy deep p
  fits p i = fit_of x preceding m3 st3 0 args zs like.1 y hx hy deep (absent_from m3 st3.wellformed y (omega arith)) refl p i

  pub end_in : In ended.end like.0
  end_in = subst (In ended.end) (sym ended.is) (in_right ended.end ended.preceding (ended.end ∷ []) (inl refl))

  pub around_is : deep + 1 ≤ most_around
  around_is = (let l = (fits ended.end end_in).levels in omega (arith, l))

  abbrev pub a4 : Across (head o).id m3.next preceding hx hy deep m4
  a4 = started x preceding m3 st3 new leaf seen3 one4.located

  pub led4 : Led (head o).id m3.next preceding hx hy deep y_opened args args like.0 (λ p i. (fits p i).y_out) around_is m4
  led4 = record {
    across = a4;
    into = started_block x preceding m3 st3 new leaf seen3 one4.located 0 (map lowered_type n0.args) no_ops (lowered_at 0 (regions o) n0.args (joined_ops n0.preceding (next n0.last no_ops)) n0.block);
    args_are = ap (map lowered_type) ends_args;
    side = started_side x preceding m3 st3 new leaf seen3 one4.located 0 args zs (λ p i. (fits p i).parent_out) like.1;
  }

  -- ---- casts of its arguments
  pub lo : LedOn (head o).id m3.next preceding hx hy deep y_opened args args like.0 (λ p i. (fits p i).y_out) around_is (indices args) 0 args m4
  lo = lead_all x y preceding hx hy deep y_opened args args zs (λ p i. (fits p i).y_out) around_is (indices args) [] args (length-map args is_index) refl 0 refl m4 led4 (let a = headroom4.ops in let b = headroom4.ids in record { ops = omega (arith, a); ids = omega (arith, b) })

  abbrev pub m5 : Module
  m5 = all_edited (bridges Index (end_of m3.next 0) (indices args) (arguments_from m3.next 0 args)) m4

  pub next5 : m5.next ≡ m.next + mi + la + 1 + ma
  next5 = (let a = lo.next in let b = next3 in omega (arith, a, b))

  pub headroom5 : Headroom rest m5
  headroom5 = lo.headrooms rest headroom4

  -- ---- the operations of the block move into the new loop
  abbrev pub ps : List Pair
  ps = pairs m3.next (indices args) m1.next 0 m4.next args

  abbrev pub IsHeld : ℕ → TypeTerm → Type 0
  IsHeld h ty = Before h (head o).id m2.tree × (results_in h m2.tree ≡ Some (ty ∷ []))

  abbrev pub IsNew : Bool → ℕ → ℕ → TypeTerm → Type 0
  IsNew b k c ty = NewOne (head o).id m3.next preceding hx hy deep y_opened args args like.0 (λ p i. (fits p i).y_out) around_is b k c ty m5

  pub held_each : (n : ℕ) (tys : List TypeTerm) → AreHeld (head o).id preceding 0 args ws lacks0 n tys m2 → AllHeld m3.next IsHeld n tys
  held_each n [] a = tt
  held_each n (ty ∷ tys) a = (a.0, held_each (n + 1) tys a.1)

  pub new_each : (ms : List Bool) (k c : ℕ) (tys : List TypeTerm) → AreNew (head o).id m3.next preceding hx hy deep y_opened args args like.0 (λ p i. (fits p i).y_out) around_is ms k c tys m5 → AllNew m3.next IsNew ms k c tys
  new_each [] k c tys a = tt
  new_each (b ∷ ms) k c [] a = tt
  new_each (b ∷ ms) k c (ty ∷ tys) a = (a.0, new_each ms (k + 1) (cond b (c + 1) c) tys a.1)

  pub counted_rules : (p : Pair) → In p ps → PlaceholderProperties m3.next IsHeld IsNew m1.next (m1.next + length args) m4.next p
  counted_rules p i = reported m3.next IsHeld IsNew (indices args) m1.next 0 m4.next args refl (held_each m1.next args p2.held) (new_each (indices args) 0 m4.next args lo.made) p i

  pub apart_id : (b : ℕ) (z : Operation) → has_id b z ≡ false → eqb b (head z).id ≡ false
  apart_id b z h = go (eqb b (head z).id) refl
    where
      go : (c : Bool) → eqb b (head z).id ≡ c → eqb b (head z).id ≡ false
      go false q = q
      go true q = absurd (true≢false (sym (ap (λ i. has_id i z) (eqb-true b (head z).id q) ∙ own_id z) ∙ h))

  -- an operation that isn't in the block
  pub late_out : (c : ℕ) → m3.next ≤ c → (z : Operation) → In z like.0 → has_id c z ≡ false
  late_out c l z i = (fit_of x preceding m3 st3 0 args zs like.1 c hx hy deep (absent_from m3 st3.wellformed c l) refl z i).y_out

  pub held_before3 : (h : ℕ) (ty : TypeTerm) → IsHeld h ty → Before h (head o).id m3.tree
  held_before3 h ty k = out.befores h x k.0

  pub held_out : (h : ℕ) (ty : TypeTerm) → IsHeld h ty → (z : Operation) → In z like.0 → has_id h z ≡ false
  held_out h ty k z i =
      let b = held_before3 h ty k in
      let g = stands_before m3.tree b.here b.first b.step_in b.path b.there b.among in
      let c = cut_at z zs i in
      let same = same_stand m3.tree st3.wellformed.distinct (stand b.here (b.step_in ∷ b.path)) (stand st3.at.here (st3.at.step_in ∷ st3.at.path)) b.there st3.at.there (b.id ∙ sym st3.at.id) in
      let n = ap (λ (q : OpWithPathOf (List ℕ) TypeTerm AttrTerm). length q.path) same in
      ap (λ j. has_id j z) (sym b.is) ∙ shallow_out x preceding m3 st3 0 args zs like.1 c.0 c.1 z c.2 b.first (g.step_in ∷ b.path) g.there (omega (arith, n))

  pub held_results3 : (h : ℕ) (ty : TypeTerm) → IsHeld h ty → results_in h m3.tree ≡ Some (ty ∷ [])
  held_results3 h ty k = ap (option_map (λ (z : Header). z.results)) (out.heads h) ∙ go (option_map head (find h m2.tree)) ∙ k.1
    where
      go : (f : Option Header) → option_map (λ (z : Header). z.results) (option_map (with_operands (changed (head o).id preceding args (list_ids (joined_ops ws no_ops)) 0 (holders_from m1.next args))) f) ≡ option_map (λ (z : Header). z.results) f
      go None = refl
      go (Some h) = refl

  pub held_there3 : (h : ℕ) (ty : TypeTerm) → IsHeld h ty → has_id h m3.tree ≡ true
  held_there3 h ty k = there_by_results h m3.tree (ty ∷ []) (held_results3 h ty k)

  pub held_there4 : (h : ℕ) (ty : TypeTerm) → IsHeld h ty → has_id h m4.tree ≡ true
  held_there4 h ty k = one4.present h (held_there3 h ty k)

  pub spot3 : has_place preceding m3.tree ≡ true
  spot3 = made_there.point is_isolated x preceding m3 st3

  -- they come before the new loop too
  pub held_before4 : (h : ℕ) (ty : TypeTerm) → IsHeld h ty → Before h m3.next m4.tree
  held_before4 h ty k =
      let at4 = (one4.stays (λ b i. i)).before h x (held_there3 h ty k) (there_is is_isolated x preceding m3 st3) (held_before3 h ty k) in
      let may = kept.may is_isolated m3 st3.wellformed preceding spot3 new leaf in
      let apart : eqb h (head (with_id y new)).id ≡ false = ap (eqb h) (new_id y new) ∙ kept.not_new is_isolated m3 st3.wellformed preceding spot3 new leaf h (held_there3 h ty k) in
      subst (λ i. Before h i m4.tree) (new_id y new) (put_after preceding (with_id y new) m3.tree may h x (before_is x preceding m3.tree st3.at) at4 apart)

  abbrev pub B : ℕ → Type 0
  B b = (has_id b m5.tree ≡ true) × ((z : Operation) → In z like.0 → has_id b z ≡ false)

  pub held_B : (h : ℕ) (ty : TypeTerm) → IsHeld h ty → B h
  held_B h ty k = (lo.stays.present h (held_there4 h ty k), held_out h ty k)

  pub y_B : B m3.next
  y_B = ((let q = there_of (find y m5.tree) hy lo.led.across.y_is in let w = found_stands y m5.tree q.0 q.1 in ap (λ i. has_id i m5.tree) (sym w.2) ∙ stand_present [] m5.tree w.0 w.1), λ z i. (fits z i).y_out)

  abbrev pub News : Value → Type 0
  News v = (p : Pair) × In p ps × (v ≡ p.1)

  -- a new value, by its kind
  pub record NewKind (v : Value) : Type 0 where
    pub owner_late : m3.next ≤ (owner_of v).0
    pub owner_out : (z : Operation) → In z like.0 → has_id (owner_of v).0 z ≡ false

  pub kind_of : (v : Value) → News v → NewKind v
  kind_of v n = subst NewKind (sym n.2) (by_mark (counted_rules n.0 n.1))
    where
      by_mark : PlaceholderProperties m3.next IsHeld IsNew m1.next (m1.next + length args) m4.next n.0 → NewKind n.0.1
      by_mark k = subst NewKind (sym k.value) (go k.mark k.later)
        where
          go : (b : Bool) → m4.next ≤ k.cast → NewKind (cond b (Result k.cast 0) (Arg m3.next 0 k.number))
          go true l = record { owner_late = omega (arith, l); owner_out = late_out k.cast (omega (arith, l)) }
          go false l = record { owner_late = omega arith; owner_out = λ z i. (fits z i).y_out }

  abbrev pub zs_ended : List Operation
  zs_ended = ended.preceding ++ ended.end ∷ []

  pub side5 : region_at 0 (regions lo.led.across.located.at.here) ≡ Some (block args (joined_ops (ended.preceding ++ ended.end ∷ []) no_ops))
  side5 = lo.led.side ∙ ap (λ l. Some (block args (joined_ops l no_ops))) ended.is

  pub fits5 : (p : Operation) → In p (ended.preceding ++ ended.end ∷ []) → IsWithinLimits (head o).id m3.next preceding hx hy deep p
  fits5 p i = fits p (subst (In p) (sym ended.is) i)

  pub spared5 : (k : ℕ) → uses_of (Arg (head o).id 0 k) m5.tree ≡ []
  spared5 k = nothing (uses_of (Arg x 0 k) m5.tree) (λ u i. subst (In u) at4 (lo.uses (Arg x 0 k) (λ j. ap (λ b. b && (eqb 0 0 && eqb k j)) (two_apart x y preceding hx hy deep m4 a4)) u i))
    where
      other : (v : Value) → In v (head new).operands → same_value (Arg (head o).id 0 k) v ≡ false
      other v i = go (same_value (Arg x 0 k) v) refl
        where
          go : (c : Bool) → same_value (Arg (head o).id 0 k) v ≡ c → same_value (Arg (head o).id 0 k) v ≡ false
          go false q = q
          go true q = (let w = seer is_isolated m3.tree st3.wellformed.distinct x v (seen3 v i) in absurd (not_own is_isolated m3.tree st3.wellformed.distinct w.0 w.1 v w.3 (ap (λ (z : Value). (owner_of z).0) (sym (same_value_true (Arg x 0 k) v q)) ∙ sym w.2)))

      at4 : uses_of (Arg (head o).id 0 k) m4.tree ≡ []
      at4 = nothing_used m3 st3.wellformed preceding spot3 new leaf (Arg x 0 k) (leaf_uses y new leaf (Arg x 0 k) other) (out.unused k)

  abbrev pub start5 : Out (head o).id m3.next 0 preceding hx hy deep x_opened x_plain y_opened y_plain args B [] (ended.preceding ++ ended.end ∷ []) m5
  start5 = record {
    across = lo.led.across;
    into = lo.led.into;
    is = side5;
    spared = spared5;
    moved = λ p i. absurd i;
    fits = fits5;
    moved_fits = λ p i. absurd i;
    rel = rel_of x preceding m5 lo.led.across.located 0 args zs_ended side5 [] zs_ended refl;
    turned = tt;
  }

  -- the new values dominate the last operation
  pub last_news : LastDominatedBy (head o).id m3.next 0 preceding hx hy deep x_opened x_plain y_opened y_plain args B News ended.preceding ended.end m5 start5
  last_news n across into stays inside trailing v new_v = subst (λ z. dominated_by (head ended.end).id z n ≡ true) (sym new_v.2) (by_mark (counted_rules new_v.0 new_v.1))
    where
      all_out : (b : ℕ) → B b → (z : Operation) → In z (ended.preceding ++ ended.end ∷ []) → has_id b z ≡ false
      all_out b h z i = h.1 z (subst (In z) (sym ended.is) i)

      kept_n : Kept is_isolated B m5.tree n.tree
      kept_n = stays.kept (λ b h. h.0) all_out

      by_mark : PlaceholderProperties m3.next IsHeld IsNew m1.next (m1.next + length args) m4.next new_v.0 → dominated_by (head ended.end).id new_v.0.1 n ≡ true
      by_mark k = subst (λ z. dominated_by (head ended.end).id z n ≡ true) (sym k.value) (go k.mark k.later k.news)
        where
          go : (b : Bool) → m4.next ≤ k.cast → IsNew b k.number k.cast new_v.0.2 → dominated_by (head ended.end).id (cond b (Result k.cast 0) (Arg m3.next 0 k.number)) n ≡ true
          go true l c =
              let there : has_id k.cast m5.tree ≡ true = there_by_results k.cast m5.tree (Index ∷ []) c.results in
              let bc : B k.cast = (there, late_out k.cast (omega (arith, l))) in
              let at_n = kept_n.inside y 0 k.cast bc c.inside in
              let results : results_in k.cast n.tree ≡ Some (Index ∷ []) = ap (option_map (λ (h : Header). h.results)) (stays.heads k.cast) ∙ c.results in
              let co = there_by k.cast n.tree (Index ∷ []) results in
              later_shows is_isolated n.tree across.located.wellformed.distinct k.cast (head ended.end).id (trailing k.cast at_n (apart_id k.cast ended.end (late_out k.cast (omega (arith, l)) ended.end end_in))) co.0 co.1 0 (ap (λ (z : List TypeTerm). nat_lt 0 (length z)) co.2)
          go false l c =
              let typed = stays.types (Arg y 0 k.number) ∙ c in
              let of_block : type_of_value (Arg y 0 k.number) n.tree ≡ slice_get into.args k.number = ap (λ f. option_and_then (λ o. option_and_then (λ args. slice_get args k.number) (arguments_at 0 o)) f) into.found ∙ ap (λ g. option_and_then (λ args. slice_get args k.number) (option_and_then arguments_of g)) into.is in
              inner_shows is_isolated n.tree across.located.wellformed.distinct y 0 (head ended.end).id inside into.here into.found into.args into.list into.is k.number
              (lt-ltb k.number (length into.args) (slice_get_within into.args k.number (lowered_type new_v.0.2) (sym of_block ∙ typed)))

  pub bring6 : Brought (head o).id m3.next 0 preceding hx hy deep x_opened x_plain y_opened y_plain args B News ended.preceding ended.end m5 start5
  bring6 = bringing.bring x y 0 preceding hx hy deep x_opened x_plain y_opened y_plain args B News ended.preceding ended.end m5 start5
      (λ v n z i. apart_id (owner_of v).0 z ((kind_of v n).owner_out z (subst (In z) (sym ended.is) i))) last_news

  abbrev pub m6 : Module
  m6 = bring6.after

  -- ---- the placeholders are erased
  abbrev pub l : ℕ
  l = (head ended.end).id

  abbrev pub rs : List TypeTerm
  rs = (head o).results

  abbrev pub ys : List TypeTerm
  ys = map lowered_type (head o).results

  abbrev pub few : ℕ
  few = length (head ended.end).operands

  pub all_out : (b : ℕ) → B b → (z : Operation) → In z (ended.preceding ++ ended.end ∷ []) → has_id b z ≡ false
  all_out b h z i = h.1 z (subst (In z) (sym ended.is) i)

  pub kept6 : Kept is_isolated B m5.tree m6.tree
  kept6 = bring6.stays.kept (λ b h. h.0) all_out

  pub end_last : In ended.end (ended.preceding ++ ended.end ∷ [])
  end_last = in_right ended.end ended.preceding (ended.end ∷ []) (inl refl)

  pub y_there4 : has_id m3.next m4.tree ≡ true
  y_there4 = (let q = there_of (find y m4.tree) hy a4.y_is in let w = found_stands y m4.tree q.0 q.1 in ap (λ i. has_id i m4.tree) (sym w.2) ∙ stand_present [] m4.tree w.0 w.1)

  pub holder6 : (h : ℕ) (ty : TypeTerm) → IsHeld h ty → Holder (head o).id m3.next l preceding rs ys few h ty m6
  holder6 h ty k = record {
    before = kept6.before h y (held_B h ty k) y_B (lo.stays.before h y (held_there4 h ty k) y_there4 (held_before4 h ty k));
    results = ap (option_map (λ (z : Header). z.results)) (bring6.stays.heads h ∙ lo.stays.heads h (held_there4 h ty k) ∙ (one4.stays (λ b i. i)).heads h (held_there3 h ty k)) ∙ held_results3 h ty k;
  }

  pub near6 : Near (head o).id m3.next l preceding rs ys few m6
  near6 = record {
    located = bring6.coming.across.located;
    before = bring6.coming.across.before;
    x_results = ap (option_map (λ (z : Header). z.results)) bring6.coming.across.x_is ∙ ap (λ (z : Header). Some z.results) hx_is;
    y_results = ap (option_map (λ (z : Header). z.results)) bring6.coming.across.y_is;
    inside = (bring6.coming.came ended.end end_last).0;
    operands = ap (λ f. option_map (λ (z : Header). length z.operands) (option_map head f)) (bring6.coming.came ended.end end_last).1;
  }

  -- a user of a placeholder is in the block
  pub held_users : (h : ℕ) → m1.next ≤ h → (u : ℕ × ℕ) → In u (uses_of (Result h 0) m6.tree) → (z : Operation) × In z (ended.preceding ++ ended.end ∷ []) × (has_id u.0 z ≡ true)
  held_users h low u i =
      let in4 = lo.uses (Result h 0) (λ j. refl) u (bring6.stays.used (Result h 0) u i) in
      let in3 : In u (uses_of (Result h 0) m3.tree) = elim (kept.made_uses is_isolated m3 st3.wellformed preceding spot3 new leaf (Result h 0) u in4) [ inl k ↦ k | inr k ↦ absurd (subst (In u) (leaf_uses y new leaf (Result h 0) other) k) ] in
      let e3 = out.users (Result h 0) u in3 in
      by_kind e3.0 e3.1 e3.2
    where
      gone : has_id h m1.tree ≡ false
      gone = absent_from m1 b1.located.wellformed h low

      other : (v : Value) → In v (head new).operands → same_value (Result h 0) v ≡ false
      other v k = go (same_value (Result h 0) v) refl
        where
          go : (c : Bool) → same_value (Result h 0) v ≡ c → same_value (Result h 0) v ≡ false
          go false q = q
          go true q =
              (let w = seer is_isolated m1.tree b1.located.wellformed.distinct x v (seen1 v k) in
              let g = seen_by is_isolated m1.tree b1.located.wellformed.distinct w.0 w.1 v w.3 in
              absurd (true≢false (sym (ap (λ z. has_id z m1.tree) (ap (λ (z : Value). (owner_of z).0) (same_value_true (Result h 0) v q) ∙ g.id) ∙ stand_present [] m1.tree g.owner g.there) ∙ gone)))

      none2 : uses_of (Result h 0) m2.tree ≡ []
      none2 = p2.unused (Result h 0) (missing_unused m1 b1.located.wellformed (Result h 0) (ap (λ f. is_some (option_and_then (λ (z : Operation). slice_get (head z).results 0) f)) (absent_find h m1.tree gone)))

      by_kind : (e : ℕ × ℕ) → e.0 ≡ u.0 → In e (uses_of (Result h 0) m2.tree) ⊎ ((j : ℕ) × In e (uses_of (Arg (head o).id 0 j) m2.tree)) → (z : Operation) × In z (ended.preceding ++ ended.end ∷ []) × (has_id u.0 z ≡ true)
      by_kind e id (inl k) = absurd (subst (In e) none2 k)
      by_kind e id (inr k) =
          let w = user (Arg x 0 k.0) m2.tree e k.1 in
          let own = own_operand m2.tree p2.located.wellformed.distinct p2.located.wellformed.wellformed.visible w.0 w.1 (Arg x 0 k.0) w.3 in
          let a = argument_users m2.tree p2.located.wellformed.distinct p2.located.at.here (p2.located.at.step_in ∷ p2.located.at.path) p2.located.at.there 0 args ws has2 is_isolated w.0.here w.0.path w.1 k.0 (ap (λ i. dominated_by_from is_isolated w.0.path (Arg i 0 k.0)) p2.located.at.id ∙ own) in
          let z = like_within ws zs like.2 (head w.0.here).id a.0 a.1 a.2 in
          (z.0, subst (In z.0) ended.is z.1, ap (λ i. has_id i z.0) (sym id ∙ w.2) ∙ z.2)

  pub fresh6 : (p : Pair) → In p ps → Fresh (head o).id m3.next l preceding rs ys few p (ended.preceding ++ ended.end ∷ []) m6
  fresh6 p i = by_mark (counted_rules p i)
    where
      by_mark : PlaceholderProperties m3.next IsHeld IsNew m1.next (m1.next + length args) m4.next p → Fresh (head o).id m3.next l preceding rs ys few p (ended.preceding ++ ended.end ∷ []) m6
      by_mark k =
          let typed = types k.mark k.news k.index in
          record {
            holder = holder6 p.0 p.2 k.held;
            ty = typed.0;
            of = ap (λ v. type_of_value v m6.tree) k.value ∙ typed.1;
            same = typed.2;
            seen = λ z j. bring6.coming.news p.1 (p, i, refl) z j;
            users = held_users p.0 k.low;
            out = λ z j. held_out p.0 p.2 k.held z (subst (In z) (sym ended.is) j);
          }
        where
          types : (b : Bool) → IsNew b k.number k.cast p.2 → is_index p.2 ≡ b → (ty : TypeTerm) × (type_of_value (cond b (Result k.cast 0) (Arg m3.next 0 k.number)) m6.tree ≡ Some ty) × (same_type p.2 ty ≡ true)
          types true c is = (Index, result_type k.cast m6.tree Index (ap (option_map (λ (z : Header). z.results)) (bring6.stays.heads k.cast) ∙ c.results), is)
          types false c is = (lowered_type p.2, bring6.stays.types (Arg y 0 k.number) ∙ c, kept_type p.2 is)

  pub below_casts : m1.next + length args ≤ m4.next
  below_casts = (let a = p2.next in let b = out.numbers in omega (arith, a, b))

  pub rep7 : ReplacedAll (head o).id m3.next l preceding rs ys few ps m6
  rep7 = replaced_all x y l preceding rs ys few ps zs_ended m6 bring6.coming.across.located.wellformed (λ z i. (bring6.coming.came z i).1) fresh6 (pairs_apart y x l preceding rs ys few (indices args) m1.next 0 m4.next args below_casts)

  abbrev pub m7 : Module
  m7 = all_edited (pair_edits ps) m6

  abbrev pub hs : List Held
  hs = holds m1.next args

  pub held_each7 : (q : Held) → In q (holds m1.next args) → Holder (head o).id m3.next l preceding rs ys few q.0 q.1 m7 × (uses_of (Result q.0 0) m7.tree ≡ []) × (eqb l q.0 ≡ false)
  held_each7 q i =
      let p = in_pairs y (indices args) m1.next 0 m4.next args (length-map args is_index) q i in
      let k = counted_rules p.0 p.1 in
      let h : IsHeld q.0 q.1 = subst (λ (z : ℕ × TypeTerm). IsHeld z.0 z.1) (λ j. (p.2 j, p.3 j)) k.held in (
        rep7.holders q.0 q.1 (holder6 q.0 q.1 h),
        subst (λ z. uses_of (Result z 0) m7.tree ≡ []) p.2 (rep7.unused p.0 p.1),
        nat_eq_equiv.symm l q.0 ∙ apart_id q.0 ended.end (held_out q.0 q.1 h ended.end end_in),
      )

  pub er8 : ErasedAll (head o).id m3.next l preceding rs ys few (holds m1.next args) m7
  er8 = erased_all x y l preceding rs ys few hs m7 (rep7.near near6) held_each7 (holds_other m1.next args)

  abbrev pub m8 : Module
  m8 = all_edited (erase_edits (holds m1.next args)) m7

  pub headroom8 : Headroom rest m8
  headroom8 = er8.headrooms rest (let r = bring6.stays.headrooms rest headroom5 in let c = rep7.counts in let n = rep7.next in let a = r.ops in let b = r.ids in record { ops = omega (arith, a, c); ids = omega (arith, b, n) })

  pub next8 : m8.next ≡ m.next + mi + la + 1 + ma
  next8 = er8.next ∙ rep7.next ∙ bring6.stays.next ∙ next5

  -- ---- the values that dominate the last operation of the block then
  pub last_found : find e.last.id m.tree ≡ Some n0.last
  last_found =
      (let k = last_there m o preceding s 0 e e_is in
      let w = one_stands m.tree s.wellformed.distinct st.at.here (st.at.step_in ∷ st.at.path) st.at.there 0 args ws side0 n0.preceding [] n0.last refl in
      ap (λ (h : Header). find h.id m.tree) n0.is ∙ stand_found m.tree s.wellformed.distinct (stand n0.last (step st.at.here 0 args n0.preceding no_ops ∷ st.at.step_in ∷ st.at.path)) w)

  pub last_in : has_id (head n0.last).id m.tree ≡ true
  last_in =
      (let w = one_stands m.tree s.wellformed.distinct st.at.here (st.at.step_in ∷ st.at.path) st.at.there 0 args ws side0 n0.preceding [] n0.last refl in
      stand_present [] m.tree (stand n0.last (step st.at.here 0 args n0.preceding no_ops ∷ st.at.step_in ∷ st.at.path)) w)

  abbrev pub turned : Value → Value
  turned = changed (head o).id preceding args (list_ids (joined_ops ws no_ops)) 0 (holders_from m1.next args)

  pub end_head : head ended.end ≡ with_operands turned e.last
  end_head =
      (let w = one_stands m3.tree st3.wellformed.distinct st3.at.here (st3.at.step_in ∷ st3.at.path) st3.at.there 0 args zs like.1 ended.preceding [] ended.end ended.is in
      let f3 : find l m3.tree ≡ Some ended.end = stand_found m3.tree st3.wellformed.distinct (stand ended.end (step st3.at.here 0 args ended.preceding no_ops ∷ st3.at.step_in ∷ st3.at.path)) w in
      let f0 : option_map head (find (head n0.last).id m.tree) ≡ Some e.last = ap (λ (h : Header). option_map head (find h.id m.tree)) (sym n0.is) ∙ last_there m o preceding s 0 e e_is in
      same_Some (head ended.end) (with_operands turned e.last)
      (sym (ap (option_map head) f3) ∙ out.heads l ∙ ap (option_map (with_operands turned)) (ap (λ i. option_map head (find i m2.tree)) ended.id ∙ header2 (head n0.last).id last_in ∙ f0)))

  pub few_is : few ≡ length e.last.operands
  few_is = ap (λ (h : Header). length h.operands) end_head ∙ length-map e.last.operands turned

  pub last6_dominated_by : (v : Value) → In v (head ended.end).operands → dominated_by l v m6 ≡ true
  last6_dominated_by v i =
      let w = found_stands l m6.tree ended.end (bring6.coming.came ended.end end_last).1 in
      let wellformed = bring6.coming.across.located.wellformed in
      ap (λ z. visible is_isolated m6.tree z v) (sym w.2) ∙ visible_there is_isolated m6.tree wellformed.distinct w.0 w.1 v
      ∙ own_operand m6.tree wellformed.distinct wellformed.wellformed.visible w.0 w.1 v (subst (λ (z : Operation). In v (head z).operands) (sym w.3) i)

  held_bounds : (q : Held) → In q (holds m1.next args) → (m1.next ≤ q.0) × (q.0 < m3.next)
  held_bounds q i =
      (let p = in_pairs y (indices args) m1.next 0 m4.next args (length-map args is_index) q i in
      let k = counted_rules p.0 p.1 in
      let a = k.low in
      let b = k.high in
      let c = p.2 in
      let d = p2.next in
      let n = out.numbers in
      (omega (arith, a, c), omega (arith, b, c, d, n)))

  abbrev pub final : Value → Value
  final = replaced (arguments_from (head o).id 0 args) (crossed m4.next (indices args) (arguments_from m3.next 0 args))

  pub as_many : (k : ℕ) (vs : List Value) (tys : List TypeTerm) → length vs ≡ length tys → arguments_from (head o).id k vs ≡ arguments_from (head o).id k tys
  as_many k [] [] q = refl
  as_many k [] (ty ∷ tys) q = absurd (omega (arith, q))
  as_many k (v ∷ vs) [] q = absurd (omega (arith, q))
  as_many k (v ∷ vs) (ty ∷ tys) q = ap (λ z. Arg x 0 k ∷ z) (as_many (k + 1) vs tys (omega (arith, q)))

  pub hold_length : (n : ℕ) (tys : List TypeTerm) → length (holders_from n tys) ≡ length tys
  hold_length n [] = refl
  hold_length n (ty ∷ tys) = (let k = hold_length (n + 1) tys in omega (arith, k))

  -- an operand of the last operation belongs to an old operation
  old_owner : (v : Value) → In v e.last.operands → (owner_of v).0 < m.next
  old_owner v i =
      (let w = found_stands e.last.id m.tree n0.last last_found in
      let j : In v (head w.0.here).operands = subst (λ (z : Header). In v z.operands) (n0.is ∙ ap (λ (z : Operation). head z) (sym w.3)) i in
      let own = own_operand m.tree s.wellformed.distinct s.wellformed.wellformed.visible w.0 w.1 v j in
      let g = seen_by is_isolated m.tree s.wellformed.distinct w.0 w.1 v own in
      let n = ids_below m.next m.tree s.wellformed.below g.owner g.there in
      let id = g.id in
      omega (arith, n, id))

  pub seen8 : (v : Value) → In v e.last.operands → dominated_by l (final v) m8 ≡ true
  seen8 v i = elim (by_case y x (indices args) m1.next 0 0 m4.next args (length-map args is_index) v) [
    | inl k ↦ (let same : turned v ≡ v = ap (λ olds. replaced olds hold v) (as_many 0 hold args (hold_length m1.next args)) ∙ k.1 in
        let j : In v (head ended.end).operands = subst (λ (z : Header). In v z.operands) (sym end_head) (subst (λ z. In z (map turned e.last.operands)) same (in_map turned v e.last.operands i)) in
        ap (λ z. dominated_by l z m8) k.0
        ∙ er8.dominance v (λ q r. let b = held_bounds q r in let low = b.0 in let n = old_owner v i in let f = next1 in less_apart (owner_of v).0 q.0 (omega (arith, low, n, f))) (rep7.dominance l v ∙ last6_dominated_by v j))
    | inr k ↦ ap (λ z. dominated_by l z m8) k.2
        ∙ er8.dominance k.0.1 (λ q r. let b = held_bounds q r in let high = b.1 in let n = (kind_of k.0.1 (k.0, k.1, refl)).owner_late in more_apart (owner_of k.0.1).0 q.0 (omega (arith, high, n)))
        (rep7.dominance l k.0.1 ∙ bring6.coming.news k.0.1 (k.0, k.1, refl) ended.end end_last)
  ]

  -- no edit up to there is refused
  pub free8 : (fs : List Edit) → Free fs m8
      → Free (bridges i64 preceding (index_operands m.tree m.next preceding o) (head o).operands ++ (placeholders preceding args ++ (replacing (arguments_from (head o).id 0 (holders_from m1.next args)) (holders_from m1.next args) ++ (Make preceding (lowered_op o (crossed m.next (index_operands m.tree m.next preceding o) (head o).operands)) ∷ (bridges Index (end_of m3.next 0) (indices args) (arguments_from m3.next 0 args)
      ++ (brought preceding m3.next 0 (map (λ o. id_of o) ended.preceding) (head ended.end).id ++ (pair_edits ps ++ (erase_edits (holds m1.next args) ++ fs)))))))) m
  free8 fs k = b1.free _ (p2.free _ (out.free _ (one4.free _ (lo.free _ (bring6.free _ (rep7.free _ (er8.free fs k)))))))
