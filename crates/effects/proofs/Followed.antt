-- A table of counts that is updated after an event counts the tree after it.
use Rattle.std.proofs.Common.{◌≡◌, ℕ, ◌+◌, List, [], ◌∷◌, ◌++◌, Bool, true, false, true≢false, ◌⊎◌, inl, inr, ◌||◌, Option, Some, None, refl, sym, ap, ◌∙◌, subst, eqb, slice_get, map}
use Rattle.std.specs.Prelude.{option_map, option_and_then, not}
use Rattle.std.specs.Bool.{OnTrue}
use Rattle.std.specs.List.{IsDistinct}
use Rattle.ir_event.specs.types.Things.{ContextModel}
use Rattle.ir_event.specs.types.Terms.{TypeTerm, AttrTerm, name_term, type_term, attr_term}
use Rattle.ir_event.specs.types.Words.{is_table}
use Rattle.ir_event.specs.trees.declared.value.Value.{Value}
use Rattle.ir_event.specs.trees.declared.place.Place.{Place}
use Rattle.ir_event.specs.trees.Tree.{HeadOf, OpOf, Op, op, RegionsOf, no_regions, region, empty, block, no_ops, next, head, regions}
use Rattle.ir_event.specs.trees.Ids.{find, HasDistinctIds}
use Rattle.ir_event.specs.trees.Edits.{at, put_operand, change_part, change_entry}
use Rattle.ir_event.specs.trees.Meaning.{Operation, meaning, key_before}
use Rattle.ir_event.proofs.of_trees.Heads.{alike_operand, alike_entry, entry_operands}
use Rattle.ir_event.specs.tree_laws.Members.{In}
use Rattle.ir_event.specs.tree_laws.Stands.{stands}
use Rattle.ir_event.specs.tree_laws.Changes.{operand_at, HoldNone, Takes, SetsOperand, Shifts}
use Rattle.ir_event.proofs.of_tree_laws.Listed.{in_map}
use Rattle.ir_event.proofs.of_tree_laws.Members.{found_stands}
use Rattle.ir_event.specs.declared.event.Event.{Event}
use Rattle.ir_event.specs.declared.event.Event.TheVariants.{Put, Take, SetOperand, SetEntry, Shift}
use Rattle.ir_event.specs.Modules.{Module, Node}
use Rattle.ir_event.specs.Listener.{ShowsTaken, is_take}
use Rattle.ir_event.specs.store.Nodes.{node_of}
use Rattle.effects.proofs.Agreed.{ShowsAll}
use Rattle.ir_event.specs.Step.{Step}
use Rattle.ir_event.specs.Bounds.{op_of}
use Rattle.effects.proofs.Changes.{on_true_is}
use Rattle.effects.specs.Points.{one_if}
use Rattle.effects.specs.Dead.{stays}
use Rattle.ir_event.specs.Heads.{heads, regions_heads, all_operands}
use Rattle.effects.specs.Counts.{Counts, results_among, Counted, Raised, AllEntered, EnteredWith, LeftWith, Exchanged, CountsFollowed, kept_by}
use Rattle.ir_event.proofs.ById.{look}
use Rattle.effects.proofs.Shown.{look_each}
use Rattle.ir_event.proofs.Flat.{heads_ids, heads_each}
use Rattle.effects.proofs.Headed.{cut_heads, heads_tagged, mapped_heads, unused_among, head_in, stand_heads}
use Rattle.effects.proofs.Tallies.{tallied, Different, put_tally, take_tally, moved_tally, same_tally, set_tally, begun_tally, mapped_tally}

module _ {N T A : Type 0} where
  different : (kept : N → Bool) (t : OpOf N T A) → HasDistinctIds t → Different kept (heads t)
  different kept t d = subst (IsDistinct eqb) (sym (heads_ids t)) d

  -- blocks without operations
  no_heads : (rs : RegionsOf N T A) → HoldNone rs → regions_heads rs ≡ []
  no_heads no_regions h = refl
  no_heads (region empty rs) h = no_heads rs h
  no_heads (region (block args no_ops) rs) h = no_heads rs h
  no_heads (region (block args (next o os)) rs) h = absurd h

  one_head : (o : OpOf N T A) → HoldNone (regions o) → heads o ≡ head o ∷ []
  one_head (op h rs) e = ap (λ l. h ∷ l) (no_heads rs e)

  -- the head of the operation with the operand is one of the heads
  pub record Holder (x k : ℕ) (old : Value) (t : OpOf N T A) : Type 0 where
    pub here : HeadOf N T A
    pub there : In here (heads t)
    pub id : here.id ≡ x
    pub has : slice_get here.operands k ≡ Some old

  holder : (x k : ℕ) (old : Value) (t : OpOf N T A) → operand_at x k t ≡ Some old → Holder x k old t
  holder x k old t e = go (find x t) refl e
    where
      go : (o : Option (OpOf N T A)) → find x t ≡ o → option_and_then (λ (o : OpOf N T A). slice_get (head o).operands k) o ≡ Some old → Holder x k old t
      go None f h = absurd cc
      go (Some o) f h =
          let s = found_stands x t o f in
          record {
            here = head s.0.here;
            there = subst (In (head s.0.here)) (stand_heads [] t) (in_map head_in s.0 (stands [] t) s.1);
            id = s.2;
            has = ap (λ (q : OpOf N T A). slice_get (head q).operands k) s.3 ∙ h;
          }

module _ (t : Operation) where
  -- a table that counts the heads of a tree counts the tree
  counts_heads : (x : ℕ) → option_map (λ (o : Operation). results_among x (all_operands (heads t)) + one_if (stays (head o).name)) (find x t) ≡ tallied stays (heads t) x
  counts_heads x =
      twice (find x t)
      ∙ ap (option_map (λ k. results_among x (all_operands (heads t)) + one_if k))
      (sym (look_each (λ (o : Operation). stays (head o).name) t x) ∙ ap (look x) (sym (heads_tagged (λ (h : HeadOf (List ℕ) TypeTerm AttrTerm). stays h.name) t)))
    where
      twice : (f : Option Operation) → option_map (λ (o : Operation). results_among x (all_operands (heads t)) + one_if (stays (head o).name)) f
          ≡ option_map (λ k. results_among x (all_operands (heads t)) + one_if k) (option_map (λ (o : Operation). stays (head o).name) f)
      twice None = refl
      twice (Some o) = refl

  pub heads_counted : (a : Counts) → Counted a t → (y : ℕ) → a y ≡ tallied stays (heads t) y
  heads_counted a c y = c y ∙ counts_heads y

  pub counted_heads : (a : Counts) → ((y : ℕ) → a y ≡ tallied stays (heads t) y) → Counted a t
  counted_heads a c y = c y ∙ sym (counts_heads y)

put_counts : (x : ℕ) (place : Place) (fresh : Bool) (m n : Module) (a b : Counts) → HasDistinctIds n.tree → Takes x place fresh n m
    → ((o : Operation) → find x n.tree ≡ Some o → EnteredWith x (stays (head o).name) (head o).operands a b) → Counted a m.tree → Counted b n.tree
put_counts x place fresh m n a b d takes put was =
    let c = cut_heads x n.tree place d takes.there in
    let h = head c.here in
    let whole : heads n.tree ≡ c.preceding ++ (h ∷ c.back) = c.was ∙ ap (λ l. c.preceding ++ (l ++ c.back)) (one_head c.here (takes.empty c.here c.is)) in
    let left : heads m.tree ≡ c.preceding ++ c.back = ap heads takes.left ∙ c.rest in
    let unused : results_among h.id (all_operands (c.preceding ++ (h ∷ c.back))) ≡ 0 = ap (λ y. results_among y (all_operands (c.preceding ++ (h ∷ c.back)))) c.id ∙ ap (λ (l : List (HeadOf (List ℕ) TypeTerm AttrTerm)). results_among x (all_operands l)) (sym whole) ∙ unused_among x n.tree takes.unused in
    let entered : EnteredWith h.id (stays h.name) h.operands a b = subst (λ y. EnteredWith y (stays h.name) h.operands a b) (sym c.id) (put c.here c.is) in
    counted_heads n.tree b (λ y. put_tally stays c.preceding c.back h (subst (Different stays) whole (different stays n.tree d)) a b unused
    (λ z. heads_counted m.tree a was z ∙ ap (λ l. tallied stays l z) left) entered y ∙ ap (λ l. tallied stays l y) (sym whole))

take_counts : (x : ℕ) (place : Place) (fresh : Bool) (m n : Module) (a b : Counts) → HasDistinctIds m.tree → Takes x place fresh m n
    → ((o : Operation) → find x m.tree ≡ Some o → LeftWith x (head o).operands a b) → Counted a m.tree → Counted b n.tree
take_counts x place fresh m n a b d takes take was =
    let c = cut_heads x m.tree place d takes.there in
    let h = head c.here in
    let whole : heads m.tree ≡ c.preceding ++ (h ∷ c.back) = c.was ∙ ap (λ l. c.preceding ++ (l ++ c.back)) (one_head c.here (takes.empty c.here c.is)) in
    let left : heads n.tree ≡ c.preceding ++ c.back = ap heads takes.left ∙ c.rest in
    let gone : LeftWith h.id h.operands a b = subst (λ y. LeftWith y h.operands a b) (sym c.id) (take c.here c.is) in
    counted_heads n.tree b (λ y. take_tally stays c.preceding c.back h (subst (Different stays) whole (different stays m.tree d)) a b
    (λ z. heads_counted m.tree a was z ∙ ap (λ l. tallied stays l z) whole) gone y ∙ ap (λ l. tallied stays l y) (sym left))

set_counts : (x k : ℕ) (old new : Value) (m n : Module) (a b : Counts) → HasDistinctIds m.tree → SetsOperand x k old new m n → Exchanged old new a b → Counted a m.tree → Counted b n.tree
set_counts x k old new m n a b d sets exchanged was =
    let o = holder x k old m.tree sets.was in
    let after : heads n.tree ≡ map (at x (put_operand k new)) (heads m.tree) = ap heads sets.after ∙ heads_each (at x (put_operand k new)) m.tree in
    counted_heads n.tree b (λ y. set_tally stays x k old new a b o.here (heads m.tree) (λ h. (alike_operand x k new h).id) (λ h. (alike_operand x k new h).name) o.there o.id (different stays m.tree d) o.has
    (heads_counted m.tree a was) exchanged y ∙ ap (λ l. tallied stays l y) (sym after))

shift_counts : (is_table : List ℕ → Bool) (x : ℕ) (old new : Place) (m n : Module) (a b : Counts) → HasDistinctIds m.tree → HasDistinctIds n.tree → Shifts is_table x old new m n → ((y : ℕ) → b y ≡ a y) → Counted a m.tree → Counted b n.tree
shift_counts is_table x old new m n a b d e shifts same was =
    let c = cut_heads x m.tree old d shifts.was in
    let k = cut_heads x n.tree new e shifts.is in
    let one : k.here ≡ c.here = some_same k.here c.here (sym k.is ∙ shifts.same ∙ c.is) in
    let is : heads n.tree ≡ k.preceding ++ (heads c.here ++ k.back) = k.was ∙ ap (λ o. k.preceding ++ (heads o ++ k.back)) one in
    let left : c.preceding ++ c.back ≡ k.preceding ++ k.back = sym c.rest ∙ ap heads (sym shifts.rest) ∙ k.rest in
    counted_heads n.tree b (λ y. same y
    ∙ heads_counted m.tree a was y
    ∙ ap (λ l. tallied stays l y) c.was
    ∙ moved_tally stays c.preceding (heads c.here) c.back (subst (Different stays) c.was (different stays m.tree d)) y
    ∙ ap (λ l. tallied stays (heads c.here ++ l) y) left
    ∙ sym (moved_tally stays k.preceding (heads c.here) k.back (subst (Different stays) is (different stays n.tree e)) y)
    ∙ ap (λ l. tallied stays l y) (sym is))
  where
    some_same : (p q : Operation) → Some p ≡ Some q → p ≡ q
    some_same p q e = cc

pub node_head : (o : Operation) → (node_of o).head ≡ head o
node_head (op h rs) = refl

pub followed_counts : (c : ContextModel) (e : Event) (m n : Module) (shown : ℕ → Option Node) (a b : Counts) → Step c e m n → ShowsAll shown n → ShowsTaken e m shown → CountsFollowed shown e a b → Counted a m.tree → Counted b n.tree
followed_counts c (Put x place fresh) m n shown a b s all taken f was =
    put_counts x place fresh m n a b s.after.distinct s.changes (λ o there. subst (λ (h : HeadOf (List ℕ) TypeTerm AttrTerm). EnteredWith x (stays h.name) h.operands a b) (node_head o) (f (node_of o) (all x o there))) was
followed_counts c (Take x place fresh) m n shown a b s all taken f was =
    take_counts x place fresh m n a b s.before.distinct s.changes (λ o there. subst (λ (h : HeadOf (List ℕ) TypeTerm AttrTerm). LeftWith x h.operands a b) (node_head o) (f (node_of o) (taken ∙ ap (option_map node_of) there))) was
followed_counts c (SetOperand x k old new) m n shown a b s all taken f was = set_counts x k old new m n a b s.before.distinct s.changes f was
followed_counts c (SetEntry x part key old new) m n shown a b s all taken f was =
    let g = at x (change_part part (change_entry key_before (name_term c key) (option_map (attr_term c) new))) in
    let like = alike_entry key_before x part (name_term c key) (option_map (attr_term c) new) in
    let after : heads n.tree ≡ map g (heads m.tree) = ap heads s.changes.after ∙ heads_each g m.tree in
    counted_heads n.tree b (λ y. f y
    ∙ heads_counted m.tree a was y
    ∙ sym (same_tally stays g (λ h. (like h).id) (λ h. (like h).name) (entry_operands key_before x part (name_term c key) (option_map (attr_term c) new)) (heads m.tree) y)
    ∙ ap (λ l. tallied stays l y) (sym after))
followed_counts c (Shift x old new) m n shown a b s all taken f was = shift_counts is_table x old new m n a b s.before.distinct s.after.distinct s.changes f was

-- a table built for a tree of numbers counts the tree of terms
pub begun_counts : (c : ContextModel) (t : Op) (a m b : Counts) → HasDistinctIds t → ((y : ℕ) → a y ≡ None) → AllEntered (kept_by c) (heads t) a m → Raised (all_operands (heads t)) m b → Counted b (meaning c t)
begun_counts c t a m b d vacant entered raised =
    counted_heads (meaning c t) b (λ y. begun_tally (kept_by c) (heads t) a m b (different (kept_by c) t d) vacant entered raised y
    ∙ sym (mapped_tally (name_term c) (type_term c) (attr_term c) stays (heads t) y)
    ∙ ap (λ l. tallied stays l y) (sym (mapped_heads (name_term c) (type_term c) (attr_term c) t)))

-- the view shows a removed operation
taken_shown : (c : ContextModel) (e : Event) (m n : Module) (shown : ℕ → Option Node) → is_take e ≡ true → Step c e m n → ShowsTaken e m shown → (k : Node) × (shown (op_of e) ≡ Some k)
taken_shown c (Put x place fresh) m n shown take s taken = absurd (true≢false (sym take))
taken_shown c (Take x place fresh) m n shown take s taken = let cut = cut_heads x m.tree place s.before.distinct s.changes.there in (node_of cut.here, taken ∙ ap (option_map node_of) cut.is)
taken_shown c (SetOperand x k old new) m n shown take s taken = absurd (true≢false (sym take))
taken_shown c (SetEntry x part key old new) m n shown take s taken = absurd (true≢false (sym take))
taken_shown c (Shift x old new) m n shown take s taken = absurd (true≢false (sym take))

-- the counts after the event, for a listener that agrees or is stale
module _ (c : ContextModel) (e : Event) (m n : Module) (shown : ℕ → Option Node) (a b : Counts) (step : Step c e m n) (all : ShowsAll shown n) (taken : ShowsTaken e m shown) (was : Counted a m.tree) (E : Type 0) (stale followed : Bool)
    (counts : OnTrue followed (CountsFollowed shown e a b)) (fresh : E → stale ≡ false) where
  pub both_followed : E ⊎ (stale ≡ true) → (((stale || not followed) ≡ false) × (E × Counted b n.tree)) ⊎ ((stale || not followed) ≡ true)
  both_followed (inr s) = inr (ap (λ b. b || not followed) s)
  both_followed (inl h) = go followed refl
    where
      go : (f : Bool) → followed ≡ f → (((stale || not followed) ≡ false) × (E × Counted b n.tree)) ⊎ ((stale || not followed) ≡ true)
      go true is = inl ((λ i. fresh h i || not (is i)), (h, followed_counts c e m n shown a b step all taken (on_true_is followed _ is counts) was))
      go false is = inr (λ i. fresh h i || not (is i))

  -- the table is always updated after a `Take`
  pub take_followed : ((k : Node) → is_take e ≡ true → shown (op_of e) ≡ Some k → followed ≡ true) → is_take e ≡ true → E → ((stale || not followed) ≡ false) × (E × Counted b n.tree)
  take_followed shows take h =
      let k = taken_shown c e m n shown take step taken in
      let is = shows k.0 take k.1 in
      ((λ i. fresh h i || not (is i)), (h, followed_counts c e m n shown a b step all taken (on_true_is followed _ is counts) was))
