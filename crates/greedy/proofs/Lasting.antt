-- An operation that events don't reach keeps the operations that end its blocks.
use Rattle.std.proofs.Common.{◌≡◌, refl, ap, sym, ◌∙◌, ℕ, zero, suc, false, ◌||◌, eqb, List, [], ◌∷◌, Option, Some, None, inl, inr}
use Rattle.std.specs.Prelude.{option_map, option_and_then}
use Rattle.ir_event.specs.types.Things.{ContextModel}
use Rattle.ir_event.specs.types.Terms.{TypeTerm, AttrTerm, name_term, attr_term}
use Rattle.ir_event.specs.trees.declared.place.Place.{Place}
use Rattle.ir_event.specs.trees.Tree.{HeadOf, OpOf, RegionsOf, no_regions, region, no_ops, head, regions}
use Rattle.ir_event.specs.trees.Ids.{HasDistinctIds, find}
use Rattle.ir_event.specs.trees.Places.{place_of}
use Rattle.ir_event.specs.trees.Edits.{at, put_operand, change_part, change_entry, each_head}
use Rattle.ir_event.specs.trees.Meaning.{Operation, key_before}
use Rattle.ir_event.specs.tree_laws.Reads.{last_id, ops_in}
use Rattle.ir_event.specs.tree_laws.Values.{region_at}
use Rattle.ir_event.specs.tree_laws.Stands.{StepOf, OpWithPathOf, op_with_path_id, stands}
use Rattle.ir_event.specs.tree_laws.Members.{In}
use Rattle.ir_event.proofs.of_tree_laws.Listed.{neither}
use Rattle.ir_event.proofs.of_tree_laws.Readings.{step}
use Rattle.ir_event.proofs.of_tree_laws.Members.{stand, stand_found, found_stands}
use Rattle.ir_event.proofs.of_tree_laws.Around.{place_of_member}
use Rattle.ir_event.specs.declared.event.Event.{Event}
use Rattle.ir_event.specs.declared.event.Event.TheVariants.{Put, Take, SetOperand, SetEntry, Shift}
use Rattle.ir_event.specs.Modules.{Module}
use Rattle.ir_event.specs.Step.{Step, Steps}
use Rattle.op_registry.specs.Registry.{own_of}
use Rattle.greedy.specs.Reached.{is_end, at_end, ends, reaches, any_reaches}
use Rattle.greedy.specs.LocalContext.{last_ids}
use Rattle.greedy.specs.Near.{subject}
use Rattle.listeners_support.proofs.Lasts.{split_last, last_stands}
use Rattle.greedy.proofs.Reaching.{not_end, at_end_parts, same_reach, all_far}
use Rattle.greedy.proofs.Still.{Unlast, Like, Goes, goes_out, goes_in, goes_on, all_edited}
use Rattle.greedy.proofs.Tracked.{operand_id, operand_name, part_name, gone_found}
use Rattle.ir_event.proofs.of_trees.Facts.{part_id}
use Rattle.ir_event.proofs.of_types.Truths.{unlike}

module _ {N T A : Type 0} (t : OpOf N T A) (d : HasDistinctIds t) where
  -- an operation ends a block only if its place is the end of that block
  unlast_placed : (x : ℕ) (place : Place) → place_of x t ≡ Some place → (p : OpOf N T A) (path : List (StepOf N T A)) → In (stand p path) (stands [] t) → (place.before ≡ None → (head p).id ≡ place.parent → ⊥) → Unlast x p
  unlast_placed x place at p path h apart k args os e l =
      let s = split_last x os l in
      let here = place_of_member t d s.last (step p k args s.preceding no_ops) path (last_stands t d p path k args os x h e l) in
      let two : Some (record { parent = (head p).id; region = k; before = None }) ≡ Some place = sym here ∙ ap (λ z. place_of z t) s.id ∙ at in
      let one : record { parent = (head p).id; region = k; before = None } ≡ place = cc in
      apart (sym (ap (λ (z : Place). z.before) one)) (ap (λ (z : Place). z.parent) one)

  -- an operation that isn't in the tree ends no block
  unlast_gone : (x : ℕ) → ((s : OpWithPathOf N T A) → In s (stands [] t) → op_with_path_id s ≡ x → ⊥) → (p : OpOf N T A) (path : List (StepOf N T A)) → In (stand p path) (stands [] t) → Unlast x p
  unlast_gone x none p path h k args os e l =
      let s = split_last x os l in
      none (stand s.last (step p k args s.preceding no_ops ∷ path)) (last_stands t d p path k args os x h e l) s.id

-- by the positions of the operation in both trees
by_like : (x : ℕ) (t u : Operation) → HasDistinctIds u → Goes (Like own_of x) x t u → (y : ℕ) → (y ≡ x → ⊥)
    → ((s : OpWithPathOf (List ℕ) TypeTerm AttrTerm) → In s (stands [] t) → op_with_path_id s ≡ y → Unlast x s.here) → ((r : OpWithPathOf (List ℕ) TypeTerm AttrTerm) → In r (stands [] u) → op_with_path_id r ≡ y → Unlast x r.here)
    → (o : Operation) → find y t ≡ Some o → (q : Operation) × (find y u ≡ Some q) × (last_ids (regions q) ≡ last_ids (regions o))
by_like x t u du goes y apart f g o e =
    let s = found_stands y t o e in
    let w = goes s.0 s.1 (λ i. apart (sym s.2 ∙ i)) in (
      w.0.here,
      ap (λ z. find z u) (sym (w.2 ∙ s.2)) ∙ stand_found u du w.0 w.1,
      sym (w.3.lasts (f s.0 s.1 s.2) (g w.0 w.1 (w.2 ∙ s.2))) ∙ ap (λ (z : Operation). last_ids (regions z)) s.3,
    )

by_edit : (x : ℕ) (f : HeadOf (List ℕ) TypeTerm AttrTerm → HeadOf (List ℕ) TypeTerm AttrTerm) → ((h : HeadOf (List ℕ) TypeTerm AttrTerm) → (at x f h).id ≡ h.id) → ((h : HeadOf (List ℕ) TypeTerm AttrTerm) → (at x f h).name ≡ h.name)
    → (t u : Operation) → HasDistinctIds u → u ≡ each_head (at x f) t → (y : ℕ) (o : Operation) → find y t ≡ Some o → (q : Operation) × (find y u ≡ Some q) × (last_ids (regions q) ≡ last_ids (regions o))
by_edit x f ids names t u du is y o e =
    let s = found_stands y t o e in
    let w = all_edited own_of x f ids names t u is s.0 s.1 in
    (w.0.here, ap (λ z. find z u) (sym (w.2 ∙ s.2)) ∙ stand_found u du w.0 w.1, sym w.3.lasts ∙ ap (λ (z : Operation). last_ids (regions z)) s.3)

-- one event
step_lasts : (c : ContextModel) (e : Event) (m n : Module) → Step c e m n → (y : ℕ) → reaches e y n.tree ≡ false → (o : Operation) → find y m.tree ≡ Some o → (q : Operation) × (find y n.tree ≡ Some q) × (last_ids (regions q) ≡ last_ids (regions o))
step_lasts c (Put x place fresh) m n s y far o e =
    let t = s.changes in
    let f = neither (eqb x y) (is_end place) far in
    by_like x m.tree n.tree s.after.distinct (goes_in own_of x n.tree m.tree t.left) y (unlike x y f.0)
    (λ z h i. unlast_gone m.tree s.before.distinct x (gone_found x n.tree m.tree t.left t.inner) z.here z.path h)
    (λ z h i. unlast_placed n.tree s.after.distinct x place t.there z.here z.path h (λ b j. not_end place f.1 b))
    o e
step_lasts c (Take x place fresh) m n s y far o e =
    let t = s.changes in
    let f = neither (eqb x y) (at_end place y n.tree) far in
    by_like x m.tree n.tree s.after.distinct (goes_out own_of x m.tree n.tree s.before.distinct s.after.distinct t.left t.empty) y (unlike x y f.0)
    (λ z h i. unlast_placed m.tree s.before.distinct x place t.there z.here z.path h (λ b j. unlike place.parent y (at_end_parts place y n.tree f.1 b).0 (sym i ∙ j)))
    (λ z h i. unlast_gone n.tree s.after.distinct x (gone_found x m.tree n.tree t.left t.inner) z.here z.path h)
    o e
step_lasts c (SetOperand x k old new) m n s y far o e = by_edit x (put_operand k new) (operand_id x k new) (operand_name x k new) m.tree n.tree s.after.distinct s.changes.after y o e
step_lasts c (SetEntry x part key old new) m n s y far o e =
    let f = change_entry key_before (name_term c key) (option_map (attr_term c) new) in
    by_edit x (change_part part f) (part_id x part f) (part_name x part f) m.tree n.tree s.after.distinct s.changes.after y o e
step_lasts c (Shift x old new) m n s y far o e =
    let t = s.changes in
    let f = neither (eqb x y) (is_end new || at_end old y n.tree) far in
    let g = neither (is_end new) (at_end old y n.tree) f.1 in
    by_like x m.tree n.tree s.after.distinct (goes_on own_of x m.tree n.tree s.before.distinct (sym t.rest) (sym t.same)) y (unlike x y f.0)
    (λ z h i. unlast_placed m.tree s.before.distinct x old t.was z.here z.path h (λ b j. unlike old.parent y (at_end_parts old y n.tree g.1 b).0 (sym i ∙ j)))
    (λ z h i. unlast_placed n.tree s.after.distinct x new t.is z.here z.path h (λ b j. not_end new g.0 b))
    o e

-- all events; the module after them determines which operations they reach
pub lasts_stay : (c : ContextModel) (es : List Event) (m n : Module) → Steps c es m n → (y : ℕ) → any_reaches es y n.tree ≡ false → (o : Operation) → find y m.tree ≡ Some o → (q : Operation) × (find y n.tree ≡ Some q) × (last_ids (regions q) ≡ last_ids (regions o))
lasts_stay c [] m n s y h o e = (o, ap (λ (p : Module). find y p.tree) s ∙ e, refl)
lasts_stay c (e ∷ es) m n s y h o i =
    let f = neither (reaches e y n.tree) (any_reaches es y n.tree) h in
    let later = all_far c es s.0 n s.2 y f.1 in
    let one = step_lasts c e m s.0 s.1 y (same_reach e y s.0 n (sym later) ∙ f.0) o i in
    let more = lasts_stay c es s.0 n s.2 y f.1 one.0 one.1 in
    (more.0, more.1, more.2 ∙ one.2)

-- an operation that no event reaches isn't one that an event is about
pub unreached_subject : (e : Event) (y : ℕ) (t : Operation) → reaches e y t ≡ false → y ≡ subject e → ⊥
unreached_subject (Put x place fresh) y t h i = unlike x y (neither (eqb x y) (is_end place) h).0 i
unreached_subject (Take x place fresh) y t h i = unlike x y (neither (eqb x y) (at_end place y t) h).0 i
unreached_subject (SetOperand x k old new) y t h i = unlike x y (neither (eqb x y) (ends x y t) h).0 i
unreached_subject (SetEntry x part key old new) y t h i = unlike x y (neither (eqb x y) (ends x y t) h).0 i
unreached_subject (Shift x old new) y t h i = unlike x y (neither (eqb x y) (is_end new || at_end old y t) h).0 i

pub unreached_all : (es : List Event) (y : ℕ) (t : Operation) → any_reaches es y t ≡ false → (e : Event) → In e es → y ≡ subject e → ⊥
unreached_all [] y t h e i k = absurd i
unreached_all (d ∷ es) y t h e (inl i) k = unreached_subject d y t (neither (reaches d y t) (any_reaches es y t) h).0 (k ∙ ap subject i)
unreached_all (d ∷ es) y t h e (inr i) k = unreached_all es y t (neither (reaches d y t) (any_reaches es y t) h).1 e i k

-- ---- the last operation of one block, by its number
abbrev pub last_in : {N T A : Type 0} → ℕ → RegionsOf N T A → Option ℕ
last_in r rs = option_and_then last_id (option_and_then ops_in (region_at r rs))

pub same_lasts : {N T A : Type 0} (r : ℕ) (rs qs : RegionsOf N T A) → last_ids rs ≡ last_ids qs → last_in r rs ≡ last_in r qs
same_lasts r no_regions no_regions e = refl
same_lasts r no_regions (region h qs) e = absurd cc
same_lasts r (region g rs) no_regions e = absurd cc
same_lasts zero (region g rs) (region h qs) e = first_of_lists e
  where
    first_of_lists : {a b : Option ℕ} {xs ys : List (Option ℕ)} → a ∷ xs ≡ b ∷ ys → a ≡ b
    first_of_lists e = cc
same_lasts (suc r) (region g rs) (region h qs) e = same_lasts r rs qs (rest_of_lists e)
  where
    rest_of_lists : {a b : Option ℕ} {xs ys : List (Option ℕ)} → a ∷ xs ≡ b ∷ ys → xs ≡ ys
    rest_of_lists e = cc
