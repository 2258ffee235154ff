-- Each event, and each list of events, keeps the surroundings of every operation that it doesn't reach.
use Rattle.std.proofs.Common.{◌≡◌, refl, ap, sym, ◌∙◌, subst, ℕ, zero, suc, Bool, true, false, true≢false, ◌||◌, ◌&&◌, eqb, List, [], ◌∷◌, map, Option, Some, None, inl, inr}
use Rattle.ir_event.specs.types.Things.{ContextModel}
use Rattle.ir_event.specs.trees.declared.place.Place.{Place}
use Rattle.ir_event.specs.trees.Tree.{HeadOf, OpOf, RegionsOf, no_regions, region, empty, block, OpsOf, head, regions}
use Rattle.ir_event.specs.trees.Ids.{HasDistinctIds, find}
use Rattle.ir_event.specs.trees.WellFormed.{ModuleOf}
use Rattle.ir_event.specs.tree_laws.Changes.{Takes}
use Rattle.ir_event.specs.tree_laws.Values.{region_at}
use Rattle.ir_event.specs.tree_laws.Reads.{last_id, last_at}
use Rattle.ir_event.specs.tree_laws.Stands.{StepOf, OpWithPathOf, op_with_path_id, stands, left_step, left_stand}
use Rattle.ir_event.specs.tree_laws.Members.{In}
use Rattle.ir_event.proofs.of_tree_laws.Listed.{neither}
use Rattle.ir_event.proofs.of_tree_laws.Members.{stand, found_stands}
use Rattle.ir_event.specs.declared.event.Event.{Event}
use Rattle.ir_event.specs.declared.event.Event.TheVariants.{Put, Take, SetOperand, SetEntry, Shift}
use Rattle.ir_event.specs.Modules.{Module}
use Rattle.ir_event.specs.Step.{Step, Steps}
use Rattle.listeners_support.specs.Surroundings.{surroundings}
use Rattle.listeners_support.specs.Near.{if_any, lasts_of, lasts_found, lasts_in}
use Rattle.listeners_support.proofs.Left.{left_head}
use Rattle.listeners_support.proofs.Points.{next_in, last_is, placed_there}
use Rattle.listeners_support.proofs.Moves.{taken, left_id}
use Rattle.listeners_support.proofs.Near.{far_same}
use Rattle.greedy.specs.Reached.{ends, ends_of, is_end, at_end, reaches, any_reaches}
use Rattle.greedy.proofs.Ending.{last_ends, last_at_ends}
use Rattle.listeners_support.proofs.Locality.{taken_leaves, moved_leaves}
use Rattle.ir_event.proofs.of_types.Truths.{unlike}

-- a place that isn't the end of its block
pub not_end : (place : Place) → is_end place ≡ false → place.before ≡ None → ⊥
not_end place e n = go place.before n e
  where
    go : (b : Option ℕ) → b ≡ None → is_end (record { parent = place.parent; region = place.region; before = b }) ≡ false → ⊥
    go None n e = true≢false e
    go (Some b) n e = absurd cc

end_of : (place : Place) → place.before ≡ None → is_end place ≡ true
end_of place n = go place.before n
  where
    go : (b : Option ℕ) → b ≡ None → is_end (record { parent = place.parent; region = place.region; before = b }) ≡ true
    go None n = refl
    go (Some b) n = absurd cc

module _ {N T A : Type 0} where
  -- what it means that a place is not an end of a block near y
  pub at_end_parts : (place : Place) (y : ℕ) (t : OpOf N T A) → at_end place y t ≡ false → place.before ≡ None → (eqb place.parent y ≡ false) × (ends place.parent y t ≡ false)
  at_end_parts place y t e n = neither (eqb place.parent y) (ends place.parent y t) (sym (ap (λ b. b && (eqb place.parent y || ends place.parent y t)) (end_of place n)) ∙ e)

  -- the last of each block
  lasts_split : (y : ℕ) (rs : RegionsOf N T A) → In y (lasts_of rs) → (k : ℕ) × (args : List T) × (os : OpsOf N T A) × (region_at k rs ≡ Some (block args os)) × (last_id os ≡ Some y)
  lasts_split y no_regions h = absurd h
  lasts_split y (region empty rs) h = let w = lasts_split y rs h in (suc w.0, w.1, w.2, w.3, w.4)
  lasts_split y (region (block args os) rs) h = go (last_id os) refl (λ k. lasts_split y rs k) h
    where
      go : (l : Option ℕ) → last_id os ≡ l → (In y (lasts_of rs) → (k : ℕ) × (bs : List T) × (us : OpsOf N T A) × (region_at k rs ≡ Some (block bs us)) × (last_id us ≡ Some y)) → In y (if_any l (lasts_of rs))
          → (k : ℕ) × (bs : List T) × (us : OpsOf N T A) × (region_at k (region (block args os) rs) ≡ Some (block bs us)) × (last_id us ≡ Some y)
      go None e f k = let w = f k in (suc w.0, w.1, w.2, w.3, w.4)
      go (Some z) e f (inl i) = (zero, args, os, refl, e ∙ ap Some (sym i))
      go (Some z) e f (inr k) = let w = f k in (suc w.0, w.1, w.2, w.3, w.4)

  pub lasts_end : (t : OpOf N T A) → HasDistinctIds t → (x y : ℕ) → In y (lasts_in x t) → ends x y t ≡ true
  lasts_end t d x y h = go (find x t) refl h
    where
      go : (f : Option (OpOf N T A)) → find x t ≡ f → In y (lasts_found f) → ends x y t ≡ true
      go None e k = absurd k
      go (Some o) e k =
          let w = lasts_split y (regions o) k in
          let s = found_stands x t o e in
          subst (λ q. ends q y t ≡ true) (ap (λ u. (head u).id) (sym s.3) ∙ s.2)
          (last_ends t d o s.0.path w.0 w.1 w.2 y (subst (λ u. In (stand u s.0.path) (stands [] t)) s.3 s.1) w.3 w.4)

  there : (t : OpOf N T A) (s : OpWithPathOf N T A) (a : StepOf N T A) (q : List (StepOf N T A)) → In s (stands [] t) → s.path ≡ a ∷ q → In (stand s.here (a ∷ q)) (stands [] t)
  there t s a q h p = subst (λ l. In (stand s.here l) (stands [] t)) p h

  put_leaves : (x : ℕ) (place : Place) (fresh : Bool) (m n : ModuleOf N T A) → HasDistinctIds m.tree → HasDistinctIds n.tree → Takes x place fresh n m → (y : ℕ) → (eqb x y || is_end place) ≡ false → surroundings y n.tree ≡ surroundings y m.tree
  put_leaves x place fresh m n dm dn k y far =
      let f = neither (eqb x y) (is_end place) far in
      sym (taken_leaves x n.tree m.tree dn dm k.left k.empty place k.there k.unused y (unlike x y f.0) (λ e i. not_end place f.1 e) (λ s h i e. absurd (not_end place f.1 e)))

  take_leaves : (x : ℕ) (place : Place) (fresh : Bool) (m n : ModuleOf N T A) → HasDistinctIds m.tree → HasDistinctIds n.tree → Takes x place fresh m n → (y : ℕ) → (eqb x y || at_end place y n.tree) ≡ false → surroundings y n.tree ≡ surroundings y m.tree
  take_leaves x place fresh m n dm dn k y far =
      let f = neither (eqb x y) (at_end place y n.tree) far in
      taken_leaves x m.tree n.tree dm dn k.left k.empty place k.there k.unused y (unlike x y f.0) (λ e. unlike place.parent y (at_end_parts place y n.tree f.1 e).0)
      (λ s h i e a q o rest g l u none.
      let apart : op_with_path_id s ≡ x → ⊥ = λ j. unlike x y f.0 (sym i ∙ j) in
      let left = taken x m.tree n.tree dm dn k.left k.empty s h apart in
      let at = placed_there m.tree dm x place k.there o _ q (next_in m.tree dm s.here a q o rest (there m.tree s a q h g) l) u in
      let last = last_is n.tree dn (left_stand x s).here (left_step x a) (map (left_step x) q) (there n.tree (left_stand x s) (left_step x a) (map (left_step x) q) left (ap (map (left_step x)) g)) none in
      let id : (head (left_step x a).parent).id ≡ place.parent = ap (λ (z : HeadOf N T A). z.id) (left_head x a.parent) ∙ at.0 in
      let is : last_at place.parent place.region n.tree ≡ Some y = (λ w. last_at (sym id w) (sym at.1 w) n.tree) ∙ last ∙ ap Some (left_id x s ∙ i) in
      true≢false (sym (last_at_ends n.tree dn place.parent place.region y is) ∙ (at_end_parts place y n.tree f.1 e).1))

pub far : (c : ContextModel) (e : Event) (m n : Module) → Step c e m n → (y : ℕ) → reaches e y n.tree ≡ false → surroundings y n.tree ≡ surroundings y m.tree
far c (Put x place fresh) m n s y h = put_leaves x place fresh m n s.before.distinct s.after.distinct s.changes y h
far c (Take x place fresh) m n s y h = take_leaves x place fresh m n s.before.distinct s.after.distinct s.changes y h
far c (SetOperand x k old new) m n s y h =
    let f = neither (eqb x y) (ends x y n.tree) h in
    far_same c (SetOperand x k old new) m n s y (λ i. elim i [ inl j ↦ unlike x y f.0 j | inr j ↦ true≢false (sym (lasts_end n.tree s.after.distinct x y j) ∙ f.1) ])
far c (SetEntry x part key old new) m n s y h =
    let f = neither (eqb x y) (ends x y n.tree) h in
    far_same c (SetEntry x part key old new) m n s y (λ i. elim i [ inl j ↦ unlike x y f.0 j | inr j ↦ true≢false (sym (lasts_end n.tree s.after.distinct x y j) ∙ f.1) ])
far c (Shift x old new) m n s y h =
    let f = neither (eqb x y) (is_end new || at_end old y n.tree) h in
    let g = neither (is_end new) (at_end old y n.tree) f.1 in
    moved_leaves x m.tree n.tree s.before.distinct s.after.distinct s.changes.rest s.changes.same old new s.changes.was s.changes.is y
    (unlike x y f.0) (λ e. unlike old.parent y (at_end_parts old y n.tree g.1 e).0) (λ e. not_end new g.0 e)
    (λ e i. true≢false (sym (last_at_ends n.tree s.after.distinct old.parent old.region y i) ∙ (at_end_parts old y n.tree g.1 e).1))

-- two trees with the same surroundings of an operation agree on whether an event reaches it
same_ends : (p y : ℕ) (t u : Module) → surroundings y t.tree ≡ surroundings y u.tree → ends p y t.tree ≡ ends p y u.tree
same_ends p y t u e = ap (ends_of p) e

pub same_reach : (e : Event) (y : ℕ) (t u : Module) → surroundings y t.tree ≡ surroundings y u.tree → reaches e y t.tree ≡ reaches e y u.tree
same_reach (Put x place fresh) y t u e = refl
same_reach (Take x place fresh) y t u e = ap (λ b. eqb x y || (is_end place && (eqb place.parent y || b))) (same_ends place.parent y t u e)
same_reach (SetOperand x k old new) y t u e = ap (λ b. eqb x y || b) (same_ends x y t u e)
same_reach (SetEntry x part key old new) y t u e = ap (λ b. eqb x y || b) (same_ends x y t u e)
same_reach (Shift x old new) y t u e = ap (λ b. eqb x y || (is_end new || (is_end old && (eqb old.parent y || b)))) (same_ends old.parent y t u e)

-- the module after a list of events determines which operations the events reach
pub all_far : (c : ContextModel) (es : List Event) (m n : Module) → Steps c es m n → (y : ℕ) → any_reaches es y n.tree ≡ false → surroundings y n.tree ≡ surroundings y m.tree
all_far c [] m n s y h = ap (λ (k : Module). surroundings y k.tree) s
all_far c (e ∷ es) m n s y h =
    let f = neither (reaches e y n.tree) (any_reaches es y n.tree) h in
    let later = all_far c es s.0 n s.2 y f.1 in
    later ∙ far c e m s.0 s.1 y (same_reach e y s.0 n (sym later) ∙ f.0)
