-- An operation keeps its effects, and whether its results are used, if no event is near it. The module after all
-- events determines which operations are near.
use Rattle.std.proofs.Common.{◌≡◌, refl, ap, sym, ◌∙◌, subst, ℕ, Bool, true, false, cond, eqb, List, [], ◌∷◌, Option, Some, None, inl, inr, ◌⊎◌}
use Rattle.std.specs.Prelude.{option_map}
use Rattle.ir_event.specs.types.Things.{ContextModel}
use Rattle.ir_event.specs.trees.declared.place.Place.{Place}
use Rattle.ir_event.specs.trees.declared.place.Part.{Part}
use Rattle.ir_event.specs.trees.declared.place.Part.TheVariants.{Props, Attrs}
use Rattle.ir_event.specs.trees.declared.value.Value.{Value}
use Rattle.ir_event.specs.trees.Tree.{HeadOf, OpOf, head}
use Rattle.ir_event.specs.trees.Ids.{HasDistinctIds, find}
use Rattle.ir_event.specs.trees.Places.{place_of, without}
use Rattle.ir_event.specs.trees.Edits.{at, put_operand, change_part, each_head}
use Rattle.ir_event.specs.trees.Meaning.{Operation}
use Rattle.ir_event.specs.tree_laws.Reads.{parent_of}
use Rattle.ir_event.specs.tree_laws.Stands.{OpWithPathOf, op_with_path_id, stands}
use Rattle.ir_event.specs.tree_laws.Members.{In}
use Rattle.ir_event.proofs.of_tree_laws.Listed.{bool_cases}
use Rattle.ir_event.proofs.of_tree_laws.Members.{stand_found, found_stands, within}
use Rattle.ir_event.proofs.of_tree_laws.Around.{left_apart, member_of_place}
use Rattle.ir_event.proofs.of_tree_laws.Without.{member_left}
use Rattle.ir_event.specs.declared.event.Event.{Event}
use Rattle.ir_event.specs.declared.event.Event.TheVariants.{Put, Take, SetOperand, SetEntry, Shift}
use Rattle.ir_event.specs.Modules.{Module}
use Rattle.ir_event.specs.Step.{Step, Steps}
use Rattle.op_registry.specs.declared.own.Own.{Own}
use Rattle.op_registry.specs.Registry.{own_of}
use Rattle.effects.specs.Effects.{is_recursive, effects}
use Rattle.listeners_support.proofs.Moves.{left_id}
use Rattle.greedy.specs.Climbs.{recursive_at, Climbs, feels}
use Rattle.greedy.specs.Near.{subject, outer_ids, Unclimbed}
use Rattle.greedy.proofs.Feeling.{climbed_from}
use Rattle.greedy.proofs.Still.{goes_out, goes_in, goes_on, all_edited}
use Rattle.greedy.proofs.Tracking.{Kept, kept_by, kept_like, climbs_on, climbs_past, climbs_round, feels_up, same_effects}
use Rattle.ir_event.proofs.of_trees.Facts.{part_id}

-- heads keep their id and name under both kinds of edits
pub operand_id : {N T A : Type 0} (x k : ℕ) (v : Value) (h : HeadOf N T A) → (at x (put_operand k v) h).id ≡ h.id
operand_id x k v h = elim (eqb h.id x) as (λ b. (cond b (put_operand k v h) h).id ≡ h.id) [ true ↦ refl | false ↦ refl ]

pub operand_name : {N T A : Type 0} (x k : ℕ) (v : Value) (h : HeadOf N T A) → (at x (put_operand k v) h).name ≡ h.name
operand_name x k v h = elim (eqb h.id x) as (λ b. (cond b (put_operand k v h) h).name ≡ h.name) [ true ↦ refl | false ↦ refl ]

pub part_name : {N T A : Type 0} (x : ℕ) (part : Part) (f : List (N × A) → List (N × A)) (h : HeadOf N T A) → (at x (change_part part f) h).name ≡ h.name
part_name x part f h = elim (eqb h.id x) as (λ b. (cond b (change_part part f h) h).name ≡ h.name) [ true ↦ by part | false ↦ refl ]
  where
    by : (part : Part) → (change_part part f h).name ≡ h.name
    by Props = refl
    by Attrs = refl

-- an operation that was taken out isn't in the tree
pub gone_found : {N T A : Type 0} (x : ℕ) (t w : OpOf N T A) → w ≡ without x t → eqb (head t).id x ≡ false → (s : OpWithPathOf N T A) → In s (stands [] w) → op_with_path_id s ≡ x → ⊥
gone_found {N} {T} {A} x t w is root s h i =
    let b = member_left x t s (subst (λ z. In s (stands [] z)) is h) in
    left_apart x t b.0 b.1 b.2 root (sym (left_id x b.0) ∙ ap (λ (z : OpWithPathOf N T A). op_with_path_id z) (sym b.3) ∙ i)

parent_gone : {N T A : Type 0} (x : ℕ) (w : OpOf N T A) → ((s : OpWithPathOf N T A) → In s (stands [] w) → op_with_path_id s ≡ x → ⊥) → (p : ℕ) → parent_of x w ≡ Some p → ⊥
parent_gone x w none p e = go (place_of x w) refl e
  where
    go : (o : Option Place) → place_of x w ≡ o → option_map (λ (z : Place). z.parent) o ≡ Some p → ⊥
    go None i e = absurd cc
    go (Some place) i e = let s = member_of_place x place w i in none s.0 s.1 s.2

recursive_gone : {N T A : Type 0} (own : N → Own) (x : ℕ) (w : OpOf N T A) → ((s : OpWithPathOf N T A) → In s (stands [] w) → op_with_path_id s ≡ x → ⊥) → recursive_at own x w ≡ false
recursive_gone own x w none = go (find x w) refl
  where
    go : (o : Option _) → find x w ≡ o → recursive_at own x w ≡ false
    go None i = ap (λ z. elim z as (λ _. Bool) [ None ↦ false | Some o ↦ is_recursive (own (head o).name) ]) i
    go (Some o) i = let s = found_stands x w o i in absurd (none s.0 s.1 s.2)

-- no operation of the tree feels it
unfelt : {N T A : Type 0} (own : N → Own) (x : ℕ) (w : OpOf N T A) → HasDistinctIds w → ((s : OpWithPathOf N T A) → In s (stands [] w) → op_with_path_id s ≡ x → ⊥) → (s : OpWithPathOf N T A) → In s (stands [] w) → feels own x s.here ≡ false
unfelt own x w d none s h = elim (bool_cases (feels own x s.here)) [
  | inr e ↦ e
  | inl e ↦ (let c = climbed_from own x w d (op_with_path_id s) s.here s.path h refl (λ r k. within s.here s.path r k [] w h) e in absurd (parent_gone x w none c.0 c.1))
]

-- ---- one event
place_parent : {N T A : Type 0} (x : ℕ) (t : OpOf N T A) (place : Place) → place_of x t ≡ Some place → parent_of x t ≡ Some place.parent
place_parent x t place e = ap (option_map (λ (p : Place). p.parent)) e

-- changes to heads keep all of it
all_kept : {N T A : Type 0} (own : N → Own) (x : ℕ) (f : HeadOf N T A → HeadOf N T A) → ((h : HeadOf N T A) → (at x f h).id ≡ h.id) → ((h : HeadOf N T A) → (at x f h).name ≡ h.name)
    → (t u : OpOf N T A) → HasDistinctIds t → HasDistinctIds u → u ≡ each_head (at x f) t → (c : ℕ) → Kept own c t u
all_kept own x f ids names t u dt du is c = kept_by own t u dt du c (λ s h i. let w = all_edited own x f ids names t u is s h in (w.0, w.1, w.2, w.3.name, w.3.around))

edit_found : {N T A : Type 0} (own : N → Own) (x : ℕ) (f : HeadOf N T A → HeadOf N T A) → ((h : HeadOf N T A) → (at x f h).id ≡ h.id) → ((h : HeadOf N T A) → (at x f h).name ≡ h.name)
    → (t u : OpOf N T A) → HasDistinctIds u → u ≡ each_head (at x f) t → (y : ℕ) (o : OpOf N T A) → find y t ≡ Some o → (q : OpOf N T A) × (find y u ≡ Some q) × (effects own q ≡ effects own o)
edit_found own x f ids names t u du is y o e =
    let s = found_stands y t o e in
    let w = all_edited own x f ids names t u is s.0 s.1 in
    (w.0.here, ap (λ z. find z u) (sym (w.2 ∙ s.2)) ∙ stand_found u du w.0 w.1, sym w.3.effects_of ∙ ap (effects own) s.3)

-- a climb continues, or there is a climb from the former parent of the event's operation
step_climbs : (c : ContextModel) (e : Event) (m n : Module) → Step c e m n → (y : ℕ) → (y ≡ subject e → ⊥) → (k w : ℕ) → Climbs own_of k y w m.tree
    → ((j : ℕ) × Climbs own_of j y w n.tree) ⊎ ((v : ℕ) × In v (outer_ids e) × ((j : ℕ) × Climbs own_of j y v n.tree))
step_climbs c (Put x place fresh) m n s y apart k w h =
    let t = s.changes in
    inl (
      k,
      climbs_past own_of x m.tree n.tree (recursive_gone own_of x m.tree (gone_found x n.tree m.tree t.left t.inner))
          (kept_like own_of x m.tree n.tree s.before.distinct s.after.distinct (goes_in own_of x n.tree m.tree t.left)) k y w h,
    )
step_climbs c (Take x place fresh) m n s y apart k w h =
    let t = s.changes in
    elim (climbs_round own_of x place.parent m.tree n.tree (place_parent x m.tree place t.there) (kept_like own_of x m.tree n.tree s.before.distinct s.after.distinct (goes_out own_of x m.tree n.tree s.before.distinct s.after.distinct t.left t.empty)) k y w apart h) [
      | inl v ↦ inl v
      | inr v ↦ inr (place.parent, inl refl, v)
    ]
step_climbs c (SetOperand x j old new) m n s y apart k w h =
    inl (k, climbs_on own_of m.tree n.tree (all_kept own_of x (put_operand j new) (operand_id x j new) (operand_name x j new) m.tree n.tree s.before.distinct s.after.distinct s.changes.after) k y w h)
step_climbs c (SetEntry x part key old new) m n s y apart k w h =
    inl (k, climbs_on own_of m.tree n.tree (all_kept own_of x (change_part part _) (part_id x part _) (part_name x part _) m.tree n.tree s.before.distinct s.after.distinct s.changes.after) k y w h)
step_climbs c (Shift x old new) m n s y apart k w h =
    let t = s.changes in
    elim (climbs_round own_of x old.parent m.tree n.tree (place_parent x m.tree old t.was) (kept_like own_of x m.tree n.tree s.before.distinct s.after.distinct (goes_on own_of x m.tree n.tree s.before.distinct (sym t.rest) (sym t.same))) k y w apart h) [
      | inl v ↦ inl v
      | inr v ↦ inr (old.parent, inl refl, v)
    ]

-- a climb in any module between is a climb in the last one, if no climb begins around the place of an event
all_climb : (c : ContextModel) (es : List Event) (m n : Module) → Steps c es m n → (y : ℕ) → ((e : Event) → In e es → y ≡ subject e → ⊥) → Unclimbed es y n.tree → (k w : ℕ) → Climbs own_of k y w m.tree → (j : ℕ) × Climbs own_of j y w n.tree
all_climb c [] m n s y apart away k w h = (k, subst (λ (p : Module). Climbs own_of k y w p.tree) (sym s) h)
all_climb c (e ∷ es) m n s y apart away k w h = elim (step_climbs c e m s.0 s.1 y (apart e (inl refl)) k w h) [
  | inl v ↦ all_climb c es s.0 n s.2 y (λ d i. apart d (inr i)) (λ d i. away d (inr i)) v.0 w v.1
  | inr v ↦
      let u = all_climb c es s.0 n s.2 y (λ d i. apart d (inr i)) (λ d i. away d (inr i)) v.2.0 v.0 v.2.1 in
      absurd (away e (inl refl) v.0 v.1 u.0 u.1)
]

-- one event keeps the effects
step_effects : (c : ContextModel) (e : Event) (m n : Module) → Step c e m n → (y : ℕ) → (y ≡ subject e → ⊥)
    → ((w : ℕ) → In w (outer_ids e) → (k : ℕ) → Climbs own_of k y w m.tree → ⊥) → ((w : ℕ) → In w (outer_ids e) → (k : ℕ) → Climbs own_of k y w n.tree → ⊥)
    → (o : Operation) → find y m.tree ≡ Some o → (q : Operation) × (find y n.tree ≡ Some q) × (effects own_of q ≡ effects own_of o)
step_effects c (Put x place fresh) m n s y apart was is o e =
    let t = s.changes in
    let none = gone_found x n.tree m.tree t.left t.inner in
    same_effects own_of x m.tree n.tree s.before.distinct s.after.distinct (goes_in own_of x n.tree m.tree t.left) y apart
    (λ r h i. unfelt own_of x m.tree s.before.distinct none r h)
    (λ r h i. feels_up own_of x n.tree s.after.distinct place.parent (place_parent x n.tree place t.there) r h (λ k g. is place.parent (inl refl) k (subst (λ z. Climbs own_of k z place.parent n.tree) i g)))
    o e
step_effects c (Take x place fresh) m n s y apart was is o e =
    let t = s.changes in
    let none = gone_found x m.tree n.tree t.left t.inner in
    same_effects own_of x m.tree n.tree s.before.distinct s.after.distinct (goes_out own_of x m.tree n.tree s.before.distinct s.after.distinct t.left t.empty) y apart
    (λ r h i. feels_up own_of x m.tree s.before.distinct place.parent (place_parent x m.tree place t.there) r h (λ k g. was place.parent (inl refl) k (subst (λ z. Climbs own_of k z place.parent m.tree) i g)))
    (λ r h i. unfelt own_of x n.tree s.after.distinct none r h)
    o e
step_effects c (SetOperand x j old new) m n s y apart was is o e = edit_found own_of x (put_operand j new) (operand_id x j new) (operand_name x j new) m.tree n.tree s.after.distinct s.changes.after y o e
step_effects c (SetEntry x part key old new) m n s y apart was is o e = edit_found own_of x (change_part part _) (part_id x part _) (part_name x part _) m.tree n.tree s.after.distinct s.changes.after y o e
step_effects c (Shift x old new) m n s y apart was is o e =
    let t = s.changes in
    same_effects own_of x m.tree n.tree s.before.distinct s.after.distinct (goes_on own_of x m.tree n.tree s.before.distinct (sym t.rest) (sym t.same)) y apart
    (λ r h i. feels_up own_of x m.tree s.before.distinct old.parent (place_parent x m.tree old t.was) r h (λ k g. was old.parent (inl refl) k (subst (λ z. Climbs own_of k z old.parent m.tree) i g)))
    (λ r h i. feels_up own_of x n.tree s.after.distinct new.parent (place_parent x n.tree new t.is) r h (λ k g. is new.parent (inr (inl refl)) k (subst (λ z. Climbs own_of k z new.parent n.tree) i g)))
    o e

-- all events keep the effects
pub effects_stay : (c : ContextModel) (es : List Event) (m n : Module) → Steps c es m n → (y : ℕ) → ((e : Event) → In e es → y ≡ subject e → ⊥) → Unclimbed es y n.tree
    → (o : Operation) → find y m.tree ≡ Some o → (q : Operation) × (find y n.tree ≡ Some q) × (effects own_of q ≡ effects own_of o)
effects_stay c [] m n s y apart away o e = (o, ap (λ (p : Module). find y p.tree) s ∙ e, refl)
effects_stay c (e ∷ es) m n s y apart away o f =
    let one = step_effects c e m s.0 s.1 y (apart e (inl refl))
    (λ w i k g. let u = all_climb c (e ∷ es) m n s y apart away k w g in away e (inl refl) w i u.0 u.1)
    (λ w i k g. let u = all_climb c es s.0 n s.2 y (λ d j. apart d (inr j)) (λ d j. away d (inr j)) k w g in away e (inl refl) w i u.0 u.1)
    o f in
    let more = effects_stay c es s.0 n s.2 y (λ d j. apart d (inr j)) (λ d j. away d (inr j)) one.0 one.1 in
    (more.0, more.1, more.2 ∙ one.2)
