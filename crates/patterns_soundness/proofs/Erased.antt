-- Operations before another operation are erased, one after another.
use Rattle.std.proofs.Common.{◌≡◌, refl, ap, sym, ◌∙◌, subst, ℕ, zero, suc, ◌+◌, ◌<◌, ◌≤◌, Bool, true, false, true≢false, eqb, eq-eqb, eqb-true, List, [], ◌∷◌, ◌++◌, length, map, Option, Some, None, option_map, inl, inr, ◌⊎◌, arith}
use Rattle.ir_event.specs.types.Words.{is_isolated}
use Rattle.ir_event.specs.types.Terms.{TypeTerm, AttrTerm}
use Rattle.ir_event.specs.trees.declared.value.Value.{Value}
use Rattle.ir_event.specs.trees.declared.value.Value.TheVariants.{Result}
use Rattle.ir_event.specs.trees.declared.place.Place.{Place}
use Rattle.ir_event.specs.trees.Tree.{head}
use Rattle.ir_event.specs.trees.Ids.{HasDistinctIds, find, has_id, op_count}
use Rattle.ir_event.specs.trees.Frames.{owner_of}
use Rattle.ir_event.specs.trees.Places.{without}
use Rattle.ir_event.specs.trees.Uses.{uses_of}
use Rattle.ir_event.specs.trees.Meaning.{Operation}
use Rattle.ir_event.specs.trees.WellFormed.{IsWellFormed}
use Rattle.ir_event.specs.tree_laws.Stands.{OpWithPathOf, StepOf, stands}
use Rattle.ir_event.specs.tree_laws.Members.{In}
use Rattle.ir_event.proofs.of_tree_laws.Around.{present_stand, stand_present}
use Rattle.ir_event.proofs.of_tree_laws.Edited.{dominance_stays, taken_op_count, taken_uses}
use Rattle.ir_event.proofs.of_tree_laws.Listed.{bool_cases}
use Rattle.ir_event.proofs.of_tree_laws.Members.{HasAround, found_stands, has_around, same_stand, stand, stand_found, within}
use Rattle.ir_event.specs.Modules.{Module}
use Rattle.rewriter_machine.specs.Contents.{Edit, all_edited, edit_reason, edited}
use Rattle.rewriter_machine.specs.Edits.{Erase}
use Rattle.patterns_base.specs.Lists.{Free}
use Rattle.patterns_base.proofs.Preceding.{stands_before}
use Rattle.patterns_base.proofs.Plans.{dominated_by}
use Rattle.patterns_soundness.proofs.Across.{later_outside, not_root, own_depth}
use Rattle.patterns_soundness.proofs.CastsAccepted.{Headroom}
use Rattle.patterns_soundness.proofs.Kept.{Kept}
use Rattle.patterns_soundness.proofs.NearAccepted.{erase_wellformed, erase_reason, left_kept, results_in, there_by}
use Rattle.patterns_soundness.proofs.Ordered.{Before, Inside, before_both, there_left}
use Rattle.patterns_soundness.proofs.Replacing.{Holder, Near, holder_kept, near_kept}

abbrev OpWithPath : Type 0
OpWithPath = OpWithPathOf (List ℕ) TypeTerm AttrTerm

module _ (t : Operation) (d : HasDistinctIds t) where
  -- of two operations before y, neither is inside the other
  sibling_out : (a b y : ℕ) → Before a y t → Before b y t → eqb a b ≡ false → (o : Operation) → find a t ≡ Some o → has_id b o ≡ false
  sibling_out a b y e f other o found = elim (bool_cases (has_id b o)) [
    | inr k ↦ k
    | inl k ↦ (let g = stands_before t e.here e.first e.step_in e.path e.there e.among in
        let h = stands_before t f.here f.first f.step_in f.path f.there f.among in
        let one : Some e.first ≡ Some o = sym (ap (λ i. find i t) (sym e.is) ∙ stand_found t d (stand e.first (g.step_in ∷ e.path)) g.there) ∙ found in
        let is : e.first ≡ o = cc in
        let both_y = same_stand t d (stand e.here (e.step_in ∷ e.path)) (stand f.here (f.step_in ∷ f.path)) e.there f.there (e.id ∙ sym f.id) in
        let u = present_stand (g.step_in ∷ e.path) e.first b (ap (has_id b) is ∙ k) in
        let same = same_stand t d u.0 (stand f.first (h.step_in ∷ f.path)) (within e.first (g.step_in ∷ e.path) u.0 u.1 [] t g.there) h.there (u.2 ∙ sym f.is) in
        let n1 = ap (λ (z : OpWithPath). length z.path) same in
        let n2 = ap (λ (z : OpWithPath). length z.path) both_y in
        let deep = own_depth (g.step_in ∷ e.path) e.first u.0 u.1 (omega (arith, n1, n2)) in
        let id : a ≡ b = sym e.is ∙ ap (λ (z : OpWithPath). (head z.here).id) (sym deep) ∙ u.2 in
        absurd (true≢false (sym (eq-eqb a b id) ∙ other)))
  ]

  -- an operation in a block of y isn't inside an operation that y isn't inside
  inside_out : (y r l : ℕ) → Inside y r l t → (o : Operation) (p : List (StepOf (List ℕ) TypeTerm AttrTerm)) → In (stand o p) (stands [] t) → has_id y o ≡ false → eqb l (head o).id ≡ false → has_id l o ≡ false
  inside_out y r l e o p there out other = elim (bool_cases (has_id l o)) [
    | inr k ↦ k
    | inl k ↦ (let u = present_stand p o l k in
        let same = same_stand t d u.0 (stand e.here (e.step_in ∷ e.path)) (within o p u.0 u.1 [] t there) e.there (u.2 ∙ sym e.id) in
        elim (has_around p o u.0 u.1) [
          | inl i ↦ absurd (true≢false (sym (eq-eqb l (head o).id (sym u.2 ∙ ap (λ (z : OpWithPath). (head z.here).id) i)) ∙ other))
          | inr w ↦ (let steps : w.0 ∷ w.1 ≡ e.step_in ∷ e.path = sym w.2 ∙ ap (λ (z : OpWithPath). z.path) same in
              let one : w.0 ≡ e.step_in = cc in
              let inner = stand_present p o (stand w.0.parent w.1) w.4 in
              absurd (true≢false (sym (ap (λ i. has_id i o) (sym (ap (λ (s : StepOf (List ℕ) TypeTerm AttrTerm). (head s.parent).id) one ∙ e.parent)) ∙ inner) ∙ out)))
        ])
  ]

-- placeholders with their types
abbrev pub Held : Type 0
Held = ℕ × TypeTerm

abbrev pub erase_edits : List Held → List Edit
erase_edits hs = map (λ (h : Held). Erase h.0) hs

abbrev pub AllOther : List Held → Type 0
AllOther [] = Unit {0}
AllOther (h ∷ hs) = ((q : Held) → In q hs → eqb h.0 q.0 ≡ false) × AllOther hs

module _ (x y l : ℕ) (insertion : Place) (rs ys : List TypeTerm) (few : ℕ) where
  pub record ErasedAll (hs : List Held) (m : Module) : Type 0 where
    pub free : (fs : List Edit) → Free fs (all_edited (erase_edits hs) m) → Free (erase_edits hs ++ fs) m
    pub near : Near x y l insertion rs ys few (all_edited (erase_edits hs) m)
    pub dominance : (v : Value) → ((h : Held) → In h hs → eqb (owner_of v).0 h.0 ≡ false) → dominated_by l v m ≡ true → dominated_by l v (all_edited (erase_edits hs) m) ≡ true
    pub next : (all_edited (erase_edits hs) m).next ≡ m.next
    pub headrooms : (k : ℕ) → Headroom k m → Headroom k (all_edited (erase_edits hs) m)

  -- one placeholder is erased
  module _ (h : Held) (m : Module) (s : Near x y l insertion rs ys few m) (k : Holder x y l insertion rs ys few h.0 h.1 m) (unused : uses_of (Result h.0 0) m.tree ≡ []) (other : eqb l h.0 ≡ false) where
    abbrev t : Operation
    t = m.tree

    abbrev w : IsWellFormed is_isolated m
    w = s.located.wellformed

    abbrev o : Operation
    o = (there_by h.0 m.tree (h.1 ∷ []) k.results).0

    found : find h.0 m.tree ≡ Some (there_by h.0 m.tree (h.1 ∷ []) k.results).0
    found = (there_by h.0 t (h.1 ∷ []) k.results).1

    o_there : (p : List (StepOf (List ℕ) TypeTerm AttrTerm)) × In (stand (there_by h.0 m.tree (h.1 ∷ []) k.results).0 p) (stands [] m.tree) × ((head (there_by h.0 m.tree (h.1 ∷ []) k.results).0).id ≡ h.0)
    o_there = (let z = found_stands h.0 t o found in (z.0.path, subst (λ (q : Operation). In (stand q z.0.path) (stands [] t)) z.3 z.1, ap (λ (q : Operation). (head q).id) (sym z.3) ∙ z.2))

    root : eqb (head m.tree).id h.0 ≡ false
    root =
        (let g = stands_before t k.before.here k.before.first k.before.step_in k.before.path k.before.there k.before.among in
        ap (eqb (head t).id) (sym k.before.is) ∙ not_root t w.distinct k.before.first g.step_in k.before.path g.there)

    none : (j : ℕ) → j < length (head (there_by h.0 m.tree (h.1 ∷ []) k.results).0).results → uses_of (Result h.0 j) m.tree ≡ []
    none j n = (let one = ap length (there_by h.0 t (h.1 ∷ []) k.results).2 in subst (λ i. uses_of (Result h.0 i) t ≡ []) (first j (omega (arith, n, one))) unused)
      where
        first : (j : ℕ) → j < 1 → 0 ≡ j
        first j n = omega (arith, n)

    pub gone_reason : edit_reason (Erase h.0) m ≡ None
    gone_reason = erase_reason m w h.0 o found root none

    gone_wellformed : IsWellFormed is_isolated (edited (Erase h.0) m)
    gone_wellformed = erase_wellformed m w h.0 o found root none

    y_out : has_id y (there_by h.0 m.tree (h.1 ∷ []) k.results).0 ≡ false
    y_out = later_outside t w.distinct h.0 y k.before o found

    x_out : has_id x (there_by h.0 m.tree (h.1 ∷ []) k.results).0 ≡ false
    x_out = later_outside t w.distinct h.0 x (before_both h.0 y x t w.distinct k.before s.before) o found

    l_out : has_id l (there_by h.0 m.tree (h.1 ∷ []) k.results).0 ≡ false
    l_out = inside_out t w.distinct y 0 l s.inside o o_there.0 o_there.1 y_out (ap (eqb l) o_there.2 ∙ other)

    at_own : find (head (there_by h.0 m.tree (h.1 ∷ []) k.results).0).id m.tree ≡ Some (there_by h.0 m.tree (h.1 ∷ []) k.results).0
    at_own = ap (λ i. find i t) o_there.2 ∙ found

    present : (b : ℕ) → (z : OpWithPath) × In z (stands [] m.tree) × ((head z.here).id ≡ b) → has_id b m.tree ≡ true
    present b z = ap (λ i. has_id i t) (sym z.2) ∙ stand_present [] t z.0 z.1

    x_there : has_id x m.tree ≡ true
    x_there = present x (stand s.located.at.here (s.located.at.step_in ∷ s.located.at.path), s.located.at.there, s.located.at.id)

    y_there : has_id y m.tree ≡ true
    y_there = (let g = stands_before t s.before.here s.before.first s.before.step_in s.before.path s.before.there s.before.among in present y (stand s.before.first (g.step_in ∷ s.before.path), g.there, s.before.is))

    l_there : has_id l m.tree ≡ true
    l_there = present l (stand s.inside.here (s.inside.step_in ∷ s.inside.path), s.inside.there, s.inside.id)

    abbrev Here : ℕ → Type 0
    Here b = (has_id b m.tree ≡ true) × (has_id b (there_by h.0 m.tree (h.1 ∷ []) k.results).0 ≡ false)

    stays : Kept is_isolated Here m.tree (without h.0 m.tree)
    stays = subst (λ i. Kept is_isolated Here t (without i t)) o_there.2 (left_kept t o w.distinct at_own Here (λ b e. e.0) (λ b e. e.1))

    pub gone_near : Near x y l insertion rs ys few (edited (Erase h.0) m)
    gone_near = near_kept x y l insertion rs ys few Here m (edited (Erase h.0) m) (x_there, x_out) (y_there, y_out) (l_there, l_out) stays gone_wellformed s

    pub gone_holder : (q : Held) → eqb h.0 q.0 ≡ false → Holder x y l insertion rs ys few q.0 q.1 m → Holder x y l insertion rs ys few q.0 q.1 (edited (Erase h.0) m)
    gone_holder q apart e =
        (let g = stands_before t e.before.here e.before.first e.before.step_in e.before.path e.before.there e.before.among in
        holder_kept x y l insertion rs ys few Here m (edited (Erase h.0) m) q.0 q.1 (present q.0 (stand e.before.first (g.step_in ∷ e.before.path), g.there, e.before.is), sibling_out t w.distinct h.0 q.0 y k.before e.before apart o found) (y_there, y_out) stays e)

    pub gone_dominance : (v : Value) → eqb (owner_of v).0 h.0 ≡ false → dominated_by l v m ≡ true → dominated_by l v (edited (Erase h.0) m) ≡ true
    gone_dominance v apart e = dominance_stays h.0 t w.distinct l (subst (λ i. has_id l (without i t) ≡ true) o_there.2 (there_left t o w.distinct at_own l l_there l_out)) is_isolated v apart ∙ e

    pub gone_uses : (v : Value) → uses_of v m.tree ≡ [] → uses_of v (without h.0 m.tree) ≡ []
    gone_uses v e =
        (let a = taken_uses h.0 t o w.distinct found root v in
        let n = none_left a.0 (uses_of v o ++ a.1) (sym a.2 ∙ e) in
        let n2 = none_left (uses_of v o) a.1 n.1 in
        a.3 ∙ λ i. n.0 i ++ n2.1 i)
      where
        none_left : {X : Type 0} (xs ys : List X) → xs ++ ys ≡ [] → (xs ≡ []) × (ys ≡ [])
        none_left [] ys e = (refl, e)
        none_left (x ∷ xs) ys e = absurd cc

    pub gone_headrooms : (j : ℕ) → Headroom j m → Headroom j (edited (Erase h.0) m)
    gone_headrooms j r = (let c = taken_op_count h.0 t o w.distinct found root in let a = r.ops in record { ops = omega (arith, a, c); ids = r.ids })

  -- all placeholders are erased
  pub erased_all : (hs : List Held) (m : Module) → Near x y l insertion rs ys few m → ((h : Held) → In h hs → Holder x y l insertion rs ys few h.0 h.1 m × (uses_of (Result h.0 0) m.tree ≡ []) × (eqb l h.0 ≡ false)) → AllOther hs → ErasedAll hs m
  erased_all [] m s each other = record { free = λ fs k. k; near = s; dominance = λ v a e. e; next = refl; headrooms = λ k r. r }
  erased_all (h ∷ hs) m s each other =
      let k = each h (inl refl) in
      let n = edited (Erase h.0) m in
      let later = erased_all hs n (gone_near h m s k.0 k.1 k.2) (λ q i. let e = each q (inr i) in (gone_holder h m s k.0 k.1 k.2 q (other.0 q i) e.0, gone_uses h m s k.0 k.1 k.2 (Result q.0 0) e.1, e.2)) other.1 in
      record {
        free = λ fs f. (gone_reason h m s k.0 k.1 k.2, later.free fs f);
        near = later.near;
        dominance = λ v a e. later.dominance v (λ q i. a q (inr i)) (gone_dominance h m s k.0 k.1 k.2 v (a h (inl refl)) e);
        next = later.next;
        headrooms = λ j r. later.headrooms j (gone_headrooms h m s k.0 k.1 k.2 j r);
      }
