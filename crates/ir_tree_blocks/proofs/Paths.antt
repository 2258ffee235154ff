-- Blocks around a block are on each path from the entry to it.
use Rattle.std.proofs.Common.{◌≡◌, refl, ap, sym, ◌∙◌, subst, ℕ, true, false, true≢false, cond, not, ◌&&◌, eqb, eq-eqb, eqb-true, List, [], ◌∷◌, map, inl, inr, ◌⊎◌}
use Rattle.std.specs.Prelude.{IsTrue}
use Rattle.std.specs.List.{list_any, list_all}
use Rattle.ir_tree_laws.specs.Members.{In}
use Rattle.ir_tree_laws.proofs.Listed.{in_map, both, not_false, all_each, any_one, one_any}
use Rattle.ir_tree_blocks.specs.Nesting.{all_differ}
use Rattle.ir_tree_blocks.specs.Form.{PlacedBlock, is_nil, is_below_one_of, can_name, names_in_sight}
use Rattle.ir_tree_blocks.specs.Dominance.{Edges, IsPath, ProperlyDominates}

abbrev labels : List PlacedBlock → List ℕ
labels bs = map (λ (b : PlacedBlock). b.label) bs

any_label : (l : ℕ) (xs : List PlacedBlock) (q : PlacedBlock) → In q xs → l ≡ q.label → list_any (eqb l) (labels xs) ≡ true
any_label l xs q h e = any_one (eqb l) (labels xs) q.label (in_map (λ (z : PlacedBlock). z.label) q xs h) (eq-eqb l q.label e)

-- two blocks with one label are equal
pub unique : (xs : List PlacedBlock) → all_differ (map (λ (b : PlacedBlock). b.label) xs) ≡ true → (p q : PlacedBlock) → In p xs → In q xs → p.label ≡ q.label → p ≡ q
unique [] d p q h k e = absurd h
unique (x ∷ xs) d p q (inl a) (inl b) e = a ∙ sym b
unique (x ∷ xs) d p q (inl a) (inr k) e =
    let t = both (not (list_any (eqb x.label) (labels xs))) (all_differ (labels xs)) d in
    absurd (true≢false (sym (any_label x.label xs q k (sym (ap (λ (z : PlacedBlock). z.label) a) ∙ e)) ∙ not_false (list_any (eqb x.label) (labels xs)) t.0))
unique (x ∷ xs) d p q (inr h) (inl b) e =
    let t = both (not (list_any (eqb x.label) (labels xs))) (all_differ (labels xs)) d in
    absurd (true≢false (sym (any_label x.label xs p h (sym (ap (λ (z : PlacedBlock). z.label) b) ∙ sym e)) ∙ not_false (list_any (eqb x.label) (labels xs)) t.0))
unique (x ∷ xs) d p q (inr h) (inr k) e = unique xs (both (not (list_any (eqb x.label) (labels xs))) (all_differ (labels xs)) d).1 p q h k e

-- each label of a list of blocks around is that of a block whose blocks around are the rest of the list
abbrev pub Linked : List PlacedBlock → List ℕ → Type 0
Linked all [] = Unit {0}
Linked all (w ∷ around) = ((q : PlacedBlock) × In q all × (q.label ≡ w) × (q.around ≡ around)) × Linked all around

link_at : (all : List PlacedBlock) (around : List ℕ) → Linked all around → (w : ℕ) → In w around → (p : PlacedBlock) × In p all × (p.label ≡ w) × ((v : ℕ) → In v p.around → In v around)
link_at all [] n w k = absurd k
link_at all (x ∷ xs) n w (inl e) = (n.0.0, n.0.1, n.0.2 ∙ sym e, λ v a. inr (subst (In v) n.0.3 a))
link_at all (x ∷ xs) n w (inr k) = let r = link_at all xs n.1 w k in (r.0, r.1, r.2, λ v a. inr (r.3 v a))

module _ (all : List PlacedBlock) (differ : all_differ (map (λ (b : PlacedBlock). b.label) all) ≡ true) (lexical : list_all (names_in_sight all) all ≡ true) (linked : (p : PlacedBlock) → In p all → Linked all p.around) where
  -- a block that is named
  can_name_of : (p : PlacedBlock) → In p all → (l : ℕ) → list_any (eqb l) p.names ≡ true → (c : PlacedBlock) × In c all × (c.label ≡ l) × (can_name p c ≡ true)
  can_name_of p h l n =
      let m = one_any (eqb l) p.names n in
      let k = all_each (λ l. list_any (λ (c : PlacedBlock). eqb c.label l && can_name p c) all) p.names (all_each (names_in_sight all) all lexical p h) m.0 m.1 in
      let c = one_any (λ (c : PlacedBlock). eqb c.label m.0 && can_name p c) all k in
      let b = both (eqb c.0.label m.0) (can_name p c.0) c.2 in
      (c.0, c.1, eqb-true c.0.label m.0 b.0 ∙ sym (eqb-true l m.0 m.2), b.1)

  can_name_reached : (b c : PlacedBlock) → b.unreachable ≡ false → can_name b c ≡ true → (not c.unreachable && is_below_one_of (b.label ∷ b.around) c.around) ≡ true
  can_name_reached b c r s = sym (ap (λ t. cond t (not (is_nil c.around)) (not c.unreachable && is_below_one_of (b.label ∷ b.around) c.around)) r) ∙ s

  around_step : (q : PlacedBlock) → In q all → (around : List ℕ) → Linked all around → is_below_one_of (q.label ∷ q.around) around ≡ true → (v : ℕ) → In v around → (v ≡ q.label) ⊎ In v q.around
  around_step q h [] n b v k = absurd k
  around_step q h (w ∷ rest) n b v k =
      let m = one_any (eqb w) (q.label ∷ q.around) b in
      let e : w ≡ m.0 = eqb-true w m.0 m.2 in
      elim m.1 [
        | inl a ↦ (let t : n.0.0 ≡ q = unique all differ n.0.0 q n.0.1 h (n.0.2 ∙ e ∙ a) in
            elim k [ inl z ↦ inl (z ∙ e ∙ a) | inr z ↦ inr (subst (In v) (sym n.0.3 ∙ ap (λ (z : PlacedBlock). z.around) t) z) ])
        | inr a ↦ (let r = link_at all q.around (linked q h) m.0 a in
            let t : n.0.0 ≡ r.0 = unique all differ n.0.0 r.0 n.0.1 r.1 (n.0.2 ∙ e ∙ sym r.2) in
            elim k [ inl z ↦ inr (subst (λ y. In y q.around) (sym (z ∙ e)) a) | inr z ↦ inr (r.3 v (subst (In v) (sym n.0.3 ∙ ap (λ (z : PlacedBlock). z.around) t) z)) ])
      ]

  module _ (edge : Edges) (named : (v w : ℕ) → IsTrue (edge v w) → (p : PlacedBlock) × In p all × (p.label ≡ v) × (list_any (eqb w) p.names ≡ true)) (entry : (p : PlacedBlock) → In p all → p.label ≡ 0 → (p.around ≡ []) × (p.unreachable ≡ false)) where
    -- no block of a path is inside a scope that is marked as unreachable
    reached : (path : List ℕ) (u : ℕ) → IsPath edge (u ∷ path) → (q : PlacedBlock) → In q all → q.label ≡ u → q.unreachable ≡ false
    reached [] u s q h e = (entry q h (e ∙ s)).1
    reached (v ∷ path) u s q h e =
        let n = named v u s.0 in
        let r = reached path v s.1 n.0 n.1 n.2 in
        let c = can_name_of n.0 n.1 u n.3 in
        let t : c.0 ≡ q = unique all differ c.0 q c.1 h (c.2 ∙ sym e) in
        ap (λ (z : PlacedBlock). z.unreachable) (sym t) ∙ not_false c.0.unreachable (both (not c.0.unreachable) (is_below_one_of (n.0.label ∷ n.0.around) c.0.around) (can_name_reached n.0 c.0 r c.3)).0

    passes : (path : List ℕ) (u : ℕ) → IsPath edge (u ∷ path) → (p : PlacedBlock) → In p all → p.label ≡ u → (v : ℕ) → In v p.around → In v path
    passes [] u s p h e v k = absurd (subst (In v) (entry p h (e ∙ s)).0 k)
    passes (y ∷ path) u s p h e v k =
        let n = named y u s.0 in
        let q = n.0 in
        let c = can_name_of q n.1 u n.3 in
        let t : c.0 ≡ p = unique all differ c.0 p c.1 h (c.2 ∙ sym e) in
        let b = (both (not c.0.unreachable) (is_below_one_of (q.label ∷ q.around) c.0.around) (can_name_reached q c.0 (reached path y s.1 q n.1 n.2) c.3)).1 in
        let below : is_below_one_of (q.label ∷ q.around) p.around ≡ true = ap (λ (z : PlacedBlock). is_below_one_of (q.label ∷ q.around) z.around) (sym t) ∙ b in
        elim (around_step q n.1 p.around (linked p h) below v k) [ inl z ↦ inl (z ∙ n.2) | inr z ↦ inr (passes path y s.1 q n.1 n.2 v z) ]

    pub around_dominates : (p : PlacedBlock) → In p all → (v : ℕ) → In v p.around → ProperlyDominates edge v p.label
    around_dominates p h v k = λ path s. passes path p.label s p h refl v k
