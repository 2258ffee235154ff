-- Folding is monotone in the known values, and facts that follow from each other are those that the walk finds.
use Rattle.std.proofs.Common.{◌≡◌, ℕ, List, [], ◌∷◌, Option, Some, None, inl, inr, refl, sym, ap, ◌∙◌, subst, cond, eqb}
use Rattle.std.proofs.lemmas.Bool.{eq-eqb, ne_eqb, cases_eq}
use Rattle.ir_event.specs.trees.declared.value.Value.{Value}
use Rattle.ir_event.specs.trees.declared.value.Value.TheVariants.{Result, Arg}
use Rattle.ir_event.specs.tree_laws.Members.{In}
use Rattle.dialects_int.specs.Folds.{Known, KnowsMore}
use Rattle.dialects_int.proofs.KnowingMore.{knowing_more}
use Rattle.constants.specs.Facts.{Header, Facts, known, knowns, folded, folded_if, value}
use Rattle.constants.specs.Walk.{nothing, with_fact, walk, look_among, AllVisited, AreOrdered, visited_after}
use Rattle.constants.specs.Trails.{Uses, Follows}
use Rattle.constants.proofs.Walks.{not_both, none_if_not, put_same, put_other, node_here, node_there, node_outside, folded_knowns}
use Rattle.ir_event.proofs.of_tree_laws.Facts.{in_or_not}

known_uses : (a b : Facts) (v : Value) → ((d : ℕ) → Result d 0 ≡ v → a d ≡ b d) → known a v ≡ known b v
known_uses a b (Result x k) same = elim (cases_eq k 0) [
  | inl e ↦ ap (λ o. cond (eqb k 0) o None) (same x (ap (Result x) (sym e)))
  | inr ne ↦ ap (λ c. cond c (a x) None) (ne_eqb k 0 ne) ∙ sym (ap (λ c. cond c (b x) None) (ne_eqb k 0 ne))
]
known_uses a b (Arg x r k) same = refl

knowns_uses : (a b : Facts) (vs : List Value) → ((d : ℕ) → In (Result d 0) vs → a d ≡ b d) → knowns a vs ≡ knowns b vs
knowns_uses a b [] same = refl
knowns_uses a b (v ∷ vs) same = λ i. known_uses a b v (λ d e. same d (inl e)) i ∷ knowns_uses a b vs (λ d h. same d (inr h)) i

known_below : (a b : Facts) (v : Value) → ((d : ℕ) (w : Known) → Result d 0 ≡ v → a d ≡ Some w → b d ≡ Some w) → (w : Known) → known a v ≡ Some w → known b v ≡ Some w
known_below a b (Result x k) le w h = elim (cases_eq k 0) [
  | inl e ↦ ap (λ c. cond c (b x) None) (eq-eqb k 0 e) ∙ le x w (ap (Result x) (sym e)) (sym (ap (λ c. cond c (a x) None) (eq-eqb k 0 e)) ∙ h)
  | inr ne ↦ (let f : None ≡ Some w = sym (ap (λ c. cond c (a x) None) (ne_eqb k 0 ne)) ∙ h in absurd cc)
]
known_below a b (Arg x r k) le w h = h

knowns_below : (a b : Facts) (vs : List Value) → ((d : ℕ) (w : Known) → In (Result d 0) vs → a d ≡ Some w → b d ≡ Some w) → KnowsMore (knowns a vs) (knowns b vs)
knowns_below a b [] le = tt
knowns_below a b (v ∷ vs) le = (known_below a b v (λ d w e. le d w (inl e)), knowns_below a b vs (λ d w h. le d w (inr h)))

folded_below : (n : Header) (a b : Facts) (v : Known) → ((d : ℕ) (w : Known) → In (Result d 0) n.operands → a d ≡ Some w → b d ≡ Some w) → folded n a ≡ Some v → folded n b ≡ Some v
folded_below n a b v le h = knowing_more n.name n.properties (knowns a n.operands) (knowns b n.operands) n.results v (knowns_below a b n.operands le) h

module _ (ops : ℕ → Option Header) where
  -- the fold of an operation depends only on the known values of its operands
  pub value_uses : (a b : Facts) (y : ℕ) → ((d : ℕ) → Uses ops d y → a d ≡ b d) → value ops a y ≡ value ops b y
  value_uses a b y same = go (ops y) refl
    where
      go : (o : Option Header) → ops y ≡ o → folded_if o a ≡ folded_if o b
      go None e = refl
      go (Some n) e = folded_knowns n a b (knowns_uses a b n.operands (λ d h. same d (record { here = n; is = e; operand = h })))

  -- more known values never change a fold
  pub value_more : (a b : Facts) (y : ℕ) (v : Known) → ((d : ℕ) (w : Known) → a d ≡ Some w → b d ≡ Some w) → value ops a y ≡ Some v → value ops b y ≡ Some v
  value_more a b y v le = go (ops y)
    where
      go : (o : Option Header) → folded_if o a ≡ Some v → folded_if o b ≡ Some v
      go None h = h
      go (Some n) h = folded_below n a b v (λ d w k. le d w) h

  -- fewer known values give no new fold
  pub value_less : (a b : Facts) (y : ℕ) → ((d : ℕ) (w : Known) → a d ≡ Some w → b d ≡ Some w) → value ops b y ≡ None → value ops a y ≡ None
  value_less a b y le none = none_if_not (value ops a y) (λ v h. not_both (value ops b y) v none (value_more a b y v le h))

-- an operation of an ordered list
pub listed : (visited : List ℕ) (hs : List Header) (n : Header) → AreOrdered visited hs → In n hs → (look_among hs n.id ≡ Some n) × (In n.id visited → ⊥)
listed visited [] n o h = absurd h
listed visited (m ∷ hs) n o h = elim h [
  | inl e ↦ (ap (λ (z : Header). look_among (m ∷ hs) z.id) e ∙ node_here m hs ∙ ap Some (sym e), λ g. o.0 (subst (λ (z : Header). In z.id visited) e g))
  | inr k ↦ (let r = listed (m.id ∷ visited) hs n o.2 k in (node_there m hs n.id (λ e. r.1 (inl e)) ∙ r.0, λ g. r.1 (inr g)))
]

pub among_in : (hs : List Header) (y : ℕ) (n : Header) → look_among hs y ≡ Some n → In n hs × (n.id ≡ y)
among_in [] y n e = let f : None ≡ Some n = e in absurd cc
among_in (m ∷ hs) y n e = elim (cases_eq y m.id) [
  | inl q ↦ (let f : Some m ≡ Some n = sym (ap (λ b. cond b (Some m) (look_among hs y)) (eq-eqb y m.id q)) ∙ e in
      let is : m ≡ n = cc in
      (inl (sym is), ap (λ (z : Header). z.id) (sym is) ∙ sym q))
  | inr ne ↦ (let r = among_in hs y n (sym (node_there m hs y ne) ∙ e) in (inr r.0, r.1))
]

visited_operand : (visited : List ℕ) (vs : List Value) (d k : ℕ) → AllVisited visited vs → In (Result d k) vs → In d visited
visited_operand visited [] d k all h = absurd h
visited_operand visited (Result x j ∷ vs) d k all (inl e) = (let is : d ≡ x = cc in subst (λ z. In z visited) (sym is) all.0)
visited_operand visited (Arg x r j ∷ vs) d k all (inl e) = absurd cc
visited_operand visited (Result x j ∷ vs) d k all (inr h) = visited_operand visited vs d k all.1 h
visited_operand visited (Arg x r j ∷ vs) d k all (inr h) = visited_operand visited vs d k all h

pub operand_visited : (visited : List ℕ) (vs : List Value) (d k : ℕ) → AllVisited visited vs → In (Result d k) vs → In d visited
operand_visited = visited_operand

-- if each fact follows from the others, the facts are among those that the walk finds
follow_along : (t : Facts) (visited : List ℕ) (hs : List Header) (s : Facts) → AreOrdered visited hs → ((y : ℕ) (v : Known) → In y visited → t y ≡ Some v → s y ≡ Some v)
    → ((n : Header) → In n hs → (v : Known) → t n.id ≡ Some v → folded n t ≡ Some v) → (y : ℕ) (v : Known) → In y (visited_after visited hs) → t y ≡ Some v → walk hs s y ≡ Some v
follow_along t visited [] s o le follows y v h e = le y v h e
follow_along t visited (n ∷ hs) s o le follows y v h e =
    follow_along t (n.id ∷ visited) hs (with_fact n.id (folded n s) s) o.2
    (λ z w g k. elim (cases_eq z n.id) [
      | inl q ↦ ap (with_fact n.id (folded n s) s) q
          ∙ put_same n.id (folded n s) s
          ∙ folded_below n t s w (λ d u i j. le d u (visited_operand visited n.operands d 0 o.1 i) j) (follows n (inl refl) w (sym (ap t q) ∙ k))
      | inr ne ↦ put_other n.id z (folded n s) s ne ∙ le z w (elim g [ inl q ↦ absurd (ne q) | inr g2 ↦ g2 ]) k
    ])
    (λ m i. follows m (inr i)) y v h e

pub follows_walk : (hs : List Header) (t : Facts) → AreOrdered [] hs → Follows (look_among hs) t → (y : ℕ) (v : Known) → t y ≡ Some v → walk hs nothing y ≡ Some v
follows_walk hs t o follows y v e = elim (in_or_not y (visited_after [] hs)) [
  | inl h ↦ follow_along t [] hs nothing o (λ z w g k. absurd g) (λ n i w k. sym (ap (λ m. folded_if m t) (listed [] hs n o i).0) ∙ follows n.id w k) y v h e
  | inr out ↦ (let f : None ≡ Some v = sym (ap (λ m. folded_if m t) (node_outside [] hs y out)) ∙ follows y v e in absurd cc)
]
