-- The reached operations are closed under uses of known values, and the trails of both phases are within them.
use Rattle.std.proofs.Common.{◌≡◌, ◌≢◌, ◌≤◌, ◌+◌, ℕ, List, [], ◌∷◌, Bool, true, false, true≢false, ◌||◌, ◌&&◌, Option, Some, None, is_some, ◌⊎◌, inl, inr, refl, sym, ap, ◌∙◌, subst, cond, eqb, arith}
use Rattle.std.specs.List.{list_any}
use Rattle.std.proofs.lemmas.Bool.{eq-eqb, ne_eqb, cases_eq, or_left, or_right}
use Rattle.ir_event.specs.trees.declared.value.Value.{Value}
use Rattle.ir_event.specs.trees.declared.value.Value.TheVariants.{Result, Arg}
use Rattle.ir_event.specs.tree_laws.Members.{In}
use Rattle.dialects_int.specs.Folds.{Known}
use Rattle.constants.specs.Facts.{Header, Facts}
use Rattle.constants.specs.Walk.{look_among, AreOrdered}
use Rattle.constants.specs.Reached.{is_result_of, one_if, results_among, uses_among, is_result_in, with_op, reached_along, reached, most_over}
use Rattle.constants.specs.Trails.{total, Uses, IsThere, IsKnown, IsTrail}
use Rattle.constants.proofs.Knowing.{among_in, operand_visited}
use Rattle.constants.proofs.Looks.{looks_within}

with_same : (x : ℕ) (b : Bool) (r : ℕ → Bool) → with_op x b r x ≡ b
with_same x b r = ap (λ c. cond c b (r x)) (eq-eqb x x refl)

with_other : (x y : ℕ) (b : Bool) (r : ℕ → Bool) → y ≢ x → with_op x b r y ≡ r y
with_other x y b r ne = ap (λ c. cond c b (r y)) (ne_eqb y x ne)

module _ (knows : ℕ → Bool) where
  abbrev now : Header → (ℕ → Bool) → Bool
  now h r = r h.id || list_any (is_result_in (λ y. r y && knows y)) h.operands

  along_keeps : (visited : List ℕ) (hs : List Header) (r : ℕ → Bool) (y : ℕ) → AreOrdered visited hs → In y visited → reached_along knows hs r y ≡ r y
  along_keeps visited [] r y o h = refl
  along_keeps visited (n ∷ hs) r y o h = along_keeps (n.id ∷ visited) hs (with_op n.id (now n r) r) y o.2 (inr h) ∙ with_other n.id y (now n r) r (λ e. o.0 (subst (λ z. In z visited) e h))

  along_grows : (hs : List Header) (r : ℕ → Bool) (y : ℕ) → r y ≡ true → reached_along knows hs r y ≡ true
  along_grows [] r y e = e
  along_grows (n ∷ hs) r y e = along_grows hs (with_op n.id (now n r) r) y (elim (cases_eq y n.id) [
    | inl q ↦ ap (with_op n.id (now n r) r) q ∙ with_same n.id (now n r) r ∙ or_left (r n.id) _ (ap r (sym q) ∙ e)
    | inr ne ↦ with_other n.id y (now n r) r ne ∙ e
  ])

  one_of : (r : ℕ → Bool) (vs : List Value) (d k : ℕ) → In (Result d k) vs → r d ≡ true → list_any (is_result_in r) vs ≡ true
  one_of r [] d k h e = absurd h
  one_of r (v ∷ vs) d k (inl q) e = or_left (is_result_in r v) _ (ap (is_result_in r) (sym q) ∙ e)
  one_of r (v ∷ vs) d k (inr h) e = or_right (is_result_in r v) _ (one_of r vs d k h e)

  along_closed : (visited : List ℕ) (hs : List Header) (r : ℕ → Bool) (n : Header) (d k : ℕ) → AreOrdered visited hs → In n hs → In (Result d k) n.operands → reached_along knows hs r d ≡ true → knows d ≡ true
      → reached_along knows hs r n.id ≡ true
  along_closed visited [] r n d k o h used e known = absurd h
  along_closed visited (m ∷ hs) r n d k o (inl q) used e known =
      let s : ℕ → Bool = with_op m.id (now m r) r in
      let operand : In (Result d k) m.operands = subst (λ (z : Header). In (Result d k) z.operands) q used in
      let here : In d visited = operand_visited visited m.operands d k o.1 operand in
      let was : r d ≡ true = sym (along_keeps (m.id ∷ visited) hs s d o.2 (inr here) ∙ with_other m.id d (now m r) r (λ f. o.0 (subst (λ z. In z visited) f here))) ∙ e in
      ap (λ (z : Header). reached_along knows hs s z.id) q
      ∙ along_keeps (m.id ∷ visited) hs s m.id o.2 (inl refl)
      ∙ with_same m.id (now m r) r
      ∙ or_right (r m.id) _ (one_of (λ y. r y && knows y) m.operands d k operand (ap (λ b. b && knows d) was ∙ known))
  along_closed visited (m ∷ hs) r n d k o (inr h) used e known = along_closed (m.id ∷ visited) hs (with_op m.id (now m r) r) n d k o.2 h used e known

module _ (before after : Facts) (hs : List Header) (x : ℕ) (ordered : AreOrdered [] hs) where
  abbrev known_in_one : ℕ → Bool
  known_in_one y = is_some (before y) || is_some (after y)

  pub reached_first : reached before after hs x x ≡ true
  reached_first = along_grows known_in_one hs (λ y. eqb y x) x (eq-eqb x x refl)

  pub reached_users : (d y : ℕ) → reached before after hs x d ≡ true → IsKnown before d ⊎ IsKnown after d → Uses (look_among hs) d y → reached before after hs x y ≡ true
  reached_users d y r known u =
      let i = among_in hs y u.here u.is in
      ap (reached before after hs x) (sym i.1)
      ∙ along_closed known_in_one [] hs (λ y. eqb y x) u.here d 0 ordered i.0 u.operand r
      (elim known [ inl k ↦ or_left (is_some (before d)) _ (ap is_some k.1) | inr k ↦ or_right (is_some (before d)) _ (ap is_some k.1) ])

  reached_user : (n : Header) (d k : ℕ) → In n hs → In (Result d k) n.operands → reached before after hs x d ≡ true → IsKnown after d → reached before after hs x n.id ≡ true
  reached_user n d k i used r known = along_closed known_in_one [] hs (λ y. eqb y x) n d k ordered i used r (or_right (is_some (before d)) _ (ap is_some known.1))

  there : (y : ℕ) → is_some (look_among hs y) ≡ true → (h : Header) × In h hs × (h.id ≡ y)
  there y e = go (look_among hs y) refl e
    where
      go : (o : Option Header) → look_among hs y ≡ o → is_some o ≡ true → (h : Header) × In h hs × (h.id ≡ y)
      go None is f = absurd (true≢false (sym f))
      go (Some h) is f = (let i = among_in hs y h is in (h, i.0, i.1))

  used_or_not : (vs : List Value) (d : ℕ) → (results_among d vs ≡ 0) ⊎ ((k : ℕ) × In (Result d k) vs)
  used_or_not [] d = inl refl
  used_or_not (v ∷ vs) d = elim (one v) [
    | inl e ↦ elim (used_or_not vs d) [ inl f ↦ inl (omega (arith, e, f)) | inr k ↦ inr (k.0, inr k.1) ]
    | inr k ↦ inr (k.0, inl k.1)
  ]
    where
      one : (v : Value) → (one_if (is_result_of d v) ≡ 0) ⊎ ((k : ℕ) × (Result d k ≡ v))
      one (Result y k) = elim (cases_eq y d) [ inl e ↦ inr (k, ap (λ z. Result z k) (sym e)) | inr ne ↦ inl (ap (λ b. one_if b) (ne_eqb y d ne)) ]
      one (Arg y s k) = inl refl

  -- the looks of both phases
  pub looks_bound : (t : Facts) (forgotten learned : List ℕ) → IsThere (look_among hs) x → ((y : ℕ) (v : Known) → t y ≡ Some v → after y ≡ Some v)
      → IsTrail (look_among hs) (λ y. y ≡ x) before forgotten → IsTrail (look_among hs) (λ y. (y ≡ x) ⊎ In y forgotten) t learned
      → 4 + (total (λ d. 2 + uses_among hs d) forgotten + (total (λ d. 1 + uses_among hs d) learned + total (uses_among hs) learned)) ≤ most_over (reached before after hs x) hs
  looks_bound t forgotten learned here later one two =
      let r : ℕ → Bool = reached before after hs x in
      let some : ℕ → Bool = λ y. is_some (look_among hs y) in
      let is_there : some x ≡ true = ap is_some here.1 in
      let user_there : (d y : ℕ) → Uses (look_among hs) d y → some y ≡ true = λ d y u. ap is_some u.is in
      let there1 : (y : ℕ) → In y forgotten → some y ≡ true = one.reached some (λ y e. ap some e ∙ is_there) (λ d y a k u. user_there d y u) in
      let there2 : (y : ℕ) → In y learned → some y ≡ true = two.reached some (λ y e. elim e [ inl q ↦ ap some q ∙ is_there | inr h ↦ there1 y h ]) (λ d y a k u. user_there d y u) in
      let first : (y : ℕ) → In y forgotten → r y ≡ true = one.reached r (λ y e. ap r e ∙ reached_first) (λ d y a k u. reached_users d y a (inl k) u) in
      let now : (d : ℕ) → IsKnown t d → IsKnown after d = λ d k. (k.0, later d k.0 k.1) in
      let second : (y : ℕ) → In y learned → r y ≡ true = two.reached r (λ y e. elim e [ inl q ↦ ap r q ∙ reached_first | inr h ↦ first y h ]) (λ d y a k u. reached_users d y a (inr (now d k)) u) in
      looks_within hs r forgotten learned one.once two.once (λ d h. (there d (there1 d h), first d h)) (λ d h. (there d (there2 d h), second d h))
      (λ h i far d k. elim (used_or_not h.operands d) [
        | inl e ↦ e
        | inr used ↦ absurd (true≢false (sym (reached_user h d used.0 i used.1 (second d k) (now d (two.known d k))) ∙ far))
      ])
