-- A free node is inserted into a list.
use Rattle.std.proofs.Common.{◌≡◌, ℕ, ◌<◌, List, [], ◌∷◌, ◌++◌, map, set, refl, sym, ap, ◌∙◌, subst, length, true, false, eqb, ⊎_elim, arith}
use Rattle.std.proofs.lemmas.Bool.{eqb-true, eqb-false, eq-eqb, cond_both, false≢true, or_cases, or_left, or_right, cases_eq}
use Rattle.std.proofs.lemmas.List.{get_or-set_same, get_or-set_other, length-set, length-map}
use Rattle.ir_store_lists.specs.Lists.{free, list_at, home_at, IsHead, IsItem, IsFree, has, put_before}
use Rattle.ir_store_lists.specs.Ring.{Ring, Sound, at, nexts, prevs, homes}
use Rattle.ir_store_lists.specs.declared.link.Link.{Link}
use Rattle.ir_store_lists.proofs.Around.{home_inside}
use Rattle.ir_store_lists.proofs.Cuts.{list_at-map}

-- links that lead through node i to node t, and directly to t before
pub record Join (nx pv hm nx' pv' hm' : ℕ → ℕ) (i t k : ℕ) : Type 0 where
  pub before : nx (pv t) ≡ t
  pub next_new : nx' i ≡ t
  pub prev_new : pv' i ≡ pv t
  pub next_at : nx' (pv t) ≡ i
  pub prev_at : pv' t ≡ i
  pub next_else : (y : ℕ) → (y ≡ pv t → ⊥) → (y ≡ i → ⊥) → nx' y ≡ nx y
  pub prev_else : (y : ℕ) → (y ≡ t → ⊥) → (y ≡ i → ⊥) → pv' y ≡ pv y
  pub home_new : hm' i ≡ k
  pub home_else : (y : ℕ) → (y ≡ i → ⊥) → hm' y ≡ hm y

module _ (nx pv hm nx' pv' hm' : ℕ → ℕ) (i t k : ℕ) (c : Join nx pv hm nx' pv' hm' i t k) (h : ℕ) (out : (x : ℕ) → hm x ≡ h → x ≡ i → ⊥) where
  edge : (a b : ℕ) → (a ≡ i → ⊥) → (b ≡ i → ⊥) → (b ≡ t → ⊥) → nx a ≡ b → pv b ≡ a → (nx' a ≡ b) × (pv' b ≡ a)
  edge a b na nb nt e f =
      (c.next_else a (λ q. nt (sym e ∙ ap nx q ∙ c.before)) na ∙ e, c.prev_else b nt nb ∙ f)

  -- the link to t becomes two links
  edges : (a b : ℕ) → b ≡ t → pv b ≡ a → ((nx' a ≡ i) × (pv' i ≡ a)) × ((nx' i ≡ b) × (pv' b ≡ i))
  edges a b e f =
      let p : a ≡ pv t = sym f ∙ ap pv e in
      ((ap nx' p ∙ c.next_at, c.prev_new ∙ sym p), (c.next_new ∙ sym e, ap pv' e ∙ c.prev_at))

  -- before an item
  pub Ring-join : (i ≡ h → ⊥) → (t ≡ h → ⊥) → ((x : ℕ) → hm x ≡ h → x ≡ t → k ≡ h) → (a : ℕ) (xs : List ℕ) → (a ≡ i → ⊥) → Ring nx pv hm h a xs h → Ring nx' pv' hm' h a (put_before i t xs) h
  Ring-join nh th own a [] na r = edge a h na (λ e. nh (sym e)) (λ e. th (sym e)) r.0 r.1
  Ring-join nh th own a (x ∷ xs) na r =
      let nx_ : x ≡ i → ⊥ = out x r.1.0.0 in
      let rest = Ring-join nh th own x xs nx_ r.1.1 in
      let home : hm' x ≡ h = c.home_else x nx_ ∙ r.1.0.0 in
      cond_both (eqb x t) (i ∷ x ∷ put_before i t xs) (x ∷ put_before i t xs) (λ zs. Ring nx' pv' hm' h a zs h)
      (λ e.
      let same : x ≡ t = eqb-true x t e in
      let two = edges a x same r.0.1 in
      (two.0, ((c.home_new ∙ own x r.1.0.0 same, nh), (two.1, ((home, r.1.0.1), rest)))))
      (λ e. (edge a x na nx_ (eqb-false x t e) r.0.0 r.0.1, ((home, r.1.0.1), rest)))

  -- in another list, or at the end of the list of t
  pub Ring-keep : (i ≡ h → ⊥) → (t ≡ h → ⊥) → ((x : ℕ) → hm x ≡ h → x ≡ t → ⊥) → (a : ℕ) (xs : List ℕ) → (a ≡ i → ⊥) → Ring nx pv hm h a xs h → Ring nx' pv' hm' h a xs h
  Ring-keep nh th far a [] na r = edge a h na (λ e. nh (sym e)) (λ e. th (sym e)) r.0 r.1
  Ring-keep nh th far a (x ∷ xs) na r =
      let nx_ : x ≡ i → ⊥ = out x r.1.0.0 in
      (edge a x na nx_ (far x r.1.0.0) r.0.0 r.0.1, ((c.home_else x nx_ ∙ r.1.0.0, r.1.0.1), Ring-keep nh th far x xs nx_ r.1.1))

  pub Ring-push : (i ≡ h → ⊥) → t ≡ h → k ≡ h → (a : ℕ) (xs : List ℕ) → (a ≡ i → ⊥) → Ring nx pv hm h a xs h → Ring nx' pv' hm' h a (xs ++ i ∷ []) h
  Ring-push nh th kh a [] na r =
      let two = edges a h (sym th) r.1 in
      (two.0, ((c.home_new ∙ kh, nh), two.1))
  Ring-push nh th kh a (x ∷ xs) na r =
      let nx_ : x ≡ i → ⊥ = out x r.1.0.0 in
      (edge a x na nx_ (λ e. r.1.0.1 (e ∙ th)) r.0.0 r.0.1, ((c.home_else x nx_ ∙ r.1.0.0, r.1.0.1), Ring-push nh th kh x xs nx_ r.1.1))

pub has_put_before : (y i t : ℕ) (xs : List ℕ) → has y xs ≡ true → has y (put_before i t xs) ≡ true
has_put_before y i t [] e = e
has_put_before y i t (x ∷ xs) e =
    let tail : has y (x ∷ put_before i t xs) ≡ true =
    ⊎_elim (λ f. or_left (eqb x y) (has y (put_before i t xs)) f) (λ f. or_right (eqb x y) (has y (put_before i t xs)) (has_put_before y i t xs f)) (or_cases (eqb x y) (has y xs) e) in
    cond_both (eqb x t) (i ∷ x ∷ put_before i t xs) (x ∷ put_before i t xs) (λ zs. has y zs ≡ true)
    (λ _. or_right (eqb i y) (has y (x ∷ put_before i t xs)) tail)
    (λ _. tail)

pub has_put_new : (i t : ℕ) (xs : List ℕ) → has t xs ≡ true → has i (put_before i t xs) ≡ true
has_put_new i t [] e = absurd (false≢true e)
has_put_new i t (x ∷ xs) e =
    cond_both (eqb x t) (i ∷ x ∷ put_before i t xs) (x ∷ put_before i t xs) (λ zs. has i zs ≡ true)
    (λ _. or_left (eqb i i) (has i (x ∷ put_before i t xs)) (eq-eqb i i refl))
    (λ n. ⊎_elim (λ f. absurd (false≢true (sym n ∙ f))) (λ f. or_right (eqb x i) (has i (put_before i t xs)) (has_put_new i t xs f)) (or_cases (eqb x t) (has t xs) e))

pub has_push : (y i : ℕ) (xs : List ℕ) → has y xs ≡ true → has y (xs ++ i ∷ []) ≡ true
has_push y i [] e = absurd (false≢true e)
has_push y i (x ∷ xs) e =
    ⊎_elim (λ f. or_left (eqb x y) (has y (xs ++ i ∷ [])) f) (λ f. or_right (eqb x y) (has y (xs ++ i ∷ [])) (has_push y i xs f)) (or_cases (eqb x y) (has y xs) e)

pub has_pushed : (i : ℕ) (xs : List ℕ) → has i (xs ++ i ∷ []) ≡ true
has_pushed i [] = or_left (eqb i i) false (eq-eqb i i refl)
has_pushed i (x ∷ xs) = or_right (eqb x i) (has i (xs ++ i ∷ [])) (has_pushed i xs)

module _ (nx pv hm : ℕ → ℕ) (h : ℕ) where
  pub end_home : (a : ℕ) (xs : List ℕ) (b : ℕ) → hm a ≡ h → Ring nx pv hm h a xs b → (nx (pv b) ≡ b) × (hm (pv b) ≡ h)
  end_home a [] b l r = (ap nx r.1 ∙ r.0, ap hm r.1 ∙ l)
  end_home a (x ∷ xs) b l r = end_home x xs b r.1.0.0 r.1.1

  pub prev_home : (t a : ℕ) (xs : List ℕ) (b : ℕ) → hm a ≡ h → has t xs ≡ true → Ring nx pv hm h a xs b → (nx (pv t) ≡ t) × (hm (pv t) ≡ h)
  prev_home t a [] b l e r = absurd (false≢true e)
  prev_home t a (x ∷ xs) b l e r = ⊎_elim
      (λ f.
      let here : (nx (pv x) ≡ x) × (hm (pv x) ≡ h) = (ap nx r.0.1 ∙ r.0.0, ap hm r.0.1 ∙ l) in
      subst (λ z. (nx (pv z) ≡ z) × (hm (pv z) ≡ h)) (eqb-true x t f) here)
      (λ f. prev_home t x xs b r.1.0.0 f r.1.1)
      (or_cases (eqb x t) (has t xs) e)

-- the writes are an insertion
pub join_of : (next prev home : List ℕ) (i t k : ℕ) → length next ≡ length home → length prev ≡ length home → i < length home → t < length home → at prev t < length home
    → (at prev t ≡ i → ⊥) → (t ≡ i → ⊥) → at next (at prev t) ≡ t
    → Join (at next) (at prev) (home_at home) (at (set (set next (at prev t) i) i t)) (at (set (set prev t i) i (at prev t))) (home_at (set home i k)) i t k
join_of next prev home i t k ln lp li lt lq nq nt e =
    let q = at prev t in
    let l1 : i < length (set next q i) = omega (arith, length-set next q i) in
    let l2 : i < length (set prev t i) = omega (arith, length-set prev t i) in
    record {
      before = e;
      next_new = get_or-set_same (set next q i) i t 0 l1;
      prev_new = get_or-set_same (set prev t i) i q 0 l2;
      next_at = get_or-set_other (set next q i) i q t 0 nq ∙ get_or-set_same next q i 0 (omega arith);
      prev_at = get_or-set_other (set prev t i) i t q 0 nt ∙ get_or-set_same prev t i 0 (omega arith);
      next_else = λ y np ni. get_or-set_other (set next q i) i y t 0 ni ∙ get_or-set_other next q y i 0 np;
      prev_else = λ y np ni. get_or-set_other (set prev t i) i y q 0 ni ∙ get_or-set_other prev t y i 0 np;
      home_new = get_or-set_same home i k free li;
      home_else = λ y ni. get_or-set_other home i y k free ni;
    }

-- the heads are unchanged
pub not_free : (home : List ℕ) (i k : ℕ) → length home < free → IsFree home i → IsHead home k → k ≡ i → ⊥
not_free home i k few f h e =
    let a : home_at home i ≡ i = ap (home_at home) (sym e) ∙ h.own ∙ e in
    let b : home_at home i ≡ free = f.unlinked in
    let c : i < length home = f.inside in
    omega arith

module _ (home : List ℕ) (i k : ℕ) (few : length home < free) (f : IsFree home i) (head : IsHead home k) where
  pub head_not : (h : ℕ) → IsHead (set home i k) h → h ≡ i → ⊥
  head_not h p e = not_free home i k few f head (sym (get_or-set_same home i k free f.inside) ∙ ap (home_at (set home i k)) (sym e) ∙ p.own ∙ e)

  pub head_was : (h : ℕ) → IsHead (set home i k) h → IsHead home h
  head_was h p = record { inside = omega (arith, p.inside, length-set home i k); own = sym (get_or-set_other home i h k free (head_not h p)) ∙ p.own }

  pub head_is : (h : ℕ) → IsHead home h → IsHead (set home i k) h
  head_is h p = record { inside = omega (arith, p.inside, length-set home i k); own = get_or-set_other home i h k free (not_free home i h few f p) ∙ p.own }

  pub free_out : (h : ℕ) → IsHead home h → (x : ℕ) → home_at home x ≡ h → x ≡ i → ⊥
  free_out h p x e q =
      let a : h ≡ free = sym e ∙ ap (home_at home) q ∙ f.unlinked in
      let b : h < length home = p.inside in
      omega arith

  pub heads_kept : (ls : List (List ℕ)) (heads : (y : ℕ) → IsItem home y → IsHead home (home_at home y)) → (y : ℕ) → IsItem (set home i k) y → IsHead (set home i k) (home_at (set home i k) y)
  heads_kept ls heads y p = ⊎_elim
      (λ e. subst (IsHead (set home i k)) (sym (ap (home_at (set home i k)) e ∙ get_or-set_same home i k free f.inside)) (head_is k head))
      (λ n.
      let same = get_or-set_other home i y k free n in
      let old : IsItem home y = record { inside = omega (arith, p.inside, length-set home i k); linked = λ g. p.linked (same ∙ g); other = λ g. p.other (same ∙ g) } in
      subst (IsHead (set home i k)) (sym same) (head_is (home_at home y) (heads y old)))
      (cases_eq y i)

pub Sound-join : (next prev home : List ℕ) (ls : List (List ℕ)) (i t : ℕ) → length next ≡ length home → length prev ≡ length home → IsFree home i → IsItem home t → Sound next prev home ls
    → Sound (set (set next (at prev t) i) i t) (set (set prev t i) i (at prev t)) (set home i (home_at home t)) (map (put_before i t) ls)
Sound-join next prev home ls i t ln lp f item s =
    let k = home_at home t in
    let head = s.heads t item in
    let few : length home < free = s.few in
    let around = prev_home (at next) (at prev) (home_at home) k t k (list_at ls k) k head.own (s.covers k t head refl (λ e. item.other (sym e))) (s.rings k head) in
    let q_in : at prev t < length home = home_inside home (at prev t) (λ g. let a : k ≡ free = sym around.1 ∙ g in let b : k < length home = head.inside in omega arith) in
    let nq : at prev t ≡ i → ⊥ = free_out home i k few f head k head (at prev t) around.1 in
    let nt : t ≡ i → ⊥ = λ e. item.linked (ap (home_at home) e ∙ f.unlinked) in
    let join = join_of next prev home i t k ln lp f.inside item.inside q_in nq nt around.0 in
    let long = length-set home i k in
    record {
      few = omega arith;
      counted = length-map ls (put_before i t) ∙ s.counted ∙ sym long;
      rings = λ h p.
          let was = head_was home i k few f head h p in
          rw (list_at-map (put_before i t) ls h refl) (Ring-join _ _ _ _ _ _ i t k join h (free_out home i k few f head h was)
          (λ e. head_not home i k few f head h p (sym e))
          (λ e. item.other (ap (home_at home) e ∙ was.own ∙ sym e))
          (λ x e q. ap (home_at home) (sym q) ∙ e)
          h (list_at ls h) (head_not home i k few f head h p) (s.rings h was));
      others = λ h n. list_at-map (put_before i t) ls h refl ∙ ap (put_before i t) (s.others h (λ p. n (head_is home i k few f head h p)));
      covers = λ h y p e n.
          let was = head_was home i k few f head h p in
          rw (list_at-map (put_before i t) ls h refl) (⊎_elim
          (λ q.
          let kh : k ≡ h = sym join.home_new ∙ ap (home_at (set home i k)) (sym q) ∙ e in
          rw q (has_put_new i t (list_at ls h) (s.covers h t was kh (λ z. item.other (kh ∙ sym z)))))
          (λ ny. has_put_before y i t (list_at ls h) (s.covers h y was (sym (join.home_else y ny) ∙ e) n))
          (cases_eq y i));
      heads = heads_kept home i k few f head ls s.heads;
    }

pub Sound-push : (next prev home : List ℕ) (ls : List (List ℕ)) (i k : ℕ) → length next ≡ length home → length prev ≡ length home → IsFree home i → IsHead home k → Sound next prev home ls
    → Sound (set (set next (at prev k) i) i k) (set (set prev k i) i (at prev k)) (set home i k) (set ls k (list_at ls k ++ i ∷ []))
Sound-push next prev home ls i k ln lp f head s =
    let few : length home < free = s.few in
    let around = end_home (at next) (at prev) (home_at home) k k (list_at ls k) k head.own (s.rings k head) in
    let q_in : at prev k < length home = home_inside home (at prev k) (λ g. let a : k ≡ free = sym around.1 ∙ g in let b : k < length home = head.inside in omega arith) in
    let nq : at prev k ≡ i → ⊥ = free_out home i k few f head k head (at prev k) around.1 in
    let nt = not_free home i k few f head in
    let join = join_of next prev home i k k ln lp f.inside head.inside q_in nq nt around.0 in
    let long = length-set home i k in
    let new = list_at ls k ++ i ∷ [] in
    let headroom : k < length ls = omega (arith, s.counted, head.inside) in
    let own : list_at (set ls k new) k ≡ new = get_or-set_same ls k new [] headroom in
    let far : (h : ℕ) → (h ≡ k → ⊥) → list_at (set ls k new) h ≡ list_at ls h = λ h n. get_or-set_other ls k h new [] n in
    record {
      few = omega arith;
      counted = length-set ls k new ∙ s.counted ∙ sym long;
      rings = λ h p.
          let was = head_was home i k few f head h p in
          let nh = head_not home i k few f head h p in
          ⊎_elim
          (λ e. let up : list_at (set ls k new) h ≡ list_at ls h ++ i ∷ [] = ap (list_at (set ls k new)) e ∙ own ∙ ap (λ z. list_at ls z ++ i ∷ []) (sym e) in
          rw up (Ring-push _ _ _ _ _ _ i k k join h (free_out home i k few f head h was) (λ z. nh (sym z)) (sym e) (sym e) h (list_at ls h) nh (s.rings h was)))
          (λ n. rw (far h n) (Ring-keep _ _ _ _ _ _ i k k join h (free_out home i k few f head h was) (λ z. nh (sym z)) (λ z. n (sym z))
          (λ x e z. n (sym e ∙ ap (home_at home) z ∙ head.own)) h (list_at ls h) nh (s.rings h was)))
          (cases_eq h k);
      others = λ h n. far h (λ e. n (subst (IsHead (set home i k)) (sym e) (head_is home i k few f head k head))) ∙ s.others h (λ p. n (head_is home i k few f head h p));
      covers = λ h y p e n.
          let was = head_was home i k few f head h p in
          ⊎_elim
          (λ q.
          let kh : k ≡ h = sym join.home_new ∙ ap (home_at (set home i k)) (sym q) ∙ e in
          subst (λ z. has y (list_at (set ls k new) z) ≡ true) kh (rw (own, q) (has_pushed i (list_at ls k))))
          (λ ny.
          let old = s.covers h y was (sym (join.home_else y ny) ∙ e) n in
          ⊎_elim
          (λ z. subst (λ w. has y (list_at (set ls k new) w) ≡ true) (sym z) (rw own (has_push y i (list_at ls k) (subst (λ w. has y (list_at ls w) ≡ true) z old))))
          (λ z. rw (far h z) old)
          (cases_eq h k))
          (cases_eq y i);
      heads = heads_kept home i k few f head ls s.heads;
    }

pub links_join : (old new : List Link) (ls : List (List ℕ)) (i t : ℕ) → IsFree (homes old) i → IsItem (homes old) t → Sound (nexts old) (prevs old) (homes old) ls
    → nexts new ≡ set (set (nexts old) (at (prevs old) t) i) i t
    → prevs new ≡ set (set (prevs old) t i) i (at (prevs old) t)
    → homes new ≡ set (homes old) i (home_at (homes old) t)
    → Sound (nexts new) (prevs new) (homes new) (map (put_before i t) ls)
links_join old new ls i t f item s en ep eh =
    rw (en, ep, eh) (Sound-join (nexts old) (prevs old) (homes old) ls i t
    (length-map old (λ l. l.next) ∙ sym (length-map old (λ l. l.home)))
    (length-map old (λ l. l.prev) ∙ sym (length-map old (λ l. l.home))) f item s)

pub links_push : (old new : List Link) (ls : List (List ℕ)) (i k : ℕ) → IsFree (homes old) i → IsHead (homes old) k → Sound (nexts old) (prevs old) (homes old) ls
    → nexts new ≡ set (set (nexts old) (at (prevs old) k) i) i k
    → prevs new ≡ set (set (prevs old) k i) i (at (prevs old) k)
    → homes new ≡ set (homes old) i k
    → Sound (nexts new) (prevs new) (homes new) (set ls k (list_at ls k ++ i ∷ []))
links_push old new ls i k f head s en ep eh =
    rw (en, ep, eh) (Sound-push (nexts old) (prevs old) (homes old) ls i k
    (length-map old (λ l. l.next) ∙ sym (length-map old (λ l. l.home)))
    (length-map old (λ l. l.prev) ∙ sym (length-map old (λ l. l.home))) f head s)
