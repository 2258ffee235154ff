-- A free node becomes the head of an empty list; the head of an empty list is freed.
use Rattle.std.proofs.Common.{◌≡◌, ℕ, ◌<◌, ◌≤◌, List, [], ◌∷◌, set, refl, sym, ap, ◌∙◌, subst, length, true, ⊎_elim, arith, eqb, Some, slice_get}
use Rattle.std.proofs.lemmas.Bool.{cases_eq, cases_lt, false≢true, eq-eqb, or_left}
use Rattle.std.proofs.lemmas.List.{get_or_past, get_or-set_same, get_or-set_other, length-set, length-map}
use Rattle.ir_store_lists.specs.Lists.{free, list_at, home_at, IsHead, IsItem, IsFree, has, Laws}
use Rattle.ir_store_lists.specs.Ring.{Ring, Sound, Linked, linked_is, at, nexts, prevs, homes}
use Rattle.ir_store_lists.specs.declared.link.Link.{Link}
use Rattle.ir_store_lists.proofs.Joins.{not_free}
use Rattle.ir_store_lists.proofs.Around.{home_inside}
use Rattle.ir_store_lists.proofs.Grown.{of_all}

-- links that agree except at node i represent alike a list without i
module _ (nx pv hm nx' pv' hm' : ℕ → ℕ) (h i : ℕ) (far : (y : ℕ) → hm y ≡ h → y ≡ i → ⊥)
    (en : (y : ℕ) → (y ≡ i → ⊥) → nx' y ≡ nx y) (ep : (y : ℕ) → (y ≡ i → ⊥) → pv' y ≡ pv y) (eh : (y : ℕ) → (y ≡ i → ⊥) → hm' y ≡ hm y) where
  pub Ring-far : (a : ℕ) (xs : List ℕ) (b : ℕ) → (a ≡ i → ⊥) → (b ≡ i → ⊥) → Ring nx pv hm h a xs b → Ring nx' pv' hm' h a xs b
  Ring-far a [] b la lb r = (en a la ∙ r.0, ep b lb ∙ r.1)
  Ring-far a (x ∷ xs) b la lb r =
      let lx = far x r.1.0.0 in
      ((en a la ∙ r.0.0, ep x lx ∙ r.0.1), ((eh x lx ∙ r.1.0.0, r.1.0.1), Ring-far x xs b lx lb r.1.1))

pub Sound-close : (next prev home : List ℕ) (ls : List (List ℕ)) (i : ℕ) → length next ≡ length home → length prev ≡ length home → IsFree home i → Sound next prev home ls
    → Sound (set next i i) (set prev i i) (set home i i) ls
Sound-close next prev home ls i ln lp f s =
    let few : length home < free = s.few in
    let here : i < length home = f.inside in
    let home' = set home i i in
    let long : length home' ≡ length home = length-set home i i in
    let own : home_at home' i ≡ i = get_or-set_same home i i free here in
    let else_next : (y : ℕ) → (y ≡ i → ⊥) → at (set next i i) y ≡ at next y = λ y n. get_or-set_other next i y i 0 n in
    let else_prev : (y : ℕ) → (y ≡ i → ⊥) → at (set prev i i) y ≡ at prev y = λ y n. get_or-set_other prev i y i 0 n in
    let else_home : (y : ℕ) → (y ≡ i → ⊥) → home_at home' y ≡ home_at home y = λ y n. get_or-set_other home i y i free n in
    let was : (h : ℕ) → (h ≡ i → ⊥) → IsHead home' h → IsHead home h = λ h n p. record { inside = omega (arith, p.inside, long); own = sym (else_home h n) ∙ p.own } in
    let is : (h : ℕ) → IsHead home h → IsHead home' h = λ h p. record { inside = omega (arith, p.inside, long); own = else_home h (not_free home i h few f p) ∙ p.own } in
    let self : IsHead home' i = record { inside = omega (arith, here, long); own = own } in
    let nothing : list_at ls i ≡ [] = s.others i (λ p. not_free home i i few f p refl) in
    let out : (h : ℕ) → IsHead home h → (y : ℕ) → home_at home y ≡ h → y ≡ i → ⊥ = λ h p y e q.
    let a : h ≡ free = sym e ∙ ap (home_at home) q ∙ f.unlinked in
    let b : h < length home = p.inside in
    omega arith in
    record {
      few = omega arith;
      counted = s.counted ∙ sym long;
      rings = λ h p. ⊎_elim
          (λ e. subst (λ z. Ring (at (set next i i)) (at (set prev i i)) (home_at home') z z (list_at ls z) z) (sym e)
          (rw nothing (get_or-set_same next i i 0 (omega arith), get_or-set_same prev i i 0 (omega arith))))
          (λ n. Ring-far (at next) (at prev) (home_at home) _ _ _ h i (out h (was h n p)) else_next else_prev else_home h (list_at ls h) h n n (s.rings h (was h n p)))
          (cases_eq h i);
      others = λ h n. ⊎_elim
          (λ e. ap (list_at ls) e ∙ nothing)
          (λ _. s.others h (λ p. n (is h p)))
          (cases_eq h i);
      covers = λ h y p e n. ⊎_elim
          (λ q. absurd (n (q ∙ sym own ∙ ap (home_at home') (sym q) ∙ e)))
          (λ q.
          let old : home_at home y ≡ h = sym (else_home y q) ∙ e in
          ⊎_elim
          (λ w.
          -- no node has node i, which was no head, as its head
          let l : y < length home = (⊎_elim (λ z. z) (λ z. absurd (let g : free ≡ i = sym (get_past home y z) ∙ old ∙ w in omega arith)) (cases_lt y (length home))) in
          let item : IsItem home y = record { inside = l; linked = λ g. (let z : i ≡ free = sym w ∙ sym old ∙ g in omega arith); other = λ g. q (sym g ∙ old ∙ w) } in
          absurd (not_free home i (home_at home y) few f (s.heads y item) (old ∙ w)))
          (λ w. s.covers h y (was h w p) old n)
          (cases_eq h i))
          (cases_eq y i);
      heads = λ y p. ⊎_elim
          (λ q. absurd (p.other (ap (home_at home') q ∙ own ∙ sym q)))
          (λ q.
          let same = else_home y q in
          let old : IsItem home y = record { inside = omega (arith, p.inside, long); linked = λ g. p.linked (same ∙ g); other = λ g. p.other (same ∙ g) } in
          subst (IsHead home') (sym same) (is (home_at home y) (s.heads y old)))
          (cases_eq y i);
    }
  where
    get_past : (home : List ℕ) (y : ℕ) → length home ≤ y → home_at home y ≡ free
    get_past home y l = get_or_past home y free l

pub Sound-open : (next prev home : List ℕ) (ls : List (List ℕ)) (k : ℕ) → IsHead home k → list_at ls k ≡ [] → Sound next prev home ls
    → Sound next prev (set home k free) ls
Sound-open next prev home ls k head nothing s =
    let few : length home < free = s.few in
    let here : k < length home = head.inside in
    let home' = set home k free in
    let long : length home' ≡ length home = length-set home k free in
    let own : home_at home' k ≡ free = get_or-set_same home k free free here in
    let else_home : (y : ℕ) → (y ≡ k → ⊥) → home_at home' y ≡ home_at home y = λ y n. get_or-set_other home k y free free n in
    let not_k : (h : ℕ) → IsHead home' h → h ≡ k → ⊥ = λ h p e.
    let a : h ≡ free = sym p.own ∙ ap (home_at home') e ∙ own in
    let b : h < length home' = p.inside in
    omega (arith, long) in
    let was : (h : ℕ) → IsHead home' h → IsHead home h = λ h p. record { inside = omega (arith, p.inside, long); own = sym (else_home h (not_k h p)) ∙ p.own } in
    let is : (h : ℕ) → (h ≡ k → ⊥) → IsHead home h → IsHead home' h = λ h n p. record { inside = omega (arith, p.inside, long); own = else_home h n ∙ p.own } in
    record {
      few = omega arith;
      counted = s.counted ∙ sym long;
      rings = λ h p. Ring-far (at next) (at prev) (home_at home) _ _ _ h k
          (λ y e q. not_k h p (sym (sym head.own ∙ ap (home_at home) (sym q) ∙ e))) (λ _ _. refl) (λ _ _. refl) else_home h (list_at ls h) h (not_k h p) (not_k h p) (s.rings h (was h p));
      others = λ h n. ⊎_elim
          (λ e. ap (list_at ls) e ∙ nothing)
          (λ e. s.others h (λ p. n (is h e p)))
          (cases_eq h k);
      covers = λ h y p e n.
          let ny : y ≡ k → ⊥ = λ q. (let a : h ≡ free = sym e ∙ ap (home_at home') q ∙ own in let b : h < length home' = p.inside in omega (arith, long)) in
          s.covers h y (was h p) (sym (else_home y ny) ∙ e) n;
      heads = λ y p.
          let ny : y ≡ k → ⊥ = λ q. p.linked (ap (home_at home') q ∙ own) in
          let same = else_home y ny in
          let old : IsItem home y = record { inside = omega (arith, p.inside, long); linked = λ g. p.linked (same ∙ g); other = λ g. p.other (same ∙ g) } in
          subst (IsHead home') (sym same) (is (home_at home y)
          (λ z. absurd (false≢true (ap (has y) (sym nothing) ∙ subst (λ w. has y (list_at ls w) ≡ true) z (s.covers (home_at home y) y (s.heads y old) refl (λ w. old.other (sym w))))))
          (s.heads y old));
    }

-- the same for the links themselves
pub links_close : (old new : List Link) (ls : List (List ℕ)) (i : ℕ) → IsFree (homes old) i → Sound (nexts old) (prevs old) (homes old) ls
    → nexts new ≡ set (nexts old) i i
    → prevs new ≡ set (prevs old) i i
    → homes new ≡ set (homes old) i i
    → Sound (nexts new) (prevs new) (homes new) ls
links_close old new ls i f s en ep eh =
    rw (en, ep, eh) (Sound-close (nexts old) (prevs old) (homes old) ls i
    (length-map old (λ l. l.next) ∙ sym (length-map old (λ l. l.home)))
    (length-map old (λ l. l.prev) ∙ sym (length-map old (λ l. l.home))) f s)

pub links_open : (old new : List Link) (ls : List (List ℕ)) (k : ℕ) → IsHead (homes old) k → list_at ls k ≡ [] → Sound (nexts old) (prevs old) (homes old) ls
    → nexts new ≡ nexts old
    → prevs new ≡ prevs old
    → homes new ≡ set (homes old) k free
    → Sound (nexts new) (prevs new) (homes new) ls
links_open old new ls k head nothing s en ep eh =
    rw (en, ep, eh) (Sound-open (nexts old) (prevs old) (homes old) ls k head nothing s)

-- the view of links that represent these lists
pub view_of : (links : List Link) (headroom : ℕ) (y : Linked links) (ls : List (List ℕ)) (hs : List ℕ) → Sound (nexts links) (prevs links) (homes links) ls → homes links ≡ hs → of_all y.0 (homes links) headroom ≡ of_all ls hs headroom
view_of links headroom y ls hs s e = λ i. of_all (linked_is links y ls s i) (e i) headroom

-- the view of equal links
pub view_same : (old new : List Link) (headroom : ℕ) → new ≡ old → (x : Linked old) (y : Linked new) → of_all y.0 (homes new) headroom ≡ of_all x.0 (homes old) headroom
view_same old new headroom e x y = view_of new headroom y x.0 (homes old) (subst (λ z. Sound (nexts z) (prevs z) (homes z) x.0) (sym e) x.1) (ap homes e)

-- the first node of a list is in the list
pub first_item : (lists : List (List ℕ)) (hs : List ℕ) (h n : ℕ) → Laws lists hs → IsHead hs h → Some n ≡ slice_get (list_at lists h) 0 → IsItem hs n
first_item lists hs h n laws head e =
    let m = laws.members h n (is_there (list_at lists h) e) in
    let few : length hs < free = laws.few in
    let inside : h < length hs = head.inside in
    let linked : home_at hs n ≡ free → ⊥ = λ f. (let g : h ≡ free = sym m.0 ∙ f in omega arith) in
    record { inside = home_inside hs n linked; linked = linked; other = λ f. m.1 (sym f ∙ m.0) }
  where
    is_there : (xs : List ℕ) → Some n ≡ slice_get xs 0 → has n xs ≡ true
    is_there [] e = (cc)
    is_there (x ∷ xs) e = (let z : x ≡ n = (cc) in or_left (eqb x n) (has n xs) (eq-eqb x n z))
