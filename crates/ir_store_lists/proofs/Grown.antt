-- Adding a node.
use Rattle.std.proofs.Common.{◌≡◌, ℕ, ◌+◌, ◌<◌, List, [], ◌∷◌, ◌++◌, map, refl, sym, ap, ◌∙◌, subst, length, ⊎_elim, ◌-◌, ◌⊎◌, arith}
use Rattle.std.proofs.lemmas.Bool.{cases_eq, cases_lt}
use Rattle.std.proofs.lemmas.List.{get_or_past, get_or_append_left, get_or_push, length_push, length-map, map_push}
use Rattle.ir_store_lists.specs.Lists.{Lists, free, list_at, home_at, IsHead, IsItem, with_node}
use Rattle.ir_store_lists.specs.Ring.{Ring, Sound, Linked, linked_is, at, nexts, prevs, homes}
use Rattle.ir_store_lists.specs.declared.link.Link.{Link}
use Rattle.ir_store_lists.proofs.Around.{home_inside}

-- links that agree at a list's nodes represent it alike
module _ (nx pv hm nx' pv' hm' : ℕ → ℕ) (h n : ℕ) (inside : (y : ℕ) → hm y ≡ h → y < n)
    (en : (y : ℕ) → y < n → nx' y ≡ nx y) (ep : (y : ℕ) → y < n → pv' y ≡ pv y) (eh : (y : ℕ) → y < n → hm' y ≡ hm y) where
  pub Ring-agree : (a : ℕ) (xs : List ℕ) (b : ℕ) → a < n → b < n → Ring nx pv hm h a xs b → Ring nx' pv' hm' h a xs b
  Ring-agree a [] b la lb r = (en a la ∙ r.0, ep b lb ∙ r.1)
  Ring-agree a (x ∷ xs) b la lb r =
      let lx = inside x r.1.0.0 in
      ((en a la ∙ r.0.0, ep x lx ∙ r.0.1), ((eh x lx ∙ r.1.0.0, r.1.0.1), Ring-agree x xs b lx lb r.1.1))

-- the new node is the head of an empty list, or free
pub Sound-grow : (next prev home : List ℕ) (ls : List (List ℕ)) (n k : ℕ) → length next ≡ length home → length prev ≡ length home → length home ≡ n → n + 1 < free → (k ≡ n) ⊎ (k ≡ free) → Sound next prev home ls
    → Sound (next ++ n ∷ []) (prev ++ n ∷ []) (home ++ k ∷ []) (ls ++ [] ∷ [])
Sound-grow next prev home ls n k ln lp lh small kind s =
    let long = length_push home k in
    let lists_long = length_push ls [] in
    let at_next : (y : ℕ) → y < n → at (next ++ n ∷ []) y ≡ at next y = λ y l. get_or_append_left next (n ∷ []) 0 y (omega (arith, ln)) in
    let at_prev : (y : ℕ) → y < n → at (prev ++ n ∷ []) y ≡ at prev y = λ y l. get_or_append_left prev (n ∷ []) 0 y (omega (arith, lp)) in
    let at_home : (y : ℕ) → y < n → home_at (home ++ k ∷ []) y ≡ home_at home y = λ y l. get_or_append_left home (k ∷ []) free y (omega arith) in
    let last_home : home_at (home ++ k ∷ []) n ≡ k = get_or_push home k free n lh in
    let list_old : (h : ℕ) → h < n → list_at (ls ++ [] ∷ []) h ≡ list_at ls h = λ h l. get_or_append_left ls ([] ∷ []) [] h (omega (arith, s.counted)) in
    let list_new : list_at (ls ++ [] ∷ []) n ≡ [] = get_or_push ls [] [] n (s.counted ∙ lh) in
    let was : (h : ℕ) → h < n → IsHead (home ++ k ∷ []) h → IsHead home h = λ h l p. record { inside = omega arith; own = sym (at_home h l) ∙ p.own } in
    let is : (h : ℕ) → IsHead home h → IsHead (home ++ k ∷ []) h = λ h p. record { inside = omega (arith, p.inside); own = at_home h (omega (arith, p.inside)) ∙ p.own } in
    let below : (h : ℕ) → IsHead (home ++ k ∷ []) h → (h ≡ n → ⊥) → h < n = λ h p ne. omega (arith, p.inside) in
    -- no node has a head that doesn't exist yet
    let none : (i : ℕ) → i < n → home_at home i ≡ n → ⊥ = λ i l e.
    let item : IsItem home i = record { inside = omega arith; linked = λ f. omega arith; other = λ f. omega arith } in
    let p = s.heads i item in
    omega (arith, p.inside) in
    record {
      few = omega arith;
      counted = lists_long ∙ ap (λ z. z + 1) s.counted ∙ sym long;
      rings = λ h p. ⊎_elim
          (λ e.
          let own : (home_at (home ++ k ∷ []) n ≡ n) = ap (home_at (home ++ k ∷ [])) (sym e) ∙ p.own ∙ e in
          subst (λ z. Ring (at (next ++ n ∷ [])) (at (prev ++ n ∷ [])) (home_at (home ++ k ∷ [])) z z (list_at (ls ++ [] ∷ []) z) z) (sym e)
          (rw list_new (get_or_push next n 0 n (ln ∙ lh), get_or_push prev n 0 n (lp ∙ lh))))
          (λ ne.
          let l = below h p ne in
          rw (list_old h l) (Ring-agree (at next) (at prev) (home_at home) _ _ _ h n
          (λ y e. let i = home_inside home y (λ f. omega arith) in omega arith) at_next at_prev at_home h (list_at ls h) h l l (s.rings h (was h l p))))
          (cases_eq h n);
      others = λ h ne. ⊎_elim
          (λ l. list_old h l ∙ s.others h (λ p. ne (is h p)))
          (λ g. ⊎_elim (λ e. ap (list_at (ls ++ [] ∷ [])) e ∙ list_new) (λ z. get_or_past (ls ++ [] ∷ []) h [] (omega (arith, s.counted))) (cases_eq h n))
          (cases_lt h n);
      covers = λ h i p e ne. ⊎_elim
          (λ l. ⊎_elim
          (λ z. absurd (none i l (sym (at_home i l) ∙ e ∙ z)))
          (λ z. let lh' = below h p z in rw (list_old h lh') (s.covers h i (was h lh' p) (sym (at_home i l) ∙ e) ne))
          (cases_eq h n))
          (λ g. ⊎_elim
          (λ z.
          let kh : k ≡ h = sym last_home ∙ ap (home_at (home ++ k ∷ [])) (sym z) ∙ e in
          let hi : h < length (home ++ k ∷ []) = p.inside in
          absurd (⊎_elim (λ w. ne (z ∙ sym w ∙ kh)) (λ w. omega arith) kind))
          (λ z.
          let past : home_at (home ++ k ∷ []) i ≡ free = get_or_past (home ++ k ∷ []) i free (omega arith) in
          let hi : h < length (home ++ k ∷ []) = p.inside in
          absurd (omega arith))
          (cases_eq i n))
          (cases_lt i n);
      heads = λ i p. ⊎_elim
          (λ l.
          let old : IsItem home i = record { inside = omega arith; linked = λ f. p.linked (at_home i l ∙ f); other = λ f. p.other (at_home i l ∙ f) } in
          subst (IsHead (home ++ k ∷ [])) (sym (at_home i l)) (is (home_at home i) (s.heads i old)))
          (λ g.
          let e : i ≡ n = omega (arith, p.inside) in
          let own : home_at (home ++ k ∷ []) i ≡ k = ap (home_at (home ++ k ∷ [])) e ∙ last_home in
          absurd (⊎_elim (λ w. p.other (own ∙ w ∙ sym e)) (λ w. p.linked (own ∙ w)) kind))
          (cases_lt i n);
    }

pub links_grow : (old : List Link) (ls : List (List ℕ)) (n k : ℕ) → length old ≡ n → n + 1 < free → (k ≡ n) ⊎ (k ≡ free) → Sound (nexts old) (prevs old) (homes old) ls
    → (new : List Link) → new ≡ old ++ record { prev = n; next = n; home = k } ∷ [] → Sound (nexts new) (prevs new) (homes new) (ls ++ [] ∷ [])
links_grow old ls n k l small kind s new e =
    rw (e, map_push (λ (z : Link). z.next) old (record { prev = n; next = n; home = k }), map_push (λ (z : Link). z.prev) old (record { prev = n; next = n; home = k }), map_push (λ (z : Link). z.home) old (record { prev = n; next = n; home = k }))
    (Sound-grow (nexts old) (prevs old) (homes old) ls n k
    (length-map old (λ z. z.next) ∙ sym (length-map old (λ z. z.home)))
    (length-map old (λ z. z.prev) ∙ sym (length-map old (λ z. z.home)))
    (length-map old (λ z. z.home) ∙ l) small kind s)

abbrev pub of_all : List (List ℕ) → List ℕ → ℕ → Lists
of_all ls hs headroom = record { lists = ls; homes = hs; headroom = headroom }

-- the lists that links represent after a node is added
pub grow_linked : (old new : List Link) (k : ℕ) → (k ≡ length old) ⊎ (k ≡ free) → length old + 1 < free → new ≡ old ++ record { prev = length old; next = length old; home = k } ∷ [] → Linked old → Linked new
grow_linked old new k e small m x = (x.0 ++ [] ∷ [], links_grow old x.0 (length old) k refl small e x.1 new m)

pub view_grown : (old new : List Link) (k headroom : ℕ) → (k ≡ length old) ⊎ (k ≡ free) → length old + 1 < free → new ≡ old ++ record { prev = length old; next = length old; home = k } ∷ [] → (x : Linked old) (y : Linked new) (v : Lists)
    → of_all x.0 (homes old) headroom ≡ v → of_all y.0 (homes new) (headroom - 1) ≡ with_node k v
view_grown old new k headroom e small m x y v s =
    let lists = linked_is new y (x.0 ++ [] ∷ []) (links_grow old x.0 (length old) k refl small e x.1 new m) in
    let hs = ap (map (λ (z : Link). z.home)) m ∙ map_push (λ (z : Link). z.home) old (record { prev = length old; next = length old; home = k }) in
    let same : of_all y.0 (homes new) (headroom - 1) ≡ with_node k (of_all x.0 (homes old) headroom) = λ i. of_all (lists i) (hs i) (headroom - 1) in
    same ∙ ap (with_node k) s
