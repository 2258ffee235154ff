-- The lists that the links of nodes represent.
use Rattle.std.specs.Prelude.{ℕ, List, [], ◌∷◌, ◌≡◌, ◌+◌, ◌<◌, ◌≤◌, length, true, get_or, map, ◌⊎◌}
use Rattle.std.proofs.Common.{arith, ◌∙◌, sym, refl, subst, ⊎_elim, inl, inr}
use Rattle.std.specs.Coded.{Coded-set, coded_ℕ, coded_list, coded_bool, ×_prop, Π_prop, le_prop}
use Rattle.std.proofs.lemmas.List.{ext_get_or}
use Rattle.std.proofs.lemmas.Bool.{cases_eq, cases_lt}
use mathlib.Core.HLevel.{Σ_prop_path, ⊥_prop}
use Rattle.ir_store_lists.specs.Lists.{free, list_at, home_at, IsHead, IsItem, has}
use Rattle.ir_store_lists.specs.declared.link.Link.{Link}

abbrev pub nexts : List Link → List ℕ
nexts = map (λ l. l.next)

abbrev pub prevs : List Link → List ℕ
prevs = map (λ l. l.prev)

abbrev pub homes : List Link → List ℕ
homes = map (λ l. l.home)

abbrev pub at : List ℕ → ℕ → ℕ
at xs i = get_or xs i 0

-- the links lead from a through xs to b and back, and xs are nodes of the list of h
abbrev pub Ring : (ℕ → ℕ) → (ℕ → ℕ) → (ℕ → ℕ) → ℕ → ℕ → List ℕ → ℕ → Type 0
Ring nx pv hm h a [] b = (nx a ≡ b) × (pv b ≡ a)
Ring nx pv hm h a (x ∷ xs) b = ((nx a ≡ x) × (pv x ≡ a)) × (((hm x ≡ h) × (x ≡ h → ⊥)) × Ring nx pv hm h x xs b)

-- the links represent these lists, one for each head
pub record Sound (next prev home : List ℕ) (ls : List (List ℕ)) : Type 0 where
  pub few : length home < free
  pub counted : length ls ≡ length home
  pub rings : (h : ℕ) → IsHead home h → Ring (at next) (at prev) (home_at home) h h (list_at ls h) h
  pub others : (h : ℕ) → (IsHead home h → ⊥) → list_at ls h ≡ []
  pub covers : (h i : ℕ) → IsHead home h → home_at home i ≡ h → (i ≡ h → ⊥) → has i (list_at ls h) ≡ true
  pub heads : (i : ℕ) → IsItem home i → IsHead home (home_at home i)

ℕ_set : (m n : ℕ) → IsProp (m ≡ n)
ℕ_set = Coded-set coded_ℕ

pub Ring-prop : (nx pv hm : ℕ → ℕ) (h a : ℕ) (xs : List ℕ) (b : ℕ) → IsProp (Ring nx pv hm h a xs b)
Ring-prop nx pv hm h a [] b = ×_prop (ℕ_set _ _) (ℕ_set _ _)
Ring-prop nx pv hm h a (x ∷ xs) b =
    ×_prop (×_prop (ℕ_set _ _) (ℕ_set _ _)) (×_prop (×_prop (ℕ_set _ _) (Π_prop (λ _. ⊥_prop))) (Ring-prop nx pv hm h x xs b))

pub Sound-prop : (next prev home : List ℕ) (ls : List (List ℕ)) → IsProp (Sound next prev home ls)
Sound-prop next prev home ls x y = λ i. record {
  few = le_prop x.few y.few i;
  counted = ℕ_set _ _ x.counted y.counted i;
  rings = λ h k. Ring-prop (at next) (at prev) (home_at home) h h (list_at ls h) h (x.rings h k) (y.rings h k) i;
  others = λ h k. Coded-set (coded_list coded_ℕ) (list_at ls h) [] (x.others h k) (y.others h k) i;
  covers = λ h k p q r. Coded-set coded_bool _ _ (x.covers h k p q r) (y.covers h k p q r) i;
  heads = λ k p. record { inside = le_prop (x.heads k p).inside (y.heads k p).inside i; own = ℕ_set _ _ (x.heads k p).own (y.heads k p).own i };
}

-- two lists that the same links represent are equal
pub Ring-one : (nx pv hm : ℕ → ℕ) (h a : ℕ) (xs ys : List ℕ) → Ring nx pv hm h a xs h → Ring nx pv hm h a ys h → xs ≡ ys
Ring-one nx pv hm h a [] [] r s = refl
Ring-one nx pv hm h a [] (y ∷ ys) r s = absurd (s.1.0.1 (sym s.0.0 ∙ r.0))
Ring-one nx pv hm h a (x ∷ xs) [] r s = absurd (r.1.0.1 (sym r.0.0 ∙ s.0))
Ring-one nx pv hm h a (x ∷ xs) (y ∷ ys) r s =
    let e : x ≡ y = sym r.0.0 ∙ s.0.0 in
    λ i. e i ∷ Ring-one nx pv hm h y xs ys (subst (λ z. Ring nx pv hm h z xs h) e r.1.1) s.1.1 i

pub cases_head : (home : List ℕ) (h : ℕ) → IsHead home h ⊎ (IsHead home h → ⊥)
cases_head home h =
    ⊎_elim
    (λ l. ⊎_elim (λ e. inl (record { inside = l; own = e })) (λ n. inr (λ k. n k.own)) (cases_eq (home_at home h) h))
    (λ g. inr (λ k. absurd (omega (arith, k.inside))))
    (cases_lt h (length home))

pub Sound-one : (next prev home : List ℕ) (ls ms : List (List ℕ)) → Sound next prev home ls → Sound next prev home ms → ls ≡ ms
Sound-one next prev home ls ms x y =
    ext_get_or [] ls ms (x.counted ∙ sym y.counted) (λ h k. ⊎_elim
    (λ p. Ring-one _ _ _ h h (list_at ls h) (list_at ms h) (x.rings h p) (y.rings h p))
    (λ n. x.others h n ∙ sym (y.others h n))
    (cases_head home h))

-- the lists that links represent: they are unique, so this type is a proposition
abbrev pub Linked : List Link → Type 0
Linked links = (ls : List (List ℕ)) × Sound (nexts links) (prevs links) (homes links) ls

pub Linked-prop : (links : List Link) → IsProp (Linked links)
Linked-prop links x y =
    Σ_prop_path (Sound-prop (nexts links) (prevs links) (homes links)) {u = x} {v = y} (Sound-one (nexts links) (prevs links) (homes links) x.0 y.0 x.1 y.1)

-- there is capacity for this many more links, and no node has the number `free`
pub record HasHeadroom (count capacity headroom : ℕ) : Type 0 where
  pub within : count + headroom ≤ capacity
  pub few : count + headroom < free

-- the lists of links are those that the links represent
pub linked_is : (links : List Link) (x : Linked links) (ls : List (List ℕ)) → Sound (nexts links) (prevs links) (homes links) ls → x.0 ≡ ls
linked_is links x ls s = Sound-one (nexts links) (prevs links) (homes links) x.0 ls x.1 s
