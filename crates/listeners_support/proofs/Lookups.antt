-- Lookups in the entries of a map from ids.
use Rattle.std.proofs.Common.{◌≡◌, ◌⊎◌, inl, inr, ℕ, zero, suc, ◌+◌, ◌<◌, ◌≤◌, true, false, cond, List, [], ◌∷◌, ◌++◌, length, get_or, Option, Some, None, refl, sym, ap, ◌∙◌, arith, eq-eqb, ne_eqb, Less, Equal, Greater, nat_cmp}
use Rattle.std.specs.Cmp.{nat_cmp_is, unsigned_tied}
use Rattle.std.specs.List.{AllByRecursion}
use Rattle.std.specs.List.Sorted.{IsStrictlySortedBy}
use Rattle.std.specs.BTreeMap.{BTreeMap, is_at}
use Rattle.std.specs.Map.{lookup, keys_of}
use Rattle.std.proofs.lemmas.Bool.{cases_lt}
use Rattle.std.proofs.lemmas.List.{get_or_default}
use Rattle.listeners_support.specs.Map.{entries_from, AreAfter}

pub less_is : (x y : ℕ) → x < y → nat_cmp x y ≡ Less
less_is x y l = sym (nat_cmp_is x y Less l)

pub equal_is : (x : ℕ) → nat_cmp x x ≡ Equal
equal_is x = sym (nat_cmp_is x x Equal refl)

pub greater_is : (x y : ℕ) → y < x → nat_cmp x y ≡ Greater
greater_is x y l = sym (nat_cmp_is x y Greater l)

module _ {V : Type 0} where
  abbrev pub look : List (ℕ × V) → ℕ → Option V
  look es x = lookup (is_at (nat_cmp x)) es

  pub look_here : (x : ℕ) (v : V) (es : List (ℕ × V)) → look ((x, v) ∷ es) x ≡ Some v
  look_here x v es = ap (λ b. cond b (Some v) (look es x)) (unsigned_tied x x ∙ eq-eqb x x refl)

  pub look_past : (x y : ℕ) (v : V) (es : List (ℕ × V)) → (x ≡ y → ⊥) → look ((y, v) ∷ es) x ≡ look es x
  look_past x y v es n = ap (λ b. cond b (Some v) (look es x)) (unsigned_tied x y ∙ ne_eqb x y n)

  -- no id of the entries is below a number
  abbrev pub From : ℕ → List (ℕ × V) → Type 0
  From x [] = Unit {0}
  From x (e ∷ es) = (x ≤ e.0) × From x es

  pub none_below : (x n : ℕ) (es : List (ℕ × V)) → x < n → From n es → look es x ≡ None
  none_below x n [] l f = refl
  none_below x n (e ∷ es) l f =
      let first : n ≤ e.0 = f.0 in
      look_past x e.0 e.1 es (λ q. omega (arith, q, l, first)) ∙ none_below x n es l f.1

  pub from_looks : (n : ℕ) (es : List (ℕ × V)) → ((x : ℕ) → x < n → look es x ≡ None) → From n es
  from_looks n [] h = tt
  from_looks n (e ∷ es) h = (first, from_looks n es (λ x l. sym (look_past x e.0 e.1 es (λ q. omega (arith, q, l, first))) ∙ h x l))
    where
      first : n ≤ e.0
      first = elim (cases_lt e.0 n) [
        | inl l ↦ let bad : Some e.1 ≡ None = sym (look_here e.0 e.1 es) ∙ h e.0 l in absurd cc
        | inr g ↦ g
      ]

  pub from_less : (m n : ℕ) (es : List (ℕ × V)) → m ≤ n → From n es → From m es
  from_less m n [] l f = tt
  from_less m n (e ∷ es) l f =
      let first : n ≤ e.0 = f.0 in
      (omega (arith, l, first), from_less m n es l f.1)

  pub from_entries : (n : ℕ) (slots : List (Option V)) (far : List (ℕ × V)) → From (n + length slots) far → From n (entries_from n slots ++ far)
  from_entries n [] far f = from_less n (n + length {A = Option V} []) far (omega arith) f
  from_entries n (None ∷ slots) far f =
      from_less n (n + 1) (entries_from (n + 1) slots ++ far) (omega arith) (from_entries (n + 1) slots far (from_less (n + 1 + length slots) (n + length (None ∷ slots)) far (omega arith) f))
  from_entries n (Some v ∷ slots) far f = (
    omega arith,
    from_less n (n + 1) (entries_from (n + 1) slots ++ far) (omega arith) (from_entries (n + 1) slots far (from_less (n + 1 + length slots) (n + length (Some v ∷ slots)) far (omega arith) f)),
  )

  -- the value of an id in the list
  pub found_near : (n i : ℕ) (slots : List (Option V)) (far : List (ℕ × V)) → i < length slots → From (n + length slots) far → look (entries_from n slots ++ far) (n + i) ≡ get_or slots i None
  found_near n i [] far l f = absurd (omega (arith, l))
  found_near n zero (None ∷ slots) far l f =
      ap (look (entries_from (n + 1) slots ++ far)) (omega arith)
      ∙ none_below n (n + 1) (entries_from (n + 1) slots ++ far) (omega arith) (from_entries (n + 1) slots far (from_less (n + 1 + length slots) (n + length (None ∷ slots)) far (omega arith) f))
  found_near n zero (Some v ∷ slots) far l f = ap (look ((n, v) ∷ (entries_from (n + 1) slots ++ far))) (omega arith) ∙ look_here n v (entries_from (n + 1) slots ++ far)
  found_near n (suc i) (None ∷ slots) far l f =
      ap (look (entries_from (n + 1) slots ++ far)) (omega arith)
      ∙ found_near (n + 1) i slots far (omega (arith, l)) (from_less (n + 1 + length slots) (n + length (None ∷ slots)) far (omega arith) f)
  found_near n (suc i) (Some v ∷ slots) far l f =
      look_past (n + suc i) n v (entries_from (n + 1) slots ++ far) (λ q. omega (arith, q))
      ∙ ap (look (entries_from (n + 1) slots ++ far)) (omega arith)
      ∙ found_near (n + 1) i slots far (omega (arith, l)) (from_less (n + 1 + length slots) (n + length (Some v ∷ slots)) far (omega arith) f)

  -- the value of an id past the list
  pub found_far : (n x : ℕ) (slots : List (Option V)) (far : List (ℕ × V)) → n + length slots ≤ x → look (entries_from n slots ++ far) x ≡ look far x
  found_far n x [] far l = refl
  found_far n x (None ∷ slots) far l = found_far (n + 1) x slots far (omega (arith, l))
  found_far n x (Some v ∷ slots) far l = look_past x n v (entries_from (n + 1) slots ++ far) (λ q. omega (arith, q, l)) ∙ found_far (n + 1) x slots far (omega (arith, l))

  -- the ids ascend
  above : (x n : ℕ) (es : List (ℕ × V)) → x < n → From n es → AllByRecursion (λ y. nat_cmp x y ≡ Less) (keys_of es)
  above x n [] l f = tt
  above x n (e ∷ es) l f =
      let first : n ≤ e.0 = f.0 in
      (less_is x e.0 (omega (arith, l, first)), above x n es l f.1)

  pub entries_rise : (n : ℕ) (slots : List (Option V)) (far : List (ℕ × V)) → From (n + length slots) far → IsStrictlySortedBy nat_cmp (keys_of far) → IsStrictlySortedBy nat_cmp (keys_of (entries_from n slots ++ far))
  unfolding IsStrictlySortedBy
  entries_rise n [] far f s = s
  entries_rise n (None ∷ slots) far f s = entries_rise (n + 1) slots far (from_less (n + 1 + length slots) (n + length (None ∷ slots)) far (omega arith) f) s
  entries_rise n (Some v ∷ slots) far f s =
      let trailing = from_less (n + 1 + length slots) (n + length (Some v ∷ slots)) far (omega arith) f in
      (above n (n + 1) (entries_from (n + 1) slots ++ far) (omega arith) (from_entries (n + 1) slots far trailing), entries_rise (n + 1) slots far trailing s)

module _ {V : Type 0} where
  -- no id of the sorted map is below the length of the list
  pub after_from : (n : ℕ) (far : BTreeMap ℕ V) → AreAfter n far → From n far.entries
  after_from n far b = from_looks n far.entries b

  pub after_kept : (n x : ℕ) (o : Option V) (far later : BTreeMap ℕ V) → n ≤ x → AreAfter n far → ((y : ℕ) → look later.entries y ≡ cond (is_at (nat_cmp x) y) o (look far.entries y)) → AreAfter n later
  after_kept n x o far later l b h y m = h y ∙ ap (λ t. cond t o (look far.entries y)) (unsigned_tied x y ∙ ne_eqb x y (λ e. omega (arith, e, m, l))) ∙ b y m

  pub get_near : (slots : List (Option V)) (far : BTreeMap ℕ V) (x : ℕ) (d : Option V) → AreAfter (length slots) far → x < length slots → look (entries_from 0 slots ++ far.entries) x ≡ get_or slots x d
  get_near slots far x d b l =
      ap (look (entries_from 0 slots ++ far.entries)) (omega arith)
      ∙ found_near 0 x slots far.entries l (from_less (0 + length slots) (length slots) far.entries (omega arith) (after_from (length slots) far b))
      ∙ get_or_default slots x None d l

  pub get_far : (slots : List (Option V)) (far : BTreeMap ℕ V) (x : ℕ) → length slots ≤ x → look (entries_from 0 slots ++ far.entries) x ≡ look far.entries x
  get_far slots far x l = found_far 0 x slots far.entries (omega (arith, l))

  pub all_rise : (slots : List (Option V)) (far : BTreeMap ℕ V) → AreAfter (length slots) far → IsStrictlySortedBy nat_cmp (keys_of far.entries) → IsStrictlySortedBy nat_cmp (keys_of (entries_from 0 slots ++ far.entries))
  all_rise slots far b s = entries_rise 0 slots far.entries (from_less (0 + length slots) (length slots) far.entries (omega arith) (after_from (length slots) far b)) s
