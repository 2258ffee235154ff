-- If each operation of a tree computes its outcome or a refinement, there are outcomes that fit. As long as an
-- operation has poison as its outcome and computes a number, its outcome becomes the number.
use Rattle.std.proofs.Common.{◌≡◌, ℕ, zero, suc, ◌+◌, ◌≤◌, refl, ap, sym, ◌∙◌, subst, List, [], ◌∷◌, map, Bool, true, false, true≢false, ◌&&◌, eqb, eqb-true, eq-eqb, Option, Some, None, slice_get, ◌⊎◌, inl, inr, arith}
use Rattle.std.specs.Prelude.{if◌then◌else◌, option_and_then, is_some}
use Rattle.std.specs.List.{list_any}
use Rattle.std.proofs.lemmas.Option.{none-some, same_Some}
use Rattle.ir_types.specs.Bits.{is_bits}
use Rattle.ir_types.specs.Terms.{TypeTerm}
use Rattle.ir_tree.specs.declared.value.Value.{Value}
use Rattle.ir_tree.specs.declared.value.Value.TheVariants.{Result, Arg}
use Rattle.ir_tree.specs.Tree.{head}
use Rattle.ir_tree.specs.Ids.{HasDistinctIds, find, ids}
use Rattle.ir_tree.specs.Meaning.{Operation}
use Rattle.ir_tree_laws.specs.Members.{In}
use Rattle.ir_tree_laws.specs.Values.{type_of_value}
use Rattle.ir_tree_laws.proofs.Around.{absent_find}
use Rattle.ir_tree_laws.proofs.Listed.{bool_cases, one_any}
use Rattle.ir_tree_laws.proofs.Members.{stand_found}
use Rattle.dialects_int.specs.declared.operations.Arithmetic.TheVariants as op
use Rattle.dialects_int.specs.declared.operations.Rule.{Rule}
use Rattle.dialects_int.specs.declared.operations.Rule.TheVariants as rule
use Rattle.dialects_int.specs.Folds.{Known, kind_of, rule_of}
use Rattle.user_patterns_check.specs.Checks.{refines}
use Rattle.user_patterns_check.specs.Outcomes.{Outcome, given, pair_outcome}
use Rattle.user_patterns_check.proofs.Keeping.{value_refined}
use Rattle.patterns_laws.proofs.KnownFolds.{given_some}
use Rattle.user_patterns_data.specs.Matching.{Header}
use Rattle.patterns_refinement.proofs.FlagsKept.{known_refined, still_unbroken}
use Rattle.patterns_refinement.specs.Meaning.{ArgumentsOfTypes, Assignment, Each, EachBlock, FitsDone, IsOfType, ResultsOfTypes, is_arithmetic, makes, makes_by, of_two, result_kind, Obeys, breaks_flags}
use Rattle.patterns_refinement.specs.Better.{AllBetter, AreOf, GivesLess, GivesNoLess, IsSure, Settles, is_kinded, is_poison_by_ones, is_signed_quotient, kind_in, may_overflow, gives, is_arithmetic_there, KeepsFlags}
use Rattle.patterns_refinement.proofs.Wellformed.{each_stands}
use Rattle.patterns_refinement.proofs.Trees.{TypesFound, each_found, types_found}
use Rattle.patterns_refinement.proofs.OfBits.{IsOfBits}
use Rattle.patterns_refinement.proofs.MadeOf.{HaveBits, made_of}
use Rattle.patterns_refinement.proofs.Monotone.{itself, monotone, through}

-- ---- from operations that are found to each operation
pub each_by_found : (P : Header → Type 0) (t : Operation) → HasDistinctIds t → ((o : Operation) → find (head o).id t ≡ Some o → P (head o)) → Each P t
each_by_found P t d f = each_stands P [] t (λ s i. f s.here (stand_found t d s i))

-- ---- refined operands introduce no division of poison by -1
quotient_is : (q : Option Rule) → is_signed_quotient q ≡ true → q ≡ Some (rule.Binary op.DivideSigned)
quotient_is (Some (rule.Binary op.DivideSigned)) e = refl
quotient_is q e = absurd (true≢false (sym e))

ones_stay : (xs ys : List Outcome) (r : Outcome) → AllBetter xs ys → is_poison_by_ones xs ≡ false → of_two (pair_outcome op.DivideSigned) xs ≡ Some r → is_poison_by_ones ys ≡ false
ones_stay [] ys r b e m = absurd (none-some r m)
ones_stay (x ∷ []) ys r b e m = absurd (none-some r m)
ones_stay (x ∷ y ∷ z ∷ xs) ys r b e m = absurd (none-some r m)
ones_stay (x ∷ y ∷ []) [] r b e m = absurd b
ones_stay (x ∷ y ∷ []) (u ∷ []) r b e m = absurd b.1
ones_stay (x ∷ y ∷ []) (u ∷ v ∷ w ∷ ys) r b e m = absurd b.1.1
ones_stay (x ∷ y ∷ []) (Some u ∷ v ∷ []) r b e m = refl
ones_stay (x ∷ y ∷ []) (None ∷ None ∷ []) r b e m = refl
ones_stay (Some x ∷ y ∷ []) (None ∷ Some v ∷ []) r b e m = absurd (true≢false (sym b.0))
ones_stay (None ∷ None ∷ []) (None ∷ Some v ∷ []) r b e m = absurd (none-some r m)
ones_stay (None ∷ Some y ∷ []) (None ∷ Some v ∷ []) r b e m = ap (λ o. is_poison_by_ones (None ∷ o ∷ [])) (value_refined y (Some v) b.1.0) ∙ e

pub sure_stays : (h : Header) (xs ys : List Outcome) (r : Outcome) → AllBetter xs ys → may_overflow h xs ≡ false → makes h xs ≡ Some r → may_overflow h ys ≡ false
sure_stays h xs ys r b e m = go (is_signed_quotient (rule_of h.name)) refl e
  where
    go : (c : Bool) → is_signed_quotient (rule_of h.name) ≡ c → (c && is_poison_by_ones xs) ≡ false → (is_signed_quotient (rule_of h.name) && is_poison_by_ones ys) ≡ false
    go false i e = ap (λ c. c && is_poison_by_ones ys) i
    go true i e =
        let q = quotient_is (rule_of h.name) i in
        let g = given_some (result_kind h) (λ k. makes_by (rule.Binary op.DivideSigned) h k xs) r (subst (λ q. given q (λ r. given (result_kind h) (λ k. makes_by r h k xs)) ≡ Some r) q m) in
        ap (λ c. c && is_poison_by_ones ys) i ∙ ones_stay xs ys r b e g.2

-- known outcomes of a type are in range
pub typed_bits : (ty : TypeTerm) (y : Outcome) → IsOfType ty y → IsOfBits y
typed_bits ty None h x e = absurd (none-some x e)
typed_bits ty (Some z) h x e = subst (λ (w : Known). is_bits w.0 w.1 ≡ true) (same_Some _ _ e) h.1

-- ---- a result that becomes known
abbrev pub raised : ℕ → Known → Assignment → Assignment
raised y z a (Result x k) = if eqb x y then (if eqb k 0 then Some z else a (Result x k)) else a (Result x k)
raised y z a (Arg x r k) = a (Arg x r k)

-- the number of results with poison as outcome
abbrev cost : Outcome → ℕ
cost None = 1
cost (Some z) = 0

abbrev poisons : Assignment → List ℕ → ℕ
poisons a [] = 0
poisons a (x ∷ xs) = cost (a (Result x 0)) + poisons a xs

cost_falls : (x y : Outcome) → refines x y ≡ true → cost y ≤ cost x
cost_falls None None e = omega arith
cost_falls None (Some y) e = omega arith
cost_falls (Some x) None e = absurd (true≢false (sym e))
cost_falls (Some x) (Some y) e = omega arith

all_better : (a c : Assignment) → ((v : Value) → refines (a v) (c v) ≡ true) → (vs : List Value) → AllBetter (map a vs) (map c vs)
all_better a c b [] = tt
all_better a c b (v ∷ vs) = (b v, all_better a c b vs)

poisons_fall : (a c : Assignment) → ((v : Value) → refines (a v) (c v) ≡ true) → (xs : List ℕ) → poisons c xs ≤ poisons a xs
poisons_fall a c b [] = omega arith
poisons_fall a c b (x ∷ xs) = let h = cost_falls (a (Result x 0)) (c (Result x 0)) (b (Result x 0)) in let ih = poisons_fall a c b xs in omega (arith, h, ih)

poisons_less : (a c : Assignment) → ((v : Value) → refines (a v) (c v) ≡ true) → (y : ℕ) (z : Known) → a (Result y 0) ≡ None → c (Result y 0) ≡ Some z → (xs : List ℕ) → In y xs → poisons c xs + 1 ≤ poisons a xs
poisons_less a c b y z e f [] i = absurd i
poisons_less a c b y z e f (x ∷ xs) (inl i) =
    let h = poisons_fall a c b xs in
    let l : cost (a (Result x 0)) ≡ 1 = ap (λ x. cost (a (Result x 0))) (sym i) ∙ ap cost e in
    let r : cost (c (Result x 0)) ≡ 0 = ap (λ x. cost (c (Result x 0))) (sym i) ∙ ap cost f in
    omega (arith, h, l, r)
poisons_less a c b y z e f (x ∷ xs) (inr i) = let h = cost_falls (a (Result x 0)) (c (Result x 0)) (b (Result x 0)) in let ih = poisons_less a c b y z e f xs i in omega (arith, h, ih)

module _ (done : ℕ → Bool) (t : Operation) (d : HasDistinctIds t) (kinded : (x : ℕ) (o : Operation) → find x t ≡ Some o → is_kinded t (head o) ≡ true) where
  -- ---- operands
  operands_of : (a : Assignment) → TypesFound a t → (vs : List Value) → AreOf (map (kind_in t) vs) (map a vs)
  operands_of a f [] = tt
  operands_of a f (v ∷ vs) = (
    (λ k x i e.
        let g = given_some (type_of_value v t) kind_of k i in
        same_Some _ _ (sym (subst (λ o. IsOfType g.0 o) e (f v g.0 g.1)).0 ∙ g.2)),
    operands_of a f vs,
  )

  record Rising (a : Assignment) : Type 0 where
    pub under : (x : ℕ) (o : Operation) → find x t ≡ Some o → done x ≡ true → is_arithmetic (head o) ≡ true → GivesNoLess (head o) (a (Result x 0)) (map a (head o).operands)
    pub sure : (x : ℕ) (o : Operation) → find x t ≡ Some o → done x ≡ true → is_arithmetic (head o) ≡ true → may_overflow (head o) (map a (head o).operands) ≡ false
    pub typed : TypesFound a t
    pub blocks : EachBlock (ArgumentsOfTypes a) t
    pub flags : (x : ℕ) (o : Operation) → find x t ≡ Some o → done x ≡ true → is_arithmetic (head o) ≡ true → KeepsFlags (head o) (a (Result x 0)) (map a (head o).operands)

  bits_there : (a : Assignment) → TypesFound a t → (vs : List Value) → HaveBits (map (kind_in t) vs) (map a vs)
  bits_there a f [] = tt
  bits_there a f (v ∷ vs) = ((λ k i. let g = given_some (type_of_value v t) kind_of k i in typed_bits g.0 (a v) (f v g.0 g.1)), bits_there a f vs)

  -- an operation whose outcome is poison and that computes a number
  record Unsettled (a : Assignment) (x : ℕ) : Type 0 where
    pub here : Operation
    pub found : find x t ≡ Some here
    pub is_done : done x ≡ true
    pub arithmetic : is_arithmetic (head here) ≡ true
    pub value : Known
    pub is_made : makes (head here) (map a (head here).operands) ≡ Some (Some value)
    pub was : a (Result x 0) ≡ None
    pub unbroken : breaks_flags (head here) (map a (head here).operands) ≡ false

  module _ (a : Assignment) (s : Rising a) (y : ℕ) (u : Unsettled a y) where
    abbrev z : Known
    z = u.value

    abbrev c : Assignment
    c = raised y z a

    better : (v : Value) → refines (a v) (raised y z a v) ≡ true
    better (Arg x r k) = itself (a (Arg x r k))
    better (Result x k) = go (eqb x y) (eqb k 0) refl refl
      where
        go : (p q : Bool) → eqb x y ≡ p → eqb k 0 ≡ q → refines (a (Result x k)) (if p then (if q then Some z else a (Result x k)) else a (Result x k)) ≡ true
        go false q e f = itself (a (Result x k))
        go true false e f = itself (a (Result x k))
        go true true e f =
            let p = sym (eqb-true x y e) in
            let q = sym (eqb-true k 0 f) in
            subst (λ o. refines o (Some z) ≡ true) (sym u.was ∙ (λ i. a (Result (p i) (q i)))) refl

    now : raised y z a (Result y 0) ≡ Some z
    now = ap (λ b. if b then Some z else a (Result y 0)) (eq-eqb y y refl)

    one : (o : Operation) → find y t ≡ Some o → u.here ≡ o
    one o e = same_Some _ _ (sym u.found ∙ e)

    -- the type of its result
    types : TypesFound (raised y z a) t
    types (Arg x r k) ty e = s.typed (Arg x r k) ty e
    types (Result x k) ty e = go (eqb x y) (eqb k 0) refl refl
      where
        at : (o : Option Operation) → find y t ≡ o → option_and_then (λ (o : Operation). slice_get (head o).results 0) o ≡ Some ty → IsOfType ty (Some z)
        at None i e = absurd (none-some ty e)
        at (Some o) i e =
            let same = one o i in
            let made = made_of (head u.here) (map (kind_in t) (head u.here).operands) (map a (head u.here).operands) (Some z) (kinded y u.here u.found) (operands_of a s.typed (head u.here).operands) (bits_there a s.typed (head u.here).operands) u.is_made in
            let first : slice_get (head u.here).results 0 ≡ Some ty = ap (λ (o : Operation). slice_get (head o).results 0) same ∙ e in (
              ap (λ o. given o kind_of) (sym first) ∙ made.is ∙ ap (λ k. Some k) (sym (made.of z refl)),
              made.bits z refl,
            )

        go : (p q : Bool) → eqb x y ≡ p → eqb k 0 ≡ q → IsOfType ty (if p then (if q then Some z else a (Result x k)) else a (Result x k))
        go false q i j = s.typed (Result x k) ty e
        go true false i j = s.typed (Result x k) ty e
        go true true i j =
            let p = eqb-true x y i in
            let q = eqb-true k 0 j in
            at (find y t) refl ((λ w. type_of_value (Result (sym p w) (sym q w)) t) ∙ e)

    under : (x : ℕ) (o : Operation) → find x t ≡ Some o → done x ≡ true → is_arithmetic (head o) ≡ true → GivesNoLess (head o) (raised y z a (Result x 0)) (map (raised y z a) (head o).operands)
    under x o e i j =
        let was = s.under x o e i j in
        let m =
        monotone (head o) (map (kind_in t) (head o).operands) (map a (head o).operands) (map c (head o).operands) was.outcome (kinded x o e)
        (operands_of c types (head o).operands) (s.sure x o e i j) (all_better a c better (head o).operands) was.is_made in
        record { outcome = m.outcome; is_made = m.is_made; better = go (eqb x y) refl was m }
      where
        go : (p : Bool) → eqb x y ≡ p → (was : GivesNoLess (head o) (a (Result x 0)) (map a (head o).operands)) → (m : GivesNoLess (head o) was.outcome (map c (head o).operands))
            → refines (if p then Some z else a (Result x 0)) m.outcome ≡ true
        go false k was m = through (a (Result x 0)) was.outcome m.outcome was.better m.better
        go true k was m =
            let same = one o (ap (λ x. find x t) (sym (eqb-true x y k)) ∙ e) in
            let made : Some z ≡ was.outcome = same_Some _ _ (sym u.is_made ∙ ap (λ (o : Operation). makes (head o) (map a (head o).operands)) same ∙ was.is_made) in
            subst (λ w. refines w m.outcome ≡ true) (sym made) m.better

    -- other values are unchanged
    stays : (v : Value) → gives done t v ≡ false → raised y z a v ≡ a v
    stays (Arg x r k) e = refl
    stays (Result x k) e = go (eqb x y) refl (eqb k 0)
      where
        given_here : gives done t (Result y k) ≡ true
        given_here = (λ i. u.is_done i && is_arithmetic_there (u.found i)) ∙ u.arithmetic

        go : (p : Bool) → eqb x y ≡ p → (q : Bool) → (if p then (if q then Some z else a (Result x k)) else a (Result x k)) ≡ a (Result x k)
        go false i q = refl
        go true i false = refl
        go true i true = absurd (true≢false (sym (ap (λ x. gives done t (Result x k)) (eqb-true x y i) ∙ given_here) ∙ e))

    -- flags stay unbroken
    flags : (x : ℕ) (o : Operation) → find x t ≡ Some o → done x ≡ true → is_arithmetic (head o) ≡ true → KeepsFlags (head o) (raised y z a (Result x 0)) (map (raised y z a) (head o).operands)
    flags x o e i j = go (eqb x y) refl
      where
        at : (o : Operation) → u.here ≡ o → breaks_flags (head o) (map (raised y z a) (head o).operands) ≡ false
        at o same =
            subst (λ (o : Operation). breaks_flags (head o) (map (raised y z a) (head o).operands) ≡ false) same
            (still_unbroken (head u.here) (map a (head u.here).operands) (map (raised y z a) (head u.here).operands) (Some z) u.is_made refl (all_better a (raised y z a) better (head u.here).operands) u.unbroken)

        go : (p : Bool) → eqb x y ≡ p → is_some (if p then Some z else a (Result x 0)) ≡ true → breaks_flags (head o) (map (raised y z a) (head o).operands) ≡ false
        go true k known = at o (one o (ap (λ x. find x t) (sym (eqb-true x y k)) ∙ e))
        go false k known =
            let was = s.under x o e i j in
            still_unbroken (head o) (map a (head o).operands) (map (raised y z a) (head o).operands) was.outcome was.is_made (known_refined (a (Result x 0)) was.outcome was.better known)
            (all_better a (raised y z a) better (head o).operands) (s.flags x o e i j known)

    rises : Rising (raised y z a)
    rises = record {
      flags = flags;
      under = under;
      sure = λ x o e i j. let was = s.under x o e i j in sure_stays (head o) (map a (head o).operands) (map c (head o).operands) was.outcome (all_better a c better (head o).operands) (s.sure x o e i j) was.is_made;
      typed = types;
      blocks = s.blocks;
    }

  -- ---- whether all fit
  abbrev FitAt : Assignment → ℕ → Type 0
  FitAt a x = (o : Operation) → find x t ≡ Some o → done x ≡ true → is_arithmetic (head o) ≡ true → Obeys a x (head o)

  fit_one : (a : Assignment) → Rising a → (x : ℕ) (o : Operation) → find x t ≡ Some o → done x ≡ true → is_arithmetic (head o) ≡ true → Obeys a x (head o) ⊎ Unsettled a x
  fit_one a s x o e i j = let w = s.under x o e i j in go (a (Result x 0)) refl w.outcome w.is_made w.better
    where
      flagged : (b : Bool) → breaks_flags (head o) (map a (head o).operands) ≡ b → (z : Known) → makes (head o) (map a (head o).operands) ≡ Some (Some z) → a (Result x 0) ≡ None → Obeys a x (head o) ⊎ Unsettled a x
      flagged true f z m n = inl (inr (f, ap is_some m, n))
      flagged false f z m n = inr (record { here = o; found = e; is_done = i; arithmetic = j; value = z; is_made = m; was = n; unbroken = f })

      poisoned : (b : Bool) → breaks_flags (head o) (map a (head o).operands) ≡ b → makes (head o) (map a (head o).operands) ≡ Some None → a (Result x 0) ≡ None → Obeys a x (head o) ⊎ Unsettled a x
      poisoned true f m n = inl (inr (f, ap is_some m, n))
      poisoned false f m n = inl (inl (m ∙ ap (λ z. Some z) (sym n), f))

      go : (p : Outcome) → a (Result x 0) ≡ p → (q : Outcome) → makes (head o) (map a (head o).operands) ≡ Some q → refines (a (Result x 0)) q ≡ true → Obeys a x (head o) ⊎ Unsettled a x
      go (Some k) n q m b = inl (inl (m ∙ ap (λ z. Some z) (value_refined k q (subst (λ p. refines p q ≡ true) n b) ∙ sym n), s.flags x o e i j (ap is_some n)))
      go None n None m b = poisoned (breaks_flags (head o) (map a (head o).operands)) refl m n
      go None n (Some z) m b = flagged (breaks_flags (head o) (map a (head o).operands)) refl z m n

  fit_at : (a : Assignment) → Rising a → (x : ℕ) → FitAt a x ⊎ Unsettled a x
  fit_at a s x = go (find x t) refl (bool_cases (done x))
    where
      lifted : (o : Operation) → find x t ≡ Some o → Obeys a x (head o) ⊎ Unsettled a x → FitAt a x ⊎ Unsettled a x
      lifted o e (inr u) = inr u
      lifted o e (inl f) = inl (λ p g i j. subst (λ (o : Operation). Obeys a x (head o)) (same_Some _ _ (sym e ∙ g)) f)

      arithmetic : (o : Operation) → find x t ≡ Some o → done x ≡ true → (is_arithmetic (head o) ≡ true) ⊎ (is_arithmetic (head o) ≡ false) → FitAt a x ⊎ Unsettled a x
      arithmetic o e i (inl j) = lifted o e (fit_one a s x o e i j)
      arithmetic o e i (inr j) = inl (λ p g k l. absurd (true≢false (sym l ∙ ap (λ (o : Operation). is_arithmetic (head o)) (same_Some _ _ (sym g ∙ e)) ∙ j)))

      go : (q : Option Operation) → find x t ≡ q → (done x ≡ true) ⊎ (done x ≡ false) → FitAt a x ⊎ Unsettled a x
      go None e i = inl (λ o g k l. absurd (none-some o (sym e ∙ g)))
      go (Some o) e (inr i) = inl (λ p g k l. absurd (true≢false (sym k ∙ i)))
      go (Some o) e (inl i) = arithmetic o e i (bool_cases (is_arithmetic (head o)))

  abbrev AllFit : Assignment → List ℕ → Type 0
  AllFit a [] = Unit {0}
  AllFit a (x ∷ xs) = FitAt a x × AllFit a xs

  abbrev SomeUnsettled : Assignment → List ℕ → Type 0
  SomeUnsettled a xs = (x : ℕ) × In x xs × Unsettled a x

  looked : (a : Assignment) (x : ℕ) (xs : List ℕ) → FitAt a x ⊎ Unsettled a x → AllFit a xs ⊎ SomeUnsettled a xs → AllFit a (x ∷ xs) ⊎ SomeUnsettled a (x ∷ xs)
  looked a x xs (inr u) g = inr (x, inl refl, u)
  looked a x xs (inl f) (inl g) = inl (f, g)
  looked a x xs (inl f) (inr u) = inr (u.0, inr u.1, u.2)

  look : (a : Assignment) → Rising a → (xs : List ℕ) → AllFit a xs ⊎ SomeUnsettled a xs
  look a s [] = inl tt
  look a s (x ∷ xs) = looked a x xs (fit_at a s x) (look a s xs)

  record Rose (a : Assignment) : Type 0 where
    pub last : Assignment
    pub better : (v : Value) → refines (a v) (last v) ≡ true
    pub stays : (v : Value) → gives done t v ≡ false → last v ≡ a v
    pub rising : Rising last
    pub fits_in : AllFit last (ids t)

  step : (fuel : ℕ) → ((b : Assignment) → poisons b (ids t) ≤ fuel → Rising b → Rose b) → (a : Assignment) → poisons a (ids t) ≤ fuel + 1 → Rising a → AllFit a (ids t) ⊎ SomeUnsettled a (ids t) → Rose a
  step fuel more a l s (inl f) = record { last = a; better = λ v. itself (a v); stays = λ v e. refl; rising = s; fits_in = f }
  step fuel more a l s (inr u) =
      let b = better a s u.0 u.2 in
      let c = raised u.0 u.2.value a in
      let less = poisons_less a c b u.0 u.2.value u.2.was (now a s u.0 u.2) (ids t) u.1 in
      let r = more c (omega (arith, less, l)) (rises a s u.0 u.2) in
      record { last = r.last; better = λ v. through (a v) (c v) (r.last v) (b v) (r.better v); stays = λ v e. r.stays v e ∙ stays a s u.0 u.2 v e; rising = r.rising; fits_in = r.fits_in }

  none_left : (a : Assignment) → poisons a (ids t) ≤ 0 → Rising a → AllFit a (ids t) ⊎ SomeUnsettled a (ids t) → Rose a
  none_left a l s (inl f) = record { last = a; better = λ v. itself (a v); stays = λ v e. refl; rising = s; fits_in = f }
  none_left a l s (inr u) =
      let less = poisons_less a (raised u.0 u.2.value a) (better a s u.0 u.2) u.0 u.2.value u.2.was (now a s u.0 u.2) (ids t) u.1 in
      absurd (omega (arith, less, l))

  settle : (fuel : ℕ) (a : Assignment) → poisons a (ids t) ≤ fuel → Rising a → Rose a
  settle zero a l s = none_left a l s (look a s (ids t))
  settle (suc fuel) a l s = step fuel (λ b m r. settle fuel b m r) a (omega (arith, l)) s (look a s (ids t))

  -- each id is visited
  in_ids : (x : ℕ) (o : Operation) → find x t ≡ Some o → In x (ids t)
  in_ids x o e = elim (bool_cases (list_any (λ y. eqb y x) (ids t))) [
    | inl i ↦ let w = one_any (λ y. eqb y x) (ids t) i in subst (λ z. In z (ids t)) (eqb-true w.0 x w.2) w.1
    | inr i ↦ absurd (none-some o (sym (absent_find x t i) ∙ e))
  ]

  fit_in : (a : Assignment) (xs : List ℕ) → AllFit a xs → (x : ℕ) → In x xs → FitAt a x
  fit_in a [] f x i = absurd i
  fit_in a (y ∷ xs) f x (inl i) = subst (FitAt a) (sym i) f.0
  fit_in a (y ∷ xs) f x (inr i) = fit_in a xs f.1 x i

pub settles : Settles
settles a done t d kinded typed sure under =
    let value_types : (x : ℕ) (o : Operation) → find x t ≡ Some o → is_kinded t (head o) ≡ true = (λ x o e. (each_found (λ h. is_kinded t h ≡ true) x t kinded o e).0) in
    let r =
    settle done t d value_types (poisons a (ids t)) a (omega arith) (record {
      under = λ x o e i j.
          let f = each_found (GivesLess a done) x t under o e in
          subst (λ y. GivesNoLess (head o) (a (Result y 0)) (map a (head o).operands)) f.1 (f.0 (ap done f.1 ∙ i) j).0;
      flags = λ x o e i j.
          let f = each_found (GivesLess a done) x t under o e in
          subst (λ y. KeepsFlags (head o) (a (Result y 0)) (map a (head o).operands)) f.1 (f.0 (ap done f.1 ∙ i) j).1;
      sure = λ x o e i j. let f = each_found (IsSure a done) x t sure o e in f.0 (ap done f.1 ∙ i) j;
      typed = types_found a t typed;
      blocks = typed.1;
    }) in
    record {
      now = r.last;
      better = r.better;
      stays = r.stays;
      fits = each_by_found (FitsDone r.last done) t d (λ o e i j. fit_in done t d value_types r.last (ids t) r.fits_in (head o).id (in_ids done t d value_types (head o).id o e) o e i j);
      typed = (
        each_by_found (ResultsOfTypes r.last) t d (λ o e k ty i. r.rising.typed (Result (head o).id k) ty (ap (option_and_then (λ (o : Operation). slice_get (head o).results k)) e ∙ i)),
        r.rising.blocks,
      );
      sure = each_by_found (IsSure r.last done) t d (λ o e i j. r.rising.sure (head o).id o e i j);
    }
