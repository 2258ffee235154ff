-- A sequence of tests, and a result that exists if all of them pass.
use Rattle.std.proofs.Common.{◌≡◌, refl, Bool, true, false, Option, Some, None}
use Rattle.std.specs.Prelude.{◌&&◌, ◌||◌, not, is_some, if◌then◌else◌}
use Rattle.patterns_base.specs.Keeps.{given}
use Rattle.patterns_base.specs.Looks.{when, passes}
use Rattle.patterns_laws.specs.integers.Folds.{Known}
use Rattle.patterns_plans.specs.Conditions.{has}

pub and_true : (b : Bool) → b && true ≡ b
and_true true = refl
and_true false = refl

pub some_when : {Y : Type 0} (b : Bool) (y : Y) → b && true ≡ is_some (when b (Some y))
some_when true y = refl
some_when false y = refl

folds_or : (b s : Bool) → (s || b) && (s && true) ≡ s
folds_or b true = refl
folds_or true false = refl
folds_or false false = refl

-- ---- optional values

module _ {X Y : Type 0} (f : X → Option Y) where
  pub of_one : (a : X → Bool) (o : Option X) → ((p : X) → a p && true ≡ is_some (f p)) → has a o && true ≡ is_some (given o f)
  of_one a None h = refl
  of_one a (Some p) h = h p

  pub of_two : (a b : X → Bool) (o : Option X) → ((p : X) → a p && (b p && true) ≡ is_some (f p)) → has a o && (has b o && true) ≡ is_some (given o f)
  of_two a b None h = refl
  of_two a b (Some p) h = h p

  pub of_three : (a b c : X → Bool) (o : Option X) → ((p : X) → a p && (b p && (c p && true)) ≡ is_some (f p)) → has a o && (has b o && (has c o && true)) ≡ is_some (given o f)
  of_three a b c None h = refl
  of_three a b c (Some p) h = h p

  pub of_five : (a b c d e : X → Bool) (o : Option X) → ((p : X) → a p && (b p && (c p && (d p && (e p && true)))) ≡ is_some (f p))
      → has a o && (has b o && (has c o && (has d o && (has e o && true)))) ≡ is_some (given o f)
  of_five a b c d e None h = refl
  of_five a b c d e (Some p) h = h p

-- ---- tests of values

module _ {Y : Type 0} where
  pub in_turn : (a b : Bool) (y : Y) → a && (b && true) ≡ is_some (when (a && b) (Some y))
  in_turn true b y = some_when b y
  in_turn false b y = refl

  pub three_in_turn : (a b c : Bool) (y : Y) → a && (b && (c && true)) ≡ is_some (when (a && (b && c)) (Some y))
  three_in_turn true b c y = in_turn b c y
  three_in_turn false b c y = refl

  pub nested : (a b : Bool) (y : Y) → a && (b && true) ≡ is_some (when a (when b (Some y)))
  nested true b y = some_when b y
  nested false b y = refl

  -- a known number
  known_and : (k : Option Known) (f : Known → Bool) (y : Y) → is_some k && (passes f k && true) ≡ is_some (when (passes f k) (Some y))
  known_and None f y = refl
  known_and (Some k) f y = some_when (f k) y

  pub numbered : (a : Bool) (k : Option Known) (f : Known → Bool) (y : Y) → a && (is_some k && (passes f k && true)) ≡ is_some (when (a && passes f k) (Some y))
  numbered true k f y = known_and k f y
  numbered false k f y = refl

  pub something : {X : Type 0} (k : Option X) (e : X → Y) → is_some k && true ≡ is_some (given k (λ x. Some (e x)))
  something None e = refl
  something (Some x) e = refl

  pub when_something : {X : Type 0} (a : Bool) (k : Option X) (e : X → Y) → a && (is_some k && true) ≡ is_some (when a (given k (λ x. Some (e x))))
  when_something true k e = something k e
  when_something false k e = refl

  -- a select between two known numbers
  truth_known : (z : Bool) (k : Option Known) (f : Known → Bool) (y : Y) → is_some k && (passes f k && (z && true)) ≡ is_some (when (passes f k && z) (Some y))
  truth_known z None f y = refl
  truth_known z (Some k) f y = in_turn (f k) z y

  pub truth : (a b z : Bool) (k : Option Known) (f : Known → Bool) (y : Y) → a && (b && (is_some k && (passes f k && (z && true)))) ≡ is_some (when a (when (b && (passes f k && z)) (Some y)))
  truth true true z k f y = truth_known z k f y
  truth true false z k f y = refl
  truth false b z k f y = refl

  -- ---- comparisons, with a predicate

  module _ {N : Type 0} where
    same_requested : (a s : Bool) (q : Option N) (e : N → Y) → (a && is_some q) && (s && true) ≡ is_some (when a (given q (λ n. when s (Some (e n)))))
    same_requested true s None e = refl
    same_requested true s (Some n) e = some_when s (e n)
    same_requested false s q e = refl

    mirror_requested : (a s c : Bool) (q : Option N) (e : N → Y) → (a && is_some q) && (s && (c && true)) ≡ is_some (when a (given q (λ n. when (s && c) (Some (e n)))))
    mirror_requested true s c None e = refl
    mirror_requested true s c (Some n) e = in_turn s c (e n)
    mirror_requested false s c q e = refl

    zero_requested : (a : Bool) (k : Option Known) (f : Known → Bool) (g : N → Bool) (q : Option N) (e : N → Y)
        → (a && is_some q) && (is_some k && (passes f k && (has g q && true))) ≡ is_some (when a (given q (λ n. when (passes f k && g n) (Some (e n)))))
    zero_requested true k f g None e = refl
    zero_requested true k f g (Some n) e = truth_known (g n) k f (e n)
    zero_requested false k f g q e = refl

    module _ {X : Type 0} where
      pub compared : (a s : X → Bool) (o : Option X) (q : Option N) (e : X → N → Y)
          → (has a o && is_some q) && (has s o && true) ≡ is_some (given o (λ p. when (a p) (given q (λ n. when (s p) (Some (e p n))))))
      compared a s None q e = refl
      compared a s (Some p) q e = same_requested (a p) (s p) q (e p)

      pub mirrored : (a s c : X → Bool) (o : Option X) (q : Option N) (e : X → N → Y)
          → (has a o && is_some q) && (has s o && (has c o && true)) ≡ is_some (given o (λ p. when (a p) (given q (λ n. when (s p && c p) (Some (e p n))))))
      mirrored a s c None q e = refl
      mirrored a s c (Some p) q e = mirror_requested (a p) (s p) (c p) q (e p)

      pub with_zero : (a : X → Bool) (k : X → Option Known) (f : Known → Bool) (g : N → Bool) (o : Option X) (q : Option N) (e : X → N → Y)
          → (has a o && is_some q) && (has (λ p. is_some (k p)) o && (has (λ p. passes f (k p)) o && (has g q && true)))
          ≡ is_some (given o (λ p. when (a p) (given q (λ n. when (passes f (k p) && g n) (Some (e p n))))))
      with_zero a k f g None q e = refl
      with_zero a k f g (Some p) q e = zero_requested (a p) (k p) f g q (e p)

  -- ---- defining operations of operands

  module _ {H Q : Type 0} (w : H → Option Q) where
    inner_there : (b : Q → Bool) (e : Q → Y) (o : Option Q) → is_some o && (has b o && true) ≡ is_some (given o (λ q. when (b q) (Some (e q))))
    inner_there b e None = refl
    inner_there b e (Some q) = some_when (b q) (e q)

    inner_of : (b : Q → Bool) (e : Q → Y) (s : Option H)
        → is_some (given s w) && (has b (given s w) && true) ≡ is_some (given s (λ y. given (w y) (λ q. when (b q) (Some (e q)))))
    inner_of b e None = refl
    inner_of b e (Some y) = inner_there b e (w y)

    pub with_inner : (a : Bool) (b : Q → Bool) (e : Q → Y) (s : Option H)
        → a && (is_some (given s w) && (has b (given s w) && true)) ≡ is_some (when a (given s (λ y. given (w y) (λ q. when (b q) (Some (e q))))))
    with_inner true b e s = inner_of b e s
    with_inner false b e s = refl

    alike_there : (b : Q → Bool) (e : Q → Y) (o : Option Q) → has b o && true ≡ is_some (given o (λ q. when (b q) (Some (e q))))
    alike_there b e None = refl
    alike_there b e (Some q) = some_when (b q) (e q)

    alike_of : (b : Q → Bool) (e : Q → Y) (s : Option H) → has b (given s w) && true ≡ is_some (given s (λ y. given (w y) (λ q. when (b q) (Some (e q)))))
    alike_of b e None = refl
    alike_of b e (Some y) = alike_there b e (w y)

    pub extended : (a : Bool) (b : Q → Bool) (e : Q → Y) (s : Option H) → a && (has b (given s w) && true) ≡ is_some (when a (given s (λ y. given (w y) (λ q. when (b q) (Some (e q))))))
    extended true b e s = alike_of b e s
    extended false b e s = refl

    cut_one : (b c : Bool) (x y : Y) → (b || c) && true ≡ is_some (if b then Some x else when c (Some y))
    cut_one true c x y = refl
    cut_one false c x y = some_when c y

    cut_there : (b c : Q → Bool) (d e : Q → Y) (o : Option Q)
        → is_some o && (has (λ q. b q || c q) o && true) ≡ is_some (given o (λ q. if b q then Some (d q) else when (c q) (Some (e q))))
    cut_there b c d e None = refl
    cut_there b c d e (Some q) = cut_one (b q) (c q) (d q) (e q)

    cut_of : (b c : Q → Bool) (d e : Q → Y) (s : Option H)
        → is_some (given s w) && (has (λ q. b q || c q) (given s w) && true) ≡ is_some (given s (λ y. given (w y) (λ q. if b q then Some (d q) else when (c q) (Some (e q)))))
    cut_of b c d e None = refl
    cut_of b c d e (Some y) = cut_there b c d e (w y)

    pub cut : (a : Bool) (b c : Q → Bool) (d e : Q → Y) (s : Option H)
        → a && (is_some (given s w) && (has (λ q. b q || c q) (given s w) && true)) ≡ is_some (when a (given s (λ y. given (w y) (λ q. if b q then Some (d q) else when (c q) (Some (e q))))))
    cut true b c d e s = cut_of b c d e s
    cut false b c d e s = refl

    pub unrealized : (i : Bool) (b : Q → Bool) (d : Y) (e : Q → Y) (s : Option H)
        → (i || is_some (given s w)) && ((i || has b (given s w)) && true) ≡ is_some (if i then Some d else given s (λ y. given (w y) (λ q. when (b q) (Some (e q)))))
    unrealized true b d e s = refl
    unrealized false b d e s = inner_of b e s

    through_there : (b c : Q → Bool) (e : Q → Y) (o : Option Q)
        → is_some o && (has b o && (has c o && true)) ≡ is_some (given o (λ q. when (b q) (when (c q) (Some (e q)))))
    through_there b c e None = refl
    through_there b c e (Some q) = nested (b q) (c q) (e q)

    through_of : (b c : Q → Bool) (e : Q → Y) (s : Option H)
        → is_some (given s w) && (has b (given s w) && (has c (given s w) && true)) ≡ is_some (given s (λ y. given (w y) (λ q. when (b q) (when (c q) (Some (e q))))))
    through_of b c e None = refl
    through_of b c e (Some y) = through_there b c e (w y)

    pub through : (a : Bool) (b c : Q → Bool) (e : Q → Y) (s : Option H)
        → a && (is_some (given s w) && (has b (given s w) && (has c (given s w) && true))) ≡ is_some (when a (given s (λ y. given (w y) (λ q. when (b q) (when (c q) (Some (e q)))))))
    through true b c e s = through_of b c e s
    through false b c e s = refl

    -- with two constants
    module _ {K : Type 0} (k : Q → Option K) where
      regrouped_known : (f : K → Option Y) (c : Option K) → is_some c && (is_some (given c f) && true) ≡ is_some (given c f)
      regrouped_known f None = refl
      regrouped_known f (Some c) = and_true (is_some (f c))

      regrouped_there : (f : Q → K → Option Y) (o : Option Q)
          → is_some o && (has (λ q. is_some (k q)) o && (is_some (given o (λ q. given (k q) (f q))) && true)) ≡ is_some (given o (λ q. given (k q) (f q)))
      regrouped_there f None = refl
      regrouped_there f (Some q) = regrouped_known (f q) (k q)

      regrouped_of : (f : Q → K → Option Y) (s : Option H)
          → is_some (given s w) && (has (λ q. is_some (k q)) (given s w) && (is_some (given s (λ y. given (w y) (λ q. given (k q) (f q)))) && true)) ≡ is_some (given s (λ y. given (w y) (λ q. given (k q) (f q))))
      regrouped_of f None = refl
      regrouped_of f (Some y) = regrouped_there f (w y)

      regrouped_by : (f : K → Q → K → Option Y) (d : Option K) (s : Option H)
          → is_some d && (is_some (given s w) && (has (λ q. is_some (k q)) (given s w) && (is_some (given d (λ d. given s (λ y. given (w y) (λ q. given (k q) (f d q))))) && true)))
          ≡ is_some (given d (λ d. given s (λ y. given (w y) (λ q. given (k q) (f d q)))))
      regrouped_by f None s = refl
      regrouped_by f (Some d) s = regrouped_of (f d) s

      pub regrouped : (a : Bool) (f : K → Q → K → Option Y) (d : Option K) (s : Option H)
          → a && (is_some d && (is_some (given s w) && (has (λ q. is_some (k q)) (given s w) && (is_some (when a (given d (λ d. given s (λ y. given (w y) (λ q. given (k q) (f d q)))))) && true))))
          ≡ is_some (when a (given d (λ d. given s (λ y. given (w y) (λ q. given (k q) (f d q))))))
      regrouped true f d s = regrouped_by f d s
      regrouped false f d s = refl

      pub of_regrouping : {P : Type 0} (a : P → Bool) (s : P → Option H) (d : P → Option K) (f : P → K → Q → K → Option Y) (o : Option P)
          → has a o && (has (λ p. is_some (d p)) o && (has (λ p. is_some (given (s p) w)) o && (has (λ p. has (λ q. is_some (k q)) (given (s p) w)) o
          && (is_some (given o (λ p. when (a p) (given (d p) (λ c. given (s p) (λ y. given (w y) (λ q. given (k q) (f p c q))))))) && true))))
          ≡ is_some (given o (λ p. when (a p) (given (d p) (λ c. given (s p) (λ y. given (w y) (λ q. given (k q) (f p c q)))))))
      of_regrouping a s d f None = refl
      of_regrouping a s d f (Some p) = regrouped (a p) (f p) (d p) (s p)

  -- ---- conditions whose last one covers the rest of the rule

  pub dead : (a b : Bool) (y : Y) → a && (is_some (when (a && b) (Some y)) && true) ≡ is_some (when (a && b) (Some y))
  dead true b y = and_true (is_some (when b (Some y)))
  dead false b y = refl

  pub folds : (a r b : Bool) (f : Option Y) → a && (r && ((is_some (when (a && r) f) || b) && (is_some (when (a && r) f) && true))) ≡ is_some (when (a && r) f)
  folds true true b f = folds_or b (is_some f)
  folds true false b f = refl
  folds false r b f = refl

  pub lowers : (a b : Bool) (f : Option Y) → a && (b && (is_some (when (a && b) f) && true)) ≡ is_some (when (a && b) f)
  lowers true true f = and_true (is_some f)
  lowers true false f = refl
  lowers false b f = refl

  pub known_last : {X : Type 0} (k : Option X) (f : X → Option Y) → is_some k && (is_some (given k f) && true) ≡ is_some (given k f)
  known_last None f = refl
  known_last (Some x) f = and_true (is_some (f x))

  pub stops : {X : Type 0} (a : Bool) (k : Option X) (f : X → Option Y) → a && (is_some k && (is_some (when a (given k f)) && true)) ≡ is_some (when a (given k f))
  stops true k f = known_last k f
  stops false k f = refl

  -- ---- a loop's bounds

  module _ {K E : Type 0} (below : K → K → Bool) (once : K → K → K → Bool) (never : Y) (o : E → Y) where
    body_once : (g : Bool) (body : Option E) → is_some body && (is_some (when g (given body (λ e. Some (o e)))) && true) ≡ is_some (when g (given body (λ e. Some (o e))))
    body_once true None = refl
    body_once true (Some e) = refl
    body_once false None = refl
    body_once false (Some e) = refl

    stepping : (low high : K) (step : Option K) (body : Option E)
        → is_some step && (is_some body && (is_some (given step (λ s. when (once low high s) (given body (λ e. Some (o e))))) && true)) ≡ is_some (given step (λ s. when (once low high s) (given body (λ e. Some (o e)))))
    stepping low high None body = refl
    stepping low high (Some s) body = body_once (once low high s) body

    by_both : (c : Bool) (low high : K) (step : Option K) (body : Option E)
        → (not c || is_some step) && ((not c || is_some body)
        && (is_some (if c then given step (λ s. when (once low high s) (given body (λ e. Some (o e)))) else Some never) && true))
        ≡ is_some (if c then given step (λ s. when (once low high s) (given body (λ e. Some (o e)))) else Some never)
    by_both true low high step body = stepping low high step body
    by_both false low high step body = refl

    by_upper : (low : K) (high step : Option K) (body : Option E)
        → has (λ b. not b || is_some step) (given high (λ h. Some (below low h)))
        && ((has not (given high (λ h. Some (below low h))) || is_some body)
        && (is_some (given high (λ h. if below low h then given step (λ s. when (once low h s) (given body (λ e. Some (o e)))) else Some never)) && true))
        ≡ is_some (given high (λ h. if below low h then given step (λ s. when (once low h s) (given body (λ e. Some (o e)))) else Some never))
    by_upper low None step body = refl
    by_upper low (Some h) step body = by_both (below low h) low h step body

    pub by_bounds : (low high step : Option K) (body : Option E)
        → has (λ b. not b || is_some step) (given low (λ l. given high (λ h. Some (below l h))))
        && ((has not (given low (λ l. given high (λ h. Some (below l h)))) || is_some body)
        && (is_some (given low (λ l. given high (λ h. if below l h then given step (λ s. when (once l h s) (given body (λ e. Some (o e)))) else Some never))) && true))
        ≡ is_some (given low (λ l. given high (λ h. if below l h then given step (λ s. when (once l h s) (given body (λ e. Some (o e)))) else Some never)))
    by_bounds None high step body = refl
    by_bounds (Some l) high step body = by_upper l high step body
