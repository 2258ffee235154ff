-- A walk over the steps finds all transitions from a state.
use Rattle.std.proofs.Common.{◌≡◌, ◌∙◌, ◌<◌, ◌++◌, ◌+◌, ◌*◌, ◌/◌, ◌%◌, ◌^◌, ◌⊎◌, inl, inr, ℕ, zero, suc, List, [], ◌∷◌, Bool, true, false, true≢false, ◌||◌, if◌then◌else◌, Some, refl, sym, ap, subst, arith, slice_get}
use Rattle.std.proofs.lemmas.Option.{slice_get_past, same_Some, none-some}
use Rattle.std.proofs.lemmas.Nat.{div-mul-add, mod-mul-add}
use Rattle.std.proofs.Math.Nat.{le-mul_of_pos_right}
use Rattle.width_claims.specs.declared.step.Step.{Step}
use Rattle.width_claims.specs.declared.step.Step.TheVariants as step
use Rattle.width_claims.specs.declared.transition.Transition.{Transition}
use Rattle.width_claims.specs.declared.walk.Branch.{Branch}
use Rattle.width_claims.specs.BitSerial.{AreBits, after, bit_of, bits_then, is_lost, letter_then, letters, loses, next_of, next_state, radix, reads_bit, state_count}
use Rattle.width_claims.specs.Runs.{AreTransitions, AreTransitionsIf}
use Rattle.width_claims.specs.Steps.{is_number}
use Rattle.width_claims.specs.Transitions.{IsSmall, IsStepSmall, IsWalked, branch_after, guesses, step_transitions, transition_to, transitions_of}
use Rattle.width_claims.proofs.Small.{bits_more, digits_below, kept_small, next_small, radix_some, state_count_some}

-- ---- each transition of a list, and one of them

abbrev Each : (Transition → Type 0) → List Transition → Type 0
Each P [] = Unit {0}
Each P (t ∷ ts) = P t × Each P ts

abbrev One : (Transition → Type 0) → List Transition → Type 0
One P [] = ⊥
One P (t ∷ ts) = P t ⊎ One P ts

each_both : (P : Transition → Type 0) (xs ys : List Transition) → Each P xs → Each P ys → Each P (xs ++ ys)
each_both P [] ys e f = f
each_both P (x ∷ xs) ys e f = (e.0, each_both P xs ys e.1 f)

each_so : (P Q : Transition → Type 0) → ((t : Transition) → P t → Q t) → (ts : List Transition) → Each P ts → Each Q ts
each_so P Q f [] e = tt
each_so P Q f (t ∷ ts) e = (f t e.0, each_so P Q f ts e.1)

one_left : (P : Transition → Type 0) (xs ys : List Transition) → One P xs → One P (xs ++ ys)
one_left P [] ys o = absurd o
one_left P (x ∷ xs) ys o = elim o [ inl h ↦ inl h | inr h ↦ inr (one_left P xs ys h) ]

one_right : (P : Transition → Type 0) (xs ys : List Transition) → One P ys → One P (xs ++ ys)
one_right P [] ys o = o
one_right P (x ∷ xs) ys o = inr (one_right P xs ys o)

one_so : (P Q : Transition → Type 0) → ((t : Transition) → P t → Q t) → (ts : List Transition) → One P ts → One Q ts
one_so P Q f [] o = absurd o
one_so P Q f (t ∷ ts) o = elim o [ inl h ↦ inl (f t h) | inr h ↦ inr (one_so P Q f ts h) ]

each_at : (P : Transition → Type 0) (ts : List Transition) → Each P ts → (i : ℕ) (t : Transition) → slice_get ts i ≡ Some t → P t
each_at P [] e i t is = absurd (none-some t (sym (slice_get_past [] i (omega arith)) ∙ is))
each_at P (u ∷ ts) e zero t is = subst (λ (v : Transition). P v) (same_Some u t is) e.0
each_at P (u ∷ ts) e (suc i) t is = each_at P ts e.1 i t is

one_at : (P : Transition → Type 0) (ts : List Transition) → One P ts → (i : ℕ) × (t : Transition) × (slice_get ts i ≡ Some t) × P t
one_at P [] o = absurd o
one_at P (u ∷ ts) o = elim o [ inl h ↦ (0, u, refl, h) | inr h ↦ (let r = one_at P ts h in (suc r.0, r.1, r.2, r.3)) ]

-- ---- a letter of a guess and the bits after it

abbrev joined : Step → ℕ → ℕ → ℕ
joined s g y = if reads_bit s then g + 2 * y else y

letters_some : (ss : List Step) → 0 < letters ss
letters_some [] = omega arith
letters_some (s ∷ ss) = go (letters_some ss) (reads_bit s)
  where
    go : 0 < letters ss → (b : Bool) → 0 < (if b then 2 * letters ss else letters ss)
    go h true = omega (arith, h)
    go h false = h

pub guess_less : (s : Step) (g : ℕ) → g < guesses s → g < 2
guess_less s g few = go (reads_bit s) few
  where
    go : (c : Bool) → g < (if c then 2 else 1) → g < 2
    go true k = k
    go false k = omega (arith, k)

joined_below : (s : Step) (ss : List Step) (g y : ℕ) → g < guesses s → y < letters ss → joined s g y < letters (s ∷ ss)
joined_below s ss g y l m = go (reads_bit s) l
  where
    go : (b : Bool) → g < (if b then 2 else 1) → (if b then g + 2 * y else y) < (if b then 2 * letters ss else letters ss)
    go true k = omega (arith, k, m)
    go false k = m

-- where no bit is read, none matters
unread_next : (s : Step) (c g h : ℕ) (bs : List ℕ) → reads_bit s ≡ false → next_of s c g bs ≡ next_of s c h bs
unread_next (step.Variable i) c g h bs e = absurd (true≢false e)
unread_next (step.Select t i j) c g h bs e = absurd (true≢false e)
unread_next (step.Quotient i n) c g h bs e = absurd (true≢false e)
unread_next (step.Literal n) c g h bs e = refl
unread_next (step.Ones u) c g h bs e = refl
unread_next (step.Add i j) c g h bs e = refl
unread_next (step.Subtract i j) c g h bs e = refl
unread_next (step.Equal i j) c g h bs e = refl
unread_next (step.Suppose i j) c g h bs e = refl
unread_next (step.Less i j) c g h bs e = refl
unread_next _ c g h bs e = refl

unread_bit : (s : Step) (c g h : ℕ) (bs : List ℕ) → reads_bit s ≡ false → bit_of s c g bs ≡ bit_of s c h bs
unread_bit (step.Variable i) c g h bs e = absurd (true≢false e)
unread_bit (step.Select t i j) c g h bs e = absurd (true≢false e)
unread_bit (step.Quotient i n) c g h bs e = absurd (true≢false e)
unread_bit (step.Literal n) c g h bs e = refl
unread_bit (step.Ones u) c g h bs e = refl
unread_bit (step.And i j) c g h bs e = refl
unread_bit (step.Or i j) c g h bs e = refl
unread_bit (step.ExclusiveOr i j) c g h bs e = refl
unread_bit (step.Add i j) c g h bs e = refl
unread_bit (step.Subtract i j) c g h bs e = refl
unread_bit _ c g h bs e = refl

unread_bits : (s : Step) (c g h : ℕ) (bs : List ℕ) → reads_bit s ≡ false → bits_then s c g bs ≡ bits_then s c h bs
unread_bits s c g h bs e = ap (λ b. if is_number s then bs ++ (b ∷ []) else bs) (unread_bit s c g h bs e)

-- what a letter leads to, by its guess and the bits after it
after_joined : (s : Step) (ss : List Step) (n g y : ℕ) (bs : List ℕ) → g < guesses s
    → after (s ∷ ss) n (joined s g y) bs ≡ next_of s (n % radix s) g bs + radix s * after ss (n / radix s) y (bits_then s (n % radix s) g bs)
after_joined s ss n g y bs l = go (reads_bit s) refl
  where
    go : (b : Bool) → reads_bit s ≡ b → after (s ∷ ss) n (joined s g y) bs ≡ next_of s (n % radix s) g bs + radix s * after ss (n / radix s) y (bits_then s (n % radix s) g bs)
    go true e =
        let k : g < 2 = subst (λ (b : Bool). g < (if b then 2 else 1)) e l in
        let j : joined s g y ≡ g + 2 * y = ap (λ b. if b then g + 2 * y else y) e in
        let low : joined s g y % 2 ≡ g = omega (arith, j, k) in
        let high : joined s g y / 2 ≡ y = omega (arith, j, k) in
        let rest : letter_then s (joined s g y) ≡ y = ap (λ b. if b then joined s g y / 2 else joined s g y) e ∙ high in
        (λ t. next_of s (n % radix s) (low t) bs + radix s * after ss (n / radix s) (rest t) (bits_then s (n % radix s) (low t) bs))
    go false e =
        let j : joined s g y ≡ y = ap (λ b. if b then g + 2 * y else y) e in
        let rest : letter_then s (joined s g y) ≡ y = ap (λ b. if b then joined s g y / 2 else joined s g y) e ∙ j in
        (λ t. unread_next s (n % radix s) (joined s g y % 2) g bs e t + radix s * after ss (n / radix s) (rest t) (unread_bits s (n % radix s) (joined s g y % 2) g bs e t))

-- ---- a state by its digits

turned : (c r p : ℕ) → c + r * p ≡ p * r + c
turned c r p = omega arith

low_digit : (c r p : ℕ) → c < r → (c + r * p) % r ≡ c
low_digit c r p l = ap (λ n. n % r) (turned c r p) ∙ mod-mul-add p r c l

high_digits : (c r p : ℕ) → c < r → (c + r * p) / r ≡ p
high_digits c r p l = ap (λ n. n / r) (turned c r p) ∙ div-mul-add p r c l

lost_joined : (s : Step) (ss : List Step) (d m : ℕ) → d < radix s → is_lost (s ∷ ss) (d + radix s * m) ≡ (loses s d || is_lost ss m)
lost_joined s ss d m l = (λ t. loses s (low_digit d (radix s) m l t) || is_lost ss (high_digits d (radix s) m l t))

-- ---- the targets of a branch

-- the letter's bits after those that are chosen lead to this
abbrev target_of : List Step → Branch → List ℕ → ℕ → ℕ
target_of ss b bs y = if is_lost ss (after ss b.state y bs) then 0 else b.target + b.weight * after ss b.state y bs

-- a transition of one of these letters
abbrev IsOf : List Step → Branch → List ℕ → Transition → Type 0
IsOf ss b bs t = (y : ℕ) × (y < letters ss) × (t.letter ≡ b.letter + b.bit * y) × (t.target ≡ target_of ss b bs y)

-- all of them
abbrev Covers : List Step → Branch → List ℕ → List Transition → Type 0
Covers ss b bs ts = Each (IsOf ss b bs) ts × ((y : ℕ) → y < letters ss → One (λ t. t.target ≡ target_of ss b bs y) ts)

-- those of one guess
abbrev StepIsOf : Step → List Step → ℕ → Branch → List ℕ → Transition → Type 0
StepIsOf s ss g b bs t = (y : ℕ) × (y < letters ss) × (t.letter ≡ b.letter + b.bit * joined s g y) × (t.target ≡ target_of (s ∷ ss) b bs (joined s g y))

abbrev StepCovers : Step → List Step → ℕ → Branch → List ℕ → List Transition → Type 0
StepCovers s ss g b bs ts = Each (StepIsOf s ss g b bs) ts × ((y : ℕ) → y < letters ss → One (λ t. t.target ≡ target_of (s ∷ ss) b bs (joined s g y)) ts)

letter_joined : (s : Step) (x w g y : ℕ) → g < guesses s → x + w * joined s g y ≡ (x + w * g) + (w * guesses s) * y
letter_joined s x w g y l = go (reads_bit s) l
  where
    go : (b : Bool) → g < (if b then 2 else 1) → x + w * (if b then g + 2 * y else y) ≡ (x + w * g) + (w * (if b then 2 else 1)) * y
    go true k = omega arith
    go false k = let z : g ≡ 0 = omega (arith, k) in let e : x + w * y ≡ (x + w * 0) + (w * 1) * y = omega arith in e ∙ ap (λ v. (x + w * v) + (w * 1) * y) (sym z)

target_joined : (t w d r m : ℕ) → t + w * (d + r * m) ≡ (t + w * d) + (w * r) * m
target_joined t w d r m = omega arith

module _ (s : Step) (ss : List Step) (g : ℕ) (b : Branch) (bs : List ℕ) (bits : AreBits bs) (few : g < guesses s) where
  abbrev kept : ℕ
  kept = b.state % radix s

  abbrev digit : ℕ
  digit = next_of s kept g bs

  abbrev on : Branch
  on = branch_after s g digit b

  abbrev bits_on : List ℕ
  bits_on = bits_then s kept g bs

  digit_small : digit < radix s
  digit_small = next_small s kept g bs bits (guess_less s g few) (kept_small s b.state (radix s) refl)

  lost_on : (y : ℕ) → is_lost (s ∷ ss) (after (s ∷ ss) b.state (joined s g y) bs) ≡ (loses s digit || is_lost ss (after ss on.state y bits_on))
  lost_on y = ap (is_lost (s ∷ ss)) (after_joined s ss b.state g y bs few) ∙ lost_joined s ss digit (after ss on.state y bits_on) digit_small

  -- where the step loses, all letters with this guess do
  target_lost : (y : ℕ) → loses s digit ≡ true → 0 ≡ target_of (s ∷ ss) b bs (joined s g y)
  target_lost y e =
      sym (ap (λ c. if c then 0 else b.target + b.weight * after (s ∷ ss) b.state (joined s g y) bs) (lost_on y ∙ ap (λ c. c || is_lost ss (after ss on.state y bits_on)) e))

  target_on : (y : ℕ) → loses s digit ≡ false → target_of ss on bits_on y ≡ target_of (s ∷ ss) b bs (joined s g y)
  target_on y e =
      let same = sym (lost_on y ∙ ap (λ c. c || is_lost ss (after ss on.state y bits_on)) e) in
      let sum = sym (ap (λ n. b.target + b.weight * n) (after_joined s ss b.state g y bs few) ∙ target_joined b.target b.weight digit (radix s) (after ss on.state y bits_on)) in
      (λ t. if same t then 0 else sum t)

  lost_covers : loses s digit ≡ true → StepCovers s ss g b bs (transition_to b g 0 ∷ [])
  lost_covers e = (
    ((0, letters_some ss, first (reads_bit s) few, target_lost 0 e), tt),
    λ y l. inl (target_lost y e),
  )
    where
      first : (c : Bool) → g < (if c then 2 else 1) → b.letter + b.bit * g ≡ b.letter + b.bit * (if c then g + 2 * 0 else 0)
      first true k = let z : g ≡ g + 2 * 0 = omega arith in ap (λ v. b.letter + b.bit * v) z
      first false k = let z : g ≡ 0 = omega (arith, k) in ap (λ v. b.letter + b.bit * v) z

  on_covers : (ts : List Transition) → loses s digit ≡ false → Covers ss on bits_on ts → StepCovers s ss g b bs ts
  on_covers ts e c = (
    each_so (IsOf ss on bits_on) (StepIsOf s ss g b bs) (λ t h. (h.0, h.1, h.2 ∙ sym (letter_joined s b.letter b.bit g h.0 few), h.3 ∙ target_on h.0 e)) ts c.0,
    λ y l. one_so (λ t. t.target ≡ target_of ss on bits_on y) (λ t. t.target ≡ target_of (s ∷ ss) b bs (joined s g y)) (λ t h. h ∙ target_on y e) ts (c.1 y l),
  )

  step_covers : ((c : Branch) (cs : List ℕ) → AreBits cs → Covers ss c cs (transitions_of ss c cs)) → StepCovers s ss g b bs (step_transitions s g b bs (transitions_of ss))
  step_covers more = go (loses s digit) refl
    where
      go : (c : Bool) → loses s digit ≡ c → StepCovers s ss g b bs (if c then transition_to b g 0 ∷ [] else transitions_of ss on bits_on)
      go true e = lost_covers e
      go false e = on_covers (transitions_of ss on bits_on) e (more on bits_on (bits_more s kept g bs bits (guess_less s g few)))

abbrev guessed : Step → List Step → ℕ → Branch → List ℕ → List Transition
guessed s ss g b bs = step_transitions s g b bs (transitions_of ss)

-- a transition of a guess is one of the whole
whole : (s : Step) (ss : List Step) (g : ℕ) (b : Branch) (bs : List ℕ) → g < guesses s → (t : Transition) → StepIsOf s ss g b bs t → IsOf (s ∷ ss) b bs t
whole s ss g b bs few t h = (joined s g h.0, joined_below s ss g h.0 few h.1, h.2, h.3)

low : (y : ℕ) → (y % 2 ≡ 0) ⊎ (y % 2 ≡ 1)
low y = grind arith

covers_step : (s : Step) (ss : List Step) (b : Branch) (bs : List ℕ) → AreBits bs → ((c : Branch) (cs : List ℕ) → AreBits cs → Covers ss c cs (transitions_of ss c cs)) → Covers (s ∷ ss) b bs (transitions_of (s ∷ ss) b bs)
covers_step s ss b bs bits more = go (reads_bit s) refl
  where
    some : (c : Bool) → 0 < (if c then 2 else 1)
    some true = omega arith
    some false = omega arith

    zeros : StepCovers s ss 0 b bs (guessed s ss 0 b bs)
    zeros = step_covers s ss 0 b bs bits (some (reads_bit s)) more

    are_zeros : Each (IsOf (s ∷ ss) b bs) (guessed s ss 0 b bs)
    are_zeros = each_so (StepIsOf s ss 0 b bs) (IsOf (s ∷ ss) b bs) (whole s ss 0 b bs (some (reads_bit s))) (guessed s ss 0 b bs) zeros.0

    go : (c : Bool) → reads_bit s ≡ c → Covers (s ∷ ss) b bs (guessed s ss 0 b bs ++ (if c then guessed s ss 1 b bs else []))
    go true e =
        let few : 1 < guesses s = subst (λ (c : Bool). 1 < (if c then 2 else 1)) (sym e) (omega arith) in
        let ones = step_covers s ss 1 b bs bits few more in (
          each_both (IsOf (s ∷ ss) b bs) (guessed s ss 0 b bs) (guessed s ss 1 b bs) are_zeros (each_so (StepIsOf s ss 1 b bs) (IsOf (s ∷ ss) b bs) (whole s ss 1 b bs few) (guessed s ss 1 b bs) ones.0),
          λ y l.
              let half : y / 2 < letters ss = (let m : letters (s ∷ ss) ≡ 2 * letters ss = ap (λ c. if c then 2 * letters ss else letters ss) e in omega (arith, l, m)) in
              elim (low y) [
                | inl h ↦ (
                    let j : joined s 0 (y / 2) ≡ y = ap (λ c. if c then 0 + 2 * (y / 2) else y / 2) e ∙ omega (arith, h) in
                    subst (λ (z : ℕ). One (λ t. t.target ≡ target_of (s ∷ ss) b bs z) (guessed s ss 0 b bs ++ guessed s ss 1 b bs)) j
                    (one_left (λ t. t.target ≡ target_of (s ∷ ss) b bs (joined s 0 (y / 2))) (guessed s ss 0 b bs) (guessed s ss 1 b bs) (zeros.1 (y / 2) half)))
                | inr h ↦ (
                    let j : joined s 1 (y / 2) ≡ y = ap (λ c. if c then 1 + 2 * (y / 2) else y / 2) e ∙ omega (arith, h) in
                    subst (λ (z : ℕ). One (λ t. t.target ≡ target_of (s ∷ ss) b bs z) (guessed s ss 0 b bs ++ guessed s ss 1 b bs)) j
                    (one_right (λ t. t.target ≡ target_of (s ∷ ss) b bs (joined s 1 (y / 2))) (guessed s ss 0 b bs) (guessed s ss 1 b bs) (ones.1 (y / 2) half)))
              ],
        )
    go false e = (
      each_both (IsOf (s ∷ ss) b bs) (guessed s ss 0 b bs) [] are_zeros tt,
      λ y l.
          let within : y < letters ss = (let m : letters (s ∷ ss) ≡ letters ss = ap (λ c. if c then 2 * letters ss else letters ss) e in omega (arith, l, m)) in
          let j : joined s 0 y ≡ y = ap (λ c. if c then 0 + 2 * y else y) e in
          subst (λ (z : ℕ). One (λ t. t.target ≡ target_of (s ∷ ss) b bs z) (guessed s ss 0 b bs ++ [])) j
          (one_left (λ t. t.target ≡ target_of (s ∷ ss) b bs (joined s 0 y)) (guessed s ss 0 b bs) [] (zeros.1 y within)),
    )

covers : (ss : List Step) (b : Branch) (bs : List ℕ) → AreBits bs → Covers ss b bs (transitions_of ss b bs)
covers [] b bs bits = (((0, omega arith, refl, omega arith), tt), λ y l. inl (omega arith))
covers (s ∷ ss) b bs bits = covers_step s ss b bs bits (covers ss)

-- from a whole state
all_transitions : (ss : List Step) (b : Branch) → b.letter ≡ 0 → b.bit ≡ 1 → b.target ≡ 0 → b.weight ≡ 1 → AreTransitions (next_state ss b.state) (letters ss) (transitions_of ss b [])
all_transitions ss b letter bit target weight =
    let c = covers ss b [] none in (
      λ i t is.
          let r = each_at (IsOf ss b []) (transitions_of ss b []) c.0 i t is in
          let same : t.letter ≡ r.0 = r.2 ∙ (λ j. letter j + bit j * r.0) ∙ omega arith in
          (subst (λ (x : ℕ). x < letters ss) (sym same) r.1, r.3 ∙ target_is r.0 ∙ ap (next_state ss b.state) (sym same)),
      λ x l. let r = one_at (λ t. t.target ≡ target_of ss b [] x) (transitions_of ss b []) (c.1 x l) in (r.0, r.1, r.2, r.3 ∙ target_is x),
    )
  where
    none : AreBits []
    none i = omega arith

    unweighted : (m : ℕ) → b.target + b.weight * m ≡ m
    unweighted m = (λ j. target j + weight j * m) ∙ omega arith

    target_is : (x : ℕ) → target_of ss b [] x ≡ next_state ss b.state x
    target_is x = (λ j. if is_lost ss (after ss b.state x []) then 0 else unweighted (after ss b.state x []) j)

-- ---- what fits

letters_parts : (s : Step) (ss : List Step) → letters (s ∷ ss) ≡ guesses s * letters ss
letters_parts s ss = go (reads_bit s)
  where
    go : (c : Bool) → (if c then 2 * letters ss else letters ss) ≡ (if c then 2 else 1) * letters ss
    go true = refl
    go false = omega arith

-- a product with a positive number is no less
part_small : (a b n m : ℕ) → 0 < n → a * (b * n) < m → a * b < m
part_small a b n m some l =
    let h = le-mul_of_pos_right (a * b) some in
    let e : a * b * n ≡ a * (b * n) = omega arith in
    omega (arith, h, e, l)

bit_small_on : (s : Step) (ss : List Step) (b : Branch) → IsSmall (s ∷ ss) b → b.bit * (guesses s * letters ss) < 2 ^ 32
bit_small_on s ss b small = subst (λ (n : ℕ). b.bit * n < 2 ^ 32) (letters_parts s ss) small.3

pub radix_small : (s : Step) (ss : List Step) (b : Branch) → IsSmall (s ∷ ss) b → radix s < 2 ^ 128
radix_small s ss b small =
    let weight = part_small b.weight (radix s) (state_count ss) (2 ^ 128) (state_count_some ss) small.1 in
    let some : 0 < b.weight = (let l = small.0 in omega (arith, l)) in
    let h = le-mul_of_pos_right (radix s) some in
    let e : radix s * b.weight ≡ b.weight * radix s = omega arith in
    omega (arith, weight, h, e)

pub step_small : (s : Step) (ss : List Step) (b : Branch) (g d : ℕ) → IsSmall (s ∷ ss) b → g < guesses s → d < radix s → IsStepSmall s g d b
step_small s ss b g d small few below =
    let bit = part_small b.bit (guesses s) (letters ss) (2 ^ 32) (letters_some ss) (bit_small_on s ss b small) in
    let weight = part_small b.weight (radix s) (state_count ss) (2 ^ 128) (state_count_some ss) small.1 in
    let letter = digits_below b.letter b.bit g (guesses s) small.2 few in
    let target = digits_below b.target b.weight d (radix s) small.0 below in
    (omega (arith, bit, letter), bit, radix_small s ss b small, omega (arith, weight, target), weight)

pub tail_small : (s : Step) (ss : List Step) (b : Branch) (g d : ℕ) → IsSmall (s ∷ ss) b → g < guesses s → d < radix s → IsSmall ss (branch_after s g d b)
tail_small s ss b g d small few below = (
  digits_below b.target b.weight d (radix s) small.0 below,
  (let l = small.1 in let e : b.weight * radix s * state_count ss ≡ b.weight * (radix s * state_count ss) = omega arith in omega (arith, l, e)),
  digits_below b.letter b.bit g (guesses s) small.2 few,
  (let l = bit_small_on s ss b small in let e : b.bit * guesses s * letters ss ≡ b.bit * (guesses s * letters ss) = omega arith in omega (arith, l, e)),
)

pub guess_small : (s : Step) (ss : List Step) (b : Branch) (g : ℕ) → IsSmall (s ∷ ss) b → g < guesses s → b.letter + b.bit * g < 2 ^ 32
guess_small s ss b g small few = (step_small s ss b g 0 small few (radix_some s)).0

-- the digit that a step keeps is below its radix
pub digit_below : (s : Step) (n c g d : ℕ) (bs cs : List ℕ) → AreBits bs → g < 2 → c ≡ n % radix s → d ≡ next_of s c g cs → cs ≡ bs → d < radix s
digit_below s n c g d bs cs bits h e f same =
    subst (λ (k : ℕ). k < radix s) (sym (f ∙ ap (next_of s c g) same)) (next_small s c g bs bits h (subst (λ (k : ℕ). k < radix s) (sym e) (kept_small s n (radix s) refl)))

-- the transitions from a whole state
pub walked_all : (ss : List Step) (b : Branch) (old new : List Transition) (bs cs : List ℕ) (complete : Bool) → b.letter ≡ 0 → b.bit ≡ 1 → b.target ≡ 0 → b.weight ≡ 1 → bs ≡ [] → old ≡ []
    → IsWalked (transitions_of ss b bs) old new bs cs complete → AreTransitionsIf complete (next_state ss b.state) (letters ss) new
walked_all ss b old new bs cs false letter bit target weight none nothing w = tt
walked_all ss b old new bs cs true letter bit target weight none nothing w =
    subst (λ (ts : List Transition). AreTransitions (next_state ss b.state) (letters ss) ts) (sym (w.0 ∙ (λ i. nothing i ++ transitions_of ss b (none i)))) (all_transitions ss b letter bit target weight)
