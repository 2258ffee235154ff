-- A truth that the machine accepts bit by bit holds at all widths.
use Rattle.std.proofs.Common.{◌≡◌, ◌∙◌, ℕ, zero, suc, ◌+◌, ◌*◌, ◌/◌, ◌%◌, ◌^◌, ◌<◌, ◌≤◌, ◌&&◌, ◌||◌, ◌++◌, not, List, [], ◌∷◌, map, Bool, true, false, true≢false, if◌then◌else◌, refl, sym, ap, arith}
use Rattle.std.specs.Int.{bit_at}
use Rattle.std.proofs.lemmas.Bool.{and_parts}
use Rattle.std.proofs.lemmas.Nat.{pow_pos}
use Rattle.std.proofs.lemmas.Nat.Bits.{bit_at-lt}
use Rattle.std.proofs.Math.Nat.{add-mul-mod_self_left, add-mul-div_left, div-eq_of_lt, mod-eq_of_lt}
use Rattle.width_claims.specs.Runs.{AcceptsAll, AreLetters, reached}
use Rattle.width_claims.specs.declared.step.Step.{Step}
use Rattle.width_claims.specs.Steps.{is_number, numbers_then, supposed, supposed_of, truth_at, truth_of, truths, truths_then, value_of}
use Rattle.width_claims.specs.BitSerial.{accepts, after, agrees, all_agree, reads_bit, next_state, bit_of, bits_then, is_lost, kept_on, letter_then, letters, loses, next_of, radix, start, end_truth, end_truths, end_truths_then}
use Rattle.width_claims.specs.AllWidths.{AcceptanceIsSound}
use Rattle.width_claims.proofs.Invariant.{AreLow, agrees_is, bit_is, bits, kept, kept_below, kept_first, loses_not, next_is, end_truth_is, value_low}

-- the lowest digit and the higher ones
digit : (c r p : ℕ) → c < r → ((c + r * p) % r ≡ c) × ((c + r * p) / r ≡ p)
digit c r p l =
    let q : 0 < r = omega (arith, l) in
    (add-mul-mod_self_left c r p ∙ mod-eq_of_lt l, add-mul-div_left c p q ∙ ap (λ n. n + p) (div-eq_of_lt l) ∙ zero_more p)
  where
    zero_more : (n : ℕ) → 0 + n ≡ n
    zero_more n = omega arith

map_after : (f : ℕ → ℕ) (ns : List ℕ) (v : ℕ) → map f (ns ++ v ∷ []) ≡ map f ns ++ f v ∷ []
map_after f [] v = refl
map_after f (n ∷ ns) v = ap (λ ms. f n ∷ ms) (map_after f ns v)

low_after : (w : ℕ) (ns : List ℕ) (v : ℕ) → AreLow w ns → v < 2 ^ w → AreLow w (ns ++ v ∷ [])
low_after w [] v low l zero = l
low_after w [] v low l (suc i) = pow_pos w
low_after w (n ∷ ns) v low l zero = low 0
low_after w (n ∷ ns) v low l (suc i) = low_after w ns v (λ j. low (suc j)) l i

module _ (w : ℕ) (vs : List ℕ) where
  low_then : (s : Step) (ns : List ℕ) (ts : List Bool) → AreLow w ns → AreLow w (numbers_then w vs s ns ts)
  low_then s ns ts low = go (is_number s)
    where
      go : (b : Bool) → AreLow w (if b then ns ++ (value_of w vs s ns ts ∷ []) else ns)
      go true = low_after w ns (value_of w vs s ns ts) low (value_low w vs s ns ts low)
      go false = low

  -- the state after the first k bits
  abbrev pub state_at : ℕ → List Step → List ℕ → List Bool → ℕ
  state_at k [] ns ts = 0
  state_at k (s ∷ ss) ns ts = kept k s (value_of w vs s ns ts) ns + radix s * state_at k ss (numbers_then w vs s ns ts) (truths_then s ns ts)

  -- the letter of the bits at k
  abbrev pub letter_at : ℕ → List Step → List ℕ → List Bool → ℕ
  letter_at k [] ns ts = 0
  letter_at k (s ∷ ss) ns ts =
      if reads_bit s then bit_at (value_of w vs s ns ts) k + 2 * letter_at k ss (numbers_then w vs s ns ts) (truths_then s ns ts)
      else letter_at k ss (numbers_then w vs s ns ts) (truths_then s ns ts)

  pub state_first : (ss : List Step) (ns : List ℕ) (ts : List Bool) → state_at 0 ss ns ts ≡ start ss
  state_first [] ns ts = refl
  state_first (s ∷ ss) ns ts =
      (λ i. kept_first s (value_of w vs s ns ts) ns i + radix s * state_first ss (numbers_then w vs s ns ts) (truths_then s ns ts) i)

  pub letter_below : (k : ℕ) (ss : List Step) (ns : List ℕ) (ts : List Bool) → letter_at k ss ns ts < letters ss
  letter_below k [] ns ts = omega arith
  letter_below k (s ∷ ss) ns ts =
      go (reads_bit s) (bit_at (value_of w vs s ns ts) k) (letter_at k ss (numbers_then w vs s ns ts) (truths_then s ns ts)) (letters ss)
      (bit_at-lt (value_of w vs s ns ts) k) (letter_below k ss (numbers_then w vs s ns ts) (truths_then s ns ts))
    where
      go : (b : Bool) (p x m : ℕ) → p < 2 → x < m → (if b then p + 2 * x else x) < (if b then 2 * m else m)
      go true p x m l h = omega (arith, l, h)
      go false p x m l h = h

  module _ (k : ℕ) (within : k < w) where
    -- the part of a letter for a step, and for the others
    guess_is : (b : Bool) (p x : ℕ) → p < 2 → b ≡ true → (if b then p + 2 * x else x) % 2 ≡ p
    guess_is true p x l e = omega (arith, l)
    guess_is false p x l e = absurd (true≢false (sym e))

    rest_is : (b : Bool) (p x : ℕ) → p < 2 → (if b then (if b then p + 2 * x else x) / 2 else (if b then p + 2 * x else x)) ≡ x
    rest_is true p x l = omega (arith, l)
    rest_is false p x l = refl

    bits_are : (s : Step) (g : ℕ) (ns : List ℕ) (ts : List Bool) → AreLow w ns → (reads_bit s ≡ true → g ≡ bit_at (value_of w vs s ns ts) k)
        → bits_then s (kept k s (value_of w vs s ns ts) ns) g (bits k ns) ≡ bits k (numbers_then w vs s ns ts)
    bits_are s g ns ts low guess = go (is_number s) (λ e. bit_is w vs k within s g ns ts e low guess)
      where
        go : (b : Bool) → (b ≡ true → bit_of s (kept k s (value_of w vs s ns ts) ns) g (bits k ns) ≡ bit_at (value_of w vs s ns ts) k)
            → (if b then bits k ns ++ (bit_of s (kept k s (value_of w vs s ns ts) ns) g (bits k ns) ∷ []) else bits k ns) ≡ bits k (if b then ns ++ (value_of w vs s ns ts ∷ []) else ns)
        go true e = ap (λ p. bits k ns ++ (p ∷ [])) (e refl) ∙ sym (map_after (λ n. bit_at n k) ns (value_of w vs s ns ts))
        go false e = refl

    pub state_next : (ss : List Step) (ns : List ℕ) (ts : List Bool) → AreLow w ns → after ss (state_at k ss ns ts) (letter_at k ss ns ts) (bits k ns) ≡ state_at (suc k) ss ns ts
    state_next [] ns ts low = refl
    state_next (s ∷ ss) ns ts low =
        let v = value_of w vs s ns ts in
        let ms = numbers_then w vs s ns ts in
        let us = truths_then s ns ts in
        let d = digit (kept k s v ns) (radix s) (state_at k ss ms us) (kept_below k s v ns) in
        let x = letter_at k (s ∷ ss) ns ts in
        let guess : reads_bit s ≡ true → x % 2 ≡ bit_at v k = guess_is (reads_bit s) (bit_at v k) (letter_at k ss ms us) (bit_at-lt v k) in
        let rest : letter_then s x ≡ letter_at k ss ms us = rest_is (reads_bit s) (bit_at v k) (letter_at k ss ms us) (bit_at-lt v k) in
        (λ i. next_of s (d.0 i) (x % 2) (bits k ns) + radix s * after ss (d.1 i) (rest i) (bits_then s (d.0 i) (x % 2) (bits k ns)))
        ∙ (λ i. next_is w vs k within s (x % 2) ns ts guess i + radix s * after ss (state_at k ss ms us) (letter_at k ss ms us) (bits_are s (x % 2) ns ts low guess i))
        ∙ ap (λ n. kept (suc k) s v ns + radix s * n) (state_next ss ms us (low_then s ns ts low))

  -- ---- at the end

  end_there : (s : Step) (ns : List ℕ) (ts : List Bool) → AreLow w ns → end_truths_then s (kept w s (value_of w vs s ns ts) ns) ts ≡ truths_then s ns ts
  end_there s ns ts low = go (is_number s) (λ e. end_truth_is w vs s ns ts e low)
    where
      go : (b : Bool) → (b ≡ false → end_truth s (kept w s (value_of w vs s ns ts) ns) ts ≡ truth_of s ns ts)
          → (if b then ts else ts ++ (end_truth s (kept w s (value_of w vs s ns ts) ns) ts ∷ [])) ≡ (if b then ts else ts ++ (truth_of s ns ts ∷ []))
      go true e = refl
      go false e = ap (λ t. ts ++ (t ∷ [])) (e refl)

  pub end_truths_are : (ss : List Step) (ns : List ℕ) (ts : List Bool) → AreLow w ns → end_truths ss (state_at w ss ns ts) ts ≡ truths w vs ss ns ts
  end_truths_are [] ns ts low = refl
  end_truths_are (s ∷ ss) ns ts low =
      let v = value_of w vs s ns ts in
      let ms = numbers_then w vs s ns ts in
      let us = truths_then s ns ts in
      let d = digit (kept w s v ns) (radix s) (state_at w ss ms us) (kept_below w s v ns) in
      (λ i. end_truths ss (d.1 i) (end_truths_then s (d.0 i) ts))
      ∙ ap (λ r. end_truths ss (state_at w ss ms us) r) (end_there s ns ts low)
      ∙ end_truths_are ss ms us (low_then s ns ts low)

  pub guesses_agree : (ss : List Step) (ns : List ℕ) (ts : List Bool) → AreLow w ns → supposed w vs ss ns ts ≡ true → all_agree ss (state_at w ss ns ts) ts ≡ true
  guesses_agree [] ns ts low e = refl
  guesses_agree (s ∷ ss) ns ts low e =
      let v = value_of w vs s ns ts in
      let ms = numbers_then w vs s ns ts in
      let us = truths_then s ns ts in
      let d = digit (kept w s v ns) (radix s) (state_at w ss ms us) (kept_below w s v ns) in
      let h = and_parts (supposed_of s ns) (supposed w vs ss ms us) e in
      (λ i. agrees s (d.0 i) ts && all_agree ss (d.1 i) (end_truths_then s (d.0 i) ts))
      ∙ (λ i. agrees_is w vs s ns ts low h.0 i && all_agree ss (state_at w ss ms us) (end_there s ns ts low i))
      ∙ guesses_agree ss ms us (low_then s ns ts low) h.1

  pub never_lost : (k : ℕ) (ss : List Step) (ns : List ℕ) (ts : List Bool) → supposed w vs ss ns ts ≡ true → is_lost ss (state_at k ss ns ts) ≡ false
  never_lost k [] ns ts e = refl
  never_lost k (s ∷ ss) ns ts e =
      let v = value_of w vs s ns ts in
      let ms = numbers_then w vs s ns ts in
      let us = truths_then s ns ts in
      let d = digit (kept k s v ns) (radix s) (state_at k ss ms us) (kept_below k s v ns) in
      let h = and_parts (supposed_of s ns) (supposed w vs ss ms us) e in
      (λ i. loses s (d.0 i) || is_lost ss (d.1 i))
      ∙ (λ i. loses_not w vs k s ns ts h.0 i || is_lost ss (state_at k ss ms us))
      ∙ never_lost k ss ms us h.1

  -- ---- all letters in sequence

  module _ (ss : List Step) (so : supposed w vs ss [] [] ≡ true) where
    abbrev word : ℕ → List ℕ
    word zero = []
    word (suc k) = word k ++ (letter_at k ss [] [] ∷ [])

    none_low : AreLow w []
    none_low i = pow_pos w

    one_extra : (f : ℕ → ℕ → ℕ) (s : ℕ) (xs : List ℕ) (x : ℕ) → reached f s (xs ++ x ∷ []) ≡ f (reached f s xs) x
    one_extra f s [] x = refl
    one_extra f s (y ∷ xs) x = one_extra f (f s y) xs x

    letters_after : (n : ℕ) (xs : List ℕ) (x : ℕ) → AreLetters n xs → x < n → AreLetters n (xs ++ x ∷ [])
    letters_after n [] x a l = (l, tt)
    letters_after n (y ∷ xs) x a l = (a.0, letters_after n xs x a.1 l)

    reached_at : (k : ℕ) → k ≤ w → reached (next_state ss) (start ss) (word k) ≡ state_at k ss [] []
    reached_at zero l = sym (state_first ss [] [])
    reached_at (suc k) l =
        one_extra (next_state ss) (start ss) (word k) (letter_at k ss [] [])
        ∙ ap (λ n. next_state ss n (letter_at k ss [] [])) (reached_at k (omega (arith, l)))
        ∙ ap (kept_on ss) (state_next k (omega (arith, l)) ss [] [] none_low)
        ∙ ap (λ b. if b then 0 else state_at (suc k) ss [] []) (never_lost (suc k) ss [] [] so)

    word_letters : (k : ℕ) → AreLetters (letters ss) (word k)
    word_letters zero = tt
    word_letters (suc k) = letters_after (letters ss) (word k) (letter_at k ss [] []) (word_letters k) (letter_below k ss [] [])

    accepted_after : (f : ℕ → ℕ → ℕ) (p : ℕ → Bool) (n s : ℕ) → AcceptsAll f p n s → (xs : List ℕ) (x : ℕ) → AreLetters n (xs ++ x ∷ []) → p (reached f s (xs ++ x ∷ [])) ≡ true
    accepted_after f p n s all [] x a = all x [] a
    accepted_after f p n s all (y ∷ xs) x a = all y (xs ++ x ∷ []) a

    end_true : (a b : Bool) → a ≡ true → (not a || b) ≡ true → b ≡ true
    end_true true b e h = h
    end_true false b e h = absurd (true≢false (sym e))

    pub true_there : (claim k : ℕ) → w ≡ suc k → AcceptsAll (next_state ss) (accepts ss claim) (letters ss) (start ss) → truth_at (truths w vs ss [] []) claim ≡ true
    true_there claim k e all =
        let yes = accepted_after (next_state ss) (accepts ss claim) (letters ss) (start ss) all (word k) (letter_at k ss [] []) (word_letters (suc k)) in
        let there = sym (ap (accepts ss claim) (reached_at (suc k) (omega (arith, e)) ∙ ap (λ j. state_at j ss [] []) (sym e))) ∙ yes in
        ap (λ ts. truth_at ts claim) (sym (end_truths_are ss [] [] none_low))
        ∙ end_true (all_agree ss (state_at w ss [] []) []) (truth_at (end_truths ss (state_at w ss [] []) []) claim) (guesses_agree ss [] [] none_low so) there

pub accepted_at_all_widths : AcceptanceIsSound
accepted_at_all_widths ss claim all zero l vs so = absurd (omega (arith, l))
accepted_at_all_widths ss claim all (suc k) l vs so = true_there (suc k) vs ss so claim k refl all
