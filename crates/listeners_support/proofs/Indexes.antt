-- The bits that say which words aren't 0.
use Rattle.std.proofs.Common.{◌≡◌, ◌≢◌, ℕ, ◌+◌, ◌*◌, ◌/◌, ◌%◌, ◌<◌, ◌≤◌, List, length, false, true, refl, sym, ap, ◌∙◌, inl, inr, arith}
use Rattle.std.specs.Prelude.{slice_index}
use Rattle.std.specs.Int.{bit_at}
use Rattle.std.proofs.lemmas.Bool.{cases_eq, cases_lt, eq-eqb, ne_eqb}
use Rattle.std.proofs.lemmas.Nat.Bits.{bit_at-zero}
use Rattle.listeners_support.proofs.Words.{no_bits}
use Rattle.listeners_support.specs.Bits.{bit_of, has, IsFirst, IsNext, IsNone, IsIndexed}

module _ (words groups new_words new_groups : List ℕ) (at : ℕ) (is : IsIndexed words groups) (long : length new_words ≡ length words) (wide : length new_groups ≡ length groups)
    (same : (w : ℕ) → w ≢ at → slice_index new_words w ≡ slice_index words w) (others : (w : ℕ) → w ≢ at → bit_of new_groups w ≡ bit_of groups w) where
  indexed : (bit_of new_groups at ≡ 0 → slice_index new_words at ≡ 0) → (bit_of new_groups at ≡ 1 → slice_index new_words at ≡ 0 → ⊥) → IsIndexed new_words new_groups
  indexed clear some = record {
    few = omega (arith, is.few, long);
    short = omega (arith, is.short, wide);
    headroom = omega (arith, is.headroom, long, wide);
    clear = λ w z. elim (cases_eq w at) [
      | inl e ↦ ap (slice_index new_words) e ∙ clear (ap (bit_of new_groups) (sym e) ∙ z)
      | inr ne ↦ same w ne ∙ is.clear w (sym (others w ne) ∙ z)
    ];
    set = λ w o z. elim (cases_eq w at) [
      | inl e ↦ some (ap (bit_of new_groups) (sym e) ∙ o) (ap (slice_index new_words) (sym e) ∙ z)
      | inr ne ↦ is.set w (sym (others w ne) ∙ o) (sym (same w ne) ∙ z)
    ];
  }

  -- a bit of the word is set
  pub inserted : (x : ℕ) → x / 64 ≡ at → bit_of new_words x ≡ 1 → bit_of new_groups at ≡ 1 → IsIndexed new_words new_groups
  inserted x place bit some =
      indexed (λ z. absurd (omega (arith, z, some)))
      (λ o z. let none : bit_of new_words x ≡ 0 = ap (λ w. bit_at (slice_index new_words w) (x % 64)) place ∙ ap (λ n. bit_at n (x % 64)) z ∙ bit_at-zero (x % 64) in omega (arith, none, bit))

  -- the word is 0
  pub emptied : slice_index new_words at ≡ 0 → bit_of new_groups at ≡ 0 → IsIndexed new_words new_groups
  emptied none clear = indexed (λ z. none) (λ o z. omega (arith, clear, o))

-- a word that isn't 0 before and after changes
pub kept : (words groups new_words : List ℕ) (at : ℕ) → IsIndexed words groups → length new_words ≡ length words → ((w : ℕ) → w ≢ at → slice_index new_words w ≡ slice_index words w)
    → (slice_index words at ≡ 0 → slice_index new_words at ≡ 0) → (slice_index new_words at ≡ 0 → ⊥) → IsIndexed new_words groups
kept words groups new_words at is long same zero some = indexed words groups new_words groups at is long refl same (λ w ne. refl) (λ z. zero (is.clear at z)) (λ o z. some z)

-- ---- the next number

-- no bit is set from `from` on, in the word of `from`
abbrev pub NearNone : List ℕ → ℕ → Type 0
NearNone words from = (i : ℕ) → from % 64 ≤ i → bit_at (slice_index words (from / 64)) i ≡ 0

module _ (words : List ℕ) where
  there : (x : ℕ) → bit_of words x ≡ 1 → has words x ≡ true
  there x e = eq-eqb (bit_of words x) 1 e

  gone : (x : ℕ) → bit_of words x ≡ 0 → has words x ≡ false
  gone x e = ne_eqb (bit_of words x) 1 (λ o. omega (arith, e, o))

  pub found_near : (from x : ℕ) → IsFirst words from x → IsNext words from x
  found_near from x f = (f.0, there x f.1, λ y l m. gone y (f.2 y l m))

  module _ (groups : List ℕ) (is : IsIndexed words groups) (from : ℕ) (near : NearNone words from) where
    -- there is no bit in the word of `from`, nor in words that are 0
    apart : (y : ℕ) → from ≤ y → (from / 64 < y / 64 → bit_of groups (y / 64) ≡ 0) → bit_of words y ≡ 0
    apart y l far = elim (cases_lt (from / 64) (y / 64)) [
      | inl later ↦ ap (λ n. bit_at n (y % 64)) (is.clear (y / 64) (far later)) ∙ bit_at-zero (y % 64)
      | inr same ↦ let here : y / 64 ≡ from / 64 = omega (arith, l, same) in
          ap (λ w. bit_at (slice_index words w) (y % 64)) here ∙ near (y % 64) (omega (arith, l, here))
    ]

    pub none_far : ((i : ℕ) → from / 64 + 1 ≤ i → bit_of groups i ≡ 0) → IsNone words from
    none_far far y l = gone y (apart y l (λ later. far (y / 64) (omega (arith, later))))

    pub found_far : (word x : ℕ) → IsFirst groups (from / 64 + 1) word → IsFirst words (word * 64) x → IsNext words from x
    found_far word x g f = (
      (let a = g.0 in let b = f.0 in omega (arith, a, b)),
      there x f.1,
      λ y l m. gone y (elim (cases_lt (y / 64) word) [
        | inl less ↦ apart y l (λ later. g.2 (y / 64) (omega (arith, later)) less)
        | inr more ↦ f.2 y (omega (arith, more)) m
      ]),
    )

    -- a word whose group bit is set has a bit
    pub never : (word : ℕ) → IsFirst groups (from / 64 + 1) word → NearNone words (word * 64) → ⊥
    never word g none =
        let place : word * 64 / 64 ≡ word = omega arith in
        let start : word * 64 % 64 ≡ 0 = omega arith in
        is.set word g.1 (no_bits (slice_index words word) (λ i. ap (λ w. bit_at (slice_index words w) i) (sym place) ∙ none i (omega (arith, start))))
