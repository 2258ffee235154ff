-- A parse stays within the capacity: it adds no more entries than the context has capacity for.
use Rattle.std.proofs.Common.{◌≡◌, ◌≤◌, ◌+◌, ℕ, zero, suc, Bool, true, false, List, [], ◌∷◌, ◌++◌, length, Option, Some, None, refl, arith}
use Rattle.std.specs.Prelude.{if◌then◌else◌}
use Rattle.ir_text_tokens.specs.declared.token.Mark.{Mark}
use Rattle.ir_text_tokens.specs.declared.token.Mark.TheVariants.{Comma}
use Rattle.ir_text_tokens.specs.Tokens.{mark}
use Rattle.ir_types.specs.Things.{ContextModel}
use Rattle.ir_text_types.specs.Marks.{after}
use Rattle.ir_text_types.specs.Outcomes.{Outcome, Read, Wrong, Full, ◌>>=◌, of_option, Parse}
use Rattle.ir_text_types.specs.Lists.{more_at, more_from, list_at, list_from}
use Rattle.ir_text_types.specs.Typed.{Typed}
use Rattle.ir_text_types.proofs.TextLaws.{after_found}
use Rattle.ir_text.specs.Headroom.{Fits}
use Rattle.ir_text.proofs.Lengths.{gain, next_length}

pub fits_to : {i j k i' j' k' : ℕ} {b r : List ℕ} {c : ContextModel} → Fits i j k b c → length r + i' ≤ length b + i → length r + j' ≤ length b + j → length r + k' ≤ length b + k → Fits i' j' k' r c
fits_to h n t a = record { names = omega (arith, h.names, n); types = omega (arith, h.types, t); attrs = omega (arith, h.attrs, a) }

pub after_length : (m : Mark) (b r : List ℕ) → after m b ≡ Some r → length r + gain (mark m) ≤ length b
after_length m b r e = next_length b r (mark m) (after_found m b r e)

module _ {S : Type 0} (text : S → List ℕ) (things : S → ContextModel) where
  abbrev pub Has : ℕ → ℕ → ℕ → S → Type 0
  Has i j k s = Fits i j k (text s) (things s)

  -- the result still has the capacity, with so many more of each kind, and isn't `Full`
  abbrev pub Still : {A : Type 0} → ℕ → ℕ → ℕ → Outcome (A × S) → Type 0
  Still i j k (Read x) = Has i j k x.1
  Still i j k Wrong = Unit {0}
  Still i j k Full = ⊥

  pub record Good {A : Type 0} (i j k : ℕ) (o : Outcome (A × S)) : Type 0 where
    pub still : Still i j k o

  pub wrong : {A : Type 0} {i j k : ℕ} → Good {A = A} i j k Wrong
  wrong = record { still = tt }

  pub reads : {A : Type 0} {i j k : ℕ} (x : A × S) → Has i j k x.1 → Good i j k (Read x)
  reads x h = record { still = h }

  pub never : {A : Type 0} {i j k : ℕ} (o : Outcome (A × S)) → o ≡ Full → Good i j k o → ⊥
  never (Read x) e h = absurd cc
  never Wrong e h = absurd cc
  never Full e h = h.still

  pub good_then : {A B : Type 0} {i j k i' j' k' : ℕ} (o : Outcome (A × S)) (q : A × S → Outcome (B × S)) → Good i j k o → ((x : A × S) → Has i j k x.1 → Good i' j' k' (q x)) → Good i' j' k' (o >>= q)
  good_then (Read x) q h on = on x h.still
  good_then Wrong q h on = wrong
  good_then Full q h on = absurd h.still

  pub good_some : {X A : Type 0} {i j k : ℕ} (o : Option X) (q : X → Outcome (A × S)) → ((x : X) → o ≡ Some x → Good i j k (q x)) → Good i j k (of_option o >>= q)
  good_some None q on = wrong
  good_some (Some x) q on = on x refl

  -- the parse after a step that adds nothing
  pub good_quiet : {X A : Type 0} {i j k : ℕ} (o : Outcome X) (q : X → Outcome (A × S)) → (o ≡ Full → ⊥) → ((x : X) → o ≡ Read x → Good i j k (q x)) → Good i j k (o >>= q)
  good_quiet (Read x) q quiet on = on x refl
  good_quiet Wrong q quiet on = wrong
  good_quiet Full q quiet on = absurd (quiet refl)

  pub unless_good : {A : Type 0} {i j k : ℕ} (b : Bool) (o : Outcome (A × S)) → Good i j k o → Good i j k (if b then Wrong else o)
  unless_good true o h = wrong
  unless_good false o h = h

  module _ (after : Mark → S → Option S) (passes : (m : Mark) → gain (mark m) ≡ 1 → (i j k : ℕ) (s s' : S) → after m s ≡ Some s' → Has i j k s → Has (i + 1) (j + 1) (k + 1) s') where
    -- the parse after a mark, or without the mark
    module _ {A : Type 0} (close : Mark) (one : gain (mark close) ≡ 1) (p : List A → Parse S A) (i j k i' j' k' : ℕ) (few_names : i ≤ i' + 1) (few_types : j ≤ j' + 1) (few_attrs : k ≤ k' + 1) (item : (items : List A) (s : S) → Has i j k s → Good i' j' k' (p items s)) where
      back : (s : S) → Has (i' + 1) (j' + 1) (k' + 1) s → Has i j k s
      back s h = fits_to h (omega (arith, few_names)) (omega (arith, few_types)) (omega (arith, few_attrs))

      ends_good : (headroom : ℕ) → ((items : List A) (s : S) → Has i j k s → Good i j k (more_at after close p headroom items s)) → (items : List A) (s : S) (o : Option S) → after close s ≡ o → Has i' j' k' s → Good i j k (more_from after close p (more_at after close p headroom) items s o)
      ends_good headroom go items s (Some end) e h = reads (items, end) (back end (passes close one i' j' k' s end e h))
      ends_good headroom go items s None e h = good_some (after Comma s) (more_at after close p headroom items) (λ mid c. go items mid (back mid (passes Comma refl i' j' k' s mid c h)))

      pub more_good : (headroom : ℕ) (items : List A) (s : S) → Has i j k s → Good i j k (more_at after close p headroom items s)
      unfolding more_at
      more_good zero items s h = wrong
      more_good (suc headroom) items s h = good_then (p items s) (λ x. more_from after close p (more_at after close p headroom) (items ++ x.0 ∷ []) x.1 (after close x.1)) (item items s h) (λ x f. ends_good headroom (more_good headroom) (items ++ x.0 ∷ []) x.1 (after close x.1) refl f)

      pub list_good : (headroom : ℕ) (s : S) → Has i j k s → Good i j k (list_at after close p headroom s)
      unfolding list_at
      list_good headroom s h = by (after close s) refl
        where
          by : (o : Option S) → after close s ≡ o → Good i j k (list_from after close p headroom s o)
          by (Some end) e = reads ([], end) (fits_to (passes close one i j k s end e h) (omega arith) (omega arith) (omega arith))
          by None e = more_good headroom [] s h

-- the parse continues with another kind of state
pub good_into : {S S' A B : Type 0} {i j k i' j' k' : ℕ} (text : S → List ℕ) (things : S → ContextModel) (text' : S' → List ℕ) (things' : S' → ContextModel) (o : Outcome (A × S)) (q : A × S → Outcome (B × S'))
    → Good text things i j k o → ((x : A × S) → Fits i j k (text x.1) (things x.1) → Good text' things' i' j' k' (q x)) → Good text' things' i' j' k' (o >>= q)
good_into text things text' things' (Read x) q h on = on x h.still
good_into text things text' things' Wrong q h on = wrong text' things'
good_into text things text' things' Full q h on = absurd h.still

-- ---- a text and a context

abbrev pub text : Typed → List ℕ
text s = s.0

abbrev pub things : Typed → ContextModel
things s = s.1
