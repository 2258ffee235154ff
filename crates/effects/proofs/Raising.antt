-- Uses counted in order.
use Rattle.std.proofs.Common.{◌≡◌, ℕ, ◌+◌, ◌-◌, List, [], ◌∷◌, ◌++◌, Option, Some, None, refl, sym, ap, ◌∙◌, subst, arith, Bool, true, false, eqb, cond}
use Rattle.std.proofs.lemmas.Bool.{eqb-true}
use Rattle.ir_event.specs.trees.declared.value.Value.TheVariants.{Result}
use Rattle.effects.specs.Points.{one_if}
use Rattle.effects.specs.Dead.{is_result_of}
use Rattle.std.specs.Prelude.{option_map}
use Rattle.ir_event.specs.trees.declared.value.Value.{Value}
use Rattle.ir_event.specs.trees.Tree.{HeadOf}
use Rattle.effects.specs.Counts.{Counts, results_among, with_count, Raised, Lowered, AllEntered, Entered, EnteredWith, LeftWith, Exchanged}
use Rattle.effects.proofs.Headed.{among_joined}

pub raised_none : (a : Counts) → Raised [] a a
raised_none a y = go (a y)
  where
    go : (n : Option ℕ) → n ≡ option_map (λ n. n + 0) n
    go None = refl
    go (Some n) = ap Some (omega arith)

pub raised_joined : (vs ws : List Value) (a b c : Counts) → Raised vs a b → Raised ws b c → Raised (vs ++ ws) a c
raised_joined vs ws a b c h k y = k y ∙ ap (option_map (λ n. n + results_among y ws)) (h y) ∙ go (a y)
  where
    go : (n : Option ℕ) → option_map (λ n. n + results_among y ws) (option_map (λ n. n + results_among y vs) n) ≡ option_map (λ n. n + results_among y (vs ++ ws)) n
    go None = refl
    go (Some n) = let w = among_joined y vs ws in ap Some (omega (arith, w))

pub lowered_none : (a : Counts) → Lowered [] a a
lowered_none a y = go (a y)
  where
    go : (n : Option ℕ) → n ≡ option_map (λ n. n - 0) n
    go None = refl
    go (Some n) = ap Some (omega arith)

pub lowered_joined : (vs ws : List Value) (a b c : Counts) → Lowered vs a b → Lowered ws b c → Lowered (vs ++ ws) a c
lowered_joined vs ws a b c h k y = k y ∙ ap (option_map (λ n. n - results_among y ws)) (h y) ∙ go (a y)
  where
    go : (n : Option ℕ) → option_map (λ n. n - results_among y ws) (option_map (λ n. n - results_among y vs) n) ≡ option_map (λ n. n - results_among y (vs ++ ws)) n
    go None = refl
    go (Some n) = let w = among_joined y vs ws in ap Some (omega (arith, w))

-- operations inserted in order
pub entered_joined : (kept : ℕ → Bool) (hs gs : List (HeadOf ℕ ℕ ℕ)) (a b c : Counts) → AllEntered kept hs a b → AllEntered kept gs b c → AllEntered kept (hs ++ gs) a c
entered_joined kept [] gs a b c h k = subst (λ (z : Counts). AllEntered kept gs z c) (λ i y. h y i) k
entered_joined kept (p ∷ ps) gs a b c h k = (h.0, h.1, entered_joined kept ps gs h.0 b c h.2 k)

-- one count changes
module _ (a b : Counts) (v : Value) (x k n m : ℕ) (is : v ≡ Result x k) (was : a x ≡ Some n) (now : (y : ℕ) → b y ≡ with_count x (Some m) a y) where
  one_raised : m ≡ n + 1 → (y : ℕ) (c : Bool) → eqb x y ≡ c → with_count x (Some m) a y ≡ option_map (λ n. n + results_among y (Result x k ∷ [])) (a y)
  one_raised more y true e =
      ap (λ c. cond c (Some m) (a y)) e ∙ ap Some (omega (arith, more)) ∙ ap (λ c. Some (n + (one_if c + 0))) (sym e)
      ∙ ap (option_map (λ n. n + results_among y (Result x k ∷ []))) (sym was ∙ ap a (eqb-true x y e))
  one_raised more y false e = ap (λ c. cond c (Some m) (a y)) e ∙ go (a y) ∙ ap (λ c. option_map (λ n. n + (one_if c + 0)) (a y)) (sym e)
    where
      go : (o : Option ℕ) → o ≡ option_map (λ n. n + (one_if false + 0)) o
      go None = refl
      go (Some n) = ap Some (omega arith)

  pub raised_one : m ≡ n + 1 → Raised (v ∷ []) a b
  raised_one more y = now y ∙ one_raised more y (eqb x y) refl ∙ ap (λ z. option_map (λ n. n + results_among y (z ∷ [])) (a y)) (sym is)

  one_lowered : m ≡ n - 1 → (y : ℕ) (c : Bool) → eqb x y ≡ c → with_count x (Some m) a y ≡ option_map (λ n. n - results_among y (Result x k ∷ [])) (a y)
  one_lowered less y true e =
      ap (λ c. cond c (Some m) (a y)) e ∙ ap Some (omega (arith, less)) ∙ ap (λ c. Some (n - (one_if c + 0))) (sym e)
      ∙ ap (option_map (λ n. n - results_among y (Result x k ∷ []))) (sym was ∙ ap a (eqb-true x y e))
  one_lowered less y false e = ap (λ c. cond c (Some m) (a y)) e ∙ go (a y) ∙ ap (λ c. option_map (λ n. n - (one_if c + 0)) (a y)) (sym e)
    where
      go : (o : Option ℕ) → o ≡ option_map (λ n. n - (one_if false + 0)) o
      go None = refl
      go (Some n) = ap Some (omega arith)

  pub lowered_one : m ≡ n - 1 → Lowered (v ∷ []) a b
  lowered_one less y = now y ∙ one_lowered less y (eqb x y) refl ∙ ap (λ z. option_map (λ n. n - results_among y (z ∷ [])) (a y)) (sym is)

pub left_with : (x : ℕ) (vs : List Value) (a m b : Counts) → ((y : ℕ) → m y ≡ with_count x None a y) → Lowered vs m b → LeftWith x vs a b
left_with x vs a m b is h y = h y ∙ ap (option_map (λ n. n - results_among y vs)) (is y)

pub entered_with : (x : ℕ) (kept : Bool) (vs : List Value) (a m b : Counts) → Entered x kept a m → Raised vs m b → EnteredWith x kept vs a b
entered_with x kept vs a m b is h y = h y ∙ ap (option_map (λ n. n + results_among y vs)) (is y)

pub exchanged : (old new : Value) (a m b : Counts) → Raised (new ∷ []) a m → Lowered (old ∷ []) m b → Exchanged old new a b
exchanged old new a m b h k y = k y ∙ ap (option_map (λ n. n - (one_if (is_result_of y old) + 0))) (h y) ∙ go (a y)
  where
    go : (o : Option ℕ) → option_map (λ n. n - (one_if (is_result_of y old) + 0)) (option_map (λ n. n + (one_if (is_result_of y new) + 0)) o) ≡ option_map (λ n. (n + one_if (is_result_of y new)) - one_if (is_result_of y old)) o
    go None = refl
    go (Some n) = ap Some (omega arith)
