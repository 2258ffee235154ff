-- One step of the analysis of a number.
use Rattle.std.proofs.Common.{◌≡◌, ℕ, suc, ◌-◌, ◌≤◌, Bool, List, [], ◌∷◌, length, Option, Ok, refl, ap, ◌∙◌}
use Rattle.std.proofs.Math.ListN.{get_or}
use Rattle.std.specs.Borrow.{Bor}
use Rattle.user_patterns_sema_base.specs.declared.words.Function.{Function}
use Rattle.user_patterns_sema_base.specs.Words.{function_named, truth_named}
use Rattle.user_patterns_text.specs.declared.error.PatternError.{PatternError}
use Rattle.user_patterns_text.specs.declared.error.PatternError.TheVariants as errors
use Rattle.user_patterns_text.specs.declared.parts.PartKind.{PartKind}
use Rattle.user_patterns_text.specs.declared.parts.PartKind.TheVariants as kind
use Rattle.user_patterns_text.specs.declared.parts.Part.{Part as PartCode}
use Rattle.user_patterns_text.specs.Parts.{Placed, kind_view, part_view, views}
use Rattle.user_patterns_text.specs.Refusing.{Fails, Outcome, ◌>>=◌}
use Rattle.user_patterns_sema.specs.Sema.{Sema, Places, State, applied, trailing, function_at, gathered, number_at, headroom, word_from, written_number}
use Rattle.user_patterns_sema.proofs.Steps.{rest, some_more, views_split}

abbrev pub okay : {A : Type 0} → A → Outcome A
okay x = Ok x

abbrev kept : List Placed → Outcome (ℕ × Sema) → Outcome (ℕ × State)
kept qs o = o >>= λ y. Ok (trailing qs y)

-- ---- a function of numbers

module _ (b : Places) (N : State → Outcome (ℕ × State)) (name : List ℕ) (slot at : ℕ) (s : State) (xs : List ℕ) (none : xs ≡ []) where
  pub function_fails : (e : PatternError) → Fails e (gathered N headroom xs s) → Fails e (function_at b N name slot at s)
  unfolding function_at
  function_fails errors.Memory h = tt
  function_fails (errors.Refused g) h = rw (← none, h) refl

  module _ (ys zs : List ℕ) (t : State) (o : Option Function) (found : gathered N headroom xs s ≡ Ok (ys, t)) (same : zs ≡ ys) (named : o ≡ function_named name) where
    pub function_applied : (y : ℕ × Sema) → applied b o zs slot at t.1 ≡ Ok y → function_at b N name slot at s ≡ Ok (trailing t.0 y)
    unfolding function_at
    function_applied y h = rw (← none, found, ← named, ← same, h) refl

    pub function_refused : (e : PatternError) → Fails e (applied b o zs slot at t.1) → Fails e (function_at b N name slot at s)
    unfolding function_at
    function_refused errors.Memory h = tt
    function_refused (errors.Refused g) h = rw (← none, found, ← named, ← same, h) refl

-- ---- a number

module _ (b : Places) (slot : ℕ) (f : Sema) where
  module _ (n left : ℕ) (k : PartKind) (qs : List Placed) where
    literal_here : (negative : Bool) (magnitude : ℕ) → k ≡ kind.Literal negative magnitude
        → number_at b (suc n) slot ((left, kind_view k) ∷ qs, f) ≡ Ok (trailing qs (written_number b negative magnitude slot left f))
    unfolding number_at
    literal_here negative magnitude is = rw is refl

    name_here : (w : Bor (List ℕ)) → k ≡ kind.Name w
        → number_at b (suc n) slot ((left, kind_view k) ∷ qs, f) ≡ kept qs (word_from b (truth_named w.now) w.now slot left f)
    unfolding number_at
    name_here w is = rw is refl

    function_here : (w : Bor (List ℕ)) → k ≡ kind.Function w
        → number_at b (suc n) slot ((left, kind_view k) ∷ qs, f) ≡ function_at b (number_at b n slot) w.now slot left (qs, f)
    unfolding number_at
    function_here w is = rw is refl

  module _ (depth : ℕ) (ps : List PartCode) (d : PartCode) (more : depth ≡ 0 → ⊥) (le : 1 ≤ length ps) where
    whole : number_at b depth slot (views ps, f) ≡ number_at b (suc (depth - 1)) slot (part_view (get_or ps 0 d) ∷ views (rest ps), f)
    whole = ap (λ n. number_at b n slot (views ps, f)) (some_more depth more) ∙ ap (λ (qs : List Placed). number_at b (suc (depth - 1)) slot (qs, f)) (views_split d ps le)

    pub literal_found : (negative : Bool) (magnitude : ℕ) (x : ℕ × Sema) → (get_or ps 0 d).kind ≡ kind.Literal negative magnitude
        → Ok (written_number b negative magnitude slot (get_or ps 0 d).left f) ≡ okay x
        → number_at b depth slot (views ps, f) ≡ Ok (trailing (views (rest ps)) x)
    literal_found negative magnitude x is made =
        whole ∙ literal_here (depth - 1) (get_or ps 0 d).left (get_or ps 0 d).kind (views (rest ps)) negative magnitude is
        ∙ ap (kept (views (rest ps))) made

    module _ (w : Bor (List ℕ)) (is : (get_or ps 0 d).kind ≡ kind.Name w) where
      named : number_at b depth slot (views ps, f) ≡ kept (views (rest ps)) (word_from b (truth_named w.now) w.now slot (get_or ps 0 d).left f)
      named = whole ∙ name_here (depth - 1) (get_or ps 0 d).left (get_or ps 0 d).kind (views (rest ps)) w is

      pub name_found : (x : ℕ × Sema) → word_from b (truth_named w.now) w.now slot (get_or ps 0 d).left f ≡ Ok x
          → number_at b depth slot (views ps, f) ≡ Ok (trailing (views (rest ps)) x)
      name_found x found = named ∙ ap (kept (views (rest ps))) found

      pub name_refused : (e : PatternError) → Fails e (word_from b (truth_named w.now) w.now slot (get_or ps 0 d).left f)
          → Fails e (number_at b depth slot (views ps, f))
      name_refused errors.Memory h = tt
      name_refused (errors.Refused g) h = named ∙ ap (kept (views (rest ps))) h

    pub function_found : (w : Bor (List ℕ)) → (get_or ps 0 d).kind ≡ kind.Function w
        → number_at b depth slot (views ps, f) ≡ function_at b (number_at b (depth - 1) slot) w.now slot (get_or ps 0 d).left (views (rest ps), f)
    function_found w is = whole ∙ function_here (depth - 1) (get_or ps 0 d).left (get_or ps 0 d).kind (views (rest ps)) w is
