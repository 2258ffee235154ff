-- One step of a walk over parts.
use Rattle.std.proofs.Common.{◌≡◌, ℕ, suc, ◌-◌, ◌≤◌, List, [], ◌∷◌, ◌++◌, length, Some, None, Result, Ok, refl, sym, ap, ◌∙◌, arith}
use Rattle.std.proofs.Math.ListN.{get_or, take, drop}
use Rattle.std.specs.Borrow.{Bor}
use Rattle.ir_types.proofs.Truths.{uncons}
use Rattle.user_patterns_text.specs.declared.error.PatternError.{PatternError}
use Rattle.user_patterns_text.specs.declared.error.PatternError.TheVariants as errors
use Rattle.user_patterns_text.specs.declared.parts.PartKind.{PartKind}
use Rattle.user_patterns_text.specs.declared.parts.PartKind.TheVariants as kind
use Rattle.user_patterns_text.specs.declared.parts.Part.{Part as PartCode}
use Rattle.user_patterns_text.specs.Parts.{Placed, kind_view, part_view, views}
use Rattle.user_patterns_text.specs.Refusing.{Returns, Fails, Outcome}
use Rattle.user_patterns_sema.specs.Sema.{Sema, Places, State, after_end, condition_at, conditions_at, gathered}

abbrev pub rest : List PartCode → List PartCode
rest ps = take (length ps - 1) (drop 1 ps)

pub views_split : (d : PartCode) (ps : List PartCode) → 1 ≤ length ps → views ps ≡ part_view (get_or ps 0 d) ∷ views (rest ps)
views_split d ps le = ap views (uncons ps (get_or ps 0 d) d (omega (arith, le)) refl)

pub some_more : (n : ℕ) → (n ≡ 0 → ⊥) → n ≡ suc (n - 1)
some_more n more = omega (arith, more)

pub gives_same : {X Y : Type 0} (view : X → Y) (r : Result X PatternError) (o q : Outcome Y) → o ≡ q → Returns view r q → Returns view r o
gives_same view r o q same h = rw same h

-- ---- lists up to an end

module _ {X : Type 0} (T : State → Outcome (X × State)) (headroom : ℕ) (xs : List X) (s : State) (more : headroom ≡ 0 → ⊥) where
  pub gathered_ends : (ps : List Placed) → after_end s.0 ≡ Some ps → gathered T headroom xs s ≡ Ok (xs, (ps, s.1))
  unfolding gathered
  gathered_ends ps closed = rw (some_more headroom more, closed) refl

  pub gathered_fails : (e : PatternError) → after_end s.0 ≡ None → Fails e (T s) → Fails e (gathered T headroom xs s)
  unfolding gathered
  gathered_fails errors.Memory going h = tt
  gathered_fails (errors.Refused f) going h = rw (some_more headroom more, going, h) refl

  one_more : (n : ℕ) (x : X × State) → after_end s.0 ≡ None → T s ≡ Ok x → gathered T (suc n) xs s ≡ gathered T n (xs ++ x.0 ∷ []) x.1
  unfolding gathered
  one_more n x going found = rw (going, found) refl

  pub gathered_more : (x : X × State) (ys : List X) → after_end s.0 ≡ None → T s ≡ Ok x → ys ≡ xs ++ x.0 ∷ []
      → gathered T headroom xs s ≡ gathered T (headroom - 1) ys x.1
  gathered_more x ys going found pushed =
      ap (λ n. gathered T n xs s) (some_more headroom more) ∙ one_more (headroom - 1) x going found ∙ ap (λ (zs : List X). gathered T (headroom - 1) zs x.1) (sym pushed)

-- ---- conditions

module _ (b : Places) (headroom : ℕ) (ps : List PartCode) (f : Sema) (d : PartCode) (more : headroom ≡ 0 → ⊥) (le : 1 ≤ length ps) where
  module _ (n left : ℕ) (k : PartKind) (qs : List Placed) where
    is_condition : (w : Bor (List ℕ)) (s : State) → k ≡ kind.Constraint w → condition_at b left w.now (qs, f) ≡ Ok s
        → conditions_at b (suc n) ((left, kind_view k) ∷ qs, f) ≡ conditions_at b n s
    unfolding conditions_at
    is_condition w s is found = rw (is, found) refl

    is_wrong : (e : PatternError) (w : Bor (List ℕ)) → k ≡ kind.Constraint w → Fails e (condition_at b left w.now (qs, f))
        → Fails e (conditions_at b (suc n) ((left, kind_view k) ∷ qs, f))
    unfolding conditions_at
    is_wrong errors.Memory w is h = tt
    is_wrong (errors.Refused g) w is h = rw (is, h) refl

  whole : conditions_at b headroom (views ps, f) ≡ conditions_at b (suc (headroom - 1)) (part_view (get_or ps 0 d) ∷ views (rest ps), f)
  whole = ap (λ n. conditions_at b n (views ps, f)) (some_more headroom more) ∙ ap (λ (qs : List Placed). conditions_at b (suc (headroom - 1)) (qs, f)) (views_split d ps le)

  pub conditions_more : (w : Bor (List ℕ)) (s : State) → (get_or ps 0 d).kind ≡ kind.Constraint w → condition_at b (get_or ps 0 d).left w.now (views (rest ps), f) ≡ Ok s
      → conditions_at b headroom (views ps, f) ≡ conditions_at b (headroom - 1) s
  conditions_more w s is found = whole ∙ is_condition (headroom - 1) (get_or ps 0 d).left (get_or ps 0 d).kind (views (rest ps)) w s is found

  pub conditions_fail : (e : PatternError) (w : Bor (List ℕ)) → (get_or ps 0 d).kind ≡ kind.Constraint w → Fails e (condition_at b (get_or ps 0 d).left w.now (views (rest ps), f))
      → Fails e (conditions_at b headroom (views ps, f))
  conditions_fail e w is h = rw whole (is_wrong (headroom - 1) (get_or ps 0 d).left (get_or ps 0 d).kind (views (rest ps)) e w is h)
