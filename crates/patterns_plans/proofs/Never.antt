-- Rules that don't apply if a cheap test fails.
use Rattle.std.proofs.Common.{◌≡◌, refl, ap, sym, ◌∙◌, ℕ, Bool, true, false, ◌&&◌, List, [], ◌∷◌, Option, Some, None}
use Rattle.ir_event.specs.types.Terms.{TypeTerm}
use Rattle.std.specs.Prelude.{codes, is_some}
use Rattle.ir_event.specs.trees.declared.place.Place.{Place}
use Rattle.ir_event.specs.trees.declared.value.Value.{Value}
use Rattle.ir_event.specs.trees.Tree.{head}
use Rattle.ir_event.specs.trees.Uses.{same_value}
use Rattle.ir_event.specs.trees.Meaning.{Operation}
use Rattle.dialects_int.specs.Folds.{Known}
use Rattle.patterns_matchers.proofs.Cleaned.{known_not}
use Rattle.patterns_matchers.specs.Casting.{resizing, extend_extension, cut_cast}
use Rattle.patterns_matchers.specs.Contents.{Edit}
use Rattle.patterns_matchers.specs.Folding.{swap_constant, drop_zero, drop_one, drop_all_ones, cancel_itself, keep_itself, zero_remainder, regroup_constants, add_negative, compare_itself, mirror_comparison, compare_zero, choose_same, choose_known, choose_truth, choose_opposite}
use Rattle.patterns_matchers.specs.Keeps.{given}
use Rattle.patterns_matchers.specs.Looks.{Header, One, Two, Three, defining_op, is_verified, is_constant, known, one, passes, predicate, source, source_among, two, two_from, three, when}
use Rattle.patterns_matchers.specs.Words.{among, extensions, named}
use Rattle.patterns_plans.specs.May.{of_one, of_pair, of_three, is_called, chooses_by_opposite, cuts_cast, extends_extension, first_is_constant, second_is_constant, chooses_by_constant, chooses_constant, has_duplicates, chooses_duplicates}

never : {X : Type 0} (a : Bool) (r : Option X) → None ≡ when (a && false) r
never true r = refl
never false r = refl

nothing : {X : Type 0} (a : Bool) → None ≡ when {X = X} a None
nothing true = refl
nothing false = refl

no_case : {X Y : Type 0} (o : Option X) → None ≡ given {X = X} {Y = Y} o (λ x. None)
no_case None = refl
no_case (Some x) = refl

-- an operation with two operands and one result, by a test of the operands
abbrev of_two : (Value → Value → Bool) → Option Two → Bool
of_two f None = false
of_two f (Some p) = f p.first p.second

of_operands : (f : Value → Value → Bool) (h : Header) → of_pair f h.operands ≡ false → of_two f (two h) ≡ false
of_operands f h e = go h.operands h.results e
  where
    go : (vs : List Value) (tys : List TypeTerm) → of_pair f vs ≡ false → of_two f (two_from h.name vs tys) ≡ false
    go [] tys e = refl
    go (a ∷ []) tys e = refl
    go (a ∷ b ∷ []) [] e = refl
    go (a ∷ b ∷ []) (ty ∷ []) e = e
    go (a ∷ b ∷ []) (ty ∷ u ∷ tys) e = refl
    go (a ∷ b ∷ c ∷ vs) tys e = refl

module _ (t : Operation) where
  -- a value that isn't the result of a constant isn't known
  unknown : (v : Value) → is_constant t v ≡ false → None ≡ known t v
  unknown v e = known_not t v (is_constant t v) refl e

  second_passes : (a : Two → Bool) (f : Two → Known → Bool) (r : Two → Option (List Edit)) (q : Option Two) → of_two (λ a b. is_constant t b) q ≡ false → None ≡ given q (λ p. when (a p && passes (f p) (known t p.second)) (r p))
  second_passes a f r None e = refl
  second_passes a f r (Some p) e = never (a p) (r p) ∙ ap (λ k. when (a p && passes (f p) k) (r p)) (unknown p.second e)

  second_given : (a : Two → Bool) (f : Two → Known → Option (List Edit)) (q : Option Two) → of_two (λ a b. is_constant t b) q ≡ false → None ≡ given q (λ p. when (a p) (given (known t p.second) (f p)))
  second_given a f None e = refl
  second_given a f (Some p) e = nothing (a p) ∙ ap (λ k. when (a p) (given k (f p))) (unknown p.second e)

  second_compared : (a : Two → Bool) (o : Option ℕ) (f : Known → Bool) (g : ℕ → Bool) (r : Two → ℕ → Option (List Edit)) (q : Option Two) → of_two (λ a b. is_constant t b) q ≡ false
      → None ≡ given q (λ p. when (a p) (given o (λ asks. when (passes f (known t p.second) && g asks) (r p asks))))
  second_compared a o f g r None e = refl
  second_compared a o f g r (Some p) e = nothing (a p) ∙ ap (when (a p)) (no_case o) ∙ ap (λ k. when (a p) (given o (λ asks. when (passes f k && g asks) (r p asks)))) (unknown p.second e)

  first_swapped : (a : Two → Bool) (g : Two → Bool) (r : Two → Option (List Edit)) (q : Option Two) → of_two (λ a b. is_constant t a) q ≡ false → None ≡ given q (λ p. when (a p && (is_some (known t p.first) && g p)) (r p))
  first_swapped a g r None e = refl
  first_swapped a g r (Some p) e = never (a p) (r p) ∙ ap (λ k. when (a p && (is_some k && g p)) (r p)) (unknown p.first e)

  first_compared : (a : Two → Bool) (o : Option ℕ) (g : Two → Bool) (r : Two → ℕ → Option (List Edit)) (q : Option Two) → of_two (λ a b. is_constant t a) q ≡ false
      → None ≡ given q (λ p. when (a p) (given o (λ asks. when (is_some (known t p.first) && g p) (r p asks))))
  first_compared a o g r None e = refl
  first_compared a o g r (Some p) e = nothing (a p) ∙ ap (when (a p)) (no_case o) ∙ ap (λ k. when (a p) (given o (λ asks. when (is_some k && g p) (r p asks)))) (unknown p.first e)

  first_chosen : (a : Three → Bool) (f : Three → Known → Option (List Edit)) (q : Option Three) → of_three (λ p. is_constant t p.first) q ≡ false → None ≡ given q (λ p. when (a p) (given (known t p.first) (f p)))
  first_chosen a f None e = refl
  first_chosen a f (Some p) e = nothing (a p) ∙ ap (λ k. when (a p) (given k (f p))) (unknown p.first e)

  second_chosen : (a b : Three → Bool) (f : Known → Bool) (g : Three → Bool) (r : Three → Option (List Edit)) (q : Option Three) → of_three (λ p. is_constant t p.second) q ≡ false
      → None ≡ given q (λ p. when (a p) (when (b p && (passes f (known t p.second) && g p)) (r p)))
  second_chosen a b f g r None e = refl
  second_chosen a b f g r (Some p) e = nothing (a p) ∙ ap (when (a p)) (never (b p) (r p)) ∙ ap (λ k. when (a p) (when (b p && (passes f k && g p)) (r p))) (unknown p.second e)

duplicates_pass : (a : Two → Bool) (r : Two → Option (List Edit)) (q : Option Two) → of_two same_value q ≡ false → None ≡ given q (λ p. when (a p && same_value p.first p.second) (r p))
duplicates_pass a r None e = refl
duplicates_pass a r (Some p) e = never (a p) (r p) ∙ ap (λ b. when (a p && b) (r p)) (sym e)

duplicates_compared : (a : Two → Bool) (o : Option ℕ) (r : Two → ℕ → Option (List Edit)) (q : Option Two) → of_two same_value q ≡ false → None ≡ given q (λ p. when (a p) (given o (λ asks. when (same_value p.first p.second) (r p asks))))
duplicates_compared a o r None e = refl
duplicates_compared a o r (Some p) e = nothing (a p) ∙ ap (when (a p)) (no_case o) ∙ ap (λ b. when (a p) (given o (λ asks. when b (r p asks)))) (sym e)

duplicates_chosen : (a : Three → Bool) (r : Three → Option (List Edit)) (q : Option Three) → of_three (λ p. same_value p.second p.third) q ≡ false → None ≡ given q (λ p. when (a p) (when (same_value p.second p.third) (r p)))
duplicates_chosen a r None e = refl
duplicates_chosen a r (Some p) e = nothing (a p) ∙ ap (λ b. when (a p) (when b (r p))) (sym e)

-- each rule
module _ (t : Operation) (n : ℕ) (insertion : Place) (o : Operation) where
  pub never_drop_zero : second_is_constant t (head o) ≡ false → None ≡ drop_zero t n insertion o
  never_drop_zero e = second_passes t _ _ _ (two (head o)) (of_operands (λ a b. is_constant t b) (head o) e)

  pub never_drop_one : second_is_constant t (head o) ≡ false → None ≡ drop_one t n insertion o
  never_drop_one e = second_passes t _ _ _ (two (head o)) (of_operands (λ a b. is_constant t b) (head o) e)

  pub never_drop_all_ones : second_is_constant t (head o) ≡ false → None ≡ drop_all_ones t n insertion o
  never_drop_all_ones e = second_passes t _ _ _ (two (head o)) (of_operands (λ a b. is_constant t b) (head o) e)

  pub never_zero_remainder : second_is_constant t (head o) ≡ false → None ≡ zero_remainder t n insertion o
  never_zero_remainder e = second_passes t _ _ _ (two (head o)) (of_operands (λ a b. is_constant t b) (head o) e)

  pub never_regroup_constants : second_is_constant t (head o) ≡ false → None ≡ regroup_constants t n insertion o
  never_regroup_constants e = second_given t _ _ (two (head o)) (of_operands (λ a b. is_constant t b) (head o) e)

  pub never_add_negative : second_is_constant t (head o) ≡ false → None ≡ add_negative t n insertion o
  never_add_negative e = second_given t _ _ (two (head o)) (of_operands (λ a b. is_constant t b) (head o) e)

  pub never_compare_zero : second_is_constant t (head o) ≡ false → None ≡ compare_zero t n insertion o
  never_compare_zero e = second_compared t _ (predicate (head o)) _ _ _ (two (head o)) (of_operands (λ a b. is_constant t b) (head o) e)

  pub never_swap_constant : first_is_constant t (head o) ≡ false → None ≡ swap_constant t n insertion o
  never_swap_constant e = first_swapped t _ _ _ (two (head o)) (of_operands (λ a b. is_constant t a) (head o) e)

  pub never_mirror_comparison : first_is_constant t (head o) ≡ false → None ≡ mirror_comparison t n insertion o
  never_mirror_comparison e = first_compared t _ (predicate (head o)) _ _ (two (head o)) (of_operands (λ a b. is_constant t a) (head o) e)

  pub never_choose_known : chooses_by_constant t (head o) ≡ false → None ≡ choose_known t n insertion o
  never_choose_known e = first_chosen t _ _ (three (head o)) e

  pub never_choose_truth : chooses_constant t (head o) ≡ false → None ≡ choose_truth t n insertion o
  never_choose_truth e = second_chosen t _ _ _ _ _ (three (head o)) e

  pub never_cancel_itself : has_duplicates (head o) ≡ false → None ≡ cancel_itself t n insertion o
  never_cancel_itself e = duplicates_pass _ _ (two (head o)) (of_operands same_value (head o) e)

  pub never_keep_itself : has_duplicates (head o) ≡ false → None ≡ keep_itself t n insertion o
  never_keep_itself e = duplicates_pass _ _ (two (head o)) (of_operands same_value (head o) e)

  pub never_compare_itself : has_duplicates (head o) ≡ false → None ≡ compare_itself t n insertion o
  never_compare_itself e = duplicates_compared _ (predicate (head o)) _ (two (head o)) (of_operands same_value (head o) e)

  pub never_choose_same : chooses_duplicates (head o) ≡ false → None ≡ choose_same t n insertion o
  never_choose_same e = duplicates_chosen _ _ (three (head o)) e

-- by the defining operation of an operand
never_among : (t : Operation) (names : List (List ℕ)) (v : Value) → is_called (among names) (defining_op t v) ≡ false → None ≡ source_among t names v
never_among t names v e = go (defining_op t v) e
  where
    go : (g : Option Header) → is_called (among names) g ≡ false → None ≡ given g (λ h. when (among names h.name && is_verified t h) (Some h))
    go None e = refl
    go (Some h) e = sym (ap (λ b. when (b && is_verified t h) (Some h)) e)

never_named : (t : Operation) (name : List ℕ) (v : Value) → is_called (named name) (defining_op t v) ≡ false → None ≡ source t name v
never_named t name v e = go (defining_op t v) e
  where
    go : (g : Option Header) → is_called (named name) g ≡ false → None ≡ given g (λ h. when (named name h.name && is_verified t h) (Some h))
    go None e = refl
    go (Some h) e = sym (ap (λ b. when (b && is_verified t h) (Some h)) e)

cast_of : (t : Operation) (names : List (List ℕ)) (a : One → Bool) (f : One → Header → Option (List Edit)) (q : Option One) → of_one (λ p. is_called (among names) (defining_op t p.first)) q ≡ false → None ≡ given q (λ p. when (a p) (given (source_among t names p.first) (f p)))
cast_of t names a f None e = refl
cast_of t names a f (Some p) e = nothing (a p) ∙ ap (λ s. when (a p) (given s (f p))) (never_among t names p.first e)

choice_by : (t : Operation) (name : List ℕ) (a : Three → Bool) (f : Three → Header → Option (List Edit)) (q : Option Three) → of_three (λ p. is_called (named name) (defining_op t p.first)) q ≡ false → None ≡ given q (λ p. when (a p) (given (source t name p.first) (f p)))
choice_by t name a f None e = refl
choice_by t name a f (Some p) e = nothing (a p) ∙ ap (λ s. when (a p) (given s (f p))) (never_named t name p.first e)

module _ (t : Operation) (n : ℕ) (insertion : Place) (o : Operation) where
  pub never_choose_opposite : chooses_by_opposite t (head o) ≡ false → None ≡ choose_opposite t n insertion o
  never_choose_opposite e = choice_by t (codes "arith.xori") _ _ (three (head o)) e

  pub never_extend_extension : extends_extension t (head o) ≡ false → None ≡ extend_extension t n insertion o
  never_extend_extension e = cast_of t extensions _ _ (one (head o)) e

  pub never_cut_cast : cuts_cast t (head o) ≡ false → None ≡ cut_cast t n insertion o
  never_cut_cast e = cast_of t resizing _ _ (one (head o)) e
