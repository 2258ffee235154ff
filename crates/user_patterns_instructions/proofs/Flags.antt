-- Poison flags.
use Rattle.std.proofs.Common.{◌≡◌, ◌∙◌, ℕ, ◌==◌, List, Bool, true, false, ◌||◌, bit_or, if◌then◌else◌, refl, sym, ap, subst}
use Rattle.dialects_int.specs.Arithmetic.{choice_of, truth}
use Rattle.width_claims.specs.declared.form.Form.TheVariants as form
use Rattle.width_claims.specs.declared.form.Expr.{Expr}
use Rattle.user_patterns_instructions.specs.declared.operand.Poison.{Poison}
use Rattle.user_patterns_instructions.specs.declared.operand.Poison.TheVariants as poison
use Rattle.user_patterns_instructions.specs.Expressions.{Flagged, Made, also_poison, chosen_poison, either, flag_by, flag_place, push_expr}
use Rattle.user_patterns_instructions.proofs.PatternOps.{Base, Grown, Is, Makes, base_on, makes_same, same, grown_next}
use Rattle.user_patterns_instructions.proofs.Forms.{put_or, put_select}

pub or_truth : (b c : Bool) → bit_or (truth b) (truth c) ≡ truth (b || c)
or_truth true true = refl
or_truth true false = refl
or_truth false true = refl
or_truth false false = refl

choice_of_truths : (n : ℕ) (b c : Bool) → choice_of n (truth b) (truth c) ≡ truth (choice_of n b c)
choice_of_truths n b c = go (n == 0)
  where
    go : (d : Bool) → (if d then truth c else truth b) ≡ truth (if d then c else b)
    go true = refl
    go false = refl

or_true : (b : Bool) → (b || true) ≡ true
or_true true = refl
or_true false = refl

pub or_false : (b : Bool) → (b || false) ≡ b
or_false true = refl
or_false false = refl

same_choice : (n : ℕ) (b : Bool) → choice_of n b b ≡ b
same_choice n b = go (n == 0)
  where
    go : (d : Bool) → (if d then b else b) ≡ b
    go true = refl
    go false = refl

module _ (W : ℕ) (vs ws : List ℕ) where
  abbrev pub PoisonIs : List Expr → Poison → Bool → Type 0
  PoisonIs ps poison.Never b = b ≡ false
  PoisonIs ps poison.Always b = b ≡ true
  PoisonIs ps (poison.When i) b = Is W vs ws ps i 0 (truth b)

  pub poison_kept : (ps qs : List Expr) (f : Poison) (b : Bool) → Grown W vs ws ps qs → PoisonIs ps f b → PoisonIs qs f b
  poison_kept ps qs poison.Never b g e = e
  poison_kept ps qs poison.Always b g e = e
  poison_kept ps qs (poison.When i) b g is = g.kept i 0 (truth b) is

  pub record Flags (ps : List Expr) (r : Flagged) (b : Bool) : Type 0 where
    pub grown : Grown W vs ws ps r.0
    pub is : PoisonIs r.0 r.1 b

  flags_by : (ps : List Expr) (m : Made) (b : Bool) → Makes W vs ws ps m 0 (truth b) → Flags ps (flag_by m) b
  flags_by ps m b a = record { grown = a.grown; is = a.is }

  flags_same : (ps : List Expr) (r : Flagged) (b c : Bool) → b ≡ c → Flags ps r b → Flags ps r c
  flags_same ps r b c e h = subst (λ (d : Bool). Flags ps r d) e h

  flags_stay : (ps : List Expr) (f : Poison) (b : Bool) → Base W vs ws ps → PoisonIs ps f b → Flags ps (ps, f) b
  flags_stay ps f b base is = record { grown = same W vs ws ps base.right; is = is }

  pub either_is : (f g : Poison) (ps : List Expr) (b c : Bool) → Base W vs ws ps → PoisonIs ps f b → PoisonIs ps g c → Flags ps (either f g ps) (b || c)
  either_is poison.Never g ps b c base p q = flags_same ps (ps, g) c (b || c) (ap (λ d. d || c) (sym p)) (flags_stay ps g c base q)
  either_is poison.Always g ps b c base p q = flags_stay ps poison.Always (b || c) base (ap (λ d. d || c) p)
  either_is (poison.When i) poison.Never ps b c base p q = flags_same ps (ps, poison.When i) b (b || c) (sym (ap (λ d. b || d) q ∙ or_false b)) (flags_stay ps (poison.When i) b base p)
  either_is (poison.When i) poison.Always ps b c base p q = flags_stay ps poison.Always (b || c) base (ap (λ d. b || d) q ∙ or_true b)
  either_is (poison.When i) (poison.When j) ps b c base p q =
      flags_by ps (push_expr ps 0 (form.Or i j)) (b || c)
      (makes_same W vs ws ps (push_expr ps 0 (form.Or i j)) 0 (bit_or (truth b) (truth c)) (truth (b || c)) (or_truth b c) (put_or W vs ws ps base i j 0 (truth b) (truth c) p q))

  pub place_is : (ps : List Expr) (f : Poison) (b : Bool) → Base W vs ws ps → PoisonIs ps f b → Is W vs ws ps (flag_place f) 0 (truth b)
  place_is ps poison.Never b base e = subst (λ (n : ℕ). Is W vs ws ps 0 0 n) (ap truth (sym e)) base.zero_is
  place_is ps poison.Always b base e = subst (λ (n : ℕ). Is W vs ws ps 1 0 n) (ap truth (sym e)) base.one_is
  place_is ps (poison.When i) b base is = is

  module _ (ps : List Expr) (base : Base W vs ws ps) (i u n : ℕ) (o : Is W vs ws ps i u n) where
    selected : (f g : Poison) (b c : Bool) → PoisonIs ps f b → PoisonIs ps g c → Flags ps (flag_by (push_expr ps 0 (form.Select i (flag_place f) (flag_place g)))) (choice_of n b c)
    selected f g b c p q =
        flags_by ps (push_expr ps 0 (form.Select i (flag_place f) (flag_place g))) (choice_of n b c)
        (makes_same W vs ws ps (push_expr ps 0 (form.Select i (flag_place f) (flag_place g))) 0 (choice_of n (truth b) (truth c)) (truth (choice_of n b c)) (choice_of_truths n b c)
        (put_select W vs ws ps base (flag_place f) (flag_place g) 0 (truth b) (truth c) (place_is ps f b base p) (place_is ps g c base q) i u n o))

    pub chosen_is : (f g : Poison) (b c : Bool) → PoisonIs ps f b → PoisonIs ps g c → Flags ps (chosen_poison i f g ps) (choice_of n b c)
    chosen_is poison.Never poison.Never b c p q = flags_stay ps poison.Never (choice_of n b c) base ((λ r. choice_of n (p r) (q r)) ∙ same_choice n false)
    chosen_is poison.Always poison.Always b c p q = flags_stay ps poison.Always (choice_of n b c) base ((λ r. choice_of n (p r) (q r)) ∙ same_choice n true)
    chosen_is poison.Never poison.Always b c p q = selected poison.Never poison.Always b c p q
    chosen_is poison.Never (poison.When j) b c p q = selected poison.Never (poison.When j) b c p q
    chosen_is poison.Always poison.Never b c p q = selected poison.Always poison.Never b c p q
    chosen_is poison.Always (poison.When j) b c p q = selected poison.Always (poison.When j) b c p q
    chosen_is (poison.When j) poison.Never b c p q = selected (poison.When j) poison.Never b c p q
    chosen_is (poison.When j) poison.Always b c p q = selected (poison.When j) poison.Always b c p q
    chosen_is (poison.When j) (poison.When k) b c p q = selected (poison.When j) (poison.When k) b c p q

  -- one more flag
  pub also_is : (f : Poison) (ps : List Expr) (r : Flagged) (b c : Bool) → Base W vs ws ps → PoisonIs ps f b → Flags ps r c → Flags ps (also_poison f r) (b || c)
  also_is f ps r b c base p h =
      let next = either_is f r.1 r.0 b c (base_on W vs ws ps r.0 base h.grown) (poison_kept ps r.0 f b h.grown p) h.is in
      record { grown = grown_next W vs ws ps r.0 (also_poison f r).0 h.grown next.grown; is = next.is }
