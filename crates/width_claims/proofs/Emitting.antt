-- The emitted steps compute numbers that represent the values.
use Rattle.std.proofs.Common.{◌≡◌, ◌∙◌, ℕ, suc, ◌+◌, ◌-◌, ◌/◌, ◌%◌, ◌^◌, ◌<◌, ◌≤◌, ◌==◌, ◌++◌, ◌⊎◌, inl, inr, List, [], ◌∷◌, length, length-append, Bool, true, false, nat_lt, if◌then◌else◌, bit_and, bit_or, bit_xor, pos, ◌-ℤ◌, refl, sym, ap, subst, arith}
use Rattle.std.proofs.lemmas.List.{get_or_append_left}
use Rattle.std.proofs.Math.Seq.{get_or-append_seam}
use Rattle.std.proofs.lemmas.Nat.{and_le_l, or_lt, xor_lt, pow_pos, and_mask}
use Rattle.std.proofs.Math.Nat.{div-le_self, mod-eq_of_lt, mod-lt}
use Rattle.std.proofs.Math.Pow.{pow-lt}
use Rattle.ir_types.specs.Readings.{literal_number, signed_of, wrapped}
use Rattle.ir_types.proofs.ReadingLaws.{bits_below}
use Rattle.dialects_int.specs.declared.operations.Predicate.TheVariants as predicate
use Rattle.dialects_int.specs.Arithmetic.{choice_of, comparison_of, difference_of, sign_extended, sum_of, truth, zero_extended}
use Rattle.width_claims.specs.Masks.{differ, less_signed, mask, sign}
use Rattle.width_claims.proofs.Masking.{masks_cut, masks_difference, masks_extension, masks_less, masks_literal, masks_negative, masks_resize, masks_sum, masks_zeros, shorter}
use Rattle.width_claims.specs.declared.step.Step.{Step}
use Rattle.width_claims.specs.Steps.{numbers_then, truth_at, truths, truths_then}
use Rattle.width_claims.specs.declared.form.Form.{Form}
use Rattle.width_claims.specs.declared.form.Form.TheVariants as form
use Rattle.width_claims.specs.declared.form.Expr.{Expr}
use Rattle.width_claims.specs.PatternOpValues.{at, pattern_op_values, pattern_op_value}
use Rattle.width_claims.specs.Emission.{block_of, emitted, numbers_end, places, truths_end}
use Rattle.width_claims.specs.Right.{AreRight, Emits, Has, IsBelow, IsRight, Represents, numbers, types}

-- ---- lists that grow

pub last : (ns : List ℕ) (x n : ℕ) → length ns ≡ n → at (ns ++ x ∷ []) n ≡ x
last ns x n e = ap (at (ns ++ x ∷ [])) (sym e) ∙ get_or-append_seam ns x [] 0

pub old : (ns : List ℕ) (x i : ℕ) → i < length ns → at (ns ++ x ∷ []) i ≡ at ns i
old ns x i l = get_or_append_left ns (x ∷ []) 0 i l

pub longer : {X : Type 0} (ns : List X) (x : X) (n : ℕ) → length ns ≡ n → length (ns ++ x ∷ []) ≡ n + 1
longer ns x n e = length-append ns (x ∷ []) ∙ ap (λ k. k + 1) e

pub last_truth : (ts : List Bool) (b : Bool) (t : ℕ) → length ts ≡ t → truth_at (ts ++ b ∷ []) t ≡ b
last_truth ts b t e = ap (truth_at (ts ++ b ∷ [])) (sym e) ∙ get_or-append_seam ts b [] false

pub old_truth : (ts : List Bool) (b : Bool) (i : ℕ) → i < length ts → truth_at (ts ++ b ∷ []) i ≡ truth_at ts i
old_truth ts b i l = get_or_append_left ts (b ∷ []) false i l

-- ---- values are below 2^w

sum_low : (w a b : ℕ) → sum_of w a b < 2 ^ w
unfolding sum_of
sum_low w a b = mod-lt (a + b) (pow_pos w)

difference_low : (w a b : ℕ) → difference_of w a b < 2 ^ w
unfolding difference_of
difference_low w a b = bits_below w (pos a -ℤ pos b)

signs_low : (v w a : ℕ) → sign_extended v w a < 2 ^ w
unfolding sign_extended
signs_low v w a = bits_below w (signed_of v a)

zeros_low : (w a : ℕ) → zero_extended w a < 2 ^ w
unfolding zero_extended
zeros_low w a = mod-lt a (pow_pos w)

-- -1 as the difference 0 - 1
all_ones : (w : ℕ) → (0 + (2 ^ w - 1)) % 2 ^ w ≡ mask w
all_ones w = let p = pow_pos w in let e : 0 + (2 ^ w - 1) ≡ 2 ^ w - 1 = omega arith in ap (λ n. n % 2 ^ w) e ∙ mod-eq_of_lt (omega (arith, p))

-- the earlier numbers don't change
abbrev KeepsEarlier : List ℕ → List ℕ → Type 0
KeepsEarlier ns ms = (i : ℕ) → i < length ns → at ms i ≡ at ns i

push_steps : (ns : List ℕ) (x : ℕ) → KeepsEarlier ns (ns ++ x ∷ [])
push_steps ns x i l = old ns x i l

push_more : (ns ms : List ℕ) (x : ℕ) → length ns ≤ length ms → KeepsEarlier ns ms → KeepsEarlier ns (ms ++ x ∷ [])
push_more ns ms x h s i l = old ms x i (omega (arith, l, h)) ∙ s i l

-- the effect of a block
record Does (ns : List ℕ) (n : ℕ) (ms : List ℕ) (us : List Bool) (r m u v : ℕ) : Type 0 where
  remains : KeepsEarlier ns ms
  many : length ms ≡ m
  end_truth : length us ≡ u
  grown : n ≤ m
  there : r < m
  value : at ms r ≡ v

module _ (W : ℕ) (vs ws ms : List ℕ) where
  -- one more value
  more : (env tys pl ns new : List ℕ) (ts us : List Bool) (n t r m u v ty : ℕ) → Represents W ws ms env tys pl ns ts n t → Does ns n new us r m u v → v < 2 ^ at ws ty
      → Represents W ws ms (env ++ v ∷ []) (tys ++ ty ∷ []) (pl ++ r ∷ []) new us m u
  more env tys pl ns new ts us n t r m u v ty s d low =
      let many = s.many in
      let grown = d.grown in
      let some = s.some in
      record {
        many = d.many;
        end_truth = d.end_truth;
        some = omega (arith, grown, some);
        zero_there = d.remains 0 (omega (arith, many, some)) ∙ s.zero_there;
        one_there = d.remains 1 (omega (arith, many, some)) ∙ s.one_there;
        masks = λ k. (let h = s.masks k in let l = h.0 in (omega (arith, l, grown), d.remains (at ms k) (omega (arith, l, many)) ∙ h.1));
        typed = longer tys ty (length env) s.typed ∙ sym (length-append env (v ∷ []));
        placed = longer pl r (length env) s.placed ∙ sym (length-append env (v ∷ []));
        values = λ i l. elim (last_or i (length env) (subst (λ (k : ℕ). i < k) (length-append env (v ∷ [])) l)) [
          | inl h ↦ (
              let x = s.values i h in
              let k = x.0 in
              let typed = s.typed in
              let placed = s.placed in
              let same_place = old pl r i (omega (arith, h, placed)) in
              let same_value = old env v i h in
              let same_type = old tys ty i (omega (arith, h, typed)) in (
                omega (arith, same_place, k, grown),
                ap (at new) same_place ∙ d.remains (at pl i) (omega (arith, k, many)) ∙ x.1 ∙ sym same_value,
                subst (λ (e : ℕ). e < 2 ^ at ws (at (tys ++ ty ∷ []) i)) (sym same_value) (subst (λ (e : ℕ). at env i < 2 ^ at ws e) (sym same_type) x.2),
              ))
          | inr h ↦ (
              let place : at (pl ++ r ∷ []) i ≡ r = last pl r i (s.placed ∙ sym h) in
              let value : at (env ++ v ∷ []) i ≡ v = last env v i (sym h) in
              let type : at (tys ++ ty ∷ []) i ≡ ty = last tys ty i (s.typed ∙ sym h) in
              let there = d.there in (
                omega (arith, place, there),
                ap (at new) place ∙ d.value ∙ sym value,
                subst (λ (e : ℕ). e < 2 ^ at ws (at (tys ++ ty ∷ []) i)) (sym value) (subst (λ (e : ℕ). v < 2 ^ at ws e) (sym type) low),
              ))
        ];
      }
    where
      last_or : (i k : ℕ) → i < k + 1 → (i < k) ⊎ (i ≡ k)
      last_or i k l = grind arith

  -- ---- blocks of few steps

  does_none : (ns : List ℕ) (ts : List Bool) (n t r v : ℕ) → length ns ≡ n → length ts ≡ t → r < n → at ns r ≡ v → Does ns n ns ts r n t v
  does_none ns ts n t r v many end_truth l e = record { remains = λ i k. refl; many = many; end_truth = end_truth; grown = omega arith; there = l; value = e }

  does_one : (ns : List ℕ) (us : List Bool) (n u x v : ℕ) → length ns ≡ n → length us ≡ u → x ≡ v → Does ns n (ns ++ x ∷ []) us n (n + 1) u v
  does_one ns us n u x v many end_truth e =
      record { remains = push_steps ns x; many = longer ns x n many; end_truth = end_truth; grown = omega arith; there = omega arith; value = last ns x n many ∙ e }

  -- one more number after others
  does_next : (ns ms : List ℕ) (us : List Bool) (n m u x v : ℕ) → KeepsEarlier ns ms → length ns ≡ n → length ms ≡ m → n ≤ m → length us ≡ u → x ≡ v → Does ns n (ms ++ x ∷ []) us m (m + 1) u v
  does_next ns os us n m u x v remains many long h end_truth e =
      record { remains = push_more ns os x (omega (arith, many, long, h)) remains; many = longer os x m long; end_truth = end_truth; grown = omega (arith, h); there = omega arith; value = last os x m long ∙ e }

  -- a mask
  masked : (ns : List ℕ) (x n m w : ℕ) → length ns ≡ n → m < n → at ns m ≡ mask w → bit_and (at (ns ++ x ∷ []) n) (at (ns ++ x ∷ []) m) ≡ bit_and x (mask w)
  masked ns x n m w many l e = (λ i. bit_and (last ns x n many i) (old ns x m (omega (arith, l, many)) i)) ∙ ap (bit_and x) e

  does_masked : (ns : List ℕ) (us : List Bool) (n u x m w v : ℕ) → length ns ≡ n → length us ≡ u → m < n → at ns m ≡ mask w → bit_and x (mask w) ≡ v
      → Does ns n ((ns ++ x ∷ []) ++ bit_and (at (ns ++ x ∷ []) n) (at (ns ++ x ∷ []) m) ∷ []) us (n + 1) (n + 2) u v
  does_masked ns us n u x m w v many end_truth l e is =
      let two : n + 1 + 1 ≡ n + 2 = omega arith in
      subst (λ (k : ℕ). Does ns n ((ns ++ x ∷ []) ++ bit_and (at (ns ++ x ∷ []) n) (at (ns ++ x ∷ []) m) ∷ []) us (n + 1) k u v) two
      (does_next ns (ns ++ x ∷ []) us n (n + 1) u (bit_and (at (ns ++ x ∷ []) n) (at (ns ++ x ∷ []) m)) v (push_steps ns x) many (longer ns x n many) (omega arith) end_truth (masked ns x n m w many l e ∙ is))

  -- a truth as a number
  as_number : (ns : List ℕ) (ts : List Bool) (t : ℕ) (b c : Bool) → at ns 0 ≡ 0 → at ns 1 ≡ 1 → truth_at ts t ≡ b → b ≡ c → (if truth_at ts t then at ns 1 else at ns 0) ≡ truth c
  as_number ns ts t b c zero_is one_is e same = (λ i. if (e ∙ same) i then one_is i else zero_is i) ∙ end_truth c
    where
      end_truth : (d : Bool) → (if d then 1 else 0) ≡ truth d
      end_truth true = refl
      end_truth false = refl

  module _ (env tys pl ns : List ℕ) (ts : List Bool) (n t : ℕ) (s : Represents W ws ms env tys pl ns ts n t) where
    -- the number of a value, and its range
    record Is (w i : ℕ) : Type 0 where
      place : at pl i < n
      there : at ns (at pl i) ≡ at env i
      low : at env i < 2 ^ w

    is : (w i : ℕ) → Has ws tys w i → Is w i
    is w i h =
        let typed = s.typed in
        let l = h.0 in
        let v = s.values i (omega (arith, l, typed)) in
        record { place = v.0; there = v.1; low = subst (λ (k : ℕ). at env i < 2 ^ k) h.1 v.2 }

    is_own : (i : ℕ) → i < length tys → Is (at ws (at tys i)) i
    is_own i l = is (at ws (at tys i)) i (l, refl)

    abbrev DoesForm : ℕ → ℕ → Form → Type 0
    DoesForm w m f =
        Does ns n (numbers W vs (block_of m ms pl n t f).steps ns ts) (truths W vs (block_of m ms pl n t f).steps ns ts) (block_of m ms pl n t f).result (block_of m ms pl n t f).numbers (block_of m ms pl n t f).truths (pattern_op_value ws vs w f env)

    module _ (w m : ℕ) (below : IsBelow W w) (inside : m < n) (there : at ns m ≡ mask w) where
      narrow : w ≤ W
      narrow = below.1

      does_value : (i : ℕ) → DoesForm w m (form.Value i)
      does_value i = does_masked ns ts n t (at vs i % 2 ^ W) m w (at vs i % 2 ^ w) s.many s.end_truth inside there (and_mask (at vs i % 2 ^ W) w ∙ shorter (at vs i) W w narrow)

      does_literal : (k : ℕ) → DoesForm w m (form.Literal k)
      does_literal k = does_masked ns ts n t (k % 2 ^ W) m w (wrapped w (literal_number false k)) s.many s.end_truth inside there (masks_literal W w k narrow)

      does_add : (i j : ℕ) → Is w i → Is w j → DoesForm w m (form.Add i j)
      does_add i j x y =
          does_masked ns ts n t ((at ns (at pl i) + at ns (at pl j)) % 2 ^ W) m w (sum_of w (at env i) (at env j)) s.many s.end_truth inside there
          ((λ r. bit_and ((x.there r + y.there r) % 2 ^ W) (mask w)) ∙ masks_sum W w (at env i) (at env j) narrow)

      does_subtract : (i j : ℕ) → Is w i → Is w j → DoesForm w m (form.Subtract i j)
      does_subtract i j x y =
          let l = y.low in
          does_masked ns ts n t ((at ns (at pl i) + (2 ^ W - at ns (at pl j))) % 2 ^ W) m w (difference_of w (at env i) (at env j)) s.many s.end_truth inside there
          ((λ r. bit_and ((x.there r + (2 ^ W - y.there r)) % 2 ^ W) (mask w)) ∙ masks_difference W w (at env i) (at env j) narrow (omega (arith, l)))

      does_and : (i j : ℕ) → Is w i → Is w j → DoesForm w m (form.And i j)
      does_and i j x y = does_one ns ts n t (bit_and (at ns (at pl i)) (at ns (at pl j))) (bit_and (at env i) (at env j)) s.many s.end_truth (λ r. bit_and (x.there r) (y.there r))

      does_or : (i j : ℕ) → Is w i → Is w j → DoesForm w m (form.Or i j)
      does_or i j x y = does_one ns ts n t (bit_or (at ns (at pl i)) (at ns (at pl j))) (bit_or (at env i) (at env j)) s.many s.end_truth (λ r. bit_or (x.there r) (y.there r))

      does_exclusive : (i j : ℕ) → Is w i → Is w j → DoesForm w m (form.ExclusiveOr i j)
      does_exclusive i j x y = does_one ns ts n t (bit_xor (at ns (at pl i)) (at ns (at pl j))) (bit_xor (at env i) (at env j)) s.many s.end_truth (λ r. bit_xor (x.there r) (y.there r))

      does_same : (u v i j : ℕ) → Is u i → Is v j → DoesForm w m (form.Same i j)
      does_same u v i j x y =
          let b = at ns (at pl i) == at ns (at pl j) in
          does_one ns (ts ++ b ∷ []) n (t + 1) (if truth_at (ts ++ b ∷ []) t then at ns 1 else at ns 0) (truth (at env i == at env j)) s.many (longer ts b t s.end_truth)
          (as_number ns (ts ++ b ∷ []) t b (at env i == at env j) s.zero_there s.one_there (last_truth ts b t s.end_truth) (λ r. x.there r == y.there r))

      does_less : (u v i j : ℕ) → Is u i → Is v j → DoesForm w m (form.Less i j)
      does_less u v i j x y =
          let b = nat_lt (at ns (at pl i)) (at ns (at pl j)) in
          does_one ns (ts ++ b ∷ []) n (t + 1) (if truth_at (ts ++ b ∷ []) t then at ns 1 else at ns 0) (truth (nat_lt (at env i) (at env j))) s.many (longer ts b t s.end_truth)
          (as_number ns (ts ++ b ∷ []) t b (nat_lt (at env i) (at env j)) s.zero_there s.one_there (last_truth ts b t s.end_truth) (λ r. nat_lt (x.there r) (y.there r)))

      does_select : (u c i j : ℕ) → Is u c → Is w i → Is w j → DoesForm w m (form.Select c i j)
      does_select u c i j z x y =
          let b = at ns (at pl c) == at ns 0 in
          does_one ns (ts ++ b ∷ []) n (t + 1) (if truth_at (ts ++ b ∷ []) t then at ns (at pl j) else at ns (at pl i)) (choice_of (at env c) (at env i) (at env j)) s.many (longer ts b t s.end_truth)
          ((λ r. if last_truth ts b t s.end_truth r then y.there r else x.there r) ∙ (λ r. if z.there r == s.zero_there r then at env j else at env i))

      does_zeros : (u i : ℕ) → u ≤ w → Is u i → DoesForm w m (form.Zeros i)
      does_zeros u i h x = does_none ns ts n t (at pl i) (zero_extended w (at env i)) s.many s.end_truth x.place (x.there ∙ masks_zeros u w (at env i) h x.low)

      does_cut : (u i : ℕ) → Is u i → DoesForm w m (form.Cut i)
      does_cut u i x = does_one ns ts n t (bit_and (at ns (at pl i)) (at ns m)) (at env i % 2 ^ w) s.many s.end_truth ((λ r. bit_and (x.there r) (there r)) ∙ masks_cut w (at env i))

      does_quotient : (i k : ℕ) → Is w i → DoesForm w m (form.Quotient i k)
      does_quotient i k x = does_one ns ts n t (at ns (at pl i) / suc k) (at env i / suc k) s.many s.end_truth (λ r. x.there r / suc k)

      does_negative : (k : ℕ) → k < 2 ^ w → DoesForm w m (form.Negative k)
      does_negative k l =
          let x1 = k % 2 ^ W in
          let ns1 = ns ++ x1 ∷ [] in
          let x2 = (at ns1 0 + (2 ^ W - at ns1 n)) % 2 ^ W in
          let ns2 = ns1 ++ x2 ∷ [] in
          let many = s.many in
          let some = s.some in
          let many1 = longer ns x1 n many in
          let two : n + 1 + 1 ≡ n + 2 = omega arith in
          let many2 : length ns2 ≡ n + 2 = longer ns1 x2 (n + 1) many1 ∙ two in
          let zero1 : at ns1 0 ≡ 0 = old ns x1 0 (omega (arith, many, some)) ∙ s.zero_there in
          let first : at ns1 n ≡ x1 = last ns x1 n many in
          let there1 : at ns1 m ≡ mask w = old ns x1 m (omega (arith, inside, many)) ∙ there in
          let is3 = masked ns1 x2 (n + 1) m w many1 (omega (arith, inside)) there1 ∙ (λ r. bit_and ((zero1 r + (2 ^ W - first r)) % 2 ^ W) (mask w)) ∙ masks_negative W w k narrow l in
          let three : n + 2 + 1 ≡ n + 3 = omega arith in
          let is_two : bit_and (at ns2 (n + 2 - 1)) (at ns2 m) ≡ wrapped w (literal_number true k) = ap (λ q. bit_and (at ns2 q) (at ns2 m)) (less_one n) ∙ is3 in
          let x3 = bit_and (at ns2 (n + 1)) (at ns2 m) in
          subst (λ (q : ℕ). Does ns n (ns2 ++ x3 ∷ []) ts (n + 2) q t (wrapped w (literal_number true k))) three
          (does_next ns ns2 ts n (n + 2) t x3 (wrapped w (literal_number true k)) (push_more ns ns1 x2 (omega (arith, many, many1)) (push_steps ns x1)) many many2 (omega arith) s.end_truth is3)
        where
          less_one : (q : ℕ) → q + 2 - 1 ≡ q + 1
          less_one q = omega arith

      does_signs : (u i : ℕ) → IsBelow W (at ws u) → at ws u ≤ w → Is (at ws u) i → DoesForm w m (form.Signs u i)
      does_signs u i small h x =
          let v = at ws u in
          let a = at pl i in
          let mu = s.masks u in
          let mu_in = mu.0 in
          let a_in = x.place in
          let x1 = (at ns (at ms u) + (2 ^ W - at ns a)) % 2 ^ W in
          let ns1 = ns ++ x1 ∷ [] in
          let b = nat_lt (at ns1 n) (at ns1 a) in
          let ts1 = ts ++ b ∷ [] in
          let x2 = bit_xor (at ns1 m) (at ns1 (at ms u)) in
          let ns2 = ns1 ++ x2 ∷ [] in
          let x3 = bit_or (at ns2 a) (at ns2 (n + 1)) in
          let ns3 = ns2 ++ x3 ∷ [] in
          let x4 = if truth_at ts1 t then at ns3 (n + 2) else at ns3 a in
          let many = s.many in
          let many1 = longer ns x1 n many in
          let two : n + 1 + 1 ≡ n + 2 = omega arith in
          let many2 : length ns2 ≡ n + 2 = longer ns1 x2 (n + 1) many1 ∙ two in
          let three : n + 2 + 1 ≡ n + 3 = omega arith in
          let many3 : length ns3 ≡ n + 3 = longer ns2 x3 (n + 2) many2 ∙ three in
          let four : n + 3 + 1 ≡ n + 4 = omega arith in
          let mu1 : at ns1 (at ms u) ≡ mask v = old ns x1 (at ms u) (omega (arith, mu_in, many)) ∙ mu.1 in
          let m1 : at ns1 m ≡ mask w = old ns x1 m (omega (arith, inside, many)) ∙ there in
          let first : at ns1 n ≡ (mask v + (2 ^ W - at env i)) % 2 ^ W = last ns x1 n many ∙ (λ r. (mu.1 r + (2 ^ W - x.there r)) % 2 ^ W) in
          let a1 : at ns1 a ≡ at env i = old ns x1 a (omega (arith, a_in, many)) ∙ x.there in
          let b_is : b ≡ sign W (mask v) (at env i) = (λ r. nat_lt (first r) (a1 r)) in
          let a2 : at ns2 a ≡ at env i = old ns1 x2 a (omega (arith, a_in, many1)) ∙ a1 in
          let a3 : at ns3 a ≡ at env i = old ns2 x3 a (omega (arith, a_in, many2)) ∙ a2 in
          let second : at ns2 (n + 1) ≡ bit_xor (mask w) (mask v) = last ns1 x2 (n + 1) many1 ∙ (λ r. bit_xor (m1 r) (mu1 r)) in
          let third : at ns3 (n + 2) ≡ bit_or (at env i) (bit_xor (mask w) (mask v)) = last ns2 x3 (n + 2) many2 ∙ (λ r. bit_or (a2 r) (second r)) in
          let t_is = last_truth ts b t s.end_truth ∙ b_is in
          let is4 : x4 ≡ sign_extended v w (at env i) = (λ r. if t_is r then third r else a3 r) ∙ masks_extension W v w (at env i) small.0 h small.1 x.low in
          let stay1 = push_steps ns x1 in
          let stay2 = push_more ns ns1 x2 (omega (arith, many, many1)) stay1 in
          let stay3 = push_more ns ns2 x3 (omega (arith, many, many2)) stay2 in
          subst (λ (q : ℕ). Does ns n (ns3 ++ x4 ∷ []) ts1 (n + 3) q (t + 1) (sign_extended v w (at env i))) four
          (does_next ns ns3 ts1 n (n + 3) (t + 1) x4 (sign_extended v w (at env i)) stay3 many many3 (omega arith) (longer ts b t s.end_truth) is4)

      does_less_signed : (u i j : ℕ) → IsBelow W (at ws u) → Is (at ws u) i → Is (at ws u) j → DoesForm w m (form.LessSigned u i j)
      does_less_signed u i j small x y =
          let v = at ws u in
          let a = at pl i in
          let b = at pl j in
          let mu = s.masks u in
          let mu_in = mu.0 in
          let a_in = x.place in
          let b_in = y.place in
          let x1 = (at ns (at ms u) + (2 ^ W - at ns a)) % 2 ^ W in
          let ns1 = ns ++ x1 ∷ [] in
          let x2 = (at ns1 (at ms u) + (2 ^ W - at ns1 b)) % 2 ^ W in
          let ns2 = ns1 ++ x2 ∷ [] in
          let t0 = nat_lt (at ns2 n) (at ns2 a) in
          let t1 = nat_lt (at ns2 (n + 1)) (at ns2 b) in
          let t2 = nat_lt (at ns2 a) (at ns2 b) in
          let ts1 = ts ++ t0 ∷ [] in
          let ts2 = ts1 ++ t1 ∷ [] in
          let ts3 = ts2 ++ t2 ∷ [] in
          let t3 = differ (truth_at ts3 t) (truth_at ts3 (t + 1)) in
          let ts4 = ts3 ++ t3 ∷ [] in
          let t4 = differ (truth_at ts4 (t + 3)) (truth_at ts4 (t + 2)) in
          let ts5 = ts4 ++ t4 ∷ [] in
          let many = s.many in
          let some = s.some in
          let end_truth = s.end_truth in
          let many1 = longer ns x1 n many in
          let two : n + 1 + 1 ≡ n + 2 = omega arith in
          let many2 : length ns2 ≡ n + 2 = longer ns1 x2 (n + 1) many1 ∙ two in
          let three : n + 2 + 1 ≡ n + 3 = omega arith in
          let reported1 = longer ts t0 t end_truth in
          let up2 : t + 1 + 1 ≡ t + 2 = omega arith in
          let reported2 : length ts2 ≡ t + 2 = longer ts1 t1 (t + 1) reported1 ∙ up2 in
          let up3 : t + 2 + 1 ≡ t + 3 = omega arith in
          let reported3 : length ts3 ≡ t + 3 = longer ts2 t2 (t + 2) reported2 ∙ up3 in
          let up4 : t + 3 + 1 ≡ t + 4 = omega arith in
          let reported4 : length ts4 ≡ t + 4 = longer ts3 t3 (t + 3) reported3 ∙ up4 in
          let up5 : t + 4 + 1 ≡ t + 5 = omega arith in
          let reported5 : length ts5 ≡ t + 5 = longer ts4 t4 (t + 4) reported4 ∙ up5 in
          let mu1 : at ns1 (at ms u) ≡ mask v = old ns x1 (at ms u) (omega (arith, mu_in, many)) ∙ mu.1 in
          let a2 : at ns2 a ≡ at env i = old ns1 x2 a (omega (arith, a_in, many1)) ∙ old ns x1 a (omega (arith, a_in, many)) ∙ x.there in
          let b1 : at ns1 b ≡ at env j = old ns x1 b (omega (arith, b_in, many)) ∙ y.there in
          let b2 : at ns2 b ≡ at env j = old ns1 x2 b (omega (arith, b_in, many1)) ∙ b1 in
          let first : at ns2 n ≡ (mask v + (2 ^ W - at env i)) % 2 ^ W = old ns1 x2 n (omega (arith, many1)) ∙ last ns x1 n many ∙ (λ r. (mu.1 r + (2 ^ W - x.there r)) % 2 ^ W) in
          let second : at ns2 (n + 1) ≡ (mask v + (2 ^ W - at env j)) % 2 ^ W = last ns1 x2 (n + 1) many1 ∙ (λ r. (mu1 r + (2 ^ W - b1 r)) % 2 ^ W) in
          let t0_is : t0 ≡ sign W (mask v) (at env i) = (λ r. nat_lt (first r) (a2 r)) in
          let t1_is : t1 ≡ sign W (mask v) (at env j) = (λ r. nat_lt (second r) (b2 r)) in
          let t2_is : t2 ≡ nat_lt (at env i) (at env j) = (λ r. nat_lt (a2 r) (b2 r)) in
          let at0 : truth_at ts3 t ≡ sign W (mask v) (at env i) = old_truth ts2 t2 t (omega (arith, reported2)) ∙ old_truth ts1 t1 t (omega (arith, reported1)) ∙ last_truth ts t0 t end_truth ∙ t0_is in
          let at1 : truth_at ts3 (t + 1) ≡ sign W (mask v) (at env j) = old_truth ts2 t2 (t + 1) (omega (arith, reported2)) ∙ last_truth ts1 t1 (t + 1) reported1 ∙ t1_is in
          let at2 : truth_at ts4 (t + 2) ≡ nat_lt (at env i) (at env j) = old_truth ts3 t3 (t + 2) (omega (arith, reported3)) ∙ last_truth ts2 t2 (t + 2) reported2 ∙ t2_is in
          let at3 : truth_at ts4 (t + 3) ≡ differ (sign W (mask v) (at env i)) (sign W (mask v) (at env j)) = last_truth ts3 t3 (t + 3) reported3 ∙ (λ r. differ (at0 r) (at1 r)) in
          let at4 : truth_at ts5 (t + 4) ≡ less_signed W (mask v) (at env i) (at env j) = last_truth ts4 t4 (t + 4) reported4 ∙ (λ r. differ (at3 r) (at2 r)) in
          let zero2 : at ns2 0 ≡ 0 = old ns1 x2 0 (omega (arith, many1)) ∙ old ns x1 0 (omega (arith, many, some)) ∙ s.zero_there in
          let one2 : at ns2 1 ≡ 1 = old ns1 x2 1 (omega (arith, many1, some)) ∙ old ns x1 1 (omega (arith, many, some)) ∙ s.one_there in
          let x3 = if truth_at ts5 (t + 4) then at ns2 1 else at ns2 0 in
          let value = truth (comparison_of v predicate.SignedLess (at env i) (at env j)) in
          let is3 : x3 ≡ value = as_number ns2 ts5 (t + 4) (less_signed W (mask v) (at env i) (at env j)) (comparison_of v predicate.SignedLess (at env i) (at env j)) zero2 one2 at4 (masks_less W v (at env i) (at env j) small.0 small.1 x.low y.low) in
          let stay2 = push_more ns ns1 x2 (omega (arith, many, many1)) (push_steps ns x1) in
          subst (λ (q : ℕ). Does ns n (ns2 ++ x3 ∷ []) ts5 (n + 2) q (t + 5) value) three
          (does_next ns ns2 ts5 n (n + 2) (t + 5) x3 value stay2 many many2 (omega arith) reported5 is3)

      does_resize : (u i : ℕ) → IsBelow W (at ws u) → Is (at ws u) i → DoesForm w m (form.Resize u i)
      does_resize u i small x =
          let v = at ws u in
          let a = at pl i in
          let mu = s.masks u in
          let mu_in = mu.0 in
          let a_in = x.place in
          let some = s.some in
          let x1 = (at ns (at ms u) + (2 ^ W - at ns a)) % 2 ^ W in
          let ns1 = ns ++ x1 ∷ [] in
          let b = nat_lt (at ns1 n) (at ns1 a) in
          let ts1 = ts ++ b ∷ [] in
          let x2 = (at ns1 0 + (2 ^ W - at ns1 1)) % 2 ^ W in
          let ns2 = ns1 ++ x2 ∷ [] in
          let x3 = bit_xor (at ns2 (n + 1)) (at ns2 (at ms u)) in
          let ns3 = ns2 ++ x3 ∷ [] in
          let x4 = bit_or (at ns3 a) (at ns3 (n + 2)) in
          let ns4 = ns3 ++ x4 ∷ [] in
          let x5 = if truth_at ts1 t then at ns4 (n + 3) else at ns4 a in
          let ns5 = ns4 ++ x5 ∷ [] in
          let x6 = bit_and (at ns5 (n + 4)) (at ns5 m) in
          let many = s.many in
          let many1 = longer ns x1 n many in
          let two : n + 1 + 1 ≡ n + 2 = omega arith in
          let many2 : length ns2 ≡ n + 2 = longer ns1 x2 (n + 1) many1 ∙ two in
          let three : n + 2 + 1 ≡ n + 3 = omega arith in
          let many3 : length ns3 ≡ n + 3 = longer ns2 x3 (n + 2) many2 ∙ three in
          let four : n + 3 + 1 ≡ n + 4 = omega arith in
          let many4 : length ns4 ≡ n + 4 = longer ns3 x4 (n + 3) many3 ∙ four in
          let five : n + 4 + 1 ≡ n + 5 = omega arith in
          let many5 : length ns5 ≡ n + 5 = longer ns4 x5 (n + 4) many4 ∙ five in
          let six : n + 5 + 1 ≡ n + 6 = omega arith in
          let mu1 : at ns1 (at ms u) ≡ mask v = old ns x1 (at ms u) (omega (arith, mu_in, many)) ∙ mu.1 in
          let mu2 : at ns2 (at ms u) ≡ mask v = old ns1 x2 (at ms u) (omega (arith, mu_in, many1)) ∙ mu1 in
          let first : at ns1 n ≡ (mask v + (2 ^ W - at env i)) % 2 ^ W = last ns x1 n many ∙ (λ r. (mu.1 r + (2 ^ W - x.there r)) % 2 ^ W) in
          let a1 : at ns1 a ≡ at env i = old ns x1 a (omega (arith, a_in, many)) ∙ x.there in
          let a2 : at ns2 a ≡ at env i = old ns1 x2 a (omega (arith, a_in, many1)) ∙ a1 in
          let a3 : at ns3 a ≡ at env i = old ns2 x3 a (omega (arith, a_in, many2)) ∙ a2 in
          let a4 : at ns4 a ≡ at env i = old ns3 x4 a (omega (arith, a_in, many3)) ∙ a3 in
          let b_is : b ≡ sign W (mask v) (at env i) = (λ r. nat_lt (first r) (a1 r)) in
          let zero1 : at ns1 0 ≡ 0 = old ns x1 0 (omega (arith, many, some)) ∙ s.zero_there in
          let one1 : at ns1 1 ≡ 1 = old ns x1 1 (omega (arith, many, some)) ∙ s.one_there in
          let ones : at ns2 (n + 1) ≡ mask W = last ns1 x2 (n + 1) many1 ∙ (λ r. (zero1 r + (2 ^ W - one1 r)) % 2 ^ W) ∙ all_ones W in
          let third : at ns3 (n + 2) ≡ bit_xor (mask W) (mask v) = last ns2 x3 (n + 2) many2 ∙ (λ r. bit_xor (ones r) (mu2 r)) in
          let fourth : at ns4 (n + 3) ≡ bit_or (at env i) (bit_xor (mask W) (mask v)) = last ns3 x4 (n + 3) many3 ∙ (λ r. bit_or (a3 r) (third r)) in
          let t_is = last_truth ts b t s.end_truth ∙ b_is in
          let fifth : at ns5 (n + 4) ≡ (if sign W (mask v) (at env i) then bit_or (at env i) (bit_xor (mask W) (mask v)) else at env i) = last ns4 x5 (n + 4) many4 ∙ (λ r. if t_is r then fourth r else a4 r) in
          let m5 : at ns5 m ≡ mask w =
          old ns4 x5 m (omega (arith, inside, many4)) ∙ old ns3 x4 m (omega (arith, inside, many3)) ∙ old ns2 x3 m (omega (arith, inside, many2)) ∙ old ns1 x2 m (omega (arith, inside, many1))
          ∙ old ns x1 m (omega (arith, inside, many)) ∙ there in
          let is6 : x6 ≡ sign_extended v w (at env i) = (λ r. bit_and (fifth r) (m5 r)) ∙ masks_resize W v w (at env i) small.0 small.1 narrow x.low in
          let stay1 = push_steps ns x1 in
          let stay2 = push_more ns ns1 x2 (omega (arith, many, many1)) stay1 in
          let stay3 = push_more ns ns2 x3 (omega (arith, many, many2)) stay2 in
          let stay4 = push_more ns ns3 x4 (omega (arith, many, many3)) stay3 in
          let stay5 = push_more ns ns4 x5 (omega (arith, many, many4)) stay4 in
          subst (λ (q : ℕ). Does ns n (ns5 ++ x6 ∷ []) ts1 (n + 5) q (t + 1) (sign_extended v w (at env i))) six
          (does_next ns ns5 ts1 n (n + 5) (t + 1) x6 (sign_extended v w (at env i)) stay5 many many5 (omega arith) (longer ts b t s.end_truth) is6)

      -- each form
      does : (f : Form) → IsRight W ws tys w f → DoesForm w m f
      does (form.Value i) r = does_value i
      does (form.Literal k) r = does_literal k
      does (form.Negative k) r = does_negative k r
      does (form.Add i j) r = does_add i j (is w i r.0) (is w j r.1)
      does (form.Subtract i j) r = does_subtract i j (is w i r.0) (is w j r.1)
      does (form.And i j) r = does_and i j (is w i r.0) (is w j r.1)
      does (form.Or i j) r = does_or i j (is w i r.0) (is w j r.1)
      does (form.ExclusiveOr i j) r = does_exclusive i j (is w i r.0) (is w j r.1)
      does (form.Same i j) r = does_same (at ws (at tys i)) (at ws (at tys j)) i j (is_own i r.0) (is_own j r.1)
      does (form.Less i j) r = does_less (at ws (at tys i)) (at ws (at tys j)) i j (is_own i r.0) (is_own j r.1)
      does (form.LessSigned u i j) r = does_less_signed u i j r.0 (is (at ws u) i r.1) (is (at ws u) j r.2)
      does (form.Select c i j) r = does_select (at ws (at tys c)) c i j (is_own c r.0) (is w i r.1) (is w j r.2)
      does (form.Signs u i) r = does_signs u i r.0 r.1 (is (at ws u) i r.2)
      does (form.Resize u i) r = does_resize u i r.0 (is (at ws u) i r.1)
      does (form.Zeros i) r = does_zeros (at ws (at tys i)) i r.1 (is_own i r.0)
      does (form.Quotient i k) r = does_quotient i k (is w i r)
      does (form.Cut i) r = does_cut (at ws (at tys i)) i (is_own i r)

      truth_low : (b : Bool) → truth b < 2 ^ w
      truth_low b = small b (below.0)
        where
          small : (c : Bool) → 1 ≤ w → truth c < 2 ^ w
          small true h = let g = pow-lt {i = 0} {j = w} h in omega (arith, g)
          small false h = pow_pos w

      -- and its value is in range of its type
      low_of : (f : Form) → IsRight W ws tys w f → pattern_op_value ws vs w f env < 2 ^ w
      low_of (form.Value i) r = mod-lt (at vs i) (pow_pos w)
      low_of (form.Literal k) r = bits_below w (literal_number false k)
      low_of (form.Negative k) r = bits_below w (literal_number true k)
      low_of (form.Add i j) r = sum_low w (at env i) (at env j)
      low_of (form.Subtract i j) r = difference_low w (at env i) (at env j)
      low_of (form.And i j) r = let l = (is w i r.0).low in let h = and_le_l (at env i) (at env j) in omega (arith, l, h)
      low_of (form.Or i j) r = or_lt w (at env i) (at env j) ((is w i r.0).low) ((is w j r.1).low)
      low_of (form.ExclusiveOr i j) r = xor_lt w (at env i) (at env j) ((is w i r.0).low) ((is w j r.1).low)
      low_of (form.Same i j) r = truth_low (at env i == at env j)
      low_of (form.Less i j) r = truth_low (nat_lt (at env i) (at env j))
      low_of (form.LessSigned u i j) r = truth_low (comparison_of (at ws u) predicate.SignedLess (at env i) (at env j))
      low_of (form.Select c i j) r = chosen (at env c == 0)
        where
          chosen : (b : Bool) → (if b then at env j else at env i) < 2 ^ w
          chosen true = (is w j r.2).low
          chosen false = (is w i r.1).low
      low_of (form.Signs u i) r = signs_low (at ws u) w (at env i)
      low_of (form.Resize u i) r = signs_low (at ws u) w (at env i)
      low_of (form.Zeros i) r = zeros_low w (at env i)
      low_of (form.Quotient i k) r = let l = (is w i r).low in let h = div-le_self (at env i) (suc k) in omega (arith, l, h)
      low_of (form.Cut i) r = mod-lt (at env i) (pow_pos w)

  -- ---- all expressions

  pub numbers_after : (ss rs : List Step) (ns : List ℕ) (ts : List Bool) → numbers W vs (ss ++ rs) ns ts ≡ numbers W vs rs (numbers W vs ss ns ts) (truths W vs ss ns ts)
  numbers_after [] rs ns ts = refl
  numbers_after (s ∷ ss) rs ns ts = numbers_after ss rs (numbers_then W vs s ns ts) (truths_then s ns ts)

  pub truths_after : (ss rs : List Step) (ns : List ℕ) (ts : List Bool) → truths W vs (ss ++ rs) ns ts ≡ truths W vs rs (numbers W vs ss ns ts) (truths W vs ss ns ts)
  truths_after [] rs ns ts = refl
  truths_after (s ∷ ss) rs ns ts = truths_after ss rs (numbers_then W vs s ns ts) (truths_then s ns ts)

  emits_all : (ps : List Expr) (env tys pl ns : List ℕ) (ts : List Bool) (n t : ℕ) → Represents W ws ms env tys pl ns ts n t → AreRight W ws ps tys
      → Represents W ws ms (pattern_op_values ws vs ps env) (types ps tys) (places ms ps pl n t) (numbers W vs (emitted ms ps pl n t) ns ts) (truths W vs (emitted ms ps pl n t) ns ts) (numbers_end ms ps pl n t) (truths_end ms ps pl n t)
  emits_all [] env tys pl ns ts n t s r = s
  emits_all (p ∷ ps) env tys pl ns ts n t s r =
      let w = at ws p.ty in
      let b = block_of (at ms p.ty) ms pl n t p.form in
      let mask_there = s.masks p.ty in
      let d = does env tys pl ns ts n t s w (at ms p.ty) r.0 mask_there.0 mask_there.1 p.form r.1 in
      let low = low_of env tys pl ns ts n t s w (at ms p.ty) r.0 mask_there.0 mask_there.1 p.form r.1 in
      let v = pattern_op_value ws vs w p.form env in
      let next = more env tys pl ns (numbers W vs b.steps ns ts) ts (truths W vs b.steps ns ts) n t b.result b.numbers b.truths v p.ty s d low in
      let rest = emits_all ps (env ++ v ∷ []) (tys ++ p.ty ∷ []) (pl ++ b.result ∷ []) (numbers W vs b.steps ns ts) (truths W vs b.steps ns ts) b.numbers b.truths next r.2 in
      let after = emitted ms ps (pl ++ b.result ∷ []) b.numbers b.truths in
      let m = numbers_end ms (p ∷ ps) pl n t in
      let u = truths_end ms (p ∷ ps) pl n t in
      subst (λ (us : List Bool). Represents W ws ms (pattern_op_values ws vs (p ∷ ps) env) (types (p ∷ ps) tys) (places ms (p ∷ ps) pl n t) (numbers W vs (b.steps ++ after) ns ts) us m u)
      (sym (truths_after b.steps after ns ts))
      (subst (λ (ks : List ℕ). Represents W ws ms (pattern_op_values ws vs (p ∷ ps) env) (types (p ∷ ps) tys) (places ms (p ∷ ps) pl n t) ks (truths W vs after (numbers W vs b.steps ns ts) (truths W vs b.steps ns ts)) m u)
      (sym (numbers_after b.steps after ns ts)) rest)

pub emits : Emits
emits W vs ws ms ps env tys pl ns ts n t s r = emits_all W vs ws ms ps env tys pl ns ts n t s r
