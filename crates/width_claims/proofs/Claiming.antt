-- A decision about the steps holds of the values.
use Rattle.std.proofs.Common.{◌≡◌, ◌∙◌, ℕ, zero, suc, ◌+◌, ◌%◌, ◌^◌, ◌<◌, ◌≤◌, ◌==◌, ◌&&◌, ◌++◌, nat_lt, ◌⊎◌, inl, inr, ⊎_elim, List, [], ◌∷◌, length, length-append, Bool, true, false, bit_and, if◌then◌else◌, Option, Some, refl, sym, ap, subst, arith, eq-eqb}
use Rattle.std.proofs.lemmas.Bool.{cases_lt, eqb-true}
use Rattle.std.proofs.lemmas.List.{append_assoc, append-nil}
use Rattle.std.proofs.Math.Nat.{mod-eq_of_lt}
use Rattle.std.proofs.Math.Pow.{pow-lt}
use Rattle.width_claims.specs.Masks.{IsMask, mask}
use Rattle.width_claims.proofs.Masking.{are_masks, masks_narrower}
use Rattle.width_claims.specs.declared.step.Step.{Step}
use Rattle.width_claims.specs.declared.step.Step.TheVariants as step
use Rattle.width_claims.specs.Steps.{numbers_then, supposed, supposed_of, truth_at, truths, truths_then}
use Rattle.width_claims.specs.declared.verdict.Verdict.{Verdict}
use Rattle.width_claims.specs.declared.verdict.Verdict.TheVariants as verdict
use Rattle.width_claims.specs.AllWidths.{IsDecided}
use Rattle.width_claims.specs.Claimed.{IsClaim, IsEqualDecided}
use Rattle.std.specs.Prelude.{IfSome}
use Rattle.width_claims.specs.declared.form.Form.{Form}
use Rattle.width_claims.specs.declared.form.Form.TheVariants as form
use Rattle.width_claims.specs.declared.form.Expr.{Expr}
use Rattle.width_claims.specs.declared.width.Narrower.{Narrower}
use Rattle.width_claims.specs.declared.width.Width.{Width}
use Rattle.width_claims.specs.declared.width.Width.TheVariants as width
use Rattle.width_claims.specs.PatternOpValues.{at, pattern_op_values}
use Rattle.width_claims.specs.Emission.{Claim, condition_steps, block_of, claim_masks, claim_numbers, claim_place, claim_places, claim_steps, claim_truths, emitted, mask_places, narrow_numbers, narrow_steps, narrow_truths, type_numbers, type_steps, type_truths}
use Rattle.width_claims.specs.Right.{ConditionsHold, AreNarrower, Claims, FitWidths, IsBelow, Represents, numbers}
use Rattle.width_claims.proofs.Emitting.{emits, last, last_truth, longer, old, truths_after}

module _ (W : ℕ) (vs : List ℕ) where
  supposed_after : (ss rs : List Step) (ns : List ℕ) (ts : List Bool) → supposed W vs ss ns ts ≡ true → supposed W vs rs (numbers W vs ss ns ts) (truths W vs ss ns ts) ≡ true → supposed W vs (ss ++ rs) ns ts ≡ true
  supposed_after [] rs ns ts e f = f
  supposed_after (s ∷ ss) rs ns ts e f = go (supposed_of s ns) (λ i j. supposed_after ss rs (numbers_then W vs s ns ts) (truths_then s ns ts) i j) e
    where
      go : (b : Bool) → (supposed W vs ss (numbers_then W vs s ns ts) (truths_then s ns ts) ≡ true → supposed W vs rs (numbers W vs (s ∷ ss) ns ts) (truths W vs (s ∷ ss) ns ts) ≡ true → supposed W vs (ss ++ rs) (numbers_then W vs s ns ts) (truths_then s ns ts) ≡ true)
          → (b && supposed W vs ss (numbers_then W vs s ns ts) (truths_then s ns ts)) ≡ true → (b && supposed W vs (ss ++ rs) (numbers_then W vs s ns ts) (truths_then s ns ts)) ≡ true
      go true ih g = ih g f
      go false ih g = absurd (cc)

  -- the steps of expressions have no assumptions
  block_free : (m : ℕ) (ms pl : List ℕ) (n t : ℕ) (f : Form) (ns : List ℕ) (ts : List Bool) → supposed W vs (block_of m ms pl n t f).steps ns ts ≡ true
  block_free m ms pl n t (form.Value i) ns ts = refl
  block_free m ms pl n t (form.Literal k) ns ts = refl
  block_free m ms pl n t (form.Negative k) ns ts = refl
  block_free m ms pl n t (form.Add i j) ns ts = refl
  block_free m ms pl n t (form.Subtract i j) ns ts = refl
  block_free m ms pl n t (form.And i j) ns ts = refl
  block_free m ms pl n t (form.Or i j) ns ts = refl
  block_free m ms pl n t (form.ExclusiveOr i j) ns ts = refl
  block_free m ms pl n t (form.Same i j) ns ts = refl
  block_free m ms pl n t (form.Less i j) ns ts = refl
  block_free m ms pl n t (form.LessSigned u i j) ns ts = refl
  block_free m ms pl n t (form.Select c i j) ns ts = refl
  block_free m ms pl n t (form.Signs u i) ns ts = refl
  block_free m ms pl n t (form.Resize u i) ns ts = refl
  block_free m ms pl n t (form.Zeros i) ns ts = refl
  block_free m ms pl n t (form.Cut i) ns ts = refl
  block_free m ms pl n t (form.Quotient i k) ns ts = refl

  emitted_free : (ms : List ℕ) (ps : List Expr) (pl : List ℕ) (n t : ℕ) (ns : List ℕ) (ts : List Bool) → supposed W vs (emitted ms ps pl n t) ns ts ≡ true
  emitted_free ms [] pl n t ns ts = refl
  emitted_free ms (p ∷ ps) pl n t ns ts =
      let b = block_of (at ms p.ty) ms pl n t p.form in
      supposed_after b.steps (emitted ms ps (pl ++ b.result ∷ []) b.numbers b.truths) ns ts (block_free (at ms p.ty) ms pl n t p.form ns ts)
      (emitted_free ms ps (pl ++ b.result ∷ []) b.numbers b.truths (numbers W vs b.steps ns ts) (truths W vs b.steps ns ts))

  -- ---- masks

  record Begun (ds ms ns : List ℕ) (ts : List Bool) (n t : ℕ) : Type 0 where
    many : length ns ≡ n
    end_truth : length ts ≡ t
    some : 2 ≤ n
    zero_there : at ns 0 ≡ 0
    one_there : at ns 1 ≡ 1
    alike : length ms ≡ length ds
    masks : (u : ℕ) → u < length ms → (at ms u < n) × (at ns (at ms u) ≡ mask (at ds u))

  -- one more mask, with any numbers after it
  mask_more : (ds ms ns new : List ℕ) (ts us : List Bool) (n t k u w : ℕ) → Begun ds ms ns ts n t → ((i : ℕ) → i < n → at new i ≡ at ns i) → length new ≡ k → length us ≡ u → n < k → at new n ≡ mask w
      → Begun (ds ++ w ∷ []) (ms ++ n ∷ []) new us k u
  mask_more ds ms ns new ts us n t k u w b remains many end_truth h is =
      let some = b.some in
      let alike = b.alike in
      record {
        many = many;
        end_truth = end_truth;
        some = omega (arith, some, h);
        zero_there = remains 0 (omega (arith, some)) ∙ b.zero_there;
        one_there = remains 1 (omega (arith, some)) ∙ b.one_there;
        alike = longer ms n (length ds) alike ∙ sym (length-append ds (w ∷ []));
        masks = λ i l. elim (last_or i (length ms) (subst (λ (q : ℕ). i < q) (length-append ms (n ∷ [])) l)) [
          | inl g ↦ (
              let x = b.masks i g in
              let lo = x.0 in
              let p = old ms n i g in
              let q = old ds w i (omega (arith, g, alike)) in
              (omega (arith, lo, h, p), ap (at new) p ∙ remains (at ms i) lo ∙ x.1 ∙ ap mask (sym q)))
          | inr g ↦ (
              let p = last ms n i (sym g) in
              let q = last ds w i (sym alike ∙ sym g) in
              (omega (arith, p, h), ap (at new) p ∙ is ∙ ap mask (sym q)))
        ];
      }
    where
      last_or : (i q : ℕ) → i < q + 1 → (i < q) ⊎ (i ≡ q)
      last_or i q l = grind arith

  type_mask : (w : ℕ) → IsBelow W w → IsMask W w
  type_mask w b = are_masks W w b.0 b.1

  types_stand : (ks : List Width) (ds us ms ns : List ℕ) (ts : List Bool) (n t v : ℕ) → Begun ds ms ns ts n t → FitWidths W vs v ks us
      → Begun (ds ++ us) (mask_places ks ms n) (numbers W vs (type_steps v ks n) ns ts) (truths W vs (type_steps v ks n) ns ts) (type_numbers ks n) (type_truths ks t)
      × (supposed W vs (type_steps v ks n) ns ts ≡ true)
  types_stand [] ds [] ms ns ts n t v b f = (subst (λ (es : List ℕ). Begun es ms ns ts n t) (sym (append-nil ds)) b, refl)
  types_stand [] ds (u ∷ us) ms ns ts n t v b f = absurd f
  types_stand (width.Free ∷ ks) ds [] ms ns ts n t v b f = absurd f
  types_stand (width.Free ∷ ks) ds (w ∷ us) ms ns ts n t v b f =
      let is = type_mask w f.0 in
      let m = at vs v % 2 ^ W in
      let ns1 = ns ++ m ∷ [] in
      let x1 = (at ns1 n + at ns1 1) % 2 ^ W in
      let ns2 = ns1 ++ x1 ∷ [] in
      let x2 = bit_and (at ns2 n) (at ns2 (n + 1)) in
      let ns3 = ns2 ++ x2 ∷ [] in
      let b1 = at ns3 (n + 2) == at ns3 0 in
      let ts1 = ts ++ b1 ∷ [] in
      let x3 = bit_and (at ns3 n) (at ns3 1) in
      let ns4 = ns3 ++ x3 ∷ [] in
      let b2 = at ns4 (n + 3) == at ns4 1 in
      let ts2 = ts1 ++ b2 ∷ [] in
      let some = b.some in
      let many = b.many in
      let many1 = longer ns m n many in
      let two : n + 1 + 1 ≡ n + 2 = omega arith in
      let many2 : length ns2 ≡ n + 2 = longer ns1 x1 (n + 1) many1 ∙ two in
      let three : n + 2 + 1 ≡ n + 3 = omega arith in
      let many3 : length ns3 ≡ n + 3 = longer ns2 x2 (n + 2) many2 ∙ three in
      let four : n + 3 + 1 ≡ n + 4 = omega arith in
      let many4 : length ns4 ≡ n + 4 = longer ns3 x3 (n + 3) many3 ∙ four in
      let reported1 = longer ts b1 t b.end_truth in
      let up : t + 1 + 1 ≡ t + 2 = omega arith in
      let reported2 : length ts2 ≡ t + 2 = longer ts1 b2 (t + 1) reported1 ∙ up in
      let mask_is : m ≡ mask w = ap (λ q. q % 2 ^ W) f.1 ∙ mod-eq_of_lt is.low in
      let at1 : at ns1 n ≡ mask w = last ns m n many ∙ mask_is in
      let at2 : at ns2 n ≡ mask w = old ns1 x1 n (omega (arith, many1)) ∙ at1 in
      let at3 : at ns3 n ≡ mask w = old ns2 x2 n (omega (arith, many2)) ∙ at2 in
      let at4 : at ns4 n ≡ mask w = old ns3 x3 n (omega (arith, many3)) ∙ at3 in
      let one1 : at ns1 1 ≡ 1 = old ns m 1 (omega (arith, many, some)) ∙ b.one_there in
      let one3 : at ns3 1 ≡ 1 = old ns2 x2 1 (omega (arith, many2, some)) ∙ old ns1 x1 1 (omega (arith, many1, some)) ∙ one1 in
      let one4 : at ns4 1 ≡ 1 = old ns3 x3 1 (omega (arith, many3, some)) ∙ one3 in
      let zero3 : at ns3 0 ≡ 0 = old ns2 x2 0 (omega (arith, many2)) ∙ old ns1 x1 0 (omega (arith, many1)) ∙ old ns m 0 (omega (arith, many, some)) ∙ b.zero_there in
      let sum : at ns2 (n + 1) ≡ (mask w + 1) % 2 ^ W = last ns1 x1 (n + 1) many1 ∙ (λ r. (at1 r + one1 r) % 2 ^ W) in
      let none : at ns3 (n + 2) ≡ 0 = last ns2 x2 (n + 2) many2 ∙ (λ r. bit_and (at2 r) (sum r)) ∙ is.ones in
      let odd : at ns4 (n + 3) ≡ 1 = last ns3 x3 (n + 3) many3 ∙ (λ r. bit_and (at3 r) (one3 r)) ∙ is.some in
      let b1_is : b1 ≡ true = eq-eqb (at ns3 (n + 2)) (at ns3 0) (none ∙ sym zero3) in
      let b2_is : b2 ≡ true = eq-eqb (at ns4 (n + 3)) (at ns4 1) (odd ∙ sym one4) in
      let remains : (i : ℕ) → i < n → at ns4 i ≡ at ns i =
      λ i l. old ns3 x3 i (omega (arith, l, many3)) ∙ old ns2 x2 i (omega (arith, l, many2)) ∙ old ns1 x1 i (omega (arith, l, many1)) ∙ old ns m i (omega (arith, l, many)) in
      let next = mask_more ds ms ns ns4 ts ts2 n t (n + 4) (t + 2) w b remains many4 reported2 (omega arith) at4 in
      let rest = types_stand ks (ds ++ w ∷ []) us (ms ++ n ∷ []) ns4 ts2 (n + 4) (t + 2) (v + 1) next f.2 in (
        subst (λ (es : List ℕ). Begun es (mask_places ks (ms ++ n ∷ []) (n + 4)) (numbers W vs (type_steps (v + 1) ks (n + 4)) ns4 ts2) (truths W vs (type_steps (v + 1) ks (n + 4)) ns4 ts2) (type_numbers ks (n + 4)) (type_truths ks (t + 2)))
            (append_assoc ds (w ∷ []) us) rest.0,
        (λ r. b1_is r && (b2_is r && rest.1 r)),
      )
  types_stand (width.Fixed k ∷ ks) ds [] ms ns ts n t v b f = absurd f
  types_stand (width.Fixed k ∷ ks) ds (w ∷ us) ms ns ts n t v b f =
      let is = type_mask w f.0 in
      let m = mask k % 2 ^ W in
      let ns1 = ns ++ m ∷ [] in
      let many = b.many in
      let mask_is : m ≡ mask w = ap (λ q. mask q % 2 ^ W) f.1 ∙ mod-eq_of_lt is.low in
      let remains : (i : ℕ) → i < n → at ns1 i ≡ at ns i = λ i l. old ns m i (omega (arith, l, many)) in
      let next = mask_more ds ms ns ns1 ts ts n t (n + 1) t w b remains (longer ns m n many) b.end_truth (omega arith) (last ns m n many ∙ mask_is) in
      let rest = types_stand ks (ds ++ w ∷ []) us (ms ++ n ∷ []) ns1 ts (n + 1) t (v + 1) next f.2 in (
        subst (λ (es : List ℕ). Begun es (mask_places ks (ms ++ n ∷ []) (n + 1)) (numbers W vs (type_steps (v + 1) ks (n + 1)) ns1 ts) (truths W vs (type_steps (v + 1) ks (n + 1)) ns1 ts) (type_numbers ks (n + 1)) (type_truths ks t))
            (append_assoc ds (w ∷ []) us) rest.0,
        rest.1,
      )

  past : (xs : List ℕ) (i : ℕ) → length xs ≤ i → at xs i ≡ 0
  past [] i l = refl
  past (x ∷ xs) zero l = absurd (omega (arith, l))
  past (x ∷ xs) (suc i) l = past xs i (omega (arith, l))

  all_stand : (ws ms ns : List ℕ) (ts : List Bool) (n t : ℕ) → Begun ws ms ns ts n t → Represents W ws ms [] [] [] ns ts n t
  all_stand ws ms ns ts n t b =
      record {
        many = b.many;
        end_truth = b.end_truth;
        some = b.some;
        zero_there = b.zero_there;
        one_there = b.one_there;
        masks = λ u. ⊎_elim (λ l. b.masks u l) (λ (l : length ms ≤ u). (
            let alike = b.alike in
            let some = b.some in
            let p = past ms u l in
            let q = past ws u (omega (arith, l, alike)) in
            (omega (arith, p, some), ap (at ns) p ∙ b.zero_there ∙ ap mask (sym q)))) (cases_lt u (length ms));
        typed = refl;
        placed = refl;
        values = λ i l. absurd (omega (arith, l));
      }

  -- ---- narrower types

  narrow_stand : (ws ms ns : List ℕ) (ts : List Bool) (n t : ℕ) (ps : List Narrower) → Represents W ws ms [] [] [] ns ts n t → AreNarrower ws ps
      → Represents W ws ms [] [] [] (numbers W vs (narrow_steps ms ps n t) ns ts) (truths W vs (narrow_steps ms ps n t) ns ts) (narrow_numbers ps n) (narrow_truths ps t)
      × (supposed W vs (narrow_steps ms ps n t) ns ts ≡ true)
  narrow_stand ws ms ns ts n t [] s a = (s, refl)
  narrow_stand ws ms ns ts n t (p ∷ ps) s a =
      let b = nat_lt (at ns (at ms p.narrow)) (at ns (at ms p.wide)) in
      let ts1 = ts ++ b ∷ [] in
      let x = if truth_at ts1 t then at ns 1 else at ns 0 in
      let ns1 = ns ++ x ∷ [] in
      let b2 = at ns1 n == at ns1 1 in
      let ts2 = ts1 ++ b2 ∷ [] in
      let many = s.many in
      let some = s.some in
      let reported1 = longer ts b t s.end_truth in
      let up : t + 1 + 1 ≡ t + 2 = omega arith in
      let b_is : b ≡ true = (λ r. nat_lt ((s.masks p.narrow).1 r) ((s.masks p.wide).1 r)) ∙ masks_narrower (at ws p.narrow) (at ws p.wide) a.0 in
      let x_is : x ≡ 1 = ap (λ c. if c then at ns 1 else at ns 0) (last_truth ts b t s.end_truth ∙ b_is) ∙ s.one_there in
      let one1 : at ns1 1 ≡ 1 = old ns x 1 (omega (arith, many, some)) ∙ s.one_there in
      let b2_is : b2 ≡ true = eq-eqb (at ns1 n) (at ns1 1) (last ns x n many ∙ x_is ∙ sym one1) in
      let next : Represents W ws ms [] [] [] ns1 ts2 (n + 1) (t + 2) = record {
        many = longer ns x n many;
        end_truth = longer ts1 b2 (t + 1) reported1 ∙ up;
        some = omega (arith, some);
        zero_there = old ns x 0 (omega (arith, many, some)) ∙ s.zero_there;
        one_there = one1;
        masks = λ u. (let h = s.masks u in let l = h.0 in (omega (arith, l), old ns x (at ms u) (omega (arith, l, many)) ∙ h.1));
        typed = refl;
        placed = refl;
        values = λ i l. absurd (omega (arith, l));
      } in
      let rest = narrow_stand ws ms ns1 ts2 (n + 1) (t + 2) ps next a.1 in
      (rest.0, (λ r. b2_is r && rest.1 r))

  -- ---- conditions

  conditions_hold : (env pl ns : List ℕ) (hs : List ℕ) (ts : List Bool) → at ns 1 ≡ 1 → ((i : ℕ) → i < length env → at ns (at pl i) ≡ at env i) → ConditionsHold env hs
      → (supposed W vs (condition_steps pl hs) ns ts ≡ true) × (numbers W vs (condition_steps pl hs) ns ts ≡ ns) × (length (truths W vs (condition_steps pl hs) ns ts) ≡ length ts + length hs)
  conditions_hold env pl ns [] ts one values a = (refl, refl, omega arith)
  conditions_hold env pl ns (h ∷ hs) ts one values a =
      let b = at ns (at pl h) == at ns 1 in
      let yes : b ≡ true = eq-eqb (at ns (at pl h)) (at ns 1) (values h a.0 ∙ a.1 ∙ sym one) in
      let rest = conditions_hold env pl ns hs (ts ++ b ∷ []) one values a.2 in
      let many = rest.2 in
      let l = length-append ts (b ∷ []) in
      ((λ r. yes r && rest.0 r), rest.1, omega (arith, many, l))

  start_stands : 1 ≤ W → Begun [] [] (0 % 2 ^ W ∷ 1 % 2 ^ W ∷ []) [] 2 0
  start_stands h =
      let g = pow-lt {i = 0} {j = W} h in
      record {
        many = refl;
        end_truth = refl;
        some = omega arith;
        zero_there = mod-eq_of_lt (omega (arith, g));
        one_there = mod-eq_of_lt (omega (arith, g));
        alike = refl;
        masks = λ u l. absurd (omega (arith, l));
      }

pub claims : Claims
claims c all W vs ws h fits_in narrow right conditions left_in right_in =
    let ns0 = 0 % 2 ^ W ∷ 1 % 2 ^ W ∷ [] in
    let ms = claim_masks c in
    let n0 = type_numbers c.types 2 in
    let t0 = type_truths c.types 0 in
    let n1 = claim_numbers c in
    let t1 = claim_truths c in
    let pl = claim_places c in
    let T = type_steps c.first_mask c.types 2 in
    let N = narrow_steps ms c.narrower n0 t0 in
    let E = emitted ms c.exprs [] n1 t1 in
    let A = condition_steps pl c.conditions in
    let F = step.Equal (at pl c.left) (at pl c.right) ∷ [] in
    let begun = types_stand W vs c.types [] ws [] ns0 [] 2 0 c.first_mask (start_stands W vs h) fits_in in
    let nsT = numbers W vs T ns0 [] in
    let tsT = truths W vs T ns0 [] in
    let nsN = numbers W vs N nsT tsT in
    let tsN = truths W vs N nsT tsT in
    let first = narrow_stand W vs ws ms nsT tsT n0 t0 c.narrower (all_stand W vs ws ms nsT tsT n0 t0 begun.0) narrow in
    let s = emits W vs ws ms c.exprs [] [] [] nsN tsN n1 t1 first.0 right in
    let nsE = numbers W vs E nsN tsN in
    let tsE = truths W vs E nsN tsN in
    let env = pattern_op_values ws vs c.exprs [] in
    let values : (i : ℕ) → i < length env → at nsE (at pl i) ≡ at env i = λ i l. (s.values i l).1 in
    let a = conditions_hold W vs env pl nsE c.conditions tsE s.one_there values conditions in
    let nsA = numbers W vs A nsE tsE in
    let tsA = truths W vs A nsE tsE in
    let b = at nsA (at pl c.left) == at nsA (at pl c.right) in
    let so : supposed W vs (T ++ (N ++ (E ++ (A ++ F)))) ns0 [] ≡ true =
    supposed_after W vs T (N ++ (E ++ (A ++ F))) ns0 [] begun.1
    (supposed_after W vs N (E ++ (A ++ F)) nsT tsT first.1
    (supposed_after W vs E (A ++ F) nsN tsN (emitted_free W vs ms c.exprs [] n1 t1 nsN tsN)
    (supposed_after W vs A F nsE tsE a.0 refl))) in
    let yes = all W h vs so in
    let ended : truths W vs (T ++ (N ++ (E ++ (A ++ F)))) ns0 [] ≡ tsA ++ b ∷ [] = truths_after W vs vs vs T (N ++ (E ++ (A ++ F))) ns0 [] ∙ truths_after W vs vs vs N (E ++ (A ++ F)) nsT tsT ∙ truths_after W vs vs vs E (A ++ F) nsN tsN ∙ truths_after W vs vs vs A F nsE tsE in
    let place : length tsA ≡ claim_place c = a.2 ∙ ap (λ k. k + length c.conditions) s.end_truth in
    let end_truth : b ≡ true = sym (last_truth tsA b (claim_place c) place) ∙ ap (λ ts. truth_at ts (claim_place c)) (sym ended) ∙ yes in
    let same = eqb-true (at nsA (at pl c.left)) (at nsA (at pl c.right)) end_truth in
    sym (values c.left left_in) ∙ ap (λ ns. at ns (at pl c.left)) (sym a.1) ∙ same ∙ ap (λ ns. at ns (at pl c.right)) a.1 ∙ values c.right right_in

pub decided_equal : (c : Claim) (ss shown : List Step) (place : ℕ) (r : Option ℕ) (v : Verdict) → IsDecided shown place v → shown ≡ ss → r ≡ Some place → IfSome r (IsClaim c ss) → IsEqualDecided c v
decided_equal c ss shown place r v d same is claim =
    let k = subst (λ (q : Option ℕ). IfSome q (IsClaim c ss)) is claim in
    turned v (subst (λ (us : List Step). IsDecided us (claim_place c) v) (same ∙ k.0) (subst (λ (p : ℕ). IsDecided shown p v) k.1 d))
  where
    turned : (u : Verdict) → IsDecided (claim_steps c) (claim_place c) u → IsEqualDecided c u
    turned verdict.Always all = claims c all
    turned (verdict.Fails word) fails = fails
    turned verdict.TooMany none = tt
