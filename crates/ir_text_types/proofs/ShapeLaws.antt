-- The parser and the grammar of dimensions agree.
use Rattle.std.proofs.Common.{◌≡◌, ◌≤◌, ℕ, zero, suc, Bool, true, false, true≢false, List, [], ◌∷◌, ◌++◌, length, take, drop, Option, Some, None, refl, sym, ap, subst, ◌∙◌, arith, append_assoc}
use Rattle.std.specs.Prelude.{option_map, option_and_then, if◌then◌else◌, ◌==◌, ◌&&◌}
use Rattle.std.specs.List.{prefix_len, list_all}
use Rattle.std.specs.Char.{is_ascii_digit}
use Rattle.std.proofs.lemmas.Bool.{eqb-true, and_parts}
use Rattle.std.proofs.lemmas.Option.{cond_some, some_pair_parts, option_and_then_some}
use Rattle.std.proofs.lemmas.Bool.Decides.{nat_tests}
use Rattle.std.proofs.lemmas.List.{take-append-drop, append-nil}
use Rattle.std.proofs.Math.Seq.{take-append_seam, drop-append_seam}
use Rattle.ir_types.specs.Reasons.{is_dimension}
use Rattle.ir_text_tokens.specs.Bytes.{is_blank}
use Rattle.ir_text_tokens.specs.Tokens.{skip, digits_len}
use Rattle.ir_text_tokens.specs.Numbers.{place_value, begins_hex, integer_of}
use Rattle.ir_text_tokens.specs.Printing.{Stops}
use Rattle.ir_text_tokens.proofs.Decimals.{run_ends, not_x}
use Rattle.ir_text_types.specs.ShapeGrammar.{is_decimal, begins_dimension, IsCross, IsDimension, AreDimensions, IsShape}
use Rattle.ir_text_types.specs.ShapeReading.{cross_from, cross_at, crossed, sized, dimension_from, dimension_at, dimensions_at}

-- ---- bytes

-- a digit is no blank
pub digit_stays : (c : ℕ) (cs : List ℕ) → is_ascii_digit c ≡ true → skip (c ∷ cs) ≡ c ∷ cs
unfolding skip
digit_stays c [] e =
    let blank : is_blank c ≡ false = grind (arith, nat_tests) in
    rw blank refl
digit_stays c (d ∷ ds) e =
    let slash : (c == 47) ≡ false = grind (arith, nat_tests) in
    let blank : is_blank c ≡ false = grind (arith, nat_tests) in
    rw (slash, blank) refl

-- a digit is no `?` and no `x`
digit_no_mark : (c : ℕ) → is_ascii_digit c ≡ true → (c == 63) ≡ false
digit_no_mark c e = grind (arith, nat_tests)

-- digits end before an `x`
stops : (mid new : List ℕ) → IsCross mid new → Stops is_ascii_digit mid
stops [] new e = tt
stops (c ∷ cs) new e = by_case (is_ascii_digit c) refl
  where
    by_case : (b : Bool) → is_ascii_digit c ≡ b → is_ascii_digit c ≡ false
    by_case false h = h
    by_case true h =
        let same : c ∷ cs ≡ 120 ∷ new = sym (digit_stays c cs h) ∙ e in
        let x : c ≡ 120 = cc in
        let no : is_ascii_digit 120 ≡ true = subst (λ d. is_ascii_digit d ≡ true) x h in
        absurd cc

-- a text of digits is one run
all_run : (ds : List ℕ) → list_all is_ascii_digit ds ≡ true → prefix_len is_ascii_digit ds ≡ length ds
all_run [] e = refl
all_run (d ∷ ds) e =
    let b = and_parts (is_ascii_digit d) (list_all is_ascii_digit ds) e in
    rw (b.0, all_run ds b.1) (omega arith)

-- a run with one more digit before it
run_more : (c : ℕ) (cs : List ℕ) → is_ascii_digit c ≡ true → take (digits_len (c ∷ cs)) (c ∷ cs) ≡ c ∷ take (digits_len cs) cs
run_more c cs e =
    let n : digits_len (c ∷ cs) ≡ suc (digits_len cs) = rw e (omega arith) in
    ap (λ k. take k (c ∷ cs)) n

-- a run has only digits
run_all : (bs : List ℕ) → list_all is_ascii_digit (take (digits_len bs) bs) ≡ true
run_all [] = refl
run_all (c ∷ cs) = by_case (run_all cs) (is_ascii_digit c) refl
  where
    by_case : list_all is_ascii_digit (take (digits_len cs) cs) ≡ true → (b : Bool) → is_ascii_digit c ≡ b → list_all is_ascii_digit (take (digits_len (c ∷ cs)) (c ∷ cs)) ≡ true
    by_case r true h = ap (list_all is_ascii_digit) (run_more c cs h) ∙ rw (h, r) refl
    by_case r false h = let n : digits_len (c ∷ cs) ≡ 0 = rw h refl in ap (λ k. list_all is_ascii_digit (take k (c ∷ cs))) n

run_decimal : (c : ℕ) (cs : List ℕ) → is_ascii_digit c ≡ true → is_decimal (take (digits_len (c ∷ cs)) (c ∷ cs)) ≡ true
run_decimal c cs e = ap is_decimal (run_more c cs e) ∙ rw (e, run_all cs) refl

-- decimal digits don't begin a hexadecimal number
no_hex : (ds : List ℕ) → is_decimal ds ≡ true → begins_hex ds ≡ false
no_hex [] e = refl
no_hex (a ∷ []) e = refl
no_hex (a ∷ b ∷ ds) e =
    let first = and_parts (is_ascii_digit a) (list_all is_ascii_digit (b ∷ ds)) e in
    let second = and_parts (is_ascii_digit b) (list_all is_ascii_digit ds) first.1 in
    let x = not_x b second.0 in
    by_case (a == 48) x
  where
    by_case : (t : Bool) → (b == 120) ≡ false → (t && b == 120) ≡ false
    by_case true x = x
    by_case false x = refl

decimal_is : (ds : List ℕ) → is_decimal ds ≡ true → integer_of ds ≡ place_value 10 ds
decimal_is ds e = rw (no_hex ds e) refl

-- ---- one dimension of any size

abbrev trailing : Option ℕ → List ℕ → Option ℕ × List ℕ
trailing d rest = (d, rest)

abbrev written : ℕ → List ℕ → Option (Option ℕ × List ℕ)
written n bytes = crossed (Some (place_value 10 (take n bytes))) (drop n bytes)

abbrev dimension_or_any : List ℕ → Option (Option ℕ × List ℕ)
dimension_or_any [] = None
dimension_or_any (c ∷ cs) = if c == 63 then crossed None cs else if is_ascii_digit c then written (digits_len (c ∷ cs)) (c ∷ cs) else None

cross_found : (bytes new : List ℕ) → cross_at bytes ≡ Some new → IsCross bytes new
unfolding cross_at
cross_found bytes new e = from (skip bytes) refl e
  where
    from : (all : List ℕ) → skip bytes ≡ all → cross_from all ≡ Some new → skip bytes ≡ 120 ∷ new
    from [] h e = absurd cc
    from (c ∷ cs) h e =
        let k = cond_some (c == 120) cs new e in
        h ∙ (λ i. eqb-true c 120 k.0 i ∷ k.1 i)

cross_only : (bytes new : List ℕ) → IsCross bytes new → cross_at bytes ≡ Some new
unfolding cross_at
cross_only bytes new e = ap cross_from e

crossed_found : (d x : Option ℕ) (bytes new : List ℕ) → crossed d bytes ≡ Some (x, new) → (x ≡ d) × IsCross bytes new
crossed_found d x bytes new e = from (cross_at bytes) refl e
  where
    from : (o : Option (List ℕ)) → cross_at bytes ≡ o → option_map (trailing d) o ≡ Some (x, new) → (x ≡ d) × IsCross bytes new
    from None h e = absurd cc
    from (Some r) h e =
        let k = some_pair_parts d x r new e in
        (sym k.0, cross_found bytes new (h ∙ ap Some k.1))

crossed_only : (d : Option ℕ) (bytes new : List ℕ) → IsCross bytes new → crossed d bytes ≡ Some (d, new)
crossed_only d bytes new e = ap (option_map (trailing d)) (cross_only bytes new e)

plain_digits : (c : ℕ) (cs : List ℕ) → is_ascii_digit c ≡ true → dimension_or_any (c ∷ cs) ≡ written (digits_len (c ∷ cs)) (c ∷ cs)
plain_digits c cs e = rw (digit_no_mark c e, e) refl

plain_only : (d : Option ℕ) (old new : List ℕ) → IsDimension d old new → dimension_or_any (skip old) ≡ Some (d, new)
plain_only None old new k = ap dimension_or_any k.1 ∙ crossed_only None k.0 new k.2
plain_only (Some size) old new k = from k.0 k.2 k.3 k.4
  where
    from : (digits : List ℕ) → skip old ≡ digits ++ k.1 → is_decimal digits ≡ true → size ≡ place_value 10 digits → dimension_or_any (skip old) ≡ Some (Some size, new)
    from [] e h v = absurd cc
    from (c ∷ cs) e h v =
        let all = c ∷ (cs ++ k.1) in
        let digit = (and_parts (is_ascii_digit c) (list_all is_ascii_digit cs) h).0 in
        let len : digits_len all ≡ length (c ∷ cs) = run_ends is_ascii_digit (c ∷ cs) k.1 (all_run (c ∷ cs) h) (stops k.1 new k.5) in
        let preceding : take (digits_len all) all ≡ c ∷ cs = ap (λ n. take n all) len ∙ take-append_seam (c ∷ cs) k.1 in
        let back : drop (digits_len all) all ≡ k.1 = ap (λ n. drop n all) len ∙ drop-append_seam (c ∷ cs) k.1 in
        let value : place_value 10 (take (digits_len all) all) ≡ size = ap (place_value 10) preceding ∙ sym v in
        let same : written (digits_len all) all ≡ crossed (Some size) k.1 = λ i. crossed (Some (value i)) (back i) in
        ap dimension_or_any e ∙ plain_digits c (cs ++ k.1) digit ∙ same ∙ crossed_only (Some size) k.1 new k.5

pub begins_only : (d : Option ℕ) (old new : List ℕ) → IsDimension d old new → begins_dimension (skip old) ≡ true
begins_only None old new k = ap begins_dimension k.1
begins_only (Some size) old new k = from k.0 k.2 k.3
  where
    from : (digits : List ℕ) → skip old ≡ digits ++ k.1 → is_decimal digits ≡ true → begins_dimension (skip old) ≡ true
    from [] e h = absurd cc
    from (c ∷ cs) e h =
        let digit = (and_parts (is_ascii_digit c) (list_all is_ascii_digit cs) h).0 in
        ap begins_dimension e ∙ rw (digit_no_mark c digit, digit) refl

plain_found : (d : Option ℕ) (old new : List ℕ) → dimension_or_any (skip old) ≡ Some (d, new) → IsDimension d old new
plain_found d old new e = from (skip old) refl e
  where
    as_mark : (c : ℕ) (cs : List ℕ) → skip old ≡ c ∷ cs → (c == 63) ≡ true → crossed None cs ≡ Some (d, new) → IsDimension d old new
    as_mark c cs h q e =
        let k = crossed_found None d cs new e in
        let rendered : IsDimension None old new = (cs, h ∙ ap (λ b. b ∷ cs) (eqb-true c 63 q), k.1) in
        subst (λ x. IsDimension x old new) (sym k.0) rendered

    as_digits : (c : ℕ) (cs : List ℕ) → skip old ≡ c ∷ cs → is_ascii_digit c ≡ true → written (digits_len (c ∷ cs)) (c ∷ cs) ≡ Some (d, new) → IsDimension d old new
    as_digits c cs h digit e =
        let all = c ∷ cs in
        let n = digits_len all in
        let k = crossed_found (Some (place_value 10 (take n all))) d (drop n all) new e in
        let rendered : IsDimension (Some (place_value 10 (take n all))) old new = (take n all, drop n all, h ∙ sym (take-append-drop n all), run_decimal c cs digit, refl, k.1) in
        subst (λ x. IsDimension x old new) (sym k.0) rendered

    by_digit : (c : ℕ) (cs : List ℕ) (t : Bool) → is_ascii_digit c ≡ t → skip old ≡ c ∷ cs → (if t then written (digits_len (c ∷ cs)) (c ∷ cs) else None) ≡ Some (d, new) → IsDimension d old new
    by_digit c cs true q h e = as_digits c cs h q e
    by_digit c cs false q h e = absurd cc

    by_mark : (c : ℕ) (cs : List ℕ) (t : Bool) → (c == 63) ≡ t → skip old ≡ c ∷ cs
        → (if t then crossed None cs else if is_ascii_digit c then written (digits_len (c ∷ cs)) (c ∷ cs) else None) ≡ Some (d, new) → IsDimension d old new
    by_mark c cs true q h e = as_mark c cs h q e
    by_mark c cs false q h e = by_digit c cs (is_ascii_digit c) refl h e

    from : (all : List ℕ) → skip old ≡ all → dimension_or_any all ≡ Some (d, new) → IsDimension d old new
    from [] h e = absurd cc
    from (c ∷ cs) h e = by_mark c cs (c == 63) refl h e

-- ---- a dimension that isn't too large

abbrev guarded : Option ℕ × List ℕ → Option (Option ℕ × List ℕ)
guarded x = if is_dimension x.0 then Some x else None

guard_crossed : (d : Option ℕ) (bytes : List ℕ) → option_and_then guarded (crossed d bytes) ≡ (if is_dimension d then crossed d bytes else None)
guard_crossed d bytes = from (cross_at bytes) (is_dimension d) refl
  where
    from : (o : Option (List ℕ)) (t : Bool) → is_dimension d ≡ t → option_and_then guarded (option_map (trailing d) o) ≡ (if t then option_map (trailing d) o else None)
    from None true h = refl
    from None false h = refl
    from (Some r) true h = rw h refl
    from (Some r) false h = rw h refl

guard_sized : (n : ℕ) (bytes : List ℕ) → is_decimal (take n bytes) ≡ true → sized n bytes ≡ option_and_then guarded (written n bytes)
guard_sized n bytes h = rw (decimal_is (take n bytes) h, guard_crossed) (from (is_dimension (Some size)))
  where
    size : ℕ
    size = place_value 10 (take n bytes)

    from : (t : Bool) → option_and_then (λ v. crossed (Some v) (drop n bytes)) (if t then Some size else None) ≡ (if t then crossed (Some size) (drop n bytes) else None)
    from true = refl
    from false = refl

guard_plain : (all : List ℕ) → dimension_from all ≡ option_and_then guarded (dimension_or_any all)
guard_plain [] = refl
guard_plain (c ∷ cs) = by_mark (c == 63) (is_ascii_digit c) refl
  where
    by_mark : (m t : Bool) → is_ascii_digit c ≡ t
        → (if m then crossed None cs else if t then sized (digits_len (c ∷ cs)) (c ∷ cs) else None) ≡ option_and_then guarded (if m then crossed None cs else if t then written (digits_len (c ∷ cs)) (c ∷ cs) else None)
    by_mark true t h = sym (guard_crossed None cs)
    by_mark false true h = guard_sized (digits_len (c ∷ cs)) (c ∷ cs) (run_decimal c cs h)
    by_mark false false h = refl

dimension_only : (d : Option ℕ) (old new : List ℕ) → is_dimension d ≡ true → IsDimension d old new → dimension_at old ≡ Some (d, new)
unfolding dimension_at
dimension_only d old new h k = guard_plain (skip old) ∙ ap (option_and_then guarded) (plain_only d old new k) ∙ rw h refl

dimension_found : (d : Option ℕ) (old new : List ℕ) → dimension_at old ≡ Some (d, new) → (is_dimension d ≡ true) × IsDimension d old new
unfolding dimension_at
dimension_found d old new e = from (dimension_or_any (skip old)) refl (sym (guard_plain (skip old)) ∙ e)
  where
    from : (o : Option (Option ℕ × List ℕ)) → dimension_or_any (skip old) ≡ o → option_and_then guarded o ≡ Some (d, new) → (is_dimension d ≡ true) × IsDimension d old new
    from None h e = absurd cc
    from (Some x) h e =
        let k = cond_some (is_dimension x.0) x (d, new) e in
        (subst (λ (y : Option ℕ × List ℕ). is_dimension y.0 ≡ true) k.1 k.0, plain_found d old new (h ∙ ap Some k.1))

-- ---- dimensions

pub dimensions_only : (headroom : ℕ) (preceding ds : List (Option ℕ)) (old new : List ℕ) → list_all is_dimension ds ≡ true → length ds ≤ headroom → AreDimensions ds old new → dimensions_at headroom preceding old ≡ Some (preceding ++ ds, new)
unfolding dimensions_at
dimensions_only zero preceding [] old new h le k = rw (k.0, k.1, append-nil preceding) refl
dimensions_only (suc headroom) preceding [] old new h le k = rw (k.0, k.1, append-nil preceding) refl
dimensions_only zero preceding (d ∷ ds) old new h le k = absurd (omega (arith, le))
dimensions_only (suc headroom) preceding (d ∷ ds) old new h le k =
    let b = and_parts (is_dimension d) (list_all is_dimension ds) h in
    let less : length ds ≤ headroom = omega (arith, le) in
    rw (begins_only d old k.0 k.1, dimension_only d old k.0 b.0 k.1) (dimensions_only headroom (preceding ++ d ∷ []) ds k.0 new b.1 less k.2 ∙ ap (λ l. Some (l, new)) (append_assoc preceding (d ∷ []) ds))

abbrev pair : List (Option ℕ) → List ℕ → Option (List (Option ℕ) × List ℕ)
pair ds rest = Some (ds, rest)

-- the dimensions that were parsed after those of `front`
abbrev Found : ℕ → List (Option ℕ) → List (Option ℕ) → (old new : List ℕ) → Type 0
Found headroom preceding all old new = (ds : List (Option ℕ)) × (all ≡ preceding ++ ds) × (list_all is_dimension ds ≡ true) × IsShape headroom ds old new

end_found : (headroom : ℕ) (preceding all : List (Option ℕ)) (old new : List ℕ) → begins_dimension (skip old) ≡ false → pair preceding old ≡ pair all new → Found headroom preceding all old new
end_found headroom preceding all old new none e =
    let k = some_pair_parts preceding all old new e in
    ([], sym k.0 ∙ sym (append-nil preceding), refl, (omega arith, (none, sym k.1)))

more_found : (headroom : ℕ) (preceding all : List (Option ℕ)) (d : Option ℕ) (old mid new : List ℕ) → dimension_at old ≡ Some (d, mid) → Found headroom (preceding ++ d ∷ []) all mid new → Found (suc headroom) preceding all old new
more_found headroom preceding all d old mid new e f =
    let k = dimension_found d old mid e in
    let le : suc (length f.0) ≤ suc headroom = omega (arith, f.3.0) in
    (d ∷ f.0, f.1 ∙ append_assoc preceding (d ∷ []) f.0, rw (k.0, f.2) refl, (le, (mid, k.1, f.3.1)))

pub dimensions_found : (headroom : ℕ) (preceding all : List (Option ℕ)) (old new : List ℕ) → dimensions_at headroom preceding old ≡ Some (all, new) → Found headroom preceding all old new
unfolding dimensions_at
dimensions_found zero preceding all old new e = by_case (begins_dimension (skip old)) refl e
  where
    by_case : (t : Bool) → begins_dimension (skip old) ≡ t → (if t then None else pair preceding old) ≡ pair all new → Found zero preceding all old new
    by_case true h e = absurd cc
    by_case false h e = end_found zero preceding all old new h e
dimensions_found (suc headroom) preceding all old new e = by_case (λ d mid. dimensions_found headroom (preceding ++ d ∷ []) all mid new) (begins_dimension (skip old)) refl e
  where
    by_case : ((d : Option ℕ) (mid : List ℕ) → dimensions_at headroom (preceding ++ d ∷ []) mid ≡ Some (all, new) → Found headroom (preceding ++ d ∷ []) all mid new) → (t : Bool) → begins_dimension (skip old) ≡ t
        → (if t then option_and_then (λ (x : Option ℕ × List ℕ). dimensions_at headroom (preceding ++ x.0 ∷ []) x.1) (dimension_at old) else pair preceding old) ≡ pair all new → Found (suc headroom) preceding all old new
    by_case rest false h e = end_found (suc headroom) preceding all old new h e
    by_case rest true h e = option_and_then_some (λ (x : Option ℕ × List ℕ). dimensions_at headroom (preceding ++ x.0 ∷ []) x.1) (dimension_at old) (all, new) e (λ x at more. more_found headroom preceding all x.0 old x.1 new at (rest x.0 x.1 more))

-- ---- the grammar is unambiguous

pub dimension_one : (d e : Option ℕ) (old m n : List ℕ) → IsDimension d old m → IsDimension e old n → (d ≡ e) × (m ≡ n)
dimension_one d e old m n k l = some_pair_parts d e m n (sym (plain_only d old m k) ∙ plain_only e old n l)

pub dimensions_one : (ds es : List (Option ℕ)) (old m n : List ℕ) → AreDimensions ds old m → AreDimensions es old n → (ds ≡ es) × (m ≡ n)
dimensions_one [] [] old m n k l = (refl, k.1 ∙ sym l.1)
dimensions_one [] (e ∷ es) old m n k l = absurd (true≢false (sym (begins_only e old l.0 l.1) ∙ k.0))
dimensions_one (d ∷ ds) [] old m n k l = absurd (true≢false (sym (begins_only d old k.0 k.1) ∙ l.0))
dimensions_one (d ∷ ds) (e ∷ es) old m n k l =
    let one = dimension_one d e old k.0 l.0 k.1 l.1 in
    let more = dimensions_one ds es k.0 m n k.2 (subst (λ mid. AreDimensions es mid n) (sym one.1) l.2) in
    ((λ i. one.0 i ∷ more.0 i), more.1)
