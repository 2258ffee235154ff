-- Reading a prefix doesn't depend on the text after it.
use Rattle.std.proofs.Common.{◌≡◌, ℕ, zero, suc, ◌+◌, ◌<◌, ◌≤◌, Bool, true, false, cond, List, [], ◌∷◌, ◌++◌, length, take, drop, Option, Some, None, refl, sym, ap, ◌∙◌, arith}
use Rattle.std.specs.Prelude.{◌==◌, ◌&&◌, ◌||◌, not, option_map}
use Rattle.std.specs.List.{prefix_len}
use Rattle.std.specs.Char.{is_ascii_digit}
use Rattle.std.proofs.lemmas.List.{take-append-le, drop-append-le, length-drop}
use Rattle.std.proofs.lemmas.List.Sums.{prefix_len-le-length}
use Rattle.ir_text_tokens.specs.declared.refusal.TextRefusal.{TextRefusal}
use Rattle.ir_text_tokens.specs.declared.refusal.TextRefusal.TheVariants.{BadToken, Unexpected, LeftOut}
use Rattle.ir_text_tokens.specs.Bytes.{is_blank, is_hex, is_line_end, is_suffix}
use Rattle.ir_text_tokens.specs.Strings.{closing, closing_escape, closing_digit, is_short}
use Rattle.ir_text_tokens.specs.Tokens.{suffix_len}
use Rattle.ir_text_tokens.specs.Bodies.{begins, closes_nearest, fault_of, is_alias, is_arrow, is_closed, is_plain, is_printable, is_sign, is_undivided, part_len, string_len}

-- ---- strings

-- an index that is found within the prefix is found again
abbrev Again : List ℕ → Option ℕ → Option ℕ → Type 0
Again w old new = (n : ℕ) → old ≡ Some n → n < length w → new ≡ Some n

again_if : (w : List ℕ) (t : Bool) (a b c d : Option ℕ) → Again w a c → Again w b d → Again w (cond t a b) (cond t c d)
again_if w true a b c d f g = f
again_if w false a b c d f g = g

later : (c : ℕ) (w : List ℕ) (old new : Option ℕ) → Again w old new → Again (c ∷ w) (option_map suc old) (option_map suc new)
later c w None new h n e lt = absurd (cc)
later c w (Some m) new h zero e lt = absurd (cc)
later c w (Some m) new h (suc n) e lt = ap (option_map suc) (h n (ap less e) (omega (arith, lt)))
  where
    less : Option ℕ → Option ℕ
    less None = None
    less (Some zero) = None
    less (Some (suc n)) = Some n

here : (w : List ℕ) (o : Option ℕ) → Again w o o
here w o n e lt = e

mutual
  unfolding closing

  closing_again : (w r rest : List ℕ) → Again w (closing (w ++ r)) (closing (w ++ rest))
  closing_again [] r rest = λ n e lt. absurd (omega (arith, lt))
  closing_again (c ∷ w) r rest =
      again_if (c ∷ w) (c == 34) _ _ _ _ (here (c ∷ w) (Some 0))
      (again_if (c ∷ w) (c == 92) _ _ _ _ (later c w (closing_escape (w ++ r)) (closing_escape (w ++ rest)) (escape_again w r rest))
      (again_if (c ∷ w) (is_line_end c) _ _ _ _ (here (c ∷ w) None) (later c w (closing (w ++ r)) (closing (w ++ rest)) (closing_again w r rest))))

  escape_again : (w r rest : List ℕ) → Again w (closing_escape (w ++ r)) (closing_escape (w ++ rest))
  escape_again [] r rest = λ n e lt. absurd (omega (arith, lt))
  escape_again (c ∷ w) r rest =
      again_if (c ∷ w) (is_short c) _ _ _ _ (later c w (closing (w ++ r)) (closing (w ++ rest)) (closing_again w r rest))
      (again_if (c ∷ w) (is_hex c) _ _ _ _ (later c w (closing_digit (w ++ r)) (closing_digit (w ++ rest)) (digit_again w r rest)) (here (c ∷ w) None))

  digit_again : (w r rest : List ℕ) → Again w (closing_digit (w ++ r)) (closing_digit (w ++ rest))
  digit_again [] r rest = λ n e lt. absurd (omega (arith, lt))
  digit_again (c ∷ w) r rest =
      again_if (c ∷ w) (is_hex c) _ _ _ _ (later c w (closing (w ++ r)) (closing (w ++ rest)) (closing_again w r rest)) (here (c ∷ w) None)

-- ---- the skipped bytes exist

abbrev Within : List ℕ → Option ℕ → Type 0
Within bytes o = (n : ℕ) → o ≡ Some n → n < length bytes

within_if : (bytes : List ℕ) (t : Bool) (a b : Option ℕ) → Within bytes a → Within bytes b → Within bytes (cond t a b)
within_if bytes true a b f g = f
within_if bytes false a b f g = g

within_later : (c : ℕ) (bytes : List ℕ) (o : Option ℕ) → Within bytes o → Within (c ∷ bytes) (option_map suc o)
within_later c bytes None h n e = absurd (cc)
within_later c bytes (Some m) h n e = let k : suc m ≡ n = ap value e in omega (arith, k, h m refl)
  where
    value : Option ℕ → ℕ
    value None = 0
    value (Some n) = n

nothing : (bytes : List ℕ) → Within bytes None
nothing bytes n e = absurd (cc)

at_once : (c : ℕ) (cs : List ℕ) → Within (c ∷ cs) (Some 0)
at_once c cs zero e = omega arith
at_once c cs (suc n) e = absurd (cc)

mutual
  unfolding closing

  closing_within : (bytes : List ℕ) → Within bytes (closing bytes)
  closing_within [] = nothing []
  closing_within (c ∷ cs) =
      within_if (c ∷ cs) (c == 34) _ _ (at_once c cs)
      (within_if (c ∷ cs) (c == 92) _ _ (within_later c cs (closing_escape cs) (escape_within cs))
      (within_if (c ∷ cs) (is_line_end c) _ _ (nothing (c ∷ cs)) (within_later c cs (closing cs) (closing_within cs))))

  escape_within : (bytes : List ℕ) → Within bytes (closing_escape bytes)
  escape_within [] = nothing []
  escape_within (c ∷ cs) =
      within_if (c ∷ cs) (is_short c) _ _ (within_later c cs (closing cs) (closing_within cs))
      (within_if (c ∷ cs) (is_hex c) _ _ (within_later c cs (closing_digit cs) (digit_within cs)) (nothing (c ∷ cs)))

  digit_within : (bytes : List ℕ) → Within bytes (closing_digit bytes)
  digit_within [] = nothing []
  digit_within (c ∷ cs) = within_if (c ∷ cs) (is_hex c) _ _ (within_later c cs (closing cs) (closing_within cs)) (nothing (c ∷ cs))

pub string_within : (bytes : List ℕ) → string_len (closing bytes) ≤ length bytes
string_within bytes = from (closing bytes) (closing_within bytes)
  where
    from : (o : Option ℕ) → Within bytes o → string_len o ≤ length bytes
    from None h = omega arith
    from (Some n) h = omega (arith, h n refl)

pub name_within : (bytes : List ℕ) → suffix_len bytes ≤ length bytes
name_within [] = omega arith
name_within (c ∷ cs) = from (is_ascii_digit c)
  where
    from : (t : Bool) → cond t (prefix_len is_ascii_digit (c ∷ cs)) (prefix_len is_suffix (c ∷ cs)) ≤ length (c ∷ cs)
    from true = prefix_len-le-length is_ascii_digit (c ∷ cs)
    from false = prefix_len-le-length is_suffix (c ∷ cs)

-- ---- names

run_again : (p : ℕ → Bool) (w r rest : List ℕ) → prefix_len p (w ++ r) < length w → prefix_len p (w ++ rest) ≡ prefix_len p (w ++ r)
run_again p [] r rest lt = absurd (omega (arith, lt))
run_again p (c ∷ w) r rest lt = from (p c) lt (run_again p w r rest)
  where
    from : (t : Bool) → cond t (1 + prefix_len p (w ++ r)) 0 < suc (length w) → (prefix_len p (w ++ r) < length w → prefix_len p (w ++ rest) ≡ prefix_len p (w ++ r)) → cond t (1 + prefix_len p (w ++ rest)) 0 ≡ cond t (1 + prefix_len p (w ++ r)) 0
    from true lt h = ap (λ n. 1 + n) (h (omega (arith, lt)))
    from false lt h = refl

pub name_again : (w r rest : List ℕ) → suffix_len (w ++ r) < length w → suffix_len (w ++ rest) ≡ suffix_len (w ++ r)
name_again [] r rest lt = absurd (omega (arith, lt))
name_again (c ∷ w) r rest lt = from (is_ascii_digit c) lt
  where
    from : (t : Bool) → cond t (prefix_len is_ascii_digit (c ∷ w ++ r)) (prefix_len is_suffix (c ∷ w ++ r)) < suc (length w)
        → cond t (prefix_len is_ascii_digit (c ∷ w ++ rest)) (prefix_len is_suffix (c ∷ w ++ rest)) ≡ cond t (prefix_len is_ascii_digit (c ∷ w ++ r)) (prefix_len is_suffix (c ∷ w ++ r))
    from true lt = run_again is_ascii_digit (c ∷ w) r rest lt
    from false lt = run_again is_suffix (c ∷ w) r rest lt

begins_again : (b : ℕ) (w r rest : List ℕ) → 0 < length w → begins b (w ++ rest) ≡ begins b (w ++ r)
begins_again b [] r rest lt = absurd (omega (arith, lt))
begins_again b (c ∷ w) r rest lt = refl

undivided_again : (w r rest : List ℕ) → suffix_len (w ++ r) < length w
    → (is_undivided (take (suffix_len (w ++ rest)) (w ++ rest)) && not (begins 60 (drop (suffix_len (w ++ rest)) (w ++ rest))))
    ≡ (is_undivided (take (suffix_len (w ++ r)) (w ++ r)) && not (begins 60 (drop (suffix_len (w ++ r)) (w ++ r))))
undivided_again w r rest lt =
    let n = suffix_len (w ++ r) in
    let same = name_again w r rest lt in
    let le : n ≤ length w = omega (arith, lt) in
    let preceding : take n (w ++ rest) ≡ take n (w ++ r) = take-append-le n w rest le ∙ sym (take-append-le n w r le) in
    let some : 0 < length (drop n w) = omega (arith, lt, length-drop n w) in
    let trailing : begins 60 (drop n (w ++ rest)) ≡ begins 60 (drop n (w ++ r)) =
    ap (begins 60) (drop-append-le n w rest le) ∙ begins_again 60 (drop n w) r rest some ∙ ap (begins 60) (sym (drop-append-le n w r le)) in
    rw same (rw (preceding, trailing) refl)

-- ---- what begins with a byte

pub some_after : (c : ℕ) (cs : List ℕ) → is_arrow c cs ≡ true → 1 ≤ length cs
some_after c [] e = from (c == 45) e
  where
    from : (t : Bool) → (t && false) ≡ true → 1 ≤ 0
    from true e = absurd cc
    from false e = absurd cc
some_after c (d ∷ ds) e = omega arith

pub part_within : (c : ℕ) (cs : List ℕ) → part_len c cs ≤ length cs
part_within c cs = from (c == 34) (is_sign c) (is_arrow c cs) refl
  where
    from : (t u v : Bool) → is_arrow c cs ≡ v → cond t (string_len (closing cs)) (cond u (suffix_len cs) (cond v 1 0)) ≤ length cs
    from true u v e = string_within cs
    from false true v e = name_within cs
    from false false true e = some_after c cs e
    from false false false e = omega arith

-- the refusal by its tests
abbrev fault_by : Bool → Bool → Bool → Bool → Bool → Bool → Option TextRefusal
fault_by closes is_string closed alias simple left_out =
    cond closes (Some Unexpected) (cond is_string (cond closed None (Some BadToken)) (cond alias (Some LeftOut) (cond simple None (cond left_out (Some LeftOut) (Some BadToken)))))

strings : (w r rest : List ℕ) (n a b a' b' x : Bool) (o : Option ℕ) → closing (w ++ r) ≡ o → fault_by n true (is_closed o) a b x ≡ None → string_len o < length w
    → (fault_by n true (is_closed (closing (w ++ rest))) a' b' x ≡ None) × (string_len (closing (w ++ rest)) ≡ string_len o)
strings w r rest true a b a' b' x o h e lt = absurd cc
strings w r rest false a b a' b' x None h e lt = absurd cc
strings w r rest false a b a' b' x (Some k) h e lt = rw (closing_again w r rest k h (omega (arith, lt))) (refl, refl)

pub part_again : (c : ℕ) (w r rest : List ℕ) → fault_of c (w ++ r) ≡ None → part_len c (w ++ r) < length w → (fault_of c (w ++ rest) ≡ None) × (part_len c (w ++ rest) ≡ part_len c (w ++ r))
part_again c [] r rest e lt = absurd (omega (arith, lt))
part_again c (d ∷ ws) r rest e lt = same c (d ∷ ws) r rest (is_printable c || is_blank c) (is_plain c (d ∷ ws)) (is_arrow c (d ∷ ws)) (c == 34) (is_sign c) refl e lt
  where
    same : (c : ℕ) (w r rest : List ℕ) (other simple arrow t s : Bool) → is_sign c ≡ s → fault_by (closes_nearest c) t (is_closed (closing (w ++ r))) (is_alias c (w ++ r)) simple other ≡ None
        → cond t (string_len (closing (w ++ r))) (cond s (suffix_len (w ++ r)) (cond arrow 1 0)) < length w
        → (fault_by (closes_nearest c) t (is_closed (closing (w ++ rest))) (is_alias c (w ++ rest)) simple other ≡ None)
        × (cond t (string_len (closing (w ++ rest))) (cond s (suffix_len (w ++ rest)) (cond arrow 1 0)) ≡ cond t (string_len (closing (w ++ r))) (cond s (suffix_len (w ++ r)) (cond arrow 1 0)))
    same c w r rest other simple arrow true s h e lt = strings w r rest (closes_nearest c) (is_alias c (w ++ r)) simple (is_alias c (w ++ rest)) simple other (closing (w ++ r)) refl e lt
    same c w r rest other simple arrow false true h e lt =
        let alias : is_alias c (w ++ rest) ≡ is_alias c (w ++ r) = ap (λ b. is_sign c && b) (undivided_again w r rest lt) in
        (ap (λ b. fault_by (closes_nearest c) false false b simple other) alias ∙ e, name_again w r rest lt)
    same c w r rest other simple arrow false false h e lt =
        let alias : is_alias c (w ++ rest) ≡ is_alias c (w ++ r) = rw h refl in
        (ap (λ b. fault_by (closes_nearest c) false false b simple other) alias ∙ e, refl)
