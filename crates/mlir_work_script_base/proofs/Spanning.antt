-- Proofs about splitting a text line by line.
use Rattle.std.proofs.Common.{◌≡◌, ◌∙◌, refl, sym, ap, ℕ, zero, suc, ◌+◌, ◌-◌, ◌<◌, ◌≤◌, Bool, true, false, cond, List, [], ◌∷◌, ◌++◌, length, take, drop, append_assoc, arith}
use Rattle.std.specs.Prelude.{◌==◌, slice_index}
use Rattle.std.proofs.lemmas.List.{append-nil, length-append, take_rest}
use Rattle.mlir_work_script_base.specs.Lines.{is_newline, after_line}
use Rattle.mlir_work_script_base.specs.Parts.{at_divider, module_from, script_from}

-- a line with its line feed, and the text after it
pub record Spans (bs line : List ℕ) : Type 0 where
  pub whole : bs ≡ line ++ after_line bs
  pub module_text : module_from false bs ≡ line ++ module_from true (after_line bs)
  pub script_text : script_from false bs ≡ script_from true (after_line bs)

abbrev Spanned : Bool → ℕ → List ℕ → Type 0
Spanned t b bs = (line : List ℕ) × (b ∷ bs ≡ line ++ cond t bs (after_line bs)) × (b ∷ module_from t bs ≡ line ++ module_from true (cond t bs (after_line bs))) × (script_from t bs ≡ script_from true (cond t bs (after_line bs)))

spanned : (t : Bool) (b : ℕ) (bs line : List ℕ) → Spans bs line → Spanned t b bs
spanned true b bs line h = (b ∷ [], refl, refl, refl)
spanned false b bs line h = (b ∷ line, ap (λ l. b ∷ l) h.whole, ap (λ l. b ∷ l) h.module_text, h.script_text)

spans : (bs : List ℕ) → (line : List ℕ) × Spans bs line
spans [] = ([], record { whole = refl; module_text = refl; script_text = refl })
spans (b ∷ bs) =
    let h = spans bs in
    let s = spanned (is_newline b) b bs h.0 h.1 in
    (s.0, record { whole = s.1; module_text = s.2; script_text = s.3 })

undivided : (bs : List ℕ) → at_divider bs ≡ false → (module_from true bs ≡ module_from false bs) × (script_from true bs ≡ script_from false bs)
undivided [] e = (refl, refl)
undivided (b ∷ bs) e = (rw e refl, rw e refl)

pub take_preceding : (preceding back : List ℕ) → take (length preceding) (preceding ++ back) ≡ preceding
take_preceding [] back = refl
take_preceding (b ∷ preceding) back = ap (λ l. b ∷ l) (take_preceding preceding back)

-- the text before a suffix
pub preceding_is : (input preceding back : List ℕ) → preceding ++ back ≡ input → take (length input - length back) input ≡ preceding
preceding_is input preceding back e =
    let n : length input - length back ≡ length preceding = rw (← e) (omega (arith, length-append preceding back)) in
    rw n (rw (← e) (take_preceding preceding back))

-- no line before `rest` is the divider
pub record Passed (input rest : List ℕ) : Type 0 where
  pub whole : take (length input - length rest) input ++ rest ≡ input
  pub module_text : take (length input - length rest) input ++ module_from true rest ≡ module_from true input
  pub script_text : script_from true rest ≡ script_from true input

pub begins : (input : List ℕ) → Passed input input
begins input =
    let e = preceding_is input [] input refl in
    record { whole = rw e refl; module_text = rw e refl; script_text = refl }

pub passes : (input rest : List ℕ) → at_divider rest ≡ false → Passed input rest → Passed input (after_line rest)
passes input rest e h =
    let l = spans rest in
    let preceding = take (length input - length rest) input in
    let u = undivided rest e in
    let w : (preceding ++ l.0) ++ after_line rest ≡ input = append_assoc preceding l.0 (after_line rest) ∙ ap (λ r. preceding ++ r) (sym l.1.whole) ∙ h.whole in
    let f = preceding_is input (preceding ++ l.0) (after_line rest) w in
    record {
      whole = rw f w;
      module_text = rw f (append_assoc preceding l.0 (module_from true (after_line rest)) ∙ ap (λ r. preceding ++ r) (sym (u.0 ∙ l.1.module_text)) ∙ h.module_text);
      script_text = sym (u.1 ∙ l.1.script_text) ∙ h.script_text;
    }

divided_here : (bs : List ℕ) → at_divider bs ≡ true → (module_from true bs ≡ []) × (script_from true bs ≡ after_line bs)
divided_here [] e = (refl, refl)
divided_here (b ∷ bs) e = (rw e refl, rw e refl)

-- the text at the divider
pub ends_module : (input rest : List ℕ) → at_divider rest ≡ true → Passed input rest → take (length input - length rest) input ≡ module_from true input
ends_module input rest e h = sym (append-nil (take (length input - length rest) input)) ∙ ap (λ m. take (length input - length rest) input ++ m) (sym (divided_here rest e).0) ∙ h.module_text

pub begins_script : (input rest : List ℕ) → at_divider rest ≡ true → Passed input rest → after_line rest ≡ script_from true input
begins_script input rest e h = sym (divided_here rest e).1 ∙ h.script_text

pub no_longer : (input rest : List ℕ) → Passed input rest → length rest ≤ length input
no_longer input rest h = omega (arith, ap length h.whole, length-append (take (length input - length rest) input) rest)

most_if : (t : Bool) (b : ℕ) (bs : List ℕ) → length (after_line bs) ≤ length bs → length (cond t bs (after_line bs)) < length (b ∷ bs)
most_if true b bs h = omega arith
most_if false b bs h = omega (arith, h)

after_most : (bs : List ℕ) → length (after_line bs) ≤ length bs
after_most [] = omega arith
after_most (b ∷ bs) = omega (arith, most_if (is_newline b) b bs (after_most bs))

-- the text after a line is shorter
pub shorter : (bs : List ℕ) → 0 < length bs → length (after_line bs) < length bs
shorter [] lt = absurd (omega (arith, lt))
shorter (b ∷ bs) lt = most_if (is_newline b) b bs (after_most bs)

pub not_none : (n : ℕ) → (n == 0) ≡ false → 0 < n
not_none zero e = absurd (cc)
not_none (suc n) e = omega arith

-- ---- the first line feed

nothing_dropped : (bs : List ℕ) (m : ℕ) → m ≡ 0 → drop m bs ≡ bs
nothing_dropped bs m e = rw e refl

found : (bs : List ℕ) (n m : ℕ) → m ≡ n + 1 → n < length bs → ((k : ℕ) → k < n → (slice_index bs k == 10) ≡ true → ⊥) → (slice_index bs n == 10) ≡ true → drop m bs ≡ after_line bs
found [] n m s lt none e = absurd (omega (arith, lt))
found (b ∷ bs) n zero s lt none e = absurd (omega (arith, s))
found (b ∷ bs) zero (suc m) s lt none e = rw e (nothing_dropped bs m (omega (arith, s)))
found (b ∷ bs) (suc n) (suc m) s lt none e =
    (elim (b == 10) as (λ t. (b == 10) ≡ t → drop m bs ≡ cond t bs (after_line bs)) [
      | true ↦ λ f. absurd (none 0 (omega arith) f)
      | false ↦ λ f. found bs n m (omega (arith, s)) (omega (arith, lt)) (λ k below. none (suc k) (omega (arith, below))) e
    ]) refl

pub after_found : (bs : List ℕ) (n : ℕ) → n < length bs → ((k : ℕ) → k < n → (slice_index bs k == 10) ≡ true → ⊥) → (slice_index bs n == 10) ≡ true → take (length bs - (n + 1)) (drop (n + 1) bs) ≡ after_line bs
after_found bs n lt none e = take_rest bs (n + 1) ∙ found bs n (n + 1) refl lt none e

pub after_none : (bs : List ℕ) → ((k : ℕ) → k < length bs → (slice_index bs k == 10) ≡ true → ⊥) → [] ≡ after_line bs
after_none [] none = refl
after_none (b ∷ bs) none =
    (elim (b == 10) as (λ t. (b == 10) ≡ t → [] ≡ cond t bs (after_line bs)) [
      | true ↦ λ f. absurd (none 0 (omega arith) f)
      | false ↦ λ f. after_none bs (λ k below. none (suc k) (omega (arith, below)))
    ]) refl
