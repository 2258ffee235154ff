-- One step of the definitions.
use Rattle.std.proofs.Common.{◌≡◌, ℕ, zero, suc, ◌-◌, ◌<◌, ◌≤◌, true, false, List, [], ◌∷◌, length, drop, Some, None, refl, sym, ap, ◌∙◌, arith}
use Rattle.std.specs.Prelude.{Ok, Err, if◌then◌else◌}
use Rattle.std.specs.Result.{result_err}
use Rattle.std.proofs.lemmas.List.{length-drop}
use Rattle.ir_text_tokens.specs.declared.fault.Fault.{Fault}
use Rattle.ir_text_aliases.specs.Lexemes.{is_gap, name_of, lexeme_len}
use Rattle.ir_text_aliases.specs.Uses.{Aliases}
use Rattle.ir_text_aliases.specs.Values.{definition_at, is_defined}
use Rattle.ir_text_aliases.proofs.Parted.{lexeme_within}
use Rattle.ir_text_aliases.proofs.Tails.{IsTail, is_drop, shorter, within}
use Rattle.ir_text_modules.specs.Definitions.{Value, defined, definitions, more_aliases, more_values, rest_of, unless, value_here, value_in, value_of_name, with_alias}
use Rattle.ir_text_modules.specs.Steps.{Adds}
use Rattle.ir_text_modules.proofs.Parts.{definition_tail, named_tail}

passed : (values : List ℕ) (env : Aliases) (trailing : List ℕ) (n : ℕ) (cs : List ℕ) → n ≤ length cs → definitions values env trailing n cs ≡ definitions values env trailing 0 (drop n cs)
unfolding definitions
passed values env trailing zero cs le = refl
passed values env trailing (suc n) [] le = absurd (omega (arith, le))
passed values env trailing (suc n) (c ∷ cs) le = passed values env trailing n cs (omega (arith, le))

module _ (values : List ℕ) (env : Aliases) (trailing : List ℕ) where
  gap : (c : ℕ) (cs : List ℕ) → is_gap c cs ≡ true → definitions values env trailing 0 (c ∷ cs) ≡ definitions values env trailing (lexeme_len c cs) cs
  unfolding definitions
  gap c cs e = rw e refl

  none : (c : ℕ) (cs : List ℕ) → is_gap c cs ≡ false → definition_at c cs ≡ None → definitions values env trailing 0 (c ∷ cs) ≡ defined values env trailing None
  unfolding definitions
  none c cs e d = rw (e, d) refl

  some : (c : ℕ) (cs value : List ℕ) (v : Value) → is_gap c cs ≡ false → definition_at c cs ≡ Some value → value_of_name values env (name_of c cs) (c ∷ cs) value ≡ v
      → definitions values env trailing 0 (c ∷ cs) ≡ unless (result_err v) values env (c ∷ cs) (definitions (more_values values v) (more_aliases values env c cs v) (rest_of v) (length cs - length (rest_of v)) cs)
  unfolding definitions
  some c cs value v e d k =
      let here : value_here values env c cs ≡ v = ap (λ o. value_of_name values env (name_of c cs) (c ∷ cs) (value_in o)) d ∙ k in
      rw e (ap (λ o. if is_defined o then unless (result_err (value_here values env c cs)) values env (c ∷ cs) (definitions (more_values values (value_here values env c cs)) (more_aliases values env c cs (value_here values env c cs)) (rest_of (value_here values env c cs)) (length cs - length (rest_of (value_here values env c cs))) cs) else defined values env trailing None) d
      ∙ ap (λ v. unless (result_err v) values env (c ∷ cs) (definitions (more_values values v) (more_aliases values env c cs v) (rest_of v) (length cs - length (rest_of v)) cs)) here)

  -- ---- for a text from a byte on

  pub gap_step : (c : ℕ) (all tail rest : List ℕ) → all ≡ c ∷ tail → is_gap c tail ≡ true → rest ≡ drop (lexeme_len c tail) tail → definitions values env trailing 0 all ≡ definitions values env trailing 0 rest
  gap_step c all tail rest a g r =
      ap (definitions values env trailing 0) a ∙ gap c tail g ∙ passed values env trailing (lexeme_len c tail) tail (lexeme_within c tail) ∙ ap (definitions values env trailing 0) (sym r)

  pub end_step : (c : ℕ) (all tail : List ℕ) → all ≡ c ∷ tail → is_gap c tail ≡ false → definition_at c tail ≡ None → definitions values env trailing 0 all ≡ defined values env trailing None
  end_step c all tail a g d = ap (definitions values env trailing 0) a ∙ none c tail g d

  named : (c : ℕ) (all tail name value : List ℕ) → all ≡ c ∷ tail → name ≡ name_of c tail → value_of_name values env (name_of c tail) (c ∷ tail) value ≡ value_of_name values env name all value
  named c all tail name value a n = λ i. value_of_name values env (sym n i) (sym a i) value

  pub fault_step : (c : ℕ) (all tail name value new : List ℕ) (more : Aliases) (f : Fault) → all ≡ c ∷ tail → is_gap c tail ≡ false → definition_at c tail ≡ Some value → name ≡ name_of c tail
      → (value_of_name values env name all value ≡ Err f) × (new ≡ values) × (more ≡ env) → definitions values env trailing 0 all ≡ defined new more all (Some f)
  fault_step c all tail name value new more f a g d n h =
      ap (definitions values env trailing 0) a ∙ some c tail value (Err f) g d (named c all tail name value a n ∙ h.0)
      ∙ (λ i. defined (sym h.1 i) (sym h.2 i) (sym a i) (Some f))

  pub more_step : (c : ℕ) (all tail name value rest new : List ℕ) (more : Aliases) → all ≡ c ∷ tail → is_gap c tail ≡ false → definition_at c tail ≡ Some value → name ≡ name_of c tail
      → Adds name all value values env rest new more → definitions values env trailing 0 all ≡ definitions new more rest 0 rest
  more_step c all tail name value rest new more a g d n h =
      let v : Value = Ok (h.0, rest) in
      let tail_of : IsTail tail rest = within tail value rest (definition_tail c tail value d) (named_tail values env value name all h.0 rest h.1) in
      let names : more ≡ more_aliases values env c tail v = h.3 ∙ (λ i. with_alias (n i) (length values) (length (h.2 i)) env) in
      ap (definitions values env trailing 0) a ∙ some c tail value v g d (named c all tail name value a n ∙ h.1)
      ∙ passed (more_values values v) (more_aliases values env c tail v) rest (length tail - length rest) tail (omega arith)
      ∙ (λ i. definitions (sym h.2 i) (sym names i) rest 0 (sym (is_drop tail rest tail_of) i))

  pub rest_shorter : (c : ℕ) (all tail name value rest new : List ℕ) (more : Aliases) → definition_at c tail ≡ Some value → Adds name all value values env rest new more → length rest ≤ length tail
  rest_shorter c all tail name value rest new more d h = shorter tail rest (within tail value rest (definition_tail c tail value d) (named_tail values env value name all h.0 rest h.1))

pub all_read : (values : List ℕ) (env : Aliases) (trailing rest : List ℕ) → length rest < 1 → definitions values env trailing 0 rest ≡ defined values env trailing None
unfolding definitions
all_read values env trailing [] lt = refl
all_read values env trailing (c ∷ cs) lt = absurd (omega (arith, lt))

pub gap_shorter : (c : ℕ) (tail rest : List ℕ) → rest ≡ drop (lexeme_len c tail) tail → length rest ≤ length tail
gap_shorter c tail rest r = omega (arith, ap length r, length-drop (lexeme_len c tail) tail)
