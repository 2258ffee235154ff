-- One step of the definitions after the last operation.
use Rattle.std.proofs.Common.{◌≡◌, ℕ, zero, suc, ◌-◌, ◌<◌, ◌≤◌, Bool, true, false, cond, List, [], ◌∷◌, length, drop, Option, Some, None, refl, sym, ap, ◌∙◌, arith}
use Rattle.std.specs.Prelude.{◌==◌, ◌&&◌, Ok, Err}
use Rattle.std.specs.Result.{result_err}
use Rattle.ir_text_tokens.specs.declared.refusal.TextRefusal.TheVariants.{LeftOut, Redefined}
use Rattle.ir_text_tokens.specs.declared.fault.Fault.{Fault}
use Rattle.ir_text_aliases.specs.Lexemes.{is_gap, name_of, lexeme_len}
use Rattle.ir_text_aliases.specs.Places.{trailing_loc, located, place_len}
use Rattle.ir_text_aliases.specs.Uses.{Aliases, begins_loc}
use Rattle.ir_text_aliases.specs.Values.{definition_at}
use Rattle.ir_text_aliases.specs.Walk.{fault_at}
use Rattle.ir_text_aliases.proofs.Parted.{lexeme_within}
use Rattle.ir_text_aliases.proofs.Tails.{IsTail, dropped, is_drop, place_tail, shorter, within}
use Rattle.ir_text_modules.specs.Definitions.{is_known, with_alias}
use Rattle.ir_text_modules.specs.Endings.{ending, ending_of, ending_value, endings, unless}
use Rattle.ir_text_modules.proofs.Parts.{definition_tail}

-- ---- the rest of the text

value_tail : (env : Aliases) (c : ℕ) (cs value r : List ℕ) → ending_value env c cs value ≡ Ok r → IsTail value r
value_tail env c cs value r e = from (c == 35 && begins_loc value) (is_known (name_of c cs) env) e
  where
    from : (t u : Bool) → cond t (cond u (Err (fault_at (c ∷ cs) Redefined)) (located (trailing_loc (drop 1 value)))) (Err (fault_at (c ∷ cs) LeftOut)) ≡ Ok r → IsTail value r
    from true false k = within value (drop 1 value) r (dropped 1 value) (place_tail (drop 1 value) r k)
    from true true k = absurd cc
    from false u k = absurd cc

pub ending_tail : (env : Aliases) (c : ℕ) (cs r : List ℕ) → ending env c cs ≡ Ok r → IsTail cs r
ending_tail env c cs r e = from (definition_at c cs) refl e
  where
    from : (o : Option (List ℕ)) → definition_at c cs ≡ o → ending_of env c cs o ≡ Ok r → IsTail cs r
    from None d k = absurd cc
    from (Some value) d k = within cs value r (definition_tail c cs value d) (value_tail env c cs value r k)

-- ---- the walk

passed : (env : Aliases) (n : ℕ) (cs : List ℕ) → n ≤ length cs → endings env n cs ≡ endings env 0 (drop n cs)
unfolding endings
passed env zero cs le = refl
passed env (suc n) [] le = absurd (omega (arith, le))
passed env (suc n) (c ∷ cs) le = passed env n cs (omega (arith, le))

gap : (env : Aliases) (c : ℕ) (cs : List ℕ) → is_gap c cs ≡ true → endings env 0 (c ∷ cs) ≡ endings env (lexeme_len c cs) cs
unfolding endings
gap env c cs e = rw e refl

other : (env : Aliases) (c : ℕ) (cs : List ℕ) → is_gap c cs ≡ false
    → endings env 0 (c ∷ cs) ≡ unless (result_err (ending env c cs)) (endings (with_alias (name_of c cs) 0 0 env) (place_len (ending env c cs) cs) cs)
unfolding endings
other env c cs e = rw e refl

pub gap_step : (env : Aliases) (c : ℕ) (all tail rest : List ℕ) → all ≡ c ∷ tail → is_gap c tail ≡ true → rest ≡ drop (lexeme_len c tail) tail → endings env 0 all ≡ endings env 0 rest
gap_step env c all tail rest a g r = ap (endings env 0) a ∙ gap env c tail g ∙ passed env (lexeme_len c tail) tail (lexeme_within c tail) ∙ ap (endings env 0) (sym r)

pub more_step : (env more : Aliases) (c : ℕ) (all tail rest name : List ℕ) → all ≡ c ∷ tail → is_gap c tail ≡ false → Ok rest ≡ ending env c tail → name ≡ name_of c tail → more ≡ with_alias name 0 0 env → endings env 0 all ≡ endings more 0 rest
more_step env more c all tail rest name a g e n m =
    ap (endings env 0) a ∙ other env c tail g
    ∙ ap (λ x. unless (result_err x) (endings (with_alias (name_of c tail) 0 0 env) (place_len x tail) tail)) (sym e)
    ∙ passed (with_alias (name_of c tail) 0 0 env) (length tail - length rest) tail (omega arith)
    ∙ (λ i. endings (sym (m ∙ ap (λ name. with_alias name 0 0 env) n) i) 0 (sym (is_drop tail rest (ending_tail env c tail rest (sym e))) i))

pub more_shorter : (env : Aliases) (c : ℕ) (tail rest : List ℕ) → Ok rest ≡ ending env c tail → length rest ≤ length tail
more_shorter env c tail rest e = shorter tail rest (ending_tail env c tail rest (sym e))

pub fault_step : (env : Aliases) (c : ℕ) (all tail : List ℕ) (f : Fault) → all ≡ c ∷ tail → is_gap c tail ≡ false → Err f ≡ ending env c tail → endings env 0 all ≡ Some f
fault_step env c all tail f a g e =
    ap (endings env 0) a ∙ other env c tail g ∙ ap (λ x. unless (result_err x) (endings (with_alias (name_of c tail) 0 0 env) (place_len x tail) tail)) (sym e)

pub all_read : (env : Aliases) (rest : List ℕ) → length rest < 1 → endings env 0 rest ≡ None
unfolding endings
all_read env [] lt = refl
all_read env (c ∷ cs) lt = absurd (omega (arith, lt))
