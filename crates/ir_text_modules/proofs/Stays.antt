-- A text without definitions and locations is its own expansion.
use Rattle.std.proofs.Common.{◌≡◌, ℕ, zero, suc, Bool, true, false, cond, List, [], ◌∷◌, ◌++◌, length, drop, None, refl, sym, ap, ◌∙◌, append_assoc, arith}
use Rattle.std.proofs.Math.Seq.{drop-nil}
use Rattle.std.specs.Prelude.{◌&&◌, ◌||◌, nat_le}
use Rattle.std.proofs.lemmas.Bool.{leb-true}
use Rattle.std.proofs.lemmas.List.{append-nil, take-append-drop}
use Rattle.ir_text_aliases.specs.declared.scan_state.Bracket.{Bracket}
use Rattle.ir_text_aliases.specs.declared.scan_state.ScanState.{ScanState}
use Rattle.ir_text_aliases.specs.declared.scan_state.BracketContents.TheVariants.{Operations}
use Rattle.ir_text_aliases.specs.declared.mark.Mark.{Mark}
use Rattle.ir_text_aliases.specs.Scanned.{at_first, is_after, is_operations, is_outside, next_scanned, outer_after}
use Rattle.ir_text_aliases.specs.Lexemes.{is_gap, is_loc, lexeme_len, lexeme_of}
use Rattle.ir_text_aliases.specs.Places.{goes}
use Rattle.ir_text_aliases.specs.Uses.{Aliases}
use Rattle.ir_text_aliases.specs.Values.{definition_at, is_defined}
use Rattle.ir_text_aliases.specs.Walk.{ends_operations, walk, walked}
use Rattle.ir_text_modules.specs.Definitions.{defined, definitions}
use Rattle.ir_text_modules.specs.Endings.{endings}
use Rattle.ir_text_modules.specs.Expanded.{trailing, expanded, operations_part, with_end}
use Rattle.ir_text_modules.specs.Stays.{as_it_is, has_more}

-- ---- tests

neither : (a b c : Bool) → ((a || b) || c) ≡ false → (a ≡ false) × (b ≡ false) × (c ≡ false)
neither false false c e = (refl, refl, e)
neither true b c e = absurd cc
neither false true c e = absurd cc

none_of : (a b c : Bool) → ((a && b) && (c && false)) ≡ false
none_of false b c = refl
none_of true false c = refl
none_of true true false = refl
none_of true true true = refl

no_more : (n : ℕ) → nat_le (suc n) 0 ≡ false
no_more n = from (nat_le (suc n) 0) refl
  where
    from : (b : Bool) → nat_le (suc n) 0 ≡ b → b ≡ false
    from false e = refl
    from true e = absurd (omega (arith, leb-true (suc n) 0 e))

-- ---- no definition

undefined : (values : List ℕ) (env : Aliases) (last : List ℕ) (n : ℕ) (bytes : List ℕ) → has_more n bytes ≡ false → definitions values env last n bytes ≡ defined values env last None
unfolding definitions has_more
undefined values env last n [] e = refl
undefined values env last (suc n) (c ∷ cs) e = undefined values env last n cs e
undefined values env last zero (c ∷ cs) e =
    let h = neither (is_loc c cs) (is_defined (definition_at c cs)) (has_more (lexeme_len c cs) cs) e in
    rw h.1 (from (is_gap c cs) (undefined values env last (lexeme_len c cs) cs h.2))
  where
    from : (t : Bool) → definitions values env last (lexeme_len c cs) cs ≡ defined values env last None → cond t (definitions values env last (lexeme_len c cs) cs) (defined values env last None) ≡ defined values env last None
    from true h = h
    from false h = refl

-- ---- no alias and no location

goes_not : (f : ScanState) (c : ℕ) (cs : List ℕ) → is_loc c cs ≡ false → goes f c cs ≡ false
goes_not f c cs e = rw e refl

ends_not : (f : ScanState) (c : ℕ) (cs : List ℕ) → is_defined (definition_at c cs) ≡ false → ends_operations f c cs ≡ false
ends_not f c cs e = rw e (none_of (is_outside f.around.closer) (is_operations f.around.holds) (is_after f.stage))

module _ (env : Aliases) where
  one : (f : ScanState) (outer : List Bracket) (c : ℕ) (cs out : List ℕ) (marks : List Mark) → is_loc c cs ≡ false → is_defined (definition_at c cs) ≡ false
      → walk (operations_part []) [] env f outer 0 (c ∷ cs) out marks ≡ walk (operations_part []) [] env (next_scanned f outer c cs) (outer_after f outer c) (lexeme_len c cs) cs (out ++ lexeme_of c cs) (marks ++ [])
  unfolding walk
  one f outer c cs out marks l d = rw (no_more (length cs), ends_not f c cs d, goes_not f c cs l) refl

  copied : (f : ScanState) (outer : List Bracket) (n : ℕ) (bytes out : List ℕ) (marks : List Mark) → has_more n bytes ≡ false → walk (operations_part []) [] env f outer n bytes out marks ≡ walked (out ++ drop n bytes) marks [] None
  unfolding walk has_more
  copied f outer n [] out marks e = ap (λ l. walked l marks [] None) (sym (ap (λ l. out ++ l) (drop-nil n) ∙ append-nil out))
  copied f outer (suc n) (c ∷ cs) out marks e = copied f outer n cs out marks e
  copied f outer zero (c ∷ cs) out marks e =
      let h = neither (is_loc c cs) (is_defined (definition_at c cs)) (has_more (lexeme_len c cs) cs) e in
      let n = lexeme_len c cs in
      one f outer c cs out marks h.0 h.1
      ∙ copied (next_scanned f outer c cs) (outer_after f outer c) n cs (out ++ lexeme_of c cs) (marks ++ []) h.2
      ∙ (λ i. walked ((append_assoc out (lexeme_of c cs) (drop n cs) ∙ ap (λ l. out ++ c ∷ l) (take-append-drop n cs)) i) (append-nil marks i) [] None)

pub stays : (bytes : List ℕ) → has_more 0 bytes ≡ false → expanded bytes ≡ as_it_is bytes
unfolding endings
stays bytes e =
    ap (λ d. trailing d.fault d) (undefined [] [] bytes 0 bytes e)
    ∙ ap (with_end []) (copied [] (at_first Operations) [] 0 bytes [] [] e)
