-- The printed text of a pattern reads as the pattern.
use Rattle.std.proofs.Common.{◌≡◌, ◌∙◌, ℕ, zero, suc, ◌≤◌, Bool, true, List, [], ◌∷◌, ◌++◌, codes, length, append_assoc, append-nil, Some, refl, sym, ap, subst, arith, ◌⊎◌, inl, inr}
use Rattle.ir_text_tokens.specs.declared.token.Mark.{Mark}
use Rattle.ir_text_tokens.specs.declared.token.Mark.TheVariants.{OpenRound, CloseRound, Greater, Comma, Equal, Colon, End}
use Rattle.ir_text_tokens.specs.Bytes.{is_suffix}
use Rattle.ir_text_tokens.specs.Printing.{Stops}
use Rattle.ir_text_tokens.specs.Tokens.{mark, bare, next}
use Rattle.ir_text_tokens.proofs.Printed.{blank_passed, bare_token, mark_token}
use Rattle.ir_text_types.specs.Grammars.{Grammar, Not, IsMark, IsMore}
use Rattle.ir_text_types.specs.Marks.{mark_code}
use Rattle.ir_text_types.specs.Typed.{Text}
use Rattle.user_patterns_text.specs.Syntax.{Number, numbers_of, number_list, Constraint, narrower, asking, Pattern}
use Rattle.user_patterns_text.specs.Heads.{is_type_word}
use Rattle.user_patterns_text.specs.Grammar.{most, old_depth, new_depth, IsType, IsNumber, IsConditionOf, IsCondition, IsRequestedAtEnd, IsPattern}
use Rattle.user_patterns_text.specs.Printing.{show_term, show_numbers, show_words, show_condition, show_conditions, show_where, text_of, IsName, AreTypes, FitsCondition, FitConditions, IsPrintable, IsReadAgain}
use Rattle.user_patterns_text.proofs.Rendered.{pattern_exact}
use Rattle.user_patterns_text.proofs.Shown.{Tail, code_at, not_mark, word_rendered, list_rendered}
use Rattle.user_patterns_text.proofs.TermLaws.{TermEnds, old_rendered, new_rendered}
use Rattle.user_patterns_text.proofs.Printable.{list_once}

-- ---- types that are listed

words_stop : (ws : List (List ℕ)) (rest : Text) → Stops is_suffix (show_words ws rest)
words_stop [] rest = refl
words_stop (w ∷ ws) rest = refl

type_rendered : (w start mid : Text) → IsName w × (is_type_word w ≡ true) → next start ≡ next (w ++ mid) → Stops is_suffix mid → IsType w start mid
type_rendered w start mid f same s = (w, mid, word_rendered w start mid f.0 same s, (f.1, refl, refl))

types_tail : (ws : List (List ℕ)) (headroom : ℕ) (items : List (List ℕ)) → AreTypes ws → length ws ≤ headroom → (rest : Text) → Tail IsType headroom items (items ++ ws) (show_words ws rest) rest
unfolding IsMore
types_tail [] headroom items f le rest = inl (mark_token CloseRound rest tt, append-nil items)
types_tail (w ∷ ws) zero items f le rest = absurd (omega (arith, le))
types_tail (w ∷ ws) (suc headroom) items f le rest =
    let inside = w ++ show_words ws rest in
    inr (
      not_mark Comma CloseRound (44 ∷ 32 ∷ inside) (32 ∷ inside) (mark_token Comma (32 ∷ inside) tt) (λ q. absurd (omega (arith, q))),
      32 ∷ inside,
      mark_token Comma (32 ∷ inside) tt,
      (
        w,
        show_words ws rest,
        type_rendered w (32 ∷ inside) (show_words ws rest) f.0 (blank_passed 32 inside refl) (words_stop ws rest),
        subst (λ (ys : List (List ℕ)). Tail IsType headroom (items ++ w ∷ []) ys (show_words ws rest) rest) (append_assoc items (w ∷ []) ws)
            (types_tail ws headroom (items ++ w ∷ []) f.1 (omega (arith, le)) rest),
      ),
    )

types_listed : (w : List ℕ) (ws : List (List ℕ)) (headroom : ℕ) → AreTypes (w ∷ ws) → length (w ∷ ws) ≤ headroom → (rest : Text)
    → IsMore IsMark CloseRound (λ before. IsType) headroom [] (w ∷ ws) (w ++ show_words ws rest) rest
unfolding IsMore
types_listed w ws zero f le rest = absurd (omega (arith, le))
types_listed w ws (suc headroom) f le rest =
    (w, show_words ws rest, type_rendered w (w ++ show_words ws rest) (show_words ws rest) f.0 refl (words_stop ws rest), types_tail ws headroom (w ∷ []) f.1 (omega (arith, le)) rest)

-- ---- conditions

condition_rendered : (c : Constraint) → FitsCondition c → (start rest : Text) → next start ≡ next (show_condition c rest) → IsCondition c start rest
condition_rendered (narrower []) f start rest same = absurd f
condition_rendered (narrower (w ∷ ws)) f start rest same =
    let inside = w ++ show_words ws rest in (
      codes "narrower",
      40 ∷ inside,
      word_rendered (codes "narrower") start (40 ∷ inside) (refl, refl) same refl,
      (inside, mark_token OpenRound inside tt, (w ∷ ws, rest, types_listed w ws most f.0 f.1 rest, (refl, refl))),
    )
condition_rendered (asking w ns) f start rest same =
    let inside = show_numbers (numbers_of ns) rest in
    let listed =
    subst (λ (ms : List Number). IsMore IsMark CloseRound (λ before. IsNumber new_depth) most [] ms inside rest) (list_once ns)
    (list_rendered (numbers_of ns) new_depth most f.2 (subst (λ (ms : List Number). length ms ≤ most) (sym (list_once ns)) f.3) inside rest refl) in (
      w,
      40 ∷ inside,
      word_rendered w start (40 ∷ inside) f.0 same refl,
      (
        inside,
        mark_token OpenRound inside tt,
        subst (λ (b : Bool). IsConditionOf b w (asking w ns) inside rest) (sym f.1) (ns, rest, listed, (refl, refl)),
      ),
    )

end_token : IsMark End [] []
end_token = mark_token End [] refl

abbrev EndTail : ℕ → List Constraint → Grammar Text (List Constraint)
EndTail headroom items ys mid new =
    (IsMark End mid new × (ys ≡ items))
    ⊎ (Not IsMark End mid × (next : Text) × IsMark Comma mid next × IsMore IsMark End (λ before. IsCondition) headroom items ys next new)

conditions_tail : (cs : List Constraint) (headroom : ℕ) (items : List Constraint) → FitConditions cs → length cs ≤ headroom → EndTail headroom items (items ++ cs) (show_conditions cs) []
unfolding IsMore
conditions_tail [] headroom items f le = inl (end_token, append-nil items)
conditions_tail (c ∷ cs) zero items f le = absurd (omega (arith, le))
conditions_tail (c ∷ cs) (suc headroom) items f le =
    let inside = show_condition c (show_conditions cs) in
    inr (
      not_mark Comma End (44 ∷ 32 ∷ inside) (32 ∷ inside) (mark_token Comma (32 ∷ inside) tt) (λ q. absurd (omega (arith, q))),
      32 ∷ inside,
      mark_token Comma (32 ∷ inside) tt,
      (
        c,
        show_conditions cs,
        condition_rendered c f.0 (32 ∷ inside) (show_conditions cs) (blank_passed 32 inside refl),
        subst (λ (ys : List Constraint). EndTail headroom (items ++ c ∷ []) ys (show_conditions cs) []) (append_assoc items (c ∷ []) cs)
            (conditions_tail cs headroom (items ++ c ∷ []) f.1 (omega (arith, le))),
      ),
    )

conditions_listed : (c : Constraint) (cs : List Constraint) (headroom : ℕ) → FitConditions (c ∷ cs) → length (c ∷ cs) ≤ headroom → (start : Text) → next start ≡ next (show_condition c (show_conditions cs))
    → IsMore IsMark End (λ before. IsCondition) headroom [] (c ∷ cs) start []
unfolding IsMore
conditions_listed c cs zero f le start same = absurd (omega (arith, le))
conditions_listed c cs (suc headroom) f le start same =
    (c, show_conditions cs, condition_rendered c f.0 start (show_conditions cs) same, conditions_tail cs headroom (c ∷ []) f.1 (omega (arith, le)))

-- a text that begins with a word doesn't have a mark next
word_no_mark : (k : Mark) (bytes w rest : Text) → next bytes ≡ Some (bare w, rest) → (201 ≡ mark_code k → ⊥) → Not IsMark k bytes
word_no_mark k bytes w rest is other = λ new t. other (ap code_at (sym is ∙ t))

where_token : (inside : Text) → next (32 ∷ (codes "where" ++ (32 ∷ inside))) ≡ Some (bare (codes "where"), 32 ∷ inside)
where_token inside = blank_passed 32 (codes "where" ++ (32 ∷ inside)) refl ∙ bare_token (codes "where") (32 ∷ inside) refl refl

where_rendered : (cs : List Constraint) → FitConditions cs → length cs ≤ most → IsRequestedAtEnd cs (show_where cs) []
where_rendered [] f le = inl ([], end_token, (refl, refl))
where_rendered (c ∷ cs) f le =
    let inside = show_condition c (show_conditions cs) in
    let start = 32 ∷ (codes "where" ++ (32 ∷ inside)) in
    inr (
      word_no_mark End start (codes "where") (32 ∷ inside) (where_token inside) (λ q. absurd (omega (arith, q))),
      (
        codes "where",
        32 ∷ inside,
        word_rendered (codes "where") start (32 ∷ inside) (refl, refl) (blank_passed 32 (codes "where" ++ (32 ∷ inside)) refl) refl,
        (refl, conditions_listed c cs most f le (32 ∷ inside) (blank_passed 32 inside refl)),
      ),
    )

-- ---- a pattern

where_ends : (cs : List Constraint) → TermEnds (show_where cs)
where_ends [] =
    record {
      ends = record { stops = tt; round = not_mark End OpenRound [] [] end_token (λ q. absurd (omega (arith, q))) };
      colon = not_mark End Colon [] [] end_token (λ q. absurd (omega (arith, q)));
    }
where_ends (c ∷ cs) =
    let inside = show_condition c (show_conditions cs) in
    let start = 32 ∷ (codes "where" ++ (32 ∷ inside)) in
    record {
      ends = record { stops = refl; round = word_no_mark OpenRound start (codes "where") (32 ∷ inside) (where_token inside) (λ q. absurd (omega (arith, q))) };
      colon = word_no_mark Colon start (codes "where") (32 ∷ inside) (where_token inside) (λ q. absurd (omega (arith, q)));
    }

equal_token : (rest : Text) → next (32 ∷ 61 ∷ rest) ≡ Some (mark Equal, rest)
equal_token rest = blank_passed 32 (61 ∷ rest) refl ∙ mark_token Equal rest tt

equal_ends : (rest : Text) → TermEnds (32 ∷ 61 ∷ rest)
equal_ends rest =
    record {
      ends = record { stops = refl; round = not_mark Equal OpenRound (32 ∷ 61 ∷ rest) rest (equal_token rest) (λ q. absurd (omega (arith, q))) };
      colon = not_mark Equal Colon (32 ∷ 61 ∷ rest) rest (equal_token rest) (λ q. absurd (omega (arith, q)));
    }

pattern_rendered : (p : Pattern) → IsPrintable p → IsPattern p (text_of p) []
pattern_rendered p f =
    let end = show_where p.conditions in
    let new = show_term p.new end in
    let arrow = 32 ∷ 61 ∷ 62 ∷ 32 ∷ new in
    let old = show_term p.old arrow in (
      p.name,
      32 ∷ old,
      word_rendered p.name (text_of p) (32 ∷ old) f.0 refl refl,
      (
        p.old,
        arrow,
        old_rendered p.old old_depth f.1 (32 ∷ old) arrow (blank_passed 32 old refl) (equal_ends (62 ∷ 32 ∷ new)),
        (
          f.2,
          (
            62 ∷ 32 ∷ new,
            equal_token (62 ∷ 32 ∷ new),
            (
              32 ∷ new,
              mark_token Greater (32 ∷ new) tt,
              (
                p.new,
                end,
                new_rendered p.new new_depth f.3 (32 ∷ new) end (blank_passed 32 new refl) (where_ends p.conditions),
                (p.conditions, [], where_rendered p.conditions f.4 f.5, (refl, refl)),
              ),
            ),
          ),
        ),
      ),
    )

pub read_again : IsReadAgain
read_again p f = pattern_exact.only (text_of p) [] p (pattern_rendered p f)
