-- The printed label and arguments of a block are parsed back.
use Rattle.std.proofs.Common.{◌≡◌, ◌⊎◌, ℕ, zero, suc, ◌+◌, ◌^◌, ◌<◌, ◌≤◌, Bool, true, false, List, [], ◌∷◌, ◌++◌, length, None, refl, sym, ap, subst, ◌∙◌, append_assoc, arith, inl, inr}
use Rattle.std.specs.Prelude.{codes, ◌==◌}
use Rattle.std.specs.Fmt.{decimal}
use Rattle.std.specs.List.{AllByRecursion}
use Rattle.std.proofs.lemmas.Bool.Decides.{nat_tests}
use Rattle.std.proofs.lemmas.List.{length-append}
use Rattle.ir_types.specs.Terms.{TypeTerm}
use Rattle.ir_tree.specs.declared.value.Value.{Value}
use Rattle.ir_tree.specs.declared.value.Value.TheVariants.{Arg}
use Rattle.ir_tree.specs.Sites.{Frame, arguments, in_scope}
use Rattle.ir_text_tokens.specs.declared.token.Mark.{Mark}
use Rattle.ir_text_tokens.specs.declared.token.Mark.TheVariants.{CloseRound, Comma, Colon}
use Rattle.ir_text_tokens.specs.Bytes.{is_blank}
use Rattle.ir_text_tokens.specs.Tokens.{mark, value, next as next_token}
use Rattle.ir_text_tokens.specs.Scopes.{Scopes, find, bound}
use Rattle.ir_text_tokens.proofs.Printed.{mark_token, value_token, blank_passed}
use Rattle.ir_text_types.specs.Grammars.{Not, IsMore, IsMark, Token}
use Rattle.ir_text_types.specs.TypeGrammar.{IsType}
use Rattle.ir_text_operations.specs.ParseState.{PackTerm, ParseState, state_with_rest, IsMarkToken}
use Rattle.ir_text_operations.specs.OpGrammar.{IsArg}
use Rattle.ir_text.specs.Naming.{source_of}
use Rattle.ir_text.specs.Printing.{argument_text}
use Rattle.ir_text.specs.TypeText.{type_text}
use Rattle.ir_text_modules.specs.Written.{FitsType}
use Rattle.ir_text_modules.proofs.Ahead.{space}
use Rattle.ir_text_modules.proofs.Small.{lacks_token}
use Rattle.ir_text_modules.proofs.Types.{comma_ends, round_ends, type_again, type_ahead}
use Rattle.ir_text_modules.proofs.Texts.{Names, argument_names, arguments_names, arguments_then}
use Rattle.ir_text_modules.proofs.ModuleWords.{argument_word}
use Rattle.ir_text_modules.proofs.ModuleValues.{source_id}
use Rattle.ir_text_modules.proofs.Joined.{Joined, joined_argument}
use Rattle.ir_text_modules.proofs.Preceding.{argument_name}

-- ---- blanks

abbrev pub AreBlank : List ℕ → Type 0
AreBlank margin = AllByRecursion (λ c. is_blank c ≡ true) margin

pub blanks_passed : (margin rest : List ℕ) → AreBlank margin → next_token (margin ++ rest) ≡ next_token rest
blanks_passed [] rest h = refl
blanks_passed (c ∷ cs) rest h = blank_passed c (cs ++ rest) h.0 ∙ blanks_passed cs rest h.1

pub blanks_deeper : (margin : List ℕ) → AreBlank margin → AreBlank (margin ++ codes "  ")
blanks_deeper [] h = (refl, (refl, tt))
blanks_deeper (c ∷ cs) h = (h.0, blanks_deeper cs h.1)

-- ---- punctuation marks in a state

pub mark_seen : (m : Mark) (s : ParseState) (rest : List ℕ) → Token (mark m) s.bytes rest → IsMarkToken m s (state_with_rest s rest)
mark_seen m s rest h = (rest, h, refl)

pub not_seen : (m : Mark) (s : ParseState) → Not IsMark m s.bytes → Not IsMarkToken m s
not_seen m s h = λ new k. h k.0 k.1

-- ---- one argument

abbrev pub argument_pack : ℕ → ℕ → ℕ → TypeTerm → PackTerm
argument_pack id r k t = record { value = Arg id r k; type = t } ∷ []

abbrev pub with_argument : ℕ → ℕ → ℕ → ℕ → TypeTerm → Scopes PackTerm → Scopes PackTerm
with_argument id r k m t s = bound (argument_word m) (argument_pack id r k t) s

abbrev after_argument : ℕ → ℕ → ℕ → ℕ → TypeTerm → ParseState → List ℕ → ParseState
after_argument id r k m t s rest = record { bytes = rest; scopes = with_argument id r k m t s.scopes; next = s.next }

argument_read : (o : Bool) (id r : ℕ) (before : List TypeTerm) (m : ℕ) (t : TypeTerm) (s : ParseState) (c : ℕ) (rest : List ℕ) → m < 2 ^ 128 → FitsType o 32 t → (c ≡ 44) ⊎ (c ≡ 41) → find (argument_word m) s.scopes.here ≡ None
    → next_token s.bytes ≡ next_token (argument_text m t ++ c ∷ rest) → IsArg o id r before t s (after_argument id r (length before) m t s (c ∷ rest))
argument_read o id r before m t s c rest lt fits_in ends fresh e =
    let typed = type_text t ++ c ∷ rest in
    let back = 58 ∷ 32 ∷ typed in
    let apart : argument_text m t ++ c ∷ rest ≡ 37 ∷ (argument_word m ++ back) = ap (λ (l : List ℕ). 37 ∷ 97 ∷ 114 ∷ 103 ∷ l) (append_assoc (decimal m) (58 ∷ 32 ∷ type_text t) (c ∷ rest)) in
    let name : Token (value (argument_word m)) s.bytes back = e ∙ ap next_token apart ∙ value_token (argument_word m) back (argument_name m lt) refl in
    let type : IsType o 32 t (32 ∷ typed) (c ∷ rest) = space (IsType o 32) (type_ahead o 32) t typed (c ∷ rest) (rendered c ends) in
    (argument_word m, state_with_rest s back, (back, name, refl), (state_with_rest s (32 ∷ typed), mark_seen Colon (state_with_rest s back) (32 ∷ typed) (mark_token Colon (32 ∷ typed) refl), (t, state_with_rest s (c ∷ rest), (c ∷ rest, type, refl), (with_argument id r (length before) m t s.scopes, (fresh, refl), refl, refl))))
  where
    rendered : (c : ℕ) → (c ≡ 44) ⊎ (c ≡ 41) → IsType o 32 t (type_text t ++ c ∷ rest) (c ∷ rest)
    rendered c (inl k) = subst (λ (d : ℕ). IsType o 32 t (type_text t ++ d ∷ rest) (d ∷ rest)) (sym k) (type_again o 32 (omega arith) t (44 ∷ rest) fits_in.0 fits_in.1 (comma_ends o rest))
    rendered c (inr k) = subst (λ (d : ℕ). IsType o 32 t (type_text t ++ d ∷ rest) (d ∷ rest)) (sym k) (type_again o 32 (omega arith) t (41 ∷ rest) fits_in.0 fits_in.1 (round_ends o rest))

-- ---- arguments up to the closing parenthesis

module _ (o : Bool) (f : ℕ → ℕ) (scope : List Frame) (x r : ℕ) (away : (v : Value) → in_scope scope v ≡ true → (source_id (source_of v) == x) ≡ false) where
  -- the state after the arguments from index k on
  pub record ArgumentsRead (headroom : ℕ) (preceding : List TypeTerm) (t : TypeTerm) (ts : List TypeTerm) (n : Names) (s : ParseState) (rest : List ℕ) : Type 0 where
    pub scopes : Scopes PackTerm
    pub reads : IsMore IsMarkToken CloseRound (IsArg o (f x) r) headroom preceding (preceding ++ t ∷ ts) s (record { bytes = rest; scopes = scopes; next = s.next })
    pub joined : Joined o f (scope ++ arguments x r (length preceding + length (t ∷ ts)) ∷ []) (arguments_names x r (length preceding) (t ∷ ts) n) scopes.here
    pub outer : scopes.outer ≡ s.scopes.outer

  pub arguments_more : (headroom : ℕ) (preceding : List TypeTerm) (t : TypeTerm) (ts : List TypeTerm) (n : Names) (s : ParseState) (rest : List ℕ) → Joined o f (scope ++ arguments x r (length preceding) ∷ []) n s.scopes.here → n.arguments + length (t ∷ ts) < 2 ^ 128 → AllByRecursion (FitsType o 32) (t ∷ ts) → length (t ∷ ts) ≤ headroom
      → next_token s.bytes ≡ next_token (argument_text n.arguments t ++ arguments_then (length preceding + 1) ts (n.arguments + 1) (41 ∷ rest)) → ArgumentsRead headroom preceding t ts n s rest
  unfolding IsMore
  arguments_more zero preceding t ts n s rest j small fits_in le e = absurd (omega (arith, le))
  arguments_more (suc headroom) preceding t [] n s rest j small fits_in le e =
      let k = length preceding in
      let one : k + length (t ∷ []) ≡ k + 1 = omega arith in
      record {
        scopes = with_argument (f x) r k n.arguments t s.scopes;
        reads = (t, after_argument (f x) r k n.arguments t s (41 ∷ rest), argument_read o (f x) r preceding n.arguments t s 41 rest (omega arith) fits_in.0 (inr refl) (j.fresh_arguments n.arguments (omega arith) (omega arith)) e, inl (mark_seen CloseRound (after_argument (f x) r k n.arguments t s (41 ∷ rest)) rest (mark_token CloseRound rest tt), refl));
        joined = subst (λ (i : ℕ). Joined o f (scope ++ arguments x r i ∷ []) (argument_names x r k t n) (with_argument (f x) r k n.arguments t s.scopes).here) (sym one) (joined_argument o f scope n s.scopes.here x r k t away j (omega arith) fits_in.0);
        outer = refl;
      }
  arguments_more (suc headroom) preceding t (u ∷ us) n s rest j small fits_in le e =
      let k = length preceding in
      let preceding' = preceding ++ t ∷ [] in
      let grown : length preceding' ≡ k + 1 = length-append preceding (t ∷ []) ∙ omega arith in
      let no_first : (k + 1 == 0) ≡ false = grind (arith, nat_tests) in
      let trailing = argument_text (n.arguments + 1) u ++ arguments_then (k + 1 + 1) us (n.arguments + 1 + 1) (41 ∷ rest) in
      let comma : arguments_then (k + 1) (u ∷ us) (n.arguments + 1) (41 ∷ rest) ≡ 44 ∷ 32 ∷ trailing = rw no_first refl in
      let here = e ∙ ap (λ (l : List ℕ). next_token (argument_text n.arguments t ++ l)) comma in
      let mid = after_argument (f x) r k n.arguments t s (44 ∷ 32 ∷ trailing) in
      let after = state_with_rest mid (32 ∷ trailing) in
      let first = argument_read o (f x) r preceding n.arguments t s 44 (32 ∷ trailing) (omega arith) fits_in.0 (inl refl) (j.fresh_arguments n.arguments (omega arith) (omega arith)) here in
      let names = argument_names x r k t n in
      let there = joined_argument o f scope n s.scopes.here x r k t away j (omega arith) fits_in.0 in
      let joined = subst (λ (i : ℕ). Joined o f (scope ++ arguments x r i ∷ []) names mid.scopes.here) (sym grown) there in
      let text : next_token (32 ∷ trailing) ≡ next_token (argument_text names.arguments u ++ arguments_then (length preceding' + 1) us (names.arguments + 1) (41 ∷ rest)) = blank_passed 32 trailing refl ∙ ap (λ (i : ℕ). next_token (argument_text (n.arguments + 1) u ++ arguments_then (i + 1) us (n.arguments + 1 + 1) (41 ∷ rest))) (sym grown) in
      let more = arguments_more headroom preceding' u us names after rest joined (omega (arith, small)) fits_in.1 (omega arith) text in
      let all : preceding ++ t ∷ u ∷ us ≡ preceding' ++ u ∷ us = sym (append_assoc preceding (t ∷ []) (u ∷ us)) in
      let open_yet = not_seen CloseRound mid (lacks_token (mark Comma) CloseRound (44 ∷ 32 ∷ trailing) (32 ∷ trailing) (mark_token Comma (32 ∷ trailing) tt) (λ e. absurd cc)) in
      let count : length preceding' + length (u ∷ us) ≡ k + length (t ∷ u ∷ us) = omega (arith, grown) in
      record {
        scopes = more.scopes;
        reads = (t, mid, first, inr (open_yet, after, mark_seen Comma mid (32 ∷ trailing) (mark_token Comma (32 ∷ trailing) tt), subst (λ l. IsMore IsMarkToken CloseRound (IsArg o (f x) r) headroom preceding' l after (record { bytes = rest; scopes = more.scopes; next = s.next })) (sym all) more.reads));
        joined = subst (λ (i : ℕ). Joined o f (scope ++ arguments x r i ∷ []) (arguments_names x r k (t ∷ u ∷ us) n) more.scopes.here) count (subst (λ (i : ℕ). Joined o f (scope ++ arguments x r (length preceding' + length (u ∷ us)) ∷ []) (arguments_names x r i (u ∷ us) names) more.scopes.here) grown more.joined);
        outer = more.outer;
      }
