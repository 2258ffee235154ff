-- The text of a block before its operations is parsed back.
use Rattle.std.proofs.Common.{◌≡◌, ℕ, ◌+◌, ◌^◌, ◌<◌, ◌≤◌, Bool, true, false, List, [], ◌∷◌, ◌++◌, length, Option, Some, None, refl, ap, subst, ◌∙◌, append_assoc, arith, inl, inr, ⊎_elim}
use Rattle.std.specs.Prelude.{codes, ◌==◌, ◌&&◌, nat_lt}
use Rattle.std.specs.Fmt.{decimal}
use Rattle.std.specs.List.{AllByRecursion}
use Rattle.std.proofs.lemmas.Bool.Decides.{nat_tests}
use Rattle.ir_types.specs.Terms.{TypeTerm}
use Rattle.ir_tree.specs.declared.value.Value.{Value}
use Rattle.ir_tree.specs.declared.value.Value.TheVariants.{Result, Arg}
use Rattle.ir_tree.specs.Sites.{Frame, arguments, shows, in_scope}
use Rattle.ir_tree.specs.Tree.{no_ops, next, block, op_list, ops_of}
use Rattle.ir_text_tokens.specs.declared.token.Mark.{Mark}
use Rattle.ir_text_tokens.specs.declared.token.Mark.TheVariants.{OpenRound, CloseRound, Colon}
use Rattle.ir_text_tokens.specs.Tokens.{Lexeme, mark, value, label, next as next_token}
use Rattle.ir_text_tokens.proofs.Printed.{mark_token, value_token, label_token, blank_passed}
use Rattle.ir_text_types.specs.Grammars.{Not, IsList, IsMark, Token}
use Rattle.ir_text_operations.specs.ParseState.{ParseState, state_with_rest}
use Rattle.ir_text_operations.specs.Made.{region_of}
use Rattle.ir_text_operations.specs.OpGrammar.{IsHeadFrom, IsHead}
use Rattle.ir_text.specs.Naming.{source_of}
use Rattle.ir_text.specs.Printing.{argument_text}
use Rattle.ir_text.specs.TypeText.{type_text}
use Rattle.ir_text_modules.specs.Written.{FitsType}
use Rattle.ir_text_modules.proofs.Small.{lacks_token}
use Rattle.ir_tree_laws.specs.Renumbered.{ops_with_ids, with_ids}
use Rattle.ir_text_modules.proofs.Texts.{Names, Ops, arguments_names, arguments_then, label_then}
use Rattle.ir_text_modules.proofs.ModuleWords.{argument_word}
use Rattle.ir_text_modules.proofs.ModuleValues.{source_id}
use Rattle.ir_text_modules.proofs.Joined.{Here, Joined, in_last}
use Rattle.ir_text_modules.proofs.Preceding.{argument_name}
use Rattle.ir_text_modules.proofs.Blocks.{AreBlank, blanks_passed, mark_seen, not_seen, arguments_more}
use Rattle.std.proofs.lemmas.Bool.{and_parts}

-- a text that an operation may begin: its first token is no label and no mark
pub record Simple (o : Bool) (bytes : List ℕ) : Type 0 where
  pub lexeme : Lexeme
  pub trailing : List ℕ
  pub token : Token lexeme bytes trailing
  pub no_label : (id r : ℕ) (s : ParseState) → IsHeadFrom o id r lexeme trailing None s s
  pub no_mark : (m : Mark) → lexeme ≡ mark m → ⊥

-- the first operation, if there is one, begins with such a token
abbrev pub PlainFirst : Bool → Ops → List ℕ → Type 0
PlainFirst o no_ops bytes = Unit {0}
PlainFirst o (next t ts) bytes = Simple o bytes

pub lists_back : (os : Ops) → ops_of (op_list os) ≡ os
lists_back no_ops = refl
lists_back (next t ts) = ap (next t) (lists_back ts)

no_shown : (v : Value) (x r : ℕ) → shows v (arguments x r 0) ≡ true → ⊥
no_shown (Result y k) x r e = absurd cc
no_shown (Arg y s k) x r e = let q = and_parts (s == r) (nat_lt k 0) (and_parts (y == x) ((s == r) && nat_lt k 0) e).1 in let lt : k < 0 = grind (arith, nat_tests) in omega (arith, lt)

pub joined_no_arguments : (o : Bool) (f : ℕ → ℕ) (scope : List Frame) (n : Names) (here : Here) (x r : ℕ) → Joined o f scope n here → Joined o f (scope ++ arguments x r 0 ∷ []) n here
joined_no_arguments o f scope n here x r j = record {
  seen = λ v e. ⊎_elim (λ (k : in_scope scope v ≡ true). j.seen v k) (λ (k : shows v (arguments x r 0) ≡ true). absurd (no_shown v x r k)) (in_last scope (arguments x r 0) v e);
  fresh = j.fresh;
  fresh_arguments = j.fresh_arguments;
}

argument_begins : (m : ℕ) (t : TypeTerm) (rest : List ℕ) → m < 2 ^ 128 → Not IsMark CloseRound (argument_text m t ++ rest)
argument_begins m t rest lt =
    let back = 58 ∷ 32 ∷ (type_text t ++ rest) in
    let apart : argument_text m t ++ rest ≡ 37 ∷ (argument_word m ++ back) = ap (λ (l : List ℕ). 37 ∷ 97 ∷ 114 ∷ 103 ∷ l) (append_assoc (decimal m) (58 ∷ 32 ∷ type_text t) rest) in
    lacks_token (value (argument_word m)) CloseRound (argument_text m t ++ rest) back (ap next_token apart ∙ value_token (argument_word m) back (argument_name m lt) refl) (λ e. absurd cc)

abbrev block_word : List ℕ
block_word = codes "bb0"

module _ (o : Bool) (f : ℕ → ℕ) (scope : List Frame) (x r : ℕ) (away : (v : Value) → in_scope scope v ≡ true → (source_id (source_of v) == x) ≡ false) where
  pub record LabelRead (args : List TypeTerm) (os : Ops) (n : Names) (s : ParseState) (rest : List ℕ) : Type 0 where
    pub preceding : Option (List TypeTerm)
    pub now : ParseState
    pub reads : IsHead o (f x) r preceding s now
    pub text : next_token now.bytes ≡ next_token rest
    pub joined : Joined o f (scope ++ arguments x r (length args) ∷ []) (arguments_names x r 0 args n) now.scopes.here
    pub outer : now.scopes.outer ≡ s.scopes.outer
    pub same : now.next ≡ s.next
    pub made : region_of preceding (op_list (ops_with_ids f os)) ≡ block args (ops_with_ids f os)

  pub label_again : (margin : List ℕ) (args : List TypeTerm) (os : Ops) (n : Names) (s : ParseState) (rest : List ℕ) → AreBlank margin → Joined o f scope n s.scopes.here → n.arguments + length args < 2 ^ 128 → AllByRecursion (FitsType o 32) args → length args ≤ 256
      → next_token s.bytes ≡ next_token (label_then margin args os n rest) → PlainFirst o os rest → LabelRead args os n s rest
  unfolding IsList
  label_again margin [] no_ops n s rest blank j small fits_in few e simple =
      let first = e ∙ blanks_passed margin (94 ∷ (block_word ++ 58 ∷ 10 ∷ rest)) blank ∙ label_token block_word (58 ∷ 10 ∷ rest) refl refl in
      let trailing = state_with_rest s (58 ∷ 10 ∷ rest) in
      let colon = mark_token Colon (10 ∷ rest) refl in
      let lacks = not_seen OpenRound trailing (lacks_token (mark Colon) OpenRound (58 ∷ 10 ∷ rest) (10 ∷ rest) colon (λ k. absurd cc)) in
      record {
        preceding = Some [];
        now = state_with_rest s (10 ∷ rest);
        reads = (label block_word, 58 ∷ 10 ∷ rest, first, ([], ([], trailing, inr (lacks, (refl, refl)), (state_with_rest s (10 ∷ rest), mark_seen Colon trailing (10 ∷ rest) colon, (refl, refl))), refl));
        text = blank_passed 10 rest refl;
        joined = joined_no_arguments o f scope n s.scopes.here x r j;
        outer = refl;
        same = refl;
        made = refl;
      }
  label_again margin [] (next t ts) n s rest blank j small fits_in few e simple = record {
    preceding = None;
    now = s;
    reads = (simple.lexeme, simple.trailing, e ∙ simple.token, simple.no_label (f x) r s);
    text = e;
    joined = joined_no_arguments o f scope n s.scopes.here x r j;
    outer = refl;
    same = refl;
    made = ap (λ (o : Ops). block [] (next (with_ids f t) o)) (lists_back (ops_with_ids f ts));
  }
  label_again margin (t ∷ ts) os n s rest blank j small fits_in few e simple =
      let last = 41 ∷ 58 ∷ 10 ∷ rest in
      let inside = argument_text n.arguments t ++ arguments_then (0 + 1) ts (n.arguments + 1) last in
      let first = e ∙ blanks_passed margin (94 ∷ (block_word ++ 40 ∷ inside)) blank ∙ label_token block_word (40 ∷ inside) refl refl in
      let trailing = state_with_rest s (40 ∷ inside) in
      let opened = state_with_rest s inside in
      let more = arguments_more o f scope x r away 256 [] t ts n opened (58 ∷ 10 ∷ rest) (joined_no_arguments o f scope n s.scopes.here x r j) small fits_in few refl in
      let done : ParseState = record { bytes = 58 ∷ 10 ∷ rest; scopes = more.scopes; next = s.next } in
      let lacks = not_seen CloseRound opened (argument_begins n.arguments t (arguments_then (0 + 1) ts (n.arguments + 1) last) (omega (arith, small))) in
      let count : 0 + length (t ∷ ts) ≡ length (t ∷ ts) = omega arith in
      record {
        preceding = Some (t ∷ ts);
        now = state_with_rest done (10 ∷ rest);
        reads = (label block_word, 40 ∷ inside, first, (t ∷ ts, (t ∷ ts, done, inl (opened, mark_seen OpenRound trailing inside (mark_token OpenRound inside tt), inr (lacks, more.reads)), (state_with_rest done (10 ∷ rest), mark_seen Colon done (10 ∷ rest) (mark_token Colon (10 ∷ rest) refl), (refl, refl))), refl));
        text = blank_passed 10 rest refl;
        joined = subst (λ (i : ℕ). Joined o f (scope ++ arguments x r i ∷ []) (arguments_names x r 0 (t ∷ ts) n) more.scopes.here) count more.joined;
        outer = more.outer;
        same = refl;
        made = ap (block (t ∷ ts)) (lists_back (ops_with_ids f os));
      }
