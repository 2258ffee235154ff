-- Ids in order, distinct and different from those of visible values; and small steps of the grammar.
use Rattle.std.proofs.Common.{◌≡◌, ℕ, zero, suc, ◌+◌, ◌*◌, ◌^◌, ◌<◌, ◌≤◌, Bool, true, false, eqb, List, [], ◌∷◌, ◌++◌, map, length, refl, ap, subst, ◌∙◌, arith, inl, inr}
use Rattle.std.specs.Prelude.{if◌then◌else◌}
use Rattle.std.specs.Fmt.{decimal}
use Rattle.std.specs.List.{AllByRecursion, IsDistinct}
use Rattle.std.proofs.lemmas.List.{length-append}
use Rattle.ir_types.specs.Terms.{TypeTerm}
use Rattle.ir_tree.specs.declared.value.Value.{Value}
use Rattle.ir_tree.specs.Sites.{Frame, results, in_scope}
use Rattle.ir_tree.specs.Meaning.{Operation}
use Rattle.ir_text_tokens.specs.declared.token.Mark.TheVariants.{CloseCurly, CloseRound, Comma}
use Rattle.ir_text_tokens.specs.Tokens.{value, string}
use Rattle.ir_text_tokens.specs.Printing.{raw_text}
use Rattle.ir_text_tokens.specs.Scopes.{Scopes, left, left_to}
use Rattle.ir_text_tokens.proofs.Printed.{string_token}
use Rattle.ir_text_types.specs.Grammars.{Grammar, Not, IsMore}
use Rattle.ir_text_operations.specs.Free.{no_names}
use Rattle.ir_text_operations.specs.ParseState.{PackTerm, ParseState, IsMarkToken}
use Rattle.ir_text_operations.specs.OpGrammar.{IsOps, IsOpWith, IsOp}
use Rattle.ir_text.specs.Naming.{Named, naming_of, naming_type, value_type, source_of}
use Rattle.ir_text_modules.specs.Written.{FitsType}
use Rattle.ir_text_modules.proofs.Small.{are_bytes}
use Rattle.ir_text_modules.specs.Runs.{Runs}
use Rattle.ir_text_modules.proofs.Fitting.{FitsHead}
use Rattle.ir_text_modules.proofs.Texts.{Head, Names, results_names, results_then, name_then}
use Rattle.ir_text_modules.proofs.ModuleValues.{Away, all_preceding}
use Rattle.ir_text_modules.proofs.Grown.{Grown}
use Rattle.ir_text_modules.proofs.Joined.{Here, IsParseState, Joined, OwnNames, joined_nothing, joined_no_results, joined_results}
use Rattle.ir_text_modules.proofs.Preceding.{result_read}
use Rattle.ir_text_modules.proofs.Labels.{Simple}
use Rattle.ir_text_modules.proofs.Tails.{finished}

-- ---- ids

runs_preceding : (f : ℕ → ℕ) (next : ℕ) (xs ys : List ℕ) → Runs f next (xs ++ ys) → Runs f next xs
runs_preceding f next [] ys h = tt
runs_preceding f next (x ∷ xs) ys h = (h.0, runs_preceding f (next + 1) xs ys h.1)

runs_back : (f : ℕ → ℕ) (next : ℕ) (xs ys : List ℕ) → Runs f next (xs ++ ys) → Runs f (next + length xs) ys
runs_back f next [] ys h = let e : next ≡ next + 0 = omega arith in subst (λ (i : ℕ). Runs f i ys) e h
runs_back f next (x ∷ xs) ys h = let e : next + 1 + length xs ≡ next + length (x ∷ xs) = omega arith in subst (λ (i : ℕ). Runs f i ys) e (runs_back f (next + 1) xs ys h.1)

distinct_preceding : (xs ys : List ℕ) → IsDistinct eqb (xs ++ ys) → IsDistinct eqb xs
unfolding IsDistinct
distinct_preceding [] ys h = tt
distinct_preceding (x ∷ xs) ys h = (all_preceding (λ y. eqb x y ≡ false) xs ys h.0, distinct_preceding xs ys h.1)

distinct_back : (xs ys : List ℕ) → IsDistinct eqb (xs ++ ys) → IsDistinct eqb ys
unfolding IsDistinct
distinct_back [] ys h = h
distinct_back (x ∷ xs) ys h = distinct_back xs ys h.1

pub distinct_first : (x : ℕ) (xs : List ℕ) → IsDistinct eqb (x ∷ xs) → AllByRecursion (λ y. eqb x y ≡ false) xs × IsDistinct eqb xs
unfolding IsDistinct
distinct_first x xs h = h

-- the requirements on the ids of the operations that are read from `next` on; `extra` more arguments may be read
pub record Fresh (f : ℕ → ℕ) (last : ℕ) (scope : List Frame) (n : Names) (next extra : ℕ) (xs : List ℕ) : Type 0 where
  pub runs : Runs f next xs
  pub distinct : IsDistinct eqb xs
  pub away : (v : Value) → in_scope scope v ≡ true → Away (source_of v) xs
  pub below : next + length xs ≤ last
  pub few_results : n.results + length xs < 2 ^ 128
  pub few_arguments : n.arguments + extra + 4096 * length xs < 2 ^ 128

pub fresh_preceding : (f : ℕ → ℕ) (last : ℕ) (scope : List Frame) (n : Names) (next extra less : ℕ) (xs ys : List ℕ) → Fresh f last scope n next extra (xs ++ ys) → less ≤ extra → Fresh f last scope n next less xs
fresh_preceding f last scope n next extra less xs ys h le =
    let count = length-append xs ys in
    record {
      runs = runs_preceding f next xs ys h.runs;
      distinct = distinct_preceding xs ys h.distinct;
      away = λ v e. all_preceding _ xs ys (h.away v e);
      below = omega (arith, h.below, count);
      few_results = omega (arith, h.few_results, count);
      few_arguments = omega (arith, h.few_arguments, count, le);
    }

pub fresh_back : (f : ℕ → ℕ) (last : ℕ) (scope dominance : List Frame) (n m : Names) (next extra less more : ℕ) (xs ys : List ℕ) → Fresh f last scope n next extra (xs ++ ys) → Grown n m (length xs) more → more + less ≤ extra + 4096 * length xs → ((v : Value) → in_scope dominance v ≡ true → Away (source_of v) ys) → Fresh f last dominance m (next + length xs) less ys
fresh_back f last scope dominance n m next extra less more xs ys h grown le away =
    let count = length-append xs ys in
    record {
      runs = runs_back f next xs ys h.runs;
      distinct = distinct_back xs ys h.distinct;
      away = away;
      below = omega (arith, h.below, count);
      few_results = omega (arith, h.few_results, count, grown.few_results);
      few_arguments = omega (arith, h.few_arguments, count, grown.few_arguments, le);
    }

-- ---- in the regions of an operation

pub in_inside : (isolated : Bool) (scope : List Frame) (v : Value) → in_scope (if isolated then [] else scope) v ≡ true → in_scope scope v ≡ true
in_inside true scope v e = absurd cc
in_inside false scope v e = e

pub joined_inside : (o : Bool) (f : ℕ → ℕ) (isolated : Bool) (scope : List Frame) (n : Names) (here : Here) → Joined o f scope n here → Joined o f (if isolated then [] else scope) n (if isolated then [] else here)
joined_inside o f true scope n here j = joined_nothing o f n
joined_inside o f false scope n here j = j

pub left_is : (a s : Scopes PackTerm) → a.outer ≡ s.here ∷ s.outer → left a ≡ s
left_is a s e = ap (left_to a) e

-- ---- operands

pub all_so : {X : Type 0} (P Q : X → Type 0) → ((x : X) → P x → Q x) → (xs : List X) → AllByRecursion P xs → AllByRecursion Q xs
all_so P Q h [] a = tt
all_so P Q h (x ∷ xs) a = (h x a.0, all_so P Q h xs a.1)

pub types_fit : (o : Bool) (f : ℕ → ℕ) (named : Named) (here : Here) (vs : List Value) → AllByRecursion (IsParseState o f named here) vs → AllByRecursion (FitsType o 32) (map (value_type named) vs)
types_fit o f named here [] h = tt
types_fit o f named here (v ∷ vs) h = (rw (h.0).named (h.0).read.type, types_fit o f named here vs h.1)

pub same_types : (a b : Named) (vs : List Value) → AllByRecursion (λ v. naming_of a v ≡ naming_of b v) vs → map (value_type a) vs ≡ map (value_type b) vs
same_types a b [] h = refl
same_types a b (v ∷ vs) h = ap (λ t. t ∷ map (value_type a) vs) (ap naming_type h.0) ∙ ap (λ (l : List TypeTerm). value_type b v ∷ l) (same_types a b vs h.1)

pub types_count : (a : Named) (vs : List Value) → length (map (value_type a) vs) ≡ length vs
types_count a [] = refl
types_count a (v ∷ vs) = ap suc (types_count a vs)

-- ---- results

pub joined_end : (o : Bool) (f : ℕ → ℕ) (scope : List Frame) (n m : Names) (s : Scopes PackTerm) (x : ℕ) (ts : List TypeTerm) → Joined o f scope n s.here → ((v : Value) → in_scope scope v ≡ true → naming_of m.named v ≡ naming_of n.named v) → length ts ≤ 256 → AllByRecursion (FitsType o 32) ts → OwnNames m x ts n.results → n.results < 2 ^ 128 → (results_names x ts n).results ≤ m.results → n.arguments ≤ m.arguments
    → Joined o f (scope ++ results x (length ts) ∷ []) m (finished n.results (f x) ts s).here
joined_end o f scope n m s x [] j keep few fits_in own small more more_arguments = joined_no_results o f scope n m s.here j keep x more_arguments more
joined_end o f scope n m s x (t ∷ ts) j keep few fits_in own small more more_arguments = joined_results o f scope n m s.here j keep x more_arguments (t ∷ ts) few fits_in own small more

-- an operation begins with a string or the name of a value
pub plain_head : (o : Bool) (m : ℕ) (ts : List TypeTerm) (h : Head) (named : Named) (rest : List ℕ) → FitsHead o h → m < 2 ^ 128 → length ts ≤ 256 → Simple o (results_then m ts (name_then h named rest))
plain_head o m [] h named rest fits_in lt few = record { lexeme = string (raw_text h.name); trailing = _; token = string_token h.name _ (are_bytes h.name fits_in.written.bytes); no_label = λ id r s. (refl, refl); no_mark = λ k e. absurd cc }
plain_head o m (t ∷ ts) h named rest fits_in lt few =
    let r = result_read m (length (t ∷ ts)) (name_then h named rest) lt (omega arith) few in
    record { lexeme = value (decimal m); trailing = r.mid; token = r.name; no_label = λ id q s. (refl, refl); no_mark = λ k e. absurd cc }

-- ---- steps of the grammar

pub op_from : (o : Bool) (last depth : ℕ) (y : Operation) (old new : ParseState) → old.next < last → IsOpWith o no_names (IsOps CloseCurly (IsOp o no_names last depth) 1048576 []) y old new → IsOp o no_names last (suc depth) y old new
unfolding IsOp
op_from o last depth y old new lt h = (lt, h)

module _ (P : Grammar ParseState Operation) where
  pub ops_close : (headroom : ℕ) (preceding : List Operation) (old new : ParseState) → 0 < headroom → IsMarkToken CloseCurly old new → IsOps CloseCurly P headroom preceding preceding old new
  unfolding IsOps
  ops_close zero preceding old new lt h = absurd (omega (arith, lt))
  ops_close (suc headroom) preceding old new lt h = inl (h, refl)

  pub ops_one : (headroom : ℕ) (preceding ys : List Operation) (y : Operation) (old mid new : ParseState) → Not IsMarkToken CloseCurly old → P y old mid → IsOps CloseCurly P headroom (preceding ++ y ∷ []) ys mid new → IsOps CloseCurly P (suc headroom) preceding ys old new
  unfolding IsOps
  ops_one headroom preceding ys y old mid new lacks h more = inr (lacks, y, mid, h, more)

module _ {B : Type 0} (P : List B → Grammar ParseState B) where
  pub more_last : (headroom : ℕ) (preceding : List B) (y : B) (old mid new : ParseState) → P preceding y old mid → IsMarkToken CloseRound mid new → IsMore IsMarkToken CloseRound P (suc headroom) preceding (preceding ++ y ∷ []) old new
  unfolding IsMore
  more_last headroom preceding y old mid new h k = (y, mid, h, inl (k, refl))

  pub more_one : (headroom : ℕ) (preceding ys : List B) (y : B) (old mid next new : ParseState) → P preceding y old mid → Not IsMarkToken CloseRound mid → IsMarkToken Comma mid next → IsMore IsMarkToken CloseRound P headroom (preceding ++ y ∷ []) ys next new → IsMore IsMarkToken CloseRound P (suc headroom) preceding ys old new
  unfolding IsMore
  more_one headroom preceding ys y old mid next new h lacks comma more = (y, mid, h, inr (lacks, next, comma, more))
