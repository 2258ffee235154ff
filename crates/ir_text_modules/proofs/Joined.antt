-- The names of the printer and of the parser agree: each visible value is bound to its printed name, and the next
-- names are free.
use Rattle.std.proofs.Common.{◌≡◌, ◌⊎◌, ℕ, zero, suc, ◌+◌, ◌^◌, ◌<◌, ◌≤◌, Bool, true, false, List, [], ◌∷◌, ◌++◌, length, Some, None, refl, sym, ap, subst, ◌∙◌, arith, inl, inr, ⊎_elim}
use Rattle.std.specs.Prelude.{◌==◌, ◌&&◌, nat_lt, slice_get}
use Rattle.std.specs.Fmt.{decimal}
use Rattle.std.specs.List.{AllByRecursion}
use Rattle.std.proofs.lemmas.Bool.{eqb-true, and_parts, cases_Bool}
use Rattle.std.proofs.lemmas.Bool.Decides.{nat_tests}
use Rattle.ir_types.specs.Terms.{TypeTerm}
use Rattle.ir_tree.specs.declared.value.Value.{Value}
use Rattle.ir_tree.specs.declared.value.Value.TheVariants.{Result, Arg}
use Rattle.ir_tree.specs.Sites.{Frame, results, arguments, shows, in_scope}
use Rattle.ir_text_tokens.specs.Scopes.{Binding, find}
use Rattle.ir_text_operations.specs.ParseState.{BoundTerm, PackTerm}
use Rattle.ir_text_operations.specs.OpGrammar.{result_terms}
use Rattle.ir_text.specs.declared.naming.ValueName.{ValueName}
use Rattle.ir_text.specs.declared.naming.ValueName.TheVariants.{Only, Part, Argument}
use Rattle.ir_text.specs.declared.naming.Source.TheVariants as source
use Rattle.ir_text.specs.Naming.{Named, Naming, naming_of, same_source, source_of, result_name}
use Rattle.ir_text_modules.specs.Written.{FitsType}
use Rattle.ir_tree_laws.specs.Renumbered.{value_with_id}
use Rattle.ir_text_modules.proofs.Texts.{Names, argument_names}
use Rattle.ir_text_modules.proofs.ModuleWords.{argument_word, decimals_apart, arguments_apart, argument_no_decimal, decimal_no_argument, find_new, find_old, find_kept}
use Rattle.ir_text_modules.proofs.ModuleValues.{found, found_new, found_old, source_id}
use Rattle.ir_types.proofs.Truths.{get_within}

-- the word of a name; a pack of results shares one word
abbrev pub word_of : ValueName → List ℕ
word_of (Only n) = decimal n
word_of (Part n k) = decimal n
word_of (Argument n) = argument_word n

abbrev pub place_of : ValueName → ℕ
place_of (Only n) = 0
place_of (Part n k) = k
place_of (Argument n) = 0

-- the numbers of the name fit in 128 bits
abbrev pub IsSmall : ValueName → Type 0
IsSmall (Only n) = n < 2 ^ 128
IsSmall (Part n k) = (n < 2 ^ 128) × (k < 2 ^ 128)
IsSmall (Argument n) = n < 2 ^ 128

abbrev pub Here : Type 0
Here = List (Binding PackTerm)

abbrev pub term_of : (ℕ → ℕ) → Value → TypeTerm → BoundTerm
term_of f v t = record { value = value_with_id f v; type = t }

-- the parser finds the value by its name
pub record IsRead (o : Bool) (f : ℕ → ℕ) (here : Here) (v : Value) (y : Naming) : Type 0 where
  pub pack : PackTerm
  pub bound : find (word_of y.name) here ≡ Some pack
  pub place : slice_get pack (place_of y.name) ≡ Some (term_of f v y.type)
  pub small : IsSmall y.name
  pub type : FitsType o 32 y.type

pub record IsParseState (o : Bool) (f : ℕ → ℕ) (names : Named) (here : Here) (v : Value) : Type 0 where
  pub naming : Naming
  pub named : naming_of names v ≡ Some naming
  pub read : IsRead o f here v naming

pub record Joined (o : Bool) (f : ℕ → ℕ) (scope : List Frame) (n : Names) (here : Here) : Type 0 where
  pub seen : (v : Value) → in_scope scope v ≡ true → IsParseState o f n.named here v
  pub fresh : (k : ℕ) → n.results ≤ k → k < 2 ^ 128 → find (decimal k) here ≡ None
  pub fresh_arguments : (k : ℕ) → n.arguments ≤ k → k < 2 ^ 128 → find (argument_word k) here ≡ None

-- ---- small lemmas

-- visible with one more frame
pub in_last : (scope : List Frame) (frame : Frame) (v : Value) → in_scope (scope ++ frame ∷ []) v ≡ true → (in_scope scope v ≡ true) ⊎ (shows v frame ≡ true)
in_last [] frame v e = elim (cases_Bool (shows v frame)) [
  | inl t ↦ inr t
  | inr n ↦ let z : in_scope ([] ++ frame ∷ []) v ≡ false = rw n refl in absurd cc
]
in_last (g ∷ gs) frame v e = elim (cases_Bool (shows v g)) [
  | inl t ↦ inl (rw t refl)
  | inr n ↦
      let same : in_scope (g ∷ gs) v ≡ in_scope gs v = rw n refl in
      let rest : in_scope (gs ++ frame ∷ []) v ≡ true = sym (rw n refl) ∙ e in
      ⊎_elim (λ (k : in_scope gs v ≡ true). inl (same ∙ k)) (λ (k : shows v frame ≡ true). inr k) (in_last gs frame v rest)
]

pub in_first : (scope : List Frame) (frame : Frame) (v : Value) → in_scope scope v ≡ true → in_scope (scope ++ frame ∷ []) v ≡ true
in_first [] frame v e = absurd cc
in_first (g ∷ gs) frame v e = elim (cases_Bool (shows v g)) [
  | inl t ↦ rw t refl
  | inr n ↦
      let rest : in_scope gs v ≡ true = sym (rw n refl) ∙ e in
      rw n (in_first gs frame v rest)
]

pub all_get : {X : Type 0} (P : X → Type 0) (xs : List X) (k : ℕ) (x : X) → AllByRecursion P xs → slice_get xs k ≡ Some x → P x
all_get P [] k x h e = absurd cc
all_get P (y ∷ ys) zero x h e = let same : y ≡ x = cc in subst P same h.0
all_get P (y ∷ ys) (suc k) x h e = all_get P ys k x h.1 e

pub terms_get : (id j : ℕ) (ts : List TypeTerm) (k : ℕ) (t : TypeTerm) → slice_get ts k ≡ Some t → slice_get (result_terms id j ts) k ≡ Some (record { value = Result id (j + k); type = t })
terms_get id j [] k t e = absurd cc
terms_get id j (y ∷ ys) zero t e = let same : y ≡ t = cc in let place : j + 0 ≡ j = omega arith in rw (place, same) refl
terms_get id j (y ∷ ys) (suc k) t e = let place : j + suc k ≡ j + 1 + k = omega arith in rw place (terms_get id (j + 1) ys k t e)

-- ---- later, with the same visible values

pub joined_later : (o : Bool) (f : ℕ → ℕ) (scope : List Frame) (n m : Names) (here : Here) → Joined o f scope n here → ((v : Value) → in_scope scope v ≡ true → naming_of m.named v ≡ naming_of n.named v) → n.results ≤ m.results → n.arguments ≤ m.arguments → Joined o f scope m here
joined_later o f scope n m here j keep more_results more_arguments = record {
  seen = λ v e. let s = j.seen v e in record { naming = s.naming; named = keep v e ∙ s.named; read = s.read };
  fresh = λ k le lt. j.fresh k (omega (arith, le, more_results)) lt;
  fresh_arguments = λ k le lt. j.fresh_arguments k (omega (arith, le, more_arguments)) lt;
}

-- no value is visible
pub joined_nothing : (o : Bool) (f : ℕ → ℕ) (m : Names) → Joined o f [] m []
unfolding find
joined_nothing o f m = record {
  seen = λ v e. absurd cc;
  fresh = λ k le lt. refl;
  fresh_arguments = λ k le lt. refl;
}

-- a value that is found is still found after a new name is bound
read_kept : (o : Bool) (f : ℕ → ℕ) (here : Here) (v : Value) (y : Naming) (word : List ℕ) (pack : PackTerm) → find word here ≡ None → IsRead o f here v y → IsRead o f (here ++ (record { name = word; value = pack }) ∷ []) v y
read_kept o f here v y word pack fresh r = record { pack = r.pack; bound = find_kept (word_of y.name) word here pack r.pack fresh r.bound; place = r.place; small = r.small; type = r.type }

-- ---- results become visible

-- the results of operation x have names with the number n
abbrev pub OwnNames : Names → ℕ → List TypeTerm → ℕ → Type 0
OwnNames m x ts n = (i : ℕ) (t : TypeTerm) → slice_get ts i ≡ Some t → found m.named (source.Result x i) ≡ Some (record { name = result_name (length ts == 1) n i; type = t })

pub result_shown : (v : Value) (x n : ℕ) → shows v (results x n) ≡ true → (k : ℕ) × (v ≡ Result x k) × (k < n)
result_shown (Result y k) x n e = let p = and_parts (y == x) (nat_lt k n) e in (k, ap (λ a. Result a k) (eqb-true y x p.0), grind (arith, nat_tests))
result_shown (Arg y s k) x n e = absurd cc

result_read : (o : Bool) (f : ℕ → ℕ) (here : Here) (x : ℕ) (ts : List TypeTerm) (n k : ℕ) (t : TypeTerm) → n < 2 ^ 128 → length ts ≤ 256 → k < length ts → slice_get ts k ≡ Some t → FitsType o 32 t
    → IsRead o f (here ++ (record { name = decimal n; value = result_terms (f x) 0 ts }) ∷ []) (Result x k) (record { name = result_name (length ts == 1) n k; type = t })
result_read o f here x ts n k t lt few within e fits_in = from (length ts == 1) refl
  where
    pack : PackTerm
    pack = result_terms (f x) 0 ts

    there : slice_get pack k ≡ Some (term_of f (Result x k) t)
    there = let zero_on : 0 + k ≡ k = omega arith in subst (λ (j : ℕ). slice_get pack k ≡ Some (record { value = Result (f x) j; type = t })) zero_on (terms_get (f x) 0 ts k t e)

    from : (b : Bool) → (length ts == 1) ≡ b → IsRead o f (here ++ (record { name = decimal n; value = pack }) ∷ []) (Result x k) (record { name = result_name b n k; type = t })
    from true only =
        let lone : length ts ≡ 1 = eqb-true (length ts) 1 only in
        let first : k ≡ 0 = omega arith in
        record { pack = pack; bound = find_new (decimal n) here pack; place = subst (λ (j : ℕ). slice_get pack j ≡ Some (term_of f (Result x k) t)) first there; small = lt; type = fits_in }
    from false many = record { pack = pack; bound = find_new (decimal n) here pack; place = there; small = (lt, omega arith); type = fits_in }

module _ (o : Bool) (f : ℕ → ℕ) (scope : List Frame) (n m : Names) (here : Here) (j : Joined o f scope n here) (keep : (v : Value) → in_scope scope v ≡ true → naming_of m.named v ≡ naming_of n.named v) (x : ℕ) (more_arguments : n.arguments ≤ m.arguments) where
  pub joined_no_results : n.results ≤ m.results → Joined o f (scope ++ results x 0 ∷ []) m here
  joined_no_results more = record {
    seen = λ v e. ⊎_elim
        (λ (k : in_scope scope v ≡ true). (joined_later o f scope n m here j keep more more_arguments).seen v k)
        (λ (k : shows v (results x 0) ≡ true). let r = result_shown v x 0 k in absurd (omega (arith, r.2)))
        (in_last scope (results x 0) v e);
    fresh = λ k le lt. j.fresh k (omega (arith, le, more)) lt;
    fresh_arguments = λ k le lt. j.fresh_arguments k (omega (arith, le, more_arguments)) lt;
  }

  pub joined_results : (ts : List TypeTerm) → length ts ≤ 256 → AllByRecursion (FitsType o 32) ts → OwnNames m x ts n.results → n.results < 2 ^ 128 → n.results + 1 ≤ m.results
      → Joined o f (scope ++ results x (length ts) ∷ []) m (here ++ (record { name = decimal n.results; value = result_terms (f x) 0 ts }) ∷ [])
  joined_results ts few fits_in own small more = record {
    seen = λ v e. ⊎_elim
        (λ (k : in_scope scope v ≡ true). let s = j.seen v k in record { naming = s.naming; named = keep v k ∙ s.named; read = read_kept o f here v s.naming (decimal n.results) pack unused s.read })
        (λ (k : shows v (results x (length ts)) ≡ true). shown v (result_shown v x (length ts) k))
        (in_last scope (results x (length ts)) v e);
    fresh = λ k le lt. find_old (decimal k) (decimal n.results) here pack (decimals_apart n.results k small lt (λ e. omega (arith, le, more, e))) ∙ j.fresh k (omega (arith, le, more)) lt;
    fresh_arguments = λ k le lt. find_old (argument_word k) (decimal n.results) here pack (decimal_no_argument n.results k small) ∙ j.fresh_arguments k (omega (arith, le, more_arguments)) lt;
  }
    where
      pack : PackTerm
      pack = result_terms (f x) 0 ts

      unused : find (decimal n.results) here ≡ None
      unused = j.fresh n.results (omega arith) small

      shown : (v : Value) → (k : ℕ) × (v ≡ Result x k) × (k < length ts) → IsParseState o f m.named (here ++ (record { name = decimal n.results; value = pack }) ∷ []) v
      shown v r =
          let t = get_within ts r.0 r.2 in
          subst (IsParseState o f m.named (here ++ (record { name = decimal n.results; value = pack }) ∷ [])) (sym r.1)
          (record {
            naming = record { name = result_name (length ts == 1) n.results r.0; type = t.0 };
            named = own r.0 t.0 t.1;
            read = result_read o f here x ts n.results r.0 t.0 small few r.2 t.1 (all_get (FitsType o 32) ts r.0 t.0 fits_in t.1);
          })

-- ---- an argument becomes visible

argument_shown : (v : Value) (x r n : ℕ) → shows v (arguments x r (n + 1)) ≡ true → (shows v (arguments x r n) ≡ true) ⊎ (v ≡ Arg x r n)
argument_shown (Result y k) x r n e = absurd cc
argument_shown (Arg y s k) x r n e =
    let p = and_parts (y == x) ((s == r) && nat_lt k (n + 1)) e in
    let q = and_parts (s == r) (nat_lt k (n + 1)) p.1 in
    elim (cases_Bool (nat_lt k n)) [
      | inl t ↦ inl (rw (p.0, q.0, t) refl)
      | inr z ↦
          let last : k ≡ n = grind (arith, nat_tests) in
          inr (ap (λ a. Arg a s k) (eqb-true y x p.0) ∙ ap (λ a. Arg x a k) (eqb-true s r q.0) ∙ ap (Arg x r) last)
    ]

earlier : (v : Value) (x r n : ℕ) → shows v (arguments x r n) ≡ true → same_source (source_of v) (source.Argument x r n) ≡ false
earlier (Result y k) x r n e = refl
earlier (Arg y s k) x r n e =
    let p = and_parts (y == x) ((s == r) && nat_lt k n) e in
    let q = and_parts (s == r) (nat_lt k n) p.1 in
    let apart : (k == n) ≡ false = grind (arith, nat_tests) in
    rw (p.0, q.0, apart) refl

elsewhere : (v : Value) (x r n : ℕ) → (source_id (source_of v) == x) ≡ false → same_source (source_of v) (source.Argument x r n) ≡ false
elsewhere (Result y k) x r n e = refl
elsewhere (Arg y s k) x r n e = rw e refl

module _ (o : Bool) (f : ℕ → ℕ) (scope : List Frame) (n : Names) (here : Here) (x r k : ℕ) (t : TypeTerm) (away : (v : Value) → in_scope scope v ≡ true → (source_id (source_of v) == x) ≡ false) where
  pub joined_argument : Joined o f (scope ++ arguments x r k ∷ []) n here → n.arguments < 2 ^ 128 → FitsType o 32 t
      → Joined o f (scope ++ arguments x r (k + 1) ∷ []) (argument_names x r k t n) (here ++ (record { name = argument_word n.arguments; value = record { value = Arg (f x) r k; type = t } ∷ [] }) ∷ [])
  joined_argument j small fits_in = record {
    seen = λ v e. ⊎_elim
        (λ (i : in_scope scope v ≡ true). old v (in_first scope (arguments x r k) v i) (elsewhere v x r k (away v i)))
        (λ (i : shows v (arguments x r (k + 1)) ≡ true). ⊎_elim
        (λ (l : shows v (arguments x r k) ≡ true). old v (in_it v l) (earlier v x r k l))
        (λ (l : v ≡ Arg x r k). subst (IsParseState o f named all) (sym l) new)
        (argument_shown v x r k i))
        (in_last scope (arguments x r (k + 1)) v e);
    fresh = λ i le lt. find_old (decimal i) word here pack (argument_no_decimal n.arguments i lt) ∙ j.fresh i le lt;
    fresh_arguments = λ i le lt. find_old (argument_word i) word here pack (arguments_apart n.arguments i small lt (λ e. omega (arith, le, e))) ∙ j.fresh_arguments i (omega (arith, le)) lt;
  }
    where
      word : List ℕ
      word = argument_word n.arguments

      pack : PackTerm
      pack = record { value = Arg (f x) r k; type = t } ∷ []

      all : Here
      all = here ++ (record { name = word; value = pack }) ∷ []

      naming : Naming
      naming = record { name = Argument n.arguments; type = t }

      named : Named
      named = (argument_names x r k t n).named

      new : IsParseState o f named all (Arg x r k)
      new = record { naming = naming; named = found_new n.named (source.Argument x r k) naming; read = record { pack = pack; bound = find_new word here pack; place = refl; small = small; type = fits_in } }

      in_it : (v : Value) → shows v (arguments x r k) ≡ true → in_scope (scope ++ arguments x r k ∷ []) v ≡ true
      in_it v l = last_in scope
        where
          last_in : (gs : List Frame) → in_scope (gs ++ arguments x r k ∷ []) v ≡ true
          last_in [] = rw l refl
          last_in (g ∷ gs) = elim (cases_Bool (shows v g)) [ inl a ↦ rw a refl | inr b ↦ rw b (last_in gs) ]

      old : (v : Value) → in_scope (scope ++ arguments x r k ∷ []) v ≡ true → same_source (source_of v) (source.Argument x r k) ≡ false → IsParseState o f named all v
      old v i apart = let s = j.seen v i in record { naming = s.naming; named = found_old n.named (source_of v) (source.Argument x r k) naming apart ∙ s.named; read = read_kept o f here v s.naming word pack (j.fresh_arguments n.arguments (omega arith) small) s.read }
