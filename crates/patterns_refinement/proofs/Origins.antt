-- What values represent is kept by an edit.
use Rattle.std.proofs.Common.{◌≡◌, ℕ, ◌+◌, ◌<◌, ◌≤◌, refl, ap, sym, ◌∙◌, subst, List, [], ◌∷◌, map, Bool, true, false, true≢false, ◌&&◌, not, Option, Some, None, inl, inr, arith}
use Rattle.std.specs.Prelude.{◌==◌, if◌then◌else◌, is_some, option_and_then, slice_get}
use Rattle.std.specs.List.{list_all}
use Rattle.std.proofs.lemmas.Bool.{and_parts}
use Rattle.std.proofs.lemmas.Bool.Decides.{leb_tells}
use Rattle.std.proofs.lemmas.Option.{none-some}
use Rattle.ir_types.specs.Terms.{TypeTerm}
use Rattle.ir_tree.specs.declared.value.Value.{Value}
use Rattle.ir_tree.specs.declared.value.Value.TheVariants.{Result}
use Rattle.ir_tree.specs.declared.place.Place.{Place}
use Rattle.ir_tree.specs.Tree.{head}
use Rattle.ir_tree.specs.Edits.{put_value, put_values, with_value_replaced}
use Rattle.ir_tree.specs.Ids.{HasDistinctIds, find}
use Rattle.ir_tree.specs.Places.{without}
use Rattle.ir_tree.specs.Uses.{same_value}
use Rattle.ir_tree.specs.Meaning.{Operation}
use Rattle.ir_tree.proofs.Replaced.{same_value_true}
use Rattle.ir_tree_laws.specs.Members.{In}
use Rattle.ir_tree_laws.specs.Values.{has_value, type_of_value}
use Rattle.ir_tree_laws.proofs.Listed.{all_each, bool_cases}
use Rattle.dialects_int.specs.Folds.{kind_of, rule_of}
use Rattle.user_patterns_check.proofs.Keeping.{value_refined}
use Rattle.user_patterns_check.specs.Checks.{refines}
use Rattle.user_patterns_check.specs.Outcomes.{given}
use Rattle.user_patterns_data.specs.Matching.{Header}
use Rattle.patterns_refinement.specs.Meaning.{Assignment, Each, EachBlock, is_arithmetic, owner, result_kind}
use Rattle.patterns_refinement.specs.After.{OperandsStand, rewritten, with_made}
use Rattle.patterns_refinement.specs.Applied.{IsBelow}
use Rattle.patterns_refinement.specs.Better.{AllBetter, is_arithmetic_there, kind_in}
use Rattle.patterns_refinement.specs.Choices.{AllStill, AreOrigins, Chooses, Chosen, IsStill, Origins, has_condition, is_choice, is_select}
use Rattle.patterns_refinement.specs.Observing.{Stays, is_computed, without_operands}
use Rattle.patterns_refinement.proofs.Edited.{blocks_below, blocks_without, each_both, each_changed, each_without}
use Rattle.patterns_refinement.proofs.Readied.{kinds_are}
use Rattle.patterns_refinement.proofs.Rewritten.{AllBare, AllPut, all_blocks, all_put, given_blocks, given_each}
use Rattle.patterns_refinement.proofs.Trees.{ArgumentsAre, ResultsAre, typed_found, value_below}

-- ---- the kinds of old values
abbrev pub IsOldKind : ℕ → Operation → Value → TypeTerm → Type 0
IsOldKind n t v ty = owner v < n → kind_in t v ≡ kind_of ty

-- old values have the kinds that they had
pub record KeepsKinds (n : ℕ) (t u : Operation) : Type 0 where
  pub results : Each (ResultsAre (IsOldKind n t)) u
  pub arguments : EachBlock (ArgumentsAre (IsOldKind n t)) u

pub kind_kept : (n : ℕ) (t u : Operation) → KeepsKinds n t u → (v : Value) → owner v < n → is_some (kind_in u v) ≡ true → kind_in u v ≡ kind_in t v
kind_kept n t u s v l e = go (type_of_value v u) refl e
  where
    go : (q : Option TypeTerm) → type_of_value v u ≡ q → is_some (given q kind_of) ≡ true → kind_in u v ≡ kind_in t v
    go None i e = absurd (true≢false (sym e))
    go (Some ty) i e = ap (λ o. given o kind_of) i ∙ sym (typed_found (IsOldKind n t) u s.results s.arguments v ty i l)

pub still_has_kind : (n : ℕ) (t u : Operation) → KeepsKinds n t u → (v : Value) → owner v < n → is_some (kind_in u v) ≡ true → is_some (kind_in t v) ≡ true
still_has_kind n t u s v l e = ap is_some (sym (kind_kept n t u s v l e)) ∙ e

pub kinds_themselves : (n : ℕ) (t : Operation) → HasDistinctIds t → IsBelow n t → KeepsKinds n t t
kinds_themselves n t distinct below =
    let old = kinds_are t distinct in
    record {
      results = each_both (ResultsAre (λ v ty. kind_in t v ≡ kind_of ty)) (λ h. h.id < n) (ResultsAre (IsOldKind n t)) (λ h p l k ty e less. p k ty e) t old.results below;
      arguments = blocks_below (ArgumentsAre (λ v ty. kind_in t v ≡ kind_of ty)) (ArgumentsAre (IsOldKind n t)) n (λ y r args l p k ty e less. p k ty e) t below old.arguments;
    }

pub erased_kinds : (n x : ℕ) (t : Operation) → KeepsKinds n t t → KeepsKinds n t (without x t)
erased_kinds n x t s = record {
  results = each_without (ResultsAre (IsOldKind n t)) x t s.results;
  arguments = blocks_without (ArgumentsAre (IsOldKind n t)) x t s.arguments;
}

module _ (n : ℕ) (t : Operation) where
  new_kinds : (m : ℕ) (os : List Operation) → n ≤ m → AllPut (ResultsAre (IsOldKind n t)) m os
  new_kinds m [] l = tt
  new_kinds m (o ∷ os) l = ((λ k ty e less. absurd (omega (arith, l, less))), new_kinds (m + 1) os (omega (arith, l)))

  pub rewritten_kinds : (x : ℕ) (v : Value) (insertion : Place) (made : List Operation) → AllBare made → KeepsKinds n t t → KeepsKinds n t (rewritten insertion n made x v t)
  rewritten_kinds x v insertion made bare s = record {
    results =
        given_each (λ w. None) (λ w. None) n x v (λ y. true) (ResultsAre (IsOldKind n t)) (λ h p. p) (with_made insertion n made t)
        (all_put (ResultsAre (IsOldKind n t)) insertion n made t (new_kinds n made (omega arith)) bare s.results);
    arguments =
        given_blocks (λ w. None) (λ w. None) n x v (λ y. true) (ArgumentsAre (IsOldKind n t)) (with_made insertion n made t)
        (all_blocks (ArgumentsAre (IsOldKind n t)) insertion n made t bare s.arguments);
  }

-- an arithmetic operation's result has a kind
pub computed_kind : (x : ℕ) (t : Operation) → is_computed t (Result x 0) ≡ true → is_some (kind_in t (Result x 0)) ≡ true
computed_kind x t e = go (find x t) e
  where
    go : (q : Option Operation) → is_arithmetic_there q ≡ true → is_some (given (option_and_then (λ (o : Operation). slice_get (head o).results 0) q) kind_of) ≡ true
    go None e = absurd (true≢false (sym e))
    go (Some o) e = (and_parts (is_some (rule_of (head o).name)) (is_some (result_kind (head o))) e).1

-- ---- choices
pub choice_kept : (t u : Operation) (h k : Header) → without_operands h ≡ without_operands k → (has_condition (map (kind_in u) k.operands) ≡ true → has_condition (map (kind_in t) h.operands) ≡ true) → is_choice t h ≡ false → is_choice u k ≡ false
choice_kept t u h k same f e =
    sym (λ i. is_select (rule_of (same i).name) && (not (is_some (result_kind (same i))) && has_condition (map (kind_in u) k.operands)))
    ∙ go (is_select (rule_of h.name)) (not (is_some (result_kind h))) (has_condition (map (kind_in t) h.operands)) (has_condition (map (kind_in u) k.operands)) f e
  where
    go : (b c p q : Bool) → (q ≡ true → p ≡ true) → (b && (c && p)) ≡ false → (b && (c && q)) ≡ false
    go false c p q f e = refl
    go true false p q f e = refl
    go true true p true f e = absurd (true≢false (sym (f refl) ∙ e))
    go true true p false f e = refl

-- an arithmetic operation is no choice
pub no_choice : (t : Operation) (h : Header) → is_arithmetic h ≡ true → is_choice t h ≡ false
no_choice t h e =
    let p = and_parts (is_some (rule_of h.name)) (is_some (result_kind h)) e in
    (λ i. is_select (rule_of h.name) && (not (p.1 i) && has_condition (map (kind_in t) h.operands))) ∙ go (is_select (rule_of h.name))
  where
    go : (b : Bool) → (b && false) ≡ false
    go true = refl
    go false = refl

by_contrary : (p q : Bool) → (p ≡ false → q ≡ false) → q ≡ true → p ≡ true
by_contrary true q f e = refl
by_contrary false q f e = absurd (true≢false (sym e ∙ f refl))

-- ---- operands that represent the same
pub still_itself : (p : Option Value) → IsStill p p
still_itself None = tt
still_itself (Some v) = refl

still_through : (p q r : Option Value) → IsStill p q → IsStill q r → IsStill p r
still_through None q r s t = tt
still_through (Some v) q r s t = subst (λ q. IsStill q r) s t

still_some : (p q : Option Value) (y : Value) → IsStill p q → p ≡ Some y → q ≡ Some y
still_some None q y s e = absurd (none-some y e)
still_some (Some v) q y s e = s ∙ e

pub all_still : (o : Origins) (vs : List Value) → AllStill o vs vs
all_still o [] = tt
all_still o (v ∷ vs) = (still_itself (o v), all_still o vs)

pub all_still_through : (o : Origins) (us vs ws : List Value) → AllStill o us vs → AllStill o vs ws → AllStill o us ws
all_still_through o [] [] [] s r = tt
all_still_through o [] [] (w ∷ ws) s r = absurd r
all_still_through o [] (v ∷ vs) ws s r = absurd s
all_still_through o (u ∷ us) [] ws s r = absurd s
all_still_through o (u ∷ us) (v ∷ vs) [] s r = absurd r
all_still_through o (u ∷ us) (v ∷ vs) (w ∷ ws) s r = (still_through (o u) (o v) (o w) s.0 r.0, all_still_through o us vs ws s.1 r.1)

pub put_still : (x : ℕ) (v : Value) (o : Origins) → IsStill (o (Result x 0)) (o v) → (ws : List Value) → AllStill o ws (map (put_value (Result x 0) v) ws)
put_still x v o e [] = tt
put_still x v o e (w ∷ ws) = (go (same_value (Result x 0) w) refl, put_still x v o e ws)
  where
    go : (b : Bool) → same_value (Result x 0) w ≡ b → IsStill (o w) (o (if b then v else w))
    go true i = subst (λ w. IsStill (o w) (o v)) (same_value_true (Result x 0) w i) e
    go false i = still_itself (o w)

-- the chosen operand
chosen_kept : (a now : Assignment) (o : Origins) (y : Value) (vs ws : List Value) → AllStill o vs ws → AllBetter (map a vs) (map now ws) → Chosen a o y vs → Chosen now o y ws
chosen_kept a now o y [] [] s b p = tt
chosen_kept a now o y [] (w ∷ ws) s b p = absurd s
chosen_kept a now o y (v ∷ vs) [] s b p = absurd s
chosen_kept a now o y (c ∷ []) (d ∷ []) s b p = tt
chosen_kept a now o y (c ∷ []) (d ∷ w ∷ ws) s b p = absurd s.1
chosen_kept a now o y (c ∷ v ∷ vs) (d ∷ []) s b p = absurd s.1
chosen_kept a now o y (c ∷ u ∷ []) (d ∷ w ∷ []) s b p = tt
chosen_kept a now o y (c ∷ u ∷ []) (d ∷ w ∷ z ∷ zs) s b p = absurd s.1.1
chosen_kept a now o y (c ∷ u ∷ v ∷ vs) (d ∷ w ∷ []) s b p = absurd s.1.1
chosen_kept a now o y (c ∷ u ∷ v ∷ []) (d ∷ w ∷ z ∷ []) s b p =
    (p.0, value_refined p.0 (now d) (subst (λ q. refines q (now d) ≡ true) p.1 b.0), go (p.0.1 == 0) p.2)
  where
    go : (e : Bool) → o (if e then v else u) ≡ Some y → o (if e then z else w) ≡ Some y
    go true i = still_some (o v) (o z) y s.1.1.0 i
    go false i = still_some (o u) (o w) y s.1.0 i
chosen_kept a now o y (c ∷ u ∷ v ∷ []) (d ∷ w ∷ z ∷ x ∷ xs) s b p = absurd s.1.1.1
chosen_kept a now o y (c ∷ u ∷ v ∷ x ∷ xs) (d ∷ w ∷ z ∷ []) s b p = absurd s.1.1.1
chosen_kept a now o y (c ∷ u ∷ v ∷ x ∷ xs) (d ∷ w ∷ z ∷ i ∷ is) s b p = tt

-- ---- an operation that is kept, whether it is a choice or not
pub record IsKept (n : ℕ) (t u : Operation) (a now : Assignment) (later : ℕ → Bool) (h k : Header) : Type 0 where
  pub same : without_operands h ≡ without_operands k
  pub choice : is_choice t h ≡ false → is_choice u k ≡ false
  pub still : (o : Origins) → AreOrigins n a o later t → AllStill o h.operands k.operands
  pub better : later k.id ≡ true → AllBetter (map a h.operands) (map now k.operands)

pub kept_stays : {n : ℕ} {t u : Operation} {a now : Assignment} {later : ℕ → Bool} (h k : Header) → IsKept n t u a now later h k → Stays n t u a now later h k
kept_stays h k s = record { same = s.same; choice = s.choice; still = λ e o are. s.still o are; better = λ e i. s.better i }

pub kept_chooses : {n : ℕ} {t u : Operation} {a now : Assignment} {later : ℕ → Bool} (h k : Header) → IsKept n t u a now later h k → (o : Origins) → AreOrigins n a o later t → Chooses a o later t h → Chooses now o later u k
kept_chooses {n} {t} {u} {a} {now} {later} h k s o are c i y e =
    let own : h.id ≡ k.id = ap (λ (h : Header). h.id) s.same in
    let g = c (by_contrary (is_choice t h) (is_choice u k) s.choice i) y (ap (λ z. o (Result z 0)) own ∙ e) in
    let d : later k.id ≡ true = ap later (sym own) ∙ g.0 in
    (d, chosen_kept a now o y h.operands k.operands (s.still o are) (s.better d) g.1)

-- ---- origins in a tree after an edit
pub origins_are : (n : ℕ) (a now : Assignment) (o : Origins) (done : ℕ → Bool) (t u : Operation) → AreOrigins n a o done t → ((v : Value) → owner v < n → is_computed t v ≡ false → is_computed u v ≡ false) → Each (Chooses now o done u) u → AreOrigins n now o done u
origins_are n a now o done t u are simple each = record {
  chosen = each;
  computed = λ v e. elim (leb_tells n (owner v)) [
    | inl l ↦ are.unused v l.1
    | inr l ↦ elim (bool_cases (is_computed t v)) [ inl c ↦ are.computed v c | inr c ↦ absurd (true≢false (sym e ∙ simple v l.1 c)) ]
  ];
  unused = are.unused;
}

-- the executed operations may be given by another function
pub origins_later : (n : ℕ) (a : Assignment) (o : Origins) (done later : ℕ → Bool) (t : Operation) → ((y : ℕ) → y < n → later y ≡ done y) → AreOrigins n a o done t → AreOrigins n a o later t
origins_later n a o done later t same are = record {
  chosen = each_both (Chooses a o done t) (Chooses a o done t) (Chooses a o later t) (λ h p q i y e. let g = p i y e in (same h.id (old h.id y e) ∙ g.0, g.1)) t are.chosen are.chosen;
  computed = are.computed;
  unused = are.unused;
}
  where
    old : (x : ℕ) (y : Value) → o (Result x 0) ≡ Some y → x < n
    old x y e = elim (leb_tells n x) [ inl l ↦ absurd (none-some y (sym (are.unused (Result x 0) l.1) ∙ e)) | inr l ↦ l.1 ]

pub origins_grown : (n m : ℕ) (a : Assignment) (o : Origins) (done : ℕ → Bool) (t : Operation) → n ≤ m → AreOrigins n a o done t → AreOrigins m a o done t
origins_grown n m a o done t l are = record { chosen = are.chosen; computed = are.computed; unused = λ v k. are.unused v (omega (arith, l, k)) }

-- ---- operations that don't change
abbrev pub Alike : Operation → Operation → Header → Type 0
Alike t u h = is_choice t h ≡ false → is_choice u h ≡ false

first_same : (t u : Operation) (vs : List Value) → ((v : Value) → In v vs → is_some (kind_in u v) ≡ true → is_some (kind_in t v) ≡ true) → has_condition (map (kind_in u) vs) ≡ true → has_condition (map (kind_in t) vs) ≡ true
first_same t u [] f e = e
first_same t u (v ∷ vs) f e = f v (inl refl) e

pub all_alike : (n : ℕ) (t u : Operation) → KeepsKinds n t u → IsBelow n t → OperandsStand t → Each (Alike t u) t
all_alike n t u s below operands =
    each_both (λ h. list_all (λ v. has_value v t) h.operands ≡ true) (λ h. list_all (λ v. has_value v t) h.operands ≡ true) (Alike t u)
    (λ h p q. choice_kept t u h h refl
    (first_same t u h.operands (λ v i. still_has_kind n t u s v (value_below n t below v (all_each (λ v. has_value v t) h.operands p v i))))) t operands operands

pub kept_itself : (n : ℕ) (t u : Operation) (a now : Assignment) (later : ℕ → Bool) → ((vs : List Value) → AllBetter (map a vs) (map now vs)) → (h : Header) → Alike t u h → IsKept n t u a now later h h
kept_itself n t u a now later f h alike = record { same = refl; choice = alike; still = λ o are. all_still o h.operands; better = λ i. f h.operands }

-- ---- an operation's result replaced by a value
-- the value has a kind only if the result has, and represents what the result represents
pub record Replaces (n x : ℕ) (v : Value) (t u : Operation) (a : Assignment) (later : ℕ → Bool) : Type 0 where
  pub kind : is_some (kind_in u v) ≡ true → is_some (kind_in t (Result x 0)) ≡ true
  pub origin : (o : Origins) → AreOrigins n a o later t → IsStill (o (Result x 0)) (o v)

-- an arithmetic operation
pub replaces_computed : (n x : ℕ) (v : Value) (t u : Operation) (a : Assignment) (later : ℕ → Bool) → is_computed t (Result x 0) ≡ true → Replaces n x v t u a later
replaces_computed n x v t u a later root = record {
  kind = λ e. computed_kind x t root;
  origin = λ o are. subst (λ p. IsStill p (o v)) (sym (are.computed (Result x 0) root)) tt;
}

module _ (n x : ℕ) (v : Value) (t u : Operation) (a now : Assignment) (later : ℕ → Bool) (value_kinds : KeepsKinds n t u) (replaces : Replaces n x v t u a later) where
  put_first : (ws : List Value) → ((w : Value) → In w ws → owner w < n) → has_condition (map (kind_in u) (map (put_value (Result x 0) v) ws)) ≡ true → has_condition (map (kind_in t) ws) ≡ true
  put_first [] f e = e
  put_first (w ∷ ws) f e = go (same_value (Result x 0) w) refl e
    where
      go : (b : Bool) → same_value (Result x 0) w ≡ b → is_some (kind_in u (if b then v else w)) ≡ true → is_some (kind_in t w) ≡ true
      go true i e = subst (λ w. is_some (kind_in t w) ≡ true) (same_value_true (Result x 0) w i) (replaces.kind e)
      go false i e = still_has_kind n t u value_kinds w (f w (inl refl)) e

  pub kept_put : (h : Header) → ((w : Value) → In w h.operands → owner w < n) → (later h.id ≡ true → AllBetter (map a h.operands) (map now (map (put_value (Result x 0) v) h.operands))) → IsKept n t u a now later h (put_values (Result x 0) v h)
  kept_put h f better = record {
    same = refl;
    choice = choice_kept t u h (put_values (Result x 0) v h) refl (put_first h.operands f);
    still = λ o are. put_still x v o (replaces.origin o are) h.operands;
    better = better;
  }

module _ (n x : ℕ) (v : Value) (t : Operation) (insertion : Place) (made : List Operation) (a now : Assignment) (later : ℕ → Bool) (bare : AllBare made) where
  abbrev u : Operation
  u = rewritten insertion n made x v t

  abbrev ChoosesNow : Origins → Header → Type 0
  ChoosesNow o h = Chooses now o later (rewritten insertion n made x v t) (put_values (Result x 0) v h)

  new_chooses : (o : Origins) (m : ℕ) (os : List Operation) → AllPut (λ h. is_arithmetic h ≡ true) m os → AllPut (ChoosesNow o) m os
  new_chooses o m [] s = tt
  new_chooses o m (p ∷ os) s = (
    (λ i. absurd (true≢false (sym i ∙ no_choice u (put_values (Result x 0) v (record (head p) { id = m })) s.0))),
    new_chooses o (m + 1) os s.1,
  )

  pub rewritten_origins : AllPut (λ h. is_arithmetic h ≡ true) n made → Each (λ h. IsKept n t (rewritten insertion n made x v t) a now later h (put_values (Result x 0) v h)) t
      → ((w : Value) → owner w < n → is_computed t w ≡ false → is_computed (rewritten insertion n made x v t) w ≡ false)
      → (o : Origins) → AreOrigins n a o later t → AreOrigins n now o later (rewritten insertion n made x v t)
  rewritten_origins numbers kept simple o are =
      origins_are n a now o later t u are simple
      (each_without (Chooses now o later u) x (with_value_replaced (Result x 0) v (with_made insertion n made t))
      (each_changed (ChoosesNow o) (Chooses now o later u) (put_values (Result x 0) v) (λ h p. p) (with_made insertion n made t)
      (all_put (ChoosesNow o) insertion n made t (new_chooses o n made numbers) bare
      (each_both (λ h. IsKept n t u a now later h (put_values (Result x 0) v h)) (Chooses a o later t) (ChoosesNow o)
      (λ h s c. kept_chooses h (put_values (Result x 0) v h) s o are c) t kept are.chosen))))
