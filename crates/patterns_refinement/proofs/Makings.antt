-- Rules that replace an operation's result by new operations keep modules ready and refine what they compute.
use Rattle.std.proofs.Common.{◌≡◌, ℕ, zero, suc, ◌+◌, ◌-◌, ◌<◌, ◌≤◌, refl, ap, sym, ◌∙◌, subst, List, [], ◌∷◌, ◌++◌, map, Bool, true, false, Option, Some, None, slice_get, get_or, inl, arith}
use Rattle.std.specs.Prelude.{nat_lt, if◌then◌else◌, is_some}
use Rattle.std.specs.List.{list_all}
use Rattle.std.proofs.lemmas.Bool.{lt-ltb, le-ltb, and_from}
use Rattle.std.proofs.lemmas.Option.{none-some, same_Some}
use Rattle.ir_types.specs.declared.bits.BitsKind.{BitsKind}
use Rattle.ir_types.specs.Terms.{TypeTerm}
use Rattle.ir_tree.specs.declared.value.Value.{Value}
use Rattle.ir_tree.specs.declared.value.Value.TheVariants.{Result, Arg}
use Rattle.ir_tree.specs.Tree.{head, no_regions, regions}
use Rattle.ir_tree.specs.Meaning.{Operation}
use Rattle.ir_event.specs.Modules.{Module}
use Rattle.dialects_int.specs.Folds.{kind_of, rule_of}
use Rattle.rewriter_machine.specs.Contents.{all_edited}
use Rattle.rewriter_machine.specs.Edits.{Make}
use Rattle.patterns_base.specs.Lists.{Free}
use Rattle.user_patterns_check.specs.Outcomes.{Outcome}
use Rattle.user_patterns_check.specs.Checks.{refines}
use Rattle.patterns_base.specs.declared.rule.Rule.{Rule}
use Rattle.patterns_base.specs.Makes.{give}
use Rattle.patterns_refinement.proofs.Flags.{unflagged}
use Rattle.patterns_refinement.specs.Meaning.{Assignment, IsOfType, TypedEach, makes, owner, result_kind, is_arithmetic, has_flags}
use Rattle.patterns_refinement.specs.Better.{AreKinded, kind_in, may_overflow, takes_its}
use Rattle.patterns_refinement.specs.Keeping.{Computing, Improves, IsFed, IsReady, done_after, is_there}
use Rattle.patterns_refinement.proofs.Giving.{Making, after_new, after_old, given_improves}
use Rattle.patterns_refinement.proofs.Lifted as lift
use Rattle.patterns_refinement.proofs.OfBits.{IsOfBits}
use Rattle.patterns_refinement.proofs.OfKinds.{IsKind}
use Rattle.patterns_refinement.proofs.Readied.{HasKind, Rises, Takes, same_takes}
use Rattle.patterns_refinement.proofs.Rewritten.{AllBare, AllPut, same_makes}
use Rattle.patterns_refinement.proofs.Numeric.{is_numeric}
use Rattle.patterns_refinement.proofs.Ruled.{Ruled, computed_root, numeric_stays, root_has}
use Rattle.patterns_refinement.proofs.StaysReady.{stays_ready}
use Rattle.patterns_refinement.proofs.Trees.{ResultsAre}

-- ---- values for the results of new operations, one for each
abbrev pub with_all : {X : Type 0} → (Value → X) → ℕ → X → List X → Value → X
with_all f n d xs (Result y j) = if nat_lt y n then f (Result y j) else get_or xs (y - n) d
with_all f n d xs (Arg y r j) = f (Arg y r j)

pub all_agree : {X : Type 0} (f : Value → X) (n : ℕ) (d : X) (xs : List X) (w : Value) → owner w < n → with_all f n d xs w ≡ f w
all_agree f n d xs (Result y j) l = ap (λ b. if b then f (Result y j) else get_or xs (y - n) d) (lt-ltb y n l)
all_agree f n d xs (Arg y r j) l = refl

-- the values are those of the results from an id on
abbrev pub AllAt : {X : Type 0} → (Value → X) → ℕ → List X → Type 0
AllAt c m [] = Unit {0}
AllAt c m (x ∷ xs) = ((j : ℕ) → c (Result m j) ≡ x) × AllAt c (m + 1) xs

module _ {X : Type 0} (f : Value → X) (n : ℕ) (d : X) (whole : List X) where
  later_at : (i m : ℕ) (xs : List X) → m ≡ n + i → ((j : ℕ) → get_or whole (i + j) d ≡ get_or xs j d) → AllAt (with_all f n d whole) m xs
  later_at i m [] e h = tt
  later_at i m (x ∷ xs) e h = (
    (λ j. ap (λ b. if b then f (Result m j) else get_or whole (m - n) d) (le-ltb m n (omega (arith, e))) ∙ ap (λ z. get_or whole z d) (omega (arith, e)) ∙ h 0),
    later_at (i + 1) (m + 1) xs (omega (arith, e)) (λ j. ap (λ z. get_or whole z d) (omega arith) ∙ h (suc j)),
  )

  pub all_at : AllAt (with_all f n d whole) n whole
  all_at = later_at 0 n whole (omega arith) (λ j. ap (λ z. get_or whole z d) (omega arith))

-- ---- a new operation with one result and operands of the kinds that it needs
module _ (f : Value → Option BitsKind) where
  pub record MadeOne (o : Operation) (k : BitsKind) : Type 0 where
    pub ty : TypeTerm
    pub results : (head o).results ≡ ty ∷ []
    pub of : kind_of ty ≡ Some k
    pub bare : regions o ≡ no_regions
    pub numeric : is_some (rule_of (head o).name) ≡ true
    pub unset : has_flags (head o) ≡ false
    pub risen : Rises (head o)
    pub takes : takes_its (rule_of (head o).name) (Some k) (head o) (map f (head o).operands) ≡ true

  abbrev pub AllMade : List Operation → List BitsKind → Type 0
  AllMade [] [] = Unit {0}
  AllMade [] (k ∷ ks) = ⊥
  AllMade (o ∷ os) [] = ⊥
  AllMade (o ∷ os) (k ∷ ks) = MadeOne o k × AllMade os ks

  pub its_kind : (o : Operation) (k : BitsKind) → MadeOne o k → result_kind (head o) ≡ Some k
  its_kind o k g = ap (λ tys. given_first tys) g.results ∙ g.of
    where
      given_first : List TypeTerm → Option BitsKind
      given_first tys = result_kind (record (head o) { results = tys })

  only_type : (o : Operation) (k : BitsKind) (g : MadeOne o k) (j : ℕ) (ty : TypeTerm) → slice_get (head o).results j ≡ Some ty → g.ty ≡ ty
  only_type o k g j ty e = go j (subst (λ tys. slice_get tys j ≡ Some ty) g.results e)
    where
      go : (j : ℕ) → slice_get (g.ty ∷ []) j ≡ Some ty → g.ty ≡ ty
      go zero e = same_Some _ _ e
      go (suc j) e = absurd (none-some ty e)

  pub all_bare : (os : List Operation) (ks : List BitsKind) → AllMade os ks → AllBare os
  all_bare [] ks g = tt
  all_bare (o ∷ os) [] g = absurd g
  all_bare (o ∷ os) (k ∷ ks) g = (g.0.bare, all_bare os ks g.1)

  pub all_numbers : (m : ℕ) (os : List Operation) (ks : List BitsKind) → AllMade os ks → AllPut (λ h. is_arithmetic h ≡ true) m os
  all_numbers m [] ks g = tt
  all_numbers m (o ∷ os) [] g = absurd g
  all_numbers m (o ∷ os) (k ∷ ks) g = (and_from (is_some (rule_of (head o).name)) (is_some (result_kind (head o))) g.0.numeric (ap is_some (its_kind o k g.0)), all_numbers (m + 1) os ks g.1)

  pub all_risen : (m : ℕ) (os : List Operation) (ks : List BitsKind) → AllMade os ks → AllPut Rises m os
  all_risen m [] ks g = tt
  all_risen m (o ∷ os) [] g = absurd g
  all_risen m (o ∷ os) (k ∷ ks) g = (g.0.risen, all_risen (m + 1) os ks g.1)

  pub all_results : (m : ℕ) (os : List Operation) (ks : List BitsKind) → AllMade os ks → AllAt f m (map (λ k. Some k) ks) → AllPut (ResultsAre (HasKind f)) m os
  all_results m [] ks g at = tt
  all_results m (o ∷ os) [] g at = absurd g
  all_results m (o ∷ os) (k ∷ ks) g at = ((λ j ty e. at.0 j ∙ sym g.0.of ∙ ap kind_of (only_type o k g.0 j ty e)), all_results (m + 1) os ks g.1 at.1)

  pub all_take : (m : ℕ) (os : List Operation) (ks : List BitsKind) → AllMade os ks → AllPut (Takes f) m os
  all_take m [] ks g = tt
  all_take m (o ∷ os) [] g = absurd g
  all_take m (o ∷ os) (k ∷ ks) g = (
    same_takes (head o) m (head o).operands (map f (head o).operands)
        ∙ ap (λ q. takes_its (rule_of (head o).name) q (head o) (map f (head o).operands)) (its_kind o k g.0)
        ∙ g.0.takes,
    all_take (m + 1) os ks g.1,
  )

-- ---- the outcome
pub record GivesOne (c : Assignment) (done : ℕ → Bool) (later : ℕ → Bool) (x : ℕ) (o : Operation) (k : BitsKind) (z : Outcome) : Type 0 where
  pub of : IsKind k z
  pub bits : IsOfBits z
  pub made : done x ≡ true → makes (head o) (map c (head o).operands) ≡ Some z
  pub sure : done x ≡ true → may_overflow (head o) (map c (head o).operands) ≡ false
  pub fed : done x ≡ true → list_all (is_there later) (head o).operands ≡ true

module _ (c : Assignment) (done : ℕ → Bool) (n x : ℕ) where
  abbrev pub AllGive : List Operation → List BitsKind → List Outcome → Type 0
  AllGive [] ks zs = Unit {0}
  AllGive (o ∷ os) [] zs = ⊥
  AllGive (o ∷ os) (k ∷ ks) [] = ⊥
  AllGive (o ∷ os) (k ∷ ks) (z ∷ zs) = GivesOne c done (done_after n x done) x o k z × AllGive os ks zs

  one_typed : (ty : TypeTerm) (k : BitsKind) (z : Outcome) → kind_of ty ≡ Some k → IsKind k z → IsOfBits z → IsOfType ty z
  one_typed ty k None e h b = tt
  one_typed ty k (Some y) e h b = (e ∙ ap (λ k. Some k) (sym (h y refl)), b y refl)

  module _ (f : Value → Option BitsKind) where
    pub all_typed : (m : ℕ) (os : List Operation) (ks : List BitsKind) (zs : List Outcome) → AllMade f os ks → AllGive os ks zs → AllAt c m zs → TypedEach c m os
    all_typed m [] ks zs g h at = tt
    all_typed m (o ∷ os) [] zs g h at = absurd g
    all_typed m (o ∷ os) (k ∷ ks) [] g h at = absurd h
    all_typed m (o ∷ os) (k ∷ ks) (z ∷ zs) g h at = (
      (λ j ty e. subst (λ z. IsOfType ty z) (sym (at.0 j)) (one_typed ty k z (ap kind_of (sym (only_type f o k g.0 j ty e)) ∙ g.0.of) h.0.of h.0.bits)),
      all_typed (m + 1) os ks zs g.1 h.1 at.1,
    )

  pub all_ready : (f : Value → Option BitsKind) (m : ℕ) (os : List Operation) (ks : List BitsKind) (zs : List Outcome) → n ≤ m → AllMade f os ks → AllGive os ks zs → AllAt c m zs → AllPut (lift.IsReady c (done_after n x done)) m os
  all_ready f m [] ks zs l g h at = tt
  all_ready f m (o ∷ os) [] zs l g h at = absurd h
  all_ready f m (o ∷ os) (k ∷ ks) [] l g h at = absurd h
  all_ready f m (o ∷ os) (k ∷ ks) (z ∷ zs) l g h at = (
    (λ i j. (
      inl (
        same_makes (head o) m (head o).operands (map c (head o).operands) ∙ h.0.made (sym (after_new n x done m l) ∙ i) ∙ ap (λ z. Some z) (sym (at.0 0)),
        unflagged (head o) (map c (head o).operands) g.0.unset,
      ),
      h.0.sure (sym (after_new n x done m l) ∙ i),
    )),
    all_ready f (m + 1) os ks zs (omega (arith, l)) g.1 h.1 at.1,
  )

  pub all_fed : (m : ℕ) (os : List Operation) (ks : List BitsKind) (zs : List Outcome) → n ≤ m → AllGive os ks zs → AllPut (IsFed (done_after n x done)) m os
  all_fed m [] ks zs l h = tt
  all_fed m (o ∷ os) [] zs l h = absurd h
  all_fed m (o ∷ os) (k ∷ ks) [] l h = absurd h
  all_fed m (o ∷ os) (k ∷ ks) (z ∷ zs) l h = ((λ i. h.0.fed (sym (after_new n x done m l) ∙ i)), all_fed (m + 1) os ks zs (omega (arith, l)) h.1)

-- available values stay available
pub still_there : (n x : ℕ) (done : ℕ → Bool) (w : Value) → owner w < n → is_there done w ≡ true → is_there (done_after n x done) w ≡ true
still_there n x done (Result y j) l e = after_old n x done y l ∙ e
still_there n x done (Arg y r j) l e = refl

-- ---- rules that create such operations
pub record GivesNew (r : Rule) (m n : Module) (x : ℕ) (q : Ruled r m n x) : Type 0 where
  pub made : List Operation
  pub value_types : List BitsKind
  pub value : Value
  pub edits : q.edits ≡ map (λ o. Make q.insertion o) made ++ give x value
  pub are : AllMade (with_all (kind_in m.tree) m.next None (map (λ k. Some k) value_types)) made value_types

-- the outcomes of the new operations
pub record GivesOutcomes (r : Rule) (m n : Module) (x : ℕ) (q : Ruled r m n x) (g : GivesNew r m n x q) (a : Assignment) (done : ℕ → Bool) : Type 0 where
  pub outcomes : List Outcome
  pub give : AllGive (with_all a m.next None outcomes) done m.next x g.made g.value_types outcomes
  pub better : done x ≡ true → refines (a (Result x 0)) (with_all a m.next None outcomes g.value) ≡ true
  pub there : done x ≡ true → is_there (done_after m.next x done) g.value ≡ true

module _ (r : Rule) (m n : Module) (x : ℕ) (q : Ruled r m n x) (g : GivesNew r m n x q) where
  abbrev value_types : Value → Option BitsKind
  value_types = with_all (kind_in m.tree) m.next None (map (λ k. Some k) g.value_types)

  abbrev at : AllAt (with_all (kind_in m.tree) m.next None (map (λ k. Some k) g.value_types)) m.next (map (λ k. Some k) g.value_types)
  at = all_at (kind_in m.tree) m.next None (map (λ k. Some k) g.value_types)

  pub new_ready : IsReady m → IsReady n
  new_ready ready =
      stays_ready m n x q.insertion g.made g.value ready (subst (λ es. Free es m) g.edits q.free) (subst (λ es. all_edited es m ≡ n) g.edits q.module_is)
      value_types (λ w l. all_agree (kind_in m.tree) m.next None (map (λ k. Some k) g.value_types) w l) (all_bare value_types g.made g.value_types g.are)
      (record { results = all_results value_types m.next g.made g.value_types g.are at; take = all_take value_types m.next g.made g.value_types g.are }) (all_risen value_types m.next g.made g.value_types g.are)

  module _ (a : Assignment) (done : ℕ → Bool) (o : GivesOutcomes r m n x q g a done) where
    abbrev c : Assignment
    c = with_all a m.next None o.outcomes

    there_at : AllAt (with_all a m.next None o.outcomes) m.next o.outcomes
    there_at = all_at a m.next None o.outcomes

    making : Making a m.next x done g.made g.value
    making = record {
      outcomes = c;
      agrees = λ w l. all_agree a m.next None o.outcomes w l;
      bare = all_bare value_types g.made g.value_types g.are;
      typed = all_typed c done m.next x value_types m.next g.made g.value_types o.outcomes g.are o.give there_at;
      ready = all_ready c done m.next x value_types m.next g.made g.value_types o.outcomes (omega arith) g.are o.give there_at;
      fed = all_fed c done m.next x m.next g.made g.value_types o.outcomes (omega arith) o.give;
      numbers = all_numbers value_types m.next g.made g.value_types g.are;
      better = λ d. subst (λ z. refines z (c g.value) ≡ true) (sym (all_agree a m.next None o.outcomes (Result x 0) q.within)) (o.better d);
      there = o.there;
    }

    pub new_improves : IsReady m → is_numeric r ≡ true → AreKinded n.tree → Computing a done m.tree → Improves a done m (done_after m.next x done) n.tree
    new_improves ready numeric kinded computing =
        given_improves m n x a done q.insertion g.made g.value ready.wellformed q.within (computed_root r m n x q (root_has q ready.wellformed ready.kinded (numeric_stays r numeric)) (q.numeric numeric)) computing kinded making
        (subst (λ es. Free es m) g.edits q.free) (subst (λ es. all_edited es m ≡ n) g.edits q.module_is)
