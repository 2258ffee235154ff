-- Rules that replace an operation's result by a new constant keep modules ready and refine what they compute.
use Rattle.std.proofs.Common.{◌≡◌, ℕ, zero, suc, ◌<◌, refl, ap, sym, ◌∙◌, subst, List, [], ◌∷◌, ◌++◌, map, Bool, true, ◌&&◌, Option, Some, slice_get, inl, arith}
use Rattle.std.specs.Prelude.{nat_lt, if◌then◌else◌, is_some}
use Rattle.std.proofs.lemmas.Bool.{lt-ltb, le-ltb}
use Rattle.std.proofs.lemmas.Option.{none-some, same_Some}
use Rattle.ir_types.specs.declared.bits.BitsKind.{BitsKind}
use Rattle.ir_types.specs.Bits.{is_bits, width_of}
use Rattle.ir_types.specs.Reasons.{is_width}
use Rattle.ir_types.specs.Terms.{TypeTerm}
use Rattle.ir_tree.specs.declared.value.Value.{Value}
use Rattle.ir_tree.specs.declared.value.Value.TheVariants.{Result, Arg}
use Rattle.ir_tree.specs.Tree.{head}
use Rattle.ir_tree.specs.Meaning.{Operation}
use Rattle.ir_event.specs.Modules.{Module}
use Rattle.dialects_int.specs.declared.operations.Rule.TheVariants as how
use Rattle.dialects_int.specs.Folds.{fold_of, kind_of}
use Rattle.rewriter_machine.specs.Contents.{all_edited}
use Rattle.rewriter_machine.specs.Edits.{Make}
use Rattle.patterns_base.specs.Lists.{Free}
use Rattle.patterns_laws.specs.Made.{constant}
use Rattle.patterns_laws.proofs.KnownFolds.{constant_gives}
use Rattle.user_patterns_check.specs.Checks.{refines}
use Rattle.patterns_base.specs.declared.rule.Rule.{Rule}
use Rattle.patterns_base.specs.Makes.{give, give_constant}
use Rattle.user_patterns_data.specs.Matching.{Header}
use Rattle.patterns_refinement.proofs.Flags.{unflagged}
use Rattle.patterns_refinement.specs.Meaning.{Assignment, IsOfType, owner, result_kind}
use Rattle.patterns_refinement.specs.Better.{AreKinded, are_its_bits, is_poison_by_ones, is_signed_quotient, kind_in, takes_its}
use Rattle.patterns_refinement.specs.Keeping.{Computing, Improves, IsReady, done_after}
use Rattle.patterns_refinement.proofs.Forms.{by_constant}
use Rattle.patterns_refinement.proofs.Giving.{Making, after_new, given_improves}
use Rattle.patterns_refinement.proofs.News.{constant_makes, type_is_of}
use Rattle.patterns_refinement.proofs.Readied.{NewKinds, Takes}
use Rattle.patterns_refinement.proofs.Rewritten.{same_makes}
use Rattle.patterns_refinement.proofs.Numeric.{is_numeric}
use Rattle.patterns_refinement.proofs.Ruled.{Ruled, computed_root, numeric_stays, root_has}
use Rattle.patterns_refinement.proofs.StaysReady.{stays_ready}

-- ---- values for the new results
abbrev pub with_new : {X : Type 0} → (Value → X) → ℕ → X → Value → X
with_new f n o (Result y j) = if nat_lt y n then f (Result y j) else o
with_new f n o (Arg y r j) = f (Arg y r j)

new_agrees : {X : Type 0} (f : Value → X) (n : ℕ) (o : X) (w : Value) → owner w < n → with_new f n o w ≡ f w
new_agrees f n o (Result y j) l = ap (λ b. if b then f (Result y j) else o) (lt-ltb y n l)
new_agrees f n o (Arg y r j) l = refl

new_there : {X : Type 0} (f : Value → X) (n : ℕ) (o : X) (j : ℕ) → with_new f n o (Result n j) ≡ o
new_there f n o j = ap (λ b. if b then f (Result n j) else o) (le-ltb n n (omega arith))

-- ---- a number of a given type
pub record GivesNumber (r : Rule) (m n : Module) (x : ℕ) (q : Ruled r m n x) : Type 0 where
  pub ty : TypeTerm
  pub bits : ℕ
  pub kind : BitsKind
  pub of : kind_of ty ≡ Some kind
  pub fits : is_bits kind bits ≡ true
  pub width : is_width (width_of kind) ≡ true
  pub edits : give_constant q.insertion m.next (head q.here).id ty bits ≡ q.edits

pub constant_folds : (ty : TypeTerm) (k : BitsKind) (n : ℕ) → kind_of ty ≡ Some k → fold_of (head (constant ty n)).name (head (constant ty n)).properties [] (head (constant ty n)).results ≡ Some (k, n)
constant_folds ty k n e = subst (λ ty. fold_of (head (constant ty n)).name (head (constant ty n)).properties [] (head (constant ty n)).results ≡ Some (k, n)) (sym (type_is_of ty k e)) (constant_gives k n)

module _ (r : Rule) (m n : Module) (x : ℕ) (q : Ruled r m n x) (g : GivesNumber r m n x q) where
  abbrev made : List Operation
  made = constant g.ty g.bits ∷ []

  these : q.edits ≡ map (λ o. Make q.insertion o) (constant g.ty g.bits ∷ []) ++ give x (Result m.next 0)
  these = sym g.edits ∙ ap (λ y. give_constant q.insertion m.next y g.ty g.bits) q.id

  value_types : Value → Option BitsKind
  value_types = with_new (kind_in m.tree) m.next (Some g.kind)

  takes_number : Takes (with_new (kind_in m.tree) m.next (Some g.kind)) (record (head (constant g.ty g.bits)) { id = m.next })
  takes_number =
      ap (λ r. takes_its r (result_kind h) h []) by_constant ∙ ap (λ k. takes_its (Some how.Constant) k h []) g.of
      ∙ (λ i. g.width i && are_its_bits (constant_folds g.ty g.kind g.bits g.of i)) ∙ g.fits
    where
      h : Header
      h = record (head (constant g.ty g.bits)) { id = m.next }

  news : NewKinds (with_new (kind_in m.tree) m.next (Some g.kind)) m.next (constant g.ty g.bits ∷ [])
  news = record {
    results = ((λ k ty e. new_there (kind_in m.tree) m.next (Some g.kind) k ∙ sym g.of ∙ ap kind_of (only k ty e)), tt);
    take = (takes_number, tt);
  }
    where
      only : (k : ℕ) (ty : TypeTerm) → slice_get (g.ty ∷ []) k ≡ Some ty → g.ty ≡ ty
      only zero ty e = same_Some _ _ e
      only (suc k) ty e = absurd (none-some ty e)

  pub number_ready : IsReady m → IsReady n
  number_ready ready =
      stays_ready m n x q.insertion (constant g.ty g.bits ∷ []) (Result m.next 0) ready (subst (λ es. Free es m) these q.free) (subst (λ es. all_edited es m ≡ n) these q.module_is)
      (with_new (kind_in m.tree) m.next (Some g.kind)) (λ w l. new_agrees (kind_in m.tree) m.next (Some g.kind) w l) (refl, tt) news (refl, tt)

  module _ (a : Assignment) (done : ℕ → Bool) (better : done x ≡ true → refines (a (Result x 0)) (Some (g.kind, g.bits)) ≡ true) where
    abbrev c : Assignment
    c = with_new a m.next (Some (g.kind, g.bits))

    making : Making a m.next x done (constant g.ty g.bits ∷ []) (Result m.next 0)
    making = record {
      outcomes = with_new a m.next (Some (g.kind, g.bits));
      agrees = λ w l. new_agrees a m.next (Some (g.kind, g.bits)) w l;
      bare = (refl, tt);
      typed = ((λ k ty e. subst (λ o. IsOfType ty o) (sym (new_there a m.next (Some (g.kind, g.bits)) k)) (only k ty e)), tt);
      ready = (
        (λ i j. (
          inl (
            same_makes (head (constant g.ty g.bits)) m.next [] [] ∙ constant_makes g.ty g.kind g.bits g.of
                ∙ ap (λ o. Some o) (sym (new_there a m.next (Some (g.kind, g.bits)) 0)),
            unflagged (head (constant g.ty g.bits)) [] refl,
          ),
          ap (λ r. is_signed_quotient r && is_poison_by_ones []) by_constant,
        )),
        tt,
      );
      fed = ((λ i. refl), tt);
      numbers = ((λ i. is_some (by_constant i) && is_some (g.of i)), tt);
      better = λ d.
          subst (λ o. refines o (c (Result m.next 0)) ≡ true) (sym (new_agrees a m.next (Some (g.kind, g.bits)) (Result x 0) q.within))
          (subst (λ o. refines (a (Result x 0)) o ≡ true) (sym (new_there a m.next (Some (g.kind, g.bits)) 0)) (better d));
      there = λ d. after_new m.next x done m.next (omega arith) ∙ d;
    }
      where
        only : (k : ℕ) (ty : TypeTerm) → slice_get (g.ty ∷ []) k ≡ Some ty → IsOfType ty (Some (g.kind, g.bits))
        only zero ty e = (ap kind_of (sym (same_Some _ _ e)) ∙ g.of, g.fits)
        only (suc k) ty e = absurd (none-some ty e)

    pub number_improves : IsReady m → is_numeric r ≡ true → AreKinded n.tree → Computing a done m.tree → Improves a done m (done_after m.next x done) n.tree
    number_improves ready numeric kinded computing =
        given_improves m n x a done q.insertion (constant g.ty g.bits ∷ []) (Result m.next 0) ready.wellformed q.within (computed_root r m n x q (root_has q ready.wellformed ready.kinded (numeric_stays r numeric)) (q.numeric numeric)) computing kinded making
        (subst (λ es. Free es m) these q.free) (subst (λ es. all_edited es m ≡ n) these q.module_is)
