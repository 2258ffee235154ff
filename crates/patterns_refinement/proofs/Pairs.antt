-- Binary operations and constants that rules create: their kinds and their outcomes.
use Rattle.std.proofs.Common.{◌≡◌, ℕ, refl, ap, sym, ◌∙◌, subst, List, [], ◌∷◌, Bool, true, false, ◌&&◌, not, Option, Some, None, ◌⊎◌, inl, inr, arith}
use Rattle.std.specs.Prelude.{codes, if◌then◌else◌, is_some}
use Rattle.std.proofs.lemmas.Bool.{and_from, and_parts}
use Rattle.std.proofs.lemmas.Bool.Decides.{nat_tests}
use Rattle.std.proofs.lemmas.Option.{none-some, same_Some}
use Rattle.ir_types.specs.declared.bits.BitsKind.{BitsKind}
use Rattle.ir_types.specs.Bits.{is_bits, width_of}
use Rattle.ir_types.specs.Reasons.{is_width}
use Rattle.ir_types.specs.Terms.{AttrTerm, Overflow, TypeTerm}
use Rattle.ir_tree.specs.declared.value.Value.{Value}
use Rattle.ir_tree.specs.Tree.{head}
use Rattle.ir_tree.specs.Meaning.{key_before, rises}
use Rattle.ir_tree_laws.specs.Values.{has_value}
use Rattle.ir_event.specs.Modules.{Module}
use Rattle.dialects_int.specs.declared.operations.Arithmetic.{Arithmetic}
use Rattle.dialects_int.specs.declared.operations.Rule.{Rule as Way}
use Rattle.dialects_int.specs.declared.operations.Rule.TheVariants as how
use Rattle.dialects_int.specs.Arithmetic.{value_of}
use Rattle.dialects_int.specs.Folds.{Known, fold_of, kind_of, rule_of, same_kind}
use Rattle.dialects_int.proofs.KnownOperands.{same_itself}
use Rattle.user_patterns_check.specs.Outcomes.{Outcome, divides, given, is_some_number, checked, no_value, pair_outcome}
use Rattle.user_patterns_check.proofs.Keeping.{same_kinds}
use Rattle.patterns_laws.specs.Made.{binary, constant}
use Rattle.patterns_laws.specs.Words.{among, flagged, named}
use Rattle.patterns_laws.proofs.KnownFolds.{given_some}
use Rattle.patterns_base.specs.Looks.{constant_value, is_verified, known, source}
use Rattle.user_patterns_data.specs.Matching.{Header}
use Rattle.patterns_refinement.proofs.Flags.{flags_unset}
use Rattle.patterns_refinement.specs.Meaning.{Assignment}
use Rattle.patterns_refinement.specs.Better.{AreKinded, are_its_bits, is_kind, is_kinded, is_poison_by_ones, is_signed_quotient, kind_in, takes_its}
use Rattle.patterns_refinement.specs.Keeping.{is_there}
use Rattle.patterns_refinement.proofs.Constants.{constant_folds}
use Rattle.patterns_refinement.proofs.Forms.{by_constant, fold_kind, makes_is, named_is}
use Rattle.patterns_refinement.proofs.Makings.{GivesOne, MadeOne}
use Rattle.patterns_refinement.proofs.Monotone.{none_made}
use Rattle.patterns_refinement.proofs.News.{constant_makes}
use Rattle.patterns_refinement.proofs.OfBits.{IsOfBits, pair_bits}
use Rattle.patterns_refinement.proofs.OfKinds.{IsKind, pair_kind}
use Rattle.patterns_refinement.proofs.Ruled.{known_kinds}
use Rattle.patterns_refinement.proofs.Sources.{sole_of}
use Rattle.patterns_refinement.proofs.Trees.{each_found}

-- ---- the outcome of a binary operation
abbrev pub pair_out : Arithmetic → Outcome → Outcome → Outcome
pair_out o p q = given (pair_outcome o p q) (λ z. z)

out_is : (r : Option Outcome) (z : Outcome) → r ≡ Some z → r ≡ Some (given r (λ z. z))
out_is r z e = e ∙ sym (ap (λ r. Some (given r (λ z. z))) e)

-- the outcome for two known values
pub pair_known : (o : Arithmetic) (k : BitsKind) (a b n : ℕ) → value_of o (width_of k) a b ≡ Some n → pair_outcome o (Some (k, a)) (Some (k, b)) ≡ Some (Some (k, n))
pair_known o k a b n e = ap (λ c. if c then checked o k b (value_of o (width_of k) a b) else None) (same_itself k) ∙ ap (checked o k b) e

abbrev pub IsTotal : Arithmetic → Type 0
IsTotal o = (divides o ≡ false) × ((w a b : ℕ) → (n : ℕ) × (value_of o w a b ≡ Some n))

-- there is an outcome if the operation isn't a division and always has a value
pub pair_is : (o : Arithmetic) (k : BitsKind) (p q : Outcome) → IsTotal o → IsKind k p → IsKind k q → pair_outcome o p q ≡ Some (pair_out o p q)
pair_is o k None q t f g = out_is (pair_outcome o None q) None (ap (λ d. if d && not_zero q then None else Some None) t.0)
  where
    not_zero : Outcome → Bool
    not_zero q = not (is_some_number q)
pair_is o k (Some x) None t f g = out_is (no_value o) None (ap (λ d. if d then None else Some None) t.0)
pair_is o k (Some x) (Some y) t f g =
    let n = t.1 (width_of k) x.1 y.1 in
    out_is (pair_outcome o (Some x) (Some y)) (Some (k, n.0)) (subst (λ (x : Known). pair_outcome o (Some x) (Some y) ≡ Some (Some (k, n.0))) (of_kind x (f x refl)) (subst (λ (y : Known). pair_outcome o (Some (k, x.1)) (Some y) ≡ Some (Some (k, n.0))) (of_kind y (g y refl)) (pair_known o k x.1 y.1 n.0 n.1)))
  where
    of_kind : (y : Known) → y.0 ≡ k → (k, y.1) ≡ y
    of_kind y e = let s = sym e in (λ i. (s i, y.1))

-- the outcome of two outcomes is poison, or both are known
pub record Paired (o : Arithmetic) (p q z : Outcome) : Type 0 where
  pub first : Known
  pub second : Known
  pub number : ℕ
  pub first_is : p ≡ Some first
  pub second_is : q ≡ Some second
  pub value_types : first.0 ≡ second.0
  pub value : value_of o (width_of first.0) first.1 second.1 ≡ Some number
  pub gives : z ≡ Some (first.0, number)

pub paired : (o : Arithmetic) (p q z : Outcome) → IsTotal o → pair_outcome o p q ≡ Some z → (z ≡ None) ⊎ Paired o p q z
paired o None q z t e = inl (none_made (divides o && not (is_some_number q)) z e).1
paired o (Some x) None z t e = inl (none_made (divides o) z e).1
paired o (Some x) (Some y) z t e = go (same_kind x.0 y.0) refl e
  where
    go : (c : Bool) → same_kind x.0 y.0 ≡ c → (if c then checked o x.0 y.1 (value_of o (width_of x.0) x.1 y.1) else None) ≡ Some z → (z ≡ None) ⊎ Paired o (Some x) (Some y) z
    go false i e = absurd (none-some z e)
    go true i e =
        let n = t.1 (width_of x.0) x.1 y.1 in
        inr (record {
          first = x;
          second = y;
          number = n.0;
          first_is = refl;
          second_is = refl;
          value_types = same_kinds x.0 y.0 i;
          value = n.1;
          gives = sym (same_Some _ _ (sym (ap (checked o x.0 y.1) n.1) ∙ e));
        })

-- ---- numbers
pub number_kind : (k : BitsKind) (n : ℕ) → IsKind k (Some (k, n))
number_kind k n y e = let s : (k, n) ≡ y = same_Some _ _ e in ap (λ (w : Known). w.0) (sym s)

pub number_bits : (k : BitsKind) (n : ℕ) → is_bits k n ≡ true → IsOfBits (Some (k, n))
number_bits k n fits y e = let s : (k, n) ≡ y = same_Some _ _ e in subst (λ (w : Known). is_bits w.0 w.1 ≡ true) s fits

pub value_fits : (o : Arithmetic) (k : BitsKind) (a b n : ℕ) → is_bits k a ≡ true → is_bits k b ≡ true → value_of o (width_of k) a b ≡ Some n → is_bits k n ≡ true
value_fits o k a b n f g e = pair_bits o (Some (k, a)) (Some (k, b)) (Some (k, n)) (number_bits k a f) (number_bits k b g) (pair_known o k a b n e) (k, n) refl

pub zero_bits : (k : BitsKind) (n : ℕ) → is_bits k n ≡ true → is_bits k 0 ≡ true
zero_bits k n h = grind (arith, nat_tests)

pub is_its_kind : (k : BitsKind) → is_kind k (Some k) ≡ true
is_its_kind k = same_itself k

-- ---- new operations
pub flags_rise : (b : Bool) → (rises key_before (if b then (codes "overflowFlags", Overflow false false) ∷ [] else []) && true) ≡ true
flags_rise true = refl
flags_rise false = refl

module _ (f : Value → Option BitsKind) where
  pub binary_made : (name : List ℕ) (ty : TypeTerm) (u v : Value) (k : BitsKind) (o : Arithmetic) → rule_of name ≡ Some (how.Binary o) → kind_of ty ≡ Some k → is_width (width_of k) ≡ true → is_kind k (f u) ≡ true → is_kind k (f v) ≡ true → MadeOne f (binary name ty u v) k
  binary_made name ty u v k o e of width i j = record {
    ty = ty;
    results = refl;
    of = of;
    bare = refl;
    numeric = ap is_some e;
    unset = flags_unset name;
    risen = flags_rise (among flagged name);
    takes = ap (λ r. takes_pair r) e ∙ and_from (is_width (width_of k)) (is_kind k (f u) && is_kind k (f v)) width (and_from (is_kind k (f u)) (is_kind k (f v)) i j);
  }
    where
      takes_pair : Option Way → Bool
      takes_pair r = takes_its r (Some k) (head (binary name ty u v)) (f u ∷ f v ∷ [])

  pub constant_made : (ty : TypeTerm) (bits : ℕ) (k : BitsKind) → kind_of ty ≡ Some k → is_bits k bits ≡ true → MadeOne f (constant ty bits) k
  constant_made ty bits k of fits = record {
    ty = ty;
    results = refl;
    of = of;
    bare = refl;
    numeric = ap is_some by_constant;
    unset = refl;
    risen = refl;
    takes =
        ap (λ r. takes_its r (Some k) (head (constant ty bits)) []) by_constant
        ∙ and_from (is_width (width_of k)) (are_its_bits (fold_of (head (constant ty bits)).name (head (constant ty bits)).properties [] (head (constant ty bits)).results)) (and_parts (is_width (width_of k)) _ fits).0
        (ap are_its_bits (constant_folds ty k bits of) ∙ fits);
  }

module _ (c : Assignment) (done later : ℕ → Bool) (x : ℕ) where
  pub binary_gives : (name : List ℕ) (ty : TypeTerm) (u v : Value) (k : BitsKind) (o : Arithmetic) (p q : Outcome) → rule_of name ≡ Some (how.Binary o) → is_signed_quotient (Some (how.Binary o)) ≡ false → kind_of ty ≡ Some k → IsTotal o
      → c u ≡ p → c v ≡ q → IsKind k p → IsKind k q → IsOfBits p → IsOfBits q → (done x ≡ true → is_there later u ≡ true) → (done x ≡ true → is_there later v ≡ true)
      → GivesOne c done later x (binary name ty u v) k (pair_out o p q)
  binary_gives name ty u v k o p q e s of total i j f g hf hg there also =
      let is = pair_is o k p q total f g in
      record {
        of = pair_kind o k p q (pair_out o p q) f is;
        bits = pair_bits o p q (pair_out o p q) hf hg is;
        made = λ d. makes_is (head (binary name ty u v)) (c u ∷ c v ∷ []) (how.Binary o) k e of ∙ (λ t. pair_outcome o (i t) (j t)) ∙ is;
        sure = λ d. ap (λ r. is_signed_quotient r && is_poison_by_ones (c u ∷ c v ∷ [])) e ∙ ap (λ b. b && is_poison_by_ones (c u ∷ c v ∷ [])) s;
        fed = λ d. and_from (is_there later u) (is_there later v && true) (there d) (and_from (is_there later v) true (also d) refl);
      }

  pub constant_gives_one : (ty : TypeTerm) (k : BitsKind) (bits : ℕ) → kind_of ty ≡ Some k → is_bits k bits ≡ true → GivesOne c done later x (constant ty bits) k (Some (k, bits))
  constant_gives_one ty k bits of fits = record {
    of = number_kind k bits;
    bits = number_bits k bits fits;
    made = λ d. constant_makes ty k bits of;
    sure = λ d. ap (λ r. is_signed_quotient r && is_poison_by_ones []) by_constant;
    fed = λ d. refl;
  }

-- ---- existing constants
results_one : (name : List ℕ) (props : List (List ℕ × AttrTerm)) (results : List TypeTerm) (x : Known) → fold_of name props [] results ≡ Some x → (ty : TypeTerm) × (results ≡ ty ∷ [])
unfolding fold_of
results_one name props [] x e = absurd (none-some x e)
results_one name props (ty ∷ uy ∷ tys) x e = absurd (none-some x e)
results_one name props (ty ∷ []) x e = (ty, refl)

pub known_kind : (m : Module) (v : Value) (x : Known) → AreKinded m.tree → has_value v m.tree ≡ true → known m.tree v ≡ Some x → (kind_in m.tree v ≡ Some x.0) × (is_bits x.0 x.1 ≡ true)
unfolding known
known_kind m v x kinded there e =
    let g = given_some (source m.tree (codes "arith.constant") v) constant_value x e in
    let r = results_one g.0.name g.0.properties g.0.results x g.2 in
    let s = sole_of m (λ h. named (codes "arith.constant") h.name && is_verified m.tree h) v g.0 g.1 there r.0 r.1 in
    let name = ap rule_of (ap (λ (h : Header). h.name) s.heads ∙ named_is (codes "arith.constant") g.0.name (and_parts (named (codes "arith.constant") g.0.name) (is_verified m.tree g.0) s.passed).0) ∙ by_constant in
    let folds : fold_of (head s.here).name (head s.here).properties [] (head s.here).results ≡ Some x = subst (λ (h : Header). fold_of h.name h.properties [] h.results ≡ Some x) (sym s.heads) g.2 in
    let own = fold_kind (head s.here).name (head s.here).properties [] (head s.here).results x folds in
    let k = known_kinds m.tree (head s.here) (each_found (λ h. is_kinded m.tree h ≡ true) s.id m.tree kinded s.here s.found).0 how.Constant name x.0 own in (
      s.kind ∙ fold_kind (head s.here).name (head s.here).properties [] (head s.here).results x folds,
      sym (ap are_its_bits folds) ∙ k.operands,
    )
