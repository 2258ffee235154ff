-- The rule that expands a remainder to a division keeps modules ready, and refines what they compute if no division
-- overflows.
use Rattle.std.proofs.Common.{◌≡◌, ℕ, ◌+◌, ◌<◌, ◌≤◌, ◌^◌, ◌%◌, refl, ap, sym, ◌∙◌, subst, List, [], ◌∷◌, map, Bool, true, false, true≢false, ◌&&◌, not, Option, Some, None, inl, inr, arith}
use Rattle.std.specs.Prelude.{◌==◌, ◌/◌, codes, if◌then◌else◌, int_div, int_rem}
use Rattle.std.specs.Str.{bytes_eq}
use Rattle.std.proofs.lemmas.Bool.{and_from}
use Rattle.std.proofs.lemmas.Option.{none-some, same_Some}
use Rattle.std.proofs.lemmas.Slice.Eq.{bytes_eq-Decides}
use Rattle.ir_types.specs.declared.bits.BitsKind.{BitsKind}
use Rattle.ir_types.specs.Bits.{width_of}
use Rattle.ir_types.specs.Readings.{signed_of, wrapped}
use Rattle.ir_types.specs.Terms.{TypeTerm}
use Rattle.ir_tree.specs.declared.value.Value.{Value}
use Rattle.ir_tree.specs.declared.value.Value.TheVariants.{Result}
use Rattle.ir_tree.specs.Tree.{head}
use Rattle.ir_tree_laws.proofs.Reasoned.{some_there}
use Rattle.ir_event.specs.Modules.{Module}
use Rattle.op_registry.specs.Registry.{next_to}
use Rattle.dialects_int.specs.declared.operations.Arithmetic.{Arithmetic}
use Rattle.dialects_int.specs.declared.operations.Arithmetic.TheVariants as op
use Rattle.dialects_int.specs.declared.operations.Rule.TheVariants as how
use Rattle.dialects_int.specs.Arithmetic.{all_ones, difference_of, divides_signed, least, product_of, quotient_of, remainder_of, signed_quotient_of, signed_remainder_of, value_of}
use Rattle.dialects_int.specs.Folds.{Known, kind_of, rule_of, rules}
use Rattle.dialects_int.proofs.CastLaws.{rest_of_quotient}
use Rattle.dialects_int.proofs.KnownOperands.{same_itself}
use Rattle.dialects_int.proofs.Remainders.{rest_of_signed_quotient}
use Rattle.rewriter_machine.specs.Edits.{Make}
use Rattle.user_patterns_check.specs.Checks.{refines}
use Rattle.user_patterns_check.specs.Outcomes.{Outcome, divides, given, is_signed_remainder, is_some_number, checked, pair_outcome}
use Rattle.patterns_laws.specs.Keeps.{Each as EachOf}
use Rattle.patterns_laws.specs.Made.{binary}
use Rattle.patterns_laws.specs.Words.{division_of_remainder}
use Rattle.patterns_laws.proofs.KnownFolds.{below, given_some, some_bits}
use Rattle.patterns_base.specs.declared.rule.Rule.TheVariants.{ExpandRemainder}
use Rattle.patterns_base.specs.Makes.{give_new}
use Rattle.patterns_base.specs.Rules.{rule}
use Rattle.patterns_soundness.specs.Accepted.{AreAccepted}
use Rattle.patterns_soundness.proofs.Shapes.{two_is}
use Rattle.user_patterns_data.specs.Matching.{Header}
use Rattle.patterns_refinement.specs.Meaning.{Assignment, makes, of_two, Obeys}
use Rattle.patterns_refinement.specs.Better.{is_kind, is_poison_by_ones, is_signed_quotient, kind_in}
use Rattle.patterns_refinement.specs.Keeping.{KeepsReady, done_after, is_there}
use Rattle.patterns_refinement.specs.Remainders.{ExpandsRemainders, HasQuotient, is_signed, overflows}
use Rattle.patterns_refinement.proofs.Dropping.{kind_by, of_two_is, pair_refined}
use Rattle.patterns_refinement.proofs.Expanding.{OnTwo, on_two_values, third_at}
use Rattle.patterns_refinement.proofs.Firsts.{poison_refined}
use Rattle.patterns_refinement.proofs.Forms.{makes_is}
use Rattle.patterns_refinement.proofs.Giving.{after_new}
use Rattle.patterns_refinement.proofs.Joining.{by_subtract}
use Rattle.patterns_refinement.proofs.Makings.{GivesNew, GivesOne, GivesOutcomes, all_agree, all_at, new_improves, new_ready, still_there, with_all}
use Rattle.patterns_refinement.proofs.Monotone.{none_made, same_refined}
use Rattle.patterns_refinement.proofs.OfBits.{IsOfBits, pair_bits}
use Rattle.patterns_refinement.proofs.OfKinds.{IsKind, pair_kind}
use Rattle.patterns_refinement.proofs.Pairs.{IsTotal, binary_gives, binary_made, is_its_kind, pair_known, pair_out}
use Rattle.patterns_refinement.proofs.Ruled.{Ruled, Site, of_rule, ruled, site_of, value_bits, root_has}
use Rattle.patterns_refinement.proofs.Trees.{found_fit}

by_multiply : rule_of (codes "arith.muli") ≡ Some (how.Binary op.Multiply)
unfolding rule_of rules
by_multiply = refl

multiplies : IsTotal op.Multiply
multiplies = (refl, (λ w a b. (product_of w a b, refl)))

subtracts : IsTotal op.Subtract
subtracts = (refl, (λ w a b. (difference_of w a b, refl)))

-- ---- a remainder as a division
-- whether the division overflows
abbrev is_over : Arithmetic → ℕ → ℕ → ℕ → Bool
is_over r w a b = is_signed_remainder r && ((a == least w) && (b == all_ones w))

record IsDividing (name division : List ℕ) : Type 0 where
  pub rest : Arithmetic
  pub quotient : Arithmetic
  pub by : rule_of name ≡ Some (how.Binary rest)
  pub by_division : rule_of division ≡ Some (how.Binary quotient)
  pub rest_divides : divides rest ≡ true
  pub quotient_divides : divides quotient ≡ true
  pub both_signed : is_signed_quotient (Some (how.Binary quotient)) ≡ is_signed_remainder rest
  pub by_zero : (w a b : ℕ) → (b == 0) ≡ true → value_of rest w a b ≡ None
  pub law : (w a b : ℕ) → 1 ≤ w → a < 2 ^ w → b < 2 ^ w → (b == 0) ≡ false → is_over rest w a b ≡ false → (q : ℕ) × (value_of quotient w a b ≡ Some q) × (value_of rest w a b ≡ Some (difference_of w a (product_of w q b)))

signed_there : (w a b : ℕ) → divides_signed w a b ≡ true → signed_quotient_of w a b ≡ Some (wrapped w (int_div (signed_of w a) (signed_of w b)))
unfolding signed_quotient_of
signed_there w a b g = ap (λ c. if c then Some (wrapped w (int_div (signed_of w a) (signed_of w b))) else None) g

signed_law : (w a b : ℕ) → 1 ≤ w → a < 2 ^ w → b < 2 ^ w → (b == 0) ≡ false → ((a == least w) && (b == all_ones w)) ≡ false → (q : ℕ) × (signed_quotient_of w a b ≡ Some q) × (signed_remainder_of w a b ≡ Some (difference_of w a (product_of w q b)))
signed_law w a b some la lb e f =
    let there = signed_there w a b (λ i. not (e i) && not (f i)) in
    (wrapped w (int_div (signed_of w a) (signed_of w b)), there, rest_of_signed_quotient w a b (wrapped w (int_div (signed_of w a) (signed_of w b))) some la lb there)

signed_by_zero : (w a b : ℕ) → (b == 0) ≡ true → signed_remainder_of w a b ≡ None
unfolding signed_remainder_of
signed_by_zero w a b e = ap (λ c. if not c && not ((a == least w) && (b == all_ones w)) then Some (wrapped w (int_rem (signed_of w a) (signed_of w b))) else None) e

unsigned_there : (a b : ℕ) → (b == 0) ≡ false → quotient_of a b ≡ Some (a / b)
unfolding quotient_of
unsigned_there a b e = ap (λ c. if c then None else Some (a / b)) e

unsigned_law : (w a b : ℕ) → 1 ≤ w → a < 2 ^ w → b < 2 ^ w → (b == 0) ≡ false → (q : ℕ) × (quotient_of a b ≡ Some q) × (remainder_of a b ≡ Some (difference_of w a (product_of w q b)))
unsigned_law w a b some la lb e = let there = unsigned_there a b e in (a / b, there, rest_of_quotient w a b (a / b) la there)

unsigned_by_zero : (a b : ℕ) → (b == 0) ≡ true → remainder_of a b ≡ None
unfolding remainder_of
unsigned_by_zero a b e = ap (λ c. if c then None else Some (a % b)) e

dividing_rows : EachOf (λ (row : List ℕ × List ℕ). IsDividing row.0 row.1) division_of_remainder
unfolding rule_of rules division_of_remainder
dividing_rows = (
  record {
    rest = op.RemainderSigned;
    quotient = op.DivideSigned;
    by = refl;
    by_division = refl;
    rest_divides = refl;
    quotient_divides = refl;
    both_signed = refl;
    by_zero = λ w a b e. signed_by_zero w a b e;
    law = λ w a b s la lb e f. signed_law w a b s la lb e f;
  },
  (
    record {
      rest = op.RemainderUnsigned;
      quotient = op.DivideUnsigned;
      by = refl;
      by_division = refl;
      rest_divides = refl;
      quotient_divides = refl;
      both_signed = refl;
      by_zero = λ w a b e. unsigned_by_zero a b e;
      law = λ w a b s la lb e f. unsigned_law w a b s la lb e;
    },
    tt,
  ),
)

row_there : (rows : List (List ℕ × List ℕ)) (name division : List ℕ) → EachOf (λ (row : List ℕ × List ℕ). IsDividing row.0 row.1) rows → next_to name rows ≡ Some division → IsDividing name division
row_there [] name division each e = absurd (none-some division e)
row_there (row ∷ rows) name division each e = go (bytes_eq name row.0) refl e (row_there rows name division each.1)
  where
    go : (b : Bool) → bytes_eq name row.0 ≡ b → (if b then Some row.1 else next_to name rows) ≡ Some division → (next_to name rows ≡ Some division → IsDividing name division) → IsDividing name division
    go true i e more =
        let same : row.1 ≡ division = same_Some _ _ e in
        subst (λ division. IsDividing name division) same (subst (λ name. IsDividing name row.1) (sym ((bytes_eq-Decides name row.0).0 i)) each.0)
    go false i e more = more e

-- ---- the outcome of a remainder, given its operands' outcomes
abbrev rebuilt : Arithmetic → Outcome → Outcome → Outcome
rebuilt d p q = pair_out op.Subtract p (pair_out op.Multiply (pair_out d p q) q)

module _ (name division : List ℕ) (i : IsDividing name division) where
  -- the division is defined if the remainder is, and the result computed from it equals the remainder
  abbrev IsRebuilt : Outcome → Outcome → Outcome → Type 0
  IsRebuilt p q z = (pair_outcome i.quotient p q ≡ Some (pair_out i.quotient p q)) × (refines z (rebuilt i.quotient p q) ≡ true)

  known_rebuilt : (k : BitsKind) (a b : ℕ) (z : Outcome) → IsOfBits (Some (k, a)) → IsOfBits (Some (k, b)) → is_over i.rest (width_of k) a b ≡ false → pair_outcome i.rest (Some (k, a)) (Some (k, b)) ≡ Some z → IsRebuilt (Some (k, a)) (Some (k, b)) z
  known_rebuilt k a b z ha hb over e = go (b == 0) refl (sym (ap (λ c. if c then checked i.rest k b (value_of i.rest (width_of k) a b) else None) (same_itself k)) ∙ e)
    where
      w : ℕ
      w = width_of k

      undefined : (b == 0) ≡ true → checked i.rest k b None ≡ None
      undefined f = nothing (is_signed_remainder i.rest) (b == 0) (divides i.rest) f i.rest_divides (Some (Some (k, 0)))
        where
          nothing : (c d e : Bool) → d ≡ true → e ≡ true → (zero : Option Outcome) → (if c && not d then zero else (if e then None else Some None)) ≡ None
          nothing c false e f g zero = absurd (true≢false (sym f))
          nothing c true false f g zero = absurd (true≢false (sym g))
          nothing true true true f g zero = refl
          nothing false true true f g zero = refl

      go : (c : Bool) → (b == 0) ≡ c → checked i.rest k b (value_of i.rest (width_of k) a b) ≡ Some z → IsRebuilt (Some (k, a)) (Some (k, b)) z
      go true f g = absurd (none-some z (sym (ap (checked i.rest k b) (i.by_zero (width_of k) a b f) ∙ undefined f) ∙ g))
      go false f g =
          let l = i.law (width_of k) a b (some_bits k a (ha (k, a) refl)) (below k a (ha (k, a) refl)) (below k b (hb (k, b) refl)) f over in
          let quotient : pair_outcome i.quotient (Some (k, a)) (Some (k, b)) ≡ Some (Some (k, l.0)) = pair_known i.quotient k a b l.0 l.1 in
          let out : pair_out i.quotient (Some (k, a)) (Some (k, b)) ≡ Some (k, l.0) = ap (λ r. given r (λ z. z)) quotient in
          let product = product_of (width_of k) l.0 b in
          let times : pair_out op.Multiply (pair_out i.quotient (Some (k, a)) (Some (k, b))) (Some (k, b)) ≡ Some (k, product) =
          ap (λ r. given r (λ z. z)) (ap (λ o. pair_outcome op.Multiply o (Some (k, b))) out ∙ pair_known op.Multiply k l.0 b product refl) in
          let rest = difference_of (width_of k) a product in
          let whole : rebuilt i.quotient (Some (k, a)) (Some (k, b)) ≡ Some (k, rest) =
          ap (λ r. given r (λ z. z)) (ap (λ o. pair_outcome op.Subtract (Some (k, a)) o) times ∙ pair_known op.Subtract k a product rest refl) in
          let is : Some (k, rest) ≡ z = same_Some _ _ (sym (ap (checked i.rest k b) l.2) ∙ g) in
          (quotient ∙ ap (λ o. Some o) (sym out), same_refined z (rebuilt i.quotient (Some (k, a)) (Some (k, b))) (sym is ∙ sym whole))

  rebuilt_is : (k : BitsKind) (p q z : Outcome) → IsKind k p → IsKind k q → IsOfBits p → IsOfBits q → (is_signed_remainder i.rest && overflows (p ∷ q ∷ [])) ≡ false → pair_outcome i.rest p q ≡ Some z → IsRebuilt p q z
  rebuilt_is k None q z kp kq hp hq o e =
      let n = none_made (divides i.rest && not (is_some_number q)) z e in
      let same : divides i.quotient ≡ divides i.rest = i.quotient_divides ∙ sym i.rest_divides in
      let there : pair_outcome i.quotient None q ≡ Some None = ap (λ d. if d && not (is_some_number q) then None else Some None) same ∙ ap (λ c. if c then None else Some None) n.0 in
      (there ∙ ap (λ r. Some (given r (λ z. z))) (sym there), poison_refined z (rebuilt i.quotient None q) n.1)
  rebuilt_is k (Some x) None z kp kq hp hq o e = absurd (none-some z (sym (ap (λ d. if d then None else Some None) i.rest_divides) ∙ e))
  rebuilt_is k (Some x) (Some y) z kp kq hp hq o e =
      let first : x ≡ (k, x.1) = (let s = kp x refl in (λ j. (s j, x.1))) in
      let second : y ≡ (k, y.1) = (let s = kq y refl in (λ j. (s j, y.1))) in
      let there =
      known_rebuilt k x.1 y.1 z (subst (λ (x : Known). IsOfBits (Some x)) first hp) (subst (λ (y : Known). IsOfBits (Some y)) second hq)
      (sym (λ j. is_signed_remainder i.rest && overflows (Some (first j) ∷ Some (second j) ∷ [])) ∙ o) (sym (λ j. pair_outcome i.rest (Some (first j)) (Some (second j))) ∙ e) in
      subst (λ (y : Known). IsRebuilt (Some x) (Some y) z) (sym second) (subst (λ (x : Known). IsRebuilt (Some x) (Some (k, y.1)) z) (sym first) there)

  -- the division isn't one of poison by -1
  sure_quotient : (p q : Outcome) → (is_signed_remainder i.rest && overflows (p ∷ q ∷ [])) ≡ false → (is_signed_quotient (Some (how.Binary i.quotient)) && is_poison_by_ones (p ∷ q ∷ [])) ≡ false
  sure_quotient None None o = nothing (is_signed_quotient (Some (how.Binary i.quotient)))
    where
      nothing : (c : Bool) → (c && false) ≡ false
      nothing true = refl
      nothing false = refl
  sure_quotient None (Some y) o = ap (λ c. c && (y.1 == all_ones (width_of y.0))) i.both_signed ∙ o
  sure_quotient (Some x) q o = nothing (is_signed_quotient (Some (how.Binary i.quotient)))
    where
      nothing : (c : Bool) → (c && false) ≡ false
      nothing true = refl
      nothing false = refl

-- the outcome of two outcomes has their kind and is in range, or there is none
out_kind : (o : Arithmetic) (k : BitsKind) (p q : Outcome) → IsKind k p → IsKind k (pair_out o p q)
out_kind o k p q h = go (pair_outcome o p q) refl
  where
    go : (r : Option Outcome) → pair_outcome o p q ≡ r → IsKind k (given r (λ z. z))
    go None e = λ y i. absurd (none-some y i)
    go (Some z) e = pair_kind o k p q z h e

out_bits : (o : Arithmetic) (p q : Outcome) → IsOfBits p → IsOfBits q → IsOfBits (pair_out o p q)
out_bits o p q h g = go (pair_outcome o p q) refl
  where
    go : (r : Option Outcome) → pair_outcome o p q ≡ r → IsOfBits (given r (λ z. z))
    go None e = λ y i. absurd (none-some y i)
    go (Some z) e = pair_bits o p q z h g e

-- a binary operation that may be undefined for other operands
module _ (c : Assignment) (done later : ℕ → Bool) (x : ℕ) where
  division_gives : (name : List ℕ) (ty : TypeTerm) (u v : Value) (k : BitsKind) (o : Arithmetic) (p q : Outcome) → rule_of name ≡ Some (how.Binary o) → kind_of ty ≡ Some k → c u ≡ p → c v ≡ q → IsKind k p → IsOfBits p → IsOfBits q
      → (done x ≡ true → pair_outcome o p q ≡ Some (pair_out o p q)) → (done x ≡ true → (is_signed_quotient (Some (how.Binary o)) && is_poison_by_ones (p ∷ q ∷ [])) ≡ false)
      → (done x ≡ true → is_there later u ≡ true) → (done x ≡ true → is_there later v ≡ true) → GivesOne c done later x (binary name ty u v) k (pair_out o p q)
  division_gives name ty u v k o p q e of i j f hf hg is sure there also = record {
    of = out_kind o k p q f;
    bits = out_bits o p q hf hg;
    made = λ d. makes_is (head (binary name ty u v)) (c u ∷ c v ∷ []) (how.Binary o) k e of ∙ (λ t. pair_outcome o (i t) (j t)) ∙ is d;
    sure = λ d. (λ t. is_signed_quotient (e t) && is_poison_by_ones (i t ∷ j t ∷ [])) ∙ sure d;
    fed = λ d. and_from (is_there later u) (is_there later v && true) (there d) (and_from (is_there later v) true (also d) refl);
  }

-- ---- the rule
module _ (accepted : AreAccepted) where
  record Remains (m n : Module) (x : ℕ) (q : Ruled ExpandRemainder m n x) : Type 0 where
    pub first : Value
    pub second : Value
    pub ty : TypeTerm
    pub operands : (head q.here).operands ≡ first ∷ second ∷ []
    pub results : (head q.here).results ≡ ty ∷ []
    pub division : List ℕ
    pub divides_it : IsDividing (head q.here).name division
    pub edits : Make q.insertion (binary division ty first second) ∷ Make q.insertion (binary (codes "arith.muli") ty (Result m.next 0) second)
        ∷ give_new q.insertion (m.next + 2) (head q.here).id (binary (codes "arith.subi") ty first (Result (m.next + 1) 0)) ≡ q.edits

  remains_here : (m n : Module) (x : ℕ) (q : Ruled ExpandRemainder m n x) → Remains m n x q
  unfolding rule
  remains_here m n x q =
      let h = head q.here in
      let w = two_is h (λ p. given (next_to p.name division_of_remainder) (λ division. Some (Make q.insertion (binary division p.ty p.first p.second) ∷ Make q.insertion (binary (codes "arith.muli") p.ty (Result m.next 0) p.second) ∷ give_new q.insertion (m.next + 2) h.id (binary (codes "arith.subi") p.ty p.first (Result (m.next + 1) 0))))) q.edits q.made in
      let g = given_some (next_to h.name division_of_remainder) (λ division. Some (Make q.insertion (binary division w.ty w.first w.second) ∷ Make q.insertion (binary (codes "arith.muli") w.ty (Result m.next 0) w.second) ∷ give_new q.insertion (m.next + 2) h.id (binary (codes "arith.subi") w.ty w.first (Result (m.next + 1) 0)))) q.edits w.makes in
      record { first = w.first; second = w.second; ty = w.ty; operands = w.operands; results = w.results; division = g.0; divides_it = row_there division_of_remainder h.name g.0 dividing_rows g.1; edits = same_Some _ _ g.2 }

  module _ (m n : Module) (x : ℕ) (q : Ruled ExpandRemainder m n x) (w : Remains m n x q) (k : OnTwo ExpandRemainder m n x q w.first w.second w.ty) where
    remainder_new : GivesNew ExpandRemainder m n x q
    remainder_new =
        let value_types = Some k.kind ∷ Some k.kind ∷ Some k.kind ∷ [] in
        let f = with_all (kind_in m.tree) m.next None value_types in
        let at = all_at (kind_in m.tree) m.next None value_types in
        let first : is_kind k.kind (f w.first) ≡ true = ap (is_kind k.kind) (all_agree (kind_in m.tree) m.next None value_types w.first k.first_below) ∙ k.first_is in
        let second : is_kind k.kind (f w.second) ≡ true = ap (is_kind k.kind) (all_agree (kind_in m.tree) m.next None value_types w.second k.second_below) ∙ k.second_is in
        record {
          made = binary w.division w.ty w.first w.second ∷ binary (codes "arith.muli") w.ty (Result m.next 0) w.second ∷ binary (codes "arith.subi") w.ty w.first (Result (m.next + 1) 0) ∷ [];
          value_types = k.kind ∷ k.kind ∷ k.kind ∷ [];
          value = Result (m.next + 2) 0;
          edits =
              sym w.edits
              ∙ ap (λ y. Make q.insertion (binary w.division w.ty w.first w.second) ∷ Make q.insertion (binary (codes "arith.muli") w.ty (Result m.next 0) w.second) ∷ give_new q.insertion (m.next + 2) y (binary (codes "arith.subi") w.ty w.first (Result (m.next + 1) 0))) q.id;
          are = (
            binary_made f w.division w.ty w.first w.second k.kind w.divides_it.quotient w.divides_it.by_division k.of k.width first second,
            (
              binary_made f (codes "arith.muli") w.ty (Result m.next 0) w.second k.kind op.Multiply by_multiply k.of k.width (ap (is_kind k.kind) (at.0 0) ∙ is_its_kind k.kind) second,
              (binary_made f (codes "arith.subi") w.ty w.first (Result (m.next + 1) 0) k.kind op.Subtract by_subtract k.of k.width first (ap (is_kind k.kind) (at.1.0 0) ∙ is_its_kind k.kind), tt),
            ),
          );
        }

    module _ (a : Assignment) (done : ℕ → Bool) (s : Site m a done x q.here) (has : done x ≡ true → (is_signed_remainder w.divides_it.rest && overflows (a w.first ∷ a w.second ∷ [])) ≡ false) where
      first_of : IsKind k.kind (a w.first)
      first_of y e = kind_by m a done x q.here s w.first k.kind y k.first_is e

      second_of : IsKind k.kind (a w.second)
      second_of y e = kind_by m a done x q.here s w.second k.kind y k.second_is e

      first_bits : IsOfBits (a w.first)
      first_bits = value_bits m a done x q.here s w.first k.first

      second_bits : IsOfBits (a w.second)
      second_bits = value_bits m a done x q.here s w.second k.second

      -- the operation has an outcome if it is executed
      rest_made : done x ≡ true → (z : Outcome) × (pair_outcome w.divides_it.rest (a w.first) (a w.second) ≡ Some z)
      rest_made d =
          let h = head q.here in
          let r = of_rule m a done x q.here s (how.Binary w.divides_it.rest) w.divides_it.by in
          let z = made_there h (found_fit a done m.tree s.computing.fits x q.here s.found d r.arithmetic) in (
            z.0,
            subst (λ vs. of_two (pair_outcome w.divides_it.rest) (map a vs) ≡ Some z.0) w.operands (sym (makes_is h (map a h.operands) (how.Binary w.divides_it.rest) r.kind w.divides_it.by r.is) ∙ z.1),
          )
        where
          made_there : (h : Header) → Obeys a x h → (z : Outcome) × (makes h (map a h.operands) ≡ Some z)
          made_there h (inl f) = (a (Result x 0), f.0)
          made_there h (inr b) = some_there (makes h (map a h.operands)) b.1

      defined : done x ≡ true → pair_outcome w.divides_it.quotient (a w.first) (a w.second) ≡ Some (pair_out w.divides_it.quotient (a w.first) (a w.second))
      defined d =
          let z = rest_made d in
          (rebuilt_is (head q.here).name w.division w.divides_it k.kind (a w.first) (a w.second) z.0 first_of second_of first_bits second_bits (has d) z.1).0

      remainder_outcomes : GivesOutcomes ExpandRemainder m n x q remainder_new a done
      unfolding remainder_new
      remainder_outcomes =
          let quotient = pair_out w.divides_it.quotient (a w.first) (a w.second) in
          let product = pair_out op.Multiply quotient (a w.second) in
          let out = pair_out op.Subtract (a w.first) product in
          let zs = quotient ∷ product ∷ out ∷ [] in
          let c = with_all a m.next None zs in
          let at = all_at a m.next None zs in
          let later = done_after m.next x done in
          let two = of_two_is m a done x q.here s w.first w.second w.operands in
          let first = all_agree a m.next None zs w.first k.first_below in
          let second = all_agree a m.next None zs w.second k.second_below in
          let quotient_of_kind = out_kind w.divides_it.quotient k.kind (a w.first) (a w.second) first_of in
          let quotient_bits = out_bits w.divides_it.quotient (a w.first) (a w.second) first_bits second_bits in
          let product_of_kind = out_kind op.Multiply k.kind quotient (a w.second) quotient_of_kind in
          let product_bits = out_bits op.Multiply quotient (a w.second) quotient_bits second_bits in
          let first_there : done x ≡ true → is_there later w.first ≡ true = (λ d. still_there m.next x done w.first k.first_below (two.first_there d)) in
          let second_there : done x ≡ true → is_there later w.second ≡ true = (λ d. still_there m.next x done w.second k.second_below (two.second_there d)) in
          record {
            outcomes = zs;
            give = (
              division_gives c done later x w.division w.ty w.first w.second k.kind w.divides_it.quotient (a w.first) (a w.second) w.divides_it.by_division k.of first second first_of first_bits second_bits
                  defined (λ d. sure_quotient (head q.here).name w.division w.divides_it (a w.first) (a w.second) (has d)) first_there second_there,
              (
                binary_gives c done later x (codes "arith.muli") w.ty (Result m.next 0) w.second k.kind op.Multiply quotient (a w.second) by_multiply refl k.of multiplies (at.0 0) second quotient_of_kind second_of quotient_bits second_bits
                    (λ d. after_new m.next x done m.next (omega arith) ∙ d) second_there,
                (
                  binary_gives c done later x (codes "arith.subi") w.ty w.first (Result (m.next + 1) 0) k.kind op.Subtract (a w.first) product by_subtract refl k.of subtracts first (at.1.0 0) first_of product_of_kind first_bits product_bits
                      first_there (λ d. after_new m.next x done (m.next + 1) (omega arith) ∙ d),
                  tt,
                ),
              ),
            );
            better = λ d.
                subst (λ o. refines (a (Result x 0)) o ≡ true) (sym (third_at c m.next out (at.1.1.0 0)))
                (pair_refined m a done x q.here s w.divides_it.rest w.first w.second out w.divides_it.by w.operands d
                (λ z e. (rebuilt_is (head q.here).name w.division w.divides_it k.kind (a w.first) (a w.second) z first_of second_of first_bits second_bits (has d) e).1));
            there = λ d. after_new m.next x done (m.next + 2) (omega arith) ∙ d;
          }

  pub expand_remainder_ready : KeepsReady ExpandRemainder
  expand_remainder_ready m n x ready e =
      let q = ruled accepted ExpandRemainder m n x ready.wellformed ready.sorted e in
      let w = remains_here m n x q in
      new_ready ExpandRemainder m n x q (remainder_new m n x q w (on_two_values ExpandRemainder m n x q w.divides_it.rest w.first w.second w.ty refl ready w.divides_it.by w.operands w.results)) ready

  pub expands_remainders : ExpandsRemainders
  expands_remainders m n x o a done ready computing found has e =
      let q = ruled accepted ExpandRemainder m n x ready.wellformed ready.sorted e in
      let w = remains_here m n x q in
      let k = on_two_values ExpandRemainder m n x q w.divides_it.rest w.first w.second w.ty refl ready w.divides_it.by w.operands w.results in
      let s = site_of m a done x q.here ready.wellformed ready.kinded computing q.found (root_has q ready.wellformed ready.kinded refl) in
      let same : o ≡ q.here = same_Some _ _ (sym found ∙ q.found) in
      let quotient : done x ≡ true → (is_signed_remainder w.divides_it.rest && overflows (a w.first ∷ a w.second ∷ [])) ≡ false =
      (λ d. sym (λ i. is_signed (w.divides_it.by i) && overflows (map a (w.operands i))) ∙ subst (HasQuotient a done) (ap head same) has (ap done q.id ∙ d)) in
      new_improves ExpandRemainder m n x q (remainder_new m n x q w k) a done (remainder_outcomes m n x q w k a done s quotient) ready refl (expand_remainder_ready m n x ready e).kinded computing
