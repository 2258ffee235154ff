-- Rules that combine constants keep modules ready and refine what they compute.
use Rattle.std.proofs.Common.{◌≡◌, ℕ, ◌+◌, ◌<◌, refl, ap, sym, ◌∙◌, subst, List, [], ◌∷◌, map, Bool, true, false, ◌&&◌, Option, Some, None, ◌⊎◌, inl, inr, slice_get, arith}
use Rattle.std.specs.Prelude.{bit_and, bit_or, bit_xor, codes, is_some}
use Rattle.std.specs.List.{list_all}
use Rattle.std.proofs.lemmas.Bool.{and_parts}
use Rattle.std.proofs.lemmas.Option.{none-some, same_Some}
use Rattle.ir_types.specs.declared.bits.BitsKind.{BitsKind}
use Rattle.ir_types.specs.Bits.{is_bits, width_of}
use Rattle.ir_types.specs.Readings.{type_width}
use Rattle.ir_types.specs.Reasons.{is_width}
use Rattle.ir_types.specs.Terms.{TypeTerm}
use Rattle.ir_types.specs.Words.{is_isolated}
use Rattle.ir_tree.specs.declared.value.Value.{Value}
use Rattle.ir_tree.specs.declared.value.Value.TheVariants.{Result}
use Rattle.ir_tree.specs.Tree.{head}
use Rattle.ir_tree_laws.specs.Values.{has_value}
use Rattle.ir_event.specs.Modules.{Module}
use Rattle.dialects_int.specs.declared.operations.Arithmetic.{Arithmetic}
use Rattle.dialects_int.specs.declared.operations.Arithmetic.TheVariants as op
use Rattle.dialects_int.specs.declared.operations.Rule.TheVariants as how
use Rattle.dialects_int.specs.Arithmetic.{difference_of, product_of, sum_of, value_of}
use Rattle.dialects_int.specs.Laws.{associates}
use Rattle.dialects_int.specs.Folds.{Known, fold_of, kind_of, rule_of, rules}
use Rattle.dialects_int.proofs.CastLaws.{less_constant}
use Rattle.dialects_int.proofs.PairLaws.{brackets}
use Rattle.rewriter_machine.specs.Contents.{Edit}
use Rattle.rewriter_machine.specs.Edits.{Make}
use Rattle.user_patterns_check.specs.Checks.{refines}
use Rattle.user_patterns_check.specs.Outcomes.{Outcome, given, pair_outcome}
use Rattle.patterns_laws.specs.Made.{binary, constant}
use Rattle.patterns_laws.specs.Keeps.{Each as EachOf}
use Rattle.patterns_laws.specs.Words.{among, named, associative}
use Rattle.patterns_laws.proofs.KnownFolds.{below, given_some, pair_gave}
use Rattle.patterns_base.specs.declared.rule.Rule.{Rule}
use Rattle.patterns_base.specs.declared.rule.Rule.TheVariants.{AddNegative, RegroupConstants}
use Rattle.patterns_base.specs.Looks.{is_verified, known, source, two, when}
use Rattle.patterns_base.specs.Makes.{give_new}
use Rattle.patterns_base.specs.Rules.{rule}
use Rattle.patterns_base.specs.Folding.{regrouped}
use Rattle.patterns_base.proofs.Dispatch.{of_among}
use Rattle.patterns_base.proofs.Facts.{when_some}
use Rattle.patterns_soundness.specs.Accepted.{AreAccepted}
use Rattle.patterns_soundness.proofs.Shapes.{two_is}
use Rattle.user_patterns_data.specs.Matching.{Header}
use Rattle.patterns_refinement.specs.Meaning.{Assignment, of_two, owner}
use Rattle.patterns_refinement.specs.Better.{is_kind, is_kinded, is_signed_quotient, kind_in, takes}
use Rattle.patterns_refinement.specs.Keeping.{Computing, IsReady, KeepsComputing, KeepsReady, done_after, is_there}
use Rattle.patterns_refinement.proofs.Dropping.{known_is, kind_by, of_two_is, pair_refined, widths}
use Rattle.patterns_refinement.proofs.Firsts.{poison_refined}
use Rattle.patterns_refinement.proofs.Wellformed.{is_below, operands_stand}
use Rattle.patterns_refinement.proofs.Forms.{named_is}
use Rattle.patterns_refinement.proofs.Giving.{after_new}
use Rattle.patterns_refinement.proofs.Makings.{GivesNew, GivesOutcomes, all_agree, all_at, new_improves, new_ready, still_there, with_all}
use Rattle.patterns_refinement.proofs.Monotone.{same_refined}
use Rattle.patterns_refinement.proofs.News.{type_is_of}
use Rattle.patterns_refinement.proofs.Pairs.{IsTotal, Paired, binary_gives, binary_made, constant_gives_one, constant_made, is_its_kind, known_kind, number_bits, number_kind, pair_known, pair_out, paired, value_fits, zero_bits}
use Rattle.patterns_refinement.proofs.Ruled.{may_lack, Ruled, Site, known_kinds, of_rule, root_has, rule_kinds, ruled, site_of, value_bits}
use Rattle.patterns_refinement.proofs.Sources.{Sole, kind_test, made_or_poison, sole_of}
use Rattle.patterns_refinement.proofs.Trees.{each_found, value_below}

pub by_add : rule_of (codes "arith.addi") ≡ Some (how.Binary op.Add)
unfolding rule_of rules
by_add = refl

pub by_subtract : rule_of (codes "arith.subi") ≡ Some (how.Binary op.Subtract)
unfolding rule_of rules
by_subtract = refl

-- a binary operation whose second operand is a constant
pub record OnConstant (r : Rule) (m n : Module) (x : ℕ) (q : Ruled r m n x) (o : Arithmetic) (u v : Value) (ty : TypeTerm) (c : Known) : Type 0 where
  pub kind : BitsKind
  pub of : kind_of ty ≡ Some kind
  pub width : is_width (width_of kind) ≡ true
  pub first : has_value u m.tree ≡ true
  pub first_below : owner u < m.next
  pub second : has_value v m.tree ≡ true
  pub first_is : is_kind kind (kind_in m.tree u) ≡ true
  pub constant_kind : c.0 ≡ kind
  pub bits : is_bits kind c.1 ≡ true

pub on_constant : (r : Rule) (m n : Module) (x : ℕ) (q : Ruled r m n x) (o : Arithmetic) (u v : Value) (ty : TypeTerm) (c : Known) → may_lack r ≡ false → IsReady m → rule_of (head q.here).name ≡ Some (how.Binary o) → (head q.here).operands ≡ u ∷ v ∷ [] → (head q.here).results ≡ ty ∷ [] → known m.tree v ≡ Some c → OnConstant r m n x q o u v ty c
on_constant r m n x q o u v ty c stays ready name ops results there =
    let k = rule_kinds m.tree (head q.here) (each_found (λ h. is_kinded m.tree h ≡ true) x m.tree ready.kinded q.here q.found).0 (root_has q ready.wellformed ready.kinded stays) (how.Binary o) name in
    let both = and_parts (is_kind k.kind (kind_in m.tree u)) (is_kind k.kind (kind_in m.tree v)) (subst (λ vs. takes (how.Binary o) (head q.here) k.kind (map (kind_in m.tree) vs) ≡ true) ops k.operands) in
    let stand = operands_stand is_isolated m.tree ready.wellformed.distinct ready.wellformed.wellformed.visible in
    let values = subst (λ vs. list_all (λ v. has_value v m.tree) vs ≡ true) ops (each_found (λ h. list_all (λ v. has_value v m.tree) h.operands ≡ true) x m.tree stand q.here q.found).0 in
    let s = and_parts (has_value u m.tree) (has_value v m.tree && true) values in
    let second = (and_parts (has_value v m.tree) true s.1).0 in
    let its = known_kind m v c ready.kinded second there in
    let same : c.0 ≡ k.kind = same_Some _ _ (sym its.0 ∙ kind_test k.kind (kind_in m.tree v) both.1) in
    record {
      kind = k.kind;
      of = sym (ap (λ tys. given (slice_get tys 0) kind_of) results) ∙ k.is;
      width = k.width;
      first = s.0;
      first_below = value_below m.next m.tree (is_below m.next m.tree ready.wellformed.below) u s.0;
      second = second;
      first_is = both.0;
      constant_kind = same;
      bits = subst (λ k. is_bits k c.1 ≡ true) same its.1;
    }

-- ---- a new constant, and a new operation on it
module _ (r : Rule) (m n : Module) (x : ℕ) (q : Ruled r m n x) (name : List ℕ) (o : Arithmetic) (u : Value) (ty : TypeTerm) (k : BitsKind) (bits : ℕ) where
  pub record WithConstant : Type 0 where
    pub edits : Make q.insertion (constant ty bits) ∷ give_new q.insertion (m.next + 1) (head q.here).id (binary name ty u (Result m.next 0)) ≡ q.edits
    pub by : rule_of name ≡ Some (how.Binary o)
    pub of : kind_of ty ≡ Some k
    pub width : is_width (width_of k) ≡ true
    pub fits : is_bits k bits ≡ true
    pub below : owner u < m.next
    pub value : has_value u m.tree ≡ true
    pub is : is_kind k (kind_in m.tree u) ≡ true

  abbrev value_types : Value → Option BitsKind
  value_types = with_all (kind_in m.tree) m.next None (Some k ∷ Some k ∷ [])

  pub with_constant : WithConstant → GivesNew r m n x q
  with_constant g = record {
    made = constant ty bits ∷ binary name ty u (Result m.next 0) ∷ [];
    value_types = k ∷ k ∷ [];
    value = Result (m.next + 1) 0;
    edits = sym g.edits ∙ ap (λ y. Make q.insertion (constant ty bits) ∷ give_new q.insertion (m.next + 1) y (binary name ty u (Result m.next 0))) q.id;
    are = (
      constant_made value_types ty bits k g.of g.fits,
      (
        binary_made value_types name ty u (Result m.next 0) k o g.by g.of g.width (ap (is_kind k) (all_agree (kind_in m.tree) m.next None (Some k ∷ Some k ∷ []) u g.below) ∙ g.is)
            (ap (is_kind k) ((all_at (kind_in m.tree) m.next None (Some k ∷ Some k ∷ [])).0 0) ∙ is_its_kind k),
        tt,
      ),
    );
  }

  module _ (g : WithConstant) (a : Assignment) (done : ℕ → Bool) (s : Site m a done x q.here) (total : IsTotal o) (sure : is_signed_quotient (Some (how.Binary o)) ≡ false) (there : done x ≡ true → is_there done u ≡ true)
      (better : done x ≡ true → refines (a (Result x 0)) (pair_out o (a u) (Some (k, bits))) ≡ true) where
    abbrev zs : List Outcome
    zs = Some (k, bits) ∷ pair_out o (a u) (Some (k, bits)) ∷ []

    abbrev c : Assignment
    c = with_all a m.next None (Some (k, bits) ∷ pair_out o (a u) (Some (k, bits)) ∷ [])

    pub constant_outcomes : GivesOutcomes r m n x q (with_constant g) a done
    unfolding with_constant
    constant_outcomes =
        let at = all_at a m.next None (Some (k, bits) ∷ pair_out o (a u) (Some (k, bits)) ∷ []) in
        record {
          outcomes = Some (k, bits) ∷ pair_out o (a u) (Some (k, bits)) ∷ [];
          give = (
            constant_gives_one c done (done_after m.next x done) x ty k bits g.of g.fits,
            (
              binary_gives c done (done_after m.next x done) x name ty u (Result m.next 0) k o (a u) (Some (k, bits)) g.by sure g.of total (all_agree a m.next None zs u g.below) (at.0 0)
                  (λ y e. kind_by m a done x q.here s u k y g.is e) (number_kind k bits) (value_bits m a done x q.here s u g.value) (number_bits k bits g.fits)
                  (λ d. still_there m.next x done u g.below (there d)) (λ d. after_new m.next x done m.next (omega arith) ∙ d),
              tt,
            ),
          );
          better = λ d. subst (λ o. refines (a (Result x 0)) o ≡ true) (sym (at.1.0 0)) (better d);
          there = λ d. after_new m.next x done (m.next + 1) (omega arith) ∙ d;
        }

-- operations whose constants can be combined
record IsJoining (name : List ℕ) : Type 0 where
  pub operation : Arithmetic
  pub by : rule_of name ≡ Some (how.Binary operation)
  pub joins : associates operation ≡ true
  pub total : IsTotal operation
  pub sure : is_signed_quotient (Some (how.Binary operation)) ≡ false

joining_pairs : EachOf IsJoining associative
unfolding rule_of rules associative
joining_pairs = (
  record { operation = op.Add; by = refl; joins = refl; total = (refl, (λ w a b. (sum_of w a b, refl))); sure = refl },
  (
    record { operation = op.Multiply; by = refl; joins = refl; total = (refl, (λ w a b. (product_of w a b, refl))); sure = refl },
    (
      record { operation = op.And; by = refl; joins = refl; total = (refl, (λ w a b. (bit_and a b, refl))); sure = refl },
      (
        record { operation = op.Or; by = refl; joins = refl; total = (refl, (λ w a b. (bit_or a b, refl))); sure = refl },
        (record { operation = op.ExclusiveOr; by = refl; joins = refl; total = (refl, (λ w a b. (bit_xor a b, refl))); sure = refl }, tt),
      ),
    ),
  ),
)

module _ (accepted : AreAccepted) where
  -- ---- a difference with a constant
  record Less (m n : Module) (x : ℕ) (q : Ruled AddNegative m n x) : Type 0 where
    pub first : Value
    pub second : Value
    pub ty : TypeTerm
    pub operands : (head q.here).operands ≡ first ∷ second ∷ []
    pub results : (head q.here).results ≡ ty ∷ []
    pub name : rule_of (head q.here).name ≡ Some (how.Binary op.Subtract)
    pub number : Known
    pub number_is : known m.tree second ≡ Some number
    pub edits : Make q.insertion (constant ty (difference_of (type_width ty) 0 number.1)) ∷ give_new q.insertion (m.next + 1) (head q.here).id (binary (codes "arith.addi") ty first (Result m.next 0)) ≡ q.edits

  less_here : (m n : Module) (x : ℕ) (q : Ruled AddNegative m n x) → Less m n x q
  unfolding rule
  less_here m n x q =
      let h = head q.here in
      let w = two_is h (λ p. when (named (codes "arith.subi") p.name) (given (known m.tree p.second) (λ c. Some (Make q.insertion (constant p.ty (difference_of (type_width p.ty) 0 c.1)) ∷ give_new q.insertion (m.next + 1) h.id (binary (codes "arith.addi") p.ty p.first (Result m.next 0)))))) q.edits q.made in
      let g = when_some (named (codes "arith.subi") h.name) (given (known m.tree w.second) (λ c. Some (Make q.insertion (constant w.ty (difference_of (type_width w.ty) 0 c.1)) ∷ give_new q.insertion (m.next + 1) h.id (binary (codes "arith.addi") w.ty w.first (Result m.next 0))))) q.edits w.makes in
      let k = given_some (known m.tree w.second) (λ c. Some (Make q.insertion (constant w.ty (difference_of (type_width w.ty) 0 c.1)) ∷ give_new q.insertion (m.next + 1) h.id (binary (codes "arith.addi") w.ty w.first (Result m.next 0)))) q.edits g.1 in
      record {
        first = w.first;
        second = w.second;
        ty = w.ty;
        operands = w.operands;
        results = w.results;
        name = ap rule_of (named_is (codes "arith.subi") h.name g.0) ∙ by_subtract;
        number = k.0;
        number_is = k.1;
        edits = same_Some _ _ k.2;
      }

  module _ (m n : Module) (x : ℕ) (q : Ruled AddNegative m n x) (w : Less m n x q) (ready : IsReady m) (k : OnConstant AddNegative m n x q op.Subtract w.first w.second w.ty w.number) where
    abbrev negative : ℕ
    negative = difference_of (type_width w.ty) 0 w.number.1

    same_width : type_width w.ty ≡ width_of k.kind
    same_width = widths w.ty k.kind k.of

    negative_new : WithConstant AddNegative m n x q (codes "arith.addi") op.Add w.first w.ty k.kind (difference_of (type_width w.ty) 0 w.number.1)
    negative_new = record {
      edits = w.edits;
      by = by_add;
      of = k.of;
      width = k.width;
      fits = value_fits op.Subtract k.kind 0 w.number.1 negative (zero_bits k.kind w.number.1 k.bits) k.bits (ap (λ w. Some (difference_of w 0 number_bits_of)) (sym same_width));
      below = k.first_below;
      value = k.first;
      is = k.first_is;
    }
      where
        number_bits_of : ℕ
        number_bits_of = w.number.1

    negative_better : (a : Assignment) (done : ℕ → Bool) (computing : Computing a done m.tree) → done x ≡ true → refines (a (Result x 0)) (pair_out op.Add (a w.first) (Some (k.kind, negative))) ≡ true
    negative_better a done computing d =
        let s = site_of m a done x q.here ready.wellformed ready.kinded computing q.found (root_has q ready.wellformed ready.kinded refl) in
        let two = of_two_is m a done x q.here s w.first w.second w.operands in
        pair_refined m a done x q.here s op.Subtract w.first w.second (pair_out op.Add (a w.first) (Some (k.kind, negative))) w.name w.operands d
        (λ z i. elim (paired op.Subtract (a w.first) (a w.second) z (refl, (λ w a b. (difference_of w a b, refl))) i) [
          | inl none ↦ poison_refined z (pair_out op.Add (a w.first) (Some (k.kind, negative))) none
          | inr p ↦
              let kind_is : p.first.0 ≡ k.kind = kind_by m a done x q.here s w.first k.kind p.first k.first_is p.first_is in
              let constant_is : w.number ≡ p.second = known_is m a done ready.wellformed ready.kinded computing w.second w.number p.second two.second (two.second_there d) w.number_is p.second_is in
              let value : p.number ≡ sum_of (width_of k.kind) p.first.1 negative =
              same_Some _ _ (sym p.value ∙ (λ i. Some (difference_of (width_of (kind_is i)) p.first.1 p.second.1)))
              ∙ ap (λ (c : Known). difference_of (width_of k.kind) p.first.1 c.1) (sym constant_is)
              ∙ less_constant (width_of k.kind) p.first.1 w.number.1 (below k.kind w.number.1 k.bits)
              ∙ ap (λ v. sum_of (width_of k.kind) p.first.1 (difference_of v 0 w.number.1)) (sym same_width) in
              same_refined z (pair_out op.Add (a w.first) (Some (k.kind, negative)))
              (p.gives ∙ (λ i. Some (kind_is i, value i)) ∙ sym (ap (λ r. given r (λ z. z)) (ap (λ o. pair_outcome op.Add o (Some (k.kind, negative))) (p.first_is ∙ (λ i. Some (kind_is i, p.first.1))) ∙ pair_known op.Add k.kind p.first.1 negative (sum_of (width_of k.kind) p.first.1 negative) refl)))
        ])

  pub add_negative_ready : KeepsReady AddNegative
  add_negative_ready m n x ready e =
      let q = ruled accepted AddNegative m n x ready.wellformed ready.sorted e in
      let w = less_here m n x q in
      let k = on_constant AddNegative m n x q op.Subtract w.first w.second w.ty w.number refl ready w.name w.operands w.results w.number_is in
      new_ready AddNegative m n x q (with_constant AddNegative m n x q (codes "arith.addi") op.Add w.first w.ty k.kind (difference_of (type_width w.ty) 0 w.number.1) (negative_new m n x q w ready k)) ready

  pub add_negative_computing : KeepsComputing AddNegative
  add_negative_computing m n x a done ready computing e =
      let q = ruled accepted AddNegative m n x ready.wellformed ready.sorted e in
      let w = less_here m n x q in
      let k = on_constant AddNegative m n x q op.Subtract w.first w.second w.ty w.number refl ready w.name w.operands w.results w.number_is in
      let g = negative_new m n x q w ready k in
      let s = site_of m a done x q.here ready.wellformed ready.kinded computing q.found (root_has q ready.wellformed ready.kinded refl) in
      let two = of_two_is m a done x q.here s w.first w.second w.operands in
      new_improves AddNegative m n x q (with_constant AddNegative m n x q (codes "arith.addi") op.Add w.first w.ty k.kind (difference_of (type_width w.ty) 0 w.number.1) g) a done
      (constant_outcomes AddNegative m n x q (codes "arith.addi") op.Add w.first w.ty k.kind (difference_of (type_width w.ty) 0 w.number.1) g a done s (refl, (λ w a b. (sum_of w a b, refl))) refl two.first_there (negative_better m n x q w ready k a done computing))
      ready refl (add_negative_ready m n x ready e).kinded computing

  -- ---- two constants of a chain
  record Joins (m n : Module) (x : ℕ) (q : Ruled RegroupConstants m n x) : Type 0 where
    pub first : Value
    pub second : Value
    pub ty : TypeTerm
    pub operands : (head q.here).operands ≡ first ∷ second ∷ []
    pub results : (head q.here).results ≡ ty ∷ []
    pub pair : IsJoining (head q.here).name
    pub last : Known
    pub last_is : known m.tree second ≡ Some last
    pub inner : Header
    pub gives : source m.tree (head q.here).name first ≡ Some inner
    pub inner_first : Value
    pub inner_second : Value
    pub inner_ty : TypeTerm
    pub inner_operands : inner.operands ≡ inner_first ∷ inner_second ∷ []
    pub inner_results : inner.results ≡ inner_ty ∷ []
    pub middle : Known
    pub middle_is : known m.tree inner_second ≡ Some middle
    pub both : Known
    pub both_is : fold_of (head q.here).name [] (Some middle ∷ Some last ∷ []) (ty ∷ []) ≡ Some both
    pub edits : Make q.insertion (constant ty both.1) ∷ give_new q.insertion (m.next + 1) (head q.here).id (binary (head q.here).name ty inner_first (Result m.next 0)) ≡ q.edits

  joined_edits : (m n : Module) (x : ℕ) (q : Ruled RegroupConstants m n x) → TypeTerm → Value → Known → Known → Option (List Edit)
  joined_edits m n x q ty u c d =
      given (fold_of (head q.here).name [] (Some c ∷ Some d ∷ []) (ty ∷ [])) (λ k. Some (Make q.insertion (constant ty k.1) ∷ give_new q.insertion (m.next + 1) (head q.here).id (binary (head q.here).name ty u (Result m.next 0))))

  joins_here : (m n : Module) (x : ℕ) (q : Ruled RegroupConstants m n x) → Joins m n x q
  unfolding rule joined_edits
  joins_here m n x q =
      let h = head q.here in
      let w = two_is h (λ p. when (among associative p.name) (given (known m.tree p.second) (λ d. given (source m.tree p.name p.first) (λ y. given (two y) (λ i. given (known m.tree i.second) (λ c. regrouped m.tree m.next q.insertion q.here p i.first c d)))))) q.edits q.made in
      let g = when_some (among associative h.name) (given (known m.tree w.second) (λ d. given (source m.tree h.name w.first) (λ y. given (two y) (λ i. given (known m.tree i.second) (λ c. joined_edits m n x q w.ty i.first c d))))) q.edits w.makes in
      let d = given_some (known m.tree w.second) (λ d. given (source m.tree h.name w.first) (λ y. given (two y) (λ i. given (known m.tree i.second) (λ c. joined_edits m n x q w.ty i.first c d)))) q.edits g.1 in
      let s = given_some (source m.tree h.name w.first) (λ y. given (two y) (λ i. given (known m.tree i.second) (λ c. joined_edits m n x q w.ty i.first c d.0))) q.edits d.2 in
      let i = two_is s.0 (λ i. given (known m.tree i.second) (λ c. joined_edits m n x q w.ty i.first c d.0)) q.edits s.2 in
      let c = given_some (known m.tree i.second) (λ c. joined_edits m n x q w.ty i.first c d.0) q.edits i.makes in
      let k = given_some (fold_of h.name [] (Some c.0 ∷ Some d.0 ∷ []) (w.ty ∷ [])) (λ k. Some (Make q.insertion (constant w.ty k.1) ∷ give_new q.insertion (m.next + 1) h.id (binary h.name w.ty i.first (Result m.next 0)))) q.edits c.2 in
      record {
        first = w.first;
        second = w.second;
        ty = w.ty;
        operands = w.operands;
        results = w.results;
        pair = of_among IsJoining associative h.name joining_pairs g.0;
        last = d.0;
        last_is = d.1;
        inner = s.0;
        gives = s.1;
        inner_first = i.first;
        inner_second = i.second;
        inner_ty = i.ty;
        inner_operands = i.operands;
        inner_results = i.results;
        middle = c.0;
        middle_is = c.1;
        both = k.0;
        both_is = k.1;
        edits = same_Some _ _ k.2;
      }

  module _ (m n : Module) (x : ℕ) (q : Ruled RegroupConstants m n x) (w : Joins m n x q) (ready : IsReady m) (k : OnConstant RegroupConstants m n x q w.pair.operation w.first w.second w.ty w.last) where
    sole : Sole m (λ h. named (head q.here).name h.name && is_verified m.tree h) w.first w.inner
    sole = sole_of m (λ h. named (head q.here).name h.name && is_verified m.tree h) w.first w.inner w.gives k.first w.inner_ty w.inner_results

    inner_name : rule_of w.inner.name ≡ Some (how.Binary w.pair.operation)
    inner_name = ap rule_of (named_is (head q.here).name w.inner.name (and_parts (named (head q.here).name w.inner.name) (is_verified m.tree w.inner) sole.passed).0) ∙ w.pair.by

    record InnerKinds : Type 0 where
      pub own_name : rule_of (head sole.here).name ≡ Some (how.Binary w.pair.operation)
      pub own_operands : (head sole.here).operands ≡ w.inner_first ∷ w.inner_second ∷ []
      pub first : has_value w.inner_first m.tree ≡ true
      pub first_is : is_kind k.kind (kind_in m.tree w.inner_first) ≡ true
      pub second : has_value w.inner_second m.tree ≡ true
      pub middle_kind : w.middle.0 ≡ k.kind
      pub bits : is_bits k.kind w.middle.1 ≡ true

    inner_kinds : InnerKinds
    unfolding sole inner_name
    inner_kinds =
        let own_name : rule_of (head sole.here).name ≡ Some (how.Binary w.pair.operation) = ap rule_of (ap (λ (h : Header). h.name) sole.heads) ∙ inner_name in
        let own_operands : (head sole.here).operands ≡ w.inner_first ∷ w.inner_second ∷ [] = ap (λ (h : Header). h.operands) sole.heads ∙ w.inner_operands in
        let r = known_kinds m.tree (head sole.here) (each_found (λ h. is_kinded m.tree h ≡ true) sole.id m.tree ready.kinded sole.here sole.found).0 (how.Binary w.pair.operation) own_name k.kind (sym sole.kind ∙ kind_test k.kind (kind_in m.tree w.first) k.first_is) in
        let same : r.kind ≡ k.kind = same_Some _ _ (sym r.is ∙ sym sole.kind ∙ kind_test k.kind (kind_in m.tree w.first) k.first_is) in
        let value_types = and_parts (is_kind r.kind (kind_in m.tree w.inner_first)) (is_kind r.kind (kind_in m.tree w.inner_second)) (subst (λ vs. takes (how.Binary w.pair.operation) (head sole.here) r.kind (map (kind_in m.tree) vs) ≡ true) own_operands r.operands) in
        let stand = operands_stand is_isolated m.tree ready.wellformed.distinct ready.wellformed.wellformed.visible in
        let values = subst (λ vs. list_all (λ v. has_value v m.tree) vs ≡ true) own_operands (each_found (λ h. list_all (λ v. has_value v m.tree) h.operands ≡ true) sole.id m.tree stand sole.here sole.found).0 in
        let s = and_parts (has_value w.inner_first m.tree) (has_value w.inner_second m.tree && true) values in
        let second = (and_parts (has_value w.inner_second m.tree) true s.1).0 in
        let its = known_kind m w.inner_second w.middle ready.kinded second w.middle_is in
        let middle : w.middle.0 ≡ k.kind = same_Some _ _ (sym its.0 ∙ kind_test r.kind (kind_in m.tree w.inner_second) value_types.1) ∙ same in
        record {
          own_name = own_name;
          own_operands = own_operands;
          first = s.0;
          first_is = subst (λ k. is_kind k (kind_in m.tree w.inner_first) ≡ true) same value_types.0;
          second = second;
          middle_kind = middle;
          bits = subst (λ k. is_bits k w.middle.1 ≡ true) middle its.1;
        }

    module _ (i : InnerKinds) where
      both_value : value_of w.pair.operation (width_of k.kind) w.middle.1 w.last.1 ≡ Some w.both.1
      both_value =
          let mk = sym i.middle_kind in
          let lk = sym k.constant_kind in
          let g =
          pair_gave (head q.here).name w.pair.operation [] k.kind w.middle.1 w.last.1 w.both w.pair.by (below k.kind w.middle.1 i.bits) (below k.kind w.last.1 k.bits)
          (subst (λ ty. fold_of (head q.here).name [] (Some (k.kind, w.middle.1) ∷ Some (k.kind, w.last.1) ∷ []) (ty ∷ []) ≡ Some w.both) (type_is_of w.ty k.kind k.of)
          ((λ j. fold_of (head q.here).name [] (Some (mk j, w.middle.1) ∷ Some (lk j, w.last.1) ∷ []) (w.ty ∷ [])) ∙ w.both_is)) in
          g.is ∙ ap (λ (b : Known). Some b.1) g.whole

      joined_new : WithConstant RegroupConstants m n x q (head q.here).name w.pair.operation w.inner_first w.ty k.kind w.both.1
      joined_new = record {
        edits = w.edits;
        by = w.pair.by;
        of = k.of;
        width = k.width;
        fits = value_fits w.pair.operation k.kind w.middle.1 w.last.1 w.both.1 i.bits k.bits both_value;
        below = value_below m.next m.tree (is_below m.next m.tree ready.wellformed.below) w.inner_first i.first;
        value = i.first;
        is = i.first_is;
      }

      module _ (a : Assignment) (done : ℕ → Bool) (computing : Computing a done m.tree) (d : done x ≡ true) where
        abbrev out : Outcome
        out = pair_out w.pair.operation (a w.inner_first) (Some (k.kind, w.both.1))

        site : Site m a done x q.here
        site = site_of m a done x q.here ready.wellformed ready.kinded computing q.found (root_has q ready.wellformed ready.kinded refl)

        own : Site m a done sole.id sole.here
        own = site_of m a done sole.id sole.here ready.wellformed ready.kinded computing sole.found (λ i. ap is_some (sym sole.kind ∙ kind_test k.kind (kind_in m.tree w.first) k.first_is))

        inner_done : done sole.id ≡ true
        inner_done = ap (is_there done) (sym sole.value) ∙ (of_two_is m a done x q.here site w.first w.second w.operands).first_there d

        inner_there : is_there done w.inner_first ≡ true
        inner_there = (of_two_is m a done sole.id sole.here own w.inner_first w.inner_second i.own_operands).first_there inner_done

        inner_makes : (pair_outcome w.pair.operation (a w.inner_first) (a w.inner_second) ≡ Some (a w.first)) ⊎ (a w.first ≡ None)
        inner_makes = elim (made_or_poison m a done sole.id sole.here own (how.Binary w.pair.operation) i.own_name (of_rule m a done sole.id sole.here own (how.Binary w.pair.operation) i.own_name) inner_done) [
          | inl j ↦ inl
              (subst (λ v. pair_outcome w.pair.operation (a w.inner_first) (a w.inner_second) ≡ Some (a v)) (sym sole.value)
              (subst (λ vs. of_two (pair_outcome w.pair.operation) (map a vs) ≡ Some (a (Result sole.id 0))) i.own_operands j))
          | inr none ↦ inr (ap a sole.value ∙ none)
        ]

        all_known : (z : Outcome) → Paired w.pair.operation (a w.first) (a w.second) z → Paired w.pair.operation (a w.inner_first) (a w.inner_second) (a w.first) → refines z out ≡ true
        all_known z p g =
            let two = of_two_is m a done x q.here site w.first w.second w.operands in
            let inside = of_two_is m a done sole.id sole.here own w.inner_first w.inner_second i.own_operands in
            let kind_is : g.first.0 ≡ k.kind = kind_by m a done x q.here site w.inner_first k.kind g.first i.first_is g.first_is in
            let kind_back = sym kind_is in
            let last_is : w.last ≡ p.second = known_is m a done ready.wellformed ready.kinded computing w.second w.last p.second two.second (two.second_there d) w.last_is p.second_is in
            let middle_is : w.middle ≡ g.second = known_is m a done ready.wellformed ready.kinded computing w.inner_second w.middle g.second inside.second (inside.second_there inner_done) w.middle_is g.second_is in
            let first_is : (g.first.0, g.number) ≡ p.first = same_Some _ _ (sym g.gives ∙ p.first_is) in
            let inner_value : value_of w.pair.operation (width_of k.kind) g.first.1 w.middle.1 ≡ Some g.number = (λ j. value_of w.pair.operation (width_of (kind_back j)) g.first.1 (middle_is j).1) ∙ g.value in
            let outer_kind : p.first.0 ≡ k.kind = ap (λ (y : Known). y.0) (sym first_is) ∙ kind_is in
            let outer_back = sym outer_kind in
            let outer_value : value_of w.pair.operation (width_of k.kind) g.number w.last.1 ≡ Some p.number = (λ j. value_of w.pair.operation (width_of (outer_back j)) (first_is j).1 (last_is j).1) ∙ p.value in
            let value : value_of w.pair.operation (width_of k.kind) g.first.1 w.both.1 ≡ Some p.number = sym (brackets w.pair.operation (width_of k.kind) g.first.1 w.middle.1 w.last.1 g.number w.both.1 w.pair.joins inner_value both_value) ∙ outer_value in
            same_refined z out
            (p.gives ∙ (λ j. Some (outer_kind j, p.number))
            ∙ sym (ap (λ r. given r (λ z. z)) (ap (λ o. pair_outcome w.pair.operation o (Some (k.kind, w.both.1))) (g.first_is ∙ (λ j. Some (kind_is j, g.first.1))) ∙ pair_known w.pair.operation k.kind g.first.1 w.both.1 p.number value)))

        joined_refined : (z : Outcome) → pair_outcome w.pair.operation (a w.first) (a w.second) ≡ Some z → refines z out ≡ true
        joined_refined z e = elim (paired w.pair.operation (a w.first) (a w.second) z w.pair.total e) [
          | inl none ↦ poison_refined z out none
          | inr p ↦ elim inner_makes [
            | inr none ↦ absurd (none-some p.first (sym none ∙ p.first_is))
            | inl j ↦ elim (paired w.pair.operation (a w.inner_first) (a w.inner_second) (a w.first) w.pair.total j) [
              | inl none ↦ absurd (none-some p.first (sym none ∙ p.first_is))
              | inr g ↦ all_known z p g
            ]
          ]
        ]

        joined_better : refines (a (Result x 0)) out ≡ true
        joined_better = pair_refined m a done x q.here site w.pair.operation w.first w.second out w.pair.by w.operands d joined_refined

  pub regroup_constants_ready : KeepsReady RegroupConstants
  regroup_constants_ready m n x ready e =
      let q = ruled accepted RegroupConstants m n x ready.wellformed ready.sorted e in
      let w = joins_here m n x q in
      let k = on_constant RegroupConstants m n x q w.pair.operation w.first w.second w.ty w.last refl ready w.pair.by w.operands w.results w.last_is in
      let i = inner_kinds m n x q w ready k in
      new_ready RegroupConstants m n x q (with_constant RegroupConstants m n x q (head q.here).name w.pair.operation w.inner_first w.ty k.kind w.both.1 (joined_new m n x q w ready k i)) ready

  pub regroup_constants_computing : KeepsComputing RegroupConstants
  regroup_constants_computing m n x a done ready computing e =
      let q = ruled accepted RegroupConstants m n x ready.wellformed ready.sorted e in
      let w = joins_here m n x q in
      let k = on_constant RegroupConstants m n x q w.pair.operation w.first w.second w.ty w.last refl ready w.pair.by w.operands w.results w.last_is in
      let i = inner_kinds m n x q w ready k in
      let g = joined_new m n x q w ready k i in
      let s = site_of m a done x q.here ready.wellformed ready.kinded computing q.found (root_has q ready.wellformed ready.kinded refl) in
      new_improves RegroupConstants m n x q (with_constant RegroupConstants m n x q (head q.here).name w.pair.operation w.inner_first w.ty k.kind w.both.1 g) a done
      (constant_outcomes RegroupConstants m n x q (head q.here).name w.pair.operation w.inner_first w.ty k.kind w.both.1 g a done s w.pair.total w.pair.sure (inner_there m n x q w ready k i a done computing) (joined_better m n x q w ready k i a done computing))
      ready refl (regroup_constants_ready m n x ready e).kinded computing
