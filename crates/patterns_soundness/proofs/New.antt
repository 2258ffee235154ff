-- Rules that make operations: 2, 7, 9 to 12, 14, 19, 20 and 25 to 27.
use Rattle.std.proofs.Common.{◌≡◌, refl, sym, subst, ℕ, suc, ◌+◌, Bool, true, false, ◌&&◌, not, List, [], ◌∷◌, Option, Some, None, if◌then◌else◌, inl, inr, arith}
use Rattle.std.specs.Prelude.{codes, eqb, ◌||◌}
use Rattle.std.specs.List.{list_all}
use Rattle.ir_event.specs.types.Words.{is_isolated}
use Rattle.ir_event.specs.types.Readings.{type_width}
use Rattle.ir_event.specs.types.Terms.{TypeTerm, AttrTerm, Overflow}
use Rattle.ir_event.proofs.of_types.SameTerms.{type_refl}
use Rattle.ir_event.specs.trees.declared.value.Value.{Value}
use Rattle.ir_event.specs.trees.declared.value.Value.TheVariants.{Result}
use Rattle.ir_event.specs.trees.declared.place.Place.{Place}
use Rattle.ir_event.specs.trees.Tree.{head}
use Rattle.ir_event.specs.trees.Limits.{items_fit}
use Rattle.ir_event.specs.trees.Sites.{visible}
use Rattle.ir_event.specs.trees.Uses.{same_value}
use Rattle.ir_event.specs.trees.Meaning.{Operation}
use Rattle.ir_event.specs.tree_laws.Members.{In}
use Rattle.ir_event.proofs.of_tree_laws.Listed.{both_hold}
use Rattle.ir_event.specs.Modules.{Module}
use Rattle.op_registry.specs.Registry.{next_to}
use Rattle.dialects_int.specs.Arithmetic.{all_ones, difference_of}
use Rattle.dialects_int.specs.Folds.{Known, fold_of}
use Rattle.rewriter_machine.specs.Contents.{Edit, edited}
use Rattle.rewriter_machine.specs.Edits.{Make}
use Rattle.patterns_base.specs.Lists.{Free}
use Rattle.patterns_base.proofs.Plans.{dominated_by}
use Rattle.patterns_soundness.specs.base.Keeps.{is_true_when_equal}
use Rattle.patterns_soundness.specs.base.Words.{among, predicate_of_min_max, self_inverse, division_of_remainder, extensions, flagged, named, associative, remainders}
use Rattle.patterns_soundness.specs.base.Made.{Entries, binary, cast, choice, comparison, constant, flags, i1, made, predicate_entry, value_entry}
use Rattle.patterns_soundness.specs.base.Looks.{Header, is_number, is_of_type, known, one, predicate, source, source_among, when}
use Rattle.patterns_soundness.specs.base.Makes.{give, give_constant, give_new}
use Rattle.patterns_soundness.specs.base.Casting.{resizing, extend_extension, cut_cast}
use Rattle.patterns_soundness.specs.base.Folding.{folded_to, may_read, fold_to_constant, cancel_itself, zero_remainder, regroup_constants, add_negative, compare_itself, compare_zero, expand_min_max, expand_difference, expand_remainder}
use Rattle.patterns_soundness.proofs.Points.{DefiningOp, Point, dominated_by_after, dominated_by_operand}
use Rattle.patterns_soundness.proofs.Limits as fits_in
use Rattle.patterns_soundness.proofs.Limits.{IsWithinLimits}
use Rattle.patterns_soundness.proofs.Shapes.{one_is, source_among_is, source_is, two_is}
use Rattle.patterns_soundness.proofs.Given.{HasHeadroom, fits, gives_after}
use Rattle.patterns_laws.proofs.KnownFolds.{given_some}
use Rattle.std.proofs.lemmas.Option.{same_Some}
use Rattle.patterns_soundness.proofs.of_base.Facts.{when_some}

pub few_flags : (name : List ℕ) → items_fit (flags name) ≡ true
few_flags name = go (among flagged name)
  where
    go : (b : Bool) → items_fit {X = List ℕ × AttrTerm} (if b then (codes "overflowFlags", Overflow false false) ∷ [] else []) ≡ true
    go true = refl
    go false = refl

module _ (x : ℕ) (insertion : Place) (ty : TypeTerm) where
  -- the result of a new operation replaces the result of x
  pub by_new : (m : Module) (f : IsWithinLimits x insertion ty 1 m) (n : ℕ) → n ≡ m.next → (name : List ℕ) (operands : List Value) (properties : Entries) → items_fit operands ≡ true → items_fit properties ≡ true
      → list_all (visible is_isolated m.tree x) operands ≡ true → Free (give_new insertion n x (made name operands ty properties)) m
  by_new m f n e name operands properties few short seen = fits_in.new_given x insertion ty 0 m f name operands ty properties few short seen n e (type_refl ty)

  -- a constant replaces it
  pub by_constant : (m : Module) → IsWithinLimits x insertion ty 1 m → (n : ℕ) → n ≡ m.next → (bits : ℕ) → Free (give_constant insertion n x ty bits) m
  by_constant m f n e bits = by_new m f n e (codes "arith.constant") [] (value_entry ty bits) refl refl refl

  -- an operation on two values that dominate x replaces it
  pub by_binary : (m : Module) → IsWithinLimits x insertion ty 1 m → (n : ℕ) → n ≡ m.next → (name : List ℕ) (a b : Value) → dominated_by x a m ≡ true → dominated_by x b m ≡ true → Free (give_new insertion n x (binary name ty a b)) m
  by_binary m f n e name a b p q = by_new m f n e name (a ∷ b ∷ []) (flags name) refl (few_flags name) (both_hold (dominated_by x a m) _ p (both_hold (dominated_by x b m) true q refl))

  -- an operation is made, followed by other edits
  module _ (k : ℕ) (m : Module) (f : IsWithinLimits x insertion ty (suc k) m) (name : List ℕ) (operands : List Value) (new : TypeTerm) (properties : Entries) (few : items_fit operands ≡ true) (short : items_fit properties ≡ true)
      (seen : list_all (visible is_isolated m.tree x) operands ≡ true) (es : List Edit) where
    abbrev pub GoesOn : Type 0
    GoesOn = (n : Module) → IsWithinLimits x insertion ty k n → ((v : Value) → dominated_by x v m ≡ true → dominated_by x v n ≡ true) → ((i : ℕ) → i ≡ m.next → dominated_by x (Result i 0) n ≡ true) → n.next ≡ m.next + 1 → Free es n

    pub make_then : GoesOn → Free (Make insertion (made name operands new properties) ∷ es) m
    make_then go =
        fits_in.make_first x insertion ty k m f name operands new properties few short seen es
        (go (edited (Make insertion (made name operands new properties)) m) (fits_in.made_fit x insertion ty k m f name operands new properties few short seen) (fits_in.dominated_by_still x insertion ty k m f name operands new properties few short seen)
        (fits_in.dominated_by_new x insertion ty k m f name operands new properties few short seen) refl)

  constant_then : (k : ℕ) (m : Module) (f : IsWithinLimits x insertion ty (suc k) m) (bits : ℕ) (es : List Edit) → GoesOn k m f (codes "arith.constant") [] ty (value_entry ty bits) refl refl refl es → Free (Make insertion (constant ty bits) ∷ es) m
  constant_then k m f bits es = make_then k m f (codes "arith.constant") [] ty (value_entry ty bits) refl refl refl es

  binary_then : (k : ℕ) (m : Module) (f : IsWithinLimits x insertion ty (suc k) m) (name : List ℕ) (a b : Value) (p : dominated_by x a m ≡ true) (q : dominated_by x b m ≡ true) (es : List Edit)
      → GoesOn k m f name (a ∷ b ∷ []) ty (flags name) refl (few_flags name) (both_hold (dominated_by x a m) _ p (both_hold (dominated_by x b m) true q refl)) es → Free (Make insertion (binary name ty a b) ∷ es) m
  binary_then k m f name a b p q es = make_then k m f name (a ∷ b ∷ []) ty (flags name) refl (few_flags name) (both_hold (dominated_by x a m) _ p (both_hold (dominated_by x b m) true q refl)) es

  -- an operation whose second operand is a new constant replaces it
  pub by_binary_constant : (m : Module) → IsWithinLimits x insertion ty 2 m → (bits : ℕ) (name : List ℕ) (a : Value) → dominated_by x a m ≡ true
      → Free (Make insertion (constant ty bits) ∷ give_new insertion (m.next + 1) x (binary name ty a (Result m.next 0))) m
  by_binary_constant m f bits name a p =
      constant_then 1 m f bits (give_new insertion (m.next + 1) x (binary name ty a (Result m.next 0))) (λ n g still new e. by_binary n g (m.next + 1) (sym e) name a (Result m.next 0) (still a p) (new m.next refl))

  -- a select between two values by their comparison replaces it
  pub by_comparison : (m : Module) → IsWithinLimits x insertion ty 2 m → (asks : ℕ) (a b : Value) → dominated_by x a m ≡ true → dominated_by x b m ≡ true
      → Free (Make insertion (comparison asks a b) ∷ give_new insertion (m.next + 1) x (choice ty (Result m.next 0) a b)) m
  by_comparison m f asks a b p q =
      make_then 1 m f (codes "arith.cmpi") (a ∷ b ∷ []) i1 (predicate_entry asks) refl refl (both_hold (dominated_by x a m) _ p (both_hold (dominated_by x b m) true q refl)) (give_new insertion (m.next + 1) x (choice ty (Result m.next 0) a b))
      (λ n g still new e. by_new n g (m.next + 1) (sym e) (codes "arith.select") (Result m.next 0 ∷ a ∷ b ∷ []) [] refl refl
      (both_hold (dominated_by x (Result m.next 0) n) _ (new m.next refl) (both_hold (dominated_by x a n) _ (still a p) (both_hold (dominated_by x b n) true (still b q) refl))))

  -- a sum with the complement of a value and 1 replaces it
  pub by_complement : (m : Module) → IsWithinLimits x insertion ty 5 m → (bits : ℕ) (a b : Value) → dominated_by x a m ≡ true → dominated_by x b m ≡ true
      → Free
      (Make insertion (constant ty bits)
      ∷ Make insertion (binary (codes "arith.xori") ty b (Result m.next 0))
      ∷ Make insertion (constant ty 1)
      ∷ Make insertion (binary (codes "arith.addi") ty (Result (m.next + 1) 0) (Result (m.next + 2) 0))
      ∷ give_new insertion (m.next + 4) x (binary (codes "arith.addi") ty a (Result (m.next + 3) 0)))
      m
  by_complement m f bits a b p q =
      let n = m.next in
      let last = give_new insertion (n + 4) x (binary (codes "arith.addi") ty a (Result (n + 3) 0)) in
      let sum = Make insertion (binary (codes "arith.addi") ty (Result (n + 1) 0) (Result (n + 2) 0)) ∷ last in
      let one = Make insertion (constant ty 1) ∷ sum in
      constant_then 4 m f bits (Make insertion (binary (codes "arith.xori") ty b (Result n 0)) ∷ one) (λ m1 f1 still1 new1 e1.
      binary_then 3 m1 f1 (codes "arith.xori") b (Result n 0) (still1 b q) (new1 n refl) one (λ m2 f2 still2 new2 e2.
      constant_then 2 m2 f2 1 sum (λ m3 f3 still3 new3 e3.
      binary_then 1 m3 f3 (codes "arith.addi") (Result (n + 1) 0) (Result (n + 2) 0) (still3 (Result (n + 1) 0) (new2 (n + 1) (omega (arith, e1)))) (new3 (n + 2) (omega (arith, e1, e2))) last (λ m4 f4 still4 new4 e4.
      by_binary m4 f4 (n + 4) (omega (arith, e1, e2, e3, e4)) (codes "arith.addi") a (Result (n + 3) 0) (still4 a (still3 a (still2 a (still1 a p)))) (new4 (n + 3) (omega (arith, e1, e2, e3)))))))

  -- the expansion of a remainder replaces it
  pub by_remainder : (m : Module) → IsWithinLimits x insertion ty 3 m → (division : List ℕ) (a b : Value) → dominated_by x a m ≡ true → dominated_by x b m ≡ true
      → Free
      (Make insertion (binary division ty a b) ∷ Make insertion (binary (codes "arith.muli") ty (Result m.next 0) b) ∷ give_new insertion (m.next + 2) x (binary (codes "arith.subi") ty a (Result (m.next + 1) 0)))
      m
  by_remainder m f division a b p q =
      let n = m.next in
      let last = give_new insertion (n + 2) x (binary (codes "arith.subi") ty a (Result (n + 1) 0)) in
      binary_then 2 m f division a b p q (Make insertion (binary (codes "arith.muli") ty (Result n 0) b) ∷ last) (λ m1 f1 still1 new1 e1.
      binary_then 1 m1 f1 (codes "arith.muli") (Result n 0) b (new1 n refl) (still1 b q) last (λ m2 f2 still2 new2 e2.
      by_binary m2 f2 (n + 2) (omega (arith, e1, e2)) (codes "arith.subi") a (Result (n + 1) 0) (still2 a (still1 a p)) (new2 (n + 1) (sym e1))))

module _ (m : Module) (o : Operation) (insertion : Place) (s : Point m o insertion) where
  abbrev x : ℕ
  x = (head o).id

  abbrev t : Operation
  t = m.tree

  -- edits that equal these
  these : (es ds : List Edit) → Some ds ≡ Some es → HasHeadroom m es → (HasHeadroom m ds → Free ds m) → Free es m
  these es ds is headroom free = subst (λ z. HasHeadroom m z → Free z m) (same_Some ds es is) free headroom

  first_seen : (a b : Value) → (head o).operands ≡ a ∷ b ∷ [] → dominated_by (head o).id a m ≡ true
  first_seen a b e = dominated_by_operand m o insertion s a (subst (In a) (sym e) (inl refl))

  second_seen : (a b : Value) → (head o).operands ≡ a ∷ b ∷ [] → dominated_by (head o).id b m ≡ true
  second_seen a b e = dominated_by_operand m o insertion s b (subst (In b) (sym e) (inr (inl refl)))

  is_constant : (es : List Edit) (ty : TypeTerm) (bits : ℕ) → (head o).results ≡ ty ∷ [] → Some (give_constant insertion m.next (head o).id ty bits) ≡ Some es → HasHeadroom m es → Free es m
  is_constant es ty bits one is headroom =
      these es (give_constant insertion m.next x ty bits) is headroom (λ r. by_constant x insertion ty m (fits m o insertion s ty one 1 r.0 r.1) m.next refl bits)

  pub free_fold_to_constant : (es : List Edit) → fold_to_constant m.tree m.next insertion o ≡ Some es → HasHeadroom m es → Free es m
  free_fold_to_constant es e = (let w = when_some (not (named (codes "arith.constant") (head o).name) && list_all (may_read t m.next insertion o) (head o).operands) _ es e in go (head o).results refl _ w.1)
    where
      go : (ts : List TypeTerm) → (head o).results ≡ ts → (k : Option Known) → folded_to t m.next insertion o ts k ≡ Some es → HasHeadroom m es → Free es m
      go [] p k e = absurd cc
      go (ty ∷ []) p None e = absurd cc
      go (ty ∷ []) p (Some k) e = is_constant es ty k.1 p e
      go (ty ∷ u ∷ ts) p k e = absurd cc

  pub free_cancel_itself : (es : List Edit) → cancel_itself m.tree m.next insertion o ≡ Some es → HasHeadroom m es → Free es m
  free_cancel_itself es e = (let p = two_is (head o) _ es e in let w = when_some (among self_inverse (head o).name && same_value p.first p.second) _ es p.makes in is_constant es p.ty 0 p.results w.1)

  pub free_zero_remainder : (es : List Edit) → zero_remainder m.tree m.next insertion o ≡ Some es → HasHeadroom m es → Free es m
  free_zero_remainder es e = (let p = two_is (head o) _ es e in let w = when_some (among remainders (head o).name && is_number t 1 p.second) _ es p.makes in is_constant es p.ty 0 p.results w.1)

  pub free_compare_itself : (es : List Edit) → compare_itself m.tree m.next insertion o ≡ Some es → HasHeadroom m es → Free es m
  free_compare_itself es e =
      let p = two_is (head o) _ es e in
      let w = when_some (named (codes "arith.cmpi") (head o).name) _ es p.makes in
      let asks = given_some (predicate (head o)) _ es w.1 in
      let u = when_some (same_value p.first p.second) _ es asks.2 in
      is_constant es p.ty (is_true_when_equal asks.0) p.results u.1

  pub free_compare_zero : (es : List Edit) → compare_zero m.tree m.next insertion o ≡ Some es → HasHeadroom m es → Free es m
  free_compare_zero es e =
      let p = two_is (head o) _ es e in
      let w = when_some (named (codes "arith.cmpi") (head o).name) _ es p.makes in
      let asks = given_some (predicate (head o)) _ es w.1 in
      let u = when_some (is_number t 0 p.second && (eqb asks.0 6 || eqb asks.0 9)) _ es asks.2 in
      is_constant es p.ty (if eqb asks.0 9 then 1 else 0) p.results u.1

  -- an operation on a dominating value and a constant
  is_binary : (es : List Edit) (ty : TypeTerm) (bits : ℕ) (name : List ℕ) (a : Value) → (head o).results ≡ ty ∷ [] → dominated_by (head o).id a m ≡ true
      → Some (Make insertion (constant ty bits) ∷ give_new insertion (m.next + 1) (head o).id (binary name ty a (Result m.next 0))) ≡ Some es → HasHeadroom m es → Free es m
  is_binary es ty bits name a one seen is headroom =
      these es (Make insertion (constant ty bits) ∷ give_new insertion (m.next + 1) x (binary name ty a (Result m.next 0))) is headroom
      (λ r. by_binary_constant x insertion ty m (fits m o insertion s ty one 2 r.0 r.1) bits name a seen)

  pub free_regroup_constants : (es : List Edit) → regroup_constants m.tree m.next insertion o ≡ Some es → HasHeadroom m es → Free es m
  free_regroup_constants es e =
      let p = two_is (head o) _ es e in
      let w = when_some (among associative (head o).name) _ es p.makes in
      let d = given_some (known t p.second) _ es w.1 in
      let y = given_some (source t (head o).name p.first) _ es d.2 in
      let q = two_is y.0 _ es y.2 in
      let c = given_some (known t q.second) _ es q.makes in
      let k = given_some (fold_of (head o).name [] (Some c.0 ∷ Some d.0 ∷ []) (p.ty ∷ [])) _ es c.2 in
      let trailing = dominated_by_after m o insertion s p.first (subst (In p.first) (sym p.operands) (inl refl)) y.0 (source_is t (head o).name p.first y.0 y.1) q.first (subst (In q.first) (sym q.operands) (inl refl)) in
      is_binary es p.ty k.0.1 (head o).name q.first p.results trailing k.2

  pub free_add_negative : (es : List Edit) → add_negative m.tree m.next insertion o ≡ Some es → HasHeadroom m es → Free es m
  free_add_negative es e =
      let p = two_is (head o) _ es e in
      let w = when_some (named (codes "arith.subi") (head o).name) _ es p.makes in
      let c = given_some (known t p.second) _ es w.1 in
      is_binary es p.ty (difference_of (type_width p.ty) 0 c.0.1) (codes "arith.addi") p.first p.results (first_seen p.first p.second p.operands) c.2

  -- a new cast of the operand of the operand's defining operation
  recasts : (es : List Edit) (a : Value) (ty : TypeTerm) (name : List ℕ) (h : Header) (v : Value) → (head o).operands ≡ a ∷ [] → (head o).results ≡ ty ∷ [] → DefiningOp m.tree a h → h.operands ≡ v ∷ []
      → Some (give_new insertion m.next (head o).id (cast name ty v)) ≡ Some es → HasHeadroom m es → Free es m
  recasts es a ty name h v operands results g inner is headroom =
      these es (give_new insertion m.next x (cast name ty v)) is headroom
      (λ r. by_new x insertion ty m (fits m o insertion s ty results 1 r.0 r.1) m.next refl name (v ∷ []) [] refl refl
      (both_hold (dominated_by x v m) true (dominated_by_after m o insertion s a (subst (In a) (sym operands) (inl refl)) h g v (subst (In v) (sym inner) (inl refl))) refl))

  pub free_extend_extension : (es : List Edit) → extend_extension m.tree m.next insertion o ≡ Some es → HasHeadroom m es → Free es m
  free_extend_extension es e =
      let p = one_is (head o) _ es e in
      let w = when_some (among extensions (head o).name) _ es p.makes in
      let y = given_some (source_among t extensions p.first) _ es w.1 in
      let q = one_is y.0 _ es y.2 in
      let u = when_some (named (head o).name y.0.name || named (codes "arith.extsi") (head o).name) _ es q.makes in
      recasts es p.first p.ty y.0.name y.0 q.first p.operands p.results (source_among_is t extensions p.first y.0 y.1) q.operands u.1

  pub free_cut_cast : (es : List Edit) → cut_cast m.tree m.next insertion o ≡ Some es → HasHeadroom m es → Free es m
  free_cut_cast es e =
      let p = one_is (head o) _ es e in
      let w = when_some (named (codes "arith.trunci") (head o).name) _ es p.makes in
      let y = given_some (source_among t resizing p.first) _ es w.1 in
      let q = one_is y.0 _ es y.2 in
      by_name p.first p.ty y.0 q.first p.operands p.results (source_among_is t resizing p.first y.0 y.1) q.operands (named (codes "arith.trunci") y.0.name) q.makes
    where
      by_name : (a : Value) (ty : TypeTerm) (h : Header) (v : Value) → (head o).operands ≡ a ∷ [] → (head o).results ≡ ty ∷ [] → DefiningOp m.tree a h → h.operands ≡ v ∷ [] → (b : Bool)
          → (if b then Some (give_new insertion m.next (head o).id (cast h.name ty v)) else when (is_of_type m.tree ty v) (Some (give (head o).id v))) ≡ Some es → HasHeadroom m es → Free es m
      by_name a ty h v operands results g inner true is = recasts es a ty h.name h v operands results g inner is
      by_name a ty h v operands results g inner false is = gives_after m o insertion s es a ty h v operands results g inner is

  pub free_expand_min_max : (es : List Edit) → expand_min_max m.tree m.next insertion o ≡ Some es → HasHeadroom m es → Free es m
  free_expand_min_max es e headroom =
      let p = two_is (head o) _ es e in
      let asks = given_some (next_to (head o).name predicate_of_min_max) _ es p.makes in
      these es (Make insertion (comparison asks.0 p.first p.second) ∷ give_new insertion (m.next + 1) x (choice p.ty (Result m.next 0) p.first p.second)) asks.2 headroom
      (λ r. by_comparison x insertion p.ty m (fits m o insertion s p.ty p.results 2 r.0 r.1) asks.0 p.first p.second (first_seen p.first p.second p.operands) (second_seen p.first p.second p.operands))

  pub free_expand_difference : (es : List Edit) → expand_difference m.tree m.next insertion o ≡ Some es → HasHeadroom m es → Free es m
  free_expand_difference es e headroom =
      let p = two_is (head o) _ es e in
      let w = when_some (named (codes "arith.subi") (head o).name) _ es p.makes in
      these es _ w.1 headroom
      (λ r. by_complement x insertion p.ty m (fits m o insertion s p.ty p.results 5 r.0 r.1) (all_ones (type_width p.ty)) p.first p.second (first_seen p.first p.second p.operands) (second_seen p.first p.second p.operands))

  pub free_expand_remainder : (es : List Edit) → expand_remainder m.tree m.next insertion o ≡ Some es → HasHeadroom m es → Free es m
  free_expand_remainder es e headroom =
      let p = two_is (head o) _ es e in
      let division = given_some (next_to (head o).name division_of_remainder) _ es p.makes in
      these es _ division.2 headroom
      (λ r. by_remainder x insertion p.ty m (fits m o insertion s p.ty p.results 3 r.0 r.1) division.0 p.first p.second (first_seen p.first p.second p.operands) (second_seen p.first p.second p.operands))
