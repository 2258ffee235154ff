-- Rules on casts of casts.
use Rattle.std.proofs.Common.{◌≡◌, refl, ℕ, Some, ◌||◌}
use Rattle.std.specs.Prelude.{codes, nat_le}
use Rattle.ir_event.specs.types.Readings.{type_width}
use Rattle.ir_event.specs.trees.declared.place.Place.{Place}
use Rattle.ir_event.specs.trees.Tree.{head}
use Rattle.ir_event.specs.trees.Meaning.{Operation}
use Rattle.patterns_soundness.specs.base.Words.{named, among, extensions}
use Rattle.patterns_soundness.specs.base.Looks.{Header, One, is_of_type, source, source_among, one, defining_op}
use Rattle.patterns_soundness.specs.base.Makes.{give}
use Rattle.patterns_soundness.specs.base.Casting.{resizing, recast, unrealized, back_from, through_index, extend_extension}
use Rattle.patterns_soundness.specs.base.Casting.{cut_cast, cast_back}
use Rattle.patterns_soundness.specs.base.Rules.{rule}
use Rattle.ir_event.specs.tree_laws.Members.{In}
use Rattle.patterns_laws.specs.Words.{index_casts}
use Rattle.patterns_laws.proofs.Recast.{signed_twice, unsigned_twice, signed_of_unsigned, cut_twice, cut_back_signed, cut_back_unsigned, all_came_back}
use Rattle.patterns_soundness.specs.base.declared.rule.Rule.TheVariants.{ExtendExtension, CutCast, CastBack}
use Rattle.patterns_soundness.proofs.of_base.Dispatch.{only_listed}
use Rattle.patterns_soundness.specs.Alike.{Same, DominatedByAlike}
use Rattle.patterns_soundness.specs.Soundness.{Soundness}
use Rattle.patterns_soundness.proofs.Near.{still, tested, either, of_some, Fine}
use Rattle.patterns_soundness.proofs.Looking.{given_alike, when_alike, if_alike, source_alike, among_alike, type_alike, source_gives, among_gives, on_one_alike, inner_type}
use Rattle.patterns_soundness.proofs.Accepting.{are_accepted_at}

module _ (t : Operation) (n : ℕ) (place : Place) (o : Operation) where
  abbrev h : Header
  h = head o

  abbrev x : ℕ
  x = h.id

  back : (p q : One) → Fine place o (back_from t n place o p q)
  back p q = tested place o _ _ (still place o _ refl)

  unreal : (p : One) → Fine place o (unrealized t n place o p)
  unreal p = either place o _ _ _ (still place o _ refl) (of_some place o _ _ (λ y. of_some place o (one y) _ (λ q. back p q)))

  through : (p : One) → Fine place o (through_index t n place o p)
  through p = of_some place o (source t p.name p.first) _ (λ y. of_some place o (one y) _ (λ q. tested place o (nat_le (type_width p.ty) (type_width q.ty)) _ (back p q)))

  near_extend_extension : Fine place o (extend_extension t n place o)
  near_extend_extension = of_some place o (one h) _ (λ p. tested place o (among extensions p.name) _ (of_some place o (source_among t extensions p.first) _ (λ y. of_some place o (one y) _ (λ q. tested place o (named p.name q.name || named (codes "arith.extsi") p.name) _ (still place o (recast t n place o p q) (refl, refl, refl))))))

  near_cut_cast : Fine place o (cut_cast t n place o)
  near_cut_cast = of_some place o (one h) _ (λ p. tested place o (named (codes "arith.trunci") p.name) _ (of_some place o (source_among t resizing p.first) _ (λ y. of_some place o (one y) _ (λ q.
      either place o (named (codes "arith.trunci") q.name) _ _ (still place o (recast t n place o p q) (refl, refl, refl)) (tested place o (is_of_type t p.ty q.first) _ (still place o (give x q.first) refl))))))

  near_cast_back : Fine place o (cast_back t n place o)
  near_cast_back = of_some place o (one h) _ (λ p. either place o _ _ _ (unreal p) (tested place o _ _ (through p)))

module _ (t u : Operation) (n k : ℕ) (f g : Place) (o p : Operation) (same : head o ≡ head p) (dominated_by : DominatedByAlike t u (head o)) where
  back_alike : (q : One) → In q.first (head o).operands → (y : Header) → defining_op t q.first ≡ Some y → (z : One) → one y ≡ Some z → Same (back_from t n f o q z) (back_from u k g p q z)
  back_alike q s y i z j = when_alike _ _ _ _ (type_alike t u q.ty z.first (inner_type t u o p same dominated_by q.first s y i z j)) refl

  unrealized_alike : (q : One) → In q.first (head o).operands → Same (unrealized t n f o q) (unrealized u k g p q)
  unrealized_alike q s = if_alike _ _ _ _ _ _ (type_alike t u q.ty q.first (dominated_by.types q.first s)) refl
      (given_alike (source t q.name q.first) (source u q.name q.first) _ _ (source_alike t u q.name q.first (dominated_by.operands q.first s)) (λ y i.
      given_alike (one y) (one y) _ _ refl (λ z j. back_alike q s y (source_gives t q.name q.first y i) z j)))

  through_alike : (q : One) → In q.first (head o).operands → Same (through_index t n f o q) (through_index u k g p q)
  through_alike q s =
      given_alike (source t q.name q.first) (source u q.name q.first) _ _ (source_alike t u q.name q.first (dominated_by.operands q.first s)) (λ y i.
      given_alike (one y) (one y) _ _ refl (λ z j. when_alike (nat_le (type_width q.ty) (type_width z.ty)) _ _ _ refl (back_alike q s y (source_gives t q.name q.first y i) z j)))

  same_extend_extension : Same (extend_extension t n f o) (extend_extension u k g p)
  same_extend_extension = on_one_alike t u o p same dominated_by _ _ (λ q s. when_alike (among extensions q.name) _ _ _ refl
      (given_alike (source_among t extensions q.first) (source_among u extensions q.first) _ _ (among_alike t u extensions q.first (dominated_by.operands q.first s)) (λ y i.
      given_alike (one y) (one y) _ _ refl (λ z j. when_alike (named q.name z.name || named (codes "arith.extsi") q.name) _ _ _ refl refl))))

  same_cut_cast : Same (cut_cast t n f o) (cut_cast u k g p)
  same_cut_cast = on_one_alike t u o p same dominated_by _ _ (λ q s. when_alike (named (codes "arith.trunci") q.name) _ _ _ refl
      (given_alike (source_among t resizing q.first) (source_among u resizing q.first) _ _ (among_alike t u resizing q.first (dominated_by.operands q.first s)) (λ y i.
      given_alike (one y) (one y) _ _ refl (λ z j.
      if_alike (named (codes "arith.trunci") z.name) _ _ _ _ _ refl refl
      (when_alike _ _ _ _ (type_alike t u q.ty z.first (inner_type t u o p same dominated_by q.first s y (among_gives t resizing q.first y i) z j)) refl)))))

  same_cast_back : Same (cast_back t n f o) (cast_back u k g p)
  same_cast_back = on_one_alike t u o p same dominated_by _ _ (λ q s. if_alike (named (codes "builtin.unrealized_conversion_cast") q.name) _ _ _ _ _ refl (unrealized_alike q s) (when_alike (among index_casts q.name) _ _ _ refl (through_alike q s)))

pub extend_extension_facts : Soundness ExtendExtension
unfolding rule
extend_extension_facts = record {
  keeps = (signed_twice, unsigned_twice, signed_of_unsigned);
  listed = only_listed ExtendExtension;
  near = λ lowers t n place o. (near_extend_extension t n place o).each;
  alike = λ lowers t u n k f g o p looks. same_extend_extension t u n k f g o p looks.heads looks.dominated_by;
  accepted = are_accepted_at ExtendExtension;
  makes = λ converts. absurd cc;
}

pub cut_cast_facts : Soundness CutCast
unfolding rule
cut_cast_facts = record {
  keeps = (cut_twice, cut_back_signed, cut_back_unsigned);
  listed = only_listed CutCast;
  near = λ lowers t n place o. (near_cut_cast t n place o).each;
  alike = λ lowers t u n k f g o p looks. same_cut_cast t u n k f g o p looks.heads looks.dominated_by;
  accepted = are_accepted_at CutCast;
  makes = λ converts. absurd cc;
}

pub cast_back_facts : Soundness CastBack
unfolding rule
cast_back_facts = record {
  keeps = all_came_back;
  listed = only_listed CastBack;
  near = λ lowers t n place o. (near_cast_back t n place o).each;
  alike = λ lowers t u n k f g o p looks. same_cast_back t u n k f g o p looks.heads looks.dominated_by;
  accepted = are_accepted_at CastBack;
  makes = λ converts. absurd cc;
}
