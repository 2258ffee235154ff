-- The order of names by their bytes.
use Rattle.std.proofs.Common.{◌≡◌, refl, ap, sym, ◌∙◌, ℕ, true, false, true≢false, Ordering, Less, Equal, Greater}
use Rattle.std.specs.Ordering.{is_eq, is_lt, nat_cmp, ordering_reverse}
use Rattle.std.specs.Cmp.Lexicographic.{slice_cmp}
use Rattle.std.proofs.lemmas.Cmp.{nat_list_cmp_total}
use Rattle.std.proofs.lemmas.Map.Text.{is_eq-slice_cmp}
use Rattle.ir_tree.specs.types.Things.{ContextModel}
use Rattle.ir_tree.specs.types.Terms.{name_term}
use Rattle.ir_tree.proofs.of_types.Growth.{name_refl, name_is}
use Rattle.ir_tree.specs.Meaning.{key_before, key_before_in}
use Rattle.ir_tree_laws.specs.Keys.{Ordered}
use Rattle.ir_tree.proofs.of_types.AcceptedCalls.{less_from}

tied_is : (o o' : Ordering) → o ≡ ordering_reverse o' → is_lt o ≡ false → is_lt o' ≡ false → is_eq o ≡ true
tied_is Less o' e h g = cc
tied_is Equal o' e h g = refl
tied_is Greater Less e h g = cc
tied_is Greater Equal e h g = cc
tied_is Greater Greater e h g = cc

not_less : (o : Ordering) → is_eq o ≡ true → is_lt o ≡ false
not_less Less h = absurd (true≢false (sym h))
not_less Equal h = refl
not_less Greater h = absurd (true≢false (sym h))

pub keys_ordered : Ordered key_before
keys_ordered = record {
  irr = λ k. not_less (slice_cmp nat_cmp k k) (is_eq-slice_cmp k k ∙ name_refl k);
  trans = λ k l m h g. ap is_lt (nat_list_cmp_total.trans k l m (less_from (slice_cmp nat_cmp k l) h) (less_from (slice_cmp nat_cmp l m) g));
  exact = λ k l h g. name_is k l (sym (is_eq-slice_cmp k l) ∙ tied_is (slice_cmp nat_cmp k l) (slice_cmp nat_cmp l k) (nat_list_cmp_total.antisymm k l) h g);
}

pub key_before_trans : (c : ContextModel) (k l m : ℕ) → key_before_in c k l ≡ true → key_before_in c l m ≡ true → key_before_in c k m ≡ true
key_before_trans c k l m h g = keys_ordered.trans (name_term c k) (name_term c l) (name_term c m) h g
