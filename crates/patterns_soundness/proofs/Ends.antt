-- The ends of blocks.
use Rattle.std.proofs.Common.{◌≡◌, refl, ap, sym, ◌∙◌, ℕ, zero, suc, List, [], ◌∷◌, map, Bool, true, false, Option, Some, None}
use Rattle.std.specs.Prelude.{option_map, option_and_then, slice_get}
use Rattle.ir_types.specs.Terms.{TypeTerm, AttrTerm}
use Rattle.ir_tree.specs.Tree.{OpOf, RegionsOf, no_regions, region, RegionOf, empty, block, OpsOf, no_ops, next, head, regions}
use Rattle.ir_tree.specs.Ids.{first_of}
use Rattle.ir_tree.specs.Meaning.{Operation}
use Rattle.ir_store.specs.Nodes.{regions_arguments}
use Rattle.ir_tree_laws.specs.Reads.{ops_in}
use Rattle.ir_tree_laws.specs.Values.{arguments_of, region_at}
use Rattle.ir_tree_laws.proofs.Members.{joined_ops}
use Rattle.listeners_support.specs.Surroundings.{last_name, last_names}
use Rattle.patterns_base.specs.Keeps.{given}
use Rattle.patterns_base.specs.Looks.{Ended, body, ended, ended_by, is_verified, when}
use Rattle.ir_verify_base.proofs.Reading.{name_joined}

-- by the regions' numbers
pub names_at : {N T A : Type 0} (rs : RegionsOf N T A) (r : ℕ) → slice_get (last_names rs) r ≡ option_map (λ g. option_and_then last_name (ops_in g)) (region_at r rs)
names_at no_regions zero = refl
names_at no_regions (suc r) = refl
names_at (region g rs) zero = refl
names_at (region g rs) (suc r) = names_at rs r

pub arguments_read : {N T A : Type 0} (rs : RegionsOf N T A) (r : ℕ) → slice_get (regions_arguments rs) r ≡ option_map (λ g. arguments_of g) (region_at r rs)
arguments_read no_regions zero = refl
arguments_read no_regions (suc r) = refl
arguments_read (region g rs) zero = refl
arguments_read (region g rs) (suc r) = arguments_read rs r

-- a block's operations, and the last of them
pub record Ending (t o : Operation) (r : ℕ) (e : Ended) : Type 0 where
  pub args : List TypeTerm
  pub preceding : List Operation
  pub last : Operation
  pub block : region_at r (regions o) ≡ Some (block args (joined_ops preceding (next last no_ops)))
  pub before : e.before ≡ map (λ (o : Operation). (head o).id) preceding
  pub is : e.last ≡ head last
  pub verified : is_verified t (head last) ≡ true

-- a list split before its last operation
record Split (p : Operation) (os : OpsOf (List ℕ) TypeTerm AttrTerm) : Type 0 where
  before : List Operation
  end : Operation
  parts : next p os ≡ joined_ops before (next end no_ops)
  ids_are : (ended_by p os).before ≡ map (λ (o : Operation). (head o).id) before
  head_is : (ended_by p os).last ≡ head end

split : (p : Operation) (os : OpsOf (List ℕ) TypeTerm AttrTerm) → Split p os
split p no_ops = record { before = []; end = p; parts = refl; ids_are = refl; head_is = refl }
split p (next q os) = let s = split q os in record { before = p ∷ s.before; end = s.end; parts = ap (next p) s.parts; ids_are = ap (λ l. (head p).id ∷ l) s.ids_are; head_is = s.head_is }

pub ending : (t o : Operation) (r : ℕ) (e : Ended) → body t o r ≡ Some e → Ending t o r e
ending t o r e k = go (region_at r (regions o)) refl k
  where
    tested : (p : Operation) (os : OpsOf (List ℕ) TypeTerm AttrTerm) (args : List TypeTerm) → region_at r (regions o) ≡ Some (block args (next p os)) → (b : Bool) → is_verified t (ended_by p os).last ≡ b → when b (Some (ended_by p os)) ≡ Some e → Ending t o r e
    tested p os args f true c k =
        let s = split p os in
        let one : ended_by p os ≡ e = cc in
        record {
          args = args;
          preceding = s.before;
          last = s.end;
          block = f ∙ ap (λ l. Some (block args l)) s.parts;
          before = sym (ap (λ (z : Ended). z.before) one) ∙ s.ids_are;
          is = sym (ap (λ (z : Ended). z.last) one) ∙ s.head_is;
          verified = ap (is_verified t) (sym s.head_is) ∙ c;
        }
    tested p os args f false c k = absurd cc

    go : (g : Option (RegionOf (List ℕ) TypeTerm AttrTerm)) → region_at r (regions o) ≡ g → given (given g ended) (λ e. when (is_verified t e.last) (Some e)) ≡ Some e → Ending t o r e
    go None f k = absurd cc
    go (Some empty) f k = absurd cc
    go (Some (block args no_ops)) f k = absurd cc
    go (Some (block args (next p os))) f k = tested p os args f (is_verified t (ended_by p os).last) refl k
