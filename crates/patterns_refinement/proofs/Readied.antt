-- A module in which a rule replaced an operation's result is well-formed and sorted, and its operations have operands
-- of their kinds.
use Rattle.std.proofs.Common.{◌≡◌, ℕ, zero, suc, ◌+◌, ◌<◌, inl, inr, arith, refl, ap, sym, ◌∙◌, subst, List, [], ◌∷◌, ◌++◌, map, Bool, true, false, ◌&&◌, Option, Some, None, slice_get}
use Rattle.std.specs.Prelude.{if◌then◌else◌, option_and_then}
use Rattle.std.specs.List.{list_all}
use Rattle.std.proofs.lemmas.Bool.{and_parts}
use Rattle.ir_types.specs.declared.bits.BitsKind.{BitsKind}
use Rattle.ir_types.specs.Terms.{TypeTerm, AttrTerm}
use Rattle.ir_types.specs.Bits.{width_of}
use Rattle.ir_types.specs.Reasons.{is_width}
use Rattle.ir_tree.specs.declared.value.Value.{Value}
use Rattle.ir_tree.specs.declared.value.Value.TheVariants.{Result, Arg}
use Rattle.ir_tree.specs.declared.place.Place.{Place}
use Rattle.ir_tree.specs.Tree.{OpsOf, RegionOf, RegionsOf, block, empty, head, next, no_ops, no_regions, op, region, regions}
use Rattle.ir_tree.specs.Edits.{put_value, put_values}
use Rattle.ir_tree.specs.Ids.{HasDistinctIds}
use Rattle.ir_tree.specs.Limits.{every}
use Rattle.ir_tree.specs.Uses.{same_value}
use Rattle.ir_tree.specs.Meaning.{Operation, dictionaries_rise, key_before, rises}
use Rattle.ir_tree.proofs.Replaced.{same_value_true}
use Rattle.ir_tree_laws.specs.Members.{In}
use Rattle.ir_tree_laws.specs.Stands.{OpWithPathOf, StepOf, ops_stands, region_stands, regions_stands, stands}
use Rattle.ir_tree_laws.specs.Values.{arguments_at, arguments_of, has_value, region_at, type_of_value}
use Rattle.ir_tree_laws.proofs.Listed.{all_each, each_all, in_left, in_right}
use Rattle.ir_tree_laws.proofs.Members.{stand_found}
use Rattle.ir_tree_laws.proofs.Readings.{stands_every}
use Rattle.ir_tree_laws.proofs.Reasoned.{some_there}
use Rattle.dialects_int.specs.declared.operations.Rule.{Rule as How}
use Rattle.dialects_int.specs.declared.operations.Rule.TheVariants as how
use Rattle.dialects_int.specs.Folds.{kind_of, rule_of}
use Rattle.user_patterns_check.specs.Outcomes.{given}
use Rattle.user_patterns_data.specs.Matching.{Header}
use Rattle.patterns_refinement.specs.Meaning.{Assignment, Each, EachBlock, BlocksAmong, BlocksInRegion, BlocksInRegions, owner, result_kind}
use Rattle.patterns_refinement.specs.After.{OperandsStand, rewritten, with_made}
use Rattle.patterns_refinement.specs.Applied.{IsBelow}
use Rattle.patterns_refinement.specs.Better.{AreKinded, is_kinded, kind_in, takes, takes_its}
use Rattle.patterns_refinement.proofs.Edited.{blocks_below, each_both}
use Rattle.patterns_refinement.proofs.Wellformed.{each_stands}
use Rattle.patterns_refinement.proofs.Rewritten.{AllBare, AllPut, all_blocks, all_put, given_blocks, given_each}
use Rattle.patterns_refinement.proofs.Settling.{each_by_found}
use Rattle.patterns_refinement.proofs.Trees.{ArgumentsAre, ResultsAre, each_found, typed_found, value_below}

abbrev OpWithPath : Type 0
OpWithPath = OpWithPathOf (List ℕ) TypeTerm AttrTerm

abbrev Step : Type 0
Step = StepOf (List ℕ) TypeTerm AttrTerm

-- ---- sorted dictionaries
abbrev pub Rises : Header → Type 0
Rises h = (rises key_before h.properties && rises key_before h.attributes) ≡ true

pub each_rises : (t : Operation) → every (dictionaries_rise key_before) t ≡ true → Each Rises t
each_rises t e = each_stands Rises [] t (λ s i. all_each (λ s. dictionaries_rise key_before s.here) (stands [] t) (stands_every (dictionaries_rise key_before) [] t ∙ e) s i)

pub all_rise : (t : Operation) → HasDistinctIds t → Each Rises t → every (dictionaries_rise key_before) t ≡ true
all_rise t d s =
    sym (stands_every (dictionaries_rise key_before) [] t)
    ∙ each_all (λ s. dictionaries_rise key_before s.here) (stands [] t) (λ u i. (each_found Rises (head u.here).id t s u.here (stand_found t d u i)).0)

-- ---- kinds of values
-- the value has the kind of its type
abbrev pub HasKind : (Value → Option BitsKind) → Value → TypeTerm → Type 0
HasKind value_types v ty = value_types v ≡ kind_of ty

pub record AreKinds (value_types : Value → Option BitsKind) (t : Operation) : Type 0 where
  pub results : Each (ResultsAre (HasKind value_types)) t
  pub arguments : EachBlock (ArgumentsAre (HasKind value_types)) t

pub kinds_found : (value_types : Value → Option BitsKind) (t : Operation) → AreKinds value_types t → (v : Value) → has_value v t ≡ true → kind_in t v ≡ value_types v
kinds_found value_types t s v e =
    let ty = some_there (type_of_value v t) e in
    ap (λ o. given o kind_of) ty.1 ∙ sym (typed_found (HasKind value_types) t s.results s.arguments v ty.0 ty.1)

-- a property of the blocks of each operation is a property of each block
module _ (Q : ℕ → ℕ → List TypeTerm → Type 0) where
  abbrev OwnBlocks : ℕ → ℕ → RegionsOf (List ℕ) TypeTerm AttrTerm → Type 0
  OwnBlocks y r rs = (j : ℕ) (args : List TypeTerm) (os : OpsOf (List ℕ) TypeTerm AttrTerm) → region_at j rs ≡ Some (block args os) → Q y (r + j) args

  abbrev AllOwn : List OpWithPath → Type 0
  AllOwn ss = (s : OpWithPath) → In s ss → OwnBlocks (head s.here).id 0 (regions s.here)

  mutual
    blocks_stand : (path : List Step) (t : Operation) → AllOwn (stands path t) → EachBlock Q t
    blocks_stand path (op h rs) f = regions_blocks (op h rs) path 0 rs (f (record { here = op h rs; path = path }) (inl refl)) (λ s i. f s (inr i))

    regions_blocks : (p : Operation) (path : List Step) (r : ℕ) (rs : RegionsOf (List ℕ) TypeTerm AttrTerm) → OwnBlocks (head p).id r rs → AllOwn (regions_stands p path r rs) → BlocksInRegions Q (head p).id r rs
    regions_blocks p path r no_regions own f = tt
    regions_blocks p path r (region g rs) own f = (
      region_blocks p path r g (λ args os e. subst (λ j. Q (head p).id j args) (no_more r) (own zero args os (ap (λ g. Some g) e))) (λ s i. f s (in_left s (region_stands p path r g) (regions_stands p path (r + 1) rs) i)),
      regions_blocks p path (r + 1) rs (λ j args os e. subst (λ j. Q (head p).id j args) (one_more r j) (own (suc j) args os e)) (λ s i. f s (in_right s (region_stands p path r g) (regions_stands p path (r + 1) rs) i)),
    )
      where
        no_more : (r : ℕ) → r + 0 ≡ r
        no_more r = omega arith

        one_more : (r j : ℕ) → r + suc j ≡ r + 1 + j
        one_more r j = omega arith

    region_blocks : (p : Operation) (path : List Step) (r : ℕ) (g : RegionOf (List ℕ) TypeTerm AttrTerm) → ((args : List TypeTerm) (os : OpsOf (List ℕ) TypeTerm AttrTerm) → g ≡ block args os → Q (head p).id r args) → AllOwn (region_stands p path r g) → BlocksInRegion Q (head p).id r g
    region_blocks p path r empty own f = tt
    region_blocks p path r (block args os) own f = (own args os refl, ops_blocks p path r args [] os f)

    ops_blocks : (p : Operation) (path : List Step) (r : ℕ) (args : List TypeTerm) (preceding : List Operation) (os : OpsOf (List ℕ) TypeTerm AttrTerm) → AllOwn (ops_stands p path r args preceding os) → BlocksAmong Q os
    ops_blocks p path r args preceding no_ops f = tt
    ops_blocks p path r args preceding (next o os) f =
        let here = stands (record { parent = p; region = r; args = args; preceding = preceding; rest = os } ∷ path) o in
        let more = ops_stands p path r args (preceding ++ (o ∷ [])) os in (
          blocks_stand (record { parent = p; region = r; args = args; preceding = preceding; rest = os } ∷ path) o (λ s i. f s (in_left s here more i)),
          ops_blocks p path r args (preceding ++ (o ∷ [])) os (λ s i. f s (in_right s here more i)),
        )

-- the kinds of a tree's values are those of their types
pub kinds_are : (t : Operation) → HasDistinctIds t → AreKinds (kind_in t) t
kinds_are t d = record {
  results = each_by_found (ResultsAre (HasKind (kind_in t))) t d (λ o e k ty i. ap (λ q. given q kind_of) (ap (option_and_then (λ (o : Operation). slice_get (head o).results k)) e ∙ i));
  arguments =
      blocks_stand (ArgumentsAre (HasKind (kind_in t))) [] t
      (λ s i r args os e k ty j. subst (λ z. HasKind (kind_in t) (Arg (head s.here).id z k) ty) (sym (no_zero r)) (
      ap (λ q. given q kind_of)
      (ap (option_and_then (λ (o : Operation). option_and_then (λ args. slice_get args k) (arguments_at r o))) (stand_found t d s i)
      ∙ ap (λ g. option_and_then (λ args. slice_get args k) (option_and_then arguments_of g)) e
      ∙ j)));
}
  where
    no_zero : (r : ℕ) → 0 + r ≡ r
    no_zero r = omega arith

-- ---- operations whose operands have the kinds that they need
abbrev pub Takes : (Value → Option BitsKind) → Header → Type 0
Takes value_types h = takes_its (rule_of h.name) (result_kind h) h (map value_types h.operands) ≡ true

pub same_takes : (h : Header) (y : ℕ) (vs : List Value) (js : List (Option BitsKind)) → takes_its (rule_of h.name) (result_kind h) (record h { id = y; operands = vs }) js ≡ takes_its (rule_of h.name) (result_kind h) h js
same_takes h y vs js = go (rule_of h.name) (result_kind h) js
  where
    by : (r : How) (k : BitsKind) (js : List (Option BitsKind)) → takes r (record h { id = y; operands = vs }) k js ≡ takes r h k js
    by how.Constant k js = refl
    by (how.Binary o) k [] = refl
    by (how.Binary o) k (i ∷ []) = refl
    by (how.Binary o) k (i ∷ j ∷ []) = refl
    by (how.Binary o) k (i ∷ j ∷ l ∷ js) = refl
    by how.Compare k [] = refl
    by how.Compare k (i ∷ []) = refl
    by how.Compare k (i ∷ j ∷ []) = refl
    by how.Compare k (i ∷ j ∷ l ∷ js) = refl
    by how.Select k [] = refl
    by how.Select k (i ∷ []) = refl
    by how.Select k (i ∷ j ∷ []) = refl
    by how.Select k (i ∷ j ∷ l ∷ []) = refl
    by how.Select k (i ∷ j ∷ l ∷ m ∷ js) = refl
    by (how.IntegerCast c) k [] = refl
    by (how.IntegerCast c) k (i ∷ []) = refl
    by (how.IntegerCast c) k (i ∷ j ∷ js) = refl
    by (how.IndexCast c) k [] = refl
    by (how.IndexCast c) k (i ∷ []) = refl
    by (how.IndexCast c) k (i ∷ j ∷ js) = refl

    go : (r : Option How) (k : Option BitsKind) (js : List (Option BitsKind)) → takes_its r k (record h { id = y; operands = vs }) js ≡ takes_its r k h js
    go None k js = refl
    go (Some how.Constant) None js = refl
    go (Some (how.Binary o)) None js = refl
    go (Some how.Compare) None js = refl
    go (Some how.Select) None js = refl
    go (Some (how.IntegerCast c)) None js = refl
    go (Some (how.IndexCast c)) None js = refl
    go (Some r) (Some k) js = ap (λ b. is_width (width_of k) && b) (by r k js)

-- the kinds of the new operations, with their final ids
pub record NewKinds (value_types : Value → Option BitsKind) (n : ℕ) (made : List Operation) : Type 0 where
  pub results : AllPut (ResultsAre (HasKind value_types)) n made
  pub take : AllPut (Takes value_types) n made

pub same_kinds_of : (f g : Value → Option BitsKind) (p : Value → Bool) → ((v : Value) → p v ≡ true → f v ≡ g v) → (vs : List Value) → list_all p vs ≡ true → map f vs ≡ map g vs
same_kinds_of f g p h [] e = refl
same_kinds_of f g p h (v ∷ vs) e = let q = and_parts (p v) (list_all p vs) e in (λ i. h v q.0 i ∷ same_kinds_of f g p h vs q.1 i)

module _ (value_types : Value → Option BitsKind) (n x : ℕ) (v : Value) (made : List Operation) (t : Operation) (insertion : Place) (distinct : HasDistinctIds t) (below : IsBelow n t) (agree : (w : Value) → owner w < n → value_types w ≡ kind_in t w) (bare : AllBare made) (news : NewKinds value_types n made) where
  -- the kinds after the new operations are inserted
  pub made_kinds : AreKinds value_types (with_made insertion n made t)
  made_kinds =
      let old = kinds_are t distinct in
      record {
        results =
            all_put (ResultsAre (HasKind value_types)) insertion n made t news.results bare
            (each_both (ResultsAre (HasKind (kind_in t))) (λ h. h.id < n) (ResultsAre (HasKind value_types)) (λ h p l k ty e. agree (Result h.id k) l ∙ p k ty e) t old.results below);
        arguments =
            all_blocks (ArgumentsAre (HasKind value_types)) insertion n made t bare
            (blocks_below (ArgumentsAre (HasKind (kind_in t))) (ArgumentsAre (HasKind value_types)) n (λ y r args l p k ty e. agree (Arg y r k) l ∙ p k ty e) t below old.arguments);
      }

  module _ (a : Assignment) (done : ℕ → Bool) (same : value_types v ≡ value_types (Result x 0)) where
    pub after_kinds : AreKinds value_types (rewritten insertion n made x v t)
    after_kinds = record {
      results = given_each a a n x v done (ResultsAre (HasKind value_types)) (λ h p. p) (with_made insertion n made t) made_kinds.results;
      arguments = given_blocks a a n x v done (ArgumentsAre (HasKind value_types)) (with_made insertion n made t) made_kinds.arguments;
    }

    put_kind : (w : Value) → value_types (put_value (Result x 0) v w) ≡ value_types w
    put_kind w = go (same_value (Result x 0) w) refl
      where
        go : (b : Bool) → same_value (Result x 0) w ≡ b → value_types (if b then v else w) ≡ value_types w
        go true e = same ∙ ap value_types (same_value_true (Result x 0) w e)
        go false e = refl

    put_kinds : (ws : List Value) → map value_types (map (put_value (Result x 0) v) ws) ≡ map value_types ws
    put_kinds [] = refl
    put_kinds (w ∷ ws) = λ i. put_kind w i ∷ put_kinds ws i

    change : (h : Header) → Takes value_types h → Takes value_types (put_values (Result x 0) v h)
    change h p =
        same_takes h h.id (map (put_value (Result x 0) v) h.operands) (map value_types (map (put_value (Result x 0) v) h.operands)) ∙ ap (takes_its (rule_of h.name) (result_kind h) h) (put_kinds h.operands) ∙ p

    pub after_kinded : AreKinded t → OperandsStand t → OperandsStand (rewritten insertion n made x v t) → AreKinded (rewritten insertion n made x v t)
    after_kinded kinded operands stand =
        let u = rewritten insertion n made x v t in
        each_both (Takes value_types) (λ h. list_all (λ v. has_value v u) h.operands ≡ true) (λ h. is_kinded u h ≡ true)
        (λ h p q. ap (takes_its (rule_of h.name) (result_kind h) h) (same_kinds_of (kind_in u) value_types (λ v. has_value v u) (kinds_found value_types u after_kinds) h.operands q) ∙ p) u
        (given_each a a n x v done (Takes value_types) change (with_made insertion n made t)
        (all_put (Takes value_types) insertion n made t news.take bare
        (each_both (λ h. is_kinded t h ≡ true) (λ h. list_all (λ v. has_value v t) h.operands ≡ true) (Takes value_types)
        (λ h p q. ap (takes_its (rule_of h.name) (result_kind h) h) (same_kinds_of value_types (kind_in t) (λ v. has_value v t) (λ w e. agree w (value_below n t below w e)) h.operands q) ∙ p) t kinded operands)))
        stand
