-- The verifier's rules that a verified operation doesn't break.
use Rattle.std.proofs.Common.{◌≡◌, refl, ap, sym, ◌∙◌, ℕ, ◌+◌, List, [], ◌∷◌, Bool, true, false, not, ◌&&◌, ◌||◌, Option, Some, None}
use Rattle.std.specs.Prelude.{option_map}
use Rattle.std.specs.List.{list_all}
use Rattle.ir_types.specs.Words.{is_inherent}
use Rattle.ir_types.specs.Terms.{TypeTerm, AttrTerm}
use Rattle.ir_tree.specs.Tree.{OpOf, op, head}
use Rattle.ir_tree.specs.Meaning.{Operation}
use Rattle.ir_store.specs.Nodes.{node_of}
use Rattle.ir_tree_laws.specs.Stands.{OpWithPathOf, op_with_path}
use Rattle.op_registry.specs.Rows.{Row}
use Rattle.op_registry.specs.Registry.{row_of}
use Rattle.listeners_support.specs.Surroundings.{surround}
use Rattle.ir_verify_base.specs.Fits.{Surroundings}
use Rattle.ir_verify_base.specs.Shapes.{breaks_1, breaks_3, breaks_5, breaks_12, breaks_13, is_well_shaped}
use Rattle.ir_verify_base.specs.TypeRules.{breaks_2, breaks_4, breaks_7, breaks_14, breaks_18, breaks_19, breaks_20}
use Rattle.patterns_base.specs.verify.BlockRules.{breaks_6, breaks_8, breaks_9, breaks_21}
use Rattle.patterns_base.specs.verify.PlaceRules.{breaks_10, breaks_11, breaks_15, breaks_16, breaks_17}
use Rattle.patterns_base.specs.verify.Breaks.{counted_rules, broken_rules_in, numbers_from, broken}
use Rattle.patterns_base.specs.Diagnostics.{broken_at}
use Rattle.patterns_base.specs.Looks.{Header, breaks_none, is_verified}
use Rattle.std.proofs.lemmas.Bool.{and_parts}
use Rattle.ir_verify_base.proofs.Reading.{head_shown}
use Rattle.std.proofs.lemmas.Option.{same_Some}

abbrev pub OpWithPath : Type 0
OpWithPath = OpWithPathOf (List ℕ) TypeTerm AttrTerm

-- the first rule of the list, and the others
peel : (n : ℕ) (b : Bool) (bs : List Bool) → numbers_from n (b ∷ bs) ≡ [] → (b ≡ false) × (numbers_from (n + 1) bs ≡ [])
peel n true bs e = absurd cc
peel n false bs e = (refl, e)

shaped_of : (a b c d e : Bool) → a ≡ false → b ≡ false → c ≡ false → d ≡ false → e ≡ false → not ((a || (b || c)) || (d || e)) ≡ true
shaped_of a b c d e p q r s t = λ i. not ((p i || (q i || r i)) || (s i || t i))

pub spoken : (w b : Bool) → w ≡ true → w && b ≡ false → b ≡ false
spoken true b e f = f
spoken false b e f = absurd cc

-- a listed operation that breaks none of its rules
pub record Unbroken (row : Row) (s : Surroundings) : Type 0 where
  pub shaped : is_well_shaped row s.node ≡ true
  pub operands : breaks_2 row s ≡ false
  pub results : breaks_4 row s ≡ false
  pub blocks : breaks_6 row s ≡ false
  pub arguments : breaks_7 row s ≡ false
  pub ends : breaks_9 s ≡ false
  pub yield_fits : breaks_16 s ≡ false
  pub passes : breaks_17 s ≡ false
  pub chooses : breaks_21 s ≡ false

unbroken : (row : Row) (s : Surroundings) → numbers_from 1 (counted_rules row s) ≡ [] → Unbroken row s
unbroken row s e =
    let w = is_well_shaped row s.node in
    let a = peel 1 (breaks_1 row s.node) _ e in
    let b = peel 2 (w && breaks_2 row s) _ a.1 in
    let c = peel 3 (breaks_3 row s.node) _ b.1 in
    let d = peel 4 (w && breaks_4 row s) _ c.1 in
    let f = peel 5 (breaks_5 row s.node) _ d.1 in
    let g = peel 6 (w && breaks_6 row s) _ f.1 in
    let h = peel 7 (w && breaks_7 row s) _ g.1 in
    let i = peel 8 (w && breaks_8 s) _ h.1 in
    let j = peel 9 (w && breaks_9 s) _ i.1 in
    let k = peel 10 (breaks_10 s) _ j.1 in
    let l = peel 11 (breaks_11 row s) _ k.1 in
    let m = peel 12 (breaks_12 row s.node) _ l.1 in
    let n = peel 13 (breaks_13 row s.node) _ m.1 in
    let o = peel 14 (w && breaks_14 s) _ n.1 in
    let p = peel 15 (w && breaks_15 s) _ o.1 in
    let q = peel 16 (w && breaks_16 s) _ p.1 in
    let r = peel 17 (w && breaks_17 s) _ q.1 in
    let t = peel 18 (w && breaks_18 s) _ r.1 in
    let u = peel 19 (w && breaks_19 s) _ t.1 in
    let v = peel 20 (w && breaks_20 s) _ u.1 in
    let x = peel 21 (w && breaks_21 s) _ v.1 in
    let shaped = shaped_of (breaks_1 row s.node) (breaks_3 row s.node) (breaks_5 row s.node) (breaks_12 row s.node) (breaks_13 row s.node) a.0 c.0 f.0 m.0 n.0 in
    record {
      shaped = shaped;
      operands = spoken w (breaks_2 row s) shaped b.0;
      results = spoken w (breaks_4 row s) shaped d.0;
      blocks = spoken w (breaks_6 row s) shaped g.0;
      arguments = spoken w (breaks_7 row s) shaped h.0;
      ends = spoken w (breaks_9 s) shaped j.0;
      yield_fits = spoken w (breaks_16 s) shaped q.0;
      passes = spoken w (breaks_17 s) shaped r.0;
      chooses = spoken w (breaks_21 s) shaped x.0;
    }

none_broken : (o : Option (List ℕ)) → breaks_none o ≡ true → o ≡ Some []
none_broken None e = absurd cc
none_broken (Some []) e = refl
none_broken (Some (x ∷ xs)) e = absurd cc

verified_breaks : (t : Operation) (h : Header) → is_verified t h ≡ true → broken_at h.id t ≡ Some []
unfolding is_verified
verified_breaks t h e = none_broken (broken_at h.id t) (and_parts (breaks_none (broken_at h.id t)) (list_all (λ (e : List ℕ × AttrTerm). is_inherent h.name e.0) h.properties) e).0

-- its position
pub verified_unbroken : (t : Operation) (z : OpWithPath) (row : Row) → is_verified t (head z.here) ≡ true → op_with_path (head z.here).id t ≡ Some z → row_of (head z.here).name ≡ Some row → Unbroken row (surround t z)
verified_unbroken t z row e f g =
    let s = surround t z in
    let all : broken s ≡ [] = same_Some (broken s) [] (sym (ap (λ o. option_map broken (option_map (surround t) o)) f) ∙ verified_breaks t (head z.here) e) in
    let listed : row_of s.node.head.name ≡ Some row = ap (λ (h : Header). row_of h.name) (head_shown z.here) ∙ g in
    unbroken row s (sym (ap (λ r. numbers_from 1 (broken_rules_in r s)) listed) ∙ all)
