-- Scans for the first rewrite, and the results of runs.
use Rattle.std.proofs.Common.{◌≡◌, ◌≢◌, refl, ap, sym, ◌∙◌, subst, ℕ, ◌+◌, inl, inr, ◌⊎◌, Bool, true, false, ◌||◌, cond, eqb, eqb-true, eq-eqb, List, [], ◌∷◌, Option, Some, None, true≢false}
use Rattle.std.specs.Prelude.{nat_le}
use Rattle.std.specs.List.{list_any}
use Rattle.std.proofs.lemmas.List.Elements.{All-head, All-tail}
use Rattle.ir_event.specs.types.declared.refusal.Refusal.{Refusal}
use Rattle.ir_event.specs.trees.Tree.{op, head}
use Rattle.ir_event.specs.trees.Ids.{ids, regions_ids, has_id, op_count, HasDistinctIds}
use Rattle.ir_event.specs.trees.Meaning.{Operation}
use Rattle.ir_event.specs.trees.Limits.{most_ops, most_next}
use Rattle.ir_event.specs.tree_laws.Reads.{comes_after, precedes}
use Rattle.ir_event.proofs.of_tree_laws.Listed.{bool_cases}
use Rattle.ir_event.specs.Modules.{Module}
use Rattle.rewriter_machine.specs.Contents.{Edit}
use Rattle.patterns_base.specs.declared.rule.Rule.{Rule}
use Rattle.patterns_base.specs.Makes.{made_by}
use Rattle.patterns_base.specs.Rewrites.{Rewrite, none, refused, becomes, edits_of, rewrite_by, rewrite_of}
use Rattle.patterns_base.specs.RuleNames.{is_canonical}
use Rattle.patterns_base.specs.Canonicalization.{or_else, first_rule}
use Rattle.patterns.specs.Rows.{AreCanonical}
use Rattle.greedy.specs.Outcomes.{Applied, Refuses}
use Rattle.greedy.specs.Rewriting.{first_by, next_by}
use Rattle.greedy.specs.Work.{waits, IsWork, Right, CoversBut, StillWaits, Taken, NoneWaits}
use Rattle.greedy.specs.LocalContext.{is_listed}
use Rattle.std.proofs.lemmas.Bool.{false_from_ne_true, or_left}
use Rattle.greedy.specs.Listing.{TouchedUpTo}
use Rattle.greedy.specs.PatternSet.{PatternSetModel}
use Rattle.greedy.specs.Applications.{StaysAway}
use Rattle.greedy.proofs.Listed.{first_there, listed_at, listed_more, listed_past}

-- a rewrite that exists
pub becomes_none : (p : Module) → becomes p ≡ none → ⊥
becomes_none p e = true≢false (ap (λ a. elim a as (λ _. Bool) [ none ↦ false | refused g ↦ true | becomes p ↦ true ]) e)

pub refused_none : (f : Refusal) → refused f ≡ none → ⊥
refused_none f e = true≢false (ap (λ a. elim a as (λ _. Bool) [ none ↦ false | refused g ↦ true | becomes p ↦ true ]) e)

pub or_none : (a b : Rewrite) → or_else a b ≡ none → (a ≡ none) × (b ≡ none)
or_none none b e = (refl, e)
or_none (refused f) b e = absurd (refused_none f e)
or_none (becomes p) b e = absurd (becomes_none p e)

stops : (a b : Rewrite) → a ≢ none → or_else a b ≡ a
stops none b n = absurd (n refl)
stops (refused e) b n = refl
stops (becomes p) b n = refl

pub before_here : (x y : ℕ) (xs : List ℕ) → is_listed y xs ≡ true → comes_after x y (x ∷ xs) ≡ true
before_here x y xs k = ap (λ c. cond c (is_listed y xs) (comes_after x y xs)) (eq-eqb x x refl) ∙ k

pub before_later : (x z y : ℕ) (xs : List ℕ) → is_listed y xs ≡ true → comes_after z y xs ≡ true → comes_after z y (x ∷ xs) ≡ true
before_later x z y xs k c = elim (bool_cases (eqb x z)) [
  | inl e ↦ ap (λ c. cond c (is_listed y xs) (comes_after z y xs)) e ∙ k
  | inr e ↦ ap (λ c. cond c (is_listed y xs) (comes_after z y xs)) e ∙ c
]

-- ---- the rules at an operation
pub gave : (a : Rewrite) (b : Bool) (p n : Module) → b ≡ true → Applied a b p n → a ≡ becomes n
gave none b p n t h = absurd (true≢false (sym t ∙ h.0))
gave (refused e) b p n t h = absurd h
gave (becomes q) b p n t h = ap becomes (sym h.1)

-- a rule with edits makes a rewrite or is refused
carried : (a b : Bool) (n : Module) (f g : Refusal) → cond a (cond b (becomes n) (refused f)) (refused g) ≡ none → ⊥
carried true true n f g e = becomes_none n e
carried true false n f g e = refused_none f e
carried false b n f g e = refused_none g e

pub by_none : (es : Option (List Edit)) (m : Module) → rewrite_by es m ≡ none → es ≡ None
by_none None m e = refl
by_none (Some es) m e = absurd (carried (nat_le (op_count m.tree + made_by es) most_ops) (nat_le (m.next + made_by es) most_next) _ _ _ e)

module _ (m : Module) (x : ℕ) where
  pub no_edits : (r : Rule) → rewrite_of r m x ≡ none → edits_of r m x ≡ None
  unfolding rewrite_of
  no_edits r e = by_none (edits_of r m x) m e

  pub no_rewrite : (r : Rule) → edits_of r m x ≡ None → rewrite_of r m x ≡ none
  unfolding rewrite_of
  no_rewrite r e = ap (λ es. rewrite_by es m) e

abbrev pub IsTried : Rule → Type 0
IsTried r = is_canonical r ≡ true

-- if none of some rules applies in one module, and no rule applies in another that didn't apply before, then none of
-- them applies there
pub none_still : (m n : Module) (x : ℕ) (rs : List Rule) → AreCanonical rs → ((r : Rule) → is_canonical r ≡ true → edits_of r m x ≡ None → edits_of r n x ≡ None) → first_rule rs m x ≡ none → first_rule rs n x ≡ none
unfolding first_rule
none_still m n x [] h still e = refl
none_still m n x (r ∷ rs) h still e =
    let parts = or_none (rewrite_of r m x) (first_rule rs m x) e in
    ap (λ a. or_else a (first_rule rs n x)) (no_rewrite n x r (still r (All-head IsTried r rs h) (no_edits m x r parts.0)))
    ∙ none_still m n x rs (All-tail IsTried r rs h) still parts.1

-- ---- no rule applies at the root, and all other operations come after the root
root_or_after : (t : Operation) (z : ℕ) → has_id z t ≡ true → (z ≡ (head t).id) ⊎ (precedes (head t).id z t ≡ true)
root_or_after (op h rs) z e = elim (bool_cases (eqb h.id z)) [
  | inl k ↦ inl (sym (eqb-true h.id z k))
  | inr k ↦ inr (before_here h.id z (regions_ids rs) (listed_past h.id z (regions_ids rs) k e))
]

root_there : (t : Operation) → has_id (head t).id t ≡ true
root_there (op h rs) = ap (λ b. b || list_any (λ y. eqb y h.id) (regions_ids rs)) (eq-eqb h.id h.id refl)

-- ---- with a pattern set
module _ (pattern_set : PatternSetModel) where
  module _ (m : Module) where
    pub first_none : (xs : List ℕ) → ((z : ℕ) → is_listed z xs ≡ true → pattern_set.comes m z ≡ none) → first_by pattern_set xs m ≡ none
    unfolding first_by
    first_none [] h = refl
    first_none (x ∷ xs) h = ap (λ a. or_else a (first_by pattern_set xs m)) (h x (listed_at x x xs (eq-eqb x x refl))) ∙ first_none xs (λ z i. h z (listed_more x z xs i))

    -- if nothing applies before y, the scan returns the rewrite at y, if there is one
    pub first_at : (y : ℕ) (xs : List ℕ) → is_listed y xs ≡ true → ((z : ℕ) → comes_after z y xs ≡ true → pattern_set.comes m z ≡ none) → pattern_set.comes m y ≢ none → first_by pattern_set xs m ≡ pattern_set.comes m y
    unfolding first_by
    first_at y [] i h n = absurd (true≢false (sym i))
    first_at y (x ∷ xs) i h n = elim (bool_cases (eqb x y)) [
      | inl e ↦ ap (λ z. or_else (pattern_set.comes m z) (first_by pattern_set xs m)) (eqb-true x y e) ∙ stops (pattern_set.comes m y) (first_by pattern_set xs m) n
      | inr e ↦
          let k = listed_past x y xs e i in
          ap (λ a. or_else a (first_by pattern_set xs m)) (h x (before_here x y xs k)) ∙ first_at y xs k (λ z c. h z (before_later x z y xs k c)) n
    ]

  -- ---- after a rewrite at operation x, every operation at which something may apply waits
  pub renewed : (m n : Module) (x : ℕ) (listed : List ℕ) (p : ℕ) (a : List ℕ) (p2 : ℕ) (a2 : List ℕ) (p3 : ℕ) (a3 : List ℕ) (p4 : ℕ) (a4 : List ℕ)
      → StaysAway pattern_set → TouchedUpTo p2 m n listed → CoversBut pattern_set x p a m
      → StillWaits p a m.tree p2 a2 n.tree → StillWaits p2 a2 n.tree p3 a3 n.tree → (has_id x n.tree ≡ true → waits p3 a3 n.tree x ≡ true)
      → StillWaits p3 a3 n.tree p4 a4 n.tree → ((z : ℕ) → is_listed z listed ≡ true → has_id z n.tree ≡ true → waits p4 a4 n.tree z ≡ true)
      → IsWork p4 a4 n.tree → Right pattern_set p4 a4 n
  renewed m n x listed p a p2 a2 p3 a3 p4 a4 stays touched but s1 s2 here s3 all w = record {
    work = w;
    covers = λ z h v. elim (bool_cases (is_listed z listed)) [
      | inl e ↦ absurd (true≢false (sym (all z e h) ∙ v))
      | inr e ↦
          let s = touched z h e (false_from_ne_true (precedes p2 z n.tree) (λ k. true≢false (sym (s3 z h h (s2 z h h (or_left (precedes p2 z n.tree) (is_listed z a2) k))) ∙ v))) in
          elim (bool_cases (waits p a m.tree z)) [
            | inl k ↦ absurd (true≢false (sym (s3 z h h (s2 z h h (s1 z s.was h k))) ∙ v))
            | inr k ↦ elim (but z s.was k) [
              | inl q ↦ absurd (true≢false (sym (s3 z h h (subst (λ y. waits p3 a3 n.tree y ≡ true) (sym q) (here (subst (λ y. has_id y n.tree ≡ true) q h)))) ∙ v))
              | inr q ↦ stays m n z s q
            ]
          ]
    ];
  }

  -- ---- the worklist at the root
  pub begun : (m : Module) → HasDistinctIds m.tree → pattern_set.comes m (head m.tree).id ≡ none → Right pattern_set (head m.tree).id [] m
  begun m d root = record {
    work = record { there = root_there m.tree; inside = λ y k. absurd (true≢false (sym k)); trailing = λ y k. absurd (true≢false (sym k)); falls = tt };
    covers = λ z h w. elim (root_or_after m.tree z h) [
      | inl e ↦ subst (λ y. pattern_set.comes m y ≡ none) (sym e) root
      | inr k ↦ absurd (true≢false (sym (ap (λ b. b || is_listed z []) k) ∙ w))
    ];
  }

  -- ---- taking from a worklist
  module _ (m : Module) (x p : ℕ) (a : List ℕ) (p2 : ℕ) (a2 : List ℕ) (r : Right pattern_set p a m) (k : Taken x p a p2 a2 m.tree) where
    pub first_waits : (z : ℕ) → precedes z x m.tree ≡ true → pattern_set.comes m z ≡ none
    first_waits z h = r.covers z (first_there z x (ids m.tree) h) (k.first z h)

    -- the first waiting operation is the site of the next step, if something applies there
    pub is_step : pattern_set.comes m x ≢ none → next_by pattern_set m ≡ pattern_set.comes m x
    is_step n = first_at m x (ids m.tree) k.there first_waits n

    pub took : CoversBut pattern_set x p2 a2 m
    took z h v = elim (bool_cases (waits p a m.tree z)) [
      | inl e ↦ elim (k.others z h e) [ inl s ↦ inl s | inr s ↦ absurd (true≢false (sym s ∙ v)) ]
      | inr e ↦ inr (r.covers z h e)
    ]

    pub took_none : pattern_set.comes m x ≡ none → Right pattern_set p2 a2 m
    took_none n = record { work = k.work; covers = λ z h v. elim (took z h v) [ inl s ↦ subst (λ y. pattern_set.comes m y ≡ none) (sym s) n | inr s ↦ s ] }

    -- the result of applying it is the result of the next step
    pub said : (b : Bool) (n : Module) → b ≡ true → Applied (pattern_set.comes m x) b m n → Applied (next_by pattern_set m) true m n
    said b n t h = subst (λ c. Applied c true m n) (sym (is_step (not_none b n t h))) (subst (λ c. Applied (pattern_set.comes m x) c m n) t h)
      where
        not_none : (b : Bool) (n : Module) → b ≡ true → Applied (pattern_set.comes m x) b m n → pattern_set.comes m x ≢ none
        not_none b n t h e = true≢false (sym t ∙ (subst (λ c. Applied c b m n) e h).0)

    pub said_none : (b : Bool) (n : Module) → b ≡ false → Applied (pattern_set.comes m x) b m n → (pattern_set.comes m x ≡ none) × (n ≡ m)
    said_none b n f h = go (pattern_set.comes m x) refl h
      where
        go : (c : Rewrite) → pattern_set.comes m x ≡ c → Applied c b m n → (pattern_set.comes m x ≡ none) × (n ≡ m)
        go none e h = (e, h.1)
        go (refused g) e h = absurd h
        go (becomes q) e h = absurd (true≢false (sym h.0 ∙ f))

    pub said_refuses : (full : Type 0) (e : Refusal) → Refuses (pattern_set.comes m x) full e → Refuses (next_by pattern_set m) full e
    said_refuses full e (inl h) = inl h
    said_refuses full e (inr (inl h)) = inr (inl (is_step (λ n. refused_none e (sym h ∙ n)) ∙ h))
    said_refuses full e (inr (inr h)) = inr (inr (h.0, (λ n. h.1.0 (sym (is_step h.1.0) ∙ n), h.1.1)))

  -- no operation waits: nothing applies
  pub all_none : (m : Module) (p : ℕ) (a : List ℕ) → Right pattern_set p a m → NoneWaits p a m.tree → next_by pattern_set m ≡ none
  all_none m p a r n = first_none m (ids m.tree) (λ z h. r.covers z h (n z h))

  pub rewrote : (m : Module) (x : ℕ) (b : Bool) (n : Module) → b ≡ true → Applied (pattern_set.comes m x) b m n → pattern_set.comes m x ≡ becomes n
  rewrote m x b n t h = gave (pattern_set.comes m x) b m n t h
