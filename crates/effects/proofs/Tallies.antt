-- Use counts, as the heads of a tree change.
use Rattle.std.proofs.Common.{◌≡◌, ℕ, zero, suc, ◌+◌, ◌-◌, ◌⊎◌, List, [], ◌∷◌, ◌++◌, Bool, true, false, true≢false, Option, Some, None, refl, sym, ap, ◌∙◌, subst, cond, eqb, eq-eqb, map, arith, inl, inr}
use Rattle.std.specs.Prelude.{option_map, slice_get, slice_set}
use Rattle.std.specs.List.{IsDistinct, AllByRecursion}
use Rattle.std.proofs.lemmas.Bool.{cases_eq, ne_eqb}
use Rattle.std.proofs.lemmas.Map.Keys.{IsDistinct-head, IsDistinct-tail}
use Rattle.ir_event.specs.trees.declared.value.Value.{Value}
use Rattle.ir_event.specs.trees.Tree.{HeadOf}
use Rattle.ir_event.specs.trees.Ids.{first_of}
use Rattle.ir_event.specs.trees.Edits.{at, put_operand}
use Rattle.ir_event.specs.trees.Maps.{map_head}
use Rattle.ir_event.specs.tree_laws.Members.{In}
use Rattle.effects.specs.Points.{one_if}
use Rattle.effects.specs.Dead.{is_result_of}
use Rattle.ir_event.specs.Heads.{all_operands}
use Rattle.effects.specs.Counts.{Counts, results_among, with_count, Raised, AllEntered, EnteredWith, LeftWith, Exchanged}
use Rattle.ir_event.proofs.ById.{look, NotIn, AllApart}
use Rattle.effects.proofs.Shown.{all_apart}
use Rattle.effects.proofs.Headed.{tagged, among_joined, operands_joined}

-- ---- pairs

module _ {V : Type 0} where
  look_joined : (y : ℕ) (ps qs : List (ℕ × V)) → look y (ps ++ qs) ≡ first_of (look y ps) (look y qs)
  look_joined y [] qs = refl
  look_joined y (p ∷ ps) qs =
      ap (cond (eqb y p.0) (Some p.1)) (look_joined y ps qs)
      ∙ elim (eqb y p.0) as (λ b. cond b (Some p.1) (first_of (look y ps) (look y qs)) ≡ first_of (cond b (Some p.1) (look y ps)) (look y qs)) [ true ↦ refl | false ↦ refl ]

  look_missing : (y : ℕ) (ps : List (ℕ × V)) → NotIn y ps → look y ps ≡ None
  look_missing y [] n = refl
  look_missing y (p ∷ ps) n = ap (λ b. cond b (Some p.1) (look y ps)) (ne_eqb y p.0 n.0) ∙ look_missing y ps n.1

  apart_parts : (ps qs : List (ℕ × V)) → AllApart (ps ++ qs) → (y : ℕ) → (look y ps ≡ None) ⊎ (look y qs ≡ None)
  apart_parts [] qs a y = inl refl
  apart_parts (p ∷ ps) qs a y = elim (cases_eq y p.0) [
    | inl e ↦ inr (ap (λ z. look z qs) e ∙ look_missing p.0 qs (trailing ps a.0))
    | inr ne ↦ elim (apart_parts ps qs a.1 y) [ inl h ↦ inl (ap (λ b. cond b (Some p.1) (look y ps)) (ne_eqb y p.0 ne) ∙ h) | inr h ↦ inr h ]
  ]
    where
      trailing : (rs : List (ℕ × V)) → NotIn p.0 (rs ++ qs) → NotIn p.0 qs
      trailing [] n = n
      trailing (r ∷ rs) n = trailing rs n.1

  crossed : (a b c : Option V) → (a ≡ None) ⊎ (first_of b c ≡ None) → first_of a (first_of b c) ≡ first_of b (first_of a c)
  crossed a b c (inl e) = ap (λ z. first_of z (first_of b c)) e ∙ sym (ap (λ z. first_of b (first_of z c)) e)
  crossed a None c (inr e) = refl
  crossed a (Some b) c (inr e) = absurd cc

-- one operand is replaced
set_among : (y k : ℕ) (old new : Value) (vs : List Value) → slice_get vs k ≡ Some old → results_among y (slice_set vs k new) + one_if (is_result_of y old) ≡ results_among y vs + one_if (is_result_of y new)
set_among y zero old new [] e = absurd cc
set_among y (suc k) old new [] e = absurd cc
set_among y zero old new (v ∷ vs) e =
    let one : v ≡ old = cc in
    let same : one_if (is_result_of y v) ≡ one_if (is_result_of y old) = ap (λ w. one_if (is_result_of y w)) one in
    omega (arith, same)
set_among y (suc k) old new (v ∷ vs) e = let more = set_among y k old new vs e in omega (arith, more)

-- ---- heads

module _ {N T A : Type 0} (kept : N → Bool) where
  abbrev marks : List (HeadOf N T A) → List (ℕ × Bool)
  marks hs = tagged (λ (h : HeadOf N T A). kept h.name) hs

  -- the count of y in a table that counts the heads
  abbrev pub tallied : List (HeadOf N T A) → ℕ → Option ℕ
  tallied hs y = option_map (λ k. results_among y (all_operands hs) + one_if k) (look y (tagged (λ (h : HeadOf N T A). kept h.name) hs))

  marks_joined : (hs gs : List (HeadOf N T A)) → marks (hs ++ gs) ≡ marks hs ++ marks gs
  marks_joined [] gs = refl
  marks_joined (h ∷ hs) gs = ap (λ l. (h.id, kept h.name) ∷ l) (marks_joined hs gs)

  among_parts : (y : ℕ) (hs gs : List (HeadOf N T A)) → results_among y (all_operands (hs ++ gs)) ≡ results_among y (all_operands hs) + results_among y (all_operands gs)
  among_parts y hs gs = ap (results_among y) (operands_joined hs gs) ∙ among_joined y (all_operands hs) (all_operands gs)

  mark_ids : (hs : List (HeadOf N T A)) → map (λ (p : ℕ × Bool). p.0) (marks hs) ≡ map (λ (h : HeadOf N T A). h.id) hs
  mark_ids [] = refl
  mark_ids (h ∷ hs) = ap (λ l. h.id ∷ l) (mark_ids hs)

  abbrev pub Different : List (HeadOf N T A) → Type 0
  Different hs = IsDistinct eqb (map (λ (h : HeadOf N T A). h.id) hs)

  marks_apart : (hs : List (HeadOf N T A)) → Different hs → AllApart (marks hs)
  marks_apart hs d = all_apart (marks hs) (subst (IsDistinct eqb) (sym (mark_ids hs)) d)

  -- one head between others
  module _ (preceding back : List (HeadOf N T A)) (h : HeadOf N T A) where
    abbrev whole : List (HeadOf N T A)
    whole = preceding ++ (h ∷ back)

    abbrev rest : List (HeadOf N T A)
    rest = preceding ++ back

    look_whole : (y : ℕ) → look y (marks (preceding ++ (h ∷ back))) ≡ first_of (look y (marks preceding)) (cond (eqb y h.id) (Some (kept h.name)) (look y (marks back)))
    look_whole y = ap (look y) (marks_joined preceding (h ∷ back)) ∙ look_joined y (marks preceding) (marks (h ∷ back))

    look_rest : (y : ℕ) → look y (marks (preceding ++ back)) ≡ first_of (look y (marks preceding)) (look y (marks back))
    look_rest y = ap (look y) (marks_joined preceding back) ∙ look_joined y (marks preceding) (marks back)

    look_other : (y : ℕ) → (y ≡ h.id → ⊥) → look y (marks (preceding ++ (h ∷ back))) ≡ look y (marks (preceding ++ back))
    look_other y ne = look_whole y ∙ ap (λ b. first_of (look y (marks preceding)) (cond b (Some (kept h.name)) (look y (marks back)))) (ne_eqb y h.id ne) ∙ sym (look_rest y)

    among_whole : (y : ℕ) → results_among y (all_operands (preceding ++ (h ∷ back))) ≡ results_among y (all_operands (preceding ++ back)) + results_among y h.operands
    among_whole y =
        let a = among_parts y preceding (h ∷ back) in
        let b = among_joined y h.operands (all_operands back) in
        let c = among_parts y preceding back in
        omega (arith, a, b, c)

    module _ (d : Different (preceding ++ (h ∷ back))) where
      preceding_none : look h.id (marks preceding) ≡ None
      preceding_none = elim (apart_parts (marks preceding) (marks (h ∷ back)) (subst AllApart (marks_joined preceding (h ∷ back)) (marks_apart (preceding ++ (h ∷ back)) d)) h.id) [
        | inl e ↦ e
        | inr e ↦ (let bad : Some (kept h.name) ≡ None = sym (ap (λ b. cond b (Some (kept h.name)) (look h.id (marks back))) (eq-eqb h.id h.id refl)) ∙ e in absurd cc)
      ]

      back_none : look h.id (marks back) ≡ None
      back_none = look_missing h.id (marks back) (first_apart preceding (subst AllApart (marks_joined preceding (h ∷ back)) (marks_apart (preceding ++ (h ∷ back)) d)))
        where
          first_apart : (fs : List (HeadOf N T A)) → AllApart (marks fs ++ marks (h ∷ back)) → NotIn h.id (marks back)
          first_apart [] a = a.0
          first_apart (f ∷ fs) a = first_apart fs a.1

      look_here : look h.id (marks (preceding ++ (h ∷ back))) ≡ Some (kept h.name)
      look_here = look_whole h.id ∙ (λ i. first_of (preceding_none i) (cond (eq-eqb h.id h.id refl i) (Some (kept h.name)) (look h.id (marks back))))

      look_gone : look h.id (marks (preceding ++ back)) ≡ None
      look_gone = look_rest h.id ∙ λ i. first_of (preceding_none i) (back_none i)

      -- a head is inserted whose results have no uses
      pub put_tally : (a b : Counts) → results_among h.id (all_operands (preceding ++ (h ∷ back))) ≡ 0 → ((y : ℕ) → a y ≡ tallied (preceding ++ back) y) → EnteredWith h.id (kept h.name) h.operands a b → (y : ℕ) → b y ≡ tallied (preceding ++ (h ∷ back)) y
      put_tally a b unused was entered y = entered y ∙ elim (cases_eq y h.id) [
        | inl e ↦ subst (λ z. option_map (λ n. n + results_among z h.operands) (with_count h.id (Some (one_if (kept h.name))) a z) ≡ tallied (preceding ++ (h ∷ back)) z) (sym e)
            (let w = among_whole h.id in
            let sum : one_if (kept h.name) + results_among h.id h.operands ≡ results_among h.id (all_operands (preceding ++ (h ∷ back))) + one_if (kept h.name) = omega (arith, w, unused) in
            ap (λ c. option_map (λ n. n + results_among h.id h.operands) (cond c (Some (one_if (kept h.name))) (a h.id))) (eq-eqb h.id h.id refl)
            ∙ ap Some sum
            ∙ sym (ap (option_map (λ k. results_among h.id (all_operands (preceding ++ (h ∷ back))) + one_if k)) look_here))
        | inr ne ↦ ap (λ c. option_map (λ n. n + results_among y h.operands) (cond c (Some (one_if (kept h.name))) (a y))) (ne_eqb h.id y (λ q. ne (sym q)))
            ∙ ap (option_map (λ n. n + results_among y h.operands)) (was y)
            ∙ more y (look y (marks (preceding ++ back)))
            ∙ sym (ap (option_map (λ k. results_among y (all_operands (preceding ++ (h ∷ back))) + one_if k)) (look_other y ne))
      ]
        where
          more : (y : ℕ) (l : Option Bool) → option_map (λ n. n + results_among y h.operands) (option_map (λ k. results_among y (all_operands (preceding ++ back)) + one_if k) l) ≡ option_map (λ k. results_among y (all_operands (preceding ++ (h ∷ back))) + one_if k) l
          more y None = refl
          more y (Some k) = let w = among_whole y in ap Some (omega (arith, w))

      -- a head is removed
      pub take_tally : (a b : Counts) → ((y : ℕ) → a y ≡ tallied (preceding ++ (h ∷ back)) y) → LeftWith h.id h.operands a b → (y : ℕ) → b y ≡ tallied (preceding ++ back) y
      take_tally a b was left y = left y ∙ elim (cases_eq y h.id) [
        | inl e ↦ subst (λ z. option_map (λ n. n - results_among z h.operands) (with_count h.id None a z) ≡ tallied (preceding ++ back) z) (sym e)
            (ap (λ c. option_map (λ n. n - results_among h.id h.operands) (cond c None (a h.id))) (eq-eqb h.id h.id refl)
            ∙ sym (ap (option_map (λ k. results_among h.id (all_operands (preceding ++ back)) + one_if k)) look_gone))
        | inr ne ↦ ap (λ c. option_map (λ n. n - results_among y h.operands) (cond c None (a y))) (ne_eqb h.id y (λ q. ne (sym q)))
            ∙ ap (option_map (λ n. n - results_among y h.operands)) (was y ∙ ap (option_map (λ k. results_among y (all_operands (preceding ++ (h ∷ back))) + one_if k)) (look_other y ne))
            ∙ fewer y (look y (marks (preceding ++ back)))
      ]
        where
          fewer : (y : ℕ) (l : Option Bool) → option_map (λ n. n - results_among y h.operands) (option_map (λ k. results_among y (all_operands (preceding ++ (h ∷ back))) + one_if k) l) ≡ option_map (λ k. results_among y (all_operands (preceding ++ back)) + one_if k) l
          fewer y None = refl
          fewer y (Some k) = let w = among_whole y in ap Some (omega (arith, w))

  -- heads in another order
  pub moved_tally : (preceding mid back : List (HeadOf N T A)) → Different (preceding ++ (mid ++ back)) → (y : ℕ) → tallied (preceding ++ (mid ++ back)) y ≡ tallied (mid ++ (preceding ++ back)) y
  moved_tally preceding mid back d y =
      let l : look y (marks (preceding ++ (mid ++ back))) ≡ first_of (look y (marks preceding)) (look y (marks (mid ++ back))) = ap (look y) (marks_joined preceding (mid ++ back)) ∙ look_joined y (marks preceding) (marks (mid ++ back)) in
      let m : look y (marks (mid ++ back)) ≡ first_of (look y (marks mid)) (look y (marks back)) = ap (look y) (marks_joined mid back) ∙ look_joined y (marks mid) (marks back) in
      let r : look y (marks (mid ++ (preceding ++ back))) ≡ first_of (look y (marks mid)) (look y (marks (preceding ++ back))) = ap (look y) (marks_joined mid (preceding ++ back)) ∙ look_joined y (marks mid) (marks (preceding ++ back)) in
      let n : look y (marks (preceding ++ back)) ≡ first_of (look y (marks preceding)) (look y (marks back)) = ap (look y) (marks_joined preceding back) ∙ look_joined y (marks preceding) (marks back) in
      let apart : (look y (marks preceding) ≡ None) ⊎ (first_of (look y (marks mid)) (look y (marks back)) ≡ None) =
      elim (apart_parts (marks preceding) (marks (mid ++ back)) (subst AllApart (marks_joined preceding (mid ++ back)) (marks_apart (preceding ++ (mid ++ back)) d)) y) [ inl e ↦ inl e | inr e ↦ inr (sym m ∙ e) ] in
      let same : look y (marks (preceding ++ (mid ++ back))) ≡ look y (marks (mid ++ (preceding ++ back))) =
      l ∙ ap (first_of (look y (marks preceding))) m ∙ crossed (look y (marks preceding)) (look y (marks mid)) (look y (marks back)) apart ∙ sym (r ∙ ap (first_of (look y (marks mid))) n) in
      let sum : results_among y (all_operands (preceding ++ (mid ++ back))) ≡ results_among y (all_operands (mid ++ (preceding ++ back))) =
      (let a = among_parts y preceding (mid ++ back) in let b = among_parts y mid back in let c = among_parts y mid (preceding ++ back) in let e = among_parts y preceding back in omega (arith, a, b, c, e)) in
      λ i. option_map (λ k. sum i + one_if k) (same i)

  -- heads with the same ids and names
  same_marks : (f : HeadOf N T A → HeadOf N T A) → ((h : HeadOf N T A) → (f h).id ≡ h.id) → ((h : HeadOf N T A) → (f h).name ≡ h.name) → (hs : List (HeadOf N T A)) → marks (map f hs) ≡ marks hs
  same_marks f id name [] = refl
  same_marks f id name (h ∷ hs) = λ i. (id h i, kept (name h i)) ∷ same_marks f id name hs i

  pub same_tally : (f : HeadOf N T A → HeadOf N T A) → ((h : HeadOf N T A) → (f h).id ≡ h.id) → ((h : HeadOf N T A) → (f h).name ≡ h.name) → ((h : HeadOf N T A) → (f h).operands ≡ h.operands) → (hs : List (HeadOf N T A)) → (y : ℕ)
      → tallied (map f hs) y ≡ tallied hs y
  same_tally f id name operands hs y = λ i. option_map (λ k. results_among y (all hs i) + one_if k) (look y (same_marks f id name hs i))
    where
      all : (hs : List (HeadOf N T A)) → all_operands (map f hs) ≡ all_operands hs
      all [] = refl
      all (h ∷ hs) = λ i. operands h i ++ all hs i

  module _ (x k : ℕ) (old new : Value) where
    abbrev f : HeadOf N T A → HeadOf N T A
    f = at x (put_operand k new)

    others : (y : ℕ) → y ≡ x → (hs : List (HeadOf N T A)) → AllByRecursion (λ z. eqb y z ≡ false) (map (λ (h : HeadOf N T A). h.id) hs) → map (at x (put_operand k new)) hs ≡ hs
    others y e [] a = refl
    others y e (h ∷ hs) a = λ i. ap (λ b. cond b (put_operand k new h) h) (ne_eqb h.id x (λ q. true≢false (sym (eq-eqb y h.id (e ∙ sym q)) ∙ a.0))) i ∷ others y e hs a.1 i

    set_at : (y : ℕ) (g : HeadOf N T A) (hs : List (HeadOf N T A)) → In g hs → g.id ≡ x → Different hs → slice_get g.operands k ≡ Some old
        → results_among y (all_operands (map (at x (put_operand k new)) hs)) + one_if (is_result_of y old) ≡ results_among y (all_operands hs) + one_if (is_result_of y new)
    set_at y g [] a id d has = absurd a
    set_at y g (h ∷ hs) (inl e) id d has =
        let same : h.id ≡ x = ap (λ (p : HeadOf N T A). p.id) (sym e) ∙ id in
        let is : f h ≡ put_operand k new h = ap (λ b. cond b (put_operand k new h) h) (eq-eqb h.id x same) in
        let rest : map f hs ≡ hs = others h.id same hs (IsDistinct-head eqb h.id _ d) in
        let one = set_among y k old new h.operands (ap (λ (p : HeadOf N T A). slice_get p.operands k) (sym e) ∙ has) in
        let l : results_among y (all_operands (f h ∷ map f hs)) ≡ results_among y (slice_set h.operands k new) + results_among y (all_operands hs) =
        (λ i. results_among y ((is i).operands ++ all_operands (rest i))) ∙ among_joined y (slice_set h.operands k new) (all_operands hs) in
        let r = among_joined y h.operands (all_operands hs) in
        omega (arith, one, l, r)
    set_at y g (h ∷ hs) (inr a) id d has =
        let more = set_at y g hs a id (IsDistinct-tail eqb h.id _ d) has in
        let other : h.id ≡ x → ⊥ = λ q. distinct_in hs a (IsDistinct-head eqb h.id _ d) (q ∙ sym id) in
        let is : f h ≡ h = ap (λ b. cond b (put_operand k new h) h) (ne_eqb h.id x other) in
        let l : results_among y (all_operands (f h ∷ map f hs)) ≡ results_among y h.operands + results_among y (all_operands (map f hs)) =
        (λ i. results_among y ((is i).operands ++ all_operands (map f hs))) ∙ among_joined y h.operands (all_operands (map f hs)) in
        let r = among_joined y h.operands (all_operands hs) in
        omega (arith, more, l, r)
      where
        distinct_in : (hs : List (HeadOf N T A)) → In g hs → AllByRecursion (λ z. eqb h.id z ≡ false) (map (λ (h : HeadOf N T A). h.id) hs) → h.id ≡ g.id → ⊥
        distinct_in [] a b q = a
        distinct_in (p ∷ ps) (inl e) b q = true≢false (sym (eq-eqb h.id p.id (q ∙ ap (λ (z : HeadOf N T A). z.id) e)) ∙ b.0)
        distinct_in (p ∷ ps) (inr c) b q = distinct_in ps c b.1 q

    pub set_tally : (a b : Counts) (g : HeadOf N T A) (hs : List (HeadOf N T A)) → ((h : HeadOf N T A) → (at x (put_operand k new) h).id ≡ h.id) → ((h : HeadOf N T A) → (at x (put_operand k new) h).name ≡ h.name)
        → In g hs → g.id ≡ x → Different hs → slice_get g.operands k ≡ Some old → ((y : ℕ) → a y ≡ tallied hs y) → Exchanged old new a b → (y : ℕ) → b y ≡ tallied (map (at x (put_operand k new)) hs) y
    set_tally a b g hs ids names there id d has was exchanged y =
        exchanged y
        ∙ ap (option_map (λ n. (n + one_if (is_result_of y new)) - one_if (is_result_of y old))) (was y)
        ∙ sums (look y (marks hs))
        ∙ sym (ap (option_map (λ j. results_among y (all_operands (map f hs)) + one_if j)) (ap (look y) (same_marks f ids names hs)))
      where
        sums : (l : Option Bool) → option_map (λ n. (n + one_if (is_result_of y new)) - one_if (is_result_of y old)) (option_map (λ j. results_among y (all_operands hs) + one_if j) l) ≡ option_map (λ j. results_among y (all_operands (map f hs)) + one_if j) l
        sums None = refl
        sums (Some j) = let w = set_at y g hs there id d has in ap Some (omega (arith, w))

-- ---- a table that is built

entered_all : (kept : ℕ → Bool) (hs : List (HeadOf ℕ ℕ ℕ)) (a b : Counts) → Different kept hs → AllEntered kept hs a b → (y : ℕ) → b y ≡ first_of (option_map one_if (look y (tagged (λ (h : HeadOf ℕ ℕ ℕ). kept h.name) hs))) (a y)
entered_all kept [] a b d e y = e y
entered_all kept (h ∷ hs) a b d e y =
    entered_all kept hs e.0 b (IsDistinct-tail eqb h.id _ d) e.2 y
    ∙ ap (first_of (option_map one_if (look y (tagged (λ (h : HeadOf ℕ ℕ ℕ). kept h.name) hs)))) (e.1 y)
    ∙ elim (cases_eq y h.id) [
      | inl q ↦ (let none : look y (tagged (λ (h : HeadOf ℕ ℕ ℕ). kept h.name) hs) ≡ None = ap (λ z. look z (tagged (λ (h : HeadOf ℕ ℕ ℕ). kept h.name) hs)) q ∙ look_missing h.id _ (marks_apart kept (h ∷ hs) d).0 in
          ap (λ l. first_of (option_map one_if l) (with_count h.id (Some (one_if (kept h.name))) a y)) none
          ∙ ap (λ c. cond c (Some (one_if (kept h.name))) (a y)) (eq-eqb h.id y (sym q))
          ∙ sym (ap (λ c. first_of (option_map one_if (cond c (Some (kept h.name)) (look y (tagged (λ (h : HeadOf ℕ ℕ ℕ). kept h.name) hs)))) (a y)) (eq-eqb y h.id q)))
      | inr ne ↦ ap (λ c. first_of (option_map one_if (look y (tagged (λ (h : HeadOf ℕ ℕ ℕ). kept h.name) hs))) (cond c (Some (one_if (kept h.name))) (a y))) (ne_eqb h.id y (λ q. ne (sym q)))
          ∙ sym (ap (λ c. first_of (option_map one_if (cond c (Some (kept h.name)) (look y (tagged (λ (h : HeadOf ℕ ℕ ℕ). kept h.name) hs)))) (a y)) (ne_eqb y h.id ne))
    ]

pub begun_tally : (kept : ℕ → Bool) (hs : List (HeadOf ℕ ℕ ℕ)) (a m b : Counts) → Different kept hs → ((y : ℕ) → a y ≡ None) → AllEntered kept hs a m → Raised (all_operands hs) m b → (y : ℕ) → b y ≡ tallied kept hs y
begun_tally kept hs a m b d vacant entered raised y =
    raised y
    ∙ ap (option_map (λ n. n + results_among y (all_operands hs))) (entered_all kept hs a m d entered y ∙ ap (first_of (option_map one_if (look y (tagged (λ (h : HeadOf ℕ ℕ ℕ). kept h.name) hs)))) (vacant y))
    ∙ sums (look y (tagged (λ (h : HeadOf ℕ ℕ ℕ). kept h.name) hs))
  where
    sums : (l : Option Bool) → option_map (λ n. n + results_among y (all_operands hs)) (first_of (option_map one_if l) None) ≡ option_map (λ k. results_among y (all_operands hs) + one_if k) l
    sums None = refl
    sums (Some k) = ap Some (omega arith)

-- heads with other names
pub mapped_tally : {N T A M U B : Type 0} (f : N → M) (g : T → U) (h : A → B) (kept : M → Bool) (hs : List (HeadOf N T A)) (y : ℕ) → tallied kept (map (map_head f g h) hs) y ≡ tallied (λ n. kept (f n)) hs y
mapped_tally {N} {T} {A} {M} {U} {B} f g h kept hs y = λ i. option_map (λ k. results_among y (all hs i) + one_if k) (look y (marked hs i))
  where
    all : (hs : List (HeadOf N T A)) → all_operands (map (map_head f g h) hs) ≡ all_operands hs
    all [] = refl
    all (p ∷ ps) = ap (λ l. p.operands ++ l) (all ps)

    marked : (hs : List (HeadOf N T A)) → tagged (λ (q : HeadOf M U B). kept q.name) (map (map_head f g h) hs) ≡ tagged (λ (q : HeadOf N T A). kept (f q.name)) hs
    marked [] = refl
    marked (p ∷ ps) = ap (λ l. (p.id, kept (f p.name)) ∷ l) (marked ps)
