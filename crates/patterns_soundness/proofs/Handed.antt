-- The operands of a terminator go through casts inserted before it.
use Rattle.std.proofs.Common.{◌≡◌, refl, ap, sym, ◌∙◌, subst, ℕ, zero, suc, ◌+◌, ◌<◌, ◌≤◌, Bool, true, false, true≢false, cond, ◌&&◌, eqb, eqb-true, List, [], ◌∷◌, ◌++◌, length, map, Option, Some, None, option_map, inl, inr, arith, append_assoc, lt-ltb}
use Rattle.std.specs.Prelude.{nat_lt, slice_set}
use Rattle.std.proofs.lemmas.List.{length-set}
use Rattle.ir_event.specs.types.Words.{is_isolated}
use Rattle.ir_event.specs.types.Terms.{TypeTerm, AttrTerm}
use Rattle.ir_event.specs.trees.declared.value.Value.{Value}
use Rattle.ir_event.specs.trees.declared.value.Value.TheVariants.{Result}
use Rattle.ir_event.specs.trees.declared.place.Place.{Place}
use Rattle.ir_event.specs.trees.Tree.{HeadOf, op, head}
use Rattle.ir_event.specs.trees.Ids.{find, has_id, op_count}
use Rattle.ir_event.specs.trees.Edits.{at, each_head, put_operand, with_operand}
use Rattle.ir_event.specs.trees.Meaning.{Operation}
use Rattle.ir_event.specs.tree_laws.Members.{In}
use Rattle.ir_event.proofs.of_tree_laws.HeadForm.{alike_at, edit_ids}
use Rattle.ir_event.proofs.of_tree_laws.Heads.{Alike}
use Rattle.ir_event.specs.Modules.{Module}
use Rattle.rewriter_machine.specs.Contents.{Edit, all_edited, edited}
use Rattle.rewriter_machine.specs.Edits.{Make, SetOperand}
use Rattle.patterns_base.specs.Lists.{Free}
use Rattle.patterns_base.proofs.Give.{there_is}
use Rattle.patterns_base.proofs.Headed as headed
use Rattle.patterns_base.proofs.Plans as plans
use Rattle.patterns_base.proofs.Plans.{StandsAt, dominated_by}
use Rattle.patterns_soundness.specs.base.Looks.{Header}
use Rattle.patterns_soundness.specs.base.Made.{bridge, i64}
use Rattle.patterns_soundness.specs.base.Lowering.{bridges, crossing, marked}
use Rattle.patterns_soundness.proofs.CastsAccepted.{AreCrossed, Headroom, bridged, made_one}
use Rattle.patterns_soundness.proofs.Indexed.{head_there}
use Rattle.patterns_base.proofs.EditFacts.{edited_both}

module _ (l : ℕ) (place : Place) (base : ℕ) (ws : List Value) (P : Module → Type 0)
    (p_made : (k : Module) → StandsAt l place k → (v : Value) → In v ws → dominated_by l v k ≡ true → base ≤ k.next → StandsAt l place (edited (Make place (bridge i64 v)) k) → P k → P (edited (Make place (bridge i64 v)) k))
    (p_set : (k : Module) → StandsAt l place k → (i c : ℕ) → base ≤ c → dominated_by l (Result c 0) k ≡ true → StandsAt l place (edited (SetOperand l i (Result c 0)) k) → P k → P (edited (SetOperand l i (Result c 0)) k)) where
  casts_keep : (ms : List Bool) (vs : List Value) (m : Module) → StandsAt l place m → ((v : Value) → In v vs → dominated_by l v m ≡ true) → ((v : Value) → In v vs → In v ws) → base ≤ m.next → Headroom (marked ms) m → P m → P (all_edited (bridges i64 place ms vs) m)
  casts_keep [] vs m s seen among low headroom p = p
  casts_keep (true ∷ ms) [] m s seen among low headroom p = p
  casts_keep (false ∷ ms) [] m s seen among low headroom p = p
  casts_keep (false ∷ ms) (v ∷ vs) m s seen among low headroom p = casts_keep ms vs m s (λ w i. seen w (inr i)) (λ w i. among w (inr i)) low headroom p
  casts_keep (true ∷ ms) (v ∷ vs) m s seen among low headroom p =
      let one = made_one l place (λ b. ⊥) m s (bridge i64 v) refl refl only (marked ms) headroom in
      casts_keep ms vs (edited (Make place (bridge i64 v)) m) one.located (λ w i. one.dominance w (seen w (inr i))) (λ w i. among w (inr i)) (omega (arith, low)) (one.headrooms (marked ms) headroom) (p_made m s v (among v (inl refl)) (seen v (inl refl)) low one.located p)
    where
      only : (w : Value) → In w (v ∷ []) → dominated_by l w m ≡ true
      only w (inl i) = seen w (inl i)
      only w (inr i) = absurd i

  -- the casts dominate the operation
  abbrev AreSeen : List Bool → ℕ → Module → Type 0
  AreSeen [] c m = Unit {0}
  AreSeen (true ∷ ms) c m = (dominated_by l (Result c 0) m ≡ true) × AreSeen ms (c + 1) m
  AreSeen (false ∷ ms) c m = AreSeen ms c m

  seen_crossed : (ms : List Bool) (vs : List Value) (c : ℕ) (m : Module) → length ms ≡ length vs → AreCrossed l place i64 ms vs c m → AreSeen ms c m
  seen_crossed [] vs c m e a = tt
  seen_crossed (true ∷ ms) [] c m e a = absurd (omega (arith, e))
  seen_crossed (false ∷ ms) [] c m e a = absurd (omega (arith, e))
  seen_crossed (true ∷ ms) (v ∷ vs) c m e a = (a.0.0, seen_crossed ms vs (c + 1) m (omega (arith, e)) a.1)
  seen_crossed (false ∷ ms) (v ∷ vs) c m e a = seen_crossed ms vs c m (omega (arith, e)) a.1

  -- one cast is set as an operand
  module _ (m : Module) (s : StandsAt l place m) (i c : ℕ) (seen : dominated_by l (Result c 0) m ≡ true) (few : i < length (head s.at.here).operands) where
    has : nat_lt i (length (head s.at.here).operands) ≡ true
    has = lt-ltb i (length (head s.at.here).operands) few

    pub set_one : (es : List Edit) → Free es (edited (SetOperand l i (Result c 0)) m) → Free (SetOperand l i (Result c 0) ∷ es) m
    set_one = plans.set_free l place m s (Result c 0) seen i has

    abbrev pub set_stands : StandsAt l place (edited (SetOperand l i (Result c 0)) m)
    set_stands = headed.set_located is_isolated l place m s (Result c 0) seen i (lt-ltb i (length (head s.at.here).operands) few)

    set_dominance : (v : Value) → dominated_by l v (edited (SetOperand l i (Result c 0)) m) ≡ dominated_by l v m
    set_dominance v = headed.set_dominated_by is_isolated l place m s (Result c 0) seen i has v

    set_count : length (head set_stands.at.here).operands ≡ length (head s.at.here).operands
    set_count = same s.at.here
      where
        same : (o : Operation) → length (head (each_head (at l (put_operand i (Result c 0))) o)).operands ≡ length (head o).operands
        same (op h rs) = elim (eqb h.id l) as (λ b. length (cond b (put_operand i (Result c 0) h) h).operands ≡ length h.operands) [ true ↦ length-set h.operands i (Result c 0) | false ↦ refl ]

    set_ops : op_count (edited (SetOperand l i (Result c 0)) m).tree ≡ op_count m.tree
    set_ops = ap length (edit_ids (at l (put_operand i (Result c 0))) (alike_at l (put_operand i (Result c 0)) (λ h. record { id = refl; name = refl; results = refl })) m.tree)

    seen_still : (ms : List Bool) (c : ℕ) (k : Module) → ((v : Value) → dominated_by l v k ≡ dominated_by l v m) → AreSeen ms c m → AreSeen ms c k
    seen_still [] c k f a = tt
    seen_still (true ∷ ms) c k f a = (f (Result c 0) ∙ a.0, seen_still ms (c + 1) k f a.1)
    seen_still (false ∷ ms) c k f a = seen_still ms c k f a

  record Crossing (ms : List Bool) (i c : ℕ) (m : Module) : Type 0 where
    free : (fs : List Edit) → Free fs (all_edited (crossing l i c ms) m) → Free (crossing l i c ms ++ fs) m
    keeps : P m → P (all_edited (crossing l i c ms) m)
    next : (all_edited (crossing l i c ms) m).next ≡ m.next
    headrooms : (k : ℕ) → Headroom k m → Headroom k (all_edited (crossing l i c ms) m)

  crossing_free : (ms : List Bool) (i c : ℕ) (m : Module) (s : StandsAt l place m) → i + length ms ≤ length (head s.at.here).operands → base ≤ c → AreSeen ms c m → Crossing ms i c m
  crossing_free [] i c m s few low a = record { free = λ fs k. k; keeps = λ p. p; next = refl; headrooms = λ k r. r }
  crossing_free (false ∷ ms) i c m s few low a =
      let later = crossing_free ms (i + 1) c m s (omega (arith, few)) low a in
      record { free = later.free; keeps = later.keeps; next = later.next; headrooms = later.headrooms }
  crossing_free (true ∷ ms) i c m s few low a =
      let less : i < length (head s.at.here).operands = omega (arith, few) in
      let same = set_count m s i c a.0 less in
      let n = edited (SetOperand l i (Result c 0)) m in
      let later = crossing_free ms (i + 1) (c + 1) n (set_stands m s i c a.0 less) (omega (arith, few, same)) (omega (arith, low)) (seen_still m s i c a.0 less ms (c + 1) n (set_dominance m s i c a.0 less) a.1) in
      let count = set_ops m s i c a.0 less in
      record {
        free = λ fs k. set_one m s i c a.0 less (crossing l (i + 1) (c + 1) ms ++ fs) (later.free fs k);
        keeps = λ p. later.keeps (p_set m s i c low a.0 (set_stands m s i c a.0 less) p);
        next = later.next;
        headrooms = λ k r. later.headrooms k (let o = r.ops in let d = r.ids in record { ops = omega (arith, o, count); ids = omega (arith, d) });
      }

  -- the casts are made, and set as operands
  pub record HandedOn (ms : List Bool) (c : ℕ) (m : Module) : Type 0 where
    pub after : Module
    pub free : (fs : List Edit) → Free fs after → Free ((bridges i64 place ms ws ++ crossing l 0 c ms) ++ fs) m
    pub keeps : P after
    pub next : after.next ≡ m.next + marked ms
    pub headrooms : (k : ℕ) → Headroom (marked ms + k) m → Headroom k after

  pub handed_on : (ms : List Bool) (m : Module) (s : StandsAt l place m) → ((v : Value) → In v ws → dominated_by l v m ≡ true) → length ms ≡ length ws → length ms ≤ length (head s.at.here).operands → base ≤ m.next → Headroom (marked ms) m → P m → HandedOn ms m.next m
  handed_on ms m s seen wide few low headroom p =
      let b = bridged l place (λ b. has_id b m.tree ≡ true) i64 ms ws m s seen headroom in
      let n = all_edited (bridges i64 place ms ws) m in
      let there = headed.found_there is_isolated l place m s in
      let here : has_id l m.tree ≡ true = there_is is_isolated l place m s in
      let header : option_map head (find l n.tree) ≡ Some (head s.at.here) = (b.stays (λ z h. h)).heads l here ∙ ap (option_map head) there in
      let same : length (head b.located.at.here).operands ≡ length (head s.at.here).operands = ap (λ (h : Header). length h.operands) (head_there l place n b.located (head s.at.here) header) in
      let c = crossing_free ms 0 m.next n b.located (omega (arith, few, same)) low (seen_crossed ms ws m.next n wide b.made) in
      record {
        after = all_edited (crossing l 0 m.next ms) n;
        free = λ fs k. subst (λ es. Free es m) (sym (append_assoc (bridges i64 place ms ws) (crossing l 0 m.next ms) fs)) (b.free (crossing l 0 m.next ms ++ fs) (c.free fs k));
        keeps = c.keeps (casts_keep ms ws m s seen (λ v i. i) low headroom p);
        next = c.next ∙ b.next wide;
        headrooms = λ k r. c.headrooms k (b.headrooms k r);
      }
