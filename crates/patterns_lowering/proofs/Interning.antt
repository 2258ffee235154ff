-- Interning for lowerings.
use Rattle.std.proofs.Common.{◌≡◌, refl, ap, sym, ◌∙◌, subst, ℕ, ◌≤◌, ◌<◌, List, [], ◌∷◌, ◌++◌, append_assoc, append-nil, length, length-append, Bool, true, not, ◌&&◌, cond, Option, Some, None, Result, Err, ◌⊎◌, inl, inr, arith}
use Rattle.std.specs.Prelude.{nat_le}
use Rattle.std.specs.List.{list_any}
use Rattle.std.proofs.lemmas.Bool.{leb-true, ltb-true, lt-ltb, and_parts, and_from}
use Rattle.std.proofs.lemmas.Option.{slice_get_within}
use Rattle.ir_event.specs.types.declared.node.TypeNode.{TypeNode}
use Rattle.ir_event.specs.types.declared.node.AttrNode.TheVariants.{Int}
use Rattle.ir_event.specs.types.declared.refusal.Refusal.{Refusal}
use Rattle.ir_event.specs.types.declared.refusal.Refusal.TheVariants.{Memory, TooMany}
use Rattle.ir_event.specs.types.Things.{ContextModel, IsType, IsAttr, IsPreceding, IsExtendedBy}
use Rattle.ir_event.specs.types.Sound.{Holds}
use Rattle.ir_event.specs.types.Terms.{TypeTerm, Integer, Index, Function, Memref, OpaqueType, AttrTerm, IntegerOf, String, TypeOf, Flag, Array, Dictionary, Symbol, DenseArray, Overflow, OpaqueOf, type_term, type_node_term, attr_term, attr_node_term}
use Rattle.ir_event.specs.types.Dictionaries.{kept}
use Rattle.ir_event.specs.types.Interning.{with_type, with_attr}
use Rattle.ir_event.specs.types.Limits.{most_things}
use Rattle.ir_event.specs.types.Reasons.{IsRefusedFor, attr_fault, attr_reason, first_reason, full_reason, type_fault, type_reason}
use Rattle.ir_event.specs.types.Same.{same_type, same_attr}
use Rattle.ir_event.proofs.of_types.CallNumbers.{new_attr, new_type, type_stands, attr_stands}
use Rattle.ir_event.proofs.of_types.Growth.{grows_refl, grows_trans}
use Rattle.ir_event.proofs.of_types.Terms.{type_stays, attr_stays}
use Rattle.ir_event.specs.trees.Meaning.{is_attr, is_name}
use Rattle.ir_event.specs.trees.Passing.{entry_passes}
use Rattle.ir_event.proofs.of_tree_laws.Listed.{bool_cases}
use Rattle.ir_event.specs.declared.event.Event.{Event}
use Rattle.ir_event.specs.Listener.{Listener}
use Rattle.patterns_lowering.specs.rewriter.RewriterCalls.{Benched, Notified}
use Rattle.patterns_lowering.specs.rewriter.Held.{TransactionModel}
use Rattle.patterns_lowering.specs.rewriter.Moves.{Grown}
use Rattle.patterns_lowering.proofs.of_rewriter.Notified.{notified_grown}
use Rattle.patterns_soundness.specs.base.Made.{i64}
use Rattle.patterns_soundness.specs.base.Lowering.{lowered_attr}
use Rattle.patterns_lowering.specs.Interning.{Added, IsCapacityRefusal}
use Rattle.patterns_lowering.specs.Refused.{as_full}
use Rattle.patterns_lowering.specs.Lowered.{IsLowered, AreLowered, AreKnown, AreTypes, IsLowering, index_bits}
use Rattle.ir_event.proofs.of_trees.Meanings.{longer}

-- ---- rewriters

grown_on : (g h k : TransactionModel) → Grown g h → Grown h k → Grown g k
grown_on g h k p q = record {
  grows = grows_trans g.ctx h.ctx k.ctx p.grows q.grows;
  held = q.held ∙ (λ i. record { ctx = k.ctx; store = (p.held i).store; journal = (p.held i).journal; marks = (p.held i).marks });
  same = q.same ∙ p.same;
  marked = q.marked ∙ p.marked;
  trailing = λ n. q.trailing n ∙ p.trailing n;
}

module _ {B : Type 0} (meaning : B → Listener) where
  pub interned_none : ((z : Benched B) → Notified meaning [] z z) → (a : Benched B) → Added meaning a a
  interned_none none a = record { grown = record { grows = grows_refl a.transaction.ctx; held = refl; same = refl; marked = refl; trailing = λ n. refl }; untold = none a }

  abbrev pub Composes : Type 0
  Composes = (es fs : List Event) (a b c : Benched B) → Holds b.transaction.ctx → Holds c.transaction.ctx → Notified meaning es a b → Notified meaning fs b c → Notified meaning (es ++ fs) a c

  pub interned_on : Composes → (a b c : Benched B) → Holds b.transaction.ctx → Holds c.transaction.ctx → Added meaning a b → Added meaning b c → Added meaning a c
  interned_on more a b c h k p q = record { grown = grown_on a.transaction b.transaction c.transaction p.grown q.grown; untold = more [] [] a b c h k p.untold q.untold }

  -- interning something
  pub interned_one : (a b : Benched B) → Holds a.transaction.ctx → Holds b.transaction.ctx → Grown a.transaction b.transaction → b.listeners ≡ a.listeners → Added meaning a b
  interned_one a b before after grown same = record {
    grown = grown;
    untold = subst (λ (xs : List B). Notified meaning [] a (record { transaction = b.transaction; listeners = xs })) (sym same) (notified_grown meaning a.transaction b.transaction a.listeners before after grown);
  }

-- ---- types

pub type_interned : (c d : ContextModel) (node : TypeNode) (id : ℕ) → Holds c → (id, d) ≡ with_type node c → IsType d id × (type_term d id ≡ type_node_term c node)
type_interned c d node id h e =
    subst (λ (p : ℕ × ContextModel). IsType p.1 p.0 × (type_term p.1 p.0 ≡ type_node_term c node)) (sym e)
    (slice_get_within ((with_type node c).1).types (with_type node c).0 node (type_stands node c), new_type node c h)

full_wanting : {A : Type 0} (is : A → Bool) (xs : List A) (e : Refusal) → IsRefusedFor {A = ℕ} (full_reason is xs) (Err e) → (e ≡ Memory) ⊎ ((e ≡ TooMany) × (most_things ≤ length xs))
full_wanting is xs e r = elim (bool_cases (not (list_any is xs) && nat_le most_things (length xs))) [
  | inl h ↦ inr
      ((let same : ◌≡◌ {A = Result ℕ Refusal} (Err e) (Err TooMany) = subst (λ (b : Bool). IsRefusedFor {A = ℕ} (cond b (Some TooMany) None) (Err e)) h r in cc), leb-true most_things (length xs) (and_parts (not (list_any is xs)) (nat_le most_things (length xs)) h).1)
  | inr h ↦ inl (subst (λ (b : Bool). IsRefusedFor {A = ℕ} (cond b (Some TooMany) None) (Err e)) h r)
]

-- why a valid type isn't interned
pub type_wanting : (c : ContextModel) (node : TypeNode) (e : Refusal) → type_fault (type_node_term c node) ≡ None → IsRefusedFor {A = ℕ} (type_reason node c) (Err e) → IsCapacityRefusal c (as_full e)
type_wanting c node e fine r = elim (full_wanting (same_type node) c.types e (subst (λ o. IsRefusedFor {A = ℕ} (first_reason o (full_reason (same_type node) c.types)) (Err e)) fine r)) [
  | inl h ↦ inl (ap as_full h)
  | inr h ↦ inr (ap as_full h.0, inl h.1)
]

pub type_known : (c d : ContextModel) (n : ℕ) → IsExtendedBy c d → IsType c n → IsType d n
type_known c d n g k = longer c.types d.types n g.types k

pub types_stay : (c d : ContextModel) (wide index : ℕ) → IsExtendedBy c d → AreTypes c wide index → AreTypes d wide index
types_stay c d wide index g t = record {
  wide_known = type_known c d wide g t.wide_known;
  wide_is = type_stays c d wide g t.wide_known ∙ t.wide_is;
  index_known = type_known c d index g t.index_known;
  index_is = type_stays c d index g t.index_known ∙ t.index_is;
}

-- ---- attributes

-- an integer attribute is stored unchanged
int_kept : (names : List (List ℕ)) (ty bits : ℕ) → kept names (Int ty bits) ≡ Int ty bits
unfolding kept
int_kept names ty bits = refl

pub attr_interned : (c d : ContextModel) (ty bits id : ℕ) → Holds c → (id, d) ≡ with_attr (Int ty bits) c → IsAttr d id × (attr_term d id ≡ IntegerOf (type_term c ty) bits)
attr_interned c d ty bits id h e =
    subst (λ (p : ℕ × ContextModel). IsAttr p.1 p.0 × (attr_term p.1 p.0 ≡ IntegerOf (type_term c ty) bits)) (sym e)
    (slice_get_within ((with_attr (Int ty bits) c).1).attrs (with_attr (Int ty bits) c).0 (kept c.names (Int ty bits)) (attr_stands (Int ty bits) c), new_attr (Int ty bits) c h ∙ ap (attr_node_term c) (int_kept c.names ty bits))

-- why a valid attribute isn't interned
pub attr_wanting : (c : ContextModel) (ty bits : ℕ) (e : Refusal) → attr_fault (IntegerOf (type_term c ty) bits) ≡ None → IsRefusedFor {A = ℕ} (attr_reason (Int ty bits) c) (Err e) → IsCapacityRefusal c (as_full e)
attr_wanting c ty bits e fine r = elim (full_wanting (same_attr (kept c.names (Int ty bits))) c.attrs e (alone (full_reason (same_attr (kept c.names (Int ty bits))) c.attrs) (subst (λ o. IsRefusedFor {A = ℕ} (first_reason o (first_reason None (first_reason (full_reason (same_attr (kept c.names (Int ty bits))) c.attrs) None))) (Err e)) fine r))) [
  | inl h ↦ inl (ap as_full h)
  | inr h ↦ inr (ap as_full h.0, inr h.1)
]
  where
    alone : (o : Option Refusal) → IsRefusedFor {A = ℕ} (first_reason o None) (Err e) → IsRefusedFor {A = ℕ} o (Err e)
    alone None r = r
    alone (Some q) r = r

-- an integer of type index and its i64 integer have the same bits
bits_of_index : (a : AttrTerm) (bits : ℕ) → index_bits a ≡ Some bits → a ≡ IntegerOf Index bits
bits_of_index (IntegerOf Index n) bits e = (let one : n ≡ bits = cc in ap (IntegerOf Index) one)
bits_of_index (IntegerOf (Integer s w) n) bits e = absurd cc
bits_of_index (IntegerOf (Function is os) n) bits e = absurd cc
bits_of_index (IntegerOf (Memref ds t) n) bits e = absurd cc
bits_of_index (IntegerOf (OpaqueType s) n) bits e = absurd cc
bits_of_index (String s) bits e = absurd cc
bits_of_index (TypeOf t) bits e = absurd cc
bits_of_index Flag bits e = absurd cc
bits_of_index (Array is) bits e = absurd cc
bits_of_index (Dictionary es) bits e = absurd cc
bits_of_index (Symbol ps) bits e = absurd cc
bits_of_index (DenseArray t vs) bits e = absurd cc
bits_of_index (Overflow a b) bits e = absurd cc
bits_of_index (OpaqueOf s t) bits e = absurd cc

pub attr_stays_so : (a : AttrTerm) → index_bits a ≡ None → a ≡ lowered_attr a
attr_stays_so (IntegerOf Index n) e = absurd cc
attr_stays_so (IntegerOf (Integer s w) n) e = refl
attr_stays_so (IntegerOf (Function is os) n) e = refl
attr_stays_so (IntegerOf (Memref ds t) n) e = refl
attr_stays_so (IntegerOf (OpaqueType s) n) e = refl
attr_stays_so (String s) e = refl
attr_stays_so (TypeOf t) e = refl
attr_stays_so Flag e = refl
attr_stays_so (Array is) e = refl
attr_stays_so (Dictionary es) e = refl
attr_stays_so (Symbol ps) e = refl
attr_stays_so (DenseArray t vs) e = refl
attr_stays_so (Overflow a b) e = refl
attr_stays_so (OpaqueOf s t) e = refl

pub attr_lowered : (a : AttrTerm) (ty : TypeTerm) (bits : ℕ) → index_bits a ≡ Some bits → ty ≡ i64 → IntegerOf ty bits ≡ lowered_attr a
attr_lowered a ty bits e k = ap (λ t. IntegerOf t bits) k ∙ sym (ap lowered_attr (bits_of_index a bits e))

pub attr_fine : (c : ContextModel) (a ty bits : ℕ) → Holds c → IsAttr c a → index_bits (attr_term c a) ≡ Some bits → type_term c ty ≡ i64 → attr_fault (IntegerOf (type_term c ty) bits) ≡ None
attr_fine c a ty bits h k e t = ap (λ u. attr_fault (IntegerOf u bits)) t ∙ sym (ap attr_fault (bits_of_index (attr_term c a) bits e)) ∙ h.attrs_fine a k

-- the same for an attribute that is read in a world of the rewriter
pub attr_kept : (c w : ContextModel) (a : ℕ) (o : Option ℕ) → w ≡ c → o ≡ index_bits (attr_term w a) → o ≡ None → attr_term c a ≡ lowered_attr (attr_term c a)
attr_kept c w a o e k n = attr_stays_so (attr_term c a) (sym (ap (λ (d : ContextModel). index_bits (attr_term d a)) e) ∙ sym k ∙ n)

pub attr_read : (c w : ContextModel) (a : ℕ) (o : Option ℕ) (bits : ℕ) → w ≡ c → o ≡ index_bits (attr_term w a) → o ≡ Some bits → index_bits (attr_term c a) ≡ Some bits
attr_read c w a o bits e k n = sym (ap (λ (d : ContextModel). index_bits (attr_term d a)) e) ∙ sym k ∙ n

-- ---- entries

module _ (c d : ContextModel) (holds : Holds c) (g : IsExtendedBy c d) where
  known_stays : (es : List (ℕ × ℕ)) → AreKnown c es → AreKnown d es
  known_stays [] e = refl
  known_stays (k ∷ es) e =
      let b = and_parts (entry_passes (is_name c) (is_attr c) k) _ e in
      let p = and_parts (is_name c k.0) (is_attr c k.1) b.0 in
      and_from (entry_passes (is_name d) (is_attr d) k) _
      (and_from (is_name d k.0) (is_attr d k.1)
      (lt-ltb k.0 (length d.names) (longer c.names d.names k.0 g.names (ltb-true k.0 (length c.names) p.0)))
      (lt-ltb k.1 (length d.attrs) (longer c.attrs d.attrs k.1 g.attrs (ltb-true k.1 (length c.attrs) p.1))))
      (known_stays es b.1)

  lowered_stays : (es fs : List (ℕ × ℕ)) → AreKnown c es → AreLowered c es fs → AreLowered d es fs
  lowered_stays [] [] e l = tt
  lowered_stays [] (f ∷ fs) e l = absurd l
  lowered_stays (k ∷ es) [] e l = absurd l
  lowered_stays (k ∷ es) (f ∷ fs) e l =
      let b = and_parts (entry_passes (is_name c) (is_attr c) k) _ e in
      let p = and_parts (is_name c k.0) (is_attr c k.1) b.0 in (
        record {
          key = l.0.key;
          known = longer c.attrs d.attrs f.1 g.attrs l.0.known;
          is = attr_stays c d f.1 holds g l.0.known ∙ l.0.is ∙ sym (ap lowered_attr (attr_stays c d k.1 holds g (ltb-true k.1 (length c.attrs) p.1)));
        },
        lowered_stays es fs b.1 l.1,
      )

  lowered_more : (es fs : List (ℕ × ℕ)) (k f : ℕ × ℕ) → AreLowered d es fs → IsLowered d k f → AreLowered d (es ++ k ∷ []) (fs ++ f ∷ [])
  lowered_more [] [] k f l m = (m, tt)
  lowered_more [] (h ∷ fs) k f l m = absurd l
  lowered_more (e ∷ es) [] k f l m = absurd l
  lowered_more (e ∷ es) (h ∷ fs) k f l m = (l.0, lowered_more es fs k f l.1 m)

  known_more : (es : List (ℕ × ℕ)) (k : ℕ × ℕ) → AreKnown d es → entry_passes (is_name d) (is_attr d) k ≡ true → AreKnown d (es ++ k ∷ [])
  known_more [] k e h = and_from (entry_passes (is_name d) (is_attr d) k) true h refl
  known_more (f ∷ es) k e h = let b = and_parts (entry_passes (is_name d) (is_attr d) f) _ e in and_from (entry_passes (is_name d) (is_attr d) f) _ b.0 (known_more es k b.1 h)

  pub lowering_next : (all rest made : List (ℕ × ℕ)) (k : ℕ × ℕ) (a : ℕ) → IsLowering c all (k ∷ rest) made → IsAttr d a → attr_term d a ≡ lowered_attr (attr_term c k.1) → IsLowering d all rest (made ++ (k.0, a) ∷ [])
  lowering_next all rest made k a l h e =
      let left = and_parts (entry_passes (is_name c) (is_attr c) k) _ l.left in
      let own = and_parts (is_name c k.0) (is_attr c k.1) left.0 in
      let now = known_stays (k ∷ rest) l.left in
      let parts = and_parts (entry_passes (is_name d) (is_attr d) k) _ now in
      record {
        done = l.done ++ k ∷ [];
        parts = append_assoc l.done (k ∷ []) rest ∙ l.parts;
        known = known_more l.done k (known_stays l.done l.known) parts.0;
        left = parts.1;
        are = lowered_more l.done made k (k.0, a) (lowered_stays l.done made l.known l.are) (record { key = refl; known = h; is = e ∙ sym (ap lowered_attr (attr_stays c d k.1 holds g (ltb-true k.1 (length c.attrs) own.1))) });
      }

pub lowering_begun : (c : ContextModel) (all : List (ℕ × ℕ)) → AreKnown c all → IsLowering c all all []
lowering_begun c all k = record { done = []; parts = refl; known = refl; left = k; are = tt }

pub lowering_done : (c : ContextModel) (all made : List (ℕ × ℕ)) → IsLowering c all [] made → AreLowered c all made
lowering_done c all made l = subst (λ es. AreLowered c es made) (sym (append-nil l.done) ∙ l.parts) l.are

pub entry_known : (c : ContextModel) (all rest made : List (ℕ × ℕ)) (k : ℕ × ℕ) → IsLowering c all (k ∷ rest) made → IsAttr c k.1
entry_known c all rest made k l = ltb-true k.1 (length c.attrs) (and_parts (is_name c k.0) (is_attr c k.1) (and_parts (entry_passes (is_name c) (is_attr c) k) _ l.left).0).1
