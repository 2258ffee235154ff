-- Names and nodes that are interned, and further lemmas about agreement.
use Rattle.std.specs.Str.{bytes_eq}
use Rattle.std.proofs.Common.{◌≡◌, ℕ, List, [], Option, Some, None, slice_get, refl, sym, ap, subst, ◌∙◌, inl, inr, ⊎_elim}
use Rattle.std.proofs.lemmas.Option.{slice_get_within, get_or_from_slice_get}
use Rattle.ir_types.specs.declared.node.AttrNode.{AttrNode}
use Rattle.ir_types.specs.declared.refusal.Refusal.{Refusal}
use Rattle.ir_types.specs.declared.refusal.Refusal.TheVariants.{TooMany}
use Rattle.ir_types.specs.Things.{ContextModel, AttrIsOf, IsExtendedBy}
use Rattle.ir_types.specs.Terms.{AttrTerm, attr_node_term}
use Rattle.ir_types.specs.Dictionaries.{kept}
use Rattle.ir_types.specs.Same.{same_attr}
use Rattle.ir_types.specs.Interning.{with_name, with_attr}
use Rattle.ir_types.specs.Reasons.{first_reason, full_reason, count_reason, key_reason, name_reason, attr_fault, attr_reason}
use Rattle.ir_types.specs.Sound.{IsSound}
use Rattle.ir_types.proofs.Growth.{grows_refl, grows_trans, grows_name, grows_attr}
use Rattle.ir_types.proofs.Terms.{attr_term_is, attr_node_stays}
use Rattle.ir_types.proofs.KeptOrder.{kept_of, kept_fault}
use Rattle.ir_types.proofs.CallNumbers.{name_stands, attr_stands, place_in}
use Rattle.ir_types.proofs.AcceptedCalls.{accepted_name, accepted_attr, neither_back, neither}
use Rattle.ir_text_types.specs.Outcomes.{Outcome, Read, Wrong, ◌>>=◌, interned, Parse}
use Rattle.ir_text_types.specs.Typed.{Text, Typed, name_step, attr_step}
use Rattle.ir_text_types.specs.Grammars.{Grammar, Then, Done, DoneIf}
use Rattle.ir_text_types.specs.Worlds.{From}
use Rattle.ir_text_types.specs.Denotation.{NameDenotes, AttrDenotes}
use Rattle.ir_text_types.proofs.Worlds.{bind_read, Exact, Step, Comes, Reads, exact_rendered, nothing_exact}
use Rattle.ir_text_types.proofs.TextLaws.{things, Same, text_now}
use Rattle.ir_text_types.proofs.TypeLaws.{read_interned, full_cases}
use Rattle.ir_text_attributes.specs.AttrReading.{name_done, attr_done}

abbrev pub moved : Typed → ℕ × ContextModel → ℕ × Typed
moved s n = (n.0, (s.0, n.1))

abbrev pub done : ℕ × Typed → Outcome (ℕ × Typed)
done x = Read x

-- ---- a name that is interned

name_step_on : (bytes : List ℕ) (s : Typed) (t : List ℕ) → IsSound s.1 → s.0 ≡ t → name_reason bytes s.1 ≡ None → Step things Same NameDenotes s (with_name bytes s.1).0 bytes (s.0, (with_name bytes s.1).1) t
name_step_on bytes s t sound same fine = record {
  grows = grows_name bytes s.1;
  sound = accepted_name bytes s.1 sound fine;
  stands = λ z g w.
      let n = (with_name bytes s.1).0 in
      let at : slice_get z.names n ≡ Some bytes = place_in ((with_name bytes s.1).1).names z.names n bytes g.names (name_stands bytes s.1) in
      (slice_get_within z.names n bytes at, get_or_from_slice_get z.names n bytes [] at);
  agree = λ z g w. same;
}

abbrev pub name_at : List ℕ → Parse Typed ℕ
name_at bytes s = name_step bytes s.1 >>= λ n. Read (moved s n)

pub name_exact : (c : ContextModel) (bytes : List ℕ) → Exact things Same c NameDenotes (name_at bytes) (Done bytes)
unfolding name_step
name_exact c bytes = record {
  found = λ s t x s' g sound h e.
      let b = bind_read (name_step bytes s.1) (λ n. done (moved s n)) (x, s') e in
      let a = read_interned (name_reason bytes s.1) (with_name bytes s.1) b.0 b.1 in
      let same : moved s (with_name bytes s.1) ≡ (x, s') = ap (moved s) a.1 ∙ cc (b.2) in
      subst (λ (q : ℕ × Typed). Comes things Same NameDenotes (Done bytes) s t q.0 q.1) same (bytes, t, (refl, refl), name_step_on bytes s t sound (text_now s t sound h) a.0);
  only = λ s t y' t' g sound h k. rw (k.0, k.1) (⊎_elim
      (λ (f : name_reason bytes s.1 ≡ None).
      subst (λ o. Reads things Same NameDenotes s (interned o (with_name bytes s.1) >>= λ n. done (moved s n)) bytes t) (sym f)
      (inr ((with_name bytes s.1).0, (s.0, (with_name bytes s.1).1), refl, name_step_on bytes s t sound (text_now s t sound h) f)))
      (λ (f : name_reason bytes s.1 ≡ Some TooMany). inl (rw f refl))
      (full_cases (bytes_eq bytes) s.1.names));
}

pub name_done_exact : (c : ContextModel) (bytes : List ℕ) → Exact things Same c NameDenotes (name_done bytes) (Done bytes)
unfolding name_done
name_done_exact c bytes = name_exact c bytes

-- ---- a node that is interned

-- the context z has the parts of the node, and the node with its entries sorted denotes y
abbrev pub IsNodeOf : AttrNode → AttrTerm → ContextModel → Type 0
IsNodeOf node y z = AttrIsOf z node × (attr_node_term z (kept z.names node) ≡ y)

-- the node itself has no reason for a refusal
abbrev pub IsAllowed : AttrNode → Type 0
IsAllowed node = (count_reason node ≡ None) × (key_reason node ≡ None)

-- the refusal of a full list of attributes
abbrev headroom_of : AttrNode → ContextModel → Option Refusal
headroom_of node c = full_reason (same_attr (kept c.names node)) c.attrs

attr_step_on : (node : AttrNode) (y : AttrTerm) (s : Typed) (t : List ℕ) → IsSound s.1 → s.0 ≡ t → IsNodeOf node y s.1 → attr_reason node s.1 ≡ None → Step things Same AttrDenotes s (with_attr node s.1).0 y (s.0, (with_attr node s.1).1) t
attr_step_on node y s t sound same r fine = record {
  grows = grows_attr node s.1;
  sound = accepted_attr node s.1 sound r.0 fine;
  stands = λ z g w.
      let n = (with_attr node s.1).0 in
      let k = kept s.1.names node in
      let at : slice_get z.attrs n ≡ Some k = place_in ((with_attr node s.1).1).attrs z.attrs n k g.attrs (attr_stands node s.1) in
      (slice_get_within z.attrs n k at, attr_term_is z n k w.holds at ∙ attr_node_stays s.1 z k sound.holds (grows_trans s.1 (with_attr node s.1).1 z (grows_attr node s.1) g) (kept_of s.1 node r.0) ∙ r.1);
  agree = λ z g w. same;
}

-- an allowed node is refused only for its fault or for a full list
reason_parts : (node : AttrNode) (c : ContextModel) → IsAllowed node → attr_reason node c ≡ first_reason (attr_fault (attr_node_term c node)) (headroom_of node c)
reason_parts node c allowed = ap (λ o. first_reason (attr_fault (attr_node_term c node)) (first_reason o (first_reason (headroom_of node c) (key_reason node)))) allowed.0
    ∙ ap (λ o. first_reason (attr_fault (attr_node_term c node)) (first_reason (headroom_of node c) o)) allowed.1
    ∙ ap (first_reason (attr_fault (attr_node_term c node))) (last (headroom_of node c))
  where
    last : (o : Option Refusal) → first_reason o None ≡ o
    last None = refl
    last (Some r) = refl

pub attr_done_exact : (c : ContextModel) (node : AttrNode) (y : AttrTerm) → IsAllowed node → From (IsNodeOf node y) c → Exact things Same c AttrDenotes (attr_done node) (DoneIf (attr_fault y ≡ None) y)
unfolding attr_done attr_step
attr_done_exact c node y allowed r = record {
  found = λ s t x s' g sound h e.
      let b = bind_read (attr_step node s.1) (λ n. done (moved s n)) (x, s') e in
      let a = read_interned (attr_reason node s.1) (with_attr node s.1) b.0 b.1 in
      let same : moved s (with_attr node s.1) ≡ (x, s') = ap (moved s) a.1 ∙ cc (b.2) in
      let no_fault = (neither (attr_fault (attr_node_term s.1 node)) (headroom_of node s.1) (sym (reason_parts node s.1 allowed) ∙ a.0)).0 in
      subst (λ (q : ℕ × Typed). Comes things Same AttrDenotes (DoneIf (attr_fault y ≡ None) y) s t q.0 q.1) same
      (y, t, (sym (fault_of s.1 (r s.1 g sound)) ∙ no_fault, refl, refl), attr_step_on node y s t sound (text_now s t sound h) (r s.1 g sound) a.0);
  only = λ s t y' t' g sound h k.
      let no_fault : attr_fault (attr_node_term s.1 node) ≡ None = fault_of s.1 (r s.1 g sound) ∙ k.0 in
      rw (k.1, k.2) (⊎_elim
      (λ (f : headroom_of node s.1 ≡ None).
      let fine : attr_reason node s.1 ≡ None = reason_parts node s.1 allowed ∙ neither_back (attr_fault (attr_node_term s.1 node)) (headroom_of node s.1) no_fault f in
      subst (λ o. Reads things Same AttrDenotes s (interned o (with_attr node s.1) >>= λ n. done (moved s n)) y t) (sym fine)
      (inr ((with_attr node s.1).0, (s.0, (with_attr node s.1).1), refl, attr_step_on node y s t sound (text_now s t sound h) (r s.1 g sound) fine)))
      (λ (f : headroom_of node s.1 ≡ Some TooMany).
      let none : attr_reason node s.1 ≡ Some TooMany = reason_parts node s.1 allowed ∙ ap (λ o. first_reason o (headroom_of node s.1)) no_fault ∙ f in
      inl (ap (λ o. interned o (with_attr node s.1) >>= λ n. done (moved s n)) none))
      (full_cases (same_attr (kept s.1.names node)) s.1.attrs));
}
  where
    fault_of : (z : ContextModel) → IsNodeOf node y z → attr_fault (attr_node_term z node) ≡ attr_fault y
    fault_of z n = sym (kept_fault z node) ∙ ap attr_fault n.1

-- ---- a value with an entry interned before it

module _ {B C : Type 0} (z : B) (Q : B → Grammar Text C) where
  pub done_then : (y : C) (t t' : Text) → Then (Done z) Q y t t' → Q z y t t'
  done_then y t t' k = subst (λ m. Q z y m t') k.2.1 (subst (λ b. Q b y k.1 t') k.2.0 k.3)

  pub then_done : (y : C) (t t' : Text) → Q z y t t' → Then (Done z) Q y t t'
  then_done y t t' k = (z, t, (refl, refl), k)

pub done_if_exact : {A B : Type 0} (c : ContextModel) (R : ContextModel → A → B → Type 0) (p : Parse Typed A) (F : Type 0) (z : B) → F → Exact things Same c R p (DoneIf F z) → Exact things Same c R p (Done z)
done_if_exact c R p F z holds = exact_rendered things Same c R p (DoneIf F z) (Done z) (λ y t t' k. (k.1, k.2)) (λ y t t' k. (holds, k.0, k.1))

-- ---- more lemmas about agreement

-- no attribute has depth 0
pub zero_exact : (c : ContextModel) → Exact things Same c AttrDenotes (λ s. Wrong) (λ y old new. ⊥)
zero_exact c = nothing_exact things Same c AttrDenotes

-- a fact that holds in each sound context may be used
pub exact_given : {A B : Type 0} (c : ContextModel) (R : ContextModel → A → B → Type 0) (p : Parse Typed A) (P : Grammar Text B) → ((z : ContextModel) → IsExtendedBy c z → IsSound z → Exact things Same z R p P) → Exact things Same c R p P
exact_given c R p P each = record {
  found = λ s t x s' g sound h e. (each s.1 g sound).found s t x s' (grows_refl s.1) sound h e;
  only = λ s t y t' g sound h k. (each s.1 g sound).only s t y t' (grows_refl s.1) sound h k;
}

-- a fact about every result of a parser may be used
module _ {A B : Type 0} (c : ContextModel) (R : ContextModel → A → B → Type 0) (p : Parse Typed A) (P : Grammar Text B) (F : A → Type 0) (fact : (s : Typed) (x : A) (s' : Typed) → p s ≡ Read (x, s') → F x) where
  abbrev Both : ContextModel → A → B → Type 0
  Both z x y = R z x y × F x

  step_with : (s : Typed) (x : A) (y : B) (s' : Typed) (t' : Text) → F x → Step things Same R s x y s' t' → Step things Same Both s x y s' t'
  step_with s x y s' t' f k = record { grows = k.grows; sound = k.sound; stands = λ z g w. (k.stands z g w, f); agree = k.agree }

  reads_with : (s : Typed) (y : B) (t' : Text) (o : Outcome (A × Typed)) → p s ≡ o → Reads things Same R s o y t' → Reads things Same Both s o y t'
  reads_with s y t' o e (inl f) = inl f
  reads_with s y t' o e (inr k) = inr (k.0, k.1, k.2, step_with s k.0 y k.1 t' (fact s k.0 k.1 (e ∙ k.2)) k.3)

  pub exact_read : Exact things Same c R p P → Exact things Same c Both p P
  exact_read k = record {
    found = λ s t x s' g sound h e. let f = k.found s t x s' g sound h e in (f.0, f.1, f.2, step_with s x f.0 s' f.1 (fact s x s' e) f.3);
    only = λ s t y t' g sound h j. reads_with s y t' (p s) refl (k.only s t y t' g sound h j);
  }
