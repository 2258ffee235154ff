-- Proofs about parsing texts and interning keys: both extend the rewriter's context.
use Rattle.std.proofs.Common.{◌≡◌, ◌∙◌, sym, ap, subst, refl, inl, inr, ◌⊎◌, ℕ, ◌≤◌, List, [], ◌++◌, Option, Some, None, true, arith}
use Rattle.std.specs.Prelude.{Result, IsTrue, nat_le, Bool}
use Rattle.ir_event.specs.types.Interning.{with_name}
use Rattle.ir_event.specs.types.Refusals.{number_of}
use Rattle.ir_event.specs.types.Sound.{Holds, IsSound}
use Rattle.ir_event.specs.types.Terms.{name_term, attr_term}
use Rattle.ir_event.proofs.of_types.WordNumbers.{word_count}
use Rattle.std.proofs.lemmas.Bool.{leb-true}
use Rattle.ir_event.specs.types.Things.{ContextModel, IsExtendedBy, IsName, IsAttr}
use Rattle.ir_event.specs.types.declared.refusal.Refusal.{Refusal}
use Rattle.ir_event.specs.types.declared.refusal.Refusal.TheVariants.{Memory, TooMany, IdsExhausted}
use Rattle.ir_event.proofs.of_types.CallNumbers.{new_name, name_stands}
use Rattle.ir_event.proofs.of_types.Growth.{grows_refl, grows_trans, preceding_length}
use Rattle.ir_event.proofs.of_types.Terms.{attr_stays}
use Rattle.ir_event.specs.trees.Meaning.{Operation}
use Rattle.ir_event.specs.trees.declared.place.Place.{Place}
use Rattle.ir_event.specs.store.Stored.{Stored}
use Rattle.ir_event.specs.declared.world.World.{World}
use Rattle.ir_event.specs.Listener.{Listener}
use Rattle.ir_event.specs.Modules.{context_model, module_in, module_meaning}
use Rattle.ir_text.specs.Printing.{text_of}
use Rattle.ir_text.specs.Public.{SpellsAttr}
use Rattle.mlir_work_transforms.specs.rewriter.Commands.{CanFill, IsAttrRefusal, IsOpRefusal, Replied, TextRefusedAt}
use Rattle.mlir_work_transforms.specs.rewriter.Machine.{State, Refused}
use Rattle.mlir_work_transforms.specs.rewriter.Panels.{all_shown}
use Rattle.mlir_work_transforms.specs.rewriter.Points.{Point, point_place}
use Rattle.mlir_work_transforms.specs.rewriter.Held.{TransactionModel, module_held, open_marks}
use Rattle.mlir_work_transforms.specs.rewriter.Moves.{Grown as TransactionGrown}
use Rattle.mlir_work_transforms.specs.rewriter.RewriterCalls.{Benched, AgreesOrStale, Led, state_of}
use Rattle.mlir_work_session.specs.Texts.{Grown, NotRead}
use Rattle.mlir_work_session_base.specs.IdsText.{ids_text}
use Rattle.mlir_work_session_base.specs.RowText.{rows_text}
use Rattle.mlir_work_session.specs.Output.{IsModule, AreKinds, IsListing}
use Rattle.ir_event.specs.Panels.{AllKept}
use Rattle.mlir_work_session.proofs.Placed.{point_next_to}
use Rattle.std.proofs.lemmas.Option.{slice_get_within}

-- ---- the rewriter's module and its IR state

pub module_seen : (h : TransactionModel) (w : World) → w.ctx ≡ h.ctx → w.store ≡ h.store → module_in w ≡ module_held h
module_seen h w ctx store = λ i. module_meaning (ctx i) (store i).module_of

pub held_text : (h : TransactionModel) (w : World) → w.ctx ≡ h.ctx → w.store ≡ h.store → (bytes : List ℕ) → bytes ≡ text_of (module_in w).tree → bytes ≡ text_of (module_held h).tree
held_text h w ctx store bytes is = is ∙ ap (λ m. text_of m.tree) (module_seen h w ctx store)

pub held_ids : (h : TransactionModel) (w : World) → w.ctx ≡ h.ctx → w.store ≡ h.store → (bytes : List ℕ) → bytes ≡ ids_text (module_in w).tree → bytes ≡ ids_text (module_held h).tree
held_ids h w ctx store bytes is = is ∙ ap (λ m. ids_text m.tree) (module_seen h w ctx store)

pub held_bytes : (h : TransactionModel) (w : World) → w.ctx ≡ h.ctx → w.store ≡ h.store → (f : Operation → List ℕ) (bytes : List ℕ) → bytes ≡ f (module_in w).tree → bytes ≡ f (module_held h).tree
held_bytes h w ctx store f bytes is = is ∙ ap (λ m. f m.tree) (module_seen h w ctx store)

pub sound_holds : (c d : ContextModel) → d ≡ c → IsSound d → Holds c
sound_holds c d same sound = subst Holds same sound.holds

module _ {B : Type 0} (meaning : B → Listener) where
  pub held_agrees : (h : TransactionModel) (w : World) → w.ctx ≡ h.ctx → w.store ≡ h.store → (b : B) → (meaning b).agrees h.ctx (module_held h) ⊎ ((meaning b).stale ≡ true) → (meaning b).agrees (context_model w) (module_in w) ⊎ ((meaning b).stale ≡ true)
  held_agrees h w ctx store b agrees =
      subst (λ (s : Stored). (meaning b).agrees w.ctx (module_meaning w.ctx s.module_of) ⊎ ((meaning b).stale ≡ true)) (sym store)
      (subst (λ (d : ContextModel). (meaning b).agrees d (module_meaning d h.store.module_of) ⊎ ((meaning b).stale ≡ true)) (sym ctx) agrees)

  pub held_rows : (h : TransactionModel) (w : World) → w.ctx ≡ h.ctx → w.store ≡ h.store → (b : B) (bytes : List ℕ) → bytes ≡ rows_text ((meaning b).analysis (module_in w).tree) → bytes ≡ rows_text ((meaning b).analysis (module_held h).tree)
  held_rows h w ctx store b bytes is = is ∙ ap (λ m. rows_text ((meaning b).analysis m.tree)) (module_seen h w ctx store)

  pub listing_held : (a : Benched B) (w : World) → w.ctx ≡ a.transaction.ctx → w.store ≡ a.transaction.store → (xs ys : List ℕ) → IsModule (module_in w).tree xs → AreKinds (module_in w).tree (all_shown meaning a.listeners) ys → IsListing (state_of meaning a) (xs ++ ys)
  listing_held a w ctx store xs ys p q =
      let same = module_seen a.transaction w ctx store in
      (xs, ys, subst (λ m. IsModule m.tree xs) same p, subst (λ m. AreKinds m.tree (all_shown meaning a.listeners) ys) same q, refl)

  pub all_held : (a : Benched B) (w : World) → w.ctx ≡ a.transaction.ctx → w.store ≡ a.transaction.store → AgreesOrStale meaning a → AllKept meaning (context_model w) (module_in w) a.listeners
  all_held a w ctx store kept =
      subst (λ (s : Stored). AllKept meaning w.ctx (module_meaning w.ctx s.module_of) a.listeners) (sym store)
      (subst (λ (d : ContextModel). AllKept meaning d (module_meaning d a.transaction.store.module_of) a.listeners) (sym ctx) kept)

  -- the state of a rewriter without marks after listeners were attached
  pub begun_state : (a b : Benched B) → b.transaction ≡ a.transaction → open_marks a.transaction ≡ [] → state_of meaning b ≡ record { held = module_held a.transaction; marks = []; panel = all_shown meaning b.listeners }
  begun_state a b transaction none = λ i. record { held = module_held (transaction i); marks = (ap open_marks transaction ∙ none) i; panel = all_shown meaning b.listeners }

  -- ---- contexts that grow

  pub grown_so : (a b : Benched B) → TransactionGrown a.transaction b.transaction → b.listeners ≡ a.listeners → Led meaning a b → ((x y : Benched B) → Led meaning x y → AgreesOrStale meaning x → AgreesOrStale meaning y) → Holds a.transaction.ctx → Holds b.transaction.ctx → Grown meaning a b
  grown_so a b grown same led law before after = record {
    grows = grown.grows;
    before = before;
    after = after;
    same = λ i. record { held = grown.same i; marks = grown.marked i; panel = all_shown meaning (same i) };
    next = ap (λ (h : TransactionModel). h.store.module_of.next) grown.held;
    kept = law a b led;
  }

  pub grown_trans : (a b c : Benched B) → Grown meaning a b → Grown meaning b c → Grown meaning a c
  grown_trans a b c g h = record {
    grows = grows_trans a.transaction.ctx b.transaction.ctx c.transaction.ctx g.grows h.grows;
    before = g.before;
    after = h.after;
    same = h.same ∙ g.same;
    next = h.next ∙ g.next;
    kept = λ k. h.kept (g.kept k);
  }

  pub grown_not : (a : Benched B) → Holds a.transaction.ctx → Grown meaning a a
  grown_not a holds = record { grows = grows_refl a.transaction.ctx; before = holds; after = holds; same = refl; next = refl; kept = λ k. k }

  pub point_after : (a b : Benched B) (s : Stored) (x : Option ℕ) (point : Point) (r : Result Place Refusal) → Grown meaning a b → s ≡ b.transaction.store → point_place x point s.module_of.tree ≡ r → point_place x point (module_held a.transaction).tree ≡ r
  point_after a b s x point r grown same e = ap (λ (t : State). point_place x point t.held.tree) (sym grown.same) ∙ point_next_to b.transaction s x point r same e

-- ---- texts that can't be parsed

-- a test whether an input can fill a context
pub fills : (bytes : ℕ) → IsTrue (nat_le 16777162 bytes) → CanFill bytes
fills bytes h = let many = word_count in let least = leb-true 16777162 bytes h in omega (arith, least, many)

pub unparsed_memory : {X : Type 0} (bytes : ℕ) (Rendered : X → Type 0) → NotRead bytes IsAttrRefusal Rendered (Replied (Refused Memory))
unparsed_memory bytes Rendered = (Memory, None, (refl, inr (inr refl)), refl)

pub unparsed_memory_op : {X : Type 0} (bytes : ℕ) (Rendered : X → Type 0) → NotRead bytes IsOpRefusal Rendered (Replied (Refused Memory))
unparsed_memory_op bytes Rendered = (Memory, None, (inr refl, inr (inr refl)), refl)

pub unparsed_full : {X : Type 0} (bytes : ℕ) (Rendered : X → Type 0) (offset : ℕ) → CanFill bytes → NotRead bytes IsAttrRefusal Rendered (TextRefusedAt TooMany offset)
unparsed_full bytes Rendered offset can = (TooMany, Some offset, (omega arith, inr (inl (refl, can))), refl)

pub unparsed_full_op : {X : Type 0} (bytes : ℕ) (Rendered : X → Type 0) (offset : ℕ) → CanFill bytes → NotRead bytes IsOpRefusal Rendered (TextRefusedAt TooMany offset)
unparsed_full_op bytes Rendered offset can = (TooMany, Some offset, (omega arith, inr (inl (refl, can))), refl)

unparsed_ids : {X : Type 0} (bytes : ℕ) (Rendered : X → Type 0) → ((x : X) → Rendered x → ⊥) → NotRead bytes IsOpRefusal Rendered (Replied (Refused IdsExhausted))
unparsed_ids bytes Rendered none = (IdsExhausted, None, (inl refl, inl none), refl)

pub ids_refused : {X : Type 0} (bytes : ℕ) (Rendered : X → Type 0) (refusal : Refusal) → refusal ≡ IdsExhausted → ((x : X) → Rendered x → ⊥) → NotRead bytes IsOpRefusal Rendered (Replied (Refused refusal))
ids_refused bytes Rendered refusal is none = subst (λ r. NotRead bytes IsOpRefusal Rendered (Replied (Refused r))) (sym is) (unparsed_ids bytes Rendered none)

-- an attribute isn't refused because ids ran out
pub ids_are_late : (refusal : Refusal) → refusal ≡ IdsExhausted → number_of refusal ≤ 14 → ⊥
ids_are_late refusal is small = (let late : number_of IdsExhausted ≤ 14 = subst (λ r. number_of r ≤ 14) is small in omega (arith, late))

pub unparsed_at : {X : Type 0} (bytes : ℕ) (Rendered : X → Type 0) (refusal : Refusal) (offset : ℕ) → number_of refusal ≤ 14 → ((x : X) → Rendered x → ⊥) → NotRead bytes IsAttrRefusal Rendered (TextRefusedAt refusal offset)
unparsed_at bytes Rendered refusal offset small none = (refusal, Some offset, (small, inl none), refl)

pub unparsed_at_op : {X : Type 0} (bytes : ℕ) (Rendered : X → Type 0) (refusal : Refusal) (offset : ℕ) → number_of refusal ≤ 14 → ((x : X) → Rendered x → ⊥) → NotRead bytes IsOpRefusal Rendered (TextRefusedAt refusal offset)
unparsed_at_op bytes Rendered refusal offset small none = (refusal, Some offset, (small, inl none), refl)

-- ---- names and attributes

-- the number of an interned name
pub named_so : (bytes : List ℕ) (c d : ContextModel) (n : ℕ) → (n, d) ≡ with_name bytes c → IsName d n × (name_term d n ≡ bytes)
named_so bytes c d n e =
    subst (λ (p : ℕ × ContextModel). IsName p.1 p.0 × (name_term p.1 p.0 ≡ bytes)) (sym e) (slice_get_within ((with_name bytes c).1).names (with_name bytes c).0 bytes (name_stands bytes c), new_name bytes c)

-- an attribute keeps its meaning when the context grows
pub attr_kept : (opaque : Bool) (c d : ContextModel) (text : List ℕ) (a : ℕ) → Holds c → IsExtendedBy c d → IsAttr c a × SpellsAttr opaque text (attr_term c a) → IsAttr d a × SpellsAttr opaque text (attr_term d a)
attr_kept opaque c d text a holds g (is, rendered) = (longer, subst (SpellsAttr opaque text) (sym (attr_stays c d a holds g is)) rendered)
  where
    longer : IsAttr d a
    longer = let l = preceding_length c.attrs d.attrs g.attrs in omega arith
