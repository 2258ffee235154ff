-- The results of a rewriter's calls, in terms of the state of a conversion.
use Rattle.std.proofs.Common.{◌≡◌, refl, ap, sym, ◌∙◌, subst, inl, inr, ℕ, Bool, true, false, true≢false, List, [], Option, Some, None, option_map, Result, Ok, Err}
use Rattle.std.specs.Prelude.{IfErr, IfOk, IfSome, Vec, OnErr, OnOk}
use Rattle.ir_event.specs.types.Things.{ContextModel, IsExtendedBy}
use Rattle.ir_event.specs.types.Sound.{Holds}
use Rattle.ir_event.specs.types.Terms.{name_term, type_term, attr_term}
use Rattle.ir_event.specs.types.declared.refusal.Refusal.{Refusal}
use Rattle.ir_event.specs.types.declared.refusal.Refusal.TheVariants.{Memory}
use Rattle.ir_event.proofs.of_types.Growth.{grows_refl}
use Rattle.ir_event.specs.trees.Ids.{has_id, ids}
use Rattle.ir_event.proofs.of_trees.Mapped.{map_ids}
use Rattle.ir_event.proofs.of_tree_laws.Contents.{map_has_id}
use Rattle.ir_event.specs.Listener.{Listener}
use Rattle.ir_event.specs.Modules.{Module, module_in, module_meaning}
use Rattle.ir_event.specs.declared.world.World.{World}
use Rattle.patterns.proofs.of_rewriter.Calls.{stepped, unstepped}
use Rattle.patterns.proofs.of_rewriter.Notified.{notified_none}
use Rattle.patterns.specs.rewriter.Machine.{Goes, Nothing, Step}
use Rattle.patterns.specs.rewriter.Wholes.{IsFinished}
use Rattle.patterns.specs.runs.Interning.{IsFull as AddedFull}
use Rattle.patterns.specs.Applied.{Applied, RewriteOutcome, IsReason}
use Rattle.patterns.specs.RewriterCalls.{Benched, JournalAfter, Led, reply_of, state_of}
use Rattle.patterns.specs.Held.{TransactionModel, module_held, open_marks}
use Rattle.conversion_base.specs.Lists.{AllFit, edits_meaning}
use Rattle.patterns.specs.runs.Edit.{Edit as Coded}
use Rattle.patterns.specs.runs.Runs.{Along}
use Rattle.conversion_base.specs.Makes.{made_by}
use Rattle.conversion_base.specs.Reconciling.{index_edits, index_rewrite}
use Rattle.conversion_base.proofs.Collapsing.{one_made}
use Rattle.conversion_base.specs.Rule.{Rule}
use Rattle.conversion_base.specs.Reasons.{reason_of}
use Rattle.conversion_base.specs.Reason.{Reason}
use Rattle.conversion_base.specs.Rewrites.{Rewrite, none, refused, becomes, carried_out, rewrite_by}
use Rattle.conversion.specs.Benches.{LedOn, transaction_of, seen}
use Rattle.conversion.specs.States.{Answers, Committed, IsFull, IsOutOfCapacity, Leads, Refuses, RolledBack, marked}
use Rattle.conversion.specs.States as state
use Rattle.conversion.proofs.Noting.{noted_kept, noted_none}

-- ---- what a world shows

module _ (w : World) (h : TransactionModel) (ctx : w.ctx ≡ h.ctx) (store : w.store ≡ h.store) where
  pub same_module : module_in w ≡ module_held h
  same_module i = module_meaning (ctx i) (store i).module_of

  pub here_or_gone : (x : ℕ) (b : Bool) → b ≡ has_id x w.store.module_of.tree → b ≡ has_id x (module_held h).tree
  here_or_gone x b e = e ∙ sym (map_has_id (name_term w.ctx) (type_term w.ctx) (attr_term w.ctx) x w.store.module_of.tree) ∙ ap (λ (m : Module). has_id x m.tree) same_module

  pub in_order : (xs : List ℕ) → xs ≡ ids w.store.module_of.tree → xs ≡ ids (module_held h).tree
  in_order xs e = e ∙ sym (map_ids (name_term w.ctx) (type_term w.ctx) (attr_term w.ctx) w.store.module_of.tree) ∙ ap (λ (m : Module). ids m.tree) same_module

  pub next_free : (n : ℕ) → n ≡ w.store.module_of.next → n ≡ (module_held h).next
  next_free n e = e ∙ ap (λ (m : Module). m.next) same_module

  pub why_here : (r : Rule) (x : ℕ) (c : Option Reason) → c ≡ reason_of r (module_in w) x → c ≡ reason_of r (module_held h) x
  why_here r x c e = e ∙ ap (λ (m : Module). reason_of r m x) same_module

pub all_in_order : {A : Type 0} (w : World) (h : TransactionModel) → w.ctx ≡ h.ctx → w.store ≡ h.store → (r : Result (Vec ℕ A) Refusal) → IfOk r (λ v. v.items ≡ ids w.store.module_of.tree) → IfOk r (λ v. v.items ≡ ids (module_held h).tree)
all_in_order w h ctx store (Ok v) e = in_order w h ctx store v.items e
all_in_order w h ctx store (Err e) k = tt

-- ---- what stays

module _ {B : Type 0} (meaning : B → Listener) where
  pub failure : (a : Benched B) → Leads seen transaction_of (LedOn meaning) a a
  failure a = record { grows = grows_refl a.transaction.ctx; marks = refl; noted = noted_none a.transaction; reported = λ holds. (holds, ([], notified_none meaning a)) }

  pub leads_applied : {A : Type 0} (r : Result A Refusal) (a b : Benched B) → Holds b.transaction.ctx → Applied meaning a b → JournalAfter meaning r a b → Leads seen transaction_of (LedOn meaning) a b
  leads_applied r a b holds p keeps = record { grows = p.grows; marks = p.opens; noted = noted_kept meaning r a b keeps; reported = λ _. (holds, p.led) }

  pub leads_on : {A : Type 0} (r : Result A Refusal) (a b : Benched B) → Holds b.transaction.ctx → b.transaction.ctx ≡ a.transaction.ctx → open_marks b.transaction ≡ open_marks a.transaction → Led meaning a b → JournalAfter meaning r a b → Leads seen transaction_of (LedOn meaning) a b
  leads_on r a b holds ctx marks led keeps = record {
    grows = subst (λ (d : ContextModel). IsExtendedBy a.transaction.ctx d) (sym ctx) (grows_refl a.transaction.ctx);
    marks = marks;
    noted = noted_kept meaning r a b keeps;
    reported = λ _. (holds, led);
  }

  pub leads_along : {A : Type 0} (r : Result A Refusal) (a b : Benched B) → Holds b.transaction.ctx → Along meaning a b → JournalAfter meaning r a b → Leads seen transaction_of (LedOn meaning) a b
  leads_along r a b holds p keeps = leads_on r a b holds p.ctx p.opens p.led keeps

  -- ---- marks

  pub step_marks : {A : Type 0} (r : Result A Refusal) (a b : Benched B) → Goes (state_of meaning a) Step (reply_of r) Nothing (state_of meaning b) → b.transaction.ctx ≡ a.transaction.ctx → OnOk r (seen b ≡ marked (seen a))
  step_marks (Ok u) a b g ctx = let k = stepped (state_of meaning a) (state_of meaning b) g in λ i. record { things = ctx i; held = k.0 i; marks = k.1 i }
  step_marks (Err e) a b g ctx = tt

  pub step_refused : {A : Type 0} (r : Result A Refusal) (a b : Benched B) → Goes (state_of meaning a) Step (reply_of r) Nothing (state_of meaning b) → IfErr r (λ e. e ≡ Memory)
  step_refused (Ok u) a b g = tt
  step_refused (Err e) a b g = unstepped (state_of meaning a) (state_of meaning b) e g

pub step_leaves : {A B : Type 0} (r : Result A Refusal) (a b : Benched B) → OnErr r (b ≡ a) → OnErr r (seen b ≡ seen a)
step_leaves (Ok u) a b e = tt
step_leaves (Err x) a b e = ap seen e

pub committed_so : {B : Type 0} (a b : Benched B) → IsFinished true a.transaction b.transaction → Committed (seen a) (seen b)
committed_so a b f k ks e i = record { things = f.ctx i; held = f.held k ks e i; marks = f.marks k ks e i }

pub rolled_so : {B : Type 0} (a b : Benched B) → IsFinished false a.transaction b.transaction → RolledBack (seen a) (seen b)
rolled_so a b f k ks e i = record { things = f.ctx i; held = f.held k ks e i; marks = f.marks k ks e i }

-- ---- rules

pub wanted : (w : Rewrite) (c : ContextModel) (e : Refusal) → IsOutOfCapacity c e → Refuses w c e
wanted none c e h = h
wanted (becomes p) c e h = h
wanted (refused f) c e h = inr h

full : (c : ContextModel) → AddedFull c → IsFull c
full c (inl h) = inr (inl h)
full c (inr h) = inr (inr h)

refuses : (w : Rewrite) (x : ℕ) (m : Module) (c : ContextModel) (e : Refusal) → has_id x m.tree ≡ true → IsReason w x m c e → Refuses w c e
refuses w x m c e here (inl memory) = wanted w c e (inl memory)
refuses w x m c e here (inr (inl gone)) = absurd (true≢false (sym here ∙ gone.1))
refuses w x m c e here (inr (inr (inr h))) = wanted w c e (inr (h.0, full c h.1.1))
refuses none x m c e here (inr (inr (inl h))) = absurd h
refuses (becomes n) x m c e here (inr (inr (inl h))) = absurd h
refuses (refused f) x m c e here (inr (inr (inl h))) = inl (sym h)

gave : (w : Rewrite) (done : Bool) (m n : Module) → RewriteOutcome w done m n → state.Applied w done m n
gave none done m n h = h
gave (becomes p) done m n h = h
gave (refused e) done m n h = h

-- an operation that is in the module
pub answered : {B : Type 0} (w : Rewrite) (x : ℕ) (a b : Benched B) (r : Result Bool Refusal) → has_id x (module_held a.transaction).tree ≡ true
    → IfOk r (λ done. RewriteOutcome w done (module_held a.transaction) (module_held b.transaction)) → OnErr r (module_held b.transaction ≡ module_held a.transaction) → IfErr r (λ e. IsReason w x (module_held a.transaction) b.transaction.ctx e) → Answers w r (seen a) (seen b)
answered w x a b (Ok done) here ok err why = gave w done (module_held a.transaction) (module_held b.transaction) ok
answered w x a b (Err e) here ok err why = (refuses w x (module_held a.transaction) b.transaction.ctx e here why, err)

pub answered_none : {B : Type 0} (w : Rewrite) (a : Benched B) → w ≡ none → Answers w (Ok false) (seen a) (seen a)
answered_none w a e = subst (λ (w : Rewrite). Answers w (Ok false) (seen a) (seen a)) (sym e) (refl, refl)

-- ---- edits

pub made_so : {B : Type 0} (w : Rewrite) (a b : Benched B) {n : Module} → w ≡ becomes n → module_held b.transaction ≡ n → Answers w (Ok true) (seen a) (seen b)
made_so w a b e is = subst (λ (w : Rewrite). Answers w (Ok true) (seen a) (seen b)) (sym e) (refl, is)

pub refused_so : {B : Type 0} (w : Rewrite) (e : Refusal) (a : Benched B) → w ≡ refused e → Answers w (Err e) (seen a) (seen a)
refused_so w e a is = subst (λ (w : Rewrite). Answers w (Err e) (seen a) (seen a)) (sym is) (inl refl, refl)

-- ---- casts

module _ (w : World) (h : TransactionModel) (ctx : w.ctx ≡ h.ctx) (store : w.store ≡ h.store) {A : Type 0} (x : ℕ) (found : Option (Vec Coded A)) (is : option_map (λ (v : Vec Coded A). edits_meaning w.ctx v.items) found ≡ index_edits (module_in w) x) where
  edits_there : option_map (λ (v : Vec Coded A). edits_meaning h.ctx v.items) found ≡ index_edits (module_held h) x
  edits_there = ap (λ (d : ContextModel). option_map (λ (v : Vec Coded A). edits_meaning d v.items) found) (sym ctx) ∙ is ∙ ap (λ (m : Module). index_edits m x) (same_module w h ctx store)

  pub index_gone : found ≡ None → index_rewrite (module_held h) x ≡ none
  index_gone e = ap (λ o. rewrite_by o (module_held h)) (sym edits_there ∙ ap (option_map (λ (v : Vec Coded A). edits_meaning h.ctx v.items)) e)

  edits_are_due : (v : Vec Coded A) → found ≡ Some v → index_edits (module_held h) x ≡ Some (edits_meaning h.ctx v.items)
  edits_are_due v e = sym edits_there ∙ ap (option_map (λ (v : Vec Coded A). edits_meaning h.ctx v.items)) e

  pub index_due : (v : Vec Coded A) → found ≡ Some v → index_rewrite (module_held h) x ≡ carried_out (edits_meaning h.ctx v.items) (module_held h)
  index_due v e = ap (λ o. rewrite_by o (module_held h)) (edits_are_due v e)

  pub index_one : (v : Vec Coded A) → found ≡ Some v → made_by (edits_meaning h.ctx v.items) ≡ 1
  index_one v e = one_made (module_held h) x (edits_meaning h.ctx v.items) (edits_are_due v e)

pub index_fits : {A : Type 0} (w : World) (h : TransactionModel) → w.ctx ≡ h.ctx → w.store ≡ h.store → (found : Option (Vec Coded A)) → IfSome found (λ v. AllFit w.ctx v.items) → (v : Vec Coded A) → found ≡ Some v → AllFit h.ctx v.items
index_fits {A} w h ctx store found fits_in v e =
    let fits : AllFit w.ctx v.items = subst (λ (f : Option (Vec Coded A)). IfSome f (λ v. AllFit w.ctx v.items)) e fits_in in
    subst (λ (d : ContextModel). AllFit d v.items) ctx fits
