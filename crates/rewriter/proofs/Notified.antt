-- Listeners that were notified of the events between two rewriters.
use Rattle.std.proofs.Common.{◌≡◌, sym, ap, subst, refl, List, [], ◌∷◌, ◌++◌, inl}
use Rattle.std.specs.Prelude.{option_map}
use Rattle.ir_event.specs.types.Things.{ContextModel, IsExtendedBy}
use Rattle.ir_event.specs.types.Sound.{Holds}
use Rattle.ir_event.proofs.of_types.Growth.{grows_refl, grows_trans}
use Rattle.ir_event.specs.trees.Meaning.{meaning as op_meaning}
use Rattle.ir_event.specs.store.Nodes.{node_of}
use Rattle.ir_event.specs.store.Stored.{Stored, known}
use Rattle.ir_event.specs.declared.event.Event.{Event}
use Rattle.ir_event.specs.declared.world.World.{World}
use Rattle.ir_event.specs.Modules.{Module, module_meaning, context_model, module_in, node_of_op}
use Rattle.ir_event.specs.Listener.{Listener, ShowsTaken, Followed}
use Rattle.ir_event.specs.Panels.{AllNotified, AllFollowed}
use Rattle.ir_event.specs.Step.{Step, Steps}
use Rattle.ir_event.proofs.Follows.{zip_self, follow_none, all_none, all_notified, all_more, all_kept}
use Rattle.ir_event.proofs.Extra.{steps_on}
use Rattle.ir_event.proofs.Steps.{steps_stay}
use Rattle.rewriter.specs.Panels.{AllAge, all_shown}
use Rattle.rewriter.specs.Held.{TransactionModel, module_held, shown_of}
use Rattle.rewriter.specs.Moves.{Edited, Grown}
use Rattle.rewriter.specs.RewriterCalls.{Benched, Notified, AgreesOrStale, Led, Made}
use Rattle.rewriter.specs.Rolling.{Settled}
use Rattle.rewriter.proofs.Panels.{ages_followed}

module _ {B : Type 0} (meaning : B → Listener) where
  -- a rewriter leads to itself
  pub notified_none : (b : Benched B) → Notified meaning [] b b
  notified_none b = record { grows = grows_refl b.transaction.ctx; steps = refl; reported = all_none meaning b.transaction.ctx (module_held b.transaction) b.listeners }

  -- a rewriter leads to one with the same context and module
  pub notified_onward : (es : List Event) (a : Benched B) (g h : TransactionModel) (ys : List B) → h.ctx ≡ g.ctx → module_held h ≡ module_held g
      → Notified meaning es a (record { transaction = g; listeners = ys }) → Notified meaning es a (record { transaction = h; listeners = ys })
  notified_onward es a g h ys ctx same t =
      record {
        grows = subst (λ (d : ContextModel). IsExtendedBy a.transaction.ctx d) (sym ctx) t.grows;
        steps = subst (λ (d : ContextModel). Steps d es (module_held a.transaction) (module_held h)) (sym ctx) (subst (λ (m : Module). Steps g.ctx es (module_held a.transaction) m) (sym same) t.steps);
        reported = subst (λ (d : ContextModel). AllFollowed meaning es a.transaction.ctx (module_held a.transaction) d (module_held h) a.listeners ys) (sym ctx) (subst (λ (m : Module). AllFollowed meaning es a.transaction.ctx (module_held a.transaction) g.ctx m a.listeners ys) (sym same) t.reported);
      }

  pub notified_still : (g h : TransactionModel) (xs : List B) → h.ctx ≡ g.ctx → module_held h ≡ module_held g → Notified meaning [] (record { transaction = g; listeners = xs }) (record { transaction = h; listeners = xs })
  notified_still g h xs ctx same = notified_onward [] (record { transaction = g; listeners = xs }) g h xs ctx same (notified_none (record { transaction = g; listeners = xs }))

  pub led_still : (g h : TransactionModel) (xs : List B) → h.ctx ≡ g.ctx → module_held h ≡ module_held g → Led meaning (record { transaction = g; listeners = xs }) (record { transaction = h; listeners = xs })
  led_still g h xs ctx same = ([], notified_still g h xs ctx same)

  pub led_left : (g h : TransactionModel) (xs : List B) → h ≡ g → Led meaning (record { transaction = g; listeners = xs }) (record { transaction = h; listeners = xs })
  led_left g h xs e = led_still g h xs (ap (λ (k : TransactionModel). k.ctx) e) (ap module_held e)

  -- a context that grows
  pub notified_grown : (g h : TransactionModel) (xs : List B) → Holds g.ctx → Holds h.ctx → Grown g h → Notified meaning [] (record { transaction = g; listeners = xs }) (record { transaction = h; listeners = xs })
  notified_grown g h xs before after grown =
      record {
        grows = grown.grows;
        steps = grown.same;
        reported = zip_self (λ a b. Followed [] g.ctx (module_held g) h.ctx (module_held h) (meaning a) (meaning b)) (λ b. follow b) xs;
      }
    where
      follow : (b : B) → Followed [] g.ctx (module_held g) h.ctx (module_held h) (meaning b) (meaning b)
      follow b =
          record {
            same = (follow_none g.ctx (module_held g) (meaning b)).same;
            agrees = λ held. inl (subst (λ (m : Module). (meaning b).agrees h.ctx m) (sym grown.same) ((meaning b).grows g.ctx h.ctx (module_held g) before after grown.grows held));
            stale = λ gone. gone;
            notified = (follow_none g.ctx (module_held g) (meaning b)).notified;
          }

  -- one after another
  pub notified_more : (es fs : List Event) (a b c : Benched B) → Holds b.transaction.ctx → Notified meaning es a b → Notified meaning fs b c → Notified meaning (es ++ fs) a c
  notified_more es fs a b c holds h k =
      record {
        grows = grows_trans a.transaction.ctx b.transaction.ctx c.transaction.ctx h.grows k.grows;
        steps = steps_on c.transaction.ctx es fs (module_held a.transaction) (module_held b.transaction) (module_held c.transaction) (steps_stay b.transaction.ctx c.transaction.ctx es (module_held a.transaction) (module_held b.transaction) holds k.grows h.steps) k.steps;
        reported = all_more meaning es fs a.transaction.ctx b.transaction.ctx c.transaction.ctx (module_held a.transaction) (module_held b.transaction) (module_held c.transaction) a.listeners b.listeners c.listeners h.reported k.reported;
      }

  pub notified_next : (es fs : List Event) (a b c : Benched B) → c.transaction.ctx ≡ b.transaction.ctx → Notified meaning es a b → Notified meaning fs b c → Notified meaning (es ++ fs) a c
  notified_next es fs a b c same h k =
      record {
        grows = grows_trans a.transaction.ctx b.transaction.ctx c.transaction.ctx h.grows k.grows;
        steps = steps_on c.transaction.ctx es fs (module_held a.transaction) (module_held b.transaction) (module_held c.transaction) (subst (λ (d : ContextModel). Steps d es (module_held a.transaction) (module_held b.transaction)) (sym same) h.steps) k.steps;
        reported = all_more meaning es fs a.transaction.ctx b.transaction.ctx c.transaction.ctx (module_held a.transaction) (module_held b.transaction) (module_held c.transaction) a.listeners b.listeners c.listeners h.reported k.reported;
      }

  -- listeners notified in an IR state that is the transaction's
  notified_there : (e : Event) (w : World) (h : TransactionModel) (xs ys : List B) → w.ctx ≡ h.ctx → w.store ≡ h.store → AllNotified meaning e (context_model w) (module_in w) (node_of_op w) xs ys → AllNotified meaning e h.ctx (module_held h) (shown_of h) xs ys
  notified_there e w h xs ys ctx store t =
      subst (λ (s : Stored). AllNotified meaning e h.ctx (module_meaning h.ctx s.module_of) (λ x. option_map (λ o. node_of (op_meaning h.ctx o)) (known x s)) xs ys) store
      (subst (λ (c : ContextModel). AllNotified meaning e c (module_meaning c w.store.module_of) (λ x. option_map (λ o. node_of (op_meaning c o)) (known x w.store)) xs ys) ctx t)

  -- one step, of which the listeners were notified
  pub notified_step : (e : Event) (g h : TransactionModel) (w : World) (xs ys : List B) → h.ctx ≡ g.ctx → Step g.ctx e (module_held g) (module_held h) → ShowsTaken e (module_held g) (shown_of h) → w.ctx ≡ h.ctx → w.store ≡ h.store
      → AllNotified meaning e (context_model w) (module_in w) (node_of_op w) xs ys → Notified meaning (e ∷ []) (record { transaction = g; listeners = xs }) (record { transaction = h; listeners = ys })
  notified_step e g h w xs ys same step shows ctx store t =
      let reported : AllNotified meaning e g.ctx (module_held h) (shown_of h) xs ys = subst (λ (c : ContextModel). AllNotified meaning e c (module_held h) (shown_of h) xs ys) same (notified_there e w h xs ys ctx store t) in
      let all : AllFollowed meaning (e ∷ []) g.ctx (module_held g) g.ctx (module_held h) xs ys = all_notified meaning e g.ctx (module_held g) (module_held h) (shown_of h) xs ys step shows reported in
      record {
        grows = subst (λ (d : ContextModel). IsExtendedBy g.ctx d) (sym same) (grows_refl g.ctx);
        steps = subst (λ (d : ContextModel). Steps d (e ∷ []) (module_held g) (module_held h)) (sym same) (module_held h, step, refl);
        reported = subst (λ (d : ContextModel). AllFollowed meaning (e ∷ []) g.ctx (module_held g) d (module_held h) xs ys) (sym same) all;
      }

  -- an edit of a transaction, of which the listeners were notified, followed by the release of held operations
  pub made_notified : (s : Stored) (e : Event) (g h k : TransactionModel) (w : World) (xs ys : List B) → Edited e s g h → w.ctx ≡ h.ctx → w.store ≡ h.store → AllNotified meaning e (context_model w) (module_in w) (node_of_op w) xs ys → Settled h k
      → Made meaning s (record { transaction = g; listeners = xs }) (record { transaction = k; listeners = ys })
  made_notified s e g h k w xs ys ed ctx store t st =
      record {
        event = e;
        left = h;
        edited = ed;
        settled = st;
        notified = notified_onward (e ∷ []) (record { transaction = g; listeners = xs }) h k ys st.ctx (λ i. module_meaning (st.ctx i) (st.module_of i)) (notified_step e g h w xs ys (ap (λ (k : TransactionModel). k.ctx) ed.held) ed.step ed.shown ctx store t);
      }

  pub made_led : (s : Stored) (a b : Benched B) → Made meaning s a b → Led meaning a b
  made_led s a b m = (m.event ∷ [], m.notified)

  -- listeners that agreed agree or are stale, and stale listeners stay stale
  pub led_kept : (a b : Benched B) → Led meaning a b → AgreesOrStale meaning a → AgreesOrStale meaning b
  led_kept a b l kept = all_kept meaning l.0 a.transaction.ctx b.transaction.ctx (module_held a.transaction) (module_held b.transaction) a.listeners b.listeners l.1.reported kept

  pub led_ages : (a b : Benched B) → Led meaning a b → AllAge (all_shown meaning a.listeners) (all_shown meaning b.listeners)
  led_ages a b l = ages_followed meaning l.0 a.transaction.ctx (module_held a.transaction) b.transaction.ctx (module_held b.transaction) a.listeners b.listeners l.1.reported
