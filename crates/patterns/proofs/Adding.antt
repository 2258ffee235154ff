-- Rewriters whose context grows.
use Rattle.std.proofs.Common.{◌≡◌, refl, ap, sym, ◌∙◌, subst, List, []}
use Rattle.ir_event.specs.types.Things.{ContextModel}
use Rattle.ir_event.specs.types.Sound.{Holds}
use Rattle.ir_event.proofs.of_types.Growth.{grows_refl, grows_trans}
use Rattle.ir_event.specs.Listener.{Listener}
use Rattle.patterns_lowering.specs.rewriter.Moves.{Grown}
use Rattle.patterns_lowering.proofs.of_rewriter.Notified.{notified_none, notified_more, notified_grown}
use Rattle.patterns_lowering.specs.RewriterCalls.{Benched, Notified}
use Rattle.patterns_lowering.specs.Held.{TransactionModel}
use Rattle.patterns_lowering.specs.Interning.{Added}

grown_none : (h : TransactionModel) → Grown h h
grown_none h = record { grows = grows_refl h.ctx; held = refl; same = refl; marked = refl; trailing = λ k. refl }

under : ContextModel → TransactionModel → TransactionModel
under c h = record { ctx = c; store = h.store; journal = h.journal; marks = h.marks }

grown_on : (a b c : TransactionModel) → Grown a b → Grown b c → Grown a c
unfolding under
grown_on a b c p q =
    record {
      grows = grows_trans a.ctx b.ctx c.ctx p.grows q.grows;
      held = q.held ∙ ap (under c.ctx) p.held;
      same = q.same ∙ p.same;
      marked = q.marked ∙ p.marked;
      trailing = λ k. q.trailing k ∙ p.trailing k;
    }

module _ {B : Type 0} (meaning : B → Listener) where
  pub added_none : (a : Benched B) → Added meaning a a
  added_none a = record { grown = grown_none a.transaction; untold = notified_none meaning a }

  pub added_on : (a b c : Benched B) → Holds b.transaction.ctx → Added meaning a b → Added meaning b c → Added meaning a c
  added_on a b c holds p q =
      record {
        grown = grown_on a.transaction b.transaction c.transaction p.grown q.grown;
        untold = notified_more meaning [] [] a b c holds p.untold q.untold;
      }

  -- interning something
  pub added_one : (a b : Benched B) → Holds a.transaction.ctx → Holds b.transaction.ctx → Grown a.transaction b.transaction → b.listeners ≡ a.listeners → Added meaning a b
  added_one a b before after grown same =
      record {
        grown = grown;
        untold = subst (λ (xs : List B). Notified meaning [] a (record { transaction = b.transaction; listeners = xs })) (sym same) (notified_grown meaning a.transaction b.transaction a.listeners before after grown);
      }
