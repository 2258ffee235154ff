-- The theorem, applied to the events of a journal from an index on.
use Rattle.std.proofs.Common.{◌≡◌, sym, subst, ℕ, List, drop}
use Rattle.ir_event.specs.types.Things.{ContextModel}
use Rattle.ir_event.specs.store.Stored.{Stored}
use Rattle.ir_event.specs.declared.event.Event.{Event}
use Rattle.ir_event.specs.declared.world.World.{World}
use Rattle.ir_event.specs.Modules.{Module, module_in, module_meaning}
use Rattle.rewriter_machine.specs.Journals.{IsJournal}
use Rattle.patterns.specs.rewriter.Held.{TransactionModel, module_at, module_held}
use Rattle.greedy.specs.Listing.{TouchedUpTo}
use Rattle.greedy.specs.Near.{Leads}
use Rattle.greedy.specs.Shown.{shown_operands}
use Rattle.greedy.proofs.Leading.{leads_from}

pub journal_touched : (w : World) (h : TransactionModel) (from passed : ℕ) (es : List Event) (listed : List ℕ) → w.ctx ≡ h.ctx → w.store ≡ h.store → es ≡ drop from h.journal → IsJournal h.ctx h.journal h.store
    → ((m : Module) → Leads (shown_operands w.store) w.ctx es m (module_in w) → TouchedUpTo passed m (module_in w) listed) → TouchedUpTo passed (module_at from h) (module_held h) listed
journal_touched w h from passed es listed ec est el j f = subst (λ n. TouchedUpTo passed (module_at from h) n listed) same (f (module_at from h) back)
  where
    leading : ContextModel → Stored → List Event → Type 0
    leading c s l = Leads (shown_operands s) c l (module_at from h) (module_meaning c s.module_of)

    back : Leads (shown_operands w.store) w.ctx es (module_at from h) (module_in w)
    back = subst (λ c. leading c w.store es) (sym ec) (subst (λ s. leading h.ctx s es) (sym est) (subst (λ l. leading h.ctx h.store l) (sym el) (leads_from h.ctx h.journal h.store j from)))

    same : module_in w ≡ module_held h
    same = λ i. module_meaning (ec i) (est i).module_of
