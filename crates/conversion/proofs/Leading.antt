-- Sequences of calls.
use Rattle.std.proofs.Common.{◌≡◌, refl, ap, sym, subst, ◌∙◌}
use Rattle.ir_event.specs.types.Things.{IsExtendedBy}
use Rattle.patterns.specs.runs.Runs.{Noted}
use Rattle.ir_event.proofs.of_types.Growth.{grows_refl, grows_trans}
use Rattle.patterns.specs.rewriter.Held.{TransactionModel}
use Rattle.conversion.specs.States.{State, Leads}
use Rattle.conversion.proofs.Noting.{noted_more, noted_none}

module _ {S : Type 0} (state : S → State) (transaction : S → TransactionModel) (led : S → S → Type 0) where
  pub leads_none : ((a : S) → led a a) → (a : S) → Leads state transaction led a a
  leads_none none a = record { grows = grows_refl (state a).things; marks = refl; noted = noted_none (transaction a); reported = none a }

  -- a refused call
  pub leads_same : (a b : S) → state b ≡ state a → transaction b ≡ transaction a → led a b → Leads state transaction led a b
  leads_same a b e d l = record {
    grows = subst (λ (s : State). IsExtendedBy (state a).things s.things) (sym e) (grows_refl (state a).things);
    marks = ap (λ (s : State). s.marks) e;
    noted = subst (Noted (transaction a)) (sym d) (noted_none (transaction a));
    reported = l;
  }

  pub leads_more : ((a b c : S) → led a b → led b c → led a c) → (a b c : S) → Leads state transaction led a b → Leads state transaction led b c → Leads state transaction led a c
  leads_more more a b c h k = record {
    grows = grows_trans (state a).things (state b).things (state c).things h.grows k.grows;
    marks = k.marks ∙ h.marks;
    noted = noted_more (transaction a) (transaction b) (transaction c) h.noted k.noted;
    reported = more a b c h.reported k.reported;
  }
