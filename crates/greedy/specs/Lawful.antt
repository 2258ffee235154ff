-- The extra relation that the calls of a rewriter keep, for one call and for two in a row.
use Rattle.std.proofs.Common.{ap, ℕ, ◌≤◌, List, ◌++◌, [], length, length-append, inl, inr, arith}
use Rattle.ir_event.specs.types.Things.{ContextModel, IsExtendedBy, IsPreceding}
use Rattle.ir_event.specs.types.Limits.{most_things}
use Rattle.ir_types.proofs.Growth.{grows_refl, grows_trans}
use Rattle.ir_event.specs.Listener.{Listener}
use Rattle.patterns.specs.RewriterCalls.{Benched}
use Rattle.patterns.specs.runs.Interning.{IsFull}
use Rattle.patterns.proofs.Notified.{notified_stays, notified_through}
use Rattle.greedy.specs.Benches.{Onward}

preceding_longer : {A : Type 0} (n : ℕ) (xs ys : List A) → IsPreceding xs ys → n ≤ length xs → n ≤ length ys
preceding_longer n xs ys f l = let e = ap length f.1 in let a = length-append xs f.0 in omega (arith, l, e, a)

pub full_stays : (c d : ContextModel) → IsExtendedBy c d → IsFull c → IsFull d
full_stays c d g (inl l) = inl (preceding_longer most_things c.types d.types g.types l)
full_stays c d g (inr l) = inr (preceding_longer most_things c.attrs d.attrs g.attrs l)

module _ {B : Type 0} (meaning : B → Listener) where
  pub onward_stays : (b : Benched B) → Onward meaning b b
  onward_stays b = record { grows = grows_refl b.transaction.ctx; led = λ h. (h, ([], notified_stays meaning b)) }

  pub onward_through : (a b d : Benched B) → Onward meaning a b → Onward meaning b d → Onward meaning a d
  onward_through a b d f g = record {
    grows = grows_trans a.transaction.ctx b.transaction.ctx d.transaction.ctx f.grows g.grows;
    led = λ h.
        let x = f.led h in
        let y = g.led x.0 in
        (y.0, (x.1.0 ++ y.1.0, notified_through meaning x.1.0 y.1.0 a b d x.0 x.1.1 y.1.1));
  }
