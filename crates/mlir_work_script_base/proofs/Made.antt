-- Proofs about the number of reads.
use Rattle.std.proofs.Common.{◌≡◌, ℕ, ◌+◌, ◌≤◌, ◌<◌, Option, Some, None, Bool, true, ◌⊎◌, inl, inr, refl, ◌∙◌, arith, zero, suc}
use Rattle.mlir_work_script_base.specs.Reads.{AreMade, AreMadeAtMost}

pub made_join : (a b c : Option ℕ) (n k : ℕ) → AreMade a b n → AreMade b c k → AreMade a c (n + k)
made_join None b c n k h more = tt
made_join (Some x) None c n k h more = absurd h
made_join (Some x) (Some y) None n k h more = absurd more
made_join (Some x) (Some y) (Some z) n k h more = omega (arith, h, more)

pub made_at_most : (a b c : Option ℕ) (n k : ℕ) → AreMade a b n → AreMadeAtMost b c k → AreMadeAtMost a c (n + k)
made_at_most None b c n k h more = tt
made_at_most (Some x) None c n k h more = absurd h
made_at_most (Some x) (Some y) None n k h more = absurd more
made_at_most (Some x) (Some y) (Some z) n k h more = omega (arith, h, more)

-- a number of reads is within a larger limit
pub few_made : (a b : Option ℕ) (n k : ℕ) → AreMade a b n → n ≤ k → AreMadeAtMost a b k
few_made None b n k h le = tt
few_made (Some x) None n k h le = h
few_made (Some x) (Some y) n k h le = omega (arith, h, le)

pub fewer_made : (a b : Option ℕ) (n k : ℕ) → AreMadeAtMost a b n → n ≤ k → AreMadeAtMost a b k
fewer_made None b n k h le = tt
fewer_made (Some x) None n k h le = h
fewer_made (Some x) (Some y) n k h le = omega (arith, h, le)

gave_one : (made count taken : ℕ) → made ≤ count → (taken ≡ 0 → ⊥) → made + 1 ≤ count + taken
gave_one made count zero h some = absurd (some refl)
gave_one made count (suc taken) h some = omega arith

-- each read gave at least one byte, or a read was interrupted
pub gave_more : (made count taken : ℕ) (before after : Bool) → (made ≤ count) ⊎ (before ≡ true) → (taken ≡ 0 → ⊥) → after ≡ before → (made + 1 ≤ count + taken) ⊎ (after ≡ true)
gave_more made count taken before after (inr h) some same = inr (same ∙ h)
gave_more made count taken before after (inl h) some same = inl (gave_one made count taken h some)

-- if there were more reads than bytes, a read was interrupted
pub ran_out : (made count : ℕ) (interrupted : Bool) → (made ≤ count) ⊎ (interrupted ≡ true) → count < made → interrupted ≡ true
ran_out made count interrupted (inl few) more = absurd (omega arith)
ran_out made count interrupted (inr e) more = e
