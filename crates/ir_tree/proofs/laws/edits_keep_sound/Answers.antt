use Rattle.std.proofs.Common.{◌≡◌, ℕ, ◌<◌, Some, None, subst, length}
use Rattle.std.proofs.lemmas.Bool.{lt-ltb}
use Rattle.ir_tree.proofs.SoundEdits.{operand_sound, replaced_sound, entry_sound, put_sound, without_sound}
use Rattle.ir_tree.proofs.laws.edits_keep_sound.Goals as goal

same_below : (a b n : ℕ) → Some a ≡ Some b → a < n → b < n
same_below a b n e h = let w : a ≡ b = cc in subst (λ (z : ℕ). z < n) w h

pub returns-clause-operand : goal.returns-clause-operand
returns-clause-operand _ c x k v t s = operand_sound c x k v t s

pub returns-clause-replaced : goal.returns-clause-replaced
returns-clause-replaced _ c v w t s = replaced_sound c v w t s

pub returns-clause-entry_set : goal.returns-clause-entry_set
returns-clause-entry_set _ c x part k a t n m s = entry_sound c x part k (Some a) t (lt-ltb k (length c.names) n) (λ b e. lt-ltb b (length c.attrs) (same_below a b (length c.attrs) e m)) s

pub returns-clause-entry_removed : goal.returns-clause-entry_removed
returns-clause-entry_removed _ c x part k t n s = entry_sound c x part k None t (lt-ltb k (length c.names) n) (λ b e. cc) s

pub returns-clause-put : goal.returns-clause-put
returns-clause-put _ c place o t r s = put_sound c place o t r s

pub returns-clause-without : goal.returns-clause-without
returns-clause-without _ c x t s = without_sound c x t s
