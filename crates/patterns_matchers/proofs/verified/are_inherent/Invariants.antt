use Rattle.std.proofs.Common.{◌≡◌, List, ℕ, length}
use Rattle.std.specs.List.{list_all}
use Rattle.ir_event.specs.types.Words.{is_inherent}
use Rattle.ir_event.specs.types.Terms.{AttrTerm, name_term}
use Rattle.dialects_int.specs.Folds.{entries_of}
use Rattle.patterns_matchers.proofs.verified.are_inherent.Given as goal

abbrev pub invariant-entries : goal.invariant-entries
invariant-entries l = list_all (λ (e : List ℕ × AttrTerm). is_inherent (name_term l.fn.ctx l.fn.name) e.0) (entries_of l.fn.ctx l.rest) ≡ list_all (λ (e : List ℕ × AttrTerm). is_inherent (name_term l.fn.ctx l.fn.name) e.0) (entries_of l.fn.ctx l.fn.entries)

abbrev pub decreases-entries : goal.decreases-entries
decreases-entries l = length l.rest
