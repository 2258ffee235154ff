use Rattle.std.proofs.Common.{◌≡◌, ◌∙◌, sym, ap, subst, ℕ, length, Err}
use Rattle.std.specs.List.{list_any, position_or_len}
use Rattle.std.specs.Map.{keys_of}
use Rattle.ir_types_interner.specs.Interned.{with_last}
use Rattle.ir_types.specs.Same.{same_type}
use Rattle.ir_types.specs.Reasons.{IsRefusedFor, full_reason}
use Rattle.ir_types.specs.Refusals.{not_interned}
use Rattle.ir_types.proofs.SameNodes.{derived_type}
use Rattle.ir_types.proofs.Calls.{accepted, as_test, interned_reason, not_interned_reason}
use Rattle.ir_types.proofs.places.intern_type.Goals as goal
use Rattle.std.proofs.lemmas.Map.Entries.{length-keys_of}

pub returns-in-Ok-clause-place : goal.returns-in-Ok-clause-place
returns-in-Ok-clause-place c = c.in-Ok.ensures.place ∙ ap (λ p. position_or_len p (keys_of c.args.types.now.entries)) (as_test _ same_type derived_type c.args.node)

pub returns-in-Ok-clause-types : goal.returns-in-Ok-clause-types
returns-in-Ok-clause-types c = c.in-Ok.ensures.keys ∙ ap (λ p. with_last p c.args.node (keys_of c.args.types.now.entries)) (as_test _ same_type derived_type c.args.node)

pub returns-in-Ok-clause-refused : goal.returns-in-Ok-clause-refused
returns-in-Ok-clause-refused c =
    let keys = keys_of c.args.types.now.entries in
    let n : length c.args.types.now.entries ≡ length keys = sym (length-keys_of c.args.types.now.entries) in
    let same = as_test _ same_type derived_type c.args.node in
    accepted (full_reason (same_type c.args.node) keys) c.in-Ok.place
    (ap (λ p. full_reason p keys) (sym same) ∙ interned_reason _ keys c.in-Ok.place (length c.args.types.now.entries) n c.in-Ok.ensures.full.1)

pub returns-in-Err-clause-refused : goal.returns-in-Err-clause-refused
returns-in-Err-clause-refused c =
    let keys = keys_of c.args.types.now.entries in
    let n : length c.args.types.now.entries ≡ length keys = sym (length-keys_of c.args.types.now.entries) in
    let same = as_test _ same_type derived_type c.args.node in
    subst (λ r. IsRefusedFor {A = ℕ} (full_reason (same_type c.args.node) keys) (Err r)) (sym c.from.ensures)
    (subst (λ p. IsRefusedFor {A = ℕ} (full_reason p keys) (Err (not_interned c.in-Err.fault))) same
    (not_interned_reason _ keys c.in-Err.fault (length c.args.types.now.entries) n c.in-Err.ensures.full))

pub returns-in-Err-clause-known : goal.returns-in-Err-clause-known
returns-in-Err-clause-known c e = c.in-Err.ensures.known (ap (λ p. list_any p (keys_of c.args.types.now.entries)) (as_test _ same_type derived_type c.args.node) ∙ e)
