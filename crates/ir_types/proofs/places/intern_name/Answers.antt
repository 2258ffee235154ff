use Rattle.std.proofs.Common.{◌≡◌, ◌∙◌, sym, ℕ, map, length, arith, refl, true≢false}
use Rattle.std.specs.Str.{bytes_eq}
use Rattle.std.proofs.lemmas.List.{length-map}
use Rattle.ir_types.specs.declared.refusal.Refusal.TheVariants.{TooMany}
use Rattle.ir_types.proofs.Calls.{accepted, refused, full_found, full_absent, names_found, names_absent, names_with, names_push}
use Rattle.ir_types.proofs.Keptness.{none_if_err, none_on_err, on_err}
use Rattle.ir_types.proofs.places.intern_name.Goals as goal

pub returns-in-Some-clause-place : goal.returns-in-Some-clause-place
returns-in-Some-clause-place c = (names_found (λ v. v.items) c.args.bytes.now c.args.names.now.keys c.in-Some.place (sym c.get_index_of.ensures.index ∙ c.in-Some.is)).1

pub returns-in-Some-clause-names : goal.returns-in-Some-clause-names
returns-in-Some-clause-names c = (names_with (λ v. v.items) c.args.bytes.now c.args.names.now.keys c.in-Some.place (sym c.get_index_of.ensures.index ∙ c.in-Some.is))

pub returns-in-Some-clause-refused : goal.returns-in-Some-clause-refused
returns-in-Some-clause-refused c = accepted _ c.in-Some.place (full_found (bytes_eq c.args.bytes.now) (map (λ v. v.items) c.args.names.now.keys) (names_found (λ v. v.items) c.args.bytes.now c.args.names.now.keys c.in-Some.place (sym c.get_index_of.ensures.index ∙ c.in-Some.is)).0)

pub returns-then-place-clause-refused : goal.returns-then-place-clause-refused
returns-then-place-clause-refused c =
    let n : length (map (λ v. v.items) c.args.names.now.keys) ≡ length c.args.names.now.keys = length-map c.args.names.now.keys (λ v. v.items) in
    refused ℕ _ TooMany (full_absent (bytes_eq c.args.bytes.now) (map (λ v. v.items) c.args.names.now.keys) (names_absent (λ v. v.items) c.args.bytes.now c.args.names.now.keys (sym c.get_index_of.ensures.index ∙ c.in_default.is)).0 (omega (arith, c.len-place.ensures.len)))

pub returns-clause-place : goal.returns-clause-place
returns-clause-place c =
    c.len-place.ensures.len ∙ sym (length-map c.args.names.now.keys (λ v. v.items)) ∙ sym (names_absent (λ v. v.items) c.args.bytes.now c.args.names.now.keys (sym c.get_index_of.ensures.index ∙ c.in_default.is)).1

pub returns-clause-names : goal.returns-clause-names
returns-clause-names c =
    names_push (λ v. v.items) c.args.bytes.now c.args.names.now.keys c.insert.new.self.keys c.in_ok-from_slice.field-0 (sym c.get_index_of.ensures.index ∙ c.in_default.is) c.in_ok-from_slice.ensures.items c.in_ok-insert.ensures.keys

pub returns-then-place-clause-known : goal.returns-then-place-clause-known
returns-then-place-clause-known c e = absurd (true≢false (sym e ∙ (names_absent (λ v. v.items) c.args.bytes.now c.args.names.now.keys (sym c.get_index_of.ensures.index ∙ c.in_default.is)).0))

pub returns-in_err-from_slice-clause-known : goal.returns-in_err-from_slice-clause-known
returns-in_err-from_slice-clause-known c e = absurd (true≢false (sym e ∙ (names_absent (λ v. v.items) c.args.bytes.now c.args.names.now.keys (sym c.get_index_of.ensures.index ∙ c.in_default.is)).0))

pub returns-in_err-insert-clause-known : goal.returns-in_err-insert-clause-known
returns-in_err-insert-clause-known c e = absurd (true≢false (sym e ∙ (names_absent (λ v. v.items) c.args.bytes.now c.args.names.now.keys (sym c.get_index_of.ensures.index ∙ c.in_default.is)).0))

pub returns-in_err-from_slice-clause-place : goal.returns-in_err-from_slice-clause-place
returns-in_err-from_slice-clause-place c = none_if_err ℕ _ c.from_residual.result c.from_residual.ensures.0

pub returns-in_err-from_slice-clause-names : goal.returns-in_err-from_slice-clause-names
returns-in_err-from_slice-clause-names c = none_on_err ℕ _ c.from_residual.result c.from_residual.ensures.0

pub returns-in_err-from_slice-clause-err : goal.returns-in_err-from_slice-clause-err
returns-in_err-from_slice-clause-err c = on_err ℕ c.from_residual.result refl

pub returns-in_err-insert-clause-place : goal.returns-in_err-insert-clause-place
returns-in_err-insert-clause-place c = none_if_err ℕ _ c.from_residual-in_err-insert.result c.from_residual-in_err-insert.ensures.0

pub returns-in_err-insert-clause-names : goal.returns-in_err-insert-clause-names
returns-in_err-insert-clause-names c = none_on_err ℕ _ c.from_residual-in_err-insert.result c.from_residual-in_err-insert.ensures.0
