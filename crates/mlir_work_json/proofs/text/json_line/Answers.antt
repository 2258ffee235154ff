use Rattle.std.proofs.Common.{◌≤◌, Some, sym, ap, subst, ◌∙◌}
use Rattle.std.specs.Prelude.{option_map}
use Rattle.std.proofs.lemmas.Result.{IfOk-weaker}
use Rattle.serde_json.specs.Data.{depth}
use Rattle.serde_json.specs.Read.{max_depth, read}
use Rattle.serde_json.specs.View.{view}
use Rattle.serde_json.specs.Written.{has_float, compact_text}
use Rattle.mlir_work_json.proofs.Flat.{line_has_no_float, line_is_shallow}
use Rattle.mlir_work_json.proofs.Own.{other_data, other_json, own_json, own_reads}
use Rattle.mlir_work_json.proofs.text.json_line.Goals as goal

pub returns-in-Some-clause-json : goal.returns-in-Some-clause-json
returns-in-Some-clause-json c =
    let own = sym c.in_ok-own_object.ensures ∙ ap (option_map view) c.in-Some.is in
    IfOk-weaker c.copied.result _ _ (λ b h. h ∙ own_json c.args.line.now _ own) c.copied.ensures

pub returns-in-Some-clause-reads : goal.returns-in-Some-clause-reads
returns-in-Some-clause-reads c =
    let own = sym c.in_ok-own_object.ensures ∙ ap (option_map view) c.in-Some.is in
    IfOk-weaker c.copied.result _ _ (λ b h. ap read h ∙ own_reads c.args.line.now _ own) c.copied.ensures

pub returns-clause-json : goal.returns-clause-json
returns-clause-json c =
    let other = sym c.in_ok-own_object.ensures ∙ ap (option_map view) c.in-None.is in
    let e = c.in_ok-members_value.ensures in
    IfOk-weaker c.to_vec.result _ _ (λ b h. h (ap has_float e ∙ line_has_no_float c.args.line.now) ∙ ap compact_text e ∙ other_json c.args.line.now other) c.to_vec.ensures.text

pub returns-clause-reads : goal.returns-clause-reads
returns-clause-reads c =
    let other = sym c.in_ok-own_object.ensures ∙ ap (option_map view) c.in-None.is in
    let e = c.in_ok-members_value.ensures in
    IfOk-weaker c.to_vec.result _ _ (λ b h. h (subst (λ d. depth d ≤ max_depth) (sym e) (line_is_shallow c.args.line.now)) ∙ ap Some (e ∙ other_data c.args.line.now other)) c.to_vec.ensures.reads_back
