use Rattle.std.proofs.Common.{List, ℕ, refl}
use Rattle.std.specs.List.{list_all}
use Rattle.ir_event.specs.trees.Meaning.{is_attr, is_name}
use Rattle.ir_event.specs.trees.Passing.{entry_passes}
use Rattle.ir_event.specs.types.Terms.{attr_term, name_term}
use Rattle.ir_text.specs.AttrText.{attr_text}
use Rattle.ir_text.specs.View.{entries_in}
use Rattle.ir_text_tokens.specs.Printing.{raw_text}
use Rattle.serde_json.specs.Data.{string}
use Rattle.mlir_work_session_base.specs.OperationObjects.{entry_members}
use Rattle.mlir_work_session_base.proofs.OperationObjects.{entries_done, entry_more, next_all}
use Rattle.mlir_work_session_base.proofs.operation_objects.write_entries.Goals as goal

pub entries-preserved : goal.entries-preserved
entries-preserved c =
    let ctx = c.args.ctx.now in
    let passes = entry_passes (is_name ctx) (is_attr ctx) in
    let e = c.entry-item.result in
    record {
      text = entry_more (λ (es : List (ℕ × ℕ)). entry_members (entries_in ctx es)) c.args.entries.now c.entries.entry-index e (raw_text (name_term ctx e.0)) (string (attr_text (attr_term ctx e.1))) c.entries.out.items c.write_comma.new.out.items c.write_entry.new.out.items _ c.entries.later
          c.entries-test.true c.entry-item.is refl c.in_ok-write_comma.ensures c.in_ok-write_entry.ensures c.entries.invariant.text;
      known = (next_all passes (list_all passes) c.args.entries.now c.entries.entry-index e c.entries-test.true c.entry-item.is refl c.entries.invariant.known).1;
    }

pub returns : goal.returns
returns c =
    entries_done (λ (es : List (ℕ × ℕ)). entry_members (entries_in c.args.ctx.now es)) c.args.entries.now c.entries.entry-index c.entries.out.items _ _ c.entries.later
    c.entries-test.false refl c.entries.invariant.text c.in_ok-push-2.ensures.items
