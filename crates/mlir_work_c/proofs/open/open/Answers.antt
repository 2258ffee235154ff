use Rattle.std.proofs.Common.{◌∙◌, inl, refl, subst, sym, Bool}
use Rattle.mlir_work_script_base.specs.Limits.{most_input_bytes}
use Rattle.mlir_work_run.specs.Whole.{IsWorldOf}
use Rattle.rewriter.specs.RewriterCalls.{state_of}
use Rattle.mlir_work_analyses.specs.Listeners.{any_analysis}
use Rattle.mlir_work_c.specs.Opened.{AllAttached}
use Rattle.mlir_work_c.proofs.open.open.Goals as goal

pub returns-clause-opened : goal.returns-clause-opened
returns-clause-opened c = record {
  world = subst (IsWorldOf c.args.opaque c.args.text.now) (sym c.in-Some.ensures.held) c.in-Ok.ensures.world;
  mode = c.in-Some.ensures.mode ∙ c.in-Ok.ensures.mode;
  unmarked = c.in-Some.ensures.unmarked;
  attached = subst (λ (b : Bool). AllAttached b (state_of any_analysis c.in-Some.bench).panel) c.in-Ok.ensures.mode c.in-Some.ensures.attached;
  empty = c.new-registry.ensures;
  limit_is = refl;
  counted = refl;
  shows = c.new.ensures.items;
}

pub returns-then-bytes-gt-MAX_INPUT_BYTES-clause-not_opened : goal.returns-then-bytes-gt-MAX_INPUT_BYTES-clause-not_opened
unfolding most_input_bytes
returns-then-bytes-gt-MAX_INPUT_BYTES-clause-not_opened c = inl (c.if-bytes-gt-MAX_INPUT_BYTES.true, refl, refl)
