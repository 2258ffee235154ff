-- Commands that rewrite the whole module: by the rules of canonicalization, by the rules of a list, or by a list that
-- names user patterns; without lines, with a trace, or with counts.
use Rattle.std.specs.Prelude.{◌≡◌, ℕ, List, [], Option}
use Rattle.ir_event.specs.Modules.{Module}
use Rattle.mlir_work_transforms.specs.rewriter.Commands.{AppliesRule, Requested, Follows, Response, RuleName}
use Rattle.mlir_work_transforms.specs.rewriter.Machine.{Nothing, State, Transformation}
use Rattle.mlir_work_transforms.specs.registry.Replies.{is_accepted}
use Rattle.mlir_work_transforms.specs.FiredText.{fired_by}
use Rattle.mlir_work_transforms.specs.TraceText.{trace_by, traced_rules, tracing}
use Rattle.mlir_work_transforms.specs.declared.trace_form.TraceForm.{TraceForm}
use Rattle.mlir_work_transforms.specs.declared.trace_form.TraceForm.TheVariants.{Counts, EachRewrite, Off}
use Rattle.mlir_work_session.specs.declared.options.SessionOptions.{SessionOptions}
use Rattle.mlir_work_session.specs.Machine.{bytes_if, limit_or}

-- from state `s` a rewriting command may get this response, with these bytes below the reply, and lead to state `t`.
-- `change` is the transformation of the command, if each name resolves. `shown` are the bytes below each response
pub record Rewrites (change : Option Transformation) (shown : Response → List ℕ) (s : State) (response : Response) (bytes : List ℕ) (t : State) : Type 0 where
  pub requested : Requested
  pub asks : AppliesRule change requested
  pub follows : Follows s requested response Nothing t
  pub text : bytes ≡ shown response

-- the bytes below the response to a rewrite by the named rules, or by those of canonicalization
abbrev pub rewrite_bytes : TraceForm → Option (List RuleName) → ℕ → Module → Response → List ℕ
rewrite_bytes Off names limit m response = []
rewrite_bytes EachRewrite names limit m response = bytes_if (is_accepted response) (trace_by (traced_rules names) limit m)
rewrite_bytes Counts names limit m response = fired_by (traced_rules names) limit m response

-- a rewrite by the named rules, or by those of canonicalization
abbrev pub RunsRewrite : SessionOptions → TraceForm → Option (List RuleName) → Option ℕ → State → Response → List ℕ → State → Type 0
RunsRewrite options form names limit s response bytes t =
    Rewrites (tracing names (limit_or options.limit limit)) (rewrite_bytes form names (limit_or options.limit limit) s.held) s response bytes t
