-- Edits by number have the effect of their lines.
use Rattle.std.proofs.Common.{◌≡◌, ◌∙◌, sym, ap, subst, refl, ℕ, ◌+◌, List, [], length, Option, None}
use Rattle.std.specs.Prelude.{min}
use Rattle.rewriter.specs.Commands.{Command, Move, Requested, Ask, Misplaced, Unparsed, Follows, Response, Replied, TextRefusedAt}
use Rattle.rewriter.specs.Machine.{Call, Shows, State, Refused}
use Rattle.rewriter.specs.Points.{Point}
use Rattle.rewriter.specs.RewriterCalls.{state_of}
use Rattle.mlir_work_analyses.specs.Listeners.{any_analysis}
use Rattle.mlir_work_script.specs.Commands.{Obey}
use Rattle.mlir_work_run.specs.session.Machine.{AsksIn, RunsCommand}
use Rattle.mlir_work_run.specs.session.Notices.{IsWithin, Notice, Simple, Checked}
use Rattle.mlir_work_run.specs.session.declared.options.SessionOptions.{SessionOptions}
use Rattle.mlir_work_run.specs.session.Registry.{RegistryModel, registry_model}
use Rattle.mlir_work_run.specs.session.Sittings.{RunsPatternCommand, registered_pattern_of}
use Rattle.mlir_work_c.specs.declared.answer.Answer.{Answer}
use Rattle.mlir_work_c.specs.declared.session.Session.{Session}
use Rattle.mlir_work_c.specs.Answers.{replied_of}
use Rattle.mlir_work_c.specs.Edits.{IsReplied}
use Rattle.mlir_work_c.specs.Stepped.{Answered, is_opaque, most_counted, setting, state}

-- the response of a notice, and another one for a check
abbrev response_or : Response → Notice → Response
response_or other (Simple response) = response
response_or other (Checked reported) = other

-- a call of the machine isn't refused at a byte
pub asked_within : (s t : State) (requested : Requested) (call : Call) (response : Response) (shows : Shows) (bytes : ℕ) → requested ≡ Ask call → Follows s requested response shows t → IsWithin bytes (Simple response)
asked_within s t requested call response shows bytes e follows refusal offset is =
    absurd (subst (λ (r : Response). Follows s (Ask call) r shows t) (ap (response_or response) is) (subst (λ (q : Requested). Follows s q response shows t) e follows))

-- neither is a move
pub moved_within : (options : SessionOptions) (s t : State) (x : ℕ) (point : Point) (requested : Requested) (response : Response) (shows : Shows) (bytes : ℕ) → AsksIn options (Move x point) s.held requested → Follows s requested response shows t → IsWithin bytes (Simple response)
moved_within options s t x point (Ask call) response shows bytes asks follows = asked_within s t (Ask call) call response shows bytes refl follows
moved_within options s t x point (Misplaced why) response shows bytes asks follows =
    λ refusal offset is. absurd (let e : Replied (Refused why) ≡ TextRefusedAt refusal offset = sym follows.0 ∙ ap (response_or response) is in cc)
moved_within options s t x point (Unparsed why at) response shows bytes asks follows = absurd asks

-- an edit that has the effect of its command is answered as the line; `m` is the session after the edit
pub edited : (c : Command) (s m t : Session) (response : Response) (a : Answer) → ((registry : RegistryModel) → registered_pattern_of c registry ≡ None) → RunsCommand (setting s []) (state s) c response [] (state m) → IsWithin (setting s []).bytes (Simple response)
    → m.registry ≡ s.registry → m.limit ≡ s.limit → m.bytes ≡ s.bytes → is_opaque m ≡ is_opaque s → IsReplied response m a t → Answered (setting s []) s (Obey c) a t
edited c s m t response a names_none obeys within registry limit bytes mode h =
    let options = setting s [] in
    let here : RunsCommand options (state s) c response [] (state t) = subst (λ (b : _). RunsCommand options (state s) c response [] (state_of any_analysis b)) (sym h.bench) obeys in
    let shown : RunsCommand options (state s) c response t.shows.items (state t) = subst (λ (xs : List ℕ). RunsCommand options (state s) c response xs (state t)) (sym h.shows) here in
    record {
      notice = Simple response;
      replies = (response, refl, subst (λ (own : Option _). RunsPatternCommand options own (state s) c response t.shows.items (state t)) (sym (names_none (registry_model s.registry))) shown, ap registry_model (h.registry ∙ registry));
      bounded = within;
      reported = h.reported ∙ ap (λ (xs : List ℕ). replied_of response (length xs)) (sym h.shows);
      counted = h.counted ∙ ap (λ (n : ℕ). min (n + 0) most_counted) bytes;
      limit = h.limit ∙ limit;
      mode = ap (λ (b : _). b.transaction.ctx.opaque) h.bench ∙ mode;
    }
