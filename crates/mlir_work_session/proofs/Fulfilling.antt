-- Proofs about the answers to session commands.
use Rattle.std.proofs.Common.{◌≡◌, ◌∙◌, ap, sym, subst, refl, inl, inr, ℕ, List, [], Bool, Option, Some, None, false, true}
use Rattle.ir_event.specs.types.declared.refusal.Refusal.{Refusal}
use Rattle.ir_event.specs.types.declared.refusal.Refusal.TheVariants.{Memory, NoSuchKey, NoSuchKind, NoSuchOp}
use Rattle.ir_event.specs.Modules.{Module}
use Rattle.mlir_work_transforms.specs.rewriter.Commands.{AppliesRule, RuleName, Requested, Ask, Misplaced, Target, Unparsed, Follows, Response, Replied, TextRefusedAt}
use Rattle.mlir_work_transforms.specs.rewriter.Machine as call
use Rattle.mlir_work_transforms.specs.rewriter.Machine.{State, Call, Reply, Done, Refused, Shows, Nothing, Transformation, Tree, Goes}
use Rattle.mlir_work_transforms.specs.rewriter.Panels.{Shown}
use Rattle.mlir_work_script.specs.SessionCommands.{Attach, CanonAt, Fired, SessionCommand, PrintIds, Rewrite, ShowAll, ShowFrom, Trace, TraceConvert, Why, ReportOf}
use Rattle.mlir_work_session_base.specs.IdsText.{ids_text}
use Rattle.mlir_work_session_base.specs.OperationObjects.{all_objects_text, page_text}
use Rattle.mlir_work_session.specs.Machine.{AsksFrom, AsksWhy, AttachesKind, RunsSessionCommand, SessionCommandAsks, SessionSetting, limit_or, session_command_bytes, AsksAbout, session_command_shows, shows_about}
use Rattle.ir_event.specs.declared.subject.Subject.{Subject}
use Rattle.ir_event.specs.Subjects.{absent, is_there}
use Rattle.mlir_work_transforms.specs.registry.Replies.{IsBounded}
use Rattle.mlir_work_transforms.specs.ConvertText.{conversion_text}
use Rattle.mlir_work_transforms.specs.Converting.{command_aim, conversion}
use Rattle.mlir_work_transforms.specs.Rewriting.{rewriting_named}
use Rattle.mlir_work_transforms.specs.TraceText.{tracing}
use Rattle.mlir_work_transforms.specs.declared.trace_form.TraceForm.TheVariants.{Counts, EachRewrite, Off}
use Rattle.mlir_work_transforms.specs.Rule.{Rule}
use Rattle.mlir_work_transforms.specs.At.{canonicalizing_at}
use Rattle.mlir_work_transforms.specs.WhyText.{requested_rules, why_lines, why_text}
use Rattle.ir_event.specs.trees.Ids.{has_id}
use Rattle.mlir_work_session.proofs.Obeying.{some_goes}
use Rattle.mlir_work_session.proofs.Rewritten.{fulfils_fired, fulfils_rewrite, fulfils_trace, some_rules_rewrite}

module _ (setting : SessionSetting) where
  -- a session command that calls the machine
  pub fulfils_call : (s t : State) (o : SessionCommand) (c : Call) (reply : Reply) (shows : Shows) → SessionCommandAsks setting o s.held (Ask c) → Goes s c reply shows t → RunsSessionCommand setting s o (Replied reply) (session_command_bytes setting o s.held (Replied reply) shows) t
  fulfils_call s t o c reply shows asks goes = record { requested = Ask c; shows = shows; asks = asks; follows = goes; text = refl }

  -- ---- attaching

  -- `attach` of a kind without an analysis is refused
  pub fulfils_unsupplied : (kind : ℕ) (s : State) → setting.supply kind ≡ None → RunsSessionCommand setting s (Attach kind) (Replied (Refused NoSuchKind)) [] s
  fulfils_unsupplied kind s e =
      record { requested = Misplaced NoSuchKind; shows = Nothing; asks = subst (λ (o : Option Shown). AttachesKind o (Misplaced NoSuchKind)) (sym e) refl; follows = (refl, refl, refl); text = refl }

  asks_supplied : (kind : ℕ) (a : Shown) (m : Module) → setting.supply kind ≡ Some a → SessionCommandAsks setting (Attach kind) m (Ask (call.Attach a))
  asks_supplied kind a m e = subst (λ (o : Option Shown). AttachesKind o (Ask (call.Attach a))) (sym e) refl

  -- `attach` of a kind with an analysis calls the machine
  pub fulfils_supplied : (kind : ℕ) (a : Shown) (s t : State) (reply : Reply) (response : Response) → setting.supply kind ≡ Some a → response ≡ Replied reply → Goes s (call.Attach a) reply Nothing t → RunsSessionCommand setting s (Attach kind) response [] t
  fulfils_supplied kind a s t reply response e is goes = rw is (fulfils_call s t (Attach kind) (call.Attach a) reply Nothing (asks_supplied kind a s.held e) goes)

  -- ---- printing

  pub fulfils_printed : (s : State) (bytes : List ℕ) → bytes ≡ ids_text s.held.tree → RunsSessionCommand setting s PrintIds (Replied Done) bytes s
  fulfils_printed s bytes is = rw is (fulfils_call s s PrintIds call.Print Done (Tree s.held.tree) refl (record { answer = inl refl; panel = refl }))

  pub fulfils_unprinted : (s : State) → RunsSessionCommand setting s PrintIds (Replied (Refused Memory)) [] s
  fulfils_unprinted s = fulfils_call s s PrintIds call.Print (Refused Memory) Nothing refl (record { answer = inr (refl, refl); panel = refl })

  -- ---- operations as objects

  pub fulfils_shown : (s : State) (bytes : List ℕ) → bytes ≡ all_objects_text s.held.tree → RunsSessionCommand setting s ShowAll (Replied Done) bytes s
  fulfils_shown s bytes is = rw is (fulfils_call s s ShowAll call.Print Done (Tree s.held.tree) refl (record { answer = inl refl; panel = refl }))

  pub fulfils_unshown : (s : State) → RunsSessionCommand setting s ShowAll (Replied (Refused Memory)) [] s
  fulfils_unshown s = fulfils_call s s ShowAll call.Print (Refused Memory) Nothing refl (record { answer = inr (refl, refl); panel = refl })

  -- `show` of a missing operation is refused
  pub fulfils_missing : (x count : ℕ) (s : State) → has_id x s.held.tree ≡ false → RunsSessionCommand setting s (ShowFrom x count) (Replied (Refused NoSuchOp)) [] s
  fulfils_missing x count s gone =
      record { requested = Misplaced NoSuchOp; shows = Nothing; asks = subst (λ (b : Bool). AsksFrom b (Misplaced NoSuchOp)) (sym gone) refl; follows = (refl, refl, refl); text = refl }

  asks_from : (x count : ℕ) (m : Module) → has_id x m.tree ≡ true → SessionCommandAsks setting (ShowFrom x count) m (Ask call.Print)
  asks_from x count m there = subst (λ (b : Bool). AsksFrom b (Ask call.Print)) (sym there) refl

  pub fulfils_page : (x count : ℕ) (s : State) (bytes : List ℕ) → has_id x s.held.tree ≡ true → bytes ≡ page_text x count s.held.tree → RunsSessionCommand setting s (ShowFrom x count) (Replied Done) bytes s
  fulfils_page x count s bytes there is =
      rw is (fulfils_call s s (ShowFrom x count) call.Print Done (Tree s.held.tree) (asks_from x count s.held there) (record { answer = inl refl; panel = refl }))

  pub fulfils_no_page : (x count : ℕ) (s : State) → has_id x s.held.tree ≡ true → RunsSessionCommand setting s (ShowFrom x count) (Replied (Refused Memory)) [] s
  fulfils_no_page x count s there = fulfils_call s s (ShowFrom x count) call.Print (Refused Memory) Nothing (asks_from x count s.held there) (record { answer = inr (refl, refl); panel = refl })

  -- ---- rows about an operation or a value

  -- a report about a missing operation or value is refused
  pub fulfils_no_subject : (kind : ℕ) (subject : Subject) (s : State) → is_there subject s.held.tree ≡ false → RunsSessionCommand setting s (ReportOf kind subject) (Replied (Refused (absent subject))) [] s
  fulfils_no_subject kind subject s e =
      record { requested = Misplaced (absent subject); shows = Nothing; asks = subst (λ (there : Bool). AsksAbout there kind subject (Misplaced (absent subject))) (sym e) refl; follows = (refl, refl, refl); text = refl }

  asks_about : (kind : ℕ) (subject : Subject) (m : Module) → is_there subject m.tree ≡ true → SessionCommandAsks setting (ReportOf kind subject) m (Ask (call.Report kind))
  asks_about kind subject m e = subst (λ (there : Bool). AsksAbout there kind subject (Ask (call.Report kind))) (sym e) refl

  -- a report about an existing operation or value
  pub fulfils_about : (kind : ℕ) (subject : Subject) (s : State) (reply : Reply) (shows : Shows) → is_there subject s.held.tree ≡ true → Goes s (call.Report kind) reply shows s
      → RunsSessionCommand setting s (ReportOf kind subject) (Replied reply) (session_command_shows (shows_about subject shows)) s
  fulfils_about kind subject s reply shows there goes = fulfils_call s s (ReportOf kind subject) (call.Report kind) reply shows (asks_about kind subject s.held there) goes

  -- ---- converting

  -- a traced conversion; a refused conversion has a trace too
  pub fulfils_converted : (target : Target) (s t : State) (reply : Reply) (response : Response) (bytes : List ℕ) → response ≡ Replied reply → Goes s (call.Change (conversion target)) reply Nothing t
      → bytes ≡ conversion_text (command_aim target) s.held reply → RunsSessionCommand setting s (TraceConvert target) response bytes t
  fulfils_converted target s t reply response bytes is goes reported = rw is (rw reported (fulfils_call s t (TraceConvert target) (call.Change (conversion target)) reply Nothing refl goes))

  -- ---- canonicalizing one operation

  pub fulfils_at : (x : ℕ) (limit : Option ℕ) (n : ℕ) (s t : State) (reply : Reply) (response : Response) → n ≡ limit_or setting.session_options.limit limit → response ≡ Replied reply → Goes s (call.Change (canonicalizing_at n x)) reply Nothing t → RunsSessionCommand setting s (CanonAt x limit) response [] t
  fulfils_at x limit n s t reply response same is goes =
      rw is (fulfils_call s t (CanonAt x limit) (call.Change (canonicalizing_at n x)) reply Nothing (ap (λ k. Ask (call.Change (canonicalizing_at k x))) same) goes)

  -- ---- answers to `why`

  -- `why` with a name that isn't a rule's is refused
  pub fulfils_unasked : (x : ℕ) (name : Option RuleName) (s : State) → requested_rules name x s.held ≡ None → RunsSessionCommand setting s (Why x name) (Replied (Refused NoSuchKey)) [] s
  fulfils_unasked x name s e =
      record { requested = Misplaced NoSuchKey; shows = Nothing; asks = subst (λ (o : Option (List Rule)). AsksWhy o (has_id x s.held.tree) (Misplaced NoSuchKey)) (sym e) refl; follows = (refl, refl, refl); text = refl }

  -- `why` of a missing operation is refused
  pub fulfils_absent : (x : ℕ) (name : Option RuleName) (rs : List Rule) (s : State) → requested_rules name x s.held ≡ Some rs → has_id x s.held.tree ≡ false → RunsSessionCommand setting s (Why x name) (Replied (Refused NoSuchOp)) [] s
  fulfils_absent x name rs s e gone =
      record { requested = Misplaced NoSuchOp; shows = Nothing; asks = subst (λ (o : Option (List Rule)). AsksWhy o (has_id x s.held.tree) (Misplaced NoSuchOp)) (sym e) (subst (λ (b : Bool). AsksWhy (Some rs) b (Misplaced NoSuchOp)) (sym gone) refl); follows = (refl, refl, refl); text = refl }

  asks_why : (x : ℕ) (name : Option RuleName) (rs : List Rule) (m : Module) → requested_rules name x m ≡ Some rs → has_id x m.tree ≡ true → SessionCommandAsks setting (Why x name) m (Ask call.Print)
  asks_why x name rs m e there = subst (λ (o : Option (List Rule)). AsksWhy o (has_id x m.tree) (Ask call.Print)) (sym e) (subst (λ (b : Bool). AsksWhy (Some rs) b (Ask call.Print)) (sym there) refl)

  pub fulfils_why : (x : ℕ) (name : Option RuleName) (rs : List Rule) (s : State) (bytes : List ℕ) → requested_rules name x s.held ≡ Some rs → has_id x s.held.tree ≡ true → bytes ≡ why_lines rs x s.held → RunsSessionCommand setting s (Why x name) (Replied Done) bytes s
  fulfils_why x name rs s bytes e there is =
      rw (is ∙ ap (λ o. why_text o x s.held) (sym e)) (fulfils_call s s (Why x name) call.Print Done (Tree s.held.tree) (asks_why x name rs s.held e there) (record { answer = inl refl; panel = refl }))

  -- `why`, refused since memory ran out
  pub fulfils_unwhy : (x : ℕ) (name : Option RuleName) (rs : List Rule) (s : State) → requested_rules name x s.held ≡ Some rs → has_id x s.held.tree ≡ true → RunsSessionCommand setting s (Why x name) (Replied (Refused Memory)) [] s
  fulfils_unwhy x name rs s e there = fulfils_call s s (Why x name) call.Print (Refused Memory) Nothing (asks_why x name rs s.held e there) (record { answer = inr (refl, refl); panel = refl })

  -- ---- each session command has an answer, and none is refused at a byte

  abbrev pub SomeFulfilled : State → SessionCommand → Type 0
  SomeFulfilled s o = (response : Response) × (bytes : List ℕ) × (t : State) × RunsSessionCommand setting s o response bytes t

  by_call : (s : State) (o : SessionCommand) (c : Call) → SessionCommandAsks setting o s.held (Ask c) → SomeFulfilled s o
  by_call s o c asks = let g = some_goes setting.session_options s c in (Replied g.0, session_command_bytes setting o s.held (Replied g.0) g.1, g.2, fulfils_call s g.2 o c g.0 g.1 asks g.3)

  by_kind : (s : State) (kind : ℕ) (a : Option Shown) → setting.supply kind ≡ a → SomeFulfilled s (Attach kind)
  by_kind s kind None e = (Replied (Refused NoSuchKind), [], s, fulfils_unsupplied kind s e)
  by_kind s kind (Some a) e = by_call s (Attach kind) (call.Attach a) (asks_supplied kind a s.held e)

  by_rewrite : (s : State) (names : List RuleName) (proved : Bool) (limit : Option ℕ) → SomeFulfilled s (Rewrite names proved limit)
  by_rewrite s names proved limit = let g = some_rules_rewrite setting.session_options Off (Some names) limit s in (g.0, g.1, g.2, fulfils_rewrite setting proved limit s g.2 g.0 g.1 names g.3)

  by_trace : (s : State) (names : Option (List RuleName)) (proved : Bool) (limit : Option ℕ) → SomeFulfilled s (Trace names proved limit)
  by_trace s names proved limit = let g = some_rules_rewrite setting.session_options EachRewrite names limit s in (g.0, g.1, g.2, fulfils_trace setting proved limit s g.2 g.0 g.1 names g.3)

  by_fired : (s : State) (names : Option (List RuleName)) (proved : Bool) (limit : Option ℕ) → SomeFulfilled s (Fired names proved limit)
  by_fired s names proved limit = let g = some_rules_rewrite setting.session_options Counts names limit s in (g.0, g.1, g.2, fulfils_fired setting proved limit s g.2 g.0 g.1 names g.3)

  by_why : (s : State) (x : ℕ) (name : Option RuleName) (o : Option (List Rule)) (b : Bool) → requested_rules name x s.held ≡ o → has_id x s.held.tree ≡ b → SomeFulfilled s (Why x name)
  by_why s x name None b e there = (Replied (Refused NoSuchKey), [], s, fulfils_unasked x name s e)
  by_why s x name (Some rs) false e there = (Replied (Refused NoSuchOp), [], s, fulfils_absent x name rs s e there)
  by_why s x name (Some rs) true e there = (Replied Done, why_lines rs x s.held, s, fulfils_why x name rs s (why_lines rs x s.held) e there refl)

  by_subject : (s : State) (kind : ℕ) (subject : Subject) (there : Bool) → is_there subject s.held.tree ≡ there → SomeFulfilled s (ReportOf kind subject)
  by_subject s kind subject false e = (Replied (Refused (absent subject)), [], s, fulfils_no_subject kind subject s e)
  by_subject s kind subject true e = by_call s (ReportOf kind subject) (call.Report kind) (asks_about kind subject s.held e)

  by_page : (s : State) (x count : ℕ) (b : Bool) → has_id x s.held.tree ≡ b → SomeFulfilled s (ShowFrom x count)
  by_page s x count false e = (Replied (Refused NoSuchOp), [], s, fulfils_missing x count s e)
  by_page s x count true e = by_call s (ShowFrom x count) call.Print (asks_from x count s.held e)

  pub some_fulfilled : (s : State) (o : SessionCommand) → SomeFulfilled s o
  some_fulfilled s (Attach kind) = by_kind s kind (setting.supply kind) refl
  some_fulfilled s PrintIds = by_call s PrintIds call.Print refl
  some_fulfilled s (ReportOf kind subject) = by_subject s kind subject (is_there subject s.held.tree) refl
  some_fulfilled s (Rewrite names proved limit) = by_rewrite s names proved limit
  some_fulfilled s (Trace names proved limit) = by_trace s names proved limit
  some_fulfilled s (Fired names proved limit) = by_fired s names proved limit
  some_fulfilled s (TraceConvert target) = by_call s (TraceConvert target) (call.Change (conversion target)) refl
  some_fulfilled s (CanonAt x limit) = by_call s (CanonAt x limit) (call.Change (canonicalizing_at (limit_or setting.session_options.limit limit) x)) refl
  some_fulfilled s (Why x name) = by_why s x name (requested_rules name x s.held) (has_id x s.held.tree) refl refl
  some_fulfilled s ShowAll = by_call s ShowAll call.Print refl
  some_fulfilled s (ShowFrom x count) = by_page s x count (has_id x s.held.tree) refl

-- a session command is never refused at a byte of a text
never_unparsed : (setting : SessionSetting) (o : SessionCommand) (m : Module) (refusal : Refusal) (offset : Option ℕ) → SessionCommandAsks setting o m (Unparsed refusal offset) → ⊥
never_unparsed setting (Attach kind) m refusal offset asks = go (setting.supply kind) asks
  where
    go : (a : Option Shown) → AttachesKind a (Unparsed refusal offset) → ⊥
    go None e = absurd cc
    go (Some a) e = absurd cc
never_unparsed setting (Rewrite names proved limit) m refusal offset asks = go (rewriting_named names (limit_or setting.session_options.limit limit)) asks
  where
    go : (o : Option Transformation) → AppliesRule o (Unparsed refusal offset) → ⊥
    go None e = absurd cc
    go (Some f) e = absurd cc
never_unparsed setting (Trace names proved limit) m refusal offset asks = go (tracing names (limit_or setting.session_options.limit limit)) asks
  where
    go : (o : Option Transformation) → AppliesRule o (Unparsed refusal offset) → ⊥
    go None e = absurd cc
    go (Some f) e = absurd cc
never_unparsed setting (Fired names proved limit) m refusal offset asks = go (tracing names (limit_or setting.session_options.limit limit)) asks
  where
    go : (o : Option Transformation) → AppliesRule o (Unparsed refusal offset) → ⊥
    go None e = absurd cc
    go (Some f) e = absurd cc
never_unparsed setting (TraceConvert target) m refusal offset asks = absurd (let e : Unparsed refusal offset ≡ Ask (call.Change (conversion target)) = asks in cc)
never_unparsed setting (CanonAt x limit) m refusal offset asks = absurd (let e : Unparsed refusal offset ≡ Ask (call.Change (canonicalizing_at (limit_or setting.session_options.limit limit) x)) = asks in cc)
never_unparsed setting (Why x name) m refusal offset asks = go (requested_rules name x m) (has_id x m.tree) asks
  where
    go : (o : Option (List Rule)) (b : Bool) → AsksWhy o b (Unparsed refusal offset) → ⊥
    go None b e = absurd cc
    go (Some rs) false e = absurd cc
    go (Some rs) true e = absurd cc
never_unparsed setting (ReportOf kind subject) m refusal offset asks = go (is_there subject m.tree) asks
  where
    go : (there : Bool) → AsksAbout there kind subject (Unparsed refusal offset) → ⊥
    go false e = absurd cc
    go true e = absurd cc
never_unparsed setting PrintIds m refusal offset asks = absurd (let e : Unparsed refusal offset ≡ Ask call.Print = asks in cc)
never_unparsed setting ShowAll m refusal offset asks = absurd (let e : Unparsed refusal offset ≡ Ask call.Print = asks in cc)
never_unparsed setting (ShowFrom x count) m refusal offset asks = go (has_id x m.tree) asks
  where
    go : (b : Bool) → AsksFrom b (Unparsed refusal offset) → ⊥
    go false e = absurd cc
    go true e = absurd cc

not_at : (setting : SessionSetting) (s t : State) (o : SessionCommand) (requested : Requested) (shows : Shows) (refusal : Refusal) (offset : ℕ) → SessionCommandAsks setting o s.held requested → Follows s requested (TextRefusedAt refusal offset) shows t → ⊥
not_at setting s t o (Ask c) shows refusal offset asks follows = follows
not_at setting s t o (Misplaced why) shows refusal offset asks follows = absurd (let e : TextRefusedAt refusal offset ≡ Replied (Refused why) = follows.0 in cc)
not_at setting s t o (Unparsed why place) shows refusal offset asks follows = never_unparsed setting o s.held why place asks

pub fulfils_bounded : (bytes : ℕ) (setting : SessionSetting) (s : State) (o : SessionCommand) (response : Response) (shown : List ℕ) (t : State) → RunsSessionCommand setting s o response shown t → IsBounded bytes response
fulfils_bounded bytes setting s o response shown t h = λ refusal offset is.
    absurd (not_at setting s t o h.requested h.shows refusal offset h.asks (subst (λ (r : Response). Follows s h.requested r h.shows t) is h.follows))
