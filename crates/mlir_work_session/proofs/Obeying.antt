-- Proofs about the answers to commands.
use Rattle.std.proofs.Common.{◌≡◌, ◌∙◌, sym, ap, subst, refl, ◌⊎◌, inl, inr, ℕ, List, [], ◌∷◌, Option, Some, None, Result, Ok, Err, IsTrue}
use Rattle.std.specs.Prelude.{position, remove, is_some, option_map, false, true}
use Rattle.std.specs.List.{find}
use Rattle.ir_event.specs.types.declared.refusal.Refusal.{Refusal}
use Rattle.ir_event.specs.types.declared.refusal.Refusal.TheVariants.{Memory, NoSuchKey, NoSuchKind, Stale}
use Rattle.ir_event.specs.trees.declared.place.Place.{Place}
use Rattle.ir_event.specs.trees.Meaning.{Operation}
use Rattle.ir_event.specs.Listener.{Listener}
use Rattle.ir_event.specs.Panels.{is_kind as has_this_kind}
use Rattle.ir_text.specs.Printing.{text_of}
use Rattle.ir_text.specs.Public.{SpellsAttr}
use Rattle.mlir_work_transforms.specs.rewriter.Texts.{SpellsNextTo}
use Rattle.mlir_work_transforms.specs.rewriter.Held.{module_held}
use Rattle.mlir_work_transforms.specs.rewriter.RewriterCalls.{Benched, state_of}
use Rattle.mlir_work_transforms.specs.rewriter.Commands as command
use Rattle.mlir_work_transforms.specs.rewriter.Commands.{AppliesRule, RuleName, Command, Requested, Ask, Misplaced, Unparsed, Follows, IsAttrRefusal, IsOpRefusal, Response, Replied, TextRefusedAt, TextRefused}
use Rattle.mlir_work_transforms.specs.rewriter.Edits as edit
use Rattle.mlir_work_transforms.specs.rewriter.Machine as call
use Rattle.mlir_work_transforms.specs.rewriter.Machine.{State, OpenMark, Call, Do, Reply, Done, Refused, Shows, Nothing, Rows, Tree, Answer, Goes, due, due_rollback, grows_under, PanelGoes}
use Rattle.mlir_work_transforms.specs.rewriter.Panels.{Shown, is_kind, has_kind, shown}
use Rattle.mlir_work_transforms.specs.rewriter.Points.{Point, point_place}
use Rattle.mlir_work_session.specs.Texts.{NotRead}
use Rattle.mlir_work_transforms.specs.greedy.Changes.{canonicalizing}
use Rattle.mlir_work_transforms.specs.Applying.{applying, rule_named}
use Rattle.mlir_work_transforms.specs.Converting.{conversion}
use Rattle.mlir_work_transforms.specs.Rule.{Rule}
use Rattle.mlir_work_transforms.specs.Sweep.{sweeping}
use Rattle.mlir_work_session.specs.declared.options.SessionOptions.{SessionOptions}
use Rattle.mlir_work_session.specs.Machine.{AsksIn, RunsCommand, limit_or, shows_text}
use Rattle.mlir_work_session_base.specs.RowText.{rows_text}
use Rattle.mlir_work_session.proofs.Panels.{all_stay, find_shown}

module _ (session_options : SessionOptions) where
  -- a command that calls the machine
  pub obeys_call : (s t : State) (c : Command) (call : Call) (reply : Reply) (shows : Shows) → AsksIn session_options c s.held (Ask call) → Goes s call reply shows t → RunsCommand session_options s c (Replied reply) (shows_text shows) t
  obeys_call s t c call reply shows asks goes = record { requested = Ask call; shows = shows; asks = asks; follows = goes; text = refl }

  -- a command that calls the machine and shows nothing
  pub obeys_plain : (s t : State) (c : Command) (call : Call) (reply : Reply) (response : Response) → response ≡ Replied reply → AsksIn session_options c s.held (Ask call) → Goes s call reply Nothing t → RunsCommand session_options s c response [] t
  obeys_plain s t c call reply response is asks goes = rw is (obeys_call s t c call reply Nothing asks goes)

  -- a command is refused if its insertion point is refused or its text can't be parsed
  pub obeys_misplaced : (x : ℕ) (point : Point) (s : State) (refusal : Refusal) → point_place (Some x) point s.held.tree ≡ Err refusal → RunsCommand session_options s (command.Move x point) (Replied (Refused refusal)) [] s
  obeys_misplaced x point s refusal e = record { requested = Misplaced refusal; shows = Nothing; asks = e; follows = (refl, refl, refl); text = refl }

  pub obeys_unparsed : (x : ℕ) (key text : List ℕ) (s t : State) (response : Response) → t ≡ s → NotRead session_options.bytes IsAttrRefusal (SpellsAttr session_options.opaque text) response → RunsCommand session_options s (command.SetAttr x key text) response [] t
  obeys_unparsed x key text s t response same (refusal, offset, why, is) =
      record { requested = Unparsed refusal offset; shows = Nothing; asks = why; follows = (is, refl, same); text = refl }

  pub obeys_unparsed_op : (point : Point) (text : List ℕ) (s t : State) (response : Response) → t ≡ s → NotRead session_options.bytes IsOpRefusal (SpellsNextTo session_options.opaque s.held text) response → RunsCommand session_options s (command.Insert point text) response [] t
  obeys_unparsed_op point text s t response same (refusal, offset, why, is) =
      record { requested = Unparsed refusal offset; shows = Nothing; asks = why; follows = (is, refl, same); text = refl }

  pub obeys_unplaced : (point : Point) (text : List ℕ) (s t : State) (o : Operation) (refusal : Refusal) → t ≡ s → SpellsNextTo session_options.opaque s.held text o → point_place None point s.held.tree ≡ Err refusal → RunsCommand session_options s (command.Insert point text) (Replied (Refused refusal)) [] t
  obeys_unplaced point text s t o refusal same rendered e =
      record { requested = Misplaced refusal; shows = Nothing; asks = (o, rendered, e); follows = (refl, refl, same); text = refl }

  -- `apply` is refused if the name isn't a rule's, and calls the machine if it is
  pub obeys_unruled : (name : RuleName) (x : ℕ) (s : State) → rule_named name ≡ None → RunsCommand session_options s (command.Apply name x) (Replied (Refused NoSuchKey)) [] s
  obeys_unruled name x s e =
      record { requested = Misplaced NoSuchKey; shows = Nothing; asks = subst (λ (o : Option Rule). AppliesRule (option_map (λ r. applying r x) o) (Misplaced NoSuchKey)) (sym e) refl; follows = (refl, refl, refl); text = refl }

  pub asks_ruled : (name : RuleName) (x : ℕ) (r : Rule) → rule_named name ≡ Some r → AppliesRule (option_map (λ r. applying r x) (rule_named name)) (Ask (call.Change (applying r x)))
  asks_ruled name x r e = subst (λ (o : Option Rule). AppliesRule (option_map (λ r. applying r x) o) (Ask (call.Change (applying r x)))) (sym e) refl

  -- dropping an attribute is refused if there is no memory for its key
  pub obeys_unnamed : (x : ℕ) (key : List ℕ) (s t : State) → t ≡ s → RunsCommand session_options s (command.DropAttr x key) (Replied (Refused Memory)) [] t
  obeys_unnamed x key s t same = obeys_call s t (command.DropAttr x key) (Do (edit.DropAttr x key)) (Refused Memory) Nothing refl (rw same (record { answer = inr (takes s.marks, refl); panel = all_stay s.panel }))
    where
      takes : (ks : List OpenMark) → IsTrue (grows_under ks (edit.DropAttr x key))
      takes [] = refl
      takes (k ∷ ks) = refl

  -- a call after the context has grown
  pub obeys_after : (s p t : State) (c : Command) (call : Call) (reply : Reply) (response : Response) → p ≡ s → response ≡ Replied reply → AsksIn session_options c s.held (Ask call) → Goes p call reply Nothing t → RunsCommand session_options s c response [] t
  obeys_after s p t c call reply response same is asks goes = obeys_plain s t c call reply response is asks (subst (λ (q : State). Goes q call reply Nothing t) same goes)

  -- ---- shown bytes

  pub obeys_printed : (s : State) → RunsCommand session_options s command.Print (Replied Done) (text_of s.held.tree) s
  obeys_printed s = obeys_call s s command.Print call.Print Done (Tree s.held.tree) refl (record { answer = inl refl; panel = refl })

  pub obeys_unprinted : (s : State) → RunsCommand session_options s command.Print (Replied (Refused Memory)) [] s
  obeys_unprinted s = obeys_call s s command.Print call.Print (Refused Memory) Nothing refl (record { answer = inr (refl, refl); panel = refl })

  pub obeys_unreported : (kind : ℕ) (s : State) → RunsCommand session_options s (command.Report kind) (Replied (Refused Memory)) [] s
  obeys_unreported kind s = obeys_call s s (command.Report kind) (call.Report kind) (Refused Memory) Nothing refl (record { answer = inr (refl, refl); panel = refl })

  pub obeys_unknown : (kind : ℕ) (s : State) → find (is_kind kind) s.panel ≡ None → RunsCommand session_options s (command.Report kind) (Replied (Refused NoSuchKind)) [] s
  obeys_unknown kind s e = obeys_call s s (command.Report kind) (call.Report kind) (Refused NoSuchKind) Nothing refl (record { answer = inl (rw e refl); panel = refl })

  pub obeys_stale : (kind : ℕ) (s : State) (k : Shown) → find (is_kind kind) s.panel ≡ Some k → k.stale ≡ true → RunsCommand session_options s (command.Report kind) (Replied (Refused Stale)) [] s
  obeys_stale kind s k e is = obeys_call s s (command.Report kind) (call.Report kind) (Refused Stale) Nothing refl (record { answer = inl (rw (e, is) refl); panel = refl })

  pub obeys_reported : (kind : ℕ) (s : State) (k : Shown) → find (is_kind kind) s.panel ≡ Some k → k.stale ≡ false → RunsCommand session_options s (command.Report kind) (Replied Done) (rows_text (k.analysis s.held.tree)) s
  obeys_reported kind s k e is = obeys_call s s (command.Report kind) (call.Report kind) Done (Rows (k.analysis s.held.tree)) refl (record { answer = inl (rw (e, is) refl); panel = refl })

  -- ---- each command has an answer

  abbrev pub Some_goes : State → Call → Type 0
  Some_goes s c = (reply : Reply) × (shows : Shows) × (t : State) × Goes s c reply shows t

  abbrev goes_as : (s : State) (a : Answer) → List Shown → State
  goes_as s a ks = record { held = a.held; marks = a.marks; panel = ks }

  rolls_back : (s : State) (ks : List OpenMark) → s.marks ≡ ks → PanelGoes call.Rollback (due_rollback ks s).reply s.panel s.panel
  rolls_back s [] e = refl
  rolls_back s (k ∷ ks) e = all_stay s.panel

  some_detached : (kind : ℕ) (s : State) (p : Option ℕ) → position (is_kind kind) s.panel ≡ p → Some_goes s (call.Detach kind)
  some_detached kind s None e =
      let absent : has_kind kind s.panel ≡ false = ap is_some e in
      (Refused NoSuchKind, Nothing, s, record { answer = inl (rw absent refl); panel = refl })
  some_detached kind s (Some place) e =
      let there : has_kind kind s.panel ≡ true = ap is_some e in
      (Done, Nothing, record s { panel = remove s.panel place }, record { answer = inl (rw there refl); panel = record { place = place; is = e; rest = refl } })

  pub some_goes : (s : State) (c : Call) → Some_goes s c
  some_goes s (Do e) = let a = due s (Do e) in (a.reply, a.shows, goes_as s a s.panel, record { answer = inl refl; panel = all_stay s.panel })
  some_goes s (call.Change f) = (Refused Memory, Nothing, s, record { answer = inr (refl, inl refl); panel = all_stay s.panel })
  some_goes s call.Mark = (Refused Memory, Nothing, s, record { answer = inr (refl, refl); panel = refl })
  some_goes s call.Step = (Refused Memory, Nothing, s, record { answer = inr (refl, refl); panel = refl })
  some_goes s call.Commit = let a = due s call.Commit in (a.reply, a.shows, goes_as s a s.panel, record { answer = inl refl; panel = refl })
  some_goes s call.Rollback = let a = due s call.Rollback in (a.reply, a.shows, goes_as s a s.panel, record { answer = inl refl; panel = rolls_back s s.marks refl })
  some_goes s (call.Attach k) = (Refused Memory, Nothing, s, record { answer = inr (refl, refl); panel = refl })
  some_goes s (call.Detach kind) = some_detached kind s (position (is_kind kind) s.panel) refl
  some_goes s (call.Resync kind) = (Refused Memory, Nothing, s, record { answer = inr (refl, refl); panel = inl refl })
  some_goes s (call.Report kind) = (Refused Memory, Nothing, s, record { answer = inr (refl, refl); panel = refl })
  some_goes s call.Print = (Refused Memory, Nothing, s, record { answer = inr (refl, refl); panel = refl })

  abbrev pub SomeAnswer : State → Command → Type 0
  SomeAnswer s c = (response : Response) × (bytes : List ℕ) × (t : State) × RunsCommand session_options s c response bytes t × ((why : Refusal) (offset : ℕ) → response ≡ TextRefusedAt why offset → ⊥)

  by_call : (s : State) (c : Command) (does : Call) → AsksIn session_options c s.held (Ask does) → SomeAnswer s c
  by_call s c does asks = let g = some_goes s does in (Replied g.0, shows_text g.1, g.2, obeys_call s g.2 c does g.0 g.1 asks g.3, λ why offset e. cc)

  by_place : (s : State) (x : ℕ) (point : Point) (r : Result Place Refusal) → point_place (Some x) point s.held.tree ≡ r → SomeAnswer s (command.Move x point)
  by_place s x point (Ok place) e = by_call s (command.Move x point) (Do (edit.Move x place)) (place, e, refl)
  by_place s x point (Err refusal) e = (Replied (Refused refusal), [], s, record { requested = Misplaced refusal; shows = Nothing; asks = e; follows = (refl, refl, refl); text = refl }, λ why offset e. cc)

  no_memory : {X : Type 0} (Rendered : X → Type 0) → TextRefused session_options.bytes IsAttrRefusal Rendered Memory None
  no_memory Rendered = (refl, inr (inr refl))

  no_memory_op : {X : Type 0} (Rendered : X → Type 0) → TextRefused session_options.bytes IsOpRefusal Rendered Memory None
  no_memory_op Rendered = (inr refl, inr (inr refl))

  -- a command whose text is refused at a byte may also be refused since memory ran out
  memory_too : (s t : State) (c : Command) (requested : Requested) (shows : Shows) (why : Refusal) (offset : ℕ) → AsksIn session_options c s.held requested → Follows s requested (TextRefusedAt why offset) shows t
      → AsksIn session_options c s.held (Unparsed Memory None) × (shows ≡ Nothing) × (t ≡ s)
  memory_too s t c (Ask does) shows why offset asks follows = absurd follows
  memory_too s t c (Misplaced refusal) shows why offset asks follows = absurd (let e : TextRefusedAt why offset ≡ Replied (Refused refusal) = follows.0 in cc)
  memory_too s t (command.Insert point text) (Unparsed refusal at_byte) shows why offset asks follows = (no_memory_op (SpellsNextTo session_options.opaque s.held text), follows.1, follows.2)
  memory_too s t (command.SetAttr x key text) (Unparsed refusal at_byte) shows why offset asks follows = (no_memory (SpellsAttr session_options.opaque text), follows.1, follows.2)
  memory_too s t (command.Move x point) (Unparsed refusal at_byte) shows why offset asks follows = absurd asks
  memory_too s t (command.Erase x) (Unparsed refusal at_byte) shows why offset asks follows = absurd (let e : Unparsed refusal at_byte ≡ Ask (Do (edit.Erase x)) = asks in cc)
  memory_too s t (command.SetOperand x k v) (Unparsed refusal at_byte) shows why offset asks follows = absurd (let e : Unparsed refusal at_byte ≡ Ask (Do (edit.SetOperand x k v)) = asks in cc)
  memory_too s t (command.Replace old new) (Unparsed refusal at_byte) shows why offset asks follows = absurd (let e : Unparsed refusal at_byte ≡ Ask (Do (edit.Replace old new)) = asks in cc)
  memory_too s t (command.DropAttr x key) (Unparsed refusal at_byte) shows why offset asks follows = absurd (let e : Unparsed refusal at_byte ≡ Ask (Do (edit.DropAttr x key)) = asks in cc)
  memory_too s t (command.Canon limit) (Unparsed refusal at_byte) shows why offset asks follows = absurd (let e : Unparsed refusal at_byte ≡ Ask (call.Change (canonicalizing (limit_or session_options.limit limit))) = asks in cc)
  memory_too s t (command.Convert target) (Unparsed refusal at_byte) shows why offset asks follows = absurd (let e : Unparsed refusal at_byte ≡ Ask (call.Change (conversion target)) = asks in cc)
  memory_too s t (command.Apply name x) (Unparsed refusal at_byte) shows why offset asks follows = absurd (no_unparsed (option_map (λ r. applying r x) (rule_named name)) asks)
    where
      no_unparsed : (o : Option call.Transformation) → AppliesRule o (Unparsed refusal at_byte) → ⊥
      no_unparsed None e = absurd cc
      no_unparsed (Some f) e = absurd cc
  memory_too s t command.Sweep (Unparsed refusal at_byte) shows why offset asks follows = absurd (let e : Unparsed refusal at_byte ≡ Ask (call.Change sweeping) = asks in cc)
  memory_too s t command.Begin (Unparsed refusal at_byte) shows why offset asks follows = absurd (let e : Unparsed refusal at_byte ≡ Ask call.Mark = asks in cc)
  memory_too s t command.Commit (Unparsed refusal at_byte) shows why offset asks follows = absurd (let e : Unparsed refusal at_byte ≡ Ask call.Commit = asks in cc)
  memory_too s t command.Rollback (Unparsed refusal at_byte) shows why offset asks follows = absurd (let e : Unparsed refusal at_byte ≡ Ask call.Rollback = asks in cc)
  memory_too s t (command.Detach kind) (Unparsed refusal at_byte) shows why offset asks follows = absurd (let e : Unparsed refusal at_byte ≡ Ask (call.Detach kind) = asks in cc)
  memory_too s t (command.Resync kind) (Unparsed refusal at_byte) shows why offset asks follows = absurd (let e : Unparsed refusal at_byte ≡ Ask (call.Resync kind) = asks in cc)
  memory_too s t (command.Report kind) (Unparsed refusal at_byte) shows why offset asks follows = absurd (let e : Unparsed refusal at_byte ≡ Ask (call.Report kind) = asks in cc)
  memory_too s t command.Print (Unparsed refusal at_byte) shows why offset asks follows = absurd (let e : Unparsed refusal at_byte ≡ Ask call.Print = asks in cc)

  pub obeys_within : (s t : State) (c : Command) (response within : Response) (bytes : List ℕ) → (within ≡ response) ⊎ ((refusal : Refusal) × (offset : ℕ) × (response ≡ TextRefusedAt refusal offset) × (within ≡ Replied (Refused Memory))) → RunsCommand session_options s c response bytes t → RunsCommand session_options s c within bytes t
  obeys_within s t c response within bytes (inl same) h = subst (λ (r : Response). RunsCommand session_options s c r bytes t) (sym same) h
  obeys_within s t c response within bytes (inr (why, offset, is, then)) h =
      let m = memory_too s t c h.requested h.shows why offset h.asks (subst (λ (r : Response). Follows s h.requested r h.shows t) is h.follows) in
      record { requested = Unparsed Memory None; shows = Nothing; asks = m.0; follows = (then, refl, m.2); text = h.text ∙ ap shows_text m.1 }

  by_name : (s : State) (name : RuleName) (x : ℕ) (o : Option Rule) → rule_named name ≡ o → SomeAnswer s (command.Apply name x)
  by_name s name x None e = (Replied (Refused NoSuchKey), [], s, obeys_unruled name x s e, λ why offset e. cc)
  by_name s name x (Some r) e = by_call s (command.Apply name x) (call.Change (applying r x)) (asks_ruled name x r e)

  pub some_answer : (s : State) (c : Command) → SomeAnswer s c
  some_answer s (command.Erase x) = by_call s (command.Erase x) (Do (edit.Erase x)) refl
  some_answer s (command.Move x point) = by_place s x point (point_place (Some x) point s.held.tree) refl
  some_answer s (command.Insert point text) = (Replied (Refused Memory), [], s, record { requested = Unparsed Memory None; shows = Nothing; asks = no_memory_op (SpellsNextTo session_options.opaque s.held text); follows = (refl, refl, refl); text = refl }, λ why offset e. cc)
  some_answer s (command.SetOperand x k v) = by_call s (command.SetOperand x k v) (Do (edit.SetOperand x k v)) refl
  some_answer s (command.Replace old new) = by_call s (command.Replace old new) (Do (edit.Replace old new)) refl
  some_answer s (command.SetAttr x key text) = (Replied (Refused Memory), [], s, record { requested = Unparsed Memory None; shows = Nothing; asks = no_memory (SpellsAttr session_options.opaque text); follows = (refl, refl, refl); text = refl }, λ why offset e. cc)
  some_answer s (command.DropAttr x key) = by_call s (command.DropAttr x key) (Do (edit.DropAttr x key)) refl
  some_answer s (command.Canon limit) = by_call s (command.Canon limit) (call.Change (canonicalizing (limit_or session_options.limit limit))) refl
  some_answer s (command.Convert target) = by_call s (command.Convert target) (call.Change (conversion target)) refl
  some_answer s (command.Apply name x) = by_name s name x (rule_named name) refl
  some_answer s command.Sweep = by_call s command.Sweep (call.Change sweeping) refl
  some_answer s command.Begin = by_call s command.Begin call.Mark refl
  some_answer s command.Commit = by_call s command.Commit call.Commit refl
  some_answer s command.Rollback = by_call s command.Rollback call.Rollback refl
  some_answer s (command.Detach kind) = by_call s (command.Detach kind) (call.Detach kind) refl
  some_answer s (command.Resync kind) = by_call s (command.Resync kind) (call.Resync kind) refl
  some_answer s (command.Report kind) = by_call s (command.Report kind) (call.Report kind) refl
  some_answer s command.Print = by_call s command.Print call.Print refl

  -- ---- listeners

  module _ {B : Type 0} (meaning : B → Listener) where
    -- a report is refused if no listener has its kind
    pub reports_none : (kind : ℕ) (a : Benched B) → None ≡ find (has_this_kind meaning kind) a.listeners → RunsCommand session_options (state_of meaning a) (command.Report kind) (Replied (Refused NoSuchKind)) [] (state_of meaning a)
    reports_none kind a e = obeys_unknown kind (state_of meaning a) (find_shown meaning kind a.listeners ∙ ap (option_map (λ b. shown (meaning b))) (sym e))

    pub reports_stale : (kind : ℕ) (a : Benched B) (b : B) → Some b ≡ find (has_this_kind meaning kind) a.listeners → (meaning b).stale ≡ true → RunsCommand session_options (state_of meaning a) (command.Report kind) (Replied (Refused Stale)) [] (state_of meaning a)
    reports_stale kind a b e s = obeys_stale kind (state_of meaning a) (shown (meaning b)) (find_shown meaning kind a.listeners ∙ ap (option_map (λ b. shown (meaning b))) (sym e)) s

    pub reports_rows : (kind : ℕ) (a : Benched B) (b : B) (bytes : List ℕ) → Some b ≡ find (has_this_kind meaning kind) a.listeners → (meaning b).stale ≡ false → bytes ≡ rows_text ((meaning b).analysis (module_held a.transaction).tree) → RunsCommand session_options (state_of meaning a) (command.Report kind) (Replied Done) bytes (state_of meaning a)
    reports_rows kind a b bytes e s is = rw is (obeys_reported kind (state_of meaning a) (shown (meaning b)) (find_shown meaning kind a.listeners ∙ ap (option_map (λ b. shown (meaning b))) (sym e)) s)

  pub prints : (s : State) (bytes : List ℕ) → bytes ≡ text_of s.held.tree → RunsCommand session_options s command.Print (Replied Done) bytes s
  prints s bytes is = rw is (obeys_printed s)
