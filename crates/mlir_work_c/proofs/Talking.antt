-- Lines that are run one after another in a session are the lines of a live run, and so of a whole run.
use Rattle.std.proofs.Common.{◌≡◌, ◌∙◌, sym, ap, subst, refl, ℕ, ◌+◌, ◌≤◌, List, [], ◌∷◌, ◌++◌, length, length-append, append-nil, append_assoc, arith, Bool, true, false, true≢false, inl, inr, Option, Some, None}
use Rattle.std.specs.Prelude.{⊤}
use Rattle.std.proofs.Math.Nat.{min-le_left}
use Rattle.ir_event.specs.types.declared.refusal.Refusal.{Refusal}
use Rattle.ir_event.specs.Modules.{Module}
use Rattle.rewriter.specs.Panels.{Shown, all_shown}
use Rattle.rewriter.specs.Machine.{State}
use Rattle.mlir_work_analyses.specs.Listeners.{any_analysis, seven_supply}
use Rattle.mlir_work_script.specs.Commands.{Spoken, Nothing, Bad, Obey, Ordered, Registered, line_says}
use Rattle.mlir_work_script.specs.Expecting.{line_expects}
use Rattle.mlir_work_script_base.specs.Lines.{is_newline, line_of, after_line, onto_first}
use Rattle.mlir_work_run.specs.session.Limits.{most_input_bytes, most_script_bytes}
use Rattle.mlir_work_run.specs.session.Notices.{Notice}
use Rattle.mlir_work_run.specs.session.Output.{Attaches, Line, Replied, Sitting, is_right, opening, reply_text, session_setting, worse}
use Rattle.mlir_work_run.specs.session.Registry.{RegistryModel, registry_model}
use Rattle.mlir_work_run.specs.session.Parts.{module_text, script_text}
use Rattle.mlir_work_run.specs.session.Writes.{joined}
use Rattle.mlir_work_run.proofs.Wider.{line_wider}
use Rattle.mlir_work_run.specs.Live.{Live, Lives, divider_bytes, whole_lines}
use Rattle.mlir_work_run.specs.Whole.{Setting, setting_of, session_setting_at}
use Rattle.mlir_work_run.proofs.Within.{joined_same, live_whole}
use Rattle.mlir_work_c.specs.declared.answer.Answer.{Answer}
use Rattle.mlir_work_c.specs.declared.session.Session.{Session}
use Rattle.mlir_work_c.specs.Answers.{answer_of}
use Rattle.mlir_work_c.specs.Opened.{Opened}
use Rattle.mlir_work_c.specs.Stepped.{Answered, IsLeft, Said, SteppedBefore, is_opaque, most_counted, sitting, state, setting}
use Rattle.mlir_work_c.specs.Talks.{AreWritten, IsOutputOf, Talks, AnsweredLine, briefly, reported_of}

-- ---- the lines of a text

-- each text is one line
abbrev pub AreAlone : List (List ℕ) → Type 0
AreAlone [] = ⊤
AreAlone (line ∷ lines) = (after_line line ≡ []) × AreAlone lines

alone_onto : (b : ℕ) (lines : List (List ℕ)) → is_newline b ≡ false → AreAlone lines → AreAlone (onto_first b lines)
alone_onto b [] e h = (rw e refl, tt)
alone_onto b (line ∷ lines) e h = (rw e h.0, h.1)

alone_at : (b : ℕ) (bs : List ℕ) (t : Bool) → is_newline b ≡ t → AreAlone (whole_lines bs) → AreAlone (whole_lines (b ∷ bs))
alone_at b bs true e h = rw e (rw e refl, h)
alone_at b bs false e h = rw e (alone_onto b (whole_lines bs) e h)

pub alone_lines : (bs : List ℕ) → AreAlone (whole_lines bs)
alone_lines [] = tt
alone_lines (b ∷ bs) = alone_at b bs (is_newline b) refl (alone_lines bs)

-- the step of a single line
one_line : (rest : List ℕ) (s : Session) (line : List ℕ) (a : Answer) (t : Session) → rest ≡ [] → SteppedBefore rest s line a t → Said (setting s line) s (line_says (line_of line)) a t
one_line [] s line a t e h = h
one_line (b ∷ bs) s line a t e h = absurd (omega (arith, ap length e))

-- ---- lines of a session are lines of a live run

module _ (opaque : Bool) (limit : ℕ) where
  abbrev live_setting : Setting
  live_setting = setting_of seven_supply (briefly opaque limit)

  -- a live run may answer the lines so, and writes the text of these answers
  abbrev IsLived : ℕ → ℕ → Session → List (List ℕ) → List AnsweredLine → Type 0
  IsLived read n s lines reported = (status : ℕ) × (out : List ℕ) × Lives live_setting read n (sitting s) lines status out × AreWritten n reported status out

  -- the lines after this one, with any numbers and states
  abbrev Following : ℕ → List (List ℕ) → ℕ → Sitting → ℕ → List ℕ → Type 0
  Following read lines m u st o = Lives live_setting read m u lines st o

  module _ (read n : ℕ) (s : Session) (line : List ℕ) (lines : List (List ℕ)) (a : Answer) (t : Session) (rest : List AnsweredLine) (within : s.bytes + length line ≤ read) (same : s.limit ≡ limit) (mode : is_opaque s ≡ opaque) where
    abbrev all_notified : List AnsweredLine
    all_notified = reported_of line a t ∷ rest

    abbrev expected : Option Refusal
    expected = line_expects (line_of line)

    -- this line and the lines after it
    abbrev IsLivedOn : Spoken → Type 0
    IsLivedOn spoken = (status : ℕ) × (out : List ℕ) × Line (Following read lines) (session_setting_at live_setting read) n (sitting s) expected spoken status out × AreWritten n all_notified status out

    least : (setting s line).bytes ≤ read
    least = let below = min-le_left (s.bytes + length line) most_counted in omega (arith, below, within)

    replied : (spoken : Spoken) (h : Answered (setting s line) s spoken a t) (later : IsLived read (n + 1) t lines rest)
        → Replied (Following read lines) (session_setting seven_supply (setting s line)) n (sitting s) expected spoken (worse (is_right expected h.notice) later.0) ((reply_text n expected h.notice ++ t.shows.items) ++ later.1)
    replied spoken h later = let text = reply_text n expected h.notice ++ t.shows.items in record {
      notice = h.notice;
      shows = t.shows.items;
      after = sitting t;
      text = text;
      later = later.0;
      rest = later.1;
      replies = h.replies;
      replied = (text, ([], [], refl, refl, ap (λ (xs : List ℕ). reply_text n expected h.notice ++ xs) (sym (append-nil t.shows.items))), sym (append-nil text));
      full = h.bounded;
      goes_on = later.2;
      status_is = refl;
      out_is = refl;
    }

    written : (notice : Notice) → a ≡ answer_of notice (length t.shows.items) → (later : IsLived read (n + 1) t lines rest)
        → AreWritten n all_notified (worse (is_right expected notice) later.0) ((reply_text n expected notice ++ t.shows.items) ++ later.1)
    written notice is later = inr (record {
      notice = notice;
      later = later.0;
      rest = later.1;
      answered = is;
      goes_on = later.3;
      status_is = refl;
      out_is = refl;
    })

    -- the answer to a line in a run that has read so many bytes, with this limit
    wide : (spoken : Spoken) (st : ℕ) (o : List ℕ) → Line (Following read lines) (session_setting seven_supply (setting s line)) n (sitting s) expected spoken st o → Line (Following read lines) (session_setting_at live_setting read) n (sitting s) expected spoken st o
    wide spoken st o h =
        subst (λ (l : ℕ). Line (Following read lines) (session_setting seven_supply (record { brief = true; bytes = read; limit = l; ends = false; opaque = opaque; explain = false; strict = false })) n (sitting s) expected spoken st o) same
        (subst (λ (b : Bool). Line (Following read lines) (session_setting seven_supply (record { brief = true; bytes = read; limit = s.limit; ends = false; opaque = b; explain = false; strict = false })) n (sitting s) expected spoken st o) mode
        (line_wider (session_setting seven_supply (setting s line)) read least (Following read lines) (Following read lines) (λ m u status out k. k) n (sitting s) expected spoken st o h))

    lived_line : (spoken : Spoken) → Said (setting s line) s spoken a t → ((m : ℕ) → IsLived read m t lines rest) → IsLivedOn spoken
    lived_line Nothing h more =
        let later = more n in
        (later.0, later.1, subst (λ (u : Sitting). Lives live_setting read n u lines later.0 later.1) h.1.sitting later.2, inl (h.0, later.3))
    lived_line Bad h more =
        let later = more (n + 1) in
        (_, _, wide Bad _ _ (replied Bad h later), written h.notice h.reported later)
    lived_line (Obey said) h more =
        let later = more (n + 1) in
        (_, _, wide (Obey said) _ _ (replied (Obey said) h later), written h.notice h.reported later)
    lived_line (Ordered session_command) h more =
        let later = more (n + 1) in
        (_, _, wide (Ordered session_command) _ _ (replied (Ordered session_command) h later), written h.notice h.reported later)
    lived_line (Registered session_command) h more =
        let later = more (n + 1) in
        (_, _, wide (Registered session_command) _ _ (replied (Registered session_command) h later), written h.notice h.reported later)

    -- the byte count, limit and mode of the session after the line
    counted_on : (spoken : Spoken) → Said (setting s line) s spoken a t → (t.bytes ≤ read) × (t.limit ≡ limit) × (is_opaque t ≡ opaque)
    counted_on Nothing h = (let e = h.1.counted in omega (arith, e, within), h.1.limit ∙ same, h.1.mode ∙ mode)
    counted_on Bad h = (let e = h.counted in omega (arith, e, least), h.limit ∙ same, h.mode ∙ mode)
    counted_on (Obey said) h = (let e = h.counted in omega (arith, e, least), h.limit ∙ same, h.mode ∙ mode)
    counted_on (Ordered session_command) h = (let e = h.counted in omega (arith, e, least), h.limit ∙ same, h.mode ∙ mode)
    counted_on (Registered session_command) h = (let e = h.counted in omega (arith, e, least), h.limit ∙ same, h.mode ∙ mode)

  pub lived : (lines : List (List ℕ)) (read n : ℕ) (s : Session) (reported : List AnsweredLine) → s.bytes ≤ read → s.limit ≡ limit → is_opaque s ≡ opaque → AreAlone lines → length (joined lines) ≤ most_script_bytes → Talks s lines reported → IsLived read n s lines reported
  lived [] read n s reported within same mode alone few none = (0, [], (refl, refl), subst (λ (all : List AnsweredLine). AreWritten n all 0 []) (sym none) (refl, refl))
  lived (line ∷ lines) read n s reported within same mode alone few (a, t, rest, step, talks, is) =
      let all = length-append line (joined lines) in
      let more = read + length line in
      let here : s.bytes + length line ≤ more = omega (arith, within) in
      let fits : length line ≤ most_script_bytes = omega (arith, all, few) in
      let less : length (joined lines) ≤ most_script_bytes = omega (arith, all, few) in
      let said = one_line (after_line line) s line a t alone.0 step in
      let on = counted_on more n s line lines a t rest here same mode (line_says (line_of line)) said in
      let got = lived_line more n s line lines a t rest here same mode (line_says (line_of line)) said (λ m. lived lines more m t rest on.0 on.1 on.2 alone.1 less talks) in
      (got.0, got.1, (fits, got.2), subst (λ (every : List AnsweredLine). AreWritten n every got.0 got.1) (sym is) got.3)

-- ---- the whole input

-- a session without user patterns
opened_sitting : (s : Session) → registry_model s.registry ≡ [] → sitting s ≡ opening [] (state s)
opened_sitting s e = ap (λ (registry : RegistryModel). record { state = state s; registry = registry }) e

-- a state without marks
unmarked : (s : State) → s.marks ≡ [] → s ≡ record { held = s.held; marks = []; panel = s.panel }
unmarked s e = ap (λ (marks : List _). record { held = s.held; marks = marks; panel = s.panel }) e

-- if all listeners are accepted, no error line is written
silent_boxes : (bs old new : List Shown) (out : List ℕ) → Attaches bs old new true out → out ≡ []
silent_boxes [] old new out h = h.2
silent_boxes (b ∷ bs) old new out (mid, None, true, rest, attempted, others, accepted, is) = is ∙ silent_boxes bs mid new rest others
silent_boxes (b ∷ bs) old new out (mid, None, false, rest, attempted, others, accepted, is) = absurd (true≢false accepted)
silent_boxes (b ∷ bs) old new out (mid, Some refusal, there, rest, attempted, others, accepted, is) = absurd (true≢false accepted)

pub talked_whole : (opaque : Bool) (limit : ℕ) (input : List ℕ) (s : Session) (reported : List AnsweredLine) → length input ≤ most_input_bytes → length (script_text input) ≤ most_script_bytes → Opened opaque (module_text input) limit s → Talks s (whole_lines (script_text input)) reported → IsOutputOf opaque limit input reported
talked_whole opaque limit input s reported short few opened talks =
    let text = module_text input in
    let lines = whole_lines (script_text input) in
    let boxes = opened.attached.0 in
    let attached = opened.attached.3 in
    let read = length text + divider_bytes in
    let within : s.bytes ≤ read = (let e = opened.counted in omega (arith, e)) in
    let h = lived opaque limit lines read 1 s reported within opened.limit_is opened.mode (alone_lines (script_text input)) (rw (joined_same (script_text input)) few) talks in
    let reports_nothing = silent_boxes (all_shown any_analysis boxes) [] (state s).panel opened.attached.1 attached in
    let live : Live (live_setting opaque limit) (all_shown any_analysis boxes) (state s).held read lines h.0 h.1 = record {
      begun = state s;
      accepted = true;
      preceding = [];
      later = h.0;
      rest = h.1;
      begins = record { panel = (state s).panel; preceding = opened.attached.1; attached = attached; state_is = unmarked (state s) opened.unmarked; out_is = sym (append-nil opened.attached.1 ∙ reports_nothing) };
      lives = subst (λ (u : Sitting). Lives (live_setting opaque limit) read 1 u lines h.0 h.1) (opened_sitting s opened.empty) h.2;
      status_is = refl;
      out_is = refl;
    } in
    (boxes, h.0, h.1, opened.attached.2, h.3, live_whole (live_setting opaque limit) (all_shown any_analysis boxes) input h.0 h.1 short few (inr ((state s).held, opened.world, live)))
