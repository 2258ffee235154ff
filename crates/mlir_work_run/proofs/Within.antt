-- Proofs about live runs within the limits of whole runs.
use Rattle.std.proofs.Common.{◌≡◌, ◌∙◌, ap, subst, refl, ℕ, ◌+◌, ◌≤◌, List, [], ◌∷◌, ◌++◌, length, length-append, arith, Bool, true, false, map, inl, inr}
use Rattle.std.specs.Prelude.{codes}
use Rattle.ir_event.specs.Modules.{Module}
use Rattle.mlir_work_session.specs.Commands.{line_says}
use Rattle.mlir_work_session.specs.Expecting.{line_expects}
use Rattle.mlir_work_session.specs.Lines.{is_newline, line_of, lines_of, onto_first}
use Rattle.mlir_work_session.specs.Limits.{most_input_bytes, most_script_bytes}
use Rattle.mlir_work_session.specs.Machine.{State}
use Rattle.mlir_work_session.specs.Output.{Runs, Session, Sitting, opening}
use Rattle.mlir_work_session.specs.Panels.{Shown}
use Rattle.mlir_work_session.specs.Parts.{IsSplit, module_text, script_text}
use Rattle.mlir_work_session.specs.Writes.{joined}
use Rattle.mlir_work_session.proofs.Dividing.{divided}
use Rattle.mlir_work_session.proofs.Wider.{line_wider}
use Rattle.mlir_work_run.specs.Live.{IsLive, Live, Lives, divider_bytes, whole_lines}
use Rattle.mlir_work_run.specs.Whole.{IsOutput, Setting, session_setting_at}

-- ---- lines, with and without their line feeds

-- the first byte is that of the first line
onto_lines : (b : ℕ) (lines : List (List ℕ)) → is_newline b ≡ false → map line_of (onto_first b lines) ≡ onto_first b (map line_of lines)
onto_lines b [] e = rw e refl
onto_lines b (line ∷ lines) e = rw e refl

onto_joined : (b : ℕ) (lines : List (List ℕ)) → joined (onto_first b lines) ≡ b ∷ joined lines
onto_joined b [] = refl
onto_joined b (line ∷ lines) = refl

lines_at : (b : ℕ) (bs : List ℕ) (t : Bool) → is_newline b ≡ t → map line_of (whole_lines bs) ≡ lines_of bs → map line_of (whole_lines (b ∷ bs)) ≡ lines_of (b ∷ bs)
lines_at b bs true e h = rw (e, e) (ap (λ (xs : List (List ℕ)). [] ∷ xs) h)
lines_at b bs false e h = rw e (onto_lines b (whole_lines bs) e ∙ ap (onto_first b) h)

lines_same : (bs : List ℕ) → map line_of (whole_lines bs) ≡ lines_of bs
lines_same [] = refl
lines_same (b ∷ bs) = lines_at b bs (is_newline b) refl (lines_same bs)

joined_at : (b : ℕ) (bs : List ℕ) (t : Bool) → is_newline b ≡ t → joined (whole_lines bs) ≡ bs → joined (whole_lines (b ∷ bs)) ≡ b ∷ bs
joined_at b bs true e h = rw e (ap (λ (xs : List ℕ). b ∷ xs) h)
joined_at b bs false e h = rw e (onto_joined b (whole_lines bs) ∙ ap (λ (xs : List ℕ). b ∷ xs) h)

pub joined_same : (bs : List ℕ) → joined (whole_lines bs) ≡ bs
joined_same [] = refl
joined_same (b ∷ bs) = joined_at b bs (is_newline b) refl (joined_same bs)

-- ---- early answers are final answers

module _ (setting : Setting) (total : ℕ) where
  lives_run : (lines : List (List ℕ)) (read n : ℕ) (s : Sitting) (status : ℕ) (out : List ℕ) → read + length (joined lines) ≤ total → Lives setting read n s lines status out → Runs (session_setting_at setting total) n s (map line_of lines) status out
  lives_run [] read n s status out most h = h
  lives_run (line ∷ lines) read n s status out most h =
      let long = length-append line (joined lines) in
      let here : read + length line ≤ total = omega (arith, most, long) in
      let rest : (read + length line) + length (joined lines) ≤ total = omega (arith, most, long) in
      line_wider (session_setting_at setting (read + length line)) total here (λ m t st o. Lives setting (read + length line) m t lines st o) (λ m t st o. Runs (session_setting_at setting total) m t (map line_of lines) st o) (λ m t st o k. lives_run lines (read + length line) m t st o rest k) n s (line_expects (line_of line)) (line_says (line_of line)) status out h.1

  script_runs : (script : List ℕ) (read : ℕ) (s : Sitting) (status : ℕ) (out : List ℕ) → read + length script ≤ total → Lives setting read 1 s (whole_lines script) status out → Runs (session_setting_at setting total) 1 s (lines_of script) status out
  script_runs script read s status out most h =
      subst (λ (ls : List (List ℕ)). Runs (session_setting_at setting total) 1 s ls status out) (lines_same script) (lives_run (whole_lines script) read 1 s status out (rw (joined_same script) most) h)

-- the module, the divider and the script
split_long : (input text : List ℕ) (b : ℕ) (bs : List ℕ) → IsSplit input text (b ∷ bs) → length text + divider_bytes + length (b ∷ bs) ≤ length input
split_long input text b bs (inl (end, is, inl ends)) = omega (arith, ap length is, length-append text (codes "// -----" ++ end), length-append (codes "// -----") end, ap length ends)
split_long input text b bs (inl (end, is, inr (ends, none))) = absurd (omega (arith, ap length none))
split_long input text b bs (inr (is, none)) = absurd (omega (arith, ap length none))

input_runs : (setting : Setting) (input script : List ℕ) (s : Sitting) (status : ℕ) (out : List ℕ) → IsSplit input (module_text input) script → Lives setting (length (module_text input) + divider_bytes) 1 s (whole_lines script) status out → Runs (session_setting_at setting (length input)) 1 s (lines_of script) status out
input_runs setting input [] s status out split h = h
input_runs setting input (b ∷ bs) s status out split h = script_runs setting (length input) (b ∷ bs) (length (module_text input) + divider_bytes) s status out (split_long input (module_text input) b bs split) h

session_of : (setting : Setting) (boxes : List Shown) (m : Module) (input : List ℕ) (status : ℕ) (out : List ℕ) → Live setting boxes m (length (module_text input) + divider_bytes) (whole_lines (script_text input)) status out → Session (session_setting_at setting (length input)) setting.start boxes m (script_text input) status out
session_of setting boxes m input status out h = record {
  panel = h.begins.panel;
  accepted = h.accepted;
  preceding = h.begins.preceding;
  later = h.later;
  rest = h.rest;
  attached = h.begins.attached;
  runs = subst (λ (s : State). Runs (session_setting_at setting (length input)) 1 (opening setting.start s) (lines_of (script_text input)) h.later h.rest) h.begins.state_is (input_runs setting input (script_text input) (opening setting.start h.begun) h.later h.rest (divided true input) h.lives);
  status_is = h.status_is;
  out_is = h.out_is ∙ ap (λ (xs : List ℕ). xs ++ h.rest) h.begins.out_is;
}

-- a live answer to an input is an output of the input, within the limits
pub live_whole : (setting : Setting) (boxes : List Shown) (input : List ℕ) (status : ℕ) (out : List ℕ) → length input ≤ most_input_bytes → length (script_text input) ≤ most_script_bytes → IsLive setting boxes (module_text input) (whole_lines (script_text input)) status out → IsOutput setting boxes input status out
live_whole setting boxes input status out short few (inl unparsed) = inr (short, inl unparsed)
live_whole setting boxes input status out short few (inr (m, world, h)) = inr (short, inr (m, world, inr (few, session_of setting boxes m input status out h)))
