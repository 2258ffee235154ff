-- The machine's answers for an edit, and for the mark under which it is made.
use Rattle.std.proofs.Common.{◌≡◌, ◌≢◌, ◌∙◌, sym, ap, subst, refl, inl, inr, ℕ, List, [], ◌∷◌, length, true, false, Option, Some, None, IsTrue}
use Rattle.std.specs.Prelude.{map, reverse}
use Rattle.std.proofs.lemmas.List.{length-map, length-reverse}
use Rattle.ir_event.specs.types.Things.{ContextModel}
use Rattle.ir_event.specs.types.declared.refusal.Refusal.{Refusal}
use Rattle.ir_event.specs.types.declared.refusal.Refusal.TheVariants.{Memory}
use Rattle.ir_event.specs.Modules.{Module, module_meaning}
use Rattle.ir_event.specs.trees.WellFormed.{Module as Numbered}
use Rattle.rewriter.specs.Machine.{State, Call, Reply, Answer, OpenMark, Do, Step, Commit, Rollback, Done, Refused, Nothing, Goes, due_edit, due_commit, due_rollback, done, refused, accepted, grows_under}
use Rattle.rewriter.specs.Contents.{Edit, edited, edit_reason}
use Rattle.rewriter.specs.Panels.{AllAge}

-- an accepted `step` marks the current module
pub stepped : (s t : State) → Goes s Step Done Nothing t → (t.held ≡ s.held) × (t.marks ≡ record { marked = s.held; counted = false } ∷ s.marks)
stepped s t g = elim g.answer [
  | inl h ↦ (ap (λ (a : Answer). a.held) h, ap (λ (a : Answer). a.marks) h)
  | inr h ↦ absurd (let n : Done ≡ Refused Memory = ap (λ (a : Answer). a.reply) h.1 in cc)
]

-- a refused `step` is refused because memory ran out
pub unstepped : (s t : State) (r : Refusal) → Goes s Step (Refused r) Nothing t → r ≡ Memory
unstepped s t r g = elim g.answer [
  | inl h ↦ absurd (let n : Refused r ≡ Done = ap (λ (a : Answer). a.reply) h in cc)
  | inr h ↦ (let n : Refused r ≡ Refused Memory = ap (λ (a : Answer). a.reply) h.1 in cc)
]

-- the state after the newest mark is committed
pub committed : (s t : State) (reply : Reply) (k : OpenMark) (ks : List OpenMark) → s.marks ≡ k ∷ ks → Goes s Commit reply Nothing t → (t.held ≡ s.held) × (t.marks ≡ ks)
committed s t reply k ks e g = elim g.answer [
  | inl h ↦ (let d = h ∙ ap (λ (l : List OpenMark). due_commit l s) e in (ap (λ (a : Answer). a.held) d, ap (λ (a : Answer). a.marks) d))
  | inr h ↦ absurd (let n : false ≡ true = h.0 in cc)
]

pub rolled_back : (s t : State) (reply : Reply) (k : OpenMark) (ks : List OpenMark) → s.marks ≡ k ∷ ks → Goes s Rollback reply Nothing t → (t.held ≡ k.marked) × (t.marks ≡ ks)
rolled_back s t reply k ks e g = elim g.answer [
  | inl h ↦ (let d = h ∙ ap (λ (l : List OpenMark). due_rollback l s) e in (ap (λ (a : Answer). a.held) d, ap (λ (a : Answer). a.marks) d))
  | inr h ↦ absurd (let n : false ≡ true = h.0 in cc)
]

-- an edit that is made
pub made_goes : (s t : State) (e : Edit) → edit_reason e s.held ≡ None → t.held ≡ edited e s.held → t.marks ≡ s.marks → AllAge s.panel t.panel → Goes s (Do e) (accepted e s.held) Nothing t
made_goes s t e why held marks ages =
    record {
      answer = inl ((λ i. record { reply = accepted e s.held; shows = Nothing; held = held i; marks = marks i }) ∙ sym (ap (λ (o : Option Refusal). due_edit o e s) why));
      panel = ages;
    }

-- an edit refused for its reason
pub refused_goes : (s : State) (e : Edit) (r : Refusal) → edit_reason e s.held ≡ Some r → AllAge s.panel s.panel → Goes s (Do e) (Refused r) Nothing s
refused_goes s e r why ages = record { answer = inl (sym (ap (λ (o : Option Refusal). due_edit o e s) why)); panel = ages }

-- an edit refused because memory ran out leaves the module and the marks unchanged
pub unmade_goes : (s t : State) (e : Edit) (r : Refusal) → r ≡ Memory → IsTrue (grows_under s.marks e) → t.held ≡ s.held → t.marks ≡ s.marks → AllAge s.panel t.panel → Goes s (Do e) (Refused r) Nothing t
unmade_goes s t e r is grow held marks ages = record { answer = inr (grow, λ i. record { reply = Refused (is i); shows = Nothing; held = held i; marks = marks i }); panel = ages }

-- if a mark is open, every edit needs memory
pub marked_grows : {X : Type 0} (f : X → OpenMark) (e : Edit) (ks : List X) → ks ≢ [] → IsTrue (grows_under (reverse (map f ks)) e)
marked_grows f e ks n = go (reverse (map f ks)) ks (length-reverse (map f ks) ∙ length-map ks f) n
  where
    go : {Y : Type 0} (l : List OpenMark) (ys : List Y) → length l ≡ length ys → ys ≢ [] → IsTrue (grows_under l e)
    go [] [] q n = absurd (n refl)
    go [] (y ∷ ys) q n = absurd cc
    go (k ∷ l) ys q n = refl
