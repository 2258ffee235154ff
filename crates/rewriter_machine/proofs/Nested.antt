-- Calls that close exactly the marks that they open keep the earlier marks. So a rollback after them restores the
-- module of its mark.
use Rattle.std.proofs.Common.{◌≡◌, refl, ap, sym, ◌∙◌, subst, ℕ, zero, suc, true, false, List, [], ◌∷◌, ◌++◌, length, Option, Some, None, inl, inr}
use Rattle.std.specs.Prelude.{option_and_then}
use Rattle.ir_event.specs.Modules.{Module}
use Rattle.rewriter_machine.specs.Machine.{OpenMark, State, Call, Do, Change, Mark, Step, Commit, Rollback, Attach, Detach, Resync, Report, Print, Reply, Done, DoneAs, DoneWith, Refused, RefusedOn, Shows, Answer, due_rollback, Goes}
use Rattle.rewriter_machine.specs.Runs.{Answered, Runs, Gives, level, level_after, level_answered, lower, IsNested, IsMarking}
use Rattle.rewriter_machine.proofs.Answers.{refused_leaves, accepted_gives}

-- this many marks are open above some others
record Above (n : ℕ) (base marks : List OpenMark) : Type 0 where
  preceding : List OpenMark
  is : marks ≡ preceding ++ base
  many : length preceding ≡ n

one_more : (k : OpenMark) (n : ℕ) (base old new : List OpenMark) → new ≡ k ∷ old → Above n base old → Above (suc n) base new
one_more k n base old new e a = record { preceding = k ∷ a.preceding; is = e ∙ ap (λ l. k ∷ l) a.is; many = ap suc a.many }

one_fewer : (k : OpenMark) (n m : ℕ) (base old new : List OpenMark) → old ≡ k ∷ new → lower n ≡ Some m → Above n base old → Above m base new
one_fewer k zero m base old new e l a = absurd cc
one_fewer k (suc n) m base old new e l a = go a.preceding a.is a.many
  where
    go : (preceding : List OpenMark) → old ≡ preceding ++ base → length preceding ≡ suc n → Above m base new
    go [] is many = absurd cc
    go (f ∷ preceding) is many = (let both : k ∷ new ≡ f ∷ (preceding ++ base) = sym e ∙ is in
        let rest : new ≡ preceding ++ base = cc in
        let size : n ≡ m = cc in
        let long : length preceding ≡ n = cc in
        record { preceding = preceding; is = rest; many = long ∙ size })

stays : (n m : ℕ) (base old new : List OpenMark) → new ≡ old → Some n ≡ Some m → Above n base old → Above m base new
stays n m base old new e l a = (let size : n ≡ m = cc in record { preceding = a.preceding; is = e ∙ a.is; many = a.many ∙ size })

given_above : (call : Call) (x y : Module) (n m : ℕ) (base old new : List OpenMark) → Gives call x old y new → level_after call n ≡ Some m → Above n base old → Above m base new
given_above (Do e) x y n m base old new g l a = stays n m base old new g.2 l a
given_above (Change f) x y n m base old new g l a = stays n m base old new g.1 l a
given_above Mark x y n m base old new g l a = (let size : suc n ≡ m = cc in subst (λ k. Above k base new) size (one_more _ n base old new g.1 a))
given_above Step x y n m base old new g l a = (let size : suc n ≡ m = cc in subst (λ k. Above k base new) size (one_more _ n base old new g.1 a))
given_above Commit x y n m base old new g l a = one_fewer g.1.0 n m base old new g.1.1 l a
given_above Rollback x y n m base old new g l a = one_fewer g.0 n m base old new g.1 l a
given_above (Attach b) x y n m base old new g l a = stays n m base old new g.1 l a
given_above (Detach kind) x y n m base old new g l a = stays n m base old new g.1 l a
given_above (Resync kind) x y n m base old new g l a = stays n m base old new g.1 l a
given_above (Report kind) x y n m base old new g l a = stays n m base old new g.1 l a
given_above Print x y n m base old new g l a = stays n m base old new g.1 l a

goes_above : (s t : State) (call : Call) (reply : Reply) (shows : Shows) (n m : ℕ) (base : List OpenMark) → Goes s call reply shows t → level_answered call reply n ≡ Some m → Above n base s.marks → Above m base t.marks
goes_above s t call Done shows n m base g l a = given_above call s.held t.held n m base s.marks t.marks (accepted_gives s t call Done shows g refl) l a
goes_above s t call (DoneAs x) shows n m base g l a = given_above call s.held t.held n m base s.marks t.marks (accepted_gives s t call (DoneAs x) shows g refl) l a
goes_above s t call (DoneWith o) shows n m base g l a = given_above call s.held t.held n m base s.marks t.marks (accepted_gives s t call (DoneWith o) shows g refl) l a
goes_above s t call (RefusedOn r x) shows n m base g l a = stays n m base s.marks t.marks (refused_leaves s t call (RefusedOn r x) shows g refl).1 l a
goes_above s t call (Refused r) shows n m base g l a = stays n m base s.marks t.marks (refused_leaves s t call (Refused r) shows g refl).1 l a

runs_above : (calls : List Answered) (s t : State) (n m : ℕ) (base : List OpenMark) → Runs s calls t → level calls n ≡ Some m → Above n base s.marks → Above m base t.marks
runs_above [] s t n m base r l a = (let size : n ≡ m = cc in subst (λ (u : State). Above m base u.marks) (sym r) (subst (λ k. Above k base s.marks) size a))
runs_above (c ∷ calls) s t n m base r l a = go (λ k. runs_above calls r.0 t k m base r.2) (level_answered c.call c.reply n) refl l
  where
    go : ((k : ℕ) → level calls k ≡ Some m → Above k base r.0.marks → Above m base t.marks) → (o : Option ℕ) → level_answered c.call c.reply n ≡ o → option_and_then (level calls) o ≡ Some m → Above m base t.marks
    go later None is h = absurd cc
    go later (Some k) is h = later k h (goes_above s r.0 c.call c.reply c.shows n k base r.1 is a)

-- calls that close exactly the marks that they open keep the marks
pub nested_leaves : (s t : State) (calls : List Answered) → Runs s calls t → IsNested calls → t.marks ≡ s.marks
nested_leaves s t calls r nested = go (runs_above calls s t 0 0 s.marks r nested (record { preceding = []; is = refl; many = refl }))
  where
    go : Above 0 s.marks t.marks → t.marks ≡ s.marks
    go a = none a.preceding a.is a.many
      where
        none : (preceding : List OpenMark) → t.marks ≡ preceding ++ s.marks → length preceding ≡ 0 → t.marks ≡ s.marks
        none [] is many = is
        none (k ∷ preceding) is many = absurd cc

-- if a mark is open, a rollback is accepted and restores the marked module
pub rollback_gives : (s t : State) (reply : Reply) (shows : Shows) (k : OpenMark) (ks : List OpenMark) → Goes s Rollback reply shows t → s.marks ≡ k ∷ ks → (reply ≡ Done) × (t.held ≡ k.marked) × (t.marks ≡ ks)
rollback_gives s t reply shows k ks g e = elim g.answer [
  | inl is ↦ (let is2 : record { reply = reply; shows = shows; held = t.held; marks = t.marks } ≡ due_rollback (k ∷ ks) s = is ∙ ap (λ l. due_rollback l s) e in
      (ap (λ (a : Answer). a.reply) is2, ap (λ (a : Answer). a.held) is2, ap (λ (a : Answer). a.marks) is2))
  | inr is ↦ (let bad : false ≡ true = is.0 in absurd cc)
]

-- a mark, then calls that close exactly the marks that they open, then a rollback: the module, its ids, its next id and
-- the marks are restored
pub rollback_restores : (s u t v : State) (call : Call) (shows last : Shows) (calls : List Answered) (reply : Reply) → IsMarking call → Goes s call Done shows u → Runs u calls t → IsNested calls → Goes t Rollback reply last v
    → (reply ≡ Done) × (v.held ≡ s.held) × (v.marks ≡ s.marks)
rollback_restores s u t v Mark shows last calls reply is g r nested back = rollback_gives t v reply last (record { marked = s.held; counted = true }) s.marks back (nested_leaves u t calls r nested ∙ (accepted_gives s u Mark Done shows g refl).1)
rollback_restores s u t v Step shows last calls reply is g r nested back = rollback_gives t v reply last (record { marked = s.held; counted = false }) s.marks back (nested_leaves u t calls r nested ∙ (accepted_gives s u Step Done shows g refl).1)
rollback_restores s u t v (Do e) shows last calls reply is g r nested back = absurd is
rollback_restores s u t v (Change f) shows last calls reply is g r nested back = absurd is
rollback_restores s u t v Commit shows last calls reply is g r nested back = absurd is
rollback_restores s u t v Rollback shows last calls reply is g r nested back = absurd is
rollback_restores s u t v (Attach a) shows last calls reply is g r nested back = absurd is
rollback_restores s u t v (Detach kind) shows last calls reply is g r nested back = absurd is
rollback_restores s u t v (Resync kind) shows last calls reply is g r nested back = absurd is
rollback_restores s u t v (Report kind) shows last calls reply is g r nested back = absurd is
rollback_restores s u t v Print shows last calls reply is g r nested back = absurd is
