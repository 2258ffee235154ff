-- A walk over casts erases the same first cast as the definition.
use Rattle.std.proofs.Common.{◌≡◌, refl, ap, sym, ◌∙◌, subst, inr, ℕ, ◌≤◌, Bool, true, false, true≢false, cond, eqb, List, [], ◌∷◌, filter, length, Option, Some, None, option_map, Result, Ok, Err}
use Rattle.std.specs.Prelude.{IfOk, IfSome, OnOk, Vec, slice_get}
use Rattle.std.specs.List.{AllByRecursion, IsDistinct}
use Rattle.ir_event.specs.types.Things.{ContextModel}
use Rattle.ir_event.specs.types.Words.{is_isolated}
use Rattle.ir_event.specs.types.declared.refusal.Refusal.{Refusal}
use Rattle.ir_event.specs.trees.Meaning.{Operation}
use Rattle.ir_event.specs.trees.WellFormed.{IsWellFormed}
use Rattle.ir_event.specs.Modules.{Module}
use Rattle.conversion_base.specs.Listing.{HaveCasts}
use Rattle.conversion_base.specs.Reconciling.{collapse, next_collapse, rewrite_or}
use Rattle.conversion_base.specs.Rewrites.{Rewrite, none, refused, becomes}
use Rattle.conversion_base.proofs.Listed.{casts_stay, next_listed}
use Rattle.conversion.specs.Waiting.{ArePlaces, Took}
use Rattle.conversion.specs.Walks.{Gives, Taken, Walked, collapse_at}
use Rattle.conversion.proofs.Walks.{none_waits, taken_first, walked_after, walked_on}
use Rattle.conversion.specs.States.{Answers, AnswersAfter, Applied, FreedIf, Looked, Refuses, State}

-- ---- answers

pub applied_becomes : (a : Rewrite) (m n : Module) → Applied a true m n → a ≡ becomes n
applied_becomes none m n c = absurd (true≢false c.0)
applied_becomes (becomes p) m n c = ap becomes (sym c.1)
applied_becomes (refused e) m n c = absurd c

applied_none : (a : Rewrite) (m n : Module) → Applied a false m n → (a ≡ none) × (n ≡ m)
applied_none none m n c = (refl, c.1)
applied_none (becomes p) m n c = absurd (true≢false (sym c.0))
applied_none (refused e) m n c = absurd c

applied_or : (a b : Rewrite) (m n : Module) → Applied a true m n → Applied (rewrite_or a b) true m n
applied_or none b m n c = absurd (true≢false c.0)
applied_or (becomes p) b m n c = c
applied_or (refused e) b m n c = absurd c

refuses_or : (a b : Rewrite) (c : ContextModel) (e : Refusal) → Refuses a c e → Refuses (rewrite_or a b) c e
refuses_or none none c e r = r
refuses_or none (refused f) c e r = inr r
refuses_or none (becomes p) c e r = r
refuses_or (refused f) b c e r = r
refuses_or (becomes p) b c e r = r

-- a call's result is also a result under a mark
pub trailing : (a : Rewrite) (r : Result Bool Refusal) (s t : State) → Answers a r s t → AnswersAfter a r s t
trailing a (Ok done) s t c = c
trailing a (Err e) s t c = c.0

-- ---- a cast of a list

module _ (xs : List ℕ) (p passed2 : ℕ) (again2 : List ℕ) (s : State) (listed : HaveCasts xs s.held.tree) (taken : Taken xs passed2 again2 p s.held) where
  pub looked_at : (x : ℕ) → Some x ≡ slice_get xs p → (r : Result Bool Refusal) (t : State) → AnswersAfter (collapse s.held x) r s t → Looked (next_collapse s.held) r s t
  looked_at x e r t c = go (taken_first xs taken.0 taken.1 passed2 again2 p s.held taken.2 listed taken.3 x (sym e)) r c
    where
      go : (w : (q : Rewrite) × (next_collapse s.held ≡ rewrite_or (collapse s.held x) q)) (r : Result Bool Refusal) → AnswersAfter (collapse s.held x) r s t → Looked (next_collapse s.held) r s t
      go w (Ok true) k = subst (λ (a : Rewrite). Applied a true s.held t.held) (sym w.1) (applied_or (collapse s.held x) w.0 s.held t.held k)
      go w (Ok false) k = (applied_none (collapse s.held x) s.held t.held k).1
      go w (Err f) k = subst (λ (a : Rewrite). Refuses a t.things f) (sym w.1) (refuses_or (collapse s.held x) w.0 t.things f k)

  pub walked_by : (wellformed : IsWellFormed is_isolated s.held) (x : ℕ) → Some x ≡ slice_get xs p → (gs : Option (List ℕ)) → ((l : List ℕ) → gs ≡ Some l → Gives l x s.held.tree) → (f : ℕ → Option ℕ) → ArePlaces xs f
      → (r : Result Bool Refusal) (t : State) (passed3 : ℕ) (again3 : List ℕ) → AnswersAfter (collapse s.held x) r s t → IfOk r (λ done. FreedIf done gs f passed2 again2 passed3 again3) → OnOk r (Walked xs passed3 again3 t.held)
  walked_by wellformed x e gs gives f places (Err k) t passed3 again3 c freed = tt
  walked_by wellformed x e gs gives f places (Ok true) t passed3 again3 c freed =
      walked_after xs taken.0 taken.1 passed2 again2 p s.held taken.2 t.held x (sym e) wellformed listed (applied_becomes (collapse s.held x) s.held t.held c) taken.3 gs gives f places passed3 again3 freed
  walked_by wellformed x e gs gives f places (Ok false) t passed3 again3 c freed =
      (let none_it = applied_none (collapse s.held x) s.held t.held c in
      subst (λ (m : Module). Walked xs passed3 again3 m) (sym none_it.1)
      (subst (λ j. Walked xs j again3 s.held) (sym freed.0) (subst (λ l. Walked xs passed2 l s.held) (sym freed.1)
      (walked_on xs taken.0 taken.1 passed2 again2 p s.held taken.2 taken.3 (ap (collapse_at s.held) (sym e) ∙ none_it.0)))))

  pub walked_past : None ≡ slice_get xs p → Walked xs passed2 again2 s.held
  walked_past e = walked_on xs taken.0 taken.1 passed2 again2 p s.held taken.2 taken.3 (ap (collapse_at s.held) (sym e))

pub kept_by : (r : Result Bool Refusal) (gs : Option (List ℕ)) (f : ℕ → Option ℕ) (passed : ℕ) (again : List ℕ) (passed2 : ℕ) (again2 : List ℕ) → IfOk r (λ done. FreedIf done gs f passed again passed2 again2) → IfOk r (λ done. done ≡ false → (passed2 ≡ passed) × (again2 ≡ again))
kept_by (Err e) gs f passed again passed2 again2 h = tt
kept_by (Ok true) gs f passed again passed2 again2 h = λ e. absurd (true≢false e)
kept_by (Ok false) gs f passed again passed2 again2 h = λ e. h

-- ---- the next of them

module _ (start : State) (xs : List ℕ) where
  -- the module is unchanged, and the walk advanced
  pub record Walking (passed : ℕ) (again : List ℕ) (here : State) : Type 0 where
    pub held : here.held ≡ start.held
    pub walked : Walked xs passed again here.held

  pub taken_by : (passed : ℕ) (again : List ℕ) (passed2 : ℕ) (again2 : List ℕ) (p : ℕ) (here : State) → Walking passed again here → Took passed again passed2 again2 p → Taken xs passed2 again2 p here.held
  taken_by passed again passed2 again2 p here w k = (passed, again, w.walked, k)

  pub next_found : (here next : State) (r : Result Bool Refusal) (b : Bool) → here.held ≡ start.held → r ≡ Ok b → b ≡ true → Looked (next_collapse here.held) r here next → AnswersAfter (next_collapse start.held) (Ok true) start next
  next_found here next r b h e t c =
      subst (λ (m : Module). Applied (next_collapse m) true m next.held) h (subst (λ (z : Result Bool Refusal). Looked (next_collapse here.held) z here next) (e ∙ ap Ok t) c)

  pub next_stops : (here next : State) (e : Refusal) → here.held ≡ start.held → Looked (next_collapse here.held) (Err e) here next → AnswersAfter (next_collapse start.held) (Err e) start next
  next_stops here next e h c = subst (λ (m : Module). Refuses (next_collapse m) next.things e) h c

  pub next_none : HaveCasts xs start.held.tree → (passed : ℕ) (again : List ℕ) (here : State) → Walking passed again here → again ≡ [] → length xs ≤ passed → AnswersAfter (next_collapse start.held) (Ok false) start here
  next_none listed passed again here w e l =
      subst (λ (a : Rewrite). Applied a false start.held here.held) (sym (none_waits xs passed again start.held listed (subst (Walked xs passed again) w.held w.walked) e l)) (refl, w.held)

  pub still_listed : IsWellFormed is_isolated start.held → HaveCasts xs start.held.tree → (next : State) → AnswersAfter (next_collapse start.held) (Ok true) start next → HaveCasts xs next.held.tree
  still_listed wellformed listed next c = casts_stay start.held next.held xs wellformed.distinct listed (next_listed start.held xs listed ∙ applied_becomes (next_collapse start.held) start.held next.held c)

-- ---- the casts among the operations of a module

all_filtered : (P : ℕ → Type 0) (c : ℕ → Bool) (xs : List ℕ) → AllByRecursion P xs → AllByRecursion P (filter c xs)
all_filtered P c [] a = a
all_filtered P c (x ∷ xs) a = go (c x) (all_filtered P c xs a.1)
  where
    go : (b : Bool) → AllByRecursion P (filter c xs) → AllByRecursion P (cond b (x ∷ filter c xs) (filter c xs))
    go true r = (a.0, r)
    go false r = r

pub filtered_distinct : (c : ℕ → Bool) (xs : List ℕ) → IsDistinct eqb xs → IsDistinct eqb (filter c xs)
unfolding IsDistinct
filtered_distinct c [] d = d
filtered_distinct c (x ∷ xs) d = go (c x) (filtered_distinct c xs d.1)
  where
    go : (b : Bool) → IsDistinct eqb (filter c xs) → IsDistinct eqb (cond b (x ∷ filter c xs) (filter c xs))
    go true r = (all_filtered (λ y. eqb x y ≡ false) c xs d.0, r)
    go false r = r

-- ---- the defining operations of operands
pub gives_each : {A : Type 0} (x : ℕ) (t : Operation) (g : Option (Vec ℕ A)) → IfSome g (λ (v : Vec ℕ A). Gives v.items x t) → (l : List ℕ) → option_map (λ (v : Vec ℕ A). v.items) g ≡ Some l → Gives l x t
gives_each x t None h l e = absurd cc
gives_each {A} x t (Some v) h l e = (let same : v.items ≡ l = cc in subst (λ k. Gives k x t) same h)

pub gives_held : {A : Type 0} (x : ℕ) (m n : Module) → m ≡ n → (g : Option (Vec ℕ A)) → IfSome g (λ (v : Vec ℕ A). Gives v.items x m.tree) → IfSome g (λ (v : Vec ℕ A). Gives v.items x n.tree)
gives_held {A} x m n e g h = subst (λ (p : Module). IfSome g (λ (v : Vec ℕ A). Gives v.items x p.tree)) e h
