-- Rules on branches and loops that inline a block or erase it.
use Rattle.std.proofs.Common.{◌≡◌, refl, ap, sym, ◌∙◌, ℕ, List, [], ◌∷◌, Bool, true, false, cond, eqb, Option, Some}
use Rattle.std.proofs.Common.{None, inl, inr}
use Rattle.std.specs.Prelude.{codes, is_some, option_map, int_lt}
use Rattle.ir_event.specs.types.Terms.{TypeTerm, AttrTerm}
use Rattle.ir_event.specs.trees.declared.value.Value.{Value}
use Rattle.ir_event.specs.trees.declared.place.Place.{Place}
use Rattle.ir_event.specs.trees.Tree.{RegionOf, empty, block, head, regions}
use Rattle.ir_event.specs.trees.Meaning.{Operation}
use Rattle.ir_event.specs.tree_laws.Values.{region_at}
use Rattle.rewriter_machine.specs.Edits.{Erase}
use Rattle.patterns_soundness.specs.base.Keeps.{given}
use Rattle.patterns_soundness.specs.base.Words.{named}
use Rattle.patterns_soundness.specs.base.Looks.{Header, Ended, when, is_verified, known, ended, body}
use Rattle.patterns_soundness.specs.base.Makes.{results_from}
use Rattle.patterns_soundness.specs.base.Opening.{Loop, chosen, by_condition, never, by_bounds, by_end, loop_from, open_branch}
use Rattle.patterns_soundness.specs.base.Opening.{open_loop, stop_loop, reading, once}
use Rattle.patterns_soundness.specs.base.Rules.{rule}
use Rattle.ir_event.specs.tree_laws.Members.{In}
use Rattle.patterns_soundness.specs.base.declared.rule.Rule.TheVariants.{OpenBranch, OpenLoop, StopLoop}
use Rattle.patterns_soundness.proofs.of_base.Dispatch.{only_listed}
use Rattle.patterns_soundness.specs.Alike.{Same, ShowsAlike, EndsAlike, shape_of}
use Rattle.patterns_soundness.specs.Soundness.{Soundness}
use Rattle.patterns_soundness.proofs.Near.{none_there, still, tested, either, of_some, of_known, still_replacing, open_fine, Fine}
use Rattle.patterns_soundness.proofs.Looking.{given_alike, when_alike, if_alike, known_alike, number_alike, given_both}
use Rattle.patterns_soundness.proofs.Accepting.{are_accepted_at}

module _ (t : Operation) (n : ℕ) (place : Place) (o : Operation) where
  abbrev h : Header
  h = head o

  abbrev x : ℕ
  x = h.id

  choose : (g : RegionOf (List ℕ) TypeTerm AttrTerm) (r : ℕ) → Fine place o (chosen t place o g r)
  choose empty r = still place o _ refl
  choose (block args os) r = of_known place o (body t o r) _ (λ e k. open_fine t place o r e [] e.last.operands k)

  condition : (vs : List Value) → Fine place o (by_condition t place o vs)
  condition [] = none_there place o
  condition (c ∷ []) = of_some place o (known t c) _ (λ k. of_some place o (region_at (cond (eqb k.1 0) 1 0) (regions o)) _ (λ g. choose g (cond (eqb k.1 0) 1 0)))
  condition (c ∷ d ∷ vs) = none_there place o

  bounds : (l : Loop) → Fine place o (by_bounds t place o l)
  bounds l = of_some place o (known t l.lower) _ (λ low. of_some place o (known t l.upper) _ (λ high. either place o _ _ _
      (of_some place o (known t l.step) _ (λ step. tested place o _ _ (of_known place o (body t o 0) _ (λ e k. open_fine t place o 0 e (l.lower ∷ l.inits) e.last.operands k))))
      (still place o (never t place o l) (still_replacing x place (results_from x 0 l.inits) l.inits (Erase x ∷ []) refl))))

  ends : (e : Ended) → body t o 0 ≡ Some e → (vs : List Value) → Fine place o (by_end t place o e vs)
  ends e k [] = none_there place o
  ends e k (c ∷ handed) = tested place o _ _ (open_fine t place o 0 e h.operands handed k)

  near_open_branch : Fine place o (open_branch t place o)
  near_open_branch = tested place o _ _ (condition h.operands)

  near_open_loop : Fine place o (open_loop t place o)
  near_open_loop = tested place o _ _ (of_some place o (loop_from h.operands) _ bounds)

  near_stop_loop : Fine place o (stop_loop t place o)
  near_stop_loop = tested place o _ _ (of_known place o (body t o 0) _ (λ e k. ends e k e.last.operands))

module _ (t u : Operation) (f g : Place) (o p : Operation) (same : head o ≡ head p) (operands : (v : Value) → In v (head o).operands → ShowsAlike t u v) (ends : EndsAlike t u o p) where
  -- the last operations of two blocks
  last_same : (r : ℕ) (e d : Ended) → given (region_at r (regions o)) ended ≡ Some e → given (region_at r (regions p)) ended ≡ Some d → e.last ≡ d.last
  last_same r e d i j =
      let k : Some e.last ≡ Some d.last = sym (ap (option_map (λ (w : Ended). w.last)) i) ∙ ends.lasts r ∙ ap (option_map (λ (w : Ended). w.last)) j in
      cc

  both_end : (r : ℕ) → Same (given (region_at r (regions o)) ended) (given (region_at r (regions p)) ended)
  both_end r = sym (kept (given (region_at r (regions o)) ended)) ∙ ap is_some (ends.lasts r) ∙ kept (given (region_at r (regions p)) ended)
    where
      kept : (a : Option Ended) → is_some (option_map (λ (w : Ended). w.last) a) ≡ is_some a
      kept None = refl
      kept (Some w) = refl

  verified_same : (r : ℕ) (e d : Ended) → given (region_at r (regions o)) ended ≡ Some e → given (region_at r (regions p)) ended ≡ Some d → is_verified t e.last ≡ is_verified u d.last
  verified_same r e d i j = ends.verified r e.last (ap (option_map (λ (w : Ended). w.last)) i) ∙ ap (is_verified u) (last_same r e d i j)

  body_alike : (r : ℕ) → Same (body t o r) (body u p r)
  body_alike r = given_both (given (region_at r (regions o)) ended) (given (region_at r (regions p)) ended) _ _ (both_end r) (λ e d i j. when_alike _ _ _ _ (verified_same r e d i j) refl)

  body_ended : (t o : Operation) (r : ℕ) (e : Ended) → body t o r ≡ Some e → given (region_at r (regions o)) ended ≡ Some e
  body_ended t o r e i = go (given (region_at r (regions o)) ended) refl i
    where
      pick : (b : Bool) (x : Ended) → when b (Some x) ≡ Some e → x ≡ e
      pick true x k = cc
      pick false x k = absurd cc

      go : (a : Option Ended) → given (region_at r (regions o)) ended ≡ a → given a (λ x. when (is_verified t x.last) (Some x)) ≡ Some e → given (region_at r (regions o)) ended ≡ Some e
      go None j k = absurd cc
      go (Some x) j k = j ∙ ap Some (pick (is_verified t x.last) x k)

  region_alike : (r : ℕ) → Same (given (region_at r (regions o)) (λ a. chosen t f o a r)) (given (region_at r (regions p)) (λ a. chosen u g p a r))
  region_alike r = go (region_at r (regions o)) (region_at r (regions p)) (ends.shapes r)
    where
      go : (a b : Option (RegionOf (List ℕ) TypeTerm AttrTerm)) → shape_of a ≡ shape_of b → Same (given a (λ z. chosen t f o z r)) (given b (λ z. chosen u g p z r))
      go None None e = refl
      go None (Some empty) e = absurd cc
      go None (Some (block args os)) e = absurd cc
      go (Some empty) None e = absurd cc
      go (Some empty) (Some empty) e = refl
      go (Some empty) (Some (block args os)) e = absurd cc
      go (Some (block args os)) None e = absurd cc
      go (Some (block args os)) (Some empty) e = absurd cc
      go (Some (block args os)) (Some (block bs us)) e = given_both (body t o r) (body u p r) _ _ (body_alike r) (λ x y i j. refl)

  condition_alike : (vs : List Value) → ((v : Value) → In v vs → ShowsAlike t u v) → Same (by_condition t f o vs) (by_condition u g p vs)
  condition_alike [] h = refl
  condition_alike (c ∷ []) h = given_alike (known t c) (known u c) _ _ (known_alike t u c (h c (inl refl))) (λ k i. region_alike (cond (eqb k.1 0) 1 0))
  condition_alike (c ∷ d ∷ vs) h = refl

  same_open_branch : Same (open_branch t f o) (open_branch u g p)
  same_open_branch = when_alike _ _ _ _ (ap (λ (h : Header). named (codes "scf.if") h.name) same) (condition_alike (head o).operands operands ∙ ap (λ (h : Header). is_some (by_condition u g p h.operands)) same)

  -- loops
  loop_operands : (vs : List Value) (l : Loop) → loop_from vs ≡ Some l → In l.lower vs × (In l.upper vs × In l.step vs)
  loop_operands [] l e = absurd cc
  loop_operands (a ∷ []) l e = absurd cc
  loop_operands (a ∷ b ∷ []) l e = absurd cc
  loop_operands (a ∷ b ∷ c ∷ vs) l e =
      let w : record { lower = a; upper = b; step = c; inits = vs } ≡ l = cc in
      (inl (ap (λ (z : Loop). z.lower) (sym w)), (inr (inl (ap (λ (z : Loop). z.upper) (sym w))), inr (inr (inl (ap (λ (z : Loop). z.step) (sym w))))))

  once_alike : (l : Loop) → Same (once t f o l) (once u g p l)
  once_alike l = given_both (body t o 0) (body u p 0) _ _ (body_alike 0) (λ x y i j. refl)

  same_open_loop : Same (open_loop t f o) (open_loop u g p)
  same_open_loop = when_alike _ _ _ _ (ap (λ (h : Header). named (codes "scf.for") h.name) same)
      (given_alike (loop_from (head o).operands) (loop_from (head p).operands) _ _ (ap (λ (h : Header). loop_from h.operands) same) (λ l e.
      let w = loop_operands (head o).operands l e in
      given_alike (known t l.lower) (known u l.lower) _ _ (known_alike t u l.lower (operands l.lower w.0)) (λ low i.
      given_alike (known t l.upper) (known u l.upper) _ _ (known_alike t u l.upper (operands l.upper w.1.0)) (λ high j.
      if_alike (int_lt (reading low) (reading high)) _ _ _ _ _ refl
      (given_alike (known t l.step) (known u l.step) _ _ (known_alike t u l.step (operands l.step w.1.1)) (λ s k. when_alike _ _ _ _ refl (once_alike l)))
      refl))))

  end_alike : (e d : Ended) (vs : List Value) → ((v : Value) → In v vs → ShowsAlike t u v) → Same (by_end t f o e vs) (by_end u g p d vs)
  end_alike e d [] h = refl
  end_alike e d (c ∷ vs) h = when_alike _ _ _ _ (number_alike t u 0 c (h c (inl refl))) refl

  same_stop_loop : Same (stop_loop t f o) (stop_loop u g p)
  same_stop_loop = when_alike _ _ _ _ (ap (λ (h : Header). named (codes "scf.while") h.name) same)
      (given_both (body t o 0) (body u p 0) _ _ (body_alike 0) (λ e d i j.
      let a = body_ended t o 0 e i in
      let b = body_ended u p 0 d j in
      end_alike e d e.last.operands (λ v h. ends.operands 0 e.last (ap (option_map (λ (w : Ended). w.last)) a) v h)
      ∙ ap (λ (h : Header). is_some (by_end u g p d h.operands)) (last_same 0 e d a b)))

pub open_branch_facts : Soundness OpenBranch
unfolding rule
open_branch_facts = record {
  keeps = tt;
  listed = only_listed OpenBranch;
  near = λ lowers t n place o. (near_open_branch t n place o).each;
  alike = λ lowers t u n k f g o p looks. same_open_branch t u f g o p looks.heads looks.dominated_by.operands looks.ends;
  accepted = are_accepted_at OpenBranch;
  makes = λ converts. absurd cc;
}

pub open_loop_facts : Soundness OpenLoop
unfolding rule
open_loop_facts = record {
  keeps = tt;
  listed = only_listed OpenLoop;
  near = λ lowers t n place o. (near_open_loop t n place o).each;
  alike = λ lowers t u n k f g o p looks. same_open_loop t u f g o p looks.heads looks.dominated_by.operands looks.ends;
  accepted = are_accepted_at OpenLoop;
  makes = λ converts. absurd cc;
}

pub stop_loop_facts : Soundness StopLoop
unfolding rule
stop_loop_facts = record {
  keeps = tt;
  listed = only_listed StopLoop;
  near = λ lowers t n place o. (near_stop_loop t n place o).each;
  alike = λ lowers t u n k f g o p looks. same_stop_loop t u f g o p looks.heads looks.dominated_by.operands looks.ends;
  accepted = are_accepted_at StopLoop;
  makes = λ converts. absurd cc;
}
