-- Proofs about listeners and their observable state.
use Rattle.std.proofs.Common.{◌≡◌, ◌∙◌, ap, ℕ, suc, List, [], ◌∷◌, Bool, true, false, cond, Option, Some, None, refl, arith, subst}
use Rattle.std.specs.Prelude.{is_some}
use Rattle.std.specs.Option.{option_map}
use Rattle.std.specs.List.{AllZip, find, All}
use Rattle.ir_event.specs.types.Things.{ContextModel}
use Rattle.ir_event.specs.declared.event.Event.{Event}
use Rattle.ir_event.specs.Modules.{Module, Node}
use Rattle.ir_event.specs.Listener.{Listener}
use Rattle.ir_event.specs.Panels.{AllNotified, is_kind as has_this_kind, has_kind as panel_has, Detached, BegunAgain}
use Rattle.mlir_work_transforms.specs.rewriter.Panels.{Shown, IsSame, Ages, shown, all_shown, is_kind, has_kind, Detached as DetachedShown, BegunAgain as BegunShown}
use Rattle.mlir_work_transforms.proofs.of_rewriter.Panels.{got_shown, position_shown, removed_shown, set_shown}

same_self : (a : Shown) → IsSame a a
same_self a = record { kind = refl; analysis = λ t. refl }

-- analyses that don't change
pub all_stay : (ks : List Shown) → AllZip Ages ks ks
all_stay [] = tt
all_stay (k ∷ ks) = (record { same = same_self k; stale = λ h. h }, all_stay ks)

module _ {B : Type 0} (meaning : B → Listener) where
  pub kind_shown : (kind : ℕ) (bs : List B) → has_kind kind (all_shown meaning bs) ≡ panel_has meaning kind bs
  kind_shown kind bs = ap is_some ((position_shown meaning) kind bs)

  -- finding the listener of a kind commutes with showing the listeners
  pub find_shown : (kind : ℕ) (bs : List B) → find (is_kind kind) (all_shown meaning bs) ≡ option_map (λ b. shown (meaning b)) (find (has_this_kind meaning kind) bs)
  find_shown kind [] = refl
  find_shown kind (b ∷ bs) = let ih = find_shown kind bs in elim (has_this_kind meaning kind b) as (λ t. cond t (Some (shown (meaning b))) (find (is_kind kind) (all_shown meaning bs)) ≡ option_map (λ b. shown (meaning b)) (cond t (Some b) (find (has_this_kind meaning kind) bs))) [ true ↦ refl | false ↦ ih ]

  -- an element that was found has every property that all elements have
  pub find_has : (P : B → Type 0) (p : B → Bool) (bs : List B) (x : B) → All P bs → find p bs ≡ Some x → P x
  find_has P p [] x h e = absurd (let n : None ≡ Some x = e in cc)
  find_has P p (b ∷ bs) x h e = let Q : (t : Bool) → cond t (Some b) (find p bs) ≡ Some x → P x = λ t. elim t as (λ t. cond t (Some b) (find p bs) ≡ Some x → P x) [ true ↦ λ e. (let same : b ≡ x = cc in subst P same (h 0 b (omega arith))) | false ↦ λ e. find_has P p bs x (λ k d l. h (suc k) d (omega arith)) e ] in Q (p b) e

  -- a notified listener is an older version of itself
  pub ages_notified : (e : Event) (c : ContextModel) (n : Module) (see : ℕ → Option Node) (xs ys : List B) → AllNotified meaning e c n see xs ys → AllZip Ages (all_shown meaning xs) (all_shown meaning ys)
  ages_notified e c n see [] [] h = tt
  ages_notified e c n see [] (y ∷ ys) h = absurd h
  ages_notified e c n see (x ∷ xs) [] h = absurd h
  ages_notified e c n see (x ∷ xs) (y ∷ ys) h = (record { same = record { kind = h.0.same.kind; analysis = h.0.same.analysis }; stale = h.0.stale }, ages_notified e c n see xs ys h.1)

  -- detaching a listener, and computing it again
  pub detached_shown : (kind : ℕ) (xs ys : List B) → Detached meaning kind xs ys → DetachedShown kind (all_shown meaning xs) (all_shown meaning ys)
  detached_shown kind xs ys h = record { place = h.place; is = (position_shown meaning) kind xs ∙ h.is; rest = ap (all_shown meaning) h.rest ∙ (removed_shown meaning) xs h.place }

  pub begun_shown : (kind : ℕ) (P : Listener → Type 0) (stale : Bool) (xs ys : List B) → ((b : B) → P (meaning b) → (meaning b).stale ≡ stale) → BegunAgain meaning kind P xs ys → BegunShown kind stale (all_shown meaning xs) (all_shown meaning ys)
  begun_shown kind P stale xs ys f h =
      record {
        place = h.place;
        before = shown (meaning h.before);
        after = shown (meaning h.after);
        is = (position_shown meaning) kind xs ∙ h.is;
        was = (got_shown meaning) xs h.place h.before h.was;
        same = record { kind = h.same.kind; analysis = h.same.analysis };
        gives = f h.after h.gives;
        rest = ap (all_shown meaning) h.rest ∙ (set_shown meaning) xs h.place h.after;
      }
