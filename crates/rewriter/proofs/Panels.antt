-- Listeners, and what is shown of them.
use Rattle.std.proofs.Common.{◌≡◌, ◌∙◌, ap, sym, ℕ, zero, suc, List, [], ◌∷◌, ◌++◌, take, drop, Bool, true, false, cond, Option, Some, None, refl, arith, subst, length, slice_get, ◌<◌}
use Rattle.std.specs.Prelude.{remove, slice_set, position, is_some, nat_lt}
use Rattle.std.specs.Option.{option_map}
use Rattle.std.specs.List.{AllZip, find, All, position_or_len}
use Rattle.std.proofs.lemmas.List.{length-map, map-append, take-map, drop-map}
use Rattle.std.proofs.lemmas.Bool.{ltb-true, lt-ltb}
use Rattle.std.proofs.lemmas.List.Folds.{find_at}
use Rattle.std.proofs.lemmas.Option.{none-some, slice_get_within}
use Rattle.ir_event.specs.types.Things.{ContextModel}
use Rattle.ir_event.specs.declared.event.Event.{Event}
use Rattle.ir_event.specs.Modules.{Module, Node}
use Rattle.ir_event.specs.Listener.{Listener}
use Rattle.ir_event.specs.Panels.{AllNotified, AllFollowed, AttachedLast, IsListener, is_kind as has_this_kind, has_kind as panel_has, Detached, BegunAgain}
use Rattle.rewriter.specs.Panels.{Shown, IsSame, Ages, shown, all_shown, is_kind, has_kind, Attached as AttachedShown, Detached as DetachedShown, BegunAgain as BegunShown}

pub within_some : {X : Type 0} (xs : List X) (i : ℕ) → i < length xs → None ≡ slice_get xs i → ⊥
within_some [] i lt e = omega (arith, lt)
within_some (x ∷ xs) zero lt e = none-some _ e
within_some (x ∷ xs) (suc i) lt e = within_some xs i (omega (arith, lt)) e

pub same_self : (a : Shown) → IsSame a a
same_self a = record { kind = refl; analysis = λ t. refl }

-- unchanged listeners count as aged (`Ages`)
pub all_stay : (ks : List Shown) → AllZip Ages ks ks
all_stay [] = tt
all_stay (k ∷ ks) = (record { same = same_self k; stale = λ h. h }, all_stay ks)

module _ {B : Type 0} (meaning : B → Listener) where
  pub found_shown : (kind : ℕ) (bs : List B) → position_or_len (is_kind kind) (all_shown meaning bs) ≡ position_or_len (has_this_kind meaning kind) bs
  found_shown kind [] = refl
  found_shown kind (b ∷ bs) = rw (found_shown kind bs) refl

  -- the position of the listener of a kind in the list of shown listeners
  pub position_shown : (kind : ℕ) (bs : List B) → position (is_kind kind) (all_shown meaning bs) ≡ position (has_this_kind meaning kind) bs
  position_shown kind bs = rw (found_shown kind bs, length-map) refl

  pub kind_shown : (kind : ℕ) (bs : List B) → has_kind kind (all_shown meaning bs) ≡ panel_has meaning kind bs
  kind_shown kind bs = ap is_some (position_shown kind bs)

  -- the listener of a kind, in the list of shown listeners
  pub find_shown : (kind : ℕ) (bs : List B) → find (is_kind kind) (all_shown meaning bs) ≡ option_map (λ b. shown (meaning b)) (find (has_this_kind meaning kind) bs)
  find_shown kind [] = refl
  find_shown kind (b ∷ bs) = let ih = find_shown kind bs in elim (has_this_kind meaning kind b) as (λ t. cond t (Some (shown (meaning b))) (find (is_kind kind) (all_shown meaning bs)) ≡ option_map (λ b. shown (meaning b)) (cond t (Some b) (find (has_this_kind meaning kind) bs))) [ true ↦ refl | false ↦ ih ]

  -- a found listener has every property that all have
  pub find_has : (P : B → Type 0) (p : B → Bool) (bs : List B) (x : B) → All P bs → find p bs ≡ Some x → P x
  find_has P p [] x h e = absurd (let n : None ≡ Some x = e in cc)
  find_has P p (b ∷ bs) x h e = let Q : (t : Bool) → cond t (Some b) (find p bs) ≡ Some x → P x = λ t. elim t as (λ t. cond t (Some b) (find p bs) ≡ Some x → P x) [ true ↦ λ e. (let same : b ≡ x = cc in subst P same (h 0 b (omega arith))) | false ↦ λ e. find_has P p bs x (λ k d l. h (suc k) d (omega arith)) e ] in Q (p b) e

  -- a notified listener is older
  pub ages_notified : (e : Event) (c : ContextModel) (n : Module) (see : ℕ → Option Node) (xs ys : List B) → AllNotified meaning e c n see xs ys → AllZip Ages (all_shown meaning xs) (all_shown meaning ys)
  ages_notified e c n see [] [] h = tt
  ages_notified e c n see [] (y ∷ ys) h = absurd h
  ages_notified e c n see (x ∷ xs) [] h = absurd h
  ages_notified e c n see (x ∷ xs) (y ∷ ys) h = (record { same = record { kind = h.0.same.kind; analysis = h.0.same.analysis }; stale = h.0.stale }, ages_notified e c n see xs ys h.1)

  pub removed_shown : (bs : List B) (i : ℕ) → all_shown meaning (remove bs i) ≡ remove (all_shown meaning bs) i
  removed_shown bs i = map-append (λ b. shown (meaning b)) (take i bs) (drop (suc i) bs) ∙ (λ j. sym (take-map (λ b. shown (meaning b)) i bs) j ++ sym (drop-map (λ b. shown (meaning b)) (suc i) bs) j)

  pub set_shown : (bs : List B) (i : ℕ) (a : B) → all_shown meaning (slice_set bs i a) ≡ slice_set (all_shown meaning bs) i (shown (meaning a))
  set_shown [] i a = refl
  set_shown (b ∷ bs) zero a = refl
  set_shown (b ∷ bs) (suc i) a = ap (λ ks. shown (meaning b) ∷ ks) (set_shown bs i a)

  pub got_shown : (bs : List B) (i : ℕ) (a : B) → slice_get bs i ≡ Some a → slice_get (all_shown meaning bs) i ≡ Some (shown (meaning a))
  got_shown [] zero a e = absurd cc
  got_shown [] (suc i) a e = absurd cc
  got_shown (b ∷ bs) zero a e = (let same : b ≡ a = cc in ap (λ x. Some (shown (meaning x))) same)
  got_shown (b ∷ bs) (suc i) a e = got_shown bs i a e

  -- a listener that is detached, and one that is resynced
  pub detached_shown : (kind : ℕ) (xs ys : List B) → Detached meaning kind xs ys → DetachedShown kind (all_shown meaning xs) (all_shown meaning ys)
  detached_shown kind xs ys h = record { place = h.place; is = position_shown kind xs ∙ h.is; rest = ap (all_shown meaning) h.rest ∙ removed_shown xs h.place }

  pub begun_shown : (kind : ℕ) (P : Listener → Type 0) (stale : Bool) (xs ys : List B) → ((b : B) → P (meaning b) → (meaning b).stale ≡ stale) → BegunAgain meaning kind P xs ys → BegunShown kind stale (all_shown meaning xs) (all_shown meaning ys)
  begun_shown kind P stale xs ys f h =
      record {
        place = h.place;
        before = shown (meaning h.before);
        after = shown (meaning h.after);
        is = position_shown kind xs ∙ h.is;
        was = got_shown xs h.place h.before h.was;
        same = record { kind = h.same.kind; analysis = h.same.analysis };
        gives = f h.after h.gives;
        rest = ap (all_shown meaning) h.rest ∙ set_shown xs h.place h.after;
      }

  -- a kind with a position is attached
  pub has_placed : (kind place : ℕ) (xs : List B) → position (has_this_kind meaning kind) xs ≡ Some place → has_kind kind (all_shown meaning xs) ≡ true
  has_placed kind place xs e = kind_shown kind xs ∙ ap is_some e

  -- a listener that followed some events is older
  pub ages_followed : (es : List Event) (c : ContextModel) (m : Module) (d : ContextModel) (n : Module) (xs ys : List B) → AllFollowed meaning es c m d n xs ys → AllZip Ages (all_shown meaning xs) (all_shown meaning ys)
  ages_followed es c m d n [] [] h = tt
  ages_followed es c m d n [] (y ∷ ys) h = absurd h
  ages_followed es c m d n (x ∷ xs) [] h = absurd h
  ages_followed es c m d n (x ∷ xs) (y ∷ ys) h = (record { same = record { kind = h.0.same.kind; analysis = h.0.same.analysis }; stale = h.0.stale }, ages_followed es c m d n xs ys h.1)

  -- a listener that is added last
  pub shown_last : (xs : List B) (b : B) → all_shown meaning (xs ++ b ∷ []) ≡ all_shown meaning xs ++ shown (meaning b) ∷ []
  shown_last [] b = refl
  shown_last (x ∷ xs) b = ap (λ ys. shown (meaning x) ∷ ys) (shown_last xs b)

  pub attached_shown : (c : ContextModel) (m : Module) (b : B) (xs ys : List B) → AttachedLast meaning c m b xs ys → AttachedShown (shown (meaning b)) (all_shown meaning xs) (all_shown meaning ys)
  attached_shown c m b xs ys h =
      record {
        begun = shown (meaning h.begun);
        same = record { kind = h.same.kind; analysis = h.same.analysis };
        stale = (meaning h.begun).fresh c m h.agrees;
        last = ap (all_shown meaning) h.last ∙ shown_last xs h.begun;
      }

  -- the result of looking up the listener of a kind
  abbrev pub Found : ℕ → List B → Option B → Type 0
  Found kind xs None = panel_has meaning kind xs ≡ false
  Found kind xs (Some b) = IsListener meaning kind xs b

  pub listener_found : (kind : ℕ) (xs : List B) → Found kind xs (find (has_this_kind meaning kind) xs)
  listener_found kind xs = go (find (has_this_kind meaning kind) xs) (find_at (has_this_kind meaning kind) xs)
    where
      place : ℕ
      place = position_or_len (has_this_kind meaning kind) xs

      absent : (t : Bool) → nat_lt place (length xs) ≡ t → None ≡ slice_get xs place → is_some (cond t (Some place) None) ≡ false
      absent false lt e = refl
      absent true lt e = absurd (within_some xs place (ltb-true place (length xs) lt) e)

      go : (o : Option B) → o ≡ slice_get xs place → Found kind xs o
      go None e = absent (nat_lt place (length xs)) refl e
      go (Some b) e = (place, ap (λ t. cond t (Some place) None) (lt-ltb place (length xs) (slice_get_within xs place b (sym e))), sym e)
