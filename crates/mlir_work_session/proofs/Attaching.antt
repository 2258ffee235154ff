-- Proofs about attaching listeners.
use Rattle.std.proofs.Common.{◌≡◌, ◌∙◌, ap, refl, ℕ, ◌+◌, List, [], ◌∷◌, ◌++◌, length, arith, Bool, true, false, ◌&&◌, Option, Some, None, is_none}
use Rattle.ir_event.specs.types.Things.{ContextModel}
use Rattle.ir_event.specs.types.declared.refusal.Refusal.{Refusal}
use Rattle.ir_event.specs.types.declared.refusal.Refusal.TheVariants.{KindTaken, Memory}
use Rattle.ir_event.specs.Modules.{Module}
use Rattle.ir_event.specs.Listener.{Listener}
use Rattle.ir_event.specs.Panels.{AttachedLast, HandedBack}
use Rattle.mlir_work_transforms.specs.rewriter.Panels.{Shown, shown, all_shown, has_kind}
use Rattle.mlir_work_session.specs.Output.{AttachedOrRefused, Attaches, box_line}
use Rattle.mlir_work_session.proofs.Panels.{kind_shown}
use Rattle.mlir_work_transforms.proofs.of_rewriter.Panels.{shown_last}

module _ {B : Type 0} (meaning : B → Listener) where
  pub tried_added : (c : ContextModel) (m : Module) (b : B) (xs ys : List B) → AttachedLast meaning c m b xs ys → AttachedOrRefused (shown (meaning b)) (all_shown meaning xs) (all_shown meaning ys) None
  tried_added c m b xs ys h = (kind_shown meaning (meaning b).kind xs ∙ h.free, record { begun = shown (meaning h.begun); same = record { kind = h.same.kind; analysis = h.same.analysis }; stale = (meaning h.begun).fresh c m h.agrees; last = ap (all_shown meaning) h.last ∙ (shown_last meaning) xs h.begun })

  pub tried_back : (b back : B) (xs ys : List B) (refusal : Refusal) → HandedBack meaning xs b refusal back → ys ≡ xs → AttachedOrRefused (shown (meaning b)) (all_shown meaning xs) (all_shown meaning ys) (Some refusal)
  tried_back b back xs ys KindTaken h e = (kind_shown meaning (meaning b).kind xs ∙ h.1, ap (all_shown meaning) e)
  tried_back b back xs ys Memory h e = (kind_shown meaning (meaning b).kind xs ∙ h.1, ap (all_shown meaning) e)
  tried_back b back xs ys _ h e = absurd h

  -- attaching one listener and then the remaining ones is attaching all of them
  pub box_step : (left more : List B) (b : B) (old mid new : List Shown) (candidates : Option Refusal) (there : Bool) (rest : List ℕ) →
      left ≡ b ∷ more → AttachedOrRefused (shown (meaning b)) old mid candidates → Attaches (all_shown meaning more) mid new there rest → Attaches (all_shown meaning left) old new (is_none candidates && there) (box_line (meaning b).kind candidates ++ rest)
  box_step left more b old mid new candidates there rest e t h = rw e (mid, candidates, there, rest, t, h, refl, refl)

  pub no_box_left : (left : List B) (old : List Shown) → left ≡ [] → Attaches (all_shown meaning left) old old true []
  no_box_left left old e = rw e (refl, refl, refl)

-- attaching a listener may always be refused
some_tried : (b : Shown) (old : List Shown) → (candidates : Option Refusal) × AttachedOrRefused b old old candidates
some_tried b old = go (has_kind b.kind old) refl
  where
    go : (t : Bool) → has_kind b.kind old ≡ t → (candidates : Option Refusal) × AttachedOrRefused b old old candidates
    go true e = (Some KindTaken, (e, refl))
    go false e = (Some Memory, (e, refl))

pub some_attaches : (bs old : List Shown) → (new : List Shown) × (accepted : Bool) × (out : List ℕ) × Attaches bs old new accepted out
some_attaches [] old = (old, true, [], (refl, refl, refl))
some_attaches (b ∷ bs) old =
    let candidates = some_tried b old in
    let more = some_attaches bs old in
    (more.0, is_none candidates.0 && more.1, box_line b.kind candidates.0 ++ more.2, (old, candidates.0, more.1, more.2, candidates.1, more.3, refl, refl))

pub one_less : {X : Type 0} (xs ys : List X) (x : X) (n m : ℕ) → xs ≡ x ∷ ys → m + 1 ≡ n → length xs ≡ n → length ys ≡ m
one_less xs ys x n m e f h = let g : length (x ∷ ys) ≡ n = rw e at h in omega arith

pub none_of_none : {X : Type 0} (xs : List X) (n : ℕ) → length xs ≡ n → n ≡ 0 → xs ≡ []
none_of_none [] n h e = refl
none_of_none (x ∷ xs) n h e = absurd (omega arith)
