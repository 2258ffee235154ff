-- Lists of listeners.
use Rattle.std.specs.Prelude.{◌≡◌, ℕ, List, [], ◌∷◌, ◌++◌, Bool, true, false, ◌==◌, ◌⊎◌, Option, Some, is_some, position, remove, slice_get, slice_set, map, All}
use Rattle.std.specs.List.{AllZip}
use Rattle.op_registry.specs.types.Things.{ContextModel}
use Rattle.op_registry.specs.types.declared.refusal.Refusal.{Refusal}
use Rattle.op_registry.specs.types.declared.refusal.Refusal.TheVariants.{KindTaken, NoSuchKind, Memory}
use Rattle.ir_event.specs.declared.event.Event.{Event}
use Rattle.ir_event.specs.Modules.{Module, Node}
use Rattle.ir_event.specs.Listener.{Listener, SameAnalysis, Notified, Followed}

-- `B` is a type of listeners, such as a box, and `meaning` gives the meaning of each
module _ {B : Type 0} (meaning : B → Listener) where
  -- the kinds, in order
  abbrev pub kinds_of : List B → List ℕ
  kinds_of bs = map (λ b. (meaning b).kind) bs

  -- whether a listener has this kind
  abbrev pub is_kind : ℕ → B → Bool
  is_kind kind b = (meaning b).kind == kind

  -- whether a listener of this kind is attached
  abbrev pub has_kind : ℕ → List B → Bool
  has_kind kind bs = is_some (position (is_kind kind) bs)

  -- b is the listener of this kind
  abbrev pub IsListener : ℕ → List B → B → Type 0
  IsListener kind bs b = (place : ℕ) × (position (is_kind kind) bs ≡ Some place) × (slice_get bs place ≡ Some b)

  -- each listener agrees with the module, or is stale
  abbrev pub AllKept : ContextModel → Module → List B → Type 0
  AllKept c m = All (λ b. (meaning b).agrees c m ⊎ ((meaning b).stale ≡ true))

  -- each listener was notified of the event while the module was n and these operations were shown; none was added,
  -- removed or moved
  abbrev pub AllNotified : Event → ContextModel → Module → (ℕ → Option Node) → List B → List B → Type 0
  AllNotified e c n shown = AllZip (λ a b. Notified e c n shown (meaning a) (meaning b))

  -- each listener was notified of these events while context and module went from c and m to d and n; none was added,
  -- removed or moved
  abbrev pub AllFollowed : List Event → ContextModel → Module → ContextModel → Module → List B → List B → Type 0
  AllFollowed es c m d n = AllZip (λ a b. Followed es c m d n (meaning a) (meaning b))

  -- the listener was started and added last
  pub record AttachedLast (c : ContextModel) (m : Module) (listener : B) (old new : List B) : Type 0 where
    pub begun : B
    pub last : new ≡ old ++ begun ∷ []
    pub same : SameAnalysis (meaning listener) (meaning begun)
    pub agrees : (meaning begun).agrees c m
    pub free : has_kind (meaning listener).kind old ≡ false

  -- the listener was returned: unchanged because another of its kind is attached, or because memory ran out
  abbrev pub HandedBack : List B → B → Refusal → B → Type 0
  HandedBack old listener KindTaken back = (back ≡ listener) × (has_kind (meaning listener).kind old ≡ true)
  HandedBack old listener Memory back = SameAnalysis (meaning listener) (meaning back) × (has_kind (meaning listener).kind old ≡ false)
  HandedBack old listener _ back = ⊥

  -- the listener of this kind was removed; the others keep their order
  pub record Detached (kind : ℕ) (old new : List B) : Type 0 where
    pub place : ℕ
    pub is : position (is_kind kind) old ≡ Some place
    pub rest : new ≡ remove old place

  -- the listener of this kind was restarted; the others are unchanged
  pub record BegunAgain (kind : ℕ) (P : Listener → Type 0) (old new : List B) : Type 0 where
    pub place : ℕ
    pub before : B
    pub after : B
    pub is : position (is_kind kind) old ≡ Some place
    pub was : slice_get old place ≡ Some before
    pub rest : new ≡ slice_set old place after
    pub same : SameAnalysis (meaning before) (meaning after)
    pub gives : P (meaning after)

  -- the listeners after a refused `resync`
  abbrev pub NotBegunAgain : ℕ → List B → List B → Refusal → Type 0
  NotBegunAgain kind old new NoSuchKind = (new ≡ old) × (has_kind kind old ≡ false)
  NotBegunAgain kind old new Memory = BegunAgain kind (λ b. b.stale ≡ true) old new
  NotBegunAgain kind old new _ = ⊥
