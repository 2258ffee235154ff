-- The marking of reached definitions. Each marked definition leaves the set of unmarked ones, and the operations that
-- waited for it become pending.
use Rattle.std.specs.Prelude.{◌≡◌, ◌⊎◌, ℕ, List, [], ◌∷◌, ◌++◌, eqb, false, Option, Some, None}
use Rattle.ir_event.specs.tree_laws.Members.{In}
use Rattle.listeners.specs.Reached.{IsReached}

-- the unmarked private definitions, each with the operations that wait for it
abbrev pub Left : Type 0
Left = ℕ → Option (List ℕ)

module _ (IsPrivate : ℕ → Type 0) (Under Reaches : ℕ → ℕ → Type 0) where
  -- operation y waits for an unmarked definition that contains it
  pub record Waits (left : Left) (y : ℕ) : Type 0 where
    pub definition : ℕ
    pub waiting : List ℕ
    pub is_left : left definition ≡ Some waiting
    pub is_in : In y waiting
    pub under : Under y definition

  -- everything that y reaches is marked
  abbrev pub IsDone : Left → ℕ → Type 0
  IsDone left y = (x : ℕ) → Reaches y x → left x ≡ None

  -- y is in one of the lists of the queue
  abbrev pub IsPending : List (List ℕ) → ℕ → Type 0
  IsPending queue y = (ws : List ℕ) × In ws queue × In y ws

  -- marked definitions are reached; and each operation is still to be visited, waits, or is done
  pub record Marks (todo : List ℕ) (queue : List (List ℕ)) (left : Left) : Type 0 where
    pub sound : (x : ℕ) → IsPrivate x → left x ≡ None → IsReached IsPrivate Under Reaches x
    pub only : (x : ℕ) (ws : List ℕ) → left x ≡ Some ws → IsPrivate x
    pub placed : (y : ℕ) → In y todo ⊎ (IsPending queue y ⊎ (Waits left y ⊎ IsDone left y))

  -- these definitions were marked
  pub record Removed (xs : List ℕ) (queue : List (List ℕ)) (left : Left) (queued : List (List ℕ))
      (after : Left) : Type 0 where
    pub shrinks : (z : ℕ) → left z ≡ None → after z ≡ None
    pub gone : (x : ℕ) → In x xs → after x ≡ None
    pub keeps : (todo : List ℕ) → ((x : ℕ) → In x xs → IsPrivate x → IsReached IsPrivate Under Reaches x)
        → Marks todo queue left → Marks todo queued after

  -- these operations were visited: each waits now, or what it reaches was marked
  pub record Considered (ys : List ℕ) (queue : List (List ℕ)) (left : Left) (queued : List (List ℕ))
      (after : Left) : Type 0 where
    pub shrinks : (z : ℕ) → left z ≡ None → after z ≡ None
    pub keeps : (todo : List ℕ) → Marks (ys ++ todo) queue left → Marks todo queued after

-- x was marked
pub record Dropped (x : ℕ) (before after : Left) : Type 0 where
  pub gone : after x ≡ None
  pub others : (z : ℕ) → eqb x z ≡ false → after z ≡ before z

-- operation y now waits for definition p
pub record Waiting (y p : ℕ) (ws : List ℕ) (before after : Left) : Type 0 where
  pub was : before p ≡ Some ws
  pub is : after p ≡ Some (ws ++ y ∷ [])
  pub others : (z : ℕ) → eqb p z ≡ false → after z ≡ before z
