-- What was found while a machine's states are walked.
use Rattle.std.specs.Prelude.{◌≡◌, ◌<◌, ◌≤◌, ◌++◌, ◌⊎◌, ℕ, suc, List, [], ◌∷◌, Bool, true, false, Option, Some, None, length, get_or, slice_get}
use Rattle.width_claims.specs.declared.origin.Origin.{Origin}
use Rattle.width_claims.specs.declared.transition.Transition.{Transition}
use Rattle.width_claims.specs.declared.visit.Visit.{Visit}
use Rattle.width_claims.specs.declared.visit.Visit.TheVariants as visit
use Rattle.width_claims.specs.Runs.{reached, AreLetters, AreTransitions}

-- each state but the first comes from one before it
abbrev pub AreBefore : List Origin → Type 0
AreBefore os = (i : ℕ) (o : Origin) → 0 < i → slice_get os i ≡ Some o → o.from < i

-- a state's origin is what leads to it
abbrev pub ComesFrom : (ℕ → ℕ → ℕ) → ℕ → List ℕ → ℕ → Origin → Type 0
ComesFrom after n states i o = (o.from < i) × (o.letter < n) × (s : ℕ) × (slice_get states o.from ≡ Some s) × (slice_get states i ≡ Some (after s o.letter))

abbrev pub AreOrigins : (ℕ → ℕ → ℕ) → ℕ → List ℕ → List Origin → Type 0
AreOrigins after n states os = (i : ℕ) (o : Origin) → 0 < i → slice_get os i ≡ Some o → ComesFrom after n states i o

-- how many letters lead to each state
abbrev pub depth : List ℕ → ℕ → ℕ
depth ds i = get_or ds i 0

abbrev pub AreDepths : List ℕ → List Origin → Type 0
AreDepths ds os =
    (length ds ≡ length os) × (depth ds 0 ≡ 0) × ((i : ℕ) (o : Origin) → 0 < i → slice_get os i ≡ Some o → depth ds i ≡ suc (depth ds o.from))

-- no state comes before one to which fewer letters lead, and from a place on there are at most one letter's differences
abbrev pub AreLayers : List ℕ → ℕ → Type 0
AreLayers ds most =
    ((i j : ℕ) → i ≤ j → j < length ds → depth ds i ≤ depth ds j)
    × ((i j : ℕ) → most ≤ i → i < length ds → j < length ds → depth ds j ≤ suc (depth ds i))

-- letters lead to the state at a place and on by one more, whatever machine these are the origins of
abbrev pub LeadsTo : List Origin → ℕ → ℕ → List ℕ → Type 0
LeadsTo os place x word =
    (after : ℕ → ℕ → ℕ) (n : ℕ) (states : List ℕ) (start s : ℕ) → AreOrigins after n states os
    → slice_get states 0 ≡ Some start → slice_get states place ≡ Some s → x < n
    → AreLetters n word × (reached after start word ≡ after s x) × ((depths : List ℕ) → AreDepths depths os → length word ≡ suc (depth depths place))

-- the state after a letter is accepted and was found, at a depth of at most one letter more
abbrev pub IsVisited : (ℕ → ℕ → ℕ) → (ℕ → Bool) → List ℕ → List ℕ → ℕ → ℕ → ℕ → Type 0
IsVisited after accepts states ds s d x = (accepts (after s x) ≡ true) × ((i : ℕ) × (slice_get states i ≡ Some (after s x)) × (depth ds i ≤ suc d))

-- the first letters of a state were tried
abbrev pub AreVisited : (ℕ → ℕ → ℕ) → (ℕ → Bool) → List ℕ → List ℕ → ℕ → ℕ → ℕ → Type 0
AreVisited after accepts states ds s d n = (x : ℕ) → x < n → IsVisited after accepts states ds s d x

-- and all letters of the first states
abbrev pub AllVisited : (ℕ → ℕ → ℕ) → (ℕ → Bool) → ℕ → List ℕ → List ℕ → ℕ → Type 0
AllVisited after accepts n states ds most = (i s : ℕ) → i < most → slice_get states i ≡ Some s → AreVisited after accepts states ds s (depth ds i) n

-- the states that were found, the start first; all letters of the first `most` states were tried
pub record WalkedBy (after : ℕ → ℕ → ℕ) (accepts : ℕ → Bool) (n : ℕ) (start : Option ℕ) (states : List ℕ) (os : List Origin) (ds : List ℕ) (most : ℕ) : Type 0 where
  pub first : slice_get states 0 ≡ start
  pub long : length os ≡ length states
  pub origins : AreOrigins after n states os
  pub deep : AreDepths ds os
  pub layers : AreLayers ds most
  pub visited : AllVisited after accepts n states ds most

abbrev pub Walked : (ℕ → ℕ → ℕ) → (ℕ → Bool) → ℕ → Option ℕ → List ℕ → List Origin → ℕ → Type 0
Walked after accepts n start states os most = (ds : List ℕ) × WalkedBy after accepts n start states os ds most

-- the targets of the first transitions from a state were found
abbrev pub TargetsAreFound : (ℕ → ℕ → ℕ) → (ℕ → Bool) → List ℕ → List ℕ → ℕ → ℕ → List Transition → ℕ → Type 0
TargetsAreFound after accepts states ds s d ts k = (i : ℕ) (t : Transition) → i < k → slice_get ts i ≡ Some t → IsVisited after accepts states ds s d t.letter

-- all transitions from the state at a place
abbrev pub AreFrom : (ℕ → ℕ → ℕ) → ℕ → List ℕ → ℕ → List Transition → Type 0
AreFrom after n states place ts = (s : ℕ) × (slice_get states place ≡ Some s) × AreTransitions (after s) n ts

-- while a state is gone through: its first transitions were tried
abbrev pub Goes : (ℕ → ℕ → ℕ) → (ℕ → Bool) → ℕ → Option ℕ → List ℕ → List Origin → ℕ → ℕ → List Transition → ℕ → Type 0
Goes after accepts n start states os place s ts k =
    (ds : List ℕ) × WalkedBy after accepts n start states os ds place × (slice_get states place ≡ Some s) × TargetsAreFound after accepts states ds s (depth ds place) ts k

abbrev pub GoesThrough : (ℕ → ℕ → ℕ) → (ℕ → Bool) → ℕ → Option ℕ → List ℕ → List Origin → ℕ → List Transition → ℕ → Type 0
GoesThrough after accepts n start states os place ts k = (s : ℕ) × AreTransitions (after s) n ts × Goes after accepts n start states os place s ts k

-- after a search the state is among those found, and no other was dropped
abbrev pub Found : ℕ → Origin → List ℕ → List Origin → List ℕ → List Origin → Type 0
Found s o states os more all =
    (((i : ℕ) × (slice_get states i ≡ Some s)) × (more ≡ states) × (all ≡ os)) ⊎ ((more ≡ states ++ s ∷ []) × (all ≡ os ++ o ∷ []))

-- the facts after all transitions from one more state were tried, or after one whose target isn't accepted
abbrev pub WentThrough : (ℕ → ℕ → ℕ) → (ℕ → Bool) → ℕ → Option ℕ → List ℕ → List Origin → ℕ → Option ℕ → Type 0
WentThrough after accepts n start states os place None = Walked after accepts n start states os (suc place)
WentThrough after accepts n start states os place (Some x) =
    Walked after accepts n start states os place × ((s : ℕ) × (slice_get states place ≡ Some s) × (x < n) × (accepts (after s x) ≡ false))

-- the facts after a visit to the state at a place
abbrev pub Visited : (ℕ → ℕ → ℕ) → (ℕ → Bool) → ℕ → Option ℕ → List ℕ → List Origin → ℕ → Visit → Type 0
Visited after accepts n start states os place (visit.Passes left) = WentThrough after accepts n start states os place None
Visited after accepts n start states os place (visit.Fails x) = WentThrough after accepts n start states os place (Some x)
Visited after accepts n start states os place visit.Missing = Walked after accepts n start states os place × (length states ≤ place)
Visited after accepts n start states os place visit.TooMany = Unit {0}
