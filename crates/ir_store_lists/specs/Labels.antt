-- Labels that increase along lists, and give the order of two nodes.
use Rattle.std.specs.Prelude.{ℕ, ◌≡◌, ◌+◌, ◌<◌, ◌≤◌, List, [], ◌∷◌, eqb, Bool, false, if◌then◌else◌, get_or, length, slice_set, slice_get, take, Some}
use Rattle.ir_store_lists.specs.Lists.{Lists, has, list_at}

-- the label of a node
abbrev pub label_at : List ℕ → ℕ → ℕ
label_at labels k = get_or labels k 0

-- the labels of a list increase, and the first is above a bound
abbrev pub RisesFrom : List ℕ → ℕ → List ℕ → Type 0
RisesFrom labels low [] = Unit {0}
RisesFrom labels low (k ∷ ks) = (low < label_at labels k) × RisesFrom labels (label_at labels k) ks

-- whether node b is after node a in a list
abbrev pub goes_before : ℕ → ℕ → List ℕ → Bool
goes_before a b [] = false
goes_before a b (k ∷ ks) = if eqb k a then has b ks else goes_before a b ks

-- the label before node t of a list
abbrev pub label_before : List ℕ → ℕ → ℕ → List ℕ → ℕ
label_before labels low t [] = low
label_before labels low t (k ∷ ks) = if eqb k t then low else label_before labels (label_at labels k) t ks

-- the label of the last node of a list; `low` is the label before the list
abbrev pub last_label : List ℕ → ℕ → List ℕ → ℕ
last_label labels low [] = low
last_label labels low (k ∷ ks) = last_label labels (label_at labels k) ks

-- a list from node t on
abbrev pub from : ℕ → List ℕ → List ℕ
from t [] = []
from t (k ∷ ks) = if eqb k t then k ∷ ks else from t ks

-- the labels after some nodes are relabelled, each a gap above the previous one
abbrev pub spread : ℕ → ℕ → List ℕ → List ℕ → List ℕ
spread gap low [] labels = labels
spread gap low (k ∷ ks) labels = spread gap (low + gap) ks (slice_set labels k (low + gap))

-- the last of the new labels
abbrev pub spread_end : ℕ → ℕ → List ℕ → ℕ
spread_end gap low [] = low
spread_end gap low (k ∷ ks) = spread_end gap (low + gap) ks

-- the distance of labels when a whole list is relabelled
abbrev pub step : ℕ
step = 4294967296

-- before the nodes of `rest`, above `low`, a label and new labels of the first `count` nodes fit, all a gap apart and
-- below the label of the next node
pub record IsHeadroom (labels : List ℕ) (low count gap : ℕ) (rest : List ℕ) : Type 0 where
  pub some : 0 < gap
  pub fits : spread_end gap (low + gap) (take count rest) < 18446744073709551616
  pub below : (b : ℕ) → slice_get rest count ≡ Some b → spread_end gap (low + gap) (take count rest) < label_at labels b

-- labels increase along each list, each node has one, and the nodes are few enough to label all of them a step apart
pub record Rising (c : Lists) (labels : List ℕ) : Type 0 where
  pub rises : (h : ℕ) → RisesFrom labels 0 (list_at c.lists h)
  pub long : length labels ≡ length c.homes
  pub few : length c.homes < 4294967295

-- the capacity for labels is that for nodes, and the number of nodes stays within the limit
pub record HasHeadroom (count capacity headroom : ℕ) : Type 0 where
  pub within : count + headroom ≤ capacity
  pub few : count + headroom < 4294967295
