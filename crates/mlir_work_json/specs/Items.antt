-- The object of a line: members with their keys.
use Rattle.std.specs.Prelude.{◌≡◌, ℕ, List, [], ◌∷◌, map, Option, Some, None, OnOk, Result, String, true}
use Rattle.std.specs.Str.Lossy.{utf8_lossy}
use Rattle.std.specs.BTreeMap.{BTreeMap}
use Rattle.std.specs.declared.alloc.AllocError.{AllocError}
use Rattle.std.specs.declared.alloc.Global.{Global}
use Rattle.serde_json.specs.Data.{Data, boolean, number, unsigned, string, array, Members, put}
use Rattle.serde_json.specs.View.{items_of, members_view}
use Rattle.serde_json.specs.declared.value.Value.{Value}
use Rattle.mlir_work_json.specs.Numbers.{number_of}

-- the value of a member: a text, a number, a list of texts, or `true`
pub data Item : Type 0 where
  Text : List ℕ → Item
  Number : ℕ → Item
  Texts : List (List ℕ) → Item
  Flag : Item

-- a key with its value
abbrev pub Member : Type 0
Member = List ℕ × Item

-- a member with this text
abbrev pub text : List ℕ → List ℕ → Member
text key word = (key, Text word)

abbrev pub number_item : Option ℕ → List ℕ → Item
number_item None word = Text word
number_item (Some n) word = Number n

-- a member with the number that the word spells, or else with the word
abbrev pub numeral : List ℕ → List ℕ → Member
numeral key word = (key, number_item (number_of word) word)

-- ---- JSON values

-- an invalid UTF-8 sequence becomes U+FFFD; no run writes one
abbrev pub text_data : List ℕ → Data
text_data word = string (utf8_lossy word)

abbrev pub data_of : Item → Data
data_of (Text word) = text_data word
data_of (Number n) = number (unsigned n)
data_of (Texts words) = array (items_of (map text_data words))
data_of Flag = boolean true

-- members are set one by one; the object keeps them ordered by their keys
abbrev pub add_members : List Member → Members → Members
add_members [] found = found
add_members (m ∷ ms) found = add_members ms (put m.0 (data_of m.1) found)

-- unless memory runs out, the object has these members too
abbrev pub HasMembers : Result (Unit {0}) AllocError → BTreeMap (String Global) Value → BTreeMap (String Global) Value → List Member → Type 0
HasMembers result old new ms = OnOk result (members_view new.entries ≡ add_members ms (members_view old.entries))
