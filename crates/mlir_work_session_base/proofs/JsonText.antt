-- Writing the bytes of a JSON string, and the items and members of JSON values.
use Rattle.std.proofs.Common.{◌≡◌, ◌∙◌, ap, sym, refl, ℕ, ◌<◌, ◌≤◌, ◌/◌, ◌%◌, Bool, true, false, cond, nat_lt, List, [], ◌∷◌, ◌++◌, append_assoc, lt-ltb, le-ltb}
use Rattle.std.specs.Char.{digit_char}
use Rattle.json.specs.Print.{escape_byte, escape_letter, quoted}
use Rattle.serde_json.specs.Data.{Data, Items, no_items, item, Members, no_members, member}
use Rattle.serde_json.specs.Written.{comma_if, compact_text, items_text, members_text}

-- ---- strings

lettered : (x : ℕ) → nat_lt 0 (escape_letter x) ≡ true → escape_byte x ≡ 92 ∷ escape_letter x ∷ []
unfolding escape_byte
lettered x e = ap (λ t. cond t (92 ∷ escape_letter x ∷ []) (cond (nat_lt x 32) (92 ∷ 117 ∷ 48 ∷ 48 ∷ digit_char (x / 16) ∷ digit_char (x % 16) ∷ []) (x ∷ []))) e

unlettered : (x : ℕ) (b : Bool) → nat_lt 0 (escape_letter x) ≡ false → nat_lt x 32 ≡ b
    → escape_byte x ≡ cond b (92 ∷ 117 ∷ 48 ∷ 48 ∷ digit_char (x / 16) ∷ digit_char (x % 16) ∷ []) (x ∷ [])
unfolding escape_byte
unlettered x b e f =
    ap (λ t. cond t (92 ∷ escape_letter x ∷ []) (cond (nat_lt x 32) (92 ∷ 117 ∷ 48 ∷ 48 ∷ digit_char (x / 16) ∷ digit_char (x % 16) ∷ []) (x ∷ []))) e
    ∙ ap (λ t. cond t (92 ∷ 117 ∷ 48 ∷ 48 ∷ digit_char (x / 16) ∷ digit_char (x % 16) ∷ []) (x ∷ [])) f

-- a byte that has an escape letter
pub letter_written : (x l : ℕ) (old mid new : List ℕ) → l ≡ escape_letter x → 0 < l → mid ≡ old ++ 92 ∷ [] → new ≡ mid ++ l ∷ [] → new ≡ old ++ escape_byte x
letter_written x l old mid new is some m n =
    n ∙ ap (λ z. z ++ l ∷ []) m ∙ append_assoc old (92 ∷ []) (l ∷ [])
    ∙ ap (λ z. old ++ 92 ∷ z ∷ []) is ∙ ap (λ z. old ++ z) (sym (lettered x (ap (nat_lt 0) (sym is) ∙ lt-ltb 0 l some)))

-- a control character without one
pub control_written : (x l h g : ℕ) (old mid high new : List ℕ) → l ≡ escape_letter x → l ≤ 0 → x < 32 → h ≡ digit_char (x / 16) → g ≡ digit_char (x % 16)
    → mid ≡ old ++ 92 ∷ 117 ∷ 48 ∷ 48 ∷ [] → high ≡ mid ++ h ∷ [] → new ≡ high ++ g ∷ [] → new ≡ old ++ escape_byte x
control_written x l h g old mid high new is none low hs gs m i n =
    n ∙ ap (λ z. z ++ g ∷ []) i ∙ append_assoc mid (h ∷ []) (g ∷ []) ∙ ap (λ z. z ++ h ∷ g ∷ []) m ∙ append_assoc old (92 ∷ 117 ∷ 48 ∷ 48 ∷ []) (h ∷ g ∷ [])
    ∙ ap (λ z. old ++ 92 ∷ 117 ∷ 48 ∷ 48 ∷ z ∷ g ∷ []) hs ∙ ap (λ z. old ++ 92 ∷ 117 ∷ 48 ∷ 48 ∷ digit_char (x / 16) ∷ z ∷ []) gs
    ∙ ap (λ z. old ++ z) (sym (unlettered x true (ap (nat_lt 0) (sym is) ∙ le-ltb 0 l none) (lt-ltb x 32 low)))

-- any other byte
pub plain_written : (x l : ℕ) (old new : List ℕ) → l ≡ escape_letter x → l ≤ 0 → 32 ≤ x → new ≡ old ++ x ∷ [] → new ≡ old ++ escape_byte x
plain_written x l old new is none high n =
    n ∙ ap (λ z. old ++ z) (sym (unlettered x false (ap (nat_lt 0) (sym is) ∙ le-ltb 0 l none) (le-ltb x 32 high)))

-- ---- items and members

-- an item is written after its comma
pub item_written : (old mid new whole : List ℕ) (later : Bool) (d : Data) (ds : Items) → mid ≡ old ++ comma_if later → new ≡ mid ++ compact_text d → old ++ items_text later (item d ds) ≡ whole → new ++ items_text true ds ≡ whole
item_written old mid new whole later d ds m n h =
    ap (λ z. z ++ items_text true ds) (n ∙ ap (λ z. z ++ compact_text d) m) ∙ append_assoc (old ++ comma_if later) (compact_text d) (items_text true ds)
    ∙ append_assoc old (comma_if later) (compact_text d ++ items_text true ds) ∙ h

-- a value is written after its key
pub member_written : (old mid new : List ℕ) (later : Bool) (k : List ℕ) (d : Data) (ms : Members) → mid ≡ old ++ (comma_if later ++ (quoted k ++ 58 ∷ [])) → new ≡ mid ++ compact_text d
    → new ++ members_text true ms ≡ old ++ members_text later (member k d ms)
member_written old mid new later k d ms m n =
    let rest = compact_text d ++ members_text true ms in
    ap (λ z. z ++ members_text true ms) n ∙ append_assoc mid (compact_text d) (members_text true ms) ∙ ap (λ z. z ++ rest) m
    ∙ append_assoc old (comma_if later ++ (quoted k ++ 58 ∷ [])) rest
    ∙ ap (λ z. old ++ z) (append_assoc (comma_if later) (quoted k ++ 58 ∷ []) rest ∙ ap (λ z. comma_if later ++ z) (append_assoc (quoted k) (58 ∷ []) rest))
