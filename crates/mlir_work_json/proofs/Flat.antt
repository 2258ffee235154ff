-- The object that the members of a line make has no floats, and it is no deeper than its members.
use Rattle.std.proofs.Common.{◌≡◌, ℕ, ◌≤◌, List, [], ◌∷◌, map, false, Ordering, Less, Equal, Greater, refl, arith}
use Rattle.std.specs.Ordering.{match_ordering}
use Rattle.serde_json.specs.Data.{Data, Members, no_members, member, put, depth, items_depth, members_depth}
use Rattle.serde_json.specs.Read.{max_depth}
use Rattle.serde_json.specs.View.{items_of}
use Rattle.serde_json.specs.Written.{has_float, items_have_float, members_have_float}
use Rattle.mlir_work_json.specs.Items.{Item, Text, Number, Texts, Flag, Member, text_data, data_of, add_members}
use Rattle.mlir_work_json.specs.Lines.{line_members, members_data}
use Rattle.std.proofs.lemmas.Bool.{or_from, or_parts}

-- ---- no floats

ordered_floats : (o : Ordering) (a b c : Members) → members_have_float a ≡ false → members_have_float b ≡ false → members_have_float c ≡ false → members_have_float (match_ordering o a b c) ≡ false
ordered_floats Less a b c p q r = p
ordered_floats Equal a b c p q r = q
ordered_floats Greater a b c p q r = r

floats_put : (k : List ℕ) (d : Data) (ms : Members) → has_float d ≡ false → members_have_float ms ≡ false → members_have_float (put k d ms) ≡ false
floats_put k d no_members p q = or_from (has_float d) false p refl
floats_put k d (member l e ms) p q =
    let parts = or_parts (has_float e) (members_have_float ms) q in
    ordered_floats _ (member k d (member l e ms)) (member l d ms) (member l e (put k d ms))
    (or_from (has_float d) _ p q) (or_from (has_float d) _ p parts.1) (or_from (has_float e) _ parts.0 (floats_put k d ms p parts.1))

floats_texts : (words : List (List ℕ)) → items_have_float (items_of (map text_data words)) ≡ false
floats_texts [] = refl
floats_texts (word ∷ words) = floats_texts words

floats_item : (i : Item) → has_float (data_of i) ≡ false
floats_item (Text word) = refl
floats_item (Number n) = refl
floats_item (Texts words) = floats_texts words
floats_item Flag = refl

floats_all : (ms : List Member) (found : Members) → members_have_float found ≡ false → members_have_float (add_members ms found) ≡ false
floats_all [] found h = h
floats_all (m ∷ ms) found h = floats_all ms (put m.0 (data_of m.1) found) (floats_put m.0 (data_of m.1) found (floats_item m.1) h)

-- the object has no floats
pub line_has_no_float : (line : List ℕ) → has_float (members_data line) ≡ false
line_has_no_float line = floats_all (line_members line) no_members refl

-- ---- depth

ordered_depth : (o : Ordering) (a b c : Members) (n : ℕ) → members_depth a ≤ n → members_depth b ≤ n → members_depth c ≤ n → members_depth (match_ordering o a b c) ≤ n
ordered_depth Less a b c n p q r = p
ordered_depth Equal a b c n p q r = q
ordered_depth Greater a b c n p q r = r

depth_put : (k : List ℕ) (d : Data) (ms : Members) (n : ℕ) → depth d ≤ n → members_depth ms ≤ n → members_depth (put k d ms) ≤ n
depth_put k d no_members n p q = omega arith
depth_put k d (member l e ms) n p q =
    ordered_depth _ (member k d (member l e ms)) (member l d ms) (member l e (put k d ms)) n (omega arith) (omega arith) (omega (arith, depth_put k d ms n p (omega arith)))

depth_texts : (words : List (List ℕ)) → items_depth (items_of (map text_data words)) ≡ 0
depth_texts [] = refl
depth_texts (word ∷ words) = let ih = depth_texts words in omega arith

depth_item : (i : Item) → depth (data_of i) ≤ 1
depth_item (Text word) = omega arith
depth_item (Number n) = omega arith
depth_item (Texts words) = let flat = depth_texts words in omega arith
depth_item Flag = omega arith

depth_all : (ms : List Member) (found : Members) → members_depth found ≤ 1 → members_depth (add_members ms found) ≤ 1
depth_all [] found h = h
depth_all (m ∷ ms) found h = depth_all ms (put m.0 (data_of m.1) found) (depth_put m.0 (data_of m.1) found 1 (depth_item m.1) h)

-- the depth of a line's object is at most `max_depth`, so a parser accepts it
pub line_is_shallow : (line : List ℕ) → depth (members_data line) ≤ max_depth
line_is_shallow line = let flat = depth_all (line_members line) no_members (omega arith) in omega arith
