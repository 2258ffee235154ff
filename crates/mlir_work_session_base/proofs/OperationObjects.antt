-- Loops that write the items of arrays and the members of objects.
use Rattle.std.proofs.Common.{◌≡◌, ◌∙◌, ap, sym, subst, refl, ℕ, ◌+◌, ◌<◌, ◌≤◌, ◌&&◌, Bool, true, false, List, [], ◌∷◌, ◌++◌, append_assoc, drop, get_or, length, IsTrue, Option}
use Rattle.std.proofs.Math.ListN.{drop_of_length-le}
use Rattle.std.proofs.lemmas.Bool.{and_parts}
use Rattle.ir_event.proofs.of_trees.Steps.{next_left}
use Rattle.ir_event.specs.trees.Meaning.{Operation}
use Rattle.ir_event.specs.trees.Limits.{arguments_pass}
use Rattle.ir_event.specs.trees.Tree.{Region, head, op, regions, empty, block}
use Rattle.ir_event.specs.types.Things.{ContextModel}
use Rattle.ir_text.specs.View.{region_in, types_in}
use Rattle.json.specs.Print.{quoted}
use Rattle.serde_json.specs.Data.{Data, Items, no_items, item, Members, no_members, member, object}
use Rattle.serde_json.specs.Written.{comma_if, compact_text, items_text, members_text}
use Rattle.mlir_work_session_base.specs.OperationObjects.{argument_types, first_members, last_members, operation_data}
use Rattle.mlir_work_session_base.specs.declared.place.Place.{Place}
use Rattle.mlir_work_session_base.proofs.JsonText.{item_written}

-- ---- items

-- one more item of a list is written
pub item_more : {X : Type 0} (f : List X → Items) (xs : List X) (n : ℕ) (x : X) (d : Data) (out mid new whole : List ℕ) (later : Bool)
    → n < length xs → x ≡ get_or xs n x → f (x ∷ drop (n + 1) xs) ≡ item d (f (drop (n + 1) xs)) → mid ≡ out ++ comma_if later → new ≡ mid ++ compact_text d
    → out ++ items_text later (f (drop n xs)) ≡ whole → new ++ items_text true (f (drop (n + 1) xs)) ≡ whole
item_more f xs n x d out mid new whole later l e s m w h =
    item_written out mid new whole later d (f (drop (n + 1) xs)) m w
    (ap (λ ds. out ++ items_text later ds) (sym (ap f (next_left xs n x l e) ∙ s)) ∙ h)

-- all items are written, and the closing bracket
pub items_done : {X : Type 0} (f : List X → Items) (xs : List X) (n : ℕ) (out new whole : List ℕ) (later : Bool)
    → length xs ≤ n → f [] ≡ no_items → out ++ items_text later (f (drop n xs)) ≡ whole → new ≡ out ++ 93 ∷ [] → new ≡ whole
items_done f xs n out new whole later l none h w = w ∙ ap (λ ds. out ++ items_text later ds) (sym (ap f (drop_of_length-le xs l) ∙ none)) ∙ h

-- ---- members

-- one more member of a dictionary is written
pub entry_more : {X : Type 0} (f : List X → Members) (xs : List X) (n : ℕ) (x : X) (k : List ℕ) (d : Data) (out mid new whole : List ℕ) (later : Bool)
    → n < length xs → x ≡ get_or xs n x → f (x ∷ drop (n + 1) xs) ≡ member k d (f (drop (n + 1) xs)) → mid ≡ out ++ comma_if later → new ≡ mid ++ (quoted k ++ 58 ∷ compact_text d)
    → out ++ members_text later (f (drop n xs)) ≡ whole → new ++ members_text true (f (drop (n + 1) xs)) ≡ whole
entry_more f xs n x k d out mid new whole later l e s m w h =
    let rest = members_text true (f (drop (n + 1) xs)) in
    ap (λ z. z ++ rest) (w ∙ ap (λ z. z ++ (quoted k ++ 58 ∷ compact_text d)) m)
    ∙ append_assoc (out ++ comma_if later) (quoted k ++ 58 ∷ compact_text d) rest
    ∙ append_assoc out (comma_if later) ((quoted k ++ 58 ∷ compact_text d) ++ rest)
    ∙ ap (λ z. out ++ (comma_if later ++ z)) (append_assoc (quoted k) (58 ∷ compact_text d) rest)
    ∙ ap (λ ms. out ++ members_text later ms) (sym (ap f (next_left xs n x l e) ∙ s)) ∙ h

-- all members are written, and the closing brace
pub entries_done : {X : Type 0} (f : List X → Members) (xs : List X) (n : ℕ) (out new whole : List ℕ) (later : Bool)
    → length xs ≤ n → f [] ≡ no_members → out ++ members_text later (f (drop n xs)) ≡ whole → new ≡ out ++ 125 ∷ [] → new ≡ whole
entries_done f xs n out new whole later l none h w = w ∙ ap (λ ms. out ++ members_text later ms) (sym (ap f (drop_of_length-le xs l) ∙ none)) ∙ h

-- ---- known ids

-- a property of all parts of a list holds for the next one, and for the others
pub next_all : {X : Type 0} (q : X → Bool) (all : List X → Bool) (xs : List X) (n : ℕ) (x : X) → n < length xs → x ≡ get_or xs n x
    → all (x ∷ drop (n + 1) xs) ≡ (q x && all (drop (n + 1) xs)) → IsTrue (all (drop n xs)) → IsTrue (q x) × IsTrue (all (drop (n + 1) xs))
next_all q all xs n x l e s h = and_parts (q x) (all (drop (n + 1) xs)) (subst (λ b. IsTrue b) (ap all (next_left xs n x l e) ∙ s) h)

-- ---- the arguments of a region's block

pub arguments_mapped : (c : ContextModel) (s : Region) → types_in c (argument_types s) ≡ argument_types (region_in c s)
arguments_mapped c empty = refl
arguments_mapped c (block ts os) = refl

pub arguments_known : (q : List ℕ → Bool) (s : Region) → IsTrue (q []) → IsTrue (arguments_pass q s) → IsTrue (q (argument_types s))
arguments_known q empty none e = none
arguments_known q (block ts os) none e = e

-- ---- whole objects

pub object_parts : (at : Option Place) (t : Operation) → operation_data at t ≡ object (first_members (head t) (last_members at (head t) (regions t)))
object_parts at (op h rs) = refl

-- the braces, the members and the line feed of an operation
pub object_written : (at : Option Place) (t : Operation) (old one two three new : List ℕ) → one ≡ old ++ 123 ∷ []
    → ((ms : Members) → two ++ members_text true ms ≡ one ++ members_text false (first_members (head t) ms)) → three ≡ two ++ members_text true (last_members at (head t) (regions t))
    → new ≡ three ++ 10 ∷ [] → new ≡ old ++ (compact_text (operation_data at t) ++ 10 ∷ [])
object_written at t old one two three new o f l n =
    let ms = last_members at (head t) (regions t) in
    let text = members_text false (first_members (head t) ms) in
    n ∙ ap (λ z. z ++ 10 ∷ []) (l ∙ f ms ∙ ap (λ z. z ++ text) o ∙ append_assoc old (123 ∷ []) text) ∙ append_assoc old (123 ∷ text) (10 ∷ [])
    ∙ ap (λ d. old ++ (compact_text d ++ 10 ∷ [])) (sym (object_parts at t))
