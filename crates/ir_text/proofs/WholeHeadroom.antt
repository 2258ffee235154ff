-- No text within its limit fills a new context.
use Rattle.std.proofs.Common.{◌≡◌, ◌≤◌, ℕ, Bool, List, [], length, subst, ⊎_elim, arith}
use Rattle.std.specs.Str.{bytes_eq}
use Rattle.ir_text_tokens.specs.declared.token.Mark.{Mark}
use Rattle.ir_text_tokens.specs.declared.token.Mark.TheVariants.{End}
use Rattle.ir_types.specs.Interning.{with_name}
use Rattle.ir_types.specs.Reasons.{name_reason}
use Rattle.ir_types.specs.Things.{ContextModel}
use Rattle.ir_types.specs.Words.{words}
use Rattle.ir_types.proofs.WordNumbers.{word_count}
use Rattle.ir_tree.specs.Tree.{Op}
use Rattle.ir_text_types.specs.Outcomes.{Outcome, Read, Full}
use Rattle.ir_text_types.specs.Typed.{name_step}
use Rattle.ir_text_types.specs.TypeReading.{type_at, function_type_at}
use Rattle.ir_text_operations.specs.attributes.AttrReading.{attr_at}
use Rattle.ir_text_operations.specs.names.States.{State, fresh}
use Rattle.ir_text_operations.specs.Filling.{new_things, RootFills, OpsFill, Fills}
use Rattle.ir_text_operations.specs.Free.{free_bound, no_types}
use Rattle.ir_text_operations.specs.PrecedingReading.{Frees}
use Rattle.ir_text_operations.specs.OpReading.{op_at, ops_at}
use Rattle.ir_text_operations.specs.Spelling.{module_word}
use Rattle.ir_text.specs.Headroom.{Fits, HasHeadroom}
use Rattle.ir_text.proofs.Fits.{fits_to, Good, never, text, things}
use Rattle.ir_text.proofs.Steps.{with_name_fits, full_count, full_interned}
use Rattle.ir_text.proofs.TypeHeadroom.{type_good, function_type_good}
use Rattle.ir_text.proofs.AttrHeadroom.{attr_good}
use Rattle.ir_text.proofs.OpHeadroom.{left, known, op_good, ops_good}

-- after a parse there is capacity for the rest of the text
kept : {S A : Type 0} (bytes : S → List ℕ) (held : S → ContextModel) (i j k : ℕ) (o : Outcome (A × S)) (x : A) (s : S) → o ≡ Read (x, s) → Good bytes held i j k o → HasHeadroom (bytes s) (held s)
kept bytes held i j k o x s e g = let h = (subst (Good bytes held i j k) e g).still in fits_to h (omega arith) (omega arith) (omega arith)

-- ---- types

pub type_headroom : (o : Bool) (depth : ℕ) (c : ContextModel) (bytes : List ℕ) → HasHeadroom bytes c → type_at o depth (bytes, c) ≡ Full → ⊥
type_headroom o depth c bytes h e = never text things (type_at o depth (bytes, c)) e (type_good o depth 0 0 0 (bytes, c) h)

pub type_left : (o : Bool) (depth n : ℕ) (c d : ContextModel) (bytes rest : List ℕ) → HasHeadroom bytes c → type_at o depth (bytes, c) ≡ Read (n, (rest, d)) → HasHeadroom rest d
type_left o depth n c d bytes rest h e = kept text things 1 0 1 (type_at o depth (bytes, c)) n (rest, d) e (type_good o depth 0 0 0 (bytes, c) h)

pub function_type_headroom : (o : Bool) (c : ContextModel) (bytes : List ℕ) → HasHeadroom bytes c → function_type_at o (bytes, c) ≡ Full → ⊥
function_type_headroom o c bytes h e = never text things (function_type_at o (bytes, c)) e (function_type_good o 0 0 0 (bytes, c) h)

-- ---- attributes

pub attr_headroom : (o : Bool) (depth : ℕ) (c : ContextModel) (bytes : List ℕ) → HasHeadroom bytes c → attr_at o depth (bytes, c) ≡ Full → ⊥
attr_headroom o depth c bytes h e = never text things (attr_at o depth (bytes, c)) e (attr_good o depth 0 0 0 (bytes, c) h)

pub attr_left : (o : Bool) (depth n : ℕ) (c d : ContextModel) (bytes rest : List ℕ) → HasHeadroom bytes c → attr_at o depth (bytes, c) ≡ Read (n, (rest, d)) → HasHeadroom rest d
attr_left o depth n c d bytes rest h e = kept text things 0 0 0 (attr_at o depth (bytes, c)) n (rest, d) e (attr_good o depth 0 0 0 (bytes, c) h)

-- ---- operations

pub op_headroom : (free : Frees) (last depth first : ℕ) (c : ContextModel) (bytes : List ℕ) → HasHeadroom bytes c → op_at free last depth (fresh first bytes c) ≡ Full → ⊥
op_headroom free last depth first c bytes h e = never left known (op_at free last depth (fresh first bytes c)) e (op_good free last depth 0 0 0 (fresh first bytes c) h)

pub op_left : (free : Frees) (last depth first : ℕ) (c : ContextModel) (bytes : List ℕ) (o : Op) (s : State) → HasHeadroom bytes c → op_at free last depth (fresh first bytes c) ≡ Read (o, s) → HasHeadroom s.bytes s.things
op_left free last depth first c bytes o s h e = kept left known 0 0 0 (op_at free last depth (fresh first bytes c)) o s e (op_good free last depth 0 0 0 (fresh first bytes c) h)

pub ops_headroom : (free : Frees) (close : Mark) (last depth first : ℕ) (c : ContextModel) (bytes : List ℕ) → HasHeadroom bytes c → ops_at close (op_at free last depth) 1048576 [] (fresh first bytes c) ≡ Full → ⊥
ops_headroom free close last depth first c bytes h e =
    never left known (ops_at close (op_at free last depth) 1048576 [] (fresh first bytes c)) e (ops_good close (op_at free last depth) (op_good free last depth) 1048576 0 0 0 [] (fresh first bytes c) h)

-- ---- texts

new_fits : (o : Bool) (i : ℕ) (bytes : List ℕ) → i ≤ 2 → length bytes ≤ 16777216 → Fits i 0 0 bytes (new_things o)
new_fits o i bytes few h = record { names = omega (arith, word_count, few, h); types = omega (arith, h); attrs = omega (arith, h) }

no_name : (o : Bool) → name_step module_word (new_things o) ≡ Full → ⊥
unfolding name_step
no_name o e = let f = full_count (bytes_eq module_word) words (full_interned (name_reason module_word (new_things o)) (with_name module_word (new_things o)) e) in omega (arith, word_count, f)

pub text_fits : (o : Bool) (bytes : List ℕ) → length bytes ≤ 16777216 → Fills o bytes → ⊥
text_fits o bytes h fills = ⊎_elim
    (λ (r : RootFills bytes (new_things o)). op_headroom (free_bound no_types) 1048576 129 0 (new_things o) bytes (new_fits o 0 bytes (omega arith) h) r)
    (⊎_elim
    (⊎_elim (no_name o) (λ (r : OpsFill 128 1 bytes (with_name module_word (new_things o)).1). ops_headroom (free_bound no_types) End 1048576 128 1 (with_name module_word (new_things o)).1 bytes (with_name_fits 0 0 0 module_word bytes (new_things o) (new_fits o 2 bytes (omega arith) h)) r))
    (λ (r : OpsFill 129 0 bytes (new_things o)). ops_headroom (free_bound no_types) End 1048576 129 0 (new_things o) bytes (new_fits o 0 bytes (omega arith) h) r))
    fills
