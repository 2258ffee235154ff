-- Interning stays within the capacity.
use Rattle.std.proofs.Common.{◌≡◌, ◌≤◌, ◌+◌, ℕ, Bool, true, false, ◌&&◌, List, length, Option, Some, None, refl, ap, arith, leb-true}
use Rattle.std.specs.Prelude.{if◌then◌else◌, nat_le, not, option_map}
use Rattle.std.specs.List.{list_all, list_any}
use Rattle.std.specs.Str.{bytes_eq}
use Rattle.ir_text_tokens.specs.declared.token.Mark.{Mark}
use Rattle.ir_text_tokens.specs.Tokens.{Lexeme, mark, next}
use Rattle.ir_types.specs.declared.node.TypeNode.{TypeNode}
use Rattle.ir_types.specs.declared.refusal.Refusal.{Refusal}
use Rattle.ir_types.specs.declared.refusal.Refusal.TheVariants.{TooMany, TooDeep, BadWidth, BadValue}
use Rattle.ir_types.specs.Depths.{type_depth}
use Rattle.ir_types.specs.Interning.{with_name, with_type}
use Rattle.ir_types.specs.Reasons.{is_width, is_dimension, first_reason, full_reason, depth_reason, type_fault, name_reason, type_reason}
use Rattle.ir_types.specs.Same.{same_type}
use Rattle.ir_types.specs.Terms.{TypeTerm, type_node_term}
use Rattle.ir_types.specs.Terms as terms
use Rattle.ir_types.specs.Things.{ContextModel}
use Rattle.ir_types.proofs.Growth.{name_names, name_types, name_attrs, type_names, type_types, type_attrs}
use Rattle.ir_types.proofs.Placing.{length-with_last}
use Rattle.ir_text_types.specs.Outcomes.{Read, Full, ◌>>=◌, interned}
use Rattle.ir_text_types.specs.Typed.{Typed, after_typed, type_step}
use Rattle.ir_text_types.specs.TypeReading.{type_done}
use Rattle.ir_text_types.specs.Marks.{after}
use Rattle.ir_text.specs.Headroom.{Fits}
use Rattle.ir_text.proofs.Lengths.{gain, next_length}
use Rattle.ir_text.proofs.Fits.{fits_to, after_length, Has, Good, wrong, reads, text, things}

-- ---- tokens

pub token_fits : (i j k : ℕ) (b rest : List ℕ) (c : ContextModel) (t : Lexeme) → next b ≡ Some (t, rest) → Fits i j k b c → Fits (i + gain t) (j + gain t) (k + gain t) rest c
token_fits i j k b rest c t e h = let l = next_length b rest t e in fits_to h (omega (arith, l)) (omega (arith, l)) (omega (arith, l))

trailing : (m : Mark) (s s' : Typed) (o : Option (List ℕ)) → after m s.0 ≡ o → option_map (λ (r : List ℕ). (r, s.1)) o ≡ Some s' → (i j k : ℕ) → gain (mark m) ≡ 1 → Fits i j k s.0 s.1 → Fits (i + 1) (j + 1) (k + 1) s'.0 s'.1
trailing m s s' None e f i j k one h = absurd cc
trailing m s s' (Some r) e f i j k one h =
    let same : (r, s.1) ≡ s' = cc in
    let l = after_length m s.0 r e in
    rw (← same) (fits_to h (omega (arith, l, one)) (omega (arith, l, one)) (omega (arith, l, one)))

-- after a mark there is capacity for one more of each kind
pub mark_fits : (m : Mark) → gain (mark m) ≡ 1 → (i j k : ℕ) (s s' : Typed) → after_typed m s ≡ Some s' → Has text things i j k s → Has text things (i + 1) (j + 1) (k + 1) s'
mark_fits m one i j k s s' e h = trailing m s s' (after m s.0) refl e i j k one h

-- ---- names, types and attributes

-- a call with the result `Full` was refused with `TooMany`
pub full_interned : {A : Type 0} (reason : Option Refusal) (x : A) → interned reason x ≡ Full → reason ≡ Some TooMany
full_interned None x e = absurd cc
full_interned (Some TooMany) x e = refl
full_interned (Some _) x e = absurd cc

-- a full list has that many entries
pub full_count : {A : Type 0} (is : A → Bool) (xs : List A) → full_reason is xs ≡ Some TooMany → 16777216 ≤ length xs
full_count is xs e = by_case (not (list_any is xs)) (nat_le 16777216 (length xs)) refl e
  where
    by_case : (a b : Bool) → nat_le 16777216 (length xs) ≡ b → (if a && b then Some TooMany else None) ≡ Some TooMany → 16777216 ≤ length xs
    by_case true true h e = leb-true 16777216 (length xs) h
    by_case true false h e = absurd cc
    by_case false b h e = absurd cc

-- every call of a context stays within the capacity
pub call_good : (i j k : ℕ) (o : Option Refusal) (x : ℕ × ContextModel) (b : List ℕ) → (o ≡ None → Fits i j k b x.1) → (o ≡ Some TooMany → ⊥) → Good text things i j k (interned o x >>= λ n. Read (n.0, (b, n.1)))
call_good i j k None x b fine full = reads text things (x.0, (b, x.1)) (fine refl)
call_good i j k (Some TooMany) x b fine full = absurd (full refl)
call_good i j k (Some _) x b fine full = wrong text things

pub with_name_fits : (i j k : ℕ) (bytes b : List ℕ) (c : ContextModel) → Fits (i + 2) j k b c → Fits i j k b (with_name bytes c).1
with_name_fits i j k bytes b c h =
    let n = length-with_last (bytes_eq bytes) bytes c.names in
    let l = ap length (name_names bytes c) in
    let t = ap length (name_types bytes c) in
    let a = ap length (name_attrs bytes c) in
    record { names = omega (arith, h.names, n.1, l); types = omega (arith, h.types, t); attrs = omega (arith, h.attrs, a) }

pub name_not_full : (i j k : ℕ) (bytes b : List ℕ) (c : ContextModel) → Fits (i + 2) j k b c → name_reason bytes c ≡ Some TooMany → ⊥
name_not_full i j k bytes b c h e = let f = full_count (bytes_eq bytes) c.names e in omega (arith, h.names, f)

-- a fault of a type isn't a full context
fault_apart : (y : TypeTerm) (other : Option Refusal) → first_reason (type_fault y) other ≡ Some TooMany → other ≡ Some TooMany
fault_apart y other e = by_size y e
  where
    by_depth : (b : Bool) → first_reason (if b then None else Some TooDeep) other ≡ Some TooMany → other ≡ Some TooMany
    by_depth true e = e
    by_depth false e = absurd cc

    by_width : (b : Bool) → first_reason (first_reason (if b then None else Some BadWidth) (depth_reason 1)) other ≡ Some TooMany → other ≡ Some TooMany
    by_width true e = by_depth (nat_le 1 32) e
    by_width false e = absurd cc

    by_shape : (d : ℕ) (b : Bool) → first_reason (first_reason (if b then None else Some BadValue) (depth_reason d)) other ≡ Some TooMany → other ≡ Some TooMany
    by_shape d true e = by_depth (nat_le d 32) e
    by_shape d false e = absurd cc

    by_size : (y : TypeTerm) → first_reason (type_fault y) other ≡ Some TooMany → other ≡ Some TooMany
    by_size (terms.Integer sign width) e = by_width (is_width width) e
    by_size (terms.Memref dims elem) e = by_shape (type_depth (terms.Memref dims elem)) (list_all is_dimension dims) e
    by_size terms.Index e = by_depth (nat_le 1 32) e
    by_size (terms.Function inputs outputs) e = by_depth (nat_le (type_depth (terms.Function inputs outputs)) 32) e
    by_size (terms.OpaqueType text) e = by_depth (nat_le 1 32) e

type_not_full : (i j k : ℕ) (node : TypeNode) (b : List ℕ) (c : ContextModel) → Fits i (j + 1) k b c → type_reason node c ≡ Some TooMany → ⊥
type_not_full i j k node b c h e = let f = full_count (same_type node) c.types (fault_apart (type_node_term c node) (full_reason (same_type node) c.types) e) in omega (arith, h.types, f)

pub type_done_good : (i j k : ℕ) (node : TypeNode) (s : Typed) → Has text things i (j + 1) k s → Good text things i j k (type_done node s)
unfolding type_done type_step
type_done_good i j k node s h = call_good i j k (type_reason node s.1) (with_type node s.1) s.0 (λ e. more) (type_not_full i j k node s.0 s.1 h)
  where
    more : Fits i j k s.0 (with_type node s.1).1
    more =
        let n = length-with_last (same_type node) node s.1.types in
        let l = ap length (type_types node s.1) in
        let m = ap length (type_names node s.1) in
        let a = ap length (type_attrs node s.1) in
        record { names = omega (arith, h.names, m); types = omega (arith, h.types, n.1, l); attrs = omega (arith, h.attrs, a) }
