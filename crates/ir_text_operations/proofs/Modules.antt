-- The tree of a text, from the theorems about operations.
use Rattle.std.proofs.Common.{◌≡◌, ℕ, Bool, true, false, ◌&&◌, List, [], ◌∷◌, map, length, Option, Some, None, is_some, refl, sym, ap, subst, ◌∙◌, inl, inr, ⊎_elim, arith, lt-ltb}
use Rattle.std.specs.Prelude.{IsTrue, option_map, option_and_then}
use Rattle.ir_text_tokens.specs.declared.token.Mark.TheVariants.{End}
use Rattle.ir_text_tokens.specs.Limits.{text_reason}
use Rattle.ir_types.specs.Things.{ContextModel, IsName, IsExtendedBy}
use Rattle.ir_types.specs.Sound.{IsSound}
use Rattle.ir_types.specs.Terms.{name_term, type_term, attr_term}
use Rattle.ir_types.specs.Words.{is_isolated}
use Rattle.ir_types.proofs.Growth.{grows_refl, preceding_length}
use Rattle.ir_types.proofs.Terms.{name_stays}
use Rattle.std.proofs.lemmas.Option.{slice_get_within}
use Rattle.ir_types.proofs.CallNumbers.{name_stands, new_name}
use Rattle.ir_types.specs.Interning.{with_name}
use Rattle.ir_text_tokens.specs.declared.fault.Fault.{Fault}
use Rattle.ir_text_types.specs.declared.error.ReadError.{ReadError}
use Rattle.ir_text_types.specs.declared.error.ReadError.TheVariants as errors
use Rattle.std.specs.Prelude.{Result, Err}
use Rattle.ir_tree.specs.Tree.{op, Op, region, block, no_regions, ops_of, next}
use Rattle.std.specs.List.{range_with_len}
use Rattle.ir_text_tokens.specs.declared.refusal.TextRefusal.{TextRefusal}
use Rattle.ir_types.specs.declared.refusal.Refusal.TheVariants.{TooMany}
use Rattle.ir_types.specs.Reasons.{name_reason}
use Rattle.ir_text_types.specs.Typed.{name_step}
use Rattle.ir_tree.specs.Ids.{IsNumberedFrom, ids}
use Rattle.ir_tree.specs.Limits.{every, ops_every}
use Rattle.ir_tree.specs.Maps.{map_entry, map_ops}
use Rattle.ir_tree.specs.Passing.{op_passes}
use Rattle.ir_tree.specs.Meaning.{Operation, meaning, is_known, is_name, is_type, is_attr, key_before, key_before_in, rises, rises_after, dictionaries_rise}
use Rattle.ir_tree.proofs.Mapped.{map_ids, map_operands_visible, map_depth, map_counts, map_every}
use Rattle.ir_tree.specs.WellFormed.{IsValidTree}
use Rattle.ir_text_types.specs.Grammars.{Grammar, IsMark}
use Rattle.ir_text_types.specs.Worlds.{From}
use Rattle.ir_text_types.specs.Laws.{Each}
use Rattle.ir_text_types.specs.Marks.{after}
use Rattle.ir_text_types.specs.Outcomes.{Outcome, Read, Wrong, Full, Parse, Fails}
use Rattle.ir_text_types.proofs.TextLaws.{after_found, after_only}
use Rattle.ir_text_types.proofs.Worlds.{Step, Agree}
use Rattle.ir_text_names.specs.States.{State, fresh}
use Rattle.ir_text_operations.specs.ParseState.{ParseState, initial_state}
use Rattle.ir_tree.specs.declared.value.Value.{Value}
use Rattle.ir_text_operations.specs.Free.{value_named, free_bound, no_types, no_names}
use Rattle.ir_text_operations.specs.PrecedingReading.{Frees}
use Rattle.ir_text_operations.specs.OpReading.{op_at, ops_at}
use Rattle.ir_text_operations.specs.OpGrammar.{IsOp}
use Rattle.ir_text_operations.specs.Denotation.{Both, BoundDenotes, FreeDenotes, StateDenotes, OpDenotes}
use Rattle.ir_text_operations.specs.Spelling.{begins_module, is_root, module_word, module_of, IsExplicit, IsImplicit, Spells}
use Rattle.ir_text_operations.specs.Claims.{IsOnly, IsNone, IsBody, IsSource, IsModuleTree, module_with}
use Rattle.ir_text_operations.proofs.NameLaws.{held, bytes_now}
use Rattle.ir_text_operations.proofs.OpLaws.{op_exact, source_exact}
use Rattle.ir_text_attributes.proofs.Singles.{fails_wrong}
use Rattle.ir_text_operations.proofs.BlockLaws.{ops_are, ops_known}

-- there is no outer module, so no name is free
abbrev pub no_free : Frees
no_free = free_bound no_types

nothing_free : (z : ContextModel) (v : Option Value) → Both BoundDenotes z (option_and_then (λ x. option_map (λ ty. record { value = x; ty = ty }) (no_types x)) v) None
nothing_free z None = tt
nothing_free z (Some x) = tt

no_frees : (c : ContextModel) → From (λ z. FreeDenotes z no_free no_names) c
unfolding free_bound
no_frees c = λ z g w name. nothing_free z (value_named name)

abbrev pub reading : ℕ → Parse State Op
reading depth = op_at no_free 1048576 depth

abbrev pub spelling : Bool → ℕ → Grammar ParseState Operation
spelling opaque depth = IsOp opaque no_names 1048576 depth

pub fresh_agrees : (first : ℕ) (bytes : List ℕ) (c : ContextModel) → Agree held StateDenotes (fresh first bytes c) (initial_state first bytes)
fresh_agrees first bytes c z g w = (refl, (tt, tt), refl)

-- a parse that succeeds
abbrev pair : {A S : Type 0} → A → S → Outcome (A × S)
pair x s = Read (x, s)

pub read_parts : {A S : Type 0} (x y : A) (s t : S) → pair x s ≡ pair y t → (x ≡ y) × (s ≡ t)
read_parts {A} {S} x y s t e =
    let p : (x, s) ≡ (y, t) = cc in
    (ap (λ (q : A × S). q.0) p, ap (λ (q : A × S). q.1) p)

-- ---- an explicit root

pub not_begun : (o : Bool) (bytes : List ℕ) → begins_module bytes ≡ false → IsNone (IsExplicit o bytes)
unfolding IsExplicit
not_begun o bytes e y h = let g = h.0 in absurd cc

-- a tree that the grammar derives is the one that was parsed
explicit_is : (bytes : List ℕ) (c : ContextModel) (x : Op) (s : State) → IsSound c → reading 129 (fresh 0 bytes c) ≡ Read (x, s) → (y : Operation) → IsExplicit c.opaque bytes y
    → (y ≡ meaning s.things x) × ((rest : List ℕ) × IsMark End s.bytes rest) × (is_root y ≡ true)
unfolding IsExplicit
explicit_is bytes c x s sound e y h = ⊎_elim
    (λ (f : reading 129 (fresh 0 bytes c) ≡ Full). absurd cc)
    (λ (f : (x' : Op) × (s' : State) × (reading 129 (fresh 0 bytes c) ≡ Read (x', s')) × Step held StateDenotes OpDenotes (fresh 0 bytes c) x' y s' h.1.0).
    let q = read_parts f.0 x f.1 s (sym f.2 ∙ e) in
    let r = f.3.stands f.1.things (grows_refl f.1.things) f.3.sound in (
      sym r.1 ∙ ap (λ (u : Op × State). meaning u.1.things u.0) (λ i. (q.0 i, q.1 i)),
      (h.1.1, subst (λ b. IsMark End b h.1.1) (sym (bytes_now f.1 h.1.0 f.3.sound f.3.agree) ∙ ap (λ (u : State). u.bytes) q.1) h.1.3),
      h.2,
    ))
    ((op_exact no_free no_names 1048576 c (no_frees c) 129 c (grows_refl c)).only (fresh 0 bytes c) (initial_state 0 bytes) y h.1.0 (grows_refl c) sound (fresh_agrees 0 bytes c) h.1.2)

pub explicit_read : (bytes : List ℕ) (c : ContextModel) (x : Op) (s : State) (rest : List ℕ) → IsSound c → begins_module bytes ≡ true → reading 129 (fresh 0 bytes c) ≡ Read (x, s)
    → after End s.bytes ≡ Some rest → is_root (meaning s.things x) ≡ true → IsOnly (IsExplicit c.opaque bytes) s.things x
unfolding IsExplicit
explicit_read bytes c x s rest sound begins e ends root =
    let f = (op_exact no_free no_names 1048576 c (no_frees c) 129 c (grows_refl c)).found (fresh 0 bytes c) (initial_state 0 bytes) x s (grows_refl c) sound (fresh_agrees 0 bytes c) e in
    let r = f.3.stands s.things (grows_refl s.things) f.3.sound in
    let mark : IsMark End f.1.bytes rest = subst (λ b. IsMark End b rest) (bytes_now s f.1 f.3.sound f.3.agree) (after_found End s.bytes rest ends) in
    record {
      known = r.0;
      holds = (begins, (f.1, rest, subst (λ y. spelling c.opaque 129 y (initial_state 0 bytes) f.1) (sym r.1) f.2, mark), root);
      only = λ y h. (explicit_is bytes c x s sound e y h).0;
    }

pub explicit_whole : (bytes : List ℕ) (c : ContextModel) (x : Op) (s : State) → IsSound c → begins_module bytes ≡ true → reading 129 (fresh 0 bytes c) ≡ Read (x, s)
    → (is_some (after End s.bytes) && is_root (meaning s.things x)) ≡ true → IsOnly (IsExplicit c.opaque bytes) s.things x
explicit_whole bytes c x s sound begins e whole = by (after End s.bytes) refl whole
  where
    by : (o : Option (List ℕ)) → after End s.bytes ≡ o → (is_some o && is_root (meaning s.things x)) ≡ true → IsOnly (IsExplicit c.opaque bytes) s.things x
    by None k w = absurd cc
    by (Some rest) k w = explicit_read bytes c x s rest sound begins e k w

-- if the error is `Full`, the definition says that the context is full
pub fails_full : {X Y : Type 0} (e : ReadError) (o : Outcome Y) (left : ℕ) → Fails e o → ◌≡◌ {A = Result X ReadError} (Err e) (Err (errors.Full left)) → o ≡ Full
fails_full errors.Memory o left h k = absurd cc
fails_full (errors.Full other) o left h k = h
fails_full (errors.Refused g) o left h k = absurd cc

-- if the name of a module doesn't fit, the context is full
pub name_fills : (c : ContextModel) → name_reason module_word c ≡ Some TooMany → name_step module_word c ≡ Full
unfolding name_step
name_fills c e = rw e refl

-- the same error as the result of another function
pub error_is : {X Y : Type 0} (e g : ReadError) → ◌≡◌ {A = Result X ReadError} (Err e) (Err g) → ◌≡◌ {A = Result Y ReadError} (Err e) (Err g)
error_is {X} {Y} e g k = let same : e ≡ g = cc in λ i. Err (same i)

-- the context has the name of a module
pub named_module : (c d : ContextModel) (n : ℕ) → (n, d) ≡ with_name module_word c → IsName d n × (name_term d n ≡ module_word)
named_module c d n e = subst (λ (p : ℕ × ContextModel). IsName p.1 p.0 × (name_term p.1 p.0 ≡ module_word)) (sym e)
    (slice_get_within _ _ _ (name_stands module_word c), new_name module_word c)

pub explicit_other : (bytes : List ℕ) (c : ContextModel) (x : Op) (s : State) → IsSound c → reading 129 (fresh 0 bytes c) ≡ Read (x, s)
    → (is_some (after End s.bytes) && is_root (meaning s.things x)) ≡ false → IsNone (IsExplicit c.opaque bytes)
explicit_other bytes c x s sound e not_whole y h =
    let k = explicit_is bytes c x s sound e y h in
    let ends : after End s.bytes ≡ Some k.1.0 = after_only End s.bytes k.1.0 k.1.1 in
    let root : is_root (meaning s.things x) ≡ true = ap is_root (sym k.0) ∙ k.2 in
    let g = sym not_whole ∙ (λ i. is_some (ends i) && root i) in absurd cc

pub explicit_wrong : (bytes : List ℕ) (c : ContextModel) → IsSound c → reading 129 (fresh 0 bytes c) ≡ Wrong → IsNone (IsExplicit c.opaque bytes)
unfolding IsExplicit
explicit_wrong bytes c sound e y h = ⊎_elim
    (λ (f : reading 129 (fresh 0 bytes c) ≡ Full). absurd cc)
    (λ (f : (x' : Op) × (s' : State) × (reading 129 (fresh 0 bytes c) ≡ Read (x', s')) × Step held StateDenotes OpDenotes (fresh 0 bytes c) x' y s' h.1.0). let g = f.2 in absurd cc)
    ((op_exact no_free no_names 1048576 c (no_frees c) 129 c (grows_refl c)).only (fresh 0 bytes c) (initial_state 0 bytes) y h.1.0 (grows_refl c) sound (fresh_agrees 0 bytes c) h.1.2)

-- ---- an implicit root

name_is_there : (c d : ContextModel) (n : ℕ) → IsExtendedBy c d → IsName c n → is_name d n ≡ true
name_is_there c d n g h = lt-ltb n (length d.names) (omega (arith, h, preceding_length c.names d.names g.names))

with_parts : (z : ContextModel) (n : ℕ) (xs : List Op) (ys : List Operation) → name_term z n ≡ module_word → Each OpDenotes z xs ys → meaning z (module_with n xs) ≡ module_of ys
with_parts z n xs ys name h = λ i. op (record { id = 0; name = name i; operands = []; results = []; properties = []; attributes = [] }) (region (block [] (ops_are z xs ys h i)) no_regions)

known_parts : (z : ContextModel) (n : ℕ) (xs : List Op) (ys : List Operation) → is_name z n ≡ true → Each OpDenotes z xs ys → is_known z (module_with n xs) ≡ true
known_parts z n xs ys name h = rw (name, ops_known z xs ys h) refl

-- the operations that the grammar derives are the ones that were parsed
body_is : (bytes : List ℕ) (c : ContextModel) (xs : List Op) (s : State) → IsSound c → ops_at End (reading 128) 1048576 [] (fresh 1 bytes c) ≡ Read (xs, s) → (y : Operation) → IsBody c.opaque bytes y
    → (os : List Operation) × Each OpDenotes s.things xs os × (y ≡ module_of os)
unfolding IsBody
body_is bytes c xs s sound e y h = ⊎_elim
    (λ (f : ops_at End (reading 128) 1048576 [] (fresh 1 bytes c) ≡ Full). absurd cc)
    (λ (f : (xs' : List Op) × (s' : State) × (ops_at End (reading 128) 1048576 [] (fresh 1 bytes c) ≡ Read (xs', s')) × Step held StateDenotes (Each OpDenotes) (fresh 1 bytes c) xs' h.0 s' h.1).
    let q = read_parts f.0 xs f.1 s (sym f.2 ∙ e) in
    (h.0, subst (λ (u : List Op × State). Each OpDenotes u.1.things u.0 h.0) (λ i. (q.0 i, q.1 i)) (f.3.stands f.1.things (grows_refl f.1.things) f.3.sound), h.3))
    ((source_exact no_free no_names 1048576 c (no_frees c) 128 c (grows_refl c)).only (fresh 1 bytes c) (initial_state 1 bytes) h.0 h.1 (grows_refl c) sound (fresh_agrees 1 bytes c) h.2)

body_read : (bytes : List ℕ) (c : ContextModel) (n : ℕ) (xs : List Op) (s : State) → IsSound c → IsName c n → name_term c n ≡ module_word → ops_at End (reading 128) 1048576 [] (fresh 1 bytes c) ≡ Read (xs, s)
    → IsOnly (IsBody c.opaque bytes) s.things (module_with n xs)
unfolding IsBody
body_read bytes c n xs s sound of_c name e =
    let f = (source_exact no_free no_names 1048576 c (no_frees c) 128 c (grows_refl c)).found (fresh 1 bytes c) (initial_state 1 bytes) xs s (grows_refl c) sound (fresh_agrees 1 bytes c) e in
    let r = f.3.stands s.things (grows_refl s.things) f.3.sound in
    let named : name_term s.things n ≡ module_word = name_stays c s.things n f.3.grows of_c ∙ name in
    record {
      known = known_parts s.things n xs f.0 (name_is_there c s.things n f.3.grows of_c) r;
      holds = (f.0, f.1, f.2, with_parts s.things n xs f.0 named r);
      only = λ y h. let k = body_is bytes c xs s sound e y h in k.2 ∙ sym (with_parts s.things n xs k.0 named k.1);
    }

body_wrong : (bytes : List ℕ) (c : ContextModel) → IsSound c → ops_at End (reading 128) 1048576 [] (fresh 1 bytes c) ≡ Wrong → IsNone (IsBody c.opaque bytes)
unfolding IsBody
body_wrong bytes c sound e y h = ⊎_elim
    (λ (f : ops_at End (reading 128) 1048576 [] (fresh 1 bytes c) ≡ Full). absurd cc)
    (λ (f : (xs' : List Op) × (s' : State) × (ops_at End (reading 128) 1048576 [] (fresh 1 bytes c) ≡ Read (xs', s')) × Step held StateDenotes (Each OpDenotes) (fresh 1 bytes c) xs' h.0 s' h.1). let g = f.2 in absurd cc)
    ((source_exact no_free no_names 1048576 c (no_frees c) 128 c (grows_refl c)).only (fresh 1 bytes c) (initial_state 1 bytes) h.0 h.1 (grows_refl c) sound (fresh_agrees 1 bytes c) h.2)

-- in a context with the given flag
pub body_read_in : (o : Bool) (bytes : List ℕ) (c : ContextModel) (n : ℕ) (xs : List Op) (s : State) → c.opaque ≡ o → IsSound c → IsName c n → name_term c n ≡ module_word → ops_at End (reading 128) 1048576 [] (fresh 1 bytes c) ≡ Read (xs, s)
    → IsOnly (IsBody o bytes) s.things (module_with n xs)
body_read_in o bytes c n xs s mode sound of_c name e = subst (λ b. IsOnly (IsBody b bytes) s.things (module_with n xs)) mode (body_read bytes c n xs s sound of_c name e)

pub body_wrong_in : (o : Bool) (bytes : List ℕ) (c : ContextModel) → c.opaque ≡ o → IsSound c → ops_at End (reading 128) 1048576 [] (fresh 1 bytes c) ≡ Wrong → IsNone (IsBody o bytes)
body_wrong_in o bytes c mode sound e = subst (λ b. IsNone (IsBody b bytes)) mode (body_wrong bytes c sound e)

-- ---- explicit or implicit

pub root_is_source : (o : Bool) (bytes : List ℕ) (c : ContextModel) (t : Op) → IsOnly (IsExplicit o bytes) c t → IsOnly (IsSource o bytes) c t
unfolding IsImplicit
root_is_source o bytes c t h = record {
  known = h.known;
  holds = inl h.holds;
  only = λ y k. ⊎_elim (λ (e : IsExplicit o bytes y). h.only y e) (λ (i : IsImplicit o bytes y). absurd (i.0 (meaning c t) h.holds)) k;
}

pub body_is_source : (o : Bool) (bytes : List ℕ) (c : ContextModel) (t : Op) → IsNone (IsExplicit o bytes) → IsOnly (IsBody o bytes) c t → IsOnly (IsSource o bytes) c t
unfolding IsImplicit IsBody
body_is_source o bytes c t none h = record {
  known = h.known;
  holds = inr (none, h.holds);
  only = λ y k. ⊎_elim (λ (e : IsExplicit o bytes y). absurd (none y e)) (λ (i : IsImplicit o bytes y). h.only y i.1) k;
}

pub no_source : (o : Bool) (bytes : List ℕ) → IsNone (IsExplicit o bytes) → IsNone (IsBody o bytes) → IsNone (IsSource o bytes)
unfolding IsImplicit IsBody
no_source o bytes none other y k = ⊎_elim (λ (e : IsExplicit o bytes y). none y e) (λ (i : IsImplicit o bytes y). other y i.1) k

-- ---- the checks after the parse

module _ (c : ContextModel) where
  entries_rise_after : (k : ℕ) (es : List (ℕ × ℕ)) → rises_after key_before (name_term c k) (map (map_entry (name_term c) (attr_term c)) es) ≡ rises_after (key_before_in c) k es
  entries_rise_after k [] = refl
  entries_rise_after k (e ∷ es) = λ i. key_before_in c k e.0 && entries_rise_after e.0 es i

  entries_rise : (es : List (ℕ × ℕ)) → rises key_before (map (map_entry (name_term c) (attr_term c)) es) ≡ rises (key_before_in c) es
  entries_rise [] = refl
  entries_rise (e ∷ es) = entries_rise_after e.0 es

  op_rises : (t : Op) → dictionaries_rise key_before (meaning c t) ≡ dictionaries_rise (key_before_in c) t
  op_rises (op h rs) = λ i. entries_rise h.properties i && entries_rise h.attributes i

  pub all_rise : (t : Op) → every (dictionaries_rise key_before) (meaning c t) ≡ every (dictionaries_rise (key_before_in c)) t
  all_rise t = map_every (name_term c) (type_term c) (attr_term c) (dictionaries_rise (key_before_in c)) (dictionaries_rise key_before) op_rises t

  pub numbers_are : (t : Op) → ids (meaning c t) ≡ ids t
  numbers_are t = map_ids (name_term c) (type_term c) (attr_term c) t

  pub rendered_of : (o : Bool) (bytes : List ℕ) (t : Op) → IsOnly (IsSource o bytes) c t → text_reason bytes ≡ None → IsModuleTree c t → IsOnly (Spells o bytes) c t
  rendered_of o bytes t h text w = record {
    known = h.known;
    holds = record {
      text = text;
      rendered = h.holds;
      wellformed = record {
        visible = subst IsTrue (sym (map_operands_visible (name_term c) (type_term c) (attr_term c) is_isolated t)) w.0.visible;
        shallow = rw (map_depth (name_term c) (type_term c) (attr_term c) t) w.0.shallow;
        counts = subst IsTrue (sym (map_counts (name_term c) (type_term c) (attr_term c) t)) w.0.counts;
      };
      numbered = subst (λ xs. xs ≡ range_with_len 0 (length xs)) (sym (numbers_are t)) w.1;
      sorted = subst IsTrue (sym (all_rise t)) w.2.sorted;
    };
    only = λ y s. h.only y s.rendered;
  }

  pub none_of : (o : Bool) (bytes : List ℕ) (t : Op) → IsOnly (IsSource o bytes) c t → (IsModuleTree c t → ⊥) → IsNone (Spells o bytes)
  none_of o bytes t h not_whole y s =
      let same : y ≡ meaning c t = h.only y s.rendered in
      let wellformed : IsValidTree is_isolated (meaning c t) = subst (IsValidTree is_isolated) same s.wellformed in
      let numbered : IsNumberedFrom 0 (meaning c t) = subst (λ (u : Operation). ids u ≡ range_with_len 0 (length (ids u))) same s.numbered in
      let sorted : IsTrue (every (dictionaries_rise key_before) (meaning c t)) = subst (λ (u : Operation). IsTrue (every (dictionaries_rise key_before) u)) same s.sorted in
      not_whole (
        record {
          visible = subst IsTrue (map_operands_visible (name_term c) (type_term c) (attr_term c) is_isolated t) wellformed.visible;
          shallow = rw (← map_depth (name_term c) (type_term c) (attr_term c) t) wellformed.shallow;
          counts = subst IsTrue (map_counts (name_term c) (type_term c) (attr_term c) t) wellformed.counts;
        },
        subst (λ xs. xs ≡ range_with_len 0 (length xs)) (numbers_are t) numbered,
        record { known = h.known; sorted = subst IsTrue (all_rise t) sorted },
      )

pub source_none : (o : Bool) (bytes : List ℕ) → IsNone (IsSource o bytes) → IsNone (Spells o bytes)
source_none o bytes none y s = none y s.rendered

pub text_none : (o : Bool) (bytes : List ℕ) (r : TextRefusal × ℕ) → text_reason bytes ≡ Some r → IsNone (Spells o bytes)
text_none o bytes r e y s = let t = s.text in absurd cc
