-- One operation as a whole text, from the theorems about operations.
use Rattle.std.specs.Prelude.{IsTrue, IfSome, Result, Err, option_map, option_and_then}
use Rattle.std.specs.List.{range_with_len}
use Rattle.std.proofs.Common.{◌≡◌, ◌≤◌, ℕ, Bool, List, length, Option, Some, None, refl, sym, ap, subst, ◌∙◌, ⊎_elim, arith}
use Rattle.ir_text_tokens.specs.declared.token.Mark.TheVariants.{End}
use Rattle.ir_text_tokens.specs.Limits.{text_reason}
use Rattle.ir_text_tokens.specs.declared.refusal.TextRefusal.{TextRefusal}
use Rattle.ir_types.specs.Things.{ContextModel, IsExtendedBy, IsType}
use Rattle.ir_types.specs.Sound.{IsSound}
use Rattle.ir_types.specs.Terms.{name_term, type_term, attr_term}
use Rattle.ir_types.proofs.Growth.{grows_refl, preceding_length}
use Rattle.ir_types.proofs.Terms.{type_stays}
use Rattle.ir_tree.specs.declared.value.Value.{Value}
use Rattle.ir_tree.specs.Tree.{Op}
use Rattle.ir_tree.specs.Ids.{IsNumberedFrom, ids}
use Rattle.ir_tree.specs.Limits.{every, depth, counts_fit, most_around}
use Rattle.ir_tree.specs.Meaning.{Operation, meaning, key_before, dictionaries_rise}
use Rattle.ir_tree.proofs.Mapped.{map_depth, map_counts}
use Rattle.ir_text_types.specs.Grammars.{IsMark}
use Rattle.ir_text_types.specs.Marks.{after}
use Rattle.ir_text_types.specs.Outcomes.{Outcome, Read, Wrong, Full, ◌>>=◌, of_option}
use Rattle.ir_text_types.specs.Worlds.{From}
use Rattle.ir_text_types.proofs.TextLaws.{after_found, after_only}
use Rattle.ir_text_types.proofs.Worlds.{bind_read, option_read, Step}
use Rattle.ir_text_names.specs.States.{State, fresh}
use Rattle.ir_text_types.specs.declared.error.ReadError.{ReadError}
use Rattle.ir_text_operations.specs.declared.single.OpError.{OpError}
use Rattle.ir_text_operations.specs.declared.single.OpError.TheVariants.{Text}
use Rattle.ir_text_operations.specs.Free.{value_named, free_bound, free_term, bound_term}
use Rattle.ir_text_operations.specs.PrecedingReading.{Frees}
use Rattle.ir_text_operations.specs.OpReading.{op_at}
use Rattle.ir_text_operations.specs.ParseState.{initial_state}
use Rattle.ir_text_operations.specs.OpGrammar.{FreeTerms, IsOp}
use Rattle.ir_text_operations.specs.Denotation.{Both, BoundDenotes, FreeDenotes, StateDenotes, OpDenotes}
use Rattle.ir_text_operations.specs.SingleReading.{single_op_at}
use Rattle.ir_text_operations.specs.Spelling.{last_from, IsSingleOp, SpellsOp}
use Rattle.ir_text_operations.specs.Claims.{IsOnly, IsNone, IsLoneTree}
use Rattle.ir_text_operations.proofs.NameLaws.{held, bytes_now}
use Rattle.ir_text_operations.proofs.OpLaws.{op_exact}
use Rattle.ir_text_operations.proofs.Modules.{fresh_agrees, read_parts, all_rise, numbers_are}

-- equal errors of a text are the same error
pub text_is : {X Y : Type 0} (e g : ReadError) → ◌≡◌ {A = Result X OpError} (Err (Text e)) (Err (Text g)) → ◌≡◌ {A = Result Y ReadError} (Err e) (Err g)
text_is {X} {Y} e g k = let same : e ≡ g = cc in λ i. Err (same i)

-- ---- the values of free names

module _ (types : Value → Option ℕ) (c : ContextModel) (known : (v : Value) → IfSome (types v) (λ ty. IsType c ty)) where
  type_free : (z : ContextModel) → IsExtendedBy c z → (v : Value) (o : Option ℕ) → types v ≡ o → Both BoundDenotes z (option_map (λ ty. record { value = v; ty = ty }) o) (option_map (bound_term c) (option_map (λ ty. record { value = v; ty = ty }) o))
  type_free z g v None e = tt
  type_free z g v (Some ty) e =
      let of_c : IsType c ty = subst (λ o. IfSome o (λ ty. IsType c ty)) e (known v) in
      (refl, (omega (arith, of_c, preceding_length c.types z.types g.types), type_stays c z ty g of_c))

  name_free : (z : ContextModel) → IsExtendedBy c z → (o : Option Value) → Both BoundDenotes z (option_and_then (λ v. option_map (λ ty. record { value = v; ty = ty }) (types v)) o) (option_map (bound_term c) (option_and_then (λ v. option_map (λ ty. record { value = v; ty = ty }) (types v)) o))
  name_free z g None = tt
  name_free z g (Some v) = type_free z g v (types v) refl

  pub frees_stand : From (λ z. FreeDenotes z (free_bound types) (free_term types c)) c
  unfolding free_bound
  frees_stand = λ z g w name. name_free z g (value_named name)

-- ---- one operation, and the end

module _ (free : Frees) (outer : FreeTerms) (last first : ℕ) (bytes : List ℕ) (c : ContextModel) (sound : IsSound c) (frees : From (λ z. FreeDenotes z free outer) c) where
  -- an operation that the grammar derives is the one that was parsed
  single_is : (x : Op) (s : State) → op_at free last 129 (fresh first bytes c) ≡ Read (x, s) → (y : Operation) → IsSingleOp c.opaque outer last first bytes y → (y ≡ meaning s.things x) × ((rest : List ℕ) × IsMark End s.bytes rest)
  unfolding IsSingleOp
  single_is x s e y h = ⊎_elim
      (λ (f : op_at free last 129 (fresh first bytes c) ≡ Full). absurd cc)
      (λ (f : (x' : Op) × (s' : State) × (op_at free last 129 (fresh first bytes c) ≡ Read (x', s')) × Step held StateDenotes OpDenotes (fresh first bytes c) x' y s' h.0).
      let q = read_parts f.0 x f.1 s (sym f.2 ∙ e) in
      let r = f.3.stands f.1.things (grows_refl f.1.things) f.3.sound in (
        sym r.1 ∙ ap (λ (u : Op × State). meaning u.1.things u.0) (λ i. (q.0 i, q.1 i)),
        (h.1, subst (λ b. IsMark End b h.1) (sym (bytes_now f.1 h.0 f.3.sound f.3.agree) ∙ ap (λ (u : State). u.bytes) q.1) h.3),
      ))
      ((op_exact free outer last c frees 129 c (grows_refl c)).only (fresh first bytes c) (initial_state first bytes) y h.0 (grows_refl c) sound (fresh_agrees first bytes c) h.2)

  pub single_read : (x : Op) (s : State) (rest : List ℕ) → op_at free last 129 (fresh first bytes c) ≡ Read (x, s) → after End s.bytes ≡ Some rest → IsOnly (IsSingleOp c.opaque outer last first bytes) s.things x
  unfolding IsSingleOp
  single_read x s rest e ends =
      let f = (op_exact free outer last c frees 129 c (grows_refl c)).found (fresh first bytes c) (initial_state first bytes) x s (grows_refl c) sound (fresh_agrees first bytes c) e in
      let r = f.3.stands s.things (grows_refl s.things) f.3.sound in
      let mark : IsMark End f.1.bytes rest = subst (λ b. IsMark End b rest) (bytes_now s f.1 f.3.sound f.3.agree) (after_found End s.bytes rest ends) in
      record {
        known = r.0;
        holds = (f.1, rest, subst (λ y. IsOp c.opaque outer last 129 y (initial_state first bytes) f.1) (sym r.1) f.2, mark);
        only = λ y h. (single_is x s e y h).0;
      }

  pub single_more : (x : Op) (s : State) → op_at free last 129 (fresh first bytes c) ≡ Read (x, s) → after End s.bytes ≡ None → IsNone (IsSingleOp c.opaque outer last first bytes)
  single_more x s e more y h =
      let k = single_is x s e y h in
      let ends = after_only End s.bytes k.1.0 k.1.1 in
      let clash : None ≡ Some k.1.0 = sym more ∙ ends in absurd cc

  pub single_wrong : op_at free last 129 (fresh first bytes c) ≡ Wrong → IsNone (IsSingleOp c.opaque outer last first bytes)
  unfolding IsSingleOp
  single_wrong e y h = ⊎_elim
      (λ (f : op_at free last 129 (fresh first bytes c) ≡ Full). absurd cc)
      (λ (f : (x' : Op) × (s' : State) × (op_at free last 129 (fresh first bytes c) ≡ Read (x', s')) × Step held StateDenotes OpDenotes (fresh first bytes c) x' y s' h.0). let g = f.2 in absurd cc)
      ((op_exact free outer last c frees 129 c (grows_refl c)).only (fresh first bytes c) (initial_state first bytes) y h.0 (grows_refl c) sound (fresh_agrees first bytes c) h.2)

  abbrev read_to : Op → ContextModel → List ℕ → Outcome (Op × ContextModel)
  read_to x d rest = Read (x, d)

  abbrev whole : Op × State → Outcome (Op × ContextModel)
  whole x = of_option (after End x.1.bytes) >>= read_to x.0 x.1.things

  -- the same for the parser of one operation
  pub alone_read : (x : Op) (d : ContextModel) → single_op_at free last (fresh first bytes c) ≡ Read (x, d) → IsOnly (IsSingleOp c.opaque outer last first bytes) d x
  unfolding single_op_at
  alone_read x d e =
      let a = bind_read (op_at free last 129 (fresh first bytes c)) whole (x, d) e in
      let b = option_read (after End a.0.1.bytes) (read_to a.0.0 a.0.1.things) (x, d) a.2 in
      let q = read_parts a.0.0 x a.0.1.things d b.2 in
      subst (λ (u : Op × ContextModel). IsOnly (IsSingleOp c.opaque outer last first bytes) u.1 u.0) (λ i. (q.0 i, q.1 i)) (single_read a.0.0 a.0.1 b.0 a.1 b.1)

  pub alone_wrong : single_op_at free last (fresh first bytes c) ≡ Wrong → IsNone (IsSingleOp c.opaque outer last first bytes)
  unfolding single_op_at
  alone_wrong e = by_op (op_at free last 129 (fresh first bytes c)) refl e
    where
      by_end : (x : Op) (s : State) → op_at free last 129 (fresh first bytes c) ≡ Read (x, s) → (o : Option (List ℕ)) → after End s.bytes ≡ o → (of_option o >>= read_to x s.things) ≡ Wrong → IsNone (IsSingleOp c.opaque outer last first bytes)
      by_end x s read None none w = single_more x s read none
      by_end x s read (Some rest) ends w = absurd cc

      by_op : (o : Outcome (Op × State)) → op_at free last 129 (fresh first bytes c) ≡ o → (o >>= whole) ≡ Wrong → IsNone (IsSingleOp c.opaque outer last first bytes)
      by_op (Read x) read w = by_end x.0 x.1 read (after End x.1.bytes) refl w
      by_op Wrong wrong w = single_wrong wrong
      by_op Full full w = absurd cc

-- ---- the checks after the parse

module _ (o : Bool) (outer : FreeTerms) (first : ℕ) (bytes : List ℕ) where
  pub part_rendered : (c : ContextModel) (t : Op) → text_reason bytes ≡ None → IsOnly (IsSingleOp o outer (last_from first) first bytes) c t → IsLoneTree first c t → IsOnly (SpellsOp o outer first bytes) c t
  part_rendered c t text h w = record {
    known = h.known;
    holds = record {
      text = text;
      rendered = h.holds;
      shallow = rw (map_depth (name_term c) (type_term c) (attr_term c) t) w.0;
      counts = subst IsTrue (sym (map_counts (name_term c) (type_term c) (attr_term c) t)) w.1;
      numbered = subst (λ xs. xs ≡ range_with_len first (length xs)) (sym (numbers_are c t)) w.2;
      sorted = subst IsTrue (sym (all_rise c t)) w.3.sorted;
    };
    only = λ y s. h.only y s.rendered;
  }

  pub no_part : (c : ContextModel) (t : Op) → IsOnly (IsSingleOp o outer (last_from first) first bytes) c t → (IsLoneTree first c t → ⊥) → IsNone (SpellsOp o outer first bytes)
  no_part c t h not_part y s =
      let same : y ≡ meaning c t = h.only y s.rendered in
      let shallow : depth (meaning c t) ≤ most_around = subst (λ (u : Operation). depth u ≤ most_around) same s.shallow in
      let counts : IsTrue (counts_fit (meaning c t)) = subst (λ (u : Operation). IsTrue (counts_fit u)) same s.counts in
      let numbered : IsNumberedFrom first (meaning c t) = subst (λ (u : Operation). ids u ≡ range_with_len first (length (ids u))) same s.numbered in
      let sorted : IsTrue (every (dictionaries_rise key_before) (meaning c t)) = subst (λ (u : Operation). IsTrue (every (dictionaries_rise key_before) u)) same s.sorted in
      not_part (
        rw (← map_depth (name_term c) (type_term c) (attr_term c) t) shallow,
        subst IsTrue (map_counts (name_term c) (type_term c) (attr_term c) t) counts,
        subst (λ xs. xs ≡ range_with_len first (length xs)) (numbers_are c t) numbered,
        record { known = h.known; sorted = subst IsTrue (all_rise c t) sorted },
      )

  pub single_none : IsNone (IsSingleOp o outer (last_from first) first bytes) → IsNone (SpellsOp o outer first bytes)
  single_none none y s = none y s.rendered

  pub no_text : (r : TextRefusal × ℕ) → text_reason bytes ≡ Some r → IsNone (SpellsOp o outer first bytes)
  no_text r e y s = let t = s.text in absurd cc
