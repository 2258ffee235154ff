-- One attribute as a whole text, from the theorems about attributes.
use Rattle.std.specs.Prelude.{Result, Err}
use Rattle.std.proofs.Common.{◌≡◌, ℕ, Bool, List, [], Option, Some, None, refl, sym, ap, subst, ◌∙◌, ⊎_elim}
use Rattle.ir_text_tokens.specs.declared.fault.Fault.{Fault}
use Rattle.ir_text_tokens.specs.declared.token.Mark.TheVariants.{End}
use Rattle.ir_text_tokens.specs.Limits.{text_reason}
use Rattle.ir_text_tokens.specs.declared.refusal.TextRefusal.{TextRefusal}
use Rattle.ir_types.specs.Things.{ContextModel, IsExtendedBy}
use Rattle.ir_types.specs.Sound.{IsSound}
use Rattle.ir_types.specs.Terms.{AttrTerm, attr_term}
use Rattle.ir_text_types.specs.declared.error.ReadError.{ReadError}
use Rattle.ir_text_types.specs.declared.error.ReadError.TheVariants as errors
use Rattle.ir_text_types.specs.Grammars.{IsMark}
use Rattle.ir_text_types.specs.Marks.{after}
use Rattle.ir_text_types.specs.Outcomes.{Outcome, Read, Wrong, Full, ◌>>=◌, of_option, Fails}
use Rattle.ir_text_types.specs.Denotation.{AttrDenotes}
use Rattle.ir_text_types.specs.Typed.{Typed}
use Rattle.ir_text_types.proofs.TextLaws.{after_found, after_only}
use Rattle.ir_text_types.proofs.Worlds.{bind_read, option_read}
use Rattle.ir_text_attributes.specs.AttrReading.{attr_at}
use Rattle.ir_text_attributes.specs.AttrGrammar.{IsAttr}
use Rattle.ir_text_attributes.specs.SingleReading.{single_attr_at}
use Rattle.ir_text_attributes.specs.Spelling.{IsSingleAttr, SpellsAttr}
use Rattle.ir_text_attributes.specs.Claims.{IsOnlyAttr, IsNoAttr}
use Rattle.ir_text_attributes.proofs.AttrLaws.{attr_read, attr_rendered}
use Rattle.ir_text_attributes.proofs.UniqueAttributes.{attr_one}

module _ (o : Bool) (bytes : List ℕ) (c : ContextModel) (sound : IsSound c) where
  -- the rest of the text after an attribute
  rest_is : (n : ℕ) (s : Typed) → attr_at o 32 (bytes, c) ≡ Read (n, s) → (y : AttrTerm) (rest : List ℕ) → IsAttr o 32 y bytes rest → rest ≡ s.0
  rest_is n s e y rest k =
      let r = attr_read o 32 c s.1 bytes s.0 n sound e in
      (attr_one o 32 bytes y (attr_term s.1 n) rest s.0 k r.3).1

  alone_read : (n : ℕ) (s : Typed) (end : List ℕ) → attr_at o 32 (bytes, c) ≡ Read (n, s) → after End s.0 ≡ Some end → IsOnlyAttr (IsSingleAttr o bytes) s.1 n × IsExtendedBy c s.1
  unfolding IsSingleAttr
  alone_read n s end e ends =
      let r = attr_read o 32 c s.1 bytes s.0 n sound e in (
        record {
          known = r.2;
          holds = (s.0, end, r.3, after_found End s.0 end ends);
          only = λ y h. (attr_one o 32 bytes y (attr_term s.1 n) h.0 s.0 h.2 r.3).0;
        },
        r.0,
      )

  more_wrong : (n : ℕ) (s : Typed) → attr_at o 32 (bytes, c) ≡ Read (n, s) → after End s.0 ≡ None → IsNoAttr (IsSingleAttr o bytes)
  unfolding IsSingleAttr
  more_wrong n s e more y h =
      let left = rest_is n s e y h.0 h.2 in
      let ends = after_only End s.0 h.1 (subst (λ b. IsMark End b h.1) left h.3) in
      let clash : None ≡ Some h.1 = sym more ∙ ends in absurd cc

  none_wrong : attr_at o 32 (bytes, c) ≡ Wrong → IsNoAttr (IsSingleAttr o bytes)
  unfolding IsSingleAttr
  none_wrong e y h = ⊎_elim
      (λ (f : attr_at o 32 (bytes, c) ≡ Full). absurd cc)
      (λ (f : (n : ℕ) × (d : ContextModel) × (attr_at o 32 (bytes, c) ≡ Read (n, (h.0, d))) × IsExtendedBy c d × IsSound d × AttrDenotes d n y). let g = f.2 in absurd cc)
      (attr_rendered o 32 c bytes h.0 y sound h.2)

  abbrev read_as : ℕ → ContextModel → List ℕ → Outcome (ℕ × ContextModel)
  read_as n d end = Read (n, d)

  abbrev whole : ℕ × Typed → Outcome (ℕ × ContextModel)
  whole x = of_option (after End x.1.0) >>= read_as x.0 x.1.1

  -- equal results of a parse have equal parts
  parts_are : (n m : ℕ) (d z : ContextModel) → read_as n d [] ≡ read_as m z [] → (n ≡ m) × (d ≡ z)
  parts_are n m d z e =
      let p : (n, d) ≡ (m, z) = cc in
      (ap (λ (q : ℕ × ContextModel). q.0) p, ap (λ (q : ℕ × ContextModel). q.1) p)

  -- the same for the parser of one attribute
  pub single_read : (n : ℕ) (d : ContextModel) → single_attr_at o bytes c ≡ Read (n, d) → IsOnlyAttr (IsSingleAttr o bytes) d n × IsExtendedBy c d
  unfolding single_attr_at
  single_read n d e =
      let a = bind_read (attr_at o 32 (bytes, c)) whole (n, d) e in
      let b = option_read (after End a.0.1.0) (read_as a.0.0 a.0.1.1) (n, d) a.2 in
      let q = parts_are a.0.0 n a.0.1.1 d b.2 in
      subst (λ (u : ℕ × ContextModel). IsOnlyAttr (IsSingleAttr o bytes) u.1 u.0 × IsExtendedBy c u.1) (λ i. (q.0 i, q.1 i)) (alone_read a.0.0 a.0.1 b.0 a.1 b.1)

  pub single_wrong : single_attr_at o bytes c ≡ Wrong → IsNoAttr (IsSingleAttr o bytes)
  unfolding single_attr_at
  single_wrong e = by_attr (attr_at o 32 (bytes, c)) refl e
    where
      by_end : (n : ℕ) (s : Typed) → attr_at o 32 (bytes, c) ≡ Read (n, s) → (q : Option (List ℕ)) → after End s.0 ≡ q → (of_option q >>= read_as n s.1) ≡ Wrong → IsNoAttr (IsSingleAttr o bytes)
      by_end n s read None none w = more_wrong n s read none
      by_end n s read (Some end) ends w = absurd cc

      by_attr : (q : Outcome (ℕ × Typed)) → attr_at o 32 (bytes, c) ≡ q → (q >>= whole) ≡ Wrong → IsNoAttr (IsSingleAttr o bytes)
      by_attr (Read x) read w = by_end x.0 x.1 read (after End x.1.0) refl w
      by_attr Wrong wrong w = none_wrong wrong
      by_attr Full full w = absurd cc

-- ---- and the limits of a text

module _ (o : Bool) (bytes : List ℕ) where
  pub attr_spells : (c : ContextModel) (n : ℕ) → text_reason bytes ≡ None → IsOnlyAttr (IsSingleAttr o bytes) c n → IsOnlyAttr (SpellsAttr o bytes) c n
  attr_spells c n text h = record {
    known = h.known;
    holds = record { text = text; rendered = h.holds };
    only = λ y s. h.only y s.rendered;
  }

  pub none_rendered : IsNoAttr (IsSingleAttr o bytes) → IsNoAttr (SpellsAttr o bytes)
  none_rendered none y s = none y s.rendered

  pub no_text : (r : TextRefusal × ℕ) → text_reason bytes ≡ Some r → IsNoAttr (SpellsAttr o bytes)
  no_text r e y s = let t = s.text in absurd cc

-- ---- and the results

pub fails_wrong : {X Y : Type 0} (e : ReadError) (o : Outcome Y) (f : Fault) → Fails e o → ◌≡◌ {A = Result X ReadError} (Err e) (Err (errors.Refused f)) → o ≡ Wrong
fails_wrong errors.Memory o f h k = absurd cc
fails_wrong (errors.Full left) o f h k = absurd cc
fails_wrong (errors.Refused g) o f h k = h
