-- The parser and the grammar of operations agree.
use Rattle.std.specs.Prelude.{if◌then◌else◌, option_map, nat_lt, IsTrue}
use Rattle.std.specs.List.{list_all}
use Rattle.std.specs.Str.{bytes_eq}
use Rattle.std.proofs.Common.{◌≡◌, ◌<◌, ◌+◌, ℕ, zero, suc, Bool, true, false, true≢false, List, [], ◌∷◌, map, Option, Some, None, refl, sym, ap, subst, ◌∙◌, ◌⊎◌, inl, inr, ⊎_elim}
use Rattle.std.proofs.lemmas.Bool.{ltb-true, lt-ltb, and_from}
use Rattle.ir_text_tokens.specs.declared.token.Mark.TheVariants.{CloseCurly, Colon, End}
use Rattle.ir_text_tokens.specs.Scopes.{Binding, Scopes}
use Rattle.ir_types.specs.Things.{ContextModel, IsExtendedBy}
use Rattle.ir_types.specs.Terms.{TypeTerm}
use Rattle.ir_types.specs.Words.{is_isolated}
use Rattle.ir_types.specs.Sound.{IsSound}
use Rattle.ir_types.proofs.Growth.{grows_refl, grows_trans, name_is, name_refl}
use Rattle.ir_types.proofs.Terms.{type_term_one}
use Rattle.ir_tree.specs.Tree.{Op, Region}
use Rattle.ir_tree.specs.Meaning.{Operation, meaning, is_known, isolated_in, key_before}
use Rattle.ir_text_types.specs.Marks.{after}
use Rattle.ir_text_types.specs.Outcomes.{Outcome, Read, Wrong, Full, ◌>>=◌, of_option, Parse}
use Rattle.ir_text_types.specs.Grammars.{When, Grammar, Then, Done, After}
use Rattle.ir_text_types.specs.Typed.{Text, Typed, after_typed, name_step}
use Rattle.ir_text_types.specs.TypeReading.{function_type_at}
use Rattle.ir_text_types.specs.TypeGrammar.{IsFunctionType}
use Rattle.ir_text_types.specs.Worlds.{From}
use Rattle.ir_text_types.specs.Denotation.{NameDenotes, TypeDenotes}
use Rattle.ir_text_types.specs.Laws.{Each, SignatureDenotes}
use Rattle.ir_text_types.proofs.Worlds.{bind_assoc, later, Exact, Step, Reads, exact_where, exact_rendered, nothing_exact, then_exact, after_exact}
use Rattle.ir_text_types.proofs.TextLaws.{things, Same}
use Rattle.ir_text_types.proofs.TypeLaws.{function_type_exact}
use Rattle.ir_text_attributes.proofs.NodeLaws as attrs
use Rattle.ir_text_names.specs.declared.bound.TypedValue.{TypedValue}
use Rattle.ir_text_names.specs.States.{State, to_bytes, after_in, typed, with_typed, with_scopes, fresh}
use Rattle.ir_text_operations.specs.PrecedingReading.{Frees, Start, start_at}
use Rattle.ir_text_attributes.specs.AttrReading.{Entries}
use Rattle.ir_text_operations.specs.EntryReading.{properties_at, attributes_at}
use Rattle.ir_text_operations.specs.Made.{made}
use Rattle.ir_text_names.specs.BlockReading.{finish}
use Rattle.ir_text_operations.specs.OpReading.{bound_types, op_of, signature_here, regions_at, ops_at, tail_at, begun, op_with, op_at}
use Rattle.ir_text_operations.specs.ParseState.{BoundTerm, PackTerm, ParseState, state_with_rest, state_with_scopes, initial_state, IsMarkToken, InText}
use Rattle.ir_text_attributes.specs.AttrGrammar.{EntryTerm}
use Rattle.ir_text_operations.specs.OpGrammar.{FreeTerms, StartTerm, RegionTerm, is_property, IsStart, IsProperties, IsAttributes, IsRegions, IsFinished, IsOps, IsTail, IsOpWith, IsOp}
use Rattle.ir_text_operations.specs.Denotation.{BoundDenotes, FreeDenotes, HereDenotes, StateDenotes, StartDenotes, EntryDenotes, RegionDenotes, OpDenotes}
use Rattle.ir_text_operations.proofs.PrecedingLaws.{begin_exact, shift_exact, start_exact}
use Rattle.ir_text_operations.proofs.EntryLaws.{properties_exact, attributes_exact}
use Rattle.ir_text_operations.proofs.NameLaws.{held, state_marks, in_typed, in_text, typed_exact, text_exact, finish_scoped, scoped_exact}
use Rattle.ir_text_operations.proofs.BlockLaws.{ops_exact, regions_exact}
use Rattle.ir_text_operations.proofs.MadeLaws.{op_stands}

-- ---- tests

module _ {A B : Type 0} (c : ContextModel) (R : ContextModel → A → B → Type 0) where
  -- a test that decides the condition of the grammar
  pub when_exact : (b : Bool) (F : Type 0) (p : Parse State A) (P : Grammar ParseState B) → (b ≡ true → F) → (F → b ≡ true) → Exact held StateDenotes c R p P → Exact held StateDenotes c R (λ s. if b then p s else Wrong) (When F P)
  when_exact true F p P into back k = exact_rendered held StateDenotes c R p P (When F P) (λ y t t' j. (into refl, j)) (λ y t t' j. j.1) k
  when_exact false F p P into back k =
      exact_rendered held StateDenotes c R (λ s. Wrong) (λ y old new. ⊥) (When F P) (λ y t t' j. absurd j) (λ y t t' j. absurd (true≢false (sym (back j.0)))) (nothing_exact held StateDenotes c R)

  -- a parser of a single possible value
  pub alone_exact : (p : Parse State A) (y : B) → Exact held StateDenotes c R p (Done y) → Exact held StateDenotes c (λ z x (u : Unit {0}). R z x y) p (Done tt)
  alone_exact p y k = record {
    found = λ s t x s' g sound h e.
        let f = k.found s t x s' g sound h e in
        let step : Step held StateDenotes R s x y s' f.1 = subst (λ v. Step held StateDenotes R s x v s' f.1) f.2.0 f.3 in
        (tt, f.1, (refl, f.2.1), record { grows = step.grows; sound = step.sound; stands = step.stands; agree = step.agree });
    only = λ s t u t' g sound h j. again s (p s) t' u (k.only s t y t' g sound h (refl, j.1));
  }
    where
      again : (s : State) (o : Outcome (A × State)) (t' : ParseState) (u : Unit {0}) → Reads held StateDenotes R s o y t' → Reads held StateDenotes (λ z x (u : Unit {0}). R z x y) s o u t'
      again s o t' u (inl e) = inl e
      again s o t' u (inr f) = inr (f.0, f.1, f.2, record { grows = f.3.grows; sound = f.3.sound; stands = f.3.stands; agree = f.3.agree })

-- ---- the types of operands

operand_types : (z : ContextModel) (os : List TypedValue) (us : List BoundTerm) → Each BoundDenotes z os us → Each TypeDenotes z (bound_types os) (map (λ b. b.type) us)
operand_types z [] [] h = tt
operand_types z [] (y ∷ ys) h = absurd h
operand_types z (x ∷ xs) [] h = absurd h
operand_types z (x ∷ xs) (y ∷ ys) h = (h.0.1, operand_types z xs ys h.1)

types_one : (z : ContextModel) → IsSound z → (xs us : List ℕ) (ys : List TypeTerm) → Each TypeDenotes z xs ys → Each TypeDenotes z us ys → xs ≡ us
types_one z sound [] [] [] h k = refl
types_one z sound [] (u ∷ us) [] h k = absurd k
types_one z sound (x ∷ xs) us [] h k = absurd h
types_one z sound [] us (y ∷ ys) h k = absurd h
types_one z sound (x ∷ xs) [] (y ∷ ys) h k = absurd k
types_one z sound (x ∷ xs) (u ∷ us) (y ∷ ys) h k = let same = type_term_one z x u sound h.0.0 k.0.0 (h.0.1 ∙ sym k.0.1) in λ i. same i ∷ types_one z sound xs us ys h.1 k.1 i

terms_one : (z : ContextModel) (xs : List ℕ) (ys vs : List TypeTerm) → Each TypeDenotes z xs ys → Each TypeDenotes z xs vs → ys ≡ vs
terms_one z [] [] [] h k = refl
terms_one z [] (y ∷ ys) vs h k = absurd h
terms_one z [] [] (v ∷ vs) h k = absurd k
terms_one z (x ∷ xs) [] vs h k = absurd h
terms_one z (x ∷ xs) (y ∷ ys) [] h k = absurd k
terms_one z (x ∷ xs) (y ∷ ys) (v ∷ vs) h k = λ i. (sym h.0.1 ∙ k.0.1) i ∷ terms_one z xs ys vs h.1 k.1 i

-- ---- after the regions

signature_read : (o : Bool) (c : ContextModel) → c.opaque ≡ o → Exact things Same c SignatureDenotes signature_here (IsFunctionType o)
signature_read o c mode =
    exact_where things Same c SignatureDenotes signature_here (function_type_at o) (IsFunctionType o) (λ s g sound. ap (λ b. function_type_at b s) (g.opaque ∙ mode))
    (function_type_exact o c)

abbrev Signature : Type 0
Signature = List ℕ × List ℕ

abbrev SignatureTerm : Type 0
SignatureTerm = List TypeTerm × List TypeTerm

module _ (id name : ℕ) (h : Start) (ps : Entries) (gs : List Region) where
  abbrev ended : ContextModel → Entries → Signature → State → Outcome (Op × State)
  ended c es sig s = (if bytes_eq (bound_types h.operands) sig.0 then finish id h.results sig.1 s.scopes else Wrong) >>= λ u. Read (op_of c id name h.operands ps es sig.1 gs, with_scopes s u)

  abbrev ends : Entries → Signature → State → Outcome (Op × State)
  ends es sig s = ended s.things es sig s

  abbrev tail_type : Entries → State → Outcome (Op × State)
  tail_type es s = in_typed signature_here s >>= λ t. ends es t.0 t.1

  abbrev tail_in : State → Outcome (Op × State)
  tail_in s = in_typed (attributes_at name ps) s >>= λ e. of_option (after_in Colon e.1) >>= tail_type e.0

  abbrev tail_from : State → Entries → Typed → Outcome (Op × State)
  tail_from s es t = of_option (after_typed Colon t) >>= λ c. signature_here c >>= λ u. ends es u.0 (with_typed s u.1)

  type_same : (s : State) (es : Entries) (t : Typed) → tail_from s es t ≡ (of_option (after_in Colon (with_typed s t)) >>= tail_type es)
  type_same s es t = by_rest (after Colon t.0)
    where
      by_rest : (o : Option Text) → (of_option (option_map (λ r. (r, t.1)) o) >>= λ c. signature_here c >>= λ u. ends es u.0 (with_typed s u.1)) ≡ (of_option (option_map (to_bytes (with_typed s t)) o) >>= tail_type es)
      by_rest None = refl
      by_rest (Some rest) = sym (bind_assoc (signature_here (rest, t.1)) (λ x. Read (x.0, with_typed s x.1)) (λ u. ends es u.0 u.1))

  tail_same : (s : State) → tail_at id name h ps gs s ≡ tail_in s
  unfolding tail_at
  tail_same s =
      (λ i. attributes_at name ps (typed s) >>= λ e. type_same s e.0 e.1 i)
      ∙ sym (bind_assoc (attributes_at name ps (typed s)) (λ x. Read (x.0, with_typed s x.1)) (λ e. of_option (after_in Colon e.1) >>= tail_type e.0))

  module _ (begin : StartTerm) (qs : List EntryTerm) (ys : List RegionTerm) where
    abbrev Ends : List EntryTerm → List TypeTerm → Grammar ParseState Operation
    Ends fs outputs y old new =
        (scopes : Scopes PackTerm) × IsFinished id begin.results outputs old.scopes scopes × (new ≡ state_with_scopes old scopes)
        × (y ≡ made (is_property (Some begin.name)) key_before id begin.name (map (λ b. b.value) begin.operands) qs fs outputs ys)

    abbrev Checked : List EntryTerm → SignatureTerm → Grammar ParseState Operation
    Checked fs sig = When (map (λ b. b.type) begin.operands ≡ sig.0) (Ends fs sig.1)

    module _ (c : ContextModel) (sound : IsSound c) (starts : From (λ z. StartDenotes z h begin) c) (names : From (λ z. NameDenotes z name begin.name) c) (before : From (λ z. Each EntryDenotes z ps qs) c) (regions : From (λ z. Each RegionDenotes z gs ys) c)
        (es : Entries) (fs : List EntryTerm) (sig : Signature) (terms : SignatureTerm) (entries : From (λ z. Each EntryDenotes z es fs) c) (types : From (λ z. SignatureDenotes z sig terms) c) where
      abbrev op_now : Op
      op_now = op_of c id name h.operands ps es sig.1 gs

      abbrev term_now : Operation
      term_now = made (is_property (Some begin.name)) key_before id begin.name (map (λ b. b.value) begin.operands) qs fs terms.1 ys

      abbrev finishing : State → Outcome (Op × State)
      finishing s = finish id h.results sig.1 s.scopes >>= λ u. Read (op_now, with_scopes s u)

      op_now_stands : From (λ z. OpDenotes z op_now term_now) c
      op_now_stands = λ z g w.
          op_stands c z id name begin.name h.operands begin.operands ps qs es fs sig.1 terms.1 gs ys (names c (grows_refl c) sound) (names z g w) ((starts z g w).2) (before c (grows_refl c) sound) (before z g w)
          (entries c (grows_refl c) sound) (entries z g w) ((types z g w).1) (regions z g w)

      finished_exact : Exact held StateDenotes c OpDenotes finishing (Ends fs terms.1)
      finished_exact =
          let results : h.results ≡ begin.results = (starts c (grows_refl c) sound).0 in
          exact_rendered held StateDenotes c OpDenotes finishing
          (λ v old new. (scopes : Scopes PackTerm) × IsFinished id h.results terms.1 old.scopes scopes × (v ≡ term_now) × (new ≡ state_with_scopes old scopes)) (Ends fs terms.1)
          (λ y t t' k. (k.0, subst (λ r. IsFinished id r terms.1 t.scopes k.0) results k.1, k.3, k.2)) (λ y t t' k. (k.0, subst (λ r. IsFinished id r terms.1 t.scopes k.0) (sym results) k.1, k.3, k.2))
          (scoped_exact c OpDenotes op_now term_now op_now_stands (finish id h.results sig.1) (IsFinished id h.results terms.1) (finish_scoped id c h.results sig.1 terms.1 (λ z g w. (types z g w).1)))

      fits : bytes_eq (bound_types h.operands) sig.0 ≡ true → map (λ b. b.type) begin.operands ≡ terms.0
      fits e =
          let same = name_is (bound_types h.operands) sig.0 e in
          terms_one c (bound_types h.operands) (map (λ b. b.type) begin.operands) terms.0 (operand_types c h.operands begin.operands (starts c (grows_refl c) sound).2) (subst (λ l. Each TypeDenotes c l terms.0) (sym same) (types c (grows_refl c) sound).0)

      fits_back : map (λ b. b.type) begin.operands ≡ terms.0 → bytes_eq (bound_types h.operands) sig.0 ≡ true
      fits_back e =
          let stand = subst (λ l. Each TypeDenotes c (bound_types h.operands) l) e (operand_types c h.operands begin.operands (starts c (grows_refl c) sound).2) in
          subst (λ l. bytes_eq (bound_types h.operands) l ≡ true) (types_one c sound (bound_types h.operands) sig.0 terms.0 stand (types c (grows_refl c) sound).0) (name_refl (bound_types h.operands))

      test_out : (b : Bool) (s : State) → ((if b then finish id h.results sig.1 s.scopes else Wrong) >>= λ u. Read (op_now, with_scopes s u)) ≡ (if b then finishing s else Wrong)
      test_out true s = refl
      test_out false s = refl

      checked_exact : Exact held StateDenotes c OpDenotes (ended c es sig) (Checked fs terms)
      checked_exact =
          exact_where held StateDenotes c OpDenotes (ended c es sig) (λ s. if bytes_eq (bound_types h.operands) sig.0 then finishing s else Wrong) (Checked fs terms)
          (λ s g w. test_out (bytes_eq (bound_types h.operands) sig.0) s)
          (when_exact c OpDenotes (bytes_eq (bound_types h.operands) sig.0) (map (λ b. b.type) begin.operands ≡ terms.0) finishing (Ends fs terms.1) fits fits_back finished_exact)

    pub tail_exact : (c : ContextModel) → From (λ z. StartDenotes z h begin) c → From (λ z. NameDenotes z name begin.name) c → From (λ z. Each EntryDenotes z ps qs) c → From (λ z. Each RegionDenotes z gs ys) c
        → Exact held StateDenotes c OpDenotes (tail_at id name h ps gs) (IsTail c.opaque id begin qs ys)
    tail_exact c starts names before regions =
        exact_where held StateDenotes c OpDenotes (tail_at id name h ps gs) tail_in (IsTail c.opaque id begin qs ys) (λ s g sound. tail_same s)
        (then_exact held StateDenotes c (Each EntryDenotes) OpDenotes (in_typed (attributes_at name ps)) (InText (IsAttributes c.opaque begin.name qs)) (λ es s. of_option (after_in Colon s) >>= tail_type es) (λ fs. After IsMarkToken Colon (Then (InText (IsFunctionType c.opaque)) (Checked fs)))
        (typed_exact c (Each EntryDenotes) (attributes_at name ps) (IsAttributes c.opaque begin.name qs) (attributes_exact c name begin.name ps qs names before)) (λ d es fs g entries.
        after_exact held StateDenotes after_in IsMarkToken state_marks d OpDenotes Colon (tail_type es) (Then (InText (IsFunctionType c.opaque)) (Checked fs))
        (then_exact held StateDenotes d SignatureDenotes OpDenotes (in_typed signature_here) (InText (IsFunctionType c.opaque)) (ends es) (Checked fs) (typed_exact d SignatureDenotes signature_here (IsFunctionType c.opaque) (signature_read c.opaque d g.opaque)) (λ e sig terms up types.
        begin_exact held StateDenotes e OpDenotes (λ s. ended s.things es sig) (λ t. Checked fs terms) (λ s t k sound now.
        let from_d = grows_trans d e s.things up k in
        let from_c = grows_trans c d s.things g from_d in
        checked_exact s.things sound (later (λ z. StartDenotes z h begin) c s.things from_c starts) (later (λ z. NameDenotes z name begin.name) c s.things from_c names) (later (λ z. Each EntryDenotes z ps qs) c s.things from_c before)
        (later (λ z. Each RegionDenotes z gs ys) c s.things from_c regions) es fs sig terms (later (λ z. Each EntryDenotes z es fs) d s.things from_d entries) (later (λ z. SignatureDenotes z sig terms) e s.things k types))))))

-- ---- operations

abbrev name_in : List ℕ → Parse Typed ℕ
name_in bytes s = name_step bytes s.1 >>= λ n. Read (n.0, (s.0, n.1))

abbrev next_id : State → State
next_id s = record { bytes = s.bytes; scopes = s.scopes; next = s.next + 1; things = s.things }

abbrev seen_next : ParseState → ParseState
seen_next t = record { bytes = t.bytes; scopes = t.scopes; next = t.next + 1 }

done_alone : {B : Type 0} (Q : Grammar ParseState B) (y : B) (t t' : ParseState) → Then (Done {B = Unit {0}} tt) (λ u. Q) y t t' → Q y t t'
done_alone Q y t t' k = subst (λ m. Q y m t') k.2.1 k.3

alone_done : {B : Type 0} (Q : Grammar ParseState B) (y : B) (t t' : ParseState) → Q y t t' → Then (Done {B = Unit {0}} tt) (λ u. Q) y t t'
alone_done Q y t t' k = (tt, t, (refl, refl), k)

module _ (free : Frees) (outer : FreeTerms) (base : ContextModel) (frees : From (λ z. FreeDenotes z free outer) base) (p : Parse State (List Op)) (P : Grammar ParseState (List Operation)) (body : (c : ContextModel) → IsExtendedBy base c → Exact held StateDenotes c (Each OpDenotes) p P) where
  abbrev at_regions : ℕ → Start → ℕ → Bool → Entries → State → Outcome (Op × State)
  at_regions id h n isolated es s = regions_at p id isolated s >>= λ rs. tail_at id n h es rs.0 rs.1

  abbrev at_properties : ℕ → Start → ℕ → Bool → State → Outcome (Op × State)
  at_properties id h n isolated s = in_typed properties_at s >>= λ e. at_regions id h n isolated e.0 (next_id e.1)

  abbrev at_name : ℕ → Start → State → Outcome (Op × State)
  at_name id h s = in_typed (name_in h.name) s >>= λ n. at_properties id h n.0 (isolated_in n.1.things n.0) n.1

  abbrev at_start : List (Binding (List TypedValue)) → ℕ → State → Outcome (Op × State)
  at_start here id s = in_text (start_at free here) s >>= λ h. at_name id h.0 h.1

  properties_same : (id : ℕ) (h : Start) (n : ℕ) (isolated : Bool) (s : State) → (properties_at (typed s) >>= λ e. at_regions id h n isolated e.0 (begun s e.1)) ≡ at_properties id h n isolated s
  properties_same id h n isolated s = sym (bind_assoc (properties_at (typed s)) (λ x. Read (x.0, with_typed s x.1)) (λ e. at_regions id h n isolated e.0 (next_id e.1)))

  name_same : (id : ℕ) (h : Start) (s : State) → (name_step h.name s.things >>= λ n. properties_at (s.bytes, n.1) >>= λ e. at_regions id h n.0 (isolated_in n.1 n.0) e.0 (begun s e.1)) ≡ at_name id h s
  name_same id h s =
      (λ i. name_step h.name s.things >>= λ n. properties_same id h n.0 (isolated_in n.1 n.0) (with_typed s (s.bytes, n.1)) i)
      ∙ sym (bind_assoc (name_step h.name s.things) (λ n. Read (n.0, (s.bytes, n.1))) (λ n. at_properties id h n.0 (isolated_in n.1.1 n.0) (with_typed s n.1)))
      ∙ sym (bind_assoc (name_in h.name (typed s)) (λ x. Read (x.0, with_typed s x.1)) (λ n. at_properties id h n.0 (isolated_in n.1.things n.0) n.1))

  op_same : (s : State) → op_with free p s ≡ at_start s.scopes.here s.next s
  unfolding op_with
  op_same s =
      (λ i. start_at free s.scopes.here s.bytes >>= λ h. name_same s.next h.0 (to_bytes s h.1) i)
      ∙ sym (bind_assoc (start_at free s.scopes.here s.bytes) (λ x. Read (x.0, to_bytes s x.1)) (λ h. at_name s.next h.0 h.1))

  abbrev Regioned : ℕ → StartTerm → List EntryTerm → Grammar ParseState Operation
  Regioned id begin qs = Then (IsRegions base.opaque P id (is_isolated begin.name)) (λ ys. IsTail base.opaque id begin qs ys)

  abbrev Next : ℕ → StartTerm → List EntryTerm → Grammar ParseState Operation
  Next id begin qs y old new = Regioned id begin qs y (seen_next old) new

  abbrev Propertied : ℕ → StartTerm → Grammar ParseState Operation
  Propertied id begin = Then (InText (IsProperties base.opaque)) (λ qs. Next id begin qs)

  abbrev Started : List (Binding PackTerm) → ℕ → Grammar ParseState Operation
  Started there id = Then (InText (IsStart outer there)) (λ begin. Propertied id begin)

  started_into : (y : Operation) (t t' : ParseState) → Started t.scopes.here t.next y t t' → IsOpWith base.opaque outer P y t t'
  started_into y t t' k =
      let start = k.2 in
      let rest = k.3 in
      let props = rest.2 in
      let first : k.1 ≡ state_with_rest t start.0 = start.2 in
      let second : rest.1 ≡ state_with_rest t props.0 = props.2 ∙ ap (λ m. state_with_rest m props.0) first in
      (k.0, start.0, rest.0, props.0, start.1, subst (λ m. IsProperties base.opaque rest.0 m.bytes props.0) first props.1, subst (λ m. Regioned t.next k.0 rest.0 y (seen_next m) t') second rest.3)

  started_back : (y : Operation) (t t' : ParseState) → IsOpWith base.opaque outer P y t t' → Started t.scopes.here t.next y t t'
  started_back y t t' k = (k.0, state_with_rest t k.1, (k.1, k.4, refl), (k.2, state_with_rest t k.3, (k.3, k.5, refl), k.6))

  -- in a context that extends the base
  properties_here : (c : ContextModel) → IsExtendedBy base c → Exact things Same c (Each EntryDenotes) properties_at (IsProperties base.opaque)
  properties_here c b = subst (λ o. Exact things Same c (Each EntryDenotes) properties_at (IsProperties o)) b.opaque (properties_exact c)

  module _ (id : ℕ) (h : Start) (begin : StartTerm) where
    regioned_exact : (c : ContextModel) → IsExtendedBy base c → (n : ℕ) (es : Entries) (qs : List EntryTerm) → From (λ z. StartDenotes z h begin) c → From (λ z. NameDenotes z n begin.name) c → From (λ z. Each EntryDenotes z es qs) c
        → Exact held StateDenotes c OpDenotes (at_regions id h n (is_isolated begin.name) es) (Regioned id begin qs)
    regioned_exact c b n es qs starts names before =
        then_exact held StateDenotes c (Each RegionDenotes) OpDenotes (regions_at p id (is_isolated begin.name)) (IsRegions base.opaque P id (is_isolated begin.name)) (λ gs. tail_at id n h es gs) (λ ys. IsTail base.opaque id begin qs ys) (regions_exact p P base body id (is_isolated begin.name) c b) (λ d gs ys g stand.
        subst (λ o. Exact held StateDenotes d OpDenotes (tail_at id n h es gs) (IsTail o id begin qs ys)) (g.opaque ∙ b.opaque)
        (tail_exact id n h es gs begin qs ys d (later (λ z. StartDenotes z h begin) c d g starts) (later (λ z. NameDenotes z n begin.name) c d g names) (later (λ z. Each EntryDenotes z es qs) c d g before) stand))

    propertied_exact : (c : ContextModel) → IsExtendedBy base c → (n : ℕ) → From (λ z. StartDenotes z h begin) c → From (λ z. NameDenotes z n begin.name) c → Exact held StateDenotes c OpDenotes (at_properties id h n (is_isolated begin.name)) (Propertied id begin)
    propertied_exact c b n starts names =
        then_exact held StateDenotes c (Each EntryDenotes) OpDenotes (in_typed properties_at) (InText (IsProperties base.opaque)) (λ es s. at_regions id h n (is_isolated begin.name) es (next_id s)) (λ qs. Next id begin qs) (typed_exact c (Each EntryDenotes) properties_at (IsProperties base.opaque) (properties_here c b)) (λ d es qs g before.
        shift_exact held StateDenotes d OpDenotes next_id seen_next (at_regions id h n (is_isolated begin.name) es) (Regioned id begin qs) (λ s t sound a. (grows_refl s.things, sound, λ z k w. let now = a z k w in (now.0, now.1, ap (λ m. m + 1) now.2)))
        (regioned_exact d (grows_trans base c d b g) n es qs (later (λ z. StartDenotes z h begin) c d g starts) (later (λ z. NameDenotes z n begin.name) c d g names) before))

    in_name : (c : ContextModel) → h.name ≡ begin.name → Exact held StateDenotes c NameDenotes (in_typed (name_in h.name)) (Done begin.name)
    in_name c same =
        exact_rendered held StateDenotes c NameDenotes (in_typed (name_in h.name)) (InText (Done h.name)) (Done begin.name) (λ y t t' k. (k.1.0 ∙ same, k.2 ∙ ap (state_with_rest t) k.1.1)) (λ y t t' k. (t.bytes, (k.0 ∙ sym same, refl), k.1))
        (typed_exact c NameDenotes (name_in h.name) (Done h.name) (attrs.name_exact c h.name))

    named_exact : (c : ContextModel) → IsExtendedBy base c → IsSound c → From (λ z. StartDenotes z h begin) c → Exact held StateDenotes c OpDenotes (at_name id h) (Propertied id begin)
    named_exact c b sound starts =
        exact_rendered held StateDenotes c OpDenotes (at_name id h) (Then (Done {B = Unit {0}} tt) (λ u. Propertied id begin)) (Propertied id begin) (done_alone (Propertied id begin)) (alone_done (Propertied id begin))
        (then_exact held StateDenotes c (λ z n (u : Unit {0}). NameDenotes z n begin.name) OpDenotes (in_typed (name_in h.name)) (Done tt) (λ n s. at_properties id h n (isolated_in s.things n) s) (λ u. Propertied id begin)
        (alone_exact c NameDenotes (in_typed (name_in h.name)) begin.name (in_name c (starts c (grows_refl c) sound).1)) (λ d n u g names.
        begin_exact held StateDenotes d OpDenotes (λ s. at_properties id h n (isolated_in s.things n)) (λ t. Propertied id begin) (λ s t k fine now.
        subst (λ i. Exact held StateDenotes s.things OpDenotes (at_properties id h n i) (Propertied id begin)) (sym (ap is_isolated (names s.things k fine).1))
        (propertied_exact s.things (grows_trans base c s.things b (grows_trans c d s.things g k)) n (later (λ z. StartDenotes z h begin) c s.things (grows_trans c d s.things g k) starts) (later (λ z. NameDenotes z n begin.name) d s.things k names)))))

  started_exact : (c : ContextModel) → IsExtendedBy base c → (here : List (Binding (List TypedValue))) (there : List (Binding PackTerm)) (id : ℕ) → From (λ z. HereDenotes z here there) c → Exact held StateDenotes c OpDenotes (at_start here id) (Started there id)
  started_exact c b here there id stand =
      then_exact held StateDenotes c StartDenotes OpDenotes (in_text (start_at free here)) (InText (IsStart outer there)) (at_name id) (λ begin. Propertied id begin)
      (text_exact c StartDenotes (start_at free here) (IsStart outer there) (λ d g. start_exact d free outer here there (later (λ z. FreeDenotes z free outer) base d (grows_trans base c d b g) frees) (later (λ z. HereDenotes z here there) c d g stand))) (λ d h begin g starts.
      begin_exact held StateDenotes d OpDenotes (λ s. at_name id h) (λ t. Propertied id begin) (λ s t k sound now.
      named_exact id h begin s.things (grows_trans base d s.things (grows_trans base c d b g) k) sound (later (λ z. StartDenotes z h begin) d s.things k starts)))

  pub op_with_exact : (c : ContextModel) → IsExtendedBy base c → Exact held StateDenotes c OpDenotes (op_with free p) (IsOpWith base.opaque outer P)
  op_with_exact c b =
      exact_where held StateDenotes c OpDenotes (op_with free p) (λ s. at_start s.scopes.here s.next s) (IsOpWith base.opaque outer P) (λ s g sound. op_same s)
      (exact_rendered held StateDenotes c OpDenotes (λ s. at_start s.scopes.here s.next s) (λ y old new. Started old.scopes.here old.next y old new) (IsOpWith base.opaque outer P) started_into started_back
      (begin_exact held StateDenotes c OpDenotes (λ s. at_start s.scopes.here s.next) (λ t. Started t.scopes.here t.next) (λ s t g sound now.
      subst (λ n. Exact held StateDenotes s.things OpDenotes (at_start s.scopes.here s.next) (Started t.scopes.here n)) (now s.things (grows_refl s.things) sound).2
      (started_exact s.things (grows_trans base c s.things b g) s.scopes.here t.scopes.here s.next (λ z k w. (now z k w).1.0)))))

module _ (free : Frees) (outer : FreeTerms) (last : ℕ) (base : ContextModel) (frees : From (λ z. FreeDenotes z free outer) base) where
  pub op_exact : (depth : ℕ) (c : ContextModel) → IsExtendedBy base c → Exact held StateDenotes c OpDenotes (op_at free last depth) (IsOp base.opaque outer last depth)
  unfolding op_at IsOp
  op_exact zero c b = record { found = λ s t x s' g sound h e. absurd cc; only = λ s t y t' g sound h k. absurd k }
  op_exact (suc depth) c b =
      let p = ops_at CloseCurly (op_at free last depth) 1048576 [] in
      let P = IsOps CloseCurly (IsOp base.opaque outer last depth) 1048576 [] in
      begin_exact held StateDenotes c OpDenotes (λ u s. if nat_lt u.next last then op_with free p s else Wrong) (λ v. When (v.next < last) (IsOpWith base.opaque outer P)) (λ s t g sound now.
      let next = (now s.things (grows_refl s.things) sound).2 in
      when_exact s.things OpDenotes (nat_lt s.next last) (t.next < last) (op_with free p) (IsOpWith base.opaque outer P)
      (λ e. subst (λ n. n < last) next (ltb-true s.next last e)) (λ k. lt-ltb s.next last (subst (λ n. n < last) (sym next) k))
      (op_with_exact free outer base frees p P (λ d up. ops_exact CloseCurly (op_at free last depth) (IsOp base.opaque outer last depth) base (op_exact depth) 1048576 d up [] [] (λ z k w. tt)) s.things (grows_trans base c s.things b g)))

  -- operations up to the end of a text
  pub source_exact : (depth : ℕ) (c : ContextModel) → IsExtendedBy base c → Exact held StateDenotes c (Each OpDenotes) (ops_at End (op_at free last depth) 1048576 []) (IsOps End (IsOp base.opaque outer last depth) 1048576 [])
  source_exact depth c b = ops_exact End (op_at free last depth) (IsOp base.opaque outer last depth) base (op_exact depth) 1048576 c b [] [] (λ z k w. tt)

-- ---- from a text

-- at the start no name is bound
fresh_agrees : (next : ℕ) (bytes : Text) (c : ContextModel) → From (λ z. StateDenotes z (fresh next bytes c) (initial_state next bytes)) c
fresh_agrees next bytes c = λ z g w. (refl, (tt, tt), refl)

-- ---- and all operations of a text

each_known : (z : ContextModel) (os : List Op) (ys : List Operation) → Each OpDenotes z os ys → list_all (is_known z) os ≡ true
each_known z [] [] h = refl
each_known z [] (y ∷ ys) h = absurd h
each_known z (x ∷ xs) [] h = absurd h
each_known z (x ∷ xs) (y ∷ ys) h = and_from (is_known z x) (list_all (is_known z) xs) h.0.0 (each_known z xs ys h.1)

each_meaning : (z : ContextModel) (os : List Op) (ys : List Operation) → Each OpDenotes z os ys → map (meaning z) os ≡ ys
each_meaning z [] [] h = refl
each_meaning z [] (y ∷ ys) h = absurd h
each_meaning z (x ∷ xs) [] h = absurd h
each_meaning z (x ∷ xs) (y ∷ ys) h = λ i. h.0.1 i ∷ each_meaning z xs ys h.1 i

module _ (free : Frees) (outer : FreeTerms) (last : ℕ) where
  pub op_read : (depth next : ℕ) (c : ContextModel) (bytes : Text) (o : Op) (s : State) → IsSound c → From (λ z. FreeDenotes z free outer) c → op_at free last depth (fresh next bytes c) ≡ Read (o, s)
      → IsExtendedBy c s.things × IsSound s.things × IsTrue (is_known s.things o) × (t : ParseState) × IsOp c.opaque outer last depth (meaning s.things o) (initial_state next bytes) t × StateDenotes s.things s t
  op_read depth next c bytes o s sound frees e =
      let f = (op_exact free outer last c frees depth c (grows_refl c)).found (fresh next bytes c) (initial_state next bytes) o s (grows_refl c) sound (fresh_agrees next bytes c) e in
      let r = f.3.stands s.things (grows_refl s.things) f.3.sound in
      (f.3.grows, f.3.sound, r.0, f.1, subst (λ y. IsOp c.opaque outer last depth y (initial_state next bytes) f.1) (sym r.1) f.2, f.3.agree s.things (grows_refl s.things) f.3.sound)

  pub op_rendered : (depth next : ℕ) (c : ContextModel) (bytes : Text) (y : Operation) (t : ParseState) → IsSound c → From (λ z. FreeDenotes z free outer) c → IsOp c.opaque outer last depth y (initial_state next bytes) t
      → (op_at free last depth (fresh next bytes c) ≡ Full) ⊎ ((o : Op) × (s : State) × (op_at free last depth (fresh next bytes c) ≡ Read (o, s)) × IsExtendedBy c s.things × IsSound s.things × OpDenotes s.things o y × StateDenotes s.things s t)
  op_rendered depth next c bytes y t sound frees k = ⊎_elim
      (λ (e : op_at free last depth (fresh next bytes c) ≡ Full). inl e)
      (λ (f : (o : Op) × (s : State) × (op_at free last depth (fresh next bytes c) ≡ Read (o, s)) × Step held StateDenotes OpDenotes (fresh next bytes c) o y s t).
      inr (f.0, f.1, f.2, f.3.grows, f.3.sound, f.3.stands f.1.things (grows_refl f.1.things) f.3.sound, f.3.agree f.1.things (grows_refl f.1.things) f.3.sound))
      ((op_exact free outer last c frees depth c (grows_refl c)).only (fresh next bytes c) (initial_state next bytes) y t (grows_refl c) sound (fresh_agrees next bytes c) k)

  pub ops_read : (depth next : ℕ) (c : ContextModel) (bytes : Text) (os : List Op) (s : State) → IsSound c → From (λ z. FreeDenotes z free outer) c → ops_at End (op_at free last depth) 1048576 [] (fresh next bytes c) ≡ Read (os, s)
      → IsExtendedBy c s.things × IsSound s.things × IsTrue (list_all (is_known s.things) os) × (t : ParseState) × IsOps End (IsOp c.opaque outer last depth) 1048576 [] (map (meaning s.things) os) (initial_state next bytes) t × StateDenotes s.things s t
  ops_read depth next c bytes os s sound frees e =
      let f = (source_exact free outer last c frees depth c (grows_refl c)).found (fresh next bytes c) (initial_state next bytes) os s (grows_refl c) sound (fresh_agrees next bytes c) e in
      let r = f.3.stands s.things (grows_refl s.things) f.3.sound in
      (f.3.grows, f.3.sound, each_known s.things os f.0 r, f.1, subst (λ ys. IsOps End (IsOp c.opaque outer last depth) 1048576 [] ys (initial_state next bytes) f.1) (sym (each_meaning s.things os f.0 r)) f.2, f.3.agree s.things (grows_refl s.things) f.3.sound)

  pub ops_rendered : (depth next : ℕ) (c : ContextModel) (bytes : Text) (ys : List Operation) (t : ParseState) → IsSound c → From (λ z. FreeDenotes z free outer) c → IsOps End (IsOp c.opaque outer last depth) 1048576 [] ys (initial_state next bytes) t
      → (ops_at End (op_at free last depth) 1048576 [] (fresh next bytes c) ≡ Full)
      ⊎ ((os : List Op) × (s : State) × (ops_at End (op_at free last depth) 1048576 [] (fresh next bytes c) ≡ Read (os, s)) × IsExtendedBy c s.things × IsSound s.things × Each OpDenotes s.things os ys × StateDenotes s.things s t)
  ops_rendered depth next c bytes ys t sound frees k = ⊎_elim
      (λ (e : ops_at End (op_at free last depth) 1048576 [] (fresh next bytes c) ≡ Full). inl e)
      (λ (f : (os : List Op) × (s : State) × (ops_at End (op_at free last depth) 1048576 [] (fresh next bytes c) ≡ Read (os, s)) × Step held StateDenotes (Each OpDenotes) (fresh next bytes c) os ys s t).
      inr (f.0, f.1, f.2, f.3.grows, f.3.sound, f.3.stands f.1.things (grows_refl f.1.things) f.3.sound, f.3.agree f.1.things (grows_refl f.1.things) f.3.sound))
      ((source_exact free outer last c frees depth c (grows_refl c)).only (fresh next bytes c) (initial_state next bytes) ys t (grows_refl c) sound (fresh_agrees next bytes c) k)
