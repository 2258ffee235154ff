-- An operation is parsed part by part.
use Rattle.std.specs.Prelude.{nat_lt, if◌then◌else◌}
use Rattle.std.specs.Str.{bytes_eq}
use Rattle.std.proofs.Common.{◌≡◌, ℕ, zero, suc, ◌-◌, ◌<◌, ◌≤◌, Bool, true, false, List, [], length, Option, Some, None, refl, sym, ◌∙◌, arith}
use Rattle.std.proofs.lemmas.Bool.Decides.{nat_tests}
use Rattle.ir_text_tokens.specs.declared.token.Mark.TheVariants.{OpenRound, OpenCurly, CloseCurly, Colon}
use Rattle.ir_text_tokens.specs.Scopes.{Scopes, Binding}
use Rattle.ir_types.specs.Things.{ContextModel}
use Rattle.ir_tree.specs.Tree.{Op, Region}
use Rattle.ir_tree.specs.Meaning.{isolated_in}
use Rattle.ir_text_types.specs.declared.error.ReadError.{ReadError}
use Rattle.ir_text_types.specs.declared.error.ReadError.TheVariants as errors
use Rattle.ir_text_types.specs.Marks.{after}
use Rattle.ir_text_types.specs.Outcomes.{Outcome, Read, Wrong, Full, ◌>>=◌, of_option, Parse, Fails}
use Rattle.ir_text_types.specs.Typed.{Text, Typed, after_typed, name_step}
use Rattle.ir_text_types.proofs.ListSteps.{fails_with}
use Rattle.ir_text_types.proofs.Worlds.{bind_assoc}
use Rattle.ir_text_names.specs.declared.bound.TypedValue.{TypedValue}
use Rattle.ir_text_names.specs.BlockReading.{finish, head_at, region_head_at}
use Rattle.ir_text_names.specs.NameReading.{results_at}
use Rattle.ir_text_names.specs.Packs.{Counted}
use Rattle.ir_text_names.specs.States.{State, after_in, typed, with_typed, with_scopes, inside, outside}
use Rattle.ir_text_attributes.specs.AttrReading.{Entries}
use Rattle.ir_text_operations.specs.EntryReading.{properties_at, attributes_at}
use Rattle.ir_text_operations.specs.PrecedingReading.{Frees, Start, start_at, op_name_at, uses_at}
use Rattle.ir_text_operations.specs.Made.{region_of}
use Rattle.ir_text_operations.specs.OpReading.{bound_types, op_of, signature_here, tail_at, begun, region_at, regions_at, ops_at, op_with, op_at}
use Rattle.ir_text_operations.specs.Openings.{IsOfText, Opened, called_at, opening_at, result_types_at, finished_at}

-- equal continuations of a step
same_then : {A B : Type 0} (o : Outcome A) (f g : A → Outcome B) → ((x : A) → f x ≡ g x) → (o >>= f) ≡ (o >>= g)
same_then (Read x) f g h = h x
same_then Wrong f g h = refl
same_then Full f g h = refl

-- a failure of the first step is a failure of the whole
fails_then : {A B : Type 0} (e : ReadError) (o : Outcome A) (f : A → Outcome B) (whole : Outcome B) → whole ≡ (o >>= f) → Fails e o → Fails e whole
fails_then e o f whole same fails = fails_with e o whole (λ none. same ∙ rw none refl) (λ none. same ∙ rw none refl) fails

reads_then : {A B : Type 0} (o : Outcome A) (f : A → Outcome B) (whole : Outcome B) (x : A) → whole ≡ (o >>= f) → o ≡ Read x → whole ≡ f x
reads_then o f whole x same e = same ∙ rw e refl

-- ---- the header

module _ (free : Frees) (here : List (Binding (List TypedValue))) (bytes : Text) where
  abbrev with_operands : Option (List Counted) → List ℕ × Text → Outcome (Start × Text)
  with_operands results n = uses_at free here n.1 >>= λ operands. Read (record { results = results; name = n.0; operands = operands.0 }, operands.1)

  abbrev with_name : Option (List Counted) × Text → Outcome (Start × Text)
  with_name r = called_at r.1 >>= with_operands r.0

  start_is : start_at free here bytes ≡ (results_at bytes >>= with_name)
  unfolding start_at called_at
  start_is = same_then (results_at bytes) _ with_name (λ r. sym (
      bind_assoc (op_name_at r.1) (λ name. of_option (after OpenRound name.1) >>= λ o. Read (name.0, o)) (with_operands r.0)
      ∙ same_then (op_name_at r.1) (λ name. (of_option (after OpenRound name.1) >>= λ o. Read (name.0, o)) >>= with_operands r.0) _ (λ name. bind_assoc (of_option (after OpenRound name.1)) (λ o. Read (name.0, o)) (with_operands r.0))
      ))

  pub no_results : (e : ReadError) → Fails e (results_at bytes) → Fails e (start_at free here bytes)
  no_results e = fails_then e (results_at bytes) with_name (start_at free here bytes) start_is

  module _ (r : Option (List Counted) × Text) (results : results_at bytes ≡ Read r) where
    named_is : start_at free here bytes ≡ with_name r
    named_is = reads_then (results_at bytes) with_name (start_at free here bytes) r start_is results

    pub not_called : (e : ReadError) → Fails e (called_at r.1) → Fails e (start_at free here bytes)
    not_called e = fails_then e (called_at r.1) (with_operands r.0) (start_at free here bytes) named_is

    module _ (n : List ℕ × Text) (called : called_at r.1 ≡ Read n) where
      used_is : start_at free here bytes ≡ with_operands r.0 n
      used_is = reads_then (called_at r.1) (with_operands r.0) (start_at free here bytes) n named_is called

      pub no_operands : (e : ReadError) → Fails e (uses_at free here n.1) → Fails e (start_at free here bytes)
      no_operands e = fails_then e (uses_at free here n.1) (λ operands. Read (record { results = r.0; name = n.0; operands = operands.0 }, operands.1)) (start_at free here bytes) used_is

      pub started : (o : List TypedValue) (rest : Text) → uses_at free here n.1 ≡ Read (o, rest) → start_at free here bytes ≡ Read (record { results = r.0; name = n.0; operands = o }, rest)
      started o rest operands = reads_then (uses_at free here n.1) _ (start_at free here bytes) (o, rest) used_is operands

-- ---- up to the regions

module _ (free : Frees) (here : List (Binding (List TypedValue))) (s : Typed) where
  abbrev with_written : Start × Text → ℕ × ContextModel → Outcome (Opened × Typed)
  with_written h n = properties_at (h.1, n.1) >>= λ e. Read (record { start = h.0; name = n.0; isolated = isolated_in n.1 n.0; written = e.0 }, e.1)

  abbrev with_number : Start × Text → Outcome (Opened × Typed)
  with_number h = name_step h.0.name s.1 >>= with_written h

  opening_is : opening_at free here s ≡ (start_at free here s.0 >>= with_number)
  unfolding opening_at
  opening_is = refl

  pub no_start : (e : ReadError) → Fails e (start_at free here s.0) → Fails e (opening_at free here s)
  no_start e = fails_then e (start_at free here s.0) with_number (opening_at free here s) opening_is

  module _ (h : Start × Text) (start : start_at free here s.0 ≡ Read h) where
    numbered_is : opening_at free here s ≡ with_number h
    numbered_is = reads_then (start_at free here s.0) with_number (opening_at free here s) h opening_is start

    pub no_number : (e : ReadError) → Fails e (name_step h.0.name s.1) → Fails e (opening_at free here s)
    no_number e = fails_then e (name_step h.0.name s.1) (with_written h) (opening_at free here s) numbered_is

    module _ (n : ℕ × ContextModel) (name : name_step h.0.name s.1 ≡ Read n) where
      written_is : opening_at free here s ≡ with_written h n
      written_is = reads_then (name_step h.0.name s.1) (with_written h) (opening_at free here s) n numbered_is name

      pub no_properties : (e : ReadError) → Fails e (properties_at (h.1, n.1)) → Fails e (opening_at free here s)
      no_properties e = fails_then e (properties_at (h.1, n.1)) (λ e. Read (record { start = h.0; name = n.0; isolated = isolated_in n.1 n.0; written = e.0 }, e.1)) (opening_at free here s) written_is

      pub opened : (es : Entries) (t : Typed) → properties_at (h.1, n.1) ≡ Read (es, t) → opening_at free here s ≡ Read (record { start = h.0; name = n.0; isolated = isolated_in n.1 n.0; written = es }, t)
      opened es t e = reads_then (properties_at (h.1, n.1)) _ (opening_at free here s) (es, t) written_is e

-- ---- after the regions

module _ (id : ℕ) (h : Start) (s : State) where
  abbrev bound_to : List ℕ × Typed → Outcome (List ℕ × State)
  bound_to o = finish id h.results o.0 s.scopes >>= λ scopes. Read (o.0, with_scopes (with_typed s o.1) scopes)

  finished_is : finished_at id h s ≡ (result_types_at (bound_types h.operands) (typed s) >>= bound_to)
  unfolding finished_at
  finished_is = refl

  pub no_outputs : (e : ReadError) → Fails e (result_types_at (bound_types h.operands) (typed s)) → Fails e (finished_at id h s)
  no_outputs e = fails_then e (result_types_at (bound_types h.operands) (typed s)) bound_to (finished_at id h s) finished_is

  module _ (o : List ℕ × Typed) (outputs : result_types_at (bound_types h.operands) (typed s) ≡ Read o) where
    bound_is : finished_at id h s ≡ bound_to o
    bound_is = reads_then (result_types_at (bound_types h.operands) (typed s)) bound_to (finished_at id h s) o finished_is outputs

    pub not_bound : (e : ReadError) → Fails e (finish id h.results o.0 s.scopes) → Fails e (finished_at id h s)
    not_bound e = fails_then e (finish id h.results o.0 s.scopes) (λ scopes. Read (o.0, with_scopes (with_typed s o.1) scopes)) (finished_at id h s) bound_is

    pub is_finished : (scopes : Scopes (List TypedValue)) → finish id h.results o.0 s.scopes ≡ Read scopes → finished_at id h s ≡ Read (o.0, with_scopes (with_typed s o.1) scopes)
    is_finished scopes e = reads_then (finish id h.results o.0 s.scopes) _ (finished_at id h s) scopes bound_is e

module _ (id name : ℕ) (h : Start) (properties : Entries) (regions : List Region) (s : State) where
  abbrev op_after : Entries → List ℕ × State → Outcome (Op × State)
  op_after e f = Read (op_of f.1.things id name h.operands properties e f.0 regions, f.1)

  abbrev with_entries : Entries × Typed → Outcome (Op × State)
  with_entries e = finished_at id h (with_typed s e.1) >>= op_after e.0

  abbrev with_scoped : Entries × Typed → (List ℕ × List ℕ) × Typed → Scopes (List TypedValue) → Outcome (Op × State)
  with_scoped e t scopes = Read (op_of t.1.1 id name h.operands properties e.0 t.0.1 regions, with_scopes (with_typed s t.1) scopes)

  abbrev tested : (List ℕ × List ℕ) × Typed → Bool → Outcome (List ℕ × Typed)
  tested t b = if b then Read (t.0.1, t.1) else Wrong

  abbrev bound_as : Entries × Typed → List ℕ × Typed → Scopes (List TypedValue) → Outcome (List ℕ × State)
  bound_as e o scopes = Read (o.0, with_scopes (with_typed (with_typed s e.1) o.1) scopes)

  abbrev bound_after : Entries × Typed → List ℕ × Typed → Outcome (List ℕ × State)
  bound_after e o = finish id h.results o.0 s.scopes >>= bound_as e o

  by_test : (e : Entries × Typed) (t : (List ℕ × List ℕ) × Typed) (b : Bool) → ((if b then finish id h.results t.0.1 s.scopes else Wrong) >>= with_scoped e t) ≡ ((tested t b >>= bound_after e) >>= op_after e.0)
  by_test e t true = sym (bind_assoc (finish id h.results t.0.1 s.scopes) (bound_as e (t.0.1, t.1)) (op_after e.0))
  by_test e t false = refl

  abbrev with_test : (List ℕ × List ℕ) × Typed → Outcome (List ℕ × Typed)
  with_test t = tested t (bytes_eq (bound_types h.operands) t.0.0)

  by_type : (e : Entries × Typed) (o : Outcome ((List ℕ × List ℕ) × Typed)) → (o >>= λ t. (if bytes_eq (bound_types h.operands) t.0.0 then finish id h.results t.0.1 s.scopes else Wrong) >>= with_scoped e t)
      ≡ (((o >>= with_test) >>= bound_after e) >>= op_after e.0)
  by_type e (Read t) = by_test e t (bytes_eq (bound_types h.operands) t.0.0)
  by_type e Wrong = refl
  by_type e Full = refl

  by_colon : (e : Entries × Typed) (o : Option Typed) → (of_option o >>= λ c. signature_here c >>= λ t. (if bytes_eq (bound_types h.operands) t.0.0 then finish id h.results t.0.1 s.scopes else Wrong) >>= with_scoped e t)
      ≡ (((of_option o >>= λ c. signature_here c >>= with_test) >>= bound_after e) >>= op_after e.0)
  by_colon e (Some c) = by_type e (signature_here c)
  by_colon e None = refl

  by_entries : (e : Entries × Typed) → (of_option (after_typed Colon e.1) >>= λ c. signature_here c >>= λ t. (if bytes_eq (bound_types h.operands) t.0.0 then finish id h.results t.0.1 s.scopes else Wrong) >>= with_scoped e t)
      ≡ with_entries e
  unfolding finished_at result_types_at
  by_entries e = by_colon e (after_typed Colon e.1)

  tail_is : tail_at id name h properties regions s ≡ (attributes_at name properties (typed s) >>= with_entries)
  unfolding tail_at
  tail_is = same_then (attributes_at name properties (typed s)) _ with_entries by_entries

  pub no_attributes : (e : ReadError) → Fails e (attributes_at name properties (typed s)) → Fails e (tail_at id name h properties regions s)
  no_attributes e = fails_then e (attributes_at name properties (typed s)) with_entries (tail_at id name h properties regions s) tail_is

  module _ (es : Entries × Typed) (attributes : attributes_at name properties (typed s) ≡ Read es) where
    after_is : tail_at id name h properties regions s ≡ with_entries es
    after_is = reads_then (attributes_at name properties (typed s)) with_entries (tail_at id name h properties regions s) es tail_is attributes

    pub not_finished : (e : ReadError) → Fails e (finished_at id h (with_typed s es.1)) → Fails e (tail_at id name h properties regions s)
    not_finished e = fails_then e (finished_at id h (with_typed s es.1)) (op_after es.0) (tail_at id name h properties regions s) after_is

    pub closed : (f : List ℕ × State) → finished_at id h (with_typed s es.1) ≡ Read f → tail_at id name h properties regions s ≡ Read (op_of f.1.things id name h.operands properties es.0 f.0 regions, f.1)
    closed f e = reads_then (finished_at id h (with_typed s es.1)) (op_after es.0) (tail_at id name h properties regions s) f after_is e

-- ---- regions

module _ (p : Parse State (List Op)) (id : ℕ) (isolated : Bool) (before : List Region) (s : State) where
  abbrev with_head : Option (List ℕ) × State → Outcome (Region × State)
  with_head h = p h.1 >>= λ os. Read (region_of h.0 os.0, outside os.1)

  by_brace : (o : Option State) → (of_option o >>= λ c. head_at id (length before) (inside isolated c) >>= with_head) ≡ ((of_option o >>= λ c. head_at id (length before) (inside isolated c)) >>= with_head)
  by_brace (Some c) = refl
  by_brace None = refl

  region_is : region_at p id isolated before s ≡ (region_head_at id (length before) isolated s >>= with_head)
  unfolding region_at region_head_at
  region_is = by_brace (after_in OpenCurly s)

  pub no_head : (e : ReadError) → Fails e (region_head_at id (length before) isolated s) → Fails e (region_at p id isolated before s)
  no_head e = fails_then e (region_head_at id (length before) isolated s) with_head (region_at p id isolated before s) region_is

  module _ (h : Option (List ℕ) × State) (head : region_head_at id (length before) isolated s ≡ Read h) where
    headed_is : region_at p id isolated before s ≡ with_head h
    headed_is = reads_then (region_head_at id (length before) isolated s) with_head (region_at p id isolated before s) h region_is head

    pub no_ops : (e : ReadError) → Fails e (p h.1) → Fails e (region_at p id isolated before s)
    no_ops e = fails_then e (p h.1) (λ os. Read (region_of h.0 os.0, outside os.1)) (region_at p id isolated before s) headed_is

    pub region_read : (os : List Op × State) → p h.1 ≡ Read os → region_at p id isolated before s ≡ Read (region_of h.0 os.0, outside os.1)
    region_read os e = reads_then (p h.1) _ (region_at p id isolated before s) os headed_is e

-- ---- operations

module _ (free : Frees) (p : Parse State (List Op)) (s : State) where
  abbrev with_regions : Opened × Typed → List Region × State → Outcome (Op × State)
  with_regions o rs = tail_at s.next o.0.name o.0.start o.0.written rs.0 rs.1

  abbrev with_opening : Opened × Typed → Outcome (Op × State)
  with_opening o = regions_at p s.next o.0.isolated (begun s o.1) >>= with_regions o

  abbrev with_all : Start × Text → ℕ × ContextModel → Entries × Typed → Outcome (Op × State)
  with_all h n e = regions_at p s.next (isolated_in n.1 n.0) (begun s e.1) >>= λ rs. tail_at s.next n.0 h.0 e.0 rs.0 rs.1

  abbrev read_as : Start × Text → ℕ × ContextModel → Entries × Typed → Outcome (Opened × Typed)
  read_as h n e = Read (record { start = h.0; name = n.0; isolated = isolated_in n.1 n.0; written = e.0 }, e.1)

  by_properties : (h : Start × Text) (n : ℕ × ContextModel) (o : Outcome (Entries × Typed)) → (o >>= with_all h n) ≡ ((o >>= read_as h n) >>= with_opening)
  by_properties h n (Read e) = refl
  by_properties h n Wrong = refl
  by_properties h n Full = refl

  by_name : (h : Start × Text) (o : Outcome (ℕ × ContextModel)) → (o >>= λ n. properties_at (h.1, n.1) >>= with_all h n) ≡ ((o >>= λ n. properties_at (h.1, n.1) >>= read_as h n) >>= with_opening)
  by_name h (Read n) = by_properties h n (properties_at (h.1, n.1))
  by_name h Wrong = refl
  by_name h Full = refl

  by_start : (o : Outcome (Start × Text)) → (o >>= λ h. name_step h.0.name s.things >>= λ n. properties_at (h.1, n.1) >>= with_all h n) ≡ ((o >>= λ h. name_step h.0.name s.things >>= λ n. properties_at (h.1, n.1) >>= read_as h n) >>= with_opening)
  by_start (Read h) = by_name h (name_step h.0.name s.things)
  by_start Wrong = refl
  by_start Full = refl

  op_is : op_with free p s ≡ (opening_at free s.scopes.here (typed s) >>= with_opening)
  unfolding op_with opening_at
  op_is = by_start (start_at free s.scopes.here s.bytes)

  pub no_opening : (e : ReadError) → Fails e (opening_at free s.scopes.here (typed s)) → Fails e (op_with free p s)
  no_opening e = fails_then e (opening_at free s.scopes.here (typed s)) with_opening (op_with free p s) op_is

  module _ (o : Opened × Typed) (opening : opening_at free s.scopes.here (typed s) ≡ Read o) where
    begun_is : op_with free p s ≡ with_opening o
    begun_is = reads_then (opening_at free s.scopes.here (typed s)) with_opening (op_with free p s) o op_is opening

    pub no_regions : (e : ReadError) → Fails e (regions_at p s.next o.0.isolated (begun s o.1)) → Fails e (op_with free p s)
    no_regions e = fails_then e (regions_at p s.next o.0.isolated (begun s o.1)) (with_regions o) (op_with free p s) begun_is

    pub tail_left : (rs : List Region × State) → regions_at p s.next o.0.isolated (begun s o.1) ≡ Read rs → op_with free p s ≡ tail_at s.next o.0.name o.0.start o.0.written rs.0 rs.1
    tail_left rs e = reads_then (regions_at p s.next o.0.isolated (begun s o.1)) (with_regions o) (op_with free p s) rs begun_is e

wrong_fails : {A : Type 0} (e : ReadError) (o : Outcome A) → o ≡ Wrong → IsOfText e → Fails e o
wrong_fails errors.Memory o wrong h = tt
wrong_fails (errors.Full left) o wrong h = absurd h
wrong_fails (errors.Refused fault) o wrong h = wrong

module _ (free : Frees) (last : ℕ) (s : State) where
  pub too_deep : (depth : ℕ) (e : ReadError) → depth ≡ 0 → IsOfText e → Fails e (op_at free last depth s)
  unfolding op_at
  too_deep depth e none h = wrong_fails e (op_at free last depth s) (rw none refl) h

  pub too_many : (depth : ℕ) (e : ReadError) → last ≤ s.next → IsOfText e → Fails e (op_at free last depth s)
  unfolding op_at
  too_many zero e le h = wrong_fails e Wrong refl h
  too_many (suc depth) e le h = let past : nat_lt s.next last ≡ false = grind (arith, nat_tests) in wrong_fails e (op_at free last (suc depth) s) (rw past refl) h

  pub goes_in : (depth : ℕ) → 0 < depth → s.next < last → op_at free last depth s ≡ op_with free (ops_at CloseCurly (op_at free last (depth - 1)) 1048576 []) s
  unfolding op_at
  goes_in zero pos lt = absurd (omega arith)
  goes_in (suc depth) pos lt =
      let below : nat_lt s.next last ≡ true = grind (arith, nat_tests) in
      let same : suc depth - 1 ≡ depth = omega arith in
      rw (below, same) refl
