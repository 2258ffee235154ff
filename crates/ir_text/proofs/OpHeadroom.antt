-- A parse of operations stays within the capacity.
use Rattle.std.proofs.Common.{◌≡◌, ◌+◌, ℕ, zero, suc, Bool, true, false, List, [], ◌∷◌, ◌++◌, length, take, drop, Option, Some, None, is_some, refl, arith}
use Rattle.std.specs.Prelude.{if◌then◌else◌, ◌==◌, nat_lt, option_map}
use Rattle.std.specs.Str.{bytes_eq}
use Rattle.ir_text_tokens.specs.declared.token.Mark.{Mark}
use Rattle.ir_text_tokens.specs.declared.token.Mark.TheVariants.{OpenRound, CloseRound, OpenCurly, CloseCurly, Colon}
use Rattle.ir_text_tokens.specs.Tokens.{Lexeme, mark, label, next}
use Rattle.ir_text_tokens.specs.Scopes.{Scopes, find, bound}
use Rattle.ir_types.specs.declared.refusal.Refusal.{Refusal}
use Rattle.ir_types.specs.declared.refusal.Refusal.TheVariants.{TooMany}
use Rattle.ir_types.specs.Interning.{with_name}
use Rattle.ir_types.specs.Reasons.{name_reason}
use Rattle.ir_types.specs.Things.{ContextModel}
use Rattle.ir_tree.specs.declared.value.Value.TheVariants as values
use Rattle.ir_tree.specs.Meaning.{isolated_in}
use Rattle.ir_tree.specs.Tree.{Op, Region}
use Rattle.ir_text_types.specs.Marks.{after}
use Rattle.ir_text_types.specs.Outcomes.{Outcome, Read, Wrong, Full, ◌>>=◌, interned, Parse}
use Rattle.ir_text_types.specs.Typed.{Typed, after_typed, name_step}
use Rattle.ir_text_operations.specs.names.declared.bound.TypedValue.{TypedValue}
use Rattle.ir_text_operations.specs.names.BlockReading.{bind, type_here, results_of, bind_results, finish, arg_at, args_at, label_args_from, some_args_at, label_args_at, head_from, head_at}
use Rattle.ir_text_operations.specs.names.NameReading.{value_name_at}
use Rattle.ir_text_operations.specs.names.Packs.{Counted, counts}
use Rattle.ir_text_operations.specs.names.States.{State, to_bytes, after_in, typed, with_typed, with_scopes, inside, outside}
use Rattle.ir_text_operations.specs.attributes.AttrReading.{Entries}
use Rattle.ir_text_operations.specs.EntryReading.{properties_at, attributes_at}
use Rattle.ir_text_operations.specs.PrecedingReading.{Frees, Start, start_at}
use Rattle.ir_text_operations.specs.Made.{region_of}
use Rattle.ir_text_operations.specs.OpReading.{ops_from, ops_at, region_at, regions_from, regions_at, bound_types, op_of, signature_here, tail_at, begun, op_with, op_at}
use Rattle.ir_text.specs.Headroom.{Fits}
use Rattle.ir_text.proofs.Lengths.{gain}
use Rattle.ir_text.proofs.Fits.{fits_to, after_length, Has, Good, wrong, reads, good_then, good_into, good_some, good_quiet, more_good, list_good, text, things}
use Rattle.ir_text.proofs.Steps.{token_fits, mark_fits, with_name_fits, name_not_full}
use Rattle.ir_text.proofs.TypeHeadroom.{type_good, function_type_good}
use Rattle.ir_text.proofs.NameHeadroom.{same, name_at_good, start_good}
use Rattle.ir_text.proofs.EntryHeadroom.{properties_good, attributes_good}

abbrev pub left : State → List ℕ
left s = s.bytes

abbrev pub known : State → ContextModel
known s = s.things

passed : (m : Mark) (s s' : State) (o : Option (List ℕ)) → after m s.bytes ≡ o → option_map (to_bytes s) o ≡ Some s' → (i j k : ℕ) → Has left known i j k s → Has left known (i + gain (mark m)) (j + gain (mark m)) (k + gain (mark m)) s'
passed m s s' None e f i j k h = absurd cc
passed m s s' (Some r) e f i j k h =
    let one : to_bytes s r ≡ s' = cc in
    let l = after_length m s.bytes r e in
    rw (← one) (fits_to h (omega (arith, l)) (omega (arith, l)) (omega (arith, l)))

mark_goes : (m : Mark) → gain (mark m) ≡ 1 → (i j k : ℕ) (s s' : State) → after_in m s ≡ Some s' → Has left known i j k s → Has left known (i + 1) (j + 1) (k + 1) s'
mark_goes m one i j k s s' e h = fits_to (passed m s s' (after m s.bytes) refl e i j k h) (omega (arith, one)) (omega (arith, one)) (omega (arith, one))

end_goes : (m : Mark) (i j k : ℕ) (s s' : State) → after_in m s ≡ Some s' → Has left known i j k s → Has left known i j k s'
end_goes m i j k s s' e h = fits_to (passed m s s' (after m s.bytes) refl e i j k h) (omega arith) (omega arith) (omega arith)

-- ---- binding a name doesn't change the context

bind_quiet : (name : List ℕ) (pack : List TypedValue) (s : Scopes (List TypedValue)) → bind name pack s ≡ Full → ⊥
unfolding bind
bind_quiet name pack s e = by (is_some (find name s.here)) e
  where
    by : (b : Bool) → (if b then Wrong else Read (bound name pack s)) ≡ Full → ⊥
    by true e = absurd cc
    by false e = absurd cc

results_quiet : (id k : ℕ) (ns : List Counted) (ys : List ℕ) (s : Scopes (List TypedValue)) → bind_results id k ns ys s ≡ Full → ⊥
unfolding bind_results
results_quiet id k [] ys s e = absurd cc
results_quiet id k (n ∷ ns) ys s e = by (bind n.0 (results_of id k (take n.1 ys)) s) (bind_quiet n.0 (results_of id k (take n.1 ys)) s) (λ x. results_quiet id (k + n.1) ns (drop n.1 ys) x) e
  where
    by : (o : Outcome (Scopes (List TypedValue))) → (o ≡ Full → ⊥) → ((x : Scopes (List TypedValue)) → bind_results id (k + n.1) ns (drop n.1 ys) x ≡ Full → ⊥) → (o >>= bind_results id (k + n.1) ns (drop n.1 ys)) ≡ Full → ⊥
    by (Read x) quiet go e = go x e
    by Wrong quiet go e = absurd cc
    by Full quiet go e = quiet refl

finish_quiet : (id : ℕ) (names : Option (List Counted)) (ys : List ℕ) (s : Scopes (List TypedValue)) → finish id names ys s ≡ Full → ⊥
finish_quiet id None ys s e = absurd cc
finish_quiet id (Some ns) ys s e = by (counts ns == length ys) e
  where
    by : (b : Bool) → (if b then bind_results id 0 ns ys s else Wrong) ≡ Full → ⊥
    by true e = results_quiet id 0 ns ys s e
    by false e = absurd cc

-- ---- blocks

argument_good : (i j k id r : ℕ) (before : List ℕ) (s : State) → Has left known i j k s → Good left known i j k (arg_at id r before s)
unfolding arg_at
argument_good i j k id r before s h =
    good_into same (λ b. s.things) left known (value_name_at s.bytes) _ (name_at_good s.things i j k s.bytes h) (λ n f.
    good_some left known (after_in Colon (to_bytes s n.1)) _ (λ c e.
    good_into text things left known (type_here 32 (typed c)) _ (type_good c.things.opaque 32 (i + 1) (j + 1) (k + 1) (typed c) (mark_goes Colon refl i j k (to_bytes s n.1) c e f)) (λ y g.
    good_quiet left known (bind n.0 ((record { value = values.Arg id r (length before); ty = y.0 }) ∷ []) (to_bytes s n.1).scopes) _ (bind_quiet n.0 ((record { value = values.Arg id r (length before); ty = y.0 }) ∷ []) (to_bytes s n.1).scopes) (λ scopes m.
    reads left known (y.0, with_scopes (with_typed (to_bytes s n.1) y.1) scopes) (fits_to g (omega arith) (omega arith) (omega arith))))))

label_good : (i j k id r : ℕ) (s : State) → Has left known i j k s → Good left known i j k (label_args_at id r s)
unfolding label_args_at args_at
label_good i j k id r s h =
    good_then left known (some_args_at id r s) _ (by (after_in OpenRound s) refl) (λ a f.
    good_some left known (after_in Colon a.1) _ (λ c e.
    reads left known (a.0, c) (fits_to (mark_goes Colon refl i j k a.1 c e f) (omega arith) (omega arith) (omega arith))))
  where
    by : (o : Option State) → after_in OpenRound s ≡ o → Good left known i j k (label_args_from id r s o)
    by (Some c) e = list_good left known after_in mark_goes CloseRound refl (arg_at id r) i j k i j k (omega arith) (omega arith) (omega arith) (λ before s g. argument_good i j k id r before s g) 256 c (fits_to (mark_goes OpenRound refl i j k s c e h) (omega arith) (omega arith) (omega arith))
    by None e = reads left known ([], s) h

head_good : (i j k id r : ℕ) (s : State) → Has left known i j k s → Good left known i j k (head_at id r s)
unfolding head_at
head_good i j k id r s h = good_some left known (next s.bytes) (λ t. head_from id r s t.0 t.1) (λ t e. by t.0 t.1 e)
  where
    some : List ℕ × State → Outcome (Option (List ℕ) × State)
    some a = Read (Some a.0, a.1)

    by : (l : Lexeme) (rest : List ℕ) → next s.bytes ≡ Some (l, rest) → Good left known i j k (head_from id r s l rest)
    by (label n) rest e = good_then left known (label_args_at id r (to_bytes s rest)) some (label_good i j k id r (to_bytes s rest) (fits_to (token_fits i j k s.bytes rest s.things (label n) e h) (omega arith) (omega arith) (omega arith))) (λ a f. reads left known (Some a.0, a.1) f)
    by _ rest e = reads left known (None, s) h

-- ---- operations up to a closing mark

module _ (close : Mark) (p : Parse State Op) (one : (i j k : ℕ) (s : State) → Has left known i j k s → Good left known i j k (p s)) where
  pub ops_good : (headroom i j k : ℕ) (items : List Op) (s : State) → Has left known i j k s → Good left known i j k (ops_at close p headroom items s)
  unfolding ops_at
  ops_good zero i j k items s h = wrong left known
  ops_good (suc headroom) i j k items s h = by (after_in close s) refl (ops_good headroom)
    where
      by : (o : Option State) → after_in close s ≡ o → ((i j k : ℕ) (items : List Op) (s : State) → Has left known i j k s → Good left known i j k (ops_at close p headroom items s)) → Good left known i j k (ops_from close p (ops_at close p headroom) items s o)
      by (Some end) e go = reads left known (items, end) (end_goes close i j k s end e h)
      by None e go = good_then left known (p s) (λ x. ops_at close p headroom (items ++ x.0 ∷ []) x.1) (one i j k s h) (λ x f. go i j k (items ++ x.0 ∷ []) x.1 f)

module _ (p : Parse State (List Op)) (one : (i j k : ℕ) (s : State) → Has left known i j k s → Good left known i j k (p s)) where
  region_good : (i j k id : ℕ) (isolated : Bool) (before : List Region) (s : State) → Has left known i j k s → Good left known i j k (region_at p id isolated before s)
  unfolding region_at
  region_good i j k id isolated before s h =
      good_some left known (after_in OpenCurly s) _ (λ c e.
      good_then left known (head_at id (length before) (inside isolated c)) _ (head_good i j k id (length before) (inside isolated c) (end_goes OpenCurly i j k s c e h)) (λ m f.
      good_then left known (p m.1) _ (one i j k m.1 f) (λ os g.
      reads left known (region_of m.0 os.0, outside os.1) g)))

  regions_good : (i j k id : ℕ) (isolated : Bool) (s : State) → Has left known i j k s → Good left known i j k (regions_at p id isolated s)
  unfolding regions_at
  regions_good i j k id isolated s h = by (after_in OpenRound s) refl
    where
      by : (o : Option State) → after_in OpenRound s ≡ o → Good left known i j k (regions_from p id isolated s o)
      by None e = reads left known ([], s) h
      by (Some c) e = more_good left known after_in mark_goes CloseRound refl (region_at p id isolated) i j k i j k (omega arith) (omega arith) (omega arith) (λ before s g. region_good i j k id isolated before s g) 16 [] c (end_goes OpenRound i j k s c e h)

-- ---- operations

tail_good : (i j k id name : ℕ) (start : Start) (properties : Entries) (regions : List Region) (s : State) → Has left known i j k s → Good left known i j k (tail_at id name start properties regions s)
unfolding tail_at
tail_good i j k id name start properties regions s h =
    good_into text things left known (attributes_at name properties (typed s)) _ (attributes_good i j k name properties (typed s) h) (λ e f.
    good_some left known (after_typed Colon e.1) _ (λ c m.
    good_into text things left known (signature_here c) _ (function_type_good c.1.opaque i j k c (fits_to (mark_fits Colon refl i j k e.1 c m f) (omega arith) (omega arith) (omega arith))) (λ t g.
    good_quiet left known (if bytes_eq (bound_types start.operands) t.0.0 then finish id start.results t.0.1 s.scopes else Wrong) _ (by t (bytes_eq (bound_types start.operands) t.0.0)) (λ scopes n.
    reads left known (op_of t.1.1 id name start.operands properties e.0 t.0.1 regions, with_scopes (with_typed s t.1) scopes) g))))
  where
    by : (t : (List ℕ × List ℕ) × Typed) (b : Bool) → (if b then finish id start.results t.0.1 s.scopes else Wrong) ≡ Full → ⊥
    by t true e = finish_quiet id start.results t.0.1 s.scopes e
    by t false e = absurd cc

module _ (free : Frees) (p : Parse State (List Op)) (one : (i j k : ℕ) (s : State) → Has left known i j k s → Good left known i j k (p s)) where
  with_good : (i j k : ℕ) (s : State) → Has left known i j k s → Good left known i j k (op_with free p s)
  unfolding op_with name_step
  with_good i j k s h =
      good_into same (λ b. s.things) left known (start_at free s.scopes.here s.bytes) _ (start_good s.things i j k free s.scopes.here s.bytes h) (λ m f.
      by m (name_reason m.0.name s.things) refl f)
    where
      trailing : Start × List ℕ → ℕ × ContextModel → Outcome (Op × State)
      trailing m n = properties_at (m.1, n.1) >>= λ e. regions_at p s.next (isolated_in n.1 n.0) (begun s e.1) >>= λ rs. tail_at s.next n.0 m.0 e.0 rs.0 rs.1

      by : (m : Start × List ℕ) (o : Option Refusal) → name_reason m.0.name s.things ≡ o → Fits (i + 2) j k m.1 s.things → Good left known i j k (interned o (with_name m.0.name s.things) >>= trailing m)
      by m None e f =
          let n = with_name m.0.name s.things in
          good_into text things left known (properties_at (m.1, n.1)) _ (properties_good i j k (m.1, n.1) (with_name_fits i j k m.0.name m.1 s.things f)) (λ e g.
          good_then left known (regions_at p s.next (isolated_in n.1 n.0) (begun s e.1)) _ (regions_good p one i j k s.next (isolated_in n.1 n.0) (begun s e.1) g) (λ rs r.
          tail_good i j k s.next n.0 m.0 e.0 rs.0 rs.1 r))
      by m (Some TooMany) e f = absurd (name_not_full i j k m.0.name m.1 s.things f e)
      by m (Some _) e f = wrong left known

module _ (free : Frees) (last : ℕ) where
  pub op_good : (depth i j k : ℕ) (s : State) → Has left known i j k s → Good left known i j k (op_at free last depth s)
  unfolding op_at
  op_good zero i j k s h = wrong left known
  op_good (suc depth) i j k s h = by (nat_lt s.next last) (op_good depth)
    where
      by : (b : Bool) → ((i j k : ℕ) (s : State) → Has left known i j k s → Good left known i j k (op_at free last depth s)) → Good left known i j k (if b then op_with free (ops_at CloseCurly (op_at free last depth) 1048576 []) s else Wrong)
      by true go = with_good free (ops_at CloseCurly (op_at free last depth) 1048576 []) (λ i j k s g. ops_good CloseCurly (op_at free last depth) go 1048576 i j k [] s g) i j k s h
      by false go = wrong left known
