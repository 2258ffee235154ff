-- Printed operations are parsed back, with their new ids.
use Rattle.std.proofs.Common.{◌≡◌, ℕ, zero, suc, ◌+◌, ◌*◌, ◌^◌, ◌<◌, ◌≤◌, Bool, true, false, List, [], ◌∷◌, ◌++◌, map, length, None, refl, sym, ap, subst, ◌∙◌, append_assoc, arith, inl, inr, ⊎_elim}
use Rattle.std.specs.Prelude.{◌==◌, ◌&&◌, nat_lt, if◌then◌else◌}
use Rattle.std.specs.List.{AllByRecursion}
use Rattle.std.proofs.lemmas.Bool.{eqb-true, and_parts}
use Rattle.std.proofs.lemmas.Bool.Decides.{nat_tests}
use Rattle.std.proofs.lemmas.List.{length-append}
use Rattle.ir_types.specs.Terms.{TypeTerm}
use Rattle.ir_types.specs.Words.{is_isolated}
use Rattle.ir_tree.specs.declared.value.Value.{Value}
use Rattle.ir_tree.specs.declared.value.Value.TheVariants.{Result, Arg}
use Rattle.ir_tree.specs.Ids.{ids, regions_ids, region_ids, ops_ids}
use Rattle.ir_tree.specs.Limits.{depth, regions_depth, region_depth, ops_depth}
use Rattle.ir_tree.specs.Meaning.{Operation}
use Rattle.ir_tree.specs.Sites.{Frame, results, arguments, shows, in_scope, inside, results_of}
use Rattle.ir_tree.specs.Tree.{op, no_regions, region, region_count, region_list, empty, block, no_ops, next, op_list}
use Rattle.ir_text_tokens.specs.declared.token.Mark.TheVariants.{OpenRound, CloseRound, OpenCurly, CloseCurly, Comma, Less}
use Rattle.ir_text_tokens.specs.Tokens.{mark, next as next_token}
use Rattle.ir_text_tokens.specs.Scopes.{Scopes, left}
use Rattle.ir_text_tokens.proofs.Printed.{mark_token, blank_passed}
use Rattle.ir_text_types.specs.Grammars.{Grammar, Not, IsMore, IsMark, Token}
use Rattle.ir_text_operations.specs.Free.{no_names}
use Rattle.ir_text_operations.specs.ParseState.{PackTerm, ParseState, state_with_rest, state_inside, state_outside, IsMarkToken}
use Rattle.ir_text_operations.specs.OpGrammar.{IsHead, IsOps, IsRegion, IsRegions, IsOp, IsTail, RegionTerm}
use Rattle.ir_text.specs.Naming.{Named, naming_of, value_type, source_of}
use Rattle.ir_text.specs.Printing.{deeper, opening, closing_text, properties_text}
use Rattle.ir_text_modules.proofs.Ahead.{space_token}
use Rattle.ir_text_modules.proofs.OpEntries.{properties_again}
use Rattle.ir_text_modules.proofs.Small.{lacks_token, are_bytes}
use Rattle.ir_tree_laws.specs.Renumbered.{with_ids, regions_with_ids, region_with_ids, ops_with_ids}
use Rattle.ir_text_modules.proofs.Fitting.{FitsOp, FitsRegions, FitsRegion, FitsOps}
use Rattle.ir_text_modules.proofs.Texts.{Head, Names, Regions, Region, Ops, results_names, arguments_names, op_names, regions_names, region_names, tail_then, label_then, op_then, regions_then, region_then, ops_then}
use Rattle.ir_text_modules.proofs.ModuleValues.{source_id, Away, all_preceding, all_back, argument_away, results_names_keep, regions_keep, region_keeps, own_results}
use Rattle.ir_text_modules.proofs.Joined.{IsParseState, Joined, joined_later, in_last, result_shown}
use Rattle.ir_text_modules.proofs.Preceding.{start_of, start_again}
use Rattle.ir_text_modules.proofs.Blocks.{AreBlank, blanks_passed, blanks_deeper, mark_seen, not_seen}
use Rattle.ir_text_modules.proofs.Grown.{grown_results, grown_op, grown_regions, grown_region, grown_arguments}
use Rattle.ir_text_modules.proofs.Labels.{Simple, PlainFirst, label_again}
use Rattle.ir_text_modules.proofs.Tails.{tail_lacks, finished, finished_outer, tail_again}
use Rattle.ir_text_modules.proofs.Fresh.{distinct_first, Fresh, fresh_preceding, fresh_back, in_inside, joined_inside, left_is, all_so, types_fit, same_types, types_count, joined_end, plain_head, op_from, ops_close, ops_one, more_last, more_one}

-- ---- the operands of each operation are visible to it

abbrev mutual
  pub DominatedByOp : List Frame → Operation → Type 0
  DominatedByOp scope (op h rs) = AllByRecursion (λ v. in_scope scope v ≡ true) h.operands × DominatedByRegions (inside is_isolated h scope) h.id 0 rs

  pub DominatedByRegions : List Frame → ℕ → ℕ → Regions → Type 0
  DominatedByRegions scope x r no_regions = Unit {0}
  DominatedByRegions scope x r (region g rs) = DominatedByRegion scope x r g × DominatedByRegions scope x (r + 1) rs

  pub DominatedByRegion : List Frame → ℕ → ℕ → Region → Type 0
  DominatedByRegion scope x r empty = Unit {0}
  DominatedByRegion scope x r (block args os) = DominatedByOps (scope ++ arguments x r (length args) ∷ []) os

  pub DominatedByOps : List Frame → Ops → Type 0
  DominatedByOps scope no_ops = Unit {0}
  DominatedByOps scope (next t ts) = DominatedByOp scope t × DominatedByOps (scope ++ results_of t ∷ []) ts

-- ---- small lemmas

result_away : (v : Value) (x n : ℕ) (xs : List ℕ) → AllByRecursion (λ y. (x == y) ≡ false) xs → shows v (results x n) ≡ true → Away (source_of v) xs
result_away v x n xs h e = let r = result_shown v x n e in subst (λ u. Away (source_of u) xs) (sym r.1) h

shown_away : (v : Value) (x r n : ℕ) (xs : List ℕ) → AllByRecursion (λ y. (x == y) ≡ false) xs → shows v (arguments x r n) ≡ true → Away (source_of v) xs
shown_away (Result y k) x r n xs h e = absurd cc
shown_away (Arg y s k) x r n xs h e = subst (λ (u : ℕ). Away (source_of (Arg u s k)) xs) (sym (eqb-true y x (and_parts (y == x) ((s == r) && nat_lt k n) e).0)) h

pub op_plain : (o : Bool) (margin : List ℕ) (t : Operation) (n : Names) (rest : List ℕ) → FitsOp o t → n.results < 2 ^ 128 → Simple o (op_then margin t n rest)
op_plain o margin (op h rs) n rest fits_in lt = plain_head o n.results h.results h (results_names h.id h.results n).named _ fits_in.0 lt fits_in.0.results

first_plain : (o : Bool) (margin : List ℕ) (os : Ops) (n : Names) (rest : List ℕ) → AreBlank margin → FitsOps o os → n.results < 2 ^ 128 → PlainFirst o os (ops_then margin os n rest)
first_plain o margin no_ops n rest blank fits_in lt = tt
first_plain o margin (next t ts) n rest blank fits_in lt =
    let trailing = ops_then margin ts (op_names t n) rest in
    let p = op_plain o margin t n trailing fits_in.0 lt in
    record { lexeme = p.lexeme; trailing = p.trailing; token = blanks_passed margin (op_then margin t n trailing) blank ∙ p.token; no_label = p.no_label; no_mark = p.no_mark }

-- ---- operations

module _ (o : Bool) (f : ℕ → ℕ) (last : ℕ) where
  abbrev One : ℕ → Grammar ParseState Operation
  One d = IsOp o no_names last d

  abbrev Row : ℕ → Grammar ParseState (List Operation)
  Row d = IsOps CloseCurly (One d) 1048576 []

  -- an operation is parsed back with its new id
  pub record OpRead (d : ℕ) (scope : List Frame) (t : Operation) (n : Names) (s : ParseState) (rest : List ℕ) : Type 0 where
    pub scopes : Scopes PackTerm
    pub reads : IsOp o no_names last d (with_ids f t) s (record { bytes = 10 ∷ rest; scopes = scopes; next = s.next + length (ids t) })
    pub joined : Joined o f (scope ++ results_of t ∷ []) (op_names t n) scopes.here
    pub outer : scopes.outer ≡ s.scopes.outer

  pub record OpsRead (d headroom : ℕ) (preceding : List Operation) (os : Ops) (s : ParseState) (rest : List ℕ) : Type 0 where
    pub scopes : Scopes PackTerm
    pub reads : IsOps CloseCurly (IsOp o no_names last d) headroom preceding (preceding ++ op_list (ops_with_ids f os)) s (record { bytes = rest; scopes = scopes; next = s.next + length (ops_ids os) })
    pub outer : scopes.outer ≡ s.scopes.outer

  -- the premise that one operation is parsed back
  abbrev pub ReadsOp : ℕ → Operation → Type 0
  ReadsOp d t = (margin : List ℕ) (scope : List Frame) (n : Names) (s : ParseState) (rest : List ℕ) → AreBlank margin → FitsOp o t → DominatedByOp scope t → depth t < d → Fresh f last scope n s.next 0 (ids t) → Joined o f scope n s.scopes.here → next_token s.bytes ≡ next_token (op_then margin t n rest) → OpRead d scope t n s rest

  -- the premise that a list of operations is parsed back
  abbrev pub ReadsOps : ℕ → Ops → Type 0
  ReadsOps d os = (headroom : ℕ) (preceding : List Operation) (margin close : List ℕ) (rest : List ℕ) (scope : List Frame) (n : Names) (s : ParseState) → AreBlank margin → FitsOps o os → DominatedByOps scope os → ops_depth os ≤ d → length (ops_ids os) < headroom → Fresh f last scope n s.next 0 (ops_ids os) → Joined o f scope n s.scopes.here
      → Token (mark CloseCurly) close rest → next_token s.bytes ≡ next_token (ops_then margin os n close) → OpsRead d headroom preceding os s rest

  nothing_more : (preceding : List Operation) → preceding ++ [] ≡ preceding
  nothing_more [] = refl
  nothing_more (x ∷ xs) = ap (λ (l : List Operation). x ∷ l) (nothing_more xs)

  some_id : (t : Operation) → 1 ≤ length (ids t)
  some_id (op h rs) = omega arith

  pub no_ops_read : (d : ℕ) → ReadsOps d no_ops
  no_ops_read d headroom preceding margin close rest scope n s blank fits_in dominated_by deep few fresh j closed e =
      let count : s.next ≡ s.next + 0 = omega arith in
      let h = ops_close (One d) headroom preceding s (state_with_rest s rest) (omega (arith, few)) (mark_seen CloseCurly s rest (e ∙ closed)) in
      record {
        scopes = s.scopes;
        reads = subst (λ l. IsOps CloseCurly (One d) headroom preceding l s (record { bytes = rest; scopes = s.scopes; next = s.next + 0 })) (sym (nothing_more preceding)) (subst (λ (i : ℕ). IsOps CloseCurly (One d) headroom preceding preceding s (record { bytes = rest; scopes = s.scopes; next = i })) count h);
        outer = refl;
      }

  -- one operation, and then the operations after it
  pub next_read : (d : ℕ) (h : Head) (rs : Regions) (ts : Ops) → ReadsOp d (op h rs) → ReadsOps d ts → ReadsOps d (next (op h rs) ts)
  next_read d h rs ts first others zero preceding margin close rest scope n s blank fits_in dominated_by deep few fresh j closed e = absurd (omega (arith, few))
  next_read d h rs ts first others (suc headroom) preceding margin close rest scope n s blank fits_in dominated_by deep few fresh j closed e =
      let t = op h rs in
      let m = op_names t n in
      let trailing = ops_then margin ts m close in
      let here = e ∙ blanks_passed margin (op_then margin t n trailing) blank in
      let count = length-append (ids t) (ops_ids ts) in
      let own = distinct_first h.id (regions_ids rs ++ ops_ids ts) fresh.distinct in
      let away : (v : Value) → in_scope (scope ++ results_of t ∷ []) v ≡ true → Away (source_of v) (ops_ids ts) = λ v i. ⊎_elim
      (λ (k : in_scope scope v ≡ true). all_back _ (ids t) (ops_ids ts) (fresh.away v k))
      (λ (k : shows v (results_of t) ≡ true). result_away v h.id (length h.results) (ops_ids ts) (all_back _ (regions_ids rs) (ops_ids ts) own.0) k)
      (in_last scope (results_of t) v i) in
      let one = first margin scope n s trailing blank fits_in.0 dominated_by.0 (omega (arith, deep)) (fresh_preceding f last scope n s.next 0 0 (ids t) (ops_ids ts) fresh (omega arith)) j here in
      let mid : ParseState = record { bytes = 10 ∷ trailing; scopes = one.scopes; next = s.next + length (ids t) } in
      let fresh_more = fresh_back f last scope (scope ++ results_of t ∷ []) n m s.next 0 0 (4096 * length (ids t)) (ids t) (ops_ids ts) fresh (grown_op o t n fits_in.0) (omega arith) away in
      let more = others headroom (preceding ++ with_ids f t ∷ []) margin close rest (scope ++ results_of t ∷ []) m mid blank fits_in.1 dominated_by.1 (omega (arith, deep)) (omega (arith, few, count, some_id t)) fresh_more one.joined closed (blank_passed 10 trailing refl) in
      let simple = op_plain o margin t n trailing fits_in.0 (omega (arith, fresh.few_results)) in
      let lacks = not_seen CloseCurly s (lacks_token simple.lexeme CloseCurly s.bytes simple.trailing (here ∙ simple.token) (simple.no_mark CloseCurly)) in
      let ys = preceding ++ op_list (ops_with_ids f (next t ts)) in
      let all : (preceding ++ with_ids f t ∷ []) ++ op_list (ops_with_ids f ts) ≡ ys = append_assoc preceding (with_ids f t ∷ []) (op_list (ops_with_ids f ts)) in
      let sum : s.next + length (ids t) + length (ops_ids ts) ≡ s.next + length (ops_ids (next t ts)) = omega (arith, count) in
      let whole = ops_one (One d) headroom preceding _ (with_ids f t) s mid _ lacks one.reads more.reads in
      record {
        scopes = more.scopes;
        reads = subst (λ l. IsOps CloseCurly (One d) (suc headroom) preceding l s (record { bytes = rest; scopes = more.scopes; next = s.next + length (ops_ids (next t ts)) })) all
            (subst (λ (i : ℕ). IsOps CloseCurly (One d) (suc headroom) preceding ((preceding ++ with_ids f t ∷ []) ++ op_list (ops_with_ids f ts)) s (record { bytes = rest; scopes = more.scopes; next = i })) sum whole);
        outer = more.outer ∙ one.outer;
      }

  -- ---- regions

  -- the state after `count` ids were assigned
  abbrev pub trailing : ParseState → List ℕ → ℕ → ParseState
  trailing s rest count = record { bytes = rest; scopes = s.scopes; next = s.next + count }

  -- the premise that a region is parsed back
  abbrev pub ReadsRegion : ℕ → Region → Type 0
  ReadsRegion d g = (margin : List ℕ) (isolated : Bool) (scope : List Frame) (x r : ℕ) (preceding : List RegionTerm) (n : Names) (s : ParseState) (rest : List ℕ) → AreBlank margin → FitsRegion o g → DominatedByRegion scope x r g → region_depth g ≤ d → length (region_ids g) < 1048576 → length preceding ≡ r → Fresh f last scope n s.next 256 (region_ids g) → AllByRecursion (λ y. (x == y) ≡ false) (region_ids g) → ((v : Value) → in_scope scope v ≡ true → (source_id (source_of v) == x) ≡ false)
      → Joined o f scope n (if isolated then [] else s.scopes.here) → next_token s.bytes ≡ next_token (region_then margin x r g n rest) → IsRegion o (Row d) (f x) isolated preceding (region_with_ids f g) s (trailing s rest (length (region_ids g)))

  pub empty_read : (d : ℕ) → ReadsRegion d empty
  empty_read d margin isolated scope x r preceding n s rest blank fits_in dominated_by deep few place fresh own apart j e =
      let close = 125 ∷ rest in
      let closed = mark_token CloseCurly rest tt in
      let opened = state_with_rest s close in
      let within = state_inside isolated opened in
      let fresh_none : Fresh f last scope n s.next 0 [] = record { runs = tt; distinct = fresh.distinct; away = λ v i. tt; below = fresh.below; few_results = fresh.few_results; few_arguments = omega (arith, fresh.few_arguments) } in
      let row = no_ops_read d 1048576 [] margin close rest scope n within blank tt tt (omega arith) (omega arith) fresh_none j closed refl in
      let scopes_back = left_is row.scopes s.scopes row.outer in
      let state : trailing s rest 0 ≡ state_outside (record { bytes = rest; scopes = row.scopes; next = s.next + 0 }) = ap (λ (l : Scopes PackTerm). record { bytes = rest; scopes = l; next = s.next + 0 }) (sym scopes_back) in
      (opened, mark_seen OpenCurly s close (e ∙ mark_token OpenCurly close tt), (None, within, (mark CloseCurly, rest, closed, (refl, refl)), ([], record { bytes = rest; scopes = row.scopes; next = s.next + 0 }, row.reads, (refl, state))))

  pub block_read : (d : ℕ) (args : List TypeTerm) (os : Ops) → ReadsOps d os → ReadsRegion d (block args os)
  block_read d args os ops margin isolated scope x r preceding n s rest blank fits_in dominated_by deep few place fresh own apart j e =
      let m = arguments_names x r 0 args n in
      let close = margin ++ 125 ∷ rest in
      let closed : Token (mark CloseCurly) close rest = blanks_passed margin (125 ∷ rest) blank ∙ mark_token CloseCurly rest tt in
      let far = deeper margin in
      let wide = blanks_deeper margin blank in
      let inner = ops_then far os m close in
      let text = 10 ∷ label_then margin args os n inner in
      let opened = state_with_rest s text in
      let within = state_inside isolated opened in
      let named = grown_arguments x r 0 args n in
      let label = label_again o f scope x r apart margin args os n within inner blank j (omega (arith, fresh.few_arguments, fits_in.0)) fits_in.1 fits_in.0 (blank_passed 10 (label_then margin args os n inner) refl) (first_plain o far os m close wide fits_in.2 (omega (arith, fresh.few_results, named.few_results))) in
      let dominance = scope ++ arguments x r (length args) ∷ [] in
      let fresh_ops : Fresh f last dominance m s.next 0 (ops_ids os) = record {
        runs = fresh.runs;
        distinct = fresh.distinct;
        away = λ v i. ⊎_elim (λ (k : in_scope scope v ≡ true). fresh.away v k) (λ (k : shows v (arguments x r (length args)) ≡ true). shown_away v x r (length args) (ops_ids os) own k) (in_last scope (arguments x r (length args)) v i);
        below = fresh.below;
        few_results = omega (arith, fresh.few_results, named.few_results);
        few_arguments = omega (arith, fresh.few_arguments, named.few_arguments, fits_in.0);
      } in
      let row = ops 1048576 [] far close rest dominance m label.now wide fits_in.2 dominated_by deep few (subst (λ (i : ℕ). Fresh f last dominance m i 0 (ops_ids os)) (sym label.same) fresh_ops) label.joined closed label.text in
      let ended : ParseState = record { bytes = rest; scopes = row.scopes; next = label.now.next + length (ops_ids os) } in
      let scopes_back = left_is row.scopes s.scopes (row.outer ∙ label.outer) in
      let state : trailing s rest (length (ops_ids os)) ≡ state_outside ended =
      ap (λ (l : Scopes PackTerm). record { bytes = rest; scopes = l; next = s.next + length (ops_ids os) }) (sym scopes_back)
      ∙ ap (λ (i : ℕ). record { bytes = rest; scopes = left row.scopes; next = i + length (ops_ids os) }) (sym label.same) in
      (opened, mark_seen OpenCurly s text (e ∙ mark_token OpenCurly text tt), (label.preceding, label.now, subst (λ (i : ℕ). IsHead o (f x) i label.preceding within label.now) (sym place) label.reads, (op_list (ops_with_ids f os), ended, row.reads, (sym label.made, state))))

  -- the premise that regions are parsed back up to the closing parenthesis
  abbrev pub ReadsRegions : ℕ → Region → Regions → Type 0
  ReadsRegions d g rs = (headroom : ℕ) (margin : List ℕ) (isolated : Bool) (scope : List Frame) (x r : ℕ) (preceding : List RegionTerm) (n : Names) (s : ParseState) (rest : List ℕ) → AreBlank margin → FitsRegions o (region g rs) → DominatedByRegions scope x r (region g rs) → regions_depth (region g rs) ≤ d → length (regions_ids (region g rs)) < 1048576 → region_count (region g rs) ≤ headroom → length preceding ≡ r → Fresh f last scope n s.next (256 * region_count (region g rs)) (regions_ids (region g rs)) → AllByRecursion (λ y. (x == y) ≡ false) (regions_ids (region g rs)) → ((v : Value) → in_scope scope v ≡ true → (source_id (source_of v) == x) ≡ false)
      → Joined o f scope n (if isolated then [] else s.scopes.here) → next_token s.bytes ≡ next_token (region_then margin x r g n (regions_then margin x (r + 1) rs (region_names x r g n) (41 ∷ rest)))
      → IsMore IsMarkToken CloseRound (IsRegion o (Row d) (f x) isolated) headroom preceding (preceding ++ region_list (regions_with_ids f (region g rs))) s (trailing s rest (length (regions_ids (region g rs))))

  pub last_read : (d : ℕ) (g : Region) → ReadsRegion d g → ReadsRegions d g no_regions
  last_read d g one zero margin isolated scope x r preceding n s rest blank fits_in dominated_by deep few count place fresh own apart j e = absurd (omega (arith, count))
  last_read d g one (suc headroom) margin isolated scope x r preceding n s rest blank fits_in dominated_by deep few count place fresh own apart j e =
      let sum = length-append (region_ids g) [] in
      let same : length (region_ids g) ≡ length (regions_ids (region g no_regions)) = omega (arith, sum) in
      let fresh_one = fresh_preceding f last scope n s.next (256 * region_count (region g no_regions)) 256 (region_ids g) [] fresh (omega arith) in
      let read = one margin isolated scope x r preceding n s (41 ∷ rest) blank fits_in.0 dominated_by.0 (omega (arith, deep)) (omega (arith, few, same)) place fresh_one (all_preceding _ (region_ids g) [] own) apart j e in
      let mid = trailing s (41 ∷ rest) (length (region_ids g)) in
      subst (λ (i : ℕ). IsMore IsMarkToken CloseRound (IsRegion o (Row d) (f x) isolated) (suc headroom) preceding (preceding ++ region_with_ids f g ∷ []) s (trailing s rest i)) same
      (more_last (IsRegion o (Row d) (f x) isolated) headroom preceding (region_with_ids f g) s mid (state_with_rest mid rest) read (mark_seen CloseRound mid rest (mark_token CloseRound rest tt)))

  pub extra_read : (d : ℕ) (g k : Region) (rs : Regions) → ReadsRegion d g → ReadsRegions d k rs → ReadsRegions d g (region k rs)
  extra_read d g k rs one others zero margin isolated scope x r preceding n s rest blank fits_in dominated_by deep few count place fresh own apart j e = absurd (omega (arith, count))
  extra_read d g k rs one others (suc headroom) margin isolated scope x r preceding n s rest blank fits_in dominated_by deep few count place fresh own apart j e =
      let m = region_names x r g n in
      let tail = regions_ids (region k rs) in
      let sum = length-append (region_ids g) tail in
      let ahead = region_then margin x (r + 1) k m (regions_then margin x (r + 1 + 1) rs (region_names x (r + 1) k m) (41 ∷ rest)) in
      let no_first : (r + 1 == 0) ≡ false = grind (arith, nat_tests) in
      let comma : regions_then margin x (r + 1) (region k rs) m (41 ∷ rest) ≡ 44 ∷ 32 ∷ ahead = rw no_first refl in
      let here = e ∙ ap (λ (l : List ℕ). next_token (region_then margin x r g n l)) comma in
      let fresh_one = fresh_preceding f last scope n s.next (256 * region_count (region g (region k rs))) 256 (region_ids g) tail fresh (omega arith) in
      let read = one margin isolated scope x r preceding n s (44 ∷ 32 ∷ ahead) blank fits_in.0 dominated_by.0 (omega (arith, deep)) (omega (arith, few, sum)) place fresh_one (all_preceding _ (region_ids g) tail own) apart j here in
      let mid = trailing s (44 ∷ 32 ∷ ahead) (length (region_ids g)) in
      let after = state_with_rest mid (32 ∷ ahead) in
      let grown = grown_region o x r g n fits_in.0 in
      let fresh_more = fresh_back f last scope scope n m s.next (256 * region_count (region g (region k rs))) (256 * region_count (region k rs)) (256 + 4096 * length (region_ids g)) (region_ids g) tail fresh grown (omega arith) (λ v i. all_back _ (region_ids g) tail (fresh.away v i)) in
      let keep : (v : Value) → in_scope scope v ≡ true → naming_of m.named v ≡ naming_of n.named v = λ v i. region_keeps (source_of v) x r g n (λ q a. argument_away (source_of v) x q a (apart v i)) (all_preceding _ (region_ids g) tail (fresh.away v i)) in
      let joined = joined_later o f scope n m (if isolated then [] else s.scopes.here) j keep grown.results grown.arguments in
      let preceding' = preceding ++ region_with_ids f g ∷ [] in
      let placed : length preceding' ≡ r + 1 = length-append preceding (region_with_ids f g ∷ []) ∙ omega (arith, place) in
      let more = others headroom margin isolated scope x (r + 1) preceding' m after rest blank fits_in.1 dominated_by.1 (omega (arith, deep)) (omega (arith, few, sum)) (omega (arith, count)) placed fresh_more (all_back _ (region_ids g) tail own) apart joined (blank_passed 32 ahead refl) in
      let open_yet = not_seen CloseRound mid (lacks_token (mark Comma) CloseRound (44 ∷ 32 ∷ ahead) (32 ∷ ahead) (mark_token Comma (32 ∷ ahead) tt) (λ e. absurd cc)) in
      let all : preceding' ++ region_list (regions_with_ids f (region k rs)) ≡ preceding ++ region_list (regions_with_ids f (region g (region k rs))) = append_assoc preceding (region_with_ids f g ∷ []) (region_list (regions_with_ids f (region k rs))) in
      let total : s.next + length (region_ids g) + length tail ≡ s.next + length (regions_ids (region g (region k rs))) = omega (arith, sum) in
      let whole = more_one (IsRegion o (Row d) (f x) isolated) headroom preceding _ (region_with_ids f g) s mid after _ read open_yet (mark_seen Comma mid (32 ∷ ahead) (mark_token Comma (32 ∷ ahead) tt)) more in
      subst (λ l. IsMore IsMarkToken CloseRound (IsRegion o (Row d) (f x) isolated) (suc headroom) preceding l s (trailing s rest (length (regions_ids (region g (region k rs)))))) all
      (subst (λ (i : ℕ). IsMore IsMarkToken CloseRound (IsRegion o (Row d) (f x) isolated) (suc headroom) preceding (preceding' ++ region_list (regions_with_ids f (region k rs))) s (record { bytes = rest; scopes = s.scopes; next = i })) total whole)

  -- ---- one operation

  -- the text between the properties and the attributes
  abbrev pub middle : List ℕ → Head → Regions → Names → List ℕ → List ℕ
  middle margin h rs m tail = opening rs ++ regions_then margin h.id 0 rs m (closing_text rs ++ tail)

  pub record MiddleRead (d : ℕ) (margin : List ℕ) (h : Head) (rs : Regions) (m : Names) (s : ParseState) (tail : List ℕ) : Type 0 where
    pub no_less : Not IsMark Less (middle margin h rs m tail)
    pub reads : IsRegions o (Row d) (f h.id) (is_isolated h.name) (region_list (regions_with_ids f rs)) s (trailing s tail (length (regions_ids rs)))

  -- the premise that the regions of an operation are parsed back
  abbrev pub ReadsMiddle : ℕ → Regions → Type 0
  ReadsMiddle d rs = (margin : List ℕ) (scope : List Frame) (h : Head) (m : Names) (s : ParseState) (named : Named) (rest : List ℕ) → AreBlank margin → FitsRegions o rs → DominatedByRegions scope h.id 0 rs → regions_depth rs ≤ d → length (regions_ids rs) < 1048576 → region_count rs ≤ 16 → Fresh f last scope m s.next (256 * region_count rs) (regions_ids rs) → AllByRecursion (λ y. (h.id == y) ≡ false) (regions_ids rs) → ((v : Value) → in_scope scope v ≡ true → (source_id (source_of v) == h.id) ≡ false)
      → Joined o f scope m (if is_isolated h.name then [] else s.scopes.here) → s.bytes ≡ middle margin h rs m (tail_then h named rest) → MiddleRead d margin h rs m s (tail_then h named rest)

  pub none_read : (d : ℕ) → ReadsMiddle d no_regions
  none_read d margin scope h m s named rest blank fits_in dominated_by deep few count fresh own apart j e =
      let tail = tail_then h named rest in
      let lacks = tail_lacks OpenRound (λ k. absurd cc) (λ k. absurd cc) h named rest in
      let zero_on : s.next ≡ s.next + 0 = omega arith in
      let state : trailing s tail 0 ≡ s = ap (λ (i : ℕ). record { bytes = tail; scopes = s.scopes; next = i }) (sym zero_on) ∙ ap (λ (l : List ℕ). record { bytes = l; scopes = s.scopes; next = s.next }) (sym e) in
      record {
        no_less = tail_lacks Less (λ k. absurd cc) (λ k. absurd cc) h named rest;
        reads = inr (not_seen OpenRound s (subst (Not IsMark OpenRound) (sym e) lacks), (refl, state));
      }

  pub some_read : (d : ℕ) (g : Region) (rs : Regions) → ReadsRegions d g rs → ReadsMiddle d (region g rs)
  some_read d g rs all margin scope h m s named rest blank fits_in dominated_by deep few count fresh own apart j e =
      let tail = tail_then h named rest in
      let inner = region_then margin h.id 0 g m (regions_then margin h.id (0 + 1) rs (region_names h.id 0 g m) (41 ∷ tail)) in
      let opened = space_token (mark OpenRound) (40 ∷ inner) inner (mark_token OpenRound inner tt) in
      let here = subst (λ l. Token (mark OpenRound) l inner) (sym e) opened in
      let mid = state_with_rest s inner in
      record {
        no_less = lacks_token (mark OpenRound) Less (32 ∷ 40 ∷ inner) inner opened (λ k. absurd cc);
        reads = inl (mid, mark_seen OpenRound s inner here, all 16 margin (is_isolated h.name) scope h.id 0 [] m mid tail blank fits_in dominated_by deep few count refl fresh own apart j refl);
      }

  pub head_read : (small : last ≤ 1048576) (d : ℕ) (h : Head) (rs : Regions) → ReadsMiddle d rs → ReadsOp (suc d) (op h rs)
  head_read small d h rs regions margin scope n s rest blank fits_in dominated_by deep fresh j e =
      let m = results_names h.id h.results n in
      let p = regions_names h.id 0 rs m in
      let tail = tail_then h p.named rest in
      let isolated = is_isolated h.name in
      let dominance = inside is_isolated h scope in
      let own = distinct_first h.id (regions_ids rs) fresh.distinct in
      let named = grown_results h.id h.results n in
      let inner = grown_regions o h.id 0 rs m fits_in.2 in
      let lt : n.results < 2 ^ 128 = omega (arith, fresh.few_results) in
      let apart : (v : Value) → in_scope scope v ≡ true → (source_id (source_of v) == h.id) ≡ false = λ v i. (fresh.away v i).0 in
      let keep_m : (v : Value) → in_scope scope v ≡ true → naming_of m.named v ≡ naming_of n.named v = λ v i. results_names_keep (source_of v) h.id h.results n (apart v i) in
      let keep_p : (v : Value) → in_scope scope v ≡ true → naming_of p.named v ≡ naming_of m.named v = λ v i. regions_keep (source_of v) h.id 0 rs m (λ r k. argument_away (source_of v) h.id r k (apart v i)) (fresh.away v i).1 in
      let jm = joined_later o f scope n m s.scopes.here j keep_m named.results named.arguments in
      let jp = joined_later o f scope m p s.scopes.here jm keep_p inner.results inner.arguments in
      let seen_m = all_so (λ v. in_scope scope v ≡ true) (IsParseState o f m.named s.scopes.here) (λ v i. jm.seen v i) h.operands dominated_by.0 in
      let seen_p = all_so (λ v. in_scope scope v ≡ true) (IsParseState o f p.named s.scopes.here) (λ v i. jp.seen v i) h.operands dominated_by.0 in
      let alike = same_types m.named p.named h.operands (all_so (λ v. in_scope scope v ≡ true) (λ v. naming_of m.named v ≡ naming_of p.named v) (λ v i. sym (keep_p v i)) h.operands dominated_by.0) in
      let fresh_rs : Fresh f last dominance m (s.next + 1) (256 * region_count rs) (regions_ids rs) = record {
        runs = fresh.runs.1;
        distinct = own.1;
        away = λ v i. (fresh.away v (in_inside isolated scope v i)).1;
        below = omega (arith, fresh.below);
        few_results = omega (arith, fresh.few_results, named.few_results);
        few_arguments = omega (arith, fresh.few_arguments, named.few_arguments, fits_in.1);
      } in
      let back = middle margin h rs m tail in
      let begun : ParseState = record { bytes = back; scopes = s.scopes; next = s.next + 1 } in
      let mid = regions margin dominance h m begun p.named rest blank fits_in.2 dominated_by.1 (omega (arith, deep)) (omega (arith, fresh.below, small)) fits_in.1 fresh_rs own.0 (λ v i. apart v (in_inside isolated scope v i)) (joined_inside o f isolated scope m s.scopes.here jm) refl in
      let start = start_again o f m.named s.scopes.here n.results h s.bytes back lt (are_bytes h.name fits_in.0.written.bytes) fits_in.0.written.named fits_in.0.operands fits_in.0.results seen_m e in
      let properties = properties_again o h.properties back fits_in.0.properties fits_in.0.written.properties mid.no_less in
      let after : ParseState = trailing begun tail (length (regions_ids rs)) in
      let few_types : length (map (value_type p.named) h.operands) ≤ 256 = omega (arith, types_count p.named h.operands, fits_in.0.operands) in
      let ended = tail_again o f n.results m.named p.named h rs s.next after rest fits_in.0 (types_fit o f p.named s.scopes.here h.operands seen_p) few_types alike fresh.runs.0 (j.fresh n.results (omega arith) lt) refl in
      let count : s.next + 1 + length (regions_ids rs) ≡ s.next + length (ids (op h rs)) = omega arith in
      let scopes = finished n.results s.next h.results s.scopes in
      let y = with_ids f (op h rs) in
      let kids = region_list (regions_with_ids f rs) in
      let first = start_of f m.named n.results h in
      let tail_read = subst (λ (i : ℕ). IsTail o s.next first h.properties kids y after (record { bytes = 10 ∷ rest; scopes = scopes; next = i })) count ended in
      let regions_read = subst (λ (i : ℕ). IsRegions o (Row d) i isolated kids begun after) fresh.runs.0 mid.reads in
      let keep_all : (v : Value) → in_scope scope v ≡ true → naming_of p.named v ≡ naming_of n.named v = λ v i. keep_p v i ∙ keep_m v i in
      let more_arguments : n.arguments ≤ p.arguments = omega (arith, named.arguments, inner.arguments) in
      let end = joined_end o f scope n p s.scopes h.id h.results j keep_all fits_in.0.results fits_in.0.written.types (λ i t k. own_results h.id 0 rs h.results n i t own.0 k) lt inner.results more_arguments in
      record {
        scopes = scopes;
        reads = op_from o last d y s (record { bytes = 10 ∷ rest; scopes = scopes; next = s.next + length (ids (op h rs)) }) (omega (arith, fresh.below)) (first, properties_text h.properties ++ back, h.properties, back, start, properties, (kids, after, regions_read, tail_read));
        joined = subst (λ (i : ℕ). Joined o f (scope ++ results h.id (length h.results) ∷ []) p (finished n.results i h.results s.scopes).here) fresh.runs.0 end;
        outer = finished_outer n.results s.next h.results s.scopes;
      }

  -- ---- all operations

  no_level : (t : Operation) → ReadsOp zero t
  no_level t margin scope n s rest blank fits_in dominated_by deep fresh j e = absurd (omega (arith, deep))

  -- the premise that the regions of an operation are parsed back, if it has any
  abbrev ReadsAll : ℕ → Regions → Type 0
  ReadsAll d no_regions = Unit {0}
  ReadsAll d (region g rs) = ReadsRegions d g rs

  regions_read : (d : ℕ) (g : Region) (rs : Regions) → ReadsRegion d g → ReadsAll d rs → ReadsRegions d g rs
  regions_read d g no_regions one others = last_read d g one
  regions_read d g (region k rs) one others = extra_read d g k rs one others

  middle_read : (d : ℕ) (rs : Regions) → ReadsAll d rs → ReadsMiddle d rs
  middle_read d no_regions all = none_read d
  middle_read d (region g rs) all = some_read d g rs all

  row_read : (d : ℕ) (t : Operation) (ts : Ops) → ReadsOp d t → ReadsOps d ts → ReadsOps d (next t ts)
  row_read d (op h rs) ts one others = next_read d h rs ts one others

  module _ (small : last ≤ 1048576) where
    mutual
      pub op_again : (d : ℕ) (t : Operation) → ReadsOp d t
      op_again zero t = no_level t
      op_again (suc d) (op h rs) = head_read small d h rs (middle_read d rs (regions_again d rs))

      regions_again : (d : ℕ) (rs : Regions) → ReadsAll d rs
      regions_again d no_regions = tt
      regions_again d (region g rs) = regions_read d g rs (region_again d g) (regions_again d rs)

      region_again : (d : ℕ) (g : Region) → ReadsRegion d g
      region_again d empty = empty_read d
      region_again d (block args os) = block_read d args os (ops_again d os)

      ops_again : (d : ℕ) (os : Ops) → ReadsOps d os
      ops_again d no_ops = no_ops_read d
      ops_again d (next t ts) = row_read d t ts (op_again d t) (ops_again d ts)
