-- Each rule of canonicalization and each shallow user pattern applies at an unlisted operation exactly if it applied
-- there before.
use Rattle.std.proofs.Common.{◌≡◌, refl, ap, sym, ◌∙◌, subst, ℕ, zero, suc, true, false, true≢false, ◌&&◌, not, List, [], ◌∷◌, map, Option, Some, None, inl, inr}
use Rattle.std.specs.Prelude.{option_map, option_and_then, is_some, slice_get}
use Rattle.std.proofs.lemmas.Option.{none-some}
use Rattle.ir_event.specs.types.Things.{ContextModel}
use Rattle.ir_event.specs.types.Terms.{TypeTerm, AttrTerm}
use Rattle.ir_event.specs.trees.declared.value.Value.{Value}
use Rattle.ir_event.specs.trees.declared.value.Value.TheVariants.{Result, Arg}
use Rattle.ir_event.specs.trees.declared.place.Place.{Place}
use Rattle.ir_event.specs.trees.Tree.{op, RegionsOf, no_regions, region, RegionOf, empty, block, head, regions}
use Rattle.ir_event.specs.trees.Ids.{HasDistinctIds, find}
use Rattle.ir_event.specs.trees.Meaning.{Operation}
use Rattle.ir_event.specs.store.Nodes.{NodeOf, node_of, regions_arguments}
use Rattle.ir_event.specs.tree_laws.Members.{In}
use Rattle.ir_event.specs.tree_laws.Reads.{last_id, ops_in}
use Rattle.ir_event.specs.tree_laws.Values.{region_at, type_of_value, arguments_of}
use Rattle.ir_event.specs.tree_laws.Stands.{StepOf, OpWithPathOf, stands}
use Rattle.ir_event.proofs.of_tree_laws.Members.{stand, found_stands}
use Rattle.ir_event.specs.declared.event.Event.{Event}
use Rattle.ir_event.specs.Modules.{Module}
use Rattle.ir_event.specs.Step.{Steps}
use Rattle.op_registry.specs.Registry.{own_of}
use Rattle.effects.specs.Effects.{effects}
use Rattle.effects.specs.Dead.{is_unused, is_kept, may_go as may_be_missed}
use Rattle.listeners_support.specs.Surroundings.{SurroundingsOf, surroundings}
use Rattle.patterns_laws.specs.Keeps.{given}
use Rattle.patterns_base.specs.declared.rule.Rule.{Rule}
use Rattle.patterns_base.specs.RuleNames.{is_canonical}
use Rattle.patterns_base.specs.Looks.{Header, when, is_erasable, is_verified, insertion_of, defining_op, type_of}
use Rattle.patterns_base.specs.Rules.{rule}
use Rattle.patterns_base.specs.Rewrites.{edits_of, eligible}
use Rattle.user_patterns_data.specs.Shapes.{PatternModel}
use Rattle.user_patterns_data.specs.Alike.{GivesAlike, ShowAlike, Under}
use Rattle.user_patterns_data.specs.Depth.{is_shallow}
use Rattle.user_patterns_data.proofs.Plans.{plans_alike}
use Rattle.user_patterns_apply.specs.Own.{user_pattern_edits}
use Rattle.greedy.proofs.UserPatternsAlike.{defining_op_of, gives_alike, own_same}
use Rattle.greedy.specs.Reached.{ends, any_reaches}
use Rattle.greedy.specs.LocalContext.{defining_op as defining_op_id, operands_of, Uses, is_listed, last_ids}
use Rattle.greedy.specs.Near.{Leads}
use Rattle.patterns.specs.soundness.Alike.{Same, ShowsAlike, DominatedByAlike, EndsAlike, LooksAlike, last_of, shape_of}
use Rattle.patterns.proofs.of_facts.Looking.{when_alike, given_both}
use Rattle.patterns.proofs.of_facts.Facts.{soundness, lowers_not}
use Rattle.greedy.specs.Listing.{Lists, Stayed, Touched}
use Rattle.greedy.proofs.Ending.{last_ends}
use Rattle.greedy.proofs.Reaching.{all_far}
use Rattle.greedy.proofs.Tracked.{effects_stay}
use Rattle.greedy.proofs.Usings.{unused_alike}
use Rattle.greedy.proofs.Lasting.{lasts_stay, unreached_all, last_in, same_lasts}
use Rattle.greedy.proofs.Unlisted.{found_surroundings, surroundings_found, there_found, found_there, outer_some, last_header, verified_alike, eligible_alike, heads_alike, head_id, shows_alike}
use Rattle.std.proofs.lemmas.Bool.{false_from_ne_true}

map_member : {X Y : Type 0} (f g : X → Y) (xs : List X) → map f xs ≡ map g xs → (x : X) → In x xs → f x ≡ g x
map_member f g [] e x h = absurd h
map_member f g (y ∷ ys) e x (inl i) = let k : f y ≡ g y = cc in ap f i ∙ k ∙ ap g (sym i)
map_member f g (y ∷ ys) e x (inr h) = let k : map f ys ≡ map g ys = cc in map_member f g ys k x h

none_from : {X Y : Type 0} (a : Option X) (b : Option Y) → Same a b → a ≡ None → b ≡ None
none_from a None e h = refl
none_from a (Some y) e h = absurd (true≢false (sym e ∙ ap is_some h))

steps_of : (shown : ℕ → List Value) (c : ContextModel) (es : List Event) (m n : Module) → Leads shown c es m n → Steps c es m n
steps_of shown c [] m n s = s.0
steps_of shown c (e ∷ es) m n s = (s.0, s.1, steps_of shown c es s.0 n s.3)

first_distinct : (c : ContextModel) (es : List Event) (m n : Module) → Steps c es m n → HasDistinctIds n.tree → HasDistinctIds m.tree
first_distinct c [] m n s d = subst (λ (p : Module). HasDistinctIds p.tree) s d
first_distinct c (e ∷ es) m n s d = s.1.before.distinct

-- regions with the same shape
same_shapes : (r : ℕ) (rs qs : RegionsOf (List ℕ) TypeTerm AttrTerm) → regions_arguments rs ≡ regions_arguments qs → shape_of (region_at r rs) ≡ shape_of (region_at r qs)
same_shapes r no_regions no_regions e = refl
same_shapes r no_regions (region h qs) e = absurd cc
same_shapes r (region g rs) no_regions e = absurd cc
same_shapes zero (region g rs) (region h qs) e = by g h (insertion_of_lists e)
  where
    insertion_of_lists : {X : Type 0} {a b : X} {xs ys : List X} → a ∷ xs ≡ b ∷ ys → a ≡ b
    insertion_of_lists e = cc

    by : (g h : RegionOf (List ℕ) TypeTerm AttrTerm) → arguments_of g ≡ arguments_of h → shape_of (Some g) ≡ shape_of (Some h)
    by empty empty e = refl
    by empty (block bs us) e = absurd cc
    by (block args os) empty e = absurd cc
    by (block args os) (block bs us) e = refl
same_shapes (suc r) (region g rs) (region h qs) e = same_shapes r rs qs (rest_of_lists e)
  where
    rest_of_lists : {X : Type 0} {a b : X} {xs ys : List X} → a ∷ xs ≡ b ∷ ys → xs ≡ ys
    rest_of_lists e = cc

node_heads : (o p : Operation) → node_of o ≡ node_of p → head o ≡ head p
node_heads (op h rs) (op k qs) e = λ i. (e i).head

node_regions : (o p : Operation) → node_of o ≡ node_of p → regions_arguments (regions o) ≡ regions_arguments (regions p)
node_regions (op h rs) (op k qs) e = λ i. (e i).arguments

-- the last operation of a block ends that block
last_in_ends : (t : Operation) → HasDistinctIds t → (o : Operation) (path : List (StepOf (List ℕ) TypeTerm AttrTerm)) → In (stand o path) (stands [] t) → (r l : ℕ) → last_in r (regions o) ≡ Some l → ends (head o).id l t ≡ true
last_in_ends t d o path h r l e = go (region_at r (regions o)) refl e
  where
    go : (a : Option (RegionOf (List ℕ) TypeTerm AttrTerm)) → region_at r (regions o) ≡ a → option_and_then last_id (option_and_then ops_in a) ≡ Some l → ends (head o).id l t ≡ true
    go None i k = absurd cc
    go (Some empty) i k = absurd cc
    go (Some (block args os)) i k = last_ends t d o path r args os l h i k

module _ (shown : ℕ → List Value) (c : ContextModel) (es : List Event) (m n : Module) (leads : Leads shown c es m n) (dn : HasDistinctIds n.tree) (listed : List ℕ) (lists : Lists shown es listed n.tree) where
  abbrev t : Operation
  t = n.tree

  abbrev u : Operation
  u = m.tree

  steps : Steps c es m n
  steps = steps_of shown c es m n leads

  dm : HasDistinctIds u
  dm = first_distinct c es m n steps dn

  far : (y : ℕ) → (any_reaches es y t ≡ true → ⊥) → surroundings y t ≡ surroundings y u
  far y f = all_far c es m n steps y (false_from_ne_true (any_reaches es y t) f)

  -- a value of an operation
  uses_found : (z : ℕ) (q : Operation) → find z t ≡ Some q → (v : Value) → In v (head q).operands → (y : ℕ) → defining_op_id v ≡ Some y → Uses z y t
  uses_found z q f v h y e =
      let s = found_surroundings t z q f in
      (v, subst (λ vs. In v vs) (sym (ap operands_of s.1 ∙ shown_node s.0 q s.2)) h, e)
    where
      node_head : (q : Operation) → (node_of q).head ≡ head q
      node_head (op h rs) = refl

      shown_node : (s : SurroundingsOf (List ℕ) TypeTerm AttrTerm) (q : Operation) → s.node ≡ node_of q → s.node.head.operands ≡ (head q).operands
      shown_node s q e = ap (λ (k : NodeOf (List ℕ) TypeTerm AttrTerm). k.head.operands) e ∙ ap (λ (k : Header). k.operands) (node_head q)

  -- the types of an operation's operands
  types_found : (z : ℕ) → surroundings z t ≡ surroundings z u → (q : Operation) → find z t ≡ Some q → (v : Value) → In v (head q).operands → type_of t v ≡ type_of u v
  types_found z same q f v h =
      let s = found_surroundings t z q f in
      let other = surroundings_found u z s.0 (sym same ∙ s.1) in
      let r = found_surroundings u z other.0 other.1 in
      let one : Some s.0 ≡ Some r.0 = sym s.1 ∙ same ∙ r.1 in
      let both : s.0 ≡ r.0 = cc in
      let heads = node_heads q other.0 (sym s.2 ∙ ap (λ (k : SurroundingsOf (List ℕ) TypeTerm AttrTerm). k.node) both ∙ r.2) in
      map_member (λ w. type_of_value w t) (λ w. type_of_value w u) (head q).operands
      (sym s.3 ∙ ap (λ (k : SurroundingsOf (List ℕ) TypeTerm AttrTerm). k.types) both ∙ r.3 ∙ ap (λ (k : Header). map (λ w. type_of_value w u) k.operands) (sym heads)) v h

  module _ (x : ℕ) (unlisted : is_listed x listed ≡ false) (o p : Operation) (is : find x t ≡ Some o) (was : find x u ≡ Some p) where
    away : is_listed x listed ≡ true → ⊥
    away e = true≢false (sym e ∙ unlisted)

    unreached : any_reaches es x t ≡ true → ⊥
    unreached e = away (lists.seers.itself x e)

    own : surroundings x t ≡ surroundings x u
    own = far x unreached

    nodes : node_of o ≡ node_of p
    nodes =
        let s = found_surroundings t x o is in
        let r = found_surroundings u x p was in
        let one : Some s.0 ≡ Some r.0 = sym s.1 ∙ own ∙ r.1 in
        let both : s.0 ≡ r.0 = cc in
        sym s.2 ∙ ap (λ (k : SurroundingsOf (List ℕ) TypeTerm AttrTerm). k.node) both ∙ r.2

    heads : head o ≡ head p
    heads = node_heads o p nodes

    id_of : (head o).id ≡ x
    id_of = let s = found_stands x t o is in ap (λ (z : Operation). (head z).id) (sym s.3) ∙ s.2

    far_defining_op : (v : Value) → In v (head o).operands → (y : ℕ) → defining_op_id v ≡ Some y → surroundings y t ≡ surroundings y u
    far_defining_op v h y e = far y (λ r. away (lists.seers.users y x r (uses_found x o is v h y e)))

    dominated_by : DominatedByAlike t u (head o)
    dominated_by = record {
      operands = λ v h. shows_alike t u v (far_defining_op v h);
      types = λ v h. types_found x own o is v h;
      inner = λ v h y e w k. inside v h y e w k;
    }
      where
        by_found : (z : ℕ) (k : ℕ) → In (Result z k) (head o).operands → (y : Header) (a : Option Operation) → find z t ≡ a → option_map head a ≡ Some y → (w : Value) → In w y.operands → ShowsAlike t u w × (type_of t w ≡ type_of u w)
        by_found z k h y None i e w j = absurd cc
        by_found z k h y (Some q) i e w j =
            let same : head q ≡ y = cc in
            let there : In w (head q).operands = subst (λ (d : Header). In w d.operands) (sym same) j in (
              shows_alike t u w (λ b g. far b (λ r. away (lists.seers.users_of_users b z x r (uses_found z q i w there b g) (uses_found x o is (Result z k) h z refl)))),
              types_found z (far_defining_op (Result z k) h z refl) q i w there,
            )

        inside : (v : Value) → In v (head o).operands → (y : Header) → defining_op t v ≡ Some y → (w : Value) → In w y.operands → ShowsAlike t u w × (type_of t w ≡ type_of u w)
        inside (Arg a r k) h y e w j = absurd cc
        inside (Result z k) h y e w j = by_found z k h y (find z t) refl e w j

    -- ---- which operations end its blocks
    o_path : (s : OpWithPathOf (List ℕ) TypeTerm AttrTerm) × In (stand o s.path) (stands [] t)
    o_path = let s = found_stands x t o is in (s.0, subst (λ (q : Operation). In (stand q s.0.path) (stands [] t)) s.3 s.1)

    p_path : (s : OpWithPathOf (List ℕ) TypeTerm AttrTerm) × In (stand p s.path) (stands [] u)
    p_path = let s = found_stands x u p was in (s.0, subst (λ (q : Operation). In (stand q s.0.path) (stands [] u)) s.3 s.1)

    same_last : (r : ℕ) → last_in r (regions o) ≡ last_in r (regions p)
    same_last r =
        let w = lasts_stay c es m n steps x (false_from_ne_true (any_reaches es x t) unreached) p was in
        let one : Some o ≡ Some w.0 = sym is ∙ w.1 in
        let same : o ≡ w.0 = cc in
        same_lasts r (regions o) (regions p) (ap (λ (q : Operation). last_ids (regions q)) same ∙ w.2)

    ends_there : (r l : ℕ) → last_in r (regions o) ≡ Some l → ends x l t ≡ true
    ends_there r l e = ap (λ z. ends z l t) (sym id_of) ∙ last_in_ends t dn o o_path.0.path o_path.1 r l e

    far_end : (r l : ℕ) → last_in r (regions o) ≡ Some l → surroundings l t ≡ surroundings l u
    far_end r l e = far l (λ k. away (lists.around.around l x k (ends_there r l e)))

    -- the last operation of a block, by its id
    last_by : (r : ℕ) (h : Header) → last_of o r ≡ Some h → (l : ℕ) × (last_in r (regions o) ≡ Some l) × (option_map head (find l t) ≡ Some h)
    last_by r h e = go (last_in r (regions o)) refl (sym (last_header t dn o o_path.0.path o_path.1 r) ∙ e)
      where
        go : (a : Option ℕ) → last_in r (regions o) ≡ a → option_and_then (λ l. option_map head (find l t)) (last_in r (regions o)) ≡ Some h → (l : ℕ) × (last_in r (regions o) ≡ Some l) × (option_map head (find l t) ≡ Some h)
        go None i k = let none : None ≡ Some h = sym (ap (option_and_then (λ l. option_map head (find l t))) i) ∙ k in absurd cc
        go (Some l) i k = (l, i, sym (ap (option_and_then (λ l. option_map head (find l t))) i) ∙ k)

    last_alike : (r : ℕ) → last_of o r ≡ last_of p r
    last_alike r = last_header t dn o o_path.0.path o_path.1 r ∙ go (last_in r (regions o)) refl ∙ ap (option_and_then (λ l. option_map head (find l u))) (same_last r) ∙ sym (last_header u dm p p_path.0.path p_path.1 r)
      where
        go : (a : Option ℕ) → last_in r (regions o) ≡ a → option_and_then (λ l. option_map head (find l t)) (last_in r (regions o)) ≡ option_and_then (λ l. option_map head (find l u)) (last_in r (regions o))
        go None i = ap (option_and_then (λ l. option_map head (find l t))) i ∙ sym (ap (option_and_then (λ l. option_map head (find l u))) i)
        go (Some l) i = ap (option_and_then (λ l. option_map head (find l t))) i ∙ heads_alike t u l (far_end r l i) ∙ sym (ap (option_and_then (λ l. option_map head (find l u))) i)

    ends_alike : EndsAlike t u o p
    ends_alike = record {
      shapes = λ r. same_shapes r (regions o) (regions p) (node_regions o p nodes);
      lasts = last_alike;
      verified = λ r h e. let w = last_by r h e in let i = head_id t u w.0 h w.2 in verified_alike t u h (ap (λ z. surroundings z t) i ∙ far_end r w.0 w.1 ∙ ap (λ z. surroundings z u) (sym i));
      operands = λ r h e v k. let w = last_by r h e in by_found r w.0 w.1 (find w.0 t) refl h w.2 v k;
    }
      where
        by_found : (r l : ℕ) → last_in r (regions o) ≡ Some l → (a : Option Operation) → find l t ≡ a → (h : Header) → option_map head (find l t) ≡ Some h → (v : Value) → In v h.operands → ShowsAlike t u v
        by_found r l i None j h e v k = let none : None ≡ Some h = sym (ap (option_map head) j) ∙ e in absurd cc
        by_found r l i (Some q) j h e v k =
            let some : Some (head q) ≡ Some h = sym (ap (option_map head) j) ∙ e in
            let same : head q ≡ h = cc in
            shows_alike t u v (λ z g. far z (λ b. away (lists.around.around_users z l x b (uses_found l q j v (subst (λ (d : Header). In v d.operands) (sym same) k) z g) (ends_there r l i))))

    -- ---- whether the operation is dead, and which rules it is eligible for
    dead_alike : is_erasable t o ≡ is_erasable u p
    unfolding is_erasable
    dead_alike =
        let w = effects_stay c es m n steps x (unreached_all es x t (false_from_ne_true (any_reaches es x t) unreached)) (λ e i v j k g. away (lists.climbs e i v j k x g)) p was in
        let one : Some o ≡ Some w.0 = sym is ∙ w.1 in
        let same : o ≡ w.0 = cc in
        let sets : effects own_of o ≡ effects own_of p = ap (effects own_of) same ∙ w.2 in
        let unused : is_unused (head o).id t ≡ is_unused (head p).id u =
        ap (λ z. is_unused z t) id_of ∙ unused_alike shown c es m n leads dn x (λ e i v j g. away (lists.found_gained e i v j x g)) (λ e i v j g. elim (lists.found_lost e i v j x g) [ inl k ↦ absurd (away k) | inr k ↦ k ]) ∙ ap (λ z. is_unused z u) (sym id_of ∙ ap (λ (z : Header). z.id) heads) in
        λ i. unused i && (not (is_kept (heads i).name) && may_be_missed (sets i))

    suited : (r : Rule) → eligible r t (head o) ≡ eligible r u (head p)
    suited r = eligible_alike t u r (head o) (ap (λ z. surroundings z t) id_of ∙ own ∙ ap (λ z. surroundings z u) (sym id_of)) ∙ ap (eligible r u) heads

    precedings : is_some (insertion_of x t) ≡ is_some (insertion_of x u)
    precedings = outer_some t dn x ∙ ap (λ a. is_some (option_and_then (λ (s : SurroundingsOf (List ℕ) TypeTerm AttrTerm). s.outer) a)) own ∙ sym (outer_some u dm x)

    -- ---- the rules
    looks : LooksAlike t u o p
    looks = record { heads = heads; dominated_by = dominated_by; ends = ends_alike; goes = dead_alike }

    rules_alike : (r : Rule) → is_canonical r ≡ true → (f g : Place) → Same (rule r t n.next f o) (rule r u m.next g p)
    rules_alike r canonical f g = (soundness r).alike (lowers_not r canonical) t u n.next m.next f g o p looks

    edits_alike : (r : Rule) → is_canonical r ≡ true → Same (edits_of r n x) (edits_of r m x)
    unfolding edits_of
    edits_alike r canonical =
        ap (λ a. is_some (given a (λ q. given (insertion_of x t) (λ insertion. when (eligible r t (head q)) (rule r t n.next insertion q))))) is
        ∙ given_both (insertion_of x t) (insertion_of x u) (λ insertion. when (eligible r t (head o)) (rule r t n.next insertion o)) (λ insertion. when (eligible r u (head p)) (rule r u m.next insertion p)) precedings (λ f g i j. when_alike _ _ _ _ (suited r) (rules_alike r canonical f g))
        ∙ sym (ap (λ a. is_some (given a (λ q. given (insertion_of x u) (λ insertion. when (eligible r u (head q)) (rule r u m.next insertion q))))) was)

    -- ---- the patterns
    root_gives : GivesAlike t u (is_verified t) (is_verified u) (Result x 0)
    root_gives = gives_alike t u (Result x 0) (shows_alike t u (Result x 0) (λ y e. let same : x ≡ y = cc in subst (λ z. surroundings z t ≡ surroundings z u) same own))

    root_typed : type_of_value (Result x 0) t ≡ type_of_value (Result x 0) u
    root_typed =
        ap (option_and_then (λ q. slice_get (head q).results 0)) is ∙ ap (λ (h : Header). slice_get h.results 0) heads
        ∙ sym (ap (option_and_then (λ q. slice_get (head q).results 0)) was)

    -- the operands of the root
    root_operand : (v : Value) → Under t (is_verified t) (Result x 0) v → In v (head o).operands
    root_operand v w =
        let given_by : option_map head (find x t) ≡ Some w.0 = defining_op_of t (is_verified t) (Result x 0) w.0 w.1 in
        let same : Some w.0 ≡ Some (head o) = sym given_by ∙ ap (option_map head) is in
        let one : w.0 ≡ head o = cc in
        subst (λ (h : Header). In v h.operands) one w.2

    inner_seen : (v w : Value) → Under t (is_verified t) (Result x 0) v → Under t (is_verified t) v w → ShowsAlike t u w × (type_of t w ≡ type_of u w)
    inner_seen v w i j = dominated_by.inner v (root_operand v i) j.0 (defining_op_of t (is_verified t) v j.0 j.1) w j.2

    last_typed : (v w z : Value) → Under t (is_verified t) (Result x 0) v → Under t (is_verified t) v w → Under t (is_verified t) w z → type_of t z ≡ type_of u z
    last_typed (Arg a r k) w z i j l = absurd (none-some j.0 j.1)
    last_typed (Result a k) (Arg b r c) z i j l = absurd (none-some l.0 l.1)
    last_typed (Result a k) (Result b c) z i j l = go (find a t) refl (find b t) refl
      where
        go : (p : Option Operation) → find a t ≡ p → (q : Option Operation) → find b t ≡ q → type_of t z ≡ type_of u z
        go None e q f = let none : None ≡ Some j.0 = sym (ap (option_map head) e) ∙ defining_op_of t (is_verified t) (Result a k) j.0 j.1 in absurd cc
        go (Some p) e None f = let none : None ≡ Some l.0 = sym (ap (option_map head) f) ∙ defining_op_of t (is_verified t) (Result b c) l.0 l.1 in absurd cc
        go (Some p) e (Some q) f =
            let one : Some (head p) ≡ Some j.0 = sym (ap (option_map head) e) ∙ defining_op_of t (is_verified t) (Result a k) j.0 j.1 in
            let two : Some (head q) ≡ Some l.0 = sym (ap (option_map head) f) ∙ defining_op_of t (is_verified t) (Result b c) l.0 l.1 in
            let first : head p ≡ j.0 = cc in
            let second : head q ≡ l.0 = cc in
            types_found b
            (far b (λ r. away (lists.seers.users_of_users b a x r (uses_found a p e (Result b c) (subst (λ (h : Header). In (Result b c) h.operands) (sym first) j.2) b refl) (uses_found x o is (Result a k) (root_operand (Result a k) i) a refl))))
            q f z (subst (λ (h : Header). In z h.operands) (sym second) l.2)

    shows : ShowAlike t u (is_verified t) (is_verified u) x
    shows = record {
      root = (root_gives, root_typed);
      operands = λ v i. let h = root_operand v i in (gives_alike t u v (dominated_by.operands v h), dominated_by.types v h);
      inner = λ v w i j. let s = inner_seen v w i j in (gives_alike t u w s.0, s.1);
      last = last_typed;
    }

    user_patterns_alike : (p : PatternModel) → is_shallow p ≡ true → Same (user_pattern_edits p n x) (user_pattern_edits p m x)
    user_patterns_alike q h = own_same q n m x o p is was heads precedings (plans_alike q h t u (is_verified t) (is_verified u) n.next m.next x shows)

    stayed : Stayed m n x
    stayed = record {
      was = found_there u x p was;
      applies = λ r canonical. (none_from (edits_of r n x) (edits_of r m x) (edits_alike r canonical), none_from (edits_of r m x) (edits_of r n x) (sym (edits_alike r canonical)));
      own = λ q h. (none_from (user_pattern_edits q n x) (user_pattern_edits q m x) (user_patterns_alike q h), none_from (user_pattern_edits q m x) (user_pattern_edits q n x) (sym (user_patterns_alike q h)));
    }

  pub touched_all : Touched m n listed
  touched_all x h unlisted =
      let o = there_found t dn x h in
      let own = far x (λ e. true≢false (sym (lists.seers.itself x e) ∙ unlisted)) in
      let s = found_surroundings t x o.0 o.1 in
      let p = surroundings_found u x s.0 (sym own ∙ s.1) in
      stayed x unlisted o.0 p.0 o.1 p.1
