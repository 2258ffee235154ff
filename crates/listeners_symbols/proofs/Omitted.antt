-- Tables that omit plain roles.
use Rattle.std.proofs.Common.{◌≡◌, refl, ap, sym, ◌∙◌, subst, ℕ, true, true≢false, eqb, eq-eqb, List, [], map, Option, Some, None, inl, inr}
use Rattle.std.specs.Prelude.{option_map, is_some, IfSome}
use Rattle.std.specs.BTreeMap.{is_at}
use Rattle.std.specs.Ordering.{nat_cmp}
use Rattle.std.proofs.Common.{false, cond}
use Rattle.listeners_support.specs.Map.{IdMap}
use Rattle.listeners_support.specs.Map as idmap
use Rattle.ir_event.specs.types.Things.{ContextModel}
use Rattle.ir_event.specs.trees.Ids.{has_id}
use Rattle.ir_event.specs.trees.Meaning.{Operation}
use Rattle.ir_event.specs.tree_laws.Reads.{parent_of}
use Rattle.ir_event.proofs.of_types.Truths.{same_test}
use Rattle.ir_event.specs.types.Terms.{name_term, type_term, attr_term}
use Rattle.listeners_symbols.specs.declared.role.Role.{Role as Numbers}
use Rattle.listeners_symbols.specs.declared.role.Tables.{Tables}
use Rattle.listeners_symbols.specs.Roles.{Role, RoleOf}
use Rattle.listeners_symbols.specs.Table.{Table, Says, IsPlain, IsOmitted, MaySay, IsRight, MayBeRight, Entered, Renewed, RoleIsOf, role_meaning, role_numbers, map_role, tables_for, tables_in}

pub some_more : {X : Type 0} (P Q : X → Type 0) (o : Option X) → IfSome o P → ((x : X) → P x → Q x) → IfSome o Q
some_more P Q None a h = tt
some_more P Q (Some x) a h = h x a

-- ---- entries
module _ (c : ContextModel) where
  -- an entry is the role of its operation
  pub said : (r : Option Role) (k : Numbers) → MaySay c r (Some k) → Says c r (Some k)
  said r k (inl s) = s
  said r k (inr e) = (let no : Some k ≡ None = e.none in absurd cc)

  pub present : (r : Option Role) (kept : Option Numbers) → MaySay c r kept → is_some kept ≡ true → Says c r kept
  present r kept (inl s) i = s
  present r kept (inr e) i = absurd (true≢false (sym i ∙ ap is_some e.none))

  pub entry_known : (r : Option Role) (kept : Option Numbers) → MaySay c r kept → IfSome kept (RoleIsOf c)
  entry_known r kept (inl s) = s.known
  entry_known r kept (inr e) = subst (λ o. IfSome o (RoleIsOf c)) (sym e.none) tt

  -- a plain role in numbers is one in contents
  plain_meaning : (k : Numbers) → IsPlain (role_numbers k) → IsPlain (role_meaning c k)
  plain_meaning k p = record {
    is_table = p.is_table;
    symbol = ap (option_map (name_term c)) p.symbol;
    name = ap (option_map (name_term c)) p.name;
    references = ap (map _) p.references;
    call = ap (option_map _) p.call;
    function = ap (option_map _) p.function;
  }

  omitted : (r : Option Role) (k : Numbers) (kept : Option Numbers) → Says c r (Some k) → IsPlain (role_numbers k) → kept ≡ None → IsOmitted r kept
  omitted r k kept s p e = record { none = e; role = role_meaning c k; is = sym s.is; simple = plain_meaning k p }

-- ---- updates
-- the entry of a number in a map in which it was set
its_own : (m n : IdMap Numbers) (x : ℕ) (r : Numbers) → idmap.Updates m n x (Some r) → idmap.get n x ≡ Some r
its_own m n x r u = u x ∙ ap (λ b. cond b (Some r) (idmap.get m x)) (same_test x x ∙ eq-eqb x x refl)

pub entered_renewed : (c : ContextModel) (t : Operation) (x : ℕ) (r : Numbers) (m n : IdMap Numbers) → IsRight c t x (idmap.get m) (Some r)
    → ((p : ℕ) → parent_of x t ≡ Some p → is_some (idmap.get m p) ≡ true) → IfSome r.parent (λ p. is_some (idmap.get m p) ≡ true) → Entered m n x r → Renewed c t x (idmap.get m) (idmap.get n)
entered_renewed c t x r m n right parent parents (inl u) = record {
  own = λ has above. subst (MaySay c _) (sym (its_own m n x r u)) (inl (right has above));
  stays = λ i. ap is_some (its_own m n x r u);
  parent = parent;
  parents = λ k e. (let two : Some r ≡ Some k = sym (its_own m n x r u) ∙ e in
      let one : r ≡ k = cc in
      subst (λ (z : Numbers). IfSome z.parent (λ p. is_some (idmap.get m p) ≡ true)) one parents);
  others = λ y apart. u y ∙ ap (λ b. cond b (Some r) (idmap.get m y)) (other x y apart);
}
  where
    other : (x y : ℕ) → eqb x y ≡ false → is_at (nat_cmp x) y ≡ false
    other x y apart = same_test x y ∙ apart
entered_renewed c t x r m n right parent parents (inr (simple, vacant, same)) = record {
  own = λ has above. inr (omitted c _ r _ (right has above) simple (same x ∙ vacant));
  stays = λ i. ap is_some (same x) ∙ i;
  parent = parent;
  parents = λ k e. (let no : None ≡ Some k = sym (same x ∙ vacant) ∙ e in absurd cc);
  others = λ y apart. same y;
}

-- ---- parents
-- the parent of an operation whose symbol tables are known has an entry
pub parents_kept : (table : Table) (x : ℕ) (b : _) (o : Option ℕ) (tables : Tables) → tables_for table x b o ≡ Some tables → IfSome tables.parent (λ p. is_some (table p) ≡ true)
parents_kept table x b None tables is =
    let two : Some (record { parent = None; home = None; table = cond b (Some x) None }) ≡ Some tables = is in
    let one : record { parent = None; home = None; table = cond b (Some x) None } ≡ tables = cc in
    subst (λ (z : Tables). IfSome z.parent (λ p. is_some (table p) ≡ true)) one tt
parents_kept table x b (Some p) tables is = go (table p) refl
  where
    go : (k : Option Numbers) → table p ≡ k → IfSome tables.parent (λ p. is_some (table p) ≡ true)
    go None f = (let no : None ≡ Some tables = sym (ap (option_map (tables_in p)) f) ∙ is in absurd cc)
    go (Some k) f =
        let two : Some (tables_in p k) ≡ Some tables = sym (ap (option_map (tables_in p)) f) ∙ is in
        let one : tables_in p k ≡ tables = cc in
        subst (λ (z : Tables). IfSome z.parent (λ p. is_some (table p) ≡ true)) one (ap is_some f)
