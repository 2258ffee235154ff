-- Extension: each call keeps the items of a context, and adds at most one.
use Rattle.std.specs.Prelude.{ℕ, List}
use Rattle.std.specs.Str.{bytes_eq}
use Rattle.std.specs.Cmp.Lexicographic.{bytes_decides}
use Rattle.std.proofs.Common.{◌≡◌, ◌≤◌, true, [], ◌++◌, length, get_or, sym, ap, refl, ◌∙◌, length-append, append_assoc, arith}
use Rattle.std.proofs.lemmas.List.{append-nil}
use Rattle.ir_types_interner.specs.Interned.{with_last}
use Rattle.ir_types.specs.declared.node.TypeNode.{TypeNode}
use Rattle.ir_types.specs.declared.node.AttrNode.{AttrNode}
use Rattle.ir_types.specs.Things.{ContextModel, IsPreceding, IsExtendedBy}
use Rattle.ir_types.specs.Same.{same_type, same_attr}
use Rattle.ir_types.specs.Dictionaries.{kept}
use Rattle.ir_types.specs.Interning.{with_name, with_type, with_attr}
use Rattle.ir_types.proofs.Building.{Agree, agree_longer}
use Rattle.ir_types.proofs.Placing.{with_last_preceding}

-- names are equal if their bytes are
pub name_is : (x y : List ℕ) → bytes_eq x y ≡ true → x ≡ y
name_is x y h = (bytes_decides x y).0 h

pub name_refl : (x : List ℕ) → bytes_eq x x ≡ true
name_refl x = (bytes_decides x x).1 refl

-- a list is a prefix of itself, and being a prefix is transitive
pub preceding_refl : {A : Type 0} (xs : List A) → IsPreceding xs xs
preceding_refl xs = ([], sym (append-nil xs))

pub preceding_trans : {A : Type 0} (xs ys zs : List A) → IsPreceding xs ys → IsPreceding ys zs → IsPreceding xs zs
preceding_trans xs ys zs f g = (f.0 ++ g.0, g.1 ∙ ap (λ l. l ++ g.0) f.1 ∙ append_assoc xs f.0 g.0)

pub preceding_length : {A : Type 0} (xs ys : List A) → IsPreceding xs ys → length xs ≤ length ys
preceding_length xs ys f = let e = ap length f.1 ∙ length-append xs f.0 in omega arith

pub preceding_agree : {A : Type 0} (d : A) (xs ys : List A) → IsPreceding xs ys → Agree d (length xs) ys xs
preceding_agree d xs ys f i h = ap (λ l. get_or l i d) f.1 ∙ agree_longer d (length xs) xs f.0 (omega arith) i h

-- extension
pub grows_refl : (c : ContextModel) → IsExtendedBy c c
grows_refl c = record { names = preceding_refl c.names; types = preceding_refl c.types; attrs = preceding_refl c.attrs; opaque = refl }

pub grows_trans : (b c d : ContextModel) → IsExtendedBy b c → IsExtendedBy c d → IsExtendedBy b d
grows_trans b c d g h =
    record {
      names = preceding_trans b.names c.names d.names g.names h.names;
      types = preceding_trans b.types c.types d.types g.types h.types;
      attrs = preceding_trans b.attrs c.attrs d.attrs g.attrs h.attrs;
      opaque = h.opaque ∙ g.opaque;
    }

-- each list after each call
pub name_names : (bytes : List ℕ) (c : ContextModel) → ((with_name bytes c).1).names ≡ with_last (bytes_eq bytes) bytes c.names
unfolding with_name
name_names bytes c = refl

pub name_types : (bytes : List ℕ) (c : ContextModel) → ((with_name bytes c).1).types ≡ c.types
unfolding with_name
name_types bytes c = refl

pub name_attrs : (bytes : List ℕ) (c : ContextModel) → ((with_name bytes c).1).attrs ≡ c.attrs
unfolding with_name
name_attrs bytes c = refl

pub type_names : (node : TypeNode) (c : ContextModel) → ((with_type node c).1).names ≡ c.names
unfolding with_type
type_names node c = refl

pub type_types : (node : TypeNode) (c : ContextModel) → ((with_type node c).1).types ≡ with_last (same_type node) node c.types
unfolding with_type
type_types node c = refl

pub type_attrs : (node : TypeNode) (c : ContextModel) → ((with_type node c).1).attrs ≡ c.attrs
unfolding with_type
type_attrs node c = refl

pub attr_names : (node : AttrNode) (c : ContextModel) → ((with_attr node c).1).names ≡ c.names
unfolding with_attr
attr_names node c = refl

pub attr_types : (node : AttrNode) (c : ContextModel) → ((with_attr node c).1).types ≡ c.types
unfolding with_attr
attr_types node c = refl

pub attr_attrs : (node : AttrNode) (c : ContextModel) → ((with_attr node c).1).attrs ≡ with_last (same_attr (kept c.names node)) (kept c.names node) c.attrs
unfolding with_attr
attr_attrs node c = refl

-- each call extends the context
pub grows_name : (bytes : List ℕ) (c : ContextModel) → IsExtendedBy c (with_name bytes c).1
unfolding with_name
grows_name bytes c = record { names = with_last_preceding (bytes_eq bytes) bytes c.names; types = preceding_refl c.types; attrs = preceding_refl c.attrs; opaque = refl }

pub grows_type : (node : TypeNode) (c : ContextModel) → IsExtendedBy c (with_type node c).1
unfolding with_type
grows_type node c = record { names = preceding_refl c.names; types = with_last_preceding (same_type node) node c.types; attrs = preceding_refl c.attrs; opaque = refl }

pub grows_attr : (node : AttrNode) (c : ContextModel) → IsExtendedBy c (with_attr node c).1
unfolding with_attr
grows_attr node c = record { names = preceding_refl c.names; types = preceding_refl c.types; attrs = with_last_preceding (same_attr (kept c.names node)) (kept c.names node) c.attrs; opaque = refl }
