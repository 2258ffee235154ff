-- Edits of modules with names, types and attributes, and edits of modules with ids of a context.
use Rattle.std.specs.Prelude.{◌≡◌, ℕ, List, [], ◌∷◌, true, Option}
use Rattle.ir_event.specs.types.Things.{ContextModel, IsName, IsAttr}
use Rattle.ir_event.specs.types.Terms.{TypeTerm, AttrTerm, name_term, type_term, attr_term}
use Rattle.ir_event.specs.types.Words.{is_isolated, is_table, is_inherent}
use Rattle.ir_event.specs.types.declared.refusal.Refusal.{Refusal}
use Rattle.ir_event.specs.trees.Tree.{regions}
use Rattle.ir_event.specs.trees.Ids.{IsNumberedFrom}
use Rattle.ir_event.specs.trees.Meaning.{IsSoundIn, isolated_in, key_before, key_before_in, meaning}
use Rattle.ir_event.specs.trees.WellFormed.{Module as Numbered}
use Rattle.ir_event.specs.tree_laws.Reasons.{hold_none}
use Rattle.ir_event.specs.Modules.{Module}
use Rattle.ir_event.specs.types.SameTypes.{same_type}
use Rattle.rewriter_machine.specs.Edits.{TestsOf, EditOf, Insert, Make, Erase, Move, SetOperand, Replace, SetAttr}
use Rattle.rewriter_machine.specs.Edits.{DropAttr, edited_by, reason_by}

-- the tests of names and types
abbrev pub tests : TestsOf (List ℕ) TypeTerm
tests =
    record {
      isolated = is_isolated;
      table = is_table;
      inherent = is_inherent;
      before = key_before;
      same_type = same_type;
    }

-- the tests of ids of a context
abbrev pub tests_in : ContextModel → TestsOf ℕ ℕ
tests_in c =
    record {
      isolated = isolated_in c;
      table = λ n. is_table (name_term c n);
      inherent = λ n k. is_inherent (name_term c n) (name_term c k);
      before = key_before_in c;
      same_type = λ s t. same_type (type_term c s) (type_term c t);
    }

-- an edit with names and keys as bytes, and types and attributes as terms
abbrev pub Edit : Type 0
Edit = EditOf (List ℕ) TypeTerm AttrTerm

-- the module after an edit
abbrev pub edited : Edit → Module → Module
edited e m = edited_by tests e m

-- the reason against an edit, if there is one
abbrev pub edit_reason : Edit → Module → Option Refusal
edit_reason e m = reason_by tests e m

-- the module after some edits, one after another
abbrev pub all_edited : List Edit → Module → Module
all_edited [] m = m
all_edited (e ∷ es) m = all_edited es (edited e m)

-- an edit with ids of a context
abbrev pub NumberedEdit : Type 0
NumberedEdit = EditOf ℕ ℕ ℕ

-- the meaning of an edit with ids
abbrev pub edit_meaning : ContextModel → NumberedEdit → Edit
edit_meaning c (Insert place o) = Insert place (meaning c o)
edit_meaning c (Make place o) = Make place (meaning c o)
edit_meaning c (Erase x) = Erase x
edit_meaning c (Move x place) = Move x place
edit_meaning c (SetOperand x k v) = SetOperand x k v
edit_meaning c (Replace old new) = Replace old new
edit_meaning c (SetAttr x k a) = SetAttr x (name_term c k) (attr_term c a)
edit_meaning c (DropAttr x k) = DropAttr x (name_term c k)

-- the ids of an edit are of a context; an inserted operation has the next free ids, in pre-order; a header has empty
-- blocks
abbrev pub EditIsOf : ContextModel → Numbered → NumberedEdit → Type 0
EditIsOf c m (Insert place o) = IsSoundIn c o × IsNumberedFrom m.next o
EditIsOf c m (Make place o) = IsSoundIn c o × (hold_none (regions o) ≡ true)
EditIsOf c m (Erase x) = Unit {0}
EditIsOf c m (Move x place) = Unit {0}
EditIsOf c m (SetOperand x k v) = Unit {0}
EditIsOf c m (Replace old new) = Unit {0}
EditIsOf c m (SetAttr x k a) = IsName c k × IsAttr c a
EditIsOf c m (DropAttr x k) = IsName c k

-- an edit of one event
abbrev pub IsElementary : NumberedEdit → Type 0
IsElementary (Insert place o) = ⊥
IsElementary (Make place o) = Unit {0}
IsElementary (Erase x) = ⊥
IsElementary (Move x place) = Unit {0}
IsElementary (SetOperand x k v) = Unit {0}
IsElementary (Replace old new) = ⊥
IsElementary (SetAttr x k a) = Unit {0}
IsElementary (DropAttr x k) = Unit {0}
