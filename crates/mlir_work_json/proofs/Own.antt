-- Lines that are JSON objects.
use Rattle.std.proofs.Common.{◌≡◌, ◌∙◌, ap, sym, refl, ℕ, List, Bool, true, false, ◌&&◌, Option, Some, None, if◌then◌else◌}
use Rattle.std.specs.Str.{is_utf8}
use Rattle.serde_json.specs.Data.{Data, null, boolean, number, string, array, object}
use Rattle.serde_json.specs.Read.{read}
use Rattle.serde_json.specs.Written.{compact_text}
use Rattle.mlir_work_json.specs.Lines.{begins_object, json_line, line_data, members_data, object_only, own_object, own_or_compact, own_or_members}

only_is : (o : Option Data) (d : Data) → object_only o ≡ Some d → o ≡ Some d
only_is None d e = absurd (let f : None ≡ Some d = e in cc)
only_is (Some null) d e = absurd (let f : None ≡ Some d = e in cc)
only_is (Some (boolean b)) d e = absurd (let f : None ≡ Some d = e in cc)
only_is (Some (number n)) d e = absurd (let f : None ≡ Some d = e in cc)
only_is (Some (string s)) d e = absurd (let f : None ≡ Some d = e in cc)
only_is (Some (array ds)) d e = absurd (let f : None ≡ Some d = e in cc)
only_is (Some (object ms)) d e = e

own_if : (b : Bool) (o : Option Data) (d : Data) → (if b then object_only o else None) ≡ Some d → o ≡ Some d
own_if true o d e = only_is o d e
own_if false o d e = absurd (let f : None ≡ Some d = e in cc)

own_is : (line : List ℕ) (d : Data) → own_object line ≡ Some d → read line ≡ Some d
unfolding own_object
own_is line d e = own_if (begins_object line && is_utf8 line) (read line) d e

-- a line that is an object stays the same
pub own_json : (line : List ℕ) (d : Data) → own_object line ≡ Some d → line ≡ json_line line
own_json line d e = sym (ap (λ o. own_or_compact o line) e)

pub own_reads : (line : List ℕ) (d : Data) → own_object line ≡ Some d → read line ≡ Some (line_data line)
own_reads line d e = own_is line d e ∙ ap Some (sym (ap (λ o. own_or_members o line) e))

-- any other line is the object of its members
pub other_json : (line : List ℕ) → own_object line ≡ None → compact_text (members_data line) ≡ json_line line
other_json line e = sym (ap (λ o. own_or_compact o line) e)

pub other_data : (line : List ℕ) → own_object line ≡ None → members_data line ≡ line_data line
other_data line e = sym (ap (λ o. own_or_members o line) e)
