-- Ordered uses with some removed, and with some added.
use Rattle.std.specs.Prelude.{List, [], ◌∷◌, if◌then◌else◌}
use Rattle.std.specs.Ordering.{is_eq}
use Rattle.listeners.specs.declared.key.Use.{Use}
use Rattle.listeners.specs.Uses.{use_cmp, put_use}

-- without the first use equal to u
abbrev pub drop_use : Use → List Use → List Use
drop_use u [] = []
drop_use u (v ∷ vs) = if is_eq (use_cmp u v) then vs else v ∷ drop_use u vs

-- without each use of a list
abbrev pub drop_all : List Use → List Use → List Use
drop_all [] vs = vs
drop_all (u ∷ us) vs = drop_all us (drop_use u vs)

-- with each use of a list
abbrev pub insert_entries : List Use → List Use → List Use
insert_entries [] vs = vs
insert_entries (u ∷ us) vs = insert_entries us (put_use u vs)
