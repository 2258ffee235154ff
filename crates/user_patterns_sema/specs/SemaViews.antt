-- The views of the code's state during the analysis.
use Rattle.user_patterns_sema.specs.declared.state.Sema.{Sema as SemaCode}
use Rattle.user_patterns_sema.specs.declared.state.ValueLayout.{ValueLayout as PlacesCode}
use Rattle.user_patterns_sema_base.specs.Views.{named_views, variable_views}
use Rattle.user_patterns_sema.specs.Sema.{Sema, Places}

abbrev pub sema_view : SemaCode → Sema
sema_view f =
    record {
      value_types = f.types.value_types.items;
      named = named_views f.types.named.items;
      old_types = f.old_types.items;
      new_types = f.new_types.items;
      casts = f.casts.items;
      literals = f.literals.items;
      type_constraints = f.type_constraints.items;
      visited = f.visited.items;
      extra = f.extra.items;
      given = f.given.items;
      old = f.pattern_ops.items;
      new = f.builds.items;
    }

abbrev pub places_view : PlacesCode → Places
places_view p = record { variables = variable_views p.variables.items; extra = p.extra; given = p.given; old = p.old_begin; new = p.new_begin }
