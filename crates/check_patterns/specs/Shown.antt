-- What of the program is a tree.
use Rattle.std.specs.Prelude.{Bool, true, false, List, [], ◌∷◌, map}
use Rattle.std.specs.declared.alloc.Global.{Global}
use Rattle.std.specs.Prelude.{Vec}
use Rattle.abstract_syntax.specs.Expressions.{PatternTrees, no_patterns, one_pattern}
use Rattle.expr_tree.specs.View.{pattern_view, pattern_views, pattern_trees}
use Rattle.form_meaning.specs.Forms.{FormTree}
use Rattle.shared_names.specs.Maps.{held}
use Rattle.shared_names.specs.declared.shared_map.SharedMap.{SharedMap}
use Rattle.class_checks.specs.Scopes.{LocalForm, ScopeTree}
use Rattle.check_types.specs.Below.check_scopes.specs.Told.{scope_at}
use Rattle.check_types.specs.Below.check_scopes.specs.declared.setting.Setting.{Setting}
use Rattle.check_patterns.specs.declared.local_form.LocalForm.{LocalForm as Local}
use Rattle.check_patterns.specs.declared.one_or_many.Patterns.{Patterns}
use Rattle.check_patterns.specs.declared.one_or_many.Patterns.TheVariants.{One, Many}

abbrev pub patterns_of : Patterns → PatternTrees
patterns_of (One p) = one_pattern (pattern_view p.now.value) no_patterns
patterns_of (Many ps) = pattern_trees (pattern_views ps.now.items)

abbrev pub local_view : Local → LocalForm
local_view local = record { name = local.name; form = local.form }

-- what each of several patterns binds
abbrev pub bindings_in : List (Vec Local Global) → List (List LocalForm)
bindings_in = map (λ (b : Vec Local Global). map local_view b.items)

abbrev pub is_nil : {A : Type 0} → List A → Bool
is_nil [] = true
is_nil (a ∷ others) = false

-- the scopes of these locals
abbrev pub scopes_at : Setting → List (SharedMap FormTree) → List ScopeTree
scopes_at setting = map (λ (locals : SharedMap FormTree). scope_at setting (held locals))
