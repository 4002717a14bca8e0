-- The check of each kind of expression, by what comes first of it.
use Rattle.std.specs.Prelude.{◌≡◌}
use Rattle.std.proofs.Common.{refl}
use Rattle.vdm_kinds.specs.declared.name.Name.{Name}
use Rattle.vdm_kinds.specs.declared.place.Place.{Place}
use Rattle.abstract_syntax.specs.Expressions.{ExprTree, select, select_of_class, expr_place}
use Rattle.class_checks.specs.Expressions.{check}
use Rattle.class_checks.specs.Results.{after}
use Rattle.class_checks.specs.Scopes.{ScopeTree}
use Rattle.check_steps.specs.Below.check_scopes.specs.Told.{spec_in}
use Rattle.check_steps.specs.Below.check_scopes.specs.declared.setting.Setting.{Setting}
use Rattle.check_steps.specs.Below.check_frames.specs.Meant.{target_check, target_of_class_check}
use Rattle.check_steps.specs.Below.check_frames.specs.declared.way.Way.TheVariants.{Read}

module _ (setting : Setting) (scope : ScopeTree) where
  pub select_begun : (target : ExprTree) (name : Name) (name_place place : Place)
      → check (spec_in setting) scope (select target name name_place place)
      ≡ after (check (spec_in setting) scope target) (target_check setting scope (expr_place target) name name_place Read)
  unfolding check target_check
  select_begun target name name_place place = refl

  pub select_of_class_begun : (target : ExprTree) (class : Name) (class_place : Place) (name : Name) (name_place place : Place)
      → check (spec_in setting) scope (select_of_class target class class_place name name_place place)
      ≡ after (check (spec_in setting) scope target) (target_of_class_check setting scope (expr_place target) class class_place name name_place Read)
  unfolding check target_of_class_check
  select_of_class_begun target class class_place name name_place place = refl
