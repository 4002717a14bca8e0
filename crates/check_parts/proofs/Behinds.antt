-- What follows from the form of a part, by what comes next.
use Rattle.std.specs.Prelude.{◌≡◌}
use Rattle.std.proofs.Common.{refl}
use Rattle.vdm_kinds.specs.declared.name.Name.{Name}
use Rattle.vdm_kinds.specs.declared.place.Place.{Place}
use Rattle.form_meaning.specs.Forms.{FormTree}
use Rattle.class_checks.specs.Callees.{selected_callee, selected_of_class}
use Rattle.class_checks.specs.Scopes.{ScopeTree}
use Rattle.check_series.specs.Below.check_scopes.specs.Told.{spec_in}
use Rattle.check_series.specs.Below.check_scopes.specs.declared.setting.Setting.{Setting}
use Rattle.check_series.specs.Below.check_frames.specs.Meant.{arguments_of, called_with, target_check, target_of_class_check, use_of}
use Rattle.check_series.specs.Below.check_frames.specs.declared.way.Way.{Way}

module _ (setting : Setting) (scope : ScopeTree) where
  pub target_begun : (target_place : Place) (name : Name) (name_place : Place) (way : Way) (form : FormTree)
      → target_check setting scope target_place name name_place way form
      ≡ called_with setting scope (arguments_of setting way) (selected_callee (spec_in setting) scope (use_of setting way) target_place name name_place form)
  unfolding target_check
  target_begun target_place name name_place way form = refl

  pub target_of_class_begun : (target_place : Place) (class : Name) (class_place : Place) (name : Name) (name_place : Place) (way : Way) (form : FormTree)
      → target_of_class_check setting scope target_place class class_place name name_place way form
      ≡ called_with setting scope (arguments_of setting way)
      (selected_of_class (spec_in setting) scope (use_of setting way) target_place class class_place name name_place form)
  unfolding target_of_class_check
  target_of_class_begun target_place class class_place name name_place way form = refl
