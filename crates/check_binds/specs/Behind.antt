-- What comes behind a pattern, as data, once the form of what it is matched with is known.
use Rattle.std.specs.Prelude.{Option}
use Rattle.vdm_kinds.specs.declared.place.Place.{Place}
use Rattle.abstract_syntax.specs.Types.{TypeTree}
use Rattle.abstract_syntax.specs.Expressions.{PatternTree}
use Rattle.form_meaning.specs.Forms.{FormTree}
use Rattle.class_checks.specs.Expressions.{defined_form, definition_faults}
use Rattle.class_checks.specs.Patterns.{binds}
use Rattle.class_checks.specs.Results.{Checked, refusing}
use Rattle.class_checks.specs.Scopes.{ScopeTree, inside, type_scope}
use Rattle.check_steps.specs.Below.check_scopes.specs.Told.{spec_in}
use Rattle.check_steps.specs.Below.check_scopes.specs.declared.setting.Setting.{Setting}
use Rattle.check_steps.specs.Below.check_patterns.specs.Givens.{given_in, givens_list}
use Rattle.check_steps.specs.Below.check_frames.specs.Meant.{goal_check}
use Rattle.check_steps.specs.Below.check_frames.specs.declared.after.Goal.{Goal}

module _ (setting : Setting) (scope : ScopeTree) where
  -- the expressions in brackets in the pattern; then the rest, inside what it binds
  unfoldable pub pattern_then : PatternTree → FormTree → Goal → Checked
  pattern_then pattern form rest =
      givens_list (spec_in setting) scope (given_in pattern)
      (goal_check setting (inside scope (binds (spec_in setting) (type_scope scope) form pattern)) rest)

  -- the value at `place` of a definition has this form
  abbrev pub defined_then : PatternTree → Option TypeTree → Place → FormTree → Goal → Checked
  defined_then pattern declared place form rest =
      refusing (definition_faults (spec_in setting) scope pattern declared place form)
      (pattern_then pattern (defined_form (spec_in setting) scope declared form) rest)
