use Rattle.std.proofs.Common.{◌≡◌, drop}
use Rattle.check_scopes.specs.Told.{spec_in}
use Rattle.class_checks.specs.TypeNames.{descends}
use Rattle.class_meaning.specs.Classes.{class_names}
use Rattle.form_meaning.specs.Meeting.{some_meet}
use Rattle.type_forms.specs.Tree.{alt_trees}
use Rattle.check_operators.specs.Kinds.{alts_of_kind}
use Rattle.check_operators.proofs.kind.some_like.Given as goal

abbrev pub invariant-loop-alternative : goal.invariant-loop-alternative
invariant-loop-alternative l =
    some_meet (descends (spec_in l.setting)) (class_names (spec_in l.setting)) (alt_trees (drop l.alternative-index l.alternatives)) (alts_of_kind l.kind)
    ≡ some_meet (descends (spec_in l.setting)) (class_names (spec_in l.setting)) (alt_trees l.alternatives) (alts_of_kind l.kind)
