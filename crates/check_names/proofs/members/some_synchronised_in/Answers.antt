use Rattle.std.proofs.Common.{ap, ◌∙◌}
use Rattle.std.specs.List.{list_any}
use Rattle.class_checks.specs.Members.{is_synchronised}
use Rattle.vdm_tree.specs.ClassView.{class_view}
use Rattle.check_names.proofs.members.some_synchronised_in.Goals as goal

pub returns : goal.returns
returns c =
    c.some_synchronised_of.ensures
    ∙ ap (list_any (is_synchronised c.args.name (class_view c.args.class.now))) c.operations_of.ensures
