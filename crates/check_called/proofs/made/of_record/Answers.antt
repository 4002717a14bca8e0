use Rattle.std.proofs.Common.{ap, ◌∙◌}
use Rattle.class_checks.specs.TypeNames.{fields_of}
use Rattle.type_forms.specs.Tree.{form_trees}
use Rattle.check_steps.specs.Below.check_scopes.specs.Told.{spec_in}
use Rattle.check_called.proofs.Making.{wanted}
use Rattle.check_called.proofs.made.of_record.Goals as goal

pub returns : goal.returns
returns c =
    λ i. record {
      wants = (ap form_trees c.in_ok-wants.ensures ∙ wanted (spec_in c.args.here.setting) c.args.class (fields_of (spec_in c.args.here.setting) c.args.class c.args.name)) i;
      gives = c.in_ok-result.ensures i;
    }
