use Rattle.std.proofs.Common.{None, [], ◌∙◌}
use Rattle.class_checks.specs.Callees.{Selection, among_alternatives}
use Rattle.check_fields.specs.Below.check_scopes.specs.Told.{scope_at, spec_in}
use Rattle.type_forms.specs.Tree.{alt_trees}
use Rattle.check_calls.specs.Selecting.{use_view}
use Rattle.check_calls.proofs.Selections.{all_among}
use Rattle.check_calls.proofs.selection.of_alternatives.Goals as goal

pub returns : goal.returns
returns c =
    λ names. let nothing : Selection = record { found = None; refusals = [] } in
    let spec = spec_in c.args.setting in
    let scope = scope_at c.args.setting names in
    let alternatives = alt_trees c.args.alternatives.now in
    c.settled.ensures (among_alternatives spec scope (use_view c.args.way) c.args.named.name c.args.named.place nothing alternatives)
    (all_among spec scope (use_view c.args.way) c.args.named.name c.args.named.place nothing alternatives ∙ c.in_ok-known.ensures names)
