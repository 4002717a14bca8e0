use Rattle.std.proofs.Common.{List, ap, map}
use Rattle.expr_tree.specs.View.{defined_view}
use Rattle.expr_tree.specs.declared.parts.Defined.{Defined}
use Rattle.check_steps.specs.Below.check_scopes.specs.Told.{first_in, told}
use Rattle.check_steps.specs.Below.check_frames.specs.Meant.{boxed, definitions_behind, scope_here}
use Rattle.check_steps.specs.Below.check_frames.specs.Steps.{told_onward}
use Rattle.check_steps.specs.Firsts.{first_and_rest, none_left}
use Rattle.check_binds.proofs.Behinds.{definitions_begun}
use Rattle.check_binds.proofs.definitions.definitions_behind.Goals as goal

pub returns-in-empty : goal.returns-in-empty
returns-in-empty c =
    ap (λ (ds : List Defined). told (first_in c.args.refusals.now) (definitions_behind c.args.here.setting (scope_here c.args.here) (map defined_view ds) c.args.place (boxed c.args.body) c.args.form)) (none_left c.args.definitions.now c.in-empty.len_below)

pub returns-in-len1-up : goal.returns-in-len1-up
returns-in-len1-up c =
    told_onward c.args.here.setting c.definition_behind.result (first_in c.args.refusals.now) (first_in c.definition_behind.new.refusals) _ _
    (definitions_begun c.args.here.setting (scope_here c.args.here) c.args.definitions.now c.definition-item.result _ c.args.place c.args.body c.args.form
    (first_and_rest c.args.definitions.now c.definition-item.result c.in-len1-up.len_at_least c.definition-item.is))
    c.definition_behind.ensures
