use Rattle.std.proofs.Common.{map, ap, ◌∙◌}
use Rattle.vdm_tree.specs.StmtView.{target_step_view}
use Rattle.leaf_reader.proofs.Turned.{map-reverse}
use Rattle.stmt_parts.specs.Targets.{begun_in}
use Rattle.stmt_parts.proofs.targets.rooted.Goals as goal

pub returns : goal.returns
returns c =
    c.begun_in.ensures ∙ ap (begun_in c.args.root) (ap (map target_step_view) c.reverse.ensures.items ∙ map-reverse target_step_view c.args.steps.items)
