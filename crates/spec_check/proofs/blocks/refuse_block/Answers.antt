use Rattle.std.proofs.Common.{List, map, ap, sym, ◌∙◌}
use Rattle.std.specs.List.{flat_map}
use Rattle.abstract_syntax.specs.Classes.{ValueDefTree}
use Rattle.vdm_tree.specs.ClassView.{block_view, value_def_view}
use Rattle.vdm_tree.specs.declared.class_def.Block.{Block}
use Rattle.vdm_tree.specs.declared.class_def.ValueDef.{ValueDef}
use Rattle.spec_checks.specs.Definitions.{block_faults, value_faults}
use Rattle.sync_checks.specs.Below.check_scopes.specs.Told.{first_in}
use Rattle.sync_checks.specs.Below.definition_scopes.specs.Standing.{spec_at}
use Rattle.spec_check.proofs.Noted.{on_same}
use Rattle.spec_check.proofs.blocks.refuse_block.Goals as goal

pub returns-in-Values : goal.returns-in-Values
returns-in-Values c =
    let spec = spec_at c.args.site in
    let class = c.args.site.class in
    on_same c.refuse_values.result (first_in c.args.refusals.now) (first_in c.refuse_values.new.refusals)
    (flat_map (λ (v : ValueDefTree). value_faults spec class v.declared v.value) (map value_def_view c.as_slice-in-Values.result.now))
    (block_faults spec class (block_view c.args.block.now))
    (ap (λ (ds : List ValueDef). flat_map (λ (v : ValueDefTree). value_faults spec class v.declared v.value) (map value_def_view ds)) c.as_slice-in-Values.ensures.value
    ∙ ap (λ (b : Block). block_faults spec class (block_view b)) (sym c.in-Values.is))
    c.refuse_values.ensures
