use Rattle.std.proofs.Common.{◌≡◌, ◌∙◌, ap, map, List, Vec, Global}
use Rattle.vdm_kinds.specs.declared.member.VarRef.{VarRef}
use Rattle.vdm_kinds.specs.declared.name.Name.{Name}
use Rattle.vdm_tree.specs.ClassView.{class_view}
use Rattle.graph_cycles.specs.Graphs.{graph_of}
use Rattle.class_index.specs.Lists.{spec_of}
use Rattle.class_meaning.specs.Classes.{classes}
use Rattle.ancestor_lines.specs.Parts.{lists_of}
use Rattle.ancestor_lines.proofs.Standing.{lines_are, names_stand, layouts_stand, statics_stand, operations_stand}
use Rattle.ancestor_lines.proofs.layouts.Layouts.of.Goals as goal

pub returns : goal.returns
returns c =
    let spec = spec_of c.args.list.now in
    let lines = graph_of c.args.lines.now in
    let cs = map class_view c.all-classes.result.now in
    let all : cs ≡ classes spec = c.all-classes.ensures in
    let are = lines_are spec lines c.requires.lines c.requires.settled in
    record {
      ancestors = names_stand spec lines are cs all _ c.in_ok-all_names.ensures;
      objects = layouts_stand spec lines are cs all _ _
          (ap (λ (ls : List (Vec VarRef Global)). lists_of ls) c.deref.ensures.value ∙ c.in_ok-variables.ensures) c.in_ok-all_layouts.ensures;
      class_objects = statics_stand spec cs all _ c.in_ok-own_variables.ensures;
      operations = operations_stand spec lines are cs all _ _
          (ap (λ (ls : List (Vec Name Global)). lists_of ls) c.deref-2.ensures.value ∙ c.in_ok-operations.ensures) c.in_ok-all_operations.ensures;
    }
