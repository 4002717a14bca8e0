use Rattle.std.proofs.Common.{ap, ◌∙◌, length, List, Vec, Global}
use Rattle.vdm_kinds.specs.declared.name.Name.{Name}
use Rattle.class_meaning.specs.Classes.{class_graph}
use Rattle.class_meaning.specs.Objects.{operation_names}
use Rattle.ancestor_lines.specs.Parts.{lists_of, list_at}
use Rattle.ancestor_lines.proofs.Standing.{at_class}
use Rattle.ancestor_lines.proofs.layouts.Layouts.operation_names.Goals as goal

pub returns : goal.returns
returns c = λ spec is l.
    at_class (operation_names spec) (length (class_graph spec)) c.args.k (lists_of c.args.self.now.operations.items) c.names_at.result.now is.operations l
    (c.names_at.ensures ∙ ap (λ (ls : List (Vec Name Global)). list_at (lists_of ls) c.args.k) c.deref.ensures.value)
