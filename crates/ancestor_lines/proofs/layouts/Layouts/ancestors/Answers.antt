use Rattle.std.proofs.Common.{ap, ◌∙◌, length, List, Vec, Global}
use Rattle.vdm_kinds.specs.declared.name.Name.{Name}
use Rattle.class_meaning.specs.Classes.{class_graph}
use Rattle.class_meaning.specs.Ancestors.{ancestor_names}
use Rattle.ancestor_lines.specs.Parts.{lists_of, list_at}
use Rattle.ancestor_lines.proofs.Standing.{at_class}
use Rattle.ancestor_lines.proofs.layouts.Layouts.ancestors.Goals as goal

pub returns : goal.returns
returns c = λ spec is l.
    at_class (ancestor_names spec) (length (class_graph spec)) c.args.k (lists_of c.args.self.now.names.items) c.names_at.result.now is.ancestors l
    (c.names_at.ensures ∙ ap (λ (ls : List (Vec Name Global)). list_at (lists_of ls) c.args.k) c.deref.ensures.value)
