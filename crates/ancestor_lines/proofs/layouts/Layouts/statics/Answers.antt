use Rattle.std.proofs.Common.{ap, ◌∙◌, length, List, Vec, Global}
use Rattle.vdm_kinds.specs.declared.member.VarRef.{VarRef}
use Rattle.class_meaning.specs.Classes.{class_graph}
use Rattle.class_meaning.specs.Objects.{statics}
use Rattle.ancestor_lines.specs.Parts.{lists_of, list_at}
use Rattle.ancestor_lines.proofs.Standing.{at_class}
use Rattle.ancestor_lines.proofs.layouts.Layouts.statics.Goals as goal

pub returns : goal.returns
returns c = λ spec is l.
    at_class (statics spec) (length (class_graph spec)) c.args.k (lists_of c.args.self.now.statics.items) c.variables_at.result.now is.class_objects l
    (c.variables_at.ensures ∙ ap (λ (ls : List (Vec VarRef Global)). list_at (lists_of ls) c.args.k) c.deref.ensures.value)
