use Rattle.std.proofs.Common.{ap, sym, ◌∙◌}
use Rattle.table_faults.specs.Firsts.{with_member}
use Rattle.table_faults.specs.Known.{known_of}
use Rattle.table_faults.proofs.seen.Seen.note.Goals as goal

pub returns-in_ok-add_plain-in-Plain-clause-noted : goal.returns-in_ok-add_plain-in-Plain-clause-noted
returns-in_ok-add_plain-in-Plain-clause-noted c =
    c.in_ok-add_plain-in-Plain.ensures ∙ ap (with_member (known_of c.args.self.now) c.args.name) (sym c.in-Plain.is)

pub returns-in_ok-add_function-in-Function-clause-noted : goal.returns-in_ok-add_function-in-Function-clause-noted
returns-in_ok-add_function-in-Function-clause-noted c =
    c.in_ok-add_function-in-Function.ensures ∙ ap (with_member (known_of c.args.self.now) c.args.name) (sym c.in-Function.is)

pub returns-in_ok-add_operation-in-Operation-clause-noted : goal.returns-in_ok-add_operation-in-Operation-clause-noted
returns-in_ok-add_operation-in-Operation-clause-noted c =
    c.in_ok-add_operation-in-Operation.ensures ∙ ap (with_member (known_of c.args.self.now) c.args.name) (sym c.in-Operation.is)
