use Rattle.std.proofs.Common.{◌+◌, map, ap, sym, subst, ◌∙◌}
use Rattle.grammar_words.specs.declared.word.Word.TheVariants.{Semicolon}
use Rattle.vdm_tree.specs.StmtView.{assignment_view}
use Rattle.leaf_reader.specs.Reads.{Reads}
use Rattle.stmt_reading.specs.Statements.{assignment_in}
use Rattle.stmt_parts.specs.Lists.{one_added, assignments_view}
use Rattle.stmt_parts.proofs.Lists.{list-begun}
use Rattle.stmt_parts.proofs.assignments.assignments.Goals as goal

pub returns : goal.returns
returns c =
    subst (λ read. Reads c.further_assignments.result assignments_view read c.further_assignments.new.source)
    (list-begun Semicolon assignment_in (map assignment_view c.push_assignment.new.assignments.items) c.args.source.now c.push_assignment.new.source (c.len-turns.result + 1) (ap (λ n. n + 1) c.len-turns.ensures.length) (ap (λ items. one_added (map assignment_view items) (assignment_in c.args.source.now)) (sym c.new-assignments.ensures.items) ∙ c.in_ok-push_assignment.ensures.given)) c.further_assignments.ensures
