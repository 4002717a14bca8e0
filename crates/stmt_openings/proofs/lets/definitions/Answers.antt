use Rattle.std.proofs.Common.{◌+◌, ap, sym, subst, ◌∙◌}
use Rattle.grammar_words.specs.declared.word.Word.TheVariants.{Comma}
use Rattle.expr_tree.specs.View.{pattern_view}
use Rattle.stmt_reading.specs.Leaves.{further, turns_for}
use Rattle.stmt_reading.specs.Statements.{defined_in, definition_in}
use Rattle.leaf_reader.specs.Reads.{Reads}
use Rattle.stmt_parts.specs.Lists.{added, definition_rows, definitions_view, one_added}
use Rattle.stmt_parts.proofs.Lists.{behind-first}
use Rattle.stmt_openings.proofs.lets.definitions.Goals as goal

pub returns : goal.returns
returns c =
    let first =
    ap (λ items. one_added (definition_rows items) (defined_in (pattern_view c.args.pattern.value) c.args.source.now)) (sym c.new-definitions.ensures.items)
    ∙ c.in_ok-push_defined.ensures.given in
    subst (λ read. Reads c.further_definitions.result definitions_view read c.further_definitions.new.source)
    (behind-first (λ rest. further Comma definition_in (turns_for rest) rest) (definition_rows c.push_defined.new.definitions.items) c.push_defined.new.source
    (defined_in (pattern_view c.args.pattern.value) c.args.source.now) first)
    (subst (λ turns. Reads c.further_definitions.result definitions_view (added (definition_rows c.push_defined.new.definitions.items) (further Comma definition_in turns c.push_defined.new.source)) c.further_definitions.new.source)
    (ap (λ n. n + 1) c.len-turns.ensures.length) c.further_definitions.ensures)
