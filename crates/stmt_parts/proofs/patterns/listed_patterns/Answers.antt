use Rattle.std.proofs.Common.{◌+◌, ap, sym, subst, ◌∙◌}
use Rattle.grammar_words.specs.declared.word.Word.TheVariants.{Comma}
use Rattle.expr_tree.specs.View.{pattern_views}
use Rattle.leaf_reader.specs.Reads.{Reads}
use Rattle.stmt_reading.specs.Leaves.{pattern_in}
use Rattle.stmt_parts.specs.Lists.{one_added, patterns_listed}
use Rattle.stmt_parts.proofs.Lists.{list-begun}
use Rattle.stmt_parts.proofs.patterns.listed_patterns.Goals as goal

pub returns : goal.returns
returns c =
    subst (λ read. Reads c.further_patterns.result patterns_listed read c.further_patterns.new.source)
    (list-begun Comma pattern_in (pattern_views c.push_pattern.new.patterns.items) c.args.source.now c.push_pattern.new.source (c.len-turns.result + 1) (ap (λ n. n + 1) c.len-turns.ensures.length) (ap (λ items. one_added (pattern_views items) (pattern_in c.args.source.now)) (sym c.new-patterns.ensures.items) ∙ c.in_ok-push_pattern.ensures.given)) c.further_patterns.ensures
