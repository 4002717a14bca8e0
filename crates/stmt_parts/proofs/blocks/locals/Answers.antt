use Rattle.std.proofs.Common.{◌+◌, map, ap, sym, subst, ◌∙◌}
use Rattle.grammar_words.specs.declared.word.Word.TheVariants.{Comma}
use Rattle.vdm_tree.specs.StmtView.{local_view}
use Rattle.leaf_reader.specs.Reads.{Reads}
use Rattle.stmt_reading.specs.Statements.{local_in}
use Rattle.stmt_parts.specs.Lists.{one_added, locals_view}
use Rattle.stmt_parts.proofs.Lists.{list-begun}
use Rattle.stmt_parts.proofs.blocks.locals.Goals as goal

pub returns : goal.returns
returns c =
    subst (λ read. Reads c.further_locals.result locals_view read c.further_locals.new.source)
    (list-begun Comma local_in (map local_view c.push_local.new.locals.items) c.args.source.now c.push_local.new.source (c.len-turns.result + 1) (ap (λ n. n + 1) c.len-turns.ensures.length) (ap (λ items. one_added (map local_view items) (local_in c.args.source.now)) (sym c.new-locals.ensures.items) ∙ c.in_ok-push_local.ensures.given)) c.further_locals.ensures
