use Rattle.std.proofs.Common.{◌+◌, ◌<◌, length, drop, ap, sym, ◌∙◌, rules}
use Rattle.abstract_syntax.specs.Expressions.{one_expr}
use Rattle.node_meaning.specs.Matching.{exprs_of}
use Rattle.eval_data.specs.Parts.{boxed_list}
use Rattle.value_steps.proofs.FirstBracket.{first_bracket}
use Rattle.value_steps.proofs.parts.next_bracket.Goals as goal

pub returns : goal.returns
returns c =
    let there : c.args.from < length c.args.found.items = search rules in
    first_bracket c.args.found.items c.args.from c.index-tree.result.now there c.index-tree.ensures
    ∙ ap (λ t. one_expr t (exprs_of (drop (c.args.from + 1) (boxed_list c.args.found.items)))) (sym c.boxed.ensures)
