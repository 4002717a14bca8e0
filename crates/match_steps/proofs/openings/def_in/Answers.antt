use Rattle.std.proofs.Common.{◌≡◌, ℕ, length, None, ap, ◌∙◌, rules}
use Rattle.abstract_syntax.specs.Expressions.{no_defined, one_defined}
use Rattle.expr_tree.specs.View.{boxed_view, pattern_view}
use Rattle.node_meaning.specs.Expressions.{defined}
use Rattle.eval_data.specs.Parts.{here_of}
use Rattle.match_steps.proofs.openings.def_in.Goals as goal

pub returns : goal.returns
returns c = λ setting.
    let count : c.len.result ≡ length c.args.locals.now.items = search rules in
    c.only_defined.ensures setting c.args.locals.now.items
    ∙ ap (λ (n : ℕ). defined setting.spec (here_of c.args.here) c.args.place n (one_defined (pattern_view c.args.pattern.now.value) None (boxed_view c.args.value.now) no_defined) (boxed_view c.args.body.now) c.args.locals.now.items) count
