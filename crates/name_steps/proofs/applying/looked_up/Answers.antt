use Rattle.std.proofs.Common.{◌≡◌, length, ap, sym, ◌∙◌, rules}
use Rattle.expr_tree.specs.View.{boxed_view}
use Rattle.plans.specs.Plans.{part}
use Rattle.node_meaning.specs.Envs.{at}
use Rattle.node_meaning.specs.Tasks.{expr_in, with_value}
use Rattle.eval_data.specs.Parts.{here_of}
use Rattle.name_steps.proofs.Arguments.{looks_up, looks_nothing_up}
use Rattle.name_steps.proofs.applying.looked_up.Goals as goal

pub returns-then-len-ne1 : goal.returns-then-len-ne1
returns-then-len-ne1 c = λ setting locals.
    let count : c.len.result ≡ length c.args.arguments.now.items = search rules in
    looks_nothing_up (here_of c.args.here) (boxed_view c.args.head.now) c.args.place locals c.args.arguments.now.items (λ one. c.if-len-ne1.true (count ∙ one))

pub returns : goal.returns
returns c = λ setting locals.
    let count : c.len.result ≡ length c.args.arguments.now.items = search rules in
    c.boxed_part.ensures setting locals ∙
    ap (λ u. part (expr_in (at (here_of c.args.here) locals) (boxed_view c.args.head.now)) (with_value c.args.place u)) (c.in_ok-used.ensures setting) ∙
    looks_up (here_of c.args.here) (boxed_view c.args.head.now) c.args.place locals c.args.arguments.now.items (sym count ∙ c.if-len-ne1.false)
