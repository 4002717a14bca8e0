use Rattle.std.proofs.Common.{◌∙◌, slice_get, sym, ap, subst}
use Rattle.class_index.specs.Answers.{IsAnswer}
use Rattle.found_members.specs.Rows.{own_answer}
use Rattle.found_members.proofs.Placing.{answer_right}
use Rattle.found_members.proofs.found_names.FoundNames.own.Goals as goal

pub returns : goal.returns
returns c = λ spec class names at.
    let own = c.args.self.now.own.items in
    subst (IsAnswer class c.args.ask) (sym (c.own_answer.ensures ∙ ap (λ xs. own_answer xs c.args.ask c.args.k) c.deref.ensures.value))
    (answer_right (slice_get own c.args.k) class c.args.ask (names.own c.args.k class at))
