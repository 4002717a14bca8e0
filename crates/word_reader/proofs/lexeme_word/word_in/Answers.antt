use Rattle.std.proofs.Common.{sym, rules}
use Rattle.std.proofs.lemmas.List.Sorted.{answers_always}
use Rattle.word_reader.proofs.Rows.{rise-from_test, present, parted-absent}
use Rattle.word_reader.proofs.lexeme_word.word_in.Goals as goal

pub returns-in-Ok : goal.returns-in-Ok
returns-in-Ok c =
    let rise = rise-from_test (λ row. row.0.now) (λ row. row.1) c.args.rows.now c.requires in
    let at = c.in-Ok.ensures.position (λ row. row.0) (answers_always _ _ _ (λ f a r g called. search rules)) in
    sym (present (λ row. row.0.now) (λ row. row.1) c.args.text.now c.args.rows.now c.in-Ok.i _ rise c.in-Ok.ensures.bound (at _))

pub returns-in-Err : goal.returns-in-Err
returns-in-Err c =
    let rise = rise-from_test (λ row. row.0.now) (λ row. row.1) c.args.rows.now c.requires in
    let parted = c.in-Err.ensures.position (λ row. row.0) (answers_always _ _ _ (λ f a r g called. search rules)) in
    sym (parted-absent (λ row. row.0.now) (λ row. row.1) c.args.text.now c.args.rows.now _ rise c.in-Err.ensures.bound parted)
