use Rattle.std.proofs.Common.{◌≡◌, ◌++◌, Option, unwrap_or, ap, sym, ◌∙◌}
use Rattle.grammar_words.specs.declared.word.Word.{Word}
use Rattle.grammar_words.specs.declared.word.Word.TheVariants.{TextEnd}
use Rattle.word_reader.specs.Written.{early_words, late_words, word_in}
use Rattle.word_reader.proofs.Rows.{word-first, word-second}
use Rattle.word_reader.proofs.lexeme_word.reserved_word.Goals as goal

pub returns-in-Some : goal.returns-in-Some
returns-in-Some c = sym (ap (λ (found : Option Word). unwrap_or found TextEnd) (word-first c.args.piece.now early_words late_words c.in-Some.word (sym c.in-Some.ensures)))

pub returns-in-None : goal.returns-in-None
returns-in-None c =
    let found : c.word_in-in-None.result ≡ word_in c.args.piece.now (early_words ++ late_words) = c.word_in-in-None.ensures ∙ sym (word-second c.args.piece.now early_words late_words (sym c.in-None.ensures)) in
    c.unwrap_or.ensures ∙ ap (λ (found : Option Word). unwrap_or found TextEnd) found
