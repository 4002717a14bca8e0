-- A statement whose front is too deep.
use Rattle.std.proofs.Common.{◌≡◌, ℕ, List, Err, ap, sym, ◌∙◌}
use Rattle.vdm_kinds.specs.declared.spec_fault.SpecFault.{SpecFault}
use Rattle.vdm_lexer.specs.declared.lexeme.Lexeme.{Lexeme}
use Rattle.grammar_fronts.specs.declared.front.Front.{Front}
use Rattle.grammar_words.specs.declared.word.PlacedWord.{PlacedWord}
use Rattle.word_reader.specs.Words.{words_from}
use Rattle.stmt_fronts.specs.Fronts.{front_of_words}
use Rattle.stmt_reading.specs.Statements.{stmt_of}
use Rattle.text_answers.specs.Answers.{answered}
use Rattle.text_fronts.specs.FrontRead.{IsDeep}
use Rattle.text_fronts.proofs.Fronts.{answer-deep}
use Rattle.spec_answers.specs.Answers.{stmt_answer}

pub too-deep : (names : List (List ℕ)) (text : List ℕ) (found : List Lexeme) (at : ℕ) (words : List PlacedWord) (front : Front) (told : SpecFault)
    → words ≡ words_from text found at → front ≡ front_of_words words → IsDeep front told → stmt_answer names text found at ≡ Err told
too-deep names text found at words front told are is deep =
    ap (λ (ws : List PlacedWord). answered stmt_of names text found at ws (front_of_words ws)) (sym are)
    ∙ ap (answered stmt_of names text found at words) (sym is)
    ∙ answer-deep stmt_of front names text found at words told deep
