use Rattle.std.proofs.Common.{◌<◌, List, length, subst, sym}
use Rattle.vdm_kinds.specs.declared.part.Part.TheVariants.{Expr}
use Rattle.vdm_lexer.specs.declared.lexeme.Lexeme.{Lexeme}
use Rattle.text_reader.proofs.Few.{lexemes_some}
use Rattle.text_reader.proofs.expression.parse_expression.Goals as goal

pub expr_of_tokens-requires-clause-at : goal.expr_of_tokens-requires-clause-at
expr_of_tokens-requires-clause-at c =
    subst (λ (found : List Lexeme). 0 < length found) (sym c.deref.ensures.value)
    (lexemes_some Expr c.args.text.now c.in_ok-found.found.items c.in_ok-found.ensures.lexemes)
