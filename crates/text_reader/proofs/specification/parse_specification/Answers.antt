use Rattle.std.proofs.Common.{◌≡◌, List, Ok, subst, sym}
use Rattle.vdm_kinds.specs.declared.part.Part.TheVariants.{Spec}
use Rattle.vdm_lexer.specs.declared.lexeme.Lexeme.{Lexeme}
use Rattle.vdm_lexer.specs.Lexemes.{lexemes}
use Rattle.text_reader.proofs.Few.{names_few}
use Rattle.text_reader.proofs.specification.parse_specification.Goals as goal

pub returns-clause-room : goal.returns-clause-room
returns-clause-room c =
    names_few Spec c.args.text.now c.deref.result.now c.args.names.now c.spec_of_tokens.new.names c.spec_of_tokens.result
    (subst (λ (found : List Lexeme). lexemes Spec c.args.text.now ≡ Ok found) (sym c.deref.ensures.value) c.in_ok-found.ensures.lexemes)
    c.requires c.spec_of_tokens.ensures.names
