-- What is read as a token is the longest of its kind.
use Rattle.std.proofs.Common.{◌≡◌, ℕ, ◌+◌, List, [], ◌∷◌, take, drop, refl, ap, sym, subst, ◌∙◌}
use Rattle.std.proofs.lemmas.List.{take_at, drop_at}
use Rattle.vdm_kinds.specs.declared.spec_kind.SpecKind.TheVariants.{LexFault}
use Rattle.vdm_lexer.specs.declared.front.Front.TheVariants.{Token, Fault}
use Rattle.vdm_lexer.specs.declared.lexeme.LexKind.{LexKind}
use Rattle.vdm_lexer.specs.Fronts.{front_of}
use Rattle.vdm_lexer.specs.Pieces.{begins, is_text}
use Rattle.vdm_lexer.specs.Signs.{longest}
use Rattle.vdm_lexer.specs.Written.{kind_in}
use Rattle.lexeme_laws.specs.Tokens.{IsToken}
use Rattle.lexeme_laws.proofs.Found.{Holds, HasToken, front-holds}

nothing-empty : front_of [] ≡ Fault LexFault 0
unfolding begins longest kind_in is_text
nothing-empty = refl

token-of : (text : List ℕ) (kind : LexKind) (more : ℕ) → front_of text ≡ Token kind more → HasToken text kind more
token-of [] kind more e = let wrong : Fault LexFault 0 ≡ Token kind more = sym nothing-empty ∙ e in absurd (cc)
token-of (c ∷ cs) kind more e = subst (Holds (c ∷ cs)) e (front-holds c cs)

pub token-is : (text : List ℕ) (kind : LexKind) (more : ℕ) → front_of text ≡ Token kind more → IsToken kind (take (more + 1) text) (drop (more + 1) text)
token-is text kind more e =
    let has = token-of text kind more e in
    let piece : take (more + 1) text ≡ has.piece = ap (take (more + 1)) has.is ∙ take_at has.piece has.rest (more + 1) has.long in
    let rest : drop (more + 1) text ≡ has.rest = ap (drop (more + 1)) has.is ∙ drop_at has.piece has.rest (more + 1) has.long in
    subst (λ (p : List ℕ). IsToken kind p (drop (more + 1) text)) (sym piece) (subst (IsToken kind has.piece) (sym rest) has.stands)
