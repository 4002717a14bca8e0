-- Tokens that begin as written, and what stands behind them.
use Rattle.std.proofs.Common.{◌≡◌, List, [], ◌∷◌, ◌++◌, Bool, true, false, refl, ap, sym, subst}
use Rattle.vdm_kinds.specs.declared.place.Place.{Place}
use Rattle.grammar_words.specs.declared.word.Word.{Word}
use Rattle.grammar_words.specs.declared.word.Word.TheVariants.{Backquote}
use Rattle.grammar_words.specs.Tokens.{Token, plain}
use Rattle.grammar_words.specs.Written.{Written, IsToken, AreTokens, at, word}

abbrev pub Front : List Token → List Written → List Token → Type 0
Front tokens [] rest = tokens ≡ rest
Front (token ∷ tokens) (w ∷ ws) rest = IsToken token w × Front tokens ws rest
Front [] (w ∷ ws) rest = ⊥

pub front-all : (tokens : List Token) (ws : List Written) → AreTokens tokens ws → Front tokens ws []
front-all [] [] h = refl
front-all (token ∷ tokens) (w ∷ ws) h = (h.0, front-all tokens ws h.1)
front-all [] (w ∷ ws) h = absurd h
front-all (token ∷ tokens) [] h = absurd h

pub split : (tokens : List Token) (a b : List Written) (rest : List Token) → Front tokens (a ++ b) rest → (mid : List Token) × Front tokens a mid × Front mid b rest
split tokens [] b rest f = (tokens, refl, f)
split (token ∷ tokens) (w ∷ a) b rest f = let others = split tokens a b rest f.1 in (others.0, (f.0, others.1), others.2)
split [] (w ∷ a) b rest f = absurd f

-- a token at its place, and a word, before the others
pub take_at : (tokens : List Token) (kept : Token) (ws : List Written) (rest : List Token) → Front tokens (at kept ∷ ws) rest → (others : List Token) × (tokens ≡ kept ∷ others) × Front others ws rest
take_at (token ∷ tokens) kept ws rest f = (tokens, ap (λ (t : Token). t ∷ tokens) f.0, f.1)
take_at [] kept ws rest f = absurd f

pub take_word : (tokens : List Token) (w : Word) (ws : List Written) (rest : List Token) → Front tokens (word w ∷ ws) rest → (place : Place) × (others : List Token) × (tokens ≡ plain w place ∷ others) × Front others ws rest
take_word (token ∷ tokens) w ws rest f = (f.0.0, tokens, ap (λ (t : Token). t ∷ tokens) f.0.1, f.1)
take_word [] w ws rest f = absurd f

abbrev pub is_backquote : Token → Bool
is_backquote (plain Backquote _) = true
is_backquote _ = false

-- no backquote comes next
abbrev pub NoBackquote : List Token → Type 0
NoBackquote [] = Unit {0}
NoBackquote (token ∷ tokens) = is_backquote token ≡ false

pub no_backquote : (tokens others : List Token) (token : Token) → tokens ≡ token ∷ others → is_backquote token ≡ false → NoBackquote tokens
no_backquote tokens others token e h = subst NoBackquote (sym e) h
