-- The tokens of words, one after another.
use Rattle.std.proofs.Common.{◌≡◌, ℕ, zero, suc, ◌+◌, ◌≤◌, ◌<◌, List, [], ◌∷◌, ◌++◌, length, get_or, drop, Option, Some, None, append_assoc, refl, ap, sym, subst, ◌∙◌, arith}
use Rattle.std.proofs.lemmas.List.{drop_more, map-append}
use Rattle.vdm_kinds.specs.NameList.{with_names}
use Rattle.vdm_lexer.specs.declared.lexeme.Lexeme.{Lexeme}
use Rattle.grammar_words.specs.Tokens.{Token as PureToken, width}
use Rattle.grammar_words.specs.declared.word.PlacedWord.{PlacedWord}
use Rattle.grammar_tokens.specs.declared.token.Token.{Token}
use Rattle.grammar_tokens.specs.View.{token_view, token_views}
use Rattle.token_reader.specs.Read.{AreReadable, KeepsNames, first_kind, first_name, first_slice, named_texts, names_behind, text_before, token_of, tokens_from, with_text}
use Rattle.token_reader.proofs.Naming.{KeepsNames-twice}

pub readable-behind : (text : List ℕ) (lexemes : List Lexeme) (n : ℕ) → AreReadable text lexemes → AreReadable text (drop n lexemes)
readable-behind text lexemes zero h = h
readable-behind text [] (suc n) h = tt
readable-behind text (lexeme ∷ lexemes) (suc n) h = readable-behind text lexemes n h.1

names-before : (names pieces : List (List ℕ)) (piece : Option (List ℕ)) → with_names names (text_before piece pieces) ≡ with_names (with_text names piece) pieces
names-before names pieces None = refl
names-before names pieces (Some piece) = refl

-- one token more
module _ (all : List PureToken) (behind old names next : List (List ℕ)) (text : List ℕ) (found more : List Token) (rest left : List Lexeme) (words : List PlacedWord) (i n : ℕ) (word : PlacedWord) (token : Token) where
  pub read-to : i < length words → word ≡ get_or words i word
      → all ≡ token_views found ++ tokens_from names text rest (drop i words) → behind ≡ names_behind names text rest (drop i words) → KeepsNames old names → length names ≤ length old + i → AreReadable text rest
      → token_view token ≡ token_of names (first_kind rest) word.word (first_slice text rest) word.place
      → next ≡ with_text names (first_name text rest word)
      → KeepsNames names next → length next ≤ length names + 1
      → more ≡ found ++ token ∷ []
      → n ≡ width word.word → left ≡ drop n rest
      → record {
        tokens : all ≡ token_views more ++ tokens_from next text left (drop (i + 1) words);
        names : behind ≡ names_behind next text left (drop (i + 1) words);
        kept : KeepsNames old next;
        room : length next ≤ length old + (i + 1);
        readable : AreReadable text left;
      }
  read-to short item was named kept room readable is gives keeps one pushed wide cut =
      let split : drop i words ≡ word ∷ drop (i + 1) words = drop_more words i word short ∙ ap (λ (w : PlacedWord). w ∷ drop (i + 1) words) (sym item) in
      let gone : left ≡ drop (width word.word) rest = cut ∙ ap (λ (m : ℕ). drop m rest) wide in
      record {
        tokens =
            was
            ∙ ap (λ (ws : List PlacedWord). token_views found ++ tokens_from names text rest ws) split
            ∙ ap (λ (ls : List Lexeme). token_views found ++ token_of names (first_kind rest) word.word (first_slice text rest) word.place ∷ tokens_from (with_text names (first_name text rest word)) text ls (drop (i + 1) words)) (sym gone)
            ∙ ap (λ (ns : List (List ℕ)). token_views found ++ token_of names (first_kind rest) word.word (first_slice text rest) word.place ∷ tokens_from ns text left (drop (i + 1) words)) (sym gives)
            ∙ ap (λ (t : PureToken). token_views found ++ t ∷ tokens_from next text left (drop (i + 1) words)) (sym is)
            ∙ sym (append_assoc (token_views found) (token_view token ∷ []) (tokens_from next text left (drop (i + 1) words)))
            ∙ ap (λ (ts : List PureToken). ts ++ tokens_from next text left (drop (i + 1) words)) (sym (map-append token_view found (token ∷ [])))
            ∙ ap (λ (ts : List Token). token_views ts ++ tokens_from next text left (drop (i + 1) words)) (sym pushed);
        names =
            named
            ∙ ap (λ (ws : List PlacedWord). names_behind names text rest ws) split
            ∙ names-before names (named_texts text (drop (width word.word) rest) (drop (i + 1) words)) (first_name text rest word)
            ∙ ap (λ (ls : List Lexeme). with_names (with_text names (first_name text rest word)) (named_texts text ls (drop (i + 1) words))) (sym gone)
            ∙ ap (λ (ns : List (List ℕ)). with_names ns (named_texts text left (drop (i + 1) words))) (sym gives);
        kept = KeepsNames-twice old names next kept keeps;
        room = omega arith;
        readable = subst (AreReadable text) (sym cut) (readable-behind text rest n readable);
      }
