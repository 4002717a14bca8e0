-- What is read in front of a text stands there.
use Rattle.std.proofs.Common.{◌≡◌, ℕ, suc, ◌+◌, ◌-◌, ◌==◌, ◌||◌, ◌<◌, ◌⊎◌, inl, inr, Bool, true, false, List, [], ◌∷◌, ◌++◌, length, take, drop, codes, Option, Some, None, refl, ap, sym, subst, ◌∙◌, append_assoc, append-nil, length-append, arith}
use Rattle.std.specs.List.{concat}
use Rattle.std.proofs.lemmas.List.{take-append-drop}
use Rattle.std.specs.List.{prefix_len}
use Rattle.vdm_kinds.specs.declared.spec_kind.SpecKind.{SpecKind}
use Rattle.vdm_kinds.specs.declared.spec_kind.SpecKind.TheVariants.{LexFault, LeftOut as left_out}
use Rattle.vdm_lexer.specs.declared.front.Front.{Front}
use Rattle.vdm_lexer.specs.declared.front.Front.TheVariants.{Space, Token, Fault}
use Rattle.vdm_lexer.specs.declared.lexeme.LexKind.{LexKind}
use Rattle.vdm_lexer.specs.declared.lexeme.LexKind.TheVariants.{Identifier, Whole, Character, Text, Quote, Reserved, Sign, End}
use Rattle.vdm_lexer.specs.declared.written.WrittenKind.{WrittenKind}
use Rattle.vdm_lexer.specs.declared.written.WrittenKind.TheVariants as written
use Rattle.vdm_lexer.specs.Characters.{is_blank, is_of_line, is_of_word, is_letter, is_decimal}
use Rattle.vdm_lexer.specs.Comments.{comment_close}
use Rattle.vdm_lexer.specs.Fronts.{front_of, reach}
use Rattle.vdm_lexer.specs.Numerals.{is_small, is_fraction, is_exponent}
use Rattle.vdm_lexer.specs.Pieces.{begins, first}
use Rattle.vdm_lexer.specs.Quoted.{quote_length, close_of}
use Rattle.vdm_lexer.specs.Written.{kind_in, words, signs}
use Rattle.lexeme_laws.specs.Faults.{IsFault, IsLexFault, IsLeftOut, IsRefusedCharacter}
use Rattle.lexeme_laws.specs.Literals.{IsWord, IsKept, IsCharacter, IsQuote}
use Rattle.lexeme_laws.specs.Longest.{IsMadeOf, IsLongest, NoFront}
use Rattle.lexeme_laws.specs.Numerals.{IsNumeral, IsWhole, IsLeftOutNumeral}
use Rattle.lexeme_laws.specs.Spaces.{IsBlockComment, IsSpace}
use Rattle.lexeme_laws.specs.Tokens.{IsSign, IsSignPlace, IsToken}
use Rattle.lexeme_laws.proofs.Alphabet.{no-letter-in, less-if, most-if, goes-in, stops-in}
use Rattle.lexeme_laws.proofs.Begun.{begins-sound, same-if, if-same}
use Rattle.lexeme_laws.proofs.Escapes.{no-escape}
use Rattle.lexeme_laws.proofs.Kept.{close-found, none-closed, shut-made}
use Rattle.lexeme_laws.proofs.Numerals.{numeral-cut}
use Rattle.lexeme_laws.proofs.Quotes.{quote-read, quote-found}
use Rattle.lexeme_laws.proofs.Signs.{IsSignCut, sign-some, sign-kind, sign-cut}
use Rattle.lexeme_laws.proofs.Spaces.{line-found, close-read}
use Rattle.lexeme_laws.proofs.Spaces.{close-found as shut-found}
use Rattle.lexeme_laws.proofs.Standing.{space-read, token-read, fault-read, IsCharacterCut, character-cut}
use Rattle.lexeme_laws.proofs.Units.{IsSplit, Ends, split}
use Rattle.lexeme_laws.proofs.Words.{word-found}

-- pieces have characters

longer : (piece : List ℕ) (c : ℕ) (cs : List ℕ) → piece ≡ c ∷ cs → 0 < length piece
longer piece c cs is = let same : length piece ≡ suc (length cs) = ap length is in omega arith

pub space-some : (piece rest : List ℕ) → IsSpace piece rest → 0 < length piece
space-some piece rest (IsSpace.blank b) = longer piece _ _ b.is
space-some piece rest (IsSpace.line l) = longer piece _ _ l.is.is
space-some piece rest (IsSpace.block w) = longer piece _ _ w.is

numeral-some : (piece : List ℕ) → IsNumeral piece → 0 < length piece
numeral-some piece (IsNumeral.decimal w) = longer piece _ _ w.is
numeral-some piece (IsNumeral.hexadecimal w) = longer piece _ _ w.is

pub token-some : (kind : LexKind) (piece rest : List ℕ) → IsToken kind piece rest → 0 < length piece
token-some Identifier piece rest t = longer piece _ _ t.word.is.is
token-some Reserved piece rest t = longer piece _ _ t.word.is.is
token-some Whole piece rest t = numeral-some piece t.numeral.is
token-some Character piece rest t = longer piece _ _ t.is
token-some Text piece rest t = longer piece _ _ t.is
token-some Quote piece rest t = longer piece _ _ t.is
token-some Sign piece rest t = sign-some piece t.sign.is
token-some End piece rest t = absurd t

closed-some : (text piece rest : List ℕ) → text ≡ piece ++ rest → 0 < length piece → 0 < length text
closed-some text piece rest is some = let long : length text ≡ length (piece ++ rest) = ap length is in let sum = length-append piece rest in omega arith

lexical-some : (text : List ℕ) (n : ℕ) → IsLexFault text n → 0 < length text
lexical-some text n (IsLexFault.comment cs is none e) = longer text _ _ is
lexical-some text n (IsLexFault.string cs is none e) = longer text _ _ is
lexical-some text n (IsLexFault.string_escape front w e) = longer text _ _ w.is
lexical-some text n (IsLexFault.character cs is none other e) = longer text _ _ is
lexical-some text n (IsLexFault.character_escape w e) = longer text _ _ w.is
lexical-some text n (IsLexFault.begin cs is e) = longer text _ _ is
lexical-some text n (IsLexFault.other c cs is place none e) = longer text _ _ is

left_out-some : (text : List ℕ) → IsLeftOut text → 0 < length text
left_out-some text (IsLeftOut.word piece rest is l kind) = closed-some text piece rest is (longer piece _ _ l.is.is)
left_out-some text (IsLeftOut.numeral piece rest is l w) = closed-some text piece rest is (numeral-some piece l.is)
left_out-some text (IsLeftOut.sign piece rest is place l kind) = closed-some text piece rest is (sign-some piece l.is)

pub fault-some : (text : List ℕ) (kind : SpecKind) (n : ℕ) → IsFault text kind n → 0 < length text
fault-some text kind n (IsFault.lexical is w) = lexical-some text n w
fault-some text kind n (IsFault.left_out is e w) = left_out-some text w

-- what holds of a text where something is read in front of it

pub record HasSpace (text : List ℕ) (more : ℕ) : Type 0 where
  pub piece : List ℕ
  pub rest : List ℕ
  pub is : text ≡ piece ++ rest
  pub stands : IsSpace piece rest
  pub long : length piece ≡ more + 1

pub record HasToken (text : List ℕ) (kind : LexKind) (more : ℕ) : Type 0 where
  pub piece : List ℕ
  pub rest : List ℕ
  pub is : text ≡ piece ++ rest
  pub stands : IsToken kind piece rest
  pub long : length piece ≡ more + 1

abbrev pub Holds : List ℕ → Front → Type 0
Holds text (Space more) = HasSpace text more
Holds text (Token kind more) = HasToken text kind more
Holds text (Fault kind n) = IsFault text kind n × (n < length text)

abbrev HoldsAt : List ℕ → Type 0
HoldsAt text = Holds text (front_of text)

space-at : (text piece rest : List ℕ) → text ≡ piece ++ rest → IsSpace piece rest → HoldsAt text
space-at text piece rest is stands =
    let some = space-some piece rest stands in
    subst (Holds text) (sym (ap front_of is ∙ space-read piece rest stands)) (record { piece = piece; rest = rest; is = is; stands = stands; long = omega arith })

token-at : (kind : LexKind) (text piece rest : List ℕ) → text ≡ piece ++ rest → IsToken kind piece rest → HoldsAt text
token-at kind text piece rest is stands =
    let some = token-some kind piece rest stands in
    subst (Holds text) (sym (ap front_of is ∙ token-read kind piece rest stands)) (record { piece = piece; rest = rest; is = is; stands = stands; long = omega arith })

fault-at : (text : List ℕ) (kind : SpecKind) (n : ℕ) → IsFault text kind n → n < length text → HoldsAt text
fault-at text kind n fault within = subst (Holds text) (sym (fault-read text kind n fault)) (fault, within)

-- comments

shut-of : (cs : List ℕ) (found : Option ℕ) → comment_close cs ≡ found → HoldsAt (47 ∷ 42 ∷ cs)
shut-of cs None e =
    fault-at (47 ∷ 42 ∷ cs) LexFault 0
    (IsFault.lexical refl (IsLexFault.comment cs refl none refl)) (omega arith)
  where
    none : NoFront IsBlockComment (47 ∷ 42 ∷ cs)
    none piece rest is w =
        let behind : cs ≡ (w.inside ++ 42 ∷ 47 ∷ []) ++ rest = ap (drop 2) (is ∙ ap (λ (p : List ℕ). p ++ rest) w.is) in
        let some : comment_close cs ≡ Some (length w.inside) = ap comment_close (behind ∙ append_assoc w.inside (42 ∷ 47 ∷ []) rest) ∙ close-read w.inside rest w.without in
        let wrong = sym e ∙ some in
        absurd (cc)
shut-of cs (Some n) e =
    let shut = shut-found cs n e in
    space-at (47 ∷ 42 ∷ cs) (47 ∷ 42 ∷ (shut.inside ++ 42 ∷ 47 ∷ [])) shut.others
    (ap (λ (t : List ℕ). 47 ∷ 42 ∷ t) (shut.is ∙ sym (append_assoc shut.inside (42 ∷ 47 ∷ []) shut.others)))
    (IsSpace.block (record { inside = shut.inside; is = refl; without = shut.without }))

line-of : (cs : List ℕ) → HoldsAt (45 ∷ 45 ∷ cs)
line-of cs =
    space-at (45 ∷ 45 ∷ cs) (45 ∷ 45 ∷ take (prefix_len is_of_line cs) cs) (drop (prefix_len is_of_line cs) cs)
    (ap (λ (t : List ℕ). 45 ∷ 45 ∷ t) (sym (take-append-drop (prefix_len is_of_line cs) cs)))
    (IsSpace.line (line-found cs))

-- words

word-of : (text piece rest : List ℕ) → text ≡ piece ++ rest → 0 < length text → IsLongest IsWord piece rest → (found : Option WrittenKind) → kind_in piece words ≡ found → HoldsAt text
word-of text piece rest is some l None e = token-at Identifier text piece rest is (record { word = l; unreserved = λ f. none (sym e ∙ f); left_in = λ f. none (sym e ∙ f) })
  where
    none : {kind : WrittenKind} → None ≡ Some kind → ⊥
    none f = absurd (cc)
word-of text piece rest is some l (Some written.Sign) e = token-at Identifier text piece rest is (record { word = l; unreserved = λ f. no_reserved (sym e ∙ f); left_in = λ f. no_left_out (sym e ∙ f) })
  where
    no_reserved : Some written.Sign ≡ Some written.Reserved → ⊥
    no_reserved f = absurd (cc)

    no_left_out : Some written.Sign ≡ Some written.LeftOut → ⊥
    no_left_out f = absurd (cc)
word-of text piece rest is some l (Some written.Reserved) e = token-at Reserved text piece rest is (record { word = l; reserved = e })
word-of text piece rest is some l (Some written.LeftOut) e = fault-at text left_out 0 (IsFault.left_out refl refl (IsLeftOut.word piece rest is l e)) some

letter-of : (c : ℕ) (cs : List ℕ) → is_letter c ≡ true → HoldsAt (c ∷ cs)
letter-of c cs h =
    word-of (c ∷ cs) (c ∷ take (prefix_len is_of_word cs) cs) (drop (prefix_len is_of_word cs) cs)
    (ap (λ (t : List ℕ). c ∷ t) (sym (take-append-drop (prefix_len is_of_word cs) cs))) (omega arith)
    (word-found c cs h) _ refl

-- numerals

numeral-of : (text piece rest : List ℕ) → text ≡ piece ++ rest → 0 < length text → IsLongest IsNumeral piece rest → IsNumeral piece → HoldsAt text
numeral-of text piece rest is some l (IsNumeral.decimal w) = by (is_fraction rest || is_exponent rest) (is_small 10 piece) refl refl
  where
    out : IsLeftOutNumeral piece rest → HoldsAt text
    out n = fault-at text left_out 0 (IsFault.left_out refl refl (IsLeftOut.numeral piece rest is l n)) some

    by : (f s : Bool) → (is_fraction rest || is_exponent rest) ≡ f → is_small 10 piece ≡ s → HoldsAt text
    by true s a b = out (IsLeftOutNumeral.longer w (goes-in rest a))
    by false false a b = out (IsLeftOutNumeral.great w (most-if _ _ b))
    by false true a b = token-at Whole text piece rest is (record { numeral = l; whole = IsWhole.decimal w (stops-in rest a) (less-if _ _ b) })
numeral-of text piece rest is some l (IsNumeral.hexadecimal w) = by (is_small 16 (drop 2 piece)) refl
  where
    by : (s : Bool) → is_small 16 (drop 2 piece) ≡ s → HoldsAt text
    by false b = fault-at text left_out 0 (IsFault.left_out refl refl (IsLeftOut.numeral piece rest is l (IsLeftOutNumeral.great_hexadecimal w (most-if _ _ b)))) some
    by true b = token-at Whole text piece rest is (record { numeral = l; whole = IsWhole.hexadecimal w (less-if _ _ b) })

digit-of : (c : ℕ) (cs : List ℕ) → is_decimal c ≡ true → HoldsAt (c ∷ cs)
digit-of c cs h = let cut = numeral-cut c cs h in numeral-of (c ∷ cs) cut.piece cut.rest cut.is (omega arith) cut.longest cut.longest.is

-- strings

string-parts : (cs inside others : List ℕ) → cs ≡ inside ++ 34 ∷ others → IsMadeOf (IsKept 34) inside → (parts : IsSplit inside) → Ends parts.rest → HoldsAt (34 ∷ cs)
string-parts cs inside others is kept parts (Ends.whole none) =
    let units : inside ≡ concat parts.pieces = parts.is ∙ ap (λ (t : List ℕ). concat parts.pieces ++ t) none ∙ append-nil (concat parts.pieces) in
    token-at Text (34 ∷ cs) (34 ∷ (inside ++ 34 ∷ [])) others
    (ap (λ (t : List ℕ). 34 ∷ t) (is ∙ sym (append_assoc inside (34 ∷ []) others)))
    (record { inside = inside; is = refl; kept = kept; units = record { pieces = parts.pieces; is = units; each = parts.each } })
string-parts cs inside others is kept parts (Ends.refused behind rest h) =
    let front = concat parts.pieces in
    let whole : inside ≡ front ++ 92 ∷ behind = parts.is ∙ ap (λ (t : List ℕ). front ++ t) rest in
    let text : 34 ∷ cs ≡ 34 ∷ ((front ++ 92 ∷ behind) ++ 34 ∷ others) = ap (λ (t : List ℕ). 34 ∷ t) (is ∙ ap (λ (t : List ℕ). t ++ 34 ∷ others) whole) in
    let long : length (34 ∷ cs) ≡ length (34 ∷ ((front ++ 92 ∷ behind) ++ 34 ∷ others)) = ap length text in
    let all = length-append (front ++ 92 ∷ behind) (34 ∷ others) in
    let sum = length-append front (92 ∷ behind) in
    fault-at (34 ∷ cs) LexFault (length front + 1)
    (IsFault.lexical refl (IsLexFault.string_escape front
    (record { behind = behind; others = others; is = text; kept = subst (IsMadeOf (IsKept 34)) whole kept; units = record { pieces = parts.pieces; is = refl; each = parts.each }; refused = no-escape behind h }) refl))
    (omega arith)

string-of : (cs : List ℕ) (found : Option ℕ) → close_of 34 cs ≡ found → HoldsAt (34 ∷ cs)
string-of cs None e = fault-at (34 ∷ cs) LexFault 0 (IsFault.lexical refl (IsLexFault.string cs refl (none-closed 34 refl cs e) refl)) (omega arith)
string-of cs (Some n) e =
    let shut = close-found 34 cs n e in
    let parts = split (concat shut.pieces) in
    string-parts cs (concat shut.pieces) shut.others shut.is (shut-made 34 cs n shut) parts parts.ends

-- characters

no-character : (text : List ℕ) → front_of text ≡ Fault LexFault 0 → NoFront IsCharacter text
no-character text e piece rest is w =
    let wrong : Fault LexFault 0 ≡ Token Character (length piece - 1) = sym e ∙ ap front_of is ∙ token-read Character piece rest w in
    absurd (cc)

no-refused : (text : List ℕ) → front_of text ≡ Fault LexFault 0 → IsRefusedCharacter text → ⊥
no-refused text e w =
    let other : Fault LexFault 0 ≡ Fault LexFault 1 = sym e ∙ fault-read text LexFault 1 (IsFault.lexical refl (IsLexFault.character_escape w refl)) in
    let wrong : 0 ≡ 1 = ap reach other in
    absurd (omega (arith, wrong))

character-of : (cs : List ℕ) → IsCharacterCut cs → HoldsAt (39 ∷ cs)
character-of cs (IsCharacterCut.closed piece rest is w) = token-at Character (39 ∷ cs) piece rest is w
character-of cs (IsCharacterCut.refused w) =
    let long : length (39 ∷ cs) ≡ length (39 ∷ 92 ∷ w.behind) = ap length w.is in
    fault-at (39 ∷ cs) LexFault 1 (IsFault.lexical refl (IsLexFault.character_escape w refl)) (omega arith)
character-of cs (IsCharacterCut.unclosed e) =
    fault-at (39 ∷ cs) LexFault 0 (IsFault.lexical refl (IsLexFault.character cs refl (no-character (39 ∷ cs) e) (no-refused (39 ∷ cs) e) refl)) (omega arith)

-- signs

sign-of : (c : ℕ) (cs : List ℕ) → IsSignPlace (c ∷ cs) → HoldsAt (c ∷ cs)
sign-of c cs place = by (sign-cut (c ∷ cs))
  where
    kind-of : (piece rest : List ℕ) → c ∷ cs ≡ piece ++ rest → IsLongest IsSign piece rest → (kind_in piece signs ≡ Some written.Sign) ⊎ (kind_in piece signs ≡ Some written.LeftOut) → HoldsAt (c ∷ cs)
    kind-of piece rest is l (inl e) = token-at Sign (c ∷ cs) piece rest is (record { place = subst IsSignPlace is place; sign = l; left_in = e })
    kind-of piece rest is l (inr e) = fault-at (c ∷ cs) left_out 0 (IsFault.left_out refl refl (IsLeftOut.sign piece rest is place l e)) (omega arith)

    by : IsSignCut (c ∷ cs) → HoldsAt (c ∷ cs)
    by (IsSignCut.some piece rest is l) = kind-of piece rest is l (sign-kind piece l.is)
    by (IsSignCut.none e lack) = fault-at (c ∷ cs) LexFault 0 (IsFault.lexical refl (IsLexFault.other c cs refl place lack refl)) (omega arith)

no-quote : (c : ℕ) (cs : List ℕ) → (c == 60) ≡ false → NoFront IsQuote (c ∷ cs)
no-quote c cs h piece rest is q =
    let same : c ≡ 60 = ap first (is ∙ ap (λ (p : List ℕ). p ++ rest) q.is) in
    let wrong : true ≡ false = sym (if-same c 60 same) ∙ h in
    absurd (cc)

no-quote-by : (cs : List ℕ) → quote_length cs ≡ None → NoFront IsQuote (60 ∷ cs)
no-quote-by cs e piece rest is q =
    let some : quote_length cs ≡ Some (length piece - 1) = ap (λ (t : List ℕ). quote_length (drop 1 t)) is ∙ quote-read piece rest q in
    let wrong = sym e ∙ some in
    absurd (cc)

quote-place : (cs : List ℕ) → quote_length cs ≡ None → IsSignPlace (60 ∷ cs)
unfolding begins
quote-place cs e = record { blank = refl; line = refl; block = refl; letter = no-letter-in 60 refl; digit = refl; character = refl; string = refl; quote = no-quote-by cs e; begin = refl }

quote-of : (cs : List ℕ) (found : Option ℕ) → quote_length cs ≡ found → HoldsAt (60 ∷ cs)
quote-of cs None e = sign-of 60 cs (quote-place cs e)
quote-of cs (Some n) e = let q = quote-found cs n e in token-at Quote (60 ∷ cs) q.piece q.rest q.is q.quote

-- what is read in front of a text with a character holds

at : (text other : List ℕ) → text ≡ other → HoldsAt other → HoldsAt text
at text other is h = subst HoldsAt (sym is) h

pub front-holds : (c : ℕ) (cs : List ℕ) → HoldsAt (c ∷ cs)
front-holds c cs = by (is_blank c) (begins (c ∷ cs) (codes "--")) (begins (c ∷ cs) (codes "/*")) (is_letter c) (is_decimal c) (c == 39) (c == 34) (c == 60) (begins (c ∷ cs) (codes "\\begin{")) refl refl refl refl refl refl refl refl refl
  where
    same : (k : ℕ) → (c == k) ≡ true → c ∷ cs ≡ k ∷ cs
    same k e = ap (λ (x : ℕ). x ∷ cs) (same-if c k e)

    by : (b1 b2 b3 b4 b5 b6 b7 b8 b9 : Bool) → is_blank c ≡ b1 → begins (c ∷ cs) (codes "--") ≡ b2 → begins (c ∷ cs) (codes "/*") ≡ b3 → is_letter c ≡ b4 → is_decimal c ≡ b5 → (c == 39) ≡ b6 → (c == 34) ≡ b7 → (c == 60) ≡ b8 → begins (c ∷ cs) (codes "\\begin{") ≡ b9 → HoldsAt (c ∷ cs)
    by true b2 b3 b4 b5 b6 b7 b8 b9 e1 e2 e3 e4 e5 e6 e7 e8 e9 = space-at (c ∷ cs) (c ∷ []) cs refl (IsSpace.blank (record { character = c; is = refl; blank = e1 }))
    by false true b3 b4 b5 b6 b7 b8 b9 e1 e2 e3 e4 e5 e6 e7 e8 e9 = let begun = begins-sound (c ∷ cs) (codes "--") e2 in at (c ∷ cs) _ begun.1 (line-of begun.0)
    by false false true b4 b5 b6 b7 b8 b9 e1 e2 e3 e4 e5 e6 e7 e8 e9 = let begun = begins-sound (c ∷ cs) (codes "/*") e3 in at (c ∷ cs) _ begun.1 (shut-of begun.0 (comment_close begun.0) refl)
    by false false false true b5 b6 b7 b8 b9 e1 e2 e3 e4 e5 e6 e7 e8 e9 = letter-of c cs e4
    by false false false false true b6 b7 b8 b9 e1 e2 e3 e4 e5 e6 e7 e8 e9 = digit-of c cs e5
    by false false false false false true b7 b8 b9 e1 e2 e3 e4 e5 e6 e7 e8 e9 = at (c ∷ cs) _ (same 39 e6) (character-of cs (character-cut cs))
    by false false false false false false true b8 b9 e1 e2 e3 e4 e5 e6 e7 e8 e9 = at (c ∷ cs) _ (same 34 e7) (string-of cs (close_of 34 cs) refl)
    by false false false false false false false true b9 e1 e2 e3 e4 e5 e6 e7 e8 e9 = at (c ∷ cs) _ (same 60 e8) (quote-of cs (quote_length cs) refl)
    by false false false false false false false false true e1 e2 e3 e4 e5 e6 e7 e8 e9 =
        let begun = begins-sound (c ∷ cs) (codes "\\begin{") e9 in
        fault-at (c ∷ cs) LexFault 0 (IsFault.lexical refl (IsLexFault.begin begun.0 begun.1 refl)) (omega arith)
    by false false false false false false false false false e1 e2 e3 e4 e5 e6 e7 e8 e9 =
        sign-of c cs (record { blank = e1; line = e2; block = e3; letter = no-letter-in c e4; digit = e5; character = e6; string = e7; quote = no-quote c cs e8; begin = e9 })
