-- Words that readings tell apart are told apart by their numbers.
use Rattle.std.proofs.Common.{◌≡◌, ℕ, zero, suc, List, [], ◌∷◌, Bool, true, false, nat_lt, nat_eq, ◌&&◌, Option, Some, None, refl, ap, sym, ◌∙◌, arith}
use Rattle.std.proofs.lemmas.Bool.Decides.{nat_tests}
use Rattle.vdm_kinds.specs.declared.sign.Sign.{Sign}
use Rattle.vdm_kinds.specs.declared.sign.Sign.TheVariants as sign_is
use Rattle.grammar_words.specs.declared.word.Word.{Word}
use Rattle.grammar_words.specs.declared.word.Word.TheVariants as word_is
use Rattle.stmt_reading.specs.Leaves.{is_word, word_number}

-- the words by their numbers
abbrev numbered : List Word
numbered =
    word_is.TextEnd ∷ word_is.Operator sign_is.Equal ∷ word_is.Operator sign_is.InSet ∷ word_is.Operator sign_is.Times
    ∷ word_is.Operator sign_is.Not ∷ word_is.Operator sign_is.Implies ∷ word_is.OpenRound ∷ word_is.CloseRound
    ∷ word_is.OpenCurly ∷ word_is.CloseCurly ∷ word_is.Comma ∷ word_is.Semicolon ∷ word_is.Colon ∷ word_is.DoubleColon
    ∷ word_is.Becomes ∷ word_is.DoubleEqual ∷ word_is.DoubleArrow ∷ word_is.Arrow ∷ word_is.TotalArrow ∷ word_is.MapsTo
    ∷ word_is.Be ∷ word_is.St ∷ word_is.In ∷ word_is.Then ∷ word_is.Elseif ∷ word_is.Else ∷ word_is.Others ∷ word_is.End
    ∷ word_is.Of ∷ word_is.To ∷ word_is.Dcl ∷ word_is.Do ∷ word_is.All ∷ word_is.By ∷ word_is.With ∷ word_is.Class
    ∷ word_is.Is ∷ word_is.Subclass ∷ word_is.Types ∷ word_is.Values ∷ word_is.Instance ∷ word_is.Variables
    ∷ word_is.Functions ∷ word_is.Operations ∷ word_is.Thread ∷ word_is.Sync ∷ word_is.Per ∷ word_is.Mutex
    ∷ word_is.Periodic ∷ word_is.Inv ∷ word_is.Pre ∷ word_is.Post ∷ word_is.Measure ∷ word_is.Static ∷ word_is.Private
    ∷ word_is.Protected ∷ word_is.Public ∷ word_is.Yet ∷ word_is.Specified ∷ word_is.Responsibility ∷ word_is.Dot
    ∷ word_is.DotNumber ∷ []

abbrev nth : List Word → ℕ → Option Word
nth [] n = None
nth (w ∷ ws) zero = Some w
nth (w ∷ ws) (suc n) = nth ws n

-- the word of a number
abbrev word_from : ℕ → Option Word
word_from n = nth numbered n

sign-back : (s : Sign) → nat_lt 0 (word_number (word_is.Operator s)) ≡ true → word_from (word_number (word_is.Operator s)) ≡ Some (word_is.Operator s)
sign-back sign_is.Equal e = refl
sign-back sign_is.InSet e = refl
sign-back sign_is.Times e = refl
sign-back sign_is.Not e = refl
sign-back sign_is.Implies e = refl
sign-back _ e = absurd (cc)

word-back : (w : Word) → nat_lt 0 (word_number w) ≡ true → word_from (word_number w) ≡ Some w
word-back (word_is.Operator s) e = sign-back s e
word-back word_is.OpenRound e = refl
word-back word_is.CloseRound e = refl
word-back word_is.OpenCurly e = refl
word-back word_is.CloseCurly e = refl
word-back word_is.Comma e = refl
word-back word_is.Semicolon e = refl
word-back word_is.Colon e = refl
word-back word_is.DoubleColon e = refl
word-back word_is.Becomes e = refl
word-back word_is.DoubleEqual e = refl
word-back word_is.DoubleArrow e = refl
word-back word_is.Arrow e = refl
word-back word_is.TotalArrow e = refl
word-back word_is.MapsTo e = refl
word-back word_is.Be e = refl
word-back word_is.St e = refl
word-back word_is.In e = refl
word-back word_is.Then e = refl
word-back word_is.Elseif e = refl
word-back word_is.Else e = refl
word-back word_is.Others e = refl
word-back word_is.End e = refl
word-back word_is.Of e = refl
word-back word_is.To e = refl
word-back word_is.Dcl e = refl
word-back word_is.Do e = refl
word-back word_is.All e = refl
word-back word_is.By e = refl
word-back word_is.With e = refl
word-back word_is.Class e = refl
word-back word_is.Is e = refl
word-back word_is.Subclass e = refl
word-back word_is.Types e = refl
word-back word_is.Values e = refl
word-back word_is.Instance e = refl
word-back word_is.Variables e = refl
word-back word_is.Functions e = refl
word-back word_is.Operations e = refl
word-back word_is.Thread e = refl
word-back word_is.Sync e = refl
word-back word_is.Per e = refl
word-back word_is.Mutex e = refl
word-back word_is.Periodic e = refl
word-back word_is.Inv e = refl
word-back word_is.Pre e = refl
word-back word_is.Post e = refl
word-back word_is.Measure e = refl
word-back word_is.Static e = refl
word-back word_is.Private e = refl
word-back word_is.Protected e = refl
word-back word_is.Public e = refl
word-back word_is.Yet e = refl
word-back word_is.Specified e = refl
word-back word_is.Responsibility e = refl
word-back word_is.Dot e = refl
word-back word_is.DotNumber e = refl
word-back _ e = absurd (cc)

pub both : (a b : Bool) → (a && b) ≡ true → (a ≡ true) × (b ≡ true)
both true true e = (refl, refl)
both true false e = absurd (cc)
both false b e = absurd (cc)

pub same-number : (m n : ℕ) → nat_eq m n ≡ true → m ≡ n
same-number m n e = grind (arith, nat_tests)

same-word : (a b : Word) → Some a ≡ Some b → a ≡ b
same-word a b e = cc

-- a word that is taken for another is that word
pub word-found : (w found : Word) → is_word w found ≡ true → found ≡ w
word-found w found e =
    let k = both (nat_lt 0 (word_number w)) (nat_eq (word_number w) (word_number found)) e in
    let n = same-number (word_number w) (word_number found) k.1 in
    same-word found w (sym (word-back found (ap (nat_lt 0) (sym n) ∙ k.0)) ∙ ap word_from (sym n) ∙ word-back w k.0)
