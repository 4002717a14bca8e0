-- What stands at the beginning of tokens: single words, and whole expressions, patterns and types.
use Rattle.std.specs.Prelude.{ℕ, zero, suc, ◌+◌, Bool, ◌&&◌, nat_eq, nat_lt, if◌then◌else◌, List, [], ◌∷◌, length, map, take, drop, Option, Some, None}
use Rattle.vdm_kinds.specs.declared.name.Name.{Name}
use Rattle.vdm_kinds.specs.declared.name_at.NameAt.{NameAt}
use Rattle.vdm_kinds.specs.declared.place.Place.{Place}
use Rattle.vdm_kinds.specs.declared.sign.Sign.{Sign}
use Rattle.vdm_kinds.specs.declared.sign.Sign.TheVariants.{Equal, Implies, InSet, Not, Times}
use Rattle.abstract_syntax.specs.Types.{TypeTree}
use Rattle.abstract_syntax.specs.Expressions.{ExprTree, PatternTree}
use Rattle.grammar_words.specs.declared.word.Word.{Word}
use Rattle.grammar_words.specs.declared.word.Word.TheVariants as word_is
use Rattle.grammar_words.specs.Tokens.{Token, identifier, plain, word_of}
use Rattle.type_reading.specs.Reading.{type_of}
use Rattle.grammar_trees.specs.Reading.{expr_of, pattern_of}
use Rattle.grammar_fronts.specs.declared.kind.Kind.{Kind}
use Rattle.grammar_fronts.specs.declared.kind.Kind.TheVariants as kind
use Rattle.grammar_fronts.specs.Fronts.{fronts}
use Rattle.grammar_fronts.specs.Viable.{start}

-- what was read, and the tokens that are left
abbrev pub Read : Type 0 → Type 0
Read A = Option (A × List Token)

-- what is read, and then more with it
abbrev pub onto : {A B : Type 0} → Read A → (A → List Token → Read B) → Read B
onto None next = None
onto (Some (a, tokens)) next = next a tokens

-- more with what is read where it comes next, else something else
abbrev pub choice : {A B : Type 0} → Read A → (A → List Token → Read B) → Read B → Read B
choice None next other = other
choice (Some (a, tokens)) next other = next a tokens

-- ---- whole types, patterns and expressions: the longest front that is viable

abbrev pub front_length : Kind → List Token → ℕ
front_length kind tokens = length (fronts (map word_of tokens) (start kind)).front

abbrev pub with_rest : {A : Type 0} → Option A → List Token → Read A
with_rest None rest = None
with_rest (Some a) rest = Some (a, rest)

abbrev pub leaf : {A : Type 0} → Kind → (List Token → Option A) → List Token → Read A
leaf kind tree_of tokens =
    with_rest (tree_of (take (front_length kind tokens) tokens)) (drop (front_length kind tokens) tokens)

abbrev pub expr_in : List Token → Read ExprTree
expr_in tokens = leaf kind.Expr expr_of tokens

abbrev pub pattern_in : List Token → Read PatternTree
pattern_in tokens = leaf kind.Pattern pattern_of tokens

abbrev pub type_in : List Token → Read TypeTree
type_in tokens = leaf kind.TypeExpr type_of tokens

-- ---- single words

-- numbers of the words that statements and classes are told by; all others have 0
abbrev pub sign_number : Sign → ℕ
sign_number Equal = 1
sign_number InSet = 2
sign_number Times = 3
sign_number Not = 4
sign_number Implies = 5
sign_number _ = 0

abbrev pub word_number : Word → ℕ
word_number (word_is.Operator sign) = sign_number sign
word_number word_is.OpenRound = 6
word_number word_is.CloseRound = 7
word_number word_is.OpenCurly = 8
word_number word_is.CloseCurly = 9
word_number word_is.Comma = 10
word_number word_is.Semicolon = 11
word_number word_is.Colon = 12
word_number word_is.DoubleColon = 13
word_number word_is.Becomes = 14
word_number word_is.DoubleEqual = 15
word_number word_is.DoubleArrow = 16
word_number word_is.Arrow = 17
word_number word_is.TotalArrow = 18
word_number word_is.MapsTo = 19
word_number word_is.Be = 20
word_number word_is.St = 21
word_number word_is.In = 22
word_number word_is.Then = 23
word_number word_is.Elseif = 24
word_number word_is.Else = 25
word_number word_is.Others = 26
word_number word_is.End = 27
word_number word_is.Of = 28
word_number word_is.To = 29
word_number word_is.Dcl = 30
word_number word_is.Do = 31
word_number word_is.All = 32
word_number word_is.By = 33
word_number word_is.With = 34
word_number word_is.Class = 35
word_number word_is.Is = 36
word_number word_is.Subclass = 37
word_number word_is.Types = 38
word_number word_is.Values = 39
word_number word_is.Instance = 40
word_number word_is.Variables = 41
word_number word_is.Functions = 42
word_number word_is.Operations = 43
word_number word_is.Thread = 44
word_number word_is.Sync = 45
word_number word_is.Per = 46
word_number word_is.Mutex = 47
word_number word_is.Periodic = 48
word_number word_is.Inv = 49
word_number word_is.Pre = 50
word_number word_is.Post = 51
word_number word_is.Measure = 52
word_number word_is.Static = 53
word_number word_is.Private = 54
word_number word_is.Protected = 55
word_number word_is.Public = 56
word_number word_is.Yet = 57
word_number word_is.Specified = 58
word_number word_is.Responsibility = 59
word_number word_is.Dot = 60
word_number word_is.DotNumber = 61
word_number _ = 0

abbrev pub is_word : Word → Word → Bool
is_word a b = nat_lt 0 (word_number a) && nat_eq (word_number a) (word_number b)

abbrev pub word_at : Word → Token → List Token → Read Place
word_at w (plain found place) tokens = if is_word w found then Some (place, tokens) else None
word_at w _ tokens = None

-- the word; its place
abbrev pub word_in : Word → List Token → Read Place
word_in w [] = None
word_in w (token ∷ tokens) = word_at w token tokens

abbrev pub name_at : Token → List Token → Read NameAt
name_at (identifier name place) tokens = Some (record { name = name; place = place }, tokens)
name_at _ tokens = None

abbrev pub name_in : List Token → Read NameAt
name_in [] = None
name_in (token ∷ tokens) = name_at token tokens

-- a name that was read before, again
abbrev pub same_name : Name → NameAt → List Token → Read NameAt
same_name name found tokens = if nat_eq name.0 found.name.0 then Some (found, tokens) else None

abbrev pub name_again : Name → List Token → Read NameAt
name_again name tokens = onto (name_in tokens) (same_name name)

-- ---- lists

abbrev pub put : {A : Type 0} → A → List A → List Token → Read (List A)
put first others tokens = Some (first ∷ others, tokens)

-- a turn for each token, and one
abbrev pub turns_for : List Token → ℕ
turns_for tokens = length tokens + 1

-- further items, each behind the word, at most as many as there are turns
abbrev pub further : {A : Type 0} → Word → (List Token → Read A) → ℕ → List Token → Read (List A)
further between one zero tokens = None
further between one (suc turns) tokens =
    choice (word_in between tokens)
    (λ (place : Place) (behind : List Token). onto (one behind) (λ next rest. onto (further between one turns rest) (put next)))
    (Some ([], tokens))

-- one item or more, with the word between each two
abbrev pub list_in : {A : Type 0} → Word → (List Token → Read A) → List Token → Read (List A)
list_in between one tokens = onto (one tokens) (λ first rest. onto (further between one (turns_for tokens) rest) (put first))
