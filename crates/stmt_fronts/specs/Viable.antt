-- Which tokens may be the beginning of a statement or a specification.
use Rattle.std.specs.Prelude.{◌≡◌, Bool, true, false, if◌then◌else◌, nat_eq, List, [], ◌∷◌, ◌++◌, map, Option, Some, None}
use Rattle.std.specs.List.{list_any}
use Rattle.vdm_kinds.specs.declared.name.Name.{Name}
use Rattle.grammar_words.specs.declared.word.Word.{Word}
use Rattle.grammar_words.specs.Tokens.{Token, identifier, word_of}
use Rattle.stmt_fronts.specs.declared.expected.Expected.{Expected}
use Rattle.stmt_fronts.specs.declared.expected.Expected.TheVariants.{Statement, LevelOrName, StaticOrName, DefinedName, DefinedNameAgain, TypeDefs, ValueDefs, VariableItems, FunctionDefs, OperationDefs, Classes, ClassName, ClassNameAgain}
use Rattle.stmt_fronts.specs.declared.kind.Kind.{Kind}
use Rattle.stmt_fronts.specs.declared.kind.Kind.TheVariants as kind
use Rattle.stmt_fronts.specs.Turns.{Turn, wanted_by}
use Rattle.stmt_fronts.specs.Table.{turns, is_optional}

-- ---- second names

-- the names of the class and of the definition that are open, or were the last
pub record Names : Type 0 where
  pub class : Option Name
  pub definition : Option Name

abbrev pub no_names : Names
no_names = record { class = None; definition = None }

abbrev pub name_of : Token → Option Name
name_of (identifier name place) = Some name
name_of _ = None

-- the names behind a token where this was wanted
abbrev pub named_by : Names → Expected → Option Name → Names
named_by names expected None = names
named_by names ClassName name = record names { class = name }
named_by names LevelOrName name = record names { definition = name }
named_by names StaticOrName name = record names { definition = name }
named_by names DefinedName name = record names { definition = name }
named_by names TypeDefs name = record names { definition = name }
named_by names ValueDefs name = record names { definition = name }
named_by names VariableItems name = record names { definition = name }
named_by names FunctionDefs name = record names { definition = name }
named_by names OperationDefs name = record names { definition = name }
named_by names _ name = names

abbrev pub is_same : Option Name → Option Name → Bool
is_same (Some a) (Some b) = nat_eq a.0 b.0
is_same _ _ = false

-- a second name is the first
abbrev pub fits : Names → Expected → Option Name → Bool
fits names ClassNameAgain name = is_same names.class name
fits names DefinedNameAgain name = is_same names.definition name
fits names _ name = true

-- ---- what takes a token

-- what is wanted, and the names so far
pub record State : Type 0 where
  pub wanted : List Expected
  pub names : Names

-- a way in which a token is taken: what it does, what is wanted behind that, and the names then
pub record Way : Type 0 where
  pub turn : Turn
  pub behind : List Expected
  pub names : Names

abbrev pub way_on : Way → State
way_on way = record { wanted = wanted_by way.turn ++ way.behind; names = way.names }

abbrev pub ways_of : Names → Expected → Option Name → List Expected → List Turn → List Way
ways_of names expected name behind turns =
    if fits names expected name
    then map (λ (turn : Turn). record { turn = turn; behind = behind; names = named_by names expected name }) turns else []

-- the first thing wanted takes it, or the next where that does not and may be left out
abbrev pub either : List Turn → (List Turn → List Way) → List Way → List Way
either [] taken other = other
either (turn ∷ turns) taken other = taken (turn ∷ turns)

abbrev pub ways_from : Names → Word → Option Name → List Expected → List Way
ways_from names word name [] = []
ways_from names word name (next ∷ behind) =
    either (turns next word) (ways_of names next name behind) (if is_optional next then ways_from names word name behind else [])

abbrev pub ways : Token → State → List Way
ways token state = ways_from state.names (word_of token) (name_of token) state.wanted

-- ---- tokens that are taken one by one

abbrev pub start : Kind → State
start kind.Stmt = record { wanted = Statement ∷ []; names = no_names }
start kind.Spec = record { wanted = Classes ∷ []; names = no_names }

-- each token is taken, in one way or another, and what is wanted then passes a test
abbrev pub leads : (State → Bool) → List Token → State → Bool
leads test [] state = test state
leads test (token ∷ tokens) state = list_any (λ (way : Way). leads test tokens (way_on way)) (ways token state)

abbrev pub can_take : List Token → State → Bool
can_take = leads (λ (state : State). true)

abbrev pub IsViable : Kind → List Token → Type 0
IsViable k tokens = can_take tokens (start k) ≡ true
