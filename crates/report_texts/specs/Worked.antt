-- What the worked texts speak of.
use Rattle.std.specs.Prelude.{ℕ, List, [], ◌∷◌, ◌++◌, codes, map, pos}
use Rattle.abstract_syntax.specs.Values.{ValueTree, number, character, quote}
use Rattle.vdm_kinds.specs.declared.member.OpRef.{OpRef}
use Rattle.vdm_kinds.specs.declared.member.VarRef.{VarRef}
use Rattle.vdm_kinds.specs.declared.name.Name.{Name}
use Rattle.vdm_kinds.specs.declared.place.Place.{Place}
use Rattle.vdm_kinds.specs.declared.part.Part.TheVariants.{Expr, Spec}
use Rattle.vdm_kinds.specs.NameList.{built_in_names}
use Rattle.run_journal.specs.declared.thread.Thread.{Thread}
use Rattle.run_journal.specs.declared.write.Write.{Write}
use Rattle.report_texts.specs.declared.blocked.Blocked.{Blocked}
use Rattle.report_texts.specs.Words.{Limits}

-- the limits of so many units
abbrev pub up_to : ℕ → Limits
up_to n = record { steps = n }

-- a class, an operation, two variables, a type and a quote
abbrev pub names : List (List ℕ)
names = built_in_names ++ codes "C" ∷ codes "op" ∷ codes "x" ∷ codes "y" ∷ codes "T" ∷ codes "Red" ∷ []

abbrev pub named : ℕ → Name
named n = record { 0 = n }

abbrev pub class : Name
class = named 3

abbrev pub operation : OpRef
operation = record { class = class; name = named 4; arity = 1 }

abbrev pub variable : ℕ → VarRef
variable n = record { class = class; name = named n }

-- a number from 0 on
abbrev pub whole : ℕ → ValueTree
whole n = number (pos n)

abbrev pub red : ValueTree
red = quote (named 8)

abbrev pub characters : List ℕ → List ValueTree
characters cs = map character cs

abbrev pub pair : ℕ → ℕ → Write
pair n value = record { var = variable n; value = whole value }

-- a place in the expression, and one in the specification
abbrev pub in_expression : ℕ → ℕ → Place
in_expression line column = record { part = Expr; line = line; column = column }

abbrev pub in_specification : ℕ → ℕ → Place
in_specification line column = record { part = Spec; line = line; column = column }

abbrev pub waits : Thread → ℕ → Blocked
waits thread object = record { thread = thread; object = object; op = operation }
