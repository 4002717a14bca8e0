-- What a call of an operation does behind its arguments: from the tests of these to its finish.
use Rattle.std.specs.Prelude.{ℕ, Bool, true, false, List, [], ◌∷◌, ◌++◌, length, take, Option, Some, None}
use Rattle.std.specs.List.{flat_map}
use Rattle.vdm_kinds.specs.declared.member.OpRef.{OpRef}
use Rattle.vdm_kinds.specs.declared.name.Name.{Name}
use Rattle.vdm_kinds.specs.declared.place.Place.{Place}
use Rattle.vdm_kinds.specs.declared.run_fault.RunFault.TheVariants.{GuardFault, NoMatch, NoReturn, Post, Pre, TypeFault, Undefined}
use Rattle.vdm_values.specs.declared.slot.Slot.{Slot}
use Rattle.vdm_values.specs.declared.slot.Slot.TheVariants.{Unset, Held}
use Rattle.abstract_syntax.specs.Types.{TypeTree}
use Rattle.abstract_syntax.specs.Values.{ValueTree}
use Rattle.abstract_syntax.specs.Expressions.{ExprTree}
use Rattle.abstract_syntax.specs.Statements.{StmtTree}
use Rattle.abstract_syntax.specs.Classes.{Body, written, OperationTree, SpecTree}
use Rattle.pattern_meaning.specs.Brackets.{given_in}
use Rattle.run_journal.specs.declared.answer.Answer.{Answer}
use Rattle.run_journal.specs.declared.answer.Answer.TheVariants.{Inner}
use Rattle.run_journal.specs.declared.question.Question.TheVariants.{Req, Act, Fin, Read}
use Rattle.plans.specs.Plans.{finish, ask, part, bind}
use Rattle.node_meaning.specs.Envs.{Locals, no_nest, at, result_name, old_name}
use Rattle.node_meaning.specs.Fitting.{typed}
use Rattle.node_meaning.specs.Matching.{decided, exprs_of, met}
use Rattle.node_meaning.specs.Needs.{slot_in}
use Rattle.node_meaning.specs.Strict.{collected}
use Rattle.node_meaning.specs.Tasks.{stmt_in, Flow, gave, next, returned, exited, noted, Code, fault}
use Rattle.stmt_meaning.specs.Calling.{Giving, Calling, calling_here, is_constructor, slot_given}
use Rattle.stmt_meaning.specs.Flows.{with_locals}
use Rattle.stmt_meaning.specs.Olds.{Old, old_variables}

-- ---- the end

-- the call asks to finish, with what it gives
abbrev pub finished : Calling → Slot → Locals → Code
finished c slot inner = ask (noted (Fin c.me c.op)) (λ _. finish (gave (slot_given c.gives slot) inner))

-- whether `post` holds
abbrev pub post_decided : Calling → Slot → Bool → Locals → Code
post_decided c slot true inner = finished c slot inner
post_decided c slot false inner = fault Post c.place

-- the result, where one came
abbrev pub result_local : Slot → Locals
result_local Unset = []
result_local (Held v) = (result_name, Held v) ∷ []

abbrev pub post_of : Calling → Option ExprTree → Slot → Locals → Code
post_of c None slot inner = finished c slot inner
post_of c (Some post) slot inner = decided (calling_here c) (inner ++ result_local slot) post c.place (post_decided c slot)

-- `post`, and then the end
abbrev pub result_given : Calling → Slot → Locals → Code
result_given c slot inner = post_of c c.operation.post slot inner

abbrev pub value_given : Calling → ValueTree → Locals → Code
value_given c v inner = result_given c (Held v) inner

-- a result that is due has to come: only a constructor owes none
abbrev pub unless_due : Calling → Bool → Locals → Code
unless_due c true inner = result_given c Unset inner
unless_due c false inner = fault NoReturn c.place

-- a result against the declared type, if there is one; else none may come
abbrev pub left_with : SpecTree → Calling → Option TypeTree → Slot → Locals → Code
left_with spec c None Unset inner = result_given c Unset inner
left_with spec c None (Held v) inner = fault TypeFault c.place
left_with spec c (Some declared) Unset inner = unless_due c (is_constructor c) inner
left_with spec c (Some declared) (Held v) inner = typed spec no_nest (Some c.op.class) declared c.place (value_given c) v inner

-- What follows the body, before which so many locals stood: an exit that left it asks to finish first.
abbrev pub body_left : SpecTree → Calling → ℕ → Flow → Code
body_left spec c count (gave slot inner) = fault Undefined c.place
body_left spec c count (next inner) = left_with spec c c.operation.result_type Unset (take count inner)
body_left spec c count (returned slot inner) = left_with spec c c.operation.result_type slot (take count inner)
body_left spec c count (exited v from inner) = ask (noted (Fin c.me c.op)) (λ _. finish (exited v from inner))

-- ---- the body

-- a body that is not written is undefined at the call
abbrev pub body_of : SpecTree → Calling → Body StmtTree → Locals → Code
body_of spec c (written body) inner = part (stmt_in (at (calling_here c) inner) [] body) (body_left spec c (length inner))
body_of spec c _ inner = fault Undefined c.place

abbrev pub pre_decided : SpecTree → Calling → Bool → Locals → Code
pre_decided spec c true inner = body_of spec c c.operation.body inner
pre_decided spec c false inner = fault Pre c.place

abbrev pub pre_of : SpecTree → Calling → Option ExprTree → Locals → Code
pre_of spec c None inner = body_of spec c c.operation.body inner
pre_of spec c (Some pre) inner = decided (calling_here c) inner pre c.place (pre_decided spec c)

-- the parameters meet the arguments, with the values of the expressions in brackets in their patterns; then `pre` follows
abbrev pub bound : SpecTree → Calling → List ValueTree → Locals → Code
bound spec c given inner =
    met spec (Some c.op.class) c.place c.operation.patterns c.arguments (pre_of spec c c.operation.pre) (λ missed. fault NoMatch c.place) given inner

abbrev pub binds : SpecTree → Calling → Locals → Code
binds spec c inner = collected (calling_here c) c.place (exprs_of (flat_map given_in c.operation.patterns)) [] (bound spec c) inner

-- ---- its begin

-- what variables hold before the body, for `x~`; the parameters follow
abbrev pub olds_read : SpecTree → Calling → List Old → Locals → Code
olds_read spec c [] inner = binds spec c inner
olds_read spec c (old ∷ olds) inner =
    ask (noted (Read old.object old.var)) (λ answer. olds_read spec c olds (inner ++ (old_name old.name, slot_in answer) ∷ []))

-- however the call is left, the locals are again those of the node that calls
abbrev pub back : Locals → Flow → Code
back outer flow = finish (with_locals outer flow)

-- the call begins, and reads these variables first
abbrev pub begun : SpecTree → Calling → List Old → Locals → Code
begun spec c olds outer = bind (olds_read spec c olds []) (back outer)

-- ... unless a permission failed, which is a fault at the call
abbrev pub begins : SpecTree → Calling → List Old → Locals → Answer → Code
begins spec c olds outer (Inner inner) = fault GuardFault c.place
begins spec c olds outer _ = begun spec c olds outer

-- what follows the activation
abbrev pub activated : SpecTree → Calling → Locals → Answer → Code
activated spec c = begins spec c (old_variables spec c)

-- behind the request the activation is asked for
abbrev pub acting : SpecTree → Calling → Locals → Answer → Code
acting spec c outer answer = ask (noted (Act c.me c.op)) (activated spec c outer)

abbrev pub requested : SpecTree → Calling → Locals → Code
requested spec c outer = ask (noted (Req c.me c.op)) (acting spec c outer)

-- ---- the arguments

-- values against types, in a class, in order: each is tested at the place beside it
abbrev pub values_typed : SpecTree → Option Name → List TypeTree → List Place → List ValueTree → (Locals → Code) → Locals → Code
values_typed spec scope (t ∷ ts) (place ∷ places) (v ∷ vs) further locals =
    typed spec no_nest scope t place (λ fitting_v after. values_typed spec scope ts places vs further after) v locals
values_typed spec scope _ _ _ further locals = further locals

-- the arguments with their places are tested, and then the call is asked for
abbrev pub called : SpecTree → ℕ → Name → OpRef → OperationTree → List ValueTree → List Place → Place → Giving → Locals → Code
called spec me own op operation vs places place gives locals =
    values_typed spec (Some op.class) operation.parameters places vs
    (requested spec (record { me = me; own = own; op = op; operation = operation; arguments = vs; place = place; gives = gives })) locals
