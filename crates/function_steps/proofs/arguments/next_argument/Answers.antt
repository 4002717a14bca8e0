use Rattle.std.proofs.Common.{◌≡◌, ◌<◌, ◌∷◌, ◌+◌, length, get_or, rules}
use Rattle.abstract_syntax.specs.Expressions.{expr_place}
use Rattle.expr_tree.specs.View.{view_of}
use Rattle.function_steps.proofs.Dropped.{next_typed}
use Rattle.function_steps.proofs.arguments.next_argument.Goals as goal

pub returns : goal.returns
returns c = λ spec locals.
    let p = c.args.passing.now in
    let typed_as : p.types.now ≡ c.in-Some.declared.now ∷ c.in-Some.types.now = search rules in
    let es : c.deref.result.now ≡ p.arguments.now.items = search rules in
    let vs : c.as_slice.result.now ≡ p.values = search rules in
    let tree = c.in-Some-get.tree.now in
    let v = c.in-Some-get-2.value.now in
    let below : p.tested < length p.arguments.now.items = (rw es at c.in-Some-get.ensures.lookup.3.0) in
    let there : tree ≡ get_or p.arguments.now.items p.tested tree = (rw es at c.in-Some-get.ensures.lookup.1) in
    let within : p.tested < length p.values = (rw vs at c.in-Some-get-2.ensures.lookup.3.0) in
    let held : v ≡ get_or p.values p.tested v = (rw vs at c.in-Some-get-2.ensures.lookup.1) in
    let copied : c.in_ok-value.value ≡ c.in-Some-get-2.value.now = search rules in
    let placed : c.place.result ≡ expr_place (view_of c.in-Some-get.tree.now) = search rules in
    let next : c.in_ok-passing.field-0 ≡ p.tested + 1 = search rules in
    next_typed spec locals p c.in-Some.declared.now c.in-Some.types _ _ _ _ _ typed_as below there within held copied placed next
