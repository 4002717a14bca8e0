-- Parameters before they meet the arguments: the expressions in brackets in their patterns.
use Rattle.std.proofs.Common.{◌≡◌, ℕ, ◌+◌, ◌<◌, List, [], ◌∷◌, ◌++◌, Box, Bor, Global, drop, get_or, length, ap, sym, subst, ◌∙◌}
use Rattle.std.proofs.lemmas.List.{drop_more, drop-map}
use Rattle.abstract_syntax.specs.Classes.{SpecTree}
use Rattle.abstract_syntax.specs.Expressions.{ExprTree}
use Rattle.abstract_syntax.specs.Values.{ValueTree}
use Rattle.expr_tree.specs.View.{boxed_view}
use Rattle.expr_tree.specs.declared.expr.Expr.{Expr}
use Rattle.node_meaning.specs.Envs.{Locals}
use Rattle.node_meaning.specs.Matching.{exprs_of}
use Rattle.node_meaning.specs.Strict.{collected}
use Rattle.node_meaning.specs.Tasks.{Code}
use Rattle.stmt_meaning.specs.Calling.{calling_here}
use Rattle.stmt_meaning.specs.Calls.{bound}
use Rattle.eval_data.specs.Parts.{boxed_list}
use Rattle.step_data.specs.declared.calling.Binding.{Binding}
use Rattle.step_data.specs.Callings.{calling_of}

-- the expression at a number
pub one_there : (found : List (Bor (Box Expr Global))) (k : ℕ) (e : Bor (Box Expr Global)) → k < length found → e ≡ get_or found k e
    → drop k (boxed_list found) ≡ boxed_view e.now ∷ drop (k + 1) (boxed_list found)
one_there found k e within is =
    drop-map (λ (x : Bor (Box Expr Global)). boxed_view x.now) k found
    ∙ ap boxed_list (drop_more found k e within)
    ∙ ap (λ (x : Bor (Box Expr Global)). boxed_view x.now ∷ boxed_list (drop (k + 1) found)) (sym is)
    ∙ ap (λ (es : List ExprTree). boxed_view e.now ∷ es) (sym (drop-map (λ (x : Bor (Box Expr Global)). boxed_view x.now) (k + 1) found))

-- the expressions that are left behind those whose values came
abbrev pub brackets_left : Binding → List ExprTree
brackets_left b = drop b.next (boxed_list b.found.items)

-- those that are left, and then the parameters, with these values
abbrev pub brackets_then : SpecTree → Binding → List ExprTree → List ValueTree → Locals → Code
brackets_then spec b trees values =
    collected (calling_here (calling_of b.call.value)) b.call.value.place (exprs_of trees) values (bound spec (calling_of b.call.value))

-- ... where one value more came
pub with_value_more : (spec : SpecTree) (binding lent more : Binding) (v : ValueTree) (locals : Locals)
    → lent ≡ binding → more ≡ record lent { given = more.given } → more.given.items ≡ lent.given.items ++ v ∷ []
    → brackets_then spec more (brackets_left more) more.given.items locals ≡ brackets_then spec binding (brackets_left binding) (binding.given.items ++ v ∷ []) locals
with_value_more spec binding lent more v locals same kept added =
    ap (λ (b : Binding). brackets_then spec b (brackets_left b) more.given.items locals) kept
    ∙ ap (λ (vs : List ValueTree). brackets_then spec lent (brackets_left lent) vs locals) added
    ∙ ap (λ (b : Binding). brackets_then spec b (brackets_left b) (b.given.items ++ v ∷ []) locals) same

-- the next of them
pub next_left : (binding lent : Binding) (tree : ExprTree) (next : ℕ) → lent ≡ binding
    → brackets_left lent ≡ tree ∷ drop next (boxed_list lent.found.items) → brackets_left binding ≡ tree ∷ drop next (boxed_list binding.found.items)
next_left binding lent tree next same is = subst (λ (b : Binding). brackets_left b ≡ tree ∷ drop next (boxed_list b.found.items)) same is

pub none_left : (binding lent : Binding) → lent ≡ binding → brackets_left lent ≡ [] → brackets_left binding ≡ []
none_left binding lent same none = subst (λ (b : Binding). brackets_left b ≡ []) same none
