-- Arguments behind the first so many.
use Rattle.std.proofs.Common.{◌≡◌, ℕ, zero, suc, ◌+◌, refl, Some, List, [], ◌∷◌, drop, length, ◌<◌, get_or, arith, ap, sym, ◌∙◌, add-one, Bor}
use Rattle.vdm_kinds.specs.declared.place.Place.{Place}
use Rattle.abstract_syntax.specs.Classes.{SpecTree}
use Rattle.abstract_syntax.specs.Expressions.{expr_place}
use Rattle.abstract_syntax.specs.Values.{ValueTree}
use Rattle.expr_tree.specs.View.{view_of, views_of, expr_trees}
use Rattle.expr_tree.specs.declared.expr.Expr.{Expr}
use Rattle.type_tree.specs.TypeView.{type_view, type_views}
use Rattle.type_tree.specs.declared.type_expr.TypeExpr.{TypeExpr}
use Rattle.vdm_tree.specs.ClassView.{function_view}
use Rattle.node_meaning.specs.Envs.{Locals}
use Rattle.node_meaning.specs.Fitting.{typed, arguments_typed}
use Rattle.node_meaning.specs.Functions.{begun}
use Rattle.node_meaning.specs.Tasks.{Code}
use Rattle.eval_data.specs.declared.fitting.Passing.{Passing}
use Rattle.eval_data.specs.Parts.{nest_of}
use Rattle.eval_data.specs.Steps.{arguments_left}

dropped_at : {A : Type 0} (xs : List A) (n : ℕ) (x : A) → n < length xs → x ≡ get_or xs n x → drop n xs ≡ x ∷ drop (suc n) xs
dropped_at [] n x l h = absurd (omega arith)
dropped_at (y ∷ ys) zero x l h = ap (λ z. z ∷ ys) (sym h)
dropped_at (y ∷ ys) (suc n) x l h = dropped_at ys n x (omega arith) h

views_dropped : (n : ℕ) (xs : List Expr) → drop n (views_of xs) ≡ views_of (drop n xs)
views_dropped zero xs = refl
views_dropped (suc n) [] = refl
views_dropped (suc n) (x ∷ xs) = views_dropped n xs

tree_at : (xs : List Expr) (n : ℕ) (x : Expr) → n < length xs → x ≡ get_or xs n x → drop n (views_of xs) ≡ view_of x ∷ drop (suc n) (views_of xs)
tree_at xs n x l h =
    views_dropped n xs ∙ ap views_of (dropped_at xs n x l h) ∙ ap (λ ts. view_of x ∷ ts) (sym (views_dropped (suc n) xs))

-- the next argument is tested before those behind it
pub next_typed : (spec : SpecTree) (locals : Locals) (p : Passing) (declared : TypeExpr) (types : Bor (List TypeExpr)) (k : ℕ) (tree : Expr) (v copy : ValueTree) (place : Place)
    → p.types.now ≡ declared ∷ types.now
    → p.tested < length p.arguments.now.items → tree ≡ get_or p.arguments.now.items p.tested tree
    → p.tested < length p.values → v ≡ get_or p.values p.tested v
    → copy ≡ v → place ≡ expr_place (view_of tree) → k ≡ p.tested + 1
    → arguments_left spec p locals
    ≡ typed spec (nest_of p.nest) (Some p.op.class) (type_view declared) place (λ w. arguments_left spec (record p { types = types; tested = k })) copy locals
next_typed spec locals p declared types k tree v copy place typed_as below there within held copied placed next =
    let n = nest_of p.nest in
    let further : Locals → Code = begun spec p.op.class (function_view p.function.now) p.place n p.values in
    let behind : k ≡ suc p.tested = next ∙ add-one p.tested in
    ap (λ ts. arguments_typed spec n (Some p.op.class) (type_views ts) (expr_trees (drop p.tested (views_of p.arguments.now.items))) (drop p.tested p.values) further locals) typed_as
    ∙ ap (λ es. arguments_typed spec n (Some p.op.class) (type_views (declared ∷ types.now)) (expr_trees es) (drop p.tested p.values) further locals) (tree_at p.arguments.now.items p.tested tree below there)
    ∙ ap (λ vs. arguments_typed spec n (Some p.op.class) (type_views (declared ∷ types.now)) (expr_trees (view_of tree ∷ drop (suc p.tested) (views_of p.arguments.now.items))) vs further locals)
    (dropped_at p.values p.tested v within held)
    ∙ (λ i. typed spec n (Some p.op.class) (type_view declared) (sym placed i)
    (λ w after. arguments_typed spec n (Some p.op.class) (type_views types.now) (expr_trees (drop (sym behind i) (views_of p.arguments.now.items))) (drop (sym behind i) p.values) further after)
    (sym copied i) locals)
