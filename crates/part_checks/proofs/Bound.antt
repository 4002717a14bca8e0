-- What the patterns of parameters bind, one behind the other.
use Rattle.std.specs.Prelude.{◌≡◌, List, [], ◌∷◌, ◌++◌, Option, Some, None, option_map}
use Rattle.std.specs.Borrow.{Bor}
use Rattle.std.specs.Slice.{IsItemAt}
use Rattle.std.proofs.Common.{ℕ, zero, suc, ◌+◌, ◌<◌, ◌≤◌, length, get_or, slice_get, drop, refl, ap, sym, ◌∙◌, arith}
use Rattle.std.proofs.lemmas.List.{drop_more, drop_all}
use Rattle.std.proofs.lemmas.Option.{slice_get_past, slice_get_read}
use Rattle.vdm_kinds.specs.declared.name.Name.{Name}
use Rattle.abstract_syntax.specs.Classes.{SpecTree}
use Rattle.abstract_syntax.specs.Types.{TypeTree}
use Rattle.abstract_syntax.specs.Expressions.{PatternTree}
use Rattle.type_tree.specs.TypeView.{type_view, type_views}
use Rattle.type_tree.specs.declared.type_expr.TypeExpr.{TypeExpr}
use Rattle.expr_tree.specs.View.{pattern_view, pattern_views}
use Rattle.expr_tree.specs.declared.pattern.Pattern.{Pattern}
use Rattle.form_meaning.specs.Forms.{FormTree}
use Rattle.spec_checks.specs.Definitions.{parameters_bind}
use Rattle.class_checks.specs.Patterns.{binds}
use Rattle.class_checks.specs.Scopes.{LocalForm, Locals, ScopeTree, all_bound, bound_too, type_scope}
use Rattle.part_checks.specs.Binding.{parameter_form_in}

all_bound-++ : (xs ys : List LocalForm) (locals : Locals) → all_bound (xs ++ ys) locals ≡ all_bound ys (all_bound xs locals)
all_bound-++ [] ys locals = refl
all_bound-++ (x ∷ xs) ys locals = all_bound-++ xs ys (bound_too x locals)

-- the type of a parameter, where there is one
type_at : (ts : List TypeExpr) (i : ℕ) (r : Option (Bor TypeExpr)) → IsItemAt ts i r
    → option_map (λ (t : Bor TypeExpr). type_view t.now) r ≡ option_map type_view (slice_get ts i)
type_at ts i None h = ap (option_map type_view) (sym (slice_get_past ts i h.3))
type_at ts i (Some x) h = ap (option_map type_view) (sym (slice_get_read ts (length ts) i x.now refl h.3.0 h.1))

module _ (spec : SpecTree) (class : Name) (scope : ScopeTree) where
  none_bound : (ts : List TypeTree) → parameters_bind spec class scope ts [] ≡ []
  none_bound [] = refl
  none_bound (t ∷ ts) = refl

  -- the first of the patterns that are left
  first_bound : (ts : List TypeExpr) (i : ℕ) (p : PatternTree) (ps : List PatternTree)
      → parameters_bind spec class scope (type_views (drop i ts)) (p ∷ ps)
      ≡ binds spec (type_scope scope) (parameter_form_in spec class (option_map type_view (slice_get ts i))) p
      ++ parameters_bind spec class scope (type_views (drop (suc i) ts)) ps
  first_bound [] zero p ps = refl
  first_bound [] (suc i) p ps = refl
  first_bound (t ∷ ts) zero p ps = refl
  first_bound (t ∷ ts) (suc i) p ps = first_bound ts i p ps

  pub bound_turn : (ts : List TypeExpr) (ps : List Pattern) (i : ℕ) (p : Pattern) (r : Option (Bor TypeExpr)) (form : FormTree) (before later whole : Locals)
      → p ≡ get_or ps i p → i < length ps → IsItemAt ts i r
      → form ≡ parameter_form_in spec class (option_map (λ (t : Bor TypeExpr). type_view t.now) r)
      → later ≡ all_bound (binds spec (type_scope scope) form (pattern_view p)) before
      → all_bound (parameters_bind spec class scope (type_views (drop i ts)) (pattern_views (drop i ps))) before ≡ whole
      → all_bound (parameters_bind spec class scope (type_views (drop (i + 1) ts)) (pattern_views (drop (i + 1) ps))) later ≡ whole
  bound_turn ts ps i p r form before later whole is below at form_is told so_far =
      let more : i + 1 ≡ suc i = omega arith in
      let rest : List PatternTree = pattern_views (drop (i + 1) ps) in
      let form_at : form ≡ parameter_form_in spec class (option_map type_view (slice_get ts i)) = form_is ∙ ap (parameter_form_in spec class) (type_at ts i r at) in
      let found : List LocalForm = binds spec (type_scope scope) (parameter_form_in spec class (option_map type_view (slice_get ts i))) (pattern_view p) in
      let left : List LocalForm = parameters_bind spec class scope (type_views (drop (suc i) ts)) rest in
      ap (λ (n : ℕ). all_bound (parameters_bind spec class scope (type_views (drop n ts)) rest) later) more
      ∙ ap (all_bound left) told
      ∙ ap (λ (f : FormTree). all_bound left (all_bound (binds spec (type_scope scope) f (pattern_view p)) before)) form_at
      ∙ sym (all_bound-++ found left before)
      ∙ ap (λ (found : List LocalForm). all_bound found before) (sym (first_bound ts i (pattern_view p) rest))
      ∙ ap (λ (q : Pattern). all_bound (parameters_bind spec class scope (type_views (drop i ts)) (pattern_view q ∷ rest)) before) is
      ∙ ap (λ (qs : List Pattern). all_bound (parameters_bind spec class scope (type_views (drop i ts)) (pattern_views qs)) before) (sym (drop_more ps i p below))
      ∙ so_far

  pub bound_past : (ts : List TypeExpr) (ps : List Pattern) (i : ℕ) (now whole : Locals) → length ps ≤ i
      → all_bound (parameters_bind spec class scope (type_views (drop i ts)) (pattern_views (drop i ps))) now ≡ whole → now ≡ whole
  bound_past ts ps i now whole past so_far =
      ap (λ (found : List LocalForm). all_bound found now) (sym (none_bound (type_views (drop i ts))))
      ∙ ap (λ (qs : List Pattern). all_bound (parameters_bind spec class scope (type_views (drop i ts)) (pattern_views qs)) now) (sym (drop_all i ps past))
      ∙ so_far
