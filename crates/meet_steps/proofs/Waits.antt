-- A pattern before it meets its value: the expressions in brackets in it.
use Rattle.std.proofs.Common.{◌≡◌, ℕ, ◌+◌, ◌<◌, List, [], ◌∷◌, ◌++◌, Box, Bor, Global, drop, get_or, length, ap, sym, subst, ◌∙◌}
use Rattle.std.proofs.lemmas.List.{drop_more, drop-map}
use Rattle.abstract_syntax.specs.Classes.{SpecTree}
use Rattle.abstract_syntax.specs.Expressions.{ExprTree}
use Rattle.abstract_syntax.specs.Values.{ValueTree}
use Rattle.expr_tree.specs.View.{boxed_view, pattern_view}
use Rattle.expr_tree.specs.declared.expr.Expr.{Expr}
use Rattle.pattern_meaning.specs.Brackets.{given_in}
use Rattle.node_meaning.specs.Envs.{Locals}
use Rattle.node_meaning.specs.Matching.{exprs_of}
use Rattle.node_meaning.specs.Strict.{collected, with_others}
use Rattle.node_meaning.specs.Tasks.{Code, evaluated}
use Rattle.eval_data.specs.Parts.{boxed_list, here_of}
use Rattle.step_data.specs.declared.meeting.Given.{Given}
use Rattle.step_data.specs.declared.meeting.Meeting.{Meeting}
use Rattle.step_data.specs.Meetings.{meets_value, met_value}

module _ (spec : SpecTree) (m : Meeting) (found : List ExprTree) (all : found ≡ given_in (pattern_view m.pattern.now)) where
  -- the first of them comes first
  pub waits : (first : ExprTree) (locals : Locals) → found ≡ first ∷ drop 1 found
      → evaluated (here_of m.here) locals first m.place (with_others (here_of m.here) m.place (exprs_of (drop 1 found)) [] (met_value spec m))
      ≡ meets_value spec m locals
  waits first locals is = ap (λ (es : List ExprTree). collected (here_of m.here) m.place (exprs_of es) [] (met_value spec m) locals) (sym is ∙ all)

-- the first of them, where they were lent
pub first_lent : (lent found : List (Bor (Box Expr Global))) (first : ExprTree) → lent ≡ found
    → boxed_list lent ≡ first ∷ drop 1 (boxed_list lent) → boxed_list found ≡ first ∷ drop 1 (boxed_list found)
first_lent lent found first same is = subst (λ (es : List (Bor (Box Expr Global))). boxed_list es ≡ first ∷ drop 1 (boxed_list es)) same is

-- the expression at a number
pub one_there : (found : List (Bor (Box Expr Global))) (k : ℕ) (e : Bor (Box Expr Global)) → k < length found → e ≡ get_or found k e
    → drop k (boxed_list found) ≡ boxed_view e.now ∷ drop (k + 1) (boxed_list found)
one_there found k e within is =
    drop-map (λ (x : Bor (Box Expr Global)). boxed_view x.now) k found
    ∙ ap boxed_list (drop_more found k e within)
    ∙ ap (λ (x : Bor (Box Expr Global)). boxed_view x.now ∷ boxed_list (drop (k + 1) found)) (sym is)
    ∙ ap (λ (es : List ExprTree). boxed_view e.now ∷ es) (sym (drop-map (λ (x : Bor (Box Expr Global)). boxed_view x.now) (k + 1) found))

-- ---- behind one of them

-- the expressions that are left behind those whose values came
abbrev pub brackets_left : Given → List ExprTree
brackets_left g = drop g.next (boxed_list g.found.items)

-- those that are left, and then the pattern, with these values
abbrev pub brackets_then : SpecTree → Given → List ExprTree → List ValueTree → Locals → Code
brackets_then spec g trees values = collected (here_of g.meeting.here) g.meeting.place (exprs_of trees) values (met_value spec g.meeting)

-- ... where one value more came
pub with_value_more : (spec : SpecTree) (given lent more : Given) (v : ValueTree) (locals : Locals)
    → lent ≡ given → more ≡ record lent { given = more.given } → more.given.items ≡ lent.given.items ++ v ∷ []
    → brackets_then spec more (brackets_left more) more.given.items locals ≡ brackets_then spec given (brackets_left given) (given.given.items ++ v ∷ []) locals
with_value_more spec given lent more v locals same kept added =
    ap (λ (g : Given). brackets_then spec g (brackets_left g) more.given.items locals) kept
    ∙ ap (λ (vs : List ValueTree). brackets_then spec lent (brackets_left lent) vs locals) added
    ∙ ap (λ (g : Given). brackets_then spec g (brackets_left g) (g.given.items ++ v ∷ []) locals) same

-- the next of them
pub next_left : (given lent : Given) (tree : ExprTree) (next : ℕ) → lent ≡ given
    → brackets_left lent ≡ tree ∷ drop next (boxed_list lent.found.items) → brackets_left given ≡ tree ∷ drop next (boxed_list given.found.items)
next_left given lent tree next same is = subst (λ (g : Given). brackets_left g ≡ tree ∷ drop next (boxed_list g.found.items)) same is

pub none_left : (given lent : Given) → lent ≡ given → brackets_left lent ≡ [] → brackets_left given ≡ []
none_left given lent same none = subst (λ (g : Given). brackets_left g ≡ []) same none
