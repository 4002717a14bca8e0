-- Lists that have items, and lists that have none.
use Rattle.std.proofs.Common.{◌≡◌, ◌≤◌, List, [], ◌∷◌, length, map, true, false, Option, Result, Ok, Err, IfOk, refl, ◌∙◌, arith}
use Rattle.vdm_kinds.specs.declared.halt.OutOfMemory.{OutOfMemory}
use Rattle.vdm_kinds.specs.declared.place.Place.{Place}
use Rattle.abstract_syntax.specs.Expressions.{ExprTree, ExprTrees, no_exprs, one_expr}
use Rattle.expr_tree.specs.declared.parts.Maplet.{Maplet}
use Rattle.expr_tree.specs.View.{maplet_trees, maplet_view}
use Rattle.grammar_trees.specs.Frames.{Frame, Listed, has, set_of, sequence_of, tuple_of, record_of, new_of, applied_to}
use Rattle.grammar_trees.specs.Lists.{and_expr}
use Rattle.grammar_trees.specs.Machine.{Stop, behind_first, closes_list, whole_list, in_mode}
use Rattle.tree_frames.specs.declared.frame.Frame.{Frame as Kept}
use Rattle.tree_frames.specs.declared.mode.Mode.{Mode}
use Rattle.tree_frames.specs.Views.{stack_view, state_view}
use Rattle.tree_nodes.specs.Emptiness.{is_empty_exprs, is_empty_maplets}

pub maplets-more : (items : List Maplet) → 1 ≤ length items → false ≡ is_empty_maplets (maplet_trees (map maplet_view items))
maplets-more [] h = absurd (omega arith)
maplets-more (item ∷ items) h = refl

-- an item that is the first
item-first : (listed : Listed) (es : ExprTrees) (e : ExprTree) (place : Place) (stop : Stop) (fs : List Frame) → is_empty_exprs es ≡ true
    → behind_first listed no_exprs e place stop fs ≡ behind_first listed es e place stop fs
item-first listed no_exprs e place stop fs first = refl
item-first listed (one_expr x es) e place stop fs first = absurd (cc)

-- an item behind others
item-behind : (listed : Listed) (es : ExprTrees) (e : ExprTree) (place : Place) (stop : Stop) (fs : List Frame) → is_empty_exprs es ≡ false
    → closes_list listed stop (in_mode (has (whole_list listed (and_expr es e) place)) fs) ≡ behind_first listed es e place stop fs
item-behind listed no_exprs e place stop fs more = absurd (cc)
item-behind set_of (one_expr x es) e place stop fs more = refl
item-behind sequence_of (one_expr x es) e place stop fs more = refl
item-behind tuple_of (one_expr x es) e place stop fs more = refl
item-behind (record_of type_name) (one_expr x es) e place stop fs more = refl
item-behind (new_of class class_place) (one_expr x es) e place stop fs more = refl
item-behind (applied_to head) (one_expr x es) e place stop fs more = refl

pub behind-none : (r : Result (Option Mode) OutOfMemory) (now : List Kept) (listed : Listed) (es : ExprTrees) (e : ExprTree) (place : Place) (stop : Stop) (fs : List Frame) → is_empty_exprs es ≡ true
    → IfOk r (λ next. state_view next now ≡ behind_first listed no_exprs e place stop fs) → IfOk r (λ next. state_view next now ≡ behind_first listed es e place stop fs)
behind-none (Ok next) now listed es e place stop fs first h = h ∙ item-first listed es e place stop fs first
behind-none (Err x) now listed es e place stop fs first h = tt

pub behind-others : (r : Result (Option Mode) OutOfMemory) (now : List Kept) (listed : Listed) (es : ExprTrees) (e : ExprTree) (place : Place) (stop : Stop) → is_empty_exprs es ≡ false
    → IfOk r (λ next. (frames : List Kept) → state_view next frames ≡ closes_list listed stop (in_mode (has (whole_list listed (and_expr es e) place)) (stack_view frames)))
    → IfOk r (λ next. state_view next now ≡ behind_first listed es e place stop (stack_view now))
behind-others (Ok next) now listed es e place stop more h = h now ∙ item-behind listed es e place stop (stack_view now) more
behind-others (Err x) now listed es e place stop more h = tt
