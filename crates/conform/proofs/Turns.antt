-- Each turn of a test stands where the turn before it stood.
use Rattle.std.proofs.Common.{◌≡◌, ℕ, Bool, true, false, List, [], ◌∷◌, ◌++◌, map, Option, Some, None, Result, Ok, Err, IfOk, refl, ap, sym, ◌∙◌}
use Rattle.std.specs.Borrow.{Bor}
use Rattle.vdm_kinds.specs.declared.name.Name.{Name}
use Rattle.abstract_syntax.specs.Types.{TypeTree}
use Rattle.abstract_syntax.specs.Classes.{TypeDefTree}
use Rattle.abstract_syntax.specs.Values.{ValueTree}
use Rattle.expr_tree.specs.Alternatives.{Finder}
use Rattle.type_tree.specs.TypeView.{type_view, type_views, type_trees}
use Rattle.expr_tree.specs.TypeDefView.{type_def_view}
use Rattle.type_meaning.specs.Tests.{Tests, no_tests, holds, one_holds, followed_by, both}
use Rattle.type_meaning.specs.Shapes.{tests_of, choices_of}
use Rattle.conform.specs.declared.test.Test as Test
use Rattle.conform.specs.declared.test.Test.{Test}
use Rattle.conform.specs.declared.goal.Goal.{Goal}
use Rattle.conform.specs.declared.goal.Next.{Next}
use Rattle.conform.specs.declared.goal.Next.TheVariants.{Fails, Holds, Tests as TestsGoal}
use Rattle.conform.specs.declared.frame.Frame.{Frame}
use Rattle.conform.specs.Frames.{with_found, found_in, frame_then, through, next_tests, result_of, stands}

-- an equation of what came, where something did
pub moved : {T E A : Type 0} (r : Result T E) (f : T → A) (x y : A) → x ≡ y → IfOk r (λ t. f t ≡ x) → IfOk r (λ t. f t ≡ y)
moved (Ok t) f x y e h = h ∙ e
moved (Err w) f x y e h = tt

-- ---- what has to hold, joined

followed-nothing : (t : Tests) → followed_by t no_tests ≡ t
followed-nothing no_tests = refl
followed-nothing (holds d v t) = ap (holds d v) (followed-nothing t)
followed-nothing (one_holds cs t) = ap (one_holds cs) (followed-nothing t)

followed-assoc : (a b c : Tests) → followed_by (followed_by a b) c ≡ followed_by a (followed_by b c)
followed-assoc no_tests b c = refl
followed-assoc (holds d v a) b c = ap (holds d v) (followed-assoc a b c)
followed-assoc (one_holds cs a) b c = ap (one_holds cs) (followed-assoc a b c)

pub both-assoc : (a b c : Option Tests) → both (both a b) c ≡ both a (both b c)
both-assoc None b c = refl
both-assoc (Some x) None c = refl
both-assoc (Some x) (Some y) None = refl
both-assoc (Some x) (Some y) (Some z) = ap Some (followed-assoc x y z)

pub both-nothing : (a : Option Tests) → both a (Some no_tests) ≡ a
both-nothing None = refl
both-nothing (Some x) = ap Some (followed-nothing x)

pub nothing-both : (a : Option Tests) → both (Some no_tests) a ≡ a
nothing-both None = refl
nothing-both (Some x) = refl

module _ (find : Finder) (descends : Name → Name → Bool) (rank : TypeDefTree → ℕ) where
  -- the innermost stands last
  pub through-push : (frames : List Frame) (frame : Frame) (r : Option Tests)
      → through find descends rank (frames ++ frame ∷ []) r ≡ through find descends rank frames (frame_then find descends rank frame r)
  through-push [] frame r = refl
  through-push (first ∷ frames) frame r = ap (frame_then find descends rank first) (through-push frames frame r)

  abbrev pub Found : List Test → Option Tests
  Found tests = Some (found_in find descends rank tests)

  -- a part is tested first, and what waits for it goes on with the rest
  pub pushed : (frames now : List Frame) (frame : Frame) (found : List Test) (goal : Goal) (rest all : Option Tests)
      → now ≡ frames ++ frame ∷ []
      → ((r : Option Tests) → frame_then find descends rank frame r ≡ both r rest)
      → both (tests_of find descends rank goal.value.now goal.scope (type_view goal.declared.now)) rest ≡ all
      → stands find descends rank found now (TestsGoal goal) ≡ through find descends rank frames (both (Found found) all)
  pushed frames now frame found goal rest all is goes whole =
      ap (λ fs. through find descends rank fs (result_of find descends rank (found_in find descends rank found) (TestsGoal goal))) is
      ∙ through-push frames frame (result_of find descends rank (found_in find descends rank found) (TestsGoal goal))
      ∙ ap (through find descends rank frames)
      (goes (result_of find descends rank (found_in find descends rank found) (TestsGoal goal))
      ∙ both-assoc (Found found) (tests_of find descends rank goal.value.now goal.scope (type_view goal.declared.now)) rest
      ∙ ap (both (Found found)) whole)

  -- nothing is left
  pub at_end : (frames : List Frame) (found : List Test) (all : Option Tests) → Some no_tests ≡ all
      → stands find descends rank found frames Holds ≡ through find descends rank frames (both (Found found) all)
  at_end frames found all e =
      ap (through find descends rank frames) (sym (both-nothing (Found found)) ∙ ap (both (Found found)) e)

  -- a step that takes nothing and leaves nothing
  pub by_next : (frames : List Frame) (found : List Test) (next : Next) (all : Option Tests) → next_tests find descends rank next ≡ all
      → stands find descends rank found frames next ≡ through find descends rank frames (both (Found found) all)
  by_next frames found Fails all e = ap (λ r. through find descends rank frames (both (Found found) r)) e
  by_next frames found Holds all e = at_end frames found all e
  by_next frames found (TestsGoal goal) all e = ap (λ r. through find descends rank frames (both (Found found) r)) e

  -- what waits innermost takes a result
  pub popped : (frames left : List Frame) (frame : Frame) (found : Tests) (next : Next)
      → frames ≡ left ++ frame ∷ []
      → through find descends rank left (frame_then find descends rank frame (result_of find descends rank found next))
      ≡ through find descends rank frames (result_of find descends rank found next)
  popped frames left frame found next is =
      sym (ap (λ fs. through find descends rank fs (result_of find descends rank found next)) is
      ∙ through-push left frame (result_of find descends rank found next))

  -- what is found stands behind what was
  pub found-push : (tests : List Test) (test : Test)
      → found_in find descends rank (tests ++ test ∷ []) ≡ followed_by (found_in find descends rank tests) (with_found find descends rank test no_tests)
  found-push [] test = refl
  found-push (Test.Holds d v ∷ tests) test = ap (holds (type_def_view d.now) v) (found-push tests test)
  found-push (Test.OneHolds scope types v ∷ tests) test =
      ap (one_holds (choices_of find descends rank v scope (type_trees (type_views types.now)))) (found-push tests test)

  -- what is found behind what was, with nothing else
  pub kept : (frames : List Frame) (found : List Test) (all : Option Tests) → Found found ≡ all
      → stands find descends rank found frames Holds ≡ through find descends rank frames all
  kept frames found all e = ap (through find descends rank frames) e
