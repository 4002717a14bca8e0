-- What an action weighs with what waits for it.
use Rattle.std.proofs.Common.{◌≡◌, ◌≤◌, ◌<◌, ℕ, suc, ◌+◌, List, [], ◌∷◌, ◌++◌, Result, Ok, Err, IfOk, ap, arith}
use Rattle.vdm_kinds.specs.declared.halt.OutOfMemory.{OutOfMemory}
use Rattle.eval_data.specs.declared.flow.Flow.{Flow}
use Rattle.step_data.specs.declared.action.Action.{Action}
use Rattle.step_data.specs.declared.action.Action.TheVariants.{Finish as Done, Fail, Uncaught, Ask, Part, Become, Round as OfRound, Block, Test, Fit, Begin, Need}
use Rattle.step_data.specs.declared.level.Level.{Level}
use Rattle.step_data.specs.declared.waiting.Waiting.{Waiting}
use Rattle.step_data.specs.declared.waiting.Waiting.TheVariants.{Expr, After, Called, Rest, Cut as CutTo, Local, LocalFits, Assign, Store, Index, Join, GoalFits, Return, Argument, Back, Parameters, Pre, Body, Leave, Post, Initial, Static, StaticFits, Slots, Exit, Branches, Round as BehindFirst, Again, First, Last, By, AtLast, Replaced, Trapped, Defined, DefinedFits, Found, Subject, OfSet, OfSequence, Element, Given, Start, StartAll, End}
use Rattle.step_data.specs.Actions.{height, busy, most, waiting_weight}
use Rattle.thread_stack.specs.Standing.{fuel_load, load, waiting_load}

pub load-push : (levels : List Level) (level : Level) → waiting_load (levels ++ level ∷ []) ≡ waiting_load levels + waiting_weight level.waiting.waiting
load-push [] level = omega arith
load-push (first ∷ levels) level = omega (arith, load-push levels level)

weight-le : (w : Waiting) → waiting_weight w ≤ 10 + most
weight-le (Expr frame) = omega arith
weight-le (After after place) = omega arith
weight-le Called = omega arith
weight-le (Rest here statements count) = omega arith
weight-le (CutTo count) = omega arith
weight-le (Local declaring) = omega arith
weight-le (LocalFits declaring) = omega arith
weight-le (Assign here goal place) = omega arith
weight-le (Store goal place) = omega arith
weight-le (Index assigning) = omega arith
weight-le (Join assigning) = omega arith
weight-le (GoalFits assigning) = omega arith
weight-le (Return place) = omega arith
weight-le (Argument requesting tested place) = omega arith
weight-le (Back saved) = omega arith
weight-le (Parameters binding) = omega arith
weight-le (Pre call) = omega arith
weight-le (Body call count) = omega arith
weight-le (Leave call) = omega arith
weight-le (Post call slot) = omega arith
weight-le (Initial making) = omega arith
weight-le (Static making place) = omega arith
weight-le (StaticFits making tested place) = omega arith
weight-le (Slots making tested) = omega arith
weight-le (Exit place) = omega arith
weight-le (Branches here statement more otherwise place) = omega arith
weight-le (BehindFirst here round) = omega arith
weight-le (Again here condition body place) = omega arith
weight-le (First here l) = omega arith
weight-le (Last here l first) = omega arith
weight-le (By here l first last) = omega arith
weight-le (AtLast here statement count) = omega arith
weight-le (Replaced flow) = omega arith
weight-le (Trapped here pattern handler place count) = omega arith
weight-le (Defined defining) = omega arith
weight-le (DefinedFits defining) = omega arith
weight-le (Found here body count) = omega arith
weight-le (Subject here cases others count place) = omega arith
weight-le (OfSet here pattern body place) = omega arith
weight-le (OfSequence here pattern body place) = omega arith
weight-le (Element elements) = omega arith
weight-le (Given given) = omega arith
weight-le (Start place) = omega arith
weight-le (StartAll place) = omega arith
weight-le End = omega arith

busy-le : (action : Action) → busy action ≤ 4
busy-le (Done flow) = omega arith
busy-le (Fail kind place) = omega arith
busy-le (Uncaught v place) = omega arith
busy-le (Ask asking) = omega arith
busy-le (Part task waiting) = omega arith
busy-le (Become task) = omega arith
busy-le (OfRound here round) = omega arith
busy-le (Block rest) = omega arith
busy-le (Test test) = omega arith
busy-le (Fit fit) = omega arith
busy-le (Begin call) = omega arith
busy-le (Need need place after) = omega arith

pub popped-low : (levels left : List Level) (fuel : ℕ) (level : Level) (flow : Flow) (action next : Action) (bound : ℕ)
    → levels ≡ left ++ level ∷ [] → action ≡ Done flow → height next < waiting_weight level.waiting.waiting
    → load levels fuel (height action) ≤ bound → load left fuel (height next) ≤ bound
popped-low levels left fuel level flow action next bound e is falls low = omega (arith, falls, ap waiting_load e, load-push left level, ap height is, low)

pub popped-falls : (levels left : List Level) (fuel : ℕ) (level : Level) (flow : Flow) (action next : Action)
    → levels ≡ left ++ level ∷ [] → action ≡ Done flow → busy next ≤ waiting_weight level.waiting.waiting
    → load left fuel (busy next) < load levels fuel (busy action)
popped-falls levels left fuel level flow action next e is small = omega (arith, small, ap waiting_load e, load-push left level, ap busy is)

-- an action whose weight is known leads to a load that is no higher
pub no_higher : (levels : List Level) (fuel n weight bound : ℕ) (action : Action) → height action ≡ weight → n ≤ load levels fuel weight
    → load levels fuel (height action) ≤ bound → n ≤ bound
no_higher levels fuel n weight bound action is below low = omega (arith, is, below, low)

-- an action of a part that was entered with its unit
pub entered-low : (levels now : List Level) (fuel left : ℕ) (level : Level) (r : Result Action OutOfMemory)
    → fuel ≡ suc left → now ≡ levels ++ level ∷ [] → IfOk r (λ a. height a ≤ 9 + most)
    → IfOk r (λ a. load now left (height a) ≤ load levels fuel 1)
entered-low levels now fuel left level (Ok a) e n small = omega (arith, ap fuel_load e, ap waiting_load n, load-push levels level, weight-le level.waiting.waiting, small)
entered-low levels now fuel left level (Err x) e n small = tt

pub entered-falls : (levels now : List Level) (fuel left : ℕ) (level : Level) (r : Result Action OutOfMemory)
    → fuel ≡ suc left → now ≡ levels ++ level ∷ []
    → IfOk r (λ a. load now left (busy a) < load levels fuel 1)
entered-falls levels now fuel left level (Ok a) e n = omega (arith, ap fuel_load e, ap waiting_load n, load-push levels level, weight-le level.waiting.waiting, busy-le a)
entered-falls levels now fuel left level (Err x) e n = tt

-- ... of the test of a value, behind which two levels wait
pub tests-low : (levels one now : List Level) (fuel left : ℕ) (inner outer : Level) (r : Result Action OutOfMemory)
    → fuel ≡ suc left → one ≡ levels ++ outer ∷ [] → now ≡ one ++ inner ∷ [] → IfOk r (λ a. height a ≤ 9 + most)
    → IfOk r (λ a. load now left (height a) ≤ load levels fuel 1)
tests-low levels one now fuel left inner outer (Ok a) e o n small =
    omega (arith, ap fuel_load e, ap waiting_load o, ap waiting_load n, load-push levels outer, load-push one inner, weight-le outer.waiting.waiting, weight-le inner.waiting.waiting, small)
tests-low levels one now fuel left inner outer (Err x) e o n small = tt

pub tests-falls : (levels one now : List Level) (fuel left : ℕ) (inner outer : Level) (r : Result Action OutOfMemory)
    → fuel ≡ suc left → one ≡ levels ++ outer ∷ [] → now ≡ one ++ inner ∷ []
    → IfOk r (λ a. load now left (busy a) < load levels fuel 1)
tests-falls levels one now fuel left inner outer (Ok a) e o n =
    omega (arith, ap fuel_load e, ap waiting_load o, ap waiting_load n, load-push levels outer, load-push one inner, weight-le outer.waiting.waiting, weight-le inner.waiting.waiting, busy-le a)
tests-falls levels one now fuel left inner outer (Err x) e o n = tt

-- ... of one that was entered in the stead of another
pub begun-low : (levels : List Level) (fuel left : ℕ) (r : Result Action OutOfMemory)
    → fuel ≡ suc left → IfOk r (λ a. height a ≤ 9 + most)
    → IfOk r (λ a. load levels left (height a) ≤ load levels fuel 1)
begun-low levels fuel left (Ok a) e small = omega (arith, ap fuel_load e, small)
begun-low levels fuel left (Err x) e small = tt

-- ... of a need, behind which the node waits
pub needing-low : (levels now : List Level) (fuel : ℕ) (level : Level) (r : Result Action OutOfMemory)
    → now ≡ levels ++ level ∷ [] → waiting_weight level.waiting.waiting ≡ 2 → IfOk r (λ a. height a ≤ 7 + most)
    → IfOk r (λ a. load now fuel (height a) ≤ load levels fuel (9 + most))
needing-low levels now fuel level (Ok a) n two small = omega (arith, ap waiting_load n, load-push levels level, two, small)
needing-low levels now fuel level (Err x) n two small = tt

pub needing-falls : (levels now : List Level) (fuel : ℕ) (level : Level) (r : Result Action OutOfMemory)
    → now ≡ levels ++ level ∷ [] → waiting_weight level.waiting.waiting ≡ 2 → IfOk r (λ a. busy a ≤ 1)
    → IfOk r (λ a. load now fuel (busy a) < load levels fuel 4)
needing-falls levels now fuel level (Ok a) n two small = omega (arith, ap waiting_load n, load-push levels level, two, small)
needing-falls levels now fuel level (Err x) n two small = tt

-- ... of a call that begins, behind which the locals wait
pub calling-low : (levels now : List Level) (fuel count : ℕ) (level : Level) (r : Result Action OutOfMemory)
    → now ≡ levels ++ level ∷ [] → waiting_weight level.waiting.waiting ≡ 2 → IfOk r (λ a. height a ≤ 2 + count)
    → IfOk r (λ a. load now fuel (height a) ≤ load levels fuel (4 + count))
calling-low levels now fuel count level (Ok a) n two small = omega (arith, ap waiting_load n, load-push levels level, two, small)
calling-low levels now fuel count level (Err x) n two small = tt

-- ... of a block that begins
pub block-low : (levels : List Level) (fuel : ℕ) (a : Action) → height a ≤ 1 → load levels fuel (height a) ≤ load levels fuel 2
block-low levels fuel a small = omega (arith, small)
