-- How actions of main fall.
use Rattle.std.proofs.Common.{◌≡◌, ◌≤◌, ◌<◌, ◌+◌, ◌-◌, ℕ, Result, Ok, Err, IfOk, arith}
use Rattle.vdm_kinds.specs.declared.halt.OutOfMemory.{OutOfMemory}
use Rattle.step_data.specs.declared.action.Action.{Action}
use Rattle.step_data.specs.Actions.{height, most}

-- a number less weighs more
one_lower : (object next : ℕ) → next ≡ object + 1 → next < 4294967296 → most - next < most - object
unfolding most
one_lower object next e small = omega (arith, e, small)

module _ (r : Result Action OutOfMemory) where
  -- behind a class object the next one follows
  pub behind_class : (object next : ℕ) → next ≡ object + 1 → next < 4294967296 → IfOk r (λ a. height a ≤ 2 + (most - next))
      → IfOk r (λ a. height a < 2 + (most - object))
  behind_class object next e small low = by r low
    where
      by : (x : Result Action OutOfMemory) → IfOk x (λ a. height a ≤ 2 + (most - next)) → IfOk x (λ a. height a < 2 + (most - object))
      by (Ok a) is = omega (arith, is, one_lower object next e small)
      by (Err x) is = tt

  -- none weighs more than what waits
  pub below_waiting : (object : ℕ) → IfOk r (λ a. height a ≤ 2 + (most - object)) → IfOk r (λ a. height a < 10 + most)
  below_waiting object low = by r low
    where
      by : (x : Result Action OutOfMemory) → IfOk x (λ a. height a ≤ 2 + (most - object)) → IfOk x (λ a. height a < 10 + most)
      by (Ok a) is = omega (arith, is)
      by (Err x) is = tt

  -- a part weighs the least
  pub part_low : (object : ℕ) → IfOk r (λ a. height a ≤ 1) → IfOk r (λ a. height a ≤ 2 + (most - object))
  part_low object low = by r low
    where
      by : (x : Result Action OutOfMemory) → IfOk x (λ a. height a ≤ 1) → IfOk x (λ a. height a ≤ 2 + (most - object))
      by (Ok a) is = omega (arith, is)
      by (Err x) is = tt
