-- Numbers, Booleans and comparison: the rows of the table of operators.
use Rattle.std.specs.Prelude.{zero, suc, ◌/◌, ◌^◌, ℤ, pos, negsuc, ◌+ℤ◌, ◌-ℤ◌, ◌*ℤ◌, neg_ℤ, unsigned_abs, int_div, int_lt, int_le}
use Rattle.std.specs.Prelude.{Bool, not, nat_lt, if◌then◌else◌, Ok, Err}
use Rattle.std.specs.Int.{div_ceil, int_pow}
use Rattle.vdm_kinds.specs.declared.operator.Operator.{Operator}
use Rattle.vdm_kinds.specs.declared.operator.Operator.TheVariants.{Positive, Negative, Absolute, Plus, Minus, Times, Div, Rem, Mod, Exponent}
use Rattle.vdm_kinds.specs.declared.operator.Operator.TheVariants.{Less, LessEqual, Greater, GreaterEqual, Equal, NotEqual, Not, Equivalent}
use Rattle.vdm_kinds.specs.declared.run_fault.RunFault.TheVariants.{Overflow, DivideByZero, TypeFault, ExponentRange}
use Rattle.abstract_syntax.specs.Values.{ValueTree, number, boolean}
use Rattle.abstract_syntax.specs.SameBy.{same_by}
use Rattle.abstract_syntax.specs.ValueCode.{value_code}
use Rattle.value_operators.specs.Outcomes.{Outcome}

-- the numbers of the language lie from -2^127 to 2^127 - 1
abbrev pub is_number : ℤ → Bool
is_number (pos n) = nat_lt n (2 ^ 127)
is_number (negsuc n) = nat_lt n (2 ^ 127)

-- a number, or the fault of one outside
abbrev pub in_range : ℤ → Outcome
in_range n = if is_number n then Ok (number n) else Err Overflow

abbrev pub truth : Bool → Outcome
truth p = Ok (boolean p)

-- ---- division

-- the quotient, cut toward zero
abbrev pub quotient : ℤ → ℤ → ℤ
quotient m n = int_div m n

-- m less n times the quotient
abbrev pub remainder : ℤ → ℤ → ℤ
remainder m n = m -ℤ n *ℤ quotient m n

-- the floor of the quotient: rounded down where the signs agree, else its size rounded up, with a minus
abbrev pub floored : ℤ → ℤ → ℤ
floored (pos a) (pos b) = pos (a / b)
floored (pos a) (negsuc b) = neg_ℤ (pos (div_ceil a (suc b)))
floored (negsuc a) (pos b) = neg_ℤ (pos (div_ceil (suc a) b))
floored (negsuc a) (negsuc b) = pos (suc a / suc b)

-- m less n times the floor of the quotient
abbrev pub modulus : ℤ → ℤ → ℤ
modulus m n = m -ℤ n *ℤ floored m n

-- by a divisor that is not 0
abbrev pub by_divisor : (ℤ → ℤ → ℤ) → ℤ → ℤ → Outcome
by_divisor f m (pos zero) = Err DivideByZero
by_divisor f m n = in_range (f m n)

-- ---- powers

-- m to a power that is not negative
abbrev pub power_of : ℤ → ℤ → Outcome
power_of m (pos k) = in_range (int_pow m k)
power_of m (negsuc k) = Err ExponentRange

-- ---- the rows

-- the same value
abbrev pub is_same : ValueTree → ValueTree → Bool
is_same = same_by value_code

abbrev pub truth_equal : Bool → Bool → Bool
truth_equal p q = if p then q else not q

-- of one number, and of one Boolean
abbrev pub number_one : Operator → ℤ → Outcome
number_one Positive m = in_range m
number_one Negative m = in_range (neg_ℤ m)
number_one Absolute m = in_range (pos (unsigned_abs m))
number_one _ m = Err TypeFault

abbrev pub truth_one : Operator → Bool → Outcome
truth_one Not p = truth (not p)
truth_one _ p = Err TypeFault

-- operators of one operand
abbrev pub numbers_one : Operator → ValueTree → Outcome
numbers_one operator (number m) = number_one operator m
numbers_one operator (boolean p) = truth_one operator p
numbers_one operator a = Err TypeFault

-- of two numbers, and of two Booleans
abbrev pub number_two : Operator → ℤ → ℤ → Outcome
number_two Plus m n = in_range (m +ℤ n)
number_two Minus m n = in_range (m -ℤ n)
number_two Times m n = in_range (m *ℤ n)
number_two Div m n = by_divisor quotient m n
number_two Rem m n = by_divisor remainder m n
number_two Mod m n = by_divisor modulus m n
number_two Exponent m n = power_of m n
number_two Less m n = truth (int_lt m n)
number_two LessEqual m n = truth (int_le m n)
number_two Greater m n = truth (int_lt n m)
number_two GreaterEqual m n = truth (int_le n m)
number_two _ m n = Err TypeFault

abbrev pub truth_two : Operator → Bool → Bool → Outcome
truth_two Equivalent p q = truth (truth_equal p q)
truth_two _ p q = Err TypeFault

abbrev pub by_kind : Operator → ValueTree → ValueTree → Outcome
by_kind operator (number m) (number n) = number_two operator m n
by_kind operator (boolean p) (boolean q) = truth_two operator p q
by_kind operator a b = Err TypeFault

-- operators of two: any two values are equal or not
abbrev pub numbers_two : Operator → ValueTree → ValueTree → Outcome
numbers_two Equal a b = truth (is_same a b)
numbers_two NotEqual a b = truth (not (is_same a b))
numbers_two operator a b = by_kind operator a b
