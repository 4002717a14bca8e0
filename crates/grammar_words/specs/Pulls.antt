-- How strongly operators pull at what stands beside them. An operand between two operators goes to the one that pulls more.
use Rattle.std.specs.Prelude.{ℕ, ◌+◌, ◌*◌, Bool, true, false, IsTrue}
use Rattle.vdm_kinds.specs.declared.grouping.Grouping.{Grouping}
use Rattle.vdm_kinds.specs.declared.grouping.Grouping.TheVariants.{Left, Right, Prefix}
use Rattle.vdm_kinds.specs.declared.sign.Sign.{Sign}
use Rattle.vdm_kinds.specs.declared.sign.Sign.TheVariants.{Plus, Minus, Positive, Negative}
use Rattle.vdm_kinds.specs.Signs.{sign_level, sign_grouping}
use Rattle.grammar_words.specs.declared.word.Word.{Word}
use Rattle.grammar_words.specs.declared.word.Word.TheVariants.{Operator}

-- an operator that groups to the left pulls a little more at its right, one that groups to the right a little more at its left;
-- before its operand stands nothing
abbrev left_of : Grouping → ℕ → ℕ
left_of Left level = 2 * level
left_of Right level = 2 * level + 1
left_of Prefix level = 0

abbrev right_of : Grouping → ℕ → ℕ
right_of Left level = 2 * level + 1
right_of Right level = 2 * level
right_of Prefix level = 2 * level

-- how strongly a sign pulls at what stands before it, and at what stands behind it
abbrev pub left_pull : Sign → ℕ
left_pull sign = left_of (sign_grouping sign) (sign_level sign)

abbrev pub right_pull : Sign → ℕ
right_pull sign = right_of (sign_grouping sign) (sign_level sign)

-- what goes on to the right as far as it can pulls less than each operator, but it pulls
abbrev pub far_pull : ℕ
far_pull = 1

-- a postfix is of level 15, and groups to the left
abbrev pub postfix_pull : ℕ
postfix_pull = 30

-- more than all pulls
abbrev pub closed : ℕ
closed = 31

abbrev is_before : Grouping → Bool
is_before Left = false
is_before Right = false
is_before Prefix = true

-- a sign that stands between two operands, and one that stands before its operand
abbrev pub is_prefix : Sign → Bool
is_prefix sign = is_before (sign_grouping sign)

abbrev pub IsPrefix : Sign → Type 0
IsPrefix sign = IsTrue (is_prefix sign)

abbrev between : Grouping → Bool
between Left = true
between Right = true
between Prefix = false

abbrev pub is_infix : Sign → Bool
is_infix sign = between (sign_grouping sign)

abbrev pub IsInfix : Sign → Type 0
IsInfix sign = IsTrue (is_infix sign)

-- before an operand `+` and `-` are written as between two
abbrev pub prefix_word : Sign → Word
prefix_word Positive = Operator Plus
prefix_word Negative = Operator Minus
prefix_word sign = Operator sign
