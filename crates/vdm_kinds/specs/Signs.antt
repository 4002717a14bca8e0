-- The signs and words that stand between operands or before one: one table of what each is written as, how tight it binds, how it
-- groups, and which operator it is.
use Rattle.std.specs.Prelude.{ℕ, List, codes, Option, Some, None}
use Rattle.vdm_kinds.specs.declared.grouping.Grouping.{Grouping}
use Rattle.vdm_kinds.specs.declared.grouping.Grouping.TheVariants.{Left, Right, Prefix}
use Rattle.vdm_kinds.specs.declared.operator.Operator.{Operator}
use Rattle.vdm_kinds.specs.declared.operator.Operator.TheVariants as operator
use Rattle.vdm_kinds.specs.declared.sign.Sign.{Sign}
use Rattle.vdm_kinds.specs.declared.sign.Sign.TheVariants.{
  Equivalent,
  Implies,
  Or,
  And,
  Not,
  Equal,
  NotEqual,
  Less,
  LessEqual,
  Greater,
  GreaterEqual,
  Subset,
  ProperSubset,
  InSet,
  NotInSet,
  Plus,
  Minus,
  Union,
  Difference,
  MapUnion,
  Override,
  Concatenation,
  Times,
  Div,
  Rem,
  Mod,
  Inter,
  Inverse,
  DomainRestriction,
  DomainRemoval,
  RangeRestriction,
  RangeRemoval,
  Positive,
  Negative,
  Absolute,
  Card,
  PowerSet,
  DistributedUnion,
  DistributedInter,
  Length,
  Head,
  Tail,
  Indices,
  Elements,
  DistributedConcatenation,
  Domain,
  Range,
  Merge,
  Composition,
  Exponent,
}

-- what it is written as, its level (from 1, the loosest), how it groups, and its operator: `=>`, `or` and `and` are none, since
-- they do not evaluate what does not matter
pub record SignRow : Type 0 where
  pub text : List ℕ
  pub level : ℕ
  pub grouping : Grouping
  pub operator : Option Operator

abbrev row : List ℕ → ℕ → Grouping → Option Operator → SignRow
row text level grouping operator = record { text = text; level = level; grouping = grouping; operator = operator }

-- the table, from loosest to tightest; postfixes bind tighter than all of it
abbrev pub sign_row : Sign → SignRow
sign_row Equivalent = row (codes "<=>") 1 Left (Some operator.Equivalent)
sign_row Implies = row (codes "=>") 2 Right None
sign_row Or = row (codes "or") 3 Left None
sign_row And = row (codes "and") 4 Left None
sign_row Not = row (codes "not") 5 Prefix (Some operator.Not)
sign_row Equal = row (codes "=") 6 Left (Some operator.Equal)
sign_row NotEqual = row (codes "<>") 6 Left (Some operator.NotEqual)
sign_row Less = row (codes "<") 6 Left (Some operator.Less)
sign_row LessEqual = row (codes "<=") 6 Left (Some operator.LessEqual)
sign_row Greater = row (codes ">") 6 Left (Some operator.Greater)
sign_row GreaterEqual = row (codes ">=") 6 Left (Some operator.GreaterEqual)
sign_row Subset = row (codes "subset") 6 Left (Some operator.Subset)
sign_row ProperSubset = row (codes "psubset") 6 Left (Some operator.ProperSubset)
sign_row InSet = row (codes "in set") 6 Left (Some operator.InSet)
sign_row NotInSet = row (codes "not in set") 6 Left (Some operator.NotInSet)
sign_row Plus = row (codes "+") 7 Left (Some operator.Plus)
sign_row Minus = row (codes "-") 7 Left (Some operator.Minus)
sign_row Union = row (codes "union") 7 Left (Some operator.Union)
sign_row Difference = row (codes "\\") 7 Left (Some operator.Difference)
sign_row MapUnion = row (codes "munion") 7 Left (Some operator.MapUnion)
sign_row Override = row (codes "++") 7 Left (Some operator.Override)
sign_row Concatenation = row (codes "^") 7 Left (Some operator.Concatenation)
sign_row Times = row (codes "*") 8 Left (Some operator.Times)
sign_row Div = row (codes "div") 8 Left (Some operator.Div)
sign_row Rem = row (codes "rem") 8 Left (Some operator.Rem)
sign_row Mod = row (codes "mod") 8 Left (Some operator.Mod)
sign_row Inter = row (codes "inter") 8 Left (Some operator.Inter)
sign_row Inverse = row (codes "inverse") 9 Prefix (Some operator.Inverse)
sign_row DomainRestriction = row (codes "<:") 10 Right (Some operator.DomainRestriction)
sign_row DomainRemoval = row (codes "<-:") 10 Right (Some operator.DomainRemoval)
sign_row RangeRestriction = row (codes ":>") 11 Left (Some operator.RangeRestriction)
sign_row RangeRemoval = row (codes ":->") 11 Left (Some operator.RangeRemoval)
sign_row Positive = row (codes "+") 12 Prefix (Some operator.Positive)
sign_row Negative = row (codes "-") 12 Prefix (Some operator.Negative)
sign_row Absolute = row (codes "abs") 12 Prefix (Some operator.Absolute)
sign_row Card = row (codes "card") 12 Prefix (Some operator.Card)
sign_row PowerSet = row (codes "power") 12 Prefix (Some operator.PowerSet)
sign_row DistributedUnion = row (codes "dunion") 12 Prefix (Some operator.DistributedUnion)
sign_row DistributedInter = row (codes "dinter") 12 Prefix (Some operator.DistributedInter)
sign_row Length = row (codes "len") 12 Prefix (Some operator.Length)
sign_row Head = row (codes "hd") 12 Prefix (Some operator.Head)
sign_row Tail = row (codes "tl") 12 Prefix (Some operator.Tail)
sign_row Indices = row (codes "inds") 12 Prefix (Some operator.Indices)
sign_row Elements = row (codes "elems") 12 Prefix (Some operator.Elements)
sign_row DistributedConcatenation = row (codes "conc") 12 Prefix (Some operator.DistributedConcatenation)
sign_row Domain = row (codes "dom") 12 Prefix (Some operator.Domain)
sign_row Range = row (codes "rng") 12 Prefix (Some operator.Range)
sign_row Merge = row (codes "merge") 12 Prefix (Some operator.Merge)
sign_row Composition = row (codes "comp") 13 Left (Some operator.Composition)
sign_row Exponent = row (codes "**") 14 Right (Some operator.Exponent)

abbrev pub sign_text : Sign → List ℕ
sign_text sign = (sign_row sign).text

abbrev pub sign_level : Sign → ℕ
sign_level sign = (sign_row sign).level

abbrev pub sign_grouping : Sign → Grouping
sign_grouping sign = (sign_row sign).grouping

abbrev pub sign_operator : Sign → Option Operator
sign_operator sign = (sign_row sign).operator
