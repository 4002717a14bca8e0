-- No level of an operator is above 14.
use Rattle.std.proofs.Common.{◌≤◌, arith}
use Rattle.vdm_kinds.specs.declared.sign.Sign.{Sign}
use Rattle.vdm_kinds.specs.declared.sign.Sign.TheVariants.{
  Equivalent,
  Implies,
  Or,
  And,
  Not,
  Equal,
  NotEqual,
  Less,
  LessEqual,
  Greater,
  GreaterEqual,
  Subset,
  ProperSubset,
  InSet,
  NotInSet,
  Plus,
  Minus,
  Union,
  Difference,
  MapUnion,
  Override,
  Concatenation,
  Times,
  Div,
  Rem,
  Mod,
  Inter,
  Inverse,
  DomainRestriction,
  DomainRemoval,
  RangeRestriction,
  RangeRemoval,
  Positive,
  Negative,
  Absolute,
  Card,
  PowerSet,
  DistributedUnion,
  DistributedInter,
  Length,
  Head,
  Tail,
  Indices,
  Elements,
  DistributedConcatenation,
  Domain,
  Range,
  Merge,
  Composition,
  Exponent,
}
use Rattle.vdm_kinds.specs.Signs.{sign_level}

pub level_is_small : (sign : Sign) → sign_level sign ≤ 14
level_is_small Equivalent = omega arith
level_is_small Implies = omega arith
level_is_small Or = omega arith
level_is_small And = omega arith
level_is_small Not = omega arith
level_is_small Equal = omega arith
level_is_small NotEqual = omega arith
level_is_small Less = omega arith
level_is_small LessEqual = omega arith
level_is_small Greater = omega arith
level_is_small GreaterEqual = omega arith
level_is_small Subset = omega arith
level_is_small ProperSubset = omega arith
level_is_small InSet = omega arith
level_is_small NotInSet = omega arith
level_is_small Plus = omega arith
level_is_small Minus = omega arith
level_is_small Union = omega arith
level_is_small Difference = omega arith
level_is_small MapUnion = omega arith
level_is_small Override = omega arith
level_is_small Concatenation = omega arith
level_is_small Times = omega arith
level_is_small Div = omega arith
level_is_small Rem = omega arith
level_is_small Mod = omega arith
level_is_small Inter = omega arith
level_is_small Inverse = omega arith
level_is_small DomainRestriction = omega arith
level_is_small DomainRemoval = omega arith
level_is_small RangeRestriction = omega arith
level_is_small RangeRemoval = omega arith
level_is_small Positive = omega arith
level_is_small Negative = omega arith
level_is_small Absolute = omega arith
level_is_small Card = omega arith
level_is_small PowerSet = omega arith
level_is_small DistributedUnion = omega arith
level_is_small DistributedInter = omega arith
level_is_small Length = omega arith
level_is_small Head = omega arith
level_is_small Tail = omega arith
level_is_small Indices = omega arith
level_is_small Elements = omega arith
level_is_small DistributedConcatenation = omega arith
level_is_small Domain = omega arith
level_is_small Range = omega arith
level_is_small Merge = omega arith
level_is_small Composition = omega arith
level_is_small Exponent = omega arith
