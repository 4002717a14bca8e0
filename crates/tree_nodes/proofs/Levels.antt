-- The levels of signs.
use Rattle.std.proofs.Common.{◌≤◌, arith}
use Rattle.vdm_kinds.specs.Signs.{sign_level}
use Rattle.vdm_kinds.specs.declared.sign.Sign.{Sign}
use Rattle.vdm_kinds.specs.declared.sign.Sign.TheVariants as sign_is

pub level-most : (sign : Sign) → sign_level sign ≤ 14
level-most sign_is.Equivalent = omega arith
level-most sign_is.Implies = omega arith
level-most sign_is.Or = omega arith
level-most sign_is.And = omega arith
level-most sign_is.Not = omega arith
level-most sign_is.Equal = omega arith
level-most sign_is.NotEqual = omega arith
level-most sign_is.Less = omega arith
level-most sign_is.LessEqual = omega arith
level-most sign_is.Greater = omega arith
level-most sign_is.GreaterEqual = omega arith
level-most sign_is.Subset = omega arith
level-most sign_is.ProperSubset = omega arith
level-most sign_is.InSet = omega arith
level-most sign_is.NotInSet = omega arith
level-most sign_is.Plus = omega arith
level-most sign_is.Minus = omega arith
level-most sign_is.Union = omega arith
level-most sign_is.Difference = omega arith
level-most sign_is.MapUnion = omega arith
level-most sign_is.Override = omega arith
level-most sign_is.Concatenation = omega arith
level-most sign_is.Times = omega arith
level-most sign_is.Div = omega arith
level-most sign_is.Rem = omega arith
level-most sign_is.Mod = omega arith
level-most sign_is.Inter = omega arith
level-most sign_is.Inverse = omega arith
level-most sign_is.DomainRestriction = omega arith
level-most sign_is.DomainRemoval = omega arith
level-most sign_is.RangeRestriction = omega arith
level-most sign_is.RangeRemoval = omega arith
level-most sign_is.Positive = omega arith
level-most sign_is.Negative = omega arith
level-most sign_is.Absolute = omega arith
level-most sign_is.Card = omega arith
level-most sign_is.PowerSet = omega arith
level-most sign_is.DistributedUnion = omega arith
level-most sign_is.DistributedInter = omega arith
level-most sign_is.Length = omega arith
level-most sign_is.Head = omega arith
level-most sign_is.Tail = omega arith
level-most sign_is.Indices = omega arith
level-most sign_is.Elements = omega arith
level-most sign_is.DistributedConcatenation = omega arith
level-most sign_is.Domain = omega arith
level-most sign_is.Range = omega arith
level-most sign_is.Merge = omega arith
level-most sign_is.Composition = omega arith
level-most sign_is.Exponent = omega arith
