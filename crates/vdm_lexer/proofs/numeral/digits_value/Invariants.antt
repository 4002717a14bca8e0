use Rattle.std.proofs.Common.{◌≡◌, ◌<◌, ◌^◌, drop}
use Rattle.std.specs.Str.Parse.{digits_value, digits_value_after}
use Rattle.vdm_lexer.proofs.numeral.digits_value.Given as goal

-- the number of the digits so far, before the rest
abbrev pub invariant-loop-c : goal.invariant-loop-c
invariant-loop-c l = record {
  is : digits_value l.base l.digits ≡ digits_value_after l.base l.value (drop l.c-index l.digits);
  small : l.value < 2 ^ 127;
}
