use Rattle.std.proofs.Common.{◌≡◌, ◌+◌, ◌*◌, ◌^◌, ℕ, nat_lt, get_or, drop, ap, sym, ◌∙◌, arith}
use Rattle.std.specs.Char.{digit_value}
use Rattle.std.specs.Str.Parse.{digits_value_after}
use Rattle.vdm_lexer.proofs.Scans.{same-item}
use Rattle.vdm_lexer.proofs.Values.{digits_step, some_if, none_if, less_if, none_too_great}
use Rattle.vdm_lexer.proofs.numeral.digits_value.Goals as goal

pub loop-c-preserved : goal.loop-c-preserved
loop-c-preserved c =
    let item = same-item c.args.digits.now c.loop-c.c-index _ c.loop-c-test.true c.c-item.is in
    let digit : c.digit_value.result ≡ digit_value (get_or c.args.digits.now c.loop-c.c-index 0) = c.digit_value.ensures.value ∙ ap digit_value item in
    let longer = some_if (nat_lt (c.loop-c.value * c.args.base + c.digit_value.result) (2 ^ 127)) (c.loop-c.value * c.args.base + c.digit_value.result) c.in-Some.longer c.in-Some.ensures in
    let least = less_if _ _ longer.1 in
    record {
      is = c.loop-c.invariant.is ∙ digits_step c.args.base c.loop-c.value c.args.digits.now c.loop-c.c-index c.loop-c-test.true
          ∙ ap (λ (n : ℕ). digits_value_after c.args.base n (drop (c.loop-c.c-index + 1) c.args.digits.now)) (sym (longer.0 ∙ ap (λ (d : ℕ). c.loop-c.value * c.args.base + d) digit));
      small = omega arith;
    }

pub returns-in_default : goal.returns-in_default
returns-in_default c =
    let item = same-item c.args.digits.now c.loop-c.c-index _ c.loop-c-test.true c.c-item.is in
    let digit : c.digit_value.result ≡ digit_value (get_or c.args.digits.now c.loop-c.c-index 0) = c.digit_value.ensures.value ∙ ap digit_value item in
    none_too_great c.args.base c.loop-c.value c.args.digits.now c.loop-c.c-index _ (2 ^ 127) c.requires c.loop-c-test.true c.loop-c.invariant.is
    (ap (λ (d : ℕ). nat_lt (c.loop-c.value * c.args.base + d) (2 ^ 127)) (sym digit) ∙ none_if (nat_lt (c.loop-c.value * c.args.base + c.digit_value.result) (2 ^ 127)) (c.loop-c.value * c.args.base + c.digit_value.result) c.in_default.ensures)
