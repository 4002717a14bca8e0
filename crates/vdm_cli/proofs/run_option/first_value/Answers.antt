-- The first word does not begin with the name, or has something else than `=` behind it.
use Rattle.std.proofs.Common.{rules, ◌≡◌, map, ◌∷◌, ◌∙◌, None, sym, arith}
use Rattle.std.specs.String.{string_bytes}
use Rattle.std.proofs.lemmas.Str.Pattern.{strip_prefix_char}
use Rattle.vdm_cli.proofs.Options.{no_value, no_equals, split_is}
use Rattle.vdm_cli.proofs.run_option.first_value.Goals as goal

pub returns-in_err-behind : goal.returns-in_err-behind
returns-in_err-behind c = rw c.from_residual-in_err-behind.ensures (
    let w : map string_bytes c.args.words.now ≡ string_bytes c.in_ok-first.first.now ∷ map string_bytes c.in_ok-first.others.now = search rules in
    no_value (map string_bytes c.args.words.now) c.args.name.now (string_bytes c.in_ok-first.first.now) (map string_bytes c.in_ok-first.others.now) w
    (λ rest e. c.in_err-behind.ensures.cases rest (c.as_str.ensures.value ∙ e)))

pub returns-in_err-strip_prefix : goal.returns-in_err-strip_prefix
returns-in_err-strip_prefix c = rw c.from_residual-in_err-strip_prefix.ensures (
    let w : map string_bytes c.args.words.now ≡ string_bytes c.in_ok-first.first.now ∷ map string_bytes c.in_ok-first.others.now = search rules in
    let none = strip_prefix_char 61 c.in_ok-behind.behind.now None c.in_err-strip_prefix.ensures.cases (omega arith) in
    no_equals (map string_bytes c.args.words.now) c.args.name.now (string_bytes c.in_ok-first.first.now) c.in_ok-behind.behind.now (map string_bytes c.in_ok-first.others.now) w
    (sym c.as_str.ensures.value ∙ split_is c.args.name.now c.as_str.result.now c.in_ok-behind.behind.now c.in_ok-behind.ensures.cases)
    (sym c.is_empty.ensures ∙ c.if-is_empty.false) none)
