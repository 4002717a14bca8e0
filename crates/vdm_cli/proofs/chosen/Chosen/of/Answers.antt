-- Where no word is left, what is chosen is what is set; where words begin with no option, or with one of a kind that was
-- chosen, nothing is.
use Rattle.std.proofs.Common.{map, Some, None, sym}
use Rattle.std.specs.String.{string_bytes}
use Rattle.vdm_cli.specs.Commands.{option_view}
use Rattle.vdm_cli.proofs.Choosing.{chosen_sets, nothing_set, all_chosen, none_first, none_with, one_more, no_words_left, words_left}
use Rattle.vdm_cli.proofs.chosen.Chosen.of.Goals as goal

pub returns-in_err-option : goal.returns-in_err-option
returns-in_err-option c = rw c.from_residual.ensures (
    nothing_set (map string_bytes c.args.words.now) (c.loop-rest.invariant None (
    none_first (map string_bytes c.loop-rest.rest.now) c.loop-rest.chosen (words_left string_bytes c.loop-rest.rest.now c.is_empty.result c.is_empty.ensures c.loop-rest-test.true) c.in_err-option.ensures)))

pub returns-in_err-chosen : goal.returns-in_err-chosen
returns-in_err-chosen c = rw c.from_residual-in_err-chosen.ensures (
    nothing_set (map string_bytes c.args.words.now) (c.loop-rest.invariant None (
    none_with (map string_bytes c.loop-rest.rest.now) (map string_bytes c.in_ok-option.others.now) (option_view c.in_ok-option.option) c.loop-rest.chosen c.in_ok-option.ensures (sym c.in_err-chosen.ensures))))

pub loop-rest-preserved : goal.loop-rest-preserved
loop-rest-preserved c = λ found h.
    c.loop-rest.invariant found (
    one_more (map string_bytes c.loop-rest.rest.now) (map string_bytes c.in_ok-option.others.now) (option_view c.in_ok-option.option) c.loop-rest.chosen c.in_ok-chosen.chosen found
    c.in_ok-option.ensures (sym c.in_ok-chosen.ensures) h)

pub returns : goal.returns
returns c =
    chosen_sets (map string_bytes c.args.words.now) c.loop-rest.chosen (c.loop-rest.invariant (Some c.loop-rest.chosen) (
    all_chosen (map string_bytes c.loop-rest.rest.now) c.loop-rest.chosen (no_words_left string_bytes c.loop-rest.rest.now c.is_empty.result c.is_empty.ensures c.loop-rest-test.false)))
