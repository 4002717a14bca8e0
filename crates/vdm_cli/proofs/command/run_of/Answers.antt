-- Words behind the text that are no options.
use Rattle.std.proofs.Common.{rules, ◌≡◌, map, List, ℕ, ◌∷◌, codes, subst, sym}
use Rattle.std.specs.String.{string_bytes}
use Rattle.report_texts.specs.Words.{IsNoCommand}
use Rattle.report_texts.proofs.Searches.{no_run}
use Rattle.vdm_cli.proofs.command.run_of.Goals as goal

pub returns-in_err-chosen : goal.returns-in_err-chosen
returns-in_err-chosen c = rw c.from_residual-in_err-chosen.ensures (
    let w : map string_bytes c.args.words.now ≡ string_bytes c.in_ok-text.text.now ∷ map string_bytes c.in_ok-text.options.now = search rules in
    subst (λ (words : List (List ℕ)). IsNoCommand (codes "run" ∷ words)) (sym w)
    (no_run (codes "run") (string_bytes c.in_ok-text.text.now) (map string_bytes c.in_ok-text.options.now) (λ limits log e s. c.in_err-chosen.ensures (limits, log) s)))
