-- Commands and options in code, as words say them.
use Rattle.std.specs.Prelude.{true, if◌then◌else◌, Option, Some, None}
use Rattle.std.specs.Option.{is_some, unwrap_or}
use Rattle.std.specs.String.{string_bytes}
use Rattle.report_texts.specs.Words.{Limits as AskedLimits, Command as Asked, check, run, RunOption as AskedOption, with_steps, with_log, usual_steps}
use Rattle.vdm_kinds.specs.declared.limits.Limits.{Limits}
use Rattle.vdm_cli.specs.declared.chosen.Chosen.{Chosen}
use Rattle.vdm_cli.specs.declared.command.Command.{Command}
use Rattle.vdm_cli.specs.declared.command.Command.TheVariants.{Check, Run}
use Rattle.vdm_cli.specs.declared.run_option.RunOption.{RunOption}
use Rattle.vdm_cli.specs.declared.run_option.RunOption.TheVariants.{Steps, Log}

abbrev pub option_view : RunOption → AskedOption
option_view (Steps n) = with_steps n
option_view Log = with_log

-- of the limits, those that words say so far
abbrev pub limits_view : Limits → AskedLimits
limits_view limits = record { steps = limits.steps }

-- the limits that were chosen, or the usual ones
abbrev pub limits_of : Chosen → AskedLimits
limits_of chosen = record { steps = unwrap_or chosen.steps usual_steps }

-- what is chosen with one option more, which is of no kind that was chosen
abbrev pub with_option : Chosen → AskedOption → Option Chosen
with_option chosen (with_steps n) = if is_some chosen.steps then None else Some (record { steps = Some n; log = chosen.log })
with_option chosen with_log = if chosen.log then None else Some (record { steps = chosen.steps; log = true })

abbrev pub command_view : Command → Asked
command_view Check = check
command_view (Run text limits log) = run (string_bytes text.now) (limits_view limits) log
