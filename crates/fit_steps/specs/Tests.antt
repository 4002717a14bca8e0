-- What tests of values come to.
use Rattle.std.specs.Prelude.{Bool, List, Option, option_map}
use Rattle.vdm_kinds.specs.declared.place.Place.{Place}
use Rattle.abstract_syntax.specs.Classes.{SpecTree}
use Rattle.expr_tree.specs.View.{view_of}
use Rattle.conform.specs.declared.test.Test.{Test}
use Rattle.conform.specs.declared.testing.Testing.{Testing}
use Rattle.conform.specs.Frames.{found_in}
use Rattle.conform.specs.Testings.{stands_at}
use Rattle.member_meaning.specs.TypeRanks.{finder, type_rank}
use Rattle.plans.specs.Plans.{part}
use Rattle.type_meaning.specs.Tests.{Tests, Decision}
use Rattle.node_meaning.specs.Envs.{Locals, at}
use Rattle.node_meaning.specs.Fitting.{descends}
use Rattle.node_meaning.specs.Needs.{Setting, Asker}
use Rattle.node_meaning.specs.Tasks.{Code, expr_in, fault, value}
use Rattle.eval_data.specs.Parts.{here_of}
use Rattle.eval_data.specs.Steps.{frame_then}
use Rattle.fit_steps.specs.declared.tested.Tested.{Tested}
use Rattle.fit_steps.specs.declared.tested.Tested.TheVariants.{Gives, Fails, Asks}

-- a specification, by whoever evaluates
abbrev pub under : SpecTree → Asker → Setting
under spec asker = record { spec = spec; asker = asker }

-- a test that is made at the place
abbrev pub tested_code : Setting → Place → Locals → Tested → Code
tested_code setting place locals (Gives v) = value v locals
tested_code setting place locals (Fails kind) = fault kind place
tested_code setting place locals (Asks here tree frame) = part (expr_in (at (here_of here) locals) (view_of tree.now)) (frame_then setting frame)

-- what has to hold, by a list of tests
abbrev pub wanted : SpecTree → Option (List Test) → Option Tests
wanted spec = option_map (found_in (finder spec) (descends spec) (type_rank spec))

-- where tests stand that are being made
abbrev pub standing : SpecTree → Testing → Decision Bool
standing spec t = stands_at (finder spec) (descends spec) (type_rank spec) t.waiting.items t.holds
