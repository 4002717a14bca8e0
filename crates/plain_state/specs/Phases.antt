-- What an entry tells of a call, in the words of the meaning.
use Rattle.std.specs.Prelude.{Bool}
use Rattle.vdm_kinds.specs.declared.name.Name.{Name}
use Rattle.run_journal.specs.declared.deed.Deed.{Deed}
use Rattle.vdm_legal.specs.State.{is_activation, is_finish, is_request}
use Rattle.plain_state.specs.declared.calls.Phase.{Phase}
use Rattle.plain_state.specs.declared.calls.Phase.TheVariants.{Requested, Activated, Finished}

-- whether a deed tells this of a call of an operation of the name
abbrev pub tells : Phase → Name → Deed → Bool
tells Requested = is_request
tells Activated = is_activation
tells Finished = is_finish
