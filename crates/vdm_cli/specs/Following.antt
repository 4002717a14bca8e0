-- What the laws of the top call say of it.
use Rattle.std.specs.Prelude.{ℕ, List}
use Rattle.vdm_report.specs.declared.end.End.{End}
use Rattle.vdm_cli.specs.Headline.{Call, StandsFor}
use Rattle.vdm_cli.specs.Meant.{Means}

-- the end is the one that is meant behind these bytes that were read, or a write fault or want of memory in its place
pub record IsMeant (call : Call) (spec : List ℕ) : Type 0 where
  pub names : List (List ℕ)
  pub meant : End
  pub means : Means call.words call.report.log call.source spec names call.report.journal meant
  pub stands : StandsFor call.report.end meant
