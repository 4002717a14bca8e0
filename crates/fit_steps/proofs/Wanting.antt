-- What has to hold of a value, by the classes above a class as the table has them.
use Rattle.std.proofs.Common.{◌≡◌, List, Option, Some, None, option_map, Vec, Global, refl, sym, ◌∙◌}
use Rattle.vdm_kinds.specs.declared.name.Name.{Name}
use Rattle.abstract_syntax.specs.Classes.{SpecTree}
use Rattle.abstract_syntax.specs.Types.{TypeTree}
use Rattle.abstract_syntax.specs.Values.{ValueTree}
use Rattle.conform.specs.declared.test.Test.{Test}
use Rattle.conform.specs.Frames.{found_in}
use Rattle.member_meaning.specs.TypeRanks.{finder, type_rank}
use Rattle.spec_table.specs.Members.{descends_from}
use Rattle.type_meaning.specs.Shapes.{tests_of}
use Rattle.node_meaning.specs.Fitting.{descends}
use Rattle.fit_steps.specs.Tests.{wanted}
use Rattle.fit_steps.proofs.Descending.{alike}

module _ (spec : SpecTree) where
  fused : (found : Option (Vec Test Global)) → wanted spec (option_map (λ (ts : Vec Test Global). ts.items) found)
      ≡ option_map (λ (ts : Vec Test Global). found_in (finder spec) (descends spec) (type_rank spec) ts.items) found
  fused None = refl
  fused (Some ts) = refl

  pub wanted_as : (found : Option (Vec Test Global)) (v : ValueTree) (scope at : Name) (t : TypeTree)
      → option_map (λ (ts : Vec Test Global). found_in (finder spec) (descends_from spec) (type_rank spec) ts.items) found
      ≡ tests_of (finder spec) (descends_from spec) (type_rank spec) v scope t → scope ≡ at
      → wanted spec (option_map (λ (ts : Vec Test Global). ts.items) found) ≡ tests_of (finder spec) (descends spec) (type_rank spec) v at t
  wanted_as found v scope at t e s =
      fused found ∙ (λ i. option_map (λ (ts : Vec Test Global). found_in (finder spec) (sym (alike spec) i) (type_rank spec) ts.items) found) ∙ e
      ∙ (λ i. tests_of (finder spec) (alike spec i) (type_rank spec) v (s i) t)
