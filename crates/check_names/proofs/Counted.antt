-- One name after the other is counted.
use Rattle.std.proofs.Common.{◌≡◌, ℕ, ◌+◌, ◌<◌, not, List, Option, drop, get_or, length, ap, sym, ◌∙◌}
use Rattle.std.proofs.lemmas.List.{drop_more}
use Rattle.vdm_kinds.specs.declared.name_at.NameAt.{NameAt}
use Rattle.vdm_kinds.specs.declared.spec_fault.SpecFault.{SpecFault}
use Rattle.vdm_kinds.specs.declared.spec_kind.SpecKind.TheVariants.{NotSynchronised}
use Rattle.abstract_syntax.specs.Classes.{SpecTree}
use Rattle.class_checks.specs.Members.{is_counted, uncounted}
use Rattle.class_checks.specs.Results.{first_among, refused_if}
use Rattle.class_checks.specs.Scopes.{ScopeTree, scope_number}
use Rattle.check_scopes.specs.Told.{first_among-++}

module _ (spec : SpecTree) (scope : ScopeTree) where
  abbrev refused_of : NameAt → List SpecFault
  refused_of named = refused_if (not (is_counted spec (scope_number spec scope) named.name)) NotSynchronised named.place

  pub uncounted_step : (a b : Option SpecFault) (names : List NameAt) (i : ℕ) (other : NameAt) (whole : Option SpecFault) → i < length names
      → b ≡ first_among a (refused_of (get_or names i other)) → first_among a (uncounted spec scope (drop i names)) ≡ whole
      → first_among b (uncounted spec scope (drop (i + 1) names)) ≡ whole
  uncounted_step a b names i other whole below e before =
      ap (λ (o : Option SpecFault). first_among o (uncounted spec scope (drop (i + 1) names))) e
      ∙ sym (first_among-++ a (refused_of (get_or names i other)) (uncounted spec scope (drop (i + 1) names)))
      ∙ ap (λ (ns : List NameAt). first_among a (uncounted spec scope ns)) (sym (drop_more names i other below))
      ∙ before
