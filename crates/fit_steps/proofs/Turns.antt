-- Tests that go on, by the classes above a class as the table has them.
use Rattle.std.proofs.Common.{◌≡◌, ℕ, Bool, true, false, if◌then◌else◌, ap, refl, sym, ◌∙◌}
use Rattle.vdm_kinds.specs.declared.name.Name.{Name}
use Rattle.abstract_syntax.specs.Classes.{SpecTree, TypeDefTree}
use Rattle.abstract_syntax.specs.Values.{ValueTree}
use Rattle.expr_tree.specs.Alternatives.{Finder}
use Rattle.conform.specs.declared.testing.Testing.{Testing}
use Rattle.conform.specs.Testings.{stands_at, met_behind, unmet_behind}
use Rattle.member_meaning.specs.TypeRanks.{finder, type_rank}
use Rattle.spec_table.specs.Members.{descends_from}
use Rattle.type_meaning.specs.Tests.{Decision, decided, asks}
use Rattle.node_meaning.specs.Envs.{Locals}
use Rattle.node_meaning.specs.Fitting.{descends, by_holding, invariant_asked}
use Rattle.node_meaning.specs.Needs.{Asker}
use Rattle.node_meaning.specs.Tasks.{Code}
use Rattle.eval_data.specs.declared.asking.Asking.{Asking}
use Rattle.eval_data.specs.Parts.{nest_of}
use Rattle.eval_data.specs.Steps.{judged, told}
use Rattle.fit_steps.specs.declared.tested.Tested.{Tested}
use Rattle.fit_steps.specs.Tests.{standing, tested_code, under}
use Rattle.fit_steps.proofs.Descending.{alike}

-- the same test, whose tests that follow are others
abbrev pub IsKept : Asking → Asking → Type 0
IsKept old new = new ≡ record old { testing = new.testing }

module _ (spec : SpecTree) where
  stood : (t : Testing) → stands_at (finder spec) (descends_from spec) (type_rank spec) t.waiting.items t.holds ≡ standing spec t
  stood t = ap (λ (f : Name → Name → Bool). stands_at (finder spec) f (type_rank spec) t.waiting.items t.holds) (alike spec)

  -- what is decided
  pub decided_so : (asker : Asker) (locals : Locals) (t : Tested) (old new : Asking) (b : Bool) → IsKept old new
      → decided b ≡ stands_at (finder spec) (descends_from spec) (type_rank spec) old.testing.waiting.items old.testing.holds
      → tested_code (under spec asker) new.place locals t ≡ judged spec new (decided b)
      → tested_code (under spec asker) old.place locals t ≡ judged spec old (standing spec old.testing)
  decided_so asker locals t old new b kept is h =
      ap (λ (a : Asking). tested_code (under spec asker) a.place locals t) (sym kept) ∙ h
      ∙ ap (λ (a : Asking). judged spec a (decided b)) kept ∙ ap (judged spec old) (is ∙ stood old.testing)

  -- an invariant is asked
  asked_so : (asker : Asker) (locals : Locals) (t : Tested) (old new : Asking) (d : TypeDefTree) (v : ValueTree) → IsKept old new
      → asks d v (met_behind (finder spec) (descends_from spec) (type_rank spec) new.testing.waiting.items) (unmet_behind (finder spec) (descends_from spec) (type_rank spec) new.testing.waiting.items)
      ≡ stands_at (finder spec) (descends_from spec) (type_rank spec) old.testing.waiting.items old.testing.holds
      → tested_code (under spec asker) new.place locals t ≡ invariant_asked spec (nest_of new.nest) new.place d v (told spec new)
      → tested_code (under spec asker) old.place locals t ≡ judged spec old (standing spec old.testing)
  asked_so asker locals t old new d v kept is h =
      ap (λ (a : Asking). tested_code (under spec asker) a.place locals t) (sym kept) ∙ h
      ∙ ap (λ (a : Asking). invariant_asked spec (nest_of a.nest) a.place d v (by_holding (judged spec a (met_behind (finder spec) (descends spec) (type_rank spec) new.testing.waiting.items)) (judged spec a (unmet_behind (finder spec) (descends spec) (type_rank spec) new.testing.waiting.items)))) kept
      ∙ ap (judged spec old)
      (ap (λ (f : Name → Name → Bool). asks d v (met_behind (finder spec) f (type_rank spec) new.testing.waiting.items) (unmet_behind (finder spec) f (type_rank spec) new.testing.waiting.items)) (sym (alike spec))
      ∙ is ∙ stood old.testing)

  -- ... where the test stands in a box
  pub asked_boxed : (asker : Asker) (locals : Locals) (t : Tested) (old mid new : Asking) (d : TypeDefTree) (v : ValueTree) → new ≡ mid → IsKept old mid
      → asks d v (met_behind (finder spec) (descends_from spec) (type_rank spec) mid.testing.waiting.items) (unmet_behind (finder spec) (descends_from spec) (type_rank spec) mid.testing.waiting.items)
      ≡ stands_at (finder spec) (descends_from spec) (type_rank spec) old.testing.waiting.items old.testing.holds
      → tested_code (under spec asker) new.place locals t ≡ invariant_asked spec (nest_of new.nest) new.place d v (told spec new)
      → tested_code (under spec asker) old.place locals t ≡ judged spec old (standing spec old.testing)
  asked_boxed asker locals t old mid new d v e kept is h =
      asked_so asker locals t old mid d v kept is
      ((λ i. tested_code (under spec asker) (sym e i).place locals t) ∙ h ∙ (λ i. invariant_asked spec (nest_of (e i).nest) (e i).place d v (told spec (e i))))

  told_by : (a : Asking) (holds : Bool) (locals : Locals)
      → judged spec a (if holds then met_behind (finder spec) (descends spec) (type_rank spec) a.testing.waiting.items else unmet_behind (finder spec) (descends spec) (type_rank spec) a.testing.waiting.items)
      ≡ told spec a holds locals
  told_by a true locals = refl
  told_by a false locals = refl

  -- the test behind what was told
  pub told_so : (old new : Asking) (holds : Bool) (locals : Locals) → IsKept old new
      → ((find : Finder) (above : Name → Name → Bool) (rank : TypeDefTree → ℕ) → stands_at find above rank new.testing.waiting.items new.testing.holds
      ≡ (if holds then met_behind find above rank old.testing.waiting.items else unmet_behind find above rank old.testing.waiting.items))
      → judged spec new (standing spec new.testing) ≡ told spec old holds locals
  told_so old new holds locals kept is =
      ap (λ (a : Asking). judged spec a (standing spec new.testing)) kept
      ∙ ap (judged spec old) (is (finder spec) (descends spec) (type_rank spec)) ∙ told_by old holds locals
