-- Turns: what is told of the whole stays the same.
use Rattle.std.proofs.Common.{◌≡◌, List, [], ◌∷◌, ◌++◌, Option, refl, ap, sym, ◌∙◌}
use Rattle.vdm_kinds.specs.declared.spec_fault.SpecFault.{SpecFault}
use Rattle.form_meaning.specs.Forms.{FormTree, no_form}
use Rattle.class_checks.specs.Results.{Checked, after}
use Rattle.spec_checks.specs.Statements.{done}
use Rattle.stmt_kinds.specs.Below.check_scopes.specs.declared.setting.Setting.{Setting}
use Rattle.stmt_kinds.specs.Below.stmt_scopes.specs.Refused.{refused, refused_behind, refused_rest}
use Rattle.stmt_kinds.specs.Below.stmt_scopes.specs.declared.returned.Returned.{Returned}
use Rattle.stmt_kinds.specs.Below.stmt_pending.specs.Meant.{pending_check, under}
use Rattle.stmt_kinds.specs.Below.stmt_pending.specs.declared.pending.Pending.{Pending}

module _ (setting : Setting) (returned : Returned) where
  pub under_pushed : (stack : List Pending) (low : Pending) (checked : Checked)
      → under setting returned (stack ++ low ∷ []) checked
      ≡ under setting returned stack (after checked (λ (form : FormTree). pending_check setting returned low))
  under_pushed [] low checked = refl
  under_pushed (lowest ∷ stack) low checked =
      ap (λ (c : Checked). after c (λ (form : FormTree). pending_check setting returned lowest)) (under_pushed stack low checked)

  pub refused_under : (stack : List Pending) (first later : Option SpecFault) (checked other : Checked) → refused first checked ≡ refused later other
      → refused first (under setting returned stack checked) ≡ refused later (under setting returned stack other)
  refused_under [] first later checked other e = e
  refused_under (low ∷ stack) first later checked other e =
      refused_behind first later (under setting returned stack checked) (under setting returned stack other) (pending_check setting returned low)
      (refused_under stack first later checked other e)

  -- one more: what is above it comes first
  pub refused_pushed : (stack more : List Pending) (low : Pending) (first later : Option SpecFault) (checked other : Checked) → more ≡ stack ++ low ∷ []
      → refused first checked ≡ refused later other
      → refused first (under setting returned stack (after checked (λ (form : FormTree). pending_check setting returned low)))
      ≡ refused later (under setting returned more other)
  refused_pushed stack more low first later checked other pushed e =
      ap (refused first) (sym (under_pushed stack low checked))
      ∙ refused_under (stack ++ low ∷ []) first later checked other e
      ∙ ap (λ (s : List Pending). refused later (under setting returned s other)) (sym pushed)

  -- one less, where nothing is left of what was above it
  pub refused_popped : (stack more : List Pending) (low : Pending) (first later : Option SpecFault) (other : Checked) → more ≡ stack ++ low ∷ []
      → refused first (pending_check setting returned low) ≡ refused later other
      → refused first (under setting returned more done) ≡ refused later (under setting returned stack other)
  refused_popped stack more low first later other popped e =
      ap (λ (s : List Pending). refused first (under setting returned s done)) popped
      ∙ ap (refused first) (under_pushed stack low done)
      ∙ refused_under stack first later (after done (λ (form : FormTree). pending_check setting returned low)) other
      (refused_rest first no_form (pending_check setting returned low) ∙ e)
