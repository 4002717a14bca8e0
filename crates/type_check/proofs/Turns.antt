-- Turns: what is told of the whole stays the same.
use Rattle.std.proofs.Common.{◌≡◌, List, [], ◌∷◌, ◌++◌, Option, refl, ap, sym, ◌∙◌}
use Rattle.vdm_kinds.specs.declared.spec_fault.SpecFault.{SpecFault}
use Rattle.form_meaning.specs.Forms.{FormTree}
use Rattle.class_checks.specs.Results.{Checked, gives, after}
use Rattle.check_named.specs.Below.check_scopes.specs.Told.{told, told_after, told_given}
use Rattle.check_named.specs.Below.check_scopes.specs.declared.setting.Setting.{Setting}
use Rattle.check_named.specs.Below.check_frames.specs.Meant.{frame_check, under}
use Rattle.check_named.specs.Below.check_frames.specs.declared.step.Frame.{Frame}

module _ (setting : Setting) where
  pub under_pushed : (frames : List Frame) (frame : Frame) (checked : Checked)
      → under setting (frames ++ frame ∷ []) checked ≡ under setting frames (after checked (frame_check setting frame))
  under_pushed [] frame checked = refl
  under_pushed (low ∷ frames) frame checked = ap (λ (c : Checked). after c (frame_check setting low)) (under_pushed frames frame checked)

  pub told_under : (frames : List Frame) (first later : Option SpecFault) (checked other : Checked) → told first checked ≡ told later other
      → told first (under setting frames checked) ≡ told later (under setting frames other)
  told_under [] first later checked other e = e
  told_under (low ∷ frames) first later checked other e =
      told_after first later (under setting frames checked) (under setting frames other) (frame_check setting low)
      (told_under frames first later checked other e)

  -- a frame more: what is above it comes first
  pub told_pushed : (frames more : List Frame) (frame : Frame) (first later : Option SpecFault) (checked other : Checked) → more ≡ frames ++ frame ∷ []
      → told first checked ≡ told later other
      → told first (under setting frames (after checked (frame_check setting frame))) ≡ told later (under setting more other)
  told_pushed frames more frame first later checked other pushed e =
      ap (told first) (sym (under_pushed frames frame checked))
      ∙ told_under (frames ++ frame ∷ []) first later checked other e
      ∙ ap (λ (fs : List Frame). told later (under setting fs other)) (sym pushed)

  -- a frame less: it gets the form of what was above it
  pub told_popped : (frames more : List Frame) (frame : Frame) (first later : Option SpecFault) (form : FormTree) (other : Checked)
      → more ≡ frames ++ frame ∷ [] → told first (frame_check setting frame form) ≡ told later other
      → told first (under setting more (gives form)) ≡ told later (under setting frames other)
  told_popped frames more frame first later form other popped e =
      ap (λ (fs : List Frame). told first (under setting fs (gives form))) popped
      ∙ ap (told first) (under_pushed frames frame (gives form))
      ∙ told_under frames first later (after (gives form) (frame_check setting frame)) other
      (told_given first form (frame_check setting frame) ∙ e)
