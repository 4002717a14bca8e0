use Rattle.std.proofs.Common.{◌≡◌, ℕ, List, Option, Some, None, Bor, ap, ◌∙◌, get_or}
use Rattle.std.specs.Option.{option_copied, unwrap_or}
use Rattle.std.specs.List.{slice_get}
use Rattle.std.proofs.lemmas.Option.{unwrap_or-slice_get}
use Rattle.value_text.proofs.name.name_text.Goals as goal

-- the text that was found, or what stands for it, is the text of the list, or that
text_or : (found : Option (Bor (List ℕ))) (other : Bor (List ℕ)) (texts : List (List ℕ)) (i : ℕ)
    → option_copied found ≡ slice_get texts i → (unwrap_or found other).now ≡ get_or texts i other.now
text_or None other texts i e = ap (λ text. unwrap_or text other.now) e ∙ unwrap_or-slice_get texts i other.now
text_or (Some _) other texts i e = ap (λ text. unwrap_or text other.now) e ∙ unwrap_or-slice_get texts i other.now

pub returns : goal.returns
returns c = ap (λ text. text.now) c.unwrap_or.ensures ∙ text_or _ _ c.args.names.now c.args.name.0 c.text.ensures
