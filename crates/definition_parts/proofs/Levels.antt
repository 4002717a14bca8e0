-- Heads without a level.
use Rattle.std.proofs.Common.{◌≡◌, List, [], ◌∷◌, Option, None, true, refl, ap}
use Rattle.vdm_kinds.specs.declared.access.Level.{Level}
use Rattle.vdm_kinds.specs.declared.access.Level.TheVariants.{Private}
use Rattle.vdm_kinds.specs.declared.place.Place.{Place}
use Rattle.grammar_words.specs.Tokens.{Token}
use Rattle.stmt_reading.specs.Definitions.{behind_static, level_at, named_head}
use Rattle.definition_parts.specs.Parts.{next_level}

-- where the next word gives no level, it is private
pub no_level : (tokens : List Token) → next_level tokens ≡ None → (place : Place) → behind_static place tokens ≡ named_head true Private place tokens
no_level [] none place = refl
no_level (token ∷ tokens) none place = ap (λ (level : Option Level). level_at level place (token ∷ tokens) tokens) none
