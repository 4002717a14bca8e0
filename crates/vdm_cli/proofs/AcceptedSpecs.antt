-- A specification that is accepted is short.
use Rattle.std.specs.Prelude.{◌≡◌, ℕ, ◌≤◌, Bool, true, false, List, length, Ok, Err, nat_lt, if◌then◌else◌}
use Rattle.std.proofs.Common.{refl}
use Rattle.std.proofs.lemmas.Bool.{ltb-false}
use Rattle.abstract_syntax.specs.Classes.{SpecTree}
use Rattle.vdm_kinds.specs.declared.part.Part.TheVariants.{Spec}
use Rattle.vdm_kinds.specs.declared.spec_fault.SpecFault.{SpecFault}
use Rattle.vdm_kinds.specs.declared.spec_kind.SpecKind.TheVariants.{TooLong}
use Rattle.vdm_lexer.specs.Decoded.{characters, good}
use Rattle.vdm_lexer.specs.Lexemes.{Reading, fault_at, lexemes_of}
use Rattle.vdm_lexer.specs.Spots.{start_of}
use Rattle.text_phases.specs.Phases.{parsed_spec, accepted_spec, read_spec, spec_limit}

-- no text past the limit has lexemes
within_limit : (text : List ℕ) (test : Bool) (told : SpecFault) (found : Reading) (read : List (List ℕ) × SpecTree) → accepted_spec (parsed_spec text (if test then Err told else found)) ≡ Ok read → test ≡ false
within_limit text true told found read e = absurd (cc)
within_limit text false told found read e = refl

pub short : (text : List ℕ) (read : List (List ℕ) × SpecTree) → read_spec text ≡ Ok read → length text ≤ spec_limit
short text read e = ltb-false spec_limit (length text) (within_limit text (nat_lt spec_limit (length text)) (fault_at TooLong (start_of Spec)) (lexemes_of Spec (good text) (characters text)) read e)
