-- Forms of alternatives against kinds.
use Rattle.std.proofs.Common.{◌≡◌, true, false, refl}
use Rattle.abstract_syntax.specs.Classes.{SpecTree}
use Rattle.class_checks.specs.TypeNames.{descends, meets}
use Rattle.class_meaning.specs.Classes.{class_names}
use Rattle.form_meaning.specs.Forms.{AltTrees, no_form, one_of}
use Rattle.form_meaning.specs.Meeting.{some_meet}
use Rattle.check_operators.specs.Kinds.{alts_of_kind, form_of_kind}
use Rattle.check_operators.specs.declared.kind.Kind.{Kind}
use Rattle.check_operators.specs.declared.kind.Kind.TheVariants.{Any, Truth, Number, Set, Sequence, Map, SequenceOrMap}

-- of any value
pub when_any : (spec : SpecTree) (kind : Kind) (alts : AltTrees) → true ≡ meets spec no_form (form_of_kind kind)
    → true ≡ meets spec (one_of alts) (form_of_kind kind)
when_any spec Any alts e = refl
when_any spec Truth alts e = absurd (cc)
when_any spec Number alts e = absurd (cc)
when_any spec Set alts e = absurd (cc)
when_any spec Sequence alts e = absurd (cc)
when_any spec Map alts e = absurd (cc)
when_any spec SequenceOrMap alts e = absurd (cc)

-- of some alternatives
pub not_any : (spec : SpecTree) (kind : Kind) (alts : AltTrees) → false ≡ meets spec no_form (form_of_kind kind)
    → some_meet (descends spec) (class_names spec) alts (alts_of_kind kind) ≡ meets spec (one_of alts) (form_of_kind kind)
not_any spec Any alts e = absurd (cc)
not_any spec Truth alts e = refl
not_any spec Number alts e = refl
not_any spec Set alts e = refl
not_any spec Sequence alts e = refl
not_any spec Map alts e = refl
not_any spec SequenceOrMap alts e = refl
