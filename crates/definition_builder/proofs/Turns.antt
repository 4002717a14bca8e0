-- One turn of each loop that reads a list.
use Rattle.std.proofs.Common.{◌≡◌, ℕ, zero, suc, ◌<◌, List, [], Bool, true, false, Some, None, refl, arith}
use Rattle.vdm_kinds.specs.declared.name_at.NameAt.{NameAt}
use Rattle.vdm_kinds.specs.declared.place.Place.{Place}
use Rattle.abstract_syntax.specs.Types.{TypeTree}
use Rattle.grammar_words.specs.declared.word.Word.{Word}
use Rattle.grammar_words.specs.declared.word.Word.TheVariants.{Colon, Semicolon}
use Rattle.grammar_words.specs.Tokens.{Token}
use Rattle.stmt_reading.specs.Leaves.{Read, onto, name_in, put, type_in, word_in}
use Rattle.stmt_reading.specs.Definitions.{fields_in, items_in, next_word}

-- ---- items

module _ {A : Type 0} (begins : Word → Bool) (one : List Token → Read A) where
  pub items-end : (left : ℕ) (tokens : List Token) → 0 < left → begins (next_word tokens) ≡ false → items_in begins one left tokens ≡ Some ([], tokens)
  items-end zero tokens some none = absurd (omega arith)
  items-end (suc left) tokens some none = rw none refl

  pub items-last : (left : ℕ) (tokens rest : List Token) (x : A) → 0 < left → begins (next_word tokens) ≡ true → one tokens ≡ Some (x, rest) → word_in Semicolon rest ≡ None → items_in begins one left tokens ≡ onto (Some ([], rest)) (put x)
  items-last zero tokens rest x some begun read none = absurd (omega arith)
  items-last (suc left) tokens rest x some begun read none = rw begun (rw read (rw none refl))

  pub items-more : (left : ℕ) (tokens rest behind : List Token) (x : A) (place : Place) → begins (next_word tokens) ≡ true → one tokens ≡ Some (x, rest) → word_in Semicolon rest ≡ Some (place, behind) → items_in begins one (suc left) tokens ≡ onto (items_in begins one left behind) (put x)
  items-more left tokens rest behind x place begun read semicolon = rw begun (rw read (rw semicolon refl))

-- ---- fields

pub fields-end : (left : ℕ) (tokens rest : List Token) → 0 < left → name_in tokens ≡ None → rest ≡ tokens → fields_in left tokens ≡ Some ([], rest)
fields-end zero tokens rest some none kept = absurd (omega arith)
fields-end (suc left) tokens rest some none kept = rw none (rw kept refl)

pub fields-no-colon : (left : ℕ) (tokens behind : List Token) (name : NameAt) → 0 < left → name_in tokens ≡ Some (name, behind) → word_in Colon behind ≡ None → fields_in left tokens ≡ None
fields-no-colon zero tokens behind name some named none = absurd (omega arith)
fields-no-colon (suc left) tokens behind name some named none = rw named (rw none refl)

pub fields-no-type : (left : ℕ) (tokens behind rest : List Token) (name : NameAt) (colon : Place) → 0 < left → name_in tokens ≡ Some (name, behind) → word_in Colon behind ≡ Some (colon, rest) → type_in rest ≡ None → fields_in left tokens ≡ None
fields-no-type zero tokens behind rest name colon some named declared none = absurd (omega arith)
fields-no-type (suc left) tokens behind rest name colon some named declared none = rw named (rw declared (rw none refl))

pub fields-more : (left : ℕ) (tokens a b c : List Token) (name : NameAt) (colon : Place) (t : TypeTree) → name_in tokens ≡ Some (name, a) → word_in Colon a ≡ Some (colon, b) → type_in b ≡ Some (t, c)
    → fields_in (suc left) tokens ≡ onto (fields_in left c) (put (record { name = name.name; name_place = name.place; declared = t }))
fields-more left tokens a b c name colon t named declared read = rw named (rw declared (rw read refl))
