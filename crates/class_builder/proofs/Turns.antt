-- One turn of each loop that reads a list.
use Rattle.std.proofs.Common.{◌≡◌, ℕ, zero, suc, ◌<◌, List, [], Some, None, refl, sym, arith}
use Rattle.vdm_kinds.specs.declared.name.Name.{Name}
use Rattle.vdm_kinds.specs.declared.place.Place.{Place}
use Rattle.abstract_syntax.specs.Classes.{BlockTree, ClassTree}
use Rattle.grammar_words.specs.declared.word.Word.TheVariants.{Class, End}
use Rattle.grammar_words.specs.Tokens.{Token}
use Rattle.stmt_reading.specs.Leaves.{onto, put, word_in}
use Rattle.stmt_reading.specs.Classes.{block_in, blocks_in, class_in, classes_in}

-- ---- blocks

pub blocks-end : (class : Name) (left : ℕ) (tokens rest : List Token) (place : Place) → 0 < left → word_in End tokens ≡ Some (place, rest) → blocks_in class left tokens ≡ Some ([], rest)
blocks-end class zero tokens rest place some found = absurd (omega arith)
blocks-end class (suc left) tokens rest place some found = rw found refl

pub blocks-more : (class : Name) (left : ℕ) (tokens same rest : List Token) (block : BlockTree) → word_in End tokens ≡ None → same ≡ tokens → block_in class same ≡ Some (block, rest) → blocks_in class (suc left) tokens ≡ onto (blocks_in class left rest) (put block)
blocks-more class left tokens same rest block none kept read = rw none (rw (sym kept) (rw read refl))

-- ---- classes

pub classes-end : (left : ℕ) (tokens rest : List Token) → 0 < left → word_in Class tokens ≡ None → rest ≡ tokens → classes_in left tokens ≡ Some ([], rest)
classes-end zero tokens rest some none kept = absurd (omega arith)
classes-end (suc left) tokens rest some none kept = rw none (rw kept refl)

pub classes-more : (left : ℕ) (tokens behind rest : List Token) (place : Place) (class : ClassTree) → word_in Class tokens ≡ Some (place, behind) → class_in place behind ≡ Some (class, rest) → classes_in (suc left) tokens ≡ onto (classes_in left rest) (put class)
classes-more left tokens behind rest place class found read = rw found (rw read refl)
