-- What a definition begins with: its access, in any of the forms that mean it, and its name.
use Rattle.std.specs.Prelude.{Bool, true, false, ◌&&◌, nat_eq, if◌then◌else◌, List, [], ◌∷◌, ◌++◌}
use Rattle.vdm_kinds.specs.declared.access.Access.{Access}
use Rattle.vdm_kinds.specs.declared.access.Level.{Level}
use Rattle.vdm_kinds.specs.declared.access.Level.TheVariants.{Private, Protected, Public}
use Rattle.vdm_kinds.specs.declared.name.Name.{Name}
use Rattle.vdm_kinds.specs.declared.part.Part.{Part}
use Rattle.vdm_kinds.specs.declared.part.Part.TheVariants.{Spec, Expr}
use Rattle.vdm_kinds.specs.declared.place.Place.{Place}
use Rattle.grammar_words.specs.declared.word.Word.{Word}
use Rattle.grammar_words.specs.declared.word.Word.TheVariants as word_is
use Rattle.grammar_words.specs.Tokens.{identifier}
use Rattle.grammar_words.specs.Written.{Written, at, word, at_word}
use Rattle.stmt_trees.specs.Pieces.{Piece, must, one_of}

abbrev same_part : Part → Part → Bool
same_part Spec Spec = true
same_part Expr Expr = true
same_part _ _ = false

abbrev pub is_same_place : Place → Place → Bool
is_same_place a b = same_part a.part b.part && nat_eq a.line b.line && nat_eq a.column b.column

abbrev level_word : Level → Word
level_word Private = word_is.Private
level_word Protected = word_is.Protected
level_word Public = word_is.Public

-- where no word says so a definition is private; it begins with its name then
abbrev pub access_forms : Access → Place → Place → List (List Written)
access_forms access name_place place = forms access.is_static access.level
  where
    forms : Bool → Level → List (List Written)
    forms false Private =
        (if is_same_place name_place place then [] ∷ [] else []) ++ (at_word word_is.Private place ∷ []) ∷ []
    forms false level = (at_word (level_word level) place ∷ []) ∷ []
    forms true Private =
        (at_word word_is.Static place ∷ []) ∷ (at_word word_is.Static place ∷ word word_is.Private ∷ [])
        ∷ (at_word word_is.Private place ∷ word word_is.Static ∷ []) ∷ []
    forms true level =
        (at_word word_is.Static place ∷ word (level_word level) ∷ [])
        ∷ (at_word (level_word level) place ∷ word word_is.Static ∷ []) ∷ []

abbrev pub head_spelling : Access → Name → Place → Place → List Piece
head_spelling access name name_place place = one_of (access_forms access name_place place) ∷ must (at (identifier name name_place)) ∷ []
