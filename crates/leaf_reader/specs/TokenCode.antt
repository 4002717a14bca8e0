-- The code of a token, by which a proof tells tokens apart.
use Rattle.std.specs.Prelude.{◌≡◌, ℕ, ℤ, List, ◌⊎◌, refl}
use Rattle.std.specs.Coded.{Coded, code_by, coded_ℕ, coded_ℤ, coded_list, coded×, coded⊎}
use mathlib.Core.Logic.{inl, inr}
use Rattle.vdm_kinds.specs.declared.name.Name.{Name}
use Rattle.vdm_kinds.specs.declared.place.Place.{Place}
use Rattle.vdm_kinds.specs.contracts.name.Name as name_row
use Rattle.vdm_kinds.specs.contracts.place.Place as place_row
use Rattle.grammar_words.specs.contracts.word.Word as word_row
use Rattle.grammar_words.specs.declared.word.Word.{Word}
use Rattle.grammar_words.specs.Tokens.{Token, identifier, quote, whole, character, text, make_named, is_named, plain}

-- with a name, a number, characters or a word, each at its place
abbrev Named : Type 0
Named = Name × Place

abbrev Parts : Type 0
Parts = ((Named ⊎ Named) ⊎ (Named ⊎ Named)) ⊎ (((ℤ × Place) ⊎ (ℕ × Place)) ⊎ ((List ℕ × Place) ⊎ (Word × Place)))

abbrev split : Token → Parts
split (identifier name place) = inl (inl (inl (name, place)))
split (quote name place) = inl (inl (inr (name, place)))
split (make_named name place) = inl (inr (inl (name, place)))
split (is_named name place) = inl (inr (inr (name, place)))
split (whole number place) = inr (inl (inl (number, place)))
split (character c place) = inr (inl (inr (c, place)))
split (text characters place) = inr (inr (inl (characters, place)))
split (plain word place) = inr (inr (inr (word, place)))

abbrev join : Parts → Token
join (inl (inl (inl (name, place)))) = identifier name place
join (inl (inl (inr (name, place)))) = quote name place
join (inl (inr (inl (name, place)))) = make_named name place
join (inl (inr (inr (name, place)))) = is_named name place
join (inr (inl (inl (number, place)))) = whole number place
join (inr (inl (inr (c, place)))) = character c place
join (inr (inr (inl (characters, place)))) = text characters place
join (inr (inr (inr (word, place)))) = plain word place

pub join-split : (token : Token) → join (split token) ≡ token
join-split (identifier name place) = refl
join-split (quote name place) = refl
join-split (whole number place) = refl
join-split (character c place) = refl
join-split (text characters place) = refl
join-split (make_named name place) = refl
join-split (is_named name place) = refl
join-split (plain word place) = refl

abbrev coded_named : Coded Named
coded_named = coded× name_row.the_row.coded place_row.the_row.coded

abbrev coded_parts : Coded Parts
coded_parts =
    coded⊎ (coded⊎ (coded⊎ coded_named coded_named) (coded⊎ coded_named coded_named))
    (coded⊎ (coded⊎ (coded× coded_ℤ place_row.the_row.coded) (coded× coded_ℕ place_row.the_row.coded))
    (coded⊎ (coded× (coded_list coded_ℕ) place_row.the_row.coded) (coded× word_row.the_row.coded place_row.the_row.coded)))

abbrev pub token_code : Coded Token
token_code = code_by Parts coded_parts split join join-split
