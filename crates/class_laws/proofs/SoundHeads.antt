-- What a definition begins with is written so: its access in one of its forms, and its name.
use Rattle.std.proofs.Common.{◌≡◌, ℕ, Bool, true, false, ◌&&◌, nat_eq, if◌then◌else◌, List, [], ◌∷◌, ◌++◌, Some, refl, sym, subst, arith}
use Rattle.std.proofs.lemmas.Bool.Decides.{nat_tests}
use Rattle.std.specs.List.{Contains}
use Rattle.vdm_kinds.specs.declared.access.Level.{Level}
use Rattle.vdm_kinds.specs.declared.access.Level.TheVariants.{Private, Protected, Public}
use Rattle.vdm_kinds.specs.declared.name_at.NameAt.{NameAt}
use Rattle.vdm_kinds.specs.declared.part.Part.{Part}
use Rattle.vdm_kinds.specs.declared.part.Part.TheVariants.{Spec, Expr}
use Rattle.vdm_kinds.specs.declared.place.Place.{Place}
use Rattle.grammar_words.specs.declared.word.Word.TheVariants as word_is
use Rattle.grammar_words.specs.Tokens.{Token, identifier, plain}
use Rattle.grammar_words.specs.Written.{Written, word, at_word}
use Rattle.stmt_trees.specs.Pieces.{Begin}
use Rattle.stmt_trees.specs.Heads.{is_same_place, access_forms, head_spelling}
use Rattle.stmt_reading.specs.Leaves.{Read, onto, name_in}
use Rattle.stmt_reading.specs.Definitions.{Head, head_in}
use Rattle.stmt_laws.proofs.Gives.{Gives, gives_this, gives_none, gives_onto, gives_choice, Spells, gives_word, gives_name}

-- ---- the same place

abbrev pub same_part : Part → Part → Bool
same_part Spec Spec = true
same_part Expr Expr = true
same_part _ _ = false

part-same : (p : Part) → same_part p p ≡ true
part-same Spec = refl
part-same Expr = refl

number-same : (n : ℕ) → nat_eq n n ≡ true
number-same n = grind (arith, nat_tests)

all_three : (a b c : Bool) → a ≡ true → b ≡ true → c ≡ true → (a && b && c) ≡ true
all_three true true true d e f = refl
all_three false b c d e f = absurd (cc)
all_three true false c d e f = absurd (cc)
all_three true true false d e f = absurd (cc)

pub place-same : (p : Place) → is_same_place p p ≡ true
place-same p =
    all_three (same_part p.part p.part) (nat_eq p.line p.line) (nat_eq p.column p.column) (part-same p.part) (number-same p.line) (number-same p.column)

-- ---- as the reading has it

abbrev pub named_head : Bool → Level → Place → List Token → Read Head
named_head is_static level place tokens =
    onto (name_in tokens) (λ (name : NameAt) (rest : List Token).
    Some (
      record {
        access = record { is_static = is_static; level = level };
        name = name.name;
        name_place = name.place;
        place = place;
      },
      rest,
    ))

-- ---- heads

pub record HeadAt (tokens : List Token) (head : Head) (rest : List Token) : Type 0 where
  pub spelled : Spells tokens (head_spelling head.access head.name head.name_place head.place) rest

-- a name behind one of the forms
gives_named : (is_static : Bool) (level : Level) (place : Place) (before tokens : List Token) (form : List Written)
    → ((name_place : Place) → Contains (access_forms (record { is_static = is_static; level = level }) name_place place) form)
    → Begin before form tokens → Gives (named_head is_static level place tokens) (HeadAt before)
gives_named is_static level place before tokens form c b =
    gives_onto _ (gives_name tokens) (λ name rest f.
    gives_this (
    record {
      access = record { is_static = is_static; level = level };
      name = name.name;
      name_place = name.place;
      place = place;
    }
    ) rest (record { spelled = record { is = (form, tokens, c name.place, b, (rest, f.is, refl)) } }))

private_form : (place : Place) (same : Bool)
    → Contains ((if same then [] ∷ [] else []) ++ (at_word word_is.Private place ∷ []) ∷ []) (at_word word_is.Private place ∷ [])
private_form place true = (1, omega arith, refl)
private_form place false = (0, omega arith, refl)

alone_form : (place : Place)
    → Contains (access_forms (record { is_static = false; level = Private }) place place) []
alone_form place =
    subst (λ (same : Bool). Contains ((if same then [] ∷ [] else []) ++ (at_word word_is.Private place ∷ []) ∷ []) []) (sym (place-same place))
    (0, omega arith, refl)

gives_static : (place : Place) (tokens : List Token) → Gives (head_in (plain word_is.Static place ∷ tokens)) (HeadAt (plain word_is.Static place ∷ tokens))
gives_static place [] = gives_none
gives_static place (plain word_is.Private p ∷ ts) =
    gives_named true Private place _ ts (at_word word_is.Static place ∷ word word_is.Private ∷ []) (λ np. (1, omega arith, refl))
    (plain word_is.Private p ∷ ts, refl, (ts, (p, refl), refl))
gives_static place (plain word_is.Protected p ∷ ts) =
    gives_named true Protected place _ ts (at_word word_is.Static place ∷ word word_is.Protected ∷ []) (λ np. (0, omega arith, refl))
    (plain word_is.Protected p ∷ ts, refl, (ts, (p, refl), refl))
gives_static place (plain word_is.Public p ∷ ts) =
    gives_named true Public place _ ts (at_word word_is.Static place ∷ word word_is.Public ∷ []) (λ np. (0, omega arith, refl))
    (plain word_is.Public p ∷ ts, refl, (ts, (p, refl), refl))
gives_static place (t ∷ ts) =
    gives_named true Private place _ (t ∷ ts) (at_word word_is.Static place ∷ []) (λ np. (0, omega arith, refl)) (t ∷ ts, refl, refl)

pub gives_head : (tokens : List Token) → Gives (head_in tokens) (HeadAt tokens)
gives_head [] = gives_none
gives_head (identifier name place ∷ tokens) =
    gives_this (
    record {
      access = record { is_static = false; level = Private };
      name = name;
      name_place = place;
      place = place;
    }
    ) tokens (record { spelled = record { is = ([], identifier name place ∷ tokens, alone_form place, refl, (tokens, refl, refl)) } })
gives_head (plain word_is.Static place ∷ tokens) = gives_static place tokens
gives_head (plain word_is.Private place ∷ tokens) =
    gives_choice _ _ (gives_word word_is.Static tokens) (λ spot a f.
    gives_named true Private place _ a (at_word word_is.Private place ∷ word word_is.Static ∷ []) (λ np. (2, omega arith, refl))
    (tokens, refl, (a, (spot, f.is), refl)))
    (λ none. gives_named false Private place _ tokens (at_word word_is.Private place ∷ []) (λ np. private_form place (is_same_place np place))
    (tokens, refl, refl))
gives_head (plain word_is.Protected place ∷ tokens) =
    gives_choice _ _ (gives_word word_is.Static tokens) (λ spot a f.
    gives_named true Protected place _ a (at_word word_is.Protected place ∷ word word_is.Static ∷ []) (λ np. (1, omega arith, refl))
    (tokens, refl, (a, (spot, f.is), refl)))
    (λ none. gives_named false Protected place _ tokens (at_word word_is.Protected place ∷ []) (λ np. (0, omega arith, refl)) (tokens, refl, refl))
gives_head (plain word_is.Public place ∷ tokens) =
    gives_choice _ _ (gives_word word_is.Static tokens) (λ spot a f.
    gives_named true Public place _ a (at_word word_is.Public place ∷ word word_is.Static ∷ []) (λ np. (1, omega arith, refl))
    (tokens, refl, (a, (spot, f.is), refl)))
    (λ none. gives_named false Public place _ tokens (at_word word_is.Public place ∷ []) (λ np. (0, omega arith, refl)) (tokens, refl, refl))
gives_head (_ ∷ tokens) = gives_none
