-- Lists that are read, one turn after the other.
use Rattle.std.proofs.Common.{◌≡◌, ℕ, zero, suc, ◌<◌, List, [], ◌∷◌, ◌++◌, map, Some, None, refl, ap, sym, ◌∙◌, arith}
use Rattle.std.proofs.lemmas.List.{append-nil, append_assoc, map_push}
use Rattle.vdm_kinds.specs.declared.name_at.NameAt.{NameAt}
use Rattle.vdm_kinds.specs.declared.place.Place.{Place}
use Rattle.grammar_words.specs.declared.word.Word.TheVariants.{Comma}
use Rattle.grammar_words.specs.Tokens.{Token}
use Rattle.stmt_reading.specs.Leaves.{Read, onto, further, name_in, put, word_in}
use Rattle.definition_parts.specs.Parts.{put_all}

-- ---- what was read, before what the rest gives

put-end : {A : Type 0} (made : List A) (rest : List Token) → put_all made (Some ([], rest)) ≡ Some (made, rest)
put-end made rest = ap (λ (all : List _). Some (all, rest)) (append-nil made)

put-one : {A : Type 0} (made : List A) (x : A) (read : Read (List A)) → put_all made (onto read (put x)) ≡ put_all (made ++ x ∷ []) read
put-one made x None = refl
put-one made x (Some (others, rest)) = ap (λ (all : List _). Some (all, rest)) (sym (append_assoc made (x ∷ []) others))

-- ---- a turn, where the whole is what was read before what the rest gives

module _ {A B : Type 0} (view : A → B) (whole : Read (List B)) (made : List A) (rest : Read (List B)) (so_far : whole ≡ put_all (map view made) rest) where
  -- nothing more is read
  pub turn-end : (tokens : List Token) → rest ≡ Some ([], tokens) → whole ≡ Some (map view made, tokens)
  turn-end tokens e = so_far ∙ ap (put_all (map view made)) e ∙ put-end (map view made) tokens

  pub turn-refused : rest ≡ None → whole ≡ None
  turn-refused e = so_far ∙ ap (put_all (map view made)) e

  -- one more is read
  pub turn-more : (x : A) (more : List A) (behind : Read (List B)) → more ≡ made ++ x ∷ [] → rest ≡ onto behind (put (view x)) → whole ≡ put_all (map view more) behind
  turn-more x more behind pushed e =
      so_far ∙ ap (put_all (map view made)) e ∙ put-one (map view made) (view x) behind
      ∙ ap (λ (all : List B). put_all all behind) (sym (ap (map view) pushed ∙ map_push view made x))

-- ---- names

pub names-end : (left : ℕ) (tokens rest : List Token) → 0 < left → word_in Comma tokens ≡ None → rest ≡ tokens → further Comma name_in left tokens ≡ Some ([], rest)
names-end zero tokens rest some none kept = absurd (omega arith)
names-end (suc left) tokens rest some none kept = rw none (rw kept refl)

pub names-more : (left : ℕ) (tokens behind rest : List Token) (place : Place) (x : NameAt) → word_in Comma tokens ≡ Some (place, behind) → name_in behind ≡ Some (x, rest) → further Comma name_in (suc left) tokens ≡ onto (further Comma name_in left rest) (put x)
names-more left tokens behind rest place x comma read = rw comma (rw read refl)

-- names stand in lists as they are
module _ (whole : Read (List NameAt)) (made : List NameAt) (rest : Read (List NameAt)) (so_far : whole ≡ put_all made rest) where
  pub name-turn-end : (tokens : List Token) → rest ≡ Some ([], tokens) → whole ≡ Some (made, tokens)
  name-turn-end tokens e = so_far ∙ ap (put_all made) e ∙ put-end made tokens

  pub name-turn-more : (x : NameAt) (more : List NameAt) (behind : Read (List NameAt)) → more ≡ made ++ x ∷ [] → rest ≡ onto behind (put x) → whole ≡ put_all more behind
  name-turn-more x more behind pushed e = so_far ∙ ap (put_all made) e ∙ put-one made x behind ∙ ap (λ (all : List NameAt). put_all all behind) (sym pushed)
