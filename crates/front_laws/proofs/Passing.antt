-- Written words that are taken to their end, where nothing more has to come.
use Rattle.std.proofs.Common.{◌≡◌, Bool, true, false, List, [], ◌∷◌, ◌++◌, Option, Some, None, ap, sym, subst, ◌∙◌, append_assoc}
use Rattle.std.specs.Option.{option_and_then}
use Rattle.grammar_words.specs.declared.word.Word.{Word}
use Rattle.grammar_words.specs.declared.word.Word.TheVariants as word_is
use Rattle.grammar_words.specs.Tokens.{word_of}
use Rattle.grammar_words.specs.Written.{Written, at, word, number}
use Rattle.grammar_fronts.specs.declared.wanted.Wanted.{Wanted}
use Rattle.grammar_fronts.specs.declared.wanted.Wanted.TheVariants.{BehindName, BehindClass}
use Rattle.grammar_fronts.specs.Table.{turn}
use Rattle.grammar_fronts.specs.Fronts.{is_whole}
use Rattle.grammar_fronts.specs.Viable.{after, taken, meets, either, left_by}

abbrev pub written_word : Written → Word
written_word (at token) = word_of token
written_word (word w) = w
written_word (number n) = word_is.Whole

abbrev pub words_written : List Written → List Word
words_written [] = []
words_written (w ∷ ws) = written_word w ∷ words_written ws

abbrev pub whole_of : Option (List Wanted) → Bool
whole_of (Some wanted) = is_whole wanted
whole_of None = false

pub record Reads (a : List Written) (wanted : List Wanted) : Type 0 where
  pub passes : whole_of (taken (words_written a) wanted) ≡ true

-- a word that is taken, and what is read behind it
pub tok : (w : Written) {a : List Written} {wanted more : List Wanted} → after (written_word w) wanted ≡ Some more → Reads a more
    → Reads (w ∷ a) wanted
tok w {a = a} now others =
    record { passes = ap (λ o. whole_of (option_and_then (taken (words_written a)) o)) now ∙ others.passes }

-- what is read behind a name is read also where the name might go on
pub record Follows (a : List Written) (wanted : List Wanted) : Type 0 where
  pub plain : Reads a wanted
  pub name : Reads a (BehindName ∷ wanted)
  pub class : Reads a (BehindClass ∷ wanted)

pub follow : (w : Written) {a : List Written} {wanted more : List Wanted} → after (written_word w) wanted ≡ Some more
    → turn BehindName (written_word w) ≡ None → turn BehindClass (written_word w) ≡ None → Reads a more → Follows (w ∷ a) wanted
follow w {wanted = wanted} now no_name no_class others = record {
  plain = tok w now others;
  name = tok w (ap (λ t. left_by (either t wanted (meets (written_word w) wanted))) no_name ∙ now) others;
  class = tok w (ap (λ t. left_by (either t wanted (meets (written_word w) wanted))) no_class ∙ now) others;
}

pub regroup : (x y a : List Written) {wanted : List Wanted} → Reads (x ++ (y ++ a)) wanted → Reads ((x ++ y) ++ a) wanted
regroup x y a {wanted = wanted} others = subst (λ all. Reads all wanted) (sym (append_assoc x y a)) others

pub refollow : (x y a : List Written) {wanted : List Wanted} → Follows (x ++ (y ++ a)) wanted → Follows ((x ++ y) ++ a) wanted
refollow x y a {wanted = wanted} others = subst (λ all. Follows all wanted) (sym (append_assoc x y a)) others
