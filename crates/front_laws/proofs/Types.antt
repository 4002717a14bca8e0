-- The words of types are read.
use Rattle.std.proofs.Common.{◌≡◌, List, [], ◌∷◌, ◌++◌, Option, Some, None, refl}
use Rattle.vdm_kinds.specs.declared.name.Name.{Name}
use Rattle.vdm_kinds.specs.declared.place.Place.{Place}
use Rattle.vdm_kinds.specs.declared.sign.Sign.TheVariants.{Times}
use Rattle.abstract_syntax.specs.Types.{TypeTree, TypeTrees, basic_type, quote_type, set_type, seq_type, seq1_type, map_type, inmap_type, optional_type, bracketed_type, named_type, product_type, union_type, no_types, one_type}
use Rattle.grammar_words.specs.declared.word.Word.{Word}
use Rattle.grammar_words.specs.declared.word.Word.TheVariants as word_is
use Rattle.grammar_words.specs.Tokens.{identifier, quote}
use Rattle.grammar_words.specs.Written.{Written, at, word, at_word}
use Rattle.type_reading.specs.TypeSpelling.{Width, union, product, single, IsType, AreTypes, AreTwoTypes, type_spelling, further_types, types_spelling, class_and_name}
use Rattle.grammar_fronts.specs.declared.wanted.Wanted.{Wanted}
use Rattle.grammar_fronts.specs.declared.wanted.Wanted.TheVariants.{WholeType, SingleType, BehindType, BehindName, BehindClass}
use Rattle.grammar_fronts.specs.Table.{turn}
use Rattle.grammar_fronts.specs.Types.{single_type}
use Rattle.grammar_fronts.specs.Viable.{after}
use Rattle.front_laws.proofs.Passing.{Reads, Follows, tok, follow, regroup}
use Rattle.front_laws.proofs.Starts.{Starts, opens, at_single_type, at_whole_type}

-- where a single type is wanted, with more behind it
abbrev SingleRead : TypeTree → Type 0
SingleRead t =
    IsType t single → (next : Wanted) (more : List Wanted) → Starts single_type next more → (behind : List Wanted) (a : List Written)
    → Follows a (more ++ behind) → Reads (type_spelling t ++ a) (next ∷ behind)

pub record TypeRead (t : TypeTree) : Type 0 where
  pub single : SingleRead t
  pub whole : (width : Width) → IsType t width → (behind : List Wanted) (a : List Written) → Follows a (BehindType ∷ behind)
      → Reads (type_spelling t ++ a) (WholeType ∷ behind)

abbrev pub TypesRead : TypeTrees → Type 0
TypesRead no_types = Unit {0}
TypesRead (one_type t ts) = TypeRead t × TypesRead ts

-- what is no union and no product
alone : (t : TypeTree) → ((width : Width) → IsType t width → IsType t single) → SingleRead t → TypeRead t
alone t narrow reads = record {
  single = reads;
  whole = λ width b behind a f. reads (narrow width b) WholeType (BehindType ∷ []) at_whole_type behind a f;
}

pub inside : {t : TypeTree} → TypeRead t → (width : Width) → IsType t width → {behind : List Wanted} {a : List Written}
    → Follows a (BehindType ∷ behind) → Reads (type_spelling t ++ a) (WholeType ∷ behind)
inside t width b {behind = behind} {a = a} f = t.whole width b behind a f

element : {t : TypeTree} → TypeRead t → IsType t single → {behind : List Wanted} {a : List Written} → Follows a behind
    → Reads (type_spelling t ++ a) (SingleType ∷ behind)
element t b {behind = behind} {a = a} f = t.single b SingleType [] at_single_type behind a f

named : (class : Option Name) (name : Name) (name_place place : Place) (next : Wanted) (more : List Wanted) → Starts single_type next more
    → (behind : List Wanted) (a : List Written) → Follows a (more ++ behind)
    → Reads (class_and_name identifier class name name_place place ++ a) (next ∷ behind)
named None name name_place place next more s behind a f = opens s (at (identifier name place)) refl f.class
named (Some class) name name_place place next more s behind a f =
    opens s (at (identifier class place)) refl (tok (word word_is.Backquote) refl (tok (at (identifier name name_place)) refl f.plain))

-- a word that stands between types
record IsBetween (between : Word) : Type 0 where
  pub takes : (behind : List Wanted) → after between (BehindType ∷ behind) ≡ Some (WholeType ∷ behind)
  pub no_name : turn BehindName between ≡ None
  pub no_class : turn BehindClass between ≡ None

further : (between : Word) → IsBetween between → (width : Width) (ts : TypeTrees) → TypesRead ts → AreTypes ts width
    → (behind : List Wanted) (a : List Written) → Follows a (BehindType ∷ behind) → Follows (further_types between ts ++ a) (BehindType ∷ behind)
further between is width no_types reads b behind a f = f
further between is width (one_type t ts) reads b behind a f =
    follow (word between) (is.takes behind) is.no_name is.no_class
    (regroup (type_spelling t) (further_types between ts) a
    (inside reads.0 width b.0 (further between is width ts reads.1 b.1 behind a f)))

together : (between : Word) → IsBetween between → (width : Width) (ts : TypeTrees) → TypesRead ts → AreTypes ts width
    → AreTwoTypes ts → (behind : List Wanted) (a : List Written) → Follows a (BehindType ∷ behind)
    → Reads (types_spelling between ts ++ a) (WholeType ∷ behind)
together between is width no_types reads b two behind a f = absurd two
together between is width (one_type t ts) reads b two behind a f =
    regroup (type_spelling t) (further_types between ts) a (inside reads.0 width b.0 (further between is width ts reads.1 b.1 behind a f))

by_times : IsBetween (word_is.Operator Times)
by_times = record { takes = λ behind. refl; no_name = refl; no_class = refl }

by_bar : IsBetween word_is.Bar
by_bar = record { takes = λ behind. refl; no_name = refl; no_class = refl }

mutual
  pub type_reads : (t : TypeTree) → TypeRead t
  type_reads (basic_type basic place) =
      alone (basic_type basic place) (λ width b. b) (λ b next more s behind a f. opens s (at_word (word_is.Basic basic) place) refl f.plain)
  type_reads (quote_type name place) =
      alone (quote_type name place) (λ width b. b) (λ b next more s behind a f. opens s (at (quote name place)) refl f.plain)
  type_reads (set_type t place) =
      let r = type_reads t in
      alone (set_type t place) (λ width b. b) (λ b next more s behind a f. opens s (at_word word_is.Set place) refl (tok (word word_is.Of) refl (element r b f)))
  type_reads (seq_type t place) =
      let r = type_reads t in
      alone (seq_type t place) (λ width b. b) (λ b next more s behind a f. opens s (at_word word_is.Seq place) refl (tok (word word_is.Of) refl (element r b f)))
  type_reads (seq1_type t place) =
      let r = type_reads t in
      alone (seq1_type t place) (λ width b. b) (λ b next more s behind a f. opens s (at_word word_is.Seq1 place) refl (tok (word word_is.Of) refl (element r b f)))
  type_reads (map_type key value place) =
      let k = type_reads key in
      let v = type_reads value in
      alone (map_type key value place) (λ width b. b) (λ b next more s behind a f.
      opens s (at_word word_is.Map place) refl (regroup (type_spelling key) (word word_is.To ∷ type_spelling value) a
      (inside k union b.0 (follow (word word_is.To) refl refl refl (element v b.1 f)))))
  type_reads (inmap_type key value place) =
      let k = type_reads key in
      let v = type_reads value in
      alone (inmap_type key value place) (λ width b. b) (λ b next more s behind a f.
      opens s (at_word word_is.InMap place) refl (regroup (type_spelling key) (word word_is.To ∷ type_spelling value) a
      (inside k union b.0 (follow (word word_is.To) refl refl refl (element v b.1 f)))))
  type_reads (optional_type t place) =
      let r = type_reads t in
      alone (optional_type t place) (λ width b. b) (λ b next more s behind a f.
      opens s (at_word word_is.OpenSquare place) refl (regroup (type_spelling t) (word word_is.CloseSquare ∷ []) a
      (inside r union b (follow (word word_is.CloseSquare) refl refl refl f.plain))))
  type_reads (bracketed_type t place) =
      let r = type_reads t in
      alone (bracketed_type t place) (λ width b. b) (λ b next more s behind a f.
      opens s (at_word word_is.OpenRound place) refl (regroup (type_spelling t) (word word_is.CloseRound ∷ []) a
      (inside r union b (follow (word word_is.CloseRound) refl refl refl f.plain))))
  type_reads (named_type name place) =
      alone (named_type name place) (λ width b. b) (λ b next more s behind a f. named name.class name.name name.name_place place next more s behind a f)
  type_reads (product_type ts place) =
      let r = types_read ts in
      record {
        single = λ b next more s behind a f. absurd b.0;
        whole = λ width b behind a f. together (word_is.Operator Times) by_times single ts r b.3 b.1 behind a f;
      }
  type_reads (union_type ts place) =
      let r = types_read ts in
      record {
        single = λ b next more s behind a f. absurd b.0;
        whole = λ width b behind a f. together word_is.Bar by_bar product ts r b.3 b.1 behind a f;
      }

  pub types_read : (ts : TypeTrees) → TypesRead ts
  types_read no_types = tt
  types_read (one_type t ts) = (type_reads t, types_read ts)
