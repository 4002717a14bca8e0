-- A reading that is held back.
use Rattle.std.proofs.Common.{◌≡◌, ◌+◌, List, [], ◌∷◌, ◌++◌, None, length, refl, ap, sym, ◌∙◌, arith}
use Rattle.std.proofs.lemmas.List.{append_assoc, length-append, map-append}
use Rattle.std.specs.Prelude.{flat_map}
use Rattle.grammar_words.specs.declared.word.Word.TheVariants.{OpenRound}
use Rattle.stmt_fronts.specs.Fronts.{Reading, read_each}
use Rattle.stmt_front_reader.specs.declared.alive.Alive.{Alive}
use Rattle.stmt_front_reader.specs.declared.alive.Held.{Held}
use Rattle.stmt_front_reader.specs.declared.item.Item.{Item}
use Rattle.stmt_front_reader.specs.declared.reading.Reading.{Reading as RealReading}
use Rattle.stmt_front_reader.specs.Held.{spread_on, spread, IsFollowed}
use Rattle.stmt_front_reader.specs.Steps.{went_on}
use Rattle.stmt_front_reader.specs.Views.{reading_view, reading_views}

-- the last that is held back stands before all others
spread_last : (all : List Reading) (held : List Held) (last : Held)
    → spread_on all (held ++ last ∷ []) ≡ reading_view last.reading ∷ read_each OpenRound None last.place (spread_on all held)
spread_last all [] last = refl
spread_last all (first ∷ held) last = spread_last (reading_view first.reading ∷ read_each OpenRound None first.place all) held last

-- a `(` at a place
bracket_on : (item : Item) (all : List Reading) → item.word ≡ OpenRound → item.name ≡ None
    → read_each OpenRound None item.place all ≡ flat_map (went_on item) all
bracket_on item all word name =
    ap (λ w. read_each w None item.place all) (sym word) ∙ ap (λ n. read_each item.word n item.place all) (sym name)

abbrev made : RealReading → Item → Held
made reading item = record { reading = reading; place = item.place }

views_last : (item : Item) (before after : List RealReading) (reading : RealReading) (old new : List Held) → item.word ≡ OpenRound → item.name ≡ None
    → before ≡ after ++ reading ∷ [] → new ≡ old ++ made reading item ∷ []
    → reading_views after ++ spread new ≡ reading_views before ++ flat_map (went_on item) (spread old)
views_last item before after reading old new word name before_is new_is =
    let more : List Reading = flat_map (went_on item) (spread old) in
    let split : reading_views before ≡ reading_views after ++ reading_view reading ∷ [] =
    ap reading_views before_is ∙ map-append reading_view after (reading ∷ []) in
    ap (λ held. reading_views after ++ spread held) new_is
    ∙ ap (λ all. reading_views after ++ all) (spread_last [] old (made reading item) ∙ ap (λ all. reading_view reading ∷ all) (bracket_on item (spread old) word name))
    ∙ sym (ap (λ all. all ++ more) split ∙ append_assoc (reading_views after) (reading_view reading ∷ []) more)

some_left : (a b : List Reading) (first : Reading) → a ++ first ∷ b ≡ [] → ⊥
some_left [] b first e = absurd (cc)
some_left (reading ∷ a) b first e = absurd (cc)

-- the second of two is held back
pub held_back : (item : Item) (old new : Alive) (reading : RealReading) → item.word ≡ OpenRound → item.name ≡ None
    → length old.readings.readings.items ≡ 2 → old.readings.readings.items ≡ new.readings.readings.items ++ reading ∷ []
    → new.held.items ≡ old.held.items ++ made reading item ∷ [] → IsFollowed item old new
held_back item old new reading word name two split held =
    let count : length old.readings.readings.items ≡ length new.readings.readings.items + length (reading ∷ []) =
    ap length split ∙ length-append new.readings.readings.items (reading ∷ []) in
    let spread_is : spread new.held.items ≡ reading_view reading ∷ read_each OpenRound None item.place (spread old.held.items) =
    ap spread held ∙ spread_last [] old.held.items (made reading item) in
    record {
      views = views_last item old.readings.readings.items new.readings.readings.items reading old.held.items new.held.items word name split held;
      ends = λ e. absurd (some_left (reading_views new.readings.readings.items) (read_each OpenRound None item.place (spread old.held.items)) (reading_view reading)
          (sym (ap (λ all. reading_views new.readings.readings.items ++ all) spread_is) ∙ e));
      none = λ e. absurd (omega arith);
    }
