-- Readings that are lost, since an expression is wanted in each.
use Rattle.std.proofs.Common.{◌≡◌, ◌&&◌, Bool, true, false, Option, Some, None, List, [], ◌∷◌, ◌++◌, length, map, refl, ap, sym, ◌∙◌}
use Rattle.std.specs.Prelude.{flat_map, is_some}
use Rattle.std.specs.List.{list_all}
use Rattle.vdm_kinds.specs.declared.name.Name.{Name}
use Rattle.vdm_kinds.specs.declared.place.Place.{Place}
use Rattle.grammar_words.specs.declared.word.Word.{Word}
use Rattle.grammar_words.specs.declared.word.Word.TheVariants.{OpenRound}
use Rattle.front_tables.specs.View.{turn_views}
use Rattle.front_tables.specs.declared.turn.Turn.{Turn}
use Rattle.grammar_fronts.specs.Turns.{Turn as InnerTurn}
use Rattle.grammar_fronts.specs.declared.wanted.Wanted.TheVariants as want
use Rattle.grammar_fronts.specs.Table.{turn as inner_turn}
use Rattle.stmt_fronts.specs.declared.expected.Expected.{Expected}
use Rattle.stmt_fronts.specs.declared.expected.Expected.TheVariants.{Within}
use Rattle.stmt_fronts.specs.Turns.{inner}
use Rattle.stmt_fronts.specs.Viable.{Names, ways_from, ways_of, either}
use Rattle.stmt_fronts.specs.Fronts.{Reading, read_on, read_each}
use Rattle.stmt_front_reader.specs.declared.alive.Alive.{Alive}
use Rattle.stmt_front_reader.specs.declared.alive.Held.{Held}
use Rattle.stmt_front_reader.specs.declared.item.Item.{Item}
use Rattle.stmt_front_reader.specs.declared.reading.Reading.{Reading as RealReading}
use Rattle.stmt_front_reader.specs.Held.{spread_on, spread, alive_views, wants_expression, IsFollowed}
use Rattle.stmt_front_reader.specs.Steps.{went_on}
use Rattle.stmt_front_reader.specs.Views.{reading_view, reading_views}

-- ---- where an expression is wanted in each

AreWanting : List Reading → Type 0
AreWanting [] = Unit {0}
AreWanting (reading ∷ others) = (wants_expression reading.state.wanted ≡ true) × AreWanting others

wanting-append : (a b : List Reading) → AreWanting a → AreWanting b → AreWanting (a ++ b)
unfolding AreWanting
wanting-append [] b of_a of_b = of_b
wanting-append (reading ∷ a) b of_a of_b = (of_a.0, wanting-append a b of_a.1 of_b)

-- behind a `(` it is wanted too
wanting-on : (place : Place) (names : Names) (reading : Reading) (wanted : List Expected) → wants_expression wanted ≡ true
    → AreWanting (map (read_on place reading) (ways_from names OpenRound None wanted))
unfolding AreWanting
wanting-on place names reading (Within want.Expression ∷ behind) e = (refl, tt)
wanting-on place names reading _ e = absurd (cc)

wanting-each : (place : Place) (all : List Reading) → AreWanting all → AreWanting (read_each OpenRound None place all)
unfolding AreWanting
wanting-each place [] of = tt
wanting-each place (reading ∷ others) of =
    wanting-append (map (read_on place reading) (ways_from reading.state.names OpenRound None reading.state.wanted)) (read_each OpenRound None place others)
    (wanting-on place reading.state.names reading reading.state.wanted of.0) (wanting-each place others of.1)

and-first : (a b : Bool) → (a && b) ≡ true → a ≡ true
and-first true b e = refl
and-first false b e = e

and-second : (a b : Bool) → (a && b) ≡ true → b ≡ true
and-second true b e = e
and-second false b e = absurd (cc)

abbrev all_wanting : List Held → Bool
all_wanting held = list_all (λ (h : Held). wants_expression h.reading.parts.wanted) held

wanting-spread : (held : List Held) (all : List Reading) → AreWanting all → all_wanting held ≡ true → AreWanting (spread_on all held)
unfolding AreWanting
wanting-spread [] all of e = of
wanting-spread (first ∷ held) all of e =
    let is : wants_expression first.reading.parts.wanted ≡ true = and-first (wants_expression first.reading.parts.wanted) (all_wanting held) e in
    wanting-spread held (reading_view first.reading ∷ read_each OpenRound None first.place all) (is, wanting-each first.place all of)
    (and-second (wants_expression first.reading.parts.wanted) (all_wanting held) e)

-- ---- a word that begins no expression

no_ways : (names : Names) (word : Word) (name : Option Name) (wanted : List Expected) → wants_expression wanted ≡ true
    → inner_turn want.Expression word ≡ None → ways_from names word name wanted ≡ []
no_ways names word name (Within want.Expression ∷ behind) e none =
    ap (λ t. either (inner t) (ways_of names (Within want.Expression) name behind) []) none
no_ways names word name _ e none = absurd (cc)

none_on : (item : Item) (all : List Reading) → AreWanting all → inner_turn want.Expression item.word ≡ None → flat_map (went_on item) all ≡ []
unfolding AreWanting
none_on item [] of none = refl
none_on item (reading ∷ others) of none =
    ap (λ ways. map (read_on item.place reading) ways ++ flat_map (went_on item) others)
    (no_ways reading.state.names item.word item.name reading.state.wanted of.0 none)
    ∙ none_on item others of.1 none

no_views : (items : List RealReading) → reading_views items ++ [] ≡ [] → length items ≡ 0
no_views [] e = refl
no_views (reading ∷ items) e = absurd (cc)

pub no_turn : (result : Option Turn) (turn : Option InnerTurn) → turn_views result ≡ turn → is_some result ≡ false → turn ≡ None
no_turn None turn is e = sym is
no_turn (Some t) turn is e = absurd (cc)

-- all that is held back is lost
pub all_lost : (item : Item) (old new : Alive) → (length old.readings.readings.items ≡ 0 → ⊥) → inner_turn want.Expression item.word ≡ None
    → all_wanting old.held.items ≡ true → new.readings.readings.items ≡ old.readings.readings.items → new.held.items ≡ [] → IsFollowed item old new
unfolding AreWanting
all_lost item old new some none wanting same held =
    let gone : flat_map (went_on item) (spread old.held.items) ≡ [] = none_on item (spread old.held.items) (wanting-spread old.held.items [] tt wanting) none in
    let views : alive_views new ≡ reading_views old.readings.readings.items ++ [] =
    ap (λ h. reading_views new.readings.readings.items ++ spread h) held ∙ ap (λ items. reading_views items ++ []) same in
    record {
      views = views ∙ sym (ap (λ all. reading_views old.readings.readings.items ++ all) gone);
      ends = λ e. absurd (some (no_views old.readings.readings.items (sym views ∙ e)));
      none = λ e. absurd (some (sym (ap length same) ∙ e));
    }
