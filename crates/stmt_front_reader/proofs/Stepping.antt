-- A token where some readings are held back.
use Rattle.std.proofs.Common.{◌≡◌, ℕ, List, [], ◌∷◌, ◌++◌, None, length, map, refl, ap, sym, ◌∙◌}
use Rattle.std.proofs.lemmas.Grind.{flat_map-append}
use Rattle.std.specs.Prelude.{flat_map}
use Rattle.grammar_fronts.specs.declared.front.Front.{Front}
use Rattle.stmt_fronts.specs.Fronts.{Reading, ending_at, deep_now, unless_deep, stopped, on_some}
use Rattle.stmt_front_reader.specs.declared.alive.Alive.{Alive}
use Rattle.stmt_front_reader.specs.declared.item.Item.{Item}
use Rattle.stmt_front_reader.specs.declared.reading.Reading.{Reading as RealReading}
use Rattle.stmt_front_reader.specs.Held.{spread, alive_views, IsFollowed}
use Rattle.stmt_front_reader.specs.Steps.{went_on, ending_if, ended_each, front_at}
use Rattle.stmt_front_reader.specs.Views.{reading_views}
use Rattle.stmt_front_reader.proofs.Rounds.{all_ended}

-- all that goes on
all_on : (item : Item) (old mid new : Alive) → reading_views mid.readings.readings.items ≡ flat_map (went_on item) (reading_views old.readings.readings.items)
    → mid.held.items ≡ old.held.items → IsFollowed item mid new → flat_map (went_on item) (alive_views old) ≡ alive_views new
all_on item old mid new each same followed =
    flat_map-append (went_on item) (reading_views old.readings.readings.items) (spread old.held.items)
    ∙ ap (λ all. all ++ flat_map (went_on item) (spread old.held.items)) (sym each)
    ∙ ap (λ held. reading_views mid.readings.readings.items ++ flat_map (went_on item) (spread held)) (sym same)
    ∙ sym followed.views

none_deep : (count : ℕ) (item : Item) (all : List Reading) (further : List Reading → Front) → deep_now all ≡ None
    → front_at count item all further ≡ on_some (flat_map (went_on item) all) further (stopped count (map (ending_at item.word) all))
none_deep count item all further shallow =
    ap (λ d. unless_deep d (on_some (flat_map (went_on item) all) further (stopped count (map (ending_at item.word) all)))) shallow

some_on : (items : List RealReading) (rest : List Reading) (further : List Reading → Front) (none : Front) → (length items ≡ 0 → ⊥)
    → on_some (reading_views items ++ rest) further none ≡ further (reading_views items ++ rest)
some_on [] rest further none some = absurd (some refl)
some_on (reading ∷ items) rest further none some = refl

pub goes_on : (count : ℕ) (item : Item) (old mid new : Alive) → deep_now (alive_views old) ≡ None
    → reading_views mid.readings.readings.items ≡ flat_map (went_on item) (reading_views old.readings.readings.items)
    → mid.held.items ≡ old.held.items → IsFollowed item mid new → (length new.readings.readings.items ≡ 0 → ⊥)
    → (further : List Reading → Front) → front_at count item (alive_views old) further ≡ further (alive_views new)
goes_on count item old mid new shallow each same followed some further =
    none_deep count item (alive_views old) further shallow
    ∙ ap (λ all. on_some all further (stopped count (map (ending_at item.word) (alive_views old)))) (all_on item old mid new each same followed)
    ∙ some_on new.readings.readings.items (spread new.held.items) further (stopped count (map (ending_at item.word) (alive_views old))) some

pub ends : (count : ℕ) (item : Item) (old mid new : Alive) → deep_now (alive_views old) ≡ None
    → reading_views mid.readings.readings.items ≡ flat_map (went_on item) (reading_views old.readings.readings.items)
    → mid.readings.endings.items ≡ ended_each item (reading_views old.readings.readings.items)
    → mid.held.items ≡ old.held.items → IsFollowed item mid new → length new.readings.readings.items ≡ 0
    → (further : List Reading → Front) → front_at count item (alive_views old) further ≡ stopped count new.readings.endings.items
ends count item old mid new shallow each ends_each same followed none further =
    let gone : alive_views new ≡ [] = followed.none none in
    let left : flat_map (went_on item) (alive_views old) ≡ [] = all_on item old mid new each same followed ∙ gone in
    let split : ended_each item (alive_views old) ≡ ended_each item (reading_views old.readings.readings.items) ++ ended_each item (spread old.held.items) =
    flat_map-append (λ (reading : Reading). ending_if (went_on item reading) (ending_at item.word reading)) (reading_views old.readings.readings.items) (spread old.held.items) in
    let endings : new.readings.endings.items ≡ ended_each item (alive_views old) =
    followed.ends gone ∙ ap (λ some. some ++ ended_each item (spread mid.held.items)) ends_each
    ∙ ap (λ held. ended_each item (reading_views old.readings.readings.items) ++ ended_each item (spread held)) same ∙ sym split in
    none_deep count item (alive_views old) further shallow
    ∙ ap (λ all. on_some all further (stopped count (map (ending_at item.word) (alive_views old)))) left
    ∙ ap (stopped count) (sym (endings ∙ all_ended item (alive_views old) left))
