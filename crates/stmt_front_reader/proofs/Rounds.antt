-- Rounds over all readings.
use Rattle.std.proofs.Common.{◌≡◌, ℕ, ◌≤◌, ◌&&◌, Bool, true, false, if◌then◌else◌, Option, Some, None, List, [], ◌∷◌, ◌++◌, length, map, refl, ap, sym, ◌∙◌, arith}
use Rattle.std.specs.Prelude.{take, drop, flat_map, is_some}
use Rattle.std.specs.List.{list_all}
use Rattle.vdm_kinds.specs.declared.place.Place.{Place}
use Rattle.grammar_fronts.specs.declared.front.Front.{Front}
use Rattle.stmt_fronts.specs.declared.ending.Ending.{Ending}
use Rattle.stmt_fronts.specs.Fronts.{Reading, deep_of, deep_in_all, deep_now, ending_at, unless_deep, stopped, on_some}
use Rattle.stmt_front_reader.specs.declared.item.Item.{Item}
use Rattle.stmt_front_reader.specs.declared.reading.Reading.{Reading as RealReading}
use Rattle.stmt_front_reader.specs.Steps.{went_on, ended_each, ending_if, front_at}
use Rattle.stmt_front_reader.specs.Views.{nesting_of, first_deep, reading_view, reading_views}

-- ---- where each is too deep

deep_view : (reading : RealReading) (deep : Option Place) → reading.deep ≡ deep → deep_of (reading_view reading).nesting ≡ deep
deep_view reading None e = ap (λ d. deep_of (nesting_of d reading.parts.nodes)) e
deep_view reading (Some place) e = ap (λ d. deep_of (nesting_of d reading.parts.nodes)) e

all_deep : (readings : List RealReading)
    → list_all is_some (map (λ (r : Reading). deep_of r.nesting) (reading_views readings)) ≡ list_all (λ (r : RealReading). is_some r.deep) readings
all_deep [] = refl
all_deep (reading ∷ others) =
    ap (λ d. is_some d && list_all is_some (map (λ (r : Reading). deep_of r.nesting) (reading_views others))) (deep_view reading reading.deep refl)
    ∙ ap (λ b. is_some reading.deep && b) (all_deep others)

deep_first : (first : Option Place) (others : List (Option Place)) → deep_in_all (first ∷ others) ≡ (if list_all is_some (first ∷ others) then first else None)
deep_first None others = refl
deep_first (Some place) others = refl

pub each_deep : (readings : List RealReading) (all : Bool) → all ≡ list_all (λ (r : RealReading). is_some r.deep) readings
    → deep_now (reading_views readings) ≡ (if all then first_deep readings else None)
each_deep [] true e = refl
each_deep [] false e = refl
each_deep (reading ∷ others) all e =
    deep_first (deep_of (reading_view reading).nesting) (map (λ (r : Reading). deep_of r.nesting) (reading_views others))
    ∙ ap (λ b. if b then deep_of (reading_view reading).nesting else None) (all_deep (reading ∷ others) ∙ sym e)
    ∙ ap (λ d. if all then d else None) (deep_view reading reading.deep refl)

-- ---- each goes on or ends

-- so many readings are still to be taken; those behind them went on already
pub record Round (item : Item) (old now : List Reading) (endings : List Ending) (left : ℕ) : Type 0 where
  pub readings : drop left now ++ flat_map (went_on item) (take left now) ≡ flat_map (went_on item) old
  pub ended : endings ++ ended_each item (take left now) ≡ ended_each item old
  pub enough : left ≤ length now

-- ---- none goes on

front_part : (a b : List Reading) → a ++ b ≡ [] → a ≡ []
front_part [] b e = refl
front_part (reading ∷ a) b e = absurd (cc)

rest_part : (a b : List Reading) → a ++ b ≡ [] → b ≡ []
rest_part [] b e = e
rest_part (reading ∷ a) b e = absurd (cc)

pub all_ended : (item : Item) (readings : List Reading) → flat_map (went_on item) readings ≡ [] → ended_each item readings ≡ map (ending_at item.word) readings
all_ended item [] e = refl
all_ended item (reading ∷ others) e =
    ap (λ more. ending_if more (ending_at item.word reading) ++ ended_each item others) (front_part (went_on item reading) (flat_map (went_on item) others) e)
    ∙ ap (λ ends. ending_at item.word reading ∷ ends) (all_ended item others (rest_part (went_on item reading) (flat_map (went_on item) others) e))

no-items : (items : List RealReading) → length items ≡ 0 → reading_views items ≡ []
no-items [] e = refl
no-items (reading ∷ items) e = absurd (omega arith)

-- what is found where none goes on
pub none_left : (count : ℕ) (item : Item) (readings : List Reading) (items : List RealReading) (endings : List Ending) → deep_now readings ≡ None
    → reading_views items ≡ flat_map (went_on item) readings → length items ≡ 0 → endings ≡ ended_each item readings
    → (further : List Reading → Front) → front_at count item readings further ≡ stopped count endings
none_left count item readings items endings not_deep went none ends further =
    let gone : flat_map (went_on item) readings ≡ [] = sym went ∙ no-items items none in
    ap (λ d. unless_deep d (on_some (flat_map (went_on item) readings) further (stopped count (map (ending_at item.word) readings)))) not_deep
    ∙ ap (λ all. on_some all further (stopped count (map (ending_at item.word) readings))) gone
    ∙ ap (stopped count) (sym (ends ∙ all_ended item readings gone))
