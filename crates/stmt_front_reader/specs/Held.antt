-- Readings that are held back while `(` after `(` comes.
use Rattle.std.specs.Prelude.{◌≡◌, Bool, true, false, List, [], ◌∷◌, ◌++◌, None, flat_map, length}
use Rattle.grammar_words.specs.declared.word.Word.TheVariants.{OpenRound}
use Rattle.grammar_fronts.specs.declared.wanted.Wanted.TheVariants as want
use Rattle.stmt_fronts.specs.declared.expected.Expected.{Expected}
use Rattle.stmt_fronts.specs.declared.expected.Expected.TheVariants.{Within}
use Rattle.stmt_fronts.specs.Fronts.{Reading, read_each}
use Rattle.stmt_front_reader.specs.declared.alive.Alive.{Alive}
use Rattle.stmt_front_reader.specs.declared.alive.Held.{Held}
use Rattle.stmt_front_reader.specs.declared.item.Item.{Item}
use Rattle.stmt_front_reader.specs.Steps.{went_on, ended_each}
use Rattle.stmt_front_reader.specs.Views.{reading_view, reading_views}

-- Each began at a `(`, which those before it have taken too. What they are, with these before them.
abbrev pub spread_on : List Reading → List Held → List Reading
spread_on all [] = all
spread_on all (held ∷ others) = spread_on (reading_view held.reading ∷ read_each OpenRound None held.place all) others

abbrev pub spread : List Held → List Reading
spread = spread_on []

-- all ways to read the tokens so far
abbrev pub alive_views : Alive → List Reading
alive_views alive = reading_views alive.readings.readings.items ++ spread alive.held.items

-- an expression is wanted next
abbrev pub wants_expression : List Expected → Bool
wants_expression (Within want.Expression ∷ behind) = true
wants_expression _ = false

-- what was held back has gone on or ended
pub record IsFollowed (item : Item) (old new : Alive) : Type 0 where
  pub views : alive_views new ≡ reading_views old.readings.readings.items ++ flat_map (went_on item) (spread old.held.items)
  pub ends : alive_views new ≡ [] → new.readings.endings.items ≡ old.readings.endings.items ++ ended_each item (spread old.held.items)
  pub none : length new.readings.readings.items ≡ 0 → alive_views new ≡ []

pub record IsSame (old new : Alive) : Type 0 where
  pub readings : new.readings.readings.items ≡ old.readings.readings.items
  pub ends : new.readings.endings.items ≡ old.readings.endings.items
  pub held : new.held.items ≡ old.held.items

-- it is so, or nothing was done
abbrev pub IsFollowedIf : Bool → Item → Alive → Alive → Type 0
IsFollowedIf true item old new = IsFollowed item old new
IsFollowedIf false item old new = IsSame old new
