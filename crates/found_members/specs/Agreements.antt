-- What an agreement of several superclasses holds.
use Rattle.std.specs.Prelude.{◌≡◌, ℕ, ◌||◌, if◌then◌else◌, Option, Some, None, unwrap_or, map, List}
use Rattle.std.specs.HashMap.{get}
use Rattle.abstract_syntax.specs.Classes.{SpecTree}
use Rattle.graph_cycles.specs.Graphs.{successors}
use Rattle.class_meaning.specs.Classes.{class_graph}
use Rattle.class_meaning.specs.Found.{all_agreed, found}
use Rattle.class_meaning.specs.declared.ask.Ask.{Ask}
use Rattle.class_meaning.specs.declared.found.Found.{Found}
use Rattle.class_meaning.specs.declared.found.Found.TheVariants.{Nothing}
use Rattle.found_members.specs.Ways.{key_of, same_key, is_among, unlisted, Covers}
use Rattle.found_members.specs.declared.agreement.Agreement.{Agreement}

abbrev pub listed : Agreement → Ask → Option Found
listed a ask = get same_key a.answers (key_of ask)

-- what an agreement answers
abbrev pub answered : Agreement → Ask → Found
answered a ask = unwrap_or (listed a ask) (unlisted (λ way. unwrap_or (listed a way) Nothing) ask)

-- it has what is found in each way that it lists, and nothing else
abbrev pub Answers : Agreement → (Ask → Found) → Type 0
Answers a f = (ask : Ask) → listed a ask ≡ (if is_among a.ways.items ask then Some (f ask) else None)

-- and it lists all ways in which something is found
pub record Agrees (a : Agreement) (f : Ask → Found) : Type 0 where
  pub answers : Answers a f
  pub covers : Covers a.ways.items f

-- what these classes agree on
abbrev pub agreed_at : SpecTree → List ℕ → Ask → Found
agreed_at spec nodes ask = all_agreed (map (found spec ask) nodes)

-- what the superclasses of a class agree on
abbrev pub found_above : SpecTree → ℕ → Ask → Found
found_above spec k ask = agreed_at spec (successors (class_graph spec) k) ask

-- one way more is there
pub record Notes (old : Agreement) (new : Agreement) (f : Ask → Found) (way : Ask) : Type 0 where
  pub answers : Answers new f
  pub among : (ask : Ask) → is_among new.ways.items ask ≡ (same_key (key_of ask) (key_of way) || is_among old.ways.items ask)
