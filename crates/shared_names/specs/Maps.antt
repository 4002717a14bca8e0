-- What a map holds.
use Rattle.std.specs.Prelude.{Option, Some, None}
use Rattle.std.specs.declared.alloc.Global.{Global}
use Rattle.std.specs.declared.rc.Rc.{Rc}
use Rattle.shared_names.specs.declared.tree.Tree.{Tree}
use Rattle.shared_names.specs.declared.shared_map.SharedMap.{SharedMap}
use Rattle.shared_names.specs.Held.{Held, nothing}
use Rattle.shared_names.specs.Trees.{held_in}

-- what is held under a root, which a map has once it holds something
abbrev pub held_under : {V : Type 0} → Option (Rc (Tree V) Global) → Held V
held_under None = nothing
held_under (Some root) = held_in root.value

-- which value stands under each name: shut, since those who hold a map need to know nothing of its tree
unfoldable pub held : {V : Type 0} → SharedMap V → Held V
held map = held_under map.root
