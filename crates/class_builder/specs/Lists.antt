-- Lists of blocks and classes as trees.
use Rattle.std.specs.Prelude.{List, map, Vec}
use Rattle.abstract_syntax.specs.Classes.{BlockTree, ClassTree}
use Rattle.vdm_tree.specs.declared.class_def.Block.{Block}
use Rattle.vdm_tree.specs.declared.class_def.ClassDef.{ClassDef}
use Rattle.vdm_tree.specs.ClassView.{block_view, class_view}

abbrev pub blocks_view : {A : Type 0} → Vec Block A → List BlockTree
blocks_view blocks = map block_view blocks.items

abbrev pub classes_view : {A : Type 0} → Vec ClassDef A → List ClassTree
classes_view classes = map class_view classes.items
