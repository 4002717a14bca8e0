mod Elseifs
mod FirstBracket
mod FirstItem
mod InTuples
mod Leaves
