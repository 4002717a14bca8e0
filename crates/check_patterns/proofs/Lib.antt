mod Counts
mod Waiting
mod Shapes
mod PatternSizes
mod RefusedTurns
mod ScopeTurns
