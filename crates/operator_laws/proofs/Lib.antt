mod Parts
mod SetMembers
mod MapPairs
mod Replacements
