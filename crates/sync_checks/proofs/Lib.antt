mod Noted
mod OnScope
