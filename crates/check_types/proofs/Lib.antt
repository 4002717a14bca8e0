mod Faulted
mod TypeTurns
