-- The table that a lock keeps: three words and one slot.
use Rattle.std.specs.Prelude.{◌≡◌}
use Rattle.atomic_table.specs.Seated.{TableId}

abbrev pub IsBoard : TableId → Type 0
IsBoard z = (z.words ≡ 3) × (z.slots ≡ 1)
