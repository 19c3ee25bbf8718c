-- Serves inner functions. What the end of a walk over a part of a sheet is called in the definitions.
use Rattle.std.specs.Prelude.{Option, None, Some}
use Rattle.sheet.specs.declared.Spot.{Spot}

-- a spot behind the part, or that the bytes are no sheet
abbrev pub Walked : Type 0
Walked = Option Spot

pattern abbrev pub To : Spot → Walked
To spot = Some spot

pattern abbrev pub NoSheet : Walked
NoSheet = None
