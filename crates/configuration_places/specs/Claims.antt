-- What is proved of places, in words.
use Rattle.std.specs.Prelude.{◌+◌, ◌≤◌, ◌≡◌}
use Rattle.configuration_places.specs.Places.{InputPlace, input_number, waited}

-- A wait leads from the earlier place to the later one; there is none to a place that is not
-- later.
pub record Waits (later earlier : InputPlace) : Type 0 where
  pub leads : input_number earlier ≤ input_number later → input_number earlier + waited later earlier ≡ input_number later
  pub none : input_number later ≤ input_number earlier → waited later earlier ≡ 0

abbrev pub WaitAsWorded : Type 0
WaitAsWorded = (later earlier : InputPlace) → Waits later earlier
