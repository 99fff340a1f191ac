-- Places in the input in line.
use Rattle.std.specs.Prelude.{ℕ, ◌+◌, ◌-◌, ◌≤◌, ◌≡◌, cond, List, ◌∷◌, ◌++◌, map, length, take, drop, eqb}
use Rattle.base.specs.Pad.{pad}
use Rattle.configuration_places.specs.declared.InputPlace.{InputPlace}
use Rattle.configuration_places.specs.Places.{input_place, pad_places}

-- a newcomer's place at an index of its own among others
unfoldable pub joined_by : ℕ → InputPlace → List InputPlace → List InputPlace
joined_by own newcomer places = take own places ++ newcomer ∷ drop own places

-- the newcomer's index, by how many are released and held then: it passed where they are as many
-- as were held before
unfoldable pub own_index : ℕ → ℕ → ℕ → ℕ
own_index before released held = cond (eqb (released + held) before) 0 before

-- the places of what is held after an accepted event, the last ones in line, by how many were held
-- before and how many are released and held then
abbrev pub places_after : List InputPlace → ℕ → InputPlace → ℕ → ℕ → List InputPlace
places_after places before newcomer released held =
    pad_places 6 (take held (drop (before + 1 - held) (joined_by (own_index before released held) newcomer places)))

-- what `places_after` asks: the places of so many held events with zeros behind them; at most one
-- more is held then, and each one held before is released or still held
pub record AfterRequires (places : List InputPlace) (before released held : ℕ) : Type 0 where
  pub numbers : List ℕ
  pub each-has : length numbers ≡ before
  pub laid : places ≡ map input_place (pad 6 numbers)
  pub before-few : before ≤ 6
  pub held-few : held ≤ 6
  pub released-few : released ≤ 7
  pub one_more : held ≤ before + 1
  pub none-lost : before ≤ released + held
