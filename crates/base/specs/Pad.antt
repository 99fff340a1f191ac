-- Arrays of a fixed length of which a front part is used.
use Rattle.std.specs.Prelude.{ℕ, ◌-◌, ◌≤◌, ◌≡◌, List, ◌++◌, length, get_or, replicate}

-- the list, then 0 up to n places
unfoldable pub pad : ℕ → List ℕ → List ℕ
pad n l = l ++ replicate (n - length l) 0

-- n places, of which those from the count on hold 0
abbrev pub UsedTo : ℕ → ℕ → List ℕ → Type 0
UsedTo n count l = (length l ≡ n) × ((j : ℕ) → count ≤ j → get_or l j 0 ≡ 0)
