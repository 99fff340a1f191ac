-- The serials of a feed's records (document 02, Card 3): 0 to 65,535, and after 65,535 comes 0.
use Rattle.std.specs.Prelude.{ℕ, ◌+◌, ◌-◌, ◌%◌}
use Rattle.feed_record.specs.declared.Expected.{Expected}
use Rattle.feed_record.specs.declared.Expected.TheVariants.{Any, Serial}

-- how many there are
abbrev pub serials : ℕ
serials = 65536

-- the distance forward from the serial x to the serial s, round the ring
unfoldable pub distance : ℕ → ℕ → ℕ
distance x s = (s + serials - x) % serials

-- the serial after s
unfoldable pub following : ℕ → ℕ
following s = (s + 1) % serials

-- the distance forward from what is expected; where nothing is, s is in turn
unfoldable pub ahead : Expected → ℕ → ℕ
ahead Any s = 0
ahead (Serial x) s = distance x s

-- From this distance on a record is late or a repeat; a shorter one is how many were lost.
abbrev pub late_from : ℕ
late_from = 32768
