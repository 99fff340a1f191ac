-- The quiet states of a buffer: those from which it releases nothing as it stands.
use Rattle.std.specs.Prelude.{ℕ, ◌^◌, cond, eqb, ltb}
use Rattle.std.specs.Int.Bits.{bit_or}

-- the set that is known to be quiet after a step: all states where nothing is held; the state that
-- was reached beside those known before where the buffer is as before (none were released and no
-- more are held); else none
unfoldable pub quiet_after : ℕ → ℕ → ℕ → ℕ → ℕ → ℕ
quiet_after quiet before state held released =
    cond (eqb held 0) 4294967295 (cond (ltb 0 released) 0 (cond (ltb before held) 0 (bit_or quiet (2 ^ state))))
