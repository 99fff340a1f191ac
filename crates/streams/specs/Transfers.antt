-- A transfer of bytes by calls of std's `read` or `write`: what one call more makes of it.
use Rattle.std.specs.Prelude.{ℕ, ◌+◌, ◌-◌, ◌≤◌, ◌≡◌, Bool, true, false, cond, List, [], ◌∷◌, ℤ, pos, negsuc, eqb, ltb, ⊤}
use Rattle.std.specs.declared.result.Result.{Result}
use Rattle.std.specs.declared.result.Result.TheVariants.{Ok, Err}
use Rattle.std.specs.declared.io.Error.{Error}
use Rattle.std.specs.declared.io.ErrorKind.{ErrorKind}
use Rattle.std.specs.declared.io.ErrorKind.TheVariants.{Interrupted}
use Rattle.std.specs.IoError.{error_kind, os_error_kind}
pub use Rattle.streams.specs.declared.transfer.Transfer.{Transfer}

-- what a call may answer where there is room for so many bytes: how many of them it moved, or why
-- it failed
abbrev pub Answer : Type 0
Answer = Result ℕ Error

abbrev pub Moved : ℕ → Answer → Type 0
Moved room (Ok bytes) = bytes ≤ room
Moved room (Err error) = ⊤

-- how often signals may interrupt one transfer
abbrev pub max_interruptions : ℕ
max_interruptions = 65536

abbrev pub begun : ℕ → Transfer
begun size = record { size = size; count = 0; interruptions = max_interruptions; going = ltb 0 size; failed = false }

abbrev pub ended : Transfer → Bool → Transfer
ended t failed = record { size = t.size; count = t.count; interruptions = t.interruptions; going = false; failed = failed }

abbrev pub advanced : Transfer → ℕ → Transfer
advanced t bytes =
    record {
      size = t.size;
      count = t.count + bytes;
      interruptions = t.interruptions;
      going = ltb (t.count + bytes) t.size;
      failed = t.failed;
    }

-- a call moved so many bytes: none ends the transfer (of a read: the input), and so do all that
-- were left
unfoldable pub moved : Transfer → ℕ → Transfer
moved t bytes = cond (eqb bytes 0) (ended t false) (advanced t bytes)

abbrev pub again : Transfer → Transfer
again t = record { size = t.size; count = t.count; interruptions = t.interruptions - 1; going = t.going; failed = t.failed }

-- a signal interrupted a call before it moved a byte: it is made again, unless no interruption is
-- left
unfoldable pub interrupted : Transfer → Transfer
interrupted t = cond (eqb t.interruptions 0) (ended t true) (again t)

-- the kind of error where a signal interrupted a call
unfoldable pub by_signal : ErrorKind → Bool
by_signal Interrupted = true
by_signal _ = false

-- C's EINTR
unfoldable pub is_eintr : ℤ → Bool
is_eintr (pos error) = eqb error 4
is_eintr (negsuc error) = false

-- of the system's errors, by C's `errno`, it is that one
abbrev pub SignalsAreEintr : Type 0
SignalsAreEintr = (error : ℤ) → by_signal (os_error_kind error) ≡ is_eintr error

unfoldable pub failed : Transfer → Error → Transfer
failed t error = cond (by_signal (error_kind error)) (interrupted t) (ended t true)

-- a call answered how many bytes it moved, or why it failed
unfoldable pub after : Transfer → Answer → Transfer
after t (Ok bytes) = moved t bytes
after t (Err error) = failed t error

-- .. and what the answers of several calls make of it
unfoldable pub transferred : Transfer → List Answer → Transfer
transferred t [] = t
transferred t (x ∷ xs) = transferred (after t x) xs
