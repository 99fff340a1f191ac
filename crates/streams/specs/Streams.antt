-- What reading and writing answer, and what a program says where it cannot do the one or the
-- other.
use Rattle.std.specs.Prelude.{ℕ, ◌≤◌, ◌<◌, ◌≡◌, Bool, true, false, Result, Ok, Err, List, ◌++◌, length, eqb}
use Rattle.text.specs.Decimal.{ascii}
use Rattle.std.specs.Counts.{IsPrefixLen}
use Rattle.streams.specs.Transfers.{Transfer, Answer, begun, transferred}
use Rattle.streams.specs.declared.Stopped.{Stopped}

-- how many bytes were read, to the end of the input or until the buffer was full, and whether a
-- read failed before that
pub record Input : Type 0 where
  pub length : ℕ
  pub failed : Bool

-- how many bytes were handed over, and whether these are all
pub record WriteResult : Type 0 where
  pub count : ℕ
  pub done : Bool

-- .. as they are answered
abbrev pub reading : Result ℕ Stopped → Input
reading (Ok n) = record { length = n; failed = false }
reading (Err stopped) = record { length = stopped.count; failed = true }

abbrev pub writing : Result ℕ Stopped → WriteResult
writing (Ok n) = record { count = n; done = true }
writing (Err stopped) = record { count = stopped.count; done = false }

-- what reading, and writing, answers where a transfer is over
abbrev pub input_of : Transfer → Input
input_of t = record { length = t.count; failed = t.failed }

abbrev pub written_of : Transfer → WriteResult
written_of t = record { count = t.count; done = eqb t.count t.size }

-- A transfer of so many bytes that is over, by what std's calls answered, in order. What they
-- answer is free, and so are the bytes that they moved; all else is settled by it.
pub record Over (size : ℕ) (t : Transfer) : Type 0 where
  pub answers : List Answer
  pub made : t ≡ transferred (begun size) answers
  pub over : t.going ≡ false

-- a lent buffer after reading: how many bytes of it count, and whether a read failed, which it
-- does only where there is room
pub record Filled (buffer : List ℕ) (r : Input) : Type 0 where
  pub transfer : Transfer
  pub over : Over (length buffer) transfer
  pub said : r ≡ input_of transfer
  pub counts : IsPrefixLen r.length buffer
  pub room : r.failed ≡ true → r.length < length buffer

-- bytes that were handed over: how many of them from the front on, and whether that is all of them
pub record Handed (bytes : List ℕ) (r : WriteResult) : Type 0 where
  pub transfer : Transfer
  pub over : Over (length bytes) transfer
  pub said : r ≡ written_of transfer
  pub within : r.count ≤ length bytes
  pub done : r.done ≡ eqb r.count (length bytes)

-- the lines on standard error
unfoldable pub cannot_read : List ℕ → List ℕ
cannot_read name = name ++ ascii ": cannot read\n"

unfoldable pub cannot_write : List ℕ → List ℕ
cannot_write name = name ++ ascii ": cannot write\n"
