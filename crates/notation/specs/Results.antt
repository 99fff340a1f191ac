-- The program's results in the form in which the definitions answer.
use Rattle.std.specs.Prelude.{ℕ, Result, Ok, Err}
use Rattle.notation.specs.declared.WordFault.{WordFault}
use Rattle.notation.specs.declared.WordFault.TheVariants.{NotNumber as NoNumber, TooLarge as Over}
use Rattle.notation.specs.declared.Found.{Found}
use Rattle.notation.specs.declared.FaultyToken.{FaultyToken}
use Rattle.notation.specs.declared.PackError.{PackError}
use Rattle.notation.specs.declared.PackError.TheVariants.{Faulty, NoRoom}
use Rattle.notation.specs.Words.{Fault, NotNumber, TooLarge, Word, number, wrong}
use Rattle.notation.specs.Packing.{Packed, done, no_room}
use Rattle.notation.specs.Items.{Item}

-- what is wrong with a token, as a fault
abbrev pub fault_of : WordFault → Fault
fault_of NoNumber = NotNumber
fault_of Over = TooLarge

-- a number, or what is wrong
abbrev pub as_word : Result ℕ WordFault → Word
as_word (Ok v) = number v
as_word (Err e) = wrong (fault_of e)

-- a token that was found
abbrev pub as_item : Found → Item
as_item f = record { token = f.token; word = as_word f.word }

-- a faulty token
abbrev pub as_refused : FaultyToken → Packed
as_refused e = record { fault = fault_of e.fault; line = e.line; from = e.from; to = e.to; length = 0 }

-- how many bytes, or a faulty token
abbrev pub as_checked : Result ℕ FaultyToken → Packed
as_checked (Ok n) = done n
as_checked (Err e) = as_refused e

-- why a text is not packed
abbrev pub as_error : PackError → Packed
as_error (Faulty e) = as_refused e
as_error NoRoom = no_room

-- how many bytes, or why there are none
abbrev pub as_packed : Result ℕ PackError → Packed
as_packed (Ok n) = done n
as_packed (Err e) = as_error e
