-- The numbers of refusal (docs/RULES.md, "Numbers of refusal"), and answers that may be refused.
use Rattle.std.specs.Prelude.{ℕ, Result, Ok, Err}
use Rattle.refusal.specs.declared.Refusal.{Refusal}
use Rattle.refusal.specs.declared.Refusal.TheVariants.{BytesEnd, NumberTooLong, StateCount, SymbolCount, Capacity, InitialState, ClassOrFlag, ControllableCount, NextState, BytesLeft, BrokenAutomaton, ShortTable, BrokenConfiguration, NoSuchSymbol, BufferFull, ShortOutput, TooLarge, LongInput, NoSuchClient, ClientCount, LargeSerial, LateSerial, CountEnd, OtherSymbols, TooManyPairs}
use Rattle.refusal.specs.declared.Fault.{Fault}

-- a row's number
abbrev pub number : Refusal → ℕ
number BytesEnd = 1
number NumberTooLong = 2
number StateCount = 3
number SymbolCount = 4
number Capacity = 5
number InitialState = 6
number ClassOrFlag = 7
number ControllableCount = 8
number NextState = 9
number BytesLeft = 10
number BrokenAutomaton = 11
number ShortTable = 12
number BrokenConfiguration = 13
number NoSuchSymbol = 14
number BufferFull = 15
number ShortOutput = 16
number TooLarge = 17
number LongInput = 18
number NoSuchClient = 19
number ClientCount = 20
number LargeSerial = 21
number LateSerial = 22
number CountEnd = 23
number OtherSymbols = 24
number TooManyPairs = 25

-- an answer, or the number of the row that refuses it
abbrev pub by_number : {A X : Type 0} → (A → X) → (ℕ → X) → Result A Refusal → X
by_number made refused (Ok a) = made a
by_number made refused (Err e) = refused (number e)

-- .. and the place of the fault
abbrev pub by_number_at : {A X : Type 0} → (A → X) → (ℕ → ℕ → X) → Result A Fault → X
by_number_at made refused (Ok a) = made a
by_number_at made refused (Err e) = refused (number e.refusal) e.place
