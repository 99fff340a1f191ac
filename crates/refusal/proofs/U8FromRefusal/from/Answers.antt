use Rattle.std.proofs.Common.{◌+◌, ◌≡◌, refl}
use Rattle.refusal.specs.Numbers.{number}
use Rattle.refusal.specs.declared.Refusal.{Refusal}
use Rattle.refusal.specs.declared.Refusal.TheVariants.{BytesEnd, NumberTooLong, StateCount, SymbolCount, Capacity, InitialState, ClassOrFlag, ControllableCount, NextState, BytesLeft, BrokenAutomaton, ShortTable, BrokenConfiguration, NoSuchSymbol, BufferFull, ShortOutput, TooLarge, LongInput, NoSuchClient, ClientCount, LargeSerial, LateSerial, CountEnd, OtherSymbols, TooManyPairs}
use Rattle.refusal.specs.contracts.Refusal.{the_type}
use denote.Enum.Declared.{tag_of}
use Rattle.refusal.proofs.U8FromRefusal.from.Goals as goal

-- a row's number is the one that stands beside it
numbered : (e : Refusal) → tag_of the_type e + 1 ≡ number e
numbered BytesEnd = refl
numbered NumberTooLong = refl
numbered StateCount = refl
numbered SymbolCount = refl
numbered Capacity = refl
numbered InitialState = refl
numbered ClassOrFlag = refl
numbered ControllableCount = refl
numbered NextState = refl
numbered BytesLeft = refl
numbered BrokenAutomaton = refl
numbered ShortTable = refl
numbered BrokenConfiguration = refl
numbered NoSuchSymbol = refl
numbered BufferFull = refl
numbered ShortOutput = refl
numbered TooLarge = refl
numbered LongInput = refl
numbered NoSuchClient = refl
numbered ClientCount = refl
numbered LargeSerial = refl
numbered LateSerial = refl
numbered CountEnd = refl
numbered OtherSymbols = refl
numbered TooManyPairs = refl

pub returns : goal.returns
returns c = numbered c.args.refusal
