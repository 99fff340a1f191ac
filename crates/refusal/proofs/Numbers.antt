-- Laws of the numbers of refusal.
use Rattle.std.proofs.Common.{ℕ, ◌≡◌, ◌<◌, ◌≤◌, refl, sym, ap, ◌∙◌, arith}
use Rattle.std.specs.Prelude.{cond, eqb}
use Rattle.refusal.specs.declared.Refusal.{Refusal}
use Rattle.refusal.specs.declared.Refusal.TheVariants.{BytesEnd, NumberTooLong, StateCount, SymbolCount, Capacity, InitialState, ClassOrFlag, ControllableCount, NextState, BytesLeft, BrokenAutomaton, ShortTable, BrokenConfiguration, NoSuchSymbol, BufferFull, ShortOutput, TooLarge, LongInput, NoSuchClient, ClientCount, LargeSerial, LateSerial, CountEnd, OtherSymbols, TooManyPairs}
use Rattle.refusal.specs.Numbers.{number}

-- each number is 1 to 25
pub number_range : (e : Refusal) → (1 ≤ number e) × (number e ≤ 25)
number_range BytesEnd = (omega arith, omega arith)
number_range NumberTooLong = (omega arith, omega arith)
number_range StateCount = (omega arith, omega arith)
number_range SymbolCount = (omega arith, omega arith)
number_range Capacity = (omega arith, omega arith)
number_range InitialState = (omega arith, omega arith)
number_range ClassOrFlag = (omega arith, omega arith)
number_range ControllableCount = (omega arith, omega arith)
number_range NextState = (omega arith, omega arith)
number_range BytesLeft = (omega arith, omega arith)
number_range BrokenAutomaton = (omega arith, omega arith)
number_range ShortTable = (omega arith, omega arith)
number_range BrokenConfiguration = (omega arith, omega arith)
number_range NoSuchSymbol = (omega arith, omega arith)
number_range BufferFull = (omega arith, omega arith)
number_range ShortOutput = (omega arith, omega arith)
number_range TooLarge = (omega arith, omega arith)
number_range LongInput = (omega arith, omega arith)
number_range NoSuchClient = (omega arith, omega arith)
number_range ClientCount = (omega arith, omega arith)
number_range LargeSerial = (omega arith, omega arith)
number_range LateSerial = (omega arith, omega arith)
number_range CountEnd = (omega arith, omega arith)
number_range OtherSymbols = (omega arith, omega arith)
number_range TooManyPairs = (omega arith, omega arith)

pub number_positive : (e : Refusal) → 0 < number e
number_positive e = let h = number_range e in omega arith

-- .. so it is never 0, which is the number of no refusal
pub number_never_0 : (e : Refusal) → number e ≡ 0 → ⊥
number_never_0 e h = let r : (1 ≤ number e) × (number e ≤ 25) = number_range e in omega arith

-- the row of a number
row : ℕ → Refusal
row n =
    cond (eqb n 1) BytesEnd (
    cond (eqb n 2) NumberTooLong (
    cond (eqb n 3) StateCount (
    cond (eqb n 4) SymbolCount (
    cond (eqb n 5) Capacity (
    cond (eqb n 6) InitialState (
    cond (eqb n 7) ClassOrFlag (
    cond (eqb n 8) ControllableCount (
    cond (eqb n 9) NextState (
    cond (eqb n 10) BytesLeft (
    cond (eqb n 11) BrokenAutomaton (
    cond (eqb n 12) ShortTable (
    cond (eqb n 13) BrokenConfiguration (
    cond (eqb n 14) NoSuchSymbol (
    cond (eqb n 15) BufferFull (
    cond (eqb n 16) ShortOutput (
    cond (eqb n 17) TooLarge (
    cond (eqb n 18) LongInput (
    cond (eqb n 19) NoSuchClient (
    cond (eqb n 20) ClientCount (
    cond (eqb n 21) LargeSerial (
    cond (eqb n 22) LateSerial (
    cond (eqb n 23) CountEnd (
    cond (eqb n 24) OtherSymbols (
    TooManyPairs))))))))))))))))))))))))

row_number : (e : Refusal) → row (number e) ≡ e
unfolding row
row_number BytesEnd = refl
row_number NumberTooLong = refl
row_number StateCount = refl
row_number SymbolCount = refl
row_number Capacity = refl
row_number InitialState = refl
row_number ClassOrFlag = refl
row_number ControllableCount = refl
row_number NextState = refl
row_number BytesLeft = refl
row_number BrokenAutomaton = refl
row_number ShortTable = refl
row_number BrokenConfiguration = refl
row_number NoSuchSymbol = refl
row_number BufferFull = refl
row_number ShortOutput = refl
row_number TooLarge = refl
row_number LongInput = refl
row_number NoSuchClient = refl
row_number ClientCount = refl
row_number LargeSerial = refl
row_number LateSerial = refl
row_number CountEnd = refl
row_number OtherSymbols = refl
row_number TooManyPairs = refl

-- two refusals with one number are the same
pub number_injective : (e f : Refusal) → number e ≡ number f → e ≡ f
number_injective e f h = sym (row_number e) ∙ ap row h ∙ row_number f
