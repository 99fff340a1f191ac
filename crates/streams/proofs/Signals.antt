-- Which of the system's errors says that a signal interrupted a call.
use Prim.Native.Nat.{ℕ}
use mathlib.Core.Path.{◌≡◌, refl, sym, ◌∙◌, ap}
use mathlib.Core.Bool.{Bool, true, false, not, ◌&&◌, ◌||◌}
use mathlib.Core.List.{List, [], ◌∷◌}
use native.Mathlib.Omega.{arith}
use lib.IntN.{pos, negsuc}
use lib.Dec.{eqb}
use borrow.Author.Tests.{eqb-true, le-ltb}
use Rattle.std.specs.declared.io.ErrorKind.{ErrorKind}
use Rattle.std.specs.IoError.{os_error_kind, os_error_kinds, kind_in}
use Rattle.base.proofs.Bools.{by, clash, and_left, and_right}
use Rattle.streams.specs.Transfers.{by_signal, is_eintr, SignalsAreEintr}

-- no row of a table says so of another error
sound : List (ℕ × ErrorKind) → Bool
sound [] = true
sound (row ∷ rows) = (not (by_signal row.1) || eqb row.0 4) && sound rows

in_table : (rows : List (ℕ × ErrorKind)) (error : ℕ) → sound rows ≡ true → eqb error 4 ≡ false → by_signal (kind_in rows error) ≡ false
unfolding sound by_signal
in_table [] error h n = refl
in_table (row ∷ rows) error h n =
    by (eqb error row.0)
    (λ e.
    by (by_signal row.1)
    (λ s.
    let four : eqb row.0 4 ≡ true = rw s at (and_left (not (by_signal row.1) || eqb row.0 4) (sound rows) h) in
    absurd (clash four (rw (eqb-true error row.0 e) at n)))
    (λ s. rw e s))
    (λ e. rw e (in_table rows error (and_right _ _ h) n))

kind_of : (error : ℕ) → os_error_kind (pos error) ≡ kind_in os_error_kinds error
unfolding os_error_kind
kind_of error = rw (le-ltb error 0 (omega arith)) refl

all_sound : sound os_error_kinds ≡ true
unfolding sound by_signal
all_sound = refl

four_is : by_signal (kind_in os_error_kinds 4) ≡ true
unfolding by_signal
four_is = refl

pub signals_are_eintr : SignalsAreEintr
unfolding os_error_kind is_eintr by_signal
signals_are_eintr (pos error) =
    by (eqb error 4)
    (λ e. ap by_signal (kind_of error) ∙ ap (λ k. by_signal (kind_in os_error_kinds k)) (eqb-true error 4 e) ∙ four_is ∙ sym e)
    (λ e. ap by_signal (kind_of error) ∙ in_table os_error_kinds error all_sound e ∙ sym e)
signals_are_eintr (negsuc error) = refl
