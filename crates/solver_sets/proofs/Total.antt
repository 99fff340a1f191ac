-- Every next state of a valid automaton is a state, also at places that are not used.
use Prim.Native.Nat.{ℕ, ◌+◌, ◌*◌, ◌/◌, ◌%◌, ◌<◌}
use mathlib.Core.Path.{◌≡◌, ap}
use mathlib.Core.Bool.{true}
use mathlib.Core.List.{List, [], ◌∷◌}
use native.Mathlib.Omega.{arith}
use lib.ListN.{get_or}
use Rattle.automaton.specs.declared.Automaton.{Automaton}
use Rattle.automaton.specs.Automaton.{step, reached, valid}
use Rattle.automaton.proofs.Facts.{valid_facts, step_high}

abbrev pub Total : Automaton → Type 0
Total a = (q e : ℕ) → step a q e < a.states

-- a symbol from 16 on reads a later state's places
wraps : (a : Automaton) (q e : ℕ) → step a q e ≡ step a (q + e / 16) (e % 16)
unfolding step
wraps a q e = let h : q * 16 + e ≡ (q + e / 16) * 16 + e % 16 = omega arith in ap (λ n. get_or a.next n 0) h

pub total : (a : Automaton) → valid a ≡ true → Total a
total a h q e = rw (wraps a q e) (step_high (valid_facts a h) (q + e / 16) (e % 16) (omega arith))

pub reached-below : (a : Automaton) → Total a → (q : ℕ) (w : List ℕ) → q < a.states → reached a q w < a.states
unfolding reached
reached-below a t q [] l = l
reached-below a t q (e ∷ w) l = reached-below a t (step a q e) w (t q e)
