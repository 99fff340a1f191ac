-- The list of the uncontrollable symbols.
use Prim.Native.Nat.{ℕ, ◌≤◌, ◌<◌}
use mathlib.Core.Path.{◌≡◌, ◌∙◌, ap}
use mathlib.Core.Bool.{Bool, true, false, not}
use mathlib.Core.List.{List}
use native.Mathlib.Omega.{arith}
use lib.ListN.{length, get_or}
use borrow.Author.Tests.{eq-eqb, ne_eqb}
use Rattle.base.specs.Pad.{pad}
use Rattle.base.proofs.Padding.{pad_every}
use Rattle.base.proofs.Picking.{Picked, those-few, those-holds}
use Rattle.automaton.specs.Arrays.{controllable_at}
use Rattle.automaton_symbols.specs.Symbols.{free_to, free_of}

module _ (classes : List ℕ) where
  abbrev pub free : ℕ → Bool
  free e = not (controllable_at classes e)

  -- a symbol is controllable or not
  pub free-not : (e : ℕ) → get_or classes e 0 ≡ 1 → free e ≡ false
  free-not e h = rw (eq-eqb (get_or classes e 0) 1 h)

  pub free-is : (e : ℕ) → (get_or classes e 0 ≡ 1 → ⊥) → free e ≡ true
  free-is e h = rw (ne_eqb (get_or classes e 0) 1 h)

  pub free-length : (e : ℕ) → length (free_to classes e) ≤ e
  free-length e = those-few e free

  pub free-below : (e : ℕ) → e ≤ 16 → (i : ℕ) → get_or (pad 16 (free_to classes e)) i 0 < 16
  free-below e h = pad_every (λ x. x < 16) 16 (free_to classes e) (omega arith) (λ i l. omega (arith, (those-holds e free i l).0))

  -- what a loop over the symbols has kept
  pub free_all : (e : ℕ) (list : List ℕ) (count : ℕ) → Picked 16 free e list count → (m : ℕ) → e ≡ m → record { count = count; list = list } ≡ free_of classes m
  unfolding free_of
  free_all e list count s m h = λ j. record { count = (s.counted ∙ ap (λ e. length (free_to classes e)) h) j; list = (s.stored ∙ ap (λ e. pad 16 (free_to classes e)) h) j }
