-- Parts of a buffer are buffers.
use Prim.Native.Nat.{ℕ, zero, suc, ◌<◌}
use mathlib.Core.Path.{◌≡◌}
use mathlib.Core.Bool.{true}
use mathlib.Core.List.{List, [], ◌∷◌, ◌++◌}
use native.Mathlib.Omega.{arith}
use lib.ListN.{drop, length-drop}
use Rattle.automaton.specs.declared.Automaton.{Automaton}
use Rattle.automaton.specs.Automaton.{controllable}
use Rattle.solver_sets.specs.Table.{Controllable, Buffer}

module _ (a : Automaton) where
  pub controllable-drop : (k : ℕ) (w : List ℕ) → Controllable a w → Controllable a (drop k w)
  controllable-drop zero w c = c
  controllable-drop (suc k) [] c = c
  controllable-drop (suc k) (e ∷ w) c = controllable-drop k w c.1

  pub controllable_end : (w : List ℕ) (e : ℕ) → Controllable a w → e < a.symbols → controllable a e ≡ true → Controllable a (w ++ e ∷ [])
  controllable_end [] e c l h = ((l, h), tt)
  controllable_end (d ∷ w) e c l h = (c.0, controllable_end w e c.1 l h)

  -- what is left after a front part
  pub buffer-drop : (k : ℕ) (w : List ℕ) → Buffer a w → Buffer a (drop k w)
  buffer-drop k w b = (controllable-drop k w b.0, omega (arith, length-drop k w, b.1))
