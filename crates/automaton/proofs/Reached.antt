-- Laws of `reached`.
use Prim.Native.Nat.{ℕ}
use mathlib.Core.Path.{◌≡◌, refl}
use mathlib.Core.List.{List, [], ◌∷◌, ◌++◌}
use Rattle.automaton.specs.Automaton.{Automaton, step, reached}

module _ (a : Automaton) where
  pub reached-append : (q : ℕ) (u v : List ℕ) → reached a q (u ++ v) ≡ reached a (reached a q u) v
  unfolding reached
  reached-append q [] v = refl
  reached-append q (e ∷ u) v = reached-append (step a q e) u v

  pub reached_end : (q : ℕ) (u : List ℕ) (e : ℕ) → reached a q (u ++ e ∷ []) ≡ step a (reached a q u) e
  unfolding reached
  reached_end q u e = reached-append q u (e ∷ [])
