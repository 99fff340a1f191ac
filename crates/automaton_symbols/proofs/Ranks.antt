-- The ranks of the symbols.
use Prim.Native.Nat.{ℕ, zero, suc, ◌+◌, ◌<◌}
use mathlib.Core.Path.{◌≡◌, refl, sym, ◌∙◌, ap, ap₂}
use mathlib.Core.Bool.{cond}
use mathlib.Core.List.{List, [], ◌∷◌, ◌++◌}
use native.Mathlib.Numerals.{add-one}
use native.Mathlib.Omega.{arith}
use lib.ListN.{length, get_or, set, length-append}
use lib.Dec.{eqb}
use borrow.Author.Tests.{eq-eqb, ne_eqb}
use Rattle.base.specs.Pad.{pad}
use Rattle.base.proofs.Padding.{pad-set, pad-zero}
use Rattle.automaton.specs.Arrays.{controllable_in}
use Rattle.automaton_symbols.specs.Symbols.{ranks_to}

pub ranks_length : (classes : List ℕ) (e : ℕ) → length (ranks_to classes e) ≡ e
unfolding ranks_to
ranks_length classes zero = refl
ranks_length classes (suc e) =
    length-append (ranks_to classes e) (cond (eqb (get_or classes e 0) 1) (controllable_in classes (suc e)) 0 ∷ []) ∙ omega (arith, ranks_length classes e)

module _ (classes ranks : List ℕ) (e : ℕ) (h : e < 16) (so_far : ranks ≡ pad 16 (ranks_to classes e)) where
  pub rank-set : (n : ℕ) → get_or classes e 0 ≡ 1 → n ≡ controllable_in classes (e + 1) → set ranks e n ≡ pad 16 (ranks_to classes (e + 1))
  unfolding ranks_to
  rank-set n c f =
      let l = ranks_length classes e in
      ap₂ (λ x i. set x i n) so_far (sym l) ∙
      pad-set 16 (ranks_to classes e) n (omega arith) ∙
      rw (add-one e, eq-eqb (get_or classes e 0) 1 c) (ap (λ x. pad 16 (ranks_to classes e ++ x ∷ [])) (f ∙ ap (controllable_in classes) (add-one e)))

  pub rank-none : (get_or classes e 0 ≡ 1 → ⊥) → ranks ≡ pad 16 (ranks_to classes (e + 1))
  unfolding ranks_to
  rank-none c =
      let l = ranks_length classes e in
      so_far ∙ pad-zero 16 (ranks_to classes e) (omega arith) ∙ rw (add-one e, ne_eqb (get_or classes e 0) 1 c)
