-- The lent arrays of an automaton give its sets.
use Prim.Native.Nat.{ℕ, zero, suc, ◌+◌, ◌*◌, ◌^◌, ◌<◌}
use mathlib.Core.Path.{◌≡◌, refl, sym, ◌∙◌, ap, ap₂}
use mathlib.Core.List.{List, [], ◌∷◌, ◌++◌, append-nil}
use mathlib.Core.Bool.{Bool, true, ◌&&◌, ◌||◌, and-true}
use native.Mathlib.Omega.{arith}
use lib.Bits.{bit_or}
use lib.ListN.{length, get_or, length-append, get_or-append}
use lib.Seq.{get_or-append_seam}
use Rattle.base.specs.Each.{each, those}
use Rattle.base.specs.Masks.{has, mask}
use Rattle.base.specs.Pad.{pad}
use Rattle.base.proofs.Bools.{by}
use Rattle.base.proofs.Ranges.{each_more, each_same}
use Rattle.base.proofs.Masks.{mask_lt, mask-same, has-or}
use Rattle.base.proofs.Padding.{pad-inside}
use Rattle.automaton.specs.declared.Automaton.{Automaton}
use Rattle.automaton.specs.Arrays.{controllable_at, accepting_at, goes}
use Rattle.automaton.specs.Automaton.{controllable, accepts, step, valid}
use Rattle.automaton.proofs.Facts.{valid_facts}
use Rattle.solver_sets.specs.declared.Sets.{Sets}
use Rattle.solver_sets.specs.Sets.{accepting_set, admits, stays, refine, settle, settled, into}
use Rattle.solver_sets.proofs.Total.{total}
use Rattle.solver_rounds.specs.Rounds.{RefineRequires, leads, left_of, settled_on, predecessors}
use Rattle.automaton_symbols.specs.Symbols.{free_to}
use Rattle.automaton_symbols.proofs.Free.{free-length, free-below}

-- a test of each uncontrollable symbol
free-each : (classes : List ℕ) (p : ℕ → Bool) (m : ℕ)
    → each (length (free_to classes m)) (λ k. p (get_or (free_to classes m) k 0)) ≡ each m (λ e. controllable_at classes e || p e)
unfolding those each
free-each classes p zero = refl
free-each classes p (suc e) =
    let l = free_to classes e in
    by (controllable_at classes e)
    (λ b. rw (b, append-nil l, free-each classes p e) (sym (and-true (each e (λ e. controllable_at classes e || p e)))))
    (λ b. rw (b, length-append l (e ∷ []))
    (each_more (length l) (λ k. p (get_or (l ++ e ∷ []) k 0)) ∙
    ap₂ ◌&&◌
    (each_same (length l) (λ k. p (get_or (l ++ e ∷ []) k 0)) (λ k. p (get_or l k 0)) (λ k h. ap p (get_or-append l (e ∷ []) 0 k h)) ∙ free-each classes p e)
    (ap p (get_or-append_seam l e [] 0))))

module _ (a : Automaton) where
  abbrev free : List ℕ
  free = free_to a.classes a.symbols

  -- they can be indexed
  pub lent_fits : valid a ≡ true → RefineRequires a.next (pad 16 free) a.states (length free)
  unfolding step
  lent_fits h =
      let v = valid_facts a h in
      record {
        states = v.states-high;
        symbols = omega (arith, v.symbols-high, free-length a.classes a.symbols);
        next-below = λ i. let e : 0 * 16 + i ≡ i = omega arith in omega (arith, rw e at (total a h 0 i), v.states-high);
        free-below = free-below a.classes a.symbols v.symbols-high;
      }

  pub accepting-below : accepting_set a < 2 ^ a.states
  unfolding accepting_set
  accepting-below = mask_lt a.states (accepts a)

  pub accepting-is : mask a.states (accepting_at a.accepting) ≡ accepting_set a
  unfolding accepting_set accepts
  accepting-is = refl

  -- one round
  leads-is : (i home x q : ℕ) → leads a.next (pad 16 free) (length free) (bit_or x i) q ≡ stays a i home x q
  unfolding leads stays admits controllable step
  leads-is i home x q =
      each_same (length free) (λ k. has (bit_or x i) (goes a.next q (get_or (pad 16 free) k 0))) (λ k. has x (step a q (get_or free k 0)) || has i (step a q (get_or free k 0)))
      (λ k h. ap (λ e. has (bit_or x i) (step a q e)) (pad-inside 16 free k h) ∙ has-or x i (step a q (get_or free k 0))) ∙
      free-each a.classes (λ e. has x (step a q e) || has i (step a q e)) a.symbols

  left_is : (i home x : ℕ) → left_of a.next (pad 16 free) a.states (length free) i x ≡ refine a i home x
  unfolding left_of refine
  left_is i home x =
      mask-same a.states (λ q. has x q && leads a.next (pad 16 free) (length free) (bit_or x i) q) (λ q. has x q && stays a i home x q)
      (λ q _. ap (λ b. has x q && b) (leads-is i home x q))

  -- all rounds
  pub settled_is : (i : ℕ) (home : ℕ → ℕ) → settled_on a.next (pad 16 free) a.states (length free) i (accepting_set a) ≡ settled a i home
  unfolding settled_on settled
  settled_is i home = λ j. settle (λ x. left_is i (home x) x j) (accepting_set a) (accepting_set a)

  pub predecessors-is : (e : ℕ) (s : Sets) → predecessors a.next a.states e (bit_or s.winning s.intermediate) ≡ into a e s
  unfolding predecessors into step
  predecessors-is e s =
      mask-same a.states (λ q. has (bit_or s.winning s.intermediate) (step a q e)) (λ q. has s.winning (step a q e) || has s.intermediate (step a q e))
      (λ q _. has-or s.winning s.intermediate (step a q e))
