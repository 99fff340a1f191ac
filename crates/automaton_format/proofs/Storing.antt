-- Laws of storing a record's numbers.
use Prim.Native.Nat.{ℕ, zero, suc, ◌+◌, ◌*◌, ◌<◌, ◌≤◌}
use mathlib.Core.Path.{◌≡◌, sym, ◌∙◌, ap, ap₂}
use mathlib.Core.List.{List, [], ◌∷◌, ◌++◌, append_assoc}
use native.Mathlib.Nat.{mul-le-mul, suc-mul}
use native.Mathlib.Numerals.{add-one}
use native.Mathlib.Omega.{arith}
use lib.ListN.{length, take, drop, length-append, length-drop}
use lib.Seq.{sets, length-take-le}
use Rattle.automaton.specs.declared.Automaton.{Automaton}
use Rattle.automaton_format.specs.Writing.{next_numbers, record_numbers}
use Rattle.base.proofs.Stores.{sets_join}
use Rattle.automaton.proofs.Facts.{Valid}

-- the numbers of some states
module _ (next : List ℕ) (long : length next ≡ 512) (m : ℕ) (narrow : m ≤ 16) where
  state-length : (q : ℕ) → q < 32 → length (take m (drop (q * 16) next)) ≡ m
  state-length q h = length-take-le m (drop (q * 16) next) (rw (length-drop (q * 16) next) (omega arith))

  pub states-long : (q : ℕ) → q ≤ 32 → length (next_numbers next m q) ≡ q * m
  unfolding next_numbers
  states-long zero h = omega arith
  states-long (suc q) h =
      length-append (next_numbers next m q) (take m (drop (q * 16) next)) ∙
      ap₂ ◌+◌ (states-long q (omega arith)) (state-length q (omega arith)) ∙
      omega (arith, suc-mul q m)

  -- one more state stored
  pub state-more : (out : List ℕ) (at q : ℕ) → q < 32
      → sets (sets out at (next_numbers next m q)) (at + q * m) (take m (drop (q * 16) next)) ≡ sets out at (next_numbers next m (q + 1))
  unfolding next_numbers
  state-more out at q h =
      let e : at + q * m ≡ at + length (next_numbers next m q) = ap (λ k. at + k) (sym (states-long q (omega arith))) in
      ap (λ i. sets (sets out at (next_numbers next m q)) i (take m (drop (q * 16) next))) e ∙
      sets_join out at (next_numbers next m q) (take m (drop (q * 16) next)) ∙
      rw (add-one q)

-- the numbers of a state are within those of all
pub state-within : (n m q : ℕ) → q < n → q * m + m ≤ n * m
state-within n m q h =
    let s : suc q ≤ n = omega arith in
    let r : m ≤ m = omega arith in
    omega (arith, mul-le-mul s r, suc-mul q m)

pub states-small : (n m : ℕ) → n ≤ 32 → m ≤ 16 → n * m ≤ 512
states-small n m h k = let p : n * m ≤ 32 * 16 = mul-le-mul h k in omega (arith, p)

-- the parts of a valid record, one behind the other
module _ (a : Automaton) (v : Valid a) where
  classes-length : length (take a.symbols a.classes) ≡ a.symbols
  classes-length = length-take-le a.symbols a.classes (omega (arith, v.classes-length, v.symbols-high))

  flags_length : length (take a.states a.accepting) ≡ a.states
  flags_length = length-take-le a.states a.accepting (omega (arith, v.accepting-length, v.states-high))

  pub numbers-length : length (record_numbers a) ≡ 4 + a.symbols + a.states + a.states * a.symbols
  unfolding record_numbers
  numbers-length =
      simp length-append
      (omega (arith, classes-length, flags_length, states-long a.next v.next-length a.symbols v.symbols-high a.states v.states-high))

  pub parts_join : (out : List ℕ)
      → sets
      (sets
      (sets
      (sets out 0 (a.states ∷ a.symbols ∷ a.capacity ∷ a.initial ∷ []))
      4 (take a.symbols (drop 0 a.classes)))
      (4 + a.symbols) (take a.states (drop 0 a.accepting)))
      (4 + a.symbols + a.states) (next_numbers a.next a.symbols a.states)
      ≡ sets out 0 (record_numbers a)
  unfolding record_numbers
  parts_join out =
      let h = a.states ∷ a.symbols ∷ a.capacity ∷ a.initial ∷ [] in
      let c = take a.symbols a.classes in
      let f = take a.states a.accepting in
      let r = next_numbers a.next a.symbols a.states in
      let e : 4 + a.symbols ≡ 0 + length (h ++ c) = simp length-append (omega (arith, classes-length)) in
      let g : 4 + a.symbols + a.states ≡ 0 + length ((h ++ c) ++ f) = simp length-append (omega (arith, classes-length, flags_length)) in
      ap (λ x. sets (sets x (4 + a.symbols) f) (4 + a.symbols + a.states) r) (sets_join out 0 h c) ∙
      ap (λ i. sets (sets (sets out 0 (h ++ c)) i f) (4 + a.symbols + a.states) r) e ∙
      ap (λ x. sets x (4 + a.symbols + a.states) r) (sets_join out 0 (h ++ c) f) ∙
      ap (λ i. sets (sets out 0 ((h ++ c) ++ f)) i r) g ∙
      sets_join out 0 ((h ++ c) ++ f) r ∙
      ap (λ x. sets out 0 x) (append_assoc (h ++ c) f r ∙ append_assoc h c (f ++ r))
