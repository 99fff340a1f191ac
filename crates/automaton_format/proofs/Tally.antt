-- The tally of the classes that were read.
use Prim.Native.Nat.{ℕ, suc, ◌≤◌}
use mathlib.Core.Path.{◌≡◌, ap, ◌∙◌}
use mathlib.Core.List.{List, [], ◌∷◌, ◌++◌}
use lib.ListN.{length, get_or, take, length-append, get_or-append}
use lib.Seq.{length-take-le, get_or-take, get_or-append_seam}
use lib.Dec.{eqb}
use native.Mathlib.Omega.{arith}
use Rattle.base.specs.Each.{count}
use Rattle.base.proofs.Ranges.{count_same, count-max, count_longer}
use Rattle.automaton.specs.Arrays.{controllable_at, controllable_in}
use Rattle.automaton_format.specs.Reading.{tally}
use Rattle.automaton_format.specs.Outcomes.{one_more}

-- a class more
pub tally-more : (l : List ℕ) (v : ℕ) → tally (l ++ v ∷ []) ≡ one_more (tally l) v
unfolding controllable_in count one_more
tally-more l v =
    let e : length (l ++ v ∷ []) ≡ suc (length l) = length-append l (v ∷ []) ∙ omega arith in
    let same = count_same (length l) (controllable_at (l ++ v ∷ [])) (controllable_at l) (λ i h. ap (λ c. eqb c 1) (get_or-append l (v ∷ []) 0 i h)) in
    let last : get_or (l ++ v ∷ []) (length l) 0 ≡ v = get_or-append_seam l v [] 0 in
    rw (e, last, same)

pub tally-max : (l : List ℕ) → tally l ≤ length l
unfolding controllable_in
tally-max l = count-max (length l) (controllable_at l)

-- of the first k
pub tally-count : (k : ℕ) (l : List ℕ) → k ≤ length l → tally (take k l) ≡ controllable_in l k
unfolding controllable_in
tally-count k l h =
    rw (length-take-le k l h)
    (count_same k (controllable_at (take k l)) (controllable_at l) (λ i b. ap (λ c. eqb c 1) (get_or-take k l i 0 b)))

pub tally-front : (k : ℕ) (l : List ℕ) → k ≤ length l → tally (take k l) ≤ tally l
unfolding controllable_in
tally-front k l h = rw (tally-count k l h) (count_longer k (length l) (controllable_at l) h)
