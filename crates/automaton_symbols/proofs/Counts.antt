-- The controllable symbols, counted over the front of the list.
use Rattle.std.proofs.Common.{◌≡◌, ℕ, ◌≤◌, zero, suc, List, take, length, refl, ◌∙◌, eqb, arith, add-one}
use Rattle.std.specs.List.{count_by}
use Rattle.std.proofs.lemmas.List.Sums.{count_by_more_yes, count_by_more_no}
use Rattle.base.specs.Each.{count}
use Rattle.base.proofs.Bools.{by}
use Rattle.base.proofs.Ranges.{count_adds, count_skips}
use Rattle.automaton.specs.Arrays.{controllable_at, controllable_in}

pub counted_front : (classes : List ℕ) (m : ℕ) → m ≤ length classes → count_by (λ c. eqb c 1) (take m classes) ≡ controllable_in classes m
unfolding controllable_in count
counted_front classes zero h = refl
counted_front classes (suc e) h =
    let so_far = counted_front classes e (omega arith) in
    by (controllable_at classes e)
    (λ t. rw (add-one e) at (count_by_more_yes (λ c. eqb c 1) classes e 0 (omega arith) t ∙ count_adds (controllable_at classes) e _ so_far t))
    (λ f. rw (add-one e) at (count_by_more_no (λ c. eqb c 1) classes e 0 (omega arith) f ∙ count_skips (controllable_at classes) e _ so_far f))
