use Rattle.std.proofs.Common.{rules, ◌≡◌, ◌∙◌, ℕ, Bool, ◌&&◌, leb, ltb, sym, ap}
use mathlib.Core.Bool.{and_assoc}
use Rattle.automaton.specs.Automaton.{ranged}
use Rattle.automaton_check.proofs.ranged.Goals as goal
use Rattle.automaton_check.proofs.ranged.Goals.{Joined-contains-2, then-contains, else-contains, then-contains-2, else-contains-2}

abbrev within : ℕ → ℕ → Bool
within limit v = leb 1 v && leb v limit

-- Row 11's tests of the four sizes: the first three are joined as the code has them.
sizes : (c : Joined-contains-2) → let a = c.args in
    (c.if-contains-2.value && ltb a.initial a.states) ≡ ranged a.states a.symbols a.capacity a.initial
unfolding ranged
sizes c =
    let a = c.args in
    let states : c.contains.result ≡ within 32 a.states = search rules in
    let two : c.if-contains.value ≡ (within 32 a.states && within 16 a.symbols) =
    elim c.if-contains.branch [
      | then-contains w ↦
          let symbols : w.contains-then-contains.result ≡ within 16 a.symbols = search rules in
          w.value-is ∙ symbols ∙ rw (sym states ∙ w.if-contains.true)
      | else-contains w ↦ w.value-is ∙ w.if-contains.false ∙ rw (sym states ∙ w.if-contains.false)
    ] in
    let three : c.if-contains-2.value ≡ ((within 32 a.states && within 16 a.symbols) && within 6 a.capacity) =
    elim c.if-contains-2.branch [
      | then-contains-2 w ↦
          let capacity : w.contains-then-contains-2.result ≡ within 6 a.capacity = search rules in
          w.value-is ∙ capacity ∙ rw (sym two ∙ w.if-contains-2.true)
      | else-contains-2 w ↦ w.value-is ∙ w.if-contains-2.false ∙ rw (sym two ∙ w.if-contains-2.false)
    ] in
    let u = within 32 a.states in
    let v = within 16 a.symbols in
    let w = within 6 a.capacity in
    let z = ltb a.initial a.states in
    ap (λ t. t && z) three ∙ and_assoc (u && v) w z ∙ and_assoc u v (w && z)

pub returns-then-contains-3 : goal.returns-then-contains-3
returns-then-contains-3 c = rw c.if-contains-3.true at (sizes (goal.at.returns-then-contains-3 c).Joined-contains-2)

pub returns-else-contains-3 : goal.returns-else-contains-3
returns-else-contains-3 c = c.if-contains-3.false ∙ (rw c.if-contains-3.false at (sizes (goal.at.returns-else-contains-3 c).Joined-contains-2))
