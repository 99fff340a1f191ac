-- An event at a full buffer, as the code takes it: the first held event goes, and the search is
-- made for the others with the newcomer behind them.
use Prim.Native.Nat.{ℕ, suc, ◌+◌, ◌-◌, ◌*◌, ◌≤◌}
use mathlib.Core.Path.{◌≡◌, refl, sym, ◌∙◌, ap, ap₂}
use mathlib.Core.Bool.{true, false, cond}
use mathlib.Core.List.{List, [], ◌∷◌, ◌++◌, append_assoc, append-nil}
use native.Mathlib.Numerals.{add-one}
use native.Mathlib.Omega.{arith}
use lib.ListN.{length, get_or, set, take, drop, replicate, length-append, length-drop, length-take}
use lib.Seq.{sets, drop-cons, get_or-take, length-take-le}
use lib.Dec.{eqb}
use borrow.Author.Tests.{eqb-false, eq-eqb, ne_eqb}
use Rattle.base.specs.Pad.{pad}
use Rattle.base.specs.Rows.{first}
use Rattle.base.proofs.Bools.{by}
use Rattle.base.proofs.Padding.{pad-length, pad-set, take-pad, repeat_end}
use Rattle.automaton.specs.declared.Automaton.{Automaton}
use Rattle.automaton.specs.Automaton.{controllable, step}
use Rattle.configuration_places.specs.Places.{count_end}
use Rattle.monitor_rule.specs.Step.{Rest, qualifies, release, Effect, arrival, effect}
use Rattle.monitor_rule.specs.declared.Front.{Front}
use Rattle.monitor_rule.specs.Fronts.{front, over, ReleaseRequires}
use Rattle.monitor_rule.proofs.Longest.{shut-is, release-behind, release-none}
use Rattle.monitor_rule.proofs.Effects.{effect-behind}
use Rattle.monitor_step.specs.declared.Stepped.{Stepped}
use Rattle.monitor_step.specs.Stepping.{released, stepped, overflow_row, unmoved, overflowed, overflow_emitted, OverflowRequires}
use Rattle.monitor_step.proofs.Arrivals.{Arrived}
use Rattle.monitor_step.proofs.Steps.{step-answers, step_writes}

-- the rule, from the search behind the first held event d, in the state p to which d leads
module _ (rest : Rest) (a : Automaton) (q d : ℕ) (w : List ℕ) (e : ℕ) (c : controllable a e ≡ true) where
  abbrev p : ℕ
  p = step a q d

  abbrev v : List ℕ
  v = w ++ e ∷ []

  abbrev rests : Type 0
  rests = qualifies rest a p v (release rest a p v) ≡ true

  shut_row : qualifies rest a p v (release rest a p v) ≡ false → (received : ℕ) → overflow_row rest a q (d ∷ w) received e ≡ 15
  unfolding overflow_row first
  shut_row h received = rw (shut-is rest a q (d ∷ v), release-none rest a q d v h)

  open_row : rests → (received : ℕ) → overflow_row rest a q (d ∷ w) received e ≡ cond (eqb received count_end) 23 0
  unfolding overflow_row first
  open_row h received = rw (shut-is rest a q (d ∷ v), release-behind rest a q d v h, ne_eqb (suc (release rest a p v)) 0 (λ z. omega arith))

  -- the same as a step behind it, and d before it
  stepped-behind : rests → (at : ℕ) → let s = stepped rest a p w e (at + 1) in
      stepped rest a q (d ∷ w) e at
      ≡ record { row = 0; state = s.state; held = s.held; buffer = s.buffer; released = s.released + 1; written = s.written }
  unfolding stepped released arrival
  stepped-behind h at =
      let f = effect rest a p w e in
      let long : at + suc (length f.emitted) ≡ at + 1 + length f.emitted = omega arith in
      let more : suc (release rest a p v) ≡ release rest a p v + 1 = sym (add-one (release rest a p v)) in
      rw (effect-behind rest a q w e d c h, c, release-behind rest a q d v h, long, more)

-- what the code has before the search: the state after the first held event, and the array of the
-- others with the newcomer behind them
pub record Behind (next : List ℕ) (q : ℕ) (buffer : List ℕ) (held e p : ℕ) (later : List ℕ) : Type 0 where
  pub led : p ≡ get_or next (q * 16 + get_or buffer 0 0) 0
  pub shifted : later ≡ pad 6 (drop 1 (take held buffer) ++ e ∷ [])

-- The buffer without its first event, and one more behind the rest.
literal : (b : List ℕ) → length b ≡ 6 → get_or b 1 0 ∷ get_or b 2 0 ∷ get_or b 3 0 ∷ get_or b 4 0 ∷ get_or b 5 0 ∷ 0 ∷ [] ≡ drop 1 b ++ 0 ∷ []
literal [] h = absurd (omega (arith, h))
literal (x0 ∷ []) h = absurd (omega (arith, h))
literal (x0 ∷ x1 ∷ []) h = absurd (omega (arith, h))
literal (x0 ∷ x1 ∷ x2 ∷ []) h = absurd (omega (arith, h))
literal (x0 ∷ x1 ∷ x2 ∷ x3 ∷ []) h = absurd (omega (arith, h))
literal (x0 ∷ x1 ∷ x2 ∷ x3 ∷ x4 ∷ []) h = absurd (omega (arith, h))
literal (x0 ∷ x1 ∷ x2 ∷ x3 ∷ x4 ∷ x5 ∷ []) h = refl
literal (x0 ∷ x1 ∷ x2 ∷ x3 ∷ x4 ∷ x5 ∷ x6 ∷ b) h = absurd (omega (arith, h))

behind-first : (w : List ℕ) → 1 ≤ length w → length w ≤ 6 → drop 1 (pad 6 w) ++ 0 ∷ [] ≡ pad 6 (drop 1 w)
unfolding pad
behind-first [] l m = absurd (omega arith)
behind-first (d ∷ w) l m =
    let n = 6 - suc (length w) in
    let e : suc n ≡ 6 - length w = omega arith in
    let more = repeat_end n 0 [] ∙ append-nil (replicate (suc n) 0) in
    append_assoc w (replicate n 0) (0 ∷ []) ∙ ap (λ z. w ++ z) more ∙ ap (λ m. w ++ replicate m 0) e

pub shift_is : (buffer : List ℕ) (held e : ℕ) → 1 ≤ held → held ≤ 6 → buffer ≡ pad 6 (take held buffer)
    → set (get_or buffer 1 0 ∷ get_or buffer 2 0 ∷ get_or buffer 3 0 ∷ get_or buffer 4 0 ∷ get_or buffer 5 0 ∷ 0 ∷ []) (held - 1) e
    ≡ pad 6 (drop 1 (take held buffer) ++ e ∷ [])
shift_is buffer held e some few padded =
    let w = take held buffer in
    let short : length w ≤ 6 = omega (arith, length-take held buffer) in
    let long : length buffer ≡ 6 = ap length padded ∙ pad-length 6 w short in
    let many : length w ≡ held = length-take-le held buffer (omega (arith, long)) in
    let rest : length (drop 1 w) ≡ held - 1 = length-drop 1 w ∙ ap (λ n. n - 1) many in
    ap (λ l. set l (held - 1) e) (literal buffer long ∙ ap (λ l. drop 1 l ++ 0 ∷ []) padded ∙ behind-first w (omega (arith, many)) short) ∙
    ap (λ i. set (pad 6 (drop 1 w)) i e) (sym rest) ∙ pad-set 6 (drop 1 w) e (omega (arith, rest))

-- one that is taken leaves what a step leaves
pub overflowed-taken : (rest : Rest) (a : Automaton) (q : ℕ) (w : List ℕ) (received e at : ℕ) (s : Stepped)
    → s ≡ overflowed rest a q w received e at → s.row ≡ 0 → s ≡ stepped rest a q w e at
unfolding overflowed
overflowed-taken rest a q w received e at s es z =
    let row = overflow_row rest a q w received e in
    by (eqb row 0)
    (λ h. es ∙ rw h)
    (λ h.
    let shut : s ≡ unmoved row q w at = es ∙ rw h in
    absurd (eqb-false row 0 h (sym (ap (λ (y : Stepped). y.row) shut) ∙ z)))

-- from what an event at a full buffer asks
module _ {next ranks : List ℕ} {k : ℕ} {t : List ℕ} {q : ℕ} {buffer : List ℕ} {held e size at : ℕ}
    (g : OverflowRequires next ranks k t q buffer held e size at) where
  abbrev a : Automaton
  a = over ranks next

  abbrev d : ℕ
  d = get_or buffer 0 0

  abbrev others : List ℕ
  others = drop 1 (take held buffer)

  shaped : length buffer ≡ 6
  shaped = ap length g.padded ∙ pad-length 6 (take held buffer) (omega (arith, length-take held buffer, g.few))

  pub many : length (take held buffer) ≡ held
  many = length-take-le held buffer (omega (arith, g.few, shaped))

  others_many : length others ≡ held - 1
  others_many = length-drop 1 (take held buffer) ∙ ap (λ n. n - 1) many

  parted : take held buffer ≡ d ∷ others
  parted =
      drop-cons (take held buffer) 0 0 (omega (arith, many, g.some)) ∙
      ap (λ x. x ∷ others) (get_or-take held buffer 0 0 (omega (arith, g.some)))

  -- the newcomer has arrived behind the others
  module _ {p : ℕ} {later : List ℕ} (b : Behind next q buffer held e p later) where
    abbrev u : List ℕ
    u = others ++ e ∷ []

    p_is : p ≡ step a q d
    unfolding step
    p_is = b.led

    u_many : length u ≡ held
    u_many = omega (arith, length-append others (e ∷ []), others_many, g.some)

    taken_is : take held later ≡ u
    taken_is = ap₂ take (sym u_many) b.shifted ∙ take-pad 6 u

    pub behind : Arrived a p others e p later 0 held
    unfolding arrival
    behind =
        record {
          state = rw g.holds;
          events = taken_is ∙ rw g.holds;
          first = rw g.holds;
          whole = b.shifted ∙ ap (pad 6) (sym taken_is);
          many = ap length taken_is ∙ u_many;
          shaped = ap length b.shifted ∙ pad-length 6 u (omega (arith, u_many, g.few));
          few = g.few;
          sum = omega (arith, others_many, g.some);
        }

    events : (arrival a p others e).buffer ≡ u
    unfolding arrival
    events = rw g.holds

    pub behind-lent : ReleaseRequires next ranks k t p later held
    behind-lent = rw (b.led, b.shifted) (rw u_many at g.lent)

    -- after the search
    module _ (rest : Rest) (f : Front) (ef₀ : f ≡ front rest a p (take held later)) (received : ℕ) where
      abbrev w : List ℕ
      w = take held buffer

      rests-is : f.rests ≡ qualifies rest a (step a q d) (others ++ e ∷ []) (release rest a (step a q d) (others ++ e ∷ []))
      unfolding front
      rests-is =
          ap (λ (y : Front). y.rests) (ef₀ ∙ ap₂ (front rest a) p_is (behind.events ∙ events))

      -- refused: all as it was
      abbrev unmoved_by : ℕ → Stepped
      unmoved_by row = record { row = row; state = q; held = held; buffer = buffer; released = 0; written = at }

      refuses : (row : ℕ) → overflow_row rest a q w received e ≡ row → (row ≡ 0 → ⊥) → (out : List ℕ)
          → (unmoved_by row ≡ overflowed rest a q w received e at) × (out ≡ sets out at (overflow_emitted rest a q w received e))
      unfolding overflowed overflow_emitted
      refuses row h z out = (rw (h, ne_eqb row 0 z, many) (rw (← g.padded)), rw (h, ne_eqb row 0 z))

      pub overflow_shut : f.rests ≡ false → (out : List ℕ)
          → (unmoved_by 15 ≡ overflowed rest a q w received e at) × (out ≡ sets out at (overflow_emitted rest a q w received e))
      overflow_shut shut =
          refuses 15 (ap (λ l. overflow_row rest a q l received e) parted ∙ shut_row rest a q d others e g.holds (sym rests-is ∙ shut) received) (λ z. omega arith)

      opened : f.rests ≡ true → overflow_row rest a q w received e ≡ cond (eqb received count_end) 23 0
      opened o =
          ap (λ l. overflow_row rest a q l received e) parted ∙ open_row rest a q d others e g.holds (sym rests-is ∙ o) received

      pub overflow_ended : f.rests ≡ true → received ≡ 4294967295 → (out : List ℕ)
          → (unmoved_by 23 ≡ overflowed rest a q w received e at) × (out ≡ sets out at (overflow_emitted rest a q w received e))
      overflow_ended o z = refuses 23 (opened o ∙ rw (eq-eqb received count_end z)) (λ y. omega arith)

      -- taken: the first held event, and then what goes behind it
      module _ (o : f.rests ≡ true) (z : received ≡ 4294967295 → ⊥) where
        row_0 : overflow_row rest a q w received e ≡ 0
        row_0 = opened o ∙ rw (ne_eqb received count_end z)

        taken : overflowed rest a q w received e at ≡ stepped rest a q (d ∷ others) e at
        unfolding overflowed
        taken = rw row_0 (ap (λ l. stepped rest a q l e at) parted)

        pub overflow_answers : (from : ℕ) → from ≡ at + 1 → (left : List ℕ) → left ≡ pad 6 (drop f.count (take held later))
            → record { row = 0; state = f.state; held = held - f.count; buffer = left; released = f.count + 1; written = from + f.count }
            ≡ overflowed rest a q w received e at
        overflow_answers from ef left el =
            let s = step-answers rest a p others e p later 0 held behind f ef₀ (at + 1) from (omega (arith, ef)) left el in
            ap (λ (y : Stepped). record { row = 0; state = y.state; held = y.held; buffer = y.buffer; released = y.released + 1; written = y.written }) s ∙
            ap (λ i. let y = stepped rest a i others e (at + 1) in record { row = 0; state = y.state; held = y.held; buffer = y.buffer; released = y.released + 1; written = y.written }) p_is ∙
            sym (taken ∙ stepped-behind rest a q d others e g.holds (sym rests-is ∙ o) at)

        pub overflow_writes : (out out1 out2 : List ℕ) (from : ℕ) → from ≡ at + 1 → out1 ≡ set out at d → out2 ≡ sets out1 from (take f.count later)
            → out2 ≡ sets out at (overflow_emitted rest a q w received e)
        unfolding overflow_emitted
        overflow_writes out out1 out2 from h1 h2 h3 =
            let s = step_writes rest a p others e p later 0 held behind f ef₀ false (rw g.holds) out1 out1 out2 (at + 1) from (omega (arith, h1)) refl h3 in
            let emitted : d ∷ (effect rest a p others e).emitted ≡ (effect rest a q w e).emitted =
            ap (λ i. d ∷ (effect rest a i others e).emitted) p_is ∙
            sym (ap (λ l. (effect rest a q l e).emitted) parted ∙ ap (λ (y : Effect). y.emitted) (effect-behind rest a q others e d g.holds (sym rests-is ∙ o)))
            in
            s ∙ ap₂ (λ l i. sets l i (effect rest a p others e).emitted) h2 (add-one at) ∙ ap (sets out at) emitted ∙
            rw row_0
