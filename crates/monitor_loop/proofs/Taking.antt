-- One event for a consistent configuration, as the code finds it over the lent parts of an
-- automaton.
use Prim.Native.Nat.{ℕ, ◌+◌, ◌<◌, ◌≤◌}
use mathlib.Core.Path.{◌≡◌, refl, sym, ◌∙◌, ap}
use mathlib.Core.Bool.{true, false, cond, not, ◌&&◌}
use mathlib.Core.List.{List, []}
use native.Mathlib.Nat.{add-zero}
use native.Mathlib.Omega.{arith}
use lib.ListN.{length, get_or, take}
use lib.Seq.{sets, length-sets}
use lib.Dec.{eqb, ltb}
use borrow.Author.Tests.{eqb-true, eqb-false, ne_eqb, not-true}
use Rattle.base.specs.Pad.{pad}
use Rattle.base.specs.Rows.{first}
use Rattle.base.proofs.Bools.{by, clash, and-pair}
use Rattle.automaton.specs.declared.Automaton.{Automaton}
use Rattle.automaton.proofs.Facts.{Valid, valid_facts}
use Rattle.configuration_places.specs.Places.{input_number}
use Rattle.configuration.specs.declared.Configuration.{Configuration}
use Rattle.configuration.specs.Configuration.{Position, held_events, position_of, consistent}
use Rattle.configuration.proofs.Facts.{Consistent, consistent_facts}
use Rattle.monitor_rule.specs.Step.{by_table, effect, effect_from, event_refusal}
use Rattle.automaton_symbols.specs.declared.Ranking.{Ranking}
use Rattle.monitor_rule.specs.Fronts.{rest_in, over}
use Rattle.automaton_symbols.specs.Symbols.{ranking_of}
use Rattle.monitor_rule.proofs.Effects.{OccursAt, consistent_occurs}
use Rattle.monitor_rule.proofs.Tabled.{next_low}
use Rattle.monitor_step.specs.declared.Stepped.{Stepped}
use Rattle.monitor_step.specs.Stepping.{early_row, released, stepped, overflow_row, overflowed, overflow_emitted, StepRequires, OverflowRequires}
use Rattle.monitor_step.proofs.Tabled.{no_full, Fitting, Filled, early-stands, early-fits, early-full, early_overflows, stepped_tabled}
use Rattle.monitor_step.proofs.Tabled.{emitted_tabled, overflowed_tabled, overflow_emitted_tabled, ready, overflow_ready}
use Rattle.monitor_answers.specs.Turns.{turn_refusal, turn_emitted, turn_next, turned_buffer}
use Rattle.monitor_answers.proofs.Turns.{Opened, turn-consistent, turn-unmoved, turn-silent, turn_moves, turn_emits}
use Rattle.monitor_loop.specs.Lending.{Limits, Lends, ProcessRequires}

-- what an event leaves of a consistent configuration beside places and counts; none is released
-- where it is refused
unfoldable pub processed : Automaton → List ℕ → Configuration → ℕ → ℕ → Stepped
processed a t c e at =
    let next = turn_next a t c e in
    record {
      row = turn_refusal a t c e;
      state = next.state;
      held = next.held;
      buffer = next.buffer;
      released = cond (eqb (turn_refusal a t c e) 0) (released (by_table a t) a c.state (held_events c) e) 0;
      written = at + length (turn_emitted a t c e);
    }

-- one event for a consistent configuration
abbrev pub Takes : Limits → List ℕ → List ℕ → List ℕ → Configuration → ℕ → ℕ → List ℕ → Stepped → List ℕ → Type 0
Takes l next ranks t c e at out r out' =
    (a : Automaton) → Lends a l next ranks t → consistent a c ≡ true
    → (r ≡ processed a t c e at) × (out' ≡ turned_buffer a t c e at out)

-- what the code lends is an automaton's own
pub lends : (a : Automaton) (t : List ℕ) → Opened a t → (r : Ranking) → r ≡ ranking_of a.classes a.symbols
    → Lends a (record { controllables = r.count; states = a.states; symbols = a.symbols; capacity = a.capacity }) a.next r.ranks t
lends a t o r e =
    record {
      record_valid = o.record_valid;
      table-long = o.table-long;
      limits-are = ap (λ (y : Ranking). record { controllables = y.count; states = a.states; symbols = a.symbols; capacity = a.capacity }) e;
      next-are = refl;
      ranks-are = ap (λ (y : Ranking). y.ranks) e;
    }

pub enters : {a : Automaton} {l : Limits} {next ranks t : List ℕ} {c : Configuration} → Lends a l next ranks t → consistent a c ≡ true
    → ProcessRequires l next ranks t c
enters {a} o k = record { automaton = a; lends = o; stands = k }

-- what a consistent configuration of a valid automaton is
module _ {a : Automaton} {l : Limits} {next ranks t : List ℕ} (o : Lends a l next ranks t) where
  pub opens : Opened a t
  opens = record { record_valid = o.record_valid; table-long = o.table-long }

  pub facts : Valid a
  facts = valid_facts a o.record_valid

  pub symbols-small : l.symbols ≤ 16
  symbols-small = omega (arith, ap (λ (y : Limits). y.symbols) o.limits-are, facts.symbols-high)

  pub next_small : (i : ℕ) → get_or next i 0 < 32
  next_small i = rw o.next-are (next_low a facts t o.table-long i)

  module _ (c : Configuration) (k : consistent a c ≡ true) where
    pub place : Consistent a c
    place = consistent_facts a c facts k

    pub occurs : OccursAt a (position_of c)
    occurs = consistent_occurs a c place

-- by an automaton: a refused event, and an accepted one
module _ {a : Automaton} {l : Limits} {next ranks t : List ℕ} (o : Lends a l next ranks t) (c : Configuration) (k : consistent a c ≡ true) (e at : ℕ) where
  abbrev p : Position
  p = position_of c

  pub processed_refused : (n : ℕ) → event_refusal (by_table a t) a p e ≡ n → (n ≡ 0 → ⊥)
      → (record { row = n; state = c.state; held = c.held; buffer = c.buffer; released = 0; written = at } ≡ processed a t c e at)
      × (turn_emitted a t c e ≡ [])
  unfolding processed
  processed_refused n h z =
      let r = turn-consistent a t c e k ∙ h in
      let silent = turn-silent a t c e n r z in
      (rw (silent, turn-unmoved a t c e n r z, r, ne_eqb n 0 z, add-zero at), silent)

  pub processed_accepted : event_refusal (by_table a t) a p e ≡ 0
      → (stepped (by_table a t) a c.state (held_events c) e at ≡ processed a t c e at)
      × (turn_emitted a t c e ≡ (effect_from (by_table a t) a p e).emitted)
  unfolding processed stepped
  processed_accepted h =
      let r = turn-consistent a t c e k ∙ h in
      (rw (turn_moves a t c e r, turn_emits a t c e r, r), turn_emits a t c e r)

-- the row before any search, as the code asks it
pub record Early (l : Limits) (next ranks t : List ℕ) (c : Configuration) (e held n : ℕ) : Type 0 where
  pub capacity : ℕ
  pub capacity-is : capacity ≡ l.capacity
  pub held-is : held ≡ c.held
  pub row_is : n ≡ early_row ranks l.symbols capacity held (input_number c.received) e

-- whether it refuses
pub refuses-some : (n : ℕ) → (not (eqb n 0) && not (eqb n 15)) ≡ true → (n ≡ 0 → ⊥) × (n ≡ 15 → ⊥)
refuses-some n h =
    let both = and-pair (not (eqb n 0)) (not (eqb n 15)) h in
    (eqb-false n 0 (not-true (eqb n 0) both.0), eqb-false n 15 (not-true (eqb n 15) both.1))

pub refuses-none : (n : ℕ) → (not (eqb n 0) && not (eqb n 15)) ≡ false → (n ≡ 15 → ⊥) → n ≡ 0
refuses-none n h z = by (eqb n 0) (eqb-true n 0) (λ u. absurd (clash (rw (u, ne_eqb n 15 z)) h))

-- an uncontrollable event finds no full buffer
pub passing-fits : {l : Limits} {next ranks t : List ℕ} {c : Configuration} {e held n : ℕ} → Early l next ranks t c e held n
    → eqb (get_or ranks e 0) 0 ≡ true → n ≡ 15 → ⊥
unfolding early_row first
passing-fits {l} {next} {ranks} {t} {c} {e} {held} y h z =
    by (ltb e l.symbols)
    (λ s. no_full (input_number c.received) (sym z ∙ rw (s, h) at y.row_is))
    (λ s. let r = sym z ∙ rw s at y.row_is in omega arith)

module _ {l : Limits} {next ranks t : List ℕ} {c : Configuration} {e held n : ℕ} (y : Early l next ranks t c e held n) where
  module _ (a : Automaton) (o : Lends a l next ranks t) (k : consistent a c ≡ true) where
    early : n ≡ early_row (ranking_of a.classes a.symbols).ranks a.symbols a.capacity held (input_number c.received) e
    early = y.row_is ∙ rw (y.capacity-is, o.limits-are, o.ranks-are)

    many : length (held_events c) ≡ held
    many = (place o c k).held-length ∙ sym y.held-is

    row_is : (n ≡ 15 → ⊥) → event_refusal (by_table a t) a (position_of c) e ≡ n
    row_is = early-stands a (facts o) (by_table a t) (position_of c) held e n many early

  pub takes_refused : (n ≡ 0 → ⊥) → (n ≡ 15 → ⊥) → (at : ℕ) (out : List ℕ)
      → Takes l next ranks t c e at out
      (record { row = n; state = c.state; held = c.held; buffer = c.buffer; released = 0; written = at }) out
  unfolding turned_buffer
  takes_refused z full at out a o k =
      let x = processed_refused o c k e at n (row_is a o k full) z in
      (x.0, ap (sets out at) (sym x.1))

  -- an event that it does not refuse is a symbol
  pub early-symbol : ProcessRequires l next ranks t c → (not (eqb n 0) && not (eqb n 15)) ≡ false → e < 16
  early-symbol g h =
      let a = g.automaton in
      let o = g.lends in
      let k = g.stands in
      by (eqb n 15)
      (λ u.
      let f = early-full a (facts o) (by_table a t) (position_of c) held e n (many a o k) (early a o k) (eqb-true n 15 u) in
      omega (arith, f.symbol, (facts o).symbols-high))
      (λ u.
      let f = early-fits a (facts o) (by_table a t) (position_of c) held e n (many a o k) (early a o k) (refuses-none n h (eqb-false n 15 u)) in
      omega (arith, f.symbol, (facts o).symbols-high))

  -- there is room for the event
  module _ (z : n ≡ 0) where
    fits : (a : Automaton) → Lends a l next ranks t → consistent a c ≡ true → Fitting a (held_events c) e
    fits a o k = early-fits a (facts o) (by_table a t) (position_of c) held e n (many a o k) (early a o k) z

    row_0 : (a : Automaton) → Lends a l next ranks t → consistent a c ≡ true → event_refusal (by_table a t) a (position_of c) e ≡ 0
    row_0 a o k = row_is a o k (λ u. omega (arith, u, z)) ∙ z

    module _ (q : ℕ) (eq : q ≡ c.state) (at : ℕ) where
      pub take_ready : ProcessRequires l next ranks t c → (size : ℕ) → at + c.held < size → size < 18446744073709551616
          → StepRequires next ranks l.controllables t q c.buffer held e size at
      unfolding held_events
      take_ready g size room small =
          let a = g.automaton in
          let o = g.lends in
          let p = place o c g.stands in
          rw (o.limits-are, o.next-are, o.ranks-are, eq, y.held-is)
          (ready a (facts o) t o.table-long c.state c.buffer c.held e size at (occurs o c g.stands).occurs p.held_small
          (ap (λ (d : Configuration). d.buffer) p.whole) p.held-length room small (fits a o g.stands))

      pub takes_stepped : (s : Stepped) → s ≡ stepped (rest_in t ranks l.controllables) (over ranks next) q (take held c.buffer) e at
          → (out out' : List ℕ)
          → out' ≡ sets out at (effect (rest_in t ranks l.controllables) (over ranks next) q (take held c.buffer) e).emitted
          → Takes l next ranks t c e at out s out'
      unfolding turned_buffer held_events
      takes_stepped s es out out' eo a o k =
          let there = (occurs o c k).occurs in
          let symbol = (fits a o k).symbol in
          let x = processed_accepted o c k e at (row_0 a o k) in
          let step_is : s ≡ stepped (by_table a t) a c.state (held_events c) e at =
          es ∙ rw (o.limits-are, o.next-are, o.ranks-are, eq, y.held-is) (stepped_tabled a (facts o) t c.state (held_events c) e there symbol at)
          in
          let emits : (effect (rest_in t ranks l.controllables) (over ranks next) q (take held c.buffer) e).emitted ≡ (effect_from (by_table a t) a (position_of c) e).emitted =
          rw (o.limits-are, o.next-are, o.ranks-are, eq, y.held-is) (emitted_tabled a (facts o) t c.state (held_events c) e there symbol)
          in
          (step_is ∙ x.0, eo ∙ ap (sets out at) (emits ∙ sym x.1))

  -- the buffer is full
  module _ (z : n ≡ 15) where
    filled : (a : Automaton) → Lends a l next ranks t → consistent a c ≡ true → Filled a (held_events c) e
    filled a o k = early-full a (facts o) (by_table a t) (position_of c) held e n (many a o k) (early a o k) z

    module _ (q : ℕ) (eq : q ≡ c.state) (at : ℕ) where
      pub fill_ready : ProcessRequires l next ranks t c → (size : ℕ) → at + c.held < size → size < 18446744073709551616
          → OverflowRequires next ranks l.controllables t q c.buffer held e size at
      unfolding held_events
      fill_ready g size room small =
          let a = g.automaton in
          let o = g.lends in
          let p = place o c g.stands in
          rw (o.limits-are, o.next-are, o.ranks-are, eq, y.held-is)
          (overflow_ready a (facts o) t o.table-long c.state c.buffer c.held e size at (occurs o c g.stands).occurs p.held_small
          (ap (λ (d : Configuration). d.buffer) p.whole) p.held-length room small (filled a o g.stands))

      module _ (s : Stepped) (es : s ≡ overflowed (rest_in t ranks l.controllables) (over ranks next) q (take held c.buffer) (input_number c.received) e at)
          (out out' : List ℕ)
          (eo : out' ≡ sets out at (overflow_emitted (rest_in t ranks l.controllables) (over ranks next) q (take held c.buffer) (input_number c.received) e)) where
        module _ (a : Automaton) (o : Lends a l next ranks t) (k : consistent a c ≡ true) where
          abbrev w : List ℕ
          w = held_events c

          abbrev r : ℕ
          r = input_number c.received

          row : event_refusal (by_table a t) a (position_of c) e ≡ overflow_row (by_table a t) a c.state w r e
          row = early_overflows a (facts o) (by_table a t) (position_of c) held e n (many a o k) (early a o k) z

          left_is : s ≡ overflowed (by_table a t) a c.state w r e at
          unfolding held_events
          left_is =
              es ∙ rw (o.limits-are, o.next-are, o.ranks-are, eq, y.held-is)
              (overflowed_tabled a (facts o) t c.state w e (occurs o c k).occurs (filled a o k).symbol (filled a o k).holds r at)

          emits_is : overflow_emitted (rest_in t ranks l.controllables) (over ranks next) q (take held c.buffer) r e
              ≡ overflow_emitted (by_table a t) a c.state w r e
          unfolding held_events
          emits_is =
              rw (o.limits-are, o.next-are, o.ranks-are, eq, y.held-is)
              (overflow_emitted_tabled a (facts o) t c.state w e (occurs o c k).occurs (filled a o k).symbol (filled a o k).holds r)

          -- refused: all as it was
          shut : (m : ℕ) → overflow_row (by_table a t) a c.state w r e ≡ m → (m ≡ 0 → ⊥)
              → (overflowed (by_table a t) a c.state w r e at ≡ processed a t c e at)
              × (overflow_emitted (by_table a t) a c.state w r e ≡ turn_emitted a t c e)
          unfolding overflowed overflow_emitted
          shut m h some =
              let x = processed_refused o c k e at m (row ∙ h) some in
              let p = place o c k in
              let whole : pad 6 w ≡ c.buffer = sym (ap (λ (d : Configuration). d.buffer) p.whole) in
              (rw (h, ne_eqb m 0 some, p.held-length, whole) x.0, rw (h, ne_eqb m 0 some) (sym x.1))

          taken : overflow_row (by_table a t) a c.state w r e ≡ 0
              → (overflowed (by_table a t) a c.state w r e at ≡ processed a t c e at)
              × (overflow_emitted (by_table a t) a c.state w r e ≡ turn_emitted a t c e)
          unfolding overflowed overflow_emitted
          taken h =
              let x = processed_accepted o c k e at (row ∙ h) in
              (rw h x.0, rw h (sym x.1))

        pub takes_overflowed : Takes l next ranks t c e at out s out'
        unfolding turned_buffer
        takes_overflowed a o k =
            let m = overflow_row (by_table a t) a c.state (held_events c) (input_number c.received) e in
            let x : (overflowed (by_table a t) a c.state (held_events c) (input_number c.received) e at ≡ processed a t c e at)
            × (overflow_emitted (by_table a t) a c.state (held_events c) (input_number c.received) e ≡ turn_emitted a t c e) =
            by (eqb m 0) (λ h. taken a o k (eqb-true m 0 h)) (λ h. shut a o k m refl (eqb-false m 0 h))
            in
            (left_is a o k ∙ x.0, eo ∙ ap (sets out at) (emits_is a o k ∙ x.1))

-- the output keeps its length
pub takes_length : {l : Limits} {next ranks t : List ℕ} {c : Configuration} → ProcessRequires l next ranks t c → (e at : ℕ) (out : List ℕ) (r : Stepped) (out' : List ℕ)
    → Takes l next ranks t c e at out r out' → length out' ≡ length out
unfolding turned_buffer
takes_length {t = t} {c = c} g e at out r out' f =
    ap length (f g.automaton g.lends g.stands).1 ∙ length-sets out at (turn_emitted g.automaton t c e)
