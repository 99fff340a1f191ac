-- With an automaton's own ranks and next states a step is the rule read from the table.
use Prim.Native.Nat.{ℕ, zero, suc, ◌+◌, ◌<◌, ◌≤◌}
use mathlib.Core.Path.{◌≡◌, sym, ◌∙◌, ap}
use mathlib.Core.Bool.{true, false, cond, not, ◌&&◌}
use mathlib.Core.List.{List, [], ◌∷◌, ◌++◌}
use native.Mathlib.Omega.{arith}
use lib.ListN.{length, get_or, take, drop, length-append, length-drop}
use lib.Dec.{eqb, leb, ltb}
use borrow.Author.Tests.{eq-eqb, ne_eqb, ltb-true, ltb-false, leb-true, leb-false, lt-ltb, le-leb}
use Rattle.base.specs.Rows.{first}
use Rattle.base.specs.Pad.{pad}
use Rattle.base.proofs.Bools.{by}
use Rattle.base.proofs.Padding.{pad-inside, pad-outside, take-pad}
use Rattle.automaton.specs.declared.Automaton.{Automaton}
use Rattle.automaton.specs.Automaton.{controllable, step}
use Rattle.automaton.proofs.Facts.{Valid, valid_of}
use Rattle.solver_sets.specs.Table.{short, Controllable, Buffer}
use Rattle.solver_sets.proofs.Buffers.{controllable-drop, controllable_end}
use Rattle.configuration_places.specs.Places.{count_end}
use Rattle.solver_sets.proofs.Total.{total}
use Rattle.configuration.specs.Configuration.{Position}
use Rattle.monitor_rule.specs.Step.{Rest, by_table, release, remaining, Effect, arrival, effect, event_rows, event_refusal}
use Rattle.automaton_symbols.specs.declared.Ranking.{Ranking}
use Rattle.monitor_rule.specs.Fronts.{rest_in, over}
use Rattle.automaton_symbols.specs.Symbols.{ranking_of}
use Rattle.monitor_rule.proofs.Effects.{Occurs, Arrives, newcomer_arrives, arrival_arrives}
use Rattle.monitor_rule.proofs.Tabled.{rank-controllable, rank-uncontrollable, release_tabled, shut_tabled, reached-over, lent}
use Rattle.monitor_step.specs.Stepping.{early_row, released, stepped, overflow_row, overflowed, overflow_emitted, StepRequires, OverflowRequires}
use Rattle.monitor_step.proofs.Steps.{class-rank, rank-class}

-- each symbol of a list of controllable ones is an automaton's
symbol-at : (a : Automaton) (w : List ℕ) → Controllable a w → (i : ℕ) → i < length w → get_or w i 0 < a.symbols
symbol-at a [] c i l = absurd (omega arith)
symbol-at a (e ∷ w) c zero l = c.0.0
symbol-at a (e ∷ w) c (suc i) l = symbol-at a w c.1 i (omega arith)

pub symbols_low : (a : Automaton) → Valid a → (w : List ℕ) → Controllable a w → (i : ℕ) → get_or (pad 6 w) i 0 < 16
symbols_low a v w c i =
    by (ltb i (length w))
    (λ u. let l = ltb-true i (length w) u in rw (pad-inside 6 w i l) (omega (arith, symbol-at a w c i l, v.symbols-high)))
    (λ u. rw (pad-outside 6 w i (ltb-false i (length w) u)) (omega arith))

-- row 23 and none are not 15
pub no_full : (r : ℕ) → ◌≡◌ {A = ℕ} 15 (cond (eqb r count_end) 23 0) → ⊥
no_full r = by (eqb r count_end) (λ u. rw u (λ y. omega arith)) (λ u. rw u (λ y. omega arith))

-- a symbol, and room for it where it is controllable
pub record Fitting (a : Automaton) (w : List ℕ) (e : ℕ) : Type 0 where
  pub symbol : e < a.symbols
  pub space : controllable a e ≡ true → length w < a.capacity

-- a controllable one, and the buffer full
pub record Filled (a : Automaton) (w : List ℕ) (e : ℕ) : Type 0 where
  pub symbol : e < a.symbols
  pub holds : controllable a e ≡ true
  pub full : a.capacity ≤ length w

module _ (a : Automaton) (v : Valid a) where
  abbrev own : Ranking
  own = ranking_of a.classes a.symbols

  abbrev lent_only : Automaton
  lent_only = over own.ranks a.next

  -- the ranking tells the classes apart
  class_same : (e : ℕ) → e < a.symbols → controllable lent_only e ≡ controllable a e
  class_same e h =
      class-rank own.ranks a.next e ∙
      by (controllable a e)
      (λ c. let r = rank-controllable a v e h c in ap not (ne_eqb (get_or own.ranks e 0) 0 (λ z. omega arith)) ∙ sym c)
      (λ c. ap not (eq-eqb (get_or own.ranks e 0) 0 (rank-uncontrollable a v e h c)) ∙ sym c)

  pub rank_is : (e : ℕ) → e < a.symbols → eqb (get_or own.ranks e 0) 0 ≡ not (controllable a e)
  rank_is e h = rank-class own.ranks a.next e ∙ ap not (class_same e h)

  -- the row before any search, by classes
  module _ (rest : Rest) (p : Position) (held e n : ℕ) (many : length p.buffer ≡ held)
      (en : n ≡ early_row own.ranks a.symbols a.capacity held p.received e) where
    early-is : n ≡ first ((14, not (ltb e a.symbols)) ∷ (15, controllable a e && leb a.capacity (length p.buffer))
        ∷ (23, eqb p.received count_end) ∷ [])
    unfolding early_row first
    early-is =
        en ∙
        by (ltb e a.symbols)
        (λ s. rw (many, s, sym (class-rank own.ranks a.next e) ∙ class_same e (ltb-true e a.symbols s)))
        (λ s. rw s)

    -- any but 15 is the event's row
    pub early-stands : (n ≡ 15 → ⊥) → event_refusal rest a p e ≡ n
    unfolding event_refusal event_rows first
    early-stands z =
        let h = early-is in
        by (ltb e a.symbols)
        (λ s. by (controllable a e && leb a.capacity (length p.buffer))
        (λ f. absurd (z (rw (s, f) at h)))
        (λ f. rw (s, f) (sym (rw (s, f) at h))))
        (λ s. rw s (sym (rw s at h)))

    -- 0: there is room for it
    pub early-fits : n ≡ 0 → Fitting a p.buffer e
    unfolding first
    early-fits z =
        let h = sym z ∙ early-is in
        record {
          symbol = by (ltb e a.symbols) (ltb-true e a.symbols) (λ s. absurd (let y = rw s at h in omega arith));
          space = λ c. by (leb a.capacity (length p.buffer))
              (λ f. by (ltb e a.symbols)
              (λ s. absurd (let y = rw (s, c, f) at h in omega arith))
              (λ s. absurd (let y = rw s at h in omega arith)))
              (leb-false a.capacity (length p.buffer));
        }

    -- 15: the buffer is full, and the row is that of the search
    module _ (z : n ≡ 15) where
      pub early-full : Filled a p.buffer e
      unfolding first
      early-full =
          let h = sym z ∙ early-is in
          by (ltb e a.symbols)
          (λ s. by (controllable a e)
          (λ c. by (leb a.capacity (length p.buffer))
          (λ f. record { symbol = ltb-true e a.symbols s; holds = c; full = leb-true a.capacity (length p.buffer) f })
          (λ f. absurd (no_full p.received (rw (s, c, f) at h))))
          (λ c. absurd (no_full p.received (rw (s, c) at h))))
          (λ s. absurd (let y = rw s at h in omega arith))

      pub early_overflows : event_refusal rest a p e ≡ overflow_row rest a p.state p.buffer p.received e
      unfolding event_refusal event_rows overflow_row first
      early_overflows =
          let f = early-full in
          rw (lt-ltb e a.symbols f.symbol, f.holds, le-leb a.capacity (length p.buffer) f.full)

  module _ (t : List ℕ) (q : ℕ) (w : List ℕ) (e : ℕ) (o : Occurs a q w) (l : e < a.symbols) where
    abbrev x : Effect
    x = arrival a q w e

    arrival-same : arrival lent_only q w e ≡ x
    unfolding arrival remaining step
    arrival-same = rw (class_same e l)

    arrived : Arrives a x.state x.buffer
    arrived = arrival_arrives a q w e l (total a (valid_of a v)) o

    effect_tabled : effect (rest_in t own.ranks own.count) lent_only q w e ≡ effect (by_table a t) a q w e
    unfolding effect
    effect_tabled =
        rw (
          arrival-same,
          release_tabled a v t x.buffer arrived.symbols x.state,
          reached-over a own.ranks (take (release (by_table a t) a x.state x.buffer) x.buffer) x.state,
        )

    released_tabled : released (rest_in t own.ranks own.count) lent_only q w e ≡ released (by_table a t) a q w e
    unfolding released
    released_tabled = rw (arrival-same, release_tabled a v t x.buffer arrived.symbols x.state)

    -- a step over the lent arrays is the rule over the automaton and its table
    pub stepped_tabled : (at : ℕ) → stepped (rest_in t own.ranks own.count) lent_only q w e at ≡ stepped (by_table a t) a q w e at
    unfolding stepped
    stepped_tabled at = rw (effect_tabled, released_tabled)

    pub emitted_tabled : (effect (rest_in t own.ranks own.count) lent_only q w e).emitted ≡ (effect (by_table a t) a q w e).emitted
    emitted_tabled = ap (λ (f : Effect). f.emitted) effect_tabled

    -- so is an event at a full buffer
    module _ (c : controllable a e ≡ true) (received : ℕ) where
      overflow_row_tabled : overflow_row (rest_in t own.ranks own.count) lent_only q w received e ≡ overflow_row (by_table a t) a q w received e
      unfolding overflow_row
      overflow_row_tabled = rw (shut_tabled a v t (w ++ e ∷ []) (newcomer_arrives a q w e l c o).symbols q)

      pub overflowed_tabled : (at : ℕ) → overflowed (rest_in t own.ranks own.count) lent_only q w received e at ≡ overflowed (by_table a t) a q w received e at
      unfolding overflowed
      overflowed_tabled at = rw (overflow_row_tabled, stepped_tabled at)

      pub overflow_emitted_tabled : overflow_emitted (rest_in t own.ranks own.count) lent_only q w received e ≡ overflow_emitted (by_table a t) a q w received e
      unfolding overflow_emitted
      overflow_emitted_tabled = rw (overflow_row_tabled, emitted_tabled)

  module _ (t : List ℕ) (long : short a t ≡ false) (q : ℕ) (buffer : List ℕ) (held e size at : ℕ) (o : Occurs a q (take held buffer)) (few : held ≤ 6)
      (padded : buffer ≡ pad 6 (take held buffer)) (many : length (take held buffer) ≡ held) (room : at + held < size)
      (indexed : size < 18446744073709551616) where
    abbrev w : List ℕ
    w = take held buffer

    arrival-fits : Fitting a w e → length (arrival a q w e).buffer ≤ a.capacity
    unfolding arrival remaining
    arrival-fits f =
        by (controllable a e)
        (λ c. rw c (omega (arith, f.space c, length-append w (e ∷ []))))
        (λ c. rw c o.buffer.1)

    -- an event with room is ready for a step
    pub ready : Fitting a w e → StepRequires a.next own.ranks own.count t q buffer held e size at
    ready f =
        let y = arrival a q w e in
        let n = arrived t q w e o f.symbol in
        let b : Buffer a y.buffer = (n.symbols, arrival-fits f) in
        record {
          symbol_low = omega (arith, f.symbol, v.symbols-high);
          state_low = omega (arith, o.state-below, v.states-high);
          few = few;
          padded = padded;
          space = λ c. omega (arith, f.space (sym (class_same e f.symbol) ∙ c), many, v.capacity-high);
          room = room;
          indexed = indexed;
          lent = λ z ez.
              rw (ez ∙ arrival-same t q w e o f.symbol)
              (lent a v t long y.state (pad 6 y.buffer) (length y.buffer) n.state-below
              (omega (arith, b.1, v.capacity-high))
              (rw (take-pad 6 y.buffer) b)
              (symbols_low a v y.buffer b.0));
        }

    -- one at a full buffer is ready for its own
    pub overflow_ready : Filled a w e → OverflowRequires a.next own.ranks own.count t q buffer held e size at
    unfolding step
    overflow_ready f =
        let d = get_or buffer 0 0 in
        let others = drop 1 w in
        let u = others ++ e ∷ [] in
        let c = controllable_end a others e (controllable-drop a 1 w o.buffer.0) f.symbol f.holds in
        let short = length-append others (e ∷ []) in
        let b : Buffer a u = (c, omega (arith, short, length-drop 1 w, many, o.buffer.1, f.full, v.capacity-low)) in
        record {
          symbol_low = omega (arith, f.symbol, v.symbols-high);
          state_low = omega (arith, o.state-below, v.states-high);
          first-low = rw (ap (λ l. get_or l 0 0) padded) (symbols_low a v w o.buffer.0 0);
          some = omega (arith, f.full, many, v.capacity-low);
          few = few;
          padded = padded;
          holds = class_same e f.symbol ∙ f.holds;
          room = room;
          indexed = indexed;
          lent =
              lent a v t long (step a q d) (pad 6 u) (length u) (total a (valid_of a v) q d)
              (omega (arith, b.1, v.capacity-high))
              (rw (take-pad 6 u) b)
              (symbols_low a v u c);
        }
