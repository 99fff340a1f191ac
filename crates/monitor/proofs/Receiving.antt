-- The ways out of the two calls.
use Prim.Native.Nat.{ℕ, suc, ◌+◌, ◌<◌, ◌≤◌}
use mathlib.Core.Path.{◌≡◌, refl, sym, ◌∙◌, ap, subst}
use mathlib.Core.Bool.{Bool, true, false, cond}
use mathlib.Core.List.{List, map}
use native.Mathlib.Nat.{zero-add}
use native.Mathlib.Omega.{arith}
use lib.ListN.{length, get_or, take, replicate}
use lib.Seq.{sets}
use lib.Dec.{eqb}
use borrow.Author.Tests.{ne_eqb}
use Rattle.base.specs.Pad.{pad}
use Rattle.base.proofs.Bools.{by}
use Rattle.base.proofs.Padding.{pad-stored}
use Rattle.automaton.specs.declared.Automaton.{Automaton}
use Rattle.automaton.specs.Automaton.{controllable}
use Rattle.automaton.proofs.Facts.{Valid, valid_facts}
use Rattle.configuration_places.specs.declared.InputPlace.{InputPlace}
use Rattle.configuration_places.specs.Places.{input_place, pad_places}
use Rattle.configuration.specs.declared.Configuration.{Configuration}
use Rattle.configuration.specs.Configuration.{Position, held_events, position_of, configuration, consistent}
use Rattle.configuration.proofs.Facts.{Consistent, consistent_facts, held-buffer, position-made}
use Rattle.monitor_rule.specs.Step.{by_table, remaining, Effect, effect_from, in_line, sources, advance}
use Rattle.monitor_rule.proofs.Effects.{accepted_facts, effect-length, places_as_worded}
use Rattle.monitor_places.specs.Lines.{joined_by}
use Rattle.monitor_places.proofs.Laws.{places, passing-front, waiting-front}
use Rattle.automaton_symbols.specs.declared.Ranking.{Ranking}
use Rattle.monitor_rule.specs.Fronts.{rest_in, ReleaseRequires}
use Rattle.automaton_symbols.specs.Symbols.{ranking_of}
use Rattle.monitor_rule.proofs.Tabled.{rest_tabled, lent}
use Rattle.monitor_step.proofs.Tabled.{rank_is, symbols_low}
use Rattle.monitor_answers.specs.declared.Turned.{Turned}
use Rattle.monitor_answers.specs.Answers.{table_refusal, call_refusal, is_winning, status, receive_refusal, refused_event, received}
use Rattle.monitor_answers.specs.Turns.{turn_refusal, turned, turned_buffer}
use Rattle.monitor_answers.proofs.Refusals.{status_inconsistent, status_clear}
use Rattle.monitor_answers.proofs.Turns.{Opened, call_stands, receive_unopened, receive_turns, turn-consistent, turn-stands, turn_emits, turn-accepted, turn_keeps, turn-room}
use Rattle.monitor_loop.specs.declared.Limits.{Limits}
use Rattle.monitor_loop.specs.Lending.{TurnRequires}
use Rattle.monitor_loop.proofs.Taking.{lends}

-- what the test of rest asks at a consistent configuration, and what it then answers
module _ (a : Automaton) (t : List ℕ) (o : Opened a t) (r : Ranking) (own : r ≡ ranking_of a.classes a.symbols) (c : Configuration)
    (k : consistent a c ≡ true) where
  v : Valid a
  v = valid_facts a o.record_valid

  place : Consistent a c
  place = consistent_facts a c v k

  pub lent_at : ReleaseRequires a.next r.ranks r.count t c.state c.buffer c.held
  unfolding held_events
  lent_at =
      rw own
      (lent a v t o.table-long c.state c.buffer c.held place.state-below place.held_small (held-buffer a c place)
      (λ i. subst (λ b. get_or b i 0 < 16) (sym (ap (λ (y : Configuration). y.buffer) place.whole)) (symbols_low a v (held_events c) place.events i)))

  pub rest_is : (b : Bool) → b ≡ rest_in t r.ranks r.count (take c.held c.buffer) c.state → b ≡ is_winning a t c
  unfolding is_winning held_events
  rest_is b e = e ∙ rw own (rest_tabled a v t (held_events c) place.events c.state)

-- whether a configuration is winning
module _ (a : Automaton) (t : List ℕ) (c : Configuration) where
  stopped : (n : ℕ) → call_refusal a t c ≡ n → (n ≡ 0 → ⊥) → record { refusal = n; winning = false } ≡ status a t c
  unfolding status
  stopped n h z = rw (h, ne_eqb n 0 z)

  pub status-stands : (n : ℕ) → n ≡ table_refusal a t → (n ≡ 0 → ⊥) → record { refusal = n; winning = false } ≡ status a t c
  status-stands n e z = stopped n (call_stands a t c (λ y. z (e ∙ y)) ∙ sym e) z

  module _ (o : Opened a t) where
    pub status-refuses : consistent a c ≡ false → record { refusal = 13; winning = false } ≡ status a t c
    status-refuses k = stopped 13 (status_inconsistent a t c o.record_valid o.table-long k) (λ z. omega arith)

    pub status-answers : consistent a c ≡ true → (b : Bool) → b ≡ is_winning a t c → record { refusal = 0; winning = b } ≡ status a t c
    unfolding status
    status-answers k b e = rw (status_clear a t c o.record_valid o.table-long k, e)

-- one event
module _ (a : Automaton) (t : List ℕ) (c : Configuration) (e : ℕ) where
  refused-is : (n : ℕ) → receive_refusal a t c e ≡ n → (n ≡ 0 → ⊥) → refused_event n c ≡ received a t c e
  unfolding received
  refused-is n h z = rw (h, ne_eqb n 0 z)

  pub receive-stands : (n : ℕ) → n ≡ table_refusal a t → (n ≡ 0 → ⊥) → refused_event n c ≡ received a t c e
  receive-stands n i z = refused-is n (receive_unopened a t c e (λ y. z (i ∙ y)) ∙ sym i) z

  module _ (o : Opened a t) (r : Ranking) (own : r ≡ ranking_of a.classes a.symbols) where
    abbrev limits : Limits
    limits = record { controllables = r.count; states = a.states; symbols = a.symbols; capacity = a.capacity }

    -- a turn into seven bytes
    pub turn_asks : (size : ℕ) → 7 ≤ size → TurnRequires limits a.classes a.next r.ranks t c 0 size
    turn_asks size h =
        record {
          automaton = a;
          lends = lends a t o r own;
          classes-are = refl;
          room = λ k. omega (arith, (place a t o r own c k).held_small);
        }

    module _ (s : Turned) (es : s ≡ turned a t c e 0) where
      row_is : s.row ≡ turn_refusal a t c e
      unfolding turned
      row_is = ap (λ (y : Turned). y.row) es

      pub receive-refuses : (s.row ≡ 0 → ⊥) → refused_event s.row c ≡ received a t c e
      receive-refuses z = refused-is s.row (receive_turns a t c e o ∙ sym row_is) z

      -- an accepted one
      module _ (z : s.row ≡ 0) where
        abbrev f : Effect
        f = effect_from (by_table a t) a (position_of c) e

        abbrev next : Position
        next = advance (by_table a t) a (position_of c) e

        passes : turn_refusal a t c e ≡ 0
        passes = sym row_is ∙ z

        stands : consistent a c ≡ true
        stands = turn-stands a t c e passes

        turned-is : s ≡ record { row = 0; configuration = configuration next; written = 0 + length f.emitted }
        turned-is = es ∙ turn-accepted a t c e passes 0

        seven : length f.emitted ≤ 7
        seven = omega (arith, ap length (turn_emits a t c e passes), turn-room a t c e o stands, (place a t o r own c stands).held_small)

        pub count_small : s.written < 256
        count_small = omega (arith, ap (λ (y : Turned). y.written) turned-is, seven)

        pub stands_after : consistent a s.configuration ≡ true
        unfolding turned
        stands_after = rw (ap (λ (y : Turned). y.configuration) es) (turn_keeps a t c e o stands)

        -- the places of what is emitted
        facts : Consistent a c
        facts = place a t o r own c stands

        pub index_low : e < a.symbols
        index_low = (accepted_facts (by_table a t) a (position_of c) e (sym (turn-consistent a t c e stands) ∙ passes)).symbol

        module _ (index : ℕ) (at_own : index ≡ cond (eqb (get_or r.ranks e 0) 0) 0 c.held) where
          pub index-small : index ≤ 6
          index-small =
              by (eqb (get_or r.ranks e 0) 0)
              (λ y. let i : index ≡ 0 = at_own ∙ rw y in omega arith)
              (λ y. let i : index ≡ c.held = at_own ∙ rw y in omega (arith, facts.held_small))

          index_is : index ≡ cond (controllable a e) c.held 0
          index_is = at_own ∙ rw own (rw (rank_is a (valid_facts a o.record_valid) e index_low) (by (controllable a e) (λ y. rw y) (λ y. rw y)))

          pub many_small : s.written ≤ 7
          many_small = omega (arith, ap (λ (y : Turned). y.written) turned-is, seven)

          from_is : (from : List InputPlace) → from ≡ pad_places 7 (take s.written (joined_by index c.received c.places))
              → from ≡ map input_place (pad 7 (sources (by_table a t) a (position_of c) e))
          unfolding sources in_line remaining
          from_is from ef =
              let p = position_of c in
              let have : length p.places ≡ c.held = facts.placed.each-has ∙ facts.held-length in
              let lie : c.places ≡ places 6 p.places = ap (λ (d : Configuration). d.places) facts.whole in
              let m : s.written ≡ length f.emitted = omega (arith, ap (λ (y : Turned). y.written) turned-is) in
              let few : length f.emitted ≤ suc (length p.places) = omega (arith, have, facts.held-length, effect-length (by_table a t) a c.state (held_events c) e) in
              ef ∙ ap (λ n. pad_places 7 (take n (joined_by index c.received c.places))) m ∙
              ap (λ l. pad_places 7 (take (length f.emitted) (joined_by index c.received l))) lie ∙
              (by (controllable a e)
              (λ y.
              let i : index ≡ length p.places = index_is ∙ rw y (sym have) in
              rw (i, y) (waiting-front p.places p.received (length f.emitted) few))
              (λ y.
              let i : index ≡ 0 = index_is ∙ rw y in
              rw (i, y) (passing-front p.places p.received (length f.emitted) few)))

        pub receive-accepts : (out : List ℕ) → out ≡ turned_buffer a t c e 0 (replicate 7 0) → (b : Bool) → b ≡ is_winning a t s.configuration
            → (index : ℕ) → index ≡ cond (eqb (get_or r.ranks e 0) 0) 0 c.held
            → (from : List InputPlace) → from ≡ pad_places 7 (take s.written (joined_by index c.received c.places))
            → record { refusal = 0; configuration = s.configuration; emitted = out; count = s.written; winning = b; places = from } ≡ received a t c e
        unfolding received turned_buffer is_winning
        receive-accepts out eo b eb index ei from ef =
            let each = (places_as_worded (by_table a t) a (position_of c) e facts.placed.each-has).held-have in
            let w : b ≡ by_table a t next.buffer next.state =
            eb ∙ rw turned-is (ap (λ (p : Position). by_table a t p.buffer p.state) (position-made next each))
            in
            let put : out ≡ pad 7 f.emitted =
            eo ∙ ap (sets (replicate 7 0) 0) (turn_emits a t c e passes) ∙ pad-stored 7 f.emitted seven
            in
            rw (w, put, from_is index ei from ef, turned-is) (rw (receive_turns a t c e o ∙ passes, zero-add (length f.emitted)))
