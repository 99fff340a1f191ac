-- The loop over events.
use Prim.Native.Nat.{ℕ, ◌+◌, ◌<◌, ◌≤◌}
use mathlib.Core.Path.{◌≡◌, refl, sym, ◌∙◌, ap, ap₂, subst}
use mathlib.Core.Bool.{true}
use mathlib.Core.List.{List, [], ◌∷◌, ◌++◌, append_assoc, append-nil}
use native.Mathlib.Nat.{zero-add, add-zero}
use native.Mathlib.Numerals.{add-one}
use native.Mathlib.Omega.{arith}
use lib.ListN.{length, get_or, take, drop, length-append}
use lib.Seq.{sets, sets-eq, length-sets, drop-cons, drop-length}
use Rattle.base.proofs.Stores.{sets_join}
use Rattle.automaton.specs.declared.Automaton.{Automaton}
use Rattle.configuration_places.specs.declared.InputPlace.{InputPlace}
use Rattle.configuration_places.specs.Places.{input_place, input_number}
use Rattle.configuration.specs.declared.Configuration.{Configuration}
use Rattle.configuration.specs.Configuration.{Position, held_events, position_of, configuration, consistent}
use Rattle.configuration.proofs.Facts.{position-made}
use Rattle.monitor_rule.specs.Step.{by_table, Effect, effect_from, advance, event_refusal, Run, run_of}
use Rattle.monitor_rule.proofs.Effects.{places_as_worded}
use Rattle.monitor_rule.proofs.Runs.{run-accepts, run-refuses}
use Rattle.monitor_step.specs.declared.Stepped.{Stepped}
use Rattle.monitor_places.specs.Lines.{places_after, AfterRequires}
use Rattle.monitor_answers.specs.declared.Ran.{Ran}
use Rattle.monitor_answers.specs.Answers.{ran_of, ran_buffer_of}
use Rattle.monitor_answers.specs.Turns.{turn_refusal, turn_emitted, turn_next, turned_buffer}
use Rattle.monitor_answers.proofs.Turns.{turn-consistent, turn-silent, turn_emits, turn_moves, turn_keeps, turn-room}
use Rattle.monitor_loop.specs.Lending.{Limits, Lends, ProcessRequires, derived, Runs}
use Rattle.monitor_loop.proofs.Taking.{processed, Takes, opens, facts, place}
use Rattle.monitor_loop.proofs.Placing.{derived-is}
use Rattle.monitor_loop.proofs.Accepting.{accepted-state, accepted-counts, accepted_asks, accepted-found}

-- a run after what was done before it
abbrev pub joined : List ℕ → ℕ → Run → Run
joined done n r = record { emitted = done ++ r.emitted; refused = n + r.refused; last = r.last }

-- so far, for an automaton
pub record Running (a : Automaton) (t events out₀ : List ℕ) (c₀ : Configuration) (out : List ℕ) (c : Configuration) (written refused i : ℕ) : Type 0 where
  pub stands : consistent a c ≡ true
  pub done : List ℕ
  pub written_is : length done ≡ written
  pub fits : written + c.held ≤ i + c₀.held
  pub put : out ≡ sets out₀ 0 done
  pub led : run_of (by_table a t) a (position_of c₀) events ≡ joined done refused (run_of (by_table a t) a (position_of c) (drop i events))

module _ {a : Automaton} {l : Limits} {next ranks t events out₀ : List ℕ} {c₀ : Configuration} {out : List ℕ} {c : Configuration} {written refused i : ℕ}
    (o : Lends a l next ranks t) (g : Running a t events out₀ c₀ out c written refused i) where
  -- one more event
  module _ (h : i < length events) where
    abbrev e : ℕ
    e = get_or events i 0

    abbrev p : Position
    p = position_of c

    later_of : drop i events ≡ e ∷ drop (i + 1) events
    later_of = drop-cons events i 0 h ∙ ap (λ k. e ∷ drop k events) (sym (add-one i))

    -- the run goes on from what is known of the event
    goes_on : (r : Run) → run_of (by_table a t) a p (e ∷ drop (i + 1) events) ≡ r → run_of (by_table a t) a (position_of c₀) events ≡ joined g.done refused r
    goes_on r er = g.led ∙ ap (λ x. joined g.done refused (run_of (by_table a t) a p x)) later_of ∙ ap (joined g.done refused) er

    running_refused : (turn_refusal a t c e ≡ 0 → ⊥) → (out' : List ℕ) → out' ≡ turned_buffer a t c e written out
        → Running a t events out₀ c₀ out' c written (refused + 1) (i + 1)
    unfolding turned_buffer
    running_refused z out' eo =
        record {
          stands = g.stands;
          done = g.done;
          written_is = g.written_is;
          fits = omega (arith, g.fits);
          put = eo ∙ ap (sets out written) (turn-silent a t c e (turn_refusal a t c e) refl z) ∙ g.put;
          led =
              goes_on _ (run-refuses (by_table a t) a p e (drop (i + 1) events) (λ y. z (turn-consistent a t c e g.stands ∙ y))) ∙
              ap (λ n. record { emitted = g.done ++ later.emitted; refused = n; last = later.last }) (omega arith);
        }
      where
        later : Run
        later = run_of (by_table a t) a p (drop (i + 1) events)

    module _ (z : turn_refusal a t c e ≡ 0) where
      abbrev f : Effect
      f = effect_from (by_table a t) a p e

      abbrev after : Position
      after = advance (by_table a t) a p e

      row : event_refusal (by_table a t) a p e ≡ 0
      row = sym (turn-consistent a t c e g.stands) ∙ z

      running_accepted : (c' : Configuration) → c' ≡ turn_next a t c e → (written' : ℕ) → written' ≡ written + length (turn_emitted a t c e)
          → (out' : List ℕ) → out' ≡ turned_buffer a t c e written out
          → Running a t events out₀ c₀ out' c' written' refused (i + 1)
      unfolding turned_buffer
      running_accepted c' moved written' grown out' eo =
          let each = (places_as_worded (by_table a t) a p e (place o c g.stands).placed.each-has).held-have in
          let there : position_of c' ≡ after = ap position_of (moved ∙ turn_moves a t c e z) ∙ position-made after each in
          let at : written ≡ 0 + length g.done = omega (arith, g.written_is) in
          record {
            stands = rw moved (turn_keeps a t c e (opens o) g.stands);
            done = g.done ++ f.emitted;
            written_is =
                length-append g.done f.emitted ∙ ap (λ n. n + length f.emitted) g.written_is ∙
                ap (λ x. written + length x) (sym (turn_emits a t c e z)) ∙ sym grown;
            fits = omega (arith, g.fits, grown, ap (λ (y : Configuration). y.held) moved, turn-room a t c e (opens o) g.stands);
            put =
                eo ∙ ap (sets out written) (turn_emits a t c e z) ∙ ap₂ (λ y k. sets y k f.emitted) g.put at ∙
                sets_join out₀ 0 g.done f.emitted;
            led =
                goes_on _ (run-accepts (by_table a t) a p e (drop (i + 1) events) row) ∙
                sym (rw there (simp append_assoc));
          }

  -- no more
  module _ (h : i ≡ length events) where
    running_ends : run_of (by_table a t) a (position_of c₀) events ≡ record { emitted = g.done; refused = refused; last = position_of c }
    unfolding run_of
    running_ends =
        let none : drop i events ≡ [] = ap (λ k. drop k events) h ∙ drop-length events in
        g.led ∙ ap (λ y. joined g.done refused (run_of (by_table a t) a (position_of c) y)) none ∙
        rw (append-nil g.done, add-zero refused)

    running_answer : length events + c₀.held ≤ length out₀
        → (record { refusal = 0; configuration = c; length = written; refused = refused } ≡ ran_of a t c₀ events)
        × (out ≡ ran_buffer_of a t c₀ events out₀)
    running_answer enough =
        let m : 0 + length g.done ≤ length out₀ = omega (arith, g.written_is, g.fits, h) in (
          sym (ap (λ (y : Run). record { refusal = 0; configuration = configuration y.last; length = length y.emitted; refused = y.refused }) running_ends ∙
              rw (g.written_is, ← (place o c g.stands).whole)),
          g.put ∙ sets-eq g.done out₀ 0 m ∙ ap (λ n. g.done ++ drop n out₀) (zero-add (length g.done)) ∙
              sym (ap (λ (y : Run). y.emitted ++ drop (length y.emitted) out₀) running_ends),
        )

-- The invariant, for any automaton whose parts are lent.
pub record Going (l : Limits) (next ranks t events out₀ : List ℕ) (c₀ : Configuration) (out : List ℕ) (c : Configuration) (written refused i : ℕ) : Type 0 where
  pub enters : ProcessRequires l next ranks t c₀
  pub within : i ≤ length events
  pub enough : length events + c₀.held ≤ length out₀
  pub indexed : length out₀ < 18446744073709551616
  pub passed_over : refused ≤ i
  pub follows : (a : Automaton) → Lends a l next ranks t → consistent a c₀ ≡ true → Running a t events out₀ c₀ out c written refused i

pub going_starts : {l : Limits} {next ranks t : List ℕ} {c : Configuration} (events out : List ℕ) → ProcessRequires l next ranks t c
    → length events + c.held ≤ length out → length out < 18446744073709551616 → Going l next ranks t events out c out c 0 0 0
going_starts {t = t} {c = c} events out g room fits =
    record {
      enters = g;
      within = omega arith;
      enough = room;
      indexed = fits;
      passed_over = omega arith;
      follows = λ a o k.
          let r = run_of (by_table a t) a (position_of c) events in
          record {
            stands = k;
            done = [];
            written_is = refl;
            fits = omega arith;
            put = refl;
            led = ap (λ n. record { emitted = r.emitted; refused = n; last = r.last }) (sym (zero-add r.refused));
          };
    }

module _ {l : Limits} {next ranks t events out₀ : List ℕ} {c₀ : Configuration} {out : List ℕ} {c : Configuration} {written refused i : ℕ}
    (g : Going l next ranks t events out₀ c₀ out c written refused i) where
  own : Running g.enters.automaton t events out₀ c₀ out c written refused i
  own = g.follows g.enters.automaton g.enters.lends g.enters.stands

  pub going_enters : ProcessRequires l next ranks t c
  going_enters = record { automaton = g.enters.automaton; lends = g.enters.lends; stands = own.stands }

  pub going_kept : length out ≡ length out₀
  going_kept = ap length own.put ∙ length-sets out₀ 0 own.done

  -- one more event, as it is taken
  module _ (h : i < length events) where
    pub going_room : written + c.held < length out
    going_room = omega (arith, going_kept, own.fits, g.enough)

    module _ (r : Stepped) (out' : List ℕ) (s : Takes l next ranks t c (get_or events i 0) written out r out') where
      row_of : (a : Automaton) → Lends a l next ranks t → consistent a c ≡ true → turn_refusal a t c (get_or events i 0) ≡ r.row
      unfolding processed
      row_of a o k = sym (ap (λ (y : Stepped). y.row) (s a o k).0)

      pub going_refuses : (r.row ≡ 0 → ⊥) → Going l next ranks t events out₀ c₀ out' c written (refused + 1) (i + 1)
      going_refuses z =
          record {
            enters = g.enters;
            within = omega arith;
            enough = g.enough;
            indexed = g.indexed;
            passed_over = omega (arith, g.passed_over);
            follows = λ a o k.
                let f = g.follows a o k in
                running_refused o f h (λ y. z (sym (row_of a o f.stands) ∙ y)) out' (s a o f.stands).1;
          }

      -- an accepted one, with the places as they are found
      module _ (z : r.row ≡ 0) where
        abbrev event : ℕ
        event = get_or events i 0

        pub going_asks : AfterRequires c.places c.held r.released r.held
        going_asks = accepted_asks going_enters event written out r out' s z

        pub going_there : r.state < 32
        going_there = accepted-state going_enters event written out r out' s z

        pub going_counts : input_number c.received ≡ 4294967295 → ⊥
        going_counts = accepted-counts going_enters event written out r out' s z

        pub going_accepts : (ps : List InputPlace) → ps ≡ places_after c.places c.held c.received r.released r.held
            → Going l next ranks t events out₀ c₀ out'
            (derived r.state r.held r.buffer ps (input_place (input_number c.received + 1))) r.written refused (i + 1)
        going_accepts ps w =
            let found = accepted-found going_enters event written out r out' s z ps w in
            record {
              enters = g.enters;
              within = omega arith;
              enough = g.enough;
              indexed = g.indexed;
              passed_over = omega (arith, g.passed_over);
              follows = λ a o k.
                  let f = g.follows a o k in
                  let next = found a o f.stands in
                  running_accepted o f h (row_of a o f.stands ∙ z) _ next.0 r.written next.1 out' (s a o f.stands).1;
            }

  pub going_state : c.state < 32
  going_state = omega (arith, (place g.enters.lends c own.stands).state-below, (facts g.enters.lends).states-high)

  -- what is held is in the buffer
  pub going_many : length (take c.held c.buffer) ≡ c.held
  unfolding held_events
  going_many = (place g.enters.lends c own.stands).held-length

  pub going_held : c.held ≤ 6
  going_held = (place g.enters.lends c own.stands).held_small

  -- what is held came in
  pub going_derives : c.held ≤ input_number c.received
  going_derives =
      let k = place g.enters.lends c own.stands in
      omega (arith, k.placed.sum, k.held-length)

  pub going_ends : length events ≤ i → Runs l next ranks t c₀ events out₀ (record { refusal = 0; configuration = c; length = written; refused = refused }) out
  going_ends h a o k = running_answer o (g.follows a o k) (omega (arith, g.within)) g.enough

-- The loop keeps a configuration without its output count.
module _ {l : Limits} {next ranks t : List ℕ} {c : Configuration} (g : ProcessRequires l next ranks t c) {state held : ℕ} (es : state ≡ c.state)
    (eh : held ≡ c.held) where
  abbrev kept : Configuration
  kept = derived state held c.buffer c.places c.received

  kept-is : kept ≡ c
  kept-is = rw (es, eh) (derived-is g.automaton c (place g.lends c g.stands))

  pub going_begins : (events out : List ℕ) → length events + c.held ≤ length out → length out < 18446744073709551616
      → Going l next ranks t events out kept out kept 0 0 0
  going_begins events out room fits = rw kept-is (going_starts events out g room fits)

  pub going_finishes : (events out : List ℕ) (r : Ran) (out' : List ℕ) → Runs l next ranks t kept events out r out'
      → Runs l next ranks t c events out r out'
  going_finishes events out r out' h = subst (λ d. Runs l next ranks t d events out r out') kept-is h
