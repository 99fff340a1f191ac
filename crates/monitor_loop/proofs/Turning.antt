-- One event for any configuration, as the code finds it: row 13, rows 14, 15 and 23, and what an
-- accepted event leaves.
use Prim.Native.Nat.{ℕ, ◌+◌, ◌<◌}
use mathlib.Core.Path.{◌≡◌, sym, ◌∙◌, ap}
use mathlib.Core.Bool.{Bool, true, false}
use mathlib.Core.List.{List}
use native.Mathlib.Omega.{arith}
use lib.Seq.{sets}
use Rattle.automaton.specs.declared.Automaton.{Automaton}
use Rattle.configuration_places.specs.declared.InputPlace.{InputPlace}
use Rattle.configuration_places.specs.Places.{input_place, input_number}
use Rattle.configuration.specs.declared.Configuration.{Configuration}
use Rattle.configuration.specs.Configuration.{consistent_in, consistent}
use Rattle.monitor_places.specs.Lines.{places_after}
use Rattle.monitor_step.specs.declared.Stepped.{Stepped}
use Rattle.monitor_answers.specs.Turns.{turn_refusal, turned, turned_buffer}
use Rattle.monitor_answers.proofs.Turns.{turn_inconsistent, turn-refused, turn-silent}
use Rattle.monitor_loop.specs.Lending.{Limits, Lends, TurnRequires, ProcessRequires, Turns, derived}
use Rattle.monitor_loop.proofs.Taking.{processed, Takes}
use Rattle.monitor_loop.proofs.Accepting.{accepted-found}

module _ (l : Limits) (classes next ranks t : List ℕ) (c : Configuration) (at : ℕ) where
  abbrev stands : Bool
  stands = consistent_in l.states l.symbols l.capacity classes c

  stands-is : (a : Automaton) → Lends a l next ranks t → classes ≡ a.classes → stands ≡ consistent a c
  stands-is a o s = rw (o.limits-are, s)

  pub turns_inconsistent : (e : ℕ) (out : List ℕ) → stands ≡ false → Turns l classes next ranks t c e at out (record { row = 13; configuration = c; written = at }) out
  unfolding turned_buffer
  turns_inconsistent e out k a o s =
      let h = turn_inconsistent a t c e (sym (stands-is a o s) ∙ k) in
      let z : ◌≡◌ {A = ℕ} 13 0 → ⊥ = λ y. omega arith in
      (turn-refused a t c e 13 h z at, ap (sets out at) (sym (turn-silent a t c e 13 h z)))

  -- row 13 passed
  module _ (k : stands ≡ true) where
    pub opens_enters : {size : ℕ} → TurnRequires l classes next ranks t c at size → ProcessRequires l next ranks t c
    opens_enters g =
        record { automaton = g.automaton; lends = g.lends; stands = sym (stands-is g.automaton g.lends g.classes-are) ∙ k }

    pub opens-room : {size : ℕ} → TurnRequires l classes next ranks t c at size → at + c.held < size
    opens-room g = g.room (sym (stands-is g.automaton g.lends g.classes-are) ∙ k)

    -- rows 14, 15 and 23, and what an accepted event leaves
    module _ (e : ℕ) (out : List ℕ) (r : Stepped) (out' : List ℕ) (f : Takes l next ranks t c e at out r out') where
      row_is : (a : Automaton) → Lends a l next ranks t → classes ≡ a.classes → turn_refusal a t c e ≡ r.row
      unfolding processed
      row_is a o s = sym (ap (λ (y : Stepped). y.row) (f a o (sym (stands-is a o s) ∙ k)).0)

      pub turns_refused : (r.row ≡ 0 → ⊥) → Turns l classes next ranks t c e at out (record { row = r.row; configuration = c; written = at }) out'
      turns_refused z a o s =
          (turn-refused a t c e r.row (row_is a o s) z at, (f a o (sym (stands-is a o s) ∙ k)).1)

      pub turns_accepted : (z : r.row ≡ 0) → {size : ℕ} → TurnRequires l classes next ranks t c at size → (ps : List InputPlace)
          → ps ≡ places_after c.places c.held c.received r.released r.held
          → Turns l classes next ranks t c e at out
          (record {
            row = 0;
            configuration = derived r.state r.held r.buffer ps (input_place (input_number c.received + 1));
            written = r.written;
          }) out'
      unfolding turned
      turns_accepted z g ps w a o s =
          let stood = sym (stands-is a o s) ∙ k in
          let found = accepted-found (opens_enters g) e at out r out' f z ps w a o stood in
          (rw (found.0, found.1, row_is a o s ∙ z), (f a o stood).1)
