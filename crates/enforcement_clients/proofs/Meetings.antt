-- A client's accepted events, as they are met in the list, are those of a monitor of its own; and
-- what they emit is its function's output.
use Prim.Native.Nat.{ℕ}
use mathlib.Core.Path.{◌≡◌, refl, sym, ◌∙◌, ap}
use mathlib.Core.Bool.{true, false}
use mathlib.Core.List.{List, [], ◌∷◌, ◌++◌, map, append_assoc, append-nil}
use lib.Dec.{eqb}
use borrow.Author.Tests.{eqb-true, eqb-false}
use Rattle.base.proofs.Bools.{by}
use Rattle.automaton.specs.declared.Automaton.{Automaton}
use Rattle.automaton.specs.Automaton.{valid}
use Rattle.solver_sets.specs.Table.{Solved}
use Rattle.configuration.specs.declared.Configuration.{Configuration}
use Rattle.configuration.specs.Configuration.{Position, position_of, initial_of}
use Rattle.monitor_rule.specs.Step.{by_sets, by_table, advance, event_refusal}
use Rattle.monitor_rule.proofs.Effects.{advance-agrees}
use Rattle.monitor_answers.specs.Turns.{turn_emitted}
use Rattle.monitor_answers.proofs.Turns.{turn-consistent, turn_emits}
use Rattle.enforcement.specs.Store.{Store, empty, position_at, refusal_at, store, store_all, feed}
use Rattle.enforcement.specs.Calls.{receive_call, fed_by, configuration_at, since}
use Rattle.enforcement.specs.Moments.{Moment, effect_at, within, brought_by, brought_all, moments}
use Rattle.enforcement.proofs.Stores.{Sound, initially, initial-sound, store-since, store-accepts, store-refuses, stored-position}
use Rattle.enforcement.proofs.Replies.{position_at_lem, consistent-at, event-refusal, event-effect, reply_hands}
use Rattle.clients_answers.specs.Listed.{Stepping, alone}
use Rattle.clients_answers.specs.Clients.{none, Outcome, monitored, emitted_of}
use Rattle.enforcement_clients.specs.ClientCalls.{watching, moments_from}
use Rattle.enforcement_clients.specs.Functions.{refusals_of}
use Rattle.enforcement_clients.proofs.Turning.{turn-row, turn-next, turn-put, turn-sound}

module _ (a : Automaton) (t : List ℕ) (v : valid a ≡ true) (sv : Solved a t) where
  abbrev watch : Stepping Configuration (Configuration × ℕ)
  watch = watching a t (λ c e. (c, e)) (none, 0)

  -- one event for a configuration that its function has
  module _ (s : Store) (o : Sound a s) (e : ℕ) where
    abbrev p : Position
    p = position_of (configuration_at a s)

    abbrev met : List ℕ → List ℕ → Moment
    met past output = record { past = past; output = output; position = p; event = e }

    -- its row, at the position that it meets
    met-row : event_refusal (by_table a t) a p e ≡ refusal_at a s e
    met-row = sym (turn-consistent a t (configuration_at a s) e (consistent-at a t v sv s o)) ∙ turn-row a t v sv s o e

    -- accepted, the next position is the one after it
    met_next : refusal_at a s e ≡ 0 → advance (by_table a t) a p e ≡ position_of (configuration_at a (store a s e))
    met_next h =
        ap (λ x. advance (by_table a t) a x e) (position_at_lem a s o) ∙
        advance-agrees (by_table a t) a (position_at a s) e (by_sets a) (event-effect a t v sv s o e h) ∙
        sym (ap (position_at a) (store-accepts a s e h) ∙ stored-position a s e) ∙
        sym (position_at_lem a (store a s e) (turn-sound a t v sv s o e))

    met_emits : (past output : List ℕ) → refusal_at a s e ≡ 0 → turn_emitted a t (configuration_at a s) e ≡ (effect_at a t (met past output)).emitted
    unfolding effect_at
    met_emits past output h = turn_emits a t (configuration_at a s) e (turn-row a t v sv s o e ∙ h)

  -- the accepted ones of a list of events that a function meets
  abbrev from : List ℕ → List ℕ → Store → List ℕ → List Moment
  from past output s es = within a t past output (position_of (configuration_at a s)) es

  module _ (past output : List ℕ) (s : Store) (o : Sound a s) (e : ℕ) (es : List ℕ) where
    abbrev m : Moment
    m = met s o e past output

    from_accepts : eqb (refusal_at a s e) 0 ≡ true → from past output s (e ∷ es) ≡ m ∷ from (past ++ e ∷ []) (output ++ (effect_at a t m).emitted) (store a s e) es
    unfolding within
    from_accepts h = rw (met-row s o e, h, met_next s o e (eqb-true (refusal_at a s e) 0 h))

    from_refuses : eqb (refusal_at a s e) 0 ≡ false → from past output s (e ∷ es) ≡ from past output s es
    unfolding within
    from_refuses h = rw (met-row s o e, h)

  -- the configurations that its events meet give them
  from_meetings : (es past output : List ℕ) (s : Store) → Sound a s
      → moments_from a t past output (alone watch (configuration_at a s) es) ≡ from past output s es
  unfolding moments_from alone within
  from_meetings [] past output s o = refl
  from_meetings (e ∷ es) past output s o =
      let n = refusal_at a s e in
      by (eqb n 0)
      (λ h.
      let f = effect_at a t (met s o e past output) in
      rw (turn-row a t v sv s o e, h, turn-next a t v sv s o e, met_emits s o e past output (eqb-true n 0 h), from_accepts past output s o e es h)
      (ap (λ ms. met s o e past output ∷ ms) (from_meetings es (past ++ e ∷ []) (output ++ f.emitted) (store a s e) (turn-sound a t v sv s o e))))
      (λ h.
      rw (turn-row a t v sv s o e, h, turn-next a t v sv s o e, store-refuses a s e (eqb-false n 0 h), from_refuses past output s o e es h)
      (from_meetings es past output s o))

  -- and so do the base's calls, one for each event
  from_calls : (es past output : List ℕ) (s : Store) → Sound a s
      → from past output s (brought_all a t (configuration_at a s) (map receive_call es)) ≡ from past output s es
  unfolding brought_all brought_by feed fed_by within
  from_calls [] past output s o = refl
  from_calls (e ∷ es) past output s o =
      let n = refusal_at a s e in
      let row = event-refusal a t v sv s o e in
      let next = reply_hands a t v sv s o (receive_call e) in
      let later = brought_all a t (configuration_at a (store a s e)) (map receive_call es) in
      by (eqb n 0)
      (λ h.
      let f = effect_at a t (met s o e past output) in
      rw (row, h, next)
      (from_accepts past output s o e later h ∙
      ap (λ ms. met s o e past output ∷ ms) (from_calls es (past ++ e ∷ []) (output ++ f.emitted) (store a s e) (turn-sound a t v sv s o e)) ∙
      sym (from_accepts past output s o e es h)))
      (λ h.
      rw (row, h, next, store-refuses a s e (eqb-false n 0 h)) (from_calls es past output s o ∙ sym (from_refuses past output s o e es h)))

  pub moments_are : (es : List ℕ) → moments_from a t [] [] (alone watch (initial_of a) es) ≡ moments a t (initial_of a) (map receive_call es)
  unfolding moments
  moments_are es = rw (initially a) (from_meetings es [] [] empty (initial-sound a v) ∙ sym (from_calls es [] [] empty (initial-sound a v)))

  -- what they emit, end to end
  pub output-is : (es : List ℕ) (s : Store) → Sound a s
      → (store_all a s es).output ≡ s.output ++ emitted_of (alone (monitored a t) (configuration_at a s) es)
  unfolding alone emitted_of store_all
  output-is [] s o = sym (append-nil s.output)
  output-is (e ∷ es) s o =
      output-is es (store a s e) (turn-sound a t v sv s o e) ∙
      ap (λ out. out ++ emitted_of (alone (monitored a t) (configuration_at a (store a s e)) es)) (store-since a (e ∷ []) s) ∙
      append_assoc s.output (since s (store a s e)) _ ∙
      rw (turn-put a t v sv s o e, turn-next a t v sv s o e)

  -- the rows that refuse them
  pub rows_are : (es : List ℕ) (s : Store) → Sound a s
      → map (λ (x : Outcome). x.refusal) (alone (monitored a t) (configuration_at a s) es) ≡ refusals_of a s es
  unfolding alone refusals_of
  rows_are [] s o = refl
  rows_are (e ∷ es) s o =
      rw (turn-row a t v sv s o e, turn-next a t v sv s o e)
      (ap (λ ns. refusal_at a s e ∷ ns) (rows_are es (store a s e) (turn-sound a t v sv s o e)))
