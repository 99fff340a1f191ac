-- One event for a configuration that a function stands for, over a solved table.
use Prim.Native.Nat.{ℕ}
use mathlib.Core.Path.{◌≡◌, refl, sym, ◌∙◌, ap}
use mathlib.Core.Bool.{true}
use mathlib.Core.List.{List, [], ◌∷◌}
use lib.Dec.{eqb}
use borrow.Author.Tests.{eqb-true, eqb-false}
use Rattle.base.proofs.Bools.{by}
use Rattle.automaton.specs.declared.Automaton.{Automaton}
use Rattle.automaton.specs.Automaton.{valid}
use Rattle.solver_sets.specs.Table.{Solved}
use Rattle.solver_sets.proofs.Total.{total}
use Rattle.configuration.specs.declared.Configuration.{Configuration}
use Rattle.monitor_rule.specs.Step.{by_sets, by_table, effect_from, sources, event_refusal}
use Rattle.monitor_rule.proofs.Effects.{sources_agree}
use Rattle.monitor_rule.proofs.Solved.{solved_agree}
use Rattle.monitor_answers.specs.Answers.{is_winning}
use Rattle.monitor_answers.specs.Turns.{turn_refusal, turn_emitted, turn_sources, turn_next}
use Rattle.monitor_answers.proofs.Turns.{Opened, turn-consistent, turn_emits, turn_traces, turn-silent, turn_untraced}
use Rattle.enforcement.specs.Store.{Store, state_of, position_at, refusal_at, store, store_all, feed}
use Rattle.enforcement.specs.Calls.{receive_call, reply, handed_back, fed_by, configuration_at, since, sources_since}
use Rattle.enforcement.proofs.Stores.{Sound, since-more, sources-more, since-same, sources-same, by_store, from_store, stored, store-accepts, store-refuses, store-sound}
use Rattle.enforcement.proofs.Replies.{position_at_lem, not_short, consistent-at, by-sets, event-effect, reply_hands}
use Rattle.monitor_answers.proofs.Eventwise.{same_next}
use Rattle.clients_answers.proofs.Single.{winning-made}

module _ (a : Automaton) (t : List ℕ) (v : valid a ≡ true) (sv : Solved a t) where
  opened : Opened a t
  opened = record { record_valid = v; table-long = not_short a t v sv }

  module _ (s : Store) (o : Sound a s) where
    abbrev c : Configuration
    c = configuration_at a s

    pub turn-wins : is_winning a t c ≡ by_sets a s.buffer (state_of a s)
    unfolding configuration_at
    turn-wins = winning-made a t (position_at a s) ∙ solved_agree a t sv s.buffer (state_of a s) o.occurs

    module _ (e : ℕ) where
      pub turn-row : turn_refusal a t c e ≡ refusal_at a s e
      turn-row =
          turn-consistent a t c e (consistent-at a t v sv s o) ∙
          ap (λ p. event_refusal (by_table a t) a p e) (position_at_lem a s o) ∙
          by-sets a t v sv s o e

      pub turn-next : turn_next a t c e ≡ configuration_at a (store a s e)
      unfolding reply handed_back feed fed_by
      turn-next = same_next a t opened c e ∙ reply_hands a t v sv s o (receive_call e)

      -- accepted, it puts out what the function does then, from the same places
      puts : refusal_at a s e ≡ 0 → turn_emitted a t c e ≡ since s (store a s e)
      puts z =
          turn_emits a t c e (turn-row ∙ z) ∙
          ap (λ p. (effect_from (by_table a t) a p e).emitted) (position_at_lem a s o) ∙
          ap (λ f. f.emitted) (event-effect a t v sv s o e z) ∙
          sym (ap (since s) (store-accepts a s e z) ∙ since-more s (stored a s e) (by_store a s e).emitted refl)

      comes : refusal_at a s e ≡ 0 → turn_sources a t c e ≡ sources_since s (store a s e)
      comes z =
          turn_traces a t c e (turn-row ∙ z) ∙
          ap (λ p. sources (by_table a t) a p e) (position_at_lem a s o) ∙
          sources_agree (by_table a t) a (position_at a s) e (by_sets a) (event-effect a t v sv s o e z) ∙
          sym (ap (sources_since s) (store-accepts a s e z) ∙ sources-more s (stored a s e) (from_store a s e) refl)

      pub turn-put : turn_emitted a t c e ≡ since s (store a s e)
      turn-put =
          let n = refusal_at a s e in
          by (eqb n 0)
          (λ h. puts (eqb-true n 0 h))
          (λ h.
          let z = eqb-false n 0 h in
          turn-silent a t c e n turn-row z ∙ sym (ap (since s) (store-refuses a s e z) ∙ since-same s))

      pub turn_from : turn_sources a t c e ≡ sources_since s (store a s e)
      turn_from =
          let n = refusal_at a s e in
          by (eqb n 0)
          (λ h. comes (eqb-true n 0 h))
          (λ h.
          let z = eqb-false n 0 h in
          turn_untraced a t c e n turn-row z ∙ sym (ap (sources_since s) (store-refuses a s e z) ∙ sources-same s))

      pub turn-sound : Sound a (store a s e)
      unfolding store_all
      turn-sound = store-sound a (total a v) (e ∷ []) s o
