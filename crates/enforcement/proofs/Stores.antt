-- The published function beside the effects of events.
use Prim.Native.Nat.{ℕ, ◌+◌}
use mathlib.Core.Path.{◌≡◌, refl, sym, ◌∙◌, ap}
use mathlib.Core.Bool.{true, false}
use mathlib.Core.List.{List, [], ◌∷◌, ◌++◌, append_assoc, append-nil}
use native.Mathlib.Nat.{zero-add}
use native.Mathlib.Omega.{arith}
use lib.Dec.{eqb}
use lib.ListN.{length, take, drop, length-append}
use lib.Seq.{drop-length, drop-append_seam, length-take-le}
use borrow.Author.Tests.{eqb-true, eqb-false, eq-eqb, ne_eqb}
use Rattle.base.proofs.Bools.{by}
use Rattle.automaton.specs.declared.Automaton.{Automaton}
use Rattle.automaton.specs.Automaton.{controllable, step, reached, valid}
use Rattle.automaton.proofs.Reached.{reached-append, reached_end}
use Rattle.solver_sets.proofs.Total.{Total}
use Rattle.configuration.specs.Configuration.{Position, initial_of}
use Rattle.monitor_rule.specs.Step.{by_sets, release, remaining, Effect, arrival, effect, effect_from, in_line, sources, advance, Run, run_of}
use Rattle.monitor_rule.proofs.Longest.{release_le}
use Rattle.monitor_rule.proofs.Effects.{OccursAt, initial_occurs, effect-leads}
use Rattle.monitor_rule.proofs.Runs.{after, run-accepts, run-refuses, run_occurs}
use Rattle.enforcement.specs.Store.{Store, empty, state_of, position_at, refusal_at, added, released, store, store_all, refused_of}
use Rattle.enforcement.specs.Calls.{configuration_at, since, sources_since}

-- the position of the function can occur
abbrev pub Sound : Automaton → Store → Type 0
Sound a s = OccursAt a (position_at a s)

-- at first
module _ (a : Automaton) where
  pub initially : initial_of a ≡ configuration_at a empty
  unfolding initial_of configuration_at state_of reached
  initially = refl

  pub initial-sound : valid a ≡ true → Sound a empty
  unfolding state_of reached
  initial-sound v = initial_occurs a v

-- so much more put out, of these places, and what a position holds and counts
abbrev pub grown : Store → List ℕ → List ℕ → Position → Store
grown s out from p =
    record {
      output = s.output ++ out;
      sources = s.sources ++ from;
      buffer = p.buffer;
      places = p.places;
      accepted = p.received;
    }

module _ (s : Store) where
  pub since-more : (z : Store) (out : List ℕ) → z.output ≡ s.output ++ out → since s z ≡ out
  unfolding since
  since-more z out h = ap (drop (length s.output)) h ∙ drop-append_seam s.output out

  pub sources-more : (z : Store) (from : List ℕ) → z.sources ≡ s.sources ++ from → sources_since s z ≡ from
  unfolding sources_since
  sources-more z from h = ap (drop (length s.sources)) h ∙ drop-append_seam s.sources from

  pub since-same : since s s ≡ []
  unfolding since
  since-same = drop-length s.output

  pub sources-same : sources_since s s ≡ []
  unfolding sources_since
  sources-same = drop-length s.sources

module _ (a : Automaton) where
  abbrev pub by_store : Store → ℕ → Effect
  by_store s e = effect_from (by_sets a) a (position_at a s) e

  abbrev pub from_store : Store → ℕ → List ℕ
  from_store s e = sources (by_sets a) a (position_at a s) e

  abbrev pub next_of : Store → ℕ → Position
  next_of s e = advance (by_sets a) a (position_at a s) e

  abbrev pub run_store : Store → List ℕ → Run
  run_store s es = run_of (by_sets a) a (position_at a s) es

  -- an accepted event adds what it emits to the output, and its places to the sources
  module _ (s : Store) (e : ℕ) where
    abbrev pub stored : Store
    stored = grown s (by_store s e).emitted (from_store s e) (next_of s e)

    held-goes : controllable a e ≡ true → released a (added a s e) ≡ stored
    unfolding added released state_of effect arrival sources in_line
    held-goes c =
        let w = s.buffer ++ e ∷ [] in
        let ps = s.places ++ s.accepted ∷ [] in
        let k = release (by_sets a) a (state_of a s) w in
        let long : k ≡ length (take k w) = sym (length-take-le k w (release_le (by_sets a) a (state_of a s) w)) in
        rw c
        (λ i. record {
          output = s.output ++ take k w;
          sources = s.sources ++ take (long i) ps;
          buffer = drop k w;
          places = drop (long i) ps;
          accepted = s.accepted + 1;
        })

    passed-goes : controllable a e ≡ false → released a (added a s e) ≡ stored
    unfolding added released remaining state_of effect arrival sources in_line
    passed-goes c =
        let w = s.buffer in
        let q = step a (state_of a s) e in
        let k = release (by_sets a) a q w in
        let long : k ≡ length (take k w) = sym (length-take-le k w (release_le (by_sets a) a q w)) in
        rw (c, reached_end a a.initial s.output e)
        (λ i. record {
          output = append_assoc s.output (e ∷ []) (take k w) i;
          sources = append_assoc s.sources (s.accepted ∷ []) (take (long i) s.places) i;
          buffer = drop k w;
          places = drop (long i) s.places;
          accepted = s.accepted + 1;
        })

    pub store-accepts : refusal_at a s e ≡ 0 → store a s e ≡ stored
    unfolding store
    store-accepts h = rw (eq-eqb (refusal_at a s e) 0 h) (by (controllable a e) held-goes passed-goes)

    pub store-refuses : (refusal_at a s e ≡ 0 → ⊥) → store a s e ≡ s
    unfolding store
    store-refuses h = rw (ne_eqb (refusal_at a s e) 0 h)

    -- and stands where the event leaves the position
    stored-state : state_of a stored ≡ (by_store s e).state
    unfolding state_of
    stored-state =
        reached-append a a.initial s.output (by_store s e).emitted ∙ effect-leads (by_sets a) a (state_of a s) s.buffer e

    pub stored-position : position_at a stored ≡ next_of s e
    stored-position = λ i. record {
      state = stored-state i;
      buffer = (next_of s e).buffer;
      places = (next_of s e).places;
      received = (next_of s e).received;
      emitted = length-append s.output (by_store s e).emitted i;
    }

  -- and so do all events of a day
  pub record Stored (s : Store) (es : List ℕ) (r : Run) : Type 0 where
    pub put-out : (store_all a s es).output ≡ s.output ++ r.emitted
    pub stands : position_at a (store_all a s es) ≡ r.last
    pub refused : refused_of a s es ≡ r.refused

  -- an accepted event first, and a refused one
  module _ (s : Store) (e : ℕ) (es : List ℕ) where
    runs-accepted : refusal_at a s e ≡ 0 → Stored (stored s e) es (run_store (stored s e) es) → Stored s (e ∷ es) (run_store s (e ∷ es))
    unfolding store_all refused_of
    runs-accepted h k =
        let f = by_store s e in
        let r = run_store (stored s e) es in
        let next = store-accepts s e h in
        let go : run_store s (e ∷ es) ≡ after f r =
        run-accepts (by_sets a) a (position_at a s) e es h ∙
        ap (λ p. after f (run_of (by_sets a) a p es)) (sym (stored-position s e)) in
        rw go
        (record {
          put-out = ap (λ z. (store_all a z es).output) next ∙ k.put-out ∙ append_assoc s.output f.emitted r.emitted;
          stands = ap (λ z. position_at a (store_all a z es)) next ∙ k.stands;
          refused = rw (eq-eqb (refusal_at a s e) 0 h, next) (zero-add (refused_of a (stored s e) es) ∙ k.refused);
        })

    runs-refused : (refusal_at a s e ≡ 0 → ⊥) → Stored s es (run_store s es) → Stored s (e ∷ es) (run_store s (e ∷ es))
    unfolding store_all refused_of
    runs-refused h k =
        let same = store-refuses s e h in
        rw (run-refuses (by_sets a) a (position_at a s) e es h)
        (record {
          put-out = ap (λ z. (store_all a z es).output) same ∙ k.put-out;
          stands = ap (λ z. position_at a (store_all a z es)) same ∙ k.stands;
          refused = rw (ne_eqb (refusal_at a s e) 0 h, same) (omega (arith, k.refused));
        })

  pub store-runs : (es : List ℕ) (s : Store) → Stored s es (run_store s es)
  unfolding store_all run_of refused_of
  store-runs [] s = record { put-out = sym (append-nil s.output); stands = refl; refused = refl }
  store-runs (e ∷ es) s =
      by (eqb (refusal_at a s e) 0)
      (λ h. runs-accepted s e es (eqb-true (refusal_at a s e) 0 h) (store-runs es (stored s e)))
      (λ h. runs-refused s e es (eqb-false (refusal_at a s e) 0 h) (store-runs es s))

  -- so what was put out since is the run's
  pub run-since : (es : List ℕ) (s : Store) → since s (store_all a s es) ≡ (run_store s es).emitted
  run-since es s = since-more s (store_all a s es) (run_store s es).emitted (store-runs es s).put-out

  pub store-since : (es : List ℕ) (s : Store) → (store_all a s es).output ≡ s.output ++ since s (store_all a s es)
  store-since es s = (store-runs es s).put-out ∙ ap (λ out. s.output ++ out) (sym (run-since es s))

  pub store-sound : Total a → (es : List ℕ) (s : Store) → Sound a s → Sound a (store_all a s es)
  store-sound t es s o = rw (store-runs es s).stands (run_occurs (by_sets a) a t es (position_at a s) o)
