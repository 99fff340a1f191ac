-- The accepted events of the calls, one by one, are those that the published function accepts.
use Prim.Native.Nat.{ℕ}
use mathlib.Core.Path.{◌≡◌, refl, sym, ◌∙◌, ap, ap₂}
use mathlib.Core.Bool.{true, false}
use mathlib.Core.List.{List, [], ◌∷◌, ◌++◌, map, append_assoc, append-nil}
use lib.Dec.{eqb}
use lib.ListN.{length}
use borrow.Author.Tests.{eqb-true, eqb-false}
use Rattle.base.specs.All.{AllOf}
use Rattle.base.proofs.Bools.{by}
use Rattle.automaton.specs.declared.Automaton.{Automaton}
use Rattle.automaton.specs.Automaton.{reached, valid}
use Rattle.solver_sets.specs.Table.{Solved}
use Rattle.solver_sets.proofs.Total.{total}
use Rattle.configuration.specs.Configuration.{initial_of}
use Rattle.monitor_rule.specs.Step.{by_sets, by_table, sources}
use Rattle.monitor_rule.proofs.Effects.{sources_agree, advance-agrees}
use Rattle.enforcement.specs.Store.{Store, empty, position_at, refusal_at, store, store_all, lacks_room, feed, feed_all, accepted_of, accepted_by, accepted_all}
use Rattle.enforcement.specs.Calls.{Call, receive_call, run_call, fed_by, configuration_at}
use Rattle.enforcement.specs.Moments.{Moment, effect_at, position_after, emitted_at, sources_at, within, brought_by, brought_all, moments}
use Rattle.enforcement.specs.Claims.{MomentsAccounted}
use Rattle.enforcement.proofs.Stores.{Sound, initially, initial-sound, by_store, from_store, stored, stored-position, store-accepts, store-refuses, store-sound}
use Rattle.enforcement.proofs.Alone.{store-append, accepted-append}
use Rattle.enforcement.proofs.Replies.{position_at_lem, by-sets, event-effect, event-refusal, run-refusal, reply_hands, feed-sound, each-reply}
use Rattle.enforcement.proofs.Moments.{moments-all}
use Rattle.enforcement.proofs.History.{within-traced, traced-at}

module _ (a : Automaton) (t : List ℕ) (v : valid a ≡ true) (sv : Solved a t) where
  -- what is shown of the accepted ones of a list of events
  record Within (s : Store) (es : List ℕ) (ms : List Moment) : Type 0 where
    events : map (λ (m : Moment). m.event) ms ≡ accepted_of a s es
    emitted : (store_all a s es).output ≡ s.output ++ emitted_at a t ms
    traced : (store_all a s es).sources ≡ s.sources ++ sources_at a t ms

  -- those met from the function's output and position on
  abbrev from : List ℕ → Store → List ℕ → List Moment
  from past s es = within a t past s.output (position_at a s) es

  module _ (past : List ℕ) (s : Store) (e : ℕ) where
    abbrev m : Moment
    m = record { past = past; output = s.output; position = position_at a s; event = e }

    -- an accepted event first
    module _ (o : Sound a s) (h : eqb (refusal_at a s e) 0 ≡ true) where
      effect_is : effect_at a t m ≡ by_store a s e
      unfolding effect_at
      effect_is = event-effect a t v sv s o e (eqb-true (refusal_at a s e) 0 h)

      sources_are : sources (by_table a t) a (position_at a s) e ≡ from_store a s e
      unfolding effect_at
      sources_are = sources_agree (by_table a t) a (position_at a s) e (by_sets a) effect_is

      next : store a s e ≡ stored a s e
      next = store-accepts a s e (eqb-true (refusal_at a s e) 0 h)

      next-output : s.output ++ (effect_at a t m).emitted ≡ (store a s e).output
      next-output = ap (λ f. s.output ++ f.emitted) effect_is ∙ ap (λ z. z.output) (sym next)

      next-position : position_after a t m ≡ position_at a (store a s e)
      unfolding effect_at
      next-position =
          advance-agrees (by_table a t) a (position_at a s) e (by_sets a) effect_is ∙
          sym (stored-position a s e) ∙
          ap (position_at a) (sym next)

      accepts-first : (es : List ℕ) → from past s (e ∷ es) ≡ m ∷ from (past ++ e ∷ []) (store a s e) es
      unfolding within
      accepts-first es =
          rw (by-sets a t v sv s o e, h)
          (ap₂ (λ out p. m ∷ within a t (past ++ e ∷ []) out p es) next-output next-position)

      accepts_then : (es : List ℕ) (ms : List Moment) → Within (store a s e) es ms → Within s (e ∷ es) (m ∷ ms)
      unfolding accepted_of store_all emitted_at sources_at
      accepts_then es ms k = record {
        events = rw h (ap (λ l. e ∷ l) k.events);
        emitted = k.emitted ∙
            ap (λ z. z.output ++ emitted_at a t ms) next ∙
            append_assoc s.output (by_store a s e).emitted (emitted_at a t ms) ∙
            ap (λ f. s.output ++ (f.emitted ++ emitted_at a t ms)) (sym effect_is);
        traced = k.traced ∙
            ap (λ z. z.sources ++ sources_at a t ms) next ∙
            append_assoc s.sources (from_store a s e) (sources_at a t ms) ∙
            ap (λ l. s.sources ++ (l ++ sources_at a t ms)) (sym sources_are);
      }

    -- a refused one first
    refuses_then : (es : List ℕ) → Sound a s → eqb (refusal_at a s e) 0 ≡ false → Within s es (from past s es) → Within s (e ∷ es) (from past s (e ∷ es))
    unfolding within accepted_of store_all
    refuses_then es o h k =
        let stays = store-refuses a s e (eqb-false (refusal_at a s e) 0 h) in
        rw (by-sets a t v sv s o e, h)
        (record {
          events = rw (h, stays) k.events;
          emitted = ap (λ z. (store_all a z es).output) stays ∙ k.emitted;
          traced = ap (λ z. (store_all a z es).sources) stays ∙ k.traced;
        })

  within-is : (es past : List ℕ) (s : Store) → Sound a s → Within s es (from past s es)
  unfolding within accepted_of store_all emitted_at sources_at
  within-is [] past s o =
      record { events = refl; emitted = sym (append-nil s.output); traced = sym (append-nil s.sources) }
  within-is (e ∷ es) past s o =
      by (eqb (refusal_at a s e) 0)
      (λ h.
      rw (accepts-first past s e o h es)
      (accepts_then past s e o h es _ (within-is es (past ++ e ∷ []) (store a s e) (store-sound a (total a v) (e ∷ []) s o))))
      (λ h. refuses_then past s e es o h (within-is es past s o))

  -- and fed the events before it, the function has the output and the position that each meets
  abbrev Fed : Moment → Type 0
  Fed m = ((store_all a empty m.past).output ≡ m.output) × (position_at a (store_all a empty m.past) ≡ m.position)

  within-fed : (es past : List ℕ) (s : Store) → Sound a s → store_all a empty past ≡ s → AllOf Fed (from past s es)
  unfolding within store_all
  within-fed [] past s o f = tt
  within-fed (e ∷ es) past s o f =
      by (eqb (refusal_at a s e) 0)
      (λ h.
      let on = store-append a past (e ∷ []) empty ∙ ap (λ z. store a z e) f in
      rw (accepts-first past s e o h es)
      ((ap (λ z. z.output) f, ap (position_at a) f), within-fed es (past ++ e ∷ []) (store a s e) (store-sound a (total a v) (e ∷ []) s o) on))
      (λ h. rw (by-sets a t v sv s o e, h) (within-fed es past s o f))

  -- the events that a call brings feed the function as the call does
  module _ (s : Store) (o : Sound a s) where
    record Brought (x : Call) (es : List ℕ) : Type 0 where
      fed : feed a s (fed_by x) ≡ store_all a s es
      accepted : accepted_by a s (fed_by x) ≡ accepted_of a s es

    brought-is : (x : Call) → Brought x (brought_by a t (configuration_at a s) x)
    unfolding brought_by feed fed_by store_all accepted_by accepted_of
    brought-is (receive_call e) =
        let n = refusal_at a s e in
        by (eqb n 0)
        (λ h. rw (event-refusal a t v sv s o e, h) (record { fed = refl; accepted = refl }))
        (λ h. rw (event-refusal a t v sv s o e, h) (record { fed = store-refuses a s e (eqb-false n 0 h); accepted = rw h }))
    brought-is (run_call es out) =
        by (lacks_room s es (length out))
        (λ h. rw (run-refusal a t v sv s o es out, h) (record { fed = rw h; accepted = rw h }))
        (λ h. rw (run-refusal a t v sv s o es out, h) (record { fed = rw h; accepted = rw h }))

  -- and so for all calls
  record BroughtAll (s : Store) (xs : List Call) (es : List ℕ) : Type 0 where
    fed : feed_all a s (map fed_by xs) ≡ store_all a s es
    accepted : accepted_all a s (map fed_by xs) ≡ accepted_of a s es

  brought-all : (xs : List Call) (s : Store) → Sound a s → BroughtAll s xs (brought_all a t (configuration_at a s) xs)
  unfolding brought_all feed_all accepted_all store_all accepted_of
  brought-all [] s o = record { fed = refl; accepted = refl }
  brought-all (x ∷ xs) s o =
      let z = feed a s (fed_by x) in
      let b = brought-is s o x in
      let es = brought_by a t (configuration_at a s) x in
      let fs = brought_all a t (configuration_at a z) xs in
      let k = brought-all xs z (feed-sound a t v sv s o x) in
      rw (reply_hands a t v sv s o x)
      (record {
        fed = k.fed ∙ ap (λ y. store_all a y fs) b.fed ∙ sym (store-append a es fs s);
        accepted = ap₂ ◌++◌ b.accepted (k.accepted ∙ ap (λ y. accepted_of a y fs) b.fed) ∙ sym (accepted-append a es fs s);
      })

pub moments-accounted : MomentsAccounted
unfolding moments configuration_at store_all
moments-accounted a t v sv calls =
    let b = brought-all a t v sv calls empty (initial-sound a v) in
    let es = brought_all a t (configuration_at a empty) calls in
    let w = within-is a t v sv es [] empty (initial-sound a v) in
    let go : moments a t (initial_of a) calls ≡ within a t [] [] (position_at a empty) es =
    rw (initially a) (ap (λ p. within a t [] [] p es) (position_at_lem a empty (initial-sound a v))) in
    record {
      events = rw go (w.events ∙ sym b.accepted);
      emitted = rw go (sym w.emitted ∙ ap (λ s. s.output) (sym b.fed) ∙ sym (each-reply a t v sv calls).all-emitted);
      traced = rw go (sym w.traced ∙ ap (λ s. s.sources) (sym b.fed));
      history = λ before m after e. traced-at a t before m after [] [] (rw (sym go ∙ e) at (within-traced a t es [] [] (position_at a empty)));
      leads = moments-all a t v (λ m. reached a a.initial m.output ≡ m.position.state) (λ m k. k.leads) calls;
      fed = rw go (within-fed a t v sv es [] empty (initial-sound a v) refl);
    }
