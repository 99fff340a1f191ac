-- The places that the calls tell.
use Prim.Native.Nat.{ℕ}
use mathlib.Core.Path.{◌≡◌, sym, ◌∙◌, ap, subst}
use mathlib.Core.Bool.{true}
use mathlib.Core.List.{List, [], ◌∷◌, ◌++◌, map, map-append}
use lib.Dec.{eqb}
use lib.ListN.{length, take, drop, length-map}
use lib.Seq.{drop-append_seam}
use borrow.Author.Tests.{eqb-true, eqb-false}
use Rattle.base.specs.Pad.{pad}
use Rattle.base.proofs.Bools.{by}
use Rattle.base.proofs.Padding.{take-pad}
use Rattle.automaton.specs.declared.Automaton.{Automaton}
use Rattle.automaton.specs.Automaton.{valid}
use Rattle.solver_sets.specs.Table.{Solved}
use Rattle.configuration_places.specs.Places.{input_place, input_number, output_number}
use Rattle.configuration_places.proofs.Facts.{numbers-places}
use Rattle.configuration.specs.declared.Configuration.{Configuration}
use Rattle.configuration.specs.Configuration.{held_events, place_numbers, position_of, initial_of}
use Rattle.monitor_answers.specs.Answers.{received}
use Rattle.enforcement.specs.Store.{Store, empty, position_at, refusal_at, store, feed_all}
use Rattle.enforcement.specs.Calls.{Call, configuration_after, fed_by, configuration_at}
use Rattle.enforcement.specs.Places.{event_at, Traced, Answered, PlacesTold}
use Rattle.enforcement.specs.Claims.{accepted_events}
use Rattle.enforcement.proofs.Stores.{Sound, by_store, from_store, stored, store-accepts}
use Rattle.enforcement.proofs.Places.{put-out-before, store-traced, function-traced}
use Rattle.enforcement.proofs.Replies.{position_at_lem, event-accepted, event-refused, last-sound, each-reply}
use Rattle.enforcement.proofs.Brought.{moments-accounted}

-- what an accepted event puts out is found at the places that go with it
module _ (a : Automaton) (accepted : List ℕ) (s : Store) (k : Traced accepted s) (e : ℕ) (h : refusal_at a s e ≡ 0) where
  abbrev at : ℕ → ℕ
  at = event_at (accepted ++ e ∷ [])

  abbrev out : List ℕ
  out = (by_store a s e).emitted

  abbrev from : List ℕ
  from = from_store a s e

  stored-traced : Traced (accepted ++ e ∷ []) (stored a s e)
  stored-traced = subst (Traced (accepted ++ e ∷ [])) (store-accepts a s e h) (store-traced a accepted s k e h)

  puts_out : map at from ≡ out
  puts_out =
      let all : s.output ++ map at from ≡ s.output ++ out =
      ap (λ l. l ++ map at from) (sym (put-out-before accepted s k e)) ∙ sym (map-append at s.sources from) ∙ stored-traced.put-out in
      sym (drop-append_seam s.output (map at from)) ∙ ap (drop (length s.output)) all ∙ drop-append_seam s.output out

  -- and so it stands in an answer
  from_told : take (length out) (map input_number (map input_place (pad 7 from))) ≡ from
  from_told =
      let same : length out ≡ length from = ap length (sym puts_out) ∙ length-map from at in
      ap (take (length out)) (numbers-places (pad 7 from)) ∙ ap (λ n. take n (pad 7 from)) same ∙ take-pad 7 from

  told : Answered (accepted ++ e ∷ []) s (store a s e) (length out) (pad 7 out) (map input_number (map input_place (pad 7 from)))
  told =
      let next = store-accepts a s e h in
      record {
        found = ap (map at) from_told ∙ puts_out ∙ sym (take-pad 7 out);
        output = ap (λ z. z.output) next ∙ ap (λ l. s.output ++ l) (sym (take-pad 7 out));
        sources = ap (λ z. z.sources) next ∙ ap (λ l. s.sources ++ l) (sym from_told);
      }

-- an event's answer, from a sound function on
answered : (a : Automaton) (t : List ℕ) → valid a ≡ true → Solved a t → (accepted : List ℕ) (s : Store) → Sound a s → Traced accepted s
    → (e : ℕ) → (let r = received a t (configuration_at a s) e in r.refusal ≡ 0
    → Answered (accepted ++ e ∷ []) s (store a s e) r.count r.emitted (map input_number r.places))
answered a t v sv accepted s o k e z =
    let n = refusal_at a s e in
    by (eqb n 0)
    (λ u. let h = eqb-true n 0 u in rw (event-accepted a t v sv s o e h) (told a accepted s k e h))
    (λ u. absurd (eqb-false n 0 u (rw (event-refused a t v sv s o e u) at z)))

-- a configuration that says where the function stands
module _ (a : Automaton) (accepted : List ℕ) (s : Store) (k : Traced accepted s) (c : Configuration) (p : position_of c ≡ position_at a s) where
  held-told : map (event_at accepted) (take c.held (place_numbers c)) ≡ held_events c
  held-told = ap (λ x. map (event_at accepted) x.places) p ∙ k.held ∙ sym (ap (λ x. x.buffer) p)

  received-told : input_number c.received ≡ length accepted
  received-told = ap (λ x. x.received) p ∙ k.counted

  emitted-told : (symbols : List ℕ) → symbols ≡ s.output → output_number c.emitted ≡ length symbols
  emitted-told symbols h = ap (λ x. x.emitted) p ∙ ap length (sym h)

pub places-told : (a : Automaton) (t : List ℕ) → valid a ≡ true → Solved a t → (calls : List Call)
    → PlacesTold a t calls (accepted_events a t calls) (configuration_after a t (initial_of a) calls)
places-told a t v sv calls =
    let accepted = accepted_events a t calls in
    let c = configuration_after a t (initial_of a) calls in
    let s = feed_all a empty (map fed_by calls) in
    let o = last-sound a t v sv calls in
    let r = each-reply a t v sv calls in
    let m = moments-accounted a t v sv calls in
    let k : Traced accepted s = rw m.events (function-traced a (map fed_by calls)) in
    let p = ap position_of r.last-configuration ∙ position_at_lem a s o in
    record {
      function = k;
      put-out = ap (map (event_at accepted)) m.traced ∙ k.put-out ∙ sym r.all-emitted;
      held = held-told a accepted s k c p;
      received-count = received-told a accepted s k c p;
      emitted-count = emitted-told a accepted s k c p _ r.all-emitted;
      answered = rw r.last-configuration (answered a t v sv accepted s o k);
    }
