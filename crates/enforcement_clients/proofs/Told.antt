-- What the places mean to a client, from a monitor of its own that is brought the same events.
use Prim.Native.Nat.{ℕ}
use mathlib.Core.Path.{◌≡◌, sym, ◌∙◌, ap, subst}
use mathlib.Core.List.{List, [], ◌∷◌, ◌++◌, map}
use lib.ListN.{length, get_or, take, length-map}
use Rattle.automaton.specs.declared.Automaton.{Automaton}
use Rattle.configuration_places.specs.Places.{input_number, output_number}
use Rattle.configuration.specs.declared.Configuration.{Configuration}
use Rattle.configuration.specs.Configuration.{held_events, place_numbers, initial_of}
use Rattle.enforcement.specs.Store.{Store, empty, store, feed_all}
use Rattle.enforcement.specs.Calls.{Call, configuration_after, fed_by}
use Rattle.enforcement.specs.Moments.{Moment, emitted_at, moments}
use Rattle.enforcement.specs.Places.{event_at, Traced, Answered, PlacesTold}
use Rattle.enforcement.specs.Claims.{accepted_events, Enforced}
use Rattle.clients_answers.specs.Clients.{none, received_for}
use Rattle.enforcement_clients.specs.Claims.{ClientTold}
use Rattle.enforcement_clients.proofs.Flags.{accepted-alone, accepted}

-- the client g of a list stands where the calls leave a monitor of its own, and its function where
-- they leave theirs
module _ (a : Automaton) (t : List ℕ) (calls : List Call) (x : Enforced a t calls) (cs : List Configuration) (g : ℕ) (s : Store)
    (end : get_or cs g none ≡ configuration_after a t (initial_of a) calls) (fed : feed_all a empty (map fed_by calls) ≡ s) where
  abbrev ms : List Moment
  ms = moments a t (initial_of a) calls

  abbrev all : List ℕ
  all = accepted_events a t calls

  abbrev p : PlacesTold a t calls all (configuration_after a t (initial_of a) calls)
  p = x.places-told

  held : let c = get_or cs g none in map (event_at all) (take c.held (place_numbers c)) ≡ held_events c
  held = rw end p.held

  received-count : input_number (get_or cs g none).received ≡ length ms
  received-count = rw end (p.received-count ∙ length-map ms (λ m. m.event))

  emitted-count : output_number (get_or cs g none).emitted ≡ length (emitted_at a t ms)
  emitted-count = rw end (p.emitted-count ∙ ap length (sym x.accounted.emitted))

  -- the answer over the list is that of its configuration alone
  answered : (e : ℕ) → (let r = received_for a t cs g e in r.refusal ≡ 0
      → Answered (all ++ e ∷ []) s (store a s e) r.count r.emitted (map input_number r.places))
  answered e z =
      let taken = accepted a t cs g e z in
      rw ((accepted-alone a t cs g e z).answer, end, sym fed) (p.answered e (rw end at taken))

  pub client-told : ClientTold a t cs g ms s
  client-told =
      record {
        function = subst (Traced all) fed p.function;
        traced = x.accounted.traced ∙ ap (λ z. z.sources) fed;
        held = held;
        received-count = received-count;
        emitted-count = emitted-count;
        answered = answered;
      }
