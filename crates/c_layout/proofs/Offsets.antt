-- Proof of what stands at each offset.
use Prim.Native.Nat.{ℕ, ◌+◌, ◌*◌, ◌<◌}
use mathlib.Core.Path.{◌≡◌, refl, sym, ◌∙◌, ap}
use mathlib.Core.Bool.{Bool, true, cond}
use mathlib.Core.List.{List, [], ◌∷◌, ◌++◌, map, append-nil, append_assoc}
use native.Mathlib.Nat.{zero-add}
use native.Mathlib.Omega.{arith}
use lib.ListN.{length, get_or, length-append, length-map, get_or-append}
use lib.Seq.{get_or-append-add, get_or_at}
use borrow.Author.Tests.{ne_eqb}
use Rattle.automaton.specs.declared.Automaton.{Automaton}
use Rattle.automaton.specs.Automaton.{step, shaped}
use Rattle.configuration_places.specs.declared.InputPlace.{InputPlace}
use Rattle.configuration_places.specs.Places.{input_place, input_number}
use Rattle.configuration.specs.declared.Configuration.{Configuration}
use Rattle.monitor_answers.specs.declared.Received.{Received}
use Rattle.monitor_answers.specs.declared.Ran.{Ran}
use Rattle.clients_answers.specs.declared.ReceivedFor.{ReceivedFor}
use Rattle.clients_answers.specs.declared.RanFor.{RanFor}
use Rattle.feed_record.specs.declared.Expected.TheVariants.{Serial}
use Rattle.feed_answers.specs.declared.Fed.{Fed}
use Rattle.c_layout.specs.Offsets.{max_symbols, max_states, max_next, max_emitted}
use Rattle.c_layout.specs.Offsets.{automaton_size, automaton_classes, automaton_accepting, automaton_next}
use Rattle.c_layout.specs.Offsets.{received_size, received_emitted, received_count, received_winning, received_places}
use Rattle.c_layout.specs.Offsets.{place_size, number_size, expected_size, fed_place}
use Rattle.c_layout.specs.Layout.{byte_at, part, automaton_of, automaton_bytes, number_of, number_bytes, places_bytes, expected_of}
use Rattle.c_layout.specs.Answers.{status_bytes, event_bytes, day_bytes, received_bytes, received_for_bytes, ran_bytes, ran_for_bytes, fed_bytes, verdict_bytes}
use Rattle.c_layout.specs.Calls.{received_left, ran_left, received_for_left, ran_for_left, fed_left}
use Rattle.c_layout.specs.Claims.{YesOrNo, NumberAt, PlaceAt, AutomatonIn, ReceivedIn, RanIn, FedIn, ExpectedIn}
use Rattle.c_layout.specs.Claims.{OffsetsHold}
use Rattle.c_layout.proofs.Numbers.{part_byte, number-length, lies_between}
use Rattle.c_layout.proofs.Configurations.{place_in, places-size, configuration_in, configuration-out}
use Rattle.c_layout.proofs.Trips.{shaped_lengths, automaton-kept}

yes_or_no : (b : Bool) → YesOrNo b (cond b 1 0)
yes_or_no b = (λ h. rw h refl, λ h. rw h refl)

automaton-out : (bytes : List ℕ) → length bytes ≡ automaton_size → AutomatonIn (automaton_of bytes) bytes
unfolding automaton_of step
automaton-out bytes long =
    record {
      size = long;
      states = refl;
      symbols = refl;
      capacity = refl;
      initial = refl;
      classes = λ e h. part_byte automaton_classes max_symbols bytes e h;
      accepting = λ q h. part_byte automaton_accepting max_states bytes q h;
      next = λ q e h k.
          ap (byte_at bytes) (omega arith) ∙ part_byte automaton_next max_next bytes (q * max_symbols + e) (omega arith);
    }

-- a record's bytes
automaton_in : (a : Automaton) → shaped a ≡ true → AutomatonIn a (automaton_bytes a)
unfolding automaton_bytes
automaton_in a h =
    let (x, y, z) = shaped_lengths a h in
    let long : length (automaton_bytes a) ≡ automaton_size = simp length-append (omega arith) in
    rw (automaton-kept a h) at (automaton-out (automaton_bytes a) long)

-- a number that stands behind other bytes and before others
number_at : (v : ℕ) (front later : List ℕ) → NumberAt v (length front) (front ++ (number_bytes number_size v ++ later))
number_at v front later =
    let l = lies_between number_size v front later in
    record { low_first = l.low_first; value = l.value }

number_in : (v : ℕ) → (length (number_bytes number_size v) ≡ number_size) × NumberAt v 0 (number_bytes number_size v)
number_in v =
    (number-length number_size v, rw (append-nil (number_bytes number_size v)) at (number_at v [] []))

-- as many places as numbers
pub places-seven : (ps : List InputPlace) → length (map input_number ps) ≡ max_emitted → length ps ≡ max_emitted
places-seven ps h = sym (length-map ps input_number) ∙ h

-- an event's bytes, and others behind them
module _ (symbols : List ℕ) (many : ℕ) (wins : Bool) (from : List InputPlace) where
  abbrev flag : ℕ
  flag = cond wins 1 0

  abbrev two : List ℕ
  two = many ∷ flag ∷ []

  abbrev places : List ℕ
  places = places_bytes (map input_number from)

  abbrev event : List ℕ
  event = event_bytes symbols many wins from

  module _ (long : length symbols ≡ max_emitted) (sources : length from ≡ max_emitted) where
    event-size : length event ≡ received_size
    event-size = simp length-append (omega (arith, places-size from))

    event-emitted : (i : ℕ) → i < max_emitted → byte_at event (received_emitted + i) ≡ get_or symbols i 0
    event-emitted i h = ap (byte_at event) (zero-add i) ∙ get_or-append symbols (two ++ places) 0 i (omega arith)

    event-winning : byte_at event received_winning ≡ flag
    event-winning = ap (byte_at event) (omega arith) ∙ get_or-append-add symbols (two ++ places) 1 0

    to_places : length (symbols ++ two) ≡ received_places
    to_places = length-append symbols two ∙ omega arith

    event-place : (later : List ℕ) (i : ℕ) → i < max_emitted
        → PlaceAt (input_number (get_or from i (input_place 0))) (received_places + i * place_size) (event ++ later)
    event-place later i h =
        let same : (symbols ++ two) ++ (places ++ later) ≡ event ++ later =
        append_assoc symbols two (places ++ later) ∙ sym (append_assoc symbols (two ++ places) later) in
        rw (to_places, same) at (place_in from (symbols ++ two) later i (omega arith))

    event-in : ReceivedIn symbols many wins from event
    event-in =
        record {
          size = event-size;
          emitted = event-emitted;
          count = get_or_at symbols many (flag ∷ places) 0 received_count long;
          winning = rw event-winning (yes_or_no wins);
          places = λ i h. rw (append-nil event) at (event-place [] i h);
        }

received_in : (r : Received) → length r.emitted ≡ max_emitted → length r.places ≡ max_emitted
    → ReceivedIn r.emitted r.count r.winning r.places (received_left r).answer
unfolding received_left received_bytes
received_in r = event-in r.emitted r.count r.winning r.places

received_for_in : (r : ReceivedFor) (cs : List Configuration) → length r.emitted ≡ max_emitted → length r.places ≡ max_emitted
    → ReceivedIn r.emitted r.count r.winning r.places (received_for_left r cs).answer
unfolding received_for_left received_for_bytes
received_for_in r cs = event-in r.emitted r.count r.winning r.places

day_in : (length-written events-refused : ℕ) → RanIn length-written events-refused (day_bytes length-written events-refused)
day_in k j =
    let n = number_bytes number_size k in
    let m = number_bytes number_size j in
    let long : length n ≡ number_size = number-length number_size k in
    let last : NumberAt j (length n) (n ++ (m ++ [])) = number_at j n [] in
    record {
      size = length-append n m ∙ omega (arith, number-length number_size j);
      written = number_at k [] m;
      refused = rw (long, append-nil m) at last;
    }

ran_in : (r : Ran) (out : List ℕ) → RanIn r.length r.refused (ran_left r out).answer
unfolding ran_left ran_bytes
ran_in r out = day_in r.length r.refused

ran_for_in : (r : RanFor) (cs : List Configuration) (out : List ℕ) → RanIn r.length r.refused (ran_for_left r cs out).answer
unfolding ran_for_left ran_for_bytes
ran_for_in r cs out = day_in r.length r.refused

-- a record of the feed: its event's bytes, then two numbers
fed-in : (r : Fed) (cs : List Configuration) (lent : List ℕ) → length r.answer.emitted ≡ max_emitted
    → length r.answer.places ≡ max_emitted → FedIn r (fed_left r cs lent).answer
unfolding fed_left fed_bytes received_for_bytes
fed-in r cs lent long sources =
    let symbols = r.answer.emitted in
    let many = r.answer.count in
    let wins = r.answer.winning in
    let from = r.answer.places in
    let bytes = event symbols many wins from in
    let n = number_bytes number_size r.loss in
    let m = number_bytes number_size r.place in
    let e = event-in symbols many wins from long sources in
    let size : length bytes ≡ received_size = e.size in
    let front : (i : ℕ) → i < received_size → byte_at (bytes ++ (n ++ m)) i ≡ byte_at bytes i =
    λ i h. get_or-append bytes (n ++ m) 0 i (omega arith) in
    let loss : NumberAt r.loss (length bytes) (bytes ++ (n ++ m)) = number_at r.loss bytes m in
    let place : NumberAt r.place (length (bytes ++ n)) ((bytes ++ n) ++ (m ++ [])) = number_at r.place (bytes ++ n) [] in
    let before : length (bytes ++ n) ≡ fed_place = length-append bytes n ∙ omega (arith, number-length number_size r.loss) in
    record {
      size = length-append bytes (n ++ m) ∙
          omega (arith, length-append n m, number-length number_size r.loss, number-length number_size r.place);
      emitted = λ i h. front (received_emitted + i) (omega arith) ∙ e.emitted i h;
      count = front received_count (omega arith) ∙ e.count;
      winning = rw (front received_winning (omega arith)) e.winning;
      places = event-place symbols many wins from long sources (n ++ m);
      loss = rw size at loss;
      place = rw (before, append-nil m, append_assoc bytes n m) at place;
    }

-- the expected serial
expected-in : (bytes : List ℕ) → length bytes ≡ expected_size → ExpectedIn bytes
unfolding expected_of part number_of
expected-in (known ∷ low ∷ high ∷ []) long =
    record { unknown = λ z. rw z; known = λ z. rw (ne_eqb known 0 z) (ap Serial (omega arith)) }
expected-in [] long = absurd (omega arith)
expected-in (known ∷ []) long = absurd (omega arith)
expected-in (known ∷ low ∷ []) long = absurd (omega arith)
expected-in (known ∷ low ∷ high ∷ x ∷ bytes) long = absurd (omega arith)

pub offsets_hold : OffsetsHold
unfolding status_bytes verdict_bytes
offsets_hold =
    record {
      automaton = automaton_in;
      automaton-out = automaton-out;
      configuration = λ c six many. configuration_in c six many;
      configuration-out = λ bytes long low. configuration-out bytes long low;
      number = number_in;
      status = λ s. record { size = refl; winning = yes_or_no s.winning };
      received = received_in;
      received-for = received_for_in;
      ran = ran_in;
      ran-for = ran_for_in;
      expected = expected-in;
      fed = fed-in;
      verdict = λ v. record { size = refl; may-rest = yes_or_no v.may_rest; can-rest = yes_or_no v.can_rest };
    }
