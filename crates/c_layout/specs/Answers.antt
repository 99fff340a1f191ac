-- How answers lie in the bytes that a caller lends: what a call hands back beside its refusal and
-- the configuration.
use Rattle.std.specs.Prelude.{ℕ, Bool, cond, List, [], ◌∷◌, ◌++◌, map}
use Rattle.configuration_places.specs.declared.InputPlace.{InputPlace}
use Rattle.configuration_places.specs.Places.{input_number}
use Rattle.monitor_answers.specs.declared.Status.{Status}
use Rattle.monitor_answers.specs.declared.Received.{Received}
use Rattle.monitor_answers.specs.declared.Ran.{Ran}
use Rattle.clients_answers.specs.declared.ReceivedFor.{ReceivedFor}
use Rattle.clients_answers.specs.declared.RanFor.{RanFor}
use Rattle.feed_answers.specs.declared.Fed.{Fed}
use Rattle.game.specs.Game.{Verdict}
use Rattle.c_layout.specs.Offsets.{number_size}
use Rattle.c_layout.specs.Layout.{number_bytes, places_bytes}

-- whether the configuration is winning (document 01's guarded): 1 or 0
unfoldable pub status_bytes : Status → List ℕ
status_bytes s = cond s.winning 1 0 ∷ []

-- one event: the places of what is emitted, how many of them are used, whether the configuration
-- is winning, and the place in the input of each symbol emitted
abbrev pub event_bytes : List ℕ → ℕ → Bool → List InputPlace → List ℕ
event_bytes emitted count winning places =
    emitted ++ ((count ∷ cond winning 1 0 ∷ []) ++ places_bytes (map input_number places))

-- a whole day: how many bytes were written, and how many events were refused
abbrev pub day_bytes : ℕ → ℕ → List ℕ
day_bytes written refused = number_bytes number_size written ++ number_bytes number_size refused

-- of one configuration, and over a list of clients
unfoldable pub received_bytes : Received → List ℕ
received_bytes r = event_bytes r.emitted r.count r.winning r.places

unfoldable pub received_for_bytes : ReceivedFor → List ℕ
received_for_bytes r = event_bytes r.emitted r.count r.winning r.places

unfoldable pub ran_bytes : Ran → List ℕ
ran_bytes r = day_bytes r.length r.refused

unfoldable pub ran_for_bytes : RanFor → List ℕ
ran_for_bytes r = day_bytes r.length r.refused

-- one record of the feed: the answer to its event, how many records were lost before it, and the
-- place of a fault
unfoldable pub fed_bytes : Fed → List ℕ
fed_bytes r = received_for_bytes r.answer ++ (number_bytes number_size r.loss ++ number_bytes number_size r.place)

-- both answers of the game (document 01's second judge): whether it may rest here, and whether it
-- can come to rest
unfoldable pub verdict_bytes : Verdict → List ℕ
verdict_bytes v = cond v.may_rest 1 0 ∷ cond v.can_rest 1 0 ∷ []
