-- What the functions that need no list hand back, and what they promise over the parts of an
-- automaton that they are lent.
use Rattle.std.specs.Prelude.{ℕ, ◌+◌, ◌<◌, ◌≡◌, true, cond, List, [], ◌∷◌, ◌++◌, length, get_or, eqb}
use Rattle.base.specs.Rows.{first}
use Rattle.automaton.specs.declared.Automaton.{Automaton}
use Rattle.configuration.specs.declared.Configuration.{Configuration}
use Rattle.configuration.specs.Configuration.{consistent_in, consistent}
use Rattle.monitor_answers.specs.declared.Received.{Received}
use Rattle.monitor_answers.specs.Answers.{refused_event, received}
use Rattle.monitor_answers.specs.Turns.{turn_refusal, turn_emitted, turn_next, turned_buffer}
use Rattle.monitor_entry.specs.Entries.{entry_of}
use Rattle.monitor_loop.specs.declared.Limits.{Limits}
use Rattle.monitor_loop.specs.Lending.{Lends}
use Rattle.clients_answers.specs.declared.ReceivedFor.{ReceivedFor}
use Rattle.clients_answers.specs.Clients.{max_clients, client_of, symbol_of, right_count, list_rows, list_refusal, refused_for}
pub use Rattle.clients_entry.specs.declared.ListEntry.{ListEntry}
pub use Rattle.clients_entry.specs.declared.Taken.{Taken}
pub use Rattle.clients_entry.specs.declared.Event.{Event}

-- row 20 behind another row (0: none)
unfoldable pub count_row : ℕ → ℕ → ℕ
count_row row count = cond (eqb row 0) (cond (right_count count) 0 20) row

-- rows 11, 12 and 20, and what an event reads beside the automaton's arrays
unfoldable pub list_entry_of : Automaton → List ℕ → ℕ → ListEntry
list_entry_of a t count =
    let r = (entry_of a t).ranking in
    record {
      refusal = list_refusal a t count;
      limits = record { controllables = r.count; states = a.states; symbols = a.symbols; capacity = a.capacity };
      ranks = r.ranks;
    }

-- how many events a configuration holds for row 16, by the parts that row 13 reads
unfoldable pub held_in_by : Limits → List ℕ → Configuration → ℕ
held_in_by l classes c = cond (consistent_in l.states l.symbols l.capacity classes c) c.held 0

-- a configuration's mark, row 13's answer kept for a day: 1 where it lets it pass, 0 where not; by
-- the parts that row 13 reads
unfoldable pub mark_by : Limits → List ℕ → Configuration → ℕ
mark_by l classes c = cond (consistent_in l.states l.symbols l.capacity classes c) 1 0

-- and by an automaton
abbrev pub mark_of : Automaton → Configuration → ℕ
mark_of a c = cond (consistent a c) 1 0

-- what `take` asks: rows 11 and 12 passed, by some such automaton, at the client's place the mark
-- of its configuration, and room from a place of the output on for one event more than what a
-- consistent configuration holds
pub record TakeRequires (l : Limits) (marks : List ℕ) (client : ℕ) (next ranks t : List ℕ) (c : Configuration) (at size : ℕ)
    : Type 0 where
  pub automaton : Automaton
  pub lends : Lends automaton l next ranks t
  pub client-low : client < max_clients
  pub marked : get_or marks client 0 ≡ mark_of automaton c
  pub room : consistent automaton c ≡ true → at + c.held < size

-- one event of a day, where what is emitted is written from a place on
unfoldable pub taken_of : Automaton → List ℕ → Configuration → ℕ → ℕ → Taken
taken_of a t c e at =
    record {
      configuration = turn_next a t c e;
      written = at + length (turn_emitted a t c e);
      refused = cond (eqb (turn_refusal a t c e) 0) 0 1;
    }

-- over lent parts, for any automaton whose parts and whose mark of the client these are
abbrev pub Taking : Limits → List ℕ → ℕ → List ℕ → List ℕ → List ℕ → Configuration → ℕ → ℕ → List ℕ → Taken → List ℕ → Type 0
Taking l marks client next ranks t c e at out r out' =
    (a : Automaton) → Lends a l next ranks t → get_or marks client 0 ≡ mark_of a c
    → (r ≡ taken_of a t c e at) × (out' ≡ turned_buffer a t c e at out)

-- a day's event, with its client's number first
unfoldable pub event_of : ℕ → Event
event_of v = record { client = client_of v; symbol = symbol_of v }

-- one event for a client that a list of so many has: rows 11, 12 and 20, then as alone
unfoldable pub present_of : Automaton → List ℕ → ℕ → Configuration → ℕ → Received
present_of a t count c e =
    cond (eqb (list_refusal a t count) 0) (received a t c e) (refused_event (list_refusal a t count) c)

-- for one that it does not have: rows 11, 12, 20 and 19
unfoldable pub absent_of : Automaton → List ℕ → ℕ → ReceivedFor
absent_of a t count = refused_for (first (list_rows a t count ++ (19, true) ∷ []))
