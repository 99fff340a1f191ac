-- What the functions that need no list hand back.
use Rattle.std.specs.Prelude.{ℕ, Bool, cond, ◌||◌, List, eqb}
use Rattle.automaton.specs.declared.Automaton.{Automaton}
use Rattle.clients_answers.specs.declared.ReceivedFor.{ReceivedFor}
use Rattle.clients_answers.specs.Clients.{list_refusal}
use Rattle.feed_record.specs.declared.Expected.{Expected}
use Rattle.feed_record.specs.Records.{Admitted}
use Rattle.feed_answers.specs.declared.Fed.{Fed}
use Rattle.feed_answers.specs.Feed.{refused_fed, delivered_fed}

-- rows 11, 12 and 20, which refuse a call over a list whatever it brings
unfoldable pub refuses_call : ℕ → Bool
refuses_call row = eqb row 11 || (eqb row 12 || eqb row 20)

-- the answer to a record that is not let in: those rows, then its own
unfoldable pub not_let_in : Automaton → List ℕ → ℕ → Admitted → Fed
not_let_in a t count m =
    let row = list_refusal a t count in
    cond (eqb row 0) (refused_fed m.expected m.refusal m.place) (refused_fed m.expected row 0)

-- to one that is let in, by the answer to its event
unfoldable pub let_in_of : Admitted → Expected → ReceivedFor → Fed
let_in_of m given answer =
    cond (refuses_call answer.refusal)
    (record { answer = answer; place = 0; expected = given; loss = 0 })
    (delivered_fed m answer)
