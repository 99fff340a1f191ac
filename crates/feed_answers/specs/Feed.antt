-- A call on one record of the feed, over the list of clients (document 02, Card 3): the record's
-- bytes and the serial that is expected.
use Rattle.std.specs.Prelude.{ℕ, cond, List, [], ◌∷◌, ◌++◌, length, eqb}
use Rattle.base.specs.Rows.{first}
use Rattle.automaton.specs.declared.Automaton.{Automaton}
use Rattle.configuration.specs.declared.Configuration.{Configuration}
use Rattle.clients_answers.specs.declared.ReceivedFor.{ReceivedFor}
use Rattle.clients_answers.specs.Clients.{list_rows, list_refusal, client_rows, refused_for, received_for, received_clients}
use Rattle.feed_record.specs.declared.Expected.{Expected}
use Rattle.feed_record.specs.Records.{Admitted, record_rows, admission}
pub use Rattle.feed_answers.specs.declared.Fed.{Fed}

-- The rows before those of its event: 11, 12, 20; then the record's own, 1, 2, 10, 21, 22. A
-- record that none of them refuses is let in.
unfoldable pub entry_refusal : Automaton → List ℕ → ℕ → List ℕ → Expected → ℕ
entry_refusal a t count s expected = first (list_rows a t count ++ record_rows s expected)

-- all rows: behind these, those of its event, 19, 13, 14, 15, 23
unfoldable pub feed_refusal : Automaton → List ℕ → List Configuration → List ℕ → Expected → ℕ
feed_refusal a t cs s expected =
    let m = admission s expected in
    first (list_rows a t (length cs) ++ (record_rows s expected ++ client_rows a t cs m.client m.symbol))

-- not let in: the row and its place; the expected serial is kept
abbrev pub refused_fed : Expected → ℕ → ℕ → Fed
refused_fed expected row place = record { answer = refused_for row; place = place; expected = expected; loss = 0 }

-- let in: the answer to its event, refused or not; the next expected serial and the loss
abbrev pub delivered_fed : Admitted → ReceivedFor → Fed
delivered_fed m answer = record { answer = answer; place = 0; expected = m.expected; loss = m.loss }

unfoldable pub fed_for : Automaton → List ℕ → List Configuration → List ℕ → Expected → Fed
fed_for a t cs s expected =
    let m = admission s expected in
    let row = entry_refusal a t (length cs) s expected in
    cond (eqb row 0)
    (delivered_fed m (received_for a t cs m.client m.symbol))
    (refused_fed expected row (cond (eqb (list_refusal a t (length cs)) 0) m.place 0))

-- the event that it brings, with its client's number: one that is let in
unfoldable pub event_in : List ℕ → Expected → List (ℕ × ℕ)
event_in s expected = let m = admission s expected in cond (eqb m.refusal 0) ((m.client, m.symbol) ∷ []) []

-- the lent list afterwards
unfoldable pub fed_clients : Automaton → List ℕ → List Configuration → List ℕ → Expected → List Configuration
fed_clients a t cs s expected =
    let m = admission s expected in
    cond (eqb (entry_refusal a t (length cs) s expected) 0) (received_clients a t cs m.client m.symbol) cs
