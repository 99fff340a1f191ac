-- What the calls of the interface for C leave in the bytes that are lent to them. The contracts of
-- `jaxhophasi_initial`, `jaxhophasi_receive`, `jaxhophasi_run`, `jaxhophasi_receive_for`,
-- `jaxhophasi_run_for` and `jaxhophasi_feed` cite these definitions, and so do the claims on lists
-- of calls.
use Rattle.std.specs.Prelude.{ℕ, cond, List, [], eqb}
use Rattle.configuration.specs.declared.Configuration.{Configuration}
use Rattle.configuration.specs.Configuration.{initial_answer}
use Rattle.monitor_answers.specs.declared.Received.{Received}
use Rattle.monitor_answers.specs.declared.Ran.{Ran}
use Rattle.monitor_answers.specs.Answers.{received, ran, ran_buffer}
use Rattle.clients_answers.specs.declared.ReceivedFor.{ReceivedFor}
use Rattle.clients_answers.specs.declared.RanFor.{RanFor}
use Rattle.clients_answers.specs.Clients.{received_for, received_clients, ran_for, ran_clients, ran_for_buffer}
use Rattle.feed_answers.specs.declared.Fed.{Fed}
use Rattle.feed_answers.specs.Feed.{fed_for, fed_clients}
use Rattle.c_layout.specs.Layout.{automaton_of, configuration_of, configuration_bytes, expected_of, expected_laid}
use Rattle.c_layout.specs.Answers.{received_bytes, received_for_bytes, ran_bytes, ran_for_bytes, fed_bytes}

-- the lent configuration after `jaxhophasi_initial`: the initial one where the record is not
-- refused, and what stood there where it is
unfoldable pub initial_bytes : List ℕ → List ℕ → List ℕ
initial_bytes record-bytes lent =
    let x = initial_answer (automaton_of record-bytes) in
    cond (eqb x.refusal 0) (configuration_bytes x.configuration) lent

-- what a call leaves: its refusal, and the bytes lent for the configuration, for the answer and,
-- by a day, for the output
pub record Left : Type 0 where
  pub refusal : ℕ
  pub configuration : List ℕ
  pub answer : List ℕ
  pub output : List ℕ

-- the answers of the calls by value, as they are left
unfoldable pub received_left : Received → Left
received_left x =
    record { refusal = x.refusal; configuration = configuration_bytes x.configuration; answer = received_bytes x; output = [] }

unfoldable pub ran_left : Ran → List ℕ → Left
ran_left x out =
    record { refusal = x.refusal; configuration = configuration_bytes x.configuration; answer = ran_bytes x; output = out }

-- `jaxhophasi_receive` over a lent record, table and configuration
unfoldable pub receive_leaves : List ℕ → List ℕ → List ℕ → ℕ → Left
receive_leaves record-bytes t c e = received_left (received (automaton_of record-bytes) t (configuration_of c) e)

-- `jaxhophasi_run` over the same, events and an output
unfoldable pub run_leaves : List ℕ → List ℕ → List ℕ → List ℕ → List ℕ → Left
run_leaves record-bytes t c events out =
    let a = automaton_of record-bytes in
    ran_left (ran a t (configuration_of c) events out) (ran_buffer a t (configuration_of c) events out)

-- what a call over a list of clients leaves: its refusal, the lent list, whose configurations lie
-- one after the other, and the bytes lent for the answer, by a day for the output, and by a record
-- of the feed for the expected serial
pub record LeftFor : Type 0 where
  pub refusal : ℕ
  pub configurations : List Configuration
  pub answer : List ℕ
  pub output : List ℕ
  pub expected : List ℕ

unfoldable pub received_for_left : ReceivedFor → List Configuration → LeftFor
received_for_left x cs =
    record { refusal = x.refusal; configurations = cs; answer = received_for_bytes x; output = []; expected = [] }

unfoldable pub ran_for_left : RanFor → List Configuration → List ℕ → LeftFor
ran_for_left x cs out =
    record { refusal = x.refusal; configurations = cs; answer = ran_for_bytes x; output = out; expected = [] }

-- (the bytes lent for the expected serial, before and after)
unfoldable pub fed_left : Fed → List Configuration → List ℕ → LeftFor
fed_left x cs lent =
    record {
      refusal = x.answer.refusal;
      configurations = cs;
      answer = fed_bytes x;
      output = [];
      expected = expected_laid x.expected lent;
    }

-- `jaxhophasi_receive_for` over a lent record, table and list
unfoldable pub receive_for_leaves : List ℕ → List ℕ → List Configuration → ℕ → ℕ → LeftFor
receive_for_leaves record-bytes t cs i e =
    let a = automaton_of record-bytes in
    received_for_left (received_for a t cs i e) (received_clients a t cs i e)

-- `jaxhophasi_run_for` over the same, events' numbers and an output
unfoldable pub run_for_leaves : List ℕ → List ℕ → List Configuration → List ℕ → List ℕ → LeftFor
run_for_leaves record-bytes t cs vs out =
    let a = automaton_of record-bytes in
    ran_for_left (ran_for a t cs vs out) (ran_clients a t cs vs out) (ran_for_buffer a t cs vs out)

-- `jaxhophasi_feed` over the same, a record's bytes and those lent for the expected serial
unfoldable pub feed_leaves : List ℕ → List ℕ → List Configuration → List ℕ → List ℕ → LeftFor
feed_leaves record-bytes t cs s lent =
    let a = automaton_of record-bytes in
    fed_left (fed_for a t cs s (expected_of lent)) (fed_clients a t cs s (expected_of lent)) lent
