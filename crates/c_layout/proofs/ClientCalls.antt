-- What the calls over a list of clients leave, as they answer.
use mathlib.Core.Path.{◌≡◌, refl, ◌∙◌, ap}
use Rattle.clients_answers.specs.Clients.{receive_for_refusal, received_for, ran_for, received_clients, ran_clients, ran_for_buffer}
use Rattle.clients_answers.proofs.Kept.{others-kept}
use Rattle.clients_answers.proofs.Single.{clients-emitted-padded}
use Rattle.clients_answers.proofs.Worded.{client-rows_as_worded}
use Rattle.c_layout.specs.Layout.{automaton_of, number_bytes, places_bytes}
use Rattle.c_layout.specs.Answers.{received_for_bytes, ran_for_bytes}
use Rattle.c_layout.specs.Calls.{received_for_left, ran_for_left, receive_for_leaves, run_for_leaves}
use Rattle.c_layout.specs.Claims.{ClientsLeftAsAnswered}
use Rattle.c_layout.proofs.Offsets.{places-seven, offsets_hold}

pub clients-left_as_answered : ClientsLeftAsAnswered
unfolding receive_for_leaves run_for_leaves received_for_left ran_for_left received_for_bytes ran_for_bytes places_bytes number_bytes ran_for
clients-left_as_answered record-bytes t cs =
    let a = automaton_of record-bytes in
    let kept = others-kept a t cs in
    let answered = (client-rows_as_worded a t cs).answered in
    record {
      event-refusal = answered;
      event-list = λ i e. refl;
      event-answer = λ i e.
          let r = received_for a t cs i e in
          let padded = clients-emitted-padded a t cs i e in
          offsets_hold.received-for r (received_clients a t cs i e) padded.1.0 (places-seven r.places padded.2.0);
      run-refusal = λ vs out. refl;
      run-list = λ vs out. refl;
      run-answer = λ vs out. offsets_hold.ran-for (ran_for a t cs vs out) (ran_clients a t cs vs out) (ran_for_buffer a t cs vs out);
      run-output = λ vs out. refl;
      event-refused = λ i e refused.
          let n : receive_for_refusal a t cs i e ≡ 0 → ⊥ = λ z. refused (answered i e ∙ z) in
          (kept.refused-event i e n, ap received_for_bytes (kept.refused-answer i e n));
      run-refused = λ vs out refused.
          (kept.refused-day vs out refused, ap ran_for_bytes (kept.refused-ran vs out refused), kept.refused-output vs out refused);
    }
