-- Noninterference, from isolation.
use Prim.Native.Nat.{ℕ}
use mathlib.Core.Path.{◌≡◌, refl, sym, ◌∙◌, ap}
use mathlib.Core.List.{List, [], ◌∷◌}
use lib.ListN.{length}
use lib.Dec.{eqb}
use borrow.Author.Tests.{eqb-true, eqb-false, lt-ltb}
use Rattle.base.specs.Rows.{first}
use Rattle.base.proofs.Bools.{by}
use Rattle.automaton.specs.declared.Automaton.{Automaton}
use Rattle.configuration.specs.declared.Configuration.{Configuration}
use Rattle.monitor_answers.specs.Answers.{too_short}
use Rattle.clients_answers.specs.Listed.{part_of, changed_by}
use Rattle.clients_answers.specs.Clients.{named, monitored, list_refusal, client_rows, held_in_all, room_rows}
use Rattle.clients_answers.specs.Clients.{receive_for_refusal, received_for, received_clients, run_for_refusal, day_outcomes, ran_clients}
use Rattle.clients_answers.specs.Claims.{Noninterference, EventNoninterference}
use Rattle.clients_answers.proofs.Isolation.{changed-own, isolated}
use Rattle.clients_answers.proofs.Refusals.{list-passes, list_clear, list-stands}

-- a day that is not refused by 16 is refused by what all days over this count are
module _ (a : Automaton) (t : List ℕ) (cs : List Configuration) (vs out : List ℕ) where
  pub not_16 : (run_for_refusal a t cs vs out ≡ 16 → ⊥) → run_for_refusal a t cs vs out ≡ list_refusal a t (length cs)
  unfolding run_for_refusal first
  not_16 n =
      let r = list_refusal a t (length cs) in
      by (eqb r 0)
      (λ h.
      let z = eqb-true r 0 h in
      let on = list-passes a t (length cs) (room_rows a cs vs out) (list_clear a t (length cs) z) in
      by (too_short (length out) vs (held_in_all a cs)) (λ b. absurd (n (on ∙ rw b))) (λ b. on ∙ rw b (sym z)))
      (λ h. list-stands a t (length cs) (room_rows a cs vs out) (eqb-false r 0 h))

-- of nothing
pub part_none : {O : Type 0} (g : ℕ) (xs : List (ℕ × ℕ)) → part_of {O = O} g xs [] ≡ []
unfolding part_of
part_none g [] = refl
part_none g (x ∷ xs) = refl

pub noninterference : Noninterference
unfolding day_outcomes ran_clients
noninterference a t cs ds vs ws out room g h long gl hl same events n16 m16 =
    let ours = not_16 a t cs vs out n16 in
    let theirs = not_16 a t ds ws room m16 in
    let both : list_refusal a t (length cs) ≡ list_refusal a t (length ds) = ap (λ (n : ℕ). list_refusal a t n) long in
    let p = isolated (monitored a t) (named vs) cs g gl in
    let q = isolated (monitored a t) (named ws) ds h hl in
    record {
      refusal = ours ∙ both ∙ sym theirs;
      part = by (eqb (list_refusal a t (length ds)) 0)
          (λ z. rw (ours, both, theirs, z) (p.part ∙ (rw (same, events) (sym q.part))))
          (λ z. rw (ours, both, theirs, z) (part_none g (named vs) ∙ sym (part_none h (named ws))));
      last = by (eqb (list_refusal a t (length ds)) 0)
          (λ z. rw (ours, both, theirs, z) (p.last ∙ (rw (same, events) (sym q.last))))
          (λ z. rw (ours, both, theirs, z) same);
    }

pub event_noninterference : EventNoninterference
unfolding receive_for_refusal received_for received_clients client_rows changed_by
event_noninterference a t cs ds g h e long gl hl same =
    let both : list_refusal a t (length cs) ≡ list_refusal a t (length ds) = ap (λ (n : ℕ). list_refusal a t n) long in (
      rw (lt-ltb g (length cs) gl, lt-ltb h (length ds) hl, long, same),
      by (eqb (list_refusal a t (length ds)) 0)
          (λ z. rw (both, z) (changed-own (monitored a t) cs g e gl ∙ rw same (sym (changed-own (monitored a t) ds h e hl))))
          (λ z. rw (both, z) same),
    )
