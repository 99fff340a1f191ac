-- A day as a loop goes through it: the list so far, the output so far, how much of it is written,
-- and how many events were refused.
use Rattle.std.specs.Prelude.{ℕ, ◌+◌, cond, List, [], ◌∷◌, length, get_or, set, eqb, ltb}
use Rattle.std.proofs.lemmas.List.Edits.{sets}
use Rattle.automaton.specs.declared.Automaton.{Automaton}
use Rattle.configuration.specs.declared.Configuration.{Configuration}
use Rattle.monitor_answers.specs.Turns.{turn_refusal, turn_emitted, turn_next}
use Rattle.clients_answers.specs.Clients.{none, client_of, symbol_of}

pub record Day : Type 0 where
  pub clients : List Configuration
  pub out : List ℕ
  pub written : ℕ
  pub refused : ℕ

unfoldable pub day_from : Automaton → List ℕ → List Configuration → List ℕ → ℕ → ℕ → List ℕ → Day
day_from a t cs out at n [] = record { clients = cs; out = out; written = at; refused = n }
day_from a t cs out at n (v ∷ vs) =
    let c = get_or cs (client_of v) none in
    let e = symbol_of v in
    let emitted = turn_emitted a t c e in
    cond (ltb (client_of v) (length cs))
    (day_from a t (set cs (client_of v) (turn_next a t c e)) (sets out at emitted) (at + length emitted)
    (n + cond (eqb (turn_refusal a t c e) 0) 0 1) vs)
    (day_from a t cs out at (n + 1) vs)
