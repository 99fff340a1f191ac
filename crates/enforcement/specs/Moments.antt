-- The accepted events of a list of calls, one by one, also those inside a day.
use Rattle.std.specs.Prelude.{ℕ, cond, List, [], ◌∷◌, ◌++◌, eqb}
use Rattle.automaton.specs.declared.Automaton.{Automaton}
use Rattle.configuration.specs.declared.Configuration.{Configuration}
use Rattle.configuration.specs.Configuration.{Position, position_of}
use Rattle.monitor_rule.specs.Step.{by_table, Effect, effect_from, sources, advance, event_refusal}
use Rattle.monitor_answers.specs.Answers.{receive_refusal, run_refusal}
use Rattle.enforcement.specs.Calls.{Call, receive_call, run_call, reply, handed_back}

-- an accepted event: the events accepted and the symbols emitted before it, the position that it
-- meets, and the event
pub record Moment : Type 0 where
  pub past : List ℕ
  pub output : List ℕ
  pub position : Position
  pub event : ℕ

-- what the monitor makes of it
unfoldable pub effect_at : Automaton → List ℕ → Moment → Effect
effect_at a t m = effect_from (by_table a t) a m.position m.event

-- and the position after it
abbrev pub position_after : Automaton → List ℕ → Moment → Position
position_after a t m = advance (by_table a t) a m.position m.event

-- what they emit, end to end
unfoldable pub emitted_at : Automaton → List ℕ → List Moment → List ℕ
emitted_at a t [] = []
emitted_at a t (m ∷ ms) = (effect_at a t m).emitted ++ emitted_at a t ms

-- and the places in the input of that
unfoldable pub sources_at : Automaton → List ℕ → List Moment → List ℕ
sources_at a t [] = []
sources_at a t (m ∷ ms) = sources (by_table a t) a m.position m.event ++ sources_at a t ms

-- the accepted ones of a list of events, as `run_of` goes through them
unfoldable pub within : Automaton → List ℕ → List ℕ → List ℕ → Position → List ℕ → List Moment
within a t past output p [] = []
within a t past output p (e ∷ es) =
    let m : Moment = record { past = past; output = output; position = p; event = e } in
    cond (eqb (event_refusal (by_table a t) a p e) 0)
    (m ∷ within a t (past ++ e ∷ []) (output ++ (effect_at a t m).emitted) (position_after a t m) es)
    (within a t past output p es)

-- the events that a call brings: none where it is refused
unfoldable pub brought_by : Automaton → List ℕ → Configuration → Call → List ℕ
brought_by a t c (receive_call e) = cond (eqb (receive_refusal a t c e) 0) (e ∷ []) []
brought_by a t c (run_call es out) = cond (eqb (run_refusal a t c es out) 0) es []

unfoldable pub brought_all : Automaton → List ℕ → Configuration → List Call → List ℕ
brought_all a t c [] = []
brought_all a t c (x ∷ xs) = brought_by a t c x ++ brought_all a t (handed_back (reply a t c x)) xs

-- all accepted events of the calls
unfoldable pub moments : Automaton → List ℕ → Configuration → List Call → List Moment
moments a t c xs = within a t [] [] (position_of c) (brought_all a t c xs)
