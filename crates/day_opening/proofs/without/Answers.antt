use mathlib.Core.Path.{ap₂}
use Rattle.automaton.specs.declared.Automaton.{Automaton}
use Rattle.configuration.specs.declared.Configuration.{Configuration}
use Rattle.configuration.specs.Configuration.{initial_of}
use Rattle.day_transcript.specs.declared.Progress.{Progress}
use Rattle.day_transcript.specs.Transcript.{session_from}
use Rattle.day_transcript.specs.Pieces.{without, at}
use Rattle.day_opening.proofs.without.Goals as goal

pub returns : goal.returns
unfolding without session_from initial_of
returns c =
    let made : Automaton → Configuration → Progress = λ a k.
    at c.args.phase (record { automaton = a; configuration = k; place = 0; accepted = 0; refused = 0 })
    in ap₂ made c.blank.ensures c.empty.ensures
