use Rattle.configuration.specs.declared.Configuration.{Configuration}
use Rattle.configuration.specs.Configuration.{initial_of}
use Rattle.day_transcript.specs.declared.Progress.{Progress}
use Rattle.day_transcript.specs.declared.Phase.TheVariants.{Refused, Opening}
use Rattle.day_transcript.specs.Transcript.{session_from}
use Rattle.day_transcript.specs.Pieces.{at, without}
use Rattle.day_transcript.proofs.Beginning.{open_refused, open_solved}
use Rattle.refusal.proofs.Numbers.{number_never_0}
use Rattle.std.proofs.Common.{◌≡◌, length, refl, ap, ◌∙◌, rules}
use Rattle.day_opening.proofs.opened.Goals as goal

pub returns-in-Err : goal.returns-in-Err
returns-in-Err c =
    let long : length c.args.table.now ≡ 16384 = search rules in
    let a = c.args in
    record {
      value = (
        c.without.ensures ∙ ap (λ row. without (Refused row)) c.from.ensures ∙
            open_refused a.a c.requires a.table.now long a.place _ c.in-Err.ensures.0 (number_never_0 _),
        c.in-Err.ensures.1,
      );
      table_len = long;
    }

pub returns : goal.returns
unfolding session_from initial_of
returns c =
    let long : length c.args.table.now ≡ 16384 = search rules in
    let a = c.args in
    let made : Configuration → Progress = λ k.
    at Opening (record { automaton = a.a; configuration = k; place = a.place; accepted = 0; refused = 0 }) in
    record {
      value = (
        ap made c.empty-configuration.ensures ∙
            open_solved a.a c.requires a.table.now long a.place _ c.in_default.ensures.0 refl,
        c.in_default.ensures.1,
      );
      table_len = long;
    }
