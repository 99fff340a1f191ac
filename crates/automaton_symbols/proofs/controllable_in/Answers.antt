use Rattle.std.proofs.Common.{◌≡◌, ◌∙◌, take, eqb, rules}
use Rattle.std.specs.List.{count_by}
use Rattle.automaton_symbols.proofs.Counts.{counted_front}
use Rattle.automaton_symbols.proofs.controllable_in.Goals as goal

pub returns : goal.returns
returns c =
    let counted : c.count.result ≡ count_by (λ x. eqb x 1) (take c.args.m c.args.classes.now) = search rules in
    counted ∙ counted_front c.args.classes.now c.args.m (search rules)
