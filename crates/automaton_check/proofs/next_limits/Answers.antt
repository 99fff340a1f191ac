use Rattle.std.proofs.Common.{◌∙◌, ◌++◌, ℕ, List, ap, drop, replicate}
use Rattle.std.proofs.lemmas.List.{drop-replicate, length-take-le}
use Rattle.automaton.specs.Arrays.{next_limits}
use Rattle.automaton_check.proofs.next_limits.Goals as goal

pub returns : goal.returns
unfolding next_limits
returns c =
    let m = c.args.m in
    let n = c.args.n in
    ap (λ (l : List ℕ). l ++ drop m (replicate 16 1)) (c.fill.ensures.after (λ y e. e) ∙ ap (λ k. replicate k n) (length-take-le m (replicate 16 1) c.requires)) ∙
    ap (λ (l : List ℕ). replicate m n ++ l) (drop-replicate m 16 1)
