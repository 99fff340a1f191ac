use Rattle.std.proofs.Common.{◌≡◌, ◌∙◌, rules}
use Rattle.c_layout.proofs.FeedCalls.{lays_already, lays_anew}
use Rattle.c_records.proofs.lay_expected.Goals as goal

pub returns-then-ne : goal.returns-then-ne
returns-then-ne c =
    let other : c.expected_of.result ≡ c.args.x → ⊥ = search rules in
    c.expected_bytes.ensures ∙ lays_anew _ _ _ c.expected_of.ensures other

pub returns-else-ne : goal.returns-else-ne
returns-else-ne c =
    let same : c.expected_of.result ≡ c.args.x = search rules in
    lays_already _ _ _ c.expected_of.ensures same
