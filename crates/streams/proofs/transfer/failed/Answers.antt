use Rattle.std.proofs.Common.{◌∙◌, sym, rules}
use denote.Enum.Bare.{same_true, same_false}
use Rattle.std.specs.contracts.io.ErrorKind.{the_type}
use Rattle.streams.proofs.Transfers.{failed-by_signal, failed_otherwise}
use Rattle.streams.proofs.transfer.failed.Goals as goal

pub returns-then-eq : goal.returns-then-eq
returns-then-eq c =
    c.interrupted.ensures ∙ failed-by_signal _ _ (sym c.kind.ensures ∙ same_true the_type (search rules) _ _ (sym c.if-eq.ensures))

pub returns : goal.returns
returns c = c.ended.ensures ∙ failed_otherwise _ _ (λ e. same_false the_type _ _ (sym c.if-eq.ensures) (c.kind.ensures ∙ e))
