use Rattle.std.proofs.Common.{rules}
use Rattle.c_layout.proofs.FeedCalls.{expected-none, expected-some}
use Rattle.c_records.proofs.expected_of.Goals as goal

pub returns-then-bytes-eq0 : goal.returns-then-bytes-eq0
returns-then-bytes-eq0 c = expected-none _ c.if-bytes-eq0.true

pub returns : goal.returns
returns c = expected-some _ (search rules) c.if-bytes-eq0.false _ (c.from_le_bytes.ensures)
