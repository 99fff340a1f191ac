use Rattle.notation.proofs.Checks.{pack_refused, pack_short, pack_fits, pack_done}
use Rattle.notation_pack.proofs.pack.Goals as goal

pub returns-in-Err : goal.returns-in-Err
returns-in-Err c = pack_refused _ _ _ c.in-Err.ensures

pub returns-then-out-length : goal.returns-then-out-length
returns-then-out-length c = pack_short _ _ _ c.in-Ok.ensures c.if-out-length.true

pub store_groups-requires : goal.store_groups-requires
store_groups-requires c = pack_fits _ _ _ c.in-Ok.ensures c.if-out-length.false

pub returns : goal.returns
returns c = record { value = pack_done _ _ _ c.in-Ok.ensures c.if-out-length.false; out_after = c.store_groups.ensures }
