use lib.ListN.{length-set}
use Rattle.varint.proofs.Laws.{bytes_one, bytes-two, bytes-three, too_large, no_room, room}
use native.Mathlib.Omega.{arith}
use borrow.Author.Rules.{rules}
use Rattle.varint.proofs.write.Goals as goal

pub returns-then-out-lt1 : goal.returns-then-out-lt1
returns-then-out-lt1 c = no_room _ _ _ (bytes_one _ (omega arith)) (omega arith) (omega arith)

pub returns-then-v-lt128 : goal.returns-then-v-lt128
returns-then-v-lt128 c = room _ _ _ (bytes_one _ (omega arith)) (omega arith) (omega arith)

pub returns-then-out-lt2 : goal.returns-then-out-lt2
returns-then-out-lt2 c = no_room _ _ _ (bytes-two _ (omega arith) (omega arith)) (omega arith) (omega arith)

pub returns-then-v-lt16384 : goal.returns-then-v-lt16384
returns-then-v-lt16384 c = room _ _ _ (bytes-two _ (omega arith) (omega arith)) (omega arith) (omega arith)

pub returns-then-v-ge2097152 : goal.returns-then-v-ge2097152
returns-then-v-ge2097152 c = too_large _ _ (omega arith)

pub returns-then-out-lt3 : goal.returns-then-out-lt3
returns-then-out-lt3 c = no_room _ _ _ (bytes-three _ (omega arith) (omega arith)) (omega arith) (omega arith)

pub bounds-out-1-2 : goal.bounds-out-1-2
bounds-out-1-2 c = simp length-set (omega arith)

pub returns : goal.returns
returns c = room _ _ _ (bytes-three _ (omega arith) (omega arith)) (omega arith) (omega arith)
