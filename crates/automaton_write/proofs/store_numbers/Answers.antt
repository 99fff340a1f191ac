use lib.ListN.{length}
use Prim.Native.Nat.{◌≤◌, ◌+◌, ◌*◌}
use mathlib.Core.Path.{◌∙◌}
use Rattle.automaton.proofs.Facts.{Valid, valid_facts}
use Rattle.automaton_format.proofs.Storing.{numbers-length, parts_join}
use native.Mathlib.Omega.{arith}
use Rattle.automaton_write.proofs.store_numbers.Goals as goal

pub store_four-requires : goal.store_four-requires
store_four-requires c = let room : let t = c.args.a.now in
    4 + t.symbols + t.states + t.states * t.symbols ≤ length c.args.out.now = let stands : Valid c.args.a.now = valid_facts c.args.a.now c.requires.0 in
    omega (arith, numbers-length c.args.a.now (stands), c.requires.1) in
    let l : 4 ≤ length c.args.out.now = omega (arith, room) in
    l

pub copy-requires : goal.copy-requires
copy-requires c = let stands : Valid c.args.a.now = valid_facts c.args.a.now c.requires.0 in
    let room : let t = c.args.a.now in
    4 + t.symbols + t.states + t.states * t.symbols ≤ length c.args.out.now = let stands : Valid c.args.a.now = valid_facts c.args.a.now c.requires.0 in
    omega (arith, numbers-length c.args.a.now (stands), c.requires.1) in
    let v = stands in
    let z = c.from-m.ensures in
    let l : 4 + c.from-m.result ≤ length c.store_four.new.out = omega (arith, room, z, c.store_four.auto.out) in
    (omega (arith, z, v.classes-length, v.symbols-high), l)

pub copy-requires-2 : goal.copy-requires-2
copy-requires-2 c = let stands : Valid c.args.a.now = valid_facts c.args.a.now c.requires.0 in
    let room : let t = c.args.a.now in
    4 + t.symbols + t.states + t.states * t.symbols ≤ length c.args.out.now = let stands : Valid c.args.a.now = valid_facts c.args.a.now c.requires.0 in
    omega (arith, numbers-length c.args.a.now (stands), c.requires.1) in
    let v = stands in
    let z = c.from-m.ensures in
    let y = c.from-n.ensures in
    let l : 4 + c.from-m.result + c.from-n.result ≤ length c.copy.new.out =
    omega (arith, room, z, y, c.store_four.auto.out, c.copy.auto.out) in
    (omega (arith, y, v.accepting-length, v.states-high), l)

pub store_states-requires : goal.store_states-requires
store_states-requires c = let stands : Valid c.args.a.now = valid_facts c.args.a.now c.requires.0 in
    let room : let t = c.args.a.now in
    4 + t.symbols + t.states + t.states * t.symbols ≤ length c.args.out.now = let stands : Valid c.args.a.now = valid_facts c.args.a.now c.requires.0 in
    omega (arith, numbers-length c.args.a.now (stands), c.requires.1) in
    let v = stands in
    let l : 4 + c.from-m.result + c.from-n.result + c.from-n.result * c.from-m.result ≤ length c.copy-2.new.out =
    rw (c.from-m.ensures, c.from-n.ensures)
    (omega (arith, room, c.store_four.auto.out, c.copy.auto.out, c.copy-2.auto.out)) in
    (omega (arith, c.from-n.ensures, v.states-high), omega (arith, c.from-m.ensures, v.symbols-high), l)

pub returns : goal.returns
returns c = let stands : Valid c.args.a.now = valid_facts c.args.a.now c.requires.0 in
    let a = c.args in
    c.store_states.ensures ∙
    rw (c.copy-2.ensures, c.copy.ensures, c.store_four.ensures, c.from-n.ensures, c.from-m.ensures)
    (parts_join a.a.now (stands) a.out.now)
