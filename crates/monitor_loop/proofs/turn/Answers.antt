use Prim.Native.Nat.{◌+◌, ◌<◌}
use mathlib.Core.Path.{◌≡◌, ◌∙◌, sym, ap}
use mathlib.Core.Bool.{true}
use lib.ListN.{length}
use native.Mathlib.Omega.{arith}
use Rattle.configuration_places.specs.Places.{input_number}
use borrow.Author.Rules.{rules}
use Rattle.configuration.specs.Configuration.{consistent_in}
use Rattle.monitor_loop.specs.Lending.{ProcessRequires}
use Rattle.monitor_loop.proofs.Taking.{Takes, symbols-small, Early, refuses-some, refuses-none, early-symbol, takes_refused, take_ready}
use Rattle.monitor_loop.proofs.Taking.{takes_stepped, fill_ready, takes_overflowed, takes_length}
use Rattle.monitor_loop.proofs.Accepting.{accepted-few, accepted-state, accepted-counts, accepted_asks, accepted_derives}
use Rattle.monitor_loop.proofs.Turning.{turns_inconsistent, opens_enters, opens-room, turns_refused, turns_accepted}
use Rattle.monitor_loop.proofs.turn.Goals as goal
use Rattle.monitor_loop.proofs.turn.Goals.{Else-not-consistent, After-early_row-row, Joined-row-eq15, then-row-eq15, else-row-eq15}

-- row 13 passed
stands : (c : Else-not-consistent) → let x = c.args in
    consistent_in x.limits.states x.limits.symbols x.limits.capacity x.classes.now x.c ≡ true
stands c = sym c.consistent.ensures ∙ c.if-not-consistent.false

enters : (c : Else-not-consistent) → let x = c.args in ProcessRequires x.limits x.next.now x.ranks.now x.table.now x.c
enters c = opens_enters _ _ _ _ _ _ _ (stands c) c.requires

room : (c : Else-not-consistent) → c.args.at + c.args.c.held < length c.args.out.now
room c = opens-room _ _ _ _ _ _ _ (stands c) c.requires

small : (c : Else-not-consistent) → length c.args.out.now < 18446744073709551616
small c = search rules

-- the row before any search
early : (c : After-early_row-row) → let x = c.args in
    Early x.limits x.next.now x.ranks.now x.table.now x.c x.event c.from-held.result c.early_row-row.result
early c =
    record {
      capacity = _;
      capacity-is = c.from.ensures;
      held-is = c.from-held.ensures;
      row_is = c.early_row-row.ensures;
    }

-- it is taken at a full buffer, or there is room
took : (c : Joined-row-eq15) → (let x = c.args in
    Early x.limits x.next.now x.ranks.now x.table.now x.c x.event c.from-held.result c.early_row-row.result)
    → let x = c.args in
    Takes x.limits x.next.now x.ranks.now x.table.now x.c x.event x.at x.out.now c.if-row-eq15.after c.if-row-eq15.out
took c y =
    elim c.if-row-eq15.branch [
      | then-row-eq15 w ↦
          rw (w.out-is, w.after-is)
          (takes_overflowed y w.if-row-eq15.true _ w.from-then-row-eq15.ensures _ _ w.overflow-after.ensures.0 _ _ w.overflow-after.ensures.1)
      | else-row-eq15 w ↦
          let fits = refuses-none _ (sym c.refuses.ensures ∙ c.if-refuses.false) w.if-row-eq15.false in
          rw (w.out-is, w.after-is)
          (takes_stepped y fits _ w.from-else-row-eq15.ensures _ _ w.step-after.ensures.0 _ _ w.step-after.ensures.1)
    ]

pub returns-then-not-consistent : goal.returns-then-not-consistent
returns-then-not-consistent c = turns_inconsistent _ _ _ _ _ _ _ _ _ (sym c.consistent.ensures ∙ c.if-not-consistent.true)

pub early_row-row-requires : goal.early_row-row-requires
early_row-row-requires c = symbols-small c.requires.lends

pub returns-then-refuses : goal.returns-then-refuses
returns-then-refuses c =
    let p = goal.at.returns-then-refuses c in
    let some = refuses-some _ (sym c.refuses.ensures ∙ c.if-refuses.true) in
    turns_refused _ _ _ _ _ _ _ (stands p.Else-not-consistent) _ _ _ _ (takes_refused (early p.After-early_row-row) some.0 some.1 _ _) some.0

pub overflow_cast-event : goal.overflow_cast-event
overflow_cast-event c =
    let p = goal.at.overflow_cast-event c in
    let l = early-symbol (early p.After-early_row-row) (enters p.Else-not-consistent) (sym c.refuses.ensures ∙ c.if-refuses.false) in
    omega arith

pub overflow-after-requires : goal.overflow-after-requires
overflow-after-requires c =
    let p = goal.at.overflow-after-requires c in
    fill_ready (early p.After-early_row-row) c.if-row-eq15.true _ c.from-then-row-eq15.ensures _ (enters p.Else-not-consistent)
    _ (room p.Else-not-consistent) (small p.Else-not-consistent)

pub overflow_cast-event-else-row-eq15 : goal.overflow_cast-event-else-row-eq15
overflow_cast-event-else-row-eq15 c =
    let p = goal.at.overflow_cast-event-else-row-eq15 c in
    let l = early-symbol (early p.After-early_row-row) (enters p.Else-not-consistent) (sym c.refuses.ensures ∙ c.if-refuses.false) in
    omega arith

pub step-after-requires : goal.step-after-requires
step-after-requires c =
    let p = goal.at.step-after-requires c in
    let fits = refuses-none _ (sym c.refuses.ensures ∙ c.if-refuses.false) c.if-row-eq15.false in
    take_ready (early p.After-early_row-row) fits _ c.from-else-row-eq15.ensures _ (enters p.Else-not-consistent)
    _ (room p.Else-not-consistent) (small p.Else-not-consistent)

pub shape_of-out-then-after-ne0 : goal.shape_of-out-then-after-ne0
shape_of-out-then-after-ne0 c =
    let p = goal.at.shape_of-out-then-after-ne0 c in
    let taken = took p.Joined-row-eq15 (early p.After-early_row-row) in
    takes_length (enters p.Else-not-consistent) _ _ _ _ _ taken

pub returns-then-after-ne0 : goal.returns-then-after-ne0
returns-then-after-ne0 c =
    let p = goal.at.returns-then-after-ne0 c in
    let taken = took p.Joined-row-eq15 (early p.After-early_row-row) in
    turns_refused _ _ _ _ _ _ _ (stands p.Else-not-consistent) _ _ _ _ taken c.if-after-ne0.true

pub places_after-places-requires : goal.places_after-places-requires
places_after-places-requires c =
    let p = goal.at.places_after-places-requires c in
    let taken = took p.Joined-row-eq15 (early p.After-early_row-row) in
    rw (early p.After-early_row-row).held-is (accepted_asks (enters p.Else-not-consistent) _ _ _ _ _ taken c.if-after-ne0.false)

pub counted-received-requires : goal.counted-received-requires
counted-received-requires c =
    let p = goal.at.counted-received-requires c in
    let taken = took p.Joined-row-eq15 (early p.After-early_row-row) in
    accepted-counts (enters p.Else-not-consistent) _ _ _ _ _ taken c.if-after-ne0.false

pub overflow_cast-after : goal.overflow_cast-after
overflow_cast-after c =
    let p = goal.at.overflow_cast-after c in
    let taken = took p.Joined-row-eq15 (early p.After-early_row-row) in
    omega (arith, accepted-state (enters p.Else-not-consistent) _ _ _ _ _ taken c.if-after-ne0.false)

pub overflow_cast-after-2 : goal.overflow_cast-after-2
overflow_cast-after-2 c =
    let p = goal.at.overflow_cast-after-2 c in
    let taken = took p.Joined-row-eq15 (early p.After-early_row-row) in
    omega (arith, accepted-few (enters p.Else-not-consistent) _ _ _ _ _ taken c.if-after-ne0.false)

pub derive-requires : goal.derive-requires
derive-requires c =
    let p = goal.at.derive-requires c in
    let taken = took p.Joined-row-eq15 (early p.After-early_row-row) in
    omega (arith, accepted_derives (enters p.Else-not-consistent) _ _ _ _ _ taken c.if-after-ne0.false, ap input_number c.counted-received.ensures)

pub shape_of-out : goal.shape_of-out
shape_of-out c =
    let p = goal.at.shape_of-out c in
    let taken = took p.Joined-row-eq15 (early p.After-early_row-row) in
    takes_length (enters p.Else-not-consistent) _ _ _ _ _ taken

pub returns : goal.returns
returns c =
    let p = goal.at.returns c in
    let taken = took p.Joined-row-eq15 (early p.After-early_row-row) in
    let places = c.places_after-places.ensures in
    rw (c.derive.ensures, c.counted-received.ensures)
    (turns_accepted _ _ _ _ _ _ _ (stands p.Else-not-consistent) _ _ _ _ taken c.if-after-ne0.false c.requires
    _ (rw (early p.After-early_row-row).held-is at places))
