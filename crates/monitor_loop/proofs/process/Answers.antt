use Prim.Native.Nat.{◌+◌, ◌*◌, ◌<◌, ◌≤◌}
use mathlib.Core.Path.{◌≡◌, refl, sym, ◌∙◌, ap}
use mathlib.Core.Bool.{true, ◌&&◌}
use lib.Dec.{eqb}
use lib.ListN.{length, get_or, set, take}
use lib.Seq.{sets}
use native.Mathlib.Omega.{arith}
use borrow.Author.Rules.{rules}
use Rattle.base.specs.Masks.{has}
use Rattle.base.proofs.Bools.{and-pair}
use Rattle.monitor_rule.specs.Fronts.{rest_in, over}
use Rattle.monitor_places.proofs.Laws.{after_same}
use Rattle.monitor_step.specs.Stepping.{stepped, StepRequires}
use Rattle.monitor_step.proofs.Steps.{many}
use Rattle.monitor_step.proofs.Overflows.{overflowed-taken}
use Rattle.monitor_loop.specs.Lending.{derived}
use Rattle.monitor_loop.proofs.Taking.{Takes, symbols-small, next_small, Early, refuses-some, refuses-none, passing-fits, early-symbol}
use Rattle.monitor_loop.proofs.Taking.{takes_refused, take_ready, takes_stepped, fill_ready, takes_overflowed}
use Rattle.monitor_loop.proofs.Quiet.{quiet_none, quiet_emits, quiet_steps, quiet_goes_on}
use Rattle.monitor_loop.proofs.Running.{going_begins, going_enters, going_kept, going_room, going_state, going_many, going_held}
use Rattle.monitor_loop.proofs.Running.{going_derives, going_refuses, going_asks, going_there, going_counts, going_accepts, going_ends}
use Rattle.monitor_loop.proofs.Running.{going_finishes}
use Rattle.monitor_loop.proofs.process.Goals as goal
use Rattle.monitor_loop.proofs.process.Goals.{After-early_row-row, Else-refuses, Then-leads_to_quiet, Joined-row-eq15, then-row-eq15, else-row-eq15}

-- the row before any search
early : (c : After-early_row-row) → let l = c.loop-event in
    let x = c.args in
    Early x.limits x.next.now x.ranks.now x.table.now (derived l.state l.held l.buffer l.places l.received)
    (get_or x.events.now l.event-index 0) l.held c.early_row-row.result
early c = record { capacity = _; capacity-is = c.from.ensures; held-is = refl; row_is = c.early_row-row.ensures }

symbol : (c : Else-refuses) → (let l = c.loop-event in
    let x = c.args in
    Early x.limits x.next.now x.ranks.now x.table.now (derived l.state l.held l.buffer l.places l.received)
    (get_or x.events.now l.event-index 0) l.held c.early_row-row.result)
    → get_or c.args.events.now c.loop-event.event-index 0 < 16
symbol c y = early-symbol y (going_enters c.loop-event.invariant.0) (sym c.refuses.ensures ∙ c.if-refuses.false)

-- there is room: a step may be taken
ready : (c : Else-refuses) → (let l = c.loop-event in
    let x = c.args in
    Early x.limits x.next.now x.ranks.now x.table.now (derived l.state l.held l.buffer l.places l.received)
    (get_or x.events.now l.event-index 0) l.held c.early_row-row.result) → c.early_row-row.result ≡ 0
    → let l = c.loop-event in
    let x = c.args in
    StepRequires x.next.now x.ranks.now x.limits.controllables x.table.now l.state l.buffer l.held
    (get_or x.events.now l.event-index 0) (length l.out) l.written
ready c y z =
    let g = c.loop-event.invariant.0 in
    take_ready y z _ refl _ (going_enters g) _ (going_room g c.loop-event-test.true) (rw (going_kept g) g.indexed)

-- an event that leads to a quiet state
leads : (c : Then-leads_to_quiet) → let x = c.args in
    let e = get_or x.events.now c.loop-event.event-index 0 in
    (eqb (get_or x.ranks.now e 0) 0 && has c.loop-event.quiet (get_or x.next.now (c.loop-event.state * 16 + e) 0)) ≡ true
leads c = sym c.leads_to_quiet.ensures ∙ c.if-leads_to_quiet.true

fits : (c : Then-leads_to_quiet) → (let l = c.loop-event in
    let x = c.args in
    Early x.limits x.next.now x.ranks.now x.table.now (derived l.state l.held l.buffer l.places l.received)
    (get_or x.events.now l.event-index 0) l.held c.early_row-row.result)
    → c.early_row-row.result ≡ 0
fits c y = refuses-none _ (sym c.refuses.ensures ∙ c.if-refuses.false) (passing-fits y (and-pair _ _ (leads c)).0)

quietly : (c : Then-leads_to_quiet) → (let l = c.loop-event in
    let x = c.args in
    Early x.limits x.next.now x.ranks.now x.table.now (derived l.state l.held l.buffer l.places l.received)
    (get_or x.events.now l.event-index 0) l.held c.early_row-row.result) → (let l = c.loop-event in
    let x = c.args in
    StepRequires x.next.now x.ranks.now x.limits.controllables x.table.now l.state l.buffer l.held
    (get_or x.events.now l.event-index 0) (length l.out) l.written)
    → let l = c.loop-event in
    let x = c.args in
    let e = get_or x.events.now l.event-index 0 in
    Takes x.limits x.next.now x.ranks.now x.table.now (derived l.state l.held l.buffer l.places l.received) e l.written l.out
    (record { row = 0; state = get_or x.next.now (l.state * 16 + e) 0; held = l.held; buffer = l.buffer; released = 0; written = l.written + 1 })
    (set l.out l.written e)
quietly c y r =
    let known = c.loop-event.invariant.1 in
    takes_stepped y (fits c y) _ refl _ _ (quiet_steps known (many r) _ _ _ (leads c) r.padded) _ _
    (ap (sets _ _) (quiet_emits known (many r) _ _ 0 (leads c)))

-- any other: it is taken at a full buffer, or there is room
took : (c : Joined-row-eq15) → (let l = c.loop-event in
    let x = c.args in
    Early x.limits x.next.now x.ranks.now x.table.now (derived l.state l.held l.buffer l.places l.received)
    (get_or x.events.now l.event-index 0) l.held c.early_row-row.result)
    → let l = c.loop-event in
    let x = c.args in
    Takes x.limits x.next.now x.ranks.now x.table.now (derived l.state l.held l.buffer l.places l.received)
    (get_or x.events.now l.event-index 0) l.written l.out c.if-row-eq15.after c.if-row-eq15.out
took c y =
    elim c.if-row-eq15.branch [
      | then-row-eq15 w ↦
          rw (w.out-is, w.after-is)
          (takes_overflowed y w.if-row-eq15.true _ refl _ _ w.overflow-after.ensures.0 _ _ w.overflow-after.ensures.1)
      | else-row-eq15 w ↦
          let room = refuses-none _ (sym c.refuses.ensures ∙ c.if-refuses.false) w.if-row-eq15.false in
          rw (w.out-is, w.after-is) (takes_stepped y room _ refl _ _ w.step-after.ensures.0 _ _ w.step-after.ensures.1)
    ]

-- an accepted one leaves what a step leaves
stepped-is : (c : Joined-row-eq15) → c.if-row-eq15.after.row ≡ 0 → let l = c.loop-event in
    let x = c.args in
    c.if-row-eq15.after ≡ stepped (rest_in x.table.now x.ranks.now x.limits.controllables) (over x.ranks.now x.next.now) l.state
    (take l.held l.buffer) (get_or x.events.now l.event-index 0) l.written
stepped-is c z =
    elim c.if-row-eq15.branch [
      | then-row-eq15 w ↦ overflowed-taken _ _ _ _ _ _ _ _ (w.after-is ∙ w.overflow-after.ensures.0) z
      | else-row-eq15 w ↦ w.after-is ∙ w.step-after.ensures.0
    ]

pub loop-event-init : goal.loop-event-init
loop-event-init c = let indexed : length c.args.out.now < 18446744073709551616 = search rules in
    let p = c.requires in
    (going_begins p.0 c.from-state.ensures c.from-held.ensures _ _ p.1 (indexed), quiet_none _ _ _ _ _ _)

pub early_row-row-requires : goal.early_row-row-requires
early_row-row-requires c = symbols-small c.loop-event.invariant.0.enters.lends

pub overflow_add-refused : goal.overflow_add-refused
overflow_add-refused c =
    let g = c.loop-event.invariant.0 in
    omega (arith, g.passed_over, g.indexed, g.enough, c.loop-event-test.true)

pub loop-event-preserved-then-refuses : goal.loop-event-preserved-then-refuses
loop-event-preserved-then-refuses c =
    let p = goal.at.loop-event-preserved-then-refuses c in
    let y = early p.After-early_row-row in
    let v = c.loop-event.invariant in
    let some = refuses-some _ (sym c.refuses.ensures ∙ c.if-refuses.true) in
    (going_refuses v.0 c.loop-event-test.true _ _ (takes_refused y some.0 some.1 _ _) some.0, v.1)

pub overflow_cast-event : goal.overflow_cast-event
overflow_cast-event c =
    let p = goal.at.overflow_cast-event c in
    let y = early p.After-early_row-row in
    let l = symbol p.Else-refuses y in
    omega arith

pub leads_to_quiet-requires : goal.leads_to_quiet-requires
leads_to_quiet-requires c =
    let p = goal.at.leads_to_quiet-requires c in
    let y = early p.After-early_row-row in
    let g = c.loop-event.invariant.0 in
    (going_state g, symbol p.Else-refuses y, next_small g.enters.lends)

pub overflow_cast-out : goal.overflow_cast-out
overflow_cast-out c =
    let p = goal.at.overflow_cast-out c in
    let y = early p.After-early_row-row in
    let l = symbol p.Else-refuses y in
    omega arith

pub bounds-out-written : goal.bounds-out-written
bounds-out-written c =
    let p = goal.at.bounds-out-written c in
    let y = early p.After-early_row-row in
    let r = ready p.Else-refuses y (fits p.Then-leads_to_quiet y) in
    omega (arith, r.room)

pub overflow_mul-state : goal.overflow_mul-state
overflow_mul-state c =
    let p = goal.at.overflow_mul-state c in
    let y = early p.After-early_row-row in
    let r = ready p.Else-refuses y (fits p.Then-leads_to_quiet y) in
    omega (arith, r.state_low)

pub overflow_cast-event-then-leads_to_quiet : goal.overflow_cast-event-then-leads_to_quiet
overflow_cast-event-then-leads_to_quiet c =
    let p = goal.at.overflow_cast-event-then-leads_to_quiet c in
    let y = early p.After-early_row-row in
    let l = symbol p.Else-refuses y in
    omega arith

pub overflow_add-state : goal.overflow_add-state
overflow_add-state c =
    let p = goal.at.overflow_add-state c in
    let y = early p.After-early_row-row in
    let r = ready p.Else-refuses y (fits p.Then-leads_to_quiet y) in
    omega (arith, r.state_low, r.symbol_low)

pub bounds-next-state : goal.bounds-next-state
bounds-next-state c =
    let p = goal.at.bounds-next-state c in
    let y = early p.After-early_row-row in
    let r = ready p.Else-refuses y (fits p.Then-leads_to_quiet y) in
    omega (arith, r.state_low, r.symbol_low)

pub counted-received-requires : goal.counted-received-requires
counted-received-requires c =
    let p = goal.at.counted-received-requires c in
    let y = early p.After-early_row-row in
    let r = ready p.Else-refuses y (fits p.Then-leads_to_quiet y) in
    going_counts c.loop-event.invariant.0 c.loop-event-test.true _ _ (quietly p.Then-leads_to_quiet y r) refl

pub overflow_add-written : goal.overflow_add-written
overflow_add-written c =
    let p = goal.at.overflow_add-written c in
    let y = early p.After-early_row-row in
    let r = ready p.Else-refuses y (fits p.Then-leads_to_quiet y) in
    omega (arith, r.room, r.indexed)

pub loop-event-preserved-then-leads_to_quiet : goal.loop-event-preserved-then-leads_to_quiet
loop-event-preserved-then-leads_to_quiet c =
    let p = goal.at.loop-event-preserved-then-leads_to_quiet c in
    let y = early p.After-early_row-row in
    let r = ready p.Else-refuses y (fits p.Then-leads_to_quiet y) in
    let v = c.loop-event.invariant in
    let h = c.loop-event-test.true in
    let taken = quietly p.Then-leads_to_quiet y r in
    let all : c.loop-event.held ≤ c.loop-event.held = omega arith in
    let stay = after_same (going_asks v.0 h _ _ taken refl) c.loop-event.received refl all in
    (rw (c.counted-received.ensures, c.from-state-then-leads_to_quiet.ensures) (going_accepts v.0 h _ _ taken refl _ stay), v.1)

pub overflow_cast-event-then-row-eq15 : goal.overflow_cast-event-then-row-eq15
overflow_cast-event-then-row-eq15 c =
    let p = goal.at.overflow_cast-event-then-row-eq15 c in
    let y = early p.After-early_row-row in
    let l = symbol p.Else-refuses y in
    omega arith

pub overflow-after-requires : goal.overflow-after-requires
overflow-after-requires c =
    let p = goal.at.overflow-after-requires c in
    let y = early p.After-early_row-row in
    let g = c.loop-event.invariant.0 in
    fill_ready y c.if-row-eq15.true _ refl _ (going_enters g) _ (going_room g c.loop-event-test.true) (rw (going_kept g) g.indexed)

pub overflow_cast-event-else-row-eq15 : goal.overflow_cast-event-else-row-eq15
overflow_cast-event-else-row-eq15 c =
    let p = goal.at.overflow_cast-event-else-row-eq15 c in
    let y = early p.After-early_row-row in
    let l = symbol p.Else-refuses y in
    omega arith

pub step-after-requires : goal.step-after-requires
step-after-requires c =
    let p = goal.at.step-after-requires c in
    let y = early p.After-early_row-row in
    ready p.Else-refuses y (refuses-none _ (sym c.refuses.ensures ∙ c.if-refuses.false) c.if-row-eq15.false)

pub overflow_add-refused-then-after-ne0 : goal.overflow_add-refused-then-after-ne0
overflow_add-refused-then-after-ne0 c =
    let g = c.loop-event.invariant.0 in
    omega (arith, g.passed_over, g.indexed, g.enough, c.loop-event-test.true)

pub loop-event-preserved-then-after-ne0 : goal.loop-event-preserved-then-after-ne0
loop-event-preserved-then-after-ne0 c =
    let p = goal.at.loop-event-preserved-then-after-ne0 c in
    let y = early p.After-early_row-row in
    let taken = took p.Joined-row-eq15 y in
    let v = c.loop-event.invariant in
    (going_refuses v.0 c.loop-event-test.true _ _ taken c.if-after-ne0.true, v.1)

pub places_after-kept-requires : goal.places_after-kept-requires
places_after-kept-requires c =
    let p = goal.at.places_after-kept-requires c in
    let y = early p.After-early_row-row in
    let taken = took p.Joined-row-eq15 y in
    going_asks c.loop-event.invariant.0 c.loop-event-test.true _ _ taken c.if-after-ne0.false

pub quiet_after-quiet-requires : goal.quiet_after-quiet-requires
quiet_after-quiet-requires c =
    let p = goal.at.quiet_after-quiet-requires c in
    let y = early p.After-early_row-row in
    let taken = took p.Joined-row-eq15 y in
    going_there c.loop-event.invariant.0 c.loop-event-test.true _ _ taken c.if-after-ne0.false

pub counted-received-requires-in-loop-event : goal.counted-received-requires-in-loop-event
counted-received-requires-in-loop-event c =
    let p = goal.at.counted-received-requires-in-loop-event c in
    let y = early p.After-early_row-row in
    let taken = took p.Joined-row-eq15 y in
    going_counts c.loop-event.invariant.0 c.loop-event-test.true _ _ taken c.if-after-ne0.false

pub loop-event-preserved : goal.loop-event-preserved
loop-event-preserved c =
    let p = goal.at.loop-event-preserved c in
    let y = early p.After-early_row-row in
    let taken = took p.Joined-row-eq15 y in
    let v = c.loop-event.invariant in (
      rw c.counted-received-in-loop-event.ensures
          (going_accepts v.0 c.loop-event-test.true _ _ taken c.if-after-ne0.false _ c.places_after-kept.ensures),
      rw c.quiet_after-quiet.ensures (quiet_goes_on v.1 (going_many v.0) _ _ _ _ (stepped-is p.Joined-row-eq15 c.if-after-ne0.false)),
    )

pub overflow_cast-state : goal.overflow_cast-state
overflow_cast-state c = let l = going_state c.loop-event.invariant.0 in omega arith

pub overflow_cast-held : goal.overflow_cast-held
overflow_cast-held c = let l = going_held c.loop-event.invariant.0 in omega arith

pub derive-requires : goal.derive-requires
derive-requires c = going_derives c.loop-event.invariant.0

pub shape_of-out : goal.shape_of-out
shape_of-out c = going_kept c.loop-event.invariant.0

pub returns : goal.returns
returns c =
    going_finishes c.requires.0 c.from-state.ensures c.from-held.ensures _ _ _ _
    (rw c.derive.ensures (going_ends c.loop-event.invariant.0 c.loop-event-test.false))
