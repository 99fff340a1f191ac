-- The published function follows Definition 3.10 and the rows.
use Prim.Native.Nat.{ℕ, suc, ◌+◌, ◌<◌, ◌≤◌}
use mathlib.Core.Path.{◌≡◌, refl, sym, ap}
use mathlib.Core.Bool.{false}
use mathlib.Core.List.{List, [], ◌∷◌, ◌++◌}
use native.Mathlib.Omega.{arith}
use lib.Dec.{eqb}
use lib.ListN.{length, take, drop}
use lib.Seq.{length-take-le}
use Rattle.base.proofs.Bools.{by, either, refuted}
use Rattle.automaton.specs.declared.Automaton.{Automaton}
use Rattle.automaton.specs.Automaton.{class, controllable, reached}
use Rattle.automaton.proofs.Classes.{class-one}
use Rattle.monitor_rule.specs.Step.{by_sets, release, remaining}
use Rattle.solver_sets.specs.Claims.{Winning}
use Rattle.monitor_rule.specs.Claims.{Full, RowsOfEvent}
use Rattle.monitor_rule.proofs.Worded.{releases-longest}
use Rattle.monitor_rule.proofs.Rows.{event-rows_as_worded, opens_as_worded}
use Rattle.monitor_rule.proofs.Longest.{release_le}
use Rattle.monitor_answers.specs.Claims.{RowOfRun}
use Rattle.monitor_answers.proofs.Worded.{room_as_worded, row_of_run}
use Rattle.enforcement.specs.Store.{Store, state_of, position_at, refusal_at, added, released, store, store_all, events, lacks_room, feed, refused_of}
use Rattle.enforcement.specs.Calls.{run_call, refusal_in, expected}
use Rattle.enforcement.specs.Published.{Releases, AdmittedAt, Refused, OpensBuffer, FollowsPublished}
use Rattle.enforcement.proofs.Stores.{by_store, store-accepts, stored-position}

-- the release, from any output and buffer with their places
moved-releases : (a : Automaton) (s : Store) → Releases a s.output s.sources s.buffer s.places (released a s)
unfolding released state_of by_sets
moved-releases a s =
    let k = release (by_sets a) a (state_of a s) s.buffer in
    let long : k ≡ length (take k s.buffer) =
    sym (length-take-le k s.buffer (release_le (by_sets a) a (state_of a s) s.buffer)) in
    record {
      front = take k s.buffer;
      put-out = refl;
      longest = releases-longest (by_sets a) a (state_of a s) s.buffer;
      moved = ap (λ n. s.sources ++ take n s.places) long;
      left = ap (λ n. drop n s.places) long;
    }

module _ (a : Automaton) (s : Store) where
  abbrev held : ℕ
  held = length s.buffer

  -- one event
  module _ (e : ℕ) where
    abbrev Taken : Type 0
    Taken = AdmittedAt a s e

    pub event-rows : RowsOfEvent (Winning a) a (reached a a.initial s.output) s.buffer s.accepted e (refusal_at a s e)
    unfolding by_sets state_of
    event-rows = event-rows_as_worded (by_sets a) a (position_at a s) e

    stored : Taken → store a s e ≡ released a (added a s e)
    unfolding store
    stored h = rw (event-rows.accepted.1 h)

    -- the release is from where the event was added
    passes : (class a e ≡ 1 → ⊥) → Taken
        → Releases a (s.output ++ e ∷ []) (s.sources ++ s.accepted ∷ []) s.buffer s.places (store a s e)
    unfolding added remaining
    passes c h =
        rw (stored h, refuted (controllable a e) (λ y. c ((class-one a e).0 y)))
        (moved-releases a (record {
          output = s.output ++ e ∷ [];
          sources = s.sources ++ s.accepted ∷ [];
          buffer = s.buffer;
          places = s.places;
          accepted = s.accepted + 1;
        }))

    holds : class a e ≡ 1 → Taken
        → Releases a s.output s.sources (s.buffer ++ e ∷ []) (s.places ++ s.accepted ∷ []) (store a s e)
    unfolding added
    holds c h =
        rw (stored h, (class-one a e).1 c)
        (moved-releases a (record {
          output = s.output;
          sources = s.sources;
          buffer = s.buffer ++ e ∷ [];
          places = s.places ++ s.accepted ∷ [];
          accepted = s.accepted + 1;
        }))

    -- at a full buffer
    opens : Full a s.buffer e → Taken → OpensBuffer a s e (store a s e)
    unfolding by_sets state_of
    opens full h =
        let z = event-rows.accepted.1 h in
        let o = opens_as_worded (by_sets a) a (position_at a s) e z full in
        rw (store-accepts a s e z)
        (record { front = (by_store a s e).emitted; put-out = refl; opened = rw (ap (λ p. p.state) (stored-position a s e)) o })

    counts : Taken → (store a s e).accepted ≡ suc s.accepted
    unfolding released added
    counts h =
        rw (stored h) (by (controllable a e) (λ c. rw c (omega arith)) (λ c. rw c (omega arith)))

    not_taken : Refused a s e → eqb (refusal_at a s e) 0 ≡ false
    not_taken h =
        either h (λ u. rw (event-rows.row-14.1 u))
        (λ r. either r (λ f. rw (event-rows.row-15.1 f)) (λ f. rw (event-rows.row-23.1 f)))

    refuses : Refused a s e → store a s e ≡ s
    unfolding store
    refuses h = rw (not_taken h)

    counted : (es : List ℕ) → Refused a s e → refused_of a s (e ∷ es) ≡ suc (refused_of a s es)
    unfolding refused_of
    counted es h = rw (refuses h, not_taken h) (omega arith)

    not-counted : (es : List ℕ) → Taken → refused_of a s (e ∷ es) ≡ refused_of a (store a s e) es
    unfolding refused_of
    not-counted es h = rw (event-rows.accepted.1 h) (omega arith)

  -- a day
  module _ (es : List ℕ) (size : ℕ) where
    run_short : size < length es + held → feed a s (events es size) ≡ s
    unfolding feed lacks_room
    run_short h = rw ((room_as_worded size es held).lacks.1 h)

    run-fed : length es + held ≤ size → feed a s (events es size) ≡ store_all a s es
    unfolding feed lacks_room
    run-fed h = rw ((room_as_worded size es held).enough.1 h)

  run_row : (es out : List ℕ) → RowOfRun (length out) es held (refusal_in (expected a s (run_call es out)))
  unfolding expected refusal_in lacks_room
  run_row es out = row_of_run (length out) es held _ (λ h. rw h) (λ h. rw h)

pub follows_published : FollowsPublished
unfolding expected refusal_in store_all feed refused_of
follows_published a s = record {
  passes = passes a s;
  holds = holds a s;
  counts = counts a s;
  opens = opens a s;
  refuses = refuses a s;
  event-fed = λ e. refl;
  none-fed = refl;
  first-fed = λ e es. refl;
  run_short = run_short a s;
  run-fed = run-fed a s;
  none-counted = refl;
  counted = counted a s;
  not-counted = not-counted a s;
  event-row = event-rows a s;
  run_row = run_row a s;
}
