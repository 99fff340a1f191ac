-- The clients' configurations are those of their functions, event by event.
use Prim.Native.Nat.{ℕ, ◌<◌, ◌≤◌}
use mathlib.Core.Path.{◌≡◌, refl, sym, ◌∙◌, ap, ap₂}
use mathlib.Core.Bool.{true}
use mathlib.Core.List.{List, [], ◌∷◌, ◌++◌}
use native.Mathlib.Omega.{arith}
use lib.ListN.{length, get_or}
use lib.Dec.{ltb}
use borrow.Author.Tests.{ltb-true, ltb-false}
use Rattle.base.proofs.Bools.{by}
use Rattle.automaton.specs.declared.Automaton.{Automaton}
use Rattle.automaton.specs.Automaton.{valid}
use Rattle.solver_sets.specs.Table.{Solved}
use Rattle.solver_sets.proofs.Total.{total}
use Rattle.configuration.specs.declared.Configuration.{Configuration}
use Rattle.enforcement.specs.Store.{Store, refusal_at, store, store_all}
use Rattle.enforcement.specs.Calls.{configuration_at, since, sources_since}
use Rattle.enforcement.proofs.Stores.{Sound, since-same, store-sound}
use Rattle.enforcement.proofs.Replies.{consistent-at}
use Rattle.clients_answers.specs.Listed.{outcome, changed, outcomes, changed_by, events_of, after_alone}
use Rattle.clients_answers.specs.Clients.{none, Outcome, monitored, emitted_of, refused_in, held_in}
use Rattle.clients_answers.specs.Claims.{sum_below, holds}
use Rattle.clients_answers.proofs.Isolation.{isolated, changed-count}
use Rattle.clients_answers.proofs.Room.{outcome_in, outcome_beyond}
use Rattle.enforcement_clients.specs.Functions.{Functions, fed_own, put_out, refused_day}
use Rattle.enforcement_clients.proofs.Sums.{sum_same}
use Rattle.enforcement_clients.proofs.Fed.{fed-below, fed_above, fed_itself, day-counts, day-absent, day-none}
use Rattle.enforcement_clients.proofs.Turning.{turn-row, turn-next, turn-put, turn_from, turn-sound}

module _ (a : Automaton) (t : List ℕ) (v : valid a ≡ true) (sv : Solved a t) where
  -- a function's own events, one by one
  after_stores : (es : List ℕ) (s : Store) → Sound a s → after_alone (monitored a t) (configuration_at a s) es ≡ configuration_at a (store_all a s es)
  unfolding after_alone store_all
  after_stores [] s o = refl
  after_stores (e ∷ es) s o =
      ap (λ c. after_alone (monitored a t) c es) (turn-next a t v sv s o e) ∙ after_stores es (store a s e) (turn-sound a t v sv s o e)

  -- what it holds, for row 16
  held_at : (s : Store) → Sound a s → held_in a (configuration_at a s) ≡ length s.buffer
  unfolding held_in configuration_at
  held_at s o = rw (consistent-at a t v sv s o)

  -- what its event brings
  abbrev outcome_of : Store → ℕ → Outcome
  outcome_of s e = record { refusal = refusal_at a s e; emitted = since s (store a s e); sources = sources_since s (store a s e) }

  -- a list of n clients and their functions
  pub record Linked (n : ℕ) (cs : List Configuration) (ss : Functions) : Type 0 where
    pub count : length cs ≡ n
    pub at : (g : ℕ) → g < n → get_or cs g none ≡ configuration_at a (ss g)
    pub sound : (g : ℕ) → g < n → Sound a (ss g)

  module _ (n : ℕ) (cs : List Configuration) (ss : Functions) (k : Linked n cs ss) where
    pub linked_by : (xs : List (ℕ × ℕ)) → Linked n (changed_by (monitored a t) cs xs) (fed_own a n ss xs)
    linked_by xs =
        record {
          count = changed-count (monitored a t) xs cs ∙ k.count;
          at = λ g l.
              let own = events_of g xs in
              (isolated (monitored a t) xs cs g (omega (arith, k.count))).last ∙
              ap (λ c. after_alone (monitored a t) c own) (k.at g l) ∙
              after_stores own (ss g) (k.sound g l) ∙
              ap (configuration_at a) (sym (fed-below a n ss xs g l));
          sound = λ g l. rw (fed-below a n ss xs g l) (store-sound a (total a v) (events_of g xs) (ss g) (k.sound g l));
        }

    linked_one : (x : ℕ × ℕ) → Linked n (changed (monitored a t) cs x.0 x.1) (fed_own a n ss (x ∷ []))
    unfolding changed_by
    linked_one x = linked_by (x ∷ [])

    -- what an event brings
    outcome-below : (i e : ℕ) → i < n → outcome (monitored a t) cs i e ≡ outcome_of (ss i) e
    outcome-below i e l =
        let o = k.sound i l in
        outcome_in a t cs i e (omega (arith, k.count)) ∙
        ap (λ c. (monitored a t).says c e) (k.at i l) ∙
        (λ j. record {
          refusal = turn-row a t v sv (ss i) o e j;
          emitted = turn-put a t v sv (ss i) o e j;
          sources = turn_from a t v sv (ss i) o e j;
        })

    outcome_above : (i e : ℕ) → n ≤ i → outcome (monitored a t) cs i e ≡ record { refusal = 19; emitted = []; sources = [] }
    outcome_above i e l = outcome_beyond a t cs i e (omega (arith, k.count))

    outcome_emits : (i e : ℕ) → (outcome (monitored a t) cs i e).emitted ≡ since (ss i) (fed_own a n ss ((i, e) ∷ []) i)
    outcome_emits i e =
        by (ltb i n)
        (λ h.
        let l = ltb-true i n h in
        ap (λ o. o.emitted) (outcome-below i e l) ∙ ap (since (ss i)) (sym (fed_itself a n ss i e l)))
        (λ h.
        let l = ltb-false i n h in
        ap (λ o. o.emitted) (outcome_above i e l) ∙ sym (ap (since (ss i)) (fed_above a n ss ((i, e) ∷ []) i l) ∙ since-same (ss i)))

    -- all that they hold
    pub held-is : holds a cs ≡ sum_below n (λ g. length (ss g).buffer)
    held-is =
        rw k.count
        (sum_same n (λ g. held_in a (get_or cs g none)) (λ g. length (ss g).buffer) (λ g l. ap (held_in a) (k.at g l) ∙ held_at (ss g) (k.sound g l)))

  -- a day's bytes
  pub bytes_are : (xs : List (ℕ × ℕ)) (n : ℕ) (cs : List Configuration) (ss : Functions) → Linked n cs ss
      → emitted_of (outcomes (monitored a t) cs xs) ≡ put_out a n ss xs
  unfolding emitted_of outcomes put_out
  bytes_are [] n cs ss k = refl
  bytes_are ((i, e) ∷ xs) n cs ss k =
      ap₂ ◌++◌ (outcome_emits n cs ss k i e)
      (bytes_are xs n (changed (monitored a t) cs i e) (fed_own a n ss ((i, e) ∷ [])) (linked_one n cs ss k (i, e)))

  -- and its count
  pub count-is : (xs : List (ℕ × ℕ)) (n : ℕ) (cs : List Configuration) (ss : Functions) → Linked n cs ss
      → refused_in (outcomes (monitored a t) cs xs) ≡ refused_day a n ss xs
  unfolding refused_in outcomes
  count-is [] n cs ss k = sym (day-none a n ss)
  count-is ((i, e) ∷ xs) n cs ss k =
      let more = count-is xs n (changed (monitored a t) cs i e) (fed_own a n ss ((i, e) ∷ [])) (linked_one n cs ss k (i, e)) in
      by (ltb i n)
      (λ h.
      let l = ltb-true i n h in
      rw (outcome-below n cs ss k i e l, more) (sym (day-counts a n ss i e xs l)))
      (λ h.
      let l = ltb-false i n h in
      rw (outcome_above n cs ss k i e l, more) (sym (day-absent a n ss i e xs l)))
