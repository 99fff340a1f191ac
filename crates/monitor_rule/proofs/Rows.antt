-- The rows of one event, and what an event at a full buffer puts out, in the documents' words.
use Prim.Native.Nat.{ℕ, ◌≤◌}
use mathlib.Core.Path.{◌≡◌, refl, ◌∙◌}
use mathlib.Core.Bool.{true, cond}
use mathlib.Core.Logic.{◌⊎◌, inl, inr}
use mathlib.Core.List.{List, [], ◌∷◌, ◌++◌}
use native.Mathlib.Omega.{arith}
use lib.Dec.{eqb, leb, ltb}
use lib.ListN.{length, take, drop, take-append-drop}
use lib.Seq.{length-take-le}
use borrow.Author.Tests.{eqb-true, eqb-false, ltb-true, ltb-false, leb-true, leb-false, lt-ltb, le-ltb, le-leb, lt-leb, eq-eqb, ne_eqb}
use Rattle.base.specs.Rows.{first}
use Rattle.base.proofs.Bools.{by, either, refuted}
use Rattle.automaton.specs.declared.Automaton.{Automaton}
use Rattle.automaton.specs.Automaton.{class, controllable, reached}
use Rattle.automaton.proofs.Classes.{class-one}
use Rattle.configuration_places.specs.Places.{count_end}
use Rattle.configuration.specs.Configuration.{Position}
use Rattle.monitor_rule.specs.Step.{Rest, qualifies, release, arrival, effect, event_rows, event_refusal}
use Rattle.monitor_rule.specs.Claims.{Unknown, Full, Opens, Shut, Fits, CountEnded, Admitted, EventRowsAsWorded, OpensAsWorded}
use Rattle.monitor_rule.proofs.Worded.{releases-longest}
use Rattle.monitor_rule.proofs.Longest.{release_le, released-qualifies, shut-is}

-- some of the buffer with the newcomer is released exactly when the newcomer opens it
module _ (rest : Rest) (a : Automaton) (q : ℕ) (w : List ℕ) (e : ℕ) where
  abbrev v : List ℕ
  v = w ++ e ∷ []

  abbrev k : ℕ
  k = release rest a q v

  abbrev opens : Type 0
  opens = Opens (λ r p. rest r p ≡ true) a q w e

  ours : length (take k v) ≡ k
  ours = length-take-le k v (release_le rest a q v)

  pub opens-releases : opens → 1 ≤ k
  opens-releases o = omega (arith, (releases-longest rest a q v).longest o.front o.left o.parts o.leads, o.some, ours)

  -- what is released brings to where one may rest, unless it is nothing
  pub released-rests : 1 ≤ k → rest (drop k v) (reached a q (take k v)) ≡ true
  unfolding qualifies
  released-rests = released-qualifies rest a q v

  pub releases-opens : 1 ≤ k → opens
  releases-opens l =
      record { front = take k v; left = drop k v; parts = take-append-drop k v; some = omega (arith, ours); leads = released-rests l }

  -- the newcomer opens the buffer, or nothing is released
  pub opening : {R : Type 0} → (opens → R) → (k ≡ 0 → R) → R
  opening opened none =
      by (eqb k 0)
      (λ z. none (eqb-true k 0 z))
      (λ z. let n = eqb-false k 0 z in opened (releases-opens (omega arith)))

  pub unopened : (opens → ⊥) → k ≡ 0
  unopened never = opening (λ o. absurd (never o)) (λ z. z)

module _ (rest : Rest) (a : Automaton) (p : Position) (e : ℕ) where
  abbrev q : ℕ
  q = p.state

  abbrev w : List ℕ
  w = p.buffer

  abbrev P : List ℕ → ℕ → Type 0
  P r s = rest r s ≡ true

  -- row 14 holds, or row 15, or neither; then row 23, or none
  fitting : {R : Type 0} → (Unknown a e → R) → (Shut P a q w e → R) → (Fits P a q w e → R) → R
  fitting unknown shuts fits =
      by (ltb e a.symbols)
      (λ h.
      let l = ltb-true e a.symbols h in
      by (eqb (class a e) 1)
      (λ c. by (leb a.capacity (length w))
      (λ k. opening rest a q w e
      (λ o. fits (l, inr (inr o)))
      (λ z. shuts ((l, eqb-true (class a e) 1 c, leb-true a.capacity (length w) k), λ o. let r = opens-releases rest a q w e o in omega arith)))
      (λ k. fits (l, inr (inl (leb-false a.capacity (length w) k)))))
      (λ c. fits (l, inl (eqb-false (class a e) 1 c))))
      (λ h. unknown (ltb-false e a.symbols h))

  cases : {R : Type 0} → (Unknown a e → R) → (Shut P a q w e → R) → (CountEnded P a q w p.received e → R)
      → (Admitted P a q w p.received e → R) → R
  cases unknown shuts ended taken =
      fitting unknown shuts
      (λ f. by (eqb p.received count_end)
      (λ h. ended (f, eqb-true p.received count_end h))
      (λ h. taken (f, eqb-false p.received count_end h)))

  -- each number, where its condition holds
  unknown_14 : Unknown a e → event_refusal rest a p e ≡ 14
  unfolding event_refusal event_rows first
  unknown_14 h = rw (le-ltb e a.symbols h)

  shut_15 : Shut P a q w e → event_refusal rest a p e ≡ 15
  unfolding event_refusal event_rows first
  shut_15 ((l, c, h), never) =
      let none = shut-is rest a q (w ++ e ∷ []) ∙ eq-eqb (release rest a q (w ++ e ∷ [])) 0 (unopened rest a q w e never) in
      rw (lt-ltb e a.symbols l, (class-one a e).1 c, le-leb a.capacity (length w) h, none)

  fits_23 : Fits P a q w e → event_refusal rest a p e ≡ cond (eqb p.received count_end) 23 0
  unfolding event_refusal event_rows first
  fits_23 (l, f) =
      either f
      (λ c. rw (lt-ltb e a.symbols l, refuted (controllable a e) (λ h. c ((class-one a e).0 h))))
      (λ g. either g
      (λ h. by (controllable a e)
      (λ c. rw (lt-ltb e a.symbols l, c, lt-leb a.capacity (length w) h))
      (λ c. rw (lt-ltb e a.symbols l, c)))
      (λ o.
      let released = ne_eqb (release rest a q (w ++ e ∷ [])) 0 (λ z. let r = opens-releases rest a q w e o in omega arith) in
      let some = shut-is rest a q (w ++ e ∷ []) ∙ released in
      by (controllable a e)
      (λ c. by (leb a.capacity (length w))
      (λ h. rw (lt-ltb e a.symbols l, c, h, some))
      (λ h. rw (lt-ltb e a.symbols l, c, h)))
      (λ c. rw (lt-ltb e a.symbols l, c))))

  ended_23 : CountEnded P a q w p.received e → event_refusal rest a p e ≡ 23
  ended_23 (f, z) = fits_23 f ∙ rw (eq-eqb p.received count_end z)

  taken_0 : Admitted P a q w p.received e → event_refusal rest a p e ≡ 0
  taken_0 (f, z) = fits_23 f ∙ rw (ne_eqb p.received count_end z)

  -- so there is no other number, and each is given only where its condition holds
  abbrev n : ℕ
  n = event_refusal rest a p e

  pub event-number : (n ≡ 14) ⊎ ((n ≡ 15) ⊎ ((n ≡ 23) ⊎ (n ≡ 0)))
  event-number =
      cases (λ u. inl (unknown_14 u)) (λ f. inr (inl (shut_15 f))) (λ f. inr (inr (inl (ended_23 f)))) (λ f. inr (inr (inr (taken_0 f))))

  given_14 : n ≡ 14 → Unknown a e
  given_14 h =
      cases (λ u. u) (λ f. absurd (omega (arith, shut_15 f))) (λ f. absurd (omega (arith, ended_23 f))) (λ f. absurd (omega (arith, taken_0 f)))

  given_15 : n ≡ 15 → Shut P a q w e
  given_15 h =
      cases (λ u. absurd (omega (arith, unknown_14 u))) (λ f. f) (λ f. absurd (omega (arith, ended_23 f))) (λ f. absurd (omega (arith, taken_0 f)))

  given_23 : n ≡ 23 → CountEnded P a q w p.received e
  given_23 h =
      cases (λ u. absurd (omega (arith, unknown_14 u))) (λ f. absurd (omega (arith, shut_15 f))) (λ f. f) (λ f. absurd (omega (arith, taken_0 f)))

  given_0 : n ≡ 0 → Admitted P a q w p.received e
  given_0 h =
      cases (λ u. absurd (omega (arith, unknown_14 u))) (λ f. absurd (omega (arith, shut_15 f))) (λ f. absurd (omega (arith, ended_23 f))) (λ f. f)

pub event-rows_as_worded : EventRowsAsWorded
event-rows_as_worded rest a p e = record {
  row-14 = (given_14 rest a p e, unknown_14 rest a p e);
  row-15 = (given_15 rest a p e, shut_15 rest a p e);
  row-23 = (given_23 rest a p e, ended_23 rest a p e);
  accepted = (given_0 rest a p e, taken_0 rest a p e);
}

-- an event accepted at a full buffer releases some of it
pub opened-releases : (rest : Rest) (a : Automaton) (p : Position) (e : ℕ) → event_refusal rest a p e ≡ 0 → Full a p.buffer e
    → 1 ≤ release rest a p.state (p.buffer ++ e ∷ [])
opened-releases rest a p e h (l, c, full) =
    either (given_0 rest a p e h).0.1
    (λ no. absurd (no c))
    (λ f. either f (λ room. absurd (omega arith)) (opens-releases rest a p.state p.buffer e))

pub opens_as_worded : OpensAsWorded
unfolding effect arrival
opens_as_worded rest a p e h f =
    let q = p.state in
    let v = p.buffer ++ e ∷ [] in
    let k = release rest a q v in
    let some = opened-releases rest a p e h f in
    let ours = length-take-le k v (release_le rest a q v) in
    rw ((class-one a e).1 f.1)
    (record {
      parts = take-append-drop k v;
      some = omega (arith, ours);
      led = refl;
      rests = released-rests rest a q p.buffer e some;
      longest = (releases-longest rest a q v).longest;
    })
