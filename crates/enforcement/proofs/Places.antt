-- What the places mean that the published function keeps.
use Prim.Native.Nat.{ℕ, zero, suc, ◌+◌, ◌<◌, ◌≤◌}
use mathlib.Core.Path.{◌≡◌, refl, sym, ◌∙◌, ap, ap₂}
use mathlib.Core.Bool.{true, false}
use mathlib.Core.List.{List, [], ◌∷◌, ◌++◌, map, map-append, append_assoc, append-nil}
use native.Mathlib.Nat.{zero-add}
use native.Mathlib.Omega.{arith}
use lib.Dec.{eqb, ltb}
use lib.ListN.{length, take, drop, length-append, take-append-drop, get_or-append}
use lib.Seq.{get_or-append_seam}
use borrow.Author.Tests.{eqb-true, eqb-false, eq-eqb, ltb-true, ltb-false}
use Rattle.base.proofs.Bools.{by}
use Rattle.automaton.specs.declared.Automaton.{Automaton}
use Rattle.automaton.specs.Automaton.{controllable}
use Rattle.monitor_rule.specs.Step.{by_sets, release, remaining}
use Rattle.monitor_rule.proofs.Rows.{event-rows_as_worded}
use Rattle.enforcement.specs.Store.{Store, empty, state_of, position_at, refusal_at, added, released, store, store_all, Feed, event, events, lacks_room}
use Rattle.enforcement.specs.Store.{feed, feed_all, accepted_of, accepted_by, accepted_all}
use Rattle.enforcement.specs.Places.{event_at, times, Traced, FunctionTraced}
use Rattle.enforcement.proofs.Stores.{store-refuses}

-- a list mapped, and its front and back parts
map-take : (f : ℕ → ℕ) (k : ℕ) (l : List ℕ) → map f (take k l) ≡ take k (map f l)
map-take f zero l = refl
map-take f (suc k) [] = refl
map-take f (suc k) (x ∷ l) = ap (λ r. f x ∷ r) (map-take f k l)

map-drop : (f : ℕ → ℕ) (k : ℕ) (l : List ℕ) → map f (drop k l) ≡ drop k (map f l)
map-drop f zero l = refl
map-drop f (suc k) [] = refl
map-drop f (suc k) (x ∷ l) = map-drop f k l

-- how often a number stands in two lists end to end, and in a list of one
times-append : (n : ℕ) (xs ys : List ℕ) → times n (xs ++ ys) ≡ times n xs + times n ys
unfolding times
times-append n [] ys = sym (zero-add (times n ys))
times-append n (x ∷ xs) ys = omega (arith, times-append n xs ys)

times-one : (n x : ℕ) → x ≡ n → times n (x ∷ []) ≡ 1
unfolding times
times-one n x h = rw (eq-eqb x n h) (omega arith)

times-other : (n x : ℕ) → eqb x n ≡ false → times n (x ∷ []) ≡ 0
unfolding times
times-other n x h = rw h (omega arith)

-- a number that does not stand in a list is not its first
stands-first : (x : ℕ) (xs : List ℕ) → times x (x ∷ xs) ≡ 0 → ⊥
unfolding times
stands-first x xs h = let z = rw (eq-eqb x x refl) at h in omega arith

-- one more event behind the accepted ones changes nothing at the places before it
same-before : (accepted : List ℕ) (e : ℕ) (ps : List ℕ) → ((n : ℕ) → length accepted ≤ n → times n ps ≡ 0)
    → map (event_at (accepted ++ e ∷ [])) ps ≡ map (event_at accepted) ps
unfolding times event_at
same-before accepted e [] none = refl
same-before accepted e (p ∷ ps) none =
    ap₂ ◌∷◌
    (by (ltb p (length accepted))
    (λ u. get_or-append accepted (e ∷ []) 0 p (ltb-true p (length accepted) u))
    (λ u. absurd (stands-first p ps (none p (ltb-false p (length accepted) u)))))
    (same-before accepted e ps (λ n l. omega (arith, none n l)))

-- nothing accepted
none-traced : Traced [] empty
unfolding times
none-traced = record {
  put-out = refl;
  held = refl;
  once = λ n l. absurd (omega arith);
  no_other = λ n l. refl;
  counted = refl;
  bounded = omega arith;
}

-- one more accepted event
module _ (accepted : List ℕ) (s : Store) (k : Traced accepted s) (e : ℕ) where
  abbrev more : List ℕ
  more = accepted ++ e ∷ []

  more-length : length more ≡ length accepted + 1
  more-length = length-append accepted (e ∷ [])

  -- it stands at the count
  newcomer : event_at more s.accepted ≡ e
  unfolding event_at
  newcomer = ap (event_at more) k.counted ∙ get_or-append_seam accepted e [] 0

  -- what was put out or held before is still found at its places, since each is below the count
  pub put-out-before : map (event_at more) s.sources ≡ s.output
  put-out-before =
      same-before accepted e s.sources (λ n l. omega (arith, times-append n s.sources s.places, k.no_other n l)) ∙ k.put-out

  held-before : map (event_at more) s.places ≡ s.buffer
  held-before =
      same-before accepted e s.places (λ n l. omega (arith, times-append n s.sources s.places, k.no_other n l)) ∙ k.held

  -- a list, and the newcomer at its end
  at-end : (ps out : List ℕ) → map (event_at more) ps ≡ out → map (event_at more) (ps ++ s.accepted ∷ []) ≡ out ++ e ∷ []
  at-end ps out h = map-append (event_at more) ps (s.accepted ∷ []) ∙ ap₂ (λ l x. l ++ x ∷ []) h newcomer

  -- the places in use with the newcomer's beside them
  module _ (now : List ℕ) (beside : (n : ℕ) → times n now ≡ times n (s.sources ++ s.places) + times n (s.accepted ∷ [])) where
    once_more : (n : ℕ) → n < length more → times n now ≡ 1
    once_more n l =
        by (eqb s.accepted n)
        (λ u.
        let z = eqb-true s.accepted n u in
        omega (arith, beside n, times-one n s.accepted z, k.no_other n (omega (arith, k.counted))))
        (λ u.
        let z = eqb-false s.accepted n u in
        omega (arith, beside n, times-other n s.accepted u, k.once n (omega (arith, z, k.counted, more-length))))

    none_more : (n : ℕ) → length more ≤ n → times n now ≡ 0
    none_more n l =
        by (eqb s.accepted n)
        (λ u. absurd (let z = eqb-true s.accepted n u in omega (arith, k.counted, more-length)))
        (λ u. omega (arith, beside n, times-other n s.accepted u, k.no_other n (omega (arith, more-length))))

  module _ (a : Automaton) (room : s.accepted ≡ 4294967295 → ⊥) where
    bounded-more : length more ≤ 4294967295
    bounded-more = omega (arith, room, k.counted, k.bounded, more-length)

    held-traced : controllable a e ≡ true → Traced more (added a s e)
    unfolding added
    held-traced c =
        let now = s.sources ++ (s.places ++ s.accepted ∷ []) in
        let beside : (n : ℕ) → times n now ≡ times n (s.sources ++ s.places) + times n (s.accepted ∷ []) =
        λ n. omega (
          arith,
          times-append n s.sources (s.places ++ s.accepted ∷ []),
          times-append n s.places (s.accepted ∷ []),
          times-append n s.sources s.places,
        ) in
        rw c
        (record {
          put-out = put-out-before;
          held = at-end s.places s.buffer held-before;
          once = once_more now beside;
          no_other = none_more now beside;
          counted = omega (arith, k.counted, more-length);
          bounded = bounded-more;
        })

    passed-traced : controllable a e ≡ false → Traced more (added a s e)
    unfolding added remaining
    passed-traced c =
        let now = (s.sources ++ s.accepted ∷ []) ++ s.places in
        let beside : (n : ℕ) → times n now ≡ times n (s.sources ++ s.places) + times n (s.accepted ∷ []) =
        λ n. omega (
          arith,
          times-append n (s.sources ++ s.accepted ∷ []) s.places,
          times-append n s.sources (s.accepted ∷ []),
          times-append n s.sources s.places,
        ) in
        rw c
        (record {
          put-out = at-end s.sources s.output put-out-before;
          held = held-before;
          once = once_more now beside;
          no_other = none_more now beside;
          counted = omega (arith, k.counted, more-length);
          bounded = bounded-more;
        })

-- a release moves places with their events, and changes nothing of the places in use
released-traced : (a : Automaton) (accepted : List ℕ) (s : Store) → Traced accepted s → Traced accepted (released a s)
unfolding released
released-traced a accepted s k =
    let j = release (by_sets a) a (state_of a s) s.buffer in
    let moves = map-take (event_at accepted) j s.places ∙ ap (take j) k.held in
    let same : (s.sources ++ take j s.places) ++ drop j s.places ≡ s.sources ++ s.places =
    append_assoc s.sources (take j s.places) (drop j s.places) ∙ ap (λ l. s.sources ++ l) (take-append-drop j s.places) in
    record {
      put-out = map-append (event_at accepted) s.sources (take j s.places) ∙ ap₂ ◌++◌ k.put-out moves;
      held = map-drop (event_at accepted) j s.places ∙ ap (drop j) k.held;
      once = λ n l. ap (times n) same ∙ k.once n l;
      no_other = λ n l. ap (times n) same ∙ k.no_other n l;
      counted = k.counted;
      bounded = k.bounded;
    }

module _ (a : Automaton) where
  -- an accepted event
  pub store-traced : (accepted : List ℕ) (s : Store) → Traced accepted s → (e : ℕ) → refusal_at a s e ≡ 0
      → Traced (accepted ++ e ∷ []) (store a s e)
  unfolding store
  store-traced accepted s k e h =
      let room = ((event-rows_as_worded (by_sets a) a (position_at a s) e).accepted.0 h).1 in
      rw (eq-eqb (refusal_at a s e) 0 h)
      (released-traced a (accepted ++ e ∷ []) (added a s e)
      (by (controllable a e) (held-traced accepted s k e a room) (passed-traced accepted s k e a room)))

  -- any events, and whatever calls feed
  all-traced : (es accepted : List ℕ) (s : Store) → Traced accepted s → Traced (accepted ++ accepted_of a s es) (store_all a s es)
  unfolding accepted_of store_all
  all-traced [] accepted s k = rw (append-nil accepted) k
  all-traced (e ∷ es) accepted s k =
      let n = refusal_at a s e in
      by (eqb n 0)
      (λ h.
      rw (h, sym (append_assoc accepted (e ∷ []) (accepted_of a (store a s e) es)))
      (all-traced es (accepted ++ e ∷ []) (store a s e) (store-traced accepted s k e (eqb-true n 0 h))))
      (λ h. rw (h, store-refuses a s e (eqb-false n 0 h)) (all-traced es accepted s k))

  feed-traced : (x : Feed) (accepted : List ℕ) (s : Store) → Traced accepted s → Traced (accepted ++ accepted_by a s x) (feed a s x)
  unfolding accepted_by feed store_all
  feed-traced (event e) accepted s k = all-traced (e ∷ []) accepted s k
  feed-traced (events es size) accepted s k =
      by (lacks_room s es size) (λ h. rw (h, append-nil accepted) k) (λ h. rw h (all-traced es accepted s k))

  feeds-traced : (xs : List Feed) (accepted : List ℕ) (s : Store) → Traced accepted s
      → Traced (accepted ++ accepted_all a s xs) (feed_all a s xs)
  unfolding accepted_all feed_all
  feeds-traced [] accepted s k = rw (append-nil accepted) k
  feeds-traced (x ∷ xs) accepted s k =
      rw (sym (append_assoc accepted (accepted_by a s x) (accepted_all a (feed a s x) xs)))
      (feeds-traced xs (accepted ++ accepted_by a s x) (feed a s x) (feed-traced x accepted s k))

pub function-traced : FunctionTraced
function-traced a xs = feeds-traced a xs [] empty none-traced
