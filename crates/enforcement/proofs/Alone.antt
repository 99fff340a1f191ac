-- Fed the accepted events alone, the published function ends as it does fed the calls.
use Prim.Native.Nat.{ℕ}
use mathlib.Core.Path.{◌≡◌, refl, sym, ◌∙◌, ap}
use mathlib.Core.Bool.{cond}
use mathlib.Core.List.{List, [], ◌∷◌, ◌++◌, map, append_assoc}
use lib.Dec.{eqb}
use borrow.Author.Tests.{eqb-false}
use Rattle.base.proofs.Bools.{by}
use Rattle.automaton.specs.declared.Automaton.{Automaton}
use Rattle.enforcement.specs.Store.{Store, empty, refusal_at, store, store_all, Feed, event, events, lacks_room, feed, feed_all, accepted_of, accepted_by, accepted_all}
use Rattle.enforcement.specs.Calls.{fed_by}
use Rattle.enforcement.specs.Claims.{AcceptedAlone}
use Rattle.enforcement.proofs.Stores.{store-refuses}

module _ (a : Automaton) where
  -- one list of events after another
  pub store-append : (es fs : List ℕ) (s : Store) → store_all a s (es ++ fs) ≡ store_all a (store_all a s es) fs
  unfolding store_all
  store-append [] fs s = refl
  store-append (e ∷ es) fs s = store-append es fs (store a s e)

  pub accepted-append : (es fs : List ℕ) (s : Store) → accepted_of a s (es ++ fs) ≡ accepted_of a s es ++ accepted_of a (store_all a s es) fs
  unfolding accepted_of store_all
  accepted-append [] fs s = refl
  accepted-append (e ∷ es) fs s =
      let one : List ℕ = cond (eqb (refusal_at a s e) 0) (e ∷ []) [] in
      ap (λ l. one ++ l) (accepted-append es fs (store a s e)) ∙ sym (append_assoc one (accepted_of a (store a s e) es) (accepted_of a (store_all a (store a s e) es) fs))

  -- the accepted ones alone
  alone : (es : List ℕ) (s : Store) → store_all a s (accepted_of a s es) ≡ store_all a s es
  unfolding accepted_of store_all
  alone [] s = refl
  alone (e ∷ es) s =
      by (eqb (refusal_at a s e) 0)
      (λ h. rw h (alone es (store a s e)))
      (λ h. rw (h, store-refuses a s e (eqb-false (refusal_at a s e) 0 h)) (alone es s))

  feed-alone : (x : Feed) (s : Store) → store_all a s (accepted_by a s x) ≡ feed a s x
  unfolding accepted_by feed store_all
  feed-alone (event e) s = alone (e ∷ []) s
  feed-alone (events es size) s = by (lacks_room s es size) (λ h. rw h) (λ h. rw h (alone es s))

  all-alone : (xs : List Feed) (s : Store) → store_all a s (accepted_all a s xs) ≡ feed_all a s xs
  unfolding accepted_all feed_all store_all
  all-alone [] s = refl
  all-alone (x ∷ xs) s =
      let later = accepted_all a (feed a s x) xs in
      store-append (accepted_by a s x) later s ∙ ap (λ z. store_all a z later) (feed-alone x s) ∙ all-alone xs (feed a s x)

pub accepted-alone : AcceptedAlone
accepted-alone a calls = all-alone a (map fed_by calls) empty
