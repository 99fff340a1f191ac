-- Calls one after the other: one law, by induction over the first of them, for whatever the calls
-- leave and whatever is said to them.
use mathlib.Core.Path.{◌≡◌, refl, ◌∙◌, ap}
use mathlib.Core.List.{List, [], ◌∷◌, ◌++◌}
use Rattle.enforcement_clients.specs.ClientCalls.{ClientCall, reply, leaves, replies, leaves_all}
use Rattle.enforcement_clients.specs.Functions.{lent_of, expected, fed, expected_all, fed_all}
use Rattle.enforcement_clients.specs.Claims.{InTurn, AnsweredInTurn, ExpectedInTurn}

module _ {S O : Type 0} (one : S → ClientCall → O) (next : S → ClientCall → S) (all : S → List ClientCall → List O) (last : S → List ClientCall → S)
    (All-none : (s : S) → all s [] ≡ []) (All-first : (s : S) (x : ClientCall) (xs : List ClientCall) → all s (x ∷ xs) ≡ one s x ∷ all (next s x) xs)
    (last_none : (s : S) → last s [] ≡ s) (last-first : (s : S) (x : ClientCall) (xs : List ClientCall) → last s (x ∷ xs) ≡ last (next s x) xs) where
  more-said : (xs ys : List ClientCall) (s : S) → all s (xs ++ ys) ≡ all s xs ++ all (last s xs) ys
  more-said [] ys s = rw (All-none s, last_none s)
  more-said (x ∷ xs) ys s =
      All-first s x (xs ++ ys) ∙ rw (All-first s x xs, last-first s x xs) (ap (λ (os : List O). one s x ∷ os) (more-said xs ys (next s x)))

  more_left : (xs ys : List ClientCall) (s : S) → last s (xs ++ ys) ≡ last (last s xs) ys
  more_left [] ys s = rw (last_none s)
  more_left (x ∷ xs) ys s = last-first s x (xs ++ ys) ∙ rw (last-first s x xs) (more_left xs ys (next s x))

  in-turn : (s : S) → InTurn one next all last s
  in-turn s =
      record {
        none_said = All-none s;
        one-said = λ x. All-first s x [] ∙ ap (λ (os : List O). one s x ∷ os) (All-none (next s x));
        more-said = λ xs ys. more-said xs ys s;
        none_left = last_none s;
        one_left = λ x. last-first s x [] ∙ last_none (next s x);
        more_left = λ xs ys. more_left xs ys s;
      }

pub answered-in_turn : AnsweredInTurn
unfolding replies leaves_all
answered-in_turn a t =
    in-turn (reply a t) (leaves a t) (replies a t) (leaves_all a t) (λ cs. refl) (λ cs x xs. refl) (λ cs. refl) (λ cs x xs. refl)

pub expected-in-turn : ExpectedInTurn
unfolding expected_all fed_all expected fed lent_of
expected-in-turn a count =
    in-turn (expected a count) (fed a count) (expected_all a count) (fed_all a count) (λ ss. refl) (λ ss x xs. refl) (λ ss. refl) (λ ss x xs. refl)
