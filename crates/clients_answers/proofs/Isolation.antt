-- A record of a list has its own day, whatever the step.
use Prim.Native.Nat.{ℕ, ◌<◌}
use mathlib.Core.Path.{◌≡◌, refl, sym, ◌∙◌, ap}
use mathlib.Core.Bool.{true, false}
use mathlib.Core.List.{List, [], ◌∷◌}
use lib.ListN.{length, get_or, length-set}
use lib.Seq.{get_or-set_same, get_or-set_other}
use lib.Dec.{eqb}
use borrow.Author.Tests.{eqb-true, eqb-false, lt-ltb, eq-eqb, ne_eqb}
use Rattle.base.proofs.Bools.{by}
use Rattle.clients_answers.specs.Listed.{Stepping, outcome, changed, outcomes, changed_by, events_of, part_of, alone, after_alone}
use Rattle.clients_answers.specs.Listed.{Isolated, Isolation, OwnEventsAsWorded}

module _ {C O : Type 0} (k : Stepping C O) where
  -- one event
  pub outcome-own : (cs : List C) (i e : ℕ) → i < length cs → outcome k cs i e ≡ k.says (get_or cs i k.none) e
  unfolding outcome
  outcome-own cs i e l = rw (lt-ltb i (length cs) l)

  pub changed-length : (cs : List C) (i e : ℕ) → length (changed k cs i e) ≡ length cs
  unfolding changed
  changed-length cs i e = length-set cs i (k.next (get_or cs i k.none) e)

  pub changed-own : (cs : List C) (i e : ℕ) → i < length cs → get_or (changed k cs i e) i k.none ≡ k.next (get_or cs i k.none) e
  unfolding changed
  changed-own cs i e l = get_or-set_same cs i (k.next (get_or cs i k.none) e) k.none l

  pub changed-other : (cs : List C) (i e g : ℕ) → (g ≡ i → ⊥) → get_or (changed k cs i e) g k.none ≡ get_or cs g k.none
  unfolding changed
  changed-other cs i e g n = get_or-set_other cs i g (k.next (get_or cs i k.none) e) k.none n

  -- its own event first
  isolated_own : (cs : List C) (x : ℕ × ℕ) (xs : List (ℕ × ℕ)) (g : ℕ) → g < length cs → x.0 ≡ g → eqb x.0 g ≡ true
      → Isolated k (changed k cs x.0 x.1) xs g → Isolated k cs (x ∷ xs) g
  unfolding part_of outcomes events_of alone changed_by after_alone
  isolated_own cs x xs g l e h p =
      let own : get_or (changed k cs x.0 x.1) g k.none ≡ k.next (get_or cs g k.none) x.1 = rw e (changed-own cs g x.1 l) in
      let here : outcome k cs x.0 x.1 ≡ k.says (get_or cs g k.none) x.1 = rw e (outcome-own cs g x.1 l) in
      record {
        part = rw (h, here) (ap (λ (os : List O). k.says (get_or cs g k.none) x.1 ∷ os)
            (p.part ∙ ap (λ (c : C). alone k c (events_of g xs)) own));
        last = rw h (p.last ∙ ap (λ (c : C). after_alone k c (events_of g xs)) own);
        count = p.count ∙ changed-length cs x.0 x.1;
      }

  -- another's first
  isolated_other : (cs : List C) (x : ℕ × ℕ) (xs : List (ℕ × ℕ)) (g : ℕ) → (x.0 ≡ g → ⊥) → eqb x.0 g ≡ false
      → Isolated k (changed k cs x.0 x.1) xs g → Isolated k cs (x ∷ xs) g
  unfolding part_of outcomes events_of changed_by
  isolated_other cs x xs g n h p =
      let kept = changed-other cs x.0 x.1 g (λ q. n (sym q)) in
      record {
        part = rw h (p.part ∙ ap (λ (c : C). alone k c (events_of g xs)) kept);
        last = rw h (p.last ∙ ap (λ (c : C). after_alone k c (events_of g xs)) kept);
        count = p.count ∙ changed-length cs x.0 x.1;
      }

  pub isolated : (xs : List (ℕ × ℕ)) (cs : List C) (g : ℕ) → g < length cs → Isolated k cs xs g
  unfolding part_of outcomes events_of alone changed_by after_alone
  isolated [] cs g l = record { part = refl; last = refl; count = refl }
  isolated (x ∷ xs) cs g l =
      let more = isolated xs (changed k cs x.0 x.1) g (rw (changed-length cs x.0 x.1) l) in
      by (eqb x.0 g)
      (λ h. isolated_own cs x xs g l (eqb-true x.0 g h) h more)
      (λ h. isolated_other cs x xs g (eqb-false x.0 g h) h more)

  -- the count, whoever is asked
  pub changed-count : (xs : List (ℕ × ℕ)) (cs : List C) → length (changed_by k cs xs) ≡ length cs
  unfolding changed_by
  changed-count [] cs = refl
  changed-count (x ∷ xs) cs = changed-count xs (changed k cs x.0 x.1) ∙ changed-length cs x.0 x.1

pub isolation : Isolation
isolation C O k cs xs g l = isolated k xs cs g l

pub own-events_as_worded : OwnEventsAsWorded
unfolding events_of part_of
own-events_as_worded O g =
    record {
      no_event = refl;
      own = λ e xs. rw (eq-eqb g g refl);
      other = λ i e xs n. rw (ne_eqb i g n);
      no_part = λ os. refl;
      own-part = λ e xs o os. rw (eq-eqb g g refl);
      other-part = λ i e xs o os n. rw (ne_eqb i g n);
    }
