-- Reading numbers one after the other: what is read where nothing is refused, and what follows
-- where nothing was.
use Prim.Native.Nat.{ℕ, zero, suc, ◌<◌}
use mathlib.Core.Path.{◌≡◌, refl, sym, ◌∙◌, ap, subst}
use mathlib.Core.Bool.{true}
use mathlib.Core.List.{List, [], ◌∷◌, ◌++◌, append-nil}
use lib.ListN.{length, get_or, take}
use lib.Seq.{append_snoc}
use lib.Dec.{eqb}
use native.Mathlib.Omega.{arith}
use borrow.Author.Tests.{eqb-true, eqb-false}
use Rattle.base.proofs.Bools.{by}
use Rattle.varint.specs.Varint.{Number, value}
use Rattle.automaton.specs.declared.Automaton.{Automaton}
use Rattle.automaton_format.specs.Reading.{Parsed, Numbers, checked, numbers, after_number, after_numbers, parsed}
use Rattle.automaton_format.proofs.Items.{checked-fits, passed}

-- numbers that were read without a fault
abbrev pub done : List ℕ → ℕ → Numbers
done vs at = record { refusal = 0; place = at; values = vs }

-- `from` reads the numbers vs one after the other, from a place up to another
abbrev pub Follows : (ℕ → Number) → List ℕ → ℕ → ℕ → Type 0
Follows from [] at stop = at ≡ stop
Follows from (v ∷ vs) at stop = (next : ℕ) × (from at ≡ value v next) × Follows from vs next stop

-- each of vs passes its check against those before it
abbrev pub Passes : (List ℕ → ℕ → ℕ) → List ℕ → List ℕ → Type 0
Passes check before vs = (i : ℕ) → i < length vs → check (before ++ take i vs) (get_or vs i 0) ≡ 0

-- without a refusal
unrefused : (n : Number) → eqb n.refusal 0 ≡ true → n ≡ value n.value n.place
unrefused n r = let e : n.refusal ≡ 0 = eqb-true n.refusal 0 r in λ i. record { refusal = e i; value = n.value; place = n.place }

pub all_unrefused : (ns : Numbers) → eqb ns.refusal 0 ≡ true → ns ≡ done ns.values ns.place
all_unrefused ns r = let e : ns.refusal ≡ 0 = eqb-true ns.refusal 0 r in λ i. record { refusal = e i; place = ns.place; values = ns.values }

-- one number
module _ (check : ℕ → ℕ) (at : ℕ) (n : Number) where
  checked-done : (v next : ℕ) → n ≡ value v next → check v ≡ 0 → checked check at n ≡ value v next
  checked-done v next e c = checked-fits check at n (ap (λ m. m.refusal) e) (ap (λ m. check m.value) e ∙ c) ∙ e

  -- its value and the place after it
  checked-read : {C : Type 0} → eqb (checked check at n).refusal 0 ≡ true
      → (n ≡ value (checked check at n).value (checked check at n).place → check (checked check at n).value ≡ 0 → C) → C
  checked-read r go =
      let p = passed check at n (checked check at n) refl (eqb-true _ 0 r) in
      go (sym p.same ∙ unrefused _ r) (ap (λ m. check m.value) p.same ∙ p.fits)

-- a number, and what follows it
module _ (check : ℕ → ℕ) (at : ℕ) (n : Number) (go : ℕ → ℕ → Parsed) where
  pub after-number-done : (v next : ℕ) → n ≡ value v next → check v ≡ 0 → after_number (checked check at n) go ≡ go v next
  unfolding after_number
  after-number-done v next e c = rw (checked-done check at n v next e c)

  pub after-number-read : {C : Type 0} (a : Automaton) → after_number (checked check at n) go ≡ parsed a
      → ((v next : ℕ) → n ≡ value v next → check v ≡ 0 → go v next ≡ parsed a → C) → C
  unfolding after_number
  after-number-read a h use' =
      let m : Number = checked check at n in
      by (eqb m.refusal 0)
      (λ r. checked-read check at n r λ e c. use' m.value m.place e c (rw r at h))
      (λ r. absurd (eqb-false m.refusal 0 r (ap (λ p. p.refusal) (rw r at h))))

-- numbers, and what follows them
module _ (ns : Numbers) (go : List ℕ → ℕ → Parsed) where
  pub after-numbers-done : (vs : List ℕ) (next : ℕ) → ns ≡ done vs next → after_numbers ns go ≡ go vs next
  unfolding after_numbers
  after-numbers-done vs next e = rw e

  pub after-numbers-read : {C : Type 0} (a : Automaton) → after_numbers ns go ≡ parsed a
      → ((vs : List ℕ) (next : ℕ) → ns ≡ done vs next → go vs next ≡ parsed a → C) → C
  unfolding after_numbers
  after-numbers-read a h use' =
      by (eqb ns.refusal 0)
      (λ r. use' ns.values ns.place (all_unrefused ns r) (rw r at h))
      (λ r. absurd (eqb-false ns.refusal 0 r (ap (λ p. p.refusal) (rw r at h))))

module _ (check : List ℕ → ℕ → ℕ) (before : List ℕ) (v : ℕ) (vs : List ℕ) where
  passes_head : Passes check before (v ∷ vs) → check before v ≡ 0
  passes_head h = rw append-nil at (h 0 (omega arith))

  passes_tail : Passes check before (v ∷ vs) → Passes check (before ++ v ∷ []) vs
  passes_tail h i l = rw (append_snoc before v (take i vs)) (h (suc i) (omega arith))

  passes-cons : check before v ≡ 0 → Passes check (before ++ v ∷ []) vs → Passes check before (v ∷ vs)
  passes-cons c h zero l = rw (append-nil before) c
  passes-cons c h (suc i) l = rw (append_snoc before v (take i vs)) at (h i (omega arith))

-- what was read where nothing was refused: vs, from a place up to another
record Section (from : ℕ → Number) (check : List ℕ → ℕ → ℕ) (before : List ℕ) (k : ℕ) (all : List ℕ) (at stop : ℕ) : Type 0 where
  vs : List ℕ
  all_eq : before ++ vs ≡ all
  vs_length : length vs ≡ k
  follows : Follows from vs at stop
  passes : Passes check before vs

module _ (from : ℕ → Number) where
  pub follows_append : (xs ys : List ℕ) (at mid stop : ℕ) → Follows from xs at mid → Follows from ys mid stop → Follows from (xs ++ ys) at stop
  follows_append [] ys at mid stop f g = rw f g
  follows_append (x ∷ xs) ys at mid stop f g = (f.0, f.1, follows_append xs ys f.0 mid stop f.2 g)

  pub follows_split : (xs ys : List ℕ) (at stop : ℕ) → Follows from (xs ++ ys) at stop → (mid : ℕ) × Follows from xs at mid × Follows from ys mid stop
  follows_split [] ys at stop f = (at, refl, f)
  follows_split (x ∷ xs) ys at stop f =
      let r = follows_split xs ys f.0 stop f.2 in
      (r.0, (f.0, f.1, r.1), r.2)

  module _ (check : List ℕ → ℕ → ℕ) where
    pub numbers-done : (vs before : List ℕ) (at stop : ℕ) → Follows from vs at stop → Passes check before vs
        → numbers from check (length vs) before at ≡ done (before ++ vs) stop
    unfolding numbers
    numbers-done [] before at stop f h = rw (f, append-nil before)
    numbers-done (v ∷ vs) before at stop f h =
        rw (checked-done (check before) at (from at) v f.0 f.1 (passes_head check before v vs h), ← append_snoc before v vs)
        (numbers-done vs (before ++ v ∷ []) f.0 stop f.2 (passes_tail check before v vs h))

    section_cons : {before all : List ℕ} {k at v next stop : ℕ} → from at ≡ value v next → check before v ≡ 0
        → Section from check (before ++ v ∷ []) k all next stop → Section from check before (suc k) all at stop
    section_cons {before} {v = v} {next = next} e c s =
        record {
          vs = v ∷ s.vs;
          all_eq = sym (append_snoc before v s.vs) ∙ s.all_eq;
          vs_length = ap suc s.vs_length;
          follows = (next, e, s.follows);
          passes = passes-cons check before v s.vs c s.passes;
        }

    numbers-read : (k : ℕ) (before all : List ℕ) (at stop : ℕ) → numbers from check k before at ≡ done all stop
        → Section from check before k all at stop
    unfolding numbers
    numbers-read zero before all at stop h =
        record {
          vs = [];
          all_eq = append-nil before ∙ ap (λ n. n.values) h;
          vs_length = refl;
          follows = ap (λ n. n.place) h;
          passes = λ i l. absurd (omega arith);
        }
    numbers-read (suc k) before all at stop h =
        let n : Number = checked (check before) at (from at) in
        by (eqb n.refusal 0)
        (λ r. checked-read (check before) at (from at) r λ e c.
        section_cons e c (numbers-read k (before ++ n.value ∷ []) all n.place stop (rw r at h)))
        (λ r. absurd (eqb-false n.refusal 0 r (ap (λ m. m.refusal) (rw r at h))))

    -- where nothing stands before them
    pub numbers-all : (k : ℕ) (vs : List ℕ) (at stop : ℕ) → numbers from check k [] at ≡ done vs stop
        → (length vs ≡ k) × Follows from vs at stop × Passes check [] vs
    numbers-all k vs at stop h =
        let s = numbers-read k [] vs at stop h in
        subst (λ l. (length l ≡ k) × Follows from l at stop × Passes check [] l) s.all_eq (s.vs_length, s.follows, s.passes)
