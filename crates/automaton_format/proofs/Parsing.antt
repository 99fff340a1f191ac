-- An automaton is what is read where its numbers stand in their order and nothing follows them,
-- and only there.
use Prim.Native.Nat.{ℕ, ◌+◌, ◌-◌, ◌*◌, ◌/◌, ◌%◌, ◌<◌, ◌≤◌}
use mathlib.Core.Path.{◌≡◌, sym, ◌∙◌, ap, subst}
use mathlib.Core.List.{List, [], ◌∷◌, ◌++◌}
use lib.ListN.{length, get_or, take, drop, replicate, take-append-drop}
use lib.Seq.{length-take-le, get_or-take}
use lib.Dec.{ltb}
use native.Mathlib.Omega.{arith}
use borrow.Author.Tests.{ltb-true, ltb-false, le-ltb}
use Rattle.base.specs.Pad.{pad}
use Rattle.base.proofs.Bools.{by}
use Rattle.base.proofs.Padding.{pad-length, pad-inside, pad-outside, pad-take, pad_every, take-pad}
use Rattle.varint.specs.Varint.{Number}
use Rattle.automaton.specs.declared.Automaton.{Automaton}
use Rattle.automaton.specs.Automaton.{controllables, flag, step, max_class}
use Rattle.automaton_format.specs.Reading.{between, class_row, tally, numbers, next_states, parsed, tables, automaton_from}
use Rattle.automaton_format.specs.Writing.{next_numbers, record_numbers}
use Rattle.automaton.proofs.Facts.{Valid}
use Rattle.automaton_format.proofs.Items.{inside, range_of}
use Rattle.automaton_format.proofs.Follows.{done, Follows, Passes, after-number-done, after-number-read, after-numbers-done, after-numbers-read, follows_append, follows_split, numbers-done, numbers-all}
use Rattle.automaton_format.proofs.NextStates.{StatesPass, next_prefix, next-states-done, next-states-all}
use Rattle.automaton_format.proofs.Tally.{tally-count}
use Rattle.automaton_format.proofs.Classes.{class-passed, classes_pass, classes-tally}

module _ (a : Automaton) (v : Valid a) where
  -- the used places of the arrays
  abbrev classes : List ℕ
  classes = take a.symbols a.classes

  abbrev flags : List ℕ
  flags = take a.states a.accepting

  abbrev states : List ℕ
  states = take (a.states * 16) a.next

  classes-length : length classes ≡ a.symbols
  classes-length = length-take-le a.symbols a.classes (omega (arith, v.classes-length, v.symbols-high))

  flags_length : length flags ≡ a.states
  flags_length = length-take-le a.states a.accepting (omega (arith, v.accepting-length, v.states-high))

  states-length : length states ≡ a.states * 16
  states-length = length-take-le (a.states * 16) a.next (omega (arith, v.next-length, v.states-high))

  classes-padded : pad 16 classes ≡ a.classes
  classes-padded = pad-take 16 a.symbols a.classes v.classes-length v.symbols-high (λ i u _. v.class-unused i u)

  flags_padded : pad 32 flags ≡ a.accepting
  flags_padded = pad-take 32 a.states a.accepting v.accepting-length v.states-high (λ i u _. v.flag-unused i u)

  states-padded : pad 512 states ≡ a.next
  unfolding step
  states-padded =
      pad-take 512 (a.states * 16) a.next v.next-length (omega (arith, v.states-high)) λ i u _.
      let e : i / 16 * 16 + i % 16 ≡ i = omega arith in
      rw e at (v.step-no-state (i / 16) (i % 16) (omega arith) (omega arith))

  classes-passes : Passes (class_row max_class) [] classes
  unfolding controllables
  classes-passes =
      classes_pass max_class classes
      (λ i h. rw (get_or-take a.symbols a.classes i 0 (omega (arith, classes-length))) (v.class-high i))
      (rw (tally-count a.symbols a.classes (omega (arith, v.classes-length, v.symbols-high))) v.controllables-high)

  flags_passes : Passes (λ _. between 0 2 7) [] flags
  flags_passes i h =
      rw (get_or-take a.states a.accepting i 0 (omega (arith, flags_length)))
      (inside 0 2 7 (flag a i) (omega arith) (omega (arith, v.flag_high i)))

  states_pass : StatesPass a.symbols (between 0 a.states 9) a.states states
  unfolding step
  states_pass =
      record {
        states-long = states-length;
        place = λ q e lq le.
            rw (get_or-take (a.states * 16) a.next (q * 16 + e) 0 (omega arith))
            (λ u. inside 0 a.states 9 (step a q e) (omega arith) (v.step-below q e lq u), λ u. v.step_no_symbol q e u le);
      }

  module _ (from : ℕ → Number) where
    classes-done : (at stop : ℕ) → Follows from classes at stop → numbers from (class_row max_class) a.symbols [] at ≡ done classes stop
    classes-done at stop f = rw classes-length at (numbers-done from (class_row max_class) classes [] at stop f classes-passes)

    flags_done : (at stop : ℕ) → Follows from flags at stop → numbers from (λ _. between 0 2 7) a.states [] at ≡ done flags stop
    flags_done at stop f = rw flags_length at (numbers-done from (λ _. between 0 2 7) flags [] at stop f flags_passes)

    states-done : (at stop : ℕ) → Follows from (next_numbers a.next a.symbols a.states) at stop
        → next_states from (between 0 a.states 9) a.symbols a.states [] at ≡ done states stop
    states-done at stop f =
        let e : next_numbers a.next a.symbols a.states ≡ next_numbers states a.symbols a.states
        = ap (λ l. next_numbers l a.symbols a.states) (sym (take-append-drop (a.states * 16) a.next)) ∙
        next_prefix states (drop (a.states * 16) a.next) a.symbols a.states v.symbols-high (omega (arith, states-length)) in
        next-states-done a.symbols (between 0 a.states 9) v.symbols-high from a.states states [] at stop states_pass (rw e at f)

    pub parsed_of : (end stop : ℕ) → Follows from (record_numbers a) 0 stop → end ≤ stop → automaton_from from 1 end ≡ parsed a
    unfolding automaton_from tables record_numbers
    parsed_of end stop f h =
        let s5 = follows_split from classes (flags ++ next_numbers a.next a.symbols a.states) _ stop f.2.2.2.2 in
        let s6 = follows_split from flags (next_numbers a.next a.symbols a.states) s5.0 stop s5.2 in
        after-number-done _ _ _ _ a.states f.0 f.1 (inside 1 33 3 a.states v.states-low (omega (arith, v.states-high))) ∙
        after-number-done _ _ _ _ a.symbols f.2.0 f.2.1 (inside 1 17 4 a.symbols v.symbols_low (omega (arith, v.symbols-high))) ∙
        after-number-done _ _ _ _ a.capacity f.2.2.0 f.2.2.1 (inside 1 7 5 a.capacity v.capacity-low (omega (arith, v.capacity-high))) ∙
        after-number-done _ _ _ _ a.initial f.2.2.2.0 f.2.2.2.1 (inside 0 a.states 6 a.initial (omega arith) v.initial-below) ∙
        after-numbers-done _ _ classes s5.0 (classes-done _ s5.0 s5.1) ∙
        after-numbers-done _ _ flags s6.0 (flags_done _ s6.0 s6.1) ∙
        after-numbers-done _ _ states stop (states-done _ stop s6.2) ∙
        rw (le-ltb stop end h, classes-padded, flags_padded, states-padded)

-- what stands where an automaton was read
pub record Standing (from : ℕ → Number) (end : ℕ) (a : Automaton) : Type 0 where
  pub valid : Valid a
  pub stop : ℕ
  pub follows : Follows from (record_numbers a) 0 stop
  pub reaches : end ≤ stop

-- what the arrays hold after reading
module _ (n m b q : ℕ) (cs fs vs : List ℕ) where
  abbrev made : Automaton
  made = record { states = n; symbols = m; capacity = b; initial = q; classes = pad 16 cs; accepting = pad 32 fs; next = pad 512 vs }

  module _ (hn : (1 ≤ n) × (n < 33)) (hm : (1 ≤ m) × (m < 17)) (hb : (1 ≤ b) × (b < 7)) (hq : q < n)
      (lc : length cs ≡ m) (pc : Passes (class_row max_class) [] cs) (lf : length fs ≡ n) (pf : Passes (λ _. between 0 2 7) [] fs)
      (r : StatesPass m (between 0 n 9) n vs) where
    made-count : controllables made ≤ 8
    unfolding controllables
    made-count =
        let long : length (pad 16 cs) ≡ 16 = pad-length 16 cs (omega arith) in
        let t : tally (take m (pad 16 cs)) ≡ tally cs = rw (← lc) (ap tally (take-pad 16 cs)) in
        rw (← tally-count m (pad 16 cs) (omega arith), t) (classes-tally 1 cs (omega arith) pc)

    made-next : (i : ℕ) → i < n * 16 → get_or (pad 512 vs) i 0 ≡ get_or vs i 0
    made-next i h = pad-inside 512 vs i (omega (arith, r.states-long))

    made_after : (i : ℕ) → n * 16 ≤ i → get_or (pad 512 vs) i 0 ≡ 0
    made_after i h = pad-outside 512 vs i (omega (arith, r.states-long))

    made-valid : Valid made
    unfolding step
    made-valid =
        record {
          classes-length = pad-length 16 cs (omega arith);
          accepting-length = pad-length 32 fs (omega arith);
          next-length = pad-length 512 vs (omega (arith, r.states-long));
          states-low = hn.0;
          states-high = omega arith;
          symbols_low = hm.0;
          symbols-high = omega arith;
          capacity-low = hb.0;
          capacity-high = omega arith;
          initial-below = hq;
          class-high = pad_every (λ c. c ≤ max_class) 16 cs (omega arith) (λ i h. (class-passed max_class (take i cs) (get_or cs i 0) (pc i h)).0);
          class-unused = λ e h. pad-outside 16 cs e (omega arith);
          controllables-high = made-count;
          flag_high = pad_every (λ c. c ≤ 1) 32 fs (omega arith) (λ i h. omega (arith, (range_of 0 2 7 (get_or fs i 0) (omega arith) (pf i h)).1));
          flag-unused = λ e h. pad-outside 32 fs e (omega arith);
          step-below = λ s e ls le. rw (made-next (s * 16 + e) (omega arith)) (range_of 0 n 9 (get_or vs (s * 16 + e) 0) (omega arith) ((r.place s e ls (omega arith)).0 le)).1;
          step-no-state = λ s e ls le. made_after (s * 16 + e) (omega arith);
          step_no_symbol = λ s e ls le.
              by (ltb s n)
              (λ u. let w : s < n = ltb-true s n u in rw (made-next (s * 16 + e) (omega arith)) ((r.place s e w le).1 ls))
              (λ u. made_after (s * 16 + e) (omega (arith, ltb-false s n u)));
        }

    made-numbers : record_numbers made ≡ n ∷ m ∷ b ∷ q ∷ (cs ++ (fs ++ next_numbers vs m n))
    unfolding record_numbers pad
    made-numbers =
        let c : take m (pad 16 cs) ≡ cs = rw (← lc) (take-pad 16 cs) in
        let f : take n (pad 32 fs) ≡ fs = rw (← lf) (take-pad 32 fs) in
        let s : next_numbers (pad 512 vs) m n ≡ next_numbers vs m n = next_prefix vs (replicate (512 - length vs) 0) m n (omega arith) (omega (arith, r.states-long)) in
        rw (c, f, s)

    made_standing : (from : ℕ → Number) (end stop : ℕ) → Follows from (n ∷ m ∷ b ∷ q ∷ (cs ++ (fs ++ next_numbers vs m n))) 0 stop → end ≤ stop
        → Standing from end made
    made_standing from end stop f h =
        record { valid = made-valid; stop = stop; follows = subst (λ l. Follows from l 0 stop) (sym made-numbers) f; reaches = h }

pub parsed_facts : (from : ℕ → Number) (end : ℕ) (a : Automaton) → automaton_from from 1 end ≡ parsed a → Standing from end a
unfolding automaton_from tables
parsed_facts from end a h =
    after-number-read _ _ _ _ a h λ n at1 e1 c1 h1.
    after-number-read _ _ _ _ a h1 λ m at2 e2 c2 h2.
    after-number-read _ _ _ _ a h2 λ b at3 e3 c3 h3.
    after-number-read _ _ _ _ a h3 λ q at4 e4 c4 h4.
    after-numbers-read _ _ a h4 λ cs at5 e5 h5.
    after-numbers-read _ _ a h5 λ fs at6 e6 h6.
    after-numbers-read _ _ a h6 λ vs at7 e7 h7.
    by (ltb at7 end)
    (λ u. absurd (let z : 10 ≡ 0 = ap (λ p. p.refusal) (rw u at h7) in omega arith))
    (λ u.
    let same : made n m b q cs fs vs ≡ a = ap (λ p. p.automaton) (rw u at h7) in
    let n0 = range_of 1 33 3 n (omega arith) c1 in
    let m0 = range_of 1 17 4 m (omega arith) c2 in
    let c0 = numbers-all from (class_row max_class) m cs at4 at5 e5 in
    let f0 = numbers-all from (λ _. between 0 2 7) n fs at5 at6 e6 in
    let r0 = next-states-all m (between 0 n 9) (omega arith) from n vs at6 at7 e7 in
    let later = follows_append from cs (fs ++ next_numbers vs m n) at4 at5 at7 c0.1 (follows_append from fs (next_numbers vs m n) at5 at6 at7 f0.1 r0.1) in
    subst (Standing from end) same
    (made_standing n m b q cs fs vs n0 m0 (range_of 1 7 5 b (omega arith) c3) (range_of 0 n 6 q (omega arith) c4).1 c0.0 c0.2 f0.0 f0.2 r0.0
    from end at7 (at1, e1, (at2, e2, (at3, e3, (at4, e4, later)))) (ltb-false at7 end u)))
