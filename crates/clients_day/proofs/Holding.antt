-- How many events all of a list hold, and the marks of all, as a loop adds up and stores them, and
-- by an automaton's own parts.
use Prim.Native.Nat.{ℕ, ◌+◌, ◌<◌, ◌≤◌}
use mathlib.Core.Path.{◌≡◌, refl, sym, ◌∙◌, ap}
use mathlib.Core.List.{List, [], ◌∷◌, map}
use native.Mathlib.Numerals.{add-one}
use native.Mathlib.Omega.{arith}
use lib.ListN.{length, get_or, set, drop, drop_of_length-le, length-map, get_or-append}
use lib.Seq.{drop-cons, sets, sets-eq}
use Rattle.base.proofs.Every.{get_d_map}
use Rattle.automaton.specs.declared.Automaton.{Automaton}
use Rattle.configuration.specs.declared.Configuration.{Configuration}
use Rattle.monitor_loop.specs.declared.Limits.{Limits}
use Rattle.monitor_loop.specs.Lending.{Lends}
use Rattle.clients_answers.specs.Clients.{none, held_in, held_in_all}
use Rattle.clients_entry.specs.Entries.{held_in_by, mark_by}
use Rattle.clients_entry.proofs.Entering.{mark-own}
use Rattle.clients_day.specs.Days.{held_in_all_by, marks_by, Marked}

module _ (l : Limits) (classes : List ℕ) where
  -- one more of them (the code reads the list with a default of its own)
  pub held_more : (cs : List Configuration) (i : ℕ) (d : Configuration) (sum total one : ℕ) → i < length cs
      → one ≡ held_in_by l classes (get_or cs i d) → sum + held_in_all_by l classes (drop i cs) ≡ total
      → (sum + one) + held_in_all_by l classes (drop (i + 1) cs) ≡ total
  unfolding held_in_all_by
  held_more cs i d sum total one h e f =
      let more : held_in_all_by l classes (drop i cs) ≡ held_in_by l classes (get_or cs i d) + held_in_all_by l classes (drop (i + 1) cs) =
      rw (drop-cons cs i d h) (rw (add-one i))
      in
      omega (arith, e, f, more)

  pub held_end : (cs : List Configuration) (i : ℕ) → length cs ≤ i → held_in_all_by l classes (drop i cs) ≡ 0
  unfolding held_in_all_by
  held_end cs i h = rw (drop_of_length-le cs h)

  -- the mark of one more
  pub marks_more : (marks : List ℕ) (cs : List Configuration) (i : ℕ) (d : Configuration) (all then : List ℕ) → i < length cs
      → then ≡ set marks i (mark_by l classes (get_or cs i d)) → sets marks i (marks_by l classes (drop i cs)) ≡ all
      → sets then (i + 1) (marks_by l classes (drop (i + 1) cs)) ≡ all
  unfolding marks_by
  marks_more marks cs i d all then h e f =
      let more : sets marks i (marks_by l classes (drop i cs))
      ≡ sets (set marks i (mark_by l classes (get_or cs i d))) (i + 1) (marks_by l classes (drop (i + 1) cs)) =
      rw (drop-cons cs i d h) (rw (add-one i))
      in
      rw e (sym more ∙ f)

  pub marks_end : (marks : List ℕ) (cs : List Configuration) (i : ℕ) → length cs ≤ i → sets marks i (marks_by l classes (drop i cs)) ≡ marks
  unfolding marks_by
  marks_end marks cs i h = rw (drop_of_length-le cs h)

  -- the marks stored, read at a client's place
  mark-at : (marks : List ℕ) (cs : List Configuration) → length cs ≤ length marks → (k : ℕ) → k < length cs
      → get_or (sets marks 0 (marks_by l classes cs)) k 0 ≡ mark_by l classes (get_or cs k none)
  unfolding marks_by
  mark-at marks cs fits k h =
      let all = map (mark_by l classes) cs in
      let long : length all ≡ length cs = length-map cs (mark_by l classes) in
      let room : 0 + length all ≤ length marks = omega (arith, long, fits) in
      let low : k < length all = omega (arith, long, h) in
      ap (λ (xs : List ℕ). get_or xs k 0) (sets-eq all marks 0 room) ∙ get_or-append all (drop (0 + length all) marks) 0 k low ∙ get_d_map (mark_by l classes) cs k none 0 h

  -- an automaton's own
  module _ (a : Automaton) (next ranks t : List ℕ) (o : Lends a l next ranks t) (s : classes ≡ a.classes) where
    held-own : (c : Configuration) → held_in_by l classes c ≡ held_in a c
    unfolding held_in_by held_in
    held-own c = rw (o.limits-are, s)

    pub held-all-own : (cs : List Configuration) → held_in_all_by l classes cs ≡ held_in_all a cs
    unfolding held_in_all_by held_in_all
    held-all-own [] = refl
    held-all-own (c ∷ cs) = rw (held-own c, held-all-own cs)

    pub marks_own : (marks : List ℕ) (cs : List Configuration) → length cs ≤ length marks → Marked a (sets marks 0 (marks_by l classes cs)) cs
    marks_own marks cs fits k h = mark-at marks cs fits k h ∙ mark-own l classes a o s (get_or cs k none)
