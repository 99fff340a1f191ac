-- The ways out of reading the classes, flags and next states.
use Prim.Native.Nat.{ℕ, ◌<◌, ◌≤◌}
use mathlib.Core.Path.{◌≡◌, sym, ◌∙◌, ap}
use mathlib.Core.Bool.{cond}
use mathlib.Core.List.{List, []}
use native.Mathlib.Omega.{arith}
use lib.ListN.{length, replicate}
use lib.Seq.{sets}
use lib.Dec.{ltb}
use borrow.Author.Tests.{lt-ltb, le-ltb}
use Rattle.base.specs.Pad.{pad}
use Rattle.base.proofs.Padding.{pad-stored}
use Rattle.varint.specs.Varint.{Number, read}
use Rattle.automaton.specs.declared.Automaton.{Automaton}
use Rattle.automaton.specs.Automaton.{max_class}
use Rattle.automaton_format.specs.Reading.{between, item_row, class_row, Numbers, numbers, next_states, after_numbers, tables, parsed, refused, Parsed}
use Rattle.automaton_format.specs.Outcomes.{outcome}
use Rattle.automaton_format.proofs.Sections.{items_are, after-numbers-refused, after-numbers-passes, numbers_most}

-- one section: refused, or on to the next
module _ (whole : Parsed) (ns : Numbers) (go : List ℕ → ℕ → Parsed) (w : whole ≡ after_numbers ns go) (x : Number) (e : x ≡ outcome ns) where
  section_refused : (x.refusal ≡ 0 → ⊥) → refused x.refusal x.place ≡ whole
  unfolding outcome
  section_refused z = ap (λ (y : Number). refused y.refusal y.place) e ∙ after-numbers-refused ns go (rw e at z) ∙ sym w

  section_passes : x.refusal ≡ 0 → whole ≡ go ns.values x.place
  unfolding outcome
  section_passes z =
      w ∙ after-numbers-passes ns go (ap (λ (y : Number). y.refusal) (sym e) ∙ z) ∙ ap (λ (y : Number). go ns.values y.place) (sym e)

module _ (s : List ℕ) (at n m b q : ℕ) (small : m ≤ 16) (few : n ≤ 32) where
  -- the record, and what is left to read after the classes, and after the flags
  record_of : List ℕ → List ℕ → List ℕ → Automaton
  record_of classes flags next =
      record {
        states = n;
        symbols = m;
        capacity = b;
        initial = q;
        classes = pad 16 classes;
        accepting = pad 32 flags;
        next = pad 512 next;
      }

  last-part : List ℕ → List ℕ → List ℕ → ℕ → Parsed
  last-part classes flags next place = cond (ltb place (length s)) (refused 10 place) (parsed (record_of classes flags next))

  next-part : List ℕ → List ℕ → ℕ → Parsed
  next-part classes flags place = after_numbers (next_states (read s) (between 0 n 9) m n [] place) (last-part classes flags)

  flag-part : List ℕ → ℕ → Parsed
  flag-part classes place = after_numbers (numbers (read s) (item_row 2 7 32) n [] place) (next-part classes)

  flags_are : (place : ℕ) → numbers (read s) (λ _. between 0 2 7) n [] place ≡ numbers (read s) (item_row 2 7 32) n [] place
  flags_are place = items_are (read s) 2 7 32 n place few

  abbrev whole : Parsed
  whole = tables (read s) max_class (length s) n m b q at

  abbrev class-numbers : Numbers
  class-numbers = numbers (read s) (class_row max_class) m [] at

  all-parts : whole ≡ after_numbers class-numbers flag-part
  unfolding tables flag-part next-part last-part record_of
  all-parts = simp flags_are

  module _ (c : Number) (ec : c ≡ outcome class-numbers) where
    pub tables-classes : (c.refusal ≡ 0 → ⊥) → refused c.refusal c.place ≡ whole
    tables-classes z = section_refused whole class-numbers flag-part all-parts c ec z

    abbrev flag-numbers : Numbers
    flag-numbers = numbers (read s) (item_row 2 7 32) n [] c.place

    module _ (zc : c.refusal ≡ 0) (f : Number) (ef : f ≡ outcome flag-numbers) where
      to_flags : whole ≡ after_numbers flag-numbers (next-part class-numbers.values)
      unfolding flag-part
      to_flags = section_passes whole class-numbers flag-part all-parts c ec zc

      pub tables_flags : (f.refusal ≡ 0 → ⊥) → refused f.refusal f.place ≡ whole
      tables_flags z = section_refused whole flag-numbers (next-part class-numbers.values) to_flags f ef z

      abbrev next-numbers : Numbers
      next-numbers = next_states (read s) (between 0 n 9) m n [] f.place

      module _ (zf : f.refusal ≡ 0) (t : Number) (et : t ≡ outcome next-numbers) where
        to_next : whole ≡ after_numbers next-numbers (last-part class-numbers.values flag-numbers.values)
        unfolding next-part
        to_next = section_passes whole flag-numbers (next-part class-numbers.values) to_flags f ef zf

        pub tables-next : (t.refusal ≡ 0 → ⊥) → refused t.refusal t.place ≡ whole
        tables-next z = section_refused whole next-numbers (last-part class-numbers.values flag-numbers.values) to_next t et z

        module _ (zt : t.refusal ≡ 0) where
          to_last : whole ≡ last-part class-numbers.values flag-numbers.values next-numbers.values t.place
          to_last = section_passes whole next-numbers (last-part class-numbers.values flag-numbers.values) to_next t et zt

          pub tables_extra : t.place < length s → refused 10 t.place ≡ whole
          unfolding last-part
          tables_extra l = sym (to_last ∙ rw (lt-ltb t.place (length s) l))

          pub tables-done : length s ≤ t.place → (classes flags next : List ℕ)
              → classes ≡ sets (replicate 16 0) 0 class-numbers.values → flags ≡ sets (replicate 32 0) 0 flag-numbers.values
              → next ≡ pad 512 next-numbers.values
              → parsed (record { states = n; symbols = m; capacity = b; initial = q; classes = classes; accepting = flags; next = next }) ≡ whole
          unfolding last-part record_of
          tables-done l classes flags next i j k =
              let short-c = numbers_most (read s) (class_row max_class) m [] at in
              let short-f = numbers_most (read s) (item_row 2 7 32) n [] c.place in
              rw (i, j, k, pad-stored 16 class-numbers.values (omega arith), pad-stored 32 flag-numbers.values (omega arith))
              (sym (to_last ∙ rw (le-ltb t.place (length s) l)))
