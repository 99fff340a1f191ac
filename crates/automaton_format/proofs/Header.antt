-- The ways out of reading the first four numbers.
use Prim.Native.Nat.{ℕ, ◌<◌, ◌≤◌}
use mathlib.Core.Path.{◌≡◌, refl, sym, ◌∙◌, ap}
use mathlib.Core.List.{List}
use lib.ListN.{length}
use Rattle.varint.specs.Varint.{Number, read}
use Rattle.automaton.specs.Automaton.{max_class}
use Rattle.automaton_format.specs.Reading.{checked, between, after_number, tables, automaton_from, parse, refused, Parsed}
use Rattle.automaton_format.proofs.Items.{passed, range_of}
use Rattle.automaton_format.proofs.Sections.{after-number-refused, after-number-passes}

-- a number that passed is in its range
pub in-range : (low limit row at : ℕ) (r n : Number) → 0 < row → n ≡ checked (between low limit row) at r → n.refusal ≡ 0 → (low ≤ n.value) × (n.value < limit)
in-range low limit row at r n pos e z =
    let p = passed (between low limit row) at r n e z in
    rw p.same (range_of low limit row r.value pos p.fits)

module _ (s : List ℕ) where
  start_part : ℕ → ℕ → ℕ → ℕ → Parsed
  start_part n m b at = after_number (checked (between 0 n 6) at (read s at)) (tables (read s) max_class (length s) n m b)

  capacity-part : ℕ → ℕ → ℕ → Parsed
  capacity-part n m at = after_number (checked (between 1 7 5) at (read s at)) (start_part n m)

  symbols-part : ℕ → ℕ → Parsed
  symbols-part n at = after_number (checked (between 1 17 4) at (read s at)) (capacity-part n)

  all-parts : parse s ≡ after_number (checked (between 1 33 3) 0 (read s 0)) symbols-part
  unfolding parse automaton_from symbols-part capacity-part start_part
  all-parts = refl

  -- one part: refused, or on to the next
  module _ (whole : Parsed) (r x : Number) (go : ℕ → ℕ → Parsed) (w : whole ≡ after_number r go) (e : x ≡ r) where
    part-refused : (x.refusal ≡ 0 → ⊥) → refused x.refusal x.place ≡ whole
    part-refused z = after-number-refused x go z ∙ ap (λ (y : Number). after_number y go) e ∙ sym w

    part-passes : x.refusal ≡ 0 → whole ≡ go x.value x.place
    part-passes z = w ∙ ap (λ (y : Number). after_number y go) (sym e) ∙ after-number-passes x go z

  module _ (n : Number) (en : n ≡ checked (between 1 33 3) 0 (read s 0)) where
    pub refused-states : (n.refusal ≡ 0 → ⊥) → refused n.refusal n.place ≡ parse s
    refused-states z = part-refused (parse s) (checked (between 1 33 3) 0 (read s 0)) n symbols-part all-parts en z

    module _ (zn : n.refusal ≡ 0) (m : Number) (em : m ≡ checked (between 1 17 4) n.place (read s n.place)) where
      to_symbols : parse s ≡ after_number (checked (between 1 17 4) n.place (read s n.place)) (capacity-part n.value)
      unfolding symbols-part
      to_symbols = part-passes (parse s) (checked (between 1 33 3) 0 (read s 0)) n symbols-part all-parts en zn

      pub refused-symbols : (m.refusal ≡ 0 → ⊥) → refused m.refusal m.place ≡ parse s
      refused-symbols z =
          part-refused (parse s) (checked (between 1 17 4) n.place (read s n.place)) m (capacity-part n.value) to_symbols em z

      module _ (zm : m.refusal ≡ 0) (b : Number) (eb : b ≡ checked (between 1 7 5) m.place (read s m.place)) where
        to_capacity : parse s ≡ after_number (checked (between 1 7 5) m.place (read s m.place)) (start_part n.value m.value)
        unfolding capacity-part
        to_capacity =
            part-passes (parse s) (checked (between 1 17 4) n.place (read s n.place)) m (capacity-part n.value) to_symbols em zm

        pub refused-capacity : (b.refusal ≡ 0 → ⊥) → refused b.refusal b.place ≡ parse s
        refused-capacity z =
            part-refused (parse s) (checked (between 1 7 5) m.place (read s m.place)) b (start_part n.value m.value) to_capacity eb z

        module _ (zb : b.refusal ≡ 0) (q : Number) (eq : q ≡ checked (between 0 n.value 6) b.place (read s b.place)) where
          later : ℕ → ℕ → Parsed
          later = tables (read s) max_class (length s) n.value m.value b.value

          to_start : parse s ≡ after_number (checked (between 0 n.value 6) b.place (read s b.place)) later
          unfolding start_part later
          to_start =
              part-passes (parse s) (checked (between 1 7 5) m.place (read s m.place)) b (start_part n.value m.value) to_capacity eb zb

          pub refused_start : (q.refusal ≡ 0 → ⊥) → refused q.refusal q.place ≡ parse s
          refused_start z = part-refused (parse s) (checked (between 0 n.value 6) b.place (read s b.place)) q later to_start eq z

          pub to_tables : q.refusal ≡ 0 → tables (read s) max_class (length s) n.value m.value b.value q.value q.place ≡ parse s
          unfolding later
          to_tables z =
              sym (part-passes (parse s) (checked (between 0 n.value 6) b.place (read s b.place)) q later to_start eq z)
