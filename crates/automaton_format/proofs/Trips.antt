-- Reading an automaton that was written, and writing one that was read.
use Prim.Native.Nat.{ℕ, zero, suc, ◌*◌, ◌<◌, ◌≤◌}
use mathlib.Core.List.{List, [], ◌∷◌, ◌++◌}
use lib.ListN.{length, get_or, take, drop, length-take}
use lib.Seq.{get_or-take, get_or-drop}
use native.Mathlib.Omega.{arith}
use Rattle.base.proofs.Every.{Every, every_cons, every_append}
use Rattle.varint.specs.Varint.{read}
use Rattle.automaton.specs.declared.Automaton.{Automaton}
use Rattle.automaton.specs.Automaton.{step}
use Rattle.automaton_format.specs.Reading.{parse}
use Rattle.automaton_format.specs.Writing.{next_numbers, record_numbers, encoded, record_bytes}
use Rattle.automaton_format.specs.Claims.{WrittenReadsBack, ReadIsValid, ReadAgain}
use Rattle.automaton.proofs.Facts.{Valid, valid_facts, valid_of}
use Rattle.automaton_format.proofs.Encoded.{encoded_follows, follows_fewest, follows_inside}
use Rattle.automaton_format.proofs.Parsing.{parsed_of, parsed_facts}

-- Each number of a valid automaton is one byte long.
abbrev pub small : ℕ → Type 0
small n = n < 128

-- the first places of an array
front-small : (k : ℕ) (l : List ℕ) → ((i : ℕ) → i < k → get_or l i 0 < 128) → Every small (take k l)
front-small k l f i h = let b : i < k = omega (arith, length-take k l) in rw (get_or-take k l i 0 b) (f i b)

module _ (a : Automaton) (v : Valid a) where
  next_small : (k : ℕ) → k ≤ a.states → Every small (next_numbers a.next a.symbols k)
  unfolding next_numbers step
  next_small zero h = λ i l. absurd (omega arith)
  next_small (suc k) h =
      every_append small (next_numbers a.next a.symbols k) (take a.symbols (drop (k * 16) a.next))
      (next_small k (omega arith))
      (front-small a.symbols (drop (k * 16) a.next) λ e l.
      rw (get_or-drop (k * 16) a.next e 0) (omega (arith, v.step-below k e (omega arith) l, v.states-high)))

  pub numbers-small : Every small (record_numbers a)
  unfolding record_numbers
  numbers-small =
      let fs : List ℕ = take a.states a.accepting in
      let ns : List ℕ = next_numbers a.next a.symbols a.states in
      let cs : List ℕ = take a.symbols a.classes in
      every_cons small a.states (a.symbols ∷ a.capacity ∷ a.initial ∷ (cs ++ (fs ++ ns))) (omega (arith, v.states-high)) (
      every_cons small a.symbols (a.capacity ∷ a.initial ∷ (cs ++ (fs ++ ns))) (omega (arith, v.symbols-high)) (
      every_cons small a.capacity (a.initial ∷ (cs ++ (fs ++ ns))) (omega (arith, v.capacity-high)) (
      every_cons small a.initial (cs ++ (fs ++ ns)) (omega (arith, v.initial-below, v.states-high)) (
      every_append small cs (fs ++ ns)
      (front-small a.symbols a.classes (λ e _. omega (arith, v.class-high e))) (
      every_append small fs ns
      (front-small a.states a.accepting (λ q _. omega (arith, v.flag_high q)))
      (next_small a.states (omega arith)))))))

pub written_reads_back : WrittenReadsBack
unfolding parse record_bytes
written_reads_back a h =
    let v = valid_facts a h in
    let s : List ℕ = encoded (record_numbers a) in
    parsed_of a v (read s) (length s) (length s) (encoded_follows (record_numbers a) [] (λ i l. omega (arith, numbers-small a v i l))) (omega arith)

pub read-is-valid : ReadIsValid
unfolding parse
read-is-valid s a h = valid_of a (parsed_facts (read s) (length s) a h).valid

pub read_again : ReadAgain
unfolding parse record_bytes
read_again s a h =
    let t = parsed_facts (read s) (length s) a h in (
      written_reads_back a (read-is-valid s a h),
      omega (
        arith,
        follows_fewest s (record_numbers a) 0 t.stop t.follows (numbers-small a t.valid),
        follows_inside s (record_numbers a) 0 t.stop (omega arith) t.follows,
      ),
    )
