-- The instances.
use Prim.Native.Nat.{ℕ, zero, suc, ◌*◌, ◌<◌, ◌≤◌}
use mathlib.Core.Path.{◌≡◌, refl, ◌∙◌, ap}
use mathlib.Core.Bool.{true, false}
use mathlib.Core.List.{[], ◌∷◌}
use mathlib.Core.Logic.{inl}
use native.Mathlib.Omega.{arith}
use lib.ListN.{length, get_or, length-replicate}
use Rattle.base.proofs.Bools.{clash}
use Rattle.base.specs.Each.{each, count}
use Rattle.base.specs.Rows.{first}
use Rattle.base.specs.Pad.{pad}
use Rattle.base.specs.Masks.{has, mask}
use Rattle.varint.specs.Varint.{groups, read}
use Rattle.varint.proofs.Trips.{reads_back, fewest}
use Rattle.automaton.specs.Arrays.{controllable_in}
use Rattle.automaton.specs.Automaton.{controllable, controllables, accepts, step}
use Rattle.automaton_format.proofs.Trips.{written_reads_back, read_again}
use Rattle.automaton_format.proofs.Faults.{refused-inside}
use Rattle.solver_sets.specs.Sets.{accepting_set, admits, stays, refine, settle, settled, sets_of, empty_sets, into, sets_for}
use Rattle.solver_sets.specs.Table.{index, rank, in_base_k, shorter, buffers_count}
use Rattle.solver_sets.proofs.Numbering.{numbered, one_to_one, onto}
use Rattle.solver_sets.proofs.Growth.{union_adds_nothing}
use Rattle.solver_sets.proofs.Tables.{table-is-solved}
use Rattle.solver_sets.proofs.Paper.{satisfy_definition6, only_definition6}
use Rattle.solver_sets.proofs.Largest.{is_resting, is-largest, rounds-bounded}
use Rattle.solver_answers.specs.Solving.{solved_table}
use Rattle.solver_answers.proofs.Answers.{solves_definition6}
use Rattle.enforcement_cases.specs.Cases.{bytes_v, automaton_v, automaton_w}
use Rattle.game.specs.Game.{too_large_in, game_refusal}
use Rattle.game.proofs.Worded.{as_worded}
use Rattle.game.proofs.Agreement.{agrees, verdict-agrees}
use Rattle.configuration.specs.Configuration.{held_events, place_numbers, controllable_symbol, place_stands, buffer_stands, input_stands, inputs_stand, consistent_in}
use Rattle.text.specs.Decimal.{ascii}
use Rattle.notation.proofs.Laws.{never_longer, room_in_text, read_small, cases-read}
use Rattle.notation_unpack.proofs.Trips.{line_reads_back, packs_shortest, line-bounded, packed_reads_back, cases-unpacked}
use Rattle.day_transcript.proofs.Cases.{long-refused}
use Rattle.day_transcript.proofs.Bounds.{transcript-bounded}
use Rattle.enforcement_instances.proofs.Sheets.{valid-w, read-v, valid-v, solves_w, buffers-w, table-w, solved-w}
use Rattle.enforcement_instances.specs.Statements.{filled, padded_v, bytes_padded, one_page, Encodings, Solving, Judging, text_v, Texts}

two_bytes : Rattle.varint.specs.Claims.AreBytes (128 ∷ 0 ∷ [])
two_bytes zero h = omega arith
two_bytes (suc zero) h = omega arith
two_bytes (suc (suc i)) h = absurd (omega arith)

read-zero : read (128 ∷ 0 ∷ []) 0 ≡ Rattle.varint.specs.Varint.value 0 2
unfolding groups read
read-zero = refl

pub encodings : Encodings
encodings =
    record {
      reads_back = reads_back 128 (7 ∷ []) (9 ∷ []) (omega arith);
      fewest = fewest (128 ∷ 0 ∷ []) 0 0 2 two_bytes read-zero;
      written_reads_back = written_reads_back automaton_w valid-w;
      read-is-valid = valid-v;
      refused-inside = refused-inside (3 ∷ 2 ∷ []);
      read_again = read_again padded_v automaton_v read-v;
    }

-- V's state 2 alone: accepting, and Query leads back to it
abbrev two : ℕ → Type 0
two q = q ≡ 2

from_two : (e : ℕ) → e < 2 → step automaton_v 2 e ≡ 2
unfolding step automaton_v pad
from_two zero h = refl
from_two (suc zero) h = refl
from_two (suc (suc e)) h = absurd (omega arith)

two-rests : Rattle.solver_sets.specs.Claims.Resting automaton_v [] two
unfolding accepts automaton_v pad
two-rests =
    record {
      accepting = λ q _ x. ap (accepts automaton_v) x ∙ refl;
      leads = λ q e _ x u. inl (ap (λ p. step automaton_v p e) x ∙ from_two e u.0);
    }

buffer-w : Rattle.solver_sets.specs.Table.Buffer automaton_w (2 ∷ 3 ∷ [])
unfolding controllable automaton_w pad
buffer-w = (((omega arith, refl), ((omega arith, refl), tt)), omega arith)

five_w : 5 < buffers_count automaton_w
five_w = omega (arith, buffers-w)

-- S of Page and Receipt has W's state 0
inside-w : has (sets_for automaton_w (2 ∷ 3 ∷ [])).winning 0 ≡ true
unfolding each count has mask accepting_set admits stays refine settle settled sets_of empty_sets into sets_for accepts step controllable automaton_w pad
inside-w = refl

in_table : has (get_or (solved_table automaton_w (filled 16 9)) (2 * index automaton_w (2 ∷ 3 ∷ [])) 0) 0 ≡ true
unfolding has index in_base_k rank shorter controllables controllable_in controllable count automaton_w pad
in_table = rw table-w refl

not_in_table : has (get_or (solved_table automaton_w (filled 16 9)) (2 * index automaton_w (2 ∷ 3 ∷ [])) 0) 2 ≡ false
unfolding has index in_base_k rank shorter controllables controllable_in controllable count automaton_w pad
not_in_table = rw table-w refl

pub solving : Solving
unfolding automaton_v automaton_w
solving =
    record {
      is_resting = is_resting automaton_w valid-w (2 ∷ 3 ∷ []);
      is-largest = is-largest automaton_v valid-v [] two two-rests 2 (omega arith) refl;
      rounds-bounded = rounds-bounded automaton_v valid-v (1 ∷ []);
      union_adds_nothing =
          (union_adds_nothing automaton_v valid-v [] 1 2 (omega arith)).0
          (is-largest automaton_v valid-v [] two two-rests 2 (omega arith) refl);
      satisfies = satisfy_definition6 automaton_w valid-w;
      only = λ S I d. (only_definition6 automaton_w valid-w S I d (2 ∷ 3 ∷ []) buffer-w 0 (omega arith)).0.1 inside-w;
      numbered = numbered automaton_w valid-w (2 ∷ 3 ∷ []) buffer-w;
      one_to_one = λ w b e. one_to_one automaton_w valid-w w (2 ∷ 3 ∷ []) b buffer-w e;
      onto = onto automaton_w valid-w 5 five_w;
      table-is-solved =
          ((table-is-solved automaton_w valid-w).0, (table-is-solved automaton_w valid-w).1 (9 ∷ 9 ∷ []));
      left = table-w;
      leaves-solved = solved-w;
      solves_definition6 = λ S I d. (
        (solves_definition6 automaton_w (filled 16 9) solves_w S I d (2 ∷ 3 ∷ []) buffer-w 0 (omega arith)).0.1 in_table,
        λ x. clash ((solves_definition6 automaton_w (filled 16 9) solves_w S I d (2 ∷ 3 ∷ []) buffer-w 2 (omega arith)).0.0 x) not_in_table,
      );
    }

allowed : game_refusal automaton_w one_page ≡ 0
unfolding
    game_refusal first too_large_in held_events place_numbers controllable_symbol place_stands buffer_stands input_stands inputs_stand consistent_in
    each count automaton_w pad
allowed = rw valid-w refl

pub judging : Judging
unfolding automaton_w held_events pad
judging =
    record {
      as_worded = as_worded automaton_w;
      agrees = (agrees automaton_w valid-w (2 ∷ []) 1 (omega arith)).0;
      verdict-agrees = (verdict-agrees automaton_w one_page allowed).1;
    }

are_bytes : Rattle.varint.specs.Claims.AreBytes bytes_padded
are_bytes zero h = omega arith
are_bytes (suc zero) h = omega arith
are_bytes (suc (suc zero)) h = omega arith
are_bytes (suc (suc (suc i))) h = absurd (omega arith)

long-v : length text_v ≤ length (filled 34 9)
unfolding ascii
long-v = omega arith

zeros : 60000 < length (filled 60001 0)
zeros = rw (length-replicate {A = ℕ} 60001 0) (omega arith)

pub texts : Texts
texts =
    let said = cases-read.automaton in
    let read = cases-unpacked.padded in
    record {
      never_longer = never_longer text_v bytes_v said;
      room_in_text = room_in_text text_v bytes_v (filled 34 9) said long-v;
      read_small = read_small text_v bytes_v said 0 (omega arith);
      line_reads_back = line_reads_back bytes_padded (0 ∷ 7 ∷ []) are_bytes read;
      packs_shortest = packs_shortest bytes_padded (0 ∷ 7 ∷ []) are_bytes read;
      line-bounded = line-bounded bytes_padded (0 ∷ 7 ∷ []) are_bytes read;
      packed_reads_back = packed_reads_back text_v bytes_v said;
      long-refused = long-refused (filled 60001 0) zeros;
      transcript-bounded = transcript-bounded (128 ∷ 0 ∷ []) two_bytes;
    }
