-- How long a transcript can be.
use Prim.Native.Nat.{ℕ, zero, suc, ◌+◌, ◌*◌, ◌^◌, ◌<◌, ◌≤◌}
use mathlib.Core.Path.{◌≡◌}
use mathlib.Core.Bool.{Bool, true, false}
use mathlib.Core.List.{List, [], ◌∷◌}
use native.Mathlib.Omega.{arith}
use lib.ListN.{length, take, length-append, length-take}
use lib.Seq.{get_or-take}
use lib.Dec.{eqb, ltb}
use borrow.Author.Tests.{ltb-false, eqb-true}
use Rattle.base.specs.Rows.{first}
use Rattle.base.proofs.Bools.{by}
use Rattle.base.proofs.Every.{Every, every_cons, every_append}
use Rattle.base.proofs.Padding.{take-pad}
use Rattle.varint.specs.Varint.{read}
use Rattle.varint.specs.Claims.{AreBytes}
use Rattle.automaton_format.specs.Opening.{opening}
use Rattle.automaton_format.proofs.Faults.{read-inside}
use Rattle.automaton_format.proofs.Openings.{opening-inside, opening-valid}
use Rattle.automaton.specs.declared.Automaton.{Automaton}
use Rattle.automaton.specs.Automaton.{controllable}
use Rattle.automaton.proofs.Facts.{Valid, valid_facts}
use Rattle.solver_sets.specs.Table.{Controllable, table}
use Rattle.solver_sets.proofs.Total.{Total, total}
use Rattle.configuration.specs.declared.Configuration.{Configuration}
use Rattle.configuration.specs.Configuration.{held_events, position_of}
use Rattle.configuration.proofs.Facts.{controllable_every}
use Rattle.monitor_rule.specs.Step.{Rest, by_table, release, arrival, effect, event_rows}
use Rattle.monitor_rule.proofs.Effects.{Occurs, Accepts, accepted_facts, arrival_arrives, effect_occurs, effect-length}
use Rattle.monitor_answers.specs.Answers.{table_rows, configuration_rows, call_rows, receive_refusal, refused_event, received}
use Rattle.text.specs.Decimal.{ascii}
use Rattle.text.proofs.Digits.{byte_length, word_length}
use Rattle.text_lines.specs.Lines.{refused_event_line, end_line, fault_line, refusal_line}
use Rattle.day_lines.specs.StatusLines.{winning_end, automaton_line, spaced, emission, event_line}
use Rattle.day_transcript.specs.Transcript.{Session, session_from, first_line, answer_line, after, event_lines, session_lines, too_long, over_places, transcript}
use Rattle.day_transcript.specs.Claims.{TranscriptBounded}
use Rattle.monitor_answers.proofs.Refusals.{place}
use Rattle.monitor_answers.proofs.Accepted.{clear_occurs, receive_clear, receive-event}
use Rattle.day_transcript.proofs.Sessions.{after-counts}
use Rattle.day_transcript.proofs.Events.{next-after, next-inside, next_small}

-- no line takes more than 96 bytes
winning-short : (g : Bool) → length (winning_end g) ≤ 13
unfolding winning_end ascii
winning-short true = omega arith
winning-short false = omega arith

pub fault-short : (row place : ℕ) → row < 256 → place < 2 ^ 64 → length (fault_line row place) ≤ 96
unfolding fault_line ascii
fault-short row place h l = simp length-append (omega (arith, byte_length row h, word_length place l))

pub refusal-short : (row : ℕ) → row < 256 → length (refusal_line row) ≤ 96
unfolding refusal_line ascii
refusal-short row h = simp length-append (omega (arith, byte_length row h))

pub end_short : (accepted refused : ℕ) → accepted < 2 ^ 64 → refused < 2 ^ 64 → length (end_line accepted refused) ≤ 96
unfolding end_line ascii
end_short accepted refused h l = simp length-append (omega (arith, word_length accepted h, word_length refused l))

pub refused-event-short : (e row : ℕ) → e < 2 ^ 64 → row < 256 → length (refused_event_line e row) ≤ 96
unfolding refused_event_line ascii
refused-event-short e row h l = simp length-append (omega (arith, word_length e h, byte_length row l))

pub automaton-short : (n m b q : ℕ) (g : Bool) → n < 256 → m < 256 → b < 256 → q < 256 → length (automaton_line n m b q g) ≤ 96
unfolding automaton_line ascii
automaton-short n m b q g h i j k =
    simp length-append (omega (arith, byte_length n h, byte_length m i, byte_length b j, byte_length q k, winning-short g))

spaced-short : (es : List ℕ) → Every (λ e. e < 256) es → length (spaced es) ≤ 4 * length es
unfolding spaced ascii
spaced-short [] f = omega arith
spaced-short (e ∷ es) f =
    let i = spaced-short es (λ k h. f (suc k) (omega arith)) in
    simp length-append (omega (arith, byte_length e (f 0 (omega arith))))

emission-short : (es : List ℕ) → Every (λ e. e < 256) es → length (emission es) ≤ 2 + 4 * length es
unfolding emission ascii
emission-short [] f = omega arith
emission-short (e ∷ es) f = omega (arith, spaced-short (e ∷ es) f)

pub event-short : (e : ℕ) (es : List ℕ) (q h : ℕ) (g : Bool) → e < 2 ^ 64 → Every (λ x. x < 256) es → length es ≤ 7 → q < 256 → h < 256
    → length (event_line e es q h g) ≤ 96
unfolding event_line ascii
event-short e es q h g i f l j k =
    simp length-append (omega (arith, word_length e i, emission-short es f, byte_length q j, byte_length h k, winning-short g))

-- the kinds put out are symbols
every_take : (P : ℕ → Type 0) (k : ℕ) (l : List ℕ) → Every P l → Every P (take k l)
every_take P k l f i h =
    let b : (i < k) × (i < length l) = omega (arith, length-take k l) in
    rw (get_or-take k l i 0 b.0) (f i b.1)

module _ (rest : Rest) (a : Automaton) (v : Valid a) (q : ℕ) (w : List ℕ) (e : ℕ) (total : Total a) (o : Occurs a q w)
    (h : Accepts rest a q w e) where
  abbrev Symbols : List ℕ → Type 0
  Symbols = Every (λ x. x < 256)

  held-symbols : (b : List ℕ) → Controllable a b → Symbols b
  held-symbols b c i l = omega (arith, (controllable_every a b c i l).0, v.symbols-high)

  arrival-symbols : Symbols (arrival a q w e).emitted
  unfolding arrival
  arrival-symbols =
      by (controllable a e)
      (λ c. rw c (λ i l. absurd (omega arith)))
      (λ c. rw c (every_cons (λ x. x < 256) e [] (omega (arith, h.symbol, v.symbols-high)) (λ i l. absurd (omega arith))))

  emitted-symbols : Symbols (effect rest a q w e).emitted
  unfolding effect
  emitted-symbols =
      let x = arrival a q w e in
      let k = release rest a x.state x.buffer in
      every_append (λ y. y < 256) x.emitted (take k x.buffer) arrival-symbols
      (every_take (λ y. y < 256) k x.buffer (held-symbols x.buffer (arrival_arrives a q w e h.symbol total o).symbols))

-- an answer's row
first_high : (k n : ℕ) (b : Bool) (rows : List (ℕ × Bool)) → n ≤ k → first rows ≤ k → first ((n, b) ∷ rows) ≤ k
unfolding first
first_high k n true rows h i = h
first_high k n false rows h i = i

first-none : (k : ℕ) → first [] ≤ k
unfolding first
first-none k = omega arith

refusal_high : (a : Automaton) (t : List ℕ) (c : Configuration) (e : ℕ) → receive_refusal a t c e ≤ 23
unfolding receive_refusal table_rows configuration_rows call_rows event_rows
refusal_high a t c e =
    first_high 23 11 _ _ (omega arith)
    (first_high 23 12 _ _ (omega arith)
    (first_high 23 13 _ _ (omega arith)
    (first_high 23 14 _ _ (omega arith)
    (first_high 23 15 _ _ (omega arith)
    (first_high 23 23 _ _ (omega arith) (first-none 23))))))

-- an event's line
answer-refused-is : (a : Automaton) (t : List ℕ) (c : Configuration) (e : ℕ) → eqb (receive_refusal a t c e) 0 ≡ false
    → received a t c e ≡ refused_event (receive_refusal a t c e) c
unfolding received
answer-refused-is a t c e z = rw z

answer-short : (a : Automaton) (t : List ℕ) (c : Configuration) (e : ℕ) → e < 2 ^ 64 → length (answer_line e (received a t c e)) ≤ 96
unfolding answer_line received
answer-short a t c e h =
    by (eqb (receive_refusal a t c e) 0)
    (λ z.
    let k = receive_clear a t c e (eqb-true _ 0 z) in
    let taken = accepted_facts (by_table a t) a (position_of c) e (receive-event a t c e (eqb-true _ 0 z)) in
    let v = valid_facts a k.record_valid in
    let total' = total a k.record_valid in
    let o = (clear_occurs a t c k).occurs in
    let f = effect (by_table a t) a c.state (held_events c) e in
    let after = effect_occurs (by_table a t) a c.state (held_events c) e total' o taken in
    let many = effect-length (by_table a t) a c.state (held_events c) e in
    rw (z, take-pad 7 f.emitted)
    (event-short e f.emitted f.state (length f.buffer) _ h
    (emitted-symbols (by_table a t) a v c.state (held_events c) e total' o taken)
    (omega (arith, many, (place a t c k).held-length, (place a t c k).held_small))
    (omega (arith, after.state-below, v.states-high))
    (omega (arith, after.buffer.1, v.capacity-high))))
    (λ z. rw (answer-refused-is a t c e z, z) (refused-event-short e (receive_refusal a t c e) h (omega (arith, refusal_high a t c e))))

-- the events' lines
module _ (t s : List ℕ) (bytes : AreBytes s) (few : length s ≤ 60000) where
  events-short : (k : ℕ) (u : Session) → u.accepted + u.refused ≤ u.place → u.place ≤ length s → length (event_lines k t s u) ≤ 96 * k
  unfolding event_lines after
  events-short zero u h l = omega arith
  events-short (suc k) u h l =
      let n = read s u.place in
      let r = received u.automaton t u.configuration n.value in
      by (ltb u.place (length s))
      (λ e. by (eqb n.refusal 0)
      (λ f.
      let z = eqb-true n.refusal 0 f in
      let later = next-after s u.place z in
      let on = events-short k (after u n.place r) (omega (arith, after-counts u n.place r)) (next-inside s u.place z) in
      rw (e, f, length-append (answer_line n.value r) (event_lines k t s (after u n.place r)))
      (omega (arith, answer-short u.automaton t u.configuration n.value (omega (arith, next_small s u.place z bytes)), on)))
      (λ f. rw (e, f) (omega (arith, fault-short n.refusal n.place (omega (arith, (read-inside s u.place l).0)) (omega (arith, (read-inside s u.place l).1))))))
      (λ e. rw e (omega (arith, end_short u.accepted u.refused (omega arith) (omega arith))))

-- the first line
first_short : (t : List ℕ) (u : Session) → Valid u.automaton → length (first_line t u) ≤ 96
unfolding first_line
first_short t u v =
    automaton-short _ _ _ _ _ (omega (arith, v.states-high)) (omega (arith, v.symbols-high)) (omega (arith, v.capacity-high))
    (omega (arith, v.initial-below, v.states-high))

pub transcript-bounded : TranscriptBounded
unfolding transcript session_lines too_long session_from
transcript-bounded s bytes =
    let p = opening s in
    let i = opening-inside s in
    by (too_long s)
    (λ e. rw e (omega (arith, refusal-short 18 (omega arith))))
    (λ e.
    let few : length s ≤ 60000 = ltb-false 60000 (length s) e in
    by (eqb p.refusal 0)
    (λ f. by (over_places p.automaton)
    (λ g. rw (e, f, g) (omega (arith, refusal-short 12 (omega arith))))
    (λ g.
    let a = p.automaton in
    let t = table a in
    let u = session_from a p.place in
    let v = valid_facts a (opening-valid s (eqb-true p.refusal 0 f)) in
    let all = events-short t s bytes few (suc (length s)) u (omega arith) i.1 in
    rw (e, f, g, length-append (first_line t u) (event_lines (suc (length s)) t s u))
    (omega (arith, all, first_short t u v))))
    (λ f. rw (e, f) (omega (arith, fault-short p.refusal p.place (omega (arith, i.0)) (omega (arith, i.1))))))
