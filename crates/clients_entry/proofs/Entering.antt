-- Rows 11, 12 and 20 as the code finds them, marks, and the ways out of the functions above them.
use Prim.Native.Nat.{ℕ, ◌+◌, ◌<◌}
use mathlib.Core.Path.{◌≡◌, refl, sym, ◌∙◌, ap}
use mathlib.Core.Bool.{true, false, ◌&&◌}
use mathlib.Core.List.{List, [], ◌∷◌}
use native.Mathlib.Omega.{arith}
use lib.Dec.{eqb, leb, ltb}
use lib.ListN.{length, get_or}
use lib.Seq.{sets}
use borrow.Author.Tests.{ne_eqb, eqb-true, eqb-false}
use Rattle.base.specs.Rows.{first}
use Rattle.base.proofs.Bools.{by}
use Rattle.automaton.specs.declared.Automaton.{Automaton}
use Rattle.automaton.specs.Automaton.{valid}
use Rattle.solver_sets.specs.Table.{short}
use Rattle.configuration.specs.declared.Configuration.{Configuration}
use Rattle.configuration.specs.Configuration.{consistent}
use Rattle.monitor_answers.specs.Answers.{table_rows, table_refusal, refused_event, received}
use Rattle.monitor_answers.specs.declared.Turned.{Turned}
use Rattle.monitor_answers.specs.Turns.{turn_refusal, turn_emitted, turn_next, turned, turned_buffer}
use Rattle.monitor_answers.proofs.Turns.{Opened, receive_unopened, turn_inconsistent, turn-refused, turn-silent, turn-unmoved, turn_keeps}
use Rattle.monitor_step.specs.declared.Stepped.{Stepped}
use Rattle.monitor_entry.specs.declared.Entry.{Entry}
use Rattle.monitor_entry.specs.Entries.{entry_of}
use Rattle.monitor_loop.specs.declared.Limits.{Limits}
use Rattle.monitor_loop.specs.Lending.{Lends, ProcessRequires}
use Rattle.monitor_loop.proofs.Taking.{processed, Takes, opens}
use Rattle.clients_answers.specs.Clients.{right_count, list_rows, list_refusal, refused_for}
use Rattle.clients_answers.proofs.Refusals.{list-passes, list_clear, list-stands}
use Rattle.clients_entry.specs.Entries.{ListEntry, Taken, count_row, list_entry_of, mark_by, mark_of, taken_of, TakeRequires, Taking, present_of, absent_of}

-- row 20
module _ (count : ℕ) where
  module _ (row : ℕ) where
    pub row-stands : (row ≡ 0 → ⊥) → row ≡ count_row row count
    unfolding count_row
    row-stands z = rw (ne_eqb row 0 z)

    pub row_twenty : row ≡ 0 → false ≡ right_count count → 20 ≡ count_row row count
    unfolding count_row
    row_twenty z k = rw (z, ← k)

    pub row-passes : row ≡ 0 → true ≡ right_count count → 0 ≡ count_row row count
    unfolding count_row
    row-passes z k = rw (z, ← k)

-- rows 11, 12 and 20
module _ (a : Automaton) (t : List ℕ) (count : ℕ) where
  list_counts : count_row (table_refusal a t) count ≡ list_refusal a t count
  unfolding count_row list_refusal list_rows table_refusal table_rows first
  list_counts =
      by (valid a)
      (λ v. by (short a t)
      (λ s. rw (v, s))
      (λ s. rw (v, s) (by (ltb 0 count && leb count 500) (λ k. rw k) (λ k. rw k))))
      (λ v. rw v)

  list_right : right_count count ≡ true → list_refusal a t count ≡ table_refusal a t
  unfolding count_row
  list_right k =
      let n = table_refusal a t in
      sym list_counts ∙ by (eqb n 0) (λ z. rw (z, k) (sym (eqb-true n 0 z))) (λ z. rw z)

  list-wrong : right_count count ≡ false → list_refusal a t count ≡ 0 → ⊥
  unfolding count_row
  list-wrong k h =
      let n = table_refusal a t in
      by (eqb n 0)
      (λ z. let w : 20 ≡ 0 = rw (z, k) at (list_counts ∙ h) in omega arith)
      (λ z. eqb-false n 0 z (rw z at (list_counts ∙ h)))

  pub enters : (n : Entry) → n ≡ entry_of a t → (row : ℕ) → row ≡ count_row n.refusal count
      → record {
        refusal = row;
        limits = record { controllables = n.ranking.count; states = a.states; symbols = a.symbols; capacity = a.capacity };
        ranks = n.ranking.ranks;
      } ≡ list_entry_of a t count
  unfolding list_entry_of entry_of
  enters n e row er = rw (er, e) (rw list_counts)

  -- what `enter_list` hands over
  module _ (m : ListEntry) (em : m ≡ list_entry_of a t count) where
    pub listed : m.refusal ≡ list_refusal a t count
    unfolding list_entry_of
    listed = ap (λ (x : ListEntry). x.refusal) em

    pub listed_lends : Opened a t → Lends a m.limits a.next m.ranks t
    unfolding list_entry_of entry_of
    listed_lends o =
        record {
          record_valid = o.record_valid;
          table-long = o.table-long;
          limits-are = ap (λ (x : ListEntry). x.limits) em ∙ rw o.record_valid;
          next-are = refl;
          ranks-are = ap (λ (x : ListEntry). x.ranks) em ∙ rw o.record_valid;
        }

    pub absent-last : m.refusal ≡ 0 → refused_for 19 ≡ absent_of a t count
    unfolding absent_of first
    absent-last z = ap refused_for (sym (list-passes a t count ((19, true) ∷ []) (list_clear a t count (sym listed ∙ z))))

    pub absent-first : (m.refusal ≡ 0 → ⊥) → refused_for m.refusal ≡ absent_of a t count
    unfolding absent_of
    absent-first z = ap refused_for (listed ∙ sym (list-stands a t count ((19, true) ∷ []) (λ h. z (listed ∙ h))))

    pub present_wrong : (c : Configuration) (e : ℕ) → right_count count ≡ false → refused_event m.refusal c ≡ present_of a t count c e
    unfolding present_of
    present_wrong c e k = rw (listed, ne_eqb (list_refusal a t count) 0 (list-wrong k))

  pub present_right : (c : Configuration) (e : ℕ) → right_count count ≡ true → received a t c e ≡ present_of a t count c e
  unfolding present_of received
  present_right c e k =
      let n = table_refusal a t in
      rw (list_right k)
      (by (eqb n 0)
      (λ z. rw z)
      (λ z. rw (receive_unopened a t c e (eqb-false n 0 z), z)))

-- an automaton's own mark
pub mark-own : (l : Limits) (classes : List ℕ) (a : Automaton) {next ranks t : List ℕ} → Lends a l next ranks t → classes ≡ a.classes
    → (c : Configuration) → mark_by l classes c ≡ mark_of a c
unfolding mark_by
mark-own l classes a o s c = rw (o.limits-are, s)

-- an event, accepted or refused, leaves row 13's answer
pub mark-stays : (a : Automaton) {l : Limits} {next ranks t : List ℕ} → Lends a l next ranks t → (c : Configuration) (e : ℕ)
    → mark_of a (turn_next a t c e) ≡ mark_of a c
mark-stays a {t = t} o c e =
    let thirteen : ◌≡◌ {A = ℕ} 13 0 → ⊥ = λ z. omega arith in
    by (consistent a c)
    (λ k. rw (turn_keeps a t c e (opens o) k, k))
    (λ k. ap (mark_of a) (turn-unmoved a t c e 13 (turn_inconsistent a t c e k) thirteen))

-- what a mark says
module _ (a : Automaton) (c : Configuration) (mark : ℕ) (s : mark ≡ mark_of a c) where
  pub mark-none : mark ≡ 0 → consistent a c ≡ false
  mark-none z = by (consistent a c) (λ k. let n : 1 ≡ 0 = rw k at (sym s ∙ z) in absurd (omega arith)) (λ k. k)

  pub mark-some : (mark ≡ 0 → ⊥) → consistent a c ≡ true
  mark-some z = by (consistent a c) (λ k. k) (λ k. absurd (z (s ∙ rw k)))

-- one event of a day
module _ (l : Limits) (marks : List ℕ) (client : ℕ) (next ranks t : List ℕ) (c : Configuration) (at : ℕ) where
  abbrev mark : ℕ
  mark = get_or marks client 0

  -- row 13 passed
  module _ (k : mark ≡ 0 → ⊥) {size : ℕ} (g : TakeRequires l marks client next ranks t c at size) where
    own : consistent g.automaton c ≡ true
    own = mark-some g.automaton c mark g.marked k

    pub take_enters : ProcessRequires l next ranks t c
    take_enters = record { automaton = g.automaton; lends = g.lends; stands = own }

    pub take-room : at + c.held < size
    take-room = g.room own

  module _ (e : ℕ) (out : List ℕ) where
    -- refused, by any row
    refuses : (row : ℕ) → (row ≡ 0 → ⊥) → ((a : Automaton) → Lends a l next ranks t → mark ≡ mark_of a c → turn_refusal a t c e ≡ row)
        → (r : Taken) → r ≡ record { configuration = c; written = at; refused = 1 } → Taking l marks client next ranks t c e at out r out
    unfolding taken_of turned turned_buffer
    refuses row z f r er a o s =
        let h = f a o s in
        let w = turn-refused a t c e row h z at in (
          er ∙ ap (λ (x : Turned). record { configuration = x.configuration; written = x.written; refused = 1 }) w ∙ rw (h, ne_eqb row 0 z),
          ap (sets out at) (sym (turn-silent a t c e row h z)),
        )

    -- by row 13
    pub takes_none : mark ≡ 0 → (r : Taken) → r ≡ record { configuration = c; written = at; refused = 1 } → Taking l marks client next ranks t c e at out r out
    takes_none k r er =
        let thirteen : ◌≡◌ {A = ℕ} 13 0 → ⊥ = λ z. omega arith in
        refuses 13 thirteen (λ a o s. turn_inconsistent a t c e (mark-none a c mark s k)) r er

    module _ (k : mark ≡ 0 → ⊥) where
      -- by rows 14, 15 and 23
      pub takes_passed : (x : Stepped) (out' : List ℕ) → Takes l next ranks t c e at out x out' → (x.row ≡ 0 → ⊥)
          → (r : Taken) → r ≡ record { configuration = c; written = at; refused = 1 } → Taking l marks client next ranks t c e at out r out'
      unfolding processed turned_buffer
      takes_passed x out' f z r er a o s =
          let w = f a o (mark-some a c mark s k) in
          ((refuses x.row z (λ b p q. sym (ap (λ (y : Stepped). y.row) (f b p (mark-some b c mark q k)).0)) r er a o s).0, w.1)

      -- accepted
      pub takes_event : (d : Configuration) (r : Stepped) (out' : List ℕ) → (s : Takes l next ranks t c e at out r out') → r.row ≡ 0
          → ((a : Automaton) → Lends a l next ranks t → consistent a c ≡ true → (d ≡ turn_next a t c e) × (r.written ≡ at + length (turn_emitted a t c e)))
          → Taking l marks client next ranks t c e at out (record { configuration = d; written = r.written; refused = 0 }) out'
      unfolding taken_of processed
      takes_event d r out' f z found a o s =
          let stands = mark-some a c mark s k in
          let w = f a o stands in
          let x = found a o stands in
          let n : turn_refusal a t c e ≡ 0 = rw w.0 at z in
          (rw (x.0, x.1, n), w.1)
