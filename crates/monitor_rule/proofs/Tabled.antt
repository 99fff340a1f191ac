-- The numbers of buffers by ranks are the numbers of document 01, so what the code reads of a
-- table is what the rule reads.
use Prim.Native.Nat.{ℕ, zero, suc, ◌+◌, ◌*◌, ◌/◌, ◌%◌, ◌^◌, ◌<◌, ◌≤◌}
use mathlib.Core.Path.{◌≡◌, refl, sym, ◌∙◌, ap}
use mathlib.Core.Bool.{true, false, cond}
use mathlib.Core.List.{List, [], ◌∷◌, ◌++◌}
use native.Mathlib.Nat.{suc-mul}
use native.Mathlib.Numerals.{add-one}
use native.Mathlib.Omega.{arith}
use lib.ListN.{length, get_or, take, drop, get_or-append}
use lib.Seq.{get_or-append_seam}
use lib.Dec.{eqb, ltb}
use borrow.Author.Tests.{eqb-true, eqb-false, ltb-true, ltb-false}
use Rattle.base.specs.Each.{count}
use Rattle.base.proofs.Bools.{by}
use Rattle.base.proofs.Padding.{pad-inside, pad-outside}
use Rattle.base.proofs.Ranges.{count_longer}
use Rattle.automaton.specs.declared.Automaton.{Automaton}
use Rattle.automaton.specs.Automaton.{class, controllable, controllables, step, reached}
use Rattle.automaton.specs.Arrays.{controllable_in}
use Rattle.automaton.proofs.Facts.{Valid, valid_of, step_high}
use Rattle.solver_sets.specs.Table.{rank, in_base_k, shorter, index, buffers_count, short, Controllable, Buffer}
use Rattle.solver_sets.proofs.Buffers.{controllable-drop, buffer-drop}
use Rattle.solver_sets.proofs.Numbering.{numbered}
use Rattle.monitor_rule.specs.Step.{by_table, qualifies, release, is_shut}
use Rattle.automaton_symbols.specs.declared.Ranking.{Ranking}
use Rattle.monitor_rule.specs.Fronts.{index_in, rest_in, over, ReleaseRequires}
use Rattle.monitor_rule.proofs.Longest.{release-same, shut-same}
use Rattle.automaton_symbols.specs.Symbols.{ranks_to, ranking_of}
use Rattle.automaton_symbols.proofs.Ranks.{ranks_length}

-- the rank of a symbol below m
rank_in : (classes : List ℕ) (m e : ℕ) → e < m → get_or (ranks_to classes m) e 0 ≡ cond (eqb (get_or classes e 0) 1) (controllable_in classes (suc e)) 0
unfolding ranks_to
rank_in classes zero e h = absurd (omega arith)
rank_in classes (suc m) e h =
    let last = cond (eqb (get_or classes m 0) 1) (controllable_in classes (suc m)) 0 in
    by (eqb e m)
    (λ t.
    let q = eqb-true e m t in
    ap (λ i. get_or (ranks_to classes m ++ last ∷ []) i 0) (q ∙ sym (ranks_length classes m)) ∙
    get_or-append_seam (ranks_to classes m) last [] 0 ∙
    ap (λ i. cond (eqb (get_or classes i 0) 1) (controllable_in classes (suc i)) 0) (sym q))
    (λ t.
    let l : e < m = omega (arith, eqb-false e m t) in
    get_or-append (ranks_to classes m) (last ∷ []) 0 e (omega (arith, ranks_length classes m)) ∙ rank_in classes m e l)

module _ (a : Automaton) (v : Valid a) where
  abbrev ranks : List ℕ
  ranks = (ranking_of a.classes a.symbols).ranks

  abbrev radix : ℕ
  radix = (ranking_of a.classes a.symbols).count

  rank_below : (e : ℕ) → e < a.symbols → get_or ranks e 0 ≡ cond (eqb (class a e) 1) (controllable_in a.classes (suc e)) 0
  unfolding ranking_of
  rank_below e h = pad-inside 16 (ranks_to a.classes a.symbols) e (omega (arith, ranks_length a.classes a.symbols)) ∙ rank_in a.classes a.symbols e h

  -- a controllable symbol's rank, from 1
  pub rank-controllable : (e : ℕ) → e < a.symbols → controllable a e ≡ true → get_or ranks e 0 ≡ rank a e + 1
  unfolding controllable controllable_in rank count
  rank-controllable e h c = rank_below e h ∙ rw c (omega arith)

  pub rank-uncontrollable : (e : ℕ) → e < a.symbols → controllable a e ≡ false → get_or ranks e 0 ≡ 0
  unfolding controllable
  rank-uncontrollable e h c = rank_below e h ∙ rw c

  pub ranks_high : (e : ℕ) → get_or ranks e 0 ≤ 8
  unfolding ranking_of controllable_in controllables controllable
  ranks_high e =
      by (ltb e a.symbols)
      (λ t.
      let l = ltb-true e a.symbols t in
      let m : count (suc e) (controllable a) ≤ count a.symbols (controllable a) = count_longer (suc e) a.symbols (controllable a) (omega arith) in
      by (eqb (class a e) 1)
      (λ c. let r = rank_below e l in omega (arith, rw c at r, m, v.controllables-high))
      (λ c. let r = rank_below e l in omega (arith, rw c at r)))
      (λ t. omega (arith, pad-outside 16 (ranks_to a.classes a.symbols) e (omega (arith, ranks_length a.classes a.symbols, ltb-false e a.symbols t))))

  -- the number of a buffer
  pub index_in-is : (w : List ℕ) → Controllable a w → index_in ranks radix w ≡ index a w
  unfolding index_in index in_base_k shorter ranking_of controllable_in controllables controllable
  index_in-is [] c = refl
  index_in-is (e ∷ w) c =
      let i = index_in-is w c.1 in
      let k = controllables a ^ length w in
      let r = rank-controllable e c.0.0 c.0.1 in
      rw (r, i) (let m : (rank a e + 1) * k ≡ rank a e * k + k = rw (add-one (rank a e)) (suc-mul (rank a e) k) in omega (arith, m))

-- what is read of a table, with the automaton's own ranks and next states
pub reached-over : (a : Automaton) (ranks w : List ℕ) (q : ℕ) → reached (over ranks a.next) q w ≡ reached a q w
unfolding reached step
reached-over a _ [] q = refl
reached-over a r (e ∷ w) q = reached-over a r w (step a q e)

module _ (a : Automaton) (v : Valid a) (t : List ℕ) (w : List ℕ) (c : Controllable a w) (q : ℕ) where
  abbrev ranking : Ranking
  ranking = ranking_of a.classes a.symbols

  pub rest_tabled : rest_in t ranking.ranks ranking.count w q ≡ by_table a t w q
  unfolding rest_in by_table
  rest_tabled = rw (index_in-is a v w c)

  pub asked : (k : ℕ) → qualifies (rest_in t ranking.ranks ranking.count) (over ranking.ranks a.next) q w k ≡ qualifies (by_table a t) a q w k
  unfolding qualifies rest_in by_table
  asked k = rw (index_in-is a v (drop k w) (controllable-drop a k w c), reached-over a ranking.ranks (take k w) q)

  pub release_tabled : release (rest_in t ranking.ranks ranking.count) (over ranking.ranks a.next) q w ≡ release (by_table a t) a q w
  release_tabled =
      release-same (rest_in t ranking.ranks ranking.count) (over ranking.ranks a.next) (by_table a t) a q w (λ k _ _. asked k)

  pub shut_tabled : is_shut (rest_in t ranking.ranks ranking.count) (over ranking.ranks a.next) q w ≡ is_shut (by_table a t) a q w
  shut_tabled =
      shut-same (rest_in t ranking.ranks ranking.count) (over ranking.ranks a.next) (by_table a t) a q w (λ k _ _. asked k)

-- what the release asks
module _ (a : Automaton) (v : Valid a) (t : List ℕ) (long : short a t ≡ false) where
  table-long : (w : List ℕ) → Buffer a w → 2 * index a w < length t
  unfolding short
  table-long w b =
      let n = numbered a (valid_of a v) w b in
      omega (arith, n, ltb-false (length t) (2 * buffers_count a) long)

  pub next_low : (i : ℕ) → get_or a.next i 0 < 32
  unfolding step
  next_low i =
      let h = step_high v (i / 16) (i % 16) (omega arith) in
      let e : i / 16 * 16 + i % 16 ≡ i = omega arith in
      omega (arith, rw e at h, v.states-high)

  pub lent : (q : ℕ) (buffer : List ℕ) (held : ℕ) → q < a.states → held ≤ 6 → Buffer a (take held buffer) → ((i : ℕ) → get_or buffer i 0 < 16)
      → ReleaseRequires a.next (ranking_of a.classes a.symbols).ranks (ranking_of a.classes a.symbols).count t q buffer held
  unfolding ranking_of controllable_in controllables controllable
  lent q buffer held lq few b low =
      record {
        few = few;
        radix = v.controllables-high;
        rank-high = ranks_high a v;
        state_low = omega (arith, v.states-high);
        next_low = next_low;
        symbol_low = low;
        long = λ i h. rw (index_in-is a v (drop i (take held buffer)) (buffer-drop a i (take held buffer) b).0) (table-long (drop i (take held buffer)) (buffer-drop a i (take held buffer) b));
      }
