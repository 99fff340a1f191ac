-- The search for the front parts that qualify, in turn from the empty one on.
use Prim.Native.Nat.{ℕ, suc, ◌+◌, ◌-◌, ◌*◌, ◌<◌, ◌≤◌}
use mathlib.Core.Path.{◌≡◌, refl, sym, ◌∙◌, ap, ap₂}
use mathlib.Core.Bool.{Bool, not, cond}
use mathlib.Core.List.{List, [], ◌∷◌, ◌++◌}
use native.Mathlib.Numerals.{add-one}
use native.Mathlib.Omega.{arith}
use lib.ListN.{length, get_or, set, take, drop, replicate, length-drop}
use lib.Seq.{take-suc, get_or-take}
use lib.Dec.{eqb}
use borrow.Author.Tests.{eqb-false, ne_eqb}
use Rattle.base.specs.Each.{those, last_or}
use Rattle.base.specs.Masks.{has}
use Rattle.base.specs.Pad.{pad}
use Rattle.base.proofs.Bools.{by, either, clash}
use Rattle.base.proofs.Padding.{pad-length, take-pad}
use Rattle.base.proofs.Picking.{Picked, picked_room, picked_more, picked_same, those-few, those-has, those-holds, those-passed, last_taken, last-those}
use Rattle.automaton.specs.declared.Automaton.{Automaton}
use Rattle.automaton.specs.Automaton.{step, reached}
use Rattle.automaton.proofs.Reached.{reached_end}
use Rattle.monitor_rule.specs.Step.{Rest, qualifies, qualifying, release}
use Rattle.monitor_rule.specs.Fronts.{Found, front, index_in, rest_in, winning_sets, rest_among, found_in, kept_in, over, ReleaseRequires}
use Rattle.monitor_rule.proofs.Longest.{qualifying-same}
use Rattle.monitor_rule.proofs.Numbers.{winning-set}
use Rattle.monitor_rule.proofs.Tabled.{reached-over}

-- The search as its loop goes: n front parts are asked, and that of r events leads to p.
pub record Searching (rest : Rest) (a : Automaton) (q : ℕ) (w lengths : List ℕ) (f : Found) (p r n : ℕ) : Type 0 where
  pub within : r ≤ length w
  pub here : p ≡ reached a q (take r w)
  pub list : Picked 7 (qualifies rest a q w) n lengths f.listed
  pub state-is : f.state ≡ reached a q (take (last_or 0 (those n (qualifies rest a q w))) w)

module _ (rest : Rest) (a : Automaton) (q : ℕ) (w : List ℕ) where
  pub searching_begins : Searching rest a q w (replicate 7 0) (record { listed = 0; state = q }) q 0 0
  unfolding reached those last_or pad
  searching_begins = record { within = omega arith; here = refl; list = record { stored = refl; counted = refl }; state-is = refl }

  module _ {lengths : List ℕ} {f : Found} {p r : ℕ} where
    -- seven places are enough
    pub searching_room : Searching rest a q w lengths f p r r → length w ≤ 6 → f.listed < 7
    searching_room g few = omega (arith, picked_room g.list, g.within)

    -- the front part of r events is asked
    pub searching_asks : Searching rest a q w lengths f p r r → length w ≤ 6 → (b : Bool) → b ≡ rest (drop r w) p → (h : Found) → h ≡ kept_in b p f
        → (l : List ℕ) → l ≡ cond b (set lengths f.listed r) lengths → Searching rest a q w l h p r (r + 1)
    unfolding kept_in qualifies
    searching_asks g few b eb h eh l el =
        let test = qualifies rest a q w in
        let asked : b ≡ test r = eb ∙ ap (rest (drop r w)) g.here in
        by b
        (λ t.
        let eh' : h ≡ record { listed = f.listed + 1; state = p } = eh ∙ rw t in
        let el' : l ≡ set lengths f.listed r = el ∙ rw t in
        record {
          within = g.within;
          here = g.here;
          list = rw (eh', el') (picked_more g.list (omega (arith, g.within)) (sym asked ∙ t));
          state-is = rw (eh', last_taken 0 r test (sym asked ∙ t)) g.here;
        })
        (λ t.
        let more = those-passed r test (sym asked ∙ t) in
        let eh' : h ≡ f = eh ∙ rw t in
        let el' : l ≡ lengths = el ∙ rw t in
        record {
          within = g.within;
          here = g.here;
          list = rw (eh', el') (picked_same g.list (sym asked ∙ t));
          state-is = rw (eh', more) g.state-is;
        })

    -- the next front part
    pub searching_goes_on : {n : ℕ} → Searching rest a q w lengths f p r n → r < length w → (s : ℕ) → s ≡ step a p (get_or w r 0)
        → Searching rest a q w lengths f s (r + 1) n
    searching_goes_on g h s e =
        let longer : take r w ++ get_or w r 0 ∷ [] ≡ take (r + 1) w = sym (take-suc w r 0 h) ∙ ap (λ i. take i w) (sym (add-one r)) in
        record {
          within = omega arith;
          here = e ∙ ap (λ x. step a x (get_or w r 0)) g.here ∙ sym (reached_end a q (take r w) (get_or w r 0)) ∙ ap (reached a q) longer;
          list = g.list;
          state-is = g.state-is;
        }

    -- all are asked
    pub searching_done : Searching rest a q w lengths f p r (r + 1) → r ≡ length w
        → (f ≡ found_in rest a q w) × (lengths ≡ pad 7 (qualifying rest a q w))
    unfolding found_in front qualifying release
    searching_done g e =
        let all : r + 1 ≡ suc (length w) = omega arith in
        (rw (rw all at g.list.counted, rw all at g.state-is), rw all at g.list.stored)

  -- what it leaves fits
  pub search_fits : length w ≤ 6 → (f : Found) → f ≡ found_in rest a q w → (lengths : List ℕ) → lengths ≡ pad 7 (qualifying rest a q w)
      → (length lengths ≡ 7) × (f.listed ≤ length lengths)
  unfolding found_in qualifying
  search_fits few f ef lengths el =
      let test = qualifies rest a q w in
      let n = those-few (suc (length w)) test in
      let long : length lengths ≡ 7 = ap length el ∙ pad-length 7 (those (suc (length w)) test) (omega arith) in
      (long, omega (arith, ap (λ (x : Found). x.listed) ef))

  -- the release qualifies where any front part is listed
  listed_rests : (n : ℕ) → n ≡ length (qualifying rest a q w) → not (eqb n 0) ≡ qualifies rest a q w (release rest a q w)
  unfolding release qualifying
  listed_rests n e =
      let test = qualifies rest a q w in
      let few = those-has (suc (length w)) test in
      either (last-those 0 (suc (length w)) test)
      (λ g.
      let some = (few (last_or 0 (those (suc (length w)) test)) g.below g.holds).0 in
      ap not (ne_eqb n 0 (λ z. omega (arith, some, e))) ∙ sym g.holds)
      (λ g. by (eqb n 0)
      (λ z. rw z (sym (rw g.1 (g.0 0 (omega arith)))))
      (λ z.
      let h = those-holds (suc (length w)) test 0 (omega (arith, e, eqb-false n 0 z)) in
      absurd (clash h.1 (g.0 _ h.0))))

  -- the last of the list, and the state beside it, are the release
  pub search_releases : (f : Found) → f ≡ found_in rest a q w → (lengths : List ℕ) → lengths ≡ pad 7 (qualifying rest a q w)
      → (c : ℕ) → c ≡ last_or 0 (take f.listed lengths)
      → record { count = c; state = f.state; rests = not (eqb f.listed 0) } ≡ front rest a q w
  unfolding front found_in release
  search_releases f ef lengths el c ec =
      let found = qualifying rest a q w in
      let last : c ≡ last_or 0 found = ec ∙ ap (last_or 0) (ap₂ take (ap (λ (x : Found). x.listed) ef) el ∙ take-pad 7 found) in
      let state : f.state ≡ reached a q (take (last_or 0 found) w) = ap (λ (x : Found). x.state) ef in
      let rests = listed_rests f.listed (ap (λ (x : Found). x.listed) ef) in
      rw (last, state, rests)

-- what the search reads of the arrays that it is lent
pub next-state : (ranks next buffer : List ℕ) (held p r x s : ℕ) → r < held → x ≡ get_or buffer r 0 → s ≡ get_or next (p * 16 + x) 0
    → s ≡ step (over ranks next) p (get_or (take held buffer) r 0)
unfolding step
next-state ranks next buffer held p r x s h e f = f ∙ ap (λ y. get_or next (p * 16 + y) 0) (e ∙ sym (get_or-take held buffer r 0 h))

pub rest-among : (winning : List ℕ) (n : ℕ) (w : List ℕ) → length w ≡ n → (r : ℕ) → r ≤ n → (p : ℕ) → has (get_or winning r 0) p ≡ rest_among winning n (drop r w) p
unfolding rest_among
rest-among winning n w e r h p =
    let f : r ≡ n - length (drop r w) = omega (arith, length-drop r w) in
    ap (λ i. has (get_or winning i 0) p) f

-- the search over the sets of a table is the search over the table
module _ (t ranks next : List ℕ) (k q : ℕ) (w : List ℕ) (n : ℕ) (many : length w ≡ n) (winning : List ℕ) (read : winning ≡ pad 7 (winning_sets t ranks k w)) where
  asked_same : (i : ℕ) → i ≤ length w → qualifies (rest_among winning n) (over [] next) q w i ≡ qualifies (rest_in t ranks k) (over ranks next) q w i
  unfolding qualifies
  asked_same i h =
      sym (rest-among winning n w many i (omega arith) (reached (over [] next) q (take i w))) ∙
      winning-set t ranks k w winning read i h (reached (over [] next) q (take i w)) ∙
      ap (rest_in t ranks k (drop i w)) (sym (reached-over (over [] next) ranks (take i w) q))

  pub search_same : qualifying (rest_among winning n) (over [] next) q w ≡ qualifying (rest_in t ranks k) (over ranks next) q w
  search_same = qualifying-same (rest_among winning n) (over [] next) (rest_in t ranks k) (over ranks next) q w asked_same

  pub found-same : found_in (rest_among winning n) (over [] next) q w ≡ found_in (rest_in t ranks k) (over ranks next) q w
  unfolding found_in front release
  found-same =
      let list = qualifying (rest_in t ranks k) (over ranks next) q w in
      rw (search_same, reached-over (over [] next) ranks (take (last_or 0 list) w) q)

-- what the test of rest asks, of the same arrays
pub rests_asks : {next ranks : List ℕ} {k : ℕ} {t : List ℕ} {q : ℕ} {buffer : List ℕ} {held : ℕ} → ReleaseRequires next ranks k t q buffer held
    → (p n : ℕ) → p ≡ q → n ≡ held
    → (n ≤ 6) × (k ≤ 8) × ((e : ℕ) → get_or ranks e 0 ≤ 8) × ((i : ℕ) → get_or buffer i 0 < 16) × (p < 32) × (2 * index_in ranks k (take n buffer) < length t)
rests_asks l p n ep en =
    (omega (arith, l.few), l.radix, l.rank-high, l.symbol_low, omega (arith, l.state_low), rw en (l.long 0 (omega arith)))
