-- The search and the release, in the documents' words.
use Prim.Native.Nat.{ℕ, suc, ◌<◌, ◌≤◌}
use mathlib.Core.Path.{◌≡◌, sym, ◌∙◌, ap}
use mathlib.Core.Bool.{true}
use mathlib.Core.Logic.{inl, inr}
use mathlib.Core.List.{List, ◌++◌}
use native.Mathlib.Omega.{arith}
use lib.ListN.{length, get_or, take, drop, length-append, take-append-drop}
use lib.Seq.{take-append_seam, drop-append_seam, length-take-le}
use Rattle.base.specs.Each.{those}
use Rattle.base.specs.Pad.{pad}
use Rattle.base.proofs.Bools.{either, clash}
use Rattle.base.proofs.Padding.{pad-inside, pad-used}
use Rattle.base.proofs.Picking.{last-those, those-few, those-has, those-holds, those_rise}
use Rattle.automaton.specs.declared.Automaton.{Automaton}
use Rattle.automaton.specs.Automaton.{reached}
use Rattle.monitor_rule.specs.Step.{Rest, qualifies, qualifying, release}
use Rattle.monitor_rule.specs.Fronts.{found_in}
use Rattle.monitor_rule.specs.Claims.{Qualifies, Among, ListsQualifying, SearchAsWorded, Longest, ReleasesLongest, OnlyLongest}

-- a list that falls into x and y is cut at the length of x
module _ (w x y : List ℕ) (j : x ++ y ≡ w) where
  cut_in : length x ≤ length w
  cut_in = omega (arith, ap length j, length-append x y)

  cut_take : take (length x) w ≡ x
  cut_take = ap (take (length x)) (sym j) ∙ take-append_seam x y

  cut_drop : drop (length x) w ≡ y
  cut_drop = ap (drop (length x)) (sym j) ∙ drop-append_seam x y

module _ (rest : Rest) (a : Automaton) (q : ℕ) (w : List ℕ) where
  -- the front part x qualifies where the state that it leads to rests with y
  qualifies-at : (x y : List ℕ) → x ++ y ≡ w → qualifies rest a q w (length x) ≡ rest y (reached a q x)
  unfolding qualifies
  qualifies-at x y j = rw (cut_take w x y j, cut_drop w x y j)

  -- what stands in the list, and where
  abbrev lengths : List ℕ
  lengths = pad 7 (qualifying rest a q w)

  abbrev many : ℕ
  many = (found_in rest a q w).listed

  inside : (i : ℕ) → i < many → get_or lengths i 0 ≡ get_or (qualifying rest a q w) i 0
  unfolding found_in
  inside = pad-inside 7 (qualifying rest a q w)

  listed_qualifies : (k : ℕ) → Among lengths many k → Qualifies (λ r p. rest r p ≡ true) a q w k
  unfolding found_in qualifying qualifies
  listed_qualifies k l =
      let e = sym (inside l.place l.below) ∙ l.holds in
      let h = rw e at (those-holds (suc (length w)) (qualifies rest a q w) l.place l.below) in
      record {
        front = take k w;
        left = drop k w;
        parts = take-append-drop k w;
        long = length-take-le k w (omega (arith, h.0));
        leads = h.1;
      }

  qualifies_listed : (k : ℕ) → Qualifies (λ r p. rest r p ≡ true) a q w k → Among lengths many k
  unfolding found_in qualifying
  qualifies_listed k g =
      let test = qualifies rest a q w in
      let short = cut_in w g.front g.left g.parts in
      let holds : test k ≡ true = rw g.long at (qualifies-at g.front g.left g.parts) ∙ g.leads in
      let h = those-has (suc (length w)) test k (omega (arith, g.long, short)) holds in
      record { place = length (those k test); below = h.0; holds = inside (length (those k test)) h.0 ∙ h.1 }

  lists : length w ≤ 6 → ListsQualifying (λ r p. rest r p ≡ true) a q w lengths many
  unfolding found_in qualifying
  lists few =
      let test = qualifies rest a q w in
      let fit : length (those (suc (length w)) test) ≤ 7 = omega (arith, those-few (suc (length w)) test) in
      record {
        exactly = λ k. (listed_qualifies k, qualifies_listed k);
        rising = λ i j r l. rw (inside i (omega arith), inside j l) (those_rise (suc (length w)) test i j r l);
        enough = fit;
        used = pad-used 7 (those (suc (length w)) test) fit;
      }

pub search_as_worded : SearchAsWorded
search_as_worded = lists

pub releases-longest : ReleasesLongest
unfolding release qualifying qualifies
releases-longest rest a q w =
    let k = release rest a q w in
    let last = last-those 0 (suc (length w)) (qualifies rest a q w) in
    let inside : (x y : List ℕ) → x ++ y ≡ w → length x < suc (length w) = λ x y j.
    let l = cut_in w x y j in omega arith in
    record {
      parts = take-append-drop k w;
      leads = either last
          (λ g. inl g.holds)
          (λ g. inr (
            ap (λ n. take n w) g.1,
            λ x y j h. clash (qualifies-at rest a q w x y j ∙ h) (g.0 (length x) (inside x y j)),
          ));
      longest = λ x y j h.
          let qualified = qualifies-at rest a q w x y j ∙ h in
          either last
          (λ g.
          let fits : k ≤ length w = omega (arith, g.below) in
          omega (arith, g.most (length x) (inside x y j) qualified, length-take-le k w fits))
          (λ g. absurd (clash qualified (g.0 (length x) (inside x y j))));
    }

-- two that lead so are no longer than one another
module _ (P : List ℕ → ℕ → Type 0) (a : Automaton) (q : ℕ) (w v r x y : List ℕ) where
  equally_long : Longest P a q w v r → Longest P a q w x y → length v ≡ length x
  equally_long f g =
      either f.leads
      (λ p. either g.leads
      (λ s. omega (arith, f.longest x y g.parts s, g.longest v r f.parts p))
      (λ s. absurd (s.1 v r f.parts p)))
      (λ p. either g.leads
      (λ s. absurd (p.1 x y g.parts s))
      (λ s. ap length (p.0 ∙ sym s.0)))

pub only-longest : OnlyLongest
only-longest P a q w v r x y f g =
    let l = equally_long P a q w v r x y f g in (
      sym (cut_take w v r f.parts) ∙ ap (λ n. take n w) l ∙ cut_take w x y g.parts,
      sym (cut_drop w v r f.parts) ∙ ap (λ n. drop n w) l ∙ cut_drop w x y g.parts,
    )
