-- An event that has arrived, as the code keeps it: the buffer is an array of six places.
use Prim.Native.Nat.{ℕ, zero, suc, ◌+◌, ◌-◌, ◌*◌, ◌<◌, ◌≤◌}
use mathlib.Core.Path.{◌≡◌, sym, ◌∙◌, ap, ap₂}
use mathlib.Core.Bool.{Bool, true, false, cond, not}
use mathlib.Core.List.{List, [], ◌∷◌, ◌++◌}
use native.Mathlib.Numerals.{add-one}
use native.Mathlib.Omega.{arith}
use lib.ListN.{length, get_or, set, take, drop, replicate, length-append, length-drop}
use lib.Seq.{sets, length-take-le, take-nil, take-suc-set}
use Rattle.base.specs.Pad.{pad}
use Rattle.base.proofs.Bools.{by}
use Rattle.base.proofs.Padding.{pad-length, pad-set, pad-stored}
use Rattle.automaton.specs.declared.Automaton.{Automaton}
use Rattle.automaton.specs.Automaton.{controllable, step}
use Rattle.monitor_rule.specs.Step.{remaining, arrival}

drop-take : (n m : ℕ) (l : List ℕ) → take m (drop n l) ≡ drop n (take (n + m) l)
drop-take zero m l = let e : m ≡ 0 + m = omega arith in ap (λ i. take i l) e
drop-take (suc n) m [] = take-nil m ∙ sym (ap (drop (suc n)) (take-nil (suc n + m)))
drop-take (suc n) m (x ∷ l) =
    let e : suc (n + m) ≡ suc n + m = omega arith in drop-take n m l ∙ ap (λ i. drop (suc n) (take i (x ∷ l))) e

pub kept : (buffer : List ℕ) (held n : ℕ) → length buffer ≡ 6 → held ≤ 6 → n ≤ held
    → sets (replicate 6 0) 0 (take (held - n) (drop n buffer)) ≡ pad 6 (drop n (take held buffer))
kept buffer held n long few h =
    let e : n + (held - n) ≡ held = omega arith in
    let d : take (held - n) (drop n buffer) ≡ drop n (take held buffer) = drop-take n (held - n) buffer ∙ ap (λ i. drop n (take i buffer)) e in
    let m : length (drop n (take held buffer)) ≤ 6 = rw (length-drop n (take held buffer)) (omega (arith, length-take-le held buffer (omega arith))) in
    ap (λ x. sets (replicate 6 0) 0 x) d ∙ pad-stored 6 (drop n (take held buffer)) m

-- one more event at the end of the buffer
pub longer : (buffer : List ℕ) (held e : ℕ) → held < length buffer → take (held + 1) (set buffer held e) ≡ take held buffer ++ e ∷ []
longer buffer held e h = rw (add-one held) (take-suc-set buffer held e h)

-- an event that has arrived, as the code keeps it
pub record Arrived (a : Automaton) (q : ℕ) (w : List ℕ) (e p : ℕ) (buffer : List ℕ) (n all : ℕ) : Type 0 where
  pub state : p ≡ (arrival a q w e).state
  pub events : take all buffer ≡ (arrival a q w e).buffer
  pub first : length (arrival a q w e).emitted ≡ n
  pub whole : buffer ≡ pad 6 (take all buffer)
  pub many : length (take all buffer) ≡ all
  pub shaped : length buffer ≡ 6
  pub few : all ≤ 6
  pub sum : n + all ≡ length w + 1

module _ (a : Automaton) (q : ℕ) (buffer : List ℕ) (held e : ℕ) (shaped : length buffer ≡ 6) (padded : buffer ≡ pad 6 (take held buffer))
    (many : length (take held buffer) ≡ held) (few : held ≤ 6) (passes : Bool) (f : passes ≡ not (controllable a e)) where
  pub arrives : (controllable a e ≡ true → held < 6) → (p : ℕ) (longer : List ℕ) (n all : ℕ) → p ≡ cond passes (get_or a.next (q * 16 + e) 0) q
      → longer ≡ cond passes buffer (set buffer held e) → n ≡ cond passes 1 0 → all ≡ held + cond passes 0 1
      → Arrived a q (take held buffer) e p longer n all
  unfolding arrival remaining step
  arrives room p l n all ep el en ea =
      by (controllable a e)
      (λ c.
      let b : passes ≡ false = f ∙ rw c in
      let h = room c in
      let m : n ≡ 0 = en ∙ rw b in
      let k : all ≡ held + 1 = ea ∙ rw b in
      let s : l ≡ set buffer held e = el ∙ rw b in
      let t : take all l ≡ take held buffer ++ e ∷ [] = ap₂ (λ i x. take i x) k s ∙ longer buffer held e (omega arith) in
      let u : length (take held buffer ++ e ∷ []) ≡ held + 1 = length-append (take held buffer) (e ∷ []) ∙ ap (λ i. i + 1) many in
      let o : l ≡ pad 6 (take held buffer ++ e ∷ []) =
      s ∙ ap₂ (λ x i. set x i e) padded (sym many) ∙ pad-set 6 (take held buffer) e (omega arith)
      in
      record {
        state = ep ∙ rw (b, c);
        events = t ∙ rw c;
        first = rw c (sym m);
        whole = o ∙ ap (pad 6) (sym t);
        many = ap length t ∙ u ∙ sym k;
        shaped = ap length o ∙ pad-length 6 (take held buffer ++ e ∷ []) (omega arith);
        few = omega arith;
        sum = omega arith;
      })
      (λ c.
      let b : passes ≡ true = f ∙ rw c in
      let m : n ≡ 1 = en ∙ rw b in
      let k : all ≡ held = ea ∙ rw b (omega arith) in
      let s : l ≡ buffer = el ∙ rw b in
      record {
        state = ep ∙ rw (b, c);
        events = rw (c, k, s);
        first = rw c (sym m);
        whole = rw (s, k) padded;
        many = rw (s, k) many;
        shaped = rw s shaped;
        few = omega arith;
        sum = omega arith;
      })
