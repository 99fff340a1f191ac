-- Whoever rests outside S of its buffer is driven out of the accepting states, whatever it
-- releases after each event.
use Prim.Native.Nat.{ℕ, zero, suc, ◌+◌, ◌*◌, ◌<◌, ◌≤◌}
use mathlib.Core.Path.{◌≡◌, refl, ◌∙◌, ap}
use mathlib.Core.Logic.{◌⊎◌, inl, inr}
use mathlib.Core.Bool.{false}
use mathlib.Core.List.{List, [], ◌∷◌, ◌++◌, append-nil}
use native.Mathlib.Nat.{suc-mul, mul-le-mul_right}
use native.Mathlib.Omega.{arith}
use lib.ListN.{length, take, drop, length-drop}
use lib.Seq.{take-nil, drop-nil}
use Rattle.base.specs.Each.{count}
use Rattle.base.specs.Masks.{has}
use Rattle.base.proofs.Bools.{refuted, either, clash}
use Rattle.automaton.specs.declared.Automaton.{Automaton}
use Rattle.automaton.specs.Automaton.{accepts, step, reached}
use Rattle.automaton.proofs.Reached.{reached-append, reached_end}
use Rattle.solver_sets.specs.Sets.{sets_for}
use Rattle.solver_sets.specs.Definition6.{Uncontrollable}
use Rattle.solver_sets.proofs.Total.{Total, total, reached-below}
use Rattle.solver_sets.proofs.Largest.{sets_are}
use Rattle.solver_sets.proofs.Growth.{first-intermediate}
use Rattle.monitor_rule.specs.Step.{remaining}
use Rattle.enforcement.specs.Strategy.{Strategy, play, Lost, lost_bound}
use Rattle.enforcement.specs.Claims.{DrivenOut}
use Rattle.enforcement.proofs.Resting.{by_comes}

module _ (a : Automaton) (start : ℕ) (rule : Strategy) where
  -- a longer bound
  pub lost_sooner : {events output buffer : List ℕ} {b c : ℕ} → b ≤ c → Lost a start rule events output buffer b → Lost a start rule events output buffer c
  lost_sooner l k = record { list = k.list; uncontrollable = k.uncontrollable; short = omega (arith, k.short); outside = k.outside }

  -- lost after one more uncontrollable event and the release that follows it
  lost_before : (events output w : List ℕ) (u b : ℕ) → Uncontrollable a u
      → (let k = rule (events ++ u ∷ []) (output ++ u ∷ []) w in
      Lost a start rule (events ++ u ∷ []) ((output ++ u ∷ []) ++ take k w) (drop k w) b)
      → Lost a start rule events output w (b + 1)
  unfolding play remaining
  lost_before events output w u b h k = record { list = u ∷ k.list; uncontrollable = (h, k.uncontrollable); short = omega (arith, k.short); outside = k.outside }

module _ (a : Automaton) (t : Total a) where
  abbrev F : ℕ
  F = count a.states (accepts a)

  -- whoever rests at q with a buffer is lost
  abbrev LostFrom : ℕ → List ℕ → ℕ → Type 0
  LostFrom q w bound = (start : ℕ) (rule : Strategy) (events output : List ℕ) → reached a start output ≡ q → Lost a start rule events output w bound

  -- outside S of the buffer
  abbrev pub Driven : List ℕ → Type 0
  Driven w = (q : ℕ) → q < a.states → has (sets_for a w).winning q ≡ false → LostFrom q w (lost_bound a w)

  -- outside I of the buffer it releases nothing, or is lost by what it releases
  abbrev Releasing : List ℕ → Type 0
  Releasing w =
      (k q : ℕ) → q < a.states → has (sets_for a w).intermediate q ≡ false
      → ((take k w ≡ []) × (drop k w ≡ w)) ⊎ LostFrom (reached a q (take k w)) (drop k w) (length w * F)

  releasing : (e : ℕ) (w : List ℕ) → ((k : ℕ) → Driven (drop k w)) → Releasing (e ∷ w)
  unfolding lost_bound reached
  releasing e w driven zero q l h = inl (refl, refl)
  releasing e w driven (suc k) q l h =
      let p = reached a (step a q e) (take k w) in
      let few : length (drop k w) ≤ length w = omega (arith, length-drop k w) in
      let less : lost_bound a (drop k w) ≤ suc (length w) * F = omega (arith, mul-le-mul_right F few, suc-mul (length (drop k w)) F, suc-mul (length w) F) in
      let out = refuted (has (sets_for a (drop k w)).winning p) (λ x. clash (first-intermediate a e w q l (by_comes a t w k (step a q e) (t q e) x)) h) in
      inr (λ start rule events output led.
      lost_sooner a start rule less (driven k p (reached-below a t (step a q e) (take k w) (t q e)) out start rule events output led))

  -- one more event
  back : (w : List ℕ) → Releasing w → (r q u : ℕ) → Uncontrollable a u → has (sets_for a w).intermediate (step a q u) ≡ false
      → LostFrom (step a q u) w (length w * F + r) → LostFrom q w (length w * F + (r + 1))
  back w releases r q u un out lost start rule events output led =
      let k = rule (events ++ u ∷ []) (output ++ u ∷ []) w in
      let on : reached a start (output ++ u ∷ []) ≡ step a q u = reached_end a start output u ∙ ap (λ p. step a p u) led in
      lost_sooner a start rule (omega arith)
      (lost_before a start rule events output w u (length w * F + r) un
      (either (releases k (step a q u) (t q u) out)
      (λ none. rw (none.0, none.1, append-nil (output ++ u ∷ [])) (lost start rule (events ++ u ∷ []) (output ++ u ∷ []) on))
      (λ gone. lost_sooner a start rule (omega arith)
      (gone start rule (events ++ u ∷ []) ((output ++ u ∷ []) ++ take k w)
      (reached-append a start (output ++ u ∷ []) (take k w) ∙ ap (λ p. reached a p (take k w)) on)))))

  -- one buffer, over the rounds in which its states were struck
  level : (w : List ℕ) → Releasing w → Driven w
  unfolding lost_bound play
  level w releases q l h start rule events output led =
      let s = sets_are a w in
      lost_sooner a start rule (omega (arith, s.few, suc-mul (length w) F))
      (s.lost t (λ r q. LostFrom q w (length w * F + r))
      (λ r q lost start rule events output led. lost_sooner a start rule (omega arith) (lost start rule events output led))
      (λ q l no start rule events output led. record { list = []; uncontrollable = tt; short = omega arith; outside = ap (accepts a) led ∙ no })
      (λ r q u l. back w releases r q u)
      q l h start rule events output led)

  -- whatever is left of a buffer
  driven : (w : List ℕ) (k : ℕ) → Driven (drop k w)
  driven [] k = rw (drop-nil {A = ℕ} k) (level [] (λ j q l h. inl (take-nil j, drop-nil j)))
  driven (e ∷ w) zero = level (e ∷ w) (releasing e w (driven w))
  driven (e ∷ w) (suc k) = driven w k

pub driven_out : DrivenOut
driven_out a v w = driven a (total a v) w zero
