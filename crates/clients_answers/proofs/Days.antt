-- Where in a day's output the bytes of each event lie.
use Prim.Native.Nat.{ℕ}
use mathlib.Core.Path.{◌≡◌, refl, sym, ◌∙◌, ap}
use mathlib.Core.List.{List, [], ◌∷◌, ◌++◌, append_assoc}
use lib.ListN.{length, take, drop}
use lib.Seq.{take-append_seam, drop-append_seam}
use Rattle.clients_answers.specs.Listed.{Stepping, outcome, changed, outcomes, changed_by}
use Rattle.clients_answers.specs.Clients.{named, Outcome, monitored, emitted_of, day_outcomes, ran_for_buffer}
use Rattle.clients_answers.specs.Claims.{BytesPlaced}

module _ {C O : Type 0} (k : Stepping C O) where
  outcomes-append : (xs ys : List (ℕ × ℕ)) (cs : List C) → outcomes k cs (xs ++ ys) ≡ outcomes k cs xs ++ outcomes k (changed_by k cs xs) ys
  unfolding outcomes changed_by
  outcomes-append [] ys cs = refl
  outcomes-append (x ∷ xs) ys cs = ap (λ (os : List O). outcome k cs x.0 x.1 ∷ os) (outcomes-append xs ys (changed k cs x.0 x.1))

emitted-append : (os ps : List Outcome) → emitted_of (os ++ ps) ≡ emitted_of os ++ emitted_of ps
unfolding emitted_of
emitted-append [] ps = refl
emitted-append (o ∷ os) ps = ap (λ (out : List ℕ). o.emitted ++ out) (emitted-append os ps) ∙ sym (append_assoc o.emitted (emitted_of os) (emitted_of ps))

placed : (p e q : List ℕ) (r : List ℕ) → take (length e) (drop (length p) ((p ++ (e ++ q)) ++ r)) ≡ e
placed p e q r = rw (append_assoc p (e ++ q) r, drop-append_seam p ((e ++ q) ++ r), append_assoc e q r) (take-append_seam e (q ++ r))

pub bytes-placed : BytesPlaced
unfolding ran_for_buffer day_outcomes outcomes emitted_of
bytes-placed a t cs vs out z before x after h =
    let k = monitored a t in
    let now = changed_by k cs before in
    let o = outcome k now x.0 x.1 in
    let rest = emitted_of (outcomes k (changed k now x.0 x.1) after) in
    let bytes : emitted_of (outcomes k cs (named vs)) ≡ emitted_of (outcomes k cs before) ++ (o.emitted ++ rest) =
    ap (λ (xs : List (ℕ × ℕ)). emitted_of (outcomes k cs xs)) h ∙
    ap emitted_of (outcomes-append k before (x ∷ after) cs) ∙
    emitted-append (outcomes k cs before) (outcomes k now (x ∷ after)) in
    rw (z, bytes) (placed (emitted_of (outcomes k cs before)) o.emitted rest _)
