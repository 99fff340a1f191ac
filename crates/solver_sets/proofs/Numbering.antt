-- The numbering of buffers: the listing in the order of the numbers, and each number's buffer.
use Prim.Native.Nat.{ℕ, zero, suc, ◌+◌, ◌-◌, ◌*◌, ◌/◌, ◌%◌, ◌^◌, ◌<◌, ◌≤◌}
use mathlib.Core.Path.{◌≡◌, refl, sym, ◌∙◌, ap, ap₂}
use mathlib.Core.Logic.{◌⊎◌, inl, inr, ◌↔◌}
use mathlib.Core.Bool.{true, cond}
use mathlib.Core.List.{List, [], ◌∷◌, ◌++◌, map}
use native.Mathlib.Nat.{pow-zero, pow-suc, mod-lt, div-add-mod', div-lt_iff_lt-mul, zero-mul, suc-mul, mul_comm, eq-zero-or-pos}
use native.Mathlib.Omega.{arith}
use lib.Dec.{eqb, ltb}
use lib.Arith.{digits_lt}
use lib.ListN.{length, get_or, length-append, length-map, get_or-append}
use lib.Seq.{get_or-append-add}
use borrow.Author.Tests.{ltb-true, ltb-false, eqb-true, eqb-false}
use Rattle.base.specs.Each.{count, those}
use Rattle.base.proofs.Bools.{by, either, clash}
use Rattle.base.proofs.Every.{get_d_map}
use Rattle.automaton.specs.declared.Automaton.{Automaton}
use Rattle.automaton.specs.Automaton.{controllable, controllables}
use Rattle.automaton.specs.Arrays.{controllable_in}
use Rattle.solver_sets.specs.Table.{rank, in_base_k, shorter, index, buffers_count, Controllable, Buffer, controllable_to, extended, buffers_at, buffers_to}
use Rattle.solver_sets.specs.Claims.{Numbered, OneToOne, Onto}

-- The list has each x of P, and nothing else, at its number less o.
module _ {A : Type 0} (d : A) where
  pub record Listing (o : ℕ) (l : List A) (P : A → Type 0) (number : A → ℕ) : Type 0 where
    pub place : (x : A) → P x → (i : ℕ) × (i < length l) × (number x ≡ o + i) × (get_or l i d ≡ x)
    pub holds : (i : ℕ) → i < length l → P (get_or l i d) × (number (get_or l i d) ≡ o + i)

  pub joined : (o : ℕ) (l m : List A) (P Q R : A → Type 0) (number : A → ℕ) → ((x : A) → R x ↔ (P x ⊎ Q x))
      → Listing o l P number → Listing (o + length l) m Q number → Listing o (l ++ m) R number
  joined o l m P Q R number same p q = record {
    place = λ x h. either ((same x).0 h)
        (λ g. let r = p.place x g in
        (r.0, simp length-append (omega (arith, r.1)), r.2, get_or-append l m d r.0 r.1 ∙ r.3))
        (λ g. let r = q.place x g in
        (length l + r.0, simp length-append (omega (arith, r.1)), omega (arith, r.2), get_or-append-add l m r.0 d ∙ r.3));
    holds = λ i h. by (ltb i (length l))
        (λ b. let r = p.holds i (ltb-true i (length l) b) in
        rw (get_or-append l m d i (ltb-true i (length l) b)) ((same (get_or l i d)).1 (inl r.0), r.1))
        (λ b.
        let g = ltb-false i (length l) b in
        let e : i ≡ length l + (i - length l) = omega arith in
        let r = q.holds (i - length l) (omega (arith, length-append l m)) in
        let f : get_or (l ++ m) i d ≡ get_or m (i - length l) d = ap (λ j. get_or (l ++ m) j d) e ∙ get_or-append-add l m (i - length l) d in
        rw f ((same (get_or m (i - length l) d)).1 (inr r.0), omega (arith, r.1)));
  }

-- each symbol in front of each buffer
pub extended-length : (es : List ℕ) (ws : List (List ℕ)) → length (extended es ws) ≡ length es * length ws
unfolding extended
extended-length [] ws = sym (zero-mul (length ws))
extended-length (e ∷ es) ws =
    length-append (map (λ w. e ∷ w) ws) (extended es ws) ∙ rw (length-map, extended-length es ws) (omega (arith, suc-mul (length es) (length ws)))

pub extended-at : (es : List ℕ) (ws : List (List ℕ)) (j i : ℕ) → j < length es → i < length ws
    → get_or (extended es ws) (j * length ws + i) [] ≡ get_or es j 0 ∷ get_or ws i []
unfolding extended
extended-at [] ws j i h l = absurd (omega arith)
extended-at (e ∷ es) ws zero i h l =
    let p : 0 * length ws + i ≡ i = omega arith in
    rw p (get_or-append (map (λ w. e ∷ w) ws) (extended es ws) [] i (rw length-map l) ∙ get_d_map (λ w. e ∷ w) ws i [] [] l)
extended-at (e ∷ es) ws (suc j) i h l =
    let p : suc j * length ws + i ≡ length (map (λ w. e ∷ w) ws) + (j * length ws + i) = rw length-map (omega (arith, suc-mul j (length ws))) in
    rw p (get_or-append-add (map (λ w. e ∷ w) ws) (extended es ws) (j * length ws + i) [] ∙ extended-at es ws j i (omega arith) l)

module _ (a : Automaton) where
  -- the controllable symbols, by rank
  pub controllable_to-length : (c : ℕ) → length (controllable_to a c) ≡ rank a c
  unfolding those rank count
  controllable_to-length zero = refl
  controllable_to-length (suc c) =
      by (controllable a c)
      (λ t. rw (t, length-append (controllable_to a c) (c ∷ [])) (omega (arith, controllable_to-length c)))
      (λ f. rw (f, length-append (controllable_to a c) []) (omega (arith, controllable_to-length c)))

  abbrev Symbol : ℕ → ℕ → Type 0
  Symbol c e = (e < c) × (controllable a e ≡ true)

  one_listed : (c : ℕ) → Listing 0 (rank a c) (cond (controllable a c) (c ∷ []) []) (λ e. (e ≡ c) × (controllable a e ≡ true)) (rank a)
  one_listed c =
      by (controllable a c)
      (λ t. rw t (record {
        place = λ e h. (0, omega arith, ap (rank a) h.0 ∙ omega arith, sym h.0);
        holds = λ i l. let z : i ≡ 0 = omega arith in rw z ((refl, t), omega arith);
      }))
      (λ f. rw f (record { place = λ e h. absurd (clash h.1 (ap (controllable a) h.0 ∙ f)); holds = λ i l. absurd (omega arith) }))

  symbols_listed : (c : ℕ) → Listing 0 0 (controllable_to a c) (Symbol c) (rank a)
  unfolding those
  symbols_listed zero = record { place = λ e h. absurd (omega (arith, h.0)); holds = λ i h. absurd (omega arith) }
  symbols_listed (suc c) =
      let o : rank a c ≡ 0 + length (controllable_to a c) = omega (arith, controllable_to-length c) in
      joined 0 0 (controllable_to a c) (cond (controllable a c) (c ∷ []) []) (Symbol c) (λ e. (e ≡ c) × (controllable a e ≡ true)) (Symbol (suc c)) (rank a)
      (λ e. (
        λ h. by (eqb e c) (λ t. inr (eqb-true e c t, h.1)) (λ f. inl (omega (arith, h.0, eqb-false e c f), h.1)),
        λ h. either h (λ g. (omega (arith, g.0), g.1)) (λ g. (omega (arith, g.0), g.1)),
      ))
      (symbols_listed c) (rw o at (one_listed c))

  abbrev k : ℕ
  k = controllables a

  abbrev symbols : List ℕ
  symbols = controllable_to a a.symbols

  pub symbols-length : length symbols ≡ k
  unfolding rank controllables controllable_in controllable
  symbols-length = controllable_to-length a.symbols

  -- the buffers of length l, by value
  pub buffers_at-length : (l : ℕ) → length (buffers_at a l) ≡ k ^ l
  unfolding buffers_at
  buffers_at-length zero = sym (pow-zero k)
  buffers_at-length (suc l) = extended-length symbols (buffers_at a l) ∙ rw (symbols-length, buffers_at-length l, pow-suc k l) (mul_comm k (k ^ l))

  abbrev Long : ℕ → List ℕ → Type 0
  Long l w = Controllable a w × (length w ≡ l)

  longer : (l e : ℕ) (w : List ℕ) → length w ≡ l → in_base_k a (e ∷ w) ≡ rank a e * length (buffers_at a l) + in_base_k a w
  unfolding in_base_k
  longer l e w h = rw (h, buffers_at-length l)

  module _ (l : ℕ) (shorter-listed : Listing [] 0 (buffers_at a l) (Long l) (in_base_k a)) where
    abbrev ws : List (List ℕ)
    ws = buffers_at a l

    longer_place : (w : List ℕ) → Long (suc l) w
        → (i : ℕ) × (i < length (extended symbols ws)) × (in_base_k a w ≡ 0 + i) × (get_or (extended symbols ws) i [] ≡ w)
    longer_place [] h = absurd (omega (arith, h.1))
    longer_place (e ∷ w) h =
        let r = (symbols_listed a.symbols).place e h.0.0 in
        let s = shorter-listed.place w (h.0.1, omega (arith, h.1)) in
        let v : in_base_k a (e ∷ w) ≡ r.0 * length ws + s.0 = longer l e w (omega (arith, h.1)) ∙ ap₂ (λ x y. x * length ws + y) (r.2 ∙ omega arith) (s.2 ∙ omega arith) in
        (r.0 * length ws + s.0, rw (extended-length symbols ws) (digits_lt r.1 s.1), v ∙ omega arith, extended-at symbols ws r.0 s.0 r.1 s.1 ∙ ap₂ ◌∷◌ r.3 s.3)

    longer_holds : (p : ℕ) → p < length (extended symbols ws)
        → Long (suc l) (get_or (extended symbols ws) p []) × (in_base_k a (get_or (extended symbols ws) p []) ≡ 0 + p)
    longer_holds p h =
        let b : p < length symbols * length ws = rw (extended-length symbols ws) at h in
        let pos : 0 < length ws = either (eq-zero-or-pos (length ws)) (λ z. absurd (omega (arith, ap (λ n. length symbols * n) z))) (λ g. g) in
        let j = p / length ws in
        let i = p % length ws in
        let lj : j < length symbols = (div-lt_iff_lt-mul pos).1 b in
        let li : i < length ws = mod-lt p pos in
        let r = (symbols_listed a.symbols).holds j lj in
        let s = shorter-listed.holds i li in
        let parts : p ≡ j * length ws + i = sym (div-add-mod' p (length ws)) in
        let f : get_or (extended symbols ws) p [] ≡ get_or symbols j 0 ∷ get_or ws i [] = ap (λ n. get_or (extended symbols ws) n []) parts ∙ extended-at symbols ws j i lj li in
        rw f (
          ((r.0, s.0.0), ap suc s.0.1),
          longer l (get_or symbols j 0) (get_or ws i []) s.0.1 ∙ ap₂ (λ x y. x * length ws + y) (r.1 ∙ omega arith) (s.1 ∙ omega arith) ∙ sym parts ∙ omega arith,
        )

  none-place : (w : List ℕ) → Long 0 w → (i : ℕ) × (i < 1) × (in_base_k a w ≡ 0 + i) × (get_or ([] ∷ []) i [] ≡ w)
  unfolding in_base_k
  none-place [] h = (0, omega arith, omega arith, refl)
  none-place (e ∷ w) h = absurd (omega (arith, h.1))

  at_listed : (l : ℕ) → Listing [] 0 (buffers_at a l) (Long l) (in_base_k a)
  unfolding buffers_at in_base_k
  at_listed zero = record { place = none-place; holds = λ i h. let z : i ≡ 0 = omega arith in rw z ((tt, refl), omega arith) }
  at_listed (suc l) = record { place = longer_place l (at_listed l); holds = longer_holds l (at_listed l) }

  -- all up to length b, by number
  pub buffers_to-length : (b : ℕ) → length (buffers_to a b) ≡ shorter k (suc b)
  unfolding buffers_to shorter
  buffers_to-length zero = buffers_at-length 0 ∙ omega arith
  buffers_to-length (suc b) = length-append (buffers_to a b) (buffers_at a (suc b)) ∙ rw (buffers_to-length b, buffers_at-length (suc b))

  index_at : (l i : ℕ) (w : List ℕ) → length w ≡ l → in_base_k a w ≡ 0 + i → index a w ≡ shorter k l + i
  unfolding index
  index_at l i w h e = rw h (omega arith)

  -- those of one length
  level_listed : (l : ℕ) → Listing [] (shorter k l) (buffers_at a l) (Long l) (index a)
  level_listed l = record {
    place = λ w h. let r = (at_listed l).place w h in (r.0, r.1, index_at l r.0 w h.1 r.2, r.3);
    holds = λ i h. let r = (at_listed l).holds i h in (r.0, index_at l i (get_or (buffers_at a l) i []) r.0.1 r.1);
  }

  abbrev UpTo : ℕ → List ℕ → Type 0
  UpTo b w = Controllable a w × (length w ≤ b)

  pub buffers_listed : (b : ℕ) → Listing [] 0 (buffers_to a b) (UpTo b) (index a)
  unfolding buffers_to shorter
  buffers_listed zero =
      let r = level_listed 0 in
      record {
        place = λ w h. r.place w (h.0, omega (arith, h.1));
        holds = λ i h. let s = r.holds i h in ((s.0.0, omega (arith, s.0.1)), s.1);
      }
  buffers_listed (suc b) =
      let o : shorter k (suc b) ≡ 0 + length (buffers_to a b) = omega (arith, buffers_to-length b) in
      joined [] 0 (buffers_to a b) (buffers_at a (suc b)) (UpTo b) (Long (suc b)) (UpTo (suc b)) (index a)
      (λ w. (
        λ h. by (eqb (length w) (suc b)) (λ t. inr (h.0, eqb-true (length w) (suc b) t)) (λ f. inl (h.0, omega (arith, h.1, eqb-false (length w) (suc b) f))),
        λ h. either h (λ g. (g.0, omega (arith, g.1))) (λ g. (g.0, omega (arith, g.1))),
      ))
      (buffers_listed b) (rw o at (level_listed (suc b)))

  -- where the buffers of one length stand among all, and those that begin with one symbol among
  -- them
  pub level_at : (b l i : ℕ) → l ≤ b → i < k ^ l → get_or (buffers_to a b) (shorter k l + i) [] ≡ get_or (buffers_at a l) i []
  level_at b l i h lt =
      let w = get_or (buffers_at a l) i [] in
      let r = (level_listed l).holds i (omega (arith, buffers_at-length l)) in
      let s = (buffers_listed b).place w (r.0.0, omega (arith, r.0.1)) in
      let e : shorter k l + i ≡ s.0 = omega (arith, r.1, s.2) in
      rw e s.3

-- the buffers of the automaton
module _ (a : Automaton) where
  pub buffers-length : length (buffers_to a a.capacity) ≡ buffers_count a
  unfolding buffers_count
  buffers-length = buffers_to-length a a.capacity

  -- a buffer stands at its number
  pub buffer-at : (w : List ℕ) → Buffer a w → (index a w < buffers_count a) × (get_or (buffers_to a a.capacity) (index a w) [] ≡ w)
  buffer-at w b =
      let r = (buffers_listed a a.capacity).place w b in
      let e : r.0 ≡ index a w = omega (arith, r.2) in
      (omega (arith, r.1, buffers-length), rw (← e) r.3)

pub numbered : Numbered
numbered a v w b = (buffer-at a w b).0

pub one_to_one : OneToOne
one_to_one a v x y b c e = sym (buffer-at a x b).1 ∙ ap (λ j. get_or (buffers_to a a.capacity) j []) e ∙ (buffer-at a y c).1

pub onto : Onto
onto a v j h =
    let r = (buffers_listed a a.capacity).holds j (omega (arith, buffers-length a)) in
    (get_or (buffers_to a a.capacity) j [], r.0, r.1 ∙ omega arith)
