-- Parts of lent bytes, and arrays that are filled part by part.
use Prim.Native.Nat.{ℕ, ◌+◌, ◌*◌, ◌-◌, ◌≤◌}
use mathlib.Core.Path.{◌≡◌, refl, sym, ◌∙◌, ap}
use mathlib.Core.Bool.{Bool, true, false, cond}
use mathlib.Core.List.{List, [], ◌∷◌, ◌++◌, map, append-nil, append_assoc}
use native.Mathlib.Omega.{arith}
use mir.Val.{bool_byte}
use lib.ListN.{length, set, replicate, take, drop, length-append, length-drop, length-replicate, drop_of_length-le}
use lib.Seq.{sets, sets-eq, take_all, length-take-le}
use Rattle.base.specs.Pad.{pad}
use Rattle.base.proofs.Padding.{pad-sets, pad-stored}
use Rattle.automaton.specs.declared.Automaton.{Automaton}
use Rattle.configuration_places.specs.declared.InputPlace.{InputPlace}
use Rattle.configuration_places.specs.declared.OutputPlace.{OutputPlace}
use Rattle.configuration_places.specs.Places.{input_place, input_number, output_place, output_number}
use Rattle.configuration.specs.declared.Configuration.{Configuration}
use Rattle.feed_answers.specs.declared.Fed.{Fed}
use Rattle.c_layout.specs.Offsets.{max_states, max_symbols, max_next, max_capacity, max_emitted}
use Rattle.c_layout.specs.Offsets.{automaton_size, automaton_states, automaton_symbols, automaton_capacity, automaton_initial}
use Rattle.c_layout.specs.Offsets.{automaton_classes, automaton_accepting, automaton_next}
use Rattle.c_layout.specs.Offsets.{place_size, configuration_size, configuration_state, configuration_held, configuration_buffer}
use Rattle.c_layout.specs.Offsets.{configuration_places, configuration_received, configuration_emitted, number_size}
use Rattle.c_layout.specs.Offsets.{received_size, received_emitted, received_count, received_winning, received_places}
use Rattle.c_layout.specs.Offsets.{ran_size, ran_length, ran_refused, fed_size, fed_loss, fed_place}
use Rattle.c_layout.specs.Answers.{event_bytes, day_bytes, received_for_bytes, fed_bytes}
use Rattle.c_layout.specs.Layout.{byte_at, part, number_bytes, number_of, places_bytes, places_of}
use Rattle.c_layout.specs.Layout.{automaton_of, automaton_bytes, configuration_of, configuration_bytes}
use Rattle.c_layout.proofs.Numbers.{number-length}
use Rattle.c_layout.proofs.Configurations.{places-size}

-- as many stores as there are places
pub sets-whole : (l v : List ℕ) → length l ≡ length v → sets l 0 v ≡ v
sets-whole l v h =
    let d : drop (length v) l ≡ [] = drop_of_length-le l {i = length v} (omega arith) in
    let e : 0 + length v ≡ length v = omega arith in
    sets-eq v l 0 (omega arith) ∙ ap (λ k. v ++ drop k l) e ∙ ap (λ x. v ++ x) d ∙ append-nil v

-- an array that is filled from a part of the bytes
pub part_copied : (at n : ℕ) (bytes : List ℕ) → at + n ≤ length bytes → sets (replicate n 0) 0 (take n (drop at bytes)) ≡ part at n bytes
unfolding part
part_copied at n bytes h =
    sets-whole (replicate n 0) (take n (drop at bytes)) (length-replicate {A = ℕ} n 0 ∙ sym (length-take-le n (drop at bytes) (rw (length-drop at bytes) (omega arith))))

pub pad-full : (n : ℕ) (l : List ℕ) → length l ≡ n → pad n l ≡ l
unfolding pad
pad-full n l h = let e : n - length l ≡ 0 = omega arith in rw e (append-nil l)

-- a list, stored behind a padded one, and a whole array
pad_list : (n at k : ℕ) (l v : List ℕ) → length l ≡ at → length v ≡ k → at + k ≤ n → sets (pad n l) at v ≡ pad n (l ++ v)
pad_list n at k l v e f h = ap (λ i. sets (pad n l) i v) (sym e) ∙ pad-sets n l v (omega arith)

pub pad_array : (n at k : ℕ) (l v : List ℕ) → length l ≡ at → length v ≡ k → at + k ≤ n → sets (pad n l) at (take k (drop 0 v)) ≡ pad n (l ++ v)
pad_array n at k l v e f h = ap (λ x. sets (pad n l) at x) (take_all k v (omega arith)) ∙ pad_list n at k l v e f h

-- the record, from its bytes
pub automaton-made : (bytes classes accepting next : List ℕ) → length bytes ≡ automaton_size
    → classes ≡ sets (replicate max_symbols 0) 0 (take max_symbols (drop automaton_classes bytes))
    → accepting ≡ sets (replicate max_states 0) 0 (take max_states (drop automaton_accepting bytes))
    → next ≡ sets (replicate max_next 0) 0 (take max_next (drop automaton_next bytes))
    → ◌≡◌ {A = Automaton}
    (record {
      states = byte_at bytes automaton_states;
      symbols = byte_at bytes automaton_symbols;
      capacity = byte_at bytes automaton_capacity;
      initial = byte_at bytes automaton_initial;
      classes = classes;
      accepting = accepting;
      next = next;
    })
    (automaton_of bytes)
unfolding automaton_of
automaton-made bytes classes accepting next long c f n =
    let x = c ∙ part_copied automaton_classes max_symbols bytes (omega arith) in
    let y = f ∙ part_copied automaton_accepting max_states bytes (omega arith) in
    let z = n ∙ part_copied automaton_next max_next bytes (omega arith) in
    λ i.
    record {
      states = byte_at bytes automaton_states;
      symbols = byte_at bytes automaton_symbols;
      capacity = byte_at bytes automaton_capacity;
      initial = byte_at bytes automaton_initial;
      classes = x i;
      accepting = y i;
      next = z i;
    }

-- the configuration, from its bytes
pub configuration-made : (bytes buffer : List ℕ) (places : List InputPlace) (received : InputPlace) (emitted : OutputPlace)
    → length bytes ≡ configuration_size
    → buffer ≡ sets (replicate max_capacity 0) 0 (take max_capacity (drop configuration_buffer bytes))
    → places ≡ map input_place (places_of max_capacity configuration_places bytes)
    → input_number received ≡ number_of (part configuration_received place_size bytes)
    → output_number emitted ≡ number_of (part configuration_emitted place_size bytes)
    → ◌≡◌ {A = Configuration}
    (record {
      state = byte_at bytes configuration_state;
      held = byte_at bytes configuration_held;
      buffer = buffer;
      places = places;
      received = received;
      emitted = emitted;
    })
    (configuration_of bytes)
unfolding configuration_of
configuration-made bytes buffer places received emitted long b p r m =
    let x = b ∙ part_copied configuration_buffer max_capacity bytes (omega arith) in
    λ i.
    record {
      state = byte_at bytes configuration_state;
      held = byte_at bytes configuration_held;
      buffer = x i;
      places = p i;
      received = input_place (r i);
      emitted = output_place (m i);
    }

-- the bytes of a record: four numbers, then three arrays, each stored behind what stands already
pub automaton-laid : (a : Automaton) (x y z : List ℕ)
    → length a.classes ≡ max_symbols → length a.accepting ≡ max_states → length a.next ≡ max_next
    → x ≡ sets
    (sets (replicate automaton_size 0) automaton_states (a.states ∷ a.symbols ∷ a.capacity ∷ a.initial ∷ []))
    automaton_classes
    (take max_symbols (drop 0 a.classes))
    → y ≡ sets x automaton_accepting (take max_states (drop 0 a.accepting))
    → z ≡ sets y automaton_next (take max_next (drop 0 a.next))
    → z ≡ automaton_bytes a
unfolding automaton_bytes
automaton-laid a x y z c f n xs ys zs =
    let head : List ℕ = a.states ∷ a.symbols ∷ a.capacity ∷ a.initial ∷ [] in
    let to-classes : List ℕ = head ++ a.classes in
    let to_flags : List ℕ = to-classes ++ a.accepting in
    let size = automaton_size in
    let one : x ≡ pad size to-classes =
    xs ∙
    ap (λ b. sets b automaton_classes (take max_symbols (drop 0 a.classes))) (pad-stored size head (omega arith)) ∙
    pad_array size automaton_classes max_symbols head a.classes refl c (omega arith) in
    let k1 : length to-classes ≡ automaton_accepting = simp length-append (omega arith) in
    let two : y ≡ pad size to_flags =
    ys ∙
    ap (λ b. sets b automaton_accepting (take max_states (drop 0 a.accepting))) one ∙
    pad_array size automaton_accepting max_states to-classes a.accepting k1 f (omega arith) in
    let k2 : length to_flags ≡ automaton_next = length-append to-classes a.accepting ∙ omega arith in
    let three : z ≡ pad size (to_flags ++ a.next) =
    zs ∙
    ap (λ b. sets b automaton_next (take max_next (drop 0 a.next))) two ∙
    pad_array size automaton_next max_next to_flags a.next k2 n (omega arith) in
    let k3 : length (to_flags ++ a.next) ≡ size = length-append to_flags a.next ∙ omega arith in
    three ∙
    pad-full size (to_flags ++ a.next) k3 ∙
    append_assoc to-classes a.accepting a.next ∙
    append_assoc head a.classes (a.accepting ++ a.next)

-- the bytes of a configuration: two numbers and the buffer, then the bytes of its places, of the
-- input count and of the output count, each stored behind what stands already
pub configuration-laid : (c : Configuration) (r m x y z w : List ℕ)
    → length c.buffer ≡ max_capacity → length c.places ≡ max_capacity
    → r ≡ number_bytes place_size (input_number c.received)
    → m ≡ number_bytes place_size (output_number c.emitted)
    → x ≡ sets
    (sets (replicate configuration_size 0) configuration_state (c.state ∷ c.held ∷ []))
    configuration_buffer
    (take max_capacity (drop 0 c.buffer))
    → y ≡ sets x configuration_places (places_bytes (map input_number c.places))
    → z ≡ sets y configuration_received (take place_size (drop 0 r))
    → w ≡ sets z configuration_emitted (take place_size (drop 0 m))
    → w ≡ configuration_bytes c
unfolding configuration_bytes
configuration-laid c r m x y z w b k er em xs ys zs ws =
    let p : List ℕ = places_bytes (map input_number c.places) in
    let head : List ℕ = c.state ∷ c.held ∷ [] in
    let size = configuration_size in
    let to_places : List ℕ = head ++ c.buffer in
    let to_received : List ℕ = to_places ++ p in
    let to_emitted : List ℕ = to_received ++ r in
    let lp : length p ≡ max_capacity * place_size = places-size c.places ∙ ap (λ n. n * place_size) k in
    let lr : length r ≡ place_size = ap length er ∙ number-length place_size (input_number c.received) in
    let lm : length m ≡ place_size = ap length em ∙ number-length place_size (output_number c.emitted) in
    let one : x ≡ pad size to_places =
    xs ∙
    ap (λ l. sets l configuration_buffer (take max_capacity (drop 0 c.buffer))) (pad-stored size head (omega arith)) ∙
    pad_array size configuration_buffer max_capacity head c.buffer refl b (omega arith) in
    let k1 : length to_places ≡ configuration_places = length-append head c.buffer ∙ omega arith in
    let two : y ≡ pad size to_received =
    ys ∙
    ap (λ l. sets l configuration_places p) one ∙
    pad_list size configuration_places (max_capacity * place_size) to_places p k1 lp (omega arith) in
    let k2 : length to_received ≡ configuration_received = length-append to_places p ∙ omega arith in
    let three : z ≡ pad size to_emitted =
    zs ∙
    ap (λ l. sets l configuration_received (take place_size (drop 0 r))) two ∙
    pad_array size configuration_received place_size to_received r k2 lr (omega arith) in
    let k3 : length to_emitted ≡ configuration_emitted = length-append to_received r ∙ omega arith in
    let four : w ≡ pad size (to_emitted ++ m) =
    ws ∙
    ap (λ l. sets l configuration_emitted (take place_size (drop 0 m))) three ∙
    pad_array size configuration_emitted place_size to_emitted m k3 lm (omega arith) in
    let k4 : length (to_emitted ++ m) ≡ size = length-append to_emitted m ∙ omega arith in
    four ∙
    pad-full size (to_emitted ++ m) k4 ∙
    append_assoc to_received r m ∙
    append_assoc to_places p (r ++ m) ∙
    rw (er, em)

-- a flag as a byte
pub flag_byte : (b : Bool) → bool_byte b ≡ cond b 1 0
flag_byte true = refl
flag_byte false = refl

pub event-laid : (emitted : List ℕ) (count : ℕ) (winning : Bool) (places : List InputPlace) (x y : List ℕ)
    → length emitted ≡ max_emitted → length places ≡ max_emitted
    → x ≡ sets (replicate received_size 0) received_emitted (take max_emitted (drop 0 emitted))
    → y ≡ sets (set (set x received_count count) received_winning (bool_byte winning)) received_places (places_bytes (map input_number places))
    → y ≡ event_bytes emitted count winning places
event-laid emitted count winning places x y e f xs ys =
    let p : List ℕ = places_bytes (map input_number places) in
    let size = received_size in
    let two : List ℕ = count ∷ cond winning 1 0 ∷ [] in
    let lp : length p ≡ max_emitted * place_size = places-size places ∙ ap (λ n. n * place_size) f in
    let one : x ≡ pad size emitted =
    xs ∙
    ap (λ l. sets (replicate size 0) 0 l) (take_all max_emitted emitted (omega arith)) ∙
    pad-stored size emitted (omega arith) in
    let flagged : set (set x received_count count) received_winning (bool_byte winning) ≡ pad size (emitted ++ two) =
    ap (λ b. set (set x received_count count) received_winning b) (flag_byte winning) ∙
    ap (λ l. sets l received_count two) one ∙
    ap (λ i. sets (pad size emitted) i two) (sym e) ∙
    pad-sets size emitted two (omega arith) in
    let k : length (emitted ++ two) ≡ received_places = length-append emitted two ∙ omega arith in
    ys ∙
    ap (λ l. sets l received_places p) flagged ∙
    pad_list size received_places (max_emitted * place_size) (emitted ++ two) p k lp (omega arith) ∙
    pad-full size ((emitted ++ two) ++ p) (length-append (emitted ++ two) p ∙ omega arith) ∙
    append_assoc emitted two p

pub day-laid : (written refused : ℕ) (n m x y : List ℕ) → n ≡ number_bytes number_size written → m ≡ number_bytes number_size refused
    → x ≡ sets (replicate ran_size 0) ran_length (take number_size (drop 0 n))
    → y ≡ sets x ran_refused (take number_size (drop 0 m))
    → y ≡ day_bytes written refused
day-laid written refused n m x y e f xs ys =
    let a : length n ≡ number_size = ap length e ∙ number-length number_size written in
    let b : length m ≡ number_size = ap length f ∙ number-length number_size refused in
    let one : x ≡ pad ran_size n =
    xs ∙ ap (λ l. sets (replicate ran_size 0) 0 l) (take_all number_size n (omega arith)) ∙ pad-stored ran_size n (omega arith) in
    ys ∙
    ap (λ l. sets l ran_refused (take number_size (drop 0 m))) one ∙
    pad_array ran_size ran_refused number_size n m a b (omega arith) ∙
    pad-full ran_size (n ++ m) (length-append n m ∙ omega arith) ∙
    rw (e, f)

pub fed-laid : (r : Fed) (e n m x y z : List ℕ) → length e ≡ received_size
    → e ≡ event_bytes r.answer.emitted r.answer.count r.answer.winning r.answer.places
    → n ≡ number_bytes number_size r.loss → m ≡ number_bytes number_size r.place
    → x ≡ sets (replicate fed_size 0) 0 (take received_size (drop 0 e))
    → y ≡ sets x fed_loss (take number_size (drop 0 n))
    → z ≡ sets y fed_place (take number_size (drop 0 m))
    → z ≡ fed_bytes r
unfolding fed_bytes received_for_bytes
fed-laid r e n m x y z long ee en em xs ys zs =
    let size = fed_size in
    let b : length n ≡ number_size = ap length en ∙ number-length number_size r.loss in
    let d : length m ≡ number_size = ap length em ∙ number-length number_size r.place in
    let one : x ≡ pad size e =
    xs ∙ ap (λ l. sets (replicate size 0) 0 l) (take_all received_size e (omega arith)) ∙ pad-stored size e (omega arith) in
    let two : y ≡ pad size (e ++ n) =
    ys ∙
    ap (λ l. sets l fed_loss (take number_size (drop 0 n))) one ∙
    pad_array size fed_loss number_size e n long b (omega arith) in
    let k : length (e ++ n) ≡ fed_place = length-append e n ∙ omega arith in
    let three : z ≡ pad size ((e ++ n) ++ m) =
    zs ∙
    ap (λ l. sets l fed_place (take number_size (drop 0 m))) two ∙
    pad_array size fed_place number_size (e ++ n) m k d (omega arith) in
    three ∙
    pad-full size ((e ++ n) ++ m) (length-append (e ++ n) m ∙ omega arith) ∙
    append_assoc e n m ∙
    rw (ee, en, em)
