-- Where the monitor may rest and where it must release (document 01, "Where it may rest, where it
-- must release").
use Rattle.std.specs.Prelude.{ℕ, zero, suc, ◌+◌, Bool, cond, ◌&&◌, ◌||◌, List, [], ◌∷◌, eqb}
use Rattle.base.specs.Each.{each}
use Rattle.base.specs.Masks.{has, mask}
use Rattle.automaton.specs.declared.Automaton.{Automaton}
use Rattle.automaton.specs.Automaton.{controllable, accepts, step}
pub use Rattle.solver_sets.specs.declared.Settled.{Settled}
pub use Rattle.solver_sets.specs.declared.Sets.{Sets}

-- all accepting states
unfoldable pub accepting_set : Automaton → ℕ
accepting_set a = mask a.states (accepts a)

-- The test of one uncontrollable symbol e at q in a round: it leads into the set x, as it stood
-- when the round began, or into i. (`home` is not read: it is a slot for symbols, of a later
-- request, that have to lead into S of the empty buffer. In the rounds of a longer buffer it is
-- that set; in those of the empty one, whose S is still sought, it is x.)
unfoldable pub admits : Automaton → ℕ → ℕ → ℕ → ℕ → ℕ → Bool
admits a i home x q e = has x (step a q e) || has i (step a q e)

-- q passes that test for every uncontrollable symbol
unfoldable pub stays : Automaton → ℕ → ℕ → ℕ → ℕ → Bool
stays a i home x q = each a.symbols (λ e. controllable a e || admits a i home x q e)

-- One round (document 01's striking): what is left of x when each state that does not stay is
-- struck at once.
unfoldable pub refine : Automaton → ℕ → ℕ → ℕ → ℕ
refine a i home x = mask a.states (λ q. has x q && stays a i home x q)

-- one more round that struck
abbrev pub again : Settled → Settled
again r = record { set = r.set; rounds = r.rounds + 1 }

-- Rounds from x until one strikes nothing, and how many struck. A round that strikes makes the
-- set, as a number, smaller, so x rounds are enough.
unfoldable pub settle : (ℕ → ℕ) → ℕ → ℕ → Settled
settle round zero x = record { set = x; rounds = 0 }
settle round (suc fuel) x =
    cond (eqb (round x) x) (record { set = x; rounds = 0 }) (again (settle round fuel (round x)))

-- S where I is i, by rounds from all accepting states; `home` says what the slot is in the round
-- from a set
unfoldable pub settled : Automaton → ℕ → (ℕ → ℕ) → Settled
settled a i home = settle (λ x. refine a i (home x) x) (accepting_set a) (accepting_set a)

-- both sets of a buffer whose I is i
unfoldable pub sets_of : Automaton → ℕ → (ℕ → ℕ) → Sets
sets_of a i home =
    let r = settled a i home in
    record { winning = r.set; intermediate = i; rounds = r.rounds }

-- of the empty buffer: I is empty
unfoldable pub empty_sets : Automaton → Sets
empty_sets a = sets_of a 0 (λ x. x)

-- I of e followed by a buffer with the sets t: every state that e takes into its S or I
unfoldable pub into : Automaton → ℕ → Sets → ℕ
into a e t = mask a.states (λ q. has t.winning (step a q e) || has t.intermediate (step a q e))

-- The two sets of a buffer w (document 01's held list): `winning` is S(w), where the monitor may
-- rest; `intermediate` is I(w), where it must release its first held event.
unfoldable pub sets_for : Automaton → List ℕ → Sets
sets_for a [] = empty_sets a
sets_for a (e ∷ w) = sets_of a (into a e (sets_for a w)) (λ x. (empty_sets a).winning)
