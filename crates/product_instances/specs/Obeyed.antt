-- The claims on the monitor of a product, hypotheses met: sheet V and one that wants at most two
-- Answers.
use Rattle.std.specs.Prelude.{ℕ, ◌<◌, ◌≡◌, true, List, [], ◌∷◌, ◌++◌, map}
use Rattle.base.specs.All.{AllOf}
use Rattle.base.specs.Pad.{pad}
use Rattle.automaton.specs.declared.Automaton.{Automaton}
use Rattle.automaton.specs.Automaton.{assembled}
use Rattle.solver_sets.specs.Table.{table}
use Rattle.product_rule.specs.Pairs.{pair}
use Rattle.product_rule.specs.Product.{product_of}
use Rattle.product_rule.specs.Claims.{EndsAccepting, sheet_v, no_answer}
use Rattle.configuration.specs.Configuration.{initial_of}
use Rattle.monitor_rule.specs.Claims.{Full}
use Rattle.monitor_answers.specs.Answers.{is_winning}
use Rattle.enforcement.specs.Calls.{Call, receive_call}
use Rattle.enforcement.specs.Moments.{Moment, position_after}
use Rattle.enforcement.specs.Claims.{winning_after, output_after}
use Rattle.enforcement_cases.specs.Cases.{at}
use Rattle.enforcement_product.specs.Claims.{merged_moments}

-- at most two Answers: 4 2 1 0, 0 1, 1 1 1 0, 0 1, 1 2, 2 3, 3 3
unfoldable pub two_answers : Automaton
two_answers =
    assembled 4 2 1 0
    (pad 16 (0 ∷ 1 ∷ []))
    (pad 32 (1 ∷ 1 ∷ 1 ∷ 0 ∷ []))
    (pad 512 (pad 16 (0 ∷ 1 ∷ []) ++ (pad 16 (1 ∷ 2 ∷ []) ++ (pad 16 (2 ∷ 3 ∷ []) ++ pad 16 (3 ∷ 3 ∷ [])))))

abbrev pub merged : Automaton
merged = product_of sheet_v two_answers

-- its table
abbrev pub table_merged : List ℕ
table_merged = 1792 ∷ 0 ∷ 1795 ∷ 816 ∷ []

-- Answer, Answer, Query, Answer, Answer: the last is not accepted
abbrev pub answers : List Call
answers = map receive_call (1 ∷ 1 ∷ 0 ∷ 1 ∷ 1 ∷ [])

-- the accepted ones
abbrev pub first : Moment
first = record { past = []; output = []; position = at 0 [] [] 0 0; event = 1 }

abbrev pub second : Moment
second = record { past = 1 ∷ []; output = []; position = at 0 (1 ∷ []) (0 ∷ []) 1 0; event = 1 }

abbrev pub third : Moment
third = record { past = 1 ∷ 1 ∷ []; output = 1 ∷ []; position = at 1 (1 ∷ []) (1 ∷ []) 2 1; event = 0 }

abbrev pub fourth : Moment
fourth = record { past = 1 ∷ 1 ∷ 0 ∷ []; output = 1 ∷ 0 ∷ 1 ∷ []; position = at 10 [] [] 3 3; event = 1 }

-- what it puts out at the third: the Query and the second Answer
abbrev pub put_out : List ℕ
put_out = 1 ∷ 0 ∷ 1 ∷ []

abbrev pub BothEnd : List ℕ → Type 0
BothEnd out = EndsAccepting sheet_v out × EndsAccepting two_answers out

pub record ObeyedThere : Type 0 where
  pub accepted : merged_moments sheet_v two_answers table_merged answers ≡ first ∷ second ∷ third ∷ fourth ∷ []
  pub out : output_after merged table_merged third ≡ put_out
  -- they are symbols
  pub symbols : AllOf (λ e. e < 2) put_out
  -- with the first Answer held it is winning, so both are obeyed at the third
  pub wins : winning_after merged table_merged first ≡ true
  pub by-winning : BothEnd put_out
  -- the second Answer comes at a full buffer, and so they are
  pub full : Full merged (1 ∷ []) 1
  pub by-opening : BothEnd put_out
  -- its state then is the pair of 2 and 2
  pub state : (position_after merged table_merged third).state ≡ 10
  pub pair_then : 10 ≡ pair 4 2 2

-- no Answer, and at most two, merged; a solved table of it, and a Query at the outset
abbrev pub calm : Automaton
calm = product_of no_answer two_answers

abbrev pub table_calm : List ℕ
table_calm = table calm ++ []

abbrev pub query : Moment
query = record { past = []; output = []; position = at 0 [] [] 0 0; event = 0 }

-- winning from the outset, and so after a Query both are obeyed
pub record ObeyedInitially : Type 0 where
  pub wins : is_winning calm table_calm (initial_of calm) ≡ true
  pub accepted : merged_moments no_answer two_answers table_calm (receive_call 0 ∷ []) ≡ query ∷ []
  pub after-query : EndsAccepting no_answer (0 ∷ []) × EndsAccepting two_answers (0 ∷ [])
