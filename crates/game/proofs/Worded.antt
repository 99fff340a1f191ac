-- The two questions as document 01 words them.
use mathlib.Core.Path.{refl}
use mathlib.Core.Bool.{or-false}
use mathlib.Core.List.{[]}
use Rattle.game.specs.Game.{rests_by, releases, may_rest, can_rest}
use Rattle.game.specs.Claims.{AsWorded}

pub as_worded : AsWorded
unfolding rests_by releases may_rest can_rest
as_worded a = record {
  rest_last = λ w q. refl;
  rest_on = λ w r q. refl;
  come-empty = λ r q. or-false (may_rest a [] r q);
  come-held = λ e w r q. refl;
}
