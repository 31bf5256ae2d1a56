-- Streams worked at width 5, over the ranges that `Sole` and `Lose` have there.
use Rattle.std.specs.Prelude.{◌≡◌, [], ◌∷◌}
use Rattle.schedule.specs.Kinds.{sole, lose}
use Rattle.writer.specs.Stream.{stream}

pub record WorkedStreams : Type 0 where
  pub sole_5_7_31 : stream (sole 5) (5 ∷ 7 ∷ 31 ∷ []) ≡ 12 ∷ 3 ∷ 26 ∷ 6 ∷ 1 ∷ []
  pub sole_empty : stream (sole 5) [] ≡ 0 ∷ 2 ∷ 1 ∷ []
  pub sole_31 : stream (sole 5) (31 ∷ []) ≡ 31 ∷ 1 ∷ 1 ∷ []
  pub sole_0_0 : stream (sole 5) (0 ∷ 0 ∷ []) ≡ 0 ∷ 0 ∷ 27 ∷ 6 ∷ 1 ∷ []
  pub lose_empty : stream (lose 5) [] ≡ 0 ∷ 1 ∷ []
  pub lose_5 : stream (lose 5) (5 ∷ []) ≡ 8 ∷ 3 ∷ 3 ∷ 1 ∷ []
  pub lose_5_7 : stream (lose 5) (5 ∷ 7 ∷ []) ≡ 14 ∷ 9 ∷ 2 ∷ 1 ∷ []
  pub lose_5_7_31 : stream (lose 5) (5 ∷ 7 ∷ 31 ∷ []) ≡ 12 ∷ 7 ∷ 9 ∷ 10 ∷ 8 ∷ 1 ∷ []
