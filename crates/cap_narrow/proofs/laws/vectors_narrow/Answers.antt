use Rattle.cap_narrow.proofs.Vectors.{fits_narrow, maximum_narrow, user_limit_narrow, exchanged_narrow, times_narrow, rounding_narrow, rounding_ends, fullness_narrow, same_narrow}
use Rattle.cap_narrow.proofs.laws.vectors_narrow.Goals as goal

pub returns : goal.returns
returns c = record {
  fits = fits_narrow;
  maximum = maximum_narrow;
  user = user_limit_narrow;
  exchanged = exchanged_narrow;
  times = times_narrow;
  rounded = rounding_narrow;
  stays = rounding_ends;
  fullness = fullness_narrow;
  same = same_narrow;
}
