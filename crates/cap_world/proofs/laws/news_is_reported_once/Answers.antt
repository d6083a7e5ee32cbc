use Rattle.cap_world.proofs.Promises.{happens_once}
use Rattle.cap_world.proofs.laws.news_is_reported_once.Goals as goal

pub returns : goal.returns
returns c = λ opening attempts events closing output is_open bounded headline. (happens_once opening events closing headline.run bounded).news
