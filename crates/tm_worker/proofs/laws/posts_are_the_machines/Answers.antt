use Rattle.tm_worker.proofs.MachinePosts.{posts-same}
use Rattle.tm_worker.proofs.laws.posts_are_the_machines.Goals as goal

pub returns : goal.returns
returns c = posts-same
