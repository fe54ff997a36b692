use Rattle.std.proofs.Common.{refl}
use Rattle.subsets.specs.Buckets.{mixed}
use Rattle.subsets.proofs.bucket.mixed.Goals as goal

pub returns : goal.returns
unfolding mixed
returns c = refl
