use Rattle.std.proofs.Common.{◌/◌, get_or, ap, ◌∙◌}
use Rattle.subsets.specs.Buckets.{mixed, bucket_of}
use Rattle.subsets.proofs.bucket.bucket.Goals as goal

pub returns-clause-bucket : goal.returns-clause-bucket
unfolding bucket_of
returns-clause-bucket c =
    ap (λ n. n / 36028797018963968)
    (c.mixed-sum.ensures
    ∙ ap (λ n. mixed n (get_or c.args.set.now.words 3 0)) (c.mixed-3.ensures
    ∙ ap (λ n. mixed n (get_or c.args.set.now.words 2 0)) (c.mixed-2.ensures
    ∙ ap (λ n. mixed n (get_or c.args.set.now.words 1 0)) c.mixed.ensures)))
