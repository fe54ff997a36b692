use Rattle.std.proofs.Common.{◌≡◌, ◌-◌, ◌<◌, get_or, sym, ap, ◌∙◌, ⊎_elim, arith}
use Rattle.std.proofs.lemmas.Bool.{cases_order}
use Rattle.patterns.proofs.Sets.{not-both}
use Rattle.positions.specs.Sets.{in_set}
use Rattle.positions.specs.Tables.{set_at}
use Rattle.subsets.specs.Buckets.{bucket_of}
use Rattle.subsets.specs.Index.{bucket_at}
use Rattle.subsets.proofs.StateLemmas.{found-number}
use Rattle.subsets.proofs.IndexLemmas.{one-set}
use Rattle.subsets.proofs.states.States.find.Goals as goal

pub loop-next-init : goal.loop-next-init
loop-next-init c =
    let is = c.requires in
    let st = c.args.self.now in
    record {
      low = is.newest_low c.bucket.result c.bucket.ensures.low;
      in_bucket = λ k e. is.newest_in c.bucket.result k c.bucket.ensures.low e ∙ c.bucket.ensures.bucket;
      absent = λ k le lt same.
          omega (arith, le, is.newest_all k lt, ap (λ x. get_or st.newest x 0) (ap bucket_of same ∙ sym c.bucket.ensures.bucket));
    }

pub loop-next-preserved : goal.loop-next-preserved
loop-next-preserved c =
    let is = c.requires in
    let st = c.args.self.now in
    let inv = c.loop-next.invariant in
    let place = c.loop-next.next - 1 in
    let inside : place < st.count = omega (arith, inv.low, c.loop-next-test.true) in
    let here : bucket_at st place ≡ bucket_of c.args.set.now = inv.in_bucket place (omega (arith, c.loop-next-test.true)) in
    record {
      low = omega (arith, is.older_low place inside, inside);
      in_bucket = λ k e. is.older_in place k inside e ∙ here;
      absent = λ k le lt same.
          ⊎_elim
          (λ e. not-both c.is_same.result c.if-is_same.false (c.is_same.ensures.all (λ p h. ap (λ s. in_set s p) (sym (ap (set_at st.sets) e) ∙ same))))
          (⊎_elim
          (λ before. omega (arith, le, is.older_all place k inside before (ap bucket_of same ∙ sym here)))
          (λ after. inv.absent k (omega (arith, after, c.loop-next-test.true)) lt same))
          (cases_order k place);
    }

pub returns-then-is_same-clause-number : goal.returns-then-is_same-clause-number
returns-then-is_same-clause-number c = λ rs ss are within.
    let is = c.requires in
    let st = c.args.self.now in
    let place = c.loop-next.next - 1 in
    let inside : place < st.count = omega (arith, c.loop-next.invariant.low, c.loop-next-test.true) in
    let one = c.is_same.ensures.one c.if-is_same.true in
    found-number st rs ss are c.args.set.now within place (omega (arith, inside))
    (λ k lt bits. is.distinct place k inside lt
    (one-set (set_at st.sets k) (set_at st.sets place) (is.words k (omega (arith, lt, inside))) (is.words place inside) (λ p h. bits p h ∙ ap (λ s. in_set s p) (sym one))))
    (λ lt. one)

pub returns-clause-absent : goal.returns-clause-absent
returns-clause-absent c = λ e k lt same. c.loop-next.invariant.absent k (omega (arith, c.loop-next-test.false)) lt same

pub returns-clause-number : goal.returns-clause-number
returns-clause-number c = λ rs ss are within.
    let is = c.requires in
    let st = c.args.self.now in
    found-number st rs ss are c.args.set.now within st.count (omega arith)
    (λ k lt bits. c.loop-next.invariant.absent k (omega (arith, c.loop-next-test.false)) lt
    (one-set (set_at st.sets k) c.args.set.now (is.words k lt) c.bucket.ensures.words bits))
    (λ lt. absurd (omega (arith, lt)))
