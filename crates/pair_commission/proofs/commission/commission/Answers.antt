use Rattle.std.proofs.Common.{List, take, is_ok, IfOk, Decides, vec_items, subst}
use Rattle.automaton.specs.Limits.{Handed, dfa, handed}
use Rattle.table.specs.Acceptance as one
use Rattle.builder.specs.Build as one_build
use Rattle.pairs.specs.Cards.{places}
use Rattle.pair_table.specs.Acceptance as two
use Rattle.pair_builder.specs.Build as two_build
use Rattle.pair_commission.specs.Runs.{Answer, filed, Ran}
use Rattle.pair_commission.proofs.Keeping.{lawful_of}
use Rattle.pair_commission.proofs.Owing.{for_image, both_agree}
use Rattle.pair_commission.proofs.commission.commission.Goals as goal

pub returns : goal.returns
returns g c =
    let a = filed c.args.vendor.now in
    let b = handed c.automaton-automaton.result in
    let is = c.automaton-automaton.ensures in
    let two_image = c.as_slice.ensures.value in
    let one_image = c.as_slice-2.ensures.value in
    let two_made = c.build_two-two_built.result in
    let one_made = c.build_one-one_built.result in
    let two_out = c.build_two-two_built.new.out in
    let one_out = c.build_one-one_built.new.out in
    record {
      two_exact = for_image (λ x xs. Decides (is_ok c.check-two_vendor.result) (two.Acceptable x xs)) a b _ _ is two_image c.check-two_vendor.ensures.exact;
      one_exact = for_image (λ x xs. Decides (is_ok c.check-one_vendor.result) (one.Acceptable x xs)) a b _ _ is one_image c.check-one_vendor.ensures.exact;
      two_checked = for_image (λ x xs. two.Checked x xs c.check-two_vendor.result) a b _ _ is two_image c.check-two_vendor.ensures.answer;
      one_checked = for_image (λ x xs. one.Checked x xs c.check-one_vendor.result) a b _ _ is one_image c.check-one_vendor.ensures.answer;
      between = c.build_two-two_built.new.work;
      same_room = c.build_two-two_built.auto.work;
      two_built = subst (λ (x : Handed). two_build.BuildAnswer x c.args.work.now c.build_two-two_built.new.work c.args.two_out.now two_out two_made) is c.build_two-two_built.ensures.answer;
      one_built = subst (λ (x : Handed). one_build.BuildAnswer x c.build_two-two_built.new.work c.build_one-one_built.new.work c.args.one_out.now one_out one_made) is c.build_one-one_built.ensures.answer;
      two_accepted = subst (λ (x : Handed). IfOk two_made (λ n. two.Acceptable x (take n two_out))) is c.build_two-two_built.ensures.accepted;
      one_accepted = subst (λ (x : Handed). IfOk one_made (λ n. one.Acceptable x (take n one_out))) is c.build_one-one_built.ensures.accepted;
      two_shortest = subst (λ (x : Handed). IfOk two_made (λ n. two_build.ShortestImage (dfa x) (take n two_out))) is c.build_two-two_built.ensures.shortest;
      one_shortest = subst (λ (x : Handed). IfOk one_made (λ n. one_build.ShortestImage (dfa x) (take n one_out))) is c.build_one-one_built.ensures.shortest;
      agree = both_agree b two_out one_out two_made one_made c.build_two-two_built.ensures.parts c.build_one-one_built.ensures.parts;
      journey =
          subst (λ (xs : List Answer). Ran (places c.args.two.now) (g.C.Card.size c.args.one.now) c.args.calls.now xs (vec_items c.run-ended.new.answers) (is_ok c.run-ended.result))
          c.new-answers.ensures.items c.run-ended.ensures;
      every = lawful_of;
    }
