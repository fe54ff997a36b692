use Rattle.std.proofs.Common.{◌≡◌, ℕ, ◌*◌, ◌+◌, ◌≤◌, List, map, length, take, IfOk, None, Result, sym, ap, ◌∙◌, subst, arith}
use Rattle.std.proofs.lemmas.Result.{IfOk-from_err}
use Rattle.std.specs.List.{range_with_len}
use Rattle.ternary.specs.declared.refusal.Refusal.{Refusal}
use Rattle.automaton.specs.declared.words.Automaton.{Automaton}
use Rattle.automaton.specs.Limits.{dfa, handed}
use Rattle.forest.specs.Deferment.{forest_of}
use Rattle.image.specs.Calls.{pack_answer, pack_after}
use Rattle.image.specs.Format.{Parts, decode, parts_from}
use Rattle.image.specs.Rules.{fault}
use Rattle.prefix.specs.States.{state_no}
use Rattle.table.specs.Acceptance.{Acceptable}
use Rattle.builder.specs.Build.{BuildAnswer, HeaviestImage, OverShortest, ShortestImage}
use Rattle.builder.specs.Gathering.{lists_of}
use Rattle.builder.specs.Lists.{code_of, table_over, parts_over}
use Rattle.builder.proofs.Answering.{plan_declined, gather_declined, packed, parts_from_says, accepted_from, shortest_from, heaviest_from}
use Rattle.builder.proofs.OneBuild.{sole_answer, room_suffices}
use Rattle.builder.proofs.build.build.Goals as goal

pub returns-in_err-planned : goal.returns-in_err-planned
returns-in_err-planned c =
    let a = handed c.args.automaton in
    let r = c.from_residual.result in
    let answer = plan_declined a c.args.work.now c.of.new.work c.args.out.now r _ c.from_residual.ensures.1 c.in_err-planned.ensures in
    record {
      answer = answer;
      only = sole_answer a c.args.work.now c.of.new.work c.args.out.now c.args.out.now r answer;
      suffices = room_suffices a c.args.work.now c.of.new.work c.args.out.now c.args.out.now r answer;
      parts = IfOk-from_err r _ c.from_residual.ensures.0;
      accepted = IfOk-from_err r _ c.from_residual.ensures.0;
      shortest = IfOk-from_err r _ c.from_residual.ensures.0;
      heaviest = IfOk-from_err r _ c.from_residual.ensures.0;
    }

-- what is answered of an automaton that is planned is answered of the automaton that was handed in
same : (s a : Automaton) → s ≡ a → (work work' out out' : List ℕ) (r : Result ℕ Refusal) → BuildAnswer (handed s) work work' out out' r → BuildAnswer (handed a) work work' out out' r
same s a e work work' out out' r answer = subst (λ x. BuildAnswer (handed x) work work' out out' r) e answer

pub returns-in_err-gather : goal.returns-in_err-gather
returns-in_err-gather c =
    let a = handed c.args.automaton in
    let p = c.in_ok-planned.planned in
    let told = c.in_ok-planned.ensures in
    let s = handed p.automaton.automaton in
    let enough = subst (λ (x : Automaton). (handed x).states * (handed x).states + 8192 ≤ length c.args.work.now) (sym told.0) told.1 in
    let r = c.from_residual-in_err-gather.result in
    let answer = same p.automaton.automaton c.args.automaton told.0 c.args.work.now c.of.new.work c.args.out.now c.args.out.now r
    (gather_declined s c.args.work.now c.of.new.work c.args.out.now r _ c.from_residual-in_err-gather.ensures.1 p.automaton.within enough c.in_err-gather.ensures) in
    record {
      answer = answer;
      only = sole_answer a c.args.work.now c.of.new.work c.args.out.now c.args.out.now r answer;
      suffices = room_suffices a c.args.work.now c.of.new.work c.args.out.now c.args.out.now r answer;
      parts = IfOk-from_err r _ c.from_residual-in_err-gather.ensures.0;
      accepted = IfOk-from_err r _ c.from_residual-in_err-gather.ensures.0;
      shortest = IfOk-from_err r _ c.from_residual-in_err-gather.ensures.0;
      heaviest = IfOk-from_err r _ c.from_residual-in_err-gather.ensures.0;
    }

pub returns : goal.returns
returns c =
    let a = handed c.args.automaton in
    let p = c.in_ok-planned.planned in
    let told = c.in_ok-planned.ensures in
    let s = handed p.automaton.automaton in
    let enough = subst (λ (x : Automaton). (handed x).states * (handed x).states + 8192 ≤ length c.args.work.now) (sym told.0) told.1 in
    let lists = lists_of (dfa s) in
    let entries : c.as_slice-2.result.now ≡ table_over (dfa s) lists = c.as_slice-2.ensures.value ∙ c.in_ok-gather.ensures in
    let few : length (table_over (dfa s) lists) ≤ 4096 = omega (arith, ap length entries, c.as_slice-2.ensures.fits) in
    let codes : c.as_slice.result.now ≡ map (code_of (dfa s)) (range_with_len 0 s.states) = c.as_slice.ensures.value ∙ c.codes-codes.ensures in
    let wide : c.width.result ≡ (forest_of (dfa s)).width = c.width.ensures ∙ p.planned.1.wide in
    let start = ap state_no c.start.ensures in
    let parts : parts_from c.width.result c.start.result c.as_slice.result.now c.as_slice-2.result.now ≡ parts_over (dfa s) lists = λ i. parts_from (wide i) (start i) (codes i) (entries i) in
    let says = subst (λ (p : Parts). IfOk c.pack.result (λ size. (fault (take size c.pack.new.out) ≡ None) × (decode (take size c.pack.new.out) ≡ p))) parts c.pack.ensures.back in
    let done =
    packed s p.automaton.within few c.args.work.now c.of.new.work c.args.out.now c.pack.new.out c.pack.result enough
    (c.pack.ensures.answer ∙ ap (λ (p : Parts). pack_answer p (length c.args.out.now)) parts) (c.pack.ensures.after ∙ ap (λ (p : Parts). pack_after p c.args.out.now) parts) in
    let answer = same p.automaton.automaton c.args.automaton told.0 c.args.work.now c.of.new.work c.args.out.now c.pack.new.out c.pack.result done in
    record {
      answer = answer;
      only = sole_answer a c.args.work.now c.of.new.work c.args.out.now c.pack.new.out c.pack.result answer;
      suffices = room_suffices a c.args.work.now c.of.new.work c.args.out.now c.pack.new.out c.pack.result answer;
      parts = subst (λ (x : Automaton). IfOk c.pack.result (λ size. OverShortest (dfa (handed x)) (decode (take size c.pack.new.out)))) told.0 (parts_from_says s few c.pack.new.out c.pack.result says);
      accepted = subst (λ (x : Automaton). IfOk c.pack.result (λ size. Acceptable (handed x) (take size c.pack.new.out))) told.0 (accepted_from s p.automaton.within c.pack.new.out c.pack.result says);
      shortest = subst (λ (x : Automaton). IfOk c.pack.result (λ size. ShortestImage (dfa (handed x)) (take size c.pack.new.out))) told.0 (shortest_from s c.pack.new.out c.pack.result says);
      heaviest = subst (λ (x : Automaton). IfOk c.pack.result (λ size. HeaviestImage (dfa (handed x)) (decode (take size c.pack.new.out)))) told.0 (heaviest_from s c.pack.new.out c.pack.result says);
    }
