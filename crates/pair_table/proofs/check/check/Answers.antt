use Rattle.std.proofs.Common.{◌≡◌, List, Ok, Err, drop, ◌∙◌, subst, Result}
use Rattle.std.proofs.lemmas.Bool.{both_ways}
use Rattle.ternary.specs.declared.refusal.Refusal.{Refusal}
use Rattle.ternary.specs.declared.refusal.Refusal.TheVariants.{Mismatch, WrongPair}
use Rattle.automaton.specs.declared.words.Automaton.{Automaton}
use Rattle.automaton.specs.Limits.{handed}
use Rattle.pair_image.specs.Calls.{parts_of}
use Rattle.pair_table.specs.Acceptance.{Checked}
use Rattle.pair_table.proofs.Found.{agreed, disagree, found_different, found_right, found_wrong}
use Rattle.pair_table.proofs.HandedOn.{fault_handed_on, limits_handed_on}
use Rattle.pair_table.proofs.OneVerdict.{checked_exact, checked_only}
use Rattle.pair_table.proofs.check.check.Goals as goal

-- what is answered of an automaton that keeps its limits is answered of the automaton that was handed in
same : (s a : Automaton) → s ≡ a → (bytes : List _) (r : Result (Unit {0}) Refusal) → Checked (handed s) bytes r → Checked (handed a) bytes r
same s a e bytes r answer = subst (λ x. Checked (handed x) bytes r) e answer

pub returns-in_err-automaton : goal.returns-in_err-automaton
returns-in_err-automaton c =
    let told = c.in_err-automaton.ensures in
    let answer = limits_handed_on (handed c.args.automaton) c.args.image.now c.from_residual.result _ c.from_residual.ensures.1 told.0 told.1 in
    record { answer = answer; exact = checked_exact _ _ _ answer; only = checked_only _ _ _ answer }

pub returns-in_err-image : goal.returns-in_err-image
returns-in_err-image c =
    let s = c.in_ok-automaton.automaton in
    let r = c.from_residual-in_err-image.result in
    let answer = same s.automaton c.args.automaton c.in_ok-automaton.ensures c.args.image.now r
    (fault_handed_on (handed s.automaton) c.args.image.now r _ c.from_residual-in_err-image.ensures.1 s.within c.in_err-image.ensures) in
    record { answer = answer; exact = checked_exact _ _ _ answer; only = checked_only _ _ _ answer }

pub returns-then-not-agree : goal.returns-then-not-agree
returns-then-not-agree c =
    let s = c.in_ok-automaton.automaton in
    let a = handed s.automaton in
    let p = parts_of c.in_ok-image.image in
    let answer = same s.automaton c.args.automaton c.in_ok-automaton.ensures c.args.image.now (Err Mismatch)
    (found_different a c.args.image.now c.in_ok-image.image s.within c.in_ok-image.ensures (disagree a p c.header.result c.header.ensures (λ same. both_ways c.agree.result c.if-not-agree.true (c.agree.ensures.1 same)))) in
    record { answer = answer; exact = checked_exact _ c.args.image.now (Err Mismatch) answer; only = checked_only _ c.args.image.now (Err Mismatch) answer }

pub returns-in-Some : goal.returns-in-Some
returns-in-Some c =
    let s = c.in_ok-automaton.automaton in
    let a = handed s.automaton in
    let p = parts_of c.in_ok-image.image in
    let codes = c.as_slice.ensures.value ∙ (c.taken-codes.ensures ∙ (λ i. drop (c.codes.ensures.next i) (parts_of (c.codes.ensures.image i)).codes)) in
    let entries = c.as_slice-2.ensures.value ∙ (c.taken-entries.ensures ∙ (λ i. drop (c.entries.ensures.next i) (parts_of (c.entries.ensures.image i)).entries)) in
    let why = Err (WrongPair c.in-Some.state c.in-Some.byte c.in-Some.second) in
    let answer = same s.automaton c.args.automaton c.in_ok-automaton.ensures c.args.image.now why
    (found_wrong a c.args.image.now c.in_ok-image.image s.within c.in_ok-image.ensures
    _ _ codes entries (agreed a p c.header.result c.header.ensures (c.agree.ensures.0 c.if-not-agree.false)) c.in-Some.state.0 c.in-Some.byte c.in-Some.second c.in-Some.ensures) in
    record { answer = answer; exact = checked_exact _ c.args.image.now why answer; only = checked_only _ c.args.image.now why answer }

pub returns-in-None : goal.returns-in-None
returns-in-None c =
    let s = c.in_ok-automaton.automaton in
    let a = handed s.automaton in
    let p = parts_of c.in_ok-image.image in
    let codes = c.as_slice.ensures.value ∙ (c.taken-codes.ensures ∙ (λ i. drop (c.codes.ensures.next i) (parts_of (c.codes.ensures.image i)).codes)) in
    let entries = c.as_slice-2.ensures.value ∙ (c.taken-entries.ensures ∙ (λ i. drop (c.entries.ensures.next i) (parts_of (c.entries.ensures.image i)).entries)) in
    let answer = same s.automaton c.args.automaton c.in_ok-automaton.ensures c.args.image.now (Ok tt)
    (found_right a c.args.image.now c.in_ok-image.image s.within c.in_ok-image.ensures
    _ _ codes entries (agreed a p c.header.result c.header.ensures (c.agree.ensures.0 c.if-not-agree.false)) c.in-None.ensures) in
    record { answer = answer; exact = checked_exact _ c.args.image.now (Ok tt) answer; only = checked_only _ c.args.image.now (Ok tt) answer }
