use Rattle.std.proofs.Common.{◌≡◌, ℕ, ◌-◌, ◌/◌, List, map, length, get_or, take, drop, Some, sym, ap, ◌∙◌, arith, length-take-le, length-drop}
use Rattle.std.specs.Simd.{first_chunks}
use Rattle.std.proofs.lemmas.List.{take_rest}
use Rattle.std.proofs.lemmas.Bool.{cond-true}
use Rattle.fields.specs.Fields.{word}
use Rattle.automaton.specs.File.{state_no, range_of}
use Rattle.automaton.proofs.Records.{length-fits, ranges_cut}
use Rattle.automaton.proofs.file.record.Record.read.Goals as goal

pub returns : goal.returns
returns c =
    let rest = c.args.rest.now in
    let len = c.from_be_bytes-len.result in
    let says = c.from_be_bytes-len.ensures in
    let k : ℕ = word rest 0 / 4 in
    let cut : List ℕ = take (len - 3) (drop 5 rest) in
    let long : length cut ≡ len - 3 = length-take-le (len - 3) (drop 5 rest) (omega (arith, length-drop 5 rest)) in
    let count : length cut / 4 ≡ k = omega (arith, long, says) in
    let cut_is : _ ≡ cut = ap (take (len - 3)) (take_rest rest 5) in
    let chunks : c.as_chunks.result.0.now ≡ first_chunks 4 k cut = c.as_chunks.ensures.front ∙ (ap (λ (l : List ℕ). first_chunks 4 (length l / 4) l) cut_is ∙ ap (λ (j : ℕ). first_chunks 4 j cut) count) in
    let ranges = ap (map range_of) chunks ∙ ranges_cut (drop 5 rest) (len - 3) 0 k (omega (arith, says)) in
    let default = c.from_be_bytes.ensures in
    (λ i. Some (record { class = get_or rest 2 0; default = state_no (default i); ranges = ranges i }))
    ∙ sym (cond-true _ _ _ (length-fits rest (omega (arith, says)) (omega (arith, says))))
