-- The summary of a file that was read.
use Rattle.std.proofs.Common.{◌≡◌, ℕ, ◌≤◌, Bool, true, false, cond, leb, List, length, Ok, Err, Result, sym, refl, ap, ◌∙◌, arith}
use Rattle.std.proofs.lemmas.Bool.{cond-true, le-leb}
use Rattle.ternary.specs.declared.refusal.Refusal.{Refusal}
use Rattle.ternary.specs.declared.refusal.Refusal.TheVariants.{OutputTooShort}
use Rattle.automaton.specs.declared.words.Header.{Header}
use Rattle.automaton.specs.File.{read_answer}
use Rattle.automaton.specs.declared.words.Automaton.{Automaton}
use Rattle.automaton.specs.Limits.{Handed, handed}
use Rattle.printed.specs.declared.reading.SmallAutomaton.{SmallAutomaton}
use Rattle.printed.specs.Small.{held, ReadSmall}
use Rattle.printed.specs.Lines.{marking, summary_of, small_answer, summarized}

-- a header answers only a file that is not too long
small_read : (b : Bool) (h : Header) (r : Result Header Refusal) (e : Refusal) → Ok h ≡ cond b r (Err e) → Ok h ≡ r
small_read true h r e is = is
small_read false h r e is = absurd (let z : ◌≡◌ {A = ℕ} 0 1 = cc in omega arith)

-- the summary of what was read is the summary of the file
summary_of_small : (b : Bool) (file : List ℕ) (r : Result Header Refusal) (e : Refusal) → summary_of file (cond b r (Err e)) ≡ cond b (summary_of file r) (Err e)
summary_of_small true file r e = refl
summary_of_small false file r e = refl

pub small_summary : (file : List ℕ) → summary_of file (small_answer file) ≡ summarized file
small_summary file = summary_of_small (leb (length file) 65536) file (read_answer file 16384 64) OutputTooShort

-- a file that is not too long is summarized as reading answers
pub summarized_read : (file : List ℕ) → length file ≤ 65536 → (r : Result Header Refusal) → r ≡ read_answer file 16384 64 → summarized file ≡ summary_of file r
summarized_read file short r e = cond-true (leb (length file) 65536) _ _ (le-leb (length file) 65536 short) ∙ ap (summary_of file) (sym e)

module _ (file : List ℕ) (h : Header) (is : Ok h ≡ small_answer file) where
  pub read_small : Ok h ≡ read_answer file 16384 64
  read_small = small_read (leb (length file) 65536) h (read_answer file 16384 64) OutputTooShort is

-- the summary of an automaton that was read is the summary of the file
pub summary_is : (file : List ℕ) (x : Result Header Refusal) → x ≡ small_answer file → (s : SmallAutomaton) → ReadSmall file x s (Ok tt) → (a : Automaton) → handed a ≡ held s → (count : ℕ) → count ≡ marking a.classes.now → Ok (record { states = a.states; start = a.start; marking = count }) ≡ summarized file
summary_is file (Ok h) e s (header, same, within) a is count counted =
    let states = ap (λ (x : Handed). x.states) is ∙ ap (λ (x : Header). x.states) header in
    let start = ap (λ (x : Handed). x.start) is ∙ ap (λ (x : Header). x.start.0) header in
    let marks = counted ∙ ap (λ (x : Handed). marking x.classes) (is ∙ same) in
    (λ i. Ok (record { states = states i; start = record { 0 = start i }; marking = marks i })) ∙ (ap (summary_of file) e ∙ small_summary file)
summary_is file (Err why) e s read a is count counted = absurd (let z : ◌≡◌ {A = ℕ} 0 1 = cc in omega arith)
