-- The plan of a file that was read.
use Rattle.std.proofs.Common.{◌≡◌, ℕ, ◌*◌, ◌≤◌, List, length, take, Ok, Err, Result, sym, ap, ◌∙◌, subst, inl, inr, arith, MatchResult}
use Rattle.std.proofs.lemmas.Nat.{mul-le}
use Rattle.ternary.specs.declared.refusal.Refusal.{Refusal}
use Rattle.ternary.specs.declared.words.StateNo.{StateNo}
use Rattle.fields.specs.Fields.{written}
use Rattle.automaton.specs.declared.words.Header.{Header}
use Rattle.automaton.specs.File.{decode, rows, classes}
use Rattle.automaton.specs.Laws.{held_in}
use Rattle.automaton.specs.Limits.{Handed, Within, dfa}
use Rattle.automaton.proofs.Reading.{header_is, count_is, length-rows, length-classes, front_written}
use Rattle.forest.specs.declared.plan.Plan.{Plan}
use Rattle.forest.specs.Plan.{PlanOf, PlanAnswer}
use Rattle.ternary.specs.Refusals.{refusal_text}
use Rattle.printed.specs.Lines.{ended, small_answer, automaton_in, FilePlan, read_text}
use Rattle.printed.specs.declared.reading.SmallAutomaton.{SmallAutomaton}
use Rattle.printed.specs.Small.{held, ReadSmall}
use Rattle.printed.proofs.Summaries.{read_small}

module _ (file : List ℕ) (h : Header) (is : Ok h ≡ small_answer file) where
  -- the buffers hold the automaton that the file says
  pub held_is : (successors successors' : List StateNo) (marks marks' : List ℕ) → successors' ≡ written successors 0 (rows (decode file)) → marks' ≡ written marks 0 (classes (decode file)) → held_in h successors' marks' ≡ automaton_in file
  held_is successors successors' marks marks' s-is m_is =
      let read = read_small file h is in
      let n : ℕ = h.states in
      let count : length (decode file).states ≡ n = count_is file h 16384 64 read in
      let start : h.start.0 ≡ (decode file).start = ap (λ (x : Header). x.start.0) (header_is file h 16384 64 read) in
      let held : take (256 * n) successors' ≡ rows (decode file) = ap (take (256 * n)) s-is ∙ front_written successors (rows (decode file)) (256 * n) (length-rows (decode file).states n count) in
      let kinds : take n marks' ≡ classes (decode file) = ap (take n) m_is ∙ front_written marks (classes (decode file)) n (length-classes (decode file).states n count) in
      λ i. record { states = sym count i; start = start i; successors = held i; classes = kinds i }

  -- planning it is refused neither for its limits nor for want of memory
  planned_held : (a : Handed) → a ≡ automaton_in file → Within a → a.states ≤ 64 → (work work' : List ℕ) → length work ≡ 12288 → (r : Result Plan Refusal) → PlanAnswer a work work' r → MatchResult r (λ p. PlanOf (dfa (automaton_in file)) p) (λ _. ⊥)
  planned_held a same within few work work' room (Ok p) told = subst (λ (x : Handed). PlanOf (dfa x) p) same told.2
  planned_held a same within few work work' room (Err e) told = elim told.1 [
    | inl (number, beyond) ↦ beyond within
    | inr (number, inside, short) ↦ omega (arith, mul-le a.states a.states 64 64 few few)
  ]

pub file_planned : (file : List ℕ) (x : Result Header Refusal) → x ≡ small_answer file → (s : SmallAutomaton) → ReadSmall file x s (Ok tt) → (a : Handed) → a ≡ held s → (work work' : List ℕ) → length work ≡ 12288 → (r : Result Plan Refusal) → PlanAnswer a work work' r → FilePlan file x r
file_planned file (Ok h) e s (header, same, within) a is work work' room r told =
    planned_held file h e a (is ∙ same) (subst Within (sym is) within) (omega (arith, ap (λ (x : Handed). x.states) is, s.few)) work work' room r told
file_planned file (Err why) e s read a is work work' room r told = absurd (let z : ◌≡◌ {A = ℕ} 0 1 = cc in omega arith)

-- where planning a file is refused, the refusal is printed
pub refused_text : (file : List ℕ) (x : Result Header Refusal) (e : Refusal) → FilePlan file x (Err e) → ended (refusal_text e) ≡ read_text file x
refused_text file (Ok h) e told = absurd told
refused_text file (Err e') e told = ap (λ (y : Refusal). ended (refusal_text y)) (cc)

-- what is read of a file that answers so
pub small_told : (file : List ℕ) (h : Header) (x : Result Header Refusal) → Ok h ≡ x → (s : SmallAutomaton) → (s.header ≡ h) × (held s ≡ automaton_in file) × Within (held s) → ReadSmall file x s (Ok tt)
small_told file h x e s facts = subst (λ x. ReadSmall file x s (Ok tt)) e facts

-- what is refused where a file answers so, whatever the room then holds
pub small_refused : (file : List ℕ) (x : Result Header Refusal) (e : Refusal) → Err e ≡ x → (s : SmallAutomaton) (r : Result (Unit {0}) Refusal) → r ≡ Err e → ReadSmall file x s r
small_refused file x e is s r told = subst (λ y. ReadSmall file y s r) is told
