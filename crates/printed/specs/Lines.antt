-- The lines that are printed, by their bytes. Assumes nothing.
use Rattle.std.specs.Prelude.{◌≡◌, ℕ, zero, suc, Bool, true, false, cond, List, [], ◌∷◌, ◌++◌, length, Some, None, Ok, Err, codes, decimal, Option, Result, MatchResult, ◌==◌, nat_le, count_by, not}
use Rattle.ternary.specs.declared.entry.Entry.{Entry}
use Rattle.ternary.specs.declared.refusal.Refusal.{Refusal}
use Rattle.ternary.specs.declared.refusal.Refusal.TheVariants.{OutputTooShort}
use Rattle.ternary.specs.Bits.{bit}
use Rattle.ternary.specs.Refusals.{refusal_text}
use Rattle.ternary.specs.declared.words.StateNo.{StateNo}
use Rattle.automaton.specs.declared.words.Header.{Header}
use Rattle.automaton.specs.File.{decode, rows, classes, read_answer}
use Rattle.automaton.specs.Limits.{Handed, dfa}
use Rattle.automaton.specs.Runs.{Dfa}
use Rattle.forest.specs.declared.plan.Placement.{Placement}
use Rattle.forest.specs.declared.plan.Plan.{Plan}
use Rattle.forest.specs.Deferment.{forest_of}
use Rattle.forest.specs.Forest.{Forest}
use Rattle.forest.specs.Plan.{PlanOf, placement_of}
use Rattle.printed.specs.declared.summary.Summary.{Summary}

-- how many classes mark: those from 1 to 255
abbrev pub marking : List ℕ → ℕ
marking cs = count_by (λ c. not (c == 0)) cs

-- a summary: how many states, the start state, how many states mark
abbrev pub summary_text : Summary → List ℕ
summary_text s = decimal s.states ++ (codes " states, start " ++ (decimal s.start.0 ++ (codes ", " ++ (decimal s.marking ++ codes " marking"))))

-- the summary of a file that was read
abbrev pub summary_of : List ℕ → Result Header Refusal → Result Summary Refusal
summary_of file (Ok h) = Ok (record { states = h.states; start = h.start; marking = marking (classes (decode file)) })
summary_of file (Err e) = Err e

-- what reading a file into buffers for 64 states answers, where a file of over 65,536 bytes is refused by 3 before all else
abbrev pub small_answer : List ℕ → Result Header Refusal
small_answer file = cond (nat_le (length file) 65536) (read_answer file 16384 64) (Err OutputTooShort)

-- a file of over 65,536 bytes is refused by 3 before all else, and any other as reading it into buffers for 64 states
abbrev pub summarized : List ℕ → Result Summary Refusal
summarized file = cond (nat_le (length file) 65536) (summary_of file (read_answer file 16384 64)) (Err OutputTooShort)

-- a summary, or a refusal
abbrev pub outcome_text : Result Summary Refusal → List ℕ
outcome_text (Ok s) = summary_text s
outcome_text (Err e) = refusal_text e

-- the line of a file
abbrev pub line_of : List ℕ → List ℕ
line_of file = outcome_text (summarized file)

-- the character of a bit, by whether it is compared and whether it is set: `*` for a star, else `1` or `0`
abbrev pub symbol : Bool → Bool → ℕ
symbol false set = 42
symbol true false = 48
symbol true true = 49

-- a mask compares the bit at a place; without a mask all bits are compared
abbrev pub compares : Option ℕ → ℕ → Bool
compares None place = true
compares (Some mask) place = bit mask place

-- the characters of the places below w, the highest first
abbrev pub places : ℕ → ℕ → Option ℕ → List ℕ
places zero value mask = []
places (suc w) value mask = symbol (compares mask w) (bit value w) ∷ places w value mask

-- the same, or a hyphen for no place
abbrev pub symbols : ℕ → ℕ → Option ℕ → List ℕ
symbols zero value mask = codes "-"
symbols (suc w) value mask = places (suc w) value mask

-- a code of w bits
abbrev pub code_text : ℕ → ℕ → List ℕ
code_text w code = symbols w code None

-- a ternary word of w bits
abbrev pub word_text : ℕ → ℕ → ℕ → List ℕ
word_text w value mask = symbols w value (Some mask)

-- the head line of a table: how many entries, how many bits a code has
abbrev pub table_text : ℕ → ℕ → List ℕ
table_text entries w = decimal entries ++ (codes " entries, " ++ (decimal w ++ codes " code bits"))

-- an entry: its shadow, its byte word, the successor's code, the successor's class
abbrev pub entry_text : ℕ → Entry → List ℕ
entry_text w e = word_text w e.code_value e.code_mask ++ (codes " " ++ (word_text 8 e.byte_value e.byte_mask ++ (codes " " ++ (code_text w e.next.0 ++ (codes " " ++ decimal e.class)))))

-- the head line of a plan: how many bits a code has
abbrev pub width_text : ℕ → List ℕ
width_text w = decimal w ++ codes " code bits"

-- the state that a state defers to; a root has none
abbrev pub parent_text : Option StateNo → List ℕ
parent_text None = codes "root"
parent_text (Some p) = codes "defers to " ++ decimal p.0

-- a place: the code, the shadow, the state that is deferred to
abbrev pub place_text : ℕ → Placement → List ℕ
place_text w at = codes "code " ++ (code_text w at.code.0 ++ (codes " shadow " ++ (word_text w at.code.0 at.mask ++ (codes " " ++ parent_text at.parent))))

-- the state s at its place
abbrev pub state_text : ℕ → ℕ → Placement → List ℕ
state_text w s at = codes "state " ++ (decimal s ++ (codes " " ++ place_text w at))

-- a line and the line feed that ends it
abbrev pub ended : List ℕ → List ℕ
ended line = line ++ (10 ∷ [])

-- the lines of the states below n of a forest
abbrev pub states_text : Forest → ℕ → List ℕ
states_text f zero = []
states_text f (suc n) = states_text f n ++ ended (state_text f.width n (placement_of f n))

-- the plan of an automaton: the head line, and the lines of its states
abbrev pub plan_text : Dfa → List ℕ
plan_text a = ended (width_text (forest_of a).width) ++ states_text (forest_of a) a.states

-- the automaton that a file says
abbrev pub automaton_in : List ℕ → Handed
automaton_in file = record { states = length (decode file).states; start = (decode file).start; successors = rows (decode file); classes = classes (decode file) }

-- planning a file that reads so answers the plan of its automaton, or the refusal of reading
abbrev pub FilePlan : List ℕ → Result Header Refusal → Result Plan Refusal → Type 0
FilePlan file (Ok h) r = MatchResult r (λ p. PlanOf (dfa (automaton_in file)) p) (λ _. ⊥)
FilePlan file (Err e) r = r ≡ Err e

-- a file that reads so: the plan of its automaton, or a refusal
abbrev pub read_text : List ℕ → Result Header Refusal → List ℕ
read_text file (Ok h) = plan_text (dfa (automaton_in file))
read_text file (Err e) = ended (refusal_text e)

-- what is printed for a file
abbrev pub file_text : List ℕ → List ℕ
file_text file = read_text file (small_answer file)
