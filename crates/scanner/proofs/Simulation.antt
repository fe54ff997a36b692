-- A list of entries that carries an automaton traces as the automaton runs.
use Rattle.std.proofs.Common.{◌≡◌, ℕ, ◌+◌, ◌<◌, ◌≤◌, List, [], ◌∷◌, ◌++◌, map, length, get_or, take, drop, Some, refl, ap, ◌∙◌, subst, arith}
use Rattle.std.specs.List.{AllByRecursion}
use Rattle.std.proofs.lemmas.List.{length-map, take_at}
use Rattle.std.proofs.ByRecursion.{All-take, All-get_or, All-from_get_or}
use Rattle.ternary.specs.declared.entry.Entry.{Entry}
use Rattle.ternary.specs.declared.words.Mark.{Mark}
use Rattle.ternary.specs.declared.words.Progress.{Progress}
use Rattle.ternary.specs.declared.words.StateCode.{StateCode}
use Rattle.ternary.specs.Marks.{Marked, marked, held, mark}
use Rattle.automaton.specs.Limits.{Handed, Within, dfa}
use Rattle.automaton.specs.Runs.{Dfa, reach, marks}
use Rattle.table.specs.Acceptance.{Carries}
use Rattle.table.proofs.Successors.{successor_below}
use Rattle.scanner.specs.Traces.{Traced, trace, before, onward}
use Rattle.scanner.specs.Walks.{Tells, NextLacksEntry}
use Rattle.scanner.specs.Book.{MostBytes}
use Rattle.scanner.specs.Scanners.{Closed}

-- numbers that are bytes
abbrev pub Bytes : List ℕ → Type 0
Bytes = AllByRecursion (λ b. b < 256)

-- numbers that fit eight bits are bytes
pub bytes_from_typed : (piece : List ℕ) → ((i : ℕ) → get_or piece i 0 < 256) → Bytes piece
bytes_from_typed piece typed = All-from_get_or (λ b. b < 256) piece 0 (λ i h. typed i)

-- an automaton within its limits is closed
pub within_closed : (a : Handed) → Within a → Closed (dfa a)
within_closed a within = record {
  start_is = within.start_below;
  next_is = λ s hs b hb. successor_below a within s b hs hb;
}

-- a run over two lists in a row
pub reach-++ : (a : Dfa) (s : ℕ) (xs ys : List ℕ) → reach a s (xs ++ ys) ≡ reach a (reach a s xs) ys
reach-++ a s [] ys = refl
reach-++ a s (x ∷ xs) ys = reach-++ a (a.next s x) xs ys

-- a run stays among the states
pub reach_is : (a : Dfa) → Closed a → (s : ℕ) (bs : List ℕ) → s < a.states → Bytes bs → reach a s bs < a.states
reach_is a closed s [] h all = h
reach_is a closed s (b ∷ bs) h all = reach_is a closed (a.next s b) bs (closed.next_is s h b all.0) all.1

-- marks as they are in a buffer are read back
pub marked-held : (ms : List Marked) → map marked (map held ms) ≡ ms
marked-held [] = refl
marked-held ((place, class) ∷ ms) = ap (λ (l : List Marked). (place, class) ∷ l) (marked-held ms)

module _ (a : Dfa) (code : ℕ → StateCode) (es : List Entry) (closed : Closed a) (carries : Carries a code es) where
  -- the trace from a state's code is the automaton's run from that state
  pub simulates : (s place : ℕ) (bs : List ℕ) → s < a.states → Bytes bs → trace es (code s) place bs ≡ Some (code (reach a s bs), marks a s place bs)
  simulates s place [] h all = refl
  simulates s place (b ∷ bs) h all =
      ap (onward place (λ next. trace es next (place + 1) bs)) (carries s h b all.0)
      ∙ ap (before (mark place (a.class (a.next s b)))) (simulates (a.next s b) (place + 1) bs (closed.next_is s h b all.0) all.1)

  module _ (s : ℕ) (is : s < a.states) (piece : List ℕ) (all : Bytes piece) (buffer after : List Mark) (p : Progress) (tells : Tells es (code s) piece buffer after p) where
    front : (m : ℕ) → trace es (code s) 0 (take m piece) ≡ Some (code (reach a s (take m piece)), marks a s 0 (take m piece))
    front m = simulates s 0 (take m piece) is (All-take (λ b. b < 256) m piece all)

    both : ◌≡◌ {A = Traced} (p.code, tells.ms) (code (reach a s (take p.taken piece)), marks a s 0 (take p.taken piece))
    both = let w = tells.takes.can.traced in let f = front p.taken in cc

    -- a walk comes to the code of the state that the automaton comes to
    pub code_of_lem : p.code ≡ code (reach a s (take p.taken piece))
    code_of_lem = ap (λ (t : Traced). t.0) both

    ms_of : tells.ms ≡ marks a s 0 (take p.taken piece)
    ms_of = ap (λ (t : Traced). t.1) both

    -- as many marks as the automaton gives
    pub count_of : p.marks ≡ length (marks a s 0 (take p.taken piece))
    count_of = tells.count ∙ ap length ms_of

    -- its marks in the buffer are the automaton's
    pub marks_of : map marked (take p.marks after) ≡ marks a s 0 (take p.taken piece)
    marks_of =
        ap (λ n. map marked (take n after)) tells.count
        ∙ ap (λ (xs : List Mark). map marked (take (length tells.ms) xs)) tells.written
        ∙ ap (map marked) (take_at (map held tells.ms) (drop (length tells.ms) buffer) (length tells.ms) (length-map tells.ms held))
        ∙ marked-held tells.ms ∙ ms_of

    -- it takes the most bytes whose marks fit
    pub most_of : MostBytes a s piece (length buffer) p.taken
    most_of = record {
      within = tells.takes.can.within;
      fits = subst (λ (ms : List Marked). length ms ≤ length buffer) ms_of tells.takes.can.fits;
      most = λ m h fits. tells.takes.most m (code (reach a s (take m piece))) (marks a s 0 (take m piece)) (record { within = h; traced = front m; fits = fits });
    }

    -- it never meets a byte that has no entry
    pub has-entry : NextLacksEntry es piece p → ⊥
    has-entry lacks =
        let t = reach a s (take p.taken piece) in
        let there : t < a.states = reach_is a closed s (take p.taken piece) is (All-take (λ b. b < 256) p.taken piece all) in
        let hit = carries t there (get_or piece p.taken 0) (All-get_or (λ b. b < 256) piece p.taken 0 lacks.0 all) in
        let at = code_of_lem in
        let miss = lacks.1 in
        let z : ◌≡◌ {A = ℕ} 0 1 = cc in
        omega arith
