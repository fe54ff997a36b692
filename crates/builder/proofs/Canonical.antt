-- The lists that the builder chooses: one for each state, by its row and its deferrable bytes. Assumes nothing.
use Rattle.std.proofs.Common.{◌≡◌, ℕ, ◌+◌, ◌*◌, ◌<◌, ◌≤◌, map, length, sym, refl, ap, subst, inl, inr, arith}
use lib.ListN.{length-map}
use Rattle.std.specs.List.{range_with_len, AllByRecursion}
use Rattle.std.proofs.ByRecursion.{All-get_or}
use Rattle.std.proofs.lemmas.List.{get_or_past}
use Rattle.std.proofs.lemmas.Bool.{cases_lt}
use Rattle.ternary.specs.declared.words.StateNo.{StateNo}
use Rattle.automaton.specs.Limits.{Handed, Within, dfa}
use Rattle.automaton.specs.Runs.{Dfa}
use Rattle.image.specs.Calls.{image_size}
use Rattle.image.specs.Format.{size}
use Rattle.prefix.proofs.Choosing.{chosen_formed, chosen-shortest}
use Rattle.prefix.proofs.Decided.{chosen_next}
use Rattle.forest.specs.Deferment.{forest_of}
use Rattle.forest.proofs.Deferred.{forest_stands}
use Rattle.builder.specs.Lists.{Lists, row, deferrable, MeetingLists, ShortestLists, byte_word, code_of, table_over, parts_over}
use Rattle.builder.specs.Build.{TooMany}
use Rattle.builder.specs.Gathering.{lists_of}
use Rattle.builder.proofs.Blocks.{table≤}

pub lists_shortest : (a : Dfa) → ShortestLists a (lists_of a)
lists_shortest a s h = (chosen_formed (a.next s) (deferrable a s), chosen-shortest (a.next s) (deferrable a s) (row a s) (λ byte k. refl))

-- every successor is a state
pub next_below : (a : Handed) → Within a → (s byte : ℕ) → (dfa a).next s byte < a.states
next_below a within s byte = elim (cases_lt (256 * s + byte) (length a.successors)) [
  | inl inside ↦ All-get_or (λ (t : StateNo). t.0 < a.states) a.successors (256 * s + byte) (record { 0 = 0 }) inside within.successors_below
  | inr past ↦ subst (λ (t : StateNo). t.0 < a.states) (sym (get_or_past a.successors (256 * s + byte) (record { 0 = 0 }) past)) within.some
]

pub lists_below : (a : Handed) → Within a → (s : ℕ) → AllByRecursion (λ w. w.next.0 < a.states) (lists_of (dfa a) s)
lists_below a within s = chosen_next (λ (n : ℕ). n < a.states) within.some ((dfa a).next s) (deferrable (dfa a) s) (next_below a within s)

-- shortest lists make a table as short as any lists that meet the byte rule
pub fewest_entries : (a : Dfa) (lists others : Lists) → ShortestLists a lists → MeetingLists a others → length (table_over a lists) ≤ length (table_over a others)
fewest_entries a lists others short meet =
    table≤ a (forest_of a) (λ s. map byte_word (lists s)) (λ s. map byte_word (others s))
    (λ s h.
    let below : s < a.states = subst (λ (n : ℕ). s < n) (forest_stands a).states h in
    omega (arith, (short s below).1.least (others s) (meet s below), length-map (lists s) byte_word, length-map (others s) byte_word))

-- so if their entries are too many, any are
pub too_many : (a : Dfa) (lists : Lists) → ShortestLists a lists → 4096 < length (table_over a lists) → TooMany a
too_many a lists short more others meet = omega (arith, fewest_entries a lists others short meet)

-- every choice of shortest lists makes an image of the same size
pub one_size : (a : Dfa) (lists others : Lists) → ShortestLists a lists → ShortestLists a others → image_size (parts_over a others) ≡ image_size (parts_over a lists)
one_size a lists others short too =
    let more = fewest_entries a lists others short (λ s h. (too s h).1.meets) in
    let less = fewest_entries a others lists too (λ s h. (short s h).1.meets) in
    let same : length (table_over a others) ≡ length (table_over a lists) = omega arith in
    ap (λ (n : ℕ). size (length (map (code_of a) (range_with_len 0 a.states))) n) same
