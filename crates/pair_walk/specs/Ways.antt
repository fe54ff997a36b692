-- What a two-byte list and a one-byte list of entries make of bytes, search by search. Assumes nothing.
use Rattle.std.specs.Prelude.{ℕ, ◌+◌, ◌-◌, Bool, cond, ◌||◌, List, [], ◌∷◌, ◌++◌, length, Some, None, Option, ◌==◌, nat_lt}
use Rattle.ternary.specs.declared.entry.Entry.{Entry}
use Rattle.ternary.specs.declared.words.StateCode.{StateCode}
use Rattle.ternary.specs.Marks.{Marked, mark}
use Rattle.ternary.specs.Match as one
use Rattle.pairs.specs.declared.stride.Stride.{Stride}
use Rattle.pairs.specs.declared.stride.Stride.TheVariants.{One, Two}
use Rattle.pairs.specs.declared.pair.PairEntry.{PairEntry}
use Rattle.pairs.specs.Match.{Decision, first}

-- why a walk ends: no byte is left, a mark has no slot, or a search finds nothing
pub data Why : Type 0 where
  ended : Why
  full : Why
  lacking : Why

-- how a walk over some bytes ends: the bytes taken, their marks, the code reached, the searches made, and why it ends
pub record Ending : Type 0 where
  pub taken : ℕ
  pub ms : List Marked
  pub code : StateCode
  pub searches : ℕ
  pub why : Why

-- a walk that takes no byte, after so many searches
abbrev pub stopped : StateCode → ℕ → Why → Ending
stopped code searches why = record { taken = 0; ms = []; code = code; searches = searches; why = why }

-- so many bytes with their marks and searches in front of a walk
abbrev pub after : ℕ → List Marked → ℕ → Ending → Ending
after n ms searches e = record { taken = n + e.taken; ms = ms ++ e.ms; code = e.code; searches = searches + e.searches; why = e.why }

-- whether the mark of a class fits the slots that are left
abbrev pub fits : ℕ → ℕ → Bool
fits slots class = (class == 0) || nat_lt 0 slots

-- the slots that are left after some marks
abbrev pub slots_after : ℕ → List Marked → ℕ
slots_after slots ms = slots - length ms

-- one of two, by a stride
abbrev pub by_stride : {X : Type 0} → Stride → X → X → X
by_stride One x y = x
by_stride Two x y = y

-- the last byte of a piece, by what the one-byte list decides: its mark fits, or the walk stops before it
abbrev pub last : ℕ → ℕ → StateCode → Option one.Decision → Ending
last slots place code None = stopped code 1 lacking
last slots place code (Some d) = cond (fits slots d.1) (after 1 (mark place d.1) 1 (stopped d.0 0 ended)) (stopped code 1 full)

-- the first of two bytes alone where the mark of the second has no slot, by what the one-byte list decides: the walk stops after it, or before it if it has a mark
abbrev pub alone : StateCode → Option one.Decision → Ending
alone code None = stopped code 2 lacking
alone code (Some d) = cond (d.1 == 0) (after 1 [] 2 (stopped d.0 0 full)) (stopped code 2 full)

-- a decision over two bytes: its mark fits and the walk goes on, or it does not and the first byte may be taken alone
abbrev pub going : ℕ → ℕ → StateCode → Option one.Decision → (StateCode → ℕ → Ending) → (StateCode → ℕ → Ending) → Decision → Ending
going slots place code first_alone one two d =
    cond (fits slots d.1)
    (by_stride d.2
    (after 1 (mark place d.1) 1 (one d.0 (slots_after slots (mark place d.1))))
    (after 2 (mark (place + 1) d.1) 1 (two d.0 (slots_after slots (mark (place + 1) d.1)))))
    (by_stride d.2 (stopped code 1 full) (alone code first_alone))

-- two bytes or more, by what the two-byte list decides
abbrev pub onward : ℕ → ℕ → StateCode → Option one.Decision → (StateCode → ℕ → Ending) → (StateCode → ℕ → Ending) → Option Decision → Ending
onward slots place code first_alone one two None = stopped code 1 lacking
onward slots place code first_alone one two (Some d) = going slots place code first_alone one two d

-- the walk over bytes from a code, the first byte standing at the given place, while marks fit the slots: a single byte is searched on the one-byte list, two or more on the two-byte list
abbrev pub walked : List Entry → List PairEntry → ℕ → ℕ → StateCode → List ℕ → Ending
walked es ds slots place code [] = stopped code 0 ended
walked es ds slots place code (b ∷ []) = last slots place code (one.first es code.0 b)
walked es ds slots place code (b ∷ c ∷ bs) =
    onward slots place code (one.first es code.0 b)
    (λ next left. walked es ds left (place + 1) next (c ∷ bs))
    (λ next left. walked es ds left (place + 2) next bs)
    (first ds code.0 b c)
