-- Big-endian fields in a list of bytes, and the first of several faults. Assumes nothing.
use Rattle.std.specs.Prelude.{ℕ, ◌+◌, ◌-◌, ◌*◌, ◌/◌, ◌%◌, Bool, cond, List, [], ◌∷◌, ◌++◌, length, take, drop, Some, None, Option, ◌==◌, nat_le, slice_index}

-- the number in the two bytes at `at`
abbrev pub word : List ℕ → ℕ → ℕ
word bs at = slice_index bs at * 256 + slice_index bs (at + 1)

-- the number in the four bytes at `at`
abbrev pub long : List ℕ → ℕ → ℕ
long bs at = slice_index bs at * 16777216 + slice_index bs (at + 1) * 65536 + slice_index bs (at + 2) * 256 + slice_index bs (at + 3)

-- a number of two bytes, the high one first
abbrev pub be16 : ℕ → List ℕ
be16 n = n / 256 % 256 ∷ n % 256 ∷ []

-- a number of four bytes, the highest first
abbrev pub be32 : ℕ → List ℕ
be32 n = n / 16777216 % 256 ∷ n / 65536 % 256 ∷ n / 256 % 256 ∷ n % 256 ∷ []

-- a buffer with some values written over its places from `at` on
abbrev pub written : {X : Type 0} → List X → ℕ → List X → List X
written buffer at values = take at buffer ++ (values ++ drop (at + length values) buffer)

-- a field's rule: its offset, if the rule is broken
abbrev pub check : Bool → ℕ → Option ℕ
check ok at = cond ok None (Some at)

-- the first of two faults
abbrev pub or_else : Option ℕ → Option ℕ → Option ℕ
or_else None next = next
or_else (Some at) next = Some at

-- the first fault of a list of checks in file order
abbrev pub first_of : List (Option ℕ) → Option ℕ
first_of [] = None
first_of (f ∷ fs) = or_else f (first_of fs)

-- the first fault of items of one size that stand one after another from `at` on
abbrev pub each_fault : {X : Type 0} → (ℕ → X → Option ℕ) → ℕ → ℕ → List X → Option ℕ
each_fault fault step at [] = None
each_fault fault step at (x ∷ xs) = or_else (fault at x) (each_fault fault step (at + step) xs)

-- the first fault of a version, the length of the rest, and a rest of at least so many bytes: fewer bytes are refused at
-- their number, then another version than 1, then a length that is not that of the rest
abbrev pub frame_fault : ℕ → List ℕ → Option ℕ
frame_fault least bs = first_of (
    check (nat_le (5 + least) (length bs)) (length bs) ∷
    check (slice_index bs 0 == 1) 0 ∷
    check (long bs 1 == length bs - 5) 1 ∷ [])
