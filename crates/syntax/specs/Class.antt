-- Bracket classes. Assumes nothing.
use Rattle.std.specs.Prelude.{ℕ, zero, suc, Bool, true, false, cond, not, ◌&&◌, ◌||◌, List, [], ◌∷◌, Some, None, Option, ◌==◌, nat_le}
use Rattle.syntax.specs.declared.class.mode.Mode.{Mode}
use Rattle.syntax.specs.declared.class.mode.Mode.TheVariants.{Fresh, Inverted, Escape, Single, Range, RangeEscape, Item, Done, Broken}

-- a byte where an item may begin: 92 is the backslash, 94 is ^, 45 is -
abbrev pub item_mode : ℕ → Mode
item_mode b = cond (b == 92) Escape (cond (b == 94 || b == 45) Broken (Single b))

-- the end of a range, which must not fall
abbrev pub range_mode : ℕ → ℕ → Mode
range_mode low b = cond (nat_le low b) (Item low b) Broken

-- one byte more: 93 is the closing bracket
abbrev pub advanced : Mode → ℕ → Mode
advanced Fresh b = cond (b == 94) Inverted (cond (b == 93) Broken (item_mode b))
advanced Inverted b = cond (b == 93) Broken (item_mode b)
advanced Escape b = Single b
advanced (Single low) b = cond (b == 45) (Range low) (cond (b == 93) Done (item_mode b))
advanced (Range low) b = cond (b == 92) (RangeEscape low)
    (cond (b == 93 || (b == 94 || b == 45)) Broken (range_mode low b))
advanced (RangeEscape low) b = range_mode low b
advanced (Item low high) b = cond (b == 93) Done (item_mode b)
advanced Done b = Done
advanced Broken b = Broken

-- the closing bracket was read
abbrev pub is_done : Mode → Bool
is_done Fresh = false
is_done Inverted = false
is_done Escape = false
is_done (Single b) = false
is_done (Range low) = false
is_done (RangeEscape low) = false
is_done (Item low high) = false
is_done Done = true
is_done Broken = false

-- where the class ends, of which i bytes were read: after its closing bracket, if it has the
-- right form
abbrev pub close_at : Mode → ℕ → List ℕ → Option ℕ
close_at mode i [] = cond (is_done mode) (Some i) None
close_at mode i (b ∷ text) = cond (is_done mode) (Some i) (close_at (advanced mode b) (suc i) text)

-- the byte or the range that was just read has x
abbrev pub given : Mode → ℕ → Bool
given Fresh x = false
given Inverted x = false
given Escape x = false
given (Single b) x = x == b
given (Range low) x = false
given (RangeEscape low) x = false
given (Item low high) x = nat_le low x && nat_le x high
given Done x = false
given Broken x = false

-- x is one of the bytes or in one of the ranges of the text
abbrev pub listed : Mode → List ℕ → ℕ → Bool
listed mode [] x = false
listed mode (b ∷ text) x = given (advanced mode b) x || listed (advanced mode b) text x

-- a leading ^ means all other bytes
abbrev pub inverted : List ℕ → Bool
inverted [] = false
inverted (b ∷ text) = b == 94

-- the class, whose text stands between brackets, has the byte x
abbrev pub holds : List ℕ → ℕ → Bool
holds text x = cond (inverted text) (not (listed Fresh text x)) (listed Fresh text x)

-- some number below n passes the test
abbrev pub any : (ℕ → Bool) → ℕ → Bool
any test zero = false
any test (suc n) = test n || any test n

-- the class has a byte
unfoldable pub remains : List ℕ → Bool
remains text = any (holds text) 256
