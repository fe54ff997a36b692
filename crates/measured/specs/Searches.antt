-- What the measured searches answer. Assumes nothing.
use Rattle.std.specs.Prelude.{ℕ, zero, suc, ◌+◌, ◌*◌, ◌%◌, ◌^◌, cond, List, fold, Some, None, Option, is_some}
use Rattle.ternary.specs.declared.entry.Entry.{Entry}
use Rattle.ternary.specs.Match.{Decision, first}
use Rattle.image.specs.Format.{decode}
use Rattle.image.specs.Rules.{fault}
use Rattle.measured.specs.declared.searches.Key.{Key}

-- the number for what a search found
abbrev pub found : Option Decision → ℕ
found None = 0
found (Some d) = 1 + 256 * d.0.0 + d.1

-- a sum with one search more
abbrev pub searched : List Entry → ℕ → Key → ℕ
searched es sum key = (sum * 31 % 2 ^ 64 + found (first es key.code key.byte)) % 2 ^ 64

-- a sum with a search for each key more
abbrev pub search_round : List Entry → List Key → ℕ → ℕ
search_round es keys sum = fold (searched es) sum keys

-- the sum over so many rounds
abbrev pub search_rounds : List Entry → List Key → ℕ → ℕ
search_rounds es keys zero = 0
search_rounds es keys (suc n) = search_round es keys (search_rounds es keys n)

-- what is answered: the sum over the entries of an image, and 0 of bytes that have a fault
abbrev pub search_answer : List ℕ → List Key → ℕ → ℕ
search_answer bytes keys n = cond (is_some (fault bytes)) 0 (search_rounds (decode bytes).entries keys n)
